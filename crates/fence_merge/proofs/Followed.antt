-- Merged steps follow the plan.
use Rattle.std.proofs.Common.{◌≡◌, ℕ, ◌+◌, Bool, true, false, List, [], ◌∷◌, ◌++◌, map, refl, sym, ap, ◌∙◌, subst}
use Rattle.std.proofs.lemmas.List.{append-nil, map-append}
use Rattle.std.specs.List.{AllByRecursion}
use Rattle.ev_graph.specs.declared.events.FenceKind.{FenceKind}
use Rattle.ev_graph.specs.declared.events.FenceKind.TheVariants as kinds
use Rattle.ev_graph.specs.declared.events.End.{End}
use Rattle.ev_graph.specs.declared.events.Item.{Item}
use Rattle.ev_graph.specs.declared.events.Item.TheVariants as items
use Rattle.behavior.specs.Tree.{Tree, Point, Cut, At, Path, cut, gives, begins, acts, Next, Goes, Stops, ◌then◌, ticks}
use Rattle.behavior.specs.Acts.{Permission, goes}
use Rattle.behavior.specs.Seen.{placed}
use Rattle.behavior.proofs.Lists.{all_append}
use Rattle.behavior.proofs.Makes.{AllMakes}
use Rattle.behavior.proofs.Paths.{path_cut, path_stop, path_then, Split, within, ended, beyond, split}
use Rattle.behavior.proofs.SeenLemmas.{placed-append}
use Rattle.behavior.proofs.Ticks.{Ticked, cut-within, behind, ticked}
use Rattle.x64_syntax.specs.declared.slots.Slot.{Slot}
use Rattle.x64_syntax.specs.declared.slots.SlotKind.{SlotKind}
use Rattle.limm_ir.specs.Costs.{step_cost, no_cost}
use Rattle.limm_ir.specs.Steps.{IrState, fence_of, ir_step, ir_steps}
use Rattle.limm_ir.specs.declared.step.IrFence.{IrFence}
use Rattle.limm_ir.specs.declared.step.IrFence.TheVariants.{Frm, Fww, Fsc}
use Rattle.limm_ir.specs.declared.step.IrStep.{IrStep}
use Rattle.fence_place.specs.Marked.{marked}
use Rattle.fence_plan.specs.Gaps.{gaps, fence_if}
use Rattle.fence_plan.specs.Planned.{barrier_item, given, first_given, later_gaps, IsFence}
use Rattle.fence_plan.specs.declared.gap.Gap.{Gap}
use Rattle.fence_merge.specs.Roles.{stations, unfenced}
use Rattle.fence_merge.specs.Merged.{first_steps, woven, merged}
use Rattle.fence_plan.specs.Dressed.{starts_with_locked_write}
use Rattle.fence_merge.specs.Follows.{IsAtState, FollowsPlanOf}
use Rattle.fence_merge.proofs.Barriers.{barriers_fences, given_fences, quiet_starts, turn_starts, Owed, quiet_owed, turn_owed, pays_owed}
use Rattle.fence_merge.proofs.Counted.{fence_list, gap_fences, as_steps, gap_steps-are}
use Rattle.fence_merge.proofs.Planned.{woven-slot, woven-other, kept-slot, kept-other}
use Rattle.fence_merge.proofs.Views.{IsQuiet, IsTurn, GoesOn, Turns, IsSlot, IsOther, View, a-slot, a-fence, a-other, view}

-- fences as barriers
abbrev pub as_barriers : List IrFence → List Item
as_barriers fs = map barrier_item (map fence_of fs)

barriers-if : (b : Bool) (f : IrFence) → map fence_of (fence_list b f) ≡ fence_if b (fence_of f)
barriers-if true f = refl
barriers-if false f = refl

-- what a gap gives, and its fences
given-are : (g : Gap) → as_barriers (gap_fences g) ≡ given g
given-are g =
    let one = fence_list g.frm Frm in
    let two = fence_list g.fww Fww in
    let three = fence_list g.fsc Fsc in
    ap (map barrier_item)
    (map-append fence_of one (two ++ three)
    ∙ ap (λ l. map fence_of one ++ l) (map-append fence_of two three)
    ∙ ap (λ l. l ++ (map fence_of two ++ map fence_of three)) (barriers-if g.frm Frm)
    ∙ ap (λ l. fence_if g.frm kinds.Frm ++ (l ++ map fence_of three)) (barriers-if g.fww Fww)
    ∙ ap (λ l. fence_if g.frm kinds.Frm ++ (fence_if g.fww kinds.Fww ++ l)) (barriers-if g.fsc Fsc))

-- all items of a path have what all items of its tree have
path_all : {R : Type 0} (P : Item → Type 0) {t : Tree R} {is : List Item} {p : Point R} {n : ℕ} → AllMakes P t → Path t is p n → AllByRecursion P is
path_all P all cut = tt
path_all P all gives = tt
path_all P all (begins path) = path_all P all path
path_all P all (acts {made = made} {items = is} v lt path) = all_append P (made v) is (all v lt).0 (path_all P (all v lt).1 path)

-- what a path through a slot has made
data Turned {S : Type 0} (private : Slot → Bool) : List Item → Point (Next S) → Type 0 where
  not-yet : {stop : Point (Next S)} → (IsAtState stop → ⊥) → Turned private [] stop
  turned : {is : List Item} {stop : Point (Next S)} → IsTurn private is → Turned private is stop

nothing_more : {S : Type 0} {t : Tree (Next S)} {is : List Item} {stop : Point (Next S)} {n : ℕ} → GoesOn t → Path t is stop n → is ≡ []
nothing_more goes cut = refl
nothing_more goes gives = refl
nothing_more goes (begins path) = absurd goes
nothing_more goes (acts v lt path) = absurd goes

path_turned : {S : Type 0} (private : Slot → Bool) {t : Tree (Next S)} {is : List Item} {stop : Point (Next S)} {n : ℕ} → Turns private t → Path t is stop n → Turned private is stop
path_turned private turns cut = not-yet (λ at. at)
path_turned private {stop = At (Goes s)} turns gives = absurd turns
path_turned private {stop = At (Stops end)} turns gives = not-yet (λ at. at)
path_turned private turns (begins path) = absurd turns
path_turned private {stop = stop} turns (acts {made = made} {items = is} v lt path) =
    let here = turns v lt in
    let same : made v ++ is ≡ made v = ap (λ l. made v ++ l) (nothing_more here.1 path) ∙ append-nil (made v) in
    subst (λ l. Turned private l stop) (sym same) (turned here.0)

-- As FollowsGaps, with what is owed at first; and no path begins amid a locked pair.
pub record Followed {S : Type 0} (private : Slot → Bool) (owed : List Item) (gs : List Gap) (source : Tree (Next S)) (made : List Item) (stop : Point (Next S)) : Type 0 where
  pub from : List Item
  pub begun : ℕ
  pub path : Path source from stop begun
  pub accesses : placed from ≡ placed made
  pub starts : starts_with_locked_write from ≡ false
  pub missing : List Item
  pub fences : AllByRecursion IsFence missing
  pub barriers : Owed private owed gs from made missing
  pub whole : IsAtState stop → missing ≡ []

module _ (private : List Slot) where
  abbrev Follow : (owed : List Item) → List Gap → Tree (Next IrState) → List Item → Point (Next IrState) → Type 0
  Follow = Followed (marked private)

  -- nothing is made, and nothing paid
  nothing : {owed : List Item} (gs : List Gap) {source : Tree (Next IrState)} {stop : Point (Next IrState)} {n : ℕ} → Path source [] stop n → AllByRecursion IsFence owed → (IsAtState stop → owed ≡ [])
      → Follow owed gs source [] stop
  nothing {owed} gs {n = n} path fences whole = record {
    from = [];
    begun = n;
    path = path;
    accesses = refl;
    starts = refl;
    missing = owed;
    fences = fences;
    barriers = append-nil owed;
    whole = whole;
  }

  -- a fence pays for one that is owed
  pays : (kind : FenceKind) {owed : List Item} {gs : List Gap} {source : Tree (Next IrState)} {made : List Item} {stop : Point (Next IrState)} → Follow owed gs source made stop
      → Follow (barrier_item kind ∷ owed) gs source (items.Fence (record { kind = kind; place = 0 }) ∷ made) stop
  pays kind {owed} {gs} {made = made} f = record {
    from = f.from;
    begun = f.begun;
    path = f.path;
    accesses = f.accesses;
    starts = f.starts;
    missing = f.missing;
    fences = f.fences;
    barriers = pays_owed (marked private) kind owed gs f.from made f.missing f.barriers;
    whole = f.whole;
  }

  joined : (is from made : List Item) → placed from ≡ placed made → placed (is ++ from) ≡ placed (is ++ made)
  joined is from made same = placed-append is from ∙ ap (λ l. placed is ++ l) same ∙ sym (placed-append is made)

  -- quiet items, and what follows
  quietly : (f : IrState → Tree (Next IrState)) {t : Tree (Next IrState)} {s : IrState} {is : List Item} {n : ℕ} → Path t is (At (Goes s)) n → AllByRecursion (IsQuiet (marked private)) is
      → {owed : List Item} {gs : List Gap} {made : List Item} {stop : Point (Next IrState)} → Follow owed gs (f s) made stop → Follow owed gs (t then f) (is ++ made) stop
  quietly f {is = is} {n = n} path quiet {owed} {gs} {made} rest = record {
    from = is ++ rest.from;
    begun = n + rest.begun;
    path = path_then f path rest.path;
    accesses = joined is rest.from made rest.accesses;
    starts = quiet_starts (marked private) is rest.from quiet rest.starts;
    missing = rest.missing;
    fences = rest.fences;
    barriers = quiet_owed (marked private) owed gs is rest.from made rest.missing quiet rest.barriers;
    whole = rest.whole;
  }

  -- quiet items, and nothing follows
  quiet_end : {t : Tree (Next IrState)} {stop : Point (Next IrState)} {is : List Item} {n : ℕ} → Path t is stop n → (IsAtState stop → ⊥) → AllByRecursion (IsQuiet (marked private)) is
      → {owed : List Item} (gs : List Gap) → AllByRecursion IsFence owed → Follow owed gs t is stop
  quiet_end {is = is} {n = n} path never quiet {owed} gs fences = record {
    from = is;
    begun = n;
    path = path;
    accesses = refl;
    starts = ap starts_with_locked_write (sym (append-nil is)) ∙ quiet_starts (marked private) is [] quiet refl;
    missing = owed;
    fences = fences;
    barriers = subst (λ l. Owed (marked private) owed gs l l owed) (append-nil is) (quiet_owed (marked private) owed gs is [] [] owed quiet (append-nil owed));
    whole = λ at. absurd (never at);
  }

  -- a slot, and what follows
  in_turn : (f : IrState → Tree (Next IrState)) {t : Tree (Next IrState)} {s : IrState} {is : List Item} {n : ℕ} → Path t is (At (Goes s)) n → IsTurn (marked private) is
      → {gs : List Gap} {made : List Item} {stop : Point (Next IrState)} → Follow (first_given gs) (later_gaps gs) (f s) made stop → Follow [] gs (t then f) (is ++ made) stop
  in_turn f {is = is} {n = n} path turn {gs} {made} rest = record {
    from = is ++ rest.from;
    begun = n + rest.begun;
    path = path_then f path rest.path;
    accesses = joined is rest.from made rest.accesses;
    starts = turn_starts (marked private) turn rest.from;
    missing = rest.missing;
    fences = rest.fences;
    barriers = turn_owed (marked private) gs rest.from made rest.missing turn rest.starts rest.barriers;
    whole = rest.whole;
  }

  turn_end : {t : Tree (Next IrState)} {stop : Point (Next IrState)} {is : List Item} {n : ℕ} → Path t is stop n → (IsAtState stop → ⊥) → IsTurn (marked private) is → (gs : List Gap)
      → Follow [] gs t is stop
  turn_end {is = is} {n = n} path never turn gs = record {
    from = is;
    begun = n;
    path = path;
    accesses = refl;
    starts = ap starts_with_locked_write (sym (append-nil is)) ∙ turn_starts (marked private) turn [];
    missing = first_given gs;
    fences = given_fences gs;
    barriers = subst (λ l. Owed (marked private) [] gs l l (first_given gs)) (append-nil is)
        (turn_owed (marked private) gs [] [] (first_given gs) turn refl (append-nil (first_given gs)));
    whole = λ at. absurd (never at);
  }

  -- items under another name
  made_at : {owed : List Item} {gs : List Gap} {source : Tree (Next IrState)} {stop : Point (Next IrState)} (xs ys : List Item) → xs ≡ ys
      → Follow owed gs source xs stop → Follow owed gs source ys stop
  made_at {owed} {gs} {source} {stop} xs ys same f = subst (λ l. Follow owed gs source l stop) same f

  module _ (may : Permission) where
    -- what follows of all paths of these steps
    abbrev Follows : (owed : List Item) → List Gap → (source : Tree (Next IrState)) → List IrStep → IrState → Type 0
    Follows owed gs source ys s = (made : List Item) (stop : Point (Next IrState)) (n : ℕ) → Path (ir_steps step_cost may ys s) made stop n → Follow owed gs source made stop

    -- fences in front pay one by one
    pay_all : (fs : List IrFence) (owed : List Item) (gs : List Gap) (source : Tree (Next IrState)) (ys : List IrStep) (s : IrState) → AllByRecursion IsFence owed
        → Follows owed gs source ys s → Follows (as_barriers fs ++ owed) gs source (as_steps fs ++ ys) s
    pay_all [] owed gs source ys s fences rest = rest
    pay_all (f ∷ fs) owed gs source ys s fences rest = λ made stop n path. by (pay_all fs owed gs source ys s fences rest) path
      where
        all : List Item
        all = as_barriers (f ∷ fs) ++ owed

        unpaid : AllByRecursion IsFence all
        unpaid = all_append IsFence (as_barriers (f ∷ fs)) owed (barriers_fences (map fence_of (f ∷ fs))) fences

        by : Follows (as_barriers fs ++ owed) gs source (as_steps fs ++ ys) s
            → {made : List Item} {stop : Point (Next IrState)} {n : ℕ} → Path (ir_steps step_cost may (as_steps (f ∷ fs) ++ ys) s) made stop n → Follow all gs source made stop
        by later cut = nothing gs cut unpaid (λ at. absurd at)
        by later (begins cut) = nothing gs cut unpaid (λ at. absurd at)
        by later (begins (acts {items = made} {p = stop} {n = n} v lt path)) = pays (fence_of f) (later made stop n path)

    -- those of the first gap
    pay_gap : (gs : List Gap) (source : Tree (Next IrState)) (ys : List IrStep) (s : IrState) → Follows [] (later_gaps gs) source ys s
        → Follows (first_given gs) (later_gaps gs) source (first_steps gs ++ ys) s
    pay_gap [] source ys s rest = rest
    pay_gap (g ∷ gs) source ys s rest = λ made stop n path.
        subst (λ d. Follow d gs source made stop) (append-nil (as_barriers (gap_fences g)) ∙ given-are g)
        (pay_all (gap_fences g) [] gs source ys s tt rest made stop n (subst (λ l. Path (ir_steps step_cost may (l ++ ys) s) made stop n) (gap_steps-are g) path))

    -- a step of the source and the steps behind it
    abbrev Source : IrStep → List IrStep → IrState → Tree (Next IrState)
    Source x xs s = ir_step may x s then ir_steps no_cost may xs

    -- the steps behind a step follow the gaps that are left, from each state
    abbrev Behind : List Gap → (xs ys : List IrStep) → Type 0
    Behind gs xs ys = (t : IrState) → Follows (first_given gs) (later_gaps gs) (ir_steps no_cost may xs t) ys t

    -- a quiet step in front
    module _ (x : IrStep) (is : IsOther private x) (gs : List Gap) (xs ys : List IrStep) (s : IrState) (rest : Behind gs xs ys) where
      abbrev Quietly : List Item → Point (Next IrState) → Type 0
      Quietly = Follow (first_given gs) (later_gaps gs) (Source x xs s)

      all_quiet : {items : List Item} {stop : Point (Next IrState)} {n : ℕ} → Path (ir_step may x s) items stop n → AllByRecursion (IsQuiet (marked private)) items
      all_quiet path = path_all (IsQuiet (marked private)) (is.quiet may s) path

      quiet_cut : {made : List Item} {n : ℕ} → Ticked (step_cost x) (ir_step may x s) made Cut n → Quietly made Cut
      quiet_cut cut-within = nothing (later_gaps gs) cut (given_fences gs) (λ at. absurd at)
      quiet_cut (behind path same) = quiet_end (path_cut (ir_steps no_cost may xs) path) (λ at. at) (all_quiet path) (later_gaps gs) (given_fences gs)

      quiet_stop : {end : End} {made : List Item} {n : ℕ} → Ticked (step_cost x) (ir_step may x s) made (At (Stops end)) n → Quietly made (At (Stops end))
      quiet_stop (behind path same) = quiet_end (path_stop (ir_steps no_cost may xs) path) (λ at. at) (all_quiet path) (later_gaps gs) (given_fences gs)

      quiet_on : {t : IrState} {items more all : List Item} {stop : Point (Next IrState)} {n m : ℕ} → Ticked (step_cost x) (ir_step may x s) items (At (Goes t)) n
          → Path (ir_steps step_cost may ys t) more stop m → all ≡ items ++ more → Quietly all stop
      quiet_on {t} {items} {more} {all} {stop} {m = m} (behind path same) later same_items =
          made_at (items ++ more) all (sym same_items) (quietly (ir_steps no_cost may xs) path (all_quiet path) (rest t more stop m later))

      quiet_split : {made : List Item} {stop : Point (Next IrState)} {n : ℕ} → Split (ticks (step_cost x) (ir_step may x s)) (ir_steps step_cost may ys) made stop n → Quietly made stop
      quiet_split (within path) = quiet_cut (ticked (step_cost x) (ir_step may x s) path)
      quiet_split (ended path) = quiet_stop (ticked (step_cost x) (ir_step may x s) path)
      quiet_split (beyond path more same_items same_count) = quiet_on (ticked (step_cost x) (ir_step may x s) path) more same_items

      quiet_step : Follows (first_given gs) (later_gaps gs) (Source x xs s) (x ∷ ys) s
      quiet_step made stop n path = quiet_split (split (ticks (step_cost x) (ir_step may x s)) (ir_steps step_cost may ys) path)

    -- a slot in front, with the gaps behind it
    module _ (x : IrStep) {kind : SlotKind} (is : IsSlot private x kind) (gs : List Gap) (xs ys : List IrStep) (s : IrState) (rest : Behind gs xs ys) where
      abbrev InTurn : List Item → Point (Next IrState) → Type 0
      InTurn = Follow [] gs (Source x xs s)

      ends_turn : {made : List Item} {stop : Point (Next IrState)} {n : ℕ} → Path (Source x xs s) made stop n → (IsAtState stop → ⊥) → Turned (marked private) made stop → InTurn made stop
      ends_turn path never (not-yet none) = nothing gs path tt (λ at. refl)
      ends_turn path never (turned turn) = turn_end path never turn gs

      turn_cut : {made : List Item} {n : ℕ} → Ticked (step_cost x) (ir_step may x s) made Cut n → InTurn made Cut
      turn_cut cut-within = nothing gs cut tt (λ at. refl)
      turn_cut (behind path same) = ends_turn (path_cut (ir_steps no_cost may xs) path) (λ at. at) (path_turned (marked private) (is.turns may s) path)

      turn_stop : {end : End} {made : List Item} {n : ℕ} → Ticked (step_cost x) (ir_step may x s) made (At (Stops end)) n → InTurn made (At (Stops end))
      turn_stop (behind path same) = ends_turn (path_stop (ir_steps no_cost may xs) path) (λ at. at) (path_turned (marked private) (is.turns may s) path)

      goes_turn : {t : IrState} {items more all : List Item} {stop : Point (Next IrState)} {n m : ℕ} → Path (ir_step may x s) items (At (Goes t)) n → Turned (marked private) items (At (Goes t))
          → Path (ir_steps step_cost may ys t) more stop m → all ≡ items ++ more → InTurn all stop
      goes_turn path (not-yet none) later same_items = absurd (none tt)
      goes_turn {t} {items} {more} {all} {stop} {m = m} path (turned turn) later same_items =
          made_at (items ++ more) all (sym same_items) (in_turn (ir_steps no_cost may xs) path turn (rest t more stop m later))

      turn_on : {t : IrState} {items more all : List Item} {stop : Point (Next IrState)} {n m : ℕ} → Ticked (step_cost x) (ir_step may x s) items (At (Goes t)) n
          → Path (ir_steps step_cost may ys t) more stop m → all ≡ items ++ more → InTurn all stop
      turn_on (behind path same) later same_items = goes_turn path (path_turned (marked private) (is.turns may s) path) later same_items

      turn_split : {made : List Item} {stop : Point (Next IrState)} {n : ℕ} → Split (ticks (step_cost x) (ir_step may x s)) (ir_steps step_cost may ys) made stop n → InTurn made stop
      turn_split (within path) = turn_cut (ticked (step_cost x) (ir_step may x s) path)
      turn_split (ended path) = turn_stop (ticked (step_cost x) (ir_step may x s) path)
      turn_split (beyond path more same_items same_count) = turn_on (ticked (step_cost x) (ir_step may x s) path) more same_items

      turn_step : Follows [] gs (Source x xs s) (x ∷ ys) s
      turn_step made stop n path = turn_split (split (ticks (step_cost x) (ir_step may x s)) (ir_steps step_cost may ys) path)

    -- nothing stands behind the last gap
    last_gap : (gs : List Gap) (s : IrState) → Follows [] gs (goes s) [] s
    last_gap gs s made stop n path = by path
      where
        by : {made : List Item} {stop : Point (Next IrState)} {n : ℕ} → Path (goes s) made stop n → Follow [] gs (goes s) made stop
        by cut = nothing gs cut tt (λ at. refl)
        by gives = nothing gs gives tt (λ at. refl)

    -- merged steps follow whatever gaps are woven in
    woven_follow : (xs : List IrStep) (gs : List Gap) (s : IrState) → Follows (first_given gs) (later_gaps gs) (ir_steps no_cost may (unfenced xs) s) (woven private xs gs) s
    woven_follow [] gs s made stop n path =
        pay_gap gs (goes s) [] s (last_gap (later_gaps gs) s) made stop n (subst (λ l. Path (ir_steps step_cost may l s) made stop n) (sym (append-nil (first_steps gs))) path)
    woven_follow (x ∷ xs) gs s made stop n path = by (view private x) (λ gs t. woven_follow xs gs t) path
      where
        by : {x : IrStep} → View private x
            → ((gs : List Gap) (t : IrState) → Follows (first_given gs) (later_gaps gs) (ir_steps no_cost may (unfenced xs) t) (woven private xs gs) t)
            → Path (ir_steps step_cost may (woven private (x ∷ xs) gs) s) made stop n → Follow (first_given gs) (later_gaps gs) (ir_steps no_cost may (unfenced (x ∷ xs)) s) made stop
        by (a-slot {x = x} is) rest path =
            subst (λ l. Follow (first_given gs) (later_gaps gs) (ir_steps no_cost may l s) made stop) (sym (kept-slot private is xs))
            (pay_gap gs (Source x (unfenced xs) s) (x ∷ woven private xs (later_gaps gs)) s
            (turn_step x is (later_gaps gs) (unfenced xs) (woven private xs (later_gaps gs)) s (rest (later_gaps gs))) made stop n
            (subst (λ l. Path (ir_steps step_cost may l s) made stop n) (woven-slot private is xs gs) path))
        by a-fence rest path = rest gs s made stop n path
        by (a-other {x = x} is) rest path =
            subst (λ l. Follow (first_given gs) (later_gaps gs) (ir_steps no_cost may l s) made stop) (sym (kept-other private is xs))
            (quiet_step x is gs (unfenced xs) (woven private xs gs) s (rest gs) made stop n
            (subst (λ l. Path (ir_steps step_cost may l s) made stop n) (woven-other private is xs gs) path))

  -- so merged steps follow the plan
  pub steps_follow : (xs ys : List IrStep) → ys ≡ merged private xs → FollowsPlanOf private xs ys
  steps_follow xs ys same may s made stop n path =
      let f = woven_follow may xs (gaps (stations private xs)) s made stop n (subst (λ l. Path (ir_steps step_cost may l s) made stop n) same path) in record {
        from = f.from;
        begun = f.begun;
        path = f.path;
        accesses = f.accesses;
        missing = f.missing;
        fences = f.fences;
        barriers = f.barriers;
        whole = f.whole;
      }
