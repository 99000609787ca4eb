-- Runs with planned fences are guarded, where the machine realizes the plan.
use Rattle.std.proofs.Common.{◌≡◌, ◌⊎◌, inl, inr, ℕ, Bool, true, false, not, ◌||◌, ◌&&◌, List, [], ◌∷◌, ◌++◌, Option, Some, None, refl, sym, ap, ◌∙◌, subst}
use Rattle.std.specs.Prelude.{if◌then◌else◌}
use Rattle.std.proofs.lemmas.List.{append_assoc}
use Rattle.ev_graph.specs.declared.events.Access.{Access}
use Rattle.ev_graph.specs.declared.events.AccessKind.{AccessKind}
use Rattle.ev_graph.specs.declared.events.AccessKind.TheVariants as access
use Rattle.ev_graph.specs.declared.events.End.{End}
use Rattle.ev_graph.specs.declared.events.FenceItem.{FenceItem}
use Rattle.ev_graph.specs.declared.events.FenceKind.TheVariants.{Mfence}
use Rattle.ev_graph.specs.declared.events.Item.{Item}
use Rattle.ev_graph.specs.declared.events.Item.TheVariants as items
use Rattle.behavior.specs.Tree.{Tree, Gives, Begins, Acts, Point, Cut, At, Path, cut, gives, begins, acts, Next, Goes, Stops}
use Rattle.behavior.specs.Run.{Run, cuts, stops, goes_on}
use Rattle.x64_syntax.specs.declared.slots.Slot.{Slot}
use Rattle.x64_syntax.specs.declared.slots.SlotKind.{SlotKind}
use Rattle.x64_syntax.specs.declared.slots.SlotKind.TheVariants.{Read, Write, Locked}
use Rattle.fence_plan.specs.declared.gap.Gap.{Gap}
use Rattle.fence_plan.specs.Private.{is_private, slot_kind, has_shared}
use Rattle.fence_plan.specs.Gaps.{Station, Shared, Strong, gaps, gaps_from}
use Rattle.fence_plan.specs.Planned.{given, first_given, later_gaps, Planning, with_gaps, planned_from, planned_step, before_blocks}
use Rattle.fence_plan.specs.Guards.{Open, open_at_start, behind_fence, behind_access, MayCome, HasBarrier, OfAccess, Guards}
use Rattle.fence_plan.specs.Realized.{IsAct, silent, input, output, hidden, shared, read, pair, strong, StandsOn, Realizes, RealizesPlan}
use Rattle.fence_plan.proofs.GapLemmas.{current, later, gaps_parts, current_closes, before_write, before_locked, strong_current, behind_gap, given_guards, Closes, closes_begin, closes_all, closes_reads}

-- A run stands in a gap of a block: these stations are still to come, and these gaps to begin; the gap has given its fences.
pub record Inside (ss : List Station) (gs : List Gap) (o : Open) : Type 0 where
  pub before : Option SlotKind
  pub fenced : Bool
  pub gaps_are : gs ≡ later before fenced ss
  pub closes : Closes (current before fenced ss) o

module _ (private : Slot → Bool) where
  -- whether an access is private
  abbrev is : Access → Bool
  is a = is_private private a

  -- what an act leads to: what is open behind it and the fences that it begins
  record Acted (items : List Item) (rest : List Station) (gs : List Gap) (o : Open) : Type 0 where
    behind : Open
    inside : Inside rest (if has_shared private items then later_gaps gs else gs) behind
    guards : (more : List Item) → Guards is behind more → Guards is o ((if has_shared private items then items ++ first_given gs else items) ++ more)

  quiet_act : (i : Item) (ss : List Station) (gs : List Gap) (o : Open) → has_shared private (i ∷ []) ≡ false → ((more : List Item) → Guards is o more → Guards is o (i ∷ more)) → Inside ss gs o → Acted (i ∷ []) ss gs o
  quiet_act i ss gs o none guards inside = record {
    behind = o;
    inside = subst (λ b. Inside ss (if b then later_gaps gs else gs) o) (sym none) inside;
    guards = λ more rest. subst (λ b. Guards is o ((if b then (i ∷ []) ++ first_given gs else i ∷ []) ++ more)) (sym none) (guards more rest);
  }

  -- a private access
  hidden_act : (a : Access) (ss : List Station) (gs : List Gap) (o : Open) → is a ≡ true → Inside ss gs o → Acted (items.Access a ∷ []) ss gs o
  hidden_act a ss gs o private_one inside =
      let none : has_shared private (items.Access a ∷ []) ≡ false = ap (λ b. not b || false) private_one in
      record {
        behind = record o { half = false };
        inside = subst (λ b. Inside ss (if b then later_gaps gs else gs) (record o { half = false })) (sym none) (record {
          before = inside.before;
          fenced = inside.fenced;
          gaps_are = inside.gaps_are;
          closes = record { locked = inside.closes.locked; reads = inside.closes.reads; writes = inside.closes.writes; all = inside.closes.all };
        });
        guards = λ more rest. subst (λ b. Guards is o ((if b then (items.Access a ∷ []) ++ first_given gs else items.Access a ∷ []) ++ more)) (sym none)
            (subst (λ b. OfAccess b (Guards is (record o { half = false }) more) (MayCome a.locked a.kind o × Guards is (behind_access a.locked a.kind) more)) (sym private_one) rest);
      }

  -- behind an access of a slot the next gap has given its fences
  next_gap : (k : SlotKind) (ss : List Station) (o : Open) → Closes (current (Some k) false ss) (behind_gap (current (Some k) false ss) o)
      → Inside ss (later_gaps (gaps_from (Some k) false ss)) (behind_gap (current (Some k) false ss) o)
  next_gap k ss o closes = record {
    before = Some k;
    fenced = false;
    gaps_are = ap later_gaps (gaps_parts (Some k) false ss);
    closes = closes;
  }

  next_given : (k : SlotKind) (ss : List Station) → first_given (gaps_from (Some k) false ss) ≡ given (current (Some k) false ss)
  next_given k ss = ap first_given (gaps_parts (Some k) false ss)

  -- items that count, and then the fences of the next gap
  shared_act : (xs : List Item) (k : SlotKind) (ss : List Station) (gs : List Gap) (o behind : Open) → has_shared private xs ≡ true → gs ≡ gaps_from (Some k) false ss
      → Closes (current (Some k) false ss) (behind_gap (current (Some k) false ss) behind)
      → ((more : List Item) → Guards is behind more → Guards is o (xs ++ more)) → Acted xs ss gs o
  shared_act xs k ss gs o behind some are closes guards = record {
    behind = behind_gap (current (Some k) false ss) behind;
    inside = subst (λ b. Inside ss (if b then later_gaps gs else gs) (behind_gap (current (Some k) false ss) behind)) (sym some)
        (subst (λ l. Inside ss (later_gaps l) (behind_gap (current (Some k) false ss) behind)) (sym are) (next_gap k ss behind closes));
    guards = λ more rest. subst (λ b. Guards is o ((if b then xs ++ first_given gs else xs) ++ more)) (sym some)
        (subst (λ l. Guards is o l) (sym (append_assoc xs (first_given gs) more))
        (guards (first_given gs ++ more) (subst (λ l. Guards is behind (l ++ more)) (sym (ap first_given are ∙ next_given k ss)) (given_guards is (current (Some k) false ss) behind more rest))));
  }

  -- one shared access
  access_guards : (a : Access) (o : Open) → is a ≡ false → MayCome a.locked a.kind o → (more : List Item) → Guards is (behind_access a.locked a.kind) more → Guards is o (items.Access a ∷ more)
  access_guards a o none may more rest =
      subst (λ b. OfAccess b (Guards is (record o { half = false }) more) (MayCome a.locked a.kind o × Guards is (behind_access a.locked a.kind) more)) (sym none) (may, rest)

  some_shared : (a : Access) → is a ≡ false → has_shared private (items.Access a ∷ []) ≡ true
  some_shared a none = ap (λ b. not b || false) none

  write_closed : (before : Option SlotKind) (fenced : Bool) (ss : List Station) (o : Open) → Closes (current before fenced (Shared Write ∷ ss)) o → o.writes ≡ false
  write_closed before fenced ss o closes = by (before_write before fenced)
    where
      by : ((current before fenced (Shared Write ∷ ss)).fww ≡ true) ⊎ ((current before fenced (Shared Write ∷ ss)).fsc ≡ true) → o.writes ≡ false
      by (inl stores) = closes.writes stores
      by (inr full) = (closes.all full).1

  closes_kind : (kind : AccessKind) (ss : List Station) → Closes (current (Some (slot_kind kind)) false ss) (behind_gap (current (Some (slot_kind kind)) false ss) (behind_access false kind))
  closes_kind access.Read ss = by (current_closes Read false ss)
    where
      by : ((current (Some Read) false ss).frm ≡ true) ⊎ ((current (Some Read) false ss).fsc ≡ true) → Closes (current (Some Read) false ss) (behind_gap (current (Some Read) false ss) (behind_access false access.Read))
      by (inl load) = closes_reads (current (Some Read) false ss) (behind_access false access.Read) load refl
      by (inr full) = closes_all (current (Some Read) false ss) (behind_access false access.Read) full
  closes_kind access.Write ss = closes_begin (current (Some Write) false ss) (behind_access false access.Write) refl refl

  may_kind : (kind : AccessKind) (before : Option SlotKind) (fenced : Bool) (ss : List Station) (o : Open) → Closes (current before fenced (Shared (slot_kind kind) ∷ ss)) o → MayCome false kind o
  may_kind access.Read before fenced ss o closes = (closes.locked, closes.reads)
  may_kind access.Write before fenced ss o closes = (closes.locked, closes.reads, write_closed before fenced ss o closes)

  plain_act : (a : Access) (ss : List Station) (gs : List Gap) (o : Open) → is a ≡ false → a.locked ≡ false → Inside (Shared (slot_kind a.kind) ∷ ss) gs o → Acted (items.Access a ∷ []) ss gs o
  plain_act a ss gs o none unlocked inside =
      shared_act (items.Access a ∷ []) (slot_kind a.kind) ss gs o (behind_access a.locked a.kind) (some_shared a none) inside.gaps_are
      (subst (λ b. Closes (current (Some (slot_kind a.kind)) false ss) (behind_gap (current (Some (slot_kind a.kind)) false ss) (behind_access b a.kind))) (sym unlocked) (closes_kind a.kind ss))
      (access_guards a o none (subst (λ b. MayCome b a.kind o) (sym unlocked) (may_kind a.kind inside.before inside.fenced ss o inside.closes)))

  not_private : (a : Access) → a.locked ≡ true → is a ≡ false
  not_private a locked = ap (λ b. not b && private (record { address = a.place; kind = slot_kind a.kind })) locked

  locked_closes : (ss : List Station) (o : Open) → Closes (current (Some Locked) false ss) (behind_gap (current (Some Locked) false ss) o)
  locked_closes ss o = closes_all (current (Some Locked) false ss) o (current_closes Locked false ss)

  all_closed : (ss : List Station) (gs : List Gap) (o : Open) → Inside (Shared Locked ∷ ss) gs o → o.all ≡ false
  all_closed ss gs o inside = (inside.closes.all (before_locked inside.before inside.fenced)).0

  read_may : (a : Access) (o : Open) → a.locked ≡ true → a.kind ≡ access.Read → o.all ≡ false → MayCome a.locked a.kind o
  read_may a o locked kind closed = subst (λ b. MayCome b a.kind o) (sym locked) (subst (λ k. MayCome true k o) (sym kind) closed)

  read_act : (a : Access) (ss : List Station) (gs : List Gap) (o : Open) → a.locked ≡ true → a.kind ≡ access.Read → Inside (Shared Locked ∷ ss) gs o → Acted (items.Access a ∷ []) ss gs o
  read_act a ss gs o locked kind inside =
      shared_act (items.Access a ∷ []) Locked ss gs o (behind_access a.locked a.kind) (some_shared a (not_private a locked)) inside.gaps_are (locked_closes ss (behind_access a.locked a.kind))
      (access_guards a o (not_private a locked) (read_may a o locked kind (all_closed ss gs o inside)))

  half_open : (a : Access) → a.locked ≡ true → a.kind ≡ access.Read → (behind_access a.locked a.kind).half ≡ true
  half_open a locked kind = subst (λ b. (behind_access b a.kind).half ≡ true) (sym locked) (subst (λ k. (behind_access true k).half ≡ true) (sym kind) refl)

  pair_act : (a b : Access) (ss : List Station) (gs : List Gap) (o : Open) → a.locked ≡ true → a.kind ≡ access.Read → b.locked ≡ true → b.kind ≡ access.Write
      → Inside (Shared Locked ∷ ss) gs o → Acted (items.Access a ∷ items.Access b ∷ []) ss gs o
  pair_act a b ss gs o locked kind other_locked other inside =
      shared_act (items.Access a ∷ items.Access b ∷ []) Locked ss gs o (behind_access b.locked b.kind)
      (ap (λ c. not c || has_shared private (items.Access b ∷ [])) (not_private a locked)) inside.gaps_are (locked_closes ss (behind_access b.locked b.kind))
      (λ more rest. access_guards a o (not_private a locked) (read_may a o locked kind (all_closed ss gs o inside)) (items.Access b ∷ more)
      (access_guards b (behind_access a.locked a.kind) (not_private b other_locked)
      (subst (λ l. MayCome l b.kind (behind_access a.locked a.kind)) (sym other_locked) (subst (λ k. MayCome true k (behind_access a.locked a.kind)) (sym other) (inl (half_open a locked kind)))) more rest))

  strong_act : (f : FenceItem) (ss : List Station) (gs : List Gap) (o : Open) → f.kind ≡ Mfence → Inside (Strong ∷ ss) gs o → Acted (items.Fence f ∷ []) ss gs o
  strong_act f ss gs o kind inside = record {
    behind = behind_fence f.kind o;
    inside = subst (λ k. Inside ss gs (behind_fence k o)) (sym kind) (record {
      before = inside.before;
      fenced = true;
      gaps_are = inside.gaps_are;
      closes = record { locked = inside.closes.locked; reads = inside.closes.reads; writes = inside.closes.writes; all = inside.closes.all };
    });
    guards = λ more rest. (subst (λ k. HasBarrier k o) (sym kind) (inside.closes.all (strong_current inside.before ss)).0, rest);
  }

  acted : {xs : List Item} {ss rest : List Station} → IsAct private xs ss rest → (gs : List Gap) (o : Open) → Inside ss gs o → Acted xs rest gs o
  acted silent gs o inside = record { behind = o; inside = inside; guards = λ more rest. rest }
  acted {ss = ss} (input {t = t}) gs o inside = quiet_act (items.Input t) ss gs o refl (λ more rest. rest) inside
  acted {ss = ss} (output {t = t}) gs o inside = quiet_act (items.Output t) ss gs o refl (λ more rest. rest) inside
  acted {ss = ss} (hidden {a = a} private_one) gs o inside = hidden_act a ss gs o private_one inside
  acted (shared {a = a} {ss = ss} none unlocked) gs o inside = plain_act a ss gs o none unlocked inside
  acted (read {a = a} {ss = ss} locked kind) gs o inside = read_act a ss gs o locked kind inside
  acted (pair {a = a} {b = b} {ss = ss} locked kind other_locked other) gs o inside = pair_act a b ss gs o locked kind other_locked other inside
  acted (strong {f = f} {ss = ss} kind) gs o inside = strong_act f ss gs o kind inside

  -- ---- paths and runs

  module _ {S : Type 0} (plan : S → Option (List Gap)) (Stands : S → List Station → Type 0) where
    -- what is known where a step has come to a state
    record Reaches (o : Open) (xs : List Item) (p : Planning S) : Type 0 where
      ss : List Station
      stands : StandsOn plan Stands p.state ss
      behind : Open
      inside : Inside ss p.gaps behind
      guards : (more : List Item) → Guards is behind more → Guards is o (xs ++ more)

    abbrev Ahead : Open → List Item → Point (Next (Planning S)) → Type 0
    Ahead o xs Cut = Guards is o xs
    Ahead o xs (At (Stops end)) = Guards is o xs
    Ahead o xs (At (Goes p)) = Reaches o xs p

    ahead_act : (o : Open) (xs : List Item) (behind : Open) (ys : List Item) (q : Point (Next (Planning S))) → ((more : List Item) → Guards is behind more → Guards is o (xs ++ more)) → Ahead behind ys q → Ahead o (xs ++ ys) q
    ahead_act o xs behind ys Cut guards rest = guards ys rest
    ahead_act o xs behind ys (At (Stops end)) guards rest = guards ys rest
    ahead_act o xs behind ys (At (Goes p)) guards rest = record {
      ss = rest.ss;
      stands = rest.stands;
      behind = rest.behind;
      inside = rest.inside;
      guards = λ more later. subst (λ l. Guards is o l) (sym (append_assoc xs ys more)) (guards (ys ++ more) (rest.guards more later));
    }

    path_ahead : (t : Tree (Next S)) (ss : List Station) (gs : List Gap) (o : Open) → Realizes private plan Stands ss t → Inside ss gs o
        → {xs : List Item} {q : Point (Next (Planning S))} {n : ℕ} → Path (with_gaps private gs t) xs q n → Ahead o xs q
    path_ahead (Gives (Goes s)) ss gs o realizes inside cut = tt
    path_ahead (Gives (Goes s)) ss gs o realizes inside gives = record { ss = ss; stands = realizes; behind = o; inside = inside; guards = λ more rest. rest }
    path_ahead (Gives (Stops end)) ss gs o realizes inside cut = tt
    path_ahead (Gives (Stops end)) ss gs o realizes inside gives = tt
    path_ahead (Begins t) ss gs o realizes inside cut = tt
    path_ahead (Begins t) ss gs o realizes inside (begins path) = path_ahead t ss gs o realizes inside path
    path_ahead (Acts range made next) ss gs o realizes inside cut = tt
    path_ahead (Acts range made next) ss gs o realizes inside (acts {items = ys} {p = q} v lt path) =
        let one = realizes v lt in
        let act = acted one.1 gs o inside in
        ahead_act o (if has_shared private (made v) then made v ++ first_given gs else made v) act.behind ys q act.guards
        (path_ahead (next v) one.0 (if has_shared private (made v) then later_gaps gs else gs) act.behind one.2 act.inside path)

    -- a run may go on: within a block, or where one begins and neither reads nor locked accesses are open
    abbrev Ready : Planning S → Open → Type 0
    Ready p o =
        ((ss : List Station) × (plan p.state ≡ None) × Stands p.state ss × Inside ss p.gaps o)
        ⊎ ((next : List Station) × (plan p.state ≡ Some (gaps next)) × Stands p.state next × (o.locked ≡ false) × (o.reads ≡ false))

    ready : (p : Planning S) (ss : List Station) (o : Open) → StandsOn plan Stands p.state ss → Inside ss p.gaps o → Ready p o
    ready p ss o (inl (none, stands)) inside = inl (ss, none, stands, inside)
    ready p ss o (inr (next, leads, stands)) inside = inr (next, leads, stands, inside.closes.locked, inside.closes.reads)

    module _ (step : S → Tree (Next S)) (realizes : RealizesPlan private plan Stands step) where
      begin_inside : (next : List Station) (o : Open) → o.locked ≡ false → o.reads ≡ false → Inside next (later_gaps (gaps next)) (behind_gap (current None false next) o)
      begin_inside next o locked reads = record {
        before = None;
        fenced = false;
        gaps_are = ap later_gaps (gaps_parts None false next);
        closes = closes_begin (current None false next) o locked reads;
      }

      begin_ahead : (s : S) (next : List Station) (gs : List Gap) (o : Open) → Stands s next → o.locked ≡ false → o.reads ≡ false
          → {xs : List Item} {q : Point (Next (Planning S))} {n : ℕ} → Path (planned_from private (Some (gaps next)) gs (step s)) xs q n → Ahead o xs q
      begin_ahead s next gs o stands locked reads cut = tt
      begin_ahead s next gs o stands locked reads (acts {items = ys} {p = q} v lt path) =
          ahead_act o (first_given (gaps next)) (behind_gap (current None false next) o) ys q
          (λ more rest. subst (λ l. Guards is o (l ++ more)) (sym (ap first_given (gaps_parts None false next))) (given_guards is (current None false next) o more rest))
          (path_ahead (step s) next (later_gaps (gaps next)) (behind_gap (current None false next) o) (realizes s next stands) (begin_inside next o locked reads) path)

      step_ahead : (p : Planning S) (o : Open) → Ready p o → {xs : List Item} {q : Point (Next (Planning S))} {n : ℕ} → Path (planned_step private plan step p) xs q n → Ahead o xs q
      step_ahead p o (inl (ss, none, stands, inside)) {xs} {q} {n} path =
          path_ahead (step p.state) ss p.gaps o (realizes p.state ss stands) inside (subst (λ g. Path (planned_from private g p.gaps (step p.state)) xs q n) none path)
      step_ahead p o (inr (next, leads, stands, locked, reads)) {xs} {q} {n} path =
          begin_ahead p.state next p.gaps o stands locked reads (subst (λ g. Path (planned_from private g p.gaps (step p.state)) xs q n) leads path)

      run_guards : {p : Planning S} {xs : List Item} {end : End} {n : ℕ} → Run (planned_step private plan step) p xs end n → (o : Open) → Ready p o → Guards is o xs
      run_guards {p} (cuts path) o here = step_ahead p o here path
      run_guards {p} (stops path) o here = step_ahead p o here path
      run_guards {p} (goes_on {t = q} {items = xs} {rest = ys} path run) o here =
          let one = step_ahead p o here path in
          one.guards ys (run_guards run one.behind (ready q one.ss one.behind one.stands one.inside))

  -- From where a block begins, each run with planned fences is guarded.
  pub planned_guards : {S : Type 0} (plan : S → Option (List Gap)) (Stands : S → List Station → Type 0) (step : S → Tree (Next S)) → RealizesPlan private plan Stands step
      → (s : S) (first : List Station) → plan s ≡ Some (gaps first) → Stands s first → (xs : List Item) (end : End) (n : ℕ)
      → Run (planned_step private plan step) (before_blocks s) xs end n → Guards (λ a. is_private private a) open_at_start xs
  planned_guards plan Stands step realizes s first leads stands xs end n run =
      run_guards plan Stands step realizes run open_at_start (inr (first, leads, stands, refl, refl))
