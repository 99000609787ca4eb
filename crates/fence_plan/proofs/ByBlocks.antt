-- Two machines whose blocks match in pairs: where each block of the target follows the plan of its block of the source, so do
-- its runs.
use Rattle.std.proofs.Common.{◌≡◌, ℕ, zero, suc, ◌+◌, ◌<◌, Bool, true, false, List, [], ◌∷◌, ◌++◌, length, Option, Some, None, refl, sym, ap, ◌∙◌, subst, arith}
use Rattle.std.specs.Prelude.{map, if◌then◌else◌}
use Rattle.std.specs.List.{AllByRecursion}
use Rattle.std.proofs.lemmas.List.{append-nil, append_assoc}
use Rattle.ev_graph.specs.declared.events.End.{End}
use Rattle.ev_graph.specs.declared.events.End.TheVariants.{Running}
use Rattle.ev_graph.specs.declared.events.FenceKind.TheVariants.{Frm, Fww, Fsc}
use Rattle.ev_graph.specs.declared.events.Item.{Item}
use Rattle.ev_graph.specs.declared.events.Item.TheVariants as items
use Rattle.ev_graph.specs.Events.{accesses}
use Rattle.behavior.specs.Tree.{Tree, Gives, Begins, Acts, Point, Cut, At, Path, acts, Next, Goes, Stops}
use Rattle.behavior.specs.Run.{Run}
use Rattle.behavior.specs.Seen.{trace}
use Rattle.behavior.specs.Unfolds.{Unfolds, block-ends, block-goes, block-begins, block-acts}
use Rattle.behavior.proofs.Blocks.{begins_advances, to_block, to_step}
use Rattle.behavior.proofs.SeenLemmas.{trace-append}
use Rattle.behavior.proofs.Walks.{From, from-cut, from-stop, from-go, run_walk, walk_run, from_walk, walk_from}
use Rattle.x64_syntax.specs.declared.slots.Slot.{Slot}
use Rattle.fence_plan.specs.declared.gap.Gap.{Gap}
use Rattle.fence_plan.specs.Private.{is_private, has_shared, privacy}
use Rattle.fence_plan.specs.Gaps.{fence_if}
use Rattle.fence_plan.specs.Planned.{barrier_item, first_given, later_gaps, is_barrier, Planning, with_gaps, planned_from, planned_step, shared_view, with_barrier, IsFence, Follows, FollowsPlan}

-- ---- steps as one, within a block

-- The block goes on by whole steps, from states at which no block begins.
pub data UnfoldsWithin {S : Type 0} (plan : S → Option (List Gap)) (step : S → Tree (Next S)) : Tree (Next S) → Tree (Next S) → Type 0 where
  within-ends : {next : Next S} → UnfoldsWithin plan step (Gives next) (Gives next)
  within-goes : {s : S} {block : Tree (Next S)} → plan s ≡ None → UnfoldsWithin plan step (step s) block → UnfoldsWithin plan step (Gives (Goes s)) block
  within-begins : {t block : Tree (Next S)} → UnfoldsWithin plan step t block → UnfoldsWithin plan step (Begins t) (Begins block)
  within-acts : {range : ℕ} {made : ℕ → List Item} {next blocks : ℕ → Tree (Next S)}
      → ((v : ℕ) → v < range → UnfoldsWithin plan step (next v) (blocks v)) → UnfoldsWithin plan step (Acts range made next) (Acts range made blocks)

module _ (private : Slot → Bool) where
  -- with planned fences a block unfolds as before
  planned_unfolds : {S : Type 0} (plan : S → Option (List Gap)) (step : S → Tree (Next S)) {t block : Tree (Next S)} → UnfoldsWithin plan step t block → (gs : List Gap)
      → Unfolds (planned_step private plan step) (with_gaps private gs t) (with_gaps private gs block)
  planned_unfolds plan step (within-ends {next = Goes s}) gs = block-ends
  planned_unfolds plan step (within-ends {next = Stops end}) gs = block-ends
  planned_unfolds plan step (within-goes {s = s} {block = block} none rest) gs =
      block-goes (subst (λ g. Unfolds (planned_step private plan step) (planned_from private g gs (step s)) (with_gaps private gs block)) (sym none) (planned_unfolds plan step rest gs))
  planned_unfolds plan step (within-begins rest) gs = block-begins (planned_unfolds plan step rest gs)
  planned_unfolds plan step (within-acts {made = made} rest) gs =
      block-acts (λ v lt. planned_unfolds plan step (rest v lt) (if has_shared private (made v) then later_gaps gs else gs))

  -- ---- lists of gaps and views

  -- the fences of gaps are no accesses
  fences_privacy : (frm fww fsc : Bool) (ys : List Item) → privacy private (map barrier_item (fence_if frm Frm ++ (fence_if fww Fww ++ fence_if fsc Fsc)) ++ ys) ≡ privacy private ys
  fences_privacy true true true ys = refl
  fences_privacy true true false ys = refl
  fences_privacy true false true ys = refl
  fences_privacy true false false ys = refl
  fences_privacy false true true ys = refl
  fences_privacy false true false ys = refl
  fences_privacy false false true ys = refl
  fences_privacy false false false ys = refl

  given_privacy : (gs : List Gap) (ys : List Item) → privacy private (first_given gs ++ ys) ≡ privacy private ys
  given_privacy [] ys = refl
  given_privacy (g ∷ gs) ys = fences_privacy g.frm g.fww g.fsc ys

  privacy_append : (xs ys : List Item) → privacy private (xs ++ ys) ≡ privacy private xs ++ privacy private ys
  privacy_append [] ys = refl
  privacy_append (items.Access a ∷ xs) ys = ap (λ l. is_private private a ∷ l) (privacy_append xs ys)
  privacy_append (items.Fence f ∷ xs) ys = privacy_append xs ys
  privacy_append (items.Input t ∷ xs) ys = privacy_append xs ys
  privacy_append (items.Output t ∷ xs) ys = privacy_append xs ys

  privacy_length : (xs : List Item) → length (privacy private xs) ≡ length (accesses xs)
  privacy_length [] = refl
  privacy_length (items.Access a ∷ xs) = ap suc (privacy_length xs)
  privacy_length (items.Fence f ∷ xs) = privacy_length xs
  privacy_length (items.Input t ∷ xs) = privacy_length xs
  privacy_length (items.Output t ∷ xs) = privacy_length xs

trace_count : (xs : List Item) → length (accesses (trace xs)) ≡ length (accesses xs)
trace_count [] = refl
trace_count (items.Access a ∷ xs) = ap suc (trace_count xs)
trace_count (items.Fence f ∷ xs) = trace_count xs
trace_count (items.Input t ∷ xs) = trace_count xs
trace_count (items.Output t ∷ xs) = trace_count xs

same_count : (xs ys : List Item) → trace xs ≡ trace ys → length (accesses xs) ≡ length (accesses ys)
same_count xs ys same = sym (trace_count xs) ∙ ap (λ l. length (accesses l)) same ∙ trace_count ys

kept_append : (b : Bool) (f : Item) (xs ys : List Item) → (if b then f ∷ (xs ++ ys) else xs ++ ys) ≡ (if b then f ∷ xs else xs) ++ ys
kept_append true f xs ys = refl
kept_append false f xs ys = refl

-- a view of joined items, where there is a turn for each access of the first
view_append : (turns later : List Bool) (xs ys : List Item) → length turns ≡ length (accesses xs) → shared_view (turns ++ later) (xs ++ ys) ≡ shared_view turns xs ++ shared_view later ys
view_append [] later [] ys many = refl
view_append (turn ∷ turns) later [] ys many = absurd (omega (arith, many))
view_append [] later (items.Access a ∷ xs) ys many = absurd (omega (arith, many))
view_append (true ∷ turns) later (items.Access a ∷ xs) ys many = view_append turns later xs ys (omega (arith, many))
view_append (false ∷ turns) later (items.Access a ∷ xs) ys many = ap (λ l. items.Access (record a { place = 0 }) ∷ l) (view_append turns later xs ys (omega (arith, many)))
view_append [] later (items.Fence f ∷ xs) ys many =
    ap (with_barrier f.kind) (view_append [] later xs ys many) ∙ kept_append (is_barrier f.kind) (items.Fence (record { kind = f.kind; place = 0 })) (shared_view [] xs) (shared_view later ys)
view_append (turn ∷ turns) later (items.Fence f ∷ xs) ys many =
    ap (with_barrier f.kind) (view_append (turn ∷ turns) later xs ys many)
    ∙ kept_append (is_barrier f.kind) (items.Fence (record { kind = f.kind; place = 0 })) (shared_view (turn ∷ turns) xs) (shared_view later ys)
view_append [] later (items.Input t ∷ xs) ys many = view_append [] later xs ys many
view_append (turn ∷ turns) later (items.Input t ∷ xs) ys many = view_append (turn ∷ turns) later xs ys many
view_append [] later (items.Output t ∷ xs) ys many = view_append [] later xs ys many
view_append (turn ∷ turns) later (items.Output t ∷ xs) ys many = view_append (turn ∷ turns) later xs ys many

fences_trace : (frm fww fsc : Bool) (ys : List Item) → trace (map barrier_item (fence_if frm Frm ++ (fence_if fww Fww ++ fence_if fsc Fsc)) ++ ys) ≡ trace ys
fences_trace true true true ys = refl
fences_trace true true false ys = refl
fences_trace true false true ys = refl
fences_trace true false false ys = refl
fences_trace false true true ys = refl
fences_trace false true false ys = refl
fences_trace false false true ys = refl
fences_trace false false false ys = refl

given_trace : (gs : List Gap) (ys : List Item) → trace (first_given gs ++ ys) ≡ trace ys
given_trace [] ys = refl
given_trace (g ∷ gs) ys = fences_trace g.frm g.fww g.fsc ys

-- ---- blocks that follow the plan

-- two paths stop alike, of which the first says the gaps that are left too
abbrev pub StopsAlike : {S T : Type 0} → (S → T → Type 0) → Point (Next (Planning S)) → Point (Next T) → Type 0
StopsAlike Same Cut Cut = Unit {0}
StopsAlike Same Cut (At next) = ⊥
StopsAlike Same (At next) Cut = ⊥
StopsAlike Same (At (Goes p)) (At (Goes t)) = Same p.state t
StopsAlike Same (At (Goes p)) (At (Stops end)) = ⊥
StopsAlike Same (At (Stops end)) (At (Goes t)) = ⊥
StopsAlike Same (At (Stops end)) (At (Stops other)) = end ≡ other

-- what may be missing at a point: fences, and nothing where a state is come to
abbrev pub MayMiss : {T : Type 0} → Point (Next T) → List Item → Type 0
MayMiss Cut missing = AllByRecursion IsFence missing
MayMiss (At (Goes t)) missing = missing ≡ []
MayMiss (At (Stops end)) missing = AllByRecursion IsFence missing

-- A path of the target that made these items follows the gaps of a block of the source: there is a path with planned fences
-- that stops alike, with the same trace, and the barriers are those of the plan.
pub record FollowsBlock {S T : Type 0} (private : Slot → Bool) (Same : S → T → Type 0) (gaps : List Gap) (block : Tree (Next S)) (made : List Item) (stop : Point (Next T)) : Type 0 where
  pub from : List Item
  pub at : Point (Next (Planning S))
  pub begun : ℕ
  pub path : Path (with_gaps private (later_gaps gaps) block) from at begun
  pub alike : StopsAlike Same at stop
  pub same : trace from ≡ trace made
  pub missing : List Item
  pub may_miss : MayMiss stop missing
  pub barriers : shared_view (privacy private from) (first_given gaps ++ from) ≡ shared_view (privacy private from) made ++ missing

-- a block of the source and one of the target that follows it
pub record BlocksFollow {S T : Type 0} (private : Slot → Bool) (plan : S → Option (List Gap)) (Same : S → T → Type 0) (step : S → Tree (Next S)) (go : T → Tree (Next T)) (s : S) (t : T) : Type 0 where
  pub gaps : List Gap
  pub planned : plan s ≡ Some gaps
  pub block : Tree (Next S)
  pub does : Tree (Next T)
  pub source : UnfoldsWithin plan step (step s) block
  pub target : Unfolds go (go t) (Begins does)
  pub follows : (made : List Item) (stop : Point (Next T)) (n : ℕ) → Path (Begins does) made stop n → FollowsBlock private Same gaps block made stop

module _ {S T : Type 0} (private : Slot → Bool) (plan : S → Option (List Gap)) (Same : S → T → Type 0) (step : S → Tree (Next S)) (go : T → Tree (Next T))
    (matches : (s : S) (t : T) → Same s t → BlocksFollow private plan Same step go s t) where
  -- a run follows the plan, whatever gaps the state says, since a block begins there
  abbrev FollowsFrom : S → List Item → End → Type 0
  FollowsFrom s made end = (gs : List Gap) → (from : List Item) × (m : ℕ) × Run (planned_step private plan step) (record { state = s; gaps = gs }) from end m × (trace from ≡ trace made) × Follows private from made

  -- the block with its first gap
  abbrev whole_block : List Gap → Tree (Next S) → Tree (Next (Planning S))
  whole_block gaps block = Acts 1 (λ v. first_given gaps) (λ v. with_gaps private (later_gaps gaps) block)

  block_unfolds : (s : S) (gs gaps : List Gap) (block : Tree (Next S)) → plan s ≡ Some gaps → UnfoldsWithin plan step (step s) block
      → Unfolds (planned_step private plan step) (planned_step private plan step (record { state = s; gaps = gs })) (whole_block gaps block)
  block_unfolds s gs gaps block planned source =
      subst (λ g. Unfolds (planned_step private plan step) (planned_from private g gs (step s)) (whole_block gaps block)) (sym planned)
      (block-acts (λ v lt. planned_unfolds private plan step source (later_gaps gaps)))

  run_of : (s : S) (gs gaps : List Gap) (block : Tree (Next S)) → plan s ≡ Some gaps → UnfoldsWithin plan step (step s) block → {from : List Item} {end : End} {n : ℕ}
      → From (planned_step private plan step) (whole_block gaps block) from end n → Run (planned_step private plan step) (record { state = s; gaps = gs }) from end n
  run_of s gs gaps block planned source from = walk_run (to_step (block_unfolds s gs gaps block planned source) (from_walk from))

  first_path : (gaps : List Gap) (block : Tree (Next S)) {from : List Item} {at : Point (Next (Planning S))} {n : ℕ} → Path (with_gaps private (later_gaps gaps) block) from at n → Path (whole_block gaps block) (first_given gaps ++ from) at n
  first_path gaps block path = acts 0 (omega arith) path

  -- the fences alone
  alone : (gaps : List Gap) (from made missing : List Item) → AllByRecursion IsFence missing → shared_view (privacy private from) (first_given gaps ++ from) ≡ shared_view (privacy private from) made ++ missing
      → Follows private (first_given gaps ++ from) made
  alone gaps from made missing fences barriers =
      (missing, fences, subst (λ turns. shared_view turns (first_given gaps ++ from) ≡ shared_view turns made ++ missing) (sym (given_privacy private gaps from)) barriers)

  -- one block behind the other
  joined : (gaps : List Gap) (from made later rest : List Item) → trace from ≡ trace made → trace later ≡ trace rest
      → shared_view (privacy private from) (first_given gaps ++ from) ≡ shared_view (privacy private from) made → Follows private later rest → Follows private ((first_given gaps ++ from) ++ later) (made ++ rest)
  joined gaps from made later rest same other barriers (more, fences, follows) =
      let front = first_given gaps ++ from in
      let turns : privacy private (front ++ later) ≡ privacy private from ++ privacy private later =
      privacy_append private front later ∙ ap (λ l. l ++ privacy private later) (given_privacy private gaps from) in
      let many : length (privacy private from) ≡ length (accesses front) =
      privacy_length private from ∙ sym (same_count front from (given_trace gaps from)) in
      let many_made : length (privacy private from) ≡ length (accesses made) = privacy_length private from ∙ same_count from made same in
      let left : shared_view (privacy private from ++ privacy private later) (front ++ later) ≡ shared_view (privacy private from) made ++ (shared_view (privacy private later) rest ++ more) =
      view_append (privacy private from) (privacy private later) front later many ∙ ap (λ l. l ++ shared_view (privacy private later) later) barriers ∙ ap (λ l. shared_view (privacy private from) made ++ l) follows in
      let right : shared_view (privacy private from ++ privacy private later) (made ++ rest) ++ more ≡ shared_view (privacy private from) made ++ (shared_view (privacy private later) rest ++ more) =
      ap (λ l. l ++ more) (view_append (privacy private from) (privacy private later) made rest many_made) ∙ append_assoc (shared_view (privacy private from) made) (shared_view (privacy private later) rest) more in
      (more, fences, subst (λ turns. shared_view turns (front ++ later) ≡ shared_view turns (made ++ rest) ++ more) (sym turns) (left ∙ sym right))

  at_cut : (s : S) (t : T) (here : BlocksFollow private plan Same step go s t) (made : List Item) → FollowsBlock private Same here.gaps here.block made Cut → FollowsFrom s made Running
  at_cut s t here made f gs = by f.at f.path f.alike
    where
      by : (at : Point (Next (Planning S))) → Path (with_gaps private (later_gaps here.gaps) here.block) f.from at f.begun → StopsAlike Same at Cut
          → (from : List Item) × (m : ℕ) × Run (planned_step private plan step) (record { state = s; gaps = gs }) from Running m × (trace from ≡ trace made) × Follows private from made
      by Cut path alike = (
        first_given here.gaps ++ f.from,
        f.begun,
        run_of s gs here.gaps here.block here.planned here.source (from-cut (first_path here.gaps here.block path)),
        given_trace here.gaps f.from ∙ f.same,
        alone here.gaps f.from made f.missing f.may_miss f.barriers,
      )
      by (At next) path alike = absurd alike

  at_stop : (s : S) (t : T) (here : BlocksFollow private plan Same step go s t) (made : List Item) (end : End) → FollowsBlock private Same here.gaps here.block made (At (Stops end)) → FollowsFrom s made end
  at_stop s t here made end f gs = by f.at f.path f.alike
    where
      by : (at : Point (Next (Planning S))) → Path (with_gaps private (later_gaps here.gaps) here.block) f.from at f.begun → StopsAlike Same at (At (Stops end))
          → (from : List Item) × (m : ℕ) × Run (planned_step private plan step) (record { state = s; gaps = gs }) from end m × (trace from ≡ trace made) × Follows private from made
      by Cut path alike = absurd alike
      by (At (Goes p)) path alike = absurd alike
      by (At (Stops other)) path alike = (
        first_given here.gaps ++ f.from,
        f.begun,
        subst (λ e. Run (planned_step private plan step) (record { state = s; gaps = gs }) (first_given here.gaps ++ f.from) e f.begun) alike
            (run_of s gs here.gaps here.block here.planned here.source (from-stop (first_path here.gaps here.block path))),
        given_trace here.gaps f.from ∙ f.same,
        alone here.gaps f.from made f.missing f.may_miss f.barriers,
      )

  at_state : (s : S) (t : T) (here : BlocksFollow private plan Same step go s t) (made rest all : List Item) (u : T) (end : End) → all ≡ made ++ rest → ((r : S) → Same r u → FollowsFrom r rest end)
      → FollowsBlock private Same here.gaps here.block made (At (Goes u)) → FollowsFrom s all end
  at_state s t here made rest all u end same_items later f gs = by f.at f.path f.alike
    where
      by : (at : Point (Next (Planning S))) → Path (with_gaps private (later_gaps here.gaps) here.block) f.from at f.begun → StopsAlike Same at (At (Goes u))
          → (from : List Item) × (m : ℕ) × Run (planned_step private plan step) (record { state = s; gaps = gs }) from end m × (trace from ≡ trace all) × Follows private from all
      by Cut path alike = absurd alike
      by (At (Stops other)) path alike = absurd alike
      by (At (Goes p)) path alike =
          let two = later p.state alike p.gaps in
          let front = first_given here.gaps ++ f.from in
          let exact : shared_view (privacy private f.from) front ≡ shared_view (privacy private f.from) made =
          f.barriers ∙ ap (λ l. shared_view (privacy private f.from) made ++ l) f.may_miss ∙ append-nil (shared_view (privacy private f.from) made) in (
            front ++ two.0,
            f.begun + two.1,
            run_of s gs here.gaps here.block here.planned here.source (from-go (first_path here.gaps here.block path) two.2 refl refl),
            trace-append front two.0 ∙ ap (λ l. l ++ trace two.0) (given_trace here.gaps f.from ∙ f.same) ∙ ap (λ l. trace made ++ l) two.3 ∙ sym (trace-append made rest) ∙ ap trace (sym same_items),
            subst (λ l. Follows private (front ++ two.0) l) (sym same_items) (joined here.gaps f.from made two.0 rest f.same two.3 exact two.4),
          )

  follows_from : (s : S) (t : T) → (here : BlocksFollow private plan Same step go s t) → {made : List Item} {end : End} {n : ℕ}
      → ((u : T) (rest : List Item) (m : ℕ) → m < n → Run go u rest end m → (r : S) → Same r u → FollowsFrom r rest end)
      → From go (Begins here.does) made end n → FollowsFrom s made end
  follows_from s t here {made} {n = n} later (from-cut path) = at_cut s t here made (here.follows made Cut n path)
  follows_from s t here {made} {end} {n} later (from-stop path) = at_stop s t here made end (here.follows made (At (Stops end)) n path)
  follows_from s t here later (from-go {s = u} {items = made} {rest = rest} {all = all} {end = end} {n = n} {m = m} path run same_items same_count) =
      let some = begins_advances here.does made u n path in
      at_state s t here made rest all u end same_items (λ r there. later u rest m (omega (arith, some, same_count)) run r there) (here.follows made (At (Goes u)) n path)

  follows_within : (most : ℕ) {t : T} {made : List Item} {end : End} {n : ℕ} → n < most → Run go t made end n → (s : S) → Same s t → FollowsFrom s made end
  follows_within zero le run s same = absurd (omega (arith, le))
  follows_within (suc most) {t} le run s same =
      let here = matches s t same in
      follows_from s t here (λ u rest m fewer more r there. follows_within most (omega (arith, le, fewer)) more r there) (walk_from (to_block here.target (run_walk run)))

  -- each run of the target follows the plan
  pub blocks_follow : (s : S) (t : T) → Same s t → FollowsPlan private plan step s go t
  blocks_follow s t same made end n run = follows_within (suc n) (omega arith) run s same []
