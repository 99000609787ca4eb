-- A run with planned fences is, without them, a run of the machine.
use Rattle.std.proofs.Common.{◌≡◌, inl, inr, ℕ, ◌+◌, Bool, true, false, List, [], ◌∷◌, ◌++◌, Option, Some, refl, sym, ap, ◌∙◌, subst}
use Rattle.std.specs.Prelude.{if◌then◌else◌, map}
use Rattle.std.proofs.lemmas.List.{append_assoc}
use Rattle.ev_graph.specs.declared.events.End.{End}
use Rattle.ev_graph.specs.declared.events.FenceItem.{FenceItem}
use Rattle.ev_graph.specs.declared.events.FenceKind.{FenceKind}
use Rattle.ev_graph.specs.declared.events.FenceKind.TheVariants.{Frm, Fww, Fsc, Mfence}
use Rattle.ev_graph.specs.declared.events.Item.{Item}
use Rattle.ev_graph.specs.declared.events.Item.TheVariants as items
use Rattle.behavior.specs.Tree.{Tree, Gives, Begins, Acts, Point, Cut, At, Path, cut, gives, begins, acts, Next, Goes, Stops}
use Rattle.behavior.specs.Run.{Run, cuts, stops, goes_on}
use Rattle.x64_syntax.specs.declared.slots.Slot.{Slot}
use Rattle.fence_plan.specs.declared.gap.Gap.{Gap}
use Rattle.fence_plan.specs.Private.{has_shared}
use Rattle.fence_plan.specs.Gaps.{Station, gaps, fence_if}
use Rattle.fence_plan.specs.Planned.{barrier_item, first_given, later_gaps, is_barrier, Planning, with_gaps, planned_from, planned_step}
use Rattle.fence_plan.specs.Realized.{IsAct, silent, input, output, hidden, shared, read, pair, strong, StandsOn, Realizes, RealizesPlan}

-- items without barriers of Arm
abbrev pub bare : List Item → List Item
bare [] = []
bare (items.Access a ∷ is) = items.Access a ∷ bare is
bare (items.Fence f ∷ is) = if is_barrier f.kind then bare is else items.Fence f ∷ bare is
bare (items.Input t ∷ is) = items.Input t ∷ bare is
bare (items.Output t ∷ is) = items.Output t ∷ bare is

fences_bare : (frm fww fsc : Bool) (ys : List Item) → bare (map barrier_item (fence_if frm Frm ++ (fence_if fww Fww ++ fence_if fsc Fsc)) ++ ys) ≡ bare ys
fences_bare true true true ys = refl
fences_bare true true false ys = refl
fences_bare true false true ys = refl
fences_bare true false false ys = refl
fences_bare false true true ys = refl
fences_bare false true false ys = refl
fences_bare false false true ys = refl
fences_bare false false false ys = refl

-- the fences of a gap go
pub first_bare : (gs : List Gap) (ys : List Item) → bare (first_given gs ++ ys) ≡ bare ys
first_bare [] ys = refl
first_bare (g ∷ gs) ys = fences_bare g.frm g.fww g.fsc ys

strong_bare : (f : FenceItem) (k : FenceKind) (ys : List Item) → k ≡ Mfence → (if is_barrier k then bare ys else items.Fence f ∷ bare ys) ≡ items.Fence f ∷ bare ys
strong_bare f k ys e = ap (λ j. if is_barrier j then bare ys else items.Fence f ∷ bare ys) e

module _ (private : Slot → Bool) where
  -- what an act makes stays
  pub act_bare : {xs : List Item} {ss rest : List Station} → IsAct private xs ss rest → (ys : List Item) → bare (xs ++ ys) ≡ xs ++ bare ys
  act_bare silent ys = refl
  act_bare input ys = refl
  act_bare output ys = refl
  act_bare (hidden one) ys = refl
  act_bare (shared one other) ys = refl
  act_bare (read one other) ys = refl
  act_bare (pair one other two more) ys = refl
  act_bare (strong {f = f} kind) ys = strong_bare f f.kind ys kind

  act_given : {xs : List Item} {ss rest : List Station} → IsAct private xs ss rest → (b : Bool) (gs : List Gap) (ys : List Item) → bare ((if b then xs ++ first_given gs else xs) ++ ys) ≡ xs ++ bare ys
  act_given {xs = xs} act true gs ys = ap bare (append_assoc xs (first_given gs) ys) ∙ act_bare act (first_given gs ++ ys) ∙ ap (λ l. xs ++ l) (first_bare gs ys)
  act_given act false gs ys = act_bare act ys

  module _ {S : Type 0} (plan : S → Option (List Gap)) (Stands : S → List Station → Type 0) where
    -- a point without its gaps
    abbrev plain : Point (Next (Planning S)) → Point (Next S)
    plain Cut = Cut
    plain (At (Goes p)) = At (Goes p.state)
    plain (At (Stops end)) = At (Stops end)

    -- where a point is a state, it stands on the plan
    abbrev Lands : Point (Next (Planning S)) → Type 0
    Lands Cut = Unit {0}
    Lands (At (Stops end)) = Unit {0}
    Lands (At (Goes p)) = (ss : List Station) × StandsOn plan Stands p.state ss

    path_bare : (t : Tree (Next S)) (ss : List Station) (gs : List Gap) → Realizes private plan Stands ss t → {xs : List Item} {q : Point (Next (Planning S))} {n : ℕ} → Path (with_gaps private gs t) xs q n
        → Path t (bare xs) (plain q) n × Lands q
    path_bare (Gives (Goes s)) ss gs realizes cut = (cut, tt)
    path_bare (Gives (Goes s)) ss gs realizes gives = (gives, (ss, realizes))
    path_bare (Gives (Stops end)) ss gs realizes cut = (cut, tt)
    path_bare (Gives (Stops end)) ss gs realizes gives = (gives, tt)
    path_bare (Begins t) ss gs realizes cut = (cut, tt)
    path_bare (Begins t) ss gs realizes (begins path) = let rest = path_bare t ss gs realizes path in (begins rest.0, rest.1)
    path_bare (Acts range made next) ss gs realizes cut = (cut, tt)
    path_bare (Acts range made next) ss gs realizes (acts {items = ys} {p = q} {n = n} v lt path) =
        let one = realizes v lt in
        let rest = path_bare (next v) one.0 (if has_shared private (made v) then later_gaps gs else gs) one.2 path in
        (subst (λ l. Path (Acts range made next) l (plain q) n) (sym (act_given one.1 (has_shared private (made v)) gs ys)) (acts v lt rest.0), rest.1)

    module _ (step : S → Tree (Next S)) (realizes : RealizesPlan private plan Stands step) where
      step_bare : (p : Planning S) (ss : List Station) → StandsOn plan Stands p.state ss → {xs : List Item} {q : Point (Next (Planning S))} {n : ℕ} → Path (planned_step private plan step p) xs q n
          → Path (step p.state) (bare xs) (plain q) n × Lands q
      step_bare p ss (inl (none, stands)) {xs} {q} {n} path =
          path_bare (step p.state) ss p.gaps (realizes p.state ss stands) (subst (λ g. Path (planned_from private g p.gaps (step p.state)) xs q n) none path)
      step_bare p ss (inr (next, leads, stands)) {xs} {q} {n} path =
          from_block next stands (subst (λ g. Path (planned_from private g p.gaps (step p.state)) xs q n) leads path)
        where
          from_block : (next : List Station) → Stands p.state next → {xs : List Item} {q : Point (Next (Planning S))} {n : ℕ} → Path (planned_from private (Some (gaps next)) p.gaps (step p.state)) xs q n
              → Path (step p.state) (bare xs) (plain q) n × Lands q
          from_block next stands cut = (cut, tt)
          from_block next stands (acts {items = ys} {p = q} {n = n} v lt path) =
              let rest = path_bare (step p.state) next (later_gaps (gaps next)) (realizes p.state next stands) path in
              (subst (λ l. Path (step p.state) l (plain q) n) (sym (first_bare (gaps next) ys)) rest.0, rest.1)

  bare_append : (xs ys : List Item) → bare (xs ++ ys) ≡ bare xs ++ bare ys
  bare_append [] ys = refl
  bare_append (items.Access a ∷ xs) ys = ap (λ l. items.Access a ∷ l) (bare_append xs ys)
  bare_append (items.Fence f ∷ xs) ys = by (is_barrier f.kind) (bare_append xs ys)
    where
      by : (b : Bool) → bare (xs ++ ys) ≡ bare xs ++ bare ys → (if b then bare (xs ++ ys) else items.Fence f ∷ bare (xs ++ ys)) ≡ (if b then bare xs else items.Fence f ∷ bare xs) ++ bare ys
      by true rest = rest
      by false rest = ap (λ l. items.Fence f ∷ l) rest
  bare_append (items.Input t ∷ xs) ys = ap (λ l. items.Input t ∷ l) (bare_append xs ys)
  bare_append (items.Output t ∷ xs) ys = ap (λ l. items.Output t ∷ l) (bare_append xs ys)

  -- Without the planned fences a run is one of the machine, with the same end and count.
  pub run_bare : {S : Type 0} (plan : S → Option (List Gap)) (Stands : S → List Station → Type 0) (step : S → Tree (Next S)) → RealizesPlan private plan Stands step
      → {p : Planning S} {xs : List Item} {end : End} {n : ℕ} → Run (planned_step private plan step) p xs end n → (ss : List Station) → StandsOn plan Stands p.state ss → Run step p.state (bare xs) end n
  run_bare plan Stands step realizes {p} (cuts path) ss stands = cuts (step_bare plan Stands step realizes p ss stands path).0
  run_bare plan Stands step realizes {p} (stops path) ss stands = stops (step_bare plan Stands step realizes p ss stands path).0
  run_bare plan Stands step realizes {p} {end = end} (goes_on {items = xs} {rest = ys} {n = n} {m = m} path run) ss stands =
      let one = step_bare plan Stands step realizes p ss stands path in
      subst (λ l. Run step p.state l end (n + m)) (sym (bare_append xs ys)) (goes_on one.0 (run_bare plan Stands step realizes run one.1.0 one.1.1))
