-- A block follows the plan where its steps do.
use Rattle.std.proofs.Common.{◌≡◌, ℕ, ◌+◌, Bool, List, [], ◌++◌, refl, sym, ap, ◌∙◌, subst}
use Rattle.std.proofs.lemmas.List.{append-nil}
use Rattle.ev_graph.specs.declared.events.Item.{Item}
use Rattle.behavior.specs.Tree.{Tree, Point, Cut, At, Path, cut, gives, Next, Goes, Stops}
use Rattle.behavior.specs.Acts.{Permission}
use Rattle.behavior.specs.Leaving.{Left}
use Rattle.behavior.proofs.Paths.{path_at, path_cut, path_stop, path_then, Split, within, ended, beyond, split}
use Rattle.x64_syntax.specs.declared.slots.Slot.{Slot}
use Rattle.limm_ir.specs.Blocks.{ir_end, ir_block}
use Rattle.limm_ir.specs.Costs.{step_cost, no_cost}
use Rattle.limm_ir.specs.Steps.{IrState, ir_steps}
use Rattle.limm_ir.specs.declared.block.IrEnd.{IrEnd}
use Rattle.limm_ir.specs.declared.block.IrEnd.TheVariants as ends
use Rattle.limm_ir.specs.declared.step.IrStep.{IrStep}
use Rattle.fence_place.specs.Marked.{marked}
use Rattle.fence_plan.specs.Gaps.{gaps}
use Rattle.fence_plan.specs.declared.gap.Gap.{Gap}
use Rattle.fence_merge.specs.Roles.{stations, unfenced}
use Rattle.fence_merge.specs.Follows.{IsAtState, FollowsGaps, FollowsPlanOf}

-- the end of a block makes nothing
end_makes : (end : IrEnd) (s : IrState) {is : List Item} {stop : Point (Next (Left IrState))} {n : ℕ} → Path (ir_end end s) is stop n → is ≡ []
end_makes (ends.Goto a) s cut = refl
end_makes (ends.Goto a) s gives = refl
end_makes (ends.Branch t a b) s cut = refl
end_makes (ends.Branch t a b) s gives = refl
end_makes (ends.Return t) s cut = refl
end_makes (ends.Return t) s gives = refl
end_makes (ends.Indexed t table) s cut = refl
end_makes (ends.Indexed t table) s gives = refl
end_makes (ends.Stop kind) s cut = refl
end_makes (ends.Stop kind) s gives = refl

module _ {S T : Type 0} (private : Slot → Bool) (gs : List Gap) (source : Tree (Next S)) where
  -- a path of another source that has made the same
  with_source : (other : Tree (Next T)) (made : List Item) (stop : Point (Next S)) (stop' : Point (Next T)) (f : FollowsGaps private gs source made stop) (begun : ℕ) → Path other f.from stop' begun
      → (IsAtState stop' → IsAtState stop) → FollowsGaps private gs other made stop'
  with_source other made stop stop' f begun path at = record {
    from = f.from;
    begun = begun;
    path = path;
    accesses = f.accesses;
    missing = f.missing;
    fences = f.fences;
    barriers = f.barriers;
    whole = λ here. f.whole (at here);
  }

-- each path of the block with the second steps follows the plan of the first
pub block_follows : (private : List Slot) (xs ys : List IrStep) → FollowsPlanOf private xs ys
    → (end : IrEnd) (may : Permission) (s : IrState) (made : List Item) (stop : Point (Next (Left IrState))) (n : ℕ) → Path (ir_block step_cost may ys end s) made stop n
    → FollowsGaps (marked private) (gaps (stations private xs)) (ir_block no_cost may (unfenced xs) end s) made stop
block_follows private xs ys follows end may s made stop n path = by (split (ir_steps step_cost may ys s) (ir_end end) path)
  where
    gs : List Gap
    gs = gaps (stations private xs)

    steps : Tree (Next IrState)
    steps = ir_steps no_cost may (unfenced xs) s

    block : Tree (Next (Left IrState))
    block = ir_block no_cost may (unfenced xs) end s

    on : {t : IrState} {xs more all : List Item} {stop : Point (Next (Left IrState))} {m : ℕ} → FollowsGaps (marked private) gs steps xs (At (Goes t))
        → Path (ir_end end t) more stop m → all ≡ xs ++ more
        → FollowsGaps (marked private) gs block all stop
    on {t} {xs} {more} {all} {stop} {m} f later same =
        let none = end_makes end t later in
        let made_is : xs ≡ all = sym (same ∙ ap (λ l. xs ++ l) none ∙ append-nil xs) in
        let path = path_at (f.from ++ more) f.from (f.begun + m) (f.begun + m) (ap (λ l. f.from ++ l) none ∙ append-nil f.from) refl (path_then (ir_end end) f.path later) in
        subst (λ l. FollowsGaps (marked private) gs block l stop) made_is (with_source (marked private) gs steps block xs (At (Goes t)) stop f (f.begun + m) path (λ here. tt))

    by : {made : List Item} {stop : Point (Next (Left IrState))} {n : ℕ} → Split (ir_steps step_cost may ys s) (ir_end end) made stop n → FollowsGaps (marked private) gs block made stop
    by (within {xs = made} {n = n} path) =
        let f = follows may s made Cut n path in with_source (marked private) gs steps block made Cut Cut f f.begun (path_cut (ir_end end) f.path) (λ here. here)
    by (ended {end = end'} {xs = made} {n = n} path) =
        let f = follows may s made (At (Stops end')) n path in
        with_source (marked private) gs steps block made (At (Stops end')) (At (Stops end')) f f.begun (path_stop (ir_end end) f.path) (λ here. here)
    by (beyond {s = t} {xs = made} {n = n} path more same_items same_count) = on (follows may s made (At (Goes t)) n path) more same_items
