-- Fences keep accesses with their places, inputs and outputs.
use Rattle.std.proofs.Common.{Bool, true, false, List, [], ◌∷◌, ℕ, ◌+◌, ◌≤◌, refl, sym, ◌≡◌, subst, arith}
use Rattle.std.specs.Prelude.{if◌then◌else◌}
use Rattle.std.specs.List.{flat_map}
use Rattle.ev_graph.specs.declared.events.Item.{Item}
use Rattle.ev_graph.specs.declared.events.Item.TheVariants as items
use Rattle.behavior.specs.Tree.{Tree, Next, ◌then◌, ticks}
use Rattle.behavior.specs.Acts.{Permission, goes, fences_at}
use Rattle.behavior.specs.Seen.{placed}
use Rattle.behavior.specs.Kept.{SameNext, both-go, Keeps}
use Rattle.behavior.proofs.Results.{results_any, self_then}
use Rattle.behavior.proofs.Ticks.{ticks-then, earn_many}
use Rattle.behavior.proofs.SeenLemmas.{SeesByParts, sees-placed}
use Rattle.behavior.proofs.Beside.{Beside, give, spend, beside_keeps, spend_many}
use Rattle.behavior.proofs.ActsLemmas.{beside_target_fence}
use Rattle.behavior.proofs.KeepsLemmas.{keeps_then}
use Rattle.x64_syntax.specs.declared.slots.Slot.{Slot}
use Rattle.x64_syntax.specs.declared.slots.SlotKind.TheVariants.{Read, Write}
use Rattle.limm_ir.specs.Costs.{step_cost, fence_cost, fenced_cost}
use Rattle.limm_ir.specs.Steps.{IrState, fence_of, ir_step, ir_steps}
use Rattle.limm_ir.specs.declared.step.IrStep.{IrStep}
use Rattle.limm_ir.specs.declared.step.IrStep.TheVariants as steps
use Rattle.limm_ir.specs.declared.step.IrFence.{IrFence}
use Rattle.limm_ir.specs.declared.step.IrFence.TheVariants.{Frm, Fww, Fsc}
use Rattle.limm_ir.proofs.CallerLemmas.{steps-append}
use Rattle.fence_place.specs.Marked.{marked}
use Rattle.fence_place.specs.Fenced.{fenced, IsFenced, IsSameState, KeepsPlaced}

module _ (seen : List Item → List Item) (sees : SeesByParts seen) where
  -- a tree beside itself, before what is side by side
  alike_then : {S T : Type 0} (Same : T → T → Type 0) (credit : ℕ) (t : Tree (Next S)) (f g : S → Tree (Next T)) → ((s : S) → Beside seen 1 (SameNext Same) credit (f s) (g s))
      → Beside seen 1 (SameNext Same) credit (t then f) (t then g)
  alike_then Same credit t f g here = self_then seen 1 (omega arith) (λ s. Unit {0}) Same credit t f g (results_any t) (λ s known. here s)

  -- nothing is seen of a fence
  abbrev Hidden : IrFence → Type 0
  Hidden f = seen (items.Fence (record { kind = fence_of f; place = 0 }) ∷ []) ≡ []

  -- what a tree costs in the source pays for what the target begins, and something is left
  paid : {S T U : Type 0} (Same : U → U → Type 0) (n m credit left : ℕ) (t : Tree (Next S)) (u : Tree (Next T)) (f : S → Tree (Next U)) (g : T → Tree (Next U))
      → left + m ≤ credit + n → Beside seen 1 (SameNext Same) left (t then f) (u then g) → Beside seen 1 (SameNext Same) credit (ticks n t then f) (ticks m u then g)
  paid Same n m credit left t u f g le beside =
      subst (λ p. Beside seen 1 (SameNext Same) credit p (ticks m u then g)) (sym (ticks-then n t f))
      (subst (λ q. Beside seen 1 (SameNext Same) credit (ticks n (t then f)) q) (sym (ticks-then m u g))
      (earn_many seen sees 1 (SameNext Same) n credit (credit + n) (omega arith) (spend_many seen sees 1 (SameNext Same) m left (credit + n) le beside)))

  module _ (may : Permission) where
    abbrev Meant : List IrStep → IrStep → IrState → Type 0
    Meant ys x s = Keeps seen 1 0 (SameNext IsSameState) (ir_steps fenced_cost may (x ∷ []) s) (ir_steps step_cost may ys s)

    -- nothing is left to do
    ended : (credit : ℕ) (t : IrState) → Beside seen 1 (SameNext IsSameState) credit (ir_steps fenced_cost may [] t) (ir_steps step_cost may [] t)
    ended credit t = give (both-go refl)

    alone : (x : IrStep) (s : IrState) → Meant (x ∷ []) x s
    alone x s = beside_keeps seen sees 1 (SameNext IsSameState) (paid IsSameState (fenced_cost x) (step_cost x) 0 0 (ir_step may x s) (ir_step may x s) (ir_steps fenced_cost may []) (ir_steps step_cost may []) (omega arith)
        (alike_then IsSameState 0 (ir_step may x s) (ir_steps fenced_cost may []) (ir_steps step_cost may []) (ended 0)))

    -- a fence, and nothing behind it
    last_fence : (f : IrFence) → Hidden f → (t : IrState) → Beside seen 1 (SameNext IsSameState) 1 (ir_steps fenced_cost may [] t) (ir_steps step_cost may (steps.Fence f ∷ []) t)
    last_fence f hidden t =
        spend {less = 0} (omega arith) (beside_target_fence seen 1 IsSameState (ir_steps step_cost may []) 0 (fence_of f) 0 (goes t) (goes t) hidden (ended 0 t))

    fence_behind : (f : IrFence) → Hidden f → (x : IrStep) (s : IrState) → 1 ≤ fence_cost x → Meant (x ∷ steps.Fence f ∷ []) x s
    fence_behind f hidden x s le = beside_keeps seen sees 1 (SameNext IsSameState)
        (paid IsSameState (fenced_cost x) (step_cost x) 0 1 (ir_step may x s) (ir_step may x s) (ir_steps fenced_cost may []) (ir_steps step_cost may (steps.Fence f ∷ [])) (omega (arith, le))
        (alike_then IsSameState 1 (ir_step may x s) (ir_steps fenced_cost may []) (ir_steps step_cost may (steps.Fence f ∷ [])) (last_fence f hidden)))

    -- a fence, and then the step with what comes behind it, of which so much is left
    first_fence : (f : IrFence) → Hidden f → (x : IrStep) (ys : List IrStep) (s : IrState) (left : ℕ) → left + 1 ≤ fence_cost x
        → ((t : IrState) → Beside seen 1 (SameNext IsSameState) left (ir_steps fenced_cost may [] t) (ir_steps step_cost may ys t)) → Meant (steps.Fence f ∷ x ∷ ys) x s
    first_fence f hidden x ys s left le later =
        let fence : Tree (Next IrState) = fences_at (fence_of f) 0 (goes s) in
        let step = ir_step may x s then ir_steps fenced_cost may [] in
        let behind : Beside seen 1 (SameNext IsSameState) (left + step_cost x) step (ir_steps step_cost may (x ∷ ys) s) =
        subst (λ q. Beside seen 1 (SameNext IsSameState) (left + step_cost x) step q) (sym (ticks-then (step_cost x) (ir_step may x s) (ir_steps step_cost may ys)))
        (spend_many seen sees 1 (SameNext IsSameState) (step_cost x) left (left + step_cost x) (omega arith) (alike_then IsSameState left (ir_step may x s) (ir_steps fenced_cost may []) (ir_steps step_cost may ys) later)) in
        beside_keeps seen sees 1 (SameNext IsSameState)
        (paid IsSameState (fenced_cost x) 1 0 (left + step_cost x) (ir_step may x s) fence (ir_steps fenced_cost may []) (ir_steps step_cost may (x ∷ ys)) (omega (arith, le))
        (beside_target_fence seen 1 IsSameState (ir_steps step_cost may (x ∷ ys)) (left + step_cost x) (fence_of f) 0 step (goes s) hidden behind))

    fence_before : (f : IrFence) → Hidden f → (x : IrStep) (s : IrState) → 1 ≤ fence_cost x → Meant (steps.Fence f ∷ x ∷ []) x s
    fence_before f hidden x s le = first_fence f hidden x [] s 0 le (ended 0)

    fences_around : (f : IrFence) → Hidden f → (x : IrStep) (s : IrState) → 2 ≤ fence_cost x → Meant (steps.Fence f ∷ x ∷ steps.Fence f ∷ []) x s
    fences_around f hidden x s le = first_fence f hidden x (steps.Fence f ∷ []) s 1 le (last_fence f hidden)

    either : (b : Bool) (xs ys : List IrStep) (x : IrStep) (s : IrState) → Meant xs x s → Meant ys x s → Meant (if b then xs else ys) x s
    either true xs ys x s first second = first
    either false xs ys x s first second = second

    fences_step : ((f : IrFence) → Hidden f) → (private : List Slot) (x : IrStep) (s : IrState) → Meant (fenced private x) x s
    fences_step hidden private (steps.Load t a size place) s =
        let x = steps.Load t a size place in
        either (marked private (record { address = place; kind = Read })) (x ∷ []) (x ∷ steps.Fence Frm ∷ []) x s
        (alone x s) (fence_behind Frm (hidden Frm) x s (omega arith))
    fences_step hidden private (steps.Store a v size place) s =
        let x = steps.Store a v size place in
        either (marked private (record { address = place; kind = Write })) (x ∷ []) (steps.Fence Fww ∷ x ∷ []) x s
        (alone x s) (fence_before Fww (hidden Fww) x s (omega arith))
    fences_step hidden private (steps.Rmw op t a v size place) s = fences_around Fsc (hidden Fsc) (steps.Rmw op t a v size place) s (omega arith)
    fences_step hidden private (steps.Cas t a e v size place) s = fences_around Fsc (hidden Fsc) (steps.Cas t a e v size place) s (omega arith)
    fences_step hidden private (steps.Const t v) s = alone (steps.Const t v) s
    fences_step hidden private (steps.GetReg t r) s = alone (steps.GetReg t r) s
    fences_step hidden private (steps.SetReg r t) s = alone (steps.SetReg r t) s
    fences_step hidden private (steps.GetFlag t f) s = alone (steps.GetFlag t f) s
    fences_step hidden private (steps.SetFlag f t) s = alone (steps.SetFlag f t) s
    fences_step hidden private (steps.Op op t a b) s = alone (steps.Op op t a b) s
    fences_step hidden private (steps.Select t c a b) s = alone (steps.Select t c a b) s
    fences_step hidden private (steps.Fence f) s = alone (steps.Fence f) s
    fences_step hidden private steps.Input s = alone steps.Input s
    fences_step hidden private steps.Output s = alone steps.Output s
    fences_step hidden private (steps.TrapIf t kind) s = alone (steps.TrapIf t kind) s

    fences_all : ((f : IrFence) → Hidden f) → (private : List Slot) (xs : List IrStep) (s : IrState)
        → Keeps seen 1 0 (SameNext IsSameState) (ir_steps fenced_cost may xs s) (ir_steps step_cost may (flat_map (fenced private) xs) s)
    fences_all hidden private [] s = beside_keeps seen sees 1 (SameNext IsSameState) {credit = 0} (give (both-go refl))
    fences_all hidden private (x ∷ xs) s =
        let rest = flat_map (fenced private) xs in
        let both = keeps_then seen sees 1 0 IsSameState IsSameState (ir_steps fenced_cost may xs) (ir_steps step_cost may rest)
        (λ a b same. subst (λ c. Keeps seen 1 0 (SameNext IsSameState) (ir_steps fenced_cost may xs a) (ir_steps step_cost may rest c)) same
        (fences_all hidden private xs a)) (fences_step hidden private x s) in
        subst (λ t. Keeps seen 1 0 (SameNext IsSameState) (ir_steps fenced_cost may (x ∷ xs) s) t) (sym (steps-append step_cost may (fenced private x) rest s))
        (subst (λ t. Keeps seen 1 0 (SameNext IsSameState) t (ir_steps step_cost may (fenced private x) s then ir_steps step_cost may rest)) (sym (steps-append fenced_cost may (x ∷ []) xs s)) both)

-- the steps with their fences mean the steps
pub fences_keep : (private : List Slot) (xs ys : List IrStep) → IsFenced private xs ys → KeepsPlaced xs ys
fences_keep private xs ys same may s =
    subst (λ l. Keeps placed 1 0 (SameNext IsSameState) (ir_steps fenced_cost may xs s) (ir_steps step_cost may l s)) (sym same)
    (fences_all placed sees-placed may (λ f. refl) private xs s)
