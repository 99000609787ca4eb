-- What a block does is decided by the values that it reads and takes in.
use Rattle.std.proofs.Common.{ℕ, ◌^◌, ◌%◌, ◌==◌, Bool, true, false, List, [], ◌∷◌, Some, None}
use Rattle.std.specs.Prelude.{if◌then◌else◌}
use Rattle.ev_graph.specs.declared.events.Item.TheVariants as items
use Rattle.behavior.specs.Tree.{Tree, Next, ◌then◌, ticks}
use Rattle.behavior.specs.Acts.{put, Permission, goes, traps}
use Rattle.behavior.specs.Explained.{IsOpen}
use Rattle.behavior.proofs.ActsLemmas.{open_then, open_makes, open_reads, open_writes, open_exchanges, open_takes_in}
use Rattle.behavior.proofs.Ticks.{open_ticks}
use Rattle.limm_ir.specs.Values.{rmw_value}
use Rattle.limm_ir.specs.Steps.{IrState, of, set, fence_of, ir_step, ir_steps}
use Rattle.limm_ir.specs.Blocks.{ir_end, BlocksAreOpen}
use Rattle.limm_ir.specs.declared.block.IrEnd.{IrEnd}
use Rattle.limm_ir.specs.declared.block.IrEnd.TheVariants as ends
use Rattle.limm_ir.specs.declared.step.IrStep.{IrStep}
use Rattle.limm_ir.specs.declared.step.IrStep.TheVariants as steps

either : (b : Bool) (t u : Tree (Next IrState)) → IsOpen t → IsOpen u → IsOpen (if b then t else u)
either true t u first second = first
either false t u first second = second

step_open : (may : Permission) (x : IrStep) (s : IrState) → IsOpen (ir_step may x s)
step_open may (steps.Const t v) s = tt
step_open may (steps.GetReg t r) s = tt
step_open may (steps.SetReg r t) s = tt
step_open may (steps.GetFlag t f) s = tt
step_open may (steps.SetFlag f t) s = tt
step_open may (steps.Op op t a b) s = tt
step_open may (steps.Select t c a b) s = tt
step_open may (steps.Load t a size place) s = open_reads may place (of s a) size (λ v. goes (set t v s)) (λ v. tt)
step_open may (steps.Store a v size place) s = open_writes may place (of s a) size (of s v) (goes s) tt
step_open may (steps.Rmw op t a v size place) s =
    open_exchanges may place (of s a) size (λ old. Some (rmw_value op old (of s v))) (λ old. goes (set t old s)) (λ v. tt)
step_open may (steps.Cas t a e v size place) s =
    open_exchanges may place (of s a) size (λ old. if old == of s e % 256 ^ size then Some (of s v) else None) (λ old. goes (set t old s)) (λ v. tt)
step_open may (steps.Fence f) s = open_makes (items.Fence (record { kind = fence_of f; place = 0 })) (goes s) tt
step_open may steps.Input s = open_takes_in 0 (λ v. goes (record s { regs = put 0 v s.regs })) (λ v. tt)
step_open may steps.Output s = open_makes (items.Output (record { value = s.regs 7; place = 0 })) (goes s) tt
step_open may (steps.TrapIf t kind) s = either (of s t == 0) (goes s) (traps kind) tt tt

-- the values that steps read and take in decide what they do
pub steps_open : (cost : IrStep → ℕ) (may : Permission) (xs : List IrStep) (s : IrState) → IsOpen (ir_steps cost may xs s)
steps_open cost may [] s = tt
steps_open cost may (x ∷ xs) s =
    open_then (ticks (cost x) (ir_step may x s)) (ir_steps cost may xs) (open_ticks (cost x) (ir_step may x s) (step_open may x s)) (steps_open cost may xs)

end_open : (end : IrEnd) (s : IrState) → IsOpen (ir_end end s)
end_open (ends.Goto a) s = tt
end_open (ends.Branch t a b) s = tt
end_open (ends.Return t) s = tt
end_open (ends.Indexed t table) s = tt
end_open (ends.Stop kind) s = tt

-- and what a block does
pub blocks_open : BlocksAreOpen
blocks_open cost may xs end s = open_then (ir_steps cost may xs s) (ir_end end) (steps_open cost may xs s) (end_open end)
