-- What a block does: its items and its next state, from the values that it reads and takes in.
use Rattle.std.specs.Prelude.{ℕ, ◌==◌, List, if◌then◌else◌}
use Rattle.behavior.specs.Tree.{Tree, Next, ◌then◌}
use Rattle.behavior.specs.Acts.{Permission, traps}
use Rattle.behavior.specs.Leaving.{ToBlock, ToReturn, ToEntry, Left, leaves}
use Rattle.behavior.specs.Explained.{IsOpen}
use Rattle.limm_ir.specs.Steps.{IrState, of, ir_steps}
use Rattle.limm_ir.specs.declared.block.IrEnd.{IrEnd}
use Rattle.limm_ir.specs.declared.block.IrEnd.TheVariants as ends
use Rattle.limm_ir.specs.declared.step.IrStep.{IrStep}

-- how a block ends
abbrev pub ir_end : IrEnd → IrState → Tree (Next (Left IrState))
ir_end (ends.Goto a) s = leaves (ToBlock a) s
ir_end (ends.Branch t a b) s = leaves (ToBlock (if of s t == 0 then b else a)) s
ir_end (ends.Return t) s = leaves (ToReturn (of s t)) s
ir_end (ends.Indexed t table) s = leaves (ToEntry table (of s t)) s
ir_end (ends.Stop kind) s = traps kind

-- a block, from a state on, by what its steps cost
abbrev pub ir_block : (cost : IrStep → ℕ) → Permission → List IrStep → IrEnd → IrState → Tree (Next (Left IrState))
ir_block cost may xs end s = ir_steps cost may xs s then ir_end end

-- What a block does is decided by the values that it reads and takes in.
abbrev pub BlocksAreOpen : Type 0
BlocksAreOpen = (cost : IrStep → ℕ) (may : Permission) (xs : List IrStep) (end : IrEnd) (s : IrState) → IsOpen (ir_block cost may xs end s)
