-- What steps do, one behind the other.
use Rattle.std.specs.Prelude.{ℕ, ◌^◌, ◌%◌, ◌==◌, List, [], ◌∷◌, Some, None, if◌then◌else◌}
use Rattle.ev_graph.specs.declared.events.FenceKind.{FenceKind}
use Rattle.ev_graph.specs.declared.events.FenceKind.TheVariants as kinds
use Rattle.behavior.specs.Tree.{Tree, Next, ◌then◌, ticks}
use Rattle.behavior.specs.Acts.{Bank, put, Permission, goes, traps, reads, writes, exchanges, fences_at, takes_in, puts_out}
use Rattle.limm_ir.specs.Values.{op_value, rmw_value}
use Rattle.limm_ir.specs.declared.step.IrFence.{IrFence}
use Rattle.limm_ir.specs.declared.step.IrFence.TheVariants as fences
use Rattle.limm_ir.specs.declared.step.IrStep.{IrStep}
use Rattle.limm_ir.specs.declared.step.IrStep.TheVariants as steps
use Rattle.limm_ir.specs.declared.step.Temp.{Temp}

-- what a thread holds between two steps: the registers and flags of x86, and its temporaries
pub record IrState : Type 0 where
  pub regs : Bank
  pub flags : Bank
  pub temps : Bank

-- what a temporary holds
abbrev pub of : IrState → Temp → ℕ
of s t = s.temps t.0

-- the state in which it holds another value
abbrev pub set : Temp → ℕ → IrState → IrState
set t v s = record s { temps = put t.0 v s.temps }

-- a fence as it shows in runs
abbrev pub fence_of : IrFence → FenceKind
fence_of fences.Frm = kinds.Frm
fence_of fences.Fww = kinds.Fww
fence_of fences.Fsc = kinds.Fsc

-- what one step does
abbrev pub ir_step : Permission → IrStep → IrState → Tree (Next IrState)
ir_step may (steps.Const t v) s = goes (set t v s)
ir_step may (steps.GetReg t r) s = goes (set t (s.regs r) s)
ir_step may (steps.SetReg r t) s = goes (record s { regs = put r (of s t) s.regs })
ir_step may (steps.GetFlag t f) s = goes (set t (s.flags f) s)
ir_step may (steps.SetFlag f t) s = goes (record s { flags = put f (of s t) s.flags })
ir_step may (steps.Op op t a b) s = goes (set t (op_value op (of s a) (of s b)) s)
ir_step may (steps.Select t c a b) s = goes (set t (if of s c == 0 then of s b else of s a) s)
ir_step may (steps.Load t a size place) s = reads may place (of s a) size (λ v. goes (set t v s))
ir_step may (steps.Store a v size place) s = writes may place (of s a) size (of s v) (goes s)
ir_step may (steps.Rmw op t a v size place) s = exchanges may place (of s a) size (λ old. Some (rmw_value op old (of s v))) (λ old. goes (set t old s))
ir_step may (steps.Cas t a e v size place) s =
    exchanges may place (of s a) size (λ old. if old == of s e % 256 ^ size then Some (of s v) else None) (λ old. goes (set t old s))
ir_step may (steps.Fence f) s = fences_at (fence_of f) 0 (goes s)
ir_step may steps.Input s = takes_in 0 (λ v. goes (record s { regs = put 0 v s.regs }))
ir_step may steps.Output s = puts_out 0 (s.regs 7) (goes s)
ir_step may (steps.TrapIf t kind) s = if of s t == 0 then goes s else traps kind

-- Steps, one behind the other. Each begins as many instructions as it costs before it does anything.
abbrev pub ir_steps : (cost : IrStep → ℕ) → Permission → List IrStep → IrState → Tree (Next IrState)
ir_steps cost may [] s = goes s
ir_steps cost may (x ∷ xs) s = ticks (cost x) (ir_step may x s) then ir_steps cost may xs
