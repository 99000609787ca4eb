-- Which operands of steps have a number of 32 bits, and which numbers of steps fit 64 bits.
use Rattle.std.specs.Prelude.{ℕ, ◌^◌, ◌<◌}
use Rattle.limm_ir.specs.declared.block.IrEnd.{IrEnd}
use Rattle.limm_ir.specs.declared.block.IrEnd.TheVariants as ends
use Rattle.limm_ir.specs.declared.step.IrStep.{IrStep}
use Rattle.limm_ir.specs.declared.step.IrStep.TheVariants as steps

-- a temporary's number is small
abbrev pub IsSmall : ℕ → Type 0
IsSmall t = t < 2 ^ 25

-- the temporaries of a step have small numbers
abbrev pub HasSmall : IrStep → Type 0
HasSmall (steps.Const t v) = IsSmall t.0
HasSmall (steps.GetReg t r) = IsSmall t.0
HasSmall (steps.SetReg r t) = IsSmall t.0
HasSmall (steps.GetFlag t f) = IsSmall t.0
HasSmall (steps.SetFlag f t) = IsSmall t.0
HasSmall (steps.Op op t a b) = IsSmall t.0 × IsSmall a.0 × IsSmall b.0
HasSmall (steps.Select t c a b) = IsSmall t.0 × IsSmall c.0 × IsSmall a.0 × IsSmall b.0
HasSmall (steps.Load t a size place) = IsSmall t.0 × IsSmall a.0
HasSmall (steps.Store a v size place) = IsSmall a.0 × IsSmall v.0
HasSmall (steps.Rmw op t a v size place) = IsSmall t.0 × IsSmall a.0 × IsSmall v.0
HasSmall (steps.Cas t a e v size place) = IsSmall t.0 × IsSmall a.0 × IsSmall e.0 × IsSmall v.0
HasSmall (steps.TrapIf t kind) = IsSmall t.0
HasSmall x = Unit {0}

-- the number of a step fits 64 bits
abbrev pub Fits : IrStep → Type 0
Fits (steps.Const t v) = v < 2 ^ 64
Fits x = Unit {0}

-- the temporary of an end has a small number
abbrev pub HasSmallEnd : IrEnd → Type 0
HasSmallEnd (ends.Branch t a b) = IsSmall t.0
HasSmallEnd (ends.Return t) = IsSmall t.0
HasSmallEnd (ends.Indexed t table) = IsSmall t.0
HasSmallEnd end = Unit {0}
