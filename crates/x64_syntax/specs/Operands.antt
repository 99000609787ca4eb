-- Widths, and where an operand is.
use Rattle.std.specs.Prelude.{ℕ, Bool, true, false}
use Rattle.x64_syntax.specs.declared.operand.Operand.{Operand}
use Rattle.x64_syntax.specs.declared.operand.Operand.TheVariants as operand
use Rattle.x64_syntax.specs.declared.operand.Width.{Width}
use Rattle.x64_syntax.specs.declared.operand.Width.TheVariants as width

-- the bits of a width
abbrev pub bits : Width → ℕ
bits width.Byte = 8
bits width.Word = 16
bits width.Long = 32
bits width.Quad = 64

-- whether an operand is memory
abbrev pub is_in_memory : Operand → Bool
is_in_memory (operand.Mem m) = true
is_in_memory _ = false
