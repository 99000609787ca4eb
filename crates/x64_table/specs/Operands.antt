-- Operands that have a value of a width.
use Rattle.std.specs.Prelude.{◌<◌, ◌^◌}
use Rattle.x64_syntax.specs.Formed.{IsMemory, IsRegister}
use Rattle.x64_syntax.specs.Operands.{bits}
use Rattle.x64_syntax.specs.declared.operand.Operand.{Operand}
use Rattle.x64_syntax.specs.declared.operand.Operand.TheVariants as operand
use Rattle.x64_syntax.specs.declared.operand.Width.{Width}

-- a register of the width, memory, or a number of the width
abbrev pub IsSource : Width → Operand → Type 0
IsSource w (operand.Reg r) = IsRegister w r
IsSource w (operand.Mem m) = IsMemory m
IsSource w (operand.Imm n) = n < 2 ^ bits w

-- an operand that is well formed where it is memory
abbrev pub IsAddress : Operand → Type 0
IsAddress (operand.Mem m) = IsMemory m
IsAddress _ = Unit {0}
