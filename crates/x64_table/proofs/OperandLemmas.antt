-- Operands of formed instructions, and what narrower words of an extension are.
use Rattle.std.proofs.Common.{◌≡◌, ℕ, ◌≤◌, ◌^◌, ◌%◌, inl, inr, arith}
use Rattle.word_arith.specs.Signed.{sign_extend, signed}
use Rattle.word_arith.proofs.CallerLemmas.{low_bits-mod}
use Rattle.x64_syntax.specs.Operands.{bits}
use Rattle.x64_syntax.specs.Formed.{ArePair, IsCount, IsInMemory, IsInRegister, IsNumber, IsStored}
use Rattle.x64_syntax.specs.declared.operand.Operand.{Operand}
use Rattle.x64_syntax.specs.declared.operand.Operand.TheVariants as operand
use Rattle.x64_syntax.specs.declared.operand.Width.{Width}
use Rattle.x64_syntax.specs.declared.operand.Width.TheVariants as width
use Rattle.x64_table.specs.Operands.{IsAddress, IsSource}

pub source_address : (w : Width) (o : Operand) → IsSource w o → IsAddress o
source_address w (operand.Reg r) source = tt
source_address w (operand.Mem m) source = source
source_address w (operand.Imm n) source = tt

-- a number extended to 64 bits and cut is its extension, or the number cut
pub extended_cut : (v w : Width) (a : ℕ) → sign_extend 64 (bits w) a % 2 ^ bits v ≡ sign_extend (bits v) (bits w) a
extended_cut v w a = low_bits-mod 64 (bits v) (signed (bits w) a) (within v)
  where
    within : (v : Width) → bits v ≤ 64
    within width.Byte = omega arith
    within width.Word = omega arith
    within width.Long = omega arith
    within width.Quad = omega arith

pub stored_source : (w : Width) (o : Operand) → IsStored w o → IsSource w o
stored_source w (operand.Reg r) stored = stored
stored_source w (operand.Mem m) stored = stored
stored_source w (operand.Imm n) stored = absurd stored

pub register_source : (w : Width) (o : Operand) → IsInRegister w o → IsSource w o
register_source w (operand.Reg r) here = here
register_source w (operand.Mem m) here = absurd here
register_source w (operand.Imm n) here = absurd here

pub number_source : (w : Width) (o : Operand) → IsNumber w o → IsSource w o
number_source w (operand.Reg r) here = absurd here
number_source w (operand.Mem m) here = absurd here
number_source w (operand.Imm n) here = here

pub memory_source : (w : Width) (o : Operand) → IsInMemory o → IsSource w o
memory_source w (operand.Reg r) here = absurd here
memory_source w (operand.Mem m) here = here
memory_source w (operand.Imm n) here = absurd here

pub count_source : (o : Operand) → IsCount o → IsSource width.Byte o
count_source (operand.Reg r) here = record { number = omega (arith, here.0); high = λ set. absurd cc }
count_source (operand.Mem m) here = absurd here
count_source (operand.Imm n) here = omega (arith, here)

-- both operands of a pair have values
pub pair_sources : (w : Width) (to from : Operand) → ArePair w to from → IsSource w to × IsSource w from
pair_sources w to from (inl here) = (stored_source w to here.0, register_source w from here.1)
pair_sources w to from (inr (inl here)) = (register_source w to here.0, stored_source w from here.1)
pair_sources w to from (inr (inr here)) = (stored_source w to here.0, number_source w from here.1)
