-- What is looked for on the way to a table jump.
use Rattle.std.specs.Prelude.{◌≡◌, ◌≢◌, ℕ, ℤ, Option, Some, None}
use Rattle.std.specs.Int.{cast_unsigned, w64}
use Rattle.x64_syntax.specs.declared.instr.Instr.{Instr}
use Rattle.x64_syntax.specs.declared.operand.Width.{Width}
use Rattle.x64_syntax.specs.declared.operand.Width.TheVariants as width
use Rattle.code_at.specs.Code.{Program}
use Rattle.jump_table.specs.declared.steps.Step.{Step}
use Rattle.jump_table.specs.declared.steps.Bound.{Bound}
use Rattle.jump_table.specs.declared.instructions.Compare.{Compare}
use Rattle.jump_table.specs.declared.steps.CopyTo.{CopyTo}
use Rattle.jump_table.specs.declared.forms.Form.{Form}
use Rattle.jump_table.specs.declared.forms.Form.TheVariants as form
use Rattle.jump_table.specs.Instructions.{Stands, compare, above, copy, jump_through, Sets}

-- what is found is such a thing; where nothing is found there is none
abbrev pub Finds : {A : Type 0} → (A → Type 0) → Option A → Type 0
Finds P (Some found) = P found
Finds {A} P None = (x : A) → P x → ⊥

-- this step is at the address
abbrev pub IsStep : Program → ℕ → Step → Type 0
IsStep program address step = Stands program address step.instr step.end

-- a ja from the address to another
pub record GoesAbove (program : Program) (address end : ℕ) : Type 0 where
  pub displacement : ℕ
  pub stands : Stands program address (above displacement) end

-- the copy of a register of this width that is made at the address
abbrev pub MakesCopy : Program → (address : ℕ) → Width → (from : ℕ) → CopyTo → Type 0
MakesCopy program address w from found = Stands program address (copy w found.index from) found.end

-- r is set to 32 bits at the address
pub record SetsAt (program : Program) (address r end : ℕ) : Type 0 where
  pub instr : Instr
  pub sets : Sets r instr
  pub stands : Stands program address instr end

-- the comparison of a register in 32 bits with a number that is made at the address
abbrev pub BoundsAt : Program → (address r : ℕ) → Bound → Type 0
BoundsAt program address r found = Stands program address (compare width.Long r found.number) found.end

-- the instruction compares so
abbrev pub Compares : Instr → Compare → Type 0
Compares i found = i ≡ compare found.width found.register found.bound

-- this comparison stands at the address
abbrev pub ComparesAt : Program → (address : ℕ) → Compare → (end : ℕ) → Type 0
ComparesAt program address found end = Stands program address (compare found.width found.register found.bound) end

-- the instruction is jmp [r*8+base]
pub record GoesThrough (i : Instr) (r base : ℕ) : Type 0 where
  pub offset : ℤ
  pub is : i ≡ jump_through r offset
  pub displaced : base ≡ cast_unsigned w64 offset

-- the form of the pattern that may begin with an instruction
abbrev pub MayBegin : Instr → Form → Type 0
MayBegin i (form.Compared found) = (found.width ≡ width.Quad) × Compares i found
MayBegin i (form.Copied found) = (found.width ≢ width.Quad) × Compares i found
MayBegin i (form.Bounded r) = Sets r i
