-- Jumps through tables of addresses, in the three forms in which a C compiler writes them for a switch.
use Rattle.std.specs.Prelude.{◌≡◌, ◌≢◌, ◌≤◌, ℕ, ◌+◌, ◌*◌, ℤ, List, [], ◌∷◌, take, slice_get, Option, Some, None}
use Rattle.std.specs.Int.{cast_unsigned, w64}
use Rattle.ev_graph.specs.Memory.{Part}
use Rattle.ev_graph.specs.Places.{StandsIn}
use Rattle.x64_syntax.specs.declared.instr.Instr.{Instr}
use Rattle.x64_syntax.specs.declared.operand.Width.{Width}
use Rattle.x64_syntax.specs.declared.operand.Width.TheVariants as width
use Rattle.code_at.specs.Code.{Program, target_from}
use Rattle.jump_table.specs.declared.entries.Table.{Table}
use Rattle.jump_table.specs.Entries.{AreFixed}
use Rattle.jump_table.specs.Instructions.{Stands, compare, above, copy, jump_through, Sets}

-- r, which is not rsp, may index the table at an address up to n, which is at most 4,095: the entries are never written
pub record IsIndexed (parts : List Part) (base r n : ℕ) : Type 0 where
  pub free : r ≢ 4
  pub few : n ≤ 4095
  pub fixed : AreFixed parts base (8 * (n + 1))

-- jmp [r*8+T] stands at the address, and r may index the table at T up to n. T is the displacement modulo 2^64.
pub record Jumps (program : Program) (address r n base : ℕ) : Type 0 where
  pub offset : ℤ
  pub end : ℕ
  pub stands : Stands program address (jump_through r offset) end
  pub is : base ≡ cast_unsigned w64 offset
  pub indexed : IsIndexed program.parts base r n

-- the table of a pattern of three instructions
abbrev pub short_table : (first branch jump r base n : ℕ) → Table
short_table first branch jump r base n =
    record { first = first; jump = jump; inside = branch ∷ jump ∷ 0 ∷ []; inside_count = 2; index = r; base = base; count = n + 1 }

-- the table of a pattern of four
abbrev pub long_table : (first second third jump r base n : ℕ) → Table
long_table first second third jump r base n =
    record { first = first; jump = jump; inside = second ∷ third ∷ jump ∷ []; inside_count = 3; index = r; base = base; count = n + 1 }

-- The table of a pattern, and the address to which its ja leads. A pattern is one of
--   compared    cmp r, N in 64 bits; ja; jmp [r*8+T]
--   copied      cmp q, N in fewer bits; ja; r gets q; jmp [r*8+T]. Here q is not rsp, and may be r.
--   bounded     r is set to 32 bits; cmp r, N in 32 bits; ja; jmp [r*8+T]
-- N is a number without sign, of the width that is compared.
pub data IsPattern (program : Program) : Table → (target : ℕ) → Type 0 where
  compared : {a b c r n d base : ℕ}
      → Stands program a (compare width.Quad r n) b → Stands program b (above d) c → Jumps program c r n base
      → IsPattern program (short_table a b c r base n) (target_from c d)
  copied : {a b c e q r n d base : ℕ} {w : Width} → w ≢ width.Quad → q ≢ 4
      → Stands program a (compare w q n) b → Stands program b (above d) c → Stands program c (copy w r q) e → Jumps program e r n base
      → IsPattern program (long_table a b c e r base n) (target_from c d)
  bounded : {a b c e r n d base : ℕ} {i : Instr} → Sets r i
      → Stands program a i b → Stands program b (compare width.Long r n) c → Stands program c (above d) e → Jumps program e r n base
      → IsPattern program (long_table a b c e r base n) (target_from e d)

-- the addresses of a pattern's instructions after the first
abbrev pub inside_of : Table → List ℕ
inside_of table = take table.inside_count table.inside

-- the instruction at `a` is the one of the pattern just before that at `x`
pub record IsJustBefore (table : Table) (a x : ℕ) : Type 0 where
  pub place : ℕ
  pub before : slice_get (table.first ∷ inside_of table) place ≡ Some a
  pub behind : slice_get (inside_of table) place ≡ Some x

-- the second pattern enters the first inside: at an address inside the first, and from elsewhere than that does
pub record EntersInside (table other : Table) : Type 0 where
  pub from : ℕ
  pub inside : ℕ
  pub stands : StandsIn (inside_of table) inside
  pub enters : IsJustBefore other from inside
  pub elsewhere : IsJustBefore table from inside → ⊥

-- the table is that of a pattern
abbrev pub IsTable : Program → Table → Type 0
IsTable program table = (target : ℕ) × IsPattern program table target

-- a pattern begins at the address, and this is its table
pub record Begins (program : Program) (address : ℕ) (table : Table) : Type 0 where
  pub at : table.first ≡ address
  pub target : ℕ
  pub pattern : IsPattern program table target

-- what is told of an address: the table of the pattern that begins there, or that none does
abbrev pub IsToldTable : Program → ℕ → Option Table → Type 0
IsToldTable program address (Some table) = Begins program address table
IsToldTable program address None = (table : Table) → Begins program address table → ⊥
