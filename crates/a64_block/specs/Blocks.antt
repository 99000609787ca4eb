-- What a block of words does: its items and its next state, from the values that it reads and takes in.
use Rattle.std.specs.Prelude.{◌≡◌, ◌<◌, ℕ, ◌%◌, ◌^◌, ◌==◌, List, if◌then◌else◌}
use Rattle.behavior.specs.Tree.{Tree, Next, ◌then◌}
use Rattle.behavior.specs.Acts.{Permission, traps}
use Rattle.behavior.specs.Leaving.{ToBlock, ToReturn, ToEntry, Left, leaves}
use Rattle.a64_code.specs.declared.instr.A64.{A64}
use Rattle.a64_table.specs.State.{Names, AState, value}
use Rattle.a64_table.specs.Rows.{a64_words}
use Rattle.a64_block.specs.Registers.{home}
use Rattle.a64_block.specs.declared.block.AEnd.{AEnd}
use Rattle.a64_block.specs.declared.block.AEnd.TheVariants as ends

-- the 64 bits that an end reads of a register
abbrev pub read_by_end : {R : Type 0} → Names R → AState → R → ℕ
read_by_end names s r = value names s r % 2 ^ 64

-- how a block ends
abbrev pub a64_end : {R : Type 0} → Names R → AEnd R → AState → Tree (Next (Left AState))
a64_end names (ends.Goto a) s = leaves (ToBlock a) s
a64_end names (ends.Branch r a b) s = leaves (ToBlock (if read_by_end names s r == 0 then b else a)) s
a64_end names (ends.Return r) s = leaves (ToReturn (read_by_end names s r)) s
a64_end names (ends.Indexed r table) s = leaves (ToEntry table (read_by_end names s r)) s
a64_end names (ends.Stop kind) s = traps kind

-- A block, whose first word stands at an address. Its branches lead to its words, or to its end.
abbrev pub a64_block : {R : Type 0} → Names R → Permission → (at : ℕ) → List (A64 R) → AEnd R → AState → Tree (Next (Left AState))
a64_block names may at ws end s = a64_words names may at ws 0 s then (λ next. a64_end names end next.1)

-- registers and flags of x86 are the same, as numbers and in the machine
abbrev pub SameNamed : AState → AState → Type 0
SameNamed s t = (n : ℕ) → n < 20 → t.regs (home n) ≡ s.regs n
