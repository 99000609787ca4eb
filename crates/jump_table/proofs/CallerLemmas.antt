-- What callers of this crate cite.
use Rattle.std.proofs.Common.{◌≡◌, ◌≢◌, ◌<◌, ◌+◌, ℕ, ℤ, length, Option, Some, None, refl, sym, ap, ◌∙◌, subst}
use Rattle.std.specs.List.{slice_get}
use Rattle.x64_syntax.specs.declared.placed.Flow.TheVariants as flow
use Rattle.x64_syntax.specs.Formed.{IsFormed, IsFlowOf}
use Rattle.code_at.specs.Code.{Program}
use Rattle.code_at.proofs.CallerLemmas.{is_formed}
use Rattle.jump_table.specs.declared.entries.Table.{Table}
use Rattle.jump_table.specs.Instructions.{Stands, jump_through}
use Rattle.jump_table.specs.Pattern.{IsPattern, compared, copied, bounded, inside_of, Begins, IsToldTable}
-- an address begins one pattern at most, and its ja leads to one address
pub use Rattle.jump_table.proofs.OneTable.{one_pattern}
-- each instruction of a pattern but the jump stands, and control goes on behind it, at the next
pub use Rattle.jump_table.proofs.OrderLemmas.{GoesOnTo, pattern_goes_on}
-- one instruction stands at an address and ends once, behind it
pub use Rattle.jump_table.proofs.StepLemmas.{one_step}
pub use Rattle.jump_table.proofs.OrderLemmas.{stands_rises}
-- one instruction of a pattern stands just before another
pub use Rattle.jump_table.proofs.OrderLemmas.{one_before}
-- the ja of a pattern, which is its only conditional jump
pub use Rattle.jump_table.proofs.BranchLemmas.{Branch, branch_of, one_branch}
-- of two patterns that begin apart and end with one jump, the second enters the first inside
pub use Rattle.jump_table.proofs.OneJump.{one_jump}
-- how many entries there are, and where they end
pub use Rattle.jump_table.proofs.EntryLemmas.{few_entries, entry_low}
-- the entries as a list
pub use Rattle.jump_table.proofs.EntryLemmas.{length-entries_from, entries_from-get, entries_from-stands}
-- the bytes of the entries can be read and not written
pub use Rattle.jump_table.proofs.EntryLemmas.{fixed_cells}

-- so it has one table at most
pub one_table : (program : Program) (address : ℕ) (s t : Table) → Begins program address s → Begins program address t → s ≡ t
one_table program address s t one other = (one_pattern program s t one.target other.target one.pattern other.pattern
    (one.at ∙ sym other.at)).0

-- and one answer is true of it
pub one_answer : (program : Program) (address : ℕ) (o p : Option Table) → IsToldTable program address o
    → IsToldTable program address p → o ≡ p
one_answer program address (Some s) (Some t) one other = ap Some (one_table program address s t one other)
one_answer program address (Some s) None one other = absurd (other s one)
one_answer program address None (Some t) one other = absurd (one t other)
one_answer program address None None one other = refl

-- a pattern ends with its jump, whose operand is an entry of a table
pub jump_stands : (program : Program) (table : Table) (target : ℕ) → IsPattern program table target
    → (offset : ℤ) × (end : ℕ) × Stands program table.jump (jump_through table.index offset) end
jump_stands program table target (compared first branches jumps) = (jumps.offset, jumps.end, jumps.stands)
jump_stands program table target (copied narrow free first branches copies jumps) = (jumps.offset, jumps.end, jumps.stands)
jump_stands program table target (bounded sets first bounds branches jumps) = (jumps.offset, jumps.end, jumps.stands)

-- the jump is the last of the addresses inside
pub jump_inside : (program : Program) (table : Table) (target : ℕ) → IsPattern program table target
    → (count : ℕ) × (length (inside_of table) ≡ count + 1) × (slice_get (inside_of table) count ≡ Some table.jump)
jump_inside program table target (compared first branches jumps) = (1, refl, refl)
jump_inside program table target (copied narrow free first branches copies jumps) = (2, refl, refl)
jump_inside program table target (bounded sets first bounds branches jumps) = (2, refl, refl)

-- an index register is not rsp
pub index_free : (program : Program) (table : Table) (target : ℕ) → IsPattern program table target → (table.index < 16) × (table.index ≢ 4)
index_free program table target pattern =
    let jump = jump_stands program table target pattern in
    let formed = is_formed program table.jump jump.2.placed jump.2.stands in
    let operand : IsFormed (jump_through table.index jump.0) = subst IsFormed jump.2.is formed in
    operand.index

-- a table pattern's jump jumps through an entry
pub jump_is_entry : (r : ℕ) (offset : ℤ) → IsFlowOf (jump_through r offset) flow.TableJump
jump_is_entry r offset = (refl, (refl, (refl, refl)))
