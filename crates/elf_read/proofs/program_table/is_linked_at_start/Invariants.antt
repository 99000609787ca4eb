use Rattle.std.proofs.Common.{◌≡◌, ◌<◌, ◌⊎◌, ℕ}
use Rattle.elf_read.specs.Fields.{program_header_at, p_type}
use Rattle.elf_read.proofs.program_table.is_linked_at_start.Given as goal

abbrev pub invariant-loop-number : goal.invariant-loop-number
invariant-loop-number l =
    (k : ℕ) → k < l.number → (p_type l.bytes (program_header_at l.bytes k) ≡ 2) ⊎ (p_type l.bytes (program_header_at l.bytes k) ≡ 3) → ⊥
