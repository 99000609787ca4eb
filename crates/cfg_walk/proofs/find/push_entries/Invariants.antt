use Rattle.std.proofs.Common.{◌≡◌, ◌++◌}
use Rattle.elf_read.specs.Elf.{parts_of}
use Rattle.jump_table.specs.Entries.{entries_from}
use Rattle.cfg_walk.proofs.find.push_entries.Given as goal

abbrev pub invariant-loop-k : goal.invariant-loop-k
invariant-loop-k l = l.into.items ≡ l.initial.into.items ++ entries_from (parts_of l.elf) l.table.base l.k
