use Rattle.std.proofs.Common.{◌≡◌, ◌++◌, drop}
use Rattle.elf_format.specs.Fields.{spelled}
use Rattle.elf_format.proofs.field.push_fields.Given as goal

abbrev pub invariant-loop-field : goal.invariant-loop-field
invariant-loop-field l = l.out.items ++ spelled (drop l.field-index l.fields) ≡ l.initial.out.items ++ spelled l.fields
