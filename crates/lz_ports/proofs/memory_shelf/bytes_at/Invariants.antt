use Rattle.std.proofs.Common.{◌≡◌, drop}
use Rattle.lz_ports.specs.Memories.{file_at}
use Rattle.lz_ports.proofs.memory_shelf.bytes_at.Given as goal

abbrev pub invariant-loop-file : goal.invariant-loop-file
invariant-loop-file l = file_at (drop l.file-index l.files) l.name ≡ file_at l.files l.name
