use Rattle.std.proofs.Common.{◌≤◌, length}
use Rattle.lz_ports.proofs.disk_shelf.read_file.Given as goal

abbrev pub invariant-loop : goal.invariant-loop
invariant-loop g l = length l.bytes.items ≤ l.limit
