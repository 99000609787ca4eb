use Rattle.std.proofs.Common.{◌≡◌, ◌+◌, ◌*◌, take, map}
use Rattle.code_layout.specs.Places.{start_of}
use Rattle.code_layout.proofs.layout.thread_places.Given as goal

abbrev pub invariant-loop-entry : goal.invariant-loop-entry
invariant-loop-entry l = l.threads.items ≡ map (λ entry. l.code_address + 4 * start_of l.places entry) (take l.entry-index l.entries)
