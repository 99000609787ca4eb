use Rattle.std.proofs.Common.{◌≡◌, ◌+◌, ℕ, drop}
use Rattle.std.specs.Prelude.{option_map}
use Rattle.lz_ports.specs.Memories.{place_of}
use Rattle.lz_ports.proofs.memory_shelf.place_of.Given as goal

abbrev pub invariant-loop-place : goal.invariant-loop-place
invariant-loop-place l = option_map (λ (k : ℕ). l.place + k) (place_of (drop l.place l.files) l.name) ≡ place_of l.files l.name
