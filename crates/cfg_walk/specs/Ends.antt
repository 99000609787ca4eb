-- Where instructions end, and the addresses that each placed instruction gives.
use Rattle.std.specs.Prelude.{ℕ, ◌<◌, ◌^◌, List, All}
use Rattle.x64_syntax.specs.declared.placed.Placed.{Placed}
use Rattle.cfg_walk.specs.Reach.{end_of}
use Rattle.cfg_walk.specs.Blocks.{led, called, returned_to}

-- each instruction ends at an address of 64 bits
abbrev pub EndLow : List Placed → Type 0
EndLow placed = All (λ (p : Placed). end_of p < 2 ^ 64) placed

-- where blocks begin for the sake of the instruction
abbrev pub led_by : Placed → List ℕ
led_by p = led p.instr p.flow (end_of p)

-- the target of the instruction, if it is a call that is not listed
abbrev pub called_by : Placed → List ℕ
called_by p = called p.instr p.flow (end_of p)

-- where the instruction returns to, if it is a call that is not listed
abbrev pub returned_by : Placed → List ℕ
returned_by p = returned_to p.instr p.flow (end_of p)
