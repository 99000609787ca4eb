-- Where an operand is that gets a value, as the code has it.
use Rattle.lift_alu.specs.Lifted.{Place, InRegister, InMemory, Nowhere}
use Rattle.lift_alu.specs.declared.access.There.{There}
use Rattle.lift_alu.specs.declared.access.There.TheVariants as there

-- the same as a place
abbrev pub place_of : There → Place
place_of (there.Register r) = InRegister r
place_of (there.Memory address) = InMemory address.0
place_of there.Nowhere = Nowhere
