-- What a reader answers of a text.
use Rattle.std.specs.Prelude.{Result, Ok, Err}
use Rattle.exec_text.specs.declared.fault.LineFault.{LineFault}
use Rattle.exec_text.specs.declared.fault.LineFault.TheVariants.{Kind, NoMemory}
use Rattle.exec_text.specs.declared.fault.TextKind.{TextKind}
use Rattle.exec_text.specs.declared.fault.TextKind.TheVariants.{Shape, Number}

-- what the text says, within the limits; or that it says nothing; or that it says something beyond the limits
abbrev pub Tells : {A : Type 0} → (A → Type 0) → (A → Type 0) → Result A TextKind → Type 0
Tells Says Small (Ok x) = Says x × Small x
Tells {A} Says Small (Err Shape) = (x : A) → Says x → ⊥
Tells {A} Says Small (Err Number) = (x : A) × Says x × (Small x → ⊥)

-- the same, unless memory ran out
abbrev pub Reads : {A : Type 0} → (A → Type 0) → (A → Type 0) → Result A LineFault → Type 0
Reads Says Small (Ok x) = Says x × Small x
Reads Says Small (Err (Kind kind)) = Tells Says Small (Err kind)
Reads Says Small (Err NoMemory) = Unit {0}
