-- The order of a file's faults, and what it is to be the first.
use Rattle.std.specs.Prelude.{◌≡◌, ◌<◌, ◌≤◌, ◌⊎◌, ℕ, Result, Ok, Err}
use Rattle.elf_read.specs.declared.fault.FileFault.{FileFault}
use Rattle.elf_read.specs.declared.fault.FileFault.TheVariants.{TooLong, Short, Magic, Class, BadType, Machine, ProgramTable, Segment, TooBig, SymbolTable, NoThread, DoubleName, TooMuchCode, BadCode, Indirect, Overlap, TableEntered, UndefinedFlag}
use Rattle.elf_read.specs.declared.fault.TransFault.{TransFault}
use Rattle.elf_read.specs.declared.fault.TransFault.TheVariants.{File, NoMemory}

-- faults of different kinds come in this order
abbrev pub rank : FileFault → ℕ
rank TooLong = 1
rank Short = 2
rank Magic = 3
rank Class = 4
rank (BadType kind) = 5
rank (Machine machine) = 6
rank ProgramTable = 7
rank (Segment i) = 8
rank TooBig = 9
rank SymbolTable = 10
rank NoThread = 11
rank (DoubleName i) = 12
rank TooMuchCode = 13
rank (BadCode fault) = 14
rank (Indirect a) = 15
rank (Overlap a) = 16
rank (TableEntered a) = 17
rank (UndefinedFlag a) = 18

-- faults of one kind come in the order of their places: a number of an entry or a symbol, or an address
abbrev pub place : FileFault → ℕ
place TooLong = 0
place Short = 0
place Magic = 0
place Class = 0
place (BadType kind) = 0
place (Machine machine) = 0
place ProgramTable = 0
place (Segment i) = i
place TooBig = 0
place SymbolTable = 0
place NoThread = 0
place (DoubleName i) = i
place TooMuchCode = 0
place (BadCode fault) = fault.address
place (Indirect a) = a
place (Overlap a) = a
place (TableEntered a) = a
place (UndefinedFlag a) = a

-- one fault comes before another
abbrev pub Before : FileFault → FileFault → Type 0
Before g f = (rank g < rank f) ⊎ ((rank g ≡ rank f) × (place g < place f))

-- By a condition for each fault: no fault holds whose rank is `low` or above and below `high`
abbrev pub Clear : (FileFault → Type 0) → ℕ → ℕ → Type 0
Clear condition low high = (g : FileFault) → low ≤ rank g → rank g < high → condition g → ⊥

-- of the faults with such ranks this one holds, and none before it
pub record IsFirst (condition : FileFault → Type 0) (low high : ℕ) (f : FileFault) : Type 0 where
  pub holds : condition f
  pub from : low ≤ rank f
  pub below : rank f < high
  pub first : (g : FileFault) → low ≤ rank g → Before g f → condition g → ⊥

-- a call that looks for the faults with such ranks refuses exactly for the first that holds
abbrev pub Looks : {A : Type 0} → (FileFault → Type 0) → ℕ → ℕ → Result A FileFault → Type 0
Looks condition low high (Ok x) = Clear condition low high
Looks condition low high (Err f) = IsFirst condition low high f

-- the same where memory may be wanting
abbrev pub LooksFor : {A : Type 0} → (FileFault → Type 0) → ℕ → ℕ → Result A TransFault → Type 0
LooksFor condition low high (Ok x) = Clear condition low high
LooksFor condition low high (Err (File f)) = IsFirst condition low high f
LooksFor condition low high (Err NoMemory) = Unit {0}
