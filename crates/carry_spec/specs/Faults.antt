-- For which fault a file is refused.
use Rattle.std.specs.Prelude.{◌⊎◌, ◌+◌, ℕ, List}
use Rattle.elf_read.specs.declared.fault.FileFault.{FileFault}
use Rattle.elf_read.specs.declared.fault.FileFault.TheVariants.{UndefinedFlag}
use Rattle.elf_read.specs.FileFaults as file
use Rattle.elf_read.specs.FirstFault.{Clear, IsFirst, rank}
use Rattle.code_at.specs.Code.{program_in}
use Rattle.cfg_walk.specs.Faults as walk
use Rattle.flag_use.specs.Faults as flags

-- the fault holds of the bytes: one of the file, one of its code, or one of the flags that the code reads
abbrev pub Holds : List ℕ → FileFault → Type 0
Holds bytes f = file.Holds bytes f ⊎ (walk.Holds (program_in bytes) f ⊎ flags.Holds (program_in bytes) f)

-- no fault holds of the bytes
abbrev pub HasNoFault : List ℕ → Type 0
HasNoFault bytes = Clear (Holds bytes) 1 (rank (UndefinedFlag 0) + 1)

-- of all the faults that hold of the bytes this is the first
abbrev pub IsRefusedFor : List ℕ → FileFault → Type 0
IsRefusedFor bytes f = IsFirst (Holds bytes) 1 (rank (UndefinedFlag 0) + 1) f
