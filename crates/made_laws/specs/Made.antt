-- What is said of the files that are made of a number of rounds.
use Rattle.std.specs.Prelude.{◌≡◌, ℕ, ◌≤◌, List, [], ◌∷◌, length, replicate, None}
use Rattle.ev_graph.specs.Memory.{Part}
use Rattle.elf_read.specs.declared.fault.FileFault.TheVariants.{TooMuchCode}
use Rattle.elf_read.specs.FileFaults.{Holds}
use Rattle.elf_read.specs.FirstFault.{Clear, rank}
use Rattle.gen_input.specs.Made.{made_code, made_file}
use Rattle.code_at.specs.Code.{Program, program_in}
use Rattle.carry_spec.specs.Faults.{HasNoFault}

-- no fault of a file holds of them, up to those of its code
abbrev pub MadeFilesHaveNoFileFault : Type 0
MadeFilesHaveNoFileFault = (n : ℕ) → 1 ≤ n → n ≤ 20000 → Clear (Holds (made_file n)) 1 (rank TooMuchCode)

-- the segment of this code, which may be read and executed
abbrev pub code_part : List ℕ → Part
code_part code = record { address = 0x401000; size = length code; flags = 5; bytes = code }

-- that of the cells, which may be read and written
abbrev pub cells_part : Part
cells_part = record { address = 0x800000; size = 64; flags = 6; bytes = replicate 64 0 }

-- both segments, two threads that begin with the code, and no listed call
abbrev pub made_program : ℕ → Program
made_program n =
    record { parts = code_part (made_code n) ∷ cells_part ∷ []; entries = 0x401000 ∷ 0x401000 ∷ []; input = None; output = None }

-- this is the program that their bytes say
abbrev pub MadeFilesSayPrograms : Type 0
MadeFilesSayPrograms = (n : ℕ) → n ≤ 20000 → program_in (made_file n) ≡ made_program n

-- no fault holds of them: neither of the file, nor of its code, nor of the flags that the code reads
abbrev pub MadeFilesHaveNoFault : Type 0
MadeFilesHaveNoFault = (n : ℕ) → 1 ≤ n → n ≤ 20000 → HasNoFault (made_file n)
