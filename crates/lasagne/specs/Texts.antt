-- The lines that are printed; each ends with a line feed.
use Rattle.std.specs.Prelude.{ℕ, List, [], ◌∷◌, ◌++◌, codes, decimal, false}
use Rattle.std.specs.Fmt.{digits}
use Rattle.elf_read.specs.declared.fault.BadCodeKind.{BadCodeKind}
use Rattle.elf_read.specs.declared.fault.BadCodeKind.TheVariants as kind
use Rattle.elf_read.specs.declared.fault.FileFault.{FileFault}
use Rattle.elf_read.specs.declared.fault.FileFault.TheVariants as file
use Rattle.carry_spec.specs.declared.summary.Summary.{Summary}

abbrev pub line : List ℕ → List ℕ
line text = text ++ 10 ∷ []

abbrev pub usage_line : List ℕ
usage_line = line (codes "usage: lasagne translate IN OUT, match IN OUT EXEC, plan IN, try N")

-- an address: lower-case hexadecimal, without leading zeros
abbrev pub hex : ℕ → List ℕ
hex n = digits 16 false n

-- why no instruction begins at an address
abbrev pub kind_name : BadCodeKind → List ℕ
kind_name kind.Listed = codes "Listed"
kind_name kind.Outside = codes "Outside"
kind_name kind.Cut = codes "Cut"
kind_name kind.Unknown = codes "Unknown"
kind_name kind.TooLong = codes "TooLong"

-- the name of a fault of files, and its place
abbrev pub file_fault_text : FileFault → List ℕ
file_fault_text file.TooLong = codes "TooLong"
file_fault_text file.Short = codes "Short"
file_fault_text file.Magic = codes "Magic"
file_fault_text file.Class = codes "Class"
file_fault_text (file.BadType kind) = codes "BadType " ++ decimal kind
file_fault_text (file.Machine machine) = codes "Machine " ++ decimal machine
file_fault_text file.ProgramTable = codes "ProgramTable"
file_fault_text (file.Segment i) = codes "Segment " ++ decimal i
file_fault_text file.TooBig = codes "TooBig"
file_fault_text file.SymbolTable = codes "SymbolTable"
file_fault_text file.NoThread = codes "NoThread"
file_fault_text (file.DoubleName i) = codes "DoubleName " ++ decimal i
file_fault_text file.TooMuchCode = codes "TooMuchCode"
file_fault_text (file.BadCode fault) = codes "BadCode " ++ (hex fault.address ++ (codes " " ++ kind_name fault.kind))
file_fault_text (file.Indirect a) = codes "Indirect " ++ hex a
file_fault_text (file.Overlap a) = codes "Overlap " ++ hex a
file_fault_text (file.TableEntered a) = codes "TableEntered " ++ hex a
file_fault_text (file.UndefinedFlag a) = codes "UndefinedFlag " ++ hex a

-- the line that tells why a file is refused
abbrev pub refused_line : FileFault → List ℕ
refused_line fault = line (codes "refused " ++ file_fault_text fault)

-- numbers in decimal, each with the text behind it
abbrev pub counts_text : List (ℕ × List ℕ) → List ℕ
counts_text [] = []
counts_text (count ∷ counts) = (decimal count.0 ++ count.1) ++ counts_text counts

abbrev pub summary_text : Summary → List ℕ
summary_text s = counts_text (
    (s.threads, codes " threads, ") ∷ (s.instructions, codes " instructions, ") ∷ (s.blocks, codes " blocks, ") ∷ (s.accesses, codes " accesses, ")
    ∷ (s.private, codes " private, ") ∷ (s.frm, codes " frm, ") ∷ (s.fww, codes " fww, ") ∷ (s.fsc, codes " fsc") ∷ [])

abbrev pub translated_line : Summary → List ℕ
translated_line s = line (codes "translated " ++ summary_text s)

-- the name under which the image of a made file is put
abbrev pub try_name : List ℕ
try_name = codes "try.elf"

abbrev pub tried_line : ℕ → Summary → List ℕ
tried_line rounds s = line (codes "tried " ++ (decimal rounds ++ (codes ": " ++ summary_text s)))
