-- The names that count: those of the listed calls and of the threads.
use Rattle.std.specs.Prelude.{◌≡◌, ◌<◌, ℕ, List, Option, None, get_or}
use Rattle.elf_read.specs.declared.listed.Listed.{Listed}
use Rattle.elf_read.specs.declared.listed.Listed.TheVariants.{Input, Output, Thread}
use Rattle.elf_read.specs.declared.listing.Listing.{Listing}
use Rattle.elf_read.specs.ElfFile.{input_name, output_name, thread_name, value_from}

-- the name itself
abbrev pub name_of : Listed → List ℕ
name_of Input = input_name
name_of Output = output_name
name_of (Thread k) = thread_name k

-- threads are numbered from 0 to 15
abbrev pub IsListed : Listed → Type 0
IsListed Input = Unit {0}
IsListed Output = Unit {0}
IsListed (Thread k) = k < 16

-- what a listing has under a name
abbrev pub listed_value : Listing → Listed → Option ℕ
listed_value listing Input = listing.input
listed_value listing Output = listing.output
listed_value listing (Thread k) = get_or listing.threads k None

-- a listing has the values of the first symbols of the listed names among the first `count` symbols
abbrev pub Lists : List ℕ → List ℕ → ℕ → Listing → Type 0
Lists symbols strings count listing = (name : Listed) → IsListed name → listed_value listing name ≡ value_from (name_of name) symbols strings 0 count
