-- The code of a program: the bytes that may be executed, and the one instruction that stands at an address, or why none does.
use Rattle.std.specs.Prelude.{◌≡◌, ◌≢◌, ◌≤◌, ◌<◌, ◌^◌, ◌%◌, ℕ, ◌+◌, ◌-◌, Bool, false, ◌&&◌, ◌==◌, nat_le, nat_lt, List, [], ◌∷◌, ◌++◌, length, drop, take, replicate, IsTrue, Option, Some, None, Result, Ok, Err, if◌then◌else◌}
use Rattle.ev_graph.specs.Memory.{Part, has_flag}
use Rattle.ev_graph.specs.Places.{StandsIn}
use Rattle.x64_syntax.specs.declared.instr.Instr.{Instr}
use Rattle.x64_syntax.specs.declared.instr.Instr.TheVariants as instr
use Rattle.x64_syntax.specs.declared.placed.Flow.{Flow}
use Rattle.x64_syntax.specs.declared.placed.Flow.TheVariants as flow
use Rattle.x64_syntax.specs.declared.placed.Placed.{Placed}
use Rattle.x64_decode.specs.declared.decode.DecodeFault.{DecodeFault}
use Rattle.x64_decode.specs.declared.decode.DecodeFault.TheVariants as decode_fault
use Rattle.x64_decode.specs.Spelling.{Spells, Answers}
use Rattle.elf_read.specs.declared.elf.Elf.{Elf}
use Rattle.elf_read.specs.declared.fault.BadCodeKind.{BadCodeKind}
use Rattle.elf_read.specs.declared.fault.BadCodeKind.TheVariants.{Listed, Outside, Cut, Unknown, TooLong}
use Rattle.elf_read.specs.Elf.{parts_of}
use Rattle.elf_read.specs.ElfFile.{segments_of, threads_of, address_of, input_name, output_name}

-- the bytes that the memory of a part begins with
abbrev pub memory_bytes : Part → List ℕ
memory_bytes part = take part.size part.bytes ++ replicate (part.size - length part.bytes) 0

-- the bytes from an address to the end of the executable part in which it lies; none where it lies in none
abbrev pub code_from : List Part → ℕ → List ℕ
code_from [] address = []
code_from (part ∷ parts) address =
    if has_flag part.flags 1 && (nat_le part.address address && nat_lt address (part.address + part.size))
    then drop (address - part.address) (memory_bytes part)
    else code_from parts address

-- what is read of a program: its parts, where its threads begin, and where its listed calls are
pub record Program : Type 0 where
  pub parts : List Part
  pub entries : List ℕ
  pub input : Option ℕ
  pub output : Option ℕ

-- the program that was read from a file
abbrev pub program_of : Elf → Program
program_of elf = record { parts = parts_of elf; entries = elf.threads; input = elf.input; output = elf.output }

-- the program that the bytes of a file say
abbrev pub program_in : List ℕ → Program
program_in bytes =
    record { parts = segments_of bytes; entries = threads_of bytes; input = address_of bytes input_name; output = address_of bytes output_name }

-- whether the address is given and is this one
abbrev pub is_at : Option ℕ → ℕ → Bool
is_at None address = false
is_at (Some there) address = there == address

-- the listed call at an address, that of inputs where both are there; Plain where none is
abbrev pub listed_at : Program → ℕ → Flow
listed_at program address =
    if is_at program.input address then flow.ListedIn else (if is_at program.output address then flow.ListedOut else flow.Plain)

-- a listed call begins at the address
abbrev pub IsListed : Program → ℕ → Type 0
IsListed program address = listed_at program address ≢ flow.Plain

-- where a displacement leads from the end of an instruction
abbrev pub target_from : ℕ → ℕ → ℕ
target_from end displacement = (end + displacement) % 2 ^ 64

-- how control goes on after an instruction that ends at this address: a call of a listed call and a jump to one are listed
abbrev pub flow_of : Program → ℕ → Instr → Flow
flow_of program end (instr.Call displacement) = listed_at program (target_from end displacement)
flow_of program end (instr.Jmp displacement) = listed_at program (target_from end displacement)
flow_of program end i = flow.Plain

-- the address lies in a part that may be executed
pub record IsInCode (parts : List Part) (address : ℕ) : Type 0 where
  pub part : Part
  pub stands : StandsIn parts part
  pub executable : IsTrue (has_flag part.flags 1)
  pub from : part.address ≤ address
  pub below : address < part.address + part.size

-- This instruction stands at the address: its spelling, of at most 15 bytes, begins the code from there, and no listed
-- call begins there.
pub record StandsAt (program : Program) (address : ℕ) (p : Placed) : Type 0 where
  pub here : p.address ≡ address
  pub unlisted : IsListed program address → ⊥
  pub short : p.length ≤ 15
  pub within : p.length ≤ length (code_from program.parts address)
  pub spelled : Spells (take p.length (code_from program.parts address)) p.instr
  pub flows : p.flow ≡ flow_of program (address + p.length) p.instr

-- the address lies in code where no listed call begins, and the decoder refuses the bytes from there on for this fault
pub record IsRefused (program : Program) (address : ℕ) (fault : DecodeFault) : Type 0 where
  pub unlisted : IsListed program address → ⊥
  pub inside : IsInCode program.parts address
  pub refused : Answers (take 15 (code_from program.parts address)) (Err fault)

-- no instruction stands at the address, for this reason
abbrev pub IsBad : Program → ℕ → BadCodeKind → Type 0
IsBad program address Listed = IsListed program address
IsBad program address Outside = (IsListed program address → ⊥) × (IsInCode program.parts address → ⊥)
IsBad program address Cut = IsRefused program address decode_fault.Cut
IsBad program address Unknown = IsRefused program address decode_fault.Unknown
IsBad program address TooLong = IsRefused program address decode_fault.TooLong

-- what is told of an address: the instruction that stands there, or why none does
abbrev pub IsToldAt : Program → ℕ → Result Placed BadCodeKind → Type 0
IsToldAt program address (Ok p) = StandsAt program address p
IsToldAt program address (Err kind) = IsBad program address kind
