-- The reasons for which no instruction stands at an address, by the decoder's faults.
use Rattle.x64_decode.specs.declared.decode.DecodeFault.{DecodeFault}
use Rattle.x64_decode.specs.declared.decode.DecodeFault.TheVariants as decode_fault
use Rattle.elf_read.specs.declared.fault.BadCodeKind.{BadCodeKind}
use Rattle.elf_read.specs.declared.fault.BadCodeKind.TheVariants as bad_code

-- the reason for which a fault of the decoder stands
abbrev pub kind_of : DecodeFault → BadCodeKind
kind_of decode_fault.Cut = bad_code.Cut
kind_of decode_fault.Unknown = bad_code.Unknown
kind_of decode_fault.TooLong = bad_code.TooLong
