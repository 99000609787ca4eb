-- The bytes after an opcode: ModRM, SIB, displacement and immediates, and the operands that they mean
-- (Intel SDM volume 2, 2.1.3 to 2.1.5 and 2.2.1). A byte that isn't there counts as 0.
use Rattle.std.specs.Prelude.{ℕ, ◌+◌, ◌-◌, ◌*◌, ◌/◌, ◌%◌, ◌^◌, Bool, true, false, not, ◌&&◌, ◌||◌, ◌==◌, nat_lt, nat_le, if◌then◌else◌, List, drop, slice_index, Option, Some, None, is_some, ℤ, pos}
use Rattle.x64_syntax.specs.declared.operand.Mem.{Mem}
use Rattle.x64_syntax.specs.declared.operand.Operand.{Operand}
use Rattle.x64_syntax.specs.declared.operand.Operand.TheVariants as operand
use Rattle.x64_syntax.specs.declared.operand.Reg.{Reg}
use Rattle.x64_syntax.specs.declared.operand.Width.{Width}
use Rattle.x64_syntax.specs.declared.operand.Width.TheVariants as width
use Rattle.x64_decode.specs.declared.row.Code.{Code}
use Rattle.x64_decode.specs.declared.row.Code.TheVariants as code
use Rattle.x64_decode.specs.declared.row.Front.{Front}
use Rattle.x64_decode.specs.declared.row.Place.{Place}
use Rattle.x64_decode.specs.declared.row.Place.TheVariants as place
use Rattle.x64_decode.specs.declared.row.Row.{Row}
use Rattle.x64_decode.specs.declared.row.Size.{Size}
use Rattle.x64_decode.specs.declared.row.Size.TheVariants as size
use Rattle.x64_decode.specs.Bytes.{two_bytes, four_bytes, eight_bytes, signed_byte, signed_long, extend}
use Rattle.x64_decode.specs.Fronts.{rex_bit, width_of}

-- ModRM's mod field is not 3: the r/m operand is memory
unfoldable pub is_memory : ℕ → Bool
is_memory modrm = nat_lt modrm 0xC0

-- a SIB byte follows
unfoldable pub has_sib : ℕ → Bool
has_sib modrm = is_memory modrm && (modrm % 8 == 4)

-- the address counts from the end of the instruction
unfoldable pub is_rip : ℕ → Bool
is_rip modrm = (modrm / 64 == 0) && (modrm % 8 == 5)

-- SIB names no base
unfoldable pub lacks_base : ℕ → ℕ → Bool
lacks_base modrm sib = (modrm / 64 == 0) && (sib % 8 == 5)

-- the bytes of SIB
unfoldable pub sib_size : ℕ → ℕ
sib_size modrm = if has_sib modrm then 1 else 0

-- the bytes of the displacement
unfoldable pub displacement_size : ℕ → ℕ → ℕ
displacement_size modrm sib =
    if modrm / 64 == 1 then 1
    else (if modrm / 64 == 2 then 4
    else (if is_rip modrm then 4
    else (if has_sib modrm && lacks_base modrm sib then 4 else 0)))

-- the bytes of ModRM, SIB and displacement
unfoldable pub modrm_size : List ℕ → ℕ
modrm_size rest =
    1 + sib_size (slice_index rest 0) + displacement_size (slice_index rest 0) (slice_index rest 1)

-- an operand that ModRM names
abbrev pub is_by_modrm : Place → Bool
is_by_modrm (place.Rm s) = true
is_by_modrm (place.Memory s) = true
is_by_modrm (place.Reg s) = true
is_by_modrm _ = false

-- a row has ModRM where that names an operand, or has a part of the opcode
unfoldable pub has_modrm : Row → Bool
has_modrm r = is_by_modrm r.to || is_by_modrm r.from || is_some r.digit

-- the bytes of a row's ModRM with all that belongs to it
unfoldable pub operand_size : Row → List ℕ → ℕ
operand_size r rest = if has_modrm r then modrm_size rest else 0

-- the bytes of a width
abbrev pub byte_count : Width → ℕ
byte_count width.Byte = 1
byte_count width.Word = 2
byte_count width.Long = 4
byte_count width.Quad = 8

-- the bytes of an immediate of 16 bits at that width, and else of 32
abbrev pub full_size : Width → ℕ
full_size width.Word = 2
full_size _ = 4

-- the bytes of an immediate
abbrev pub place_size : Width → Place → ℕ
place_size w place.Short = 1
place_size w place.Unsigned = 1
place_size w place.Full = full_size w
place_size w place.Whole = byte_count w
place_size w _ = 0

-- the bytes of a row's immediates
unfoldable pub immediate_size : Front → Row → ℕ
immediate_size f r =
    let w = width_of f r.size in place_size w r.to + place_size w r.from + place_size w r.by

-- the bytes after a row's code
unfoldable pub rest_size : Front → Row → List ℕ → ℕ
rest_size f r rest = operand_size r rest + immediate_size f r

-- a size of 8 bits
abbrev pub is_byte : Size → Bool
is_byte size.Byte = true
is_byte _ = false

-- a register by its number; without REX the 8-bit registers 4 to 7 are the high bytes of 0 to 3
unfoldable pub register : Front → Size → ℕ → Reg
register f s n =
    if is_byte s && (not (is_some f.rex) && nat_le 4 n) then record { number = n - 4; high = true }
    else record { number = n; high = false }

-- a displacement of so many bytes, sign-extended
unfoldable pub displacement : ℕ → List ℕ → ℤ
displacement count bytes =
    if count == 1 then signed_byte (slice_index bytes 0)
    else (if count == 4 then signed_long (four_bytes bytes) else pos 0)

-- SIB's index: 4 without REX.X is none
unfoldable pub index_of : Front → ℕ → Option ℕ
index_of f sib =
    let n = sib / 8 % 8 + 8 * rex_bit 2 f.rex in if n == 4 then None else Some n

-- SIB's scale, which is 1 without an index
unfoldable pub scale_of : Front → ℕ → ℕ
scale_of f sib = if is_some (index_of f sib) then 2 ^ (sib / 64) else 1

-- the base: in SIB where there is one, and none where the address is relative or SIB lacks it
unfoldable pub base_of : Front → ℕ → ℕ → Option ℕ
base_of f modrm sib =
    if has_sib modrm then (if lacks_base modrm sib then None else Some (sib % 8 + 8 * rex_bit 1 f.rex))
    else (if is_rip modrm then None else Some (modrm % 8 + 8 * rex_bit 1 f.rex))

-- the memory that ModRM, SIB and displacement mean
unfoldable pub memory_of : Front → List ℕ → Mem
memory_of f rest =
    let modrm = slice_index rest 0 in
    let sib = slice_index rest 1 in
    record {
      base = base_of f modrm sib;
      index = if has_sib modrm then index_of f sib else None;
      scale = if has_sib modrm then scale_of f sib else 1;
      offset = displacement (displacement_size modrm sib) (drop (1 + sib_size modrm) rest);
      rip = is_rip modrm;
    }

-- the r/m operand
unfoldable pub rm_operand : Front → Size → List ℕ → Operand
rm_operand f s rest =
    if is_memory (slice_index rest 0) then operand.Mem (memory_of f rest)
    else operand.Reg (register f s (slice_index rest 0 % 8 + 8 * rex_bit 1 f.rex))

-- the low three bits of an opcode
abbrev pub low_bits : Code → ℕ
low_bits (code.One a) = a % 8
low_bits (code.Two a b) = b % 8
low_bits (code.Three a b c) = c % 8
low_bits (code.Four a b c d) = d % 8

-- an immediate of 16 bits at that width, and else of 32, sign-extended
abbrev pub full_number : Width → List ℕ → ℕ
full_number width.Word bytes = two_bytes bytes
full_number w bytes = extend width.Long w (four_bytes bytes)

-- an immediate of the whole width
abbrev pub whole_number : Width → List ℕ → ℕ
whole_number width.Byte bytes = slice_index bytes 0
whole_number width.Word bytes = two_bytes bytes
whole_number width.Long bytes = four_bytes bytes
whole_number width.Quad bytes = eight_bytes bytes

-- the operand at a place; `rest` is what stands after the row's code, and the immediate stands last
abbrev pub operand_at : Front → Row → List ℕ → Place → Operand
operand_at f r rest place.Absent = operand.Imm 0
operand_at f r rest (place.Rm s) = rm_operand f s rest
operand_at f r rest (place.Memory s) = rm_operand f s rest
operand_at f r rest (place.Reg s) = operand.Reg (register f s (slice_index rest 0 / 8 % 8 + 8 * rex_bit 4 f.rex))
operand_at f r rest (place.Low s) = operand.Reg (register f s (low_bits r.code + 8 * rex_bit 1 f.rex))
operand_at f r rest (place.Accumulator s) = operand.Reg (record { number = 0; high = false })
operand_at f r rest place.Count = operand.Reg (record { number = 1; high = false })
operand_at f r rest place.One = operand.Imm 1
operand_at f r rest place.Short =
    operand.Imm (extend width.Byte (width_of f r.size) (slice_index rest (operand_size r rest)))
operand_at f r rest place.Unsigned = operand.Imm (slice_index rest (operand_size r rest))
operand_at f r rest place.Full =
    operand.Imm (full_number (width_of f r.size) (drop (operand_size r rest) rest))
operand_at f r rest place.Whole =
    operand.Imm (whole_number (width_of f r.size) (drop (operand_size r rest) rest))
