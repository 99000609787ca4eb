-- What stands before an opcode: prefixes, and then an optional REX byte (Intel SDM volume 2, 2.1.1 and 2.2.1).
use Rattle.std.specs.Prelude.{ℕ, ◌+◌, ◌/◌, ◌%◌, ◌==◌, if◌then◌else◌, List, [], ◌∷◌, length, Option, Some, None}
use Rattle.x64_syntax.specs.declared.operand.Width.{Width}
use Rattle.x64_syntax.specs.declared.operand.Width.TheVariants as width
use Rattle.x64_decode.specs.declared.row.Front.{Front}
use Rattle.x64_decode.specs.declared.row.Size.{Size}
use Rattle.x64_decode.specs.declared.row.Size.TheVariants as size
use Rattle.x64_decode.specs.Bytes.{has}

-- a REX byte, if there is one
abbrev pub rex_bytes : Option ℕ → List ℕ
rex_bytes None = []
rex_bytes (Some b) = b ∷ []

-- a bit of REX by what it is worth: W is worth 8, R 4, X 2 and B 1
abbrev pub rex_bit : ℕ → Option ℕ → ℕ
rex_bit worth None = 0
rex_bit worth (Some b) = b / worth % 2

-- what prefixes and REX say; a repeat means the same as one
unfoldable pub front_of : List ℕ → Option ℕ → Front
front_of prefixes rex =
    record {
      word = has 0x66 prefixes;
      lock = has 0xF0 prefixes;
      rex = rex;
      length = length prefixes + length (rex_bytes rex);
    }

-- REX.W asks for 64 bits; else 66 asks for 16, and else there are 32
unfoldable pub operand_width : Front → Width
operand_width f = if rex_bit 8 f.rex == 1 then width.Quad else (if f.word then width.Word else width.Long)

-- the width that a size means behind a front
abbrev pub width_of : Front → Size → Width
width_of f size.Byte = width.Byte
width_of f size.Word = width.Word
width_of f size.Long = width.Long
width_of f size.Quad = width.Quad
width_of f size.Operand = operand_width f
