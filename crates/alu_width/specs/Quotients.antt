-- DIV and IDIV (Intel SDM volume 2, DIV, IDIV).
use Rattle.std.specs.Prelude.{ℕ, ◌+◌, ◌*◌, ◌/◌, ◌%◌, ◌^◌, ℤ, Bool, ◌==◌, nat_lt, int_div, int_rem, if◌then◌else◌, Result, Ok, Err}
use Rattle.word_arith.specs.Signed.{signed, low_bits, fits_signed}
use Rattle.alu_width.specs.declared.operations.Quotient.{Quotient}
use Rattle.alu_width.specs.declared.operations.DivFault.{DivFault}
use Rattle.alu_width.specs.declared.operations.DivFault.TheVariants.{Zero, Range}

-- n by d without sign, where the quotient fits W bits
abbrev pub plain_quotient : (W n d : ℕ) → Result Quotient DivFault
plain_quotient W n d =
    if nat_lt (n / d) (2 ^ W) then Ok (record { quotient = n / d; remainder = n % d }) else Err Range

-- n by d, rounded towards zero, where the quotient fits W bits with sign; the remainder has the sign of n
abbrev pub signed_quotient : (W : ℕ) (n d : ℤ) → Result Quotient DivFault
signed_quotient W n d =
    if fits_signed W (int_div n d) then Ok (record { quotient = low_bits W (int_div n d); remainder = low_bits W (int_rem n d) }) else Err Range

-- the dividend of 2 * W bits, in two halves, by W bits
unfoldable pub quotient : (sign : Bool) (W high low by : ℕ) → Result Quotient DivFault
quotient sign W high low by =
    let n = high * 2 ^ W + low in
    if by == 0 then Err Zero
    else (if sign then signed_quotient W (signed (2 * W) n) (signed W by) else plain_quotient W n by)
