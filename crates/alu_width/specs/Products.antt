-- MUL and IMUL (Intel SDM volume 2, MUL, IMUL).
use Rattle.std.specs.Prelude.{ℕ, ◌*◌, ◌/◌, ◌%◌, ◌^◌, ◌*ℤ◌, Bool, true, false, not, ◌==◌}
use Rattle.word_arith.specs.Signed.{signed, low_bits, extended}
use Rattle.alu_width.specs.declared.operations.Product.{Product}

-- the double product of 2 * W bits, without sign (false) or of what a and b mean (true)
abbrev pub double_product : (sign : Bool) (W a b : ℕ) → ℕ
double_product false W a b = a * b
double_product true W a b = low_bits (2 * W) (signed W a *ℤ signed W b)

-- the double product in its two halves, and whether it differs from the extension of its low half
unfoldable pub product : (sign : Bool) (W a b : ℕ) → Product
product sign W a b =
    let p = double_product sign W a b in
    record { low = p % 2 ^ W; high = p / 2 ^ W; over = not (p == extended sign (2 * W) W (p % 2 ^ W)) }
