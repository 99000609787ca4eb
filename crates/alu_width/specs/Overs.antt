-- What `over` of a product says, in the words of numbers and not of halves.
use Rattle.std.specs.Prelude.{◌≡◌, ℕ, ◌*◌, ◌^◌, ◌<◌, ◌*ℤ◌, true, false, not, nat_le}
use Rattle.word_arith.specs.Width.{IsWidth}
use Rattle.word_arith.specs.Signed.{signed, fits_signed}
use Rattle.alu_width.specs.Products.{product}

-- the product does not fit W bits: MUL's of the words, IMUL's of what they mean
pub record Overs (W a b : ℕ) : Type 0 where
  pub plain : (product false W a b).over ≡ nat_le (2 ^ W) (a * b)
  pub with_sign : (product true W a b).over ≡ not (fits_signed W (signed W a *ℤ signed W b))

-- `over` says so at every width
abbrev pub ProductsOver : Type 0
ProductsOver = (W a b : ℕ) → IsWidth W → a < 2 ^ W → b < 2 ^ W → Overs W a b
