-- What the conditions say after a comparison, in the words of orders and not of flags.
use Rattle.std.specs.Prelude.{◌≡◌, ℕ, ◌^◌, ◌<◌, ◌==◌, nat_lt, nat_le, int_lt, int_le}
use Rattle.word_arith.specs.Width.{IsWidth}
use Rattle.word_arith.specs.Signed.{signed}
use Rattle.alu_width.specs.Sums.{difference_outcome}
use Rattle.alu_width.specs.Conditions.{condition}

-- after CMP of a with b: B below, E equal and BE below or equal without sign, L less and LE less or equal with sign
pub record Compares (W a b : ℕ) : Type 0 where
  pub below : condition 2 (difference_outcome W a b 0).flags ≡ nat_lt a b
  pub equal : condition 4 (difference_outcome W a b 0).flags ≡ (a == b)
  pub at_most : condition 6 (difference_outcome W a b 0).flags ≡ nat_le a b
  pub less : condition 12 (difference_outcome W a b 0).flags ≡ int_lt (signed W a) (signed W b)
  pub less_or_equal : condition 14 (difference_outcome W a b 0).flags ≡ int_le (signed W a) (signed W b)

-- the conditions compare at every width
abbrev pub Comparisons : Type 0
Comparisons = (W a b : ℕ) → IsWidth W → a < 2 ^ W → b < 2 ^ W → Compares W a b
