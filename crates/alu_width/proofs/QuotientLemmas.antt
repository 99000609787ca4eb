-- Divisions by words.
use Rattle.std.proofs.Common.{◌≡◌, ◌≢◌, ℕ, ◌+◌, ◌*◌, ◌^◌, arith, true}
use Rattle.std.specs.Prelude.{ℤ}
use Rattle.std.proofs.lemmas.Bool.Decides.{nat_tests}
use Rattle.word_arith.specs.Signed.{signed}
use Rattle.alu_width.specs.Quotients.{quotient, signed_quotient}

-- IDIV by a divisor that is not 0 divides what the operands mean
pub quotient_signed : (W high low by : ℕ) (n d : ℤ) → by ≢ 0 → n ≡ signed (2 * W) (high * 2 ^ W + low) → d ≡ signed W by → quotient true W high low by ≡ signed_quotient W n d
unfolding quotient
quotient_signed W high low by n d h p q = rw (p, q) (grind (arith, nat_tests))
