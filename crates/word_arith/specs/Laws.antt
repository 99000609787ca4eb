-- What words, their parts and their turns are, said by their bits and meanings, and not by formulas.
use Rattle.std.specs.Prelude.{◌≡◌, ℕ, ◌+◌, ◌%◌, ◌^◌, ◌<◌, ◌≤◌, ℤ, true}
use Rattle.std.specs.Int.{bit_at}
use Rattle.word_arith.specs.Bits.{bit, top_bit, field, insert}
use Rattle.word_arith.specs.Signed.{signed, fits_signed, low_bits, sign_extend}
use Rattle.word_arith.specs.Turns.{turn_left}

-- words of W bits and the numbers that they mean are in one-to-one correspondence
pub record TwosComplement (W : ℕ) : Type 0 where
  pub meaning_fits : (a : ℕ) → a < 2 ^ W → fits_signed W (signed W a) ≡ true
  pub word_of_meaning : (a : ℕ) → a < 2 ^ W → low_bits W (signed W a) ≡ a
  pub word_fits : (z : ℤ) → low_bits W z < 2 ^ W
  pub meaning_of_word : (z : ℤ) → fits_signed W z ≡ true → signed W (low_bits W z) ≡ z

-- a field of `len` bits from bit `lo` on is replaced, and every other bit stays
pub record Replaces (lo len n v : ℕ) : Type 0 where
  pub inside : (i : ℕ) → i < len → bit_at (insert lo len n v) (lo + i) ≡ bit_at v i
  pub below : (i : ℕ) → i < lo → bit_at (insert lo len n v) i ≡ bit_at n i
  pub above : (i : ℕ) → lo + len ≤ i → bit_at (insert lo len n v) i ≡ bit_at n i

-- a field of `len` bits from bit `lo` on has those bits of n, and no other
pub record IsField (lo len n : ℕ) : Type 0 where
  pub fits : field lo len n < 2 ^ len
  pub bits : (i : ℕ) → i < len → bit_at (field lo len n) i ≡ bit_at n (lo + i)

-- a turn of W bits by k takes bit i to bit i + k modulo W
pub record Turns (W a k : ℕ) : Type 0 where
  pub is_word : turn_left W a k < 2 ^ W
  pub moves : (i : ℕ) → i < W → bit_at (turn_left W a k) ((i + k) % W) ≡ bit_at a i

-- V bits extend W bits by the sign: they mean the same, the word's bits are there, and each new one is its top bit
pub record Extends (V W a : ℕ) : Type 0 where
  pub is_word : sign_extend V W a < 2 ^ V
  pub means_the_same : signed V (sign_extend V W a) ≡ signed W a
  pub kept : (i : ℕ) → i < W → bit_at (sign_extend V W a) i ≡ bit_at a i
  pub copied : (i : ℕ) → W ≤ i → i < V → bit_at (sign_extend V W a) i ≡ bit (top_bit W a)
