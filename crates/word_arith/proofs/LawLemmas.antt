-- The laws that the crate's functions ensure.
use Rattle.std.proofs.Common.{◌≡◌, ℕ, ◌+◌, ◌-◌, ◌/◌, ◌%◌, ◌^◌, ◌<◌, ◌≤◌, arith, ap, ◌∙◌, inl, inr}
use Rattle.std.specs.Int.{bit_at}
use Rattle.std.proofs.lemmas.Bool.{cases_lt}
use Rattle.std.proofs.Math.Nat.{mod-eq_of_lt, mod-eq-sub-mod}
use Rattle.std.proofs.lemmas.Nat.{mod_below, pow_pos}
use Rattle.word_arith.specs.Laws.{TwosComplement, Extends, IsField, Replaces, Turns}
use Rattle.word_arith.specs.Turns.{turn_left}
use Rattle.word_arith.proofs.SignedLemmas.{signed_low_bits, signed_fits, low_bits_signed}
use Rattle.word_arith.proofs.LowBitsLemmas.{low_bits_below}
use Rattle.word_arith.proofs.ExtendLemmas.{signed_extend, sign_extend_below, bit_at-sign_extend_low, bit_at-sign_extend_high}
use Rattle.word_arith.proofs.FieldLemmas.{bit_at-insert_inside, bit_at-insert_below, bit_at-insert_above, bit_at-field}
use Rattle.word_arith.proofs.TurnLemmas.{turn_left_below, bit_at-turn_left_low, bit_at-turn_left_high}

-- words and their meanings correspond
pub twos_complement_holds : (W : ℕ) → 0 < W → TwosComplement W
twos_complement_holds W some = record {
  meaning_fits = λ a p. signed_fits W a some p;
  word_of_meaning = λ a p. low_bits_signed W a p;
  word_fits = λ z. low_bits_below W z;
  meaning_of_word = λ z f. signed_low_bits W z some f;
}

-- an extension means the same and copies the top bit
pub extends_holds : (V W a : ℕ) → 0 < W → W ≤ V → a < 2 ^ W → Extends V W a
extends_holds V W a some h p = record {
  is_word = sign_extend_below V W a;
  means_the_same = signed_extend V W a some h p;
  kept = λ i low. bit_at-sign_extend_low V W a i h p low;
  copied = λ i high below. bit_at-sign_extend_high V W a i p high below;
}

-- a field has its bits
pub is_field_holds : (lo len n : ℕ) → IsField lo len n
is_field_holds lo len n = record {
  fits = mod_below (n / 2 ^ lo) (2 ^ len) (pow_pos len);
  bits = λ i h. bit_at-field lo len n i h;
}

-- an insertion replaces a field and nothing else
pub replaces_holds : (lo len n v : ℕ) → v < 2 ^ len → Replaces lo len n v
replaces_holds lo len n v p = record {
  inside = λ i h. bit_at-insert_inside lo len n v i h;
  below = λ i h. bit_at-insert_below lo len n v i h;
  above = λ i h. bit_at-insert_above lo len n v i p h;
}

-- where a bit goes
moved : (W a k i : ℕ) → a < 2 ^ W → k ≤ W → i < W → bit_at (turn_left W a k) ((i + k) % W) ≡ bit_at a i
moved W a k i p h low = elim (cases_lt (i + k) W) [
  | inl stays ↦ ap (λ m. bit_at (turn_left W a k) m) (mod-eq_of_lt stays) ∙ bit_at-turn_left_low W a k i p stays
  | inr passes ↦
      let in_range : i + k - W < W = omega arith in
      let place : (i + k) % W ≡ i + k - W = mod-eq-sub-mod passes ∙ mod-eq_of_lt in_range in
      let back : W - k + (i + k - W) ≡ i = omega arith in
      ap (λ m. bit_at (turn_left W a k) m) place
      ∙ bit_at-turn_left_high W a k (i + k - W) h (omega arith)
      ∙ ap (λ m. bit_at a m) back
]

-- a turn takes bit i to bit i + k modulo W
pub turns_hold : (W a k : ℕ) → a < 2 ^ W → k ≤ W → Turns W a k
turns_hold W a k p h = record { is_word = turn_left_below W a k p h; moves = λ i low. moved W a k i p h low }
