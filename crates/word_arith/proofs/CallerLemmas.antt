-- What callers cite, by the goal that it serves. Each lemma's line of meaning stands where it is proved. Declares nothing.

-- carry and borrow at the four widths, by comparisons of words or by a shift
pub use Rattle.word_arith.proofs.CarryLemmas.{carry_below, carry_at_most, carry_by_shift, carry_in_steps, borrow_in_steps, borrow_at_most, no_borrow, difference_is_zero}
-- sums and differences in 64 bits, cut to W
pub use Rattle.word_arith.proofs.CarryLemmas.{sum_cut, difference_cut, difference_cut_borrow}
-- signed overflow by top bits, and orders with sign by it
pub use Rattle.word_arith.proofs.OverflowLemmas.{sum_overflow, difference_overflow, less_by_overflow, at_most_by_overflow}
-- whether a number fits W bits, and a double product is more than its low half
pub use Rattle.word_arith.proofs.OverflowLemmas.{range_by_extension, range_by_half, over_plain, over_signed}
-- flags as numbers
pub use Rattle.word_arith.proofs.FlagLemmas.{bit_below, bit_is_zero, bit-not, bit-and, bit-or, bit-differ}
-- the top bit, by a shift
pub use Rattle.word_arith.proofs.BitLemmas.{top_bit_is, top_bit_shr, top_and_xor, pow_half}
-- what a word means, and the word of a meaning
pub use Rattle.word_arith.proofs.SignedLemmas.{signed_low_bits, signed_fits, signed_low, signed_high, signed_not_zero, fits_pos, fits_negsuc, signed_is, low_bits_signed}
-- low bits through sums, differences, products and cuts
pub use Rattle.word_arith.proofs.LowBitsLemmas.{low_bits_is, low_bits_pos, low_bits_below, low_bits_same, low_bits_read, low_bits-add, low_bits-sub, low_bits-mul, low_bits-mod}
-- extension by the sign
pub use Rattle.word_arith.proofs.ExtendLemmas.{signed_extend, top_bit-sign_extend, sign_extend_is, sign_extend_parts, sign_extend_below, sign_fill, bit_at-sign_extend_low, bit_at-sign_extend_high}
-- shifts to the left and by zeros
pub use Rattle.word_arith.proofs.ShiftLemmas.{pow_split, shl_mod, mod_mod, mod_small}
-- shifts by the sign
pub use Rattle.word_arith.proofs.ExtendLemmas.{floor_is, sar_is, sar_extended}
-- fields, and words with a field replaced
pub use Rattle.word_arith.proofs.FieldLemmas.{bit_at-field, word_parts, insert_parts, field-insert, insert-field, insert_below, insert_by_shifts, insert_by_mask, without_by_mask}
pub use Rattle.word_arith.proofs.FieldLemmas.{bit_at-insert_below, bit_at-insert_inside, bit_at-insert_above}
-- masks
pub use Rattle.word_arith.proofs.MaskLemmas.{low_by_mask, field_by_mask, ones_shifted, not_by_xor}
-- turns
pub use Rattle.word_arith.proofs.TurnLemmas.{turn_left_below, turn_left_parts, turn_left_by_shifts, turn_left_by_right, turn_left-zero, bit_at-turn_left_low, bit_at-turn_left_high}
-- products
pub use Rattle.word_arith.proofs.ProductLemmas.{product_low, product_of_extended, product_in_64, product_below, product_within, signed_magnitude}
-- quotients and remainders
pub use Rattle.word_arith.proofs.DivisionLemmas.{remainder_is, remainder_by_msub, plain_remainder_by_msub, quotient_within, quotient_range, plain_range, sdiv_of_extended, remainder_in_64, signed_within}
-- AArch64's moves of bit fields
pub use Rattle.word_arith.proofs.ArmLemmas.{move_down, move_up, uxt, sxt, second_byte, lsl, lsr, asr}
