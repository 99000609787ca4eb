-- What callers cite, by the goal that it serves. Each lemma's line of meaning stands where it is proved. Declares nothing.

-- sums and differences by words of 64 bits
pub use Rattle.alu_width.proofs.LiftLemmas.{IsWords, add_by_words, adc_by_words, sub_by_words, sbb_by_words}
-- products by words of 64 bits
pub use Rattle.alu_width.proofs.LiftLemmas.{mul_by_words, imul_by_words, over_mul, over_imul, over_mul-is, over_imul-is, low_imul, high_mul, high_imul}
-- divisions of at most 64 bits by words of 64 bits
pub use Rattle.alu_width.proofs.LiftLemmas.{idiv_by_sdiv, div_by_udiv}
pub use Rattle.alu_width.proofs.QuotientLemmas.{quotient_signed}
-- the values of shifts and rotates by words of 64 bits
pub use Rattle.alu_width.proofs.ShiftLemmas.{shl_by_words, sar_by_words, turned-rol_by_words, turned-rol_by_ror}
pub use Rattle.alu_width.proofs.ShiftLemmas.{shifted-shl_is_lslv, shifted-shr_is_lsrv, shifted-sar_is_asrv, turned-ror_is_rorv}
-- the outcomes of shifts and rotates by the masked count
pub use Rattle.alu_width.proofs.ShiftLemmas.{shifted-zero, shift_outcome-zero, shift_outcome-one, shift_outcome-more, shift_outcome-past}
pub use Rattle.alu_width.proofs.ShiftLemmas.{rotate_outcome-zero, rotate_outcome-one, rotate_outcome-more}
-- the last bit out of a shift
pub use Rattle.alu_width.proofs.ShiftLemmas.{last_out_shl, last_out_shr, last_out_sar}
-- conditions after a comparison
pub use Rattle.alu_width.proofs.ConditionLemmas.{condition_b, condition_e, condition_be, condition_l, condition_le, condition-odd}
-- conditions as words of the flags' words
pub use Rattle.alu_width.proofs.ConditionLemmas.{bit-condition_o, bit-condition_b, bit-condition_e, bit-condition_be, bit-condition_s, bit-condition_l, bit-condition_le, bit-condition-odd}
-- the rows by CL in the table of effects
pub use Rattle.alu_width.proofs.EffectLemmas.{shifts_by_cl, turns_by_cl}
