-- What callers cite, by the goal that it serves. Each lemma's line of meaning stands where it is proved. Declares nothing.

-- what is read from a word, and what it spells
pub use Rattle.a64_code.proofs.WordLemmas.{spelled, read, a64_of-word_of, one_spelling, none_read, none_spelled}
-- whether operands are in range, by a test
pub use Rattle.a64_code.proofs.RangeLemmas.{encodable_test}
-- what ranges say of numbers
pub use Rattle.a64_code.proofs.Shapes.{five_bits, bits_small}
