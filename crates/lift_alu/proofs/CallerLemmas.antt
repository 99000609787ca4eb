-- What callers cite, by the goal that it serves. Each lemma's line of meaning stands where it is proved. Declares nothing.

-- no instruction has more than 62 words
pub use Rattle.lift_alu.proofs.Selectable.{words_most}
