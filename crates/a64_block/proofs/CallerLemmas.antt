-- What callers cite, by the goal that it serves. Each lemma's line of meaning stands where it is proved. Declares nothing.

-- how many words a row leaves out
pub use Rattle.a64_block.proofs.SkipLemmas.{SkipsBy, row_skips}
-- words whose branches stay within them
pub use Rattle.a64_block.proofs.SkipLemmas.{IsWhole, words_whole}
