-- What callers cite, by the goal that it serves. Each lemma's line of meaning stands where it is proved. Declares nothing.

-- from blocks that are carried out to the runs of threads
pub use Rattle.code_layout.proofs.Threads.{StandsFor, HasCome, IsFree, MeansBlock, threads_match, threads_backward, threads_forward}
-- two machines that match block by block
pub use Rattle.code_layout.proofs.Matched.{BlocksMatch, blocks_backward, blocks_forward}
-- how many words a block takes, and that none begins behind all of them
pub use Rattle.code_layout.proofs.Sizes.{blocks_size-cons, words_before_le}
