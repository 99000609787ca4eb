-- What callers cite, by the goal that it serves. Each lemma's line of meaning stands where it is proved. Declares nothing.

-- words one behind the other, and the machine that takes them
pub use Rattle.a64_table.proofs.MachineLemmas.{words-append, instr_at, StandAt, lands, words_unfold, words_stand}
-- a row by its operands alone
pub use Rattle.a64_table.proofs.OperandLemmas.{AgreeOn, row_same}
-- the code's state and answers as a thread and its steps
pub use Rattle.a64_table.proofs.ThreadLemmas.{row_shown, thread_after, next_shown, ShowsNext, Steps, row_steps}
-- answers and paths, and values from outside
pub use Rattle.a64_table.proofs.RowLemmas.{rows_are_paths, rows_are_open, row_open}
-- fences of a thread of words
pub use Rattle.a64_table.proofs.BarrierLemmas.{IsBarred, a64_barred}
