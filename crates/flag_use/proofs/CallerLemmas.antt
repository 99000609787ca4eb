-- What callers of this crate cite. Each lemma's line of meaning stands where it is proved. Declares nothing.

-- the addresses that a run takes are a path on which no undefined flag is read
pub use Rattle.flag_use.proofs.Runs.{runs_paths}
-- step by step: the row of a placed instruction leaves to where a path goes on, and so does a thread's step; an instruction is
-- placed there; and a flag that an instruction reads is defined at the end of each path to it
pub use Rattle.flag_use.proofs.Exits.{ExitsOf, row_exits}
pub use Rattle.flag_use.proofs.Runs.{ComesBy, step_comes, on_reached, defined_where_read}
-- a condition is decided by the flags that it reads
pub use Rattle.flag_use.proofs.Conditions.{conditions_decided}
