-- What callers cite, by the goal that it serves. Each lemma's line of meaning stands where it is proved. Declares nothing.

-- what a row or a step does is decided by the values that it reads and takes in
pub use Rattle.x64_table.proofs.OpenLemmas.{rows_open}
pub use Rattle.x64_table.proofs.MachineLemmas.{steps_open}
-- rows make only items that are allowed
pub use Rattle.x64_table.proofs.AllowedLemmas.{rows_allowed}
-- the shape of each row: at most one read and then at most one write, with the slots that they are, or a fence
pub use Rattle.x64_table.proofs.Shapes.{Shape, ends, still, fence, read, write, change, lock, call-in, call-out, jump-in, jump-out, is_mfence, row_shape}
-- what each run of a row to its end has: a property by cases on its shape, carried to the run
pub use Rattle.x64_table.proofs.ShapeLemmas.{AllRuns, each_run, rows_slots}
-- runs of rows and answers of the interpreter
pub use Rattle.x64_table.proofs.ShapeLemmas.{rows_run_holds, rows_run_only_holds}
pub use Rattle.x64_table.proofs.WantsLemmas.{rows_want_holds}
