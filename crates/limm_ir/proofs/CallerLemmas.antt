-- What callers cite, by the goal that it serves. Each lemma's line of meaning stands where it is proved. Declares nothing.

-- what steps, or a block, do is decided by the values that they read and take in
pub use Rattle.limm_ir.proofs.OpenLemmas.{steps_open, blocks_open}
-- steps in two parts, and what they cost
pub use Rattle.limm_ir.proofs.StepLemmas.{steps-append, cost_of-append}
-- what is kept where steps are not counted is kept where they are
pub use Rattle.limm_ir.proofs.StepLemmas.{keeps_counted}
