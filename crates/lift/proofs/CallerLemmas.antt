-- What callers cite, by the goal that it serves. Each lemma's line of meaning stands where it is proved. Declares nothing.

-- a block of recovered code has instructions, which are lifted; it begins at the first of them
pub use Rattle.lift.proofs.Recovered.{instructions, are_lifted, block_first}
-- there are no more instructions than there is code; a lower one stands earlier
pub use Rattle.lift.proofs.Recovered.{few_placed, there, earlier}
-- what is read at a place of a list, and the rest of the list from there on
pub use Rattle.lift.proofs.Recovered.{some_same, drop_from}
