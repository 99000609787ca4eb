-- What callers of this crate cite. Each lemma's line of meaning stands where it is proved. Declares nothing.

-- the program that a made file says, and that no fault holds of one
pub use Rattle.made_laws.proofs.Program.{program_made}
pub use Rattle.made_laws.proofs.Faultless.{no_fault_made}
-- where its instructions begin, and what stands there
pub use Rattle.made_laws.proofs.Places.{IsOffset, IsPlace, place_of}
pub use Rattle.made_laws.proofs.Standing.{IsMadeInstr, IsTold, told}
-- nothing else is reached, and no jump through a table begins there
pub use Rattle.made_laws.proofs.Reached.{reached_place, placed_made, no_pattern}
