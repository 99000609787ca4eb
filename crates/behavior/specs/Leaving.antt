-- How a block of instructions, of steps or of words leaves.
use Rattle.std.specs.Prelude.{◌≡◌, ℕ}
use Rattle.behavior.specs.Tree.{Tree, Gives, Next, Goes}

-- Where a block leaves to: a block; a return address, which the code knows or not; or a table's entry, by its number.
pub data Target : Type 0 where
  ToBlock : (address : ℕ) → Target
  ToReturn : (value : ℕ) → Target
  ToEntry : (table number : ℕ) → Target

-- a target, and the state in which a block leaves
pub record Left (S : Type 0) : Type 0 where
  pub target : Target
  pub state : S

-- the block leaves to a target
abbrev pub leaves : {S : Type 0} → Target → S → Tree (Next (Left S))
leaves target s = Gives (Goes (record { target = target; state = s }))

-- two blocks leave to one target, in states that are the same by `Same`
abbrev pub SameLeft : {S T : Type 0} → (S → T → Type 0) → Left S → Left T → Type 0
SameLeft Same a b = (b.target ≡ a.target) × Same a.state b.state
