-- The layout of stacks that a text gives, and its first fault.
use Rattle.std.specs.Prelude.{◌≡◌, ℕ, ◌+◌, ◌<◌, List, slice_get, Some}
use Rattle.std.specs.List.{AllByRecursion}
use Rattle.ev_graph.specs.declared.execution.Stack.{Stack}
use Rattle.ev_graph.specs.Memory.{Part, Apart, IsStack, IsOffStack}

-- Stack k is well placed, and has no byte in common with a part or an earlier stack.
pub record IsPlaced (parts : List Part) (stacks : List Stack) (k : ℕ) (stack : Stack) : Type 0 where
  pub placed : IsStack stack
  pub off_parts : AllByRecursion (λ part. Apart part.address (part.address + part.size) stack.lo stack.hi) parts
  pub off_earlier : (j : ℕ) (earlier : Stack) → j < k → slice_get stacks j ≡ Some earlier → IsOffStack earlier stack

-- the stack is placed behind these, in the order in which it is tested
abbrev pub PlacedBehind : List Part → List Stack → Stack → Type 0
PlacedBehind parts earlier stack =
    IsStack stack × (AllByRecursion (λ (part : Part). Apart part.address (part.address + part.size) stack.lo stack.hi) parts
    × AllByRecursion (λ other. IsOffStack other stack) earlier)

-- the first k stacks are placed
abbrev pub ArePlaced : List Part → List Stack → ℕ → Type 0
ArePlaced parts stacks k = (j : ℕ) (stack : Stack) → j < k → slice_get stacks j ≡ Some stack → IsPlaced parts stacks j stack

-- stack k is the first that is not placed
pub record IsFirstUnplaced (parts : List Part) (stacks : List Stack) (k : ℕ) : Type 0 where
  pub stack : Stack
  pub here : slice_get stacks k ≡ Some stack
  pub unplaced : IsPlaced parts stacks k stack → ⊥
  pub before : ArePlaced parts stacks k
