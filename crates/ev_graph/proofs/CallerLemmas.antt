-- What a caller of this crate cites.
use Rattle.std.proofs.Common.{◌≡◌, ◌↔◌, ℕ, List, [], ◌∷◌, map, Option, Some, None, refl}
use Rattle.ev_graph.specs.declared.execution.Execution.{Execution}
use Rattle.ev_graph.specs.declared.execution.FormFault.{FormFault}
use Rattle.ev_graph.specs.declared.execution.Stack.{Stack}
use Rattle.ev_graph.specs.Memory.{Cell, Part, or_else, cell_in, cells_of, stack_part, memory}
use Rattle.ev_graph.specs.Start.{with_stacks}
use Rattle.ev_graph.specs.WellFormed.{IsShaped, WellFormed}
use Rattle.ev_graph.specs.Faults.{IsAbsent, candidates, IsFirstFault}
use Rattle.ev_graph.proofs.Faultless.{no_fault_is_well_formed}
use Rattle.ev_graph.proofs.FirstLemmas.{same_first}

or_else-or_else : {A : Type 0} (a b c : Option A) → or_else (or_else a b) c ≡ or_else a (or_else b c)
or_else-or_else (Some a) b c = refl
or_else-or_else None b c = refl

-- the memory of parts and stacks is that of the parts' cells with the stacks
pub memory-with_stacks : (parts : List Part) (stacks : List Stack) (n : ℕ) → memory parts stacks n ≡ with_stacks (cells_of parts) stacks n
memory-with_stacks [] stacks n = refl
memory-with_stacks (part ∷ parts) stacks n =
    rw (memory-with_stacks parts stacks n, or_else-or_else (cell_in part n) (cells_of parts n) (cells_of (map stack_part stacks) n)) refl

-- an execution has one first fault
pub same_fault : (cells : ℕ → Option Cell) (x : Execution) (found other : Option FormFault) → IsFirstFault cells x found → IsFirstFault cells x other → found ≡ other
same_fault cells x found other = same_first (IsAbsent cells x) (candidates x) found other

-- no first fault is being well formed
pub faultless : (cells : ℕ → Option Cell) (x : Execution) → IsShaped x → IsFirstFault cells x None ↔ WellFormed cells x
faultless = no_fault_is_well_formed
