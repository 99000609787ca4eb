-- The bytes that an execution begins with: those of a file's segments, and zeros in the stacks of its threads.
use Rattle.std.specs.Prelude.{ℕ, List, map, Option, Bool, nat_le, nat_lt, ◌&&◌}
use Rattle.std.specs.List.{list_any}
use Rattle.std.specs.Option.{option_map}
use Rattle.ev_graph.specs.Memory.{Cell, or_else, cells_of, stack_part}
use Rattle.ev_graph.specs.declared.execution.Stack.{Stack}

-- The cells of the segments and of the stacks. In a layout that fits no address has both.
abbrev pub with_stacks : (ℕ → Option Cell) → List Stack → ℕ → Option Cell
with_stacks cells stacks n = or_else (cells n) (cells_of (map stack_part stacks) n)

-- the byte at an address at the start, where there is one
abbrev pub start_at : (ℕ → Option Cell) → List Stack → ℕ → Option ℕ
start_at cells stacks n = option_map (λ (cell : Cell). cell.byte) (with_stacks cells stacks n)

-- whether the address lies in one of the stacks
abbrev pub is_in_stacks : List Stack → ℕ → Bool
is_in_stacks stacks n = list_any (λ stack. nat_le stack.lo n && nat_lt n stack.hi) stacks
