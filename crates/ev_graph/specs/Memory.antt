-- The memory of a file (System V gABI, chapter 5: segments), and of the stacks that its threads are given.
use Rattle.std.specs.Prelude.{◌≡◌, ◌≤◌, ◌<◌, ◌+◌, ◌-◌, ◌/◌, ◌%◌, ◌^◌, ◌==◌, ◌&&◌, ℕ, zero, suc, Bool, true, false, List, [], ◌∷◌, ◌++◌, map, length, slice_index, nat_le, nat_lt, if◌then◌else◌, Option, Some, None}
use Rattle.std.specs.List.{AllByRecursion}
use Rattle.ev_graph.specs.declared.execution.Stack.{Stack}

-- a byte, and whether it may be read and written
pub record Cell : Type 0 where
  pub byte : ℕ
  pub readable : Bool
  pub writable : Bool

-- `size` bytes from `address` on: first `bytes`, and zeros after them. The flags are X 1, W 2 and R 4.
pub record Part : Type 0 where
  pub address : ℕ
  pub size : ℕ
  pub flags : ℕ
  pub bytes : List ℕ

-- whether a flag, 1, 2 or 4, is among the flags
abbrev pub has_flag : ℕ → ℕ → Bool
has_flag flags flag = flags / flag % 2 == 1

-- the part's cell at an address, where it has one
abbrev pub cell_in : Part → ℕ → Option Cell
cell_in part n =
    if nat_le part.address n && nat_lt n (part.address + part.size)
    then Some (record { byte = slice_index part.bytes (n - part.address); readable = has_flag part.flags 4; writable = has_flag part.flags 2 })
    else None

-- the first, where there is one, and else the second
abbrev pub or_else : {A : Type 0} → Option A → Option A → Option A
or_else (Some a) b = Some a
or_else None b = b

-- One map from addresses to cells. Parts have no byte in common, so their order is of no account.
abbrev pub cells_of : List Part → ℕ → Option Cell
cells_of [] n = None
cells_of (part ∷ parts) n = or_else (cell_in part n) (cells_of parts n)

-- a stack may be read and written, and is zero at the start
abbrev pub stack_part : Stack → Part
stack_part stack = record { address = stack.lo; size = stack.hi - stack.lo; flags = 6; bytes = [] }

-- the memory of parts and stacks together
abbrev pub memory : List Part → List Stack → ℕ → Option Cell
memory parts stacks = cells_of (parts ++ map stack_part stacks)

-- whether a cell is there and may be read, or written where `write` is true
abbrev pub permits : Bool → Option Cell → Bool
permits write None = false
permits false (Some cell) = cell.readable
permits true (Some cell) = cell.writable

-- each of `size` bytes from `address` on may be read, or written where `write` is true
abbrev pub Allows : (ℕ → Option Cell) → Bool → ℕ → ℕ → Type 0
Allows cells write address size = (k : ℕ) → k < size → permits write (cells (address + k)) ≡ true

-- the test of `Allows`
unfoldable pub allows : (ℕ → Option Cell) → Bool → ℕ → ℕ → Bool
allows cells write address zero = true
allows cells write address (suc size) = permits write (cells address) && allows cells write (address + 1) size

-- the addresses from lo to below hi, and from low to below high, have none in common
abbrev pub Apart : ℕ → ℕ → ℕ → ℕ → Type 0
Apart lo hi low high = (n : ℕ) → lo ≤ n → n < hi → low ≤ n → n < high → ⊥

-- a stack is not empty, is cut at multiples of 16, and lies in the lower half of the addresses
pub record IsStack (stack : Stack) : Type 0 where
  pub filled : stack.lo < stack.hi
  pub low_end : stack.lo % 16 ≡ 0
  pub high_end : stack.hi % 16 ≡ 0
  pub low_half : stack.hi ≤ 2 ^ 47

abbrev pub IsOffStack : Stack → Stack → Type 0
IsOffStack stack other = Apart stack.lo stack.hi other.lo other.hi

-- no two of the stacks have a byte in common
abbrev pub AreStacksApart : List Stack → Type 0
AreStacksApart [] = Unit {0}
AreStacksApart (stack ∷ stacks) = AllByRecursion (IsOffStack stack) stacks × AreStacksApart stacks

-- no stack has a byte in common with the part
abbrev pub IsOffStacks : List Stack → Part → Type 0
IsOffStacks stacks part = AllByRecursion (λ stack. Apart part.address (part.address + part.size) stack.lo stack.hi) stacks

-- a layout fits: one stack for each thread, well placed, apart from one another and from the parts
pub record Fits (parts : List Part) (threads : ℕ) (stacks : List Stack) : Type 0 where
  pub one_each : length stacks ≡ threads
  pub well_placed : AllByRecursion IsStack stacks
  pub apart : AreStacksApart stacks
  pub off_parts : AllByRecursion (IsOffStacks stacks) parts
