-- Bytes of numbers, and the bytes that an execution begins with.
use Rattle.std.proofs.Common.{◌≡◌, ◌≤◌, ◌<◌, ◌+◌, ◌-◌, ◌*◌, ◌/◌, ◌^◌, ℕ, zero, suc, Bool, true, false, cond, ◌&&◌, ◌||◌, nat_le, nat_lt, List, [], ◌∷◌, map, Option, Some, None, sym, ◌∙◌, refl, arith}
use Rattle.std.specs.Option.{option_map}
use Rattle.std.proofs.lemmas.Bool.Decides.{nat_tests}
use Rattle.std.proofs.Math.Nat.{pow-suc, pow-le-pow_right, div-eq_of_lt}
use Rattle.ev_graph.specs.declared.execution.Stack.{Stack}
use Rattle.ev_graph.specs.Memory.{Cell, or_else, cell_in, cells_of, stack_part}
use Rattle.ev_graph.specs.Start.{start_at, is_in_stacks}
use Rattle.ev_graph.specs.WellFormed.{byte_of}

-- eight more bits are one more byte
pow-eight : (n : ℕ) → 2 ^ (n + 8) ≡ 2 ^ n * 256
pow-eight n =
    let more : n + 8 ≡ suc (suc (suc (suc (suc (suc (suc (suc n))))))) = omega arith in
    rw more (simp pow-suc (omega arith))

-- 8 bits are one byte
pub pow-bytes : (k : ℕ) → 2 ^ (8 * k) ≡ 256 ^ k
pow-bytes zero = refl
pow-bytes (suc k) =
    let more : 8 * suc k ≡ 8 * k + 8 = omega arith in
    rw (more, pow-eight (8 * k), pow-bytes k, pow-suc 256 k) refl

-- a number of 64 bits has no byte 8
pub byte_of_past : (value k : ℕ) → value < 2 ^ 64 → 8 ≤ k → byte_of value k ≡ 0
byte_of_past value k fits past =
    let bound : 256 ^ 8 ≤ 256 ^ k = pow-le-pow_right (omega arith) past in
    let none : value / 256 ^ k ≡ 0 = div-eq_of_lt (omega arith) in
    rw none refl

-- the test of a stack's part is that of the stack
same_tests : (lo hi n : ℕ) → (nat_le lo n && nat_lt n (lo + (hi - lo))) ≡ (nat_le lo n && nat_lt n hi)
same_tests lo hi n = grind (arith, nat_tests)

-- whether an address lies in a stack
stack_cell : (stack : Stack) (n : ℕ) → option_map (λ (cell : Cell). cell.byte) (cell_in (stack_part stack) n) ≡ cond (nat_le stack.lo n && nat_lt n stack.hi) (Some 0) None
stack_cell stack n =
    let Goal : Bool → Type 0 = λ test. option_map (λ (cell : Cell). cell.byte)
    (cond test (Some (record { byte = 0; readable = true; writable = true })) None) ≡ cond test (Some 0) None in
    let cases : Goal (nat_le stack.lo n && nat_lt n stack.hi) = elim (nat_le stack.lo n && nat_lt n stack.hi) as Goal [ true ↦ refl | false ↦ refl ] in
    rw (same_tests stack.lo stack.hi n) cases

-- the first of two cells, and the first of two tests
first_byte : (cell other : Option Cell) (test also : Bool) → option_map (λ (cell : Cell). cell.byte) cell ≡ cond test (Some 0) None
    → option_map (λ (cell : Cell). cell.byte) other ≡ cond also (Some 0) None
    → option_map (λ (cell : Cell). cell.byte) (or_else cell other) ≡ cond (test || also) (Some 0) None
first_byte (Some cell) other true also first second = first
first_byte (Some cell) other false also first second = absurd cc
first_byte None other true also first second = absurd cc
first_byte None other false also first second = second

-- the byte of the stacks at an address
pub stacks_byte : (stacks : List Stack) (n : ℕ) → option_map (λ (cell : Cell). cell.byte) (cells_of (map stack_part stacks) n) ≡ cond (is_in_stacks stacks n) (Some 0) None
stacks_byte [] n = refl
stacks_byte (stack ∷ stacks) n =
    first_byte (cell_in (stack_part stack) n) (cells_of (map stack_part stacks) n) (nat_le stack.lo n && nat_lt n stack.hi) (is_in_stacks stacks n)
    (stack_cell stack n) (stacks_byte stacks n)

from_cell : (cell other : Option Cell) (byte : ℕ) → Some byte ≡ option_map (λ (cell : Cell). cell.byte) cell
    → option_map (λ (cell : Cell). cell.byte) (or_else cell other) ≡ Some byte
from_cell (Some cell) other byte is = sym is
from_cell None other byte is = absurd cc

from_none : (cell other : Option Cell) → None ≡ option_map (λ (cell : Cell). cell.byte) cell
    → option_map (λ (cell : Cell). cell.byte) (or_else cell other) ≡ option_map (λ (cell : Cell). cell.byte) other
from_none (Some cell) other is = absurd cc
from_none None other is = refl

-- a segment's byte comes first
pub start_at-segment : (cells : ℕ → Option Cell) (stacks : List Stack) (n byte : ℕ) → Some byte ≡ option_map (λ (cell : Cell). cell.byte) (cells n)
    → start_at cells stacks n ≡ Some byte
start_at-segment cells stacks n byte is = from_cell (cells n) (cells_of (map stack_part stacks) n) byte is

-- and where there is none, zero in a stack
pub start_at-stack : (cells : ℕ → Option Cell) (stacks : List Stack) (n : ℕ) → None ≡ option_map (λ (cell : Cell). cell.byte) (cells n)
    → start_at cells stacks n ≡ cond (is_in_stacks stacks n) (Some 0) None
start_at-stack cells stacks n is = from_none (cells n) (cells_of (map stack_part stacks) n) is ∙ stacks_byte stacks n
