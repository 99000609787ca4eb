-- What may be read and written is the same in the memory of an input and of its image.
use Rattle.std.proofs.Common.{◌≡◌, ℕ, zero, suc, ◌+◌, ◌-◌, ◌*◌, ◌<◌, ◌≤◌, ◌==◌, ◌&&◌, Bool, true, false, List, [], ◌∷◌, ◌++◌, length, map, Option, Some, None, arith, sym, ◌∙◌, ap, refl, eqb-true}
use Rattle.std.specs.Prelude.{if◌then◌else◌, nat_le, nat_lt, bit_and, min, slice_index}
use mathlib.Core.Path.{fun_ext}
use Rattle.std.specs.List.{AllByRecursion}
use Rattle.std.specs.Int.{bit_at}
use Rattle.std.proofs.lemmas.Bool.Decides.{nat_tests}
use Rattle.std.proofs.lemmas.Nat.Bits.{bit_at_and, bit_at-lt}
use Rattle.ev_graph.specs.declared.execution.Stack.{Stack}
use Rattle.ev_graph.specs.Memory.{Cell, Part, has_flag, cell_in, or_else, cells_of, stack_part, memory, permits, allows, IsOffStacks}
use Rattle.behavior.specs.Acts.{Permission}
use Rattle.elf_write.specs.Image.{code_part, kept}
use Rattle.carry_spec.specs.Threads.{allowed}

-- an address is in a part, or the part has no cell there
in_range : Part → ℕ → Bool
in_range part n = nat_le part.address n && nat_lt n (part.address + part.size)

outside : (low high n : ℕ) → (nat_le low n && nat_lt n high) ≡ false → (nat_le low n ≡ true) → (nat_lt n high ≡ true) → ⊥
outside low high n none first second = grind (arith, nat_tests)

pub in_bounds : (low high n : ℕ) → (nat_le low n && nat_lt n high) ≡ true → (low ≤ n) × (n < high)
in_bounds low high n both = (grind (arith, nat_tests), grind (arith, nat_tests))

off_bounds : (low high n : ℕ) → ((low ≤ n) → (n < high) → ⊥) → (nat_le low n && nat_lt n high) ≡ false
off_bounds low high n off = by_test (nat_le low n && nat_lt n high) refl
  where
    by_test : (b : Bool) → (nat_le low n && nat_lt n high) ≡ b → (nat_le low n && nat_lt n high) ≡ false
    by_test false e = e
    by_test true e = absurd (off (in_bounds low high n e).0 (in_bounds low high n e).1)

-- the flags R and W are kept
kept_bit : (flags k : ℕ) → bit_at 6 k ≡ 1 → bit_at (bit_and flags 6) k ≡ bit_at flags k
kept_bit flags k set =
    let both = bit_at_and flags 6 k in
    let low = bit_at-lt flags k in
    both ∙ ap (min (bit_at flags k)) set ∙ least (bit_at flags k) low
  where
    least : (b : ℕ) → b < 2 → min b 1 ≡ b
    least b low = omega (arith, low)

kept_flags : (write : Bool) (part : Part) (n : ℕ) → permits write (cell_in (record part { flags = bit_and part.flags 6 }) n) ≡ permits write (cell_in part n)
kept_flags write part n = by_range write (nat_le part.address n && nat_lt n (part.address + part.size))
  where
    cell : ℕ → Cell
    cell flags = record { byte = slice_index part.bytes (n - part.address); readable = has_flag flags 4; writable = has_flag flags 2 }

    by_range : (write b : Bool) → permits write (if b then Some (cell (bit_and part.flags 6)) else None) ≡ permits write (if b then Some (cell part.flags) else None)
    by_range write false = refl
    by_range false true = ap (λ k. k == 1) (kept_bit part.flags 2 refl)
    by_range true true = ap (λ k. k == 1) (kept_bit part.flags 1 refl)

-- a choice of cells permits what the chosen one does
chosen : (write : Bool) (a b c d : Option Cell) → (a ≡ None → b ≡ None) → (b ≡ None → a ≡ None) → permits write a ≡ permits write b → permits write c ≡ permits write d
    → permits write (or_else a c) ≡ permits write (or_else b d)
chosen write None None c d forth back first second = second
chosen write None (Some y) c d forth back first second = absurd (some_none (forth refl))
  where
    some_none : Some y ≡ None → ⊥
    some_none e = absurd cc
chosen write (Some x) None c d forth back first second = absurd (some_none (back refl))
  where
    some_none : Some x ≡ None → ⊥
    some_none e = absurd cc
chosen write (Some x) (Some y) c d forth back first second = first

there_or_not : (part other : Part) (n : ℕ) → other.address ≡ part.address → other.size ≡ part.size → cell_in part n ≡ None → cell_in other n ≡ None
there_or_not part other n address size none =
    by_range (nat_le part.address n && nat_lt n (part.address + part.size)) refl none
  where
    some_none : {c : Cell} → Some c ≡ None → ⊥
    some_none e = absurd cc

    by_range : (b : Bool) → (nat_le part.address n && nat_lt n (part.address + part.size)) ≡ b → cell_in part n ≡ None → cell_in other n ≡ None
    by_range false e none =
        ap (λ a. if nat_le a n && nat_lt n (a + other.size) then Some (record { byte = slice_index other.bytes (n - other.address); readable = has_flag other.flags 4; writable = has_flag other.flags 2 }) else None) address
        ∙ ap (λ s. if nat_le part.address n && nat_lt n (part.address + s) then Some (record { byte = slice_index other.bytes (n - other.address); readable = has_flag other.flags 4; writable = has_flag other.flags 2 }) else None) size
        ∙ ap (λ b. if b then Some (record { byte = slice_index other.bytes (n - other.address); readable = has_flag other.flags 4; writable = has_flag other.flags 2 }) else None) e
    by_range true e none =
        absurd (some_none (sym (ap (λ b. if b then Some (record { byte = slice_index part.bytes (n - part.address); readable = has_flag part.flags 4; writable = has_flag part.flags 2 }) else None) e) ∙ none))

-- a part of size 0 has no cell
pub empty_none : (part : Part) (n : ℕ) → part.size ≡ 0 → cell_in part n ≡ None
empty_none part n none =
    ap (λ b. if b then Some (record { byte = slice_index part.bytes (n - part.address); readable = has_flag part.flags 4; writable = has_flag part.flags 2 }) else None)
    (off_bounds part.address (part.address + part.size) n (λ low high. absurd (omega (arith, none, low, high))))

-- an address off the stacks has no cell there
pub off_none : (stacks : List Stack) (part : Part) (n : ℕ) → part.address ≤ n → n < part.address + part.size → IsOffStacks stacks part → cells_of (map stack_part stacks) n ≡ None
off_none [] part n low high off = refl
off_none (stack ∷ stacks) part n low high off =
    ap (λ b. or_else (if b then Some (record { byte = slice_index [] (n - stack.lo); readable = true; writable = true }) else None) (cells_of (map stack_part stacks) n))
    (off_bounds stack.lo (stack.lo + (stack.hi - stack.lo)) n (λ from to. off.0 n low high from (omega (arith, from, to))))
    ∙ off_none stacks part n low high off.1

-- behind code that can only be executed nothing may be read or written that the stacks have
code_permits : (write : Bool) (address n : ℕ) (words : List ℕ) (stacks : List Stack) → IsOffStacks stacks (code_part address words)
    → permits write (or_else (cell_in (code_part address words) n) (cells_of (map stack_part stacks) n)) ≡ permits write (cells_of (map stack_part stacks) n)
code_permits write address n words stacks off = by_range write (nat_le address n && nat_lt n (address + 4 * length words)) refl
  where
    others : Option Cell
    others = cells_of (map stack_part stacks) n

    choice : Bool → Option Cell
    choice b = or_else (if b then Some (record { byte = slice_index (code_part address words).bytes (n - address); readable = false; writable = false }) else None) others

    by_range : (write b : Bool) → (nat_le address n && nat_lt n (address + 4 * length words)) ≡ b → permits write (choice (nat_le address n && nat_lt n (address + 4 * length words))) ≡ permits write others
    by_range write false e = ap (λ b. permits write (choice b)) e
    by_range false true e =
        let there = in_bounds address (address + 4 * length words) n e in
        ap (λ b. permits false (choice b)) e ∙ sym (ap (permits false) (off_none stacks (code_part address words) n there.0 there.1 off))
    by_range true true e =
        let there = in_bounds address (address + 4 * length words) n e in
        ap (λ b. permits true (choice b)) e ∙ sym (ap (permits true) (off_none stacks (code_part address words) n there.0 there.1 off))

-- each cell permits the same
kept_permits : (b write : Bool) (part : Part) (n : ℕ) (ps : List Part) (code : Part) (stacks : List Stack) → (part.size == 0) ≡ b
    → permits write (cells_of ((kept ps ++ code ∷ []) ++ map stack_part stacks) n) ≡ permits write (cells_of (ps ++ map stack_part stacks) n)
    → permits write (cells_of (((if b then kept ps else record part { flags = bit_and part.flags 6 } ∷ kept ps) ++ code ∷ []) ++ map stack_part stacks) n)
    ≡ permits write (or_else (cell_in part n) (cells_of (ps ++ map stack_part stacks) n))
kept_permits true write part n ps code stacks none others =
    others ∙ sym (ap (λ c. permits write (or_else c (cells_of (ps ++ map stack_part stacks) n))) (empty_none part n (eqb-true part.size 0 none)))
kept_permits false write part n ps code stacks some others =
    chosen write (cell_in (record part { flags = bit_and part.flags 6 }) n) (cell_in part n) _ _
    (there_or_not (record part { flags = bit_and part.flags 6 }) part n refl refl) (there_or_not part (record part { flags = bit_and part.flags 6 }) n refl refl)
    (kept_flags write part n) others

cells_permit : (parts : List Part) (address : ℕ) (words : List ℕ) (stacks : List Stack) → IsOffStacks stacks (code_part address words) → (write : Bool) (n : ℕ)
    → permits write (memory (kept parts ++ code_part address words ∷ []) stacks n) ≡ permits write (memory parts stacks n)
cells_permit [] address words stacks off write n = code_permits write address n words stacks off
cells_permit (part ∷ parts) address words stacks off write n =
    kept_permits (part.size == 0) write part n parts (code_part address words) stacks refl (cells_permit parts address words stacks off write n)

allows_same : (c d : ℕ → Option Cell) → ((write : Bool) (n : ℕ) → permits write (c n) ≡ permits write (d n)) → (write : Bool) (address size : ℕ) → allows c write address size ≡ allows d write address size
unfolding allows
allows_same c d same write address zero = refl
allows_same c d same write address (suc size) =
    ap (λ b. b && allows c write (address + 1) size) (same write address) ∙ ap (λ b. permits write (d address) && b) (allows_same c d same write (address + 1) size)

pub last_part : (P : Part → Type 0) (parts : List Part) (part : Part) → AllByRecursion P (parts ++ part ∷ []) → P part
last_part P [] part all = all.0
last_part P (other ∷ parts) part all = last_part P parts part all.1

-- what may be read and written is the same
pub same_allowed : (parts : List Part) (address : ℕ) (words : List ℕ) (stacks : List Stack) → AllByRecursion (IsOffStacks stacks) (kept parts ++ code_part address words ∷ [])
    → ◌≡◌ {A = Permission} (allowed (kept parts ++ code_part address words ∷ []) stacks) (allowed parts stacks)
same_allowed parts address words stacks off =
    let here = last_part (IsOffStacks stacks) (kept parts) (code_part address words) off in
    fun_ext (λ write. fun_ext (λ n. fun_ext (λ size. allows_same (memory (kept parts ++ code_part address words ∷ []) stacks) (memory parts stacks)
    (cells_permit parts address words stacks here) write n size)))
