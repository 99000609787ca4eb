-- What may be read and written in the memory of an image and of stacks.
use Rattle.std.proofs.Common.{◌≡◌, ◌≤◌, ◌<◌, ◌+◌, ◌-◌, ◌*◌, ◌^◌, ℕ, zero, suc, Bool, true, false, cond, ◌&&◌, ◌||◌, nat_le, nat_lt, List, [], ◌∷◌, ◌++◌, length, map, Option, Some, None, sym, ◌∙◌, refl, ap, subst, arith, ◌⊎◌, ⊎_elim, inl, inr}
use mathlib.Core.Path.{fun_ext}
use Rattle.std.specs.Prelude.{IsTrue, ◌↔◌, slice_index}
use Rattle.std.specs.List.{AllByRecursion}
use Rattle.std.specs.Option.{option_map}
use Rattle.std.proofs.lemmas.Bool.Decides.{nat_tests}
use Rattle.ev_graph.specs.declared.execution.Stack.{Stack}
use Rattle.ev_graph.specs.Memory.{Cell, Part, or_else, cell_in, cells_of, stack_part, memory, permits, has_flag, Allows, allows, IsStack, Fits}
use Rattle.ev_graph.specs.Start.{is_in_stacks, with_stacks}
use Rattle.ev_graph.proofs.CallerLemmas.{memory-with_stacks}
use Rattle.ev_graph.proofs.Bytes.{start_at-stack}
use Rattle.a64_table.specs.Machine.{a64_step}
use Rattle.elf_write.specs.declared.image.Image.{Image}
use Rattle.elf_write.specs.Image.{image_part, code_part, image_cells, image_parts, IsKept, IsImage}
use Rattle.arm_replay.specs.Memories.{low_cells, low_step}
use Rattle.arm_replay.specs.Replays.{thread_step}

-- the cell of a stack
abbrev stack_cell : Cell
stack_cell = record { byte = 0; readable = true; writable = true }

-- the test of a stack's part is that of the stack
same_tests : (lo hi n : ℕ) → (nat_le lo n && nat_lt n (lo + (hi - lo))) ≡ (nat_le lo n && nat_lt n hi)
same_tests lo hi n = grind (arith, nat_tests)

permits_first : (write test : Bool) (other : Option Cell) → permits write (or_else (cond test (Some stack_cell) None) other) ≡ (test || permits write other)
permits_first true true other = refl
permits_first false true other = refl
permits_first write false other = refl

-- a stack may be read and written wherever it is
pub permits_stacks : (write : Bool) (stacks : List Stack) (n : ℕ) → permits write (cells_of (map stack_part stacks) n) ≡ is_in_stacks stacks n
permits_stacks true [] n = refl
permits_stacks false [] n = refl
permits_stacks write (stack ∷ stacks) n =
    let P : Bool → Type 0 = λ test. permits write (or_else (cond test (Some stack_cell) None) (cells_of (map stack_part stacks) n)) ≡ ((nat_le stack.lo n && nat_lt n stack.hi) || is_in_stacks stacks n) in
    subst P (sym (same_tests stack.lo stack.hi n))
    (permits_first write (nat_le stack.lo n && nat_lt n stack.hi) (cells_of (map stack_part stacks) n) ∙ ap (λ b. (nat_le stack.lo n && nat_lt n stack.hi) || b) (permits_stacks write stacks n))

low_there : (image : Image) (stacks : List Stack) (n : ℕ) → n < 2 ^ 64 → low_cells image stacks n ≡ with_stacks (image_cells image) stacks n
low_there image stacks n low =
    let there : nat_lt n (2 ^ 64) ≡ true = grind (arith, nat_tests) in
    ap (λ b. cond b (with_stacks (image_cells image) stacks n) None) there

decide : (told p : Bool) → (told ≡ true → p ≡ true) → (p ≡ true → told ≡ true) → told ≡ p
decide true p there back = sym (there refl)
decide false true there back = back refl
decide false false there back = refl

-- a byte of the image, as the image itself tells
pub permits_image : (image : Image) (stacks : List Stack) (n byte : ℕ) (write told : Bool) → n < 2 ^ 64
    → Some byte ≡ option_map (λ (cell : Cell). cell.byte) (image_cells image n) → (IsTrue told ↔ Allows (image_cells image) write n 1)
    → told ≡ permits write (low_cells image stacks n)
permits_image image stacks n byte write told low some is =
    by (image_cells image n) refl some told is ∙ ap (permits write) (sym (low_there image stacks n low))
  where
    by : (cell : Option Cell) → image_cells image n ≡ cell → Some byte ≡ option_map (λ (cell : Cell). cell.byte) cell → (told : Bool)
        → (IsTrue told ↔ Allows (image_cells image) write n 1) → told ≡ permits write (or_else (image_cells image n) (cells_of (map stack_part stacks) n))
    by None e some told is = absurd (cc)
    by (Some cell) e some told is =
        let first : or_else (image_cells image n) (cells_of (map stack_part stacks) n) ≡ image_cells image n = ap (λ c. or_else c (cells_of (map stack_part stacks) n)) e ∙ sym e in
        let zero_on : n + 0 ≡ n = omega arith in
        decide told (permits write (image_cells image n))
        (λ yes_told. subst (λ m. permits write (image_cells image m) ≡ true) zero_on (is.0 yes_told 0 (omega arith)))
        (λ permitted. is.1 (λ k lt. let e : n ≡ n + k = omega (arith, lt) in subst (λ m. permits write (image_cells image m) ≡ true) e permitted))
        ∙ ap (permits write) (sym first)

-- a byte that the image does not have
pub permits_stack : (image : Image) (stacks : List Stack) (n : ℕ) (write : Bool) → n < 2 ^ 64
    → None ≡ option_map (λ (cell : Cell). cell.byte) (image_cells image n) → is_in_stacks stacks n ≡ permits write (low_cells image stacks n)
permits_stack image stacks n write low none =
    by (image_cells image n) none ∙ ap (permits write) (sym (low_there image stacks n low))
  where
    by : (cell : Option Cell) → None ≡ option_map (λ (cell : Cell). cell.byte) cell → is_in_stacks stacks n ≡ permits write (or_else cell (cells_of (map stack_part stacks) n))
    by None none = sym (permits_stacks write stacks n)
    by (Some cell) none = absurd (cc)

-- a part that has no byte behind 2^64, or may be neither read nor written
abbrev pub IsLow : Part → Type 0
IsLow part = (part.address + part.size ≤ 2 ^ 64) ⊎ (part.flags ≡ 1)

no_cell : (part : Part) (n : ℕ) → part.address + part.size ≤ 2 ^ 64 → 2 ^ 64 ≤ n → cell_in part n ≡ None
no_cell part n low past =
    let out : nat_lt n (part.address + part.size) ≡ false = grind (arith, nat_tests) in
    let none : (nat_le part.address n && nat_lt n (part.address + part.size)) ≡ false = grind (arith, nat_tests) in
    ap (λ b. cond b (Some (record { byte = slice_index part.bytes (n - part.address); readable = has_flag part.flags 4; writable = has_flag part.flags 2 })) None) none

no_permission : (write test : Bool) (byte flags : ℕ) (other : Option Cell) → flags ≡ 1 → permits write other ≡ false
    → permits write (or_else (cond test (Some (record { byte = byte; readable = has_flag flags 4; writable = has_flag flags 2 })) None) other) ≡ false
no_permission true true byte flags other code none = ap (λ f. has_flag f 2) code
no_permission false true byte flags other code none = ap (λ f. has_flag f 4) code
no_permission write false byte flags other code none = none

pub permits_none : (write : Bool) → permits write None ≡ false
permits_none true = refl
permits_none false = refl

-- nothing is permitted behind 2^64
none_permitted : (write : Bool) (parts : List Part) (n : ℕ) → AllByRecursion IsLow parts → 2 ^ 64 ≤ n → permits write (cells_of parts n) ≡ false
none_permitted write [] n low past = permits_none write
none_permitted write (part ∷ parts) n low past =
    let rest = none_permitted write parts n low.1 past in
    ⊎_elim (λ (ends : part.address + part.size ≤ 2 ^ 64). ap (λ c. permits write (or_else c (cells_of parts n))) (no_cell part n ends past) ∙ rest)
    (λ (data_alone : part.flags ≡ 1). no_permission write (nat_le part.address n && nat_lt n (part.address + part.size)) (slice_index part.bytes (n - part.address)) part.flags (cells_of parts n) data_alone rest) low.0

-- so the permissions are those of all the memory
permits_low : (image : Image) (stacks : List Stack) → AllByRecursion IsLow (image_parts image ++ map stack_part stacks)
    → (write : Bool) (n : ℕ) → permits write (low_cells image stacks n) ≡ permits write (memory (image_parts image) stacks n)
permits_low image stacks low write n = by (nat_lt n (2 ^ 64)) refl
  where
    by : (b : Bool) → nat_lt n (2 ^ 64) ≡ b → permits write (cond b (with_stacks (image_cells image) stacks n) None) ≡ permits write (memory (image_parts image) stacks n)
    by true e = ap (permits write) (sym (memory-with_stacks (image_parts image) stacks n))
    by false e = let past : 2 ^ 64 ≤ n = grind (arith, nat_tests) in permits_none write ∙ sym (none_permitted write (image_parts image ++ map stack_part stacks) n low past)

allows_same : (a b : ℕ → Option Cell) → ((write : Bool) (n : ℕ) → permits write (a n) ≡ permits write (b n))
    → (write : Bool) (address size : ℕ) → allows a write address size ≡ allows b write address size
unfolding allows
allows_same a b same write address zero = refl
allows_same a b same write address (suc size) =
    ap (λ p. p && allows a write (address + 1) size) (same write address) ∙ ap (λ r. permits write (b address) && r) (allows_same a b same write (address + 1) size)

all_joined : {A : Type 0} (P : A → Type 0) (xs ys : List A) → AllByRecursion P xs → AllByRecursion P ys → AllByRecursion P (xs ++ ys)
all_joined P [] ys first second = second
all_joined P (x ∷ xs) ys first second = (first.0, all_joined P xs ys first.1 second)

kept_low : (parts : List Part) → AllByRecursion IsKept parts → AllByRecursion IsLow parts
kept_low [] kept = tt
kept_low (part ∷ parts) kept = (inl (let low = kept.0.low in omega (arith, low)), kept_low parts kept.1)

stacks_low : (stacks : List Stack) → AllByRecursion IsStack stacks → AllByRecursion IsLow (map stack_part stacks)
stacks_low [] stack = tt
stacks_low (stack ∷ stacks) is = (inl (let low = is.0.low_half in let some = is.0.filled in omega (arith, low, some)), stacks_low stacks is.1)

-- in a layout that fits, the machine over the low cells is that of the image
pub low_same : (image : Image) (stacks : List Stack) → IsImage image → Fits (image_parts image) (length image.threads) stacks → low_step image stacks ≡ thread_step image stacks
low_same image stacks is fits =
    let low = all_joined IsLow (image_parts image) (map stack_part stacks)
    (all_joined IsLow (map image_part image.segments) (code_part image.code_address image.words ∷ []) (kept_low (map image_part image.segments) is.segments) (inr refl, tt))
    (stacks_low stacks fits.well_placed) in
    let same : allows (low_cells image stacks) ≡ allows (memory (image_parts image) stacks) =
    fun_ext (λ write. fun_ext (λ address. fun_ext (λ size. allows_same (low_cells image stacks) (memory (image_parts image) stacks) (permits_low image stacks low) write address size))) in
    ap (λ may. a64_step may image.code_address image.words) same

-- the byte where the image has none: zero in a stack
pub byte_behind : (image : Image) (stacks : List Stack) (n : ℕ) (inside : Bool) → n < 2 ^ 64 → None ≡ option_map (λ (cell : Cell). cell.byte) (image_cells image n)
    → is_in_stacks stacks n ≡ inside → cond inside (Some 0) None ≡ option_map (λ (cell : Cell). cell.byte) (low_cells image stacks n)
byte_behind image stacks n inside low none is =
    sym (ap (option_map (λ (cell : Cell). cell.byte)) (low_there image stacks n low) ∙ start_at-stack (image_cells image) stacks n none ∙ ap (λ b. cond b (Some 0) None) is)
