-- An image starts with the bytes of its input.
use Rattle.std.proofs.Common.{◌≡◌, ℕ, zero, suc, ◌+◌, ◌-◌, ◌*◌, ◌<◌, ◌==◌, ◌&&◌, Bool, true, false, List, [], ◌∷◌, ◌++◌, length, map, Option, Some, None, arith, sym, ◌∙◌, ap, refl, subst, eqb-true}
use Rattle.std.specs.Prelude.{if◌then◌else◌, nat_le, nat_lt, bit_and, slice_index, IsSome}
use Rattle.std.specs.Option.{option_map}
use Rattle.std.specs.List.{AllByRecursion}
use Rattle.ev_graph.specs.declared.execution.Stack.{Stack}
use Rattle.ev_graph.specs.Memory.{Cell, Part, has_flag, cell_in, or_else, cells_of, stack_part, memory, permits, allows, IsOffStacks}
use Rattle.ev_graph.specs.Start.{start_at}
use Rattle.ev_graph.proofs.CallerLemmas.{memory-with_stacks}
use Rattle.elf_write.specs.Image.{code_part, kept}
use Rattle.translate_core.proofs.Permitted.{in_bounds, empty_none, off_none, last_part}

-- the byte of a cell, where there is one
abbrev pub byte_in : Option Cell → Option ℕ
byte_in o = option_map (λ (cell : Cell). cell.byte) o

no_some : {A : Type 0} {x : A} → None ≡ Some x → ⊥
no_some e = absurd cc

nothing : IsSome {T = Cell} None → ⊥
nothing e = absurd cc

chosen_byte : (a b c d : Option Cell) → byte_in a ≡ byte_in b → (IsSome d → byte_in c ≡ byte_in d) → IsSome (or_else b d) → byte_in (or_else a c) ≡ byte_in (or_else b d)
chosen_byte None None c d first second some = second some
chosen_byte (Some x) (Some y) c d first second some = first
chosen_byte None (Some y) c d first second some = absurd (no_some first)
chosen_byte (Some x) None c d first second some = absurd (no_some (sym first))

kept_byte : (part : Part) (n : ℕ) → byte_in (cell_in (record part { flags = bit_and part.flags 6 }) n) ≡ byte_in (cell_in part n)
kept_byte part n = by_range (nat_le part.address n && nat_lt n (part.address + part.size))
  where
    cell : ℕ → Cell
    cell flags = record { byte = slice_index part.bytes (n - part.address); readable = has_flag flags 4; writable = has_flag flags 2 }

    by_range : (b : Bool) → byte_in (if b then Some (cell (bit_and part.flags 6)) else None) ≡ byte_in (if b then Some (cell part.flags) else None)
    by_range true = refl
    by_range false = refl

code_byte : (address n : ℕ) (words : List ℕ) (stacks : List Stack) → IsOffStacks stacks (code_part address words) → IsSome (cells_of (map stack_part stacks) n)
    → byte_in (or_else (cell_in (code_part address words) n) (cells_of (map stack_part stacks) n)) ≡ byte_in (cells_of (map stack_part stacks) n)
code_byte address n words stacks off some = by_range (nat_le address n && nat_lt n (address + 4 * length words)) refl
  where
    others : Option Cell
    others = cells_of (map stack_part stacks) n

    choice : Bool → Option Cell
    choice b = or_else (if b then Some (record { byte = slice_index (code_part address words).bytes (n - address); readable = false; writable = false }) else None) others

    by_range : (b : Bool) → (nat_le address n && nat_lt n (address + 4 * length words)) ≡ b → byte_in (choice (nat_le address n && nat_lt n (address + 4 * length words))) ≡ byte_in others
    by_range false e = ap (λ b. byte_in (choice b)) e
    by_range true e =
        let there = in_bounds address (address + 4 * length words) n e in
        absurd (nothing (subst IsSome (off_none stacks (code_part address words) n there.0 there.1 off) some))

kept_bytes : (b : Bool) (part : Part) (n : ℕ) (ps : List Part) (code : Part) (stacks : List Stack) → (part.size == 0) ≡ b
    → (IsSome (cells_of (ps ++ map stack_part stacks) n) → byte_in (cells_of ((kept ps ++ code ∷ []) ++ map stack_part stacks) n) ≡ byte_in (cells_of (ps ++ map stack_part stacks) n))
    → IsSome (or_else (cell_in part n) (cells_of (ps ++ map stack_part stacks) n))
    → byte_in (cells_of (((if b then kept ps else record part { flags = bit_and part.flags 6 } ∷ kept ps) ++ code ∷ []) ++ map stack_part stacks) n)
    ≡ byte_in (or_else (cell_in part n) (cells_of (ps ++ map stack_part stacks) n))
kept_bytes true part n ps code stacks none others some =
    let here = ap (λ c. or_else c (cells_of (ps ++ map stack_part stacks) n)) (empty_none part n (eqb-true part.size 0 none)) in
    others (subst IsSome here some) ∙ sym (ap byte_in here)
kept_bytes false part n ps code stacks size others some =
    chosen_byte (cell_in (record part { flags = bit_and part.flags 6 }) n) (cell_in part n) _ _ (kept_byte part n) others some

-- where the input has a byte the image has it
pub same_bytes : (parts : List Part) (address : ℕ) (words : List ℕ) (stacks : List Stack) → IsOffStacks stacks (code_part address words) → (n : ℕ) → IsSome (memory parts stacks n)
    → byte_in (memory (kept parts ++ code_part address words ∷ []) stacks n) ≡ byte_in (memory parts stacks n)
same_bytes [] address words stacks off n some = code_byte address n words stacks off some
same_bytes (part ∷ parts) address words stacks off n some =
    kept_bytes (part.size == 0) part n parts (code_part address words) stacks refl (same_bytes parts address words stacks off n) some

-- so they start alike
pub same_start : (parts image_parts : List Part) (address : ℕ) (words : List ℕ) (stacks : List Stack) → image_parts ≡ kept parts ++ code_part address words ∷ []
    → AllByRecursion (IsOffStacks stacks) image_parts → (n : ℕ) → IsSome (memory parts stacks n)
    → start_at (cells_of parts) stacks n ≡ start_at (cells_of image_parts) stacks n
same_start parts image_parts address words stacks same off n some =
    let here : IsOffStacks stacks (code_part address words) = last_part (IsOffStacks stacks) (kept parts) (code_part address words) (subst (AllByRecursion (IsOffStacks stacks)) same off) in
    ap byte_in (sym (memory-with_stacks parts stacks n)) ∙ sym (same_bytes parts address words stacks here n some)
    ∙ ap (λ ps. byte_in (memory ps stacks n)) (sym same) ∙ ap byte_in (memory-with_stacks image_parts stacks n)

permits_some : (write : Bool) (o : Option Cell) → permits write o ≡ true → IsSome o
permits_some write None e = absurd (never e)
  where
    never : false ≡ true → ⊥
    never e = absurd cc
permits_some write (Some cell) e = refl

both : (a b : Bool) → (a && b) ≡ true → (a ≡ true) × (b ≡ true)
both true b e = (refl, e)
both false b e = absurd cc

-- what is allowed is there
pub allowed_some : (cells : ℕ → Option Cell) (write : Bool) (address size k : ℕ) → allows cells write address size ≡ true → k < size → IsSome (cells (address + k))
unfolding allows
allowed_some cells write address zero k all low = absurd (omega (arith, low))
allowed_some cells write address (suc size) zero all low =
    let here = both (permits write (cells address)) (allows cells write (address + 1) size) all in
    let place : address ≡ address + 0 = omega arith in
    subst (λ n. IsSome (cells n)) place (permits_some write (cells address) here.0)
allowed_some cells write address (suc size) (suc k) all low =
    let here = both (permits write (cells address)) (allows cells write (address + 1) size) all in
    let place : address + 1 + k ≡ address + suc k = omega arith in
    subst (λ n. IsSome (cells n)) place (allowed_some cells write (address + 1) size k here.1 (omega (arith, low)))
