-- What stands where the instructions of the made code begin, and where control goes on from there.
use Rattle.std.proofs.Common.{◌≡◌, ◌≤◌, ◌<◌, ◌^◌, ◌⊎◌, ℕ, zero, suc, ◌+◌, ◌-◌, true, List, [], ◌∷◌, ◌++◌, length, drop, arith, refl, sym, ◌∙◌, ap, subst, inl, inr, append_assoc, append-nil, length-append, lit<}
use Rattle.std.specs.Prelude.{◌&&◌, nat_le, nat_lt, replicate, take, if◌then◌else◌}
use Rattle.std.proofs.Math.Seq.{drop-append_seam, take-append_seam, take-length}
use Rattle.std.proofs.lemmas.Bool.{cases_lt}
use Rattle.std.proofs.lemmas.Bool.Decides.{nat_tests}
use Rattle.ev_graph.specs.Memory.{Part, has_flag}
use Rattle.ev_graph.specs.Places.{StandsIn}
use Rattle.x64_syntax.specs.declared.instr.Instr.{Instr}
use Rattle.x64_syntax.specs.declared.instr.Instr.TheVariants as instr
use Rattle.x64_syntax.specs.declared.placed.Flow.TheVariants as flow
use Rattle.x64_syntax.specs.declared.placed.Placed.{Placed}
use Rattle.x64_decode.specs.Spelling.{Spells}
use Rattle.code_at.specs.Code.{memory_bytes, code_from, StandsAt, flow_of, target_from}
use Rattle.cfg_walk.specs.Reach.{after, successors}
use Rattle.gen_input.specs.Made.{cells_to_rdi, store, load, locked_add, fence_and_jump, return, round_code, rounds_code, made_code}
use Rattle.gen_input.proofs.Rounds.{length_rounds}
use Rattle.made_laws.specs.Made.{code_part, cells_part, made_program}
use Rattle.made_laws.proofs.Spelled.{cells_instr, store_instr, load_instr, add_instr, jump_instr, fence, jump, cells_spelled, store_spelled, load_spelled, add_spelled, fence_spelled, jump_spelled, return_spelled}
use Rattle.made_laws.proofs.Places.{IsOffset, IsPlace, place_of, IsShort, RoundIs, round_is, length-more, code_split, length-before, ends_before}

-- ---- the bytes from an address on

whole_memory : (base : ℕ) (code : List ℕ) → memory_bytes (record { address = base; size = length code; flags = 5; bytes = code }) ≡ code
whole_memory base code =
    let none : length code - length code ≡ 0 = omega arith in
    ap (λ l. l ++ replicate (length code - length code) 0) (take-length code) ∙ ap (λ m. code ++ replicate m 0) none ∙ append-nil code

-- the code from one of its addresses on
code_first : (base : ℕ) (code : List ℕ) (parts : List Part) (k : ℕ) → k < length code
    → code_from (record { address = base; size = length code; flags = 5; bytes = code } ∷ parts) (base + k) ≡ drop k code
code_first base code parts k less =
    let all : List ℕ = memory_bytes (record { address = base; size = length code; flags = 5; bytes = code }) in
    let from : nat_le base (base + k) ≡ true = grind (arith, nat_tests) in
    let below : nat_lt (base + k) (base + length code) ≡ true = grind (arith, nat_tests) in
    let offset : base + k - base ≡ k = omega arith in
    ap (λ b. if has_flag 5 1 && (b && nat_lt (base + k) (base + length code)) then drop (base + k - base) all else code_from parts (base + k)) from
    ∙ ap (λ b. if has_flag 5 1 && (true && b) then drop (base + k - base) all else code_from parts (base + k)) below
    ∙ ap (λ m. drop m all) offset ∙ ap (drop k) (whole_memory base code)

-- an instruction stands where its bytes are in the code
stands_there : (n a : ℕ) (xs piece rest : List ℕ) (i : Instr) → made_code n ≡ xs ++ (piece ++ rest) → a ≡ 0x401000 + length xs
    → 0 < length piece → length piece ≤ 15 → Spells piece i → flow_of (made_program n) (a + length piece) i ≡ flow.Plain
    → StandsAt (made_program n) a (record { address = a; length = length piece; instr = i; flow = flow.Plain })
stands_there n a xs piece rest i whole at some few spelled plain =
    let code = made_code n in
    let parts : List Part = code_part code ∷ cells_part ∷ [] in
    let long = ap length whole in
    let inside : length xs < length code = omega (arith, some, long, length-append xs (piece ++ rest), length-append piece rest) in
    let here : code_from parts a ≡ piece ++ rest =
    ap (code_from parts) at ∙ code_first 0x401000 code (cells_part ∷ []) (length xs) inside ∙ ap (drop (length xs)) whole ∙ drop-append_seam xs (piece ++ rest) in
    let taken : take (length piece) (code_from parts a) ≡ piece = ap (take (length piece)) here ∙ take-append_seam piece rest in
    let count = ap length here in
    record {
      here = refl;
      unlisted = λ listed. listed refl;
      short = few;
      within = omega (arith, count, length-append piece rest);
      spelled = subst (λ l. Spells l i) (sym taken) spelled;
      flows = sym plain;
    }

-- ---- the instructions

-- an instruction of the made code
pub data IsMadeInstr : Instr → Type 0 where
  cells : IsMadeInstr cells_instr
  stores : IsMadeInstr store_instr
  loads : IsMadeInstr load_instr
  adds : IsMadeInstr add_instr
  fences : IsMadeInstr instr.Mfence
  jumps : IsMadeInstr jump_instr
  returns : IsMadeInstr instr.Ret

-- what stands at an address: an instruction of the made code, from which control goes on to such addresses, and before whose
-- end no other begins
pub record IsTold (n a : ℕ) : Type 0 where
  pub p : Placed
  pub stands : StandsAt (made_program n) a p
  pub made : IsMadeInstr p.instr
  pub onward : (b : ℕ) → StandsIn (successors p) b → IsPlace n b
  pub apart : (b : ℕ) → IsPlace n b → a < b → a + p.length ≤ b
  pub spaced : (b : ℕ) → IsPlace n b → a < b → a + 2 ≤ b

-- the one of a list of one
pub one_stands : (x b : ℕ) → StandsIn (x ∷ []) b → b ≡ x
one_stands x b (zero, here) = cc
one_stands x b (suc i, here) = absurd (cc)

-- both of a list of two that are the same
pub two_stand : (x b : ℕ) → StandsIn (x ∷ x ∷ []) b → b ≡ x
two_stand x b (zero, here) = cc
two_stand x b (suc zero, here) = cc
two_stand x b (suc (suc i), here) = absurd (cc)

-- an instruction behind the first one
told_inner : (n j d : ℕ) (xs piece rest : List ℕ) (i : Instr) → IsOffset n j d → made_code n ≡ xs ++ (piece ++ rest)
    → length xs ≡ 5 + length (rounds_code j) + d → 0 < length piece → length piece ≤ 15 → Spells piece i
    → flow_of (made_program n) (place_of j d + length piece) i ≡ flow.Plain → IsMadeInstr i → IsShort n j d (length piece) → IsShort n j d 2
    → ((b : ℕ) → StandsIn (after i flow.Plain (place_of j d + length piece)) b → IsPlace n b) → IsTold n (place_of j d)
told_inner n j d xs piece rest i offset whole before some few spelled plain made short spaced onward = record {
  p = record { address = place_of j d; length = length piece; instr = i; flow = flow.Plain };
  stands = stands_there n (place_of j d) xs piece rest i whole (omega (arith, before)) some few spelled plain;
  made = made;
  onward = onward;
  apart = λ b at less. ends_before n j d (length piece) b offset short at less;
  spaced = λ b at less. ends_before n j d 2 b offset spaced at less;
}

-- the first instruction
told_head : (n : ℕ) → IsTold n 0x401000
told_head n = record {
  p = record { address = 0x401000; length = 5; instr = cells_instr; flow = flow.Plain };
  stands = stands_there n 0x401000 [] cells_to_rdi (rounds_code n ++ return) cells_instr refl refl (lit< tt) (omega arith) cells_spelled refl;
  made = IsMadeInstr.cells;
  onward = λ b in_it. IsPlace.inner 0 0 (one_stands 0x401005 b in_it) (IsOffset.first (omega arith) refl);
  apart = behind 5 (omega arith);
  spaced = behind 2 (omega arith);
}
  where
    behind : (size : ℕ) → size ≤ 5 → (b : ℕ) → IsPlace n b → 0x401000 < b → 0x401000 + size ≤ b
    behind size few b (IsPlace.head at) less = absurd (omega (arith, at, less))
    behind size few b (IsPlace.inner k e at to) less = omega (arith, few, at)

-- a round of one instruction, behind which the next round begins
told_round : (n j : ℕ) (piece : List ℕ) (i : Instr) → j < n → round_code j ≡ piece → 3 < length piece → length piece ≤ 15 → (piece ≡ fence_and_jump → ⊥) → Spells piece i
    → ((end : ℕ) → flow_of (made_program n) end i ≡ flow.Plain) → IsMadeInstr i → ((end : ℕ) → after i flow.Plain end ≡ end ∷ []) → IsTold n (place_of j 0)
told_round n j piece i less is some few other spelled plain made falls =
    let split = code_split n j less in
    let long : length (round_code j) ≡ length piece = ap length is in
    told_inner n j 0 (cells_to_rdi ++ rounds_code j) piece split.0 i (IsOffset.first (omega (arith, less)) refl)
    (split.1 ∙ ap (λ l. (cells_to_rdi ++ rounds_code j) ++ (l ++ split.0)) is) (omega (arith, length-before j)) (omega (arith, some)) few spelled
    (plain (place_of j 0 + length piece)) made
    (record { inside = λ below. omega (arith, long); early = λ below start fenced. absurd (other (sym is ∙ fenced)) })
    (record { inside = λ below. omega (arith, long, some); early = λ below start fenced. omega arith })
    (λ b in_it.
    let end : b ≡ place_of j 0 + length piece = one_stands (place_of j 0 + length piece) b (subst (λ l. StandsIn l b) (falls (place_of j 0 + length piece)) in_it) in
    IsPlace.inner (j + 1) 0 (omega (arith, end, length-more j, long)) (IsOffset.first (omega (arith, less)) refl))

split_fence : (xs later : List ℕ) → xs ++ (fence_and_jump ++ later) ≡ (xs ++ fence) ++ (jump ++ later)
split_fence xs later = sym (append_assoc xs fence (jump ++ later))

-- the fence of a round
told_fence : (n j : ℕ) → j < n → round_code j ≡ fence_and_jump → IsTold n (place_of j 0)
told_fence n j less is =
    let split = code_split n j less in
    let long : length (round_code j) ≡ 5 = ap length is in
    told_inner n j 0 (cells_to_rdi ++ rounds_code j) fence (jump ++ split.0) instr.Mfence (IsOffset.first (omega (arith, less)) refl)
    (split.1 ∙ ap (λ l. (cells_to_rdi ++ rounds_code j) ++ (l ++ split.0)) is) (omega (arith, length-before j)) (lit< tt) (omega arith) fence_spelled
    refl IsMadeInstr.fences
    (record { inside = λ below. omega (arith, long); early = λ below start fenced. omega arith })
    (record { inside = λ below. omega (arith, long); early = λ below start fenced. omega arith })
    (λ b in_it.
    let end : b ≡ place_of j 0 + 3 = one_stands (place_of j 0 + 3) b in_it in
    IsPlace.inner j 3 (omega (arith, end)) (IsOffset.second less is refl))

-- a jump over no byte leads to the next instruction
no_jump : (end : ℕ) → end < 2 ^ 64 → target_from end 0 ≡ end
no_jump end low = omega (arith, low)

-- the jump of a round
told_jump : (n j : ℕ) → n ≤ 20000 → j < n → round_code j ≡ fence_and_jump → IsTold n (place_of j 3)
told_jump n j few less is =
    let split = code_split n j less in
    let long : length (round_code j) ≡ 5 = ap length is in
    let front = cells_to_rdi ++ rounds_code j in
    let low : place_of j 3 + 2 < 2 ^ 64 = omega (arith, length_rounds j, less, few) in
    told_inner n j 3 (front ++ fence) jump split.0 jump_instr (IsOffset.second less is refl)
    (split.1 ∙ ap (λ l. front ++ (l ++ split.0)) is ∙ split_fence front split.0)
    (omega (arith, length-before j, length-append front fence)) (lit< tt) (omega arith) jump_spelled
    refl IsMadeInstr.jumps
    (record { inside = λ below. omega (arith, long); early = λ below start fenced. omega arith })
    (record { inside = λ below. omega (arith, long); early = λ below start fenced. omega arith })
    (λ b in_it.
    let end : b ≡ place_of j 3 + 2 =
    two_stand (place_of j 3 + 2) b (subst (λ t. StandsIn (t ∷ (place_of j 3 + 2) ∷ []) b) (no_jump (place_of j 3 + 2) low) in_it) in
    IsPlace.inner (j + 1) 0 (omega (arith, end, length-more j, long)) (IsOffset.first (omega (arith, less)) refl))

joined : (a b c : List ℕ) → a ++ (b ++ c) ≡ (a ++ b) ++ (c ++ [])
joined a b c = sym (append_assoc a b c) ∙ ap (λ l. (a ++ b) ++ l) (sym (append-nil c))

-- the return behind all rounds
told_return : (n : ℕ) → IsTold n (place_of n 0)
told_return n =
    told_inner n n 0 (cells_to_rdi ++ rounds_code n) return [] instr.Ret (IsOffset.first (omega arith) refl)
    (joined cells_to_rdi (rounds_code n) return) (omega (arith, length-before n)) (lit< tt) (omega arith) return_spelled
    refl IsMadeInstr.returns
    (record { inside = λ below. absurd (omega (arith, below)); early = λ below start fenced. omega arith })
    (record { inside = λ below. absurd (omega (arith, below)); early = λ below start fenced. omega arith })
    (λ b in_it. absurd (let none = in_it.1 in cc))

differ : (xs ys : List ℕ) → (length xs ≡ length ys → ⊥) → xs ≡ ys → ⊥
differ xs ys other same = other (ap length same)

-- the first instruction of a round
told_first : (n j : ℕ) → j < n → RoundIs (round_code j) → IsTold n (place_of j 0)
told_first n j less (inl is) =
    told_round n j store store_instr less is (lit< tt) (omega arith) (differ store fence_and_jump (λ e. omega (arith, e))) store_spelled (λ end. refl) IsMadeInstr.stores (λ end. refl)
told_first n j less (inr (inl is)) =
    told_round n j load load_instr less is (lit< tt) (omega arith) (differ load fence_and_jump (λ e. omega (arith, e))) load_spelled (λ end. refl) IsMadeInstr.loads (λ end. refl)
told_first n j less (inr (inr (inl is))) =
    told_round n j locked_add add_instr less is (lit< tt) (omega arith) (differ locked_add fence_and_jump (λ e. omega (arith, e))) add_spelled (λ end. refl) IsMadeInstr.adds (λ end. refl)
told_first n j less (inr (inr (inr is))) = told_fence n j less is

told_offset : (n j d : ℕ) → n ≤ 20000 → IsOffset n j d → IsTold n (place_of j d)
told_offset n j d few (IsOffset.first in_it at) = subst (λ e. IsTold n (place_of j e)) (sym at) (by_cases (cases_lt j n))
  where
    by_cases : (j < n) ⊎ (n ≤ j) → IsTold n (place_of j 0)
    by_cases (inl less) = told_first n j less (round_is j)
    by_cases (inr most) = let same : n ≡ j = omega (arith, in_it, most) in subst (λ m. IsTold n (place_of m 0)) same (told_return n)
told_offset n j d few (IsOffset.second less is at) = subst (λ e. IsTold n (place_of j e)) (sym at) (told_jump n j few less is)

-- what stands where an instruction begins
pub told : (n a : ℕ) → n ≤ 20000 → IsPlace n a → IsTold n a
told n a few (IsPlace.head at) = subst (IsTold n) (sym at) (told_head n)
told n a few (IsPlace.inner j d at offset) = subst (IsTold n) (sym at) (told_offset n j d few offset)
