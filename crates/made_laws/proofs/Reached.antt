-- Of the made code no fault of reached code holds.
use Rattle.std.proofs.Common.{◌≡◌, ◌≤◌, ◌<◌, ℕ, zero, suc, Bool, true, false, List, [], ◌∷◌, map, length, Option, Some, None, IfSome, arith, refl, sym, ◌∙◌, ap, subst}
use Rattle.std.specs.Prelude.{sum_by}
use Rattle.std.proofs.lemmas.List.{length-map}
use Rattle.std.proofs.lemmas.Bool.{false≢true}
use Rattle.std.proofs.lemmas.List.Sums.{sum_by-cons}
use Rattle.ev_graph.specs.Places.{StandsIn}
use Rattle.ev_graph.proofs.Members.{stands_image}
use Rattle.x64_syntax.specs.declared.instr.Instr.{Instr}
use Rattle.x64_syntax.specs.declared.instr.Instr.TheVariants as instr
use Rattle.x64_syntax.specs.declared.operand.Width.{Width}
use Rattle.x64_syntax.specs.declared.placed.Flow.{Flow}
use Rattle.x64_syntax.specs.declared.placed.Placed.{Placed}
use Rattle.elf_read.specs.declared.fault.CodeFault.{CodeFault}
use Rattle.code_at.specs.Code.{StandsAt}
use Rattle.code_at.proofs.CallerLemmas.{one_instruction, bad_stands}
use Rattle.jump_table.specs.declared.entries.Table.{Table}
use Rattle.jump_table.specs.Instructions.{Stands, compare, Sets}
use Rattle.jump_table.specs.Pattern.{IsPattern, Begins}
use Rattle.cfg_walk.specs.Reach.{IsReached, IsPlaced, after, end_of}
use Rattle.cfg_walk.specs.Faults.{IsTooMuch, IsBadCode, IsIndirect, IsOverlapping, is_indirect, Counted, weight, weight_with}
use Rattle.made_laws.specs.Made.{made_program}
use Rattle.made_laws.proofs.Places.{IsPlace}
use Rattle.made_laws.proofs.Standing.{IsMadeInstr, told, two_stand}
use Rattle.made_laws.proofs.Spaced.{few_places}

-- the instruction that stands at a place is the told one
pub is_told : (n a : ℕ) (few : n ≤ 20000) (at : IsPlace n a) (p : Placed) → StandsAt (made_program n) a p → p ≡ (told n a few at).p
is_told n a few at p stands = one_instruction (made_program n) a p (told n a few at).p stands (told n a few at).stands

-- it is one of the made code
pub made_there : (n a : ℕ) → n ≤ 20000 → IsPlace n a → (p : Placed) → StandsAt (made_program n) a p → IsMadeInstr p.instr
made_there n a few at p stands = subst (λ (q : Placed). IsMadeInstr q.instr) (sym (is_told n a few at p stands)) (told n a few at).made

-- ---- no pattern of a jump through a table begins there

is_alu : Instr → Bool
is_alu (instr.Alu o w to from locked) = true
is_alu i = false

no_alu : {i : Instr} → IsMadeInstr i → is_alu i ≡ false
unfolding is_alu
no_alu IsMadeInstr.cells = refl
no_alu IsMadeInstr.stores = refl
no_alu IsMadeInstr.loads = refl
no_alu IsMadeInstr.adds = refl
no_alu IsMadeInstr.fences = refl
no_alu IsMadeInstr.jumps = refl
no_alu IsMadeInstr.returns = refl

compare_alu : (w : Width) (q m : ℕ) → is_alu (compare w q m) ≡ true
unfolding is_alu
compare_alu w q m = refl

no_compare : (n a : ℕ) → n ≤ 20000 → IsPlace n a → (w : Width) (q m b : ℕ) → Stands (made_program n) a (compare w q m) b → ⊥
no_compare n a few at w q m b there =
    false≢true (sym (no_alu (made_there n a few at there.placed there.stands)) ∙ ap is_alu there.is ∙ compare_alu w q m)

-- behind an instruction that sets a register control goes on
falls : {i : Instr} → IsMadeInstr i → (r : ℕ) → Sets r i → (f : Flow) (end : ℕ) → StandsIn (after i f end) end
falls IsMadeInstr.cells r sets f end = (0, refl)
falls IsMadeInstr.stores r sets f end = (0, refl)
falls IsMadeInstr.loads r sets f end = (0, refl)
falls IsMadeInstr.adds r sets f end = (0, refl)
falls IsMadeInstr.fences r sets f end = (0, refl)
falls IsMadeInstr.jumps r sets f end = (1, refl)
falls IsMadeInstr.returns r sets f end = absurd cc

place_behind : (n a : ℕ) → n ≤ 20000 → IsPlace n a → (r : ℕ) (i : Instr) (b : ℕ) → Sets r i → Stands (made_program n) a i b → IsPlace n b
place_behind n a few at r i b sets there =
    let t = told n a few at in
    let same : there.placed ≡ t.p = is_told n a few at there.placed there.stands in
    let instr_is : t.p.instr ≡ i = ap (λ (p : Placed). p.instr) (sym same) ∙ there.is in
    let long : there.placed.length ≡ t.p.length = ap (λ (p : Placed). p.length) same in
    let end : end_of t.p ≡ b = omega (arith, t.stands.here, long, there.ends) in
    subst (IsPlace n) end (t.onward (end_of t.p) (falls t.made r (subst (Sets r) (sym instr_is) sets) t.p.flow (end_of t.p)))

no_pattern_at : (rounds : ℕ) → rounds ≤ 20000 → (table : Table) (target : ℕ) → IsPattern (made_program rounds) table target → IsPlace rounds table.first → ⊥
no_pattern_at rounds few table target (IsPattern.compared {a} {b} {c} {r} {n} one two jumps) at = no_compare rounds a few at _ r n b one
no_pattern_at rounds few table target (IsPattern.copied {a} {b} {c} {e} {q} {r} {n} {d} {base} {w} less other one two three jumps) at =
    no_compare rounds a few at w q n b one
no_pattern_at rounds few table target (IsPattern.bounded {a} {b} {c} {e} {r} {n} {d} {base} {i} sets one two three jumps) at =
    no_compare rounds b few (place_behind rounds a few at r i b sets one) _ r n c two

-- no pattern begins where an instruction begins
pub no_pattern : (n a : ℕ) → n ≤ 20000 → IsPlace n a → (table : Table) → Begins (made_program n) a table → ⊥
no_pattern n a few at table begins = no_pattern_at n few table begins.target begins.pattern (subst (IsPlace n) (sym begins.at) at)

-- ---- what is reached

-- instructions begin at all addresses that are reached
pub reached_place : (n : ℕ) → n ≤ 20000 → {a : ℕ} → IsReached (made_program n) a → IsPlace n a
reached_place n few (IsReached.at-entry {a} stands) = IsPlace.head (two_stand 0x401000 a stands)
reached_place n few (IsReached.at-next {a} {b} p reached stands next) =
    let at = reached_place n few reached in
    let to = told n a few at in
    to.onward b (subst (λ (q : Placed). StandsIn (after q.instr q.flow (end_of q)) b) (is_told n a few at p stands) next)
reached_place n few (IsReached.at-table {a} {b} reached entry) = absurd (no_pattern n a few (reached_place n few reached) entry.table entry.begins)

pub placed_there : (n : ℕ) → n ≤ 20000 → (p : Placed) → IsPlaced (made_program n) p → IsPlace n p.address
placed_there n few p placed = reached_place n few placed.reached

pub placed_made : (n : ℕ) → n ≤ 20000 → (p : Placed) → IsPlaced (made_program n) p → IsMadeInstr p.instr
placed_made n few p placed = made_there n p.address few (placed_there n few p placed) p placed.stands

-- ---- the faults of code

pub no_bad_code : (n : ℕ) → n ≤ 20000 → (fault : CodeFault) → IsBadCode (made_program n) fault → ⊥
no_bad_code n few fault is =
    let t = told n fault.address few (reached_place n few is.reached) in
    bad_stands (made_program n) fault.address fault.kind t.p is.bad t.stands

direct : {i : Instr} → IsMadeInstr i → is_indirect i ≡ false
direct IsMadeInstr.cells = refl
direct IsMadeInstr.stores = refl
direct IsMadeInstr.loads = refl
direct IsMadeInstr.adds = refl
direct IsMadeInstr.fences = refl
direct IsMadeInstr.jumps = refl
direct IsMadeInstr.returns = refl

pub no_indirect : (n : ℕ) → n ≤ 20000 → (a : ℕ) → IsIndirect (made_program n) a → ⊥
no_indirect n few a is = false≢true (sym (direct (placed_made n few is.p is.placed)) ∙ is.indirect)

pub no_overlap : (n : ℕ) → n ≤ 20000 → (a : ℕ) → IsOverlapping (made_program n) a → ⊥
no_overlap n few a is =
    let at = placed_there n few is.other is.other_placed in
    let t = told n is.other.address few at in
    let same : is.other ≡ t.p = is_told n is.other.address few at is.other is.other_placed.stands in
    let long : is.other.length ≡ t.p.length = ap (λ (p : Placed). p.length) same in
    let below : is.other.address < is.p.address = omega (arith, is.behind, is.here) in
    let ends = t.apart is.p.address (placed_there n few is.p is.placed) below in
    omega (arith, ends, long, is.inside, is.here)

-- each address counts for itself alone
counts_alone : (n a : ℕ) → n ≤ 20000 → IsPlace n a → (table : Option Table) → IfSome table (Begins (made_program n) a) → weight_with table ≡ 1
counts_alone n a few at None begins = refl
counts_alone n a few at (Some table) begins = absurd (no_pattern n a few at table begins)

counted : (some : List Counted) → ((c : Counted) → StandsIn some c → weight c ≡ 1) → sum_by weight some ≡ length some
counted [] alone = refl
counted (c ∷ some) alone =
    let here = sum_by-cons weight c some in
    let one = alone c (zero, refl) in
    omega (arith, here, one, counted some (λ d at. alone d (suc at.0, at.1)))

pub not_too_much : (n : ℕ) → n ≤ 20000 → IsTooMuch (made_program n) → ⊥
not_too_much n few is =
    let place : (c : Counted) → StandsIn is.some c → IsPlace n c.address = λ c at. reached_place n few (is.reached c at) in
    let most = few_places n few (map address_of is.some) is.once
    (λ a stands. let of = stands_image address_of is.some a stands in subst (IsPlace n) of.2 (place of.0 of.1)) in
    let long = length-map is.some address_of in
    omega (arith, most, long, is.more, counted is.some (λ c at. counts_alone n c.address few (place c at) c.table (is.begins c at)))
  where
    address_of : Counted → ℕ
    address_of c = c.address
