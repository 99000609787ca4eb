-- The counts of blocks are small: an instruction has at most two accesses, and a block at most one gap more than accesses.
use Rattle.std.proofs.Common.{◌≡◌, ◌≤◌, ◌<◌, ◌+◌, ◌*◌, ◌-◌, ◌^◌, ℕ, Bool, true, false, not, List, [], ◌∷◌, ◌++◌, length, take, min, Some, None, Option, refl, ap, ◌∙◌, arith}
use Rattle.std.specs.Prelude.{sum_by, count_by, flat_map, if◌then◌else◌}
use Rattle.std.proofs.lemmas.List.{length-append, length-take}
use Rattle.std.proofs.lemmas.List.Sums.{sum_by-cons, sum_by-append, count_by-le-length, length-filter}
use Rattle.std.proofs.lemmas.List.Filters.{length-filter_both}
use Rattle.x64_syntax.specs.Slots.{placed_slots}
use Rattle.x64_syntax.specs.declared.instr.Instr.{Instr}
use Rattle.x64_syntax.specs.declared.instr.Instr.TheVariants as instr
use Rattle.x64_syntax.specs.declared.placed.Placed.{Placed}
use Rattle.x64_syntax.specs.declared.slots.Slot.{Slot}
use Rattle.x64_syntax.specs.declared.slots.SlotKind.{SlotKind}
use Rattle.code_at.specs.Code.{Program}
use Rattle.cfg_walk.specs.declared.code.Block.{Block}
use Rattle.cfg_walk.specs.declared.code.Code.{Code}
use Rattle.cfg_walk.specs.Blocks.{AreOf}
use Rattle.cfg_walk.specs.Code.{IsCodeOf}
use Rattle.fence_plan.specs.declared.gap.Gap.{Gap}
use Rattle.fence_plan.specs.Gaps.{Station, Shared, Strong, gaps_from}
use Rattle.fence_plan.specs.Private.{hides}
use Rattle.lift.proofs.CallerLemmas.{few_placed}
use Rattle.carry_spec.specs.Plan.{AreOfEach, block_gaps, block_plan, shared_slots, station, stations_of, strong, summary_of}
use Rattle.translate_core.specs.Planned.{AreBelow, counted, plus}
use Rattle.translate_core.proofs.Apart.{blocks_apart}
use Rattle.translate_core.proofs.FewSlots.{placed_few}

-- ---- one block

-- instructions have at most two accesses each
pub accesses_few : (ps : List Placed) → length (flat_map placed_slots ps) ≤ 2 * length ps
accesses_few [] = omega arith
accesses_few (p ∷ ps) =
    let all : length (flat_map placed_slots (p ∷ ps)) ≡ length (placed_slots p) + length (flat_map placed_slots ps) =
    length-append (placed_slots p) (flat_map placed_slots ps) in
    let one = placed_few p in
    let rest = accesses_few ps in
    omega (arith, all, one, rest)

-- so have the first of them
pub first_few : (n : ℕ) (ps : List Placed) → length ps ≤ 2 ^ 16 → length (flat_map placed_slots (take n ps)) ≤ 2 ^ 17
first_few n ps low =
    let all = accesses_few (take n ps) in
    let taken = length-take n ps in
    let less = min-le n (length ps) in
    omega (arith, all, taken, less, low)
  where
    min-le : (a b : ℕ) → min a b ≤ b
    min-le a b = omega arith

-- how many stations are slots
abbrev slots_in : List Station → ℕ
slots_in [] = 0
slots_in (Shared kind ∷ stations) = 1 + slots_in stations
slots_in (Strong ∷ stations) = slots_in stations

slots_in-append : (xs ys : List Station) → slots_in (xs ++ ys) ≡ slots_in xs + slots_in ys
slots_in-append [] ys = omega arith
slots_in-append (Shared kind ∷ xs) ys = let rest = slots_in-append xs ys in omega (arith, rest)
slots_in-append (Strong ∷ xs) ys = slots_in-append xs ys

-- there is one gap more than slots
gaps_many : (before : Option SlotKind) (fenced : Bool) (stations : List Station) → length (gaps_from before fenced stations) ≡ 1 + slots_in stations
gaps_many before fenced [] = refl
gaps_many before fenced (Shared kind ∷ stations) = let rest = gaps_many (Some kind) false stations in omega (arith, rest)
gaps_many before fenced (Strong ∷ stations) = gaps_many before true stations

none_strong : (i : Instr) → slots_in (strong i) ≡ 0
none_strong instr.Mfence = refl
none_strong i = refl

module _ (private : Slot → Bool) where
  one_station : (s : Slot) → slots_in (station private s) ≤ 1
  one_station s = by (hides private s)
    where
      by : (b : Bool) → slots_in (if b then [] else Shared s.kind ∷ []) ≤ 1
      by true = omega arith
      by false = omega arith

  stations_few : (slots : List Slot) → slots_in (flat_map (station private) slots) ≤ length slots
  stations_few [] = omega arith
  stations_few (s ∷ slots) =
      let all : slots_in (flat_map (station private) (s ∷ slots)) ≡ slots_in (station private s) + slots_in (flat_map (station private) slots) =
      slots_in-append (station private s) (flat_map (station private) slots) in
      let one = one_station s in
      let rest = stations_few slots in
      omega (arith, all, one, rest)

  shared_few : (ps : List Placed) → slots_in (flat_map (stations_of private) ps) ≤ 2 * length ps
  shared_few [] = omega arith
  shared_few (p ∷ ps) =
      let all : slots_in (flat_map (stations_of private) (p ∷ ps)) ≡ slots_in (stations_of private p) + slots_in (flat_map (stations_of private) ps) =
      slots_in-append (stations_of private p) (flat_map (stations_of private) ps) in
      let own : slots_in (stations_of private p) ≡ slots_in (strong p.instr) + slots_in (flat_map (station private) (placed_slots p)) =
      slots_in-append (strong p.instr) (flat_map (station private) (placed_slots p)) in
      let none = none_strong p.instr in
      let few = stations_few (placed_slots p) in
      let one = placed_few p in
      let rest = shared_few ps in
      omega (arith, all, own, none, few, one, rest)

  pub gaps_few : (ps : List Placed) → length (block_gaps private ps) ≤ 1 + 2 * length ps
  gaps_few ps = let all = gaps_many None false (flat_map (stations_of private) ps) in let few = shared_few ps in omega (arith, all, few)

  -- the slots that are not private are some of the slots
  pub shared_fewer : (ps : List Placed) → length (shared_slots private ps) ≤ length (flat_map placed_slots ps)
  shared_fewer ps =
      let some = length-filter (λ s. not (hides private s)) (flat_map placed_slots ps) in
      let few = count_by-le-length (λ s. not (hides private s)) (flat_map placed_slots ps) in
      omega (arith, some, few)

  -- and the others are private
  pub hidden_many : (ps : List Placed) → count_by (hides private) (flat_map placed_slots ps) ≡ length (flat_map placed_slots ps) - length (shared_slots private ps)
  hidden_many ps =
      let slots = flat_map placed_slots ps in
      let both = length-filter_both (hides private) (λ s. not (hides private s)) (λ s. refl) slots in
      let hidden = length-filter (hides private) slots in
      omega (arith, both, hidden)

  -- ---- blocks

  -- with one block more
  pub summary_more : (threads first : ℕ) (pss : List (List Placed)) (ps : List Placed)
      → summary_of private threads (pss ++ ps ∷ []) ≡ plus (summary_of private threads pss) (counted ps (block_plan private first ps))
  summary_more threads first pss ps = λ k. record {
    threads = same k;
    instructions = added (λ ps. length ps) k;
    blocks = more k;
    accesses = added (λ ps. length (flat_map placed_slots ps)) k;
    private = hidden k;
    frm = added (λ ps. count_by (λ (g : Gap). g.frm) (block_gaps private ps)) k;
    fww = added (λ ps. count_by (λ (g : Gap). g.fww) (block_gaps private ps)) k;
    fsc = added (λ ps. count_by (λ (g : Gap). g.fsc) (block_gaps private ps)) k;
  }
    where
      same : threads ≡ threads + 0
      same = omega arith

      more : length (pss ++ ps ∷ []) ≡ length pss + 1
      more = length-append pss (ps ∷ [])

      added : (f : List Placed → ℕ) → sum_by f (pss ++ ps ∷ []) ≡ sum_by f pss + f ps
      added f =
          let all = sum_by-append f pss (ps ∷ []) in
          let one = sum_by-cons f ps [] in
          let none : sum_by f [] ≡ 0 = refl in
          omega (arith, all, one, none)

      hidden : sum_by (λ ps. count_by (hides private) (flat_map placed_slots ps)) (pss ++ ps ∷ [])
          ≡ sum_by (λ ps. count_by (hides private) (flat_map placed_slots ps)) pss + (length (flat_map placed_slots ps) - length (shared_slots private ps))
      hidden =
          added (λ ps. count_by (hides private) (flat_map placed_slots ps))
          ∙ ap (λ n. sum_by (λ ps. count_by (hides private) (flat_map placed_slots ps)) pss + n) (hidden_many ps)

  -- what counts at most three for each instruction of a block counts at most three for each instruction of all blocks
  sum_few : (placed : List Placed) (of : List Block) (pss : List (List Placed)) (f : List Placed → ℕ) → AreOfEach placed of pss
      → ((ps : List Placed) → 0 < length ps → f ps ≤ 3 * length ps) → sum_by f pss ≤ 3 * sum_by (λ ps. sum_by (λ (p : Placed). 1) ps) pss
  sum_few placed [] [] f are few = omega arith
  sum_few placed [] (ps ∷ pss) f are few = absurd are
  sum_few placed (b ∷ of) [] f are few = absurd are
  sum_few placed (b ∷ of) (ps ∷ pss) f are few =
      let first = sum_by-cons f ps pss in
      let other = sum_by-cons (λ ps. sum_by (λ (p : Placed). 1) ps) ps pss in
      let one = few ps (some ps are.0) in
      let ones = each_one ps in
      let rest = sum_few placed of pss f are.1 few in
      omega (arith, first, other, one, ones, rest)
    where
      some : (ps : List Placed) → AreOf placed b ps → 0 < length ps
      some [] are = absurd are.first
      some (p ∷ ps) are = omega arith

      each_one : (ps : List Placed) → sum_by (λ (p : Placed). 1) ps ≡ length ps
      each_one [] = refl
      each_one (p ∷ ps) = let rest = each_one ps in let first = sum_by-cons (λ (p : Placed). 1) p ps in omega (arith, rest, first)

  -- the summary of some blocks of a code has small numbers
  pub summary_small : (program : Program) (code : Code) → IsCodeOf program code → (threads n : ℕ) → threads ≤ 16 → (pss : List (List Placed))
      → AreOfEach code.placed (take n code.blocks) pss → AreBelow (2 ^ 32) (summary_of private threads pss)
  summary_small program code is threads n few pss are = record {
    threads = omega (arith, few);
    instructions = low (λ ps. length ps) (λ ps some. omega arith);
    blocks = (let long = low (λ ps. 1) (λ ps some. omega (arith, some)) in let same = each_one pss in omega (arith, long, same));
    accesses = low (λ ps. length (flat_map placed_slots ps)) (λ ps some. let few = accesses_few ps in omega (arith, few));
    private = low (λ ps. count_by (hides private) (flat_map placed_slots ps)) (λ ps some.
        let some = count_by-le-length (hides private) (flat_map placed_slots ps) in let few = accesses_few ps in omega (arith, some, few));
    frm = low (λ ps. count_by (λ (g : Gap). g.frm) (block_gaps private ps)) (λ ps. gaps_low (λ (g : Gap). g.frm) ps);
    fww = low (λ ps. count_by (λ (g : Gap). g.fww) (block_gaps private ps)) (λ ps. gaps_low (λ (g : Gap). g.fww) ps);
    fsc = low (λ ps. count_by (λ (g : Gap). g.fsc) (block_gaps private ps)) (λ ps. gaps_low (λ (g : Gap). g.fsc) ps);
  }
    where
      each_one : (pss : List (List Placed)) → sum_by (λ (ps : List Placed). 1) pss ≡ length pss
      each_one [] = refl
      each_one (ps ∷ pss) = let rest = each_one pss in let first = sum_by-cons (λ (ps : List Placed). 1) ps pss in omega (arith, rest, first)

      ones : (ps : List Placed) → sum_by (λ (p : Placed). 1) ps ≡ length ps
      ones [] = refl
      ones (p ∷ ps) = let rest = ones ps in let first = sum_by-cons (λ (p : Placed). 1) p ps in omega (arith, rest, first)

      low : (f : List Placed → ℕ) → ((ps : List Placed) → 0 < length ps → f ps ≤ 3 * length ps) → sum_by f pss < 2 ^ 32
      low f each =
          let sum = sum_few code.placed (take n code.blocks) pss f are each in
          let apart = blocks_apart program code is (λ (p : Placed). 1) n pss are in
          let all = ones code.placed in
          let placed = few_placed program code is in
          omega (arith, sum, apart, all, placed)

      gaps_low : (holds : Gap → Bool) (ps : List Placed) → 0 < length ps → count_by holds (block_gaps private ps) ≤ 3 * length ps
      gaps_low holds ps some =
          let few = count_by-le-length holds (block_gaps private ps) in
          let gaps = gaps_few ps in
          omega (arith, few, gaps, some)
