-- The instructions of different blocks are different ones: what is weighed of them, block by block, is no more than all of the
-- code weighs.
use Rattle.std.proofs.Common.{◌≡◌, ◌<◌, ◌≤◌, ◌+◌, ℕ, zero, suc, false, List, [], ◌∷◌, drop, take, map, ◌⊎◌, inl, inr, Some, refl, sym, ap, subst, ◌∙◌, arith}
use Rattle.std.specs.Prelude.{sum_by, slice_get}
use Rattle.std.specs.Option.{option_map}
use Rattle.std.proofs.lemmas.Bool.{cases_lt}
use Rattle.std.proofs.lemmas.List.{take-map}
use Rattle.std.proofs.lemmas.List.Sums.{sum_by-cons}
use Rattle.std.proofs.lemmas.Option.{slice_get-map}
use Rattle.ev_graph.specs.Places.{StandsIn, IsDistinct}
use Rattle.ev_graph.proofs.PlaceLemmas.{get-take, get-take_past}
use Rattle.x64_syntax.specs.declared.placed.Placed.{Placed}
use Rattle.code_at.specs.Code.{Program}
use Rattle.cfg_walk.specs.declared.code.Block.{Block}
use Rattle.cfg_walk.specs.declared.code.Code.{Code}
use Rattle.cfg_walk.specs.Reach.{IsPlaced, end_of}
use Rattle.cfg_walk.specs.Known.{IsKnown}
use Rattle.cfg_walk.specs.Blocks.{IsLeader, AreOf, ends_block}
use Rattle.cfg_walk.specs.Code.{IsIncreasing, IsCodeOf}
use Rattle.cfg_walk.proofs.BlockLemmas.{next, one_placed}
use Rattle.cfg_walk.proofs.Instructions.{AreStretch, block_stretch}
use Rattle.cfg_walk.proofs.CallerLemmas.{known_code}
use Rattle.lift.proofs.CallerLemmas.{some_same, drop_from, earlier}
use Rattle.carry_spec.specs.Plan.{AreOfEach}
use Rattle.translate_core.proofs.CodeRealizes.{AreInner, block_inner}

-- what is read of the first elements of a list is read of the list
pub of_take : {A : Type 0} (xs : List A) (n k : ℕ) (x : A) → slice_get (take n xs) k ≡ Some x → slice_get xs k ≡ Some x
of_take xs n k x at = by (cases_lt k n)
  where
    by : (k < n) ⊎ (n ≤ k) → slice_get xs k ≡ Some x
    by (inl less) = sym (get-take xs n k less) ∙ at
    by (inr past) = absurd (let none = sym (get-take_past xs n k past) ∙ at in cc)

-- ---- numbers in order

module _ (xs : List ℕ) (sorted : IsIncreasing xs) where
  -- each stands once
  pub once : IsDistinct xs
  once i j x at other = by (cases_lt i j) (cases_lt j i)
    where
      by : (i < j) ⊎ (j ≤ i) → (j < i) ⊎ (i ≤ j) → i ≡ j
      by (inl before) either = absurd (let up = sorted i j x x before at other in omega (arith, up))
      by (inr le) (inl before) = absurd (let up = sorted j i x x before other at in omega (arith, up))
      by (inr le) (inr ge) = omega (arith, le, ge)

-- the numbers behind the first are in order too
pub tail_sorted : (x : ℕ) (xs : List ℕ) → IsIncreasing (x ∷ xs) → IsIncreasing xs
tail_sorted x xs sorted i j a b less at other = sorted (suc i) (suc j) a b (omega (arith, less)) at other

-- ---- sums over the rest of a list

-- what is weighed from a place on is what stands there, and what stands behind it
pub sum_from : {A : Type 0} (weight : A → ℕ) (xs : List A) (k : ℕ) (x : A) → slice_get xs k ≡ Some x → sum_by weight (drop k xs) ≡ weight x + sum_by weight (drop (suc k) xs)
sum_from weight xs k x at = ap (sum_by weight) (drop_from xs k x at) ∙ sum_by-cons weight x (drop (suc k) xs)

-- the rest from a later place on weighs no more
pub sum_later : {A : Type 0} (weight : A → ℕ) (xs : List A) (i j : ℕ) → i ≤ j → sum_by weight (drop j xs) ≤ sum_by weight (drop i xs)
sum_later weight [] zero zero le = omega arith
sum_later weight [] zero (suc j) le = omega arith
sum_later weight [] (suc i) zero le = absurd (omega (arith, le))
sum_later weight [] (suc i) (suc j) le = omega arith
sum_later weight (x ∷ xs) zero zero le = omega arith
sum_later weight (x ∷ xs) zero (suc j) le =
    let rest = sum_later weight xs zero j (omega arith) in
    let first = sum_by-cons weight x xs in
    omega (arith, rest, first)
sum_later weight (x ∷ xs) (suc i) zero le = absurd (omega (arith, le))
sum_later weight (x ∷ xs) (suc i) (suc j) le = sum_later weight xs i j (omega (arith, le))

-- where a block of a list begins, in the list of where they begin
pub begun_in : (of : List Block) (i : ℕ) (one : Block) → slice_get of i ≡ Some one → slice_get (map (λ (b : Block). b.first) of) i ≡ Some one.first
begun_in of i one at = slice_get-map (λ (b : Block). b.first) of i ∙ ap (option_map (λ (b : Block). b.first)) at

-- ---- recovered code

module _ (program : Program) (code : Code) (is : IsCodeOf program code) where
  pub known : IsKnown program code.placed
  known = known_code program code is

  -- the instruction behind one that ends no block stands at the next place
  next_place : (k : ℕ) (p q : Placed) → slice_get code.placed k ≡ Some p → ends_block p.instr ≡ false → IsPlaced program q → q.address ≡ end_of p
      → slice_get code.placed (suc k) ≡ Some q
  next_place k p q at open_it placed level =
      let there = next program code.placed known k p at open_it in
      there.1 ∙ ap Some (one_placed program there.0 q ((is.placed.exact there.0).0 (suc k, there.1)) placed (there.2 ∙ sym level))

  first_placed : (p : Placed) (ps : List Placed) → AreStretch program (p ∷ ps) → IsPlaced program p
  first_placed p [] stretch = stretch.0
  first_placed p (q ∷ ps) stretch = stretch.0

  -- the place behind instructions that stand from a place on
  abbrev past : ℕ → List Placed → ℕ
  past k [] = k
  past k (p ∷ ps) = past (suc k) ps

  behind_first : (k : ℕ) (p q : Placed) (ps : List Placed) → slice_get code.placed k ≡ Some p → AreStretch program (p ∷ q ∷ ps) → slice_get code.placed (suc k) ≡ Some q
  behind_first k p q ps at stretch = next_place k p q at stretch.1 (first_placed q ps stretch.3) stretch.2

  -- what is weighed from a block on is the block, and what stands behind it
  kept_from : (weight : Placed → ℕ) (k : ℕ) (p : Placed) (ps : List Placed) → slice_get code.placed k ≡ Some p → AreStretch program (p ∷ ps)
      → sum_by weight (drop k code.placed) ≡ sum_by weight (p ∷ ps) + sum_by weight (drop (past k (p ∷ ps)) code.placed)
  kept_from weight k p [] at stretch =
      let first : sum_by weight (drop k code.placed) ≡ weight p + sum_by weight (drop (past k (p ∷ [])) code.placed) = sum_from weight code.placed k p at in
      let one = sum_by-cons weight p [] in
      let none : sum_by weight [] ≡ 0 = refl in
      omega (arith, first, one, none)
  kept_from weight k p (q ∷ ps) at stretch =
      let rest : sum_by weight (drop (suc k) code.placed) ≡ sum_by weight (q ∷ ps) + sum_by weight (drop (past k (p ∷ q ∷ ps)) code.placed) =
      kept_from weight (suc k) q ps (behind_first k p q ps at stretch) stretch.3 in
      let first = sum_from weight code.placed k p at in
      let all = sum_by-cons weight p (q ∷ ps) in
      omega (arith, rest, first, all)

  -- where a later block begins is behind the block
  begins_past : (k : ℕ) (p : Placed) (ps : List Placed) → slice_get code.placed k ≡ Some p → AreStretch program (p ∷ ps) → AreInner program (p ∷ ps)
      → (j : ℕ) (q : Placed) → slice_get code.placed j ≡ Some q → IsLeader program q.address → k < j → past k (p ∷ ps) ≤ j
  begins_past k p [] at stretch inner j q other leader less = omega (arith, less)
  begins_past k p (r ∷ ps) at stretch inner j q other leader less =
      let next = behind_first k p r ps at stretch in
      by (cases_lt (suc k) j) next (begins_past (suc k) r ps next stretch.3 inner.1 j q other leader)
    where
      by : (suc k < j) ⊎ (j ≤ suc k) → slice_get code.placed (suc k) ≡ Some r → (suc k < j → past (suc k) (r ∷ ps) ≤ j) → past (suc k) (r ∷ ps) ≤ j
      by (inl more) next further = further more
      by (inr le) next further =
          let same : j ≡ suc k = omega (arith, le, less) in
          let one : q ≡ r = some_same (sym other ∙ ap (slice_get code.placed) same ∙ next) in
          absurd (inner.0 (subst (IsLeader program) (ap (λ (x : Placed). x.address) one ∙ stretch.2) leader))

  -- blocks of the code that stand from a place on
  pub record StandFrom (from : ℕ) (of : List Block) : Type 0 where
    pub sorted : IsIncreasing (map (λ (b : Block). b.first) of)
    pub stand : (i : ℕ) (one : Block) → slice_get of i ≡ Some one → StandsIn code.blocks one
    pub late : (i : ℕ) (one : Block) → slice_get of i ≡ Some one → (j : ℕ) (p : Placed) → slice_get code.placed j ≡ Some p → p.address ≡ one.first → from ≤ j

  -- what is weighed of blocks that stand from a place on is no more than what is weighed of the code from there on
  pub weighs_apart : (weight : Placed → ℕ) (from : ℕ) (of : List Block) (pss : List (List Placed)) → StandFrom from of → AreOfEach code.placed of pss
      → sum_by (λ ps. sum_by weight ps) pss ≤ sum_by weight (drop from code.placed)
  weighs_apart weight from [] [] stand are = omega arith
  weighs_apart weight from [] (ps ∷ pss) stand are = absurd are
  weighs_apart weight from (one ∷ of) [] stand are = absurd are
  weighs_apart weight from (one ∷ of) (ps ∷ pss) stand are = by ps are.0 (λ next. weighs_apart weight next of pss)
    where
      in_code : StandsIn code.blocks one
      in_code = stand.stand 0 one refl

      by : (ps : List Placed) → AreOf code.placed one ps → ((next : ℕ) → StandFrom next of → AreOfEach code.placed of pss → sum_by (λ ps. sum_by weight ps) pss ≤ sum_by weight (drop next code.placed))
          → sum_by (λ ps. sum_by weight ps) (ps ∷ pss) ≤ sum_by weight (drop from code.placed)
      by [] list others = absurd list.first
      by (p ∷ ps) list others =
          let (k, at) = list.each.0 in
          let stretch = block_stretch program code is one (p ∷ ps) in_code list in
          let inner = block_inner program code is one (p ∷ ps) in_code list in
          let rest = others (past k (p ∷ ps)) (record {
            sorted = tail_sorted one.first (map (λ (b : Block). b.first) of) stand.sorted;
            stand = λ i. stand.stand (suc i);
            late = λ i other here j q there level.
                let up = stand.sorted 0 (suc i) one.first other.first (omega arith) refl (begun_in of i other here) in
                let first : p.address ≡ one.first = list.first in
                let leader = subst (IsLeader program) (sym level) ((is.blocks.exact other).0 (stand.stand (suc i) other here)).leader in
                begins_past k p ps at stretch inner j q there leader (earlier code.placed is.placed.sorted k j p q at there (omega (arith, up, first, level)));
          }) are.1 in
          let kept = kept_from weight k p ps at stretch in
          let later = sum_later weight code.placed from k (stand.late 0 one refl k p at list.first) in
          let all = sum_by-cons (λ ps. sum_by weight ps) (p ∷ ps) pss in
          omega (arith, rest, kept, later, all)

  -- the first blocks of the code stand from its beginning on
  pub stand_first : (n : ℕ) → StandFrom 0 (take n code.blocks)
  stand_first n = record {
    sorted = λ i j a b less at other. is.blocks.sorted i j a b less (within i a at) (within j b other);
    stand = λ i one at. (i, of_take code.blocks n i one at);
    late = λ i one at j p there level. omega arith;
  }
    where
      within : (i a : ℕ) → slice_get (map (λ (b : Block). b.first) (take n code.blocks)) i ≡ Some a → slice_get (map (λ (b : Block). b.first) code.blocks) i ≡ Some a
      within i a at = of_take (map (λ (b : Block). b.first) code.blocks) n i a (ap (λ l. slice_get l i) (take-map (λ (b : Block). b.first) n code.blocks) ∙ at)

  -- so all of the blocks weigh no more than the code
  pub blocks_apart : (weight : Placed → ℕ) (n : ℕ) (pss : List (List Placed)) → AreOfEach code.placed (take n code.blocks) pss → sum_by (λ ps. sum_by weight ps) pss ≤ sum_by weight code.placed
  blocks_apart weight n pss are = weighs_apart weight 0 (take n code.blocks) pss (stand_first n) are
