-- Where blocks stand, as it is told.
use Rattle.std.proofs.Common.{◌≡◌, ◌≢◌, ℕ, zero, suc, ◌+◌, ◌^◌, ◌<◌, ◌≤◌, ◌==◌, Bool, true, false, List, [], ◌∷◌, ◌++◌, length, get_or, Result, Ok, Err, refl, sym, ap, ◌∙◌, subst, arith, inl, inr}
use Rattle.std.specs.Prelude.{if◌then◌else◌}
use Rattle.std.specs.List.{AllByRecursion}
use Rattle.std.specs.List.Sorted.{IsBinarySearchResult}
use Rattle.std.specs.Ordering.{nat_cmp}
use Rattle.std.specs.Result.{MatchResult}
use Rattle.std.proofs.lemmas.List.Sorted.{searched}
use Rattle.std.proofs.lemmas.List.{map-append}
use Rattle.std.proofs.lemmas.List.Sums.{sum_by_push}
use Rattle.std.proofs.lemmas.Option.{slice_get-get_or}
use Rattle.std.proofs.lemmas.Bool.{cases_lt}
use Rattle.std.proofs.lemmas.Bool.Decides.{nat_tests}
use Rattle.cfg_walk.specs.Code.{IsIncreasing}
use Rattle.a64_code.specs.declared.instr.XReg.{XReg}
use Rattle.a64_block.specs.declared.block.ABlock.{ABlock}
use Rattle.code_layout.specs.declared.places.Places.{Places}
use Rattle.code_layout.specs.Places.{block_size, blocks_size, words_before, starts_from, start_in, start_of, firsts, ArePlacesOf, AreTold}
use Rattle.code_layout.proofs.Sizes.{blocks_size-cons}

-- numbers in order do not fall
not_falling : (xs : List ℕ) → IsIncreasing xs → (i j : ℕ) → i ≤ j → j < length xs → get_or xs i 0 ≤ get_or xs j 0
not_falling xs sorted i j le within = elim (cases_lt i j) [
  | inl before ↦
      (let less = sorted i j (get_or xs i 0) (get_or xs j 0) before (slice_get-get_or xs i 0 (omega arith)) (slice_get-get_or xs j 0 within)
      in omega (arith, less))
  | inr last ↦ (let same : j ≡ i = omega arith in subst (λ k. get_or xs i 0 ≤ get_or xs k 0) (sym same) (omega arith))
]

rest_increasing : (x : ℕ) (xs : List ℕ) → IsIncreasing (x ∷ xs) → IsIncreasing xs
rest_increasing x xs sorted i j k l less one two = sorted (suc i) (suc j) k l (omega (arith, less)) one two

-- the number beside the address at a place
start_at : (fs ns : List ℕ) (last a i : ℕ) → IsIncreasing fs → length ns ≡ length fs → i < length fs → get_or fs i 0 ≡ a → get_or ns i 0 ≡ start_in fs ns last a
start_at [] ns last a i sorted each within same = absurd (omega (arith, within))
start_at (f ∷ fs) [] last a i sorted each within same = absurd (omega (arith, each))
start_at (f ∷ fs) (n ∷ ns) last a zero sorted each within same =
    let test : (a == f) ≡ true = grind (arith, nat_tests) in ap (λ b. if b then n else start_in fs ns last a) (sym test)
start_at (f ∷ fs) (n ∷ ns) last a (suc i) sorted each within same =
    let below = sorted zero (suc i) f (get_or fs i 0) (omega arith) refl (slice_get-get_or fs i 0 (omega (arith, within))) in
    let test : (a == f) ≡ false = grind (arith, nat_tests) in
    start_at fs ns last a i (rest_increasing f fs sorted) (omega (arith, each)) (omega (arith, within)) same ∙ ap (λ b. if b then n else start_in fs ns last a) (sym test)

-- an address that is not listed
start_past : (fs ns : List ℕ) (last a : ℕ) → ((k : ℕ) → k < length fs → get_or fs k 0 ≢ a) → last ≡ start_in fs ns last a
start_past [] ns last a none = refl
start_past (f ∷ fs) [] last a none = refl
start_past (f ∷ fs) (n ∷ ns) last a none =
    let other = none zero (omega arith) in
    let test : (a == f) ≡ false = grind (arith, nat_tests) in
    start_past fs ns last a (λ k within. none (suc k) (omega (arith, within))) ∙ ap (λ b. if b then n else start_in fs ns last a) (sym test)

-- what a search by halves tells
pub start_searched : (fs ns : List ℕ) (last a : ℕ) (r : Result ℕ ℕ) → IsIncreasing fs → length ns ≡ length fs → IsBinarySearchResult (λ y. nat_cmp y a) fs r
    → MatchResult r (λ i. get_or ns i 0 ≡ start_in fs ns last a) (λ i. last ≡ start_in fs ns last a)
start_searched fs ns last a r sorted each result = by_result r (searched fs a r result (not_falling fs sorted))
  where
    by_result : (r : Result ℕ ℕ)
        → MatchResult r (λ i. (i < length fs) × (get_or fs i 0 ≡ a)) (λ i. (i ≤ length fs) × ((k : ℕ) → k < i → get_or fs k 0 < a) × ((k : ℕ) → i ≤ k → k < length fs → a < get_or fs k 0))
        → MatchResult r (λ i. get_or ns i 0 ≡ start_in fs ns last a) (λ i. last ≡ start_in fs ns last a)
    by_result (Ok i) at = start_at fs ns last a i sorted each at.0 at.1
    by_result (Err i) gap = start_past fs ns last a (λ k within same. elim (cases_lt k i) [
      | inl below ↦ (let less = gap.1 k below in omega (arith, less, same))
      | inr past ↦ (let more = gap.2 k past within in omega (arith, more, same))
    ])

-- all that is told is small
pub start_low : (fs ns : List ℕ) (last a most : ℕ) → AllByRecursion (λ n. n ≤ most) ns → last ≤ most → start_in fs ns last a ≤ most
start_low [] ns last a most all end_low = end_low
start_low (f ∷ fs) [] last a most all end_low = end_low
start_low (f ∷ fs) (n ∷ ns) last a most all end_low = by (a == f) (start_low fs ns last a most all.1 end_low)
  where
    by : (b : Bool) → start_in fs ns last a ≤ most → (if b then n else start_in fs ns last a) ≤ most
    by true rest = all.0
    by false rest = rest

-- one block more
pub starts_from-push : (count : ℕ) (bs : List (ABlock XReg)) (b : ABlock XReg) → starts_from count (bs ++ b ∷ []) ≡ starts_from count bs ++ (count + blocks_size bs) ∷ []
starts_from-push count [] b = let e : count ≡ count + 0 = omega arith in ap (λ n. n ∷ []) e
starts_from-push count (c ∷ bs) b =
    let e : count + block_size c + blocks_size bs ≡ count + blocks_size (c ∷ bs) = omega (arith, blocks_size-cons c bs) in
    ap (λ l. count ∷ l) (starts_from-push (count + block_size c) bs b ∙ ap (λ n. starts_from (count + block_size c) bs ++ n ∷ []) e)

pub firsts-push : (bs : List (ABlock XReg)) (b : ABlock XReg) → firsts (bs ++ b ∷ []) ≡ firsts bs ++ b.first ∷ []
firsts-push bs b = map-append (λ (c : ABlock XReg). c.first) bs (b ∷ [])

pub blocks_size-push : (bs : List (ABlock XReg)) (b : ABlock XReg) → blocks_size (bs ++ b ∷ []) ≡ blocks_size bs + block_size b
blocks_size-push bs b = sum_by_push block_size bs b

-- what is told of blocks is where they stand
told_before : (count : ℕ) (bs : List (ABlock XReg)) (a : ℕ) → start_in (firsts bs) (starts_from count bs) (count + blocks_size bs) a ≡ count + words_before bs a
told_before count [] a = omega arith
told_before count (b ∷ bs) a =
    let e : count + block_size b + blocks_size bs ≡ count + blocks_size (b ∷ bs) = omega (arith, blocks_size-cons b bs) in
    by (a == b.first) (ap (λ n. start_in (firsts bs) (starts_from (count + block_size b) bs) n a) (sym e) ∙ told_before (count + block_size b) bs a)
  where
    by : (first : Bool) → start_in (firsts bs) (starts_from (count + block_size b) bs) (count + blocks_size (b ∷ bs)) a ≡ count + block_size b + words_before bs a
        → (if first then count else start_in (firsts bs) (starts_from (count + block_size b) bs) (count + blocks_size (b ∷ bs)) a) ≡ count + (if first then 0 else block_size b + words_before bs a)
    by true rest = omega arith
    by false rest = omega (arith, rest)

length-starts_from : (count : ℕ) (bs : List (ABlock XReg)) → length (starts_from count bs) ≡ length (firsts bs)
length-starts_from count [] = refl
length-starts_from count (b ∷ bs) = ap suc (length-starts_from (count + block_size b) bs)

starts_low : (count most : ℕ) (bs : List (ABlock XReg)) → count + blocks_size bs ≤ most → AllByRecursion (λ n. n ≤ most) (starts_from count bs)
starts_low count most [] few = tt
starts_low count most (b ∷ bs) few = (omega (arith, few), starts_low (count + block_size b) most bs (omega (arith, few, blocks_size-cons b bs)))

-- what is told of blocks is where they stand
pub told_is : (blocks : List (ABlock XReg)) (places : Places) → ArePlacesOf blocks places → (a : ℕ) → start_of places a ≡ words_before blocks a
told_is blocks places are a =
    let e : 0 + blocks_size blocks ≡ blocks_size blocks = omega arith in
    ap (λ fs. start_in fs places.starts places.end a) are.firsts_are ∙ ap (λ ns. start_in (firsts blocks) ns places.end a) are.starts_are
    ∙ ap (λ n. start_in (firsts blocks) (starts_from 0 blocks) n a) (are.end_is ∙ sym e) ∙ told_before 0 blocks a ∙ omega arith

pub are_told : (blocks : List (ABlock XReg)) (places : Places) → ArePlacesOf blocks places → IsIncreasing (firsts blocks) → blocks_size blocks ≤ 2 ^ 22 → AreTold places
are_told blocks places are sorted few = record {
  sorted = subst IsIncreasing (sym are.firsts_are) sorted;
  each = ap length are.starts_are ∙ length-starts_from 0 blocks ∙ sym (ap length are.firsts_are);
  low = subst (AllByRecursion (λ n. n ≤ 2 ^ 22)) (sym are.starts_are) (starts_low 0 (2 ^ 22) blocks (omega (arith, few)));
  end_low = let is = are.end_is in omega (arith, is, few);
}
