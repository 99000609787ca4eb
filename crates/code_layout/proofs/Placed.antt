-- The blocks of a code that is laid out are carried out.
use Rattle.std.proofs.Common.{◌≡◌, ◌≢◌, ℕ, zero, suc, ◌+◌, ◌*◌, ◌^◌, ◌<◌, ◌≤◌, ◌==◌, Bool, true, false, List, [], ◌∷◌, ◌++◌, length, map, Some, refl, sym, ap, ◌∙◌, subst, arith}
use Rattle.std.specs.Prelude.{slice_get, ◌||◌}
use Rattle.std.specs.List.{AllByRecursion}
use Rattle.std.specs.Option.{option_map}
use Rattle.std.proofs.lemmas.List.{append-nil}
use Rattle.std.proofs.lemmas.Bool.{eqb-true}
use Rattle.std.proofs.lemmas.Bool.Decides.{nat_tests}
use Rattle.std.proofs.lemmas.Option.{slice_get-map}
use Rattle.ev_graph.specs.Places.{StandsIn}
use Rattle.behavior.specs.Acts.{Permission}
use Rattle.behavior.specs.Exits.{Exits}
use Rattle.cfg_walk.specs.Code.{IsIncreasing}
use Rattle.cfg_walk.specs.Machine.{has_address}
use Rattle.a64_code.specs.declared.instr.XReg.{XReg}
use Rattle.a64_code.specs.declared.instr.A64.{A64}
use Rattle.a64_code.specs.Ranges.{IsEncodable}
use Rattle.a64_code.specs.Words.{word_of}
use Rattle.a64_table.specs.State.{AState}
use Rattle.a64_table.proofs.CallerLemmas.{StandAt, words_stand}
use Rattle.a64_block.specs.Conditions.{IsLayable}
use Rattle.a64_block.specs.declared.block.ABlock.{ABlock}
use Rattle.code_layout.specs.Places.{end_size, block_size, blocks_size, words_before}
use Rattle.code_layout.specs.Carried.{IsCarriedOut}
use Rattle.code_layout.specs.Conditions.{AreClosed, AreBegun}
use Rattle.code_layout.specs.Places.{firsts}
use Rattle.code_layout.specs.Search.{search_size, depth}
use Rattle.code_layout.specs.Code.{end_words, block_words, blocks_words, return_words, code_words, IsLaidOut}
use Rattle.code_layout.proofs.Comes.{comes_wider}
use Rattle.code_layout.proofs.Searches.{stand_first, stand_second}
use Rattle.code_layout.proofs.Ends.{AreReturns, end_comes}
use Rattle.code_layout.proofs.Laid.{does_block}
use Rattle.code_layout.proofs.Sizes.{length-block_words, length-blocks_words, blocks_size-cons, words_before_le, AreLayable, code_encodable}

-- a property of all that stands in a list is one of its elements
pub all_stand : {A : Type 0} (P : A → Type 0) (xs : List A) → ((x : A) → StandsIn xs x → P x) → AllByRecursion P xs
all_stand P [] each = tt
all_stand P (x ∷ xs) each = (each x (zero, refl), all_stand P xs (λ y at. each y (suc at.0, at.1)))

-- an address that a list has stands in it
pub has_stands : (xs : List ℕ) (v : ℕ) → has_address xs v ≡ true → StandsIn xs v
has_stands [] v has = absurd (cc)
has_stands (y ∷ ys) v has = by (has_stands ys v) (v == y) refl has
  where
    by : (has_address ys v ≡ true → StandsIn ys v) → (b : Bool) → (v == y) ≡ b → (b || has_address ys v) ≡ true → StandsIn (y ∷ ys) v
    by later true same has = (zero, ap (λ (n : ℕ). Some n) (sym (eqb-true v y same)))
    by later false other has = (suc (later has).0, (later has).1)

-- an address at the first of the list, or at a later one
before_first : (b : ABlock XReg) (bs : List (ABlock XReg)) → words_before (b ∷ bs) b.first ≡ 0
before_first b bs = grind (arith, nat_tests)

before_later : (b : ABlock XReg) (bs : List (ABlock XReg)) (a : ℕ) → a ≢ b.first → words_before (b ∷ bs) a ≡ block_size b + words_before bs a
before_later b bs a other = grind (arith, nat_tests)

first_below : (b other : ABlock XReg) (bs : List (ABlock XReg)) (i : ℕ) → IsIncreasing (firsts (b ∷ bs)) → slice_get bs i ≡ Some other → b.first < other.first
first_below b other bs i sorted at =
    sorted zero (suc i) b.first other.first (omega arith) refl (slice_get-map (λ (c : ABlock XReg). c.first) bs i ∙ ap (option_map (λ (c : ABlock XReg). c.first)) at)

sorted_rest : (b : ABlock XReg) (bs : List (ABlock XReg)) → IsIncreasing (firsts (b ∷ bs)) → IsIncreasing (firsts bs)
sorted_rest b bs sorted i j k l less one two = sorted (suc i) (suc j) k l (omega (arith, less)) one two

some_same : {A : Type 0} (a b : A) → Some a ≡ Some b → a ≡ b
some_same a b e = cc

module _ (first : ℕ) (code : List ℕ) (start : ℕ → ℕ) (returns : ℕ) where
  -- each block of some that stand stands at its place
  pub block_stands : (bs : List (ABlock XReg)) (n : ℕ) → StandAt first code (first + 4 * n) (blocks_words start returns n bs) → IsIncreasing (firsts bs)
      → (b : ABlock XReg) (i : ℕ) → slice_get bs i ≡ Some b → StandAt first code (first + 4 * (n + words_before bs b.first)) (block_words start returns (n + words_before bs b.first) b)
  block_stands [] n stand sorted b i at = absurd (cc)
  block_stands (c ∷ bs) n stand sorted b zero at =
      let same : c ≡ b = some_same c b at in
      let here : n ≡ n + words_before (c ∷ bs) c.first = omega (arith, before_first c bs) in
      let one = stand_first first code (first + 4 * n) (block_words start returns n c) (blocks_words start returns (n + block_size c) bs) stand in
      subst (λ (d : ABlock XReg). StandAt first code (first + 4 * (n + words_before (c ∷ bs) d.first)) (block_words start returns (n + words_before (c ∷ bs) d.first) d)) same
      (subst (λ k. StandAt first code (first + 4 * k) (block_words start returns k c)) here one)
  block_stands (c ∷ bs) n stand sorted b (suc i) at =
      let below = first_below c b bs i sorted at in
      let before = before_later c bs b.first (λ e. omega (arith, below, e)) in
      let here : n + block_size c + words_before bs b.first ≡ n + words_before (c ∷ bs) b.first = omega (arith, before) in
      let long = length-block_words start returns n c in
      let place : first + 4 * n + 4 * length (block_words start returns n c) ≡ first + 4 * (n + block_size c) = omega (arith, long) in
      let rest = subst (λ a. StandAt first code a (blocks_words start returns (n + block_size c) bs)) place
      (stand_second first code (first + 4 * n) (block_words start returns n c) (blocks_words start returns (n + block_size c) bs) stand) in
      subst (λ k. StandAt first code (first + 4 * k) (block_words start returns k b)) here (block_stands bs (n + block_size c) rest (sorted_rest c bs sorted) b i at)

-- some block has all these words before it and its own
block_within : (bs : List (ABlock XReg)) → IsIncreasing (firsts bs) → (b : ABlock XReg) (i : ℕ) → slice_get bs i ≡ Some b → words_before bs b.first + block_size b ≤ blocks_size bs
block_within [] sorted b i at = absurd (cc)
block_within (c ∷ bs) sorted b zero at =
    let same : c ≡ b = some_same c b at in
    let here = before_first c bs in
    subst (λ (d : ABlock XReg). words_before (c ∷ bs) d.first + block_size d ≤ blocks_size (c ∷ bs)) same (omega (arith, here, blocks_size-cons c bs))
block_within (c ∷ bs) sorted b (suc i) at =
    let below = first_below c b bs i sorted at in
    let before = before_later c bs b.first (λ e. omega (arith, below, e)) in
    let rest = block_within bs (sorted_rest c bs sorted) b i at in
    omega (arith, before, rest, blocks_size-cons c bs)

-- the words of a code that is laid out stand from its first address on
code_stands : (first : ℕ) (code : List ℕ) (ws : List (A64 XReg)) → code ≡ map word_of ws → AllByRecursion IsEncodable ws → StandAt first code first ws
code_stands first code ws same range =
    let here : first + 4 * 0 ≡ first = omega arith in
    subst (λ l. StandAt first l first ws) (append-nil (map word_of ws) ∙ sym same) (subst (λ a. StandAt first (map word_of ws ++ []) a ws) here (words_stand first [] ws [] range))

-- where the words of a program stand, its blocks are carried out
pub laid_out_carries : (first : ℕ) (blocks : List (ABlock XReg)) (sites code : List ℕ) (exits : Exits) → AreClosed blocks → AreBegun blocks sites → length sites ≤ 65536
    → blocks_size blocks + 15 * length sites ≤ 64 * 65536 → first ≤ 2 ^ 46 → ((v : ℕ) → exits.is_site v ≡ has_address sites v) → IsLaidOut blocks sites code
    → (b : ABlock XReg) → StandsIn blocks b → (may : Permission) (s : AState) → IsCarriedOut exits 122 first code blocks b may s
laid_out_carries first blocks sites code exits closed begun few_sites few low is_site laid b (i, at) may s =
    let t = laid.search in
    let looks_up = laid.looks_up in
    let start = words_before blocks in
    let returns = blocks_size blocks in
    let small : search_size t ≤ 15 * length sites + 1 = looks_up.small in
    let layable : AreLayable blocks = all_stand (λ (c : ABlock XReg). IsLayable c.steps c.end) blocks closed.layable in
    let all = code_stands first code (code_words blocks t) laid.are (code_encodable blocks t layable (omega (arith, small, few))) in
    let blocks_long = length-blocks_words start returns 0 blocks in
    let behind : first + 4 * length (blocks_words start returns 0 blocks) ≡ first + 4 * returns = omega (arith, blocks_long) in
    let are : AreReturns first code blocks exits returns t = record {
      stand = subst (λ a. StandAt first code a (return_words start returns t)) behind (stand_second first code first (blocks_words start returns 0 blocks) (return_words start returns t) all);
      low = omega (arith, small, few, low);
      starts_low = λ a. let le = words_before_le blocks a in omega (arith, le, few, low);
      fits = looks_up.fits;
      is_site = λ v. is_site v ∙ sym (looks_up.has v);
      known = λ v found. begun v (has_stands sites v (sym (looks_up.has v) ∙ found));
    } in
    let none : first ≡ first + 4 * 0 = omega arith in
    let n = words_before blocks b.first in
    let zero_n : 0 + n ≡ n = omega arith in
    let here = subst (λ k. StandAt first code (first + 4 * k) (block_words start returns k b)) zero_n
    (block_stands first code start returns blocks 0 (subst (λ a. StandAt first code a (blocks_words start returns 0 blocks)) none
    (stand_first first code first (blocks_words start returns 0 blocks) (return_words start returns t) all)) closed.sorted b i at) in
    let within : n + (length b.steps + end_size b.end) ≤ blocks_size blocks = block_within blocks closed.sorted b i at in
    let lay = closed.layable b (i, at) in
    let shallow : depth t ≤ 7 + 7 * 16 = looks_up.shallow 16 few_sites in
    let does = does_block may first code blocks exits 122 b.steps b.end (first + 4 * n) (omega (arith, within, few, low)) lay.forward lay.inside
    (stand_first first code (first + 4 * n) b.steps (end_words start returns (n + length b.steps) b.end) here)
    (λ u. comes_wider _ 122 _ (omega (arith, shallow)) (λ next there. there)
    (end_comes may first code blocks exits returns t are b.end (n + length b.steps) (first + 4 * n + 4 * length b.steps) u (omega arith) (omega (arith, within, few, low)) (closed.leads b (i, at))
    (stand_second first code (first + 4 * n) b.steps (end_words start returns (n + length b.steps) b.end) here))) s in
    record { does = does.does; unfolds = does.unfolds; keeps = does.keeps }
