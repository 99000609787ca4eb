-- A scan gives temporaries that meet different slots.
use Rattle.std.proofs.Common.{◌≡◌, ◌⊎◌, inl, inr, ℕ, zero, suc, ◌+◌, ◌<◌, ◌≤◌, eqb, true, false, List, [], ◌∷◌, ◌++◌, length, take, drop, slice_index, Option, Some, None, refl, sym, ap, ◌∙◌, subst, arith, get_or, set, length-set}
use Rattle.std.specs.Option.{IsSome, is_some}
use Rattle.std.proofs.lemmas.Bool.{cases_eq, cases_lt, ne_eqb}
use Rattle.std.proofs.lemmas.List.{take_more, drop_more, length-drop, take-append-drop, get_or-set_same, get_or-set_other}
use Rattle.a64_code.specs.declared.instr.A64.{A64}
use Rattle.a64_table.specs.Rows.{a64_result}
use Rattle.a64_block.specs.Registers.{numbers}
use Rattle.a64_block.specs.Conditions.{IsSetIn, Occurs}
use Rattle.a64_block.specs.declared.block.AEnd.{AEnd}
use Rattle.regalloc.specs.Uses.{Reaches, AreLast}
use Rattle.regalloc.specs.Slots.{StandsAt, AreApart}
use Rattle.regalloc.specs.Scan.{IsScanned}

-- ---- what is set among words

-- what is set among words is set in one of two parts
pub set_more : (xs ys : List (A64 ℕ)) (n : ℕ) → IsSetIn xs n ⊎ IsSetIn ys n → IsSetIn (xs ++ ys) n
set_more [] ys n (inl none) = absurd none
set_more [] ys n (inr there) = there
set_more (x ∷ xs) ys n (inl (inl here)) = inl here
set_more (x ∷ xs) ys n (inl (inr later)) = inr (set_more xs ys n (inl later))
set_more (x ∷ xs) ys n (inr there) = inr (set_more xs ys n (inr there))

-- and the other way round
set_parts : (xs ys : List (A64 ℕ)) (n : ℕ) → IsSetIn (xs ++ ys) n → IsSetIn xs n ⊎ IsSetIn ys n
set_parts [] ys n there = inr there
set_parts (x ∷ xs) ys n (inl here) = inl (inl here)
set_parts (x ∷ xs) ys n (inr later) = elim (set_parts xs ys n later) [ inl a ↦ inl (inr a) | inr b ↦ inr b ]

-- what is set among the first words is set among more of them
set_within : (ws : List (A64 ℕ)) (j i n : ℕ) → j ≤ i → IsSetIn (take j ws) n → IsSetIn (take i ws) n
set_within ws zero i n le none = absurd none
set_within [] (suc j) i n le none = absurd none
set_within (x ∷ ws) (suc j) zero n le there = absurd (omega (arith, le))
set_within (x ∷ ws) (suc j) (suc i) n le (inl here) = inl here
set_within (x ∷ ws) (suc j) (suc i) n le (inr later) = inr (set_within ws j i n (omega (arith, le)) later)

-- ---- a word at an index

-- a word stands within the words
stands_within : (ws : List (A64 ℕ)) (i : ℕ) (w : A64 ℕ) → StandsAt ws i w → i < length ws
stands_within ws i w stands = omega (arith, ap length stands, length-drop i ws)

-- words before, the word, and words behind
pub stands_parts : (ws : List (A64 ℕ)) (i : ℕ) (w : A64 ℕ) → StandsAt ws i w → ws ≡ take i ws ++ w ∷ drop (i + 1) ws
stands_parts ws i w stands = sym (take-append-drop i ws) ∙ ap (λ l. take i ws ++ l) stands

-- the words up to a word are those before it, and the word
stands_take : (ws : List (A64 ℕ)) (i : ℕ) (w : A64 ℕ) → StandsAt ws i w → take (i + 1) ws ≡ take i ws ++ w ∷ []
stands_take ws i w stands =
    let within = stands_within ws i w stands in
    let is : get_or ws i w ∷ drop (i + 1) ws ≡ w ∷ drop (i + 1) ws = sym (drop_more ws i w within) ∙ stands in
    let same : get_or ws i w ≡ w = cc in
    take_more ws i w within ∙ ap (λ x. take i ws ++ x ∷ []) same

module _ (end : AEnd ℕ) (ws : List (A64 ℕ)) (i : ℕ) (w : A64 ℕ) (stands : StandsAt ws i w) where
  -- what occurs behind a word occurs from the word on
  occurs_before : (n : ℕ) → Occurs end (drop (i + 1) ws) n → Occurs end (drop i ws) n
  occurs_before n there = subst (λ l. Occurs end l n) (sym stands) (inr (inr there))

  -- and so does its result
  occurs_result : (r : ℕ) → a64_result numbers w ≡ Some r → Occurs end (drop i ws) r
  occurs_result r is = subst (λ l. Occurs end l r) (sym stands) (inl is)

  -- what is set up to a word is set before it, or by it
  set_next : (n : ℕ) → IsSetIn (take (i + 1) ws) n → IsSetIn (take i ws) n ⊎ (a64_result numbers w ≡ Some n)
  set_next n set =
      elim (set_parts (take i ws) (w ∷ []) n (subst (λ l. IsSetIn l n) (stands_take ws i w stands) set)) [
        | inl before ↦ inl before
        | inr now ↦ elim now [ inl is ↦ inr is | inr none ↦ absurd none ]
      ]

  -- its result is
  set_now : (n : ℕ) → a64_result numbers w ≡ Some n → IsSetIn (take (i + 1) ws) n
  set_now n is = subst (λ l. IsSetIn l n) (sym (stands_take ws i w stands)) (set_more (take i ws) (w ∷ []) n (inr (inl is)))

-- one word further too
set_on : (ws : List (A64 ℕ)) (i n : ℕ) → IsSetIn (take i ws) n → IsSetIn (take (i + 1) ws) n
set_on ws i n set = set_within ws i (i + 1) n (omega arith) set

-- ---- a word that needs no slot

module _ (end : AEnd ℕ) (ws : List (A64 ℕ)) (slots : ℕ → Option ℕ) (until : List ℕ) (i : ℕ) (w : A64 ℕ) (stands : StandsAt ws i w) (s : IsScanned end ws slots until i) where
  -- two temporaries with slots, of which a word sets one
  apart_here : (j : ℕ) (v : A64 ℕ) (r n slot : ℕ) → i ≤ j → j < i + 1 → StandsAt ws j v → a64_result numbers v ≡ Some r → (r ≡ n → ⊥)
      → Occurs end (drop (j + 1) ws) n → slots r ≡ Some slot → slots n ≡ Some slot → ⊥
  apart_here j v r n slot le lt at is other later a b =
      let same : j ≡ i = omega (arith, le, lt) in
      s.meet r n slot other a b (subst (λ k. Occurs end (drop k ws) r) same (occurs_result end ws j v at r is)) (subst (λ k. Occurs end (drop k ws) n) same (occurs_before end ws j v at n later))

  -- up to the word and at it
  apart_on : AreApart end ws slots (i + 1)
  apart_on j v r n slot lt at is other set later a b =
      elim (cases_lt j i) [
        | inl less ↦ s.apart j v r n slot less at is other set later a b
        | inr le ↦ apart_here j v r n slot le lt at is other later a b
      ]

  -- past a word whose result, if it is a temporary, has a slot
  pub scanned_on : ((r : ℕ) → a64_result numbers w ≡ Some r → 20 < r → (slot : ℕ) × (slots r ≡ Some slot)) → IsScanned end ws slots until (i + 1)
  scanned_on has = record {
    eight = s.eight;
    kept = λ n slot is. (let k = s.kept n slot is in (k.0, k.1, set_on ws i n k.2));
    each = λ n high set. elim (set_next end ws i w stands n set) [ inl before ↦ s.each n high before | inr now ↦ has n now high ];
    ends = s.ends;
    busy = λ slot low lt. s.busy slot low (omega (arith, lt));
    meet = λ m n slot other a b there there'. s.meet m n slot other a b (occurs_before end ws i w stands m there) (occurs_before end ws i w stands n there');
    apart = apart_on;
  }

-- ---- a word whose result gets a slot

module _ (end : AEnd ℕ) (ws : List (A64 ℕ)) (last : ℕ → Option ℕ) (are : AreLast end ws last) (slots : ℕ → Option ℕ) (until : List ℕ) (i : ℕ) (w : A64 ℕ) (stands : StandsAt ws i w)
    (s : IsScanned end ws slots until i) (r : ℕ) (is : a64_result numbers w ≡ Some r) (high : 20 < r) (none : slots r ≡ None) (free : ℕ) (low : free < 8) (unused : slice_index until free ≤ i)
    (late : ℕ) (lasts : last r ≡ Some late) (slots' : ℕ → Option ℕ) (until' : List ℕ) (long : length until' ≡ 8) (gives : slots' r ≡ Some free) (keeps : (n : ℕ) → (n ≡ r → ⊥) → slots' n ≡ slots n)
    (uses : slice_index until' free ≡ late) (stays : (slot : ℕ) → (slot ≡ free → ⊥) → slice_index until' slot ≡ slice_index until slot) where
  -- the word is one of the words
  within : i < length ws
  within = stands_within ws i w stands

  -- the new temporary was not set before
  not_set : IsSetIn (take i ws) r → ⊥
  not_set set = let h = s.each r high set in let e : None ≡ Some h.0 = sym none ∙ h.1 in cc

  -- its last word is not before this one
  not_early : i ≤ late
  not_early = subst (λ o. Reaches o i) lasts (are.told r i high (omega (arith, within)) (occurs_result end ws i w stands r is))

  -- what had the slot before occurs no more
  gone : (n : ℕ) → slots n ≡ Some free → Occurs end (drop (i + 1) ws) n → ⊥
  gone n has later = let le = s.ends n free (i + 1) has (omega (arith, within)) later in omega (arith, le, unused)

  -- a temporary that had a slot is not the new one, and keeps it
  old : (n slot : ℕ) → slots n ≡ Some slot → slots' n ≡ Some slot
  old n slot has = keeps n (λ same. let e : None ≡ Some slot = sym none ∙ ap slots (sym same) ∙ has in cc) ∙ has

  -- what has a slot now is the new temporary, or had it before
  back : (n slot : ℕ) → slots' n ≡ Some slot → ((n ≡ r) × (slot ≡ free)) ⊎ (slots n ≡ Some slot)
  back n slot has =
      elim (cases_eq n r) [
        | inl same ↦ inl (same, (let e : Some slot ≡ Some free = sym has ∙ ap slots' same ∙ gives in cc))
        | inr other ↦ inr (sym (keeps n other) ∙ has)
      ]

  -- ---- each field of what is known, past the word

  -- the temporaries with slots were set
  kept_more : (n slot : ℕ) → slots' n ≡ Some slot → (20 < n) × (slot < 8) × IsSetIn (take (i + 1) ws) n
  kept_more n slot has =
      elim (back n slot has) [
        | inl new ↦ (omega (arith, high, new.0), omega (arith, low, new.1), subst (λ k. IsSetIn (take (i + 1) ws) k) (sym new.0) (set_now end ws i w stands r is))
        | inr before ↦ (let k = s.kept n slot before in (k.0, k.1, set_on ws i n k.2))
      ]

  -- each that was set has one
  each_more : (n : ℕ) → 20 < n → IsSetIn (take (i + 1) ws) n → (slot : ℕ) × (slots' n ≡ Some slot)
  each_more n above set =
      elim (set_next end ws i w stands n set) [
        | inl before ↦ (let h = s.each n above before in (h.0, old n h.0 h.1))
        | inr now ↦ (free, (let e : Some n ≡ Some r = sym now ∙ is in let same : n ≡ r = cc in ap slots' same ∙ gives))
      ]

  -- none occurs later than its slot is in use
  ends_more : (n slot k : ℕ) → slots' n ≡ Some slot → k ≤ length ws → Occurs end (drop k ws) n → k ≤ slice_index until' slot
  ends_more n slot k has le there =
      elim (back n slot has) [
        | inl new ↦ (let reached = subst (λ o. Reaches o k) lasts (are.told r k high le (subst (λ m. Occurs end (drop k ws) m) new.0 there)) in
            subst (λ f. k ≤ slice_index until' f) (sym new.1) (omega (arith, uses, reached)))
        | inr before ↦ (let bound = s.ends n slot k before le there in
            elim (cases_eq slot free) [
              | inl same ↦ subst (λ f. k ≤ slice_index until' f) (sym same) (let bound' = subst (λ f. k ≤ slice_index until f) same bound in omega (arith, uses, unused, not_early, bound'))
              | inr other ↦ omega (arith, bound, stays slot other)
            ])
      ]

  -- and one does until then
  busy_more : (slot : ℕ) → slot < 8 → i + 1 < slice_index until' slot → (n : ℕ) × (slots' n ≡ Some slot) × ((k : ℕ) → k ≤ slice_index until' slot → Occurs end (drop k ws) n)
  busy_more slot below lt =
      elim (cases_eq slot free) [
        | inl same ↦ (r, gives ∙ ap Some (sym same), λ k le. are.true_of r k high (subst (λ o. Reaches o k) (sym lasts) (omega (arith, uses, subst (λ f. k ≤ slice_index until' f) same le))))
        | inr other ↦ (let b = s.busy slot below (omega (arith, lt, stays slot other)) in (b.0, old b.0 slot b.1, λ k le. b.2 k (omega (arith, le, stays slot other))))
      ]

  -- two that still occur have different slots
  meet_more : (m n slot : ℕ) → (m ≡ n → ⊥) → slots' m ≡ Some slot → slots' n ≡ Some slot → Occurs end (drop (i + 1) ws) m → Occurs end (drop (i + 1) ws) n → ⊥
  meet_more m n slot other a b there there' =
      elim (back m slot a) [
        | inl new ↦ elim (back n slot b) [
          | inl new' ↦ other (new.0 ∙ sym new'.0)
          | inr before' ↦ gone n (before' ∙ ap Some new.1) there'
        ]
        | inr before ↦ elim (back n slot b) [
          | inl new' ↦ gone m (before ∙ ap Some new'.1) there
          | inr before' ↦ s.meet m n slot other before before' (occurs_before end ws i w stands m there) (occurs_before end ws i w stands n there')
        ]
      ]

  -- of words before this one nothing changes
  apart_before : (j : ℕ) (v : A64 ℕ) (q n slot : ℕ) → j < i → StandsAt ws j v → a64_result numbers v ≡ Some q → (q ≡ n → ⊥)
      → IsSetIn (take j ws) n → Occurs end (drop (j + 1) ws) n → slots' q ≡ Some slot → slots' n ≡ Some slot → ⊥
  apart_before j v q n slot lt at sets other set later a b =
      elim (back q slot a) [
        | inl new ↦ not_set (subst (λ k. IsSetIn (take i ws) k) new.0 (set_within ws (j + 1) i q (omega (arith, lt)) (set_now end ws j v at q sets)))
        | inr before ↦ elim (back n slot b) [
          | inl new' ↦ not_set (subst (λ k. IsSetIn (take i ws) k) new'.0 (set_within ws j i n (omega (arith, lt)) set))
          | inr before' ↦ s.apart j v q n slot lt at sets other set later before before'
        ]
      ]

  -- at this word its result has a slot of its own
  apart_now : (j : ℕ) (v : A64 ℕ) (q n slot : ℕ) → i ≤ j → j < i + 1 → StandsAt ws j v → a64_result numbers v ≡ Some q → (q ≡ n → ⊥)
      → IsSetIn (take j ws) n → Occurs end (drop (j + 1) ws) n → slots' q ≡ Some slot → slots' n ≡ Some slot → ⊥
  apart_now j v q n slot le lt at sets other set later a b =
      let same : j ≡ i = omega (arith, le, lt) in
      elim (back n slot b) [
        | inl new' ↦ not_set (subst (λ k. IsSetIn (take i ws) k) new'.0 (subst (λ k. IsSetIn (take k ws) n) same set))
        | inr before' ↦ elim (back q slot a) [
          | inl new ↦ gone n (before' ∙ ap Some new.1) (subst (λ k. Occurs end (drop (k + 1) ws) n) same later)
          | inr before ↦ apart_here end ws slots until i w stands s j v q n slot le lt at sets other later before before'
        ]
      ]

  -- so words up to this one set temporaries apart
  apart_more : AreApart end ws slots' (i + 1)
  apart_more j v q n slot lt at sets other set later a b =
      elim (cases_lt j i) [
        | inl less ↦ apart_before j v q n slot less at sets other set later a b
        | inr le ↦ apart_now j v q n slot le lt at sets other set later a b
      ]

  -- past the word
  scanned_more : IsScanned end ws slots' until' (i + 1)
  scanned_more = record { eight = long; kept = kept_more; each = each_more; ends = ends_more; busy = busy_more; meet = meet_more; apart = apart_more }

-- ---- what the body's calls tell

-- a number that occurs has a last word
reached_some : (o : Option ℕ) (k : ℕ) → Reaches o k → IsSome o
reached_some None k none = absurd none
reached_some (Some last) k le = refl

-- a temporary that a word sets has a last word
pub result_lasts : (end : AEnd ℕ) (ws : List (A64 ℕ)) (last : ℕ → Option ℕ) → AreLast end ws last → (i : ℕ) (w : A64 ℕ) → StandsAt ws i w
    → (r : ℕ) → a64_result numbers w ≡ Some r → 20 < r → IsSome (last r)
result_lasts end ws last are i w stands r is high =
    let within = stands_within ws i w stands in
    reached_some (last r) i (are.told r i high (omega (arith, within)) (occurs_result end ws i w stands r is))

-- no test finds it
pub is_none : (o : Option ℕ) → false ≡ is_some o → o ≡ None
is_none None e = refl
is_none (Some x) e = cc

-- past a word whose result gets a free slot, until its last word
pub scanned_gives : (end : AEnd ℕ) (ws : List (A64 ℕ)) (last : ℕ → Option ℕ) → AreLast end ws last → (slots : ℕ → Option ℕ) (until : List ℕ) (i : ℕ) (w : A64 ℕ) → StandsAt ws i w
    → IsScanned end ws slots until i → (r : ℕ) → a64_result numbers w ≡ Some r → 20 < r → slots r ≡ None → (free : ℕ) → free < length until → slice_index until free ≤ i
    → (late : ℕ) → last r ≡ Some late → (slots' : ℕ → Option ℕ) → slots' r ≡ Some free → ((n : ℕ) → eqb r n ≡ false → slots' n ≡ slots n) → IsScanned end ws slots' (set until free late) (i + 1)
scanned_gives end ws last are slots until i w stands s r is high none free low unused late lasts slots' gives keeps =
    scanned_more end ws last are slots until i w stands s r is high none free (omega (arith, low, s.eight)) unused late lasts slots' (set until free late) (length-set until free late ∙ s.eight) gives
    (λ n other. keeps n (ne_eqb r n (λ same. other (sym same)))) (get_or-set_same until free late 0 low) (λ slot other. get_or-set_other until free slot late 0 other)

-- a test finds it
pub has_slot : (slots : ℕ → Option ℕ) (number r : ℕ) → number ≡ r → true ≡ is_some (slots number) → (slot : ℕ) × (slots r ≡ Some slot)
has_slot slots number r same found = subst (λ k. (slot : ℕ) × (slots k ≡ Some slot)) same (some_value (slots number) found)
  where
    some_value : (o : Option ℕ) → true ≡ is_some o → (slot : ℕ) × (o ≡ Some slot)
    some_value None e = cc
    some_value (Some slot) e = (slot, refl)
