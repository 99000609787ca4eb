-- The registers of slots are apart where the slots are, so the block that they give means the block, and can be laid out.
use Rattle.std.proofs.Common.{◌≡◌, ◌≢◌, ◌⊎◌, inl, inr, ℕ, zero, suc, ◌+◌, ◌<◌, ◌≤◌, List, [], ◌∷◌, ◌++◌, length, map, take, drop, Option, Some, None, unwrap_or, refl, sym, ap, ◌∙◌, subst, arith, length-append, append_assoc}
use Rattle.std.proofs.lemmas.Bool.{cases_eq, cases_lt}
use Rattle.std.proofs.lemmas.Bool.Decides.{nat_tests}
use Rattle.std.proofs.Math.Seq.{drop-append_seam, drop-append-add, take-append_seam}
use Rattle.a64_code.specs.declared.instr.XReg.{XReg}
use Rattle.a64_code.specs.declared.instr.A64.{A64}
use Rattle.a64_table.specs.Rows.{a64_result}
use Rattle.a64_block.specs.Registers.{numbers, home}
use Rattle.a64_block.specs.Renamed.{renamed, renamed_end}
use Rattle.a64_block.specs.Conditions.{a64_skip, IsSetIn, Occurs, IsReadFirst, SetsFirst, IsAllocatable, IsLayable}
use Rattle.a64_block.specs.declared.block.AEnd.{AEnd}
use Rattle.regalloc.specs.Allocated.{MeansNumbers}
use Rattle.regalloc.specs.Slots.{temporary, register_of, AreBelow, AreSlots}
use Rattle.regalloc.proofs.Kept.{IsNaming, AreApartBy, block_kept}
use Rattle.regalloc.proofs.Layable.{IsFitting, layable}
use Rattle.regalloc.proofs.Scanning.{set_more}

-- ---- registers as numbers

-- no two registers serve twice
homes_apart : (r n : ℕ) → r ≤ 20 → n ≤ 20 → (r ≡ n → ⊥) → home r ≢ home n
homes_apart r n le le' other = grind (arith, nat_tests)

home_of_none : (n slot : ℕ) → n ≤ 20 → slot < 8 → home n ≢ temporary slot
home_of_none n slot le lt = grind (arith, nat_tests)

temporaries_apart : (a b : ℕ) → a < 8 → b < 8 → (a ≡ b → ⊥) → temporary a ≢ temporary b
temporaries_apart a b lt lt' other = grind (arith, nat_tests)

-- each is one that words name
home_fits : (n : ℕ) → n < 20 → (home n < 29) × (home n ≢ 18)
home_fits n lt = (grind (arith, nat_tests), grind (arith, nat_tests))

temporary_fits : (slot : ℕ) → slot < 8 → (temporary slot < 29) × (temporary slot ≢ 18)
temporary_fits slot lt = (grind (arith, nat_tests), grind (arith, nat_tests))

value_below : (o : Option ℕ) → ((slot : ℕ) → o ≡ Some slot → slot < 8) → unwrap_or o 0 < 8
value_below None below = omega arith
value_below (Some slot) below = below slot refl

module _ (slots : ℕ → Option ℕ) (below : AreBelow slots) where
  slot_below : (n : ℕ) → unwrap_or (slots n) 0 < 8
  slot_below n = value_below (slots n) (λ slot. below n slot)

  -- the register of a number is its home, or that of its slot
  number_low : (n : ℕ) → n ≤ 20 → (register_of slots n).number ≡ home n
  number_low n le = grind (arith, nat_tests)

  number_high : (n : ℕ) → 20 < n → (register_of slots n).number ≡ temporary (unwrap_or (slots n) 0)
  number_high n lt = grind (arith, nat_tests)

  naming : IsNaming (register_of slots)
  naming = record {
    homes = λ n low. number_low n (omega (arith, low));
    none = refl;
    temporaries = λ n high same. (let fits = (temporary_fits (unwrap_or (slots n) 0) (slot_below n)).0 in omega (arith, fits, number_high n high, same));
  }

  fitting : IsFitting (register_of slots)
  fitting = record {
    registers = λ n other. elim (cases_lt 20 n) [
      | inl high ↦ subst (λ k. (k < 29) × (k ≢ 18)) (sym (number_high n high)) (temporary_fits (unwrap_or (slots n) 0) (slot_below n))
      | inr le ↦ subst (λ k. (k < 29) × (k ≢ 18)) (sym (number_low n le)) (home_fits n (omega (arith, le, other)))
    ];
    none = refl;
  }

  -- two numbers have two registers, where temporaries have two slots
  numbers_apart : (r n : ℕ) → (r ≡ n → ⊥) → (20 < r → 20 < n → unwrap_or (slots r) 0 ≡ unwrap_or (slots n) 0 → ⊥) → (register_of slots r).number ≢ (register_of slots n).number
  numbers_apart r n other apart same =
      elim (cases_lt 20 r) [
        | inl high ↦ elim (cases_lt 20 n) [
          | inl high' ↦ temporaries_apart (unwrap_or (slots r) 0) (unwrap_or (slots n) 0) (slot_below r) (slot_below n) (apart high high') (sym (number_high r high) ∙ same ∙ number_high n high')
          | inr le ↦ home_of_none n (unwrap_or (slots r) 0) le (slot_below r) (sym (number_low n le) ∙ sym same ∙ number_high r high)
        ]
        | inr le ↦ elim (cases_lt 20 n) [
          | inl high ↦ home_of_none r (unwrap_or (slots n) 0) le (slot_below n) (sym (number_low r le) ∙ same ∙ number_high n high)
          | inr le' ↦ homes_apart r n le le' other (sym (number_low r le) ∙ same ∙ number_low n le')
        ]
      ]

-- ---- what is read on from a word

-- what is read occurs, but for the numbers of x86
read_occurs : (end : AEnd ℕ) (ws : List (A64 ℕ)) (skip n : ℕ) → IsReadFirst end ws skip n → (n < 20) ⊎ Occurs end ws n
read_occurs end [] skip n read = read
read_occurs end (w ∷ ws) zero n (inl read) = inr (inr (inl read))
read_occurs end (w ∷ ws) zero n (inr (not_set, inl later)) = elim (read_occurs end ws 0 n later) [ inl low ↦ inl low | inr there ↦ inr (inr (inr there)) ]
read_occurs end (w ∷ ws) zero n (inr (not_set, inr later)) = elim (read_occurs end ws (a64_skip w) n later) [ inl low ↦ inl low | inr there ↦ inr (inr (inr there)) ]
read_occurs end (w ∷ ws) (suc skip) n read = elim (read_occurs end ws skip n read) [ inl low ↦ inl low | inr there ↦ inr (inr (inr there)) ]

-- what is read behind words that do not set it is read from their start
read_from_start : (end : AEnd ℕ) (before rest : List (A64 ℕ)) (n : ℕ) → (IsSetIn before n → ⊥) → IsReadFirst end rest 0 n → IsReadFirst end (before ++ rest) 0 n
read_from_start end [] rest n not_set read = read
read_from_start end (x ∷ before) rest n not_set read = inr ((λ is. not_set (inl is)), inl (read_from_start end before rest n (λ set. not_set (inr set)) read))

-- a number is the result or is not
decide_result : (o : Option ℕ) (n : ℕ) → (o ≡ Some n) ⊎ (o ≡ Some n → ⊥)
decide_result None n = inr (λ e. cc)
decide_result (Some r) n = elim (cases_eq r n) [ inl same ↦ inl (ap Some same) | inr other ↦ inr (λ e. other (cc)) ]

-- a number is set among words or is not
decide_set : (ws : List (A64 ℕ)) (n : ℕ) → IsSetIn ws n ⊎ (IsSetIn ws n → ⊥)
decide_set [] n = inr (λ none. none)
decide_set (w ∷ ws) n =
    elim (decide_result (a64_result numbers w) n) [
      | inl is ↦ inl (inl is)
      | inr other ↦ elim (decide_set ws n) [
        | inl later ↦ inl (inr later)
        | inr never ↦ inr (λ set. elim set [ inl is ↦ other is | inr later ↦ never later ])
      ]
    ]

-- a word with words before and behind stands at an index
stands_at : (ws before : List (A64 ℕ)) (w : A64 ℕ) (behind : List (A64 ℕ)) → ws ≡ before ++ w ∷ behind → (drop (length before) ws ≡ w ∷ behind) × (drop (length before + 1) ws ≡ behind) × (take (length before) ws ≡ before)
stands_at ws before w behind is =
    (ap (drop (length before)) is ∙ drop-append_seam before (w ∷ behind), ap (drop (length before + 1)) is ∙ drop-append-add before (w ∷ behind) 1, ap (take (length before)) is ∙ take-append_seam before (w ∷ behind))

module _ (ws : List (A64 ℕ)) (end : AEnd ℕ) (slots : ℕ → Option ℕ) (sets_first : SetsFirst end ws) (are : AreSlots end ws slots) where
  -- a temporary that is read behind a word and not set by it was set before
  set_before : (before : List (A64 ℕ)) (w : A64 ℕ) (behind : List (A64 ℕ)) (n : ℕ) → ws ≡ before ++ w ∷ behind → 20 < n → (a64_result numbers w ≢ Some n)
      → IsReadFirst end behind 0 n ⊎ IsReadFirst end behind (a64_skip w) n → IsSetIn before n
  set_before before w behind n is high other read =
      elim (decide_set before n) [
        | inl set ↦ set
        | inr never ↦ absurd (sets_first n high (subst (λ l. IsReadFirst end l 0 n) (sym is) (read_from_start end before (w ∷ behind) n never (inr (other, read)))))
      ]

  -- it occurs behind the word
  occurs_behind : (w : A64 ℕ) (behind : List (A64 ℕ)) (n : ℕ) → 20 < n → IsReadFirst end behind 0 n ⊎ IsReadFirst end behind (a64_skip w) n → Occurs end behind n
  occurs_behind w behind n high (inl read) = elim (read_occurs end behind 0 n read) [ inl low ↦ absurd (omega (arith, low, high)) | inr there ↦ there ]
  occurs_behind w behind n high (inr read) = elim (read_occurs end behind (a64_skip w) n read) [ inl low ↦ absurd (omega (arith, low, high)) | inr there ↦ there ]

  -- the slots of a result and of what is read behind it differ
  slots_apart : (before : List (A64 ℕ)) (w : A64 ℕ) (behind : List (A64 ℕ)) (r n : ℕ) → ws ≡ before ++ w ∷ behind → a64_result numbers w ≡ Some r → (r ≡ n → ⊥)
      → IsReadFirst end behind 0 n ⊎ IsReadFirst end behind (a64_skip w) n → 20 < r → 20 < n → unwrap_or (slots r) 0 ≡ unwrap_or (slots n) 0 → ⊥
  slots_apart before w behind r n is sets other read high high' same =
      let at = stands_at ws before w behind is in
      let set : IsSetIn before n = set_before before w behind n is high' (λ e. other (let two : Some r ≡ Some n = sym sets ∙ e in cc)) read in
      let first = are.each r high (subst (λ l. IsSetIn l r) (sym is) (set_more before (w ∷ behind) r (inr (inl sets)))) in
      let second = are.each n high' (subst (λ l. IsSetIn l n) (sym is) (set_more before (w ∷ behind) n (inl set))) in
      let one : first.0 ≡ second.0 = ap (λ o. unwrap_or o 0) (sym first.1) ∙ same ∙ ap (λ o. unwrap_or o 0) second.1 in
      let long : length ws ≡ length before + suc (length behind) = ap length is ∙ length-append before (w ∷ behind) in
      are.apart (length before) w r n second.0 (omega (arith, long)) (at.0 ∙ ap (λ l. w ∷ l) (sym at.1)) sets other (subst (λ l. IsSetIn l n) (sym at.2) set)
      (subst (λ l. Occurs end l n) (sym at.1) (occurs_behind w behind n high' read)) (first.1 ∙ ap Some one) second.1

  -- so registers are apart where words set them
  apart_from : (before rest : List (A64 ℕ)) → ws ≡ before ++ rest → AreApartBy (register_of slots) end rest
  apart_from before [] is = tt
  apart_from before (w ∷ rest) is = (
    (λ r n sets other read. numbers_apart slots are.below r n other (slots_apart before w rest r n is sets other read)),
    apart_from (before ++ w ∷ []) rest (is ∙ sym (append_assoc before (w ∷ []) rest)),
  )

  -- the words over registers mean the words
  slots_mean : MeansNumbers ws end (map (renamed (register_of slots)) ws) (renamed_end (register_of slots) end)
  slots_mean = block_kept (register_of slots) (naming slots are.below) ws end sets_first (apart_from [] ws refl)

-- what registers by slots give, means the block
pub allocated_means : (ws : List (A64 ℕ)) (end : AEnd ℕ) (slots : ℕ → Option ℕ) (xs words : List (A64 XReg)) (fin : AEnd XReg) (same : List (A64 ℕ)) → IsAllocatable ws end → AreSlots end ws slots
    → xs ≡ words → words ≡ map (renamed (register_of slots)) same → same ≡ ws → fin ≡ renamed_end (register_of slots) end → MeansNumbers ws end xs fin
allocated_means ws end slots xs words fin same can are is is' is'' ends =
    let all : xs ≡ map (renamed (register_of slots)) ws = is ∙ is' ∙ ap (map (renamed (register_of slots))) is'' in
    subst (λ l. MeansNumbers ws end l fin) (sym all) (subst (λ e. MeansNumbers ws end (map (renamed (register_of slots)) ws) e) (sym ends) (slots_mean ws end slots can.sets_first are))

-- and can be laid out
pub allocated_layable : (ws : List (A64 ℕ)) (end : AEnd ℕ) (slots : ℕ → Option ℕ) (xs words : List (A64 XReg)) (fin : AEnd XReg) (same : List (A64 ℕ)) → IsAllocatable ws end → AreSlots end ws slots
    → xs ≡ words → words ≡ map (renamed (register_of slots)) same → same ≡ ws → fin ≡ renamed_end (register_of slots) end → IsLayable xs fin
allocated_layable ws end slots xs words fin same can are is is' is'' ends =
    let all : xs ≡ map (renamed (register_of slots)) ws = is ∙ is' ∙ ap (map (renamed (register_of slots))) is'' in
    subst (λ l. IsLayable l fin) (sym all) (subst (λ e. IsLayable (map (renamed (register_of slots)) ws) e) (sym ends) (layable (register_of slots) (fitting slots are.below) ws end can.layable))
