-- The numbers of words, and where they occur.
use Rattle.std.proofs.Common.{◌≡◌, ◌⊎◌, inl, inr, ℕ, zero, suc, ◌+◌, ◌<◌, ◌≤◌, ◌||◌, Bool, true, false, List, [], ◌∷◌, ◌++◌, length, take, drop, Option, Some, None, refl, sym, ap, ◌∙◌, subst, arith, Contains, nat_eq, get_or, unwrap_or}
use Rattle.std.specs.Prelude.{if◌then◌else◌}
use Rattle.std.specs.List.{list_any}
use Rattle.std.proofs.lemmas.List.{take_more, length-take-le}
use Rattle.std.proofs.lemmas.Bool.{eqb-true, eq-eqb, true≢false, cases_Bool}
use Rattle.a64_code.specs.declared.instr.A64.{A64}
use Rattle.a64_code.specs.declared.instr.A64.TheVariants.{Svc}
use Rattle.a64_table.specs.Rows.{a64_result, a64_operands}
use Rattle.a64_block.specs.Registers.{numbers}
use Rattle.a64_block.specs.Conditions.{end_operands, Occurs}
use Rattle.a64_block.specs.declared.block.AEnd.{AEnd}
use Rattle.a64_block.specs.declared.block.AEnd.TheVariants as ends
use Rattle.regalloc.specs.Uses.{filled, mentioned, end_operand, IsOf, IsMentioned, Reaches, AreLastIn, AreLast}

-- ---- membership, by the first element

contains-here : (x : ℕ) (xs : List ℕ) → Contains (x ∷ xs) x
contains-here x xs = (0, omega arith, refl)

contains-there : (x n : ℕ) (xs : List ℕ) → Contains xs n → Contains (x ∷ xs) n
contains-there x n xs (k, lt, is) = (suc k, omega (arith, lt), is)

pub contains-cases : (x n : ℕ) (xs : List ℕ) → Contains (x ∷ xs) n → (x ≡ n) ⊎ Contains xs n
contains-cases x n xs (zero, lt, is) = inl is
contains-cases x n xs (suc k, lt, is) = inr (k, omega (arith, lt), is)

pub contains-none : (n : ℕ) → Contains [] n → ⊥
contains-none n (k, lt, is) = omega (arith, lt)

-- ---- the numbers of a word

-- a word reads three numbers at most
operands_few : (w : A64 ℕ) → length (a64_operands numbers w) ≤ 3
operands_few (Svc number) = omega arith
operands_few w = omega arith

or_true : (a b : Bool) → b ≡ true → (a || b) ≡ true
or_true true b e = refl
or_true false b e = e

or_cases : (a b : Bool) → (a || b) ≡ true → (a ≡ true) ⊎ (b ≡ true)
or_cases true b e = inl refl
or_cases false b e = inr e

-- a number is among others where the test says so
pub among : (n : ℕ) (xs : List ℕ) → Contains xs n → list_any (nat_eq n) xs ≡ true
among n [] within = absurd (contains-none n within)
among n (x ∷ xs) within =
    elim (contains-cases x n xs within) [
      | inl is ↦ ap (λ b. b || list_any (nat_eq n) xs) (eq-eqb n x (sym is))
      | inr later ↦ or_true (nat_eq n x) (list_any (nat_eq n) xs) (among n xs later)
    ]

-- and the other way round
pub among_only : (n : ℕ) (xs : List ℕ) → list_any (nat_eq n) xs ≡ true → Contains xs n
among_only n [] e = absurd (true≢false (sym e))
among_only n (x ∷ xs) e =
    elim (or_cases (nat_eq n x) (list_any (nat_eq n) xs) e) [
      | inl is ↦ subst (λ k. Contains (x ∷ xs) k) (sym (eqb-true n x is)) (contains-here x xs)
      | inr later ↦ contains-there x n xs (among_only n xs later)
    ]

-- filled up, it has the numbers that it had
filled_has : (n : ℕ) (xs : List ℕ) → length xs ≤ 3 → Contains xs n → Contains (filled xs) n
filled_has n [] few within = absurd (contains-none n within)
filled_has n (a ∷ []) few within = elim (contains-cases a n [] within) [ inl is ↦ (0, omega arith, is) | inr none ↦ absurd (contains-none n none) ]
filled_has n (a ∷ b ∷ []) few within =
    elim (contains-cases a n (b ∷ []) within) [
      | inl is ↦ (0, omega arith, is)
      | inr more ↦ elim (contains-cases b n [] more) [ inl is ↦ (1, omega arith, is) | inr none ↦ absurd (contains-none n none) ]
    ]
filled_has n (a ∷ b ∷ c ∷ []) few within = within
filled_has n (a ∷ b ∷ c ∷ d ∷ more) few within = absurd (omega (arith, few))

-- a temporary is not the number that reads as 0
not_zero : (n : ℕ) (xs : List ℕ) → 20 < n → Contains (20 ∷ xs) n → Contains xs n
not_zero n xs high within = elim (contains-cases 20 n xs within) [ inl is ↦ absurd (omega (arith, high, is)) | inr later ↦ later ]

-- and no other temporary
filled_only : (n : ℕ) (xs : List ℕ) → 20 < n → length xs ≤ 3 → Contains (filled xs) n → Contains xs n
filled_only n [] high few within = not_zero n [] high (not_zero n (20 ∷ []) high (not_zero n (20 ∷ 20 ∷ []) high within))
filled_only n (a ∷ []) high few within =
    elim (contains-cases a n (20 ∷ 20 ∷ []) within) [ inl is ↦ (0, omega arith, is) | inr zeros ↦ absurd (contains-none n (not_zero n [] high (not_zero n (20 ∷ []) high zeros))) ]
filled_only n (a ∷ b ∷ []) high few within =
    elim (contains-cases a n (b ∷ 20 ∷ []) within) [
      | inl is ↦ (0, omega arith, is)
      | inr more ↦ elim (contains-cases b n (20 ∷ []) more) [ inl is ↦ (1, omega arith, is) | inr zeros ↦ absurd (contains-none n (not_zero n [] high zeros)) ]
    ]
filled_only n (a ∷ b ∷ c ∷ []) high few within = within
filled_only n (a ∷ b ∷ c ∷ d ∷ more) high few within = absurd (omega (arith, few))

-- a temporary that stands for a result is the result
unwrapped : (result : Option ℕ) (n : ℕ) → 20 < n → unwrap_or result 20 ≡ n → result ≡ Some n
unwrapped None n high is = absurd (omega (arith, high, is))
unwrapped (Some r) n high is = ap Some is

-- the numbers of a word are those that it sets or reads
mentioned_has : (w : A64 ℕ) (n : ℕ) → IsOf w n → Contains (mentioned w) n
mentioned_has w n (inl set) = (0, omega arith, ap (λ o. unwrap_or o 20) set)
mentioned_has w n (inr read) = contains-there (unwrap_or (a64_result numbers w) 20) n (filled (a64_operands numbers w)) (filled_has n (a64_operands numbers w) (operands_few w) read)

-- and no other temporary
mentioned_only : (w : A64 ℕ) (n : ℕ) → 20 < n → Contains (mentioned w) n → IsOf w n
mentioned_only w n high within =
    elim (contains-cases (unwrap_or (a64_result numbers w) 20) n (filled (a64_operands numbers w)) within) [
      | inl is ↦ inl (unwrapped (a64_result numbers w) n high is)
      | inr later ↦ inr (filled_only n (a64_operands numbers w) high (operands_few w) later)
    ]

-- the number of an end is what it reads
end_has : (end : AEnd ℕ) (n : ℕ) → Contains (end_operands end) n → Contains (end_operand end ∷ []) n
end_has (ends.Goto a) n within = absurd (contains-none n within)
end_has (ends.Branch r a b) n within = within
end_has (ends.Return r) n within = within
end_has (ends.Indexed r table) n within = within
end_has (ends.Stop kind) n within = absurd (contains-none n within)

end_only : (end : AEnd ℕ) (n : ℕ) → 20 < n → Contains (end_operand end ∷ []) n → Contains (end_operands end) n
end_only (ends.Goto a) n high within = not_zero n [] high within
end_only (ends.Branch r a b) n high within = within
end_only (ends.Return r) n high within = within
end_only (ends.Indexed r table) n high within = within
end_only (ends.Stop kind) n high within = not_zero n [] high within

-- ---- where numbers occur

-- a number occurs in a word or in the end
occurs_in : (end : AEnd ℕ) (ws : List (A64 ℕ)) (n : ℕ) → Occurs end ws n → IsMentioned ws n ⊎ Contains (end_operands end) n
occurs_in end [] n read = inr read
occurs_in end (w ∷ ws) n (inl set) = inl (inl (inl set))
occurs_in end (w ∷ ws) n (inr (inl read)) = inl (inl (inr read))
occurs_in end (w ∷ ws) n (inr (inr later)) = elim (occurs_in end ws n later) [ inl m ↦ inl (inr m) | inr e ↦ inr e ]

-- what a word has, occurs
occurs_word : (end : AEnd ℕ) (ws : List (A64 ℕ)) (n : ℕ) → IsMentioned ws n → Occurs end ws n
occurs_word end [] n none = absurd none
occurs_word end (w ∷ ws) n (inl (inl set)) = inl set
occurs_word end (w ∷ ws) n (inl (inr read)) = inr (inl read)
occurs_word end (w ∷ ws) n (inr later) = inr (inr (occurs_word end ws n later))

-- what the end reads, occurs
occurs_end : (end : AEnd ℕ) (ws : List (A64 ℕ)) (n : ℕ) → Contains (end_operands end) n → Occurs end ws n
occurs_end end [] n read = read
occurs_end end (w ∷ ws) n read = inr (inr (occurs_end end ws n read))

-- no word has a number where there is none
none_left : (k n : ℕ) → IsMentioned (drop k []) n → ⊥
none_left zero n none = none
none_left (suc k) n none = none

-- what one word more has is the word's, or was there
mention-split : (ws : List (A64 ℕ)) (w : A64 ℕ) (n k : ℕ) → IsMentioned (drop k (ws ++ w ∷ [])) n → ((k ≤ length ws) × IsOf w n) ⊎ IsMentioned (drop k ws) n
mention-split [] w n zero (inl is) = inl (omega arith, is)
mention-split [] w n zero (inr none) = absurd none
mention-split [] w n (suc k) none = absurd (none_left k n none)
mention-split (x ∷ ws) w n zero (inl is) = inr (inl is)
mention-split (x ∷ ws) w n zero (inr later) = elim (mention-split ws w n zero later) [ inl new ↦ inl (omega arith, new.1) | inr old ↦ inr (inr old) ]
mention-split (x ∷ ws) w n (suc k) there = elim (mention-split ws w n k there) [ inl new ↦ inl (omega (arith, new.0), new.1) | inr old ↦ inr old ]

-- what was there stays
mention-old : (ws : List (A64 ℕ)) (w : A64 ℕ) (n k : ℕ) → IsMentioned (drop k ws) n → IsMentioned (drop k (ws ++ w ∷ [])) n
mention-old [] w n k none = absurd (none_left k n none)
mention-old (x ∷ ws) w n zero (inl is) = inl is
mention-old (x ∷ ws) w n zero (inr later) = inr (mention-old ws w n zero later)
mention-old (x ∷ ws) w n (suc k) there = mention-old ws w n k there

-- what the word has comes in
mention-new : (ws : List (A64 ℕ)) (w : A64 ℕ) (n k : ℕ) → k ≤ length ws → IsOf w n → IsMentioned (drop k (ws ++ w ∷ [])) n
mention-new [] w n zero le is = inl is
mention-new [] w n (suc k) le is = absurd (omega (arith, le))
mention-new (x ∷ ws) w n zero le is = inr (mention-new ws w n zero (omega arith) is)
mention-new (x ∷ ws) w n (suc k) le is = mention-new ws w n k (omega (arith, le)) is

-- beyond the words there is none
mention_low : (ws : List (A64 ℕ)) (n k : ℕ) → IsMentioned (drop k ws) n → k ≤ length ws
mention_low [] n k none = absurd (none_left k n none)
mention_low (x ∷ ws) n zero there = omega arith
mention_low (x ∷ ws) n (suc k) there = let le = mention_low ws n k there in omega (arith, le)

-- ---- the last word that has a number

-- those of the numbers that are temporaries were noted at a place
abbrev pub AreNoted : (at : ℕ) → List ℕ → (last last' : ℕ → Option ℕ) → Type 0
AreNoted at xs last last' = (n : ℕ) → 20 < n → last' n ≡ (if list_any (nat_eq n) xs then Some at else last n)

module _ (at : ℕ) (xs : List ℕ) (last last' : ℕ → Option ℕ) (noted : AreNoted at xs last last') where
  at_noted : (n : ℕ) → 20 < n → Contains xs n → last' n ≡ Some at
  at_noted n high within = noted n high ∙ ap (λ b. if b then Some at else last n) (among n xs within)

  not_noted : (n : ℕ) → 20 < n → list_any (nat_eq n) xs ≡ false → last' n ≡ last n
  not_noted n high e = noted n high ∙ ap (λ b. if b then Some at else last n) e

-- a number is among others or is not
decide_among : (n : ℕ) (xs : List ℕ) → Contains xs n ⊎ (list_any (nat_eq n) xs ≡ false)
decide_among n xs = elim (cases_Bool (list_any (nat_eq n) xs)) [ inl yes_is ↦ inl (among_only n xs yes_is) | inr no_is ↦ inr no_is ]

not_among : (n : ℕ) (xs : List ℕ) → list_any (nat_eq n) xs ≡ false → Contains xs n → ⊥
not_among n xs e within = true≢false (sym (among n xs within) ∙ e)

module _ (ws : List (A64 ℕ)) (w : A64 ℕ) (last last' : ℕ → Option ℕ) (are : AreLastIn ws last) (noted : AreNoted (length ws) (mentioned w) last last') where
  told_more : (n k : ℕ) → 20 < n → IsMentioned (drop k (ws ++ w ∷ [])) n → Reaches (last' n) k
  told_more n k high there =
      elim (decide_among n (mentioned w)) [
        | inl within ↦ subst (λ o. Reaches o k) (sym (at_noted (length ws) (mentioned w) last last' noted n high within))
            (elim (mention-split ws w n k there) [ inl new ↦ new.0 | inr old ↦ mention_low ws n k old ])
        | inr not_there ↦ subst (λ o. Reaches o k) (sym (not_noted (length ws) (mentioned w) last last' noted n high not_there))
            (elim (mention-split ws w n k there) [ inl new ↦ absurd (not_among n (mentioned w) not_there (mentioned_has w n new.1)) | inr old ↦ are.told n k high old ])
      ]

  true_more : (n k : ℕ) → 20 < n → Reaches (last' n) k → IsMentioned (drop k (ws ++ w ∷ [])) n
  true_more n k high reaches =
      elim (decide_among n (mentioned w)) [
        | inl within ↦ mention-new ws w n k (subst (λ o. Reaches o k) (at_noted (length ws) (mentioned w) last last' noted n high within) reaches) (mentioned_only w n high within)
        | inr not_there ↦ mention-old ws w n k (are.true_of n k high (subst (λ o. Reaches o k) (not_noted (length ws) (mentioned w) last last' noted n high not_there) reaches))
      ]

  -- one word more
  last_more : AreLastIn (ws ++ w ∷ []) last'
  last_more = record { told = told_more; true_of = true_more }

module _ (end : AEnd ℕ) (ws : List (A64 ℕ)) (last last' : ℕ → Option ℕ) (are : AreLastIn ws last) (noted : AreNoted (length ws) (end_operand end ∷ []) last last') where
  told_end : (n k : ℕ) → 20 < n → k ≤ length ws → Occurs end (drop k ws) n → Reaches (last' n) k
  told_end n k high le there =
      elim (decide_among n (end_operand end ∷ [])) [
        | inl within ↦ subst (λ o. Reaches o k) (sym (at_noted (length ws) (end_operand end ∷ []) last last' noted n high within)) le
        | inr not_there ↦ subst (λ o. Reaches o k) (sym (not_noted (length ws) (end_operand end ∷ []) last last' noted n high not_there))
            (elim (occurs_in end (drop k ws) n there) [ inl m ↦ are.told n k high m | inr e ↦ absurd (not_among n (end_operand end ∷ []) not_there (end_has end n e)) ])
      ]

  true_end : (n k : ℕ) → 20 < n → Reaches (last' n) k → Occurs end (drop k ws) n
  true_end n k high reaches =
      elim (decide_among n (end_operand end ∷ [])) [
        | inl within ↦ occurs_end end (drop k ws) n (end_only end n high within)
        | inr not_there ↦ occurs_word end (drop k ws) n (are.true_of n k high (subst (λ o. Reaches o k) (not_noted (length ws) (end_operand end ∷ []) last last' noted n high not_there) reaches))
      ]

  -- and the end
  last_of_block : AreLast end ws last'
  last_of_block = record { told = told_end; true_of = true_end }

-- the last words, one word further
pub last_step : (ws : List (A64 ℕ)) (i : ℕ) (d : A64 ℕ) (xs : List ℕ) (last last' : ℕ → Option ℕ) → i < length ws → xs ≡ mentioned (get_or ws i d)
    → AreLastIn (take i ws) last → AreNoted i xs last last' → AreLastIn (take (i + 1) ws) last'
last_step ws i d xs last last' within is are noted =
    let long : length (take i ws) ≡ i = length-take-le i ws (omega (arith, within)) in
    subst (λ l. AreLastIn l last') (sym (take_more ws i d within))
    (last_more (take i ws) (get_or ws i d) last last' are (subst (λ k. AreNoted k (mentioned (get_or ws i d)) last last') (sym long) (subst (λ l. AreNoted i l last last') is noted)))

-- the last words of a block, from those of its words
pub last_at_end : (end : AEnd ℕ) (ws words : List (A64 ℕ)) (operand : ℕ) (last last' : ℕ → Option ℕ) → words ≡ ws → operand ≡ end_operand end
    → AreLastIn words last → AreNoted (length words) (operand ∷ []) last last' → AreLast end ws last'
last_at_end end ws words operand last last' same is are noted =
    subst (λ l. AreLast end l last') same (last_of_block end words last last' are (subst (λ k. AreNoted (length words) (k ∷ []) last last') is noted))
