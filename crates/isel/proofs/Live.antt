-- Each number is set before it is read, and at no word are more numbers live than temporaries at its step.
use Rattle.std.proofs.Common.{◌≡◌, ◌⊎◌, ℕ, ◌+◌, ◌-◌, ◌<◌, ◌≤◌, false, List, [], ◌∷◌, ◌++◌, map, length, Some, Contains, inl, inr, refl, sym, ap, ◌∙◌, subst, arith, append_assoc}
use Rattle.std.proofs.lemmas.List.{length-map}
use Rattle.std.specs.Prelude.{eqb}
use Rattle.std.specs.List.{AllByRecursion, IsDistinct}
use Rattle.std.proofs.lemmas.Bool.Decides.{nat_tests}
use Rattle.limm_ir.specs.Conditions as ir
use Rattle.limm_ir.specs.Conditions.{Known, Unset, IsSet, InRange, IsWell, IsWellMade, SetsOnce, IsSelectable, IsRead, learn, step_reads, step_sets, end_reads}
use Rattle.limm_ir.specs.declared.block.IrEnd.{IrEnd}
use Rattle.limm_ir.specs.declared.block.IrEnd.TheVariants as ends
use Rattle.limm_ir.specs.declared.step.IrStep.{IrStep}
use Rattle.limm_ir.specs.declared.step.IrStep.TheVariants as steps
use Rattle.a64_code.specs.declared.instr.A64.{A64}
use Rattle.a64_table.specs.Rows.{a64_result}
use Rattle.a64_block.specs.Registers.{numbers}
use Rattle.a64_block.specs.Conditions.{IsSetIn, IsReadFirst, Occurs, IsLiveAt, LiveAtMost, IsAllocatable, end_operands}
use Rattle.a64_block.specs.declared.block.AEnd.{AEnd}
use Rattle.isel.specs.Groups.{last_bit, group_of, selected, selected_end}
use Rattle.isel.proofs.Meaning.{learned}
use Rattle.isel.proofs.Layable.{selected_layable}
use Rattle.isel.proofs.Uses.{Among, among, contained, of_all, lower, Fine, OccursIn, group_sets, group_uses, IsLow, group_fine, group_first}

-- registers and flags are in range
low_step : (known : ℕ → Known) (x : IrStep) → InRange known x → IsLow x
low_step known (steps.GetReg t r) range = range
low_step known (steps.SetReg r t) range = range
low_step known (steps.GetFlag t f) range = range
low_step known (steps.SetFlag f t) range = range
low_step known x range = tt

-- in all steps of a block that is well made
all_low : (end : IrEnd) (known : ℕ → Known) (xs : List IrStep) → IsWell end known xs → AllByRecursion IsLow xs
all_low end known [] well = tt
all_low end known (x ∷ xs) well = (low_step known x well.1, all_low end (learn x known) xs well.2)

-- ---- set before read

-- the end of the words reads what the end of the steps reads
end_uses : (end : IrEnd) (n : ℕ) → Contains (end_operands (selected_end end)) n → Among (end_reads end) (n - 21)
end_uses (ends.Goto a) n h = elim (among [] n h) [ ]
end_uses (ends.Branch t a b) n h = lower (t.0 ∷ []) n (among ((21 + t.0) ∷ []) n h)
end_uses (ends.Return t) n h = lower (t.0 ∷ []) n (among ((21 + t.0) ∷ []) n h)
end_uses (ends.Indexed t table) n h = lower (t.0 ∷ []) n (among ((21 + t.0) ∷ []) n h)
end_uses (ends.Stop kind) n h = elim (among [] n h) [ ]

-- what is read first from here on was set before
steps_first : (end : IrEnd) (known : ℕ → Known) (xs : List IrStep) → IsWell end known xs → (n : ℕ) → 20 < n → IsReadFirst (selected_end end) (selected known xs) 0 n → IsSet (known (n - 21))
steps_first end known [] well n high (inl low) = absurd (omega (arith, low, high))
steps_first end known [] well n high (inr h) = of_all (λ t. IsSet (known t)) (end_reads end) well.0 (n - 21) (end_uses end n h)
steps_first end known (x ∷ xs) well n high read =
    elim (group_first (selected_end end) (λ t. last_bit (known t)) n high (selected (learn x known) xs) x (low_step known x well.1) read) [
      | inl reads ↦ of_all (λ t. IsSet (known t)) (step_reads x) well.0 (n - 21) reads
      | inr r ↦ elim (learned x known (n - 21) (steps_first end (learn x known) xs well.2 n high r.1)) [ inl is_set ↦ absurd (r.0 is_set) | inr is_set ↦ is_set ]
    ]

-- ---- where a word stands

-- an element of two lists joined stands in the first, or in the second
data Parts {A : Type 0} (g rest before : List A) (w : A) (behind : List A) : Type 0 where
  within : (right : List A) → g ≡ before ++ w ∷ right → behind ≡ right ++ rest → Parts g rest before w behind
  beyond : (more : List A) → before ≡ g ++ more → rest ≡ more ++ w ∷ behind → Parts g rest before w behind

-- the same of lists with one more element at the front
one_more : {A : Type 0} (y z : A) (g rest before : List A) (w : A) (behind : List A) → y ≡ z → Parts g rest before w behind → Parts (y ∷ g) rest (z ∷ before) w behind
one_more y z g rest before w behind same (within right e f) = within right (cc) f
one_more y z g rest before w behind same (beyond more e f) = beyond more (cc) f

-- where an element of joined lists stands
parts : {A : Type 0} (g rest before : List A) (w : A) (behind : List A) → g ++ rest ≡ before ++ w ∷ behind → Parts g rest before w behind
parts [] rest before w behind e = beyond before refl e
parts (y ∷ g) rest [] w behind e = within g (cc) (cc)
parts (y ∷ g) rest (z ∷ before) w behind e = one_more y z g rest before w behind (cc) (parts g rest before w behind (cc))

-- the empty list has no element
no_word : {A : Type 0} (before : List A) (w : A) (behind : List A) → [] ≡ before ++ w ∷ behind → ⊥
no_word [] w behind e = cc
no_word (z ∷ before) w behind e = cc

-- a word of selected steps stands in the group of one of them
record Cut (known : ℕ → Known) (xs : List IrStep) (before : List (A64 ℕ)) (w : A64 ℕ) (behind : List (A64 ℕ)) : Type 0 where
  front : List IrStep
  step : IrStep
  back : List IrStep
  now : ℕ → Known
  left : List (A64 ℕ)
  right : List (A64 ℕ)
  split : xs ≡ front ++ step ∷ back
  group : group_of (λ t. last_bit (now t)) step ≡ left ++ w ∷ right
  before_is : before ≡ selected known front ++ left
  behind_is : behind ≡ right ++ selected (learn step now) back

-- the group in which a word stands
cut : (known : ℕ → Known) (xs : List IrStep) (before : List (A64 ℕ)) (w : A64 ℕ) (behind : List (A64 ℕ)) → selected known xs ≡ before ++ w ∷ behind → Cut known xs before w behind
cut known [] before w behind e = absurd (no_word before w behind e)
cut known (x ∷ xs) before w behind e =
    let g = group_of (λ t. last_bit (known t)) x in
    elim (parts g (selected (learn x known) xs) before w behind e) as (λ p. Cut known (x ∷ xs) before w behind) [
      | within right f h ↦ record { front = []; step = x; back = xs; now = known; left = before; right = right; split = refl; group = f; before_is = refl; behind_is = h }
      | beyond more f h ↦ let c = cut (learn x known) xs more w behind h in record {
        front = x ∷ c.front;
        step = c.step;
        back = c.back;
        now = c.now;
        left = c.left;
        right = c.right;
        split = ap (λ l. x ∷ l) c.split;
        group = c.group;
        before_is = f ∙ ap (λ l. g ++ l) c.before_is ∙ sym (append_assoc g (selected (learn x known) c.front) c.left);
        behind_is = c.behind_is;
      }
    ]

-- ---- what words set and use

-- what joined words set
set_append : (ws vs : List (A64 ℕ)) (n : ℕ) → IsSetIn (ws ++ vs) n → IsSetIn ws n ⊎ IsSetIn vs n
set_append [] vs n h = inr h
set_append (w ∷ ws) vs n (inl e) = inl (inl e)
set_append (w ∷ ws) vs n (inr h) = elim (set_append ws vs n h) [ inl first ↦ inl (inr first) | inr second ↦ inr second ]

-- what words set, they set before others
set_left : (ws vs : List (A64 ℕ)) (n : ℕ) → IsSetIn ws n → IsSetIn (ws ++ vs) n
set_left [] vs n h = elim h [ ]
set_left (w ∷ ws) vs n (inl e) = inl e
set_left (w ∷ ws) vs n (inr h) = inr (set_left ws vs n h)

-- what words set, they set behind others
set_right : (ws vs : List (A64 ℕ)) (n : ℕ) → IsSetIn vs n → IsSetIn (ws ++ vs) n
set_right [] vs n h = h
set_right (w ∷ ws) vs n h = inr (set_right ws vs n h)

-- what occurs in joined words
occurs_append : (fin : AEnd ℕ) (ws vs : List (A64 ℕ)) (n : ℕ) → Occurs fin (ws ++ vs) n → OccursIn ws n ⊎ Occurs fin vs n
occurs_append fin [] vs n h = inr h
occurs_append fin (w ∷ ws) vs n (inl e) = inl (inl e)
occurs_append fin (w ∷ ws) vs n (inr (inl h)) = inl (inr (inl h))
occurs_append fin (w ∷ ws) vs n (inr (inr h)) = elim (occurs_append fin ws vs n h) [ inl first ↦ inl (inr (inr first)) | inr second ↦ inr second ]

-- what occurs in words occurs behind others
occurs_right : (ws vs : List (A64 ℕ)) (n : ℕ) → OccursIn vs n → OccursIn (ws ++ vs) n
occurs_right [] vs n h = h
occurs_right (w ∷ ws) vs n h = inr (inr (occurs_right ws vs n h))

-- what words set, their steps set
words_set : (known : ℕ → Known) (xs : List IrStep) → AllByRecursion IsLow xs → (n : ℕ) → 20 < n → IsSetIn (selected known xs) n → ir.IsSetIn xs (n - 21)
words_set known [] low n high h = elim h [ ]
words_set known (x ∷ xs) low n high h =
    let last = λ (t : ℕ). last_bit (known t) in
    elim (set_append (group_of last x) (selected (learn x known) xs) n h) [
      | inl first ↦ inl (group_sets x n high (group_fine last x low.0) first)
      | inr second ↦ inr (words_set (learn x known) xs low.1 n high second)
    ]

-- what occurs in words, their steps set or read
words_occur : (end : IrEnd) (known : ℕ → Known) (xs : List IrStep) → AllByRecursion IsLow xs → (n : ℕ) → 20 < n → Occurs (selected_end end) (selected known xs) n → ir.IsSetIn xs (n - 21) ⊎ IsRead end xs (n - 21)
words_occur end known [] low n high h = inr (contained (end_reads end) (n - 21) (end_uses end n h))
words_occur end known (x ∷ xs) low n high h =
    let last = λ (t : ℕ). last_bit (known t) in
    elim (occurs_append (selected_end end) (group_of last x) (selected (learn x known) xs) n h) [
      | inl first ↦ elim (group_uses x n high (group_fine last x low.0) first) [ inl is_set ↦ inl (inl is_set) | inr reads ↦ inr (inl (contained (step_reads x) (n - 21) reads)) ]
      | inr second ↦ elim (words_occur end (learn x known) xs low.1 n high second) [ inl is_set ↦ inl (inr is_set) | inr reads ↦ inr (inr reads) ]
    ]

-- ---- set once

-- what is set behind a step is set in the block
set_behind : (front : List IrStep) (x : IrStep) (back : List IrStep) (t : ℕ) → ir.IsSetIn back t → ir.IsSetIn (front ++ x ∷ back) t
set_behind [] x back t h = inr h
set_behind (y ∷ front) x back t h = inr (set_behind front x back t h)

-- what is set up to a step is not set behind it
once_before : (front : List IrStep) (x : IrStep) (back : List IrStep) (t : ℕ) → SetsOnce (front ++ x ∷ back) → ir.IsSetIn front t ⊎ (step_sets x ≡ Some t) → ir.IsSetIn back t → ⊥
once_before [] x back t once (inl h) again = elim h [ ]
once_before [] x back t once (inr is_set) again = once.0 t is_set again
once_before (y ∷ front) x back t once (inl (inl is_set)) again = once.0 t is_set (set_behind front x back t again)
once_before (y ∷ front) x back t once (inl (inr h)) again = once_before front x back t once.1 (inl h) again
once_before (y ∷ front) x back t once (inr is_set) again = once_before front x back t once.1 (inr is_set) again

-- a property of all elements of two lists joined
all_front : {A : Type 0} (P : A → Type 0) (xs ys : List A) → AllByRecursion P (xs ++ ys) → AllByRecursion P xs × AllByRecursion P ys
all_front P [] ys all = (tt, all)
all_front P (x ∷ xs) ys all = let rest = all_front P xs ys all.1 in ((all.0, rest.0), rest.1)

-- ---- live numbers

module _ (xs : List IrStep) (end : IrEnd) (known : ℕ → Known) (low : AllByRecursion IsLow xs) (once : SetsOnce xs)
    (before : List (A64 ℕ)) (w : A64 ℕ) (behind : List (A64 ℕ)) (c : Cut known xs before w behind) where
  -- registers and flags are in range up to the word and from there on
  lows : AllByRecursion IsLow c.front × AllByRecursion IsLow (c.step ∷ c.back)
  lows = all_front IsLow c.front (c.step ∷ c.back) (subst (λ l. AllByRecursion IsLow l) c.split low)

  -- the group of the word reads and sets what its step does
  fine : Fine c.step false (c.left ++ w ∷ c.right)
  fine = subst (λ g. Fine c.step false g) c.group (group_fine (λ t. last_bit (c.now t)) c.step lows.1.0)

  -- set before the word or by it
  set_so_far : (n : ℕ) → 20 < n → IsSetIn before n ⊎ (a64_result numbers w ≡ Some n) → ir.IsSetIn c.front (n - 21) ⊎ (step_sets c.step ≡ Some (n - 21))
  set_so_far n high (inl h) = elim (set_append (selected known c.front) c.left n (subst (λ l. IsSetIn l n) c.before_is h)) [
    | inl first ↦ inl (words_set known c.front lows.0 n high first)
    | inr second ↦ inr (group_sets c.step n high fine (set_left c.left (w ∷ c.right) n second))
  ]
  set_so_far n high (inr e) = inr (group_sets c.step n high fine (set_right c.left (w ∷ c.right) n (inl e)))

  -- set by the word, or used behind it
  used : (n : ℕ) → 20 < n → ir.IsSetIn c.front (n - 21) ⊎ (step_sets c.step ≡ Some (n - 21)) → (a64_result numbers w ≡ Some n) ⊎ Occurs (selected_end end) behind n
      → (step_sets c.step ≡ Some (n - 21)) ⊎ IsRead end (c.step ∷ c.back) (n - 21)
  used n high so_far (inl e) = inl (group_sets c.step n high fine (set_right c.left (w ∷ c.right) n (inl e)))
  used n high so_far (inr h) = elim (occurs_append (selected_end end) c.right (selected (learn c.step c.now) c.back) n (subst (λ l. Occurs (selected_end end) l n) c.behind_is h)) [
    | inl first ↦ elim (group_uses c.step n high fine (occurs_right c.left (w ∷ c.right) n (inr (inr first)))) [ inl is_set ↦ inl is_set | inr reads ↦ inr (inl (contained (step_reads c.step) (n - 21) reads)) ]
    | inr second ↦ elim (words_occur end (learn c.step c.now) c.back lows.1.1 n high second) [
      | inl again ↦ absurd (once_before c.front c.step c.back (n - 21) (subst (λ l. SetsOnce l) c.split once) so_far again)
      | inr reads ↦ inr (inr reads)
    ]
  ]

  -- the temporary of a live number is live at the word's step
  live_at : (n : ℕ) → IsLiveAt (selected_end end) before w behind n → ir.IsLiveAt end c.front c.step c.back (n - 21)
  live_at n h = let so_far = set_so_far n h.0 h.1 in (so_far, used n h.0 so_far h.2)

  -- the temporaries of live numbers are live
  all_live : (ns : List ℕ) → AllByRecursion (IsLiveAt (selected_end end) before w behind) ns → AllByRecursion (ir.IsLiveAt end c.front c.step c.back) (map (λ n. n - 21) ns)
  all_live [] live = tt
  all_live (n ∷ ns) live = (live_at n live.0, all_live ns live.1)

  -- a temporary differs from the others where its number does
  apart_from : (m : ℕ) (ns : List ℕ) → 20 < m → AllByRecursion (IsLiveAt (selected_end end) before w behind) ns → AllByRecursion (λ n. eqb m n ≡ false) ns → AllByRecursion (λ t. eqb (m - 21) t ≡ false) (map (λ n. n - 21) ns)
  apart_from m [] high live apart = tt
  apart_from m (n ∷ ns) high live apart = (still m n high live.0.0 apart.0, apart_from m ns high live.1 apart.1)
    where
      still : (m n : ℕ) → 20 < m → 20 < n → eqb m n ≡ false → eqb (m - 21) (n - 21) ≡ false
      still m n p q e = grind (arith, nat_tests)

  -- the temporaries of distinct numbers are distinct
  all_distinct : (ns : List ℕ) → AllByRecursion (IsLiveAt (selected_end end) before w behind) ns → IsDistinct eqb ns → IsDistinct eqb (map (λ n. n - 21) ns)
  unfolding IsDistinct
  all_distinct [] live distinct = tt
  all_distinct (n ∷ ns) live distinct = (apart_from n ns live.0.0 live.1 distinct.0, all_distinct ns live.1 distinct.1)

-- at each word at most as many numbers are live as temporaries are at a step
selected_live : (xs : List IrStep) (end : IrEnd) (known : ℕ → Known) → AllByRecursion IsLow xs → SetsOnce xs → ir.LiveAtMost 6 end xs → LiveAtMost 8 (selected_end end) (selected known xs)
selected_live xs end known low once few before w behind split ns distinct live =
    let c = cut known xs before w behind split in
    let ts = map (λ (n : ℕ). n - 21) ns in
    let six : length ts ≤ 6 = few c.front c.step c.back c.split ts (all_distinct xs end known low once before w behind c ns live distinct) (all_live xs end known low once before w behind c ns live) in
    omega (arith, six, length-map ns (λ (n : ℕ). n - 21))

-- the allocation of registers may have the selected words
pub selected_allocatable : (xs : List IrStep) (end : IrEnd) → IsSelectable xs end → IsAllocatable (selected (λ t. Unset) xs) (selected_end end)
selected_allocatable xs end selectable = record {
  layable = selected_layable end (λ t. Unset) xs selectable.well;
  sets_first = λ n high read. steps_first end (λ t. Unset) xs selectable.well n high read;
  few = selected_live xs end (λ t. Unset) (all_low end (λ t. Unset) xs selectable.well) selectable.once selectable.few;
}
