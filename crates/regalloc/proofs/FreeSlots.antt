-- Where at most eight temporaries are live, a slot is free for the result of a word.
use Rattle.std.proofs.Common.{◌≡◌, ◌⊎◌, inl, inr, ℕ, zero, suc, ◌+◌, ◌<◌, ◌≤◌, eqb, false, List, [], ◌∷◌, length, take, drop, slice_index, Option, Some, None, refl, sym, ap, ◌∙◌, subst, arith}
use Rattle.std.specs.List.{AllByRecursion, IsDistinct}
use Rattle.std.proofs.lemmas.Bool.{cases_lt, ne_eqb}
use Rattle.a64_code.specs.declared.instr.A64.{A64}
use Rattle.a64_table.specs.Rows.{a64_result}
use Rattle.a64_block.specs.Registers.{numbers}
use Rattle.a64_block.specs.Conditions.{IsLiveAt, LiveAtMost}
use Rattle.a64_block.specs.declared.block.AEnd.{AEnd}
use Rattle.regalloc.specs.Slots.{StandsAt}
use Rattle.regalloc.specs.Scan.{HasFree, IsScanned}
use Rattle.regalloc.proofs.Scanning.{stands_parts}

module _ (end : AEnd ℕ) (ws : List (A64 ℕ)) (slots : ℕ → Option ℕ) (until : List ℕ) (i : ℕ) (w : A64 ℕ) (stands : StandsAt ws i w) (s : IsScanned end ws slots until i) where
  -- each slot below a number is in use behind the word
  abbrev AllBusy : ℕ → Type 0
  AllBusy m = (slot : ℕ) → slot < m → i < slice_index until slot

  -- one slot more
  busy_next : (m : ℕ) → AllBusy m → i < slice_index until m → AllBusy (suc m)
  busy_next m all here slot lt =
      elim (cases_lt slot m) [
        | inl less ↦ all slot less
        | inr le ↦ (let same : m ≡ slot = omega (arith, le, lt) in subst (λ k. i < slice_index until k) same here)
      ]

  -- some slot is free, or all are busy
  search_free : (m : ℕ) → m ≤ 8 → HasFree until i ⊎ AllBusy m
  search_free zero le = inr (λ slot lt. absurd (omega (arith, lt)))
  search_free (suc m) le =
      elim (search_free m (omega (arith, le))) [
        | inl free ↦ inl free
        | inr all ↦ elim (cases_lt i (slice_index until m)) [
          | inl here ↦ inr (busy_next m all here)
          | inr free ↦ inl (m, omega (arith, le, s.eight), free)
        ]
      ]

  -- a temporary with a slot below a number that is live at the word
  abbrev IsHolder : ℕ → ℕ → Type 0
  IsHolder m n = ((slot : ℕ) × (slot < m) × (slots n ≡ Some slot)) × IsLiveAt end (take i ws) w (drop (i + 1) ws) n

  -- below a greater number too
  holders_wider : (m : ℕ) (ns : List ℕ) → AllByRecursion (IsHolder m) ns → AllByRecursion (IsHolder (suc m)) ns
  holders_wider m [] all = tt
  holders_wider m (n ∷ ns) (((slot, lt, has), live), rest) = (((slot, omega (arith, lt), has), live), holders_wider m ns rest)

  -- one with another slot is none of them
  not_among : (m : ℕ) (ns : List ℕ) (n : ℕ) → AllByRecursion (IsHolder m) ns → slots n ≡ Some m → AllByRecursion (λ k. eqb n k ≡ false) ns
  not_among m [] n all has = tt
  not_among m (k ∷ ns) n (((slot, lt, there), live), rest) has =
      (ne_eqb n k (λ same. let e : Some m ≡ Some slot = sym has ∙ ap slots same ∙ there in let e' : m ≡ slot = cc in omega (arith, lt, e')), not_among m ns n rest has)

  -- as many live temporaries as there are busy slots
  holders : (m : ℕ) → m ≤ 8 → AllBusy m → (ns : List ℕ) × (length ns ≡ m) × IsDistinct eqb ns × AllByRecursion (IsHolder m) ns
  unfolding IsDistinct
  holders zero le busy = ([], refl, tt, tt)
  holders (suc m) le busy =
      let rest = holders m (omega (arith, le)) (λ slot lt. busy slot (omega (arith, lt))) in
      let use_by = busy m (omega arith) in
      let b = s.busy m (omega (arith, le)) use_by in
      let known = s.kept b.0 m b.1 in
      (b.0 ∷ rest.0, ap suc rest.1, (not_among m rest.0 b.0 rest.3 b.1, rest.2), (((m, omega arith, b.1), (known.0, inl known.2, inr (b.2 (i + 1) (omega (arith, use_by))))), holders_wider m rest.0 rest.3))

  -- they are live
  live_all : (m : ℕ) (ns : List ℕ) → AllByRecursion (IsHolder m) ns → AllByRecursion (IsLiveAt end (take i ws) w (drop (i + 1) ws)) ns
  live_all m [] all = tt
  live_all m (n ∷ ns) (here, rest) = (here.1, live_all m ns rest)

  -- one that has no slot is none of them
  new_one : (m : ℕ) (ns : List ℕ) (r : ℕ) → slots r ≡ None → AllByRecursion (IsHolder m) ns → AllByRecursion (λ k. eqb r k ≡ false) ns
  new_one m [] r none all = tt
  new_one m (k ∷ ns) r none (((slot, lt, there), live), rest) =
      (ne_eqb r k (λ same. let e : None ≡ Some slot = sym none ∙ ap slots same ∙ there in cc), new_one m ns r none rest)

  -- one more that is none of them
  distinct_more : (r : ℕ) (ns : List ℕ) → AllByRecursion (λ k. eqb r k ≡ false) ns → IsDistinct eqb ns → IsDistinct eqb (r ∷ ns)
  unfolding IsDistinct
  distinct_more r ns other rest = (other, rest)

  -- a temporary that a word sets and that has no slot finds one
  pub has_free : LiveAtMost 8 end ws → (r : ℕ) → a64_result numbers w ≡ Some r → 20 < r → slots r ≡ None → HasFree until i
  has_free few r is high none =
      elim (search_free 8 (omega arith)) [
        | inl free ↦ free
        | inr busy ↦ (let h = holders 8 (omega arith) busy in
            let many = few (take i ws) w (drop (i + 1) ws) (stands_parts ws i w stands) (r ∷ h.0) (distinct_more r h.0 (new_one 8 h.0 r none h.3) h.2) ((high, inr is, inl is), live_all 8 h.0 h.3) in
            absurd (omega (arith, many, h.1)))
      ]
