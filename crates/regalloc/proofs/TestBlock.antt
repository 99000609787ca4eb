-- The blocks of the tests can be allocated.
use Rattle.std.proofs.Common.{◌≡◌, ◌⊎◌, inl, inr, ℕ, ◌<◌, ◌≤◌, eqb, true, List, [], ◌∷◌, ◌++◌, length, map, pos, Some, refl, sym, ap, subst, arith, Contains}
use Rattle.std.specs.List.{AllByRecursion, list_any}
use Rattle.std.specs.Cmp.{nat_eq_equiv}
use Rattle.std.proofs.lemmas.Int.{ints}
use Rattle.std.proofs.lemmas.Map.Made.{length-le_from_is_member}
use Rattle.a64_code.specs.declared.instr.A64.{A64}
use Rattle.a64_code.specs.declared.instr.A64.TheVariants.{Add, Orr, AddImm, Cbz, Ldr, Str, DmbSt}
use Rattle.a64_code.specs.Ranges.{IsRegister}
use Rattle.a64_block.specs.Renamed.{renamed, renamed_end}
use Rattle.a64_block.specs.Conditions.{IsSetIn, IsReadFirst, IsLiveAt, LiveAtMost, SetsFirst, some_register, IsLayable, IsAllocatable}
use Rattle.a64_block.specs.declared.block.AEnd.{AEnd}
use Rattle.a64_block.specs.declared.block.AEnd.TheVariants.{Branch, Goto}
use Rattle.regalloc.proofs.Numbers.{contains-cases, contains-none, among, among_only}
use Rattle.regalloc.proofs.Scanning.{set_more}

-- a block that sets no numbers but eight has at most eight live
module _ (words : List (A64 ℕ)) (end : AEnd ℕ) (known : List ℕ) (only : (n : ℕ) → IsSetIn words n → list_any (eqb n) known ≡ true) (short : length known ≤ 8) where
  live_set : (before : List (A64 ℕ)) (w : A64 ℕ) (behind : List (A64 ℕ)) (n : ℕ) → words ≡ before ++ w ∷ behind → IsLiveAt end before w behind n → IsSetIn words n
  live_set before w behind n is (high, inl set, later) = subst (λ l. IsSetIn l n) (sym is) (set_more before (w ∷ behind) n (inl set))
  live_set before w behind n is (high, inr sets, later) = subst (λ l. IsSetIn l n) (sym is) (set_more before (w ∷ behind) n (inr (inl sets)))

  live_known : (before : List (A64 ℕ)) (w : A64 ℕ) (behind : List (A64 ℕ)) → words ≡ before ++ w ∷ behind → (ns : List ℕ) → AllByRecursion (IsLiveAt end before w behind) ns
      → (n : ℕ) → list_any (eqb n) ns ≡ true → list_any (eqb n) known ≡ true
  live_known before w behind is [] all n within = absurd (contains-none n (among_only n [] within))
  live_known before w behind is (m ∷ ns) (here, rest) n within =
      elim (contains-cases m n ns (among_only n (m ∷ ns) within)) [
        | inl same ↦ only n (subst (λ k. IsSetIn words k) same (live_set before w behind m is here))
        | inr later ↦ live_known before w behind is ns rest n (among n ns later)
      ]

  few_by : LiveAtMost 8 end words
  few_by before w behind is ns distinct live =
      let le = length-le_from_is_member nat_eq_equiv ns known distinct (live_known before w behind is ns live) in
      omega (arith, le, short)

-- ---- words that load, add and store

abbrev words : List (A64 ℕ)
words = Ldr 8 21 3 0 ∷ Add true 22 21 16 0 0 ∷ Orr true 23 20 5 0 0 ∷ Cbz true 22 (pos 2) ∷ AddImm true 23 23 1 ∷ Str 8 23 3 0 ∷ []

abbrev end : AEnd ℕ
end = Branch 22 4198416 4198432

zero_register : IsRegister (record { number = 0 })
zero_register = (omega arith, λ e. absurd (omega (arith, e)))

one : (a n : ℕ) → Contains (a ∷ []) n → a ≡ n
one a n within = elim (contains-cases a n [] within) [ inl is ↦ is | inr none ↦ absurd (contains-none n none) ]

two : (a b n : ℕ) → Contains (a ∷ b ∷ []) n → (a ≡ n) ⊎ (b ≡ n)
two a b n within = elim (contains-cases a n (b ∷ []) within) [ inl is ↦ inl is | inr later ↦ inr (one b n later) ]

module _ (n : ℕ) (high : 20 < n) where
  -- from the store on the copy and the sum are read
  at_store : (23 ≡ n → ⊥) → (22 ≡ n → ⊥) → IsReadFirst end (Str 8 23 3 0 ∷ []) 0 n → ⊥
  at_store other other' (inl read) = elim (two 23 3 n read) [ inl is ↦ other is | inr is ↦ absurd (omega (arith, high, is)) ]
  at_store other other' (inr (set, inl (inl low))) = omega (arith, low, high)
  at_store other other' (inr (set, inl (inr read))) = other' (one 22 n read)
  at_store other other' (inr (set, inr (inl low))) = omega (arith, low, high)
  at_store other other' (inr (set, inr (inr read))) = other' (one 22 n read)

  at_increment : (23 ≡ n → ⊥) → (22 ≡ n → ⊥) → IsReadFirst end (AddImm true 23 23 1 ∷ Str 8 23 3 0 ∷ []) 0 n → ⊥
  at_increment other other' (inl read) = other (one 23 n read)
  at_increment other other' (inr (set, inl later)) = at_store other other' later
  at_increment other other' (inr (set, inr later)) = at_store other other' later

  at_branch : (23 ≡ n → ⊥) → (22 ≡ n → ⊥) → IsReadFirst end (Cbz true 22 (pos 2) ∷ AddImm true 23 23 1 ∷ Str 8 23 3 0 ∷ []) 0 n → ⊥
  at_branch other other' (inl read) = other' (one 22 n read)
  at_branch other other' (inr (set, inl later)) = at_increment other other' later
  at_branch other other' (inr (set, inr later)) = at_store other other' later

  at_copy : (22 ≡ n → ⊥) → IsReadFirst end (Orr true 23 20 5 0 0 ∷ Cbz true 22 (pos 2) ∷ AddImm true 23 23 1 ∷ Str 8 23 3 0 ∷ []) 0 n → ⊥
  at_copy other (inl read) = elim (two 20 5 n read) [ inl is ↦ absurd (omega (arith, high, is)) | inr is ↦ absurd (omega (arith, high, is)) ]
  at_copy other (inr (set, inl later)) = at_branch (λ is. set (ap Some is)) other later
  at_copy other (inr (set, inr later)) = at_branch (λ is. set (ap Some is)) other later

  at_sum : (21 ≡ n → ⊥) → IsReadFirst end (Add true 22 21 16 0 0 ∷ Orr true 23 20 5 0 0 ∷ Cbz true 22 (pos 2) ∷ AddImm true 23 23 1 ∷ Str 8 23 3 0 ∷ []) 0 n → ⊥
  at_sum other (inl read) = elim (two 21 16 n read) [ inl is ↦ other is | inr is ↦ absurd (omega (arith, high, is)) ]
  at_sum other (inr (set, inl later)) = at_copy (λ is. set (ap Some is)) later
  at_sum other (inr (set, inr later)) = at_copy (λ is. set (ap Some is)) later

  at_load : IsReadFirst end words 0 n → ⊥
  at_load (inl read) = let is = one 3 n read in omega (arith, high, is)
  at_load (inr (set, inl later)) = at_sum (λ is. set (ap Some is)) later
  at_load (inr (set, inr later)) = at_sum (λ is. set (ap Some is)) later

sets_first : SetsFirst end words
sets_first n high read = at_load n high read

-- three temporaries are set
set_three : (n : ℕ) → IsSetIn words n → list_any (eqb n) (21 ∷ 22 ∷ 23 ∷ []) ≡ true
set_three n (inl is) = let same : 21 ≡ n = cc in subst (λ k. list_any (eqb k) (21 ∷ 22 ∷ 23 ∷ []) ≡ true) same refl
set_three n (inr (inl is)) = let same : 22 ≡ n = cc in subst (λ k. list_any (eqb k) (21 ∷ 22 ∷ 23 ∷ []) ≡ true) same refl
set_three n (inr (inr (inl is))) = let same : 23 ≡ n = cc in subst (λ k. list_any (eqb k) (21 ∷ 22 ∷ 23 ∷ []) ≡ true) same refl
set_three n (inr (inr (inr (inl is)))) = cc
set_three n (inr (inr (inr (inr (inl is))))) = let same : 23 ≡ n = cc in subst (λ k. list_any (eqb k) (21 ∷ 22 ∷ 23 ∷ []) ≡ true) same refl
set_three n (inr (inr (inr (inr (inr (inl is)))))) = cc
set_three n (inr (inr (inr (inr (inr (inr none)))))) = absurd none

few : LiveAtMost 8 end words
few = few_by words end (21 ∷ 22 ∷ 23 ∷ []) set_three (omega arith)

layable_block : IsLayable (map (renamed some_register) words) (renamed_end some_register end)
layable_block = record {
  encodable = (
    (inr (inr (inr refl)), zero_register, zero_register, omega arith),
    (
      (zero_register, inl zero_register, inl zero_register, (omega arith, omega arith)),
      (
        (zero_register, inr refl, inl zero_register, (omega arith, omega arith)),
        (
          (zero_register, (omega (arith, ints), omega (arith, ints))),
          (
            (zero_register, zero_register, omega arith),
            ((inr (inr (inr refl)), inl zero_register, zero_register, omega arith), tt),
          ),
        ),
      ),
    ),
  );
  ends = (zero_register, tt);
  forward = (tt, (tt, (tt, ((1, refl, omega arith), (tt, (tt, tt))))));
  inside = (omega arith, (omega arith, (omega arith, (omega arith, (omega arith, (omega arith, tt))))));
}

pub block_allocatable : (ws : List (A64 ℕ)) → ws ≡ words → IsAllocatable ws end
block_allocatable ws is = subst (λ l. IsAllocatable l end) (sym is) (record { layable = layable_block; sets_first = sets_first; few = few })

-- ---- the write of store buffering

abbrev write_words : List (A64 ℕ)
write_words = Orr true 21 20 0 0 0 ∷ Orr true 22 20 7 0 0 ∷ DmbSt ∷ Str 8 21 22 0 ∷ []

abbrev write_end : AEnd ℕ
write_end = Goto 4198418

module _ (n : ℕ) (high : 20 < n) where
  at_write : (21 ≡ n → ⊥) → (22 ≡ n → ⊥) → IsReadFirst write_end (Str 8 21 22 0 ∷ []) 0 n → ⊥
  at_write other other' (inl read) = elim (two 21 22 n read) [ inl is ↦ other is | inr is ↦ other' is ]
  at_write other other' (inr (set, inl (inl low))) = omega (arith, low, high)
  at_write other other' (inr (set, inl (inr none))) = contains-none n none
  at_write other other' (inr (set, inr (inl low))) = omega (arith, low, high)
  at_write other other' (inr (set, inr (inr none))) = contains-none n none

  at_fence : (21 ≡ n → ⊥) → (22 ≡ n → ⊥) → IsReadFirst write_end (DmbSt ∷ Str 8 21 22 0 ∷ []) 0 n → ⊥
  at_fence other other' (inl none) = contains-none n none
  at_fence other other' (inr (set, inl later)) = at_write other other' later
  at_fence other other' (inr (set, inr later)) = at_write other other' later

  at_address : (21 ≡ n → ⊥) → IsReadFirst write_end (Orr true 22 20 7 0 0 ∷ DmbSt ∷ Str 8 21 22 0 ∷ []) 0 n → ⊥
  at_address other (inl read) = elim (two 20 7 n read) [ inl is ↦ absurd (omega (arith, high, is)) | inr is ↦ absurd (omega (arith, high, is)) ]
  at_address other (inr (set, inl later)) = at_fence other (λ is. set (ap Some is)) later
  at_address other (inr (set, inr later)) = at_fence other (λ is. set (ap Some is)) later

  at_value : IsReadFirst write_end write_words 0 n → ⊥
  at_value (inl read) = elim (two 20 0 n read) [ inl is ↦ absurd (omega (arith, high, is)) | inr is ↦ absurd (omega (arith, high, is)) ]
  at_value (inr (set, inl later)) = at_address (λ is. set (ap Some is)) later
  at_value (inr (set, inr later)) = at_address (λ is. set (ap Some is)) later

set_two : (n : ℕ) → IsSetIn write_words n → list_any (eqb n) (21 ∷ 22 ∷ []) ≡ true
set_two n (inl is) = let same : 21 ≡ n = cc in subst (λ k. list_any (eqb k) (21 ∷ 22 ∷ []) ≡ true) same refl
set_two n (inr (inl is)) = let same : 22 ≡ n = cc in subst (λ k. list_any (eqb k) (21 ∷ 22 ∷ []) ≡ true) same refl
set_two n (inr (inr (inl is))) = cc
set_two n (inr (inr (inr (inl is)))) = cc
set_two n (inr (inr (inr (inr none)))) = absurd none

layable_write : IsLayable (map (renamed some_register) write_words) (renamed_end some_register write_end)
layable_write = record {
  encodable = (
    (zero_register, inr refl, inl zero_register, (omega arith, omega arith)),
    ((zero_register, inr refl, inl zero_register, (omega arith, omega arith)), (tt, ((inr (inr (inr refl)), inl zero_register, zero_register, omega arith), tt))),
  );
  ends = tt;
  forward = (tt, (tt, (tt, (tt, tt))));
  inside = (omega arith, (omega arith, (omega arith, (omega arith, tt))));
}

pub write_allocatable : (ws : List (A64 ℕ)) → ws ≡ write_words → IsAllocatable ws write_end
write_allocatable ws is = subst (λ l. IsAllocatable l write_end) (sym is) (record {
  layable = layable_write;
  sets_first = λ n high read. at_value n high read;
  few = few_by write_words write_end (21 ∷ 22 ∷ []) set_two (omega arith);
})
