-- A word spells exactly the instruction that is read from it.
use Rattle.std.proofs.Common.{◌≡◌, ℕ, ◌+◌, ◌*◌, ◌^◌, ◌<◌, ◌==◌, ◌&&◌, Bool, true, false, zero, suc, inl, Option, Some, None, refl, sym, ap, ◌∙◌, subst, arith, lit<}
use Rattle.std.specs.Prelude.{if◌then◌else◌, ℤ}
use Rattle.std.proofs.lemmas.Bool.{eqb-true, eq-eqb}
use Rattle.word_arith.specs.Bits.{bit, field}
use Rattle.word_arith.proofs.CallerLemmas.{low_bits_below}
use Rattle.a64_code.specs.declared.instr.XReg.{XReg}
use Rattle.a64_code.specs.declared.instr.A64.{A64}
use Rattle.a64_code.specs.declared.instr.A64.TheVariants.{Add, Sub, Subs, And, Orr, Eor, AddImm, SubImm, Movz, Movk, Movn, Lslv, Lsrv, Asrv, Rorv, Udiv, Sdiv, Madd, Msub, Smulh, Umulh, Ubfm, Sbfm, Csel, Csinc, B, BCond, Cbz, Cbnz, Ldr, Str, Cas, Swp, Ldadd, Ldclr, Ldeor, Ldset, DmbFull, DmbLd, DmbSt, Nop, Brk, Svc}
use Rattle.a64_code.specs.Ranges.{IsEncodable, IsDistance}
use Rattle.a64_code.specs.Words.{word_of, IsSpelling}
use Rattle.a64_code.specs.Tests.{is_encodable}
use Rattle.a64_code.specs.Decoding.{by_class, candidate, held_against, a64_of, compare, branch}
use Rattle.a64_code.proofs.Shapes.{distance_read, shifted_read, immediate_read, quarter_read, moved_read, two_read, chosen_read, three_read, whole_read, tested_read, offset_read, updated_read}
use Rattle.a64_code.proofs.RangeLemmas.{encodable_test}

-- ---- what is read from an instruction's word

-- a word of a class is read by it
of_class : (class w : ℕ) (o : Option (A64 XReg)) → field 24 5 w ≡ class → by_class class w ≡ o → candidate w ≡ o
of_class class w o e here = ap (λ c. by_class c w) e ∙ here

-- a compared register is read as such in both forms
of_tested : (x : Bool) (w : ℕ) (o : Option (A64 XReg)) → field 29 3 w ≡ 1 + 4 * bit x → compare w ≡ o → branch w ≡ o
of_tested true w o e here = rw e here
of_tested false w o e here = rw e here

-- the four classes of branches, two of whose bits are a distance's
branch_class : (j w : ℕ) → j < 4 → by_class (0x14 + j) w ≡ branch w
branch_class zero w h = refl
branch_class (suc zero) w h = refl
branch_class (suc (suc zero)) w h = refl
branch_class (suc (suc (suc zero))) w h = refl
branch_class (suc (suc (suc (suc j)))) w h = absurd (omega arith)

far_read : (z : ℤ) → IsDistance 26 z → candidate (word_of (B z)) ≡ Some (B z)
far_read z h =
    let w = word_of (B z) in
    let small = low_bits_below 26 z in
    let operation : field 29 3 w ≡ 0 = omega arith in
    let class : field 24 5 w ≡ 0x14 + field 24 2 w = omega arith in
    let read = distance_read 0 26 w z (lit< tt) h (omega arith) in
    of_class _ w _ class (branch_class (field 24 2 w) w (omega arith) ∙ rw operation (ap (λ y. Some (B y)) read))

condition_read : (condition : ℕ) (z : ℤ) → condition < 14 → IsDistance 19 z → candidate (word_of (BCond condition z)) ≡ Some (BCond condition z)
condition_read condition z h zh =
    let w = word_of (BCond condition z) in
    let small = low_bits_below 19 z in
    let operation : field 29 3 w ≡ 2 = omega arith in
    let same : field 0 4 w ≡ condition = omega arith in
    let read = distance_read 5 19 w z (lit< tt) zh (omega arith) in
    of_class 0x14 w _ (omega arith) (rw (operation, same) (ap (λ y. Some (BCond condition y)) read))

break_read : (number : ℕ) → number < 2 ^ 16 → candidate (word_of (Brk number)) ≡ Some (Brk number)
break_read number h =
    let w = word_of (Brk number) in
    let operation : field 29 3 w ≡ 6 = omega arith in
    let class : field 24 2 w ≡ 0 = omega arith in
    let low : field 0 5 w ≡ 0 = omega arith in
    let same : field 5 16 w ≡ number = omega arith in
    of_class 0x14 w _ (omega arith) (rw (operation, class, low, same))

call_read : (number : ℕ) → number < 2 ^ 16 → candidate (word_of (Svc number)) ≡ Some (Svc number)
call_read number h =
    let w = word_of (Svc number) in
    let operation : field 29 3 w ≡ 6 = omega arith in
    let class : field 24 2 w ≡ 0 = omega arith in
    let low : field 0 5 w ≡ 1 = omega arith in
    let same : field 5 16 w ≡ number = omega arith in
    of_class 0x14 w _ (omega arith) (rw (operation, class, low, same))

-- the word of an instruction whose operands are in range is read as the instruction
candidate_read : (a : A64 XReg) → IsEncodable a → candidate (word_of a) ≡ Some a
candidate_read (Add x d n m kind amount) h =
    let s = shifted_read Add 0x0B x d n m kind amount (lit< tt) (inl h.0) h.1 h.2 h.3 in
    of_class 0x0B _ _ s.0 (rw s.1 s.2)
candidate_read (Sub x d n m kind amount) h =
    let s = shifted_read Sub 0x4B x d n m kind amount (lit< tt) (inl h.0) h.1 h.2 h.3 in
    of_class 0x0B _ _ s.0 (rw s.1 s.2)
candidate_read (Subs x d n m kind amount) h =
    let s = shifted_read Subs 0x6B x d n m kind amount (lit< tt) h.0 h.1 h.2 h.3 in
    of_class 0x0B _ _ s.0 (rw s.1 s.2)
candidate_read (And x d n m kind amount) h =
    let s = shifted_read And 0x0A x d n m kind amount (lit< tt) (inl h.0) h.1 h.2 h.3 in
    of_class 0x0A _ _ s.0 (rw s.1 s.2)
candidate_read (Orr x d n m kind amount) h =
    let s = shifted_read Orr 0x2A x d n m kind amount (lit< tt) (inl h.0) h.1 h.2 h.3 in
    of_class 0x0A _ _ s.0 (rw s.1 s.2)
candidate_read (Eor x d n m kind amount) h =
    let s = shifted_read Eor 0x4A x d n m kind amount (lit< tt) (inl h.0) h.1 h.2 h.3 in
    of_class 0x0A _ _ s.0 (rw s.1 s.2)
candidate_read (AddImm x d n number) h =
    let s = immediate_read AddImm 0x11 x d n number (lit< tt) (inl h.0) (inl h.1) h.2 in
    of_class 0x11 _ _ s.0 (rw s.1 s.2)
candidate_read (SubImm x d n number) h =
    let s = immediate_read SubImm 0x51 x d n number (lit< tt) (inl h.0) (inl h.1) h.2 in
    of_class 0x11 _ _ s.0 (rw s.1 s.2)
candidate_read (Movz x d value quarter) h =
    let s = quarter_read Movz 0x52 x d value quarter (lit< tt) (inl h.0) h.1 in
    of_class 0x12 _ _ s.0 (rw s.1 s.2)
candidate_read (Movk x d value quarter) h =
    let s = quarter_read Movk 0x72 x d value quarter (lit< tt) (inl h.0) h.1 in
    of_class 0x12 _ _ s.0 (rw s.1 s.2)
candidate_read (Movn x d value quarter) h =
    let s = quarter_read Movn 0x12 x d value quarter (lit< tt) (inl h.0) h.1 in
    of_class 0x12 _ _ s.0 (rw s.1 s.2)
candidate_read (Lslv x d n m) h =
    let s = two_read Lslv 8 x d n m (lit< tt) (inl h.0) h.1 h.2 in
    of_class 0x1A _ _ s.0 (rw (s.1, s.2) s.3)
candidate_read (Lsrv x d n m) h =
    let s = two_read Lsrv 9 x d n m (lit< tt) (inl h.0) h.1 h.2 in
    of_class 0x1A _ _ s.0 (rw (s.1, s.2) s.3)
candidate_read (Asrv x d n m) h =
    let s = two_read Asrv 10 x d n m (lit< tt) (inl h.0) h.1 h.2 in
    of_class 0x1A _ _ s.0 (rw (s.1, s.2) s.3)
candidate_read (Rorv x d n m) h =
    let s = two_read Rorv 11 x d n m (lit< tt) (inl h.0) h.1 h.2 in
    of_class 0x1A _ _ s.0 (rw (s.1, s.2) s.3)
candidate_read (Udiv x d n m) h =
    let s = two_read Udiv 2 x d n m (lit< tt) (inl h.0) h.1 h.2 in
    of_class 0x1A _ _ s.0 (rw (s.1, s.2) s.3)
candidate_read (Sdiv x d n m) h =
    let s = two_read Sdiv 3 x d n m (lit< tt) (inl h.0) h.1 h.2 in
    of_class 0x1A _ _ s.0 (rw (s.1, s.2) s.3)
candidate_read (Madd x d n m a) h =
    let s = three_read Madd 0 x d n m a (lit< tt) (inl h.0) h.1 h.2 (inl h.3) in
    of_class 0x1B _ _ s.0 (rw (s.1, s.2) s.3)
candidate_read (Msub x d n m a) h =
    let s = three_read Msub 1 x d n m a (lit< tt) (inl h.0) h.1 h.2 (inl h.3) in
    of_class 0x1B _ _ s.0 (rw (s.1, s.2) s.3)
candidate_read (Smulh d n m) h =
    let s = whole_read Smulh 2 d n m (lit< tt) (inl h.0) h.1 h.2 in
    of_class 0x1B _ _ s.0 (rw s.1 s.2)
candidate_read (Umulh d n m) h =
    let s = whole_read Umulh 6 d n m (lit< tt) (inl h.0) h.1 h.2 in
    of_class 0x1B _ _ s.0 (rw s.1 s.2)
candidate_read (Ubfm x d n r s) h =
    let s' = moved_read Ubfm 0x53 x d n r s (lit< tt) (inl h.0) (inl h.1) h.2 h.3 in
    of_class 0x13 _ _ s'.0 (rw s'.1 s'.2)
candidate_read (Sbfm x d n r s) h =
    let s' = moved_read Sbfm 0x13 x d n r s (lit< tt) (inl h.0) (inl h.1) h.2 h.3 in
    of_class 0x13 _ _ s'.0 (rw s'.1 s'.2)
candidate_read (Csel x d n m condition) h =
    let s = chosen_read Csel 0 x d n m condition (lit< tt) (inl h.0) h.1 h.2 h.3 in
    of_class 0x1A _ _ s.0 (rw (s.1, s.2) s.3)
candidate_read (Csinc x d n m condition) h =
    let s = chosen_read Csinc 1 x d n m condition (lit< tt) (inl h.0) h.1 h.2 h.3 in
    of_class 0x1A _ _ s.0 (rw (s.1, s.2) s.3)
candidate_read (B distance) h = far_read distance h
candidate_read (BCond condition distance) h = condition_read condition distance h.0 h.1
candidate_read (Cbz x t distance) h =
    let s = tested_read Cbz 0 x t distance (lit< tt) (inl h.0) h.1 in
    of_class 0x14 _ _ s.0 (of_tested x _ _ s.1 (rw s.2 s.3))
candidate_read (Cbnz x t distance) h =
    let s = tested_read Cbnz 1 x t distance (lit< tt) (inl h.0) h.1 in
    of_class 0x15 _ _ s.0 (of_tested x _ _ s.1 (rw s.2 s.3))
candidate_read (Ldr size t n number) h =
    let s = offset_read Ldr 1 size t n number (lit< tt) h.0 (inl h.1) (inl h.2) h.3 in
    of_class 0x19 _ _ s.0 (rw s.1 s.2)
candidate_read (Str size t n number) h =
    let s = offset_read Str 0 size t n number (lit< tt) h.0 h.1 (inl h.2) h.3 in
    of_class 0x19 _ _ s.0 (rw s.1 s.2)
candidate_read (Cas size s t n) h =
    let s' = updated_read Cas 0x45 31 size s t n (lit< tt) (lit< tt) h.0 (inl h.1) (inl h.2) (inl h.3) in
    of_class 0x08 _ _ s'.0 s'.2
candidate_read (Swp size s t n) h =
    let s' = updated_read Swp 0x1C1 32 size s t n (lit< tt) (lit< tt) h.0 (inl h.1) (inl h.2) (inl h.3) in
    of_class 0x18 _ _ s'.0 (rw s'.1 s'.2)
candidate_read (Ldadd size s t n) h =
    let s' = updated_read Ldadd 0x1C1 0 size s t n (lit< tt) (lit< tt) h.0 (inl h.1) (inl h.2) (inl h.3) in
    of_class 0x18 _ _ s'.0 (rw s'.1 s'.2)
candidate_read (Ldclr size s t n) h =
    let s' = updated_read Ldclr 0x1C1 4 size s t n (lit< tt) (lit< tt) h.0 (inl h.1) (inl h.2) (inl h.3) in
    of_class 0x18 _ _ s'.0 (rw s'.1 s'.2)
candidate_read (Ldeor size s t n) h =
    let s' = updated_read Ldeor 0x1C1 8 size s t n (lit< tt) (lit< tt) h.0 (inl h.1) (inl h.2) (inl h.3) in
    of_class 0x18 _ _ s'.0 (rw s'.1 s'.2)
candidate_read (Ldset size s t n) h =
    let s' = updated_read Ldset 0x1C1 12 size s t n (lit< tt) (lit< tt) h.0 (inl h.1) (inl h.2) (inl h.3) in
    of_class 0x18 _ _ s'.0 (rw s'.1 s'.2)
candidate_read DmbFull h = refl
candidate_read DmbLd h = refl
candidate_read DmbSt h = refl
candidate_read Nop h = refl
candidate_read (Brk number) h = break_read number (omega (arith, h.1))
candidate_read (Svc number) h = call_read number (omega (arith, h.1))

-- ---- a word spells exactly what is read from it

held_spelled : (w : ℕ) (o : Option (A64 XReg)) (a : A64 XReg) → held_against w o ≡ Some a → IsSpelling w a
held_spelled w None a e = absurd cc
held_spelled w (Some b) a e = by (is_encodable b) (word_of b == w) refl refl e
  where
    by : (p q : Bool) → is_encodable b ≡ p → (word_of b == w) ≡ q → (if p && q then Some b else None) ≡ Some a → IsSpelling w a
    by true true first second same =
        let instr : b ≡ a = cc in
        subst (λ i. IsSpelling w i) instr ((encodable_test b).0 first, eqb-true (word_of b) w second)
    by true false first second same = absurd cc
    by false q first second same = absurd cc

-- what is read is spelled
pub spelled : (w : ℕ) (a : A64 XReg) → a64_of w ≡ Some a → IsSpelling w a
unfolding a64_of
spelled w a e = held_spelled w (candidate w) a e

-- what is spelled is read
pub read : (w : ℕ) (a : A64 XReg) → IsSpelling w a → a64_of w ≡ Some a
unfolding a64_of
read w a (range, same) =
    let here : candidate w ≡ Some a = ap candidate (sym same) ∙ candidate_read a range in
    let first : is_encodable a ≡ true = (encodable_test a).1 range in
    let second : (word_of a == w) ≡ true = eq-eqb (word_of a) w same in
    let test : (is_encodable a && word_of a == w) ≡ true = rw (first, second) in
    ap (held_against w) here ∙ ap (λ b. if b then Some a else None) test

-- a word spells one instruction at most
pub one_spelling : (w : ℕ) (a b : A64 XReg) → IsSpelling w a → IsSpelling w b → a ≡ b
one_spelling w a b first second =
    let p = read w a first in
    let q = read w b second in
    cc

-- nothing is read exactly where nothing is spelled
pub none_read : (w : ℕ) → a64_of w ≡ None → (a : A64 XReg) → ¬ IsSpelling w a
none_read w e a h = let p = read w a h in cc

pub none_spelled : (w : ℕ) → ((a : A64 XReg) → ¬ IsSpelling w a) → a64_of w ≡ None
none_spelled w none = by (a64_of w) refl
  where
    by : (o : Option (A64 XReg)) → a64_of w ≡ o → o ≡ None
    by None e = refl
    by (Some a) e = absurd (none a (spelled w a e))

-- the word of an instruction whose operands are in range is read as the instruction
pub a64_of-word_of : (a : A64 XReg) → IsEncodable a → a64_of (word_of a) ≡ Some a
a64_of-word_of a range = read (word_of a) a (range, refl)
