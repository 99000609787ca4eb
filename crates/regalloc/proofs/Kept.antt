-- Words over other registers mean what the words mean, where the registers of what is still read are apart.
use Rattle.std.proofs.Common.{◌≡◌, ◌≢◌, ◌⊎◌, inl, inr, ℕ, zero, suc, ◌+◌, ◌%◌, ◌^◌, ◌<◌, ◌==◌, List, [], ◌∷◌, map, Option, Some, None, refl, sym, ap, ◌∙◌, subst, arith, Contains}
use Rattle.std.specs.Prelude.{if◌then◌else◌}
use Rattle.std.specs.Option.{option_map}
use Rattle.std.proofs.lemmas.Bool.{cases_eq, cases_order}
use Rattle.std.proofs.lemmas.Bool.Decides.{nat_tests}
use Rattle.behavior.specs.Tree.{Tree, Gives, Begins, Acts, Next, Goes, Stops, ◌then◌}
use Rattle.behavior.specs.Acts.{Permission, put}
use Rattle.behavior.specs.Leaving.{Left, SameLeft, ToBlock, ToReturn, ToEntry}
use Rattle.behavior.specs.Seen.{lowered}
use Rattle.behavior.specs.Kept.{SameNext, both-go, both-stop, Keeps}
use Rattle.behavior.proofs.SeenLemmas.{sees-lowered}
use Rattle.behavior.proofs.Unfolding.{AllResults}
use Rattle.behavior.proofs.Beside.{Beside, give, earn, spend, act, beside_keeps}
use Rattle.behavior.proofs.KeepsLemmas.{keeps_then}
use Rattle.a64_code.specs.declared.instr.XReg.{XReg}
use Rattle.a64_code.specs.declared.instr.A64.{A64}
use Rattle.a64_table.specs.declared.state.Nzcv.{Nzcv}
use Rattle.a64_table.specs.declared.state.Done.{Done}
use Rattle.a64_table.specs.State.{xregs, AState, value, after}
use Rattle.a64_table.specs.Rows.{a64_row, a64_result, a64_operands, a64_words, ahead}
use Rattle.a64_table.proofs.OperandLemmas.{AgreeOn, row_same}
use Rattle.a64_block.specs.Registers.{numbers, home}
use Rattle.a64_block.specs.Renamed.{renamed, renamed_end}
use Rattle.a64_block.specs.Blocks.{a64_end, SameNamed}
use Rattle.a64_block.specs.Conditions.{a64_skip, IsReadFirst, SetsFirst}
use Rattle.a64_block.specs.declared.block.AEnd.{AEnd}
use Rattle.a64_block.specs.declared.block.AEnd.TheVariants as ends
use Rattle.a64_block.proofs.CallerLemmas.{SkipsBy, row_skips}
use Rattle.regalloc.specs.Allocated.{MeansNumbers}
use Rattle.regalloc.proofs.Renaming.{row-renamed, result-renamed}

-- numbers of x86 have their homes, the number that reads as 0 has the zero register, and no temporary has it
pub record IsNaming (g : ℕ → XReg) : Type 0 where
  pub homes : (n : ℕ) → n < 20 → (g n).number ≡ home n
  pub none : (g 20).number ≡ 31
  pub temporaries : (n : ℕ) → 20 < n → (g n).number ≢ 31

-- Where a word sets a number, each other one that is read behind it has another register.
abbrev pub AreApartBy : (ℕ → XReg) → AEnd ℕ → List (A64 ℕ) → Type 0
AreApartBy g end [] = Unit {0}
AreApartBy g end (w ∷ ws) =
    ((r n : ℕ) → a64_result numbers w ≡ Some r → (r ≡ n → ⊥) → IsReadFirst end ws 0 n ⊎ IsReadFirst end ws (a64_skip w) n → (g r).number ≢ (g n).number)
    × AreApartBy g end ws

-- ---- a tree beside itself

-- two results are one, of which a property holds
abbrev SameWith : (Done → Type 0) → Done → Done → Type 0
SameWith P d e = (d ≡ e) × P d

-- a tree beside itself, whose results have the property
beside_self : (P : Done → Type 0) (credit : ℕ) (t : Tree (Next Done)) → AllResults P t → Beside lowered 1 (SameNext (SameWith P)) credit t t
beside_self P credit (Gives (Goes d)) all = give (both-go (refl, all))
beside_self P credit (Gives (Stops end)) all = give both-stop
beside_self P credit (Begins t) all = earn {more = credit + 1} (omega arith) (spend {less = credit} (omega arith) (beside_self P credit t all))
beside_self P credit (Acts range made next) all = act (λ v lt. refl) (λ v lt. beside_self P credit (next v) (all v lt))

word_self : (P : Done → Type 0) (t : Tree (Next Done)) → AllResults P t → Keeps lowered 1 0 (SameNext (SameWith P)) (Begins t) (Begins t)
word_self P t all = beside_keeps lowered sees-lowered 1 (SameNext (SameWith P)) {credit = 0} (beside_self P 0 (Begins t) all)

-- ---- words

module _ (g : ℕ → XReg) (naming : IsNaming g) (end : AEnd ℕ) where
  -- each number that is read from here on is in its register
  abbrev Agree : List (A64 ℕ) → (skip : ℕ) → AState → AState → Type 0
  Agree ws skip s t = (n : ℕ) → IsReadFirst end ws skip n → value numbers s n ≡ value xregs t (g n)

  -- X7 is what a call puts out
  seventh : g 7 ≡ record { number = 7 }
  seventh = let e : (g 7).number ≡ 7 = naming.homes 7 (omega arith) in ap (λ k. record { number = k }) e

  -- X0 is what a call takes in
  first : g 0 ≡ record { number = 0 }
  first = let e : (g 0).number ≡ 0 = naming.homes 0 (omega arith) in ap (λ k. record { number = k }) e

  -- a register is the zero register where its number is the one that reads as 0
  zero_number : (n : ℕ) → ((g n).number == 31) ≡ (n == 20)
  zero_number n = grind (arith, nat_tests, naming.homes n, naming.temporaries n, naming.none)

  -- operands that are read first are in their registers
  operands_agree : (xs : List ℕ) (r r' : ℕ → ℕ) → ((n : ℕ) → Contains xs n → r n ≡ r' n) → AgreeOn r r' xs
  operands_agree [] r r' same = tt
  operands_agree (x ∷ xs) r r' same = (same x (0, omega arith, refl), operands_agree xs r r' (λ n (k, lt, is). same n (suc k, omega (arith, lt), is)))

  -- the number that a word sets holds its value, in its register too
  value_set : (v : ℕ) (f f' : Nzcv) (s t : AState) (n : ℕ)
      → value numbers (record { regs = put n v s.regs; nzcv = f }) n ≡ value xregs (record { regs = put (g n).number v t.regs; nzcv = f' }) (g n)
  value_set v f f' s t n = grind (arith, nat_tests, zero_number n)

  -- another number holds what it held, where its register is another one
  value_kept : (v r : ℕ) (f f' : Nzcv) (s t : AState) (n : ℕ) → (r ≡ n → ⊥) → (g r).number ≢ (g n).number → value numbers s n ≡ value xregs t (g n)
      → value numbers (record { regs = put r v s.regs; nzcv = f }) n ≡ value xregs (record { regs = put (g r).number v t.regs; nzcv = f' }) (g n)
  value_kept v r f f' s t n other apart same = grind (arith, nat_tests, zero_number n)

  -- the flags behind a word are those that it leaves
  flags_by : (result : Option ℕ) (d : Done) (s t : AState) → (after xregs (option_map g result) d t).nzcv ≡ (after numbers result d s).nzcv
  flags_by None d s t = refl
  flags_by (Some r) d s t = refl

  -- what numbers hold behind a word, their registers hold too
  value_after : (d : Done) (s t : AState) (n : ℕ) (result : Option ℕ)
      → ((r : ℕ) → result ≡ Some r → (r ≡ n → ⊥) → (g r).number ≢ (g n).number)
      → ((result ≢ Some n) → value numbers s n ≡ value xregs t (g n))
      → value numbers (after numbers result d s) n ≡ value xregs (after xregs (option_map g result) d t) (g n)
  value_after d s t n None apart same = same (λ e. cc)
  value_after d s t n (Some r) apart same =
      elim (cases_eq r n) [
        | inl e ↦ subst (λ k. value numbers (record { regs = put k d.value s.regs; nzcv = d.nzcv }) n ≡ value xregs (record { regs = put (g k).number d.value t.regs; nzcv = d.nzcv }) (g n)) (sym e)
            (value_set d.value d.nzcv d.nzcv s t n)
        | inr other ↦ value_kept d.value r d.nzcv d.nzcv s t n other (apart r refl other) (same (λ e. other (cc)))
      ]

  -- what is read on from a word is in its register, behind it too
  agree_after : (w : A64 ℕ) (ws : List (A64 ℕ)) (d : Done) (s t : AState) → AreApartBy g end (w ∷ ws) → Agree (w ∷ ws) 0 s t → SkipsBy (a64_skip w) d
      → Agree ws (ahead d.distance) (after numbers (a64_result numbers w) d s) (after xregs (option_map g (a64_result numbers w)) d t)
  agree_after w ws d s t apart agree (inl none) n read =
      let here : IsReadFirst end ws 0 n = subst (λ k. IsReadFirst end ws k n) none read in
      value_after d s t n (a64_result numbers w) (λ r is other. apart.0 r n is other (inl here)) (λ not_set. agree n (inr (not_set, inl here)))
  agree_after w ws d s t apart agree (inr some) n read =
      let there : IsReadFirst end ws (a64_skip w) n = subst (λ k. IsReadFirst end ws k n) some read in
      value_after d s t n (a64_result numbers w) (λ r is other. apart.0 r n is other (inr there)) (λ not_set. agree n (inr (not_set, inr there)))

  -- where words have led, behind the last
  abbrev Landed : ℕ × AState → ℕ × AState → Type 0
  Landed a b = Agree [] 0 a.1 b.1

  -- the row of a renamed word, where its operands are in their registers and the flags are the same
  row_alike : (may : Permission) (at : ℕ) (w : A64 ℕ) (ws : List (A64 ℕ)) (s t : AState) → t.nzcv ≡ s.nzcv → Agree (w ∷ ws) 0 s t
      → a64_row xregs may at (renamed g w) (value xregs t) t.nzcv ≡ a64_row numbers may at w (value numbers s) s.nzcv
  row_alike may at w ws s t flags agree =
      row-renamed g seventh first may at w (value xregs t) t.nzcv
      ∙ ap (λ f. a64_row numbers may at w (λ n. value xregs t (g n)) f) flags
      ∙ sym (row_same numbers s.nzcv (value numbers s) (λ n. value xregs t (g n)) may at w (operands_agree (a64_operands numbers w) (value numbers s) (λ n. value xregs t (g n)) (λ n among. agree n (inl among))))

  -- words over other registers mean the words
  words_kept : (may : Permission) (ws : List (A64 ℕ)) → AreApartBy g end ws → (at skip : ℕ) (s t : AState) → t.nzcv ≡ s.nzcv → Agree ws skip s t
      → Keeps lowered 1 0 (SameNext Landed) (a64_words numbers may at ws skip s) (a64_words xregs may at (map (renamed g) ws) skip t)
  words_kept may [] apart at skip s t flags agree = beside_keeps lowered sees-lowered 1 (SameNext Landed) {credit = 0} (give (both-go agree))
  words_kept may (w ∷ ws) apart at (suc skip) s t flags agree = words_kept may ws apart.1 (at + 4) skip s t flags agree
  words_kept may (w ∷ ws) apart at zero s t flags agree =
      let row = a64_row numbers may at w (value numbers s) s.nzcv in
      let on : Done → Tree (Next (ℕ × AState)) = λ d. a64_words numbers may (at + 4) ws (ahead d.distance) (after numbers (a64_result numbers w) d s) in
      let on' : Option XReg → Done → Tree (Next (ℕ × AState)) = λ o d. a64_words xregs may (at + 4) (map (renamed g) ws) (ahead d.distance) (after xregs o d t) in
      let both : Keeps lowered 1 0 (SameNext Landed) (Begins row then on) (Begins row then on' (option_map g (a64_result numbers w))) =
      keeps_then lowered sees-lowered 1 0 (SameWith (SkipsBy (a64_skip w))) Landed on (on' (option_map g (a64_result numbers w)))
      (λ d e same. subst (λ k. Keeps lowered 1 0 (SameNext Landed) (on d) (on' (option_map g (a64_result numbers w)) k)) same.0
      (words_kept may ws apart.1 (at + 4) (ahead d.distance) (after numbers (a64_result numbers w) d s) (after xregs (option_map g (a64_result numbers w)) d t)
      (flags_by (a64_result numbers w) d s t) (agree_after w ws d s t apart agree same.1)))
      (word_self (SkipsBy (a64_skip w)) row (row_skips numbers may at w (value numbers s) s.nzcv)) in
      subst (λ o. Keeps lowered 1 0 (SameNext Landed) (Begins row then on) (Begins (a64_row xregs may at (renamed g w) (value xregs t) t.nzcv) then on' o)) (sym (result-renamed g seventh first w))
      (subst (λ q. Keeps lowered 1 0 (SameNext Landed) (Begins row then on) (Begins q then on' (option_map g (a64_result numbers w)))) (sym (row_alike may at w ws s t flags agree)) both)

  -- ---- ends

  -- a register of x86 is in its home
  named : (s t : AState) (n : ℕ) → n < 20 → value numbers s n ≡ value xregs t (g n) → t.regs (g n).number ≡ s.regs n
  named s t n low same = grind (arith, nat_tests, zero_number n)

  -- behind the last word registers and flags of x86 are in their homes
  same_named : (s t : AState) → Agree [] 0 s t → SameNamed s t
  same_named s t agree n low = subst (λ k. t.regs k ≡ s.regs n) (naming.homes n low) (named s t n low (agree n (inl low)))

  -- and the other way round
  unnamed : (s t : AState) (n : ℕ) → n < 20 → t.regs (g n).number ≡ s.regs n → value numbers s n ≡ value xregs t (g n)
  unnamed s t n low same = grind (arith, nat_tests, zero_number n)

  -- the number that reads as 0 does so in its register
  both_zero : (s t : AState) (n : ℕ) → n ≡ 20 → value numbers s n ≡ value xregs t (g n)
  both_zero s t n is = grind (arith, nat_tests, zero_number n)

  -- at the start of a block that sets each temporary first, all that is read is in its register
  agree_start : (ws : List (A64 ℕ)) (s t : AState) → SetsFirst end ws → SameNamed s t → Agree ws 0 s t
  agree_start ws s t sets_first same n read =
      elim (cases_order n 20) [
        | inl is ↦ both_zero s t n is
        | inr rest ↦ elim rest [
          | inl low ↦ unnamed s t n low (subst (λ k. t.regs k ≡ s.regs n) (sym (naming.homes n low)) (same n low))
          | inr high ↦ absurd (sets_first n high read)
        ]
      ]

module _ (g : ℕ → XReg) (naming : IsNaming g) where
  -- both come to their results at once
  ended : {a b : Next (Left AState)} → SameNext (SameLeft SameNamed) a b → Keeps lowered 1 0 (SameNext (SameLeft SameNamed)) (Gives a) (Gives b)
  ended same = beside_keeps lowered sees-lowered 1 (SameNext (SameLeft SameNamed)) {credit = 0} (give same)

  -- an end leaves to the same target, where what it reads is in its register
  end_kept : (end : AEnd ℕ) (s t : AState) → Agree g naming end [] 0 s t → Keeps lowered 1 0 (SameNext (SameLeft SameNamed)) (a64_end numbers end s) (a64_end xregs (renamed_end g end) t)
  end_kept (ends.Goto a) s t agree = ended (both-go (refl, same_named g naming (ends.Goto a) s t agree))
  end_kept (ends.Branch r a b) s t agree =
      let same = agree r (inr (0, omega arith, refl)) in
      ended (both-go (ap (λ v. ToBlock (if v % 2 ^ 64 == 0 then b else a)) (sym same), same_named g naming (ends.Branch r a b) s t agree))
  end_kept (ends.Return r) s t agree =
      let same = agree r (inr (0, omega arith, refl)) in
      ended (both-go (ap (λ v. ToReturn (v % 2 ^ 64)) (sym same), same_named g naming (ends.Return r) s t agree))
  end_kept (ends.Indexed r table) s t agree =
      let same = agree r (inr (0, omega arith, refl)) in
      ended (both-go (ap (λ v. ToEntry table (v % 2 ^ 64)) (sym same), same_named g naming (ends.Indexed r table) s t agree))
  end_kept (ends.Stop kind) s t agree = ended both-stop

  -- a block over other registers means the block
  pub block_kept : (ws : List (A64 ℕ)) (end : AEnd ℕ) → SetsFirst end ws → AreApartBy g end ws → MeansNumbers ws end (map (renamed g) ws) (renamed_end g end)
  block_kept ws end sets_first apart may at s t flags same =
      keeps_then lowered sees-lowered 1 0 (Landed g naming end) (SameLeft SameNamed) (λ next. a64_end numbers end next.1) (λ next. a64_end xregs (renamed_end g end) next.1)
      (λ a b landed. end_kept end a.1 b.1 landed) (words_kept g naming end may ws apart at 0 s t flags (agree_start g naming end ws s t sets_first same))
