-- Atomic words, whose acts are exchanges.
use Rattle.std.proofs.Common.{◌≡◌, ℕ, Option, Some, sym, ◌∙◌, subst, inl, inr}
use Rattle.std.specs.Prelude.{◌⊎◌}
use Rattle.behavior.specs.Tree.{Tree, Next}
use Rattle.behavior.specs.Acts.{Permission, exchanges}
use Rattle.a64_code.specs.declared.instr.XReg.{XReg}
use Rattle.a64_code.specs.declared.instr.A64.{A64}
use Rattle.a64_code.specs.declared.instr.A64.TheVariants.{Cas, Swp, Ldadd, Ldclr, Ldeor, Ldset}
use Rattle.a64_table.specs.declared.state.A64State.{A64State}
use Rattle.a64_table.specs.declared.state.Done.{Done}
use Rattle.a64_table.specs.declared.rows.ARow.{ARow}
use Rattle.a64_table.specs.State.{xregs, value, held}
use Rattle.a64_table.specs.Rows.{gets, a64_written, a64_act, a64_result}
use Rattle.a64_table.specs.Answers.{shown}

-- the exchange of an atomic word
abbrev pub exchange_of : A64 XReg → A64State → Permission → (n : XReg) (size : ℕ) → Tree (Next Done)
exchange_of w s may n size =
    exchanges may s.at (value xregs (held s) n) size (a64_written w (value xregs (held s))) (λ old. gets old (held s).nzcv)

-- the answer of a word that does more than compute
abbrev pub acts_answer : A64 XReg → A64State → Permission → (read input : Option ℕ) → ARow
acts_answer w s may read input =
    shown (a64_result xregs w) s (a64_act xregs may s.at w (value xregs (held s)) (held s).nzcv) read input

module _ (s : A64State) (may : Permission) (read input : Option ℕ) (result : ARow) (n : XReg) (size : ℕ) where
  -- the exchange of a word is its answer, where both are told of the same word
  answer_of : (set : XReg) (w instr passed : A64 XReg) → instr ≡ w → passed ≡ instr
      → (result ≡ shown (Some set) s (exchange_of w s may n size) read input → result ≡ acts_answer w s may read input)
      → result ≡ shown (Some set) s (exchange_of passed s may n size) read input → result ≡ acts_answer instr s may read input
  answer_of set w instr passed is same here told =
      subst (λ i. result ≡ acts_answer i s may read input) (sym is)
      (here (subst (λ i. result ≡ shown (Some set) s (exchange_of i s may n size) read input) (same ∙ is) told))

  pub cas_answer : (set t : XReg) (instr : A64 XReg) → instr ≡ Cas size set t n
      → result ≡ shown (Some set) s (exchange_of (Cas size set t n) s may n size) read input → result ≡ acts_answer instr s may read input
  cas_answer set t instr is = answer_of set (Cas size set t n) instr (Cas size set t n) is (sym is) (λ h. h)

  pub atomic_answer : (set : XReg) (instr passed : A64 XReg)
      → ((x : XReg) × (instr ≡ Swp size x set n)) ⊎ (((x : XReg) × (instr ≡ Ldadd size x set n)) ⊎ (((x : XReg) × (instr ≡ Ldclr size x set n))
      ⊎ (((x : XReg) × (instr ≡ Ldeor size x set n)) ⊎ ((x : XReg) × (instr ≡ Ldset size x set n)))))
      → passed ≡ instr → result ≡ shown (Some set) s (exchange_of passed s may n size) read input → result ≡ acts_answer instr s may read input
  atomic_answer set instr passed (inl (x, is)) same = answer_of set (Swp size x set n) instr passed is same (λ h. h)
  atomic_answer set instr passed (inr (inl (x, is))) same = answer_of set (Ldadd size x set n) instr passed is same (λ h. h)
  atomic_answer set instr passed (inr (inr (inl (x, is)))) same = answer_of set (Ldclr size x set n) instr passed is same (λ h. h)
  atomic_answer set instr passed (inr (inr (inr (inl (x, is))))) same = answer_of set (Ldeor size x set n) instr passed is same (λ h. h)
  atomic_answer set instr passed (inr (inr (inr (inr (x, is))))) same = answer_of set (Ldset size x set n) instr passed is same (λ h. h)
