-- What the code's state and `row` say of a thread and its step.
use Rattle.std.proofs.Common.{◌≡◌, ◌≢◌, ℕ, ◌<◌, ◌==◌, Bool, true, false, List, [], ◌∷◌, ◌++◌, Option, Some, None, refl, sym, ap, ◌∙◌, subst, arith, inl, inr}
use Rattle.std.specs.Prelude.{if◌then◌else◌, slice_index, slice_set}
use Rattle.std.specs.List.{AllByRecursion}
use Rattle.std.proofs.lemmas.List.{append-nil, length-set, get_or-set_other}
use Rattle.std.proofs.lemmas.Grind.{get_or-set_at}
use Rattle.std.proofs.lemmas.Bool.{eqb-true}
use Rattle.ev_graph.specs.declared.events.Item.{Item}
use Rattle.ev_graph.specs.declared.rows.RowItems.{RowItems}
use Rattle.std.proofs.lemmas.Bool.Decides.{nat_tests}
use Rattle.behavior.specs.Tree.{Tree, At, Path, begins, gives, Next, Goes, Stops}
use Rattle.behavior.specs.Acts.{Permission, goes}
use Rattle.behavior.proofs.Paths.{path_at, path_then, path_stop}
use Rattle.a64_code.specs.declared.instr.XReg.{XReg}
use Rattle.a64_code.specs.declared.instr.A64.{A64}
use Rattle.a64_code.specs.declared.instr.A64.TheVariants.{Add, Sub, Subs, And, Orr, Eor, AddImm, SubImm, Movk, Lslv, Lsrv, Asrv, Rorv, Udiv, Sdiv, Madd, Msub, Smulh, Umulh, Ubfm, Sbfm, Csel, Csinc, Cbz, Cbnz, Ldr, Str, Cas, Swp, Ldadd, Ldclr, Ldeor, Ldset, Svc}
use Rattle.a64_code.specs.Ranges.{IsOperand, IsEncodable}
use Rattle.a64_table.specs.declared.state.A64State.{A64State}
use Rattle.a64_table.specs.declared.state.Done.{Done}
use Rattle.a64_table.specs.declared.rows.ANext.{ANext}
use Rattle.a64_table.specs.declared.rows.ANext.TheVariants as nexts
use Rattle.a64_table.specs.declared.rows.ARow.TheVariants as rows
use Rattle.a64_table.specs.declared.rows.FenceChoice.{FenceChoice}
use Rattle.a64_table.specs.State.{xregs, value, after, held, moved}
use Rattle.a64_table.specs.Rows.{a64_row, a64_operands, a64_result}
use Rattle.a64_table.specs.Answers.{Answer, NeedsRead, NeedsInput, Makes, answered, row_items, fence_choice, next_state, next_of, told, row_answer}
use Rattle.a64_table.specs.Laws.{FitsIn, read_size, row_tree}
use Rattle.a64_table.specs.Machine.{AThread, a64_take, Shows}
use Rattle.a64_table.proofs.RowLemmas.{rows_are_paths}
use Rattle.a64_table.proofs.OperandLemmas.{AgreeOn, row_same}

-- a register's value is the thread's
value_shown : (s : A64State) (t : AThread) (r : XReg) → Shows s t → IsOperand r → value xregs (held s) r ≡ value xregs t.state r
value_shown s t r shows operand = by (r.number == 31) refl operand
  where
    by : (b : Bool) → (r.number == 31) ≡ b → IsOperand r → (if b then 0 else slice_index s.regs r.number) ≡ (if b then 0 else t.state.regs r.number)
    by true e operand = refl
    by false e (inl named) = shows.each r.number (omega (arith, named.0))
    by false e (inr zero_register) = absurd (grind (arith, nat_tests))

-- the operands of a word in range are registers, or the zero register
operands_named : (w : A64 XReg) → IsEncodable w → AllByRecursion IsOperand (a64_operands xregs w)
operands_named (Add x d n m kind amount) range = (range.1, (range.2, tt))
operands_named (Sub x d n m kind amount) range = (range.1, (range.2, tt))
operands_named (Subs x d n m kind amount) range = (range.1, (range.2, tt))
operands_named (And x d n m kind amount) range = (range.1, (range.2, tt))
operands_named (Orr x d n m kind amount) range = (range.1, (range.2, tt))
operands_named (Eor x d n m kind amount) range = (range.1, (range.2, tt))
operands_named (AddImm x d n number) range = (inl range.1, tt)
operands_named (SubImm x d n number) range = (inl range.1, tt)
operands_named (Movk x d v quarter) range = (inl range.0, tt)
operands_named (Lslv x d n m) range = (range.1, (range.2, tt))
operands_named (Lsrv x d n m) range = (range.1, (range.2, tt))
operands_named (Asrv x d n m) range = (range.1, (range.2, tt))
operands_named (Rorv x d n m) range = (range.1, (range.2, tt))
operands_named (Udiv x d n m) range = (range.1, (range.2, tt))
operands_named (Sdiv x d n m) range = (range.1, (range.2, tt))
operands_named (Smulh d n m) range = (range.1, (range.2, tt))
operands_named (Umulh d n m) range = (range.1, (range.2, tt))
operands_named (Csel x d n m code) range = (range.1, (range.2, tt))
operands_named (Csinc x d n m code) range = (range.1, (range.2, tt))
operands_named (Madd x d n m a) range = (range.1, (range.2, (inl range.3, tt)))
operands_named (Msub x d n m a) range = (range.1, (range.2, (inl range.3, tt)))
operands_named (Ubfm x d n immr imms) range = (inl range.1, tt)
operands_named (Sbfm x d n immr imms) range = (inl range.1, tt)
operands_named (Cbz x t distance) range = (inl range.0, tt)
operands_named (Cbnz x t distance) range = (inl range.0, tt)
operands_named (Ldr size t n number) range = (inl range.2, tt)
operands_named (Str size t n number) range = (range.1, (inl range.2, tt))
operands_named (Cas size s t n) range = (inl range.1, (inl range.2, (inl range.3, tt)))
operands_named (Swp size s t n) range = (inl range.1, (inl range.3, tt))
operands_named (Ldadd size s t n) range = (inl range.1, (inl range.3, tt))
operands_named (Ldclr size s t n) range = (inl range.1, (inl range.3, tt))
operands_named (Ldeor size s t n) range = (inl range.1, (inl range.3, tt))
operands_named (Ldset size s t n) range = (inl range.1, (inl range.3, tt))
operands_named (Svc number) range = (inl (omega arith, λ e. absurd (omega (arith, e))), tt)
operands_named w range = tt

all_shown : (s : A64State) (t : AThread) → Shows s t → (xs : List XReg) → AllByRecursion IsOperand xs → AgreeOn (value xregs (held s)) (value xregs t.state) xs
all_shown s t shows [] named = tt
all_shown s t shows (x ∷ xs) named = (value_shown s t x shows named.0, all_shown s t shows xs named.1)

-- the tree of a word in range is that of the thread
pub row_shown : (s : A64State) (t : AThread) (w : A64 XReg) (may : Permission) → Shows s t → IsEncodable w
    → row_tree w s may ≡ a64_row xregs may t.at w (value xregs t.state) t.state.nzcv
row_shown s t w may shows range =
    ap (λ at. a64_row xregs may at w (value xregs (held s)) (held s).nzcv) (sym shows.at)
    ∙ ap (λ f. a64_row xregs may t.at w (value xregs (held s)) f) shows.flags
    ∙ row_same xregs t.state.nzcv (value xregs (held s)) (value xregs t.state) may t.at w (all_shown s t shows (a64_operands xregs w) (operands_named w range))

-- ---- the next state

-- where a thread stands after a word
abbrev pub thread_after : Option XReg → Done → AThread → AThread
thread_after set d t = record { at = moved t.at d.distance; state = after xregs set d t.state }

pub next_shown : (s : A64State) (t : AThread) (set : Option XReg) (d : Done) → Shows s t → Shows (next_state set d s) (thread_after set d t)
next_shown s t None d shows = record {
  at = ap (λ at. moved at d.distance) shows.at;
  each = shows.each;
  flags = refl;
  all = shows.all;
}
next_shown s t (Some r) d shows = record {
  at = ap (λ at. moved at d.distance) shows.at;
  each = λ n lt. by n lt (n == r.number) refl;
  flags = refl;
  all = length-set s.regs r.number d.value ∙ shows.all;
}
  where
    by : (n : ℕ) → n < 31 → (b : Bool) → (n == r.number) ≡ b → slice_index (slice_set s.regs r.number d.value) n ≡ (if b then d.value else t.state.regs n)
    by n lt true e =
        let same = eqb-true n r.number e in
        get_or-set_at s.regs r.number n d.value 0 same (omega (arith, same, lt, shows.all))
    by n lt false e =
        let other : n ≢ r.number = (λ same. absurd (grind (arith, nat_tests))) in
        get_or-set_other s.regs r.number n d.value 0 other ∙ shows.each n lt

-- ---- a step, by what `row` answers

-- where the code's answer leads is where the thread's step leads
abbrev pub ShowsNext : ANext → Next AThread → Type 0
ShowsNext (nexts.State s) (Goes t) = Shows s t
ShowsNext (nexts.End end) (Stops end') = end ≡ end'
ShowsNext next out = ⊥

-- a step of a thread that makes what was answered, and leads where it says
pub record Steps (may : Permission) (w : A64 XReg) (t : AThread) (made : RowItems) (fence : FenceChoice) (next : ANext) : Type 0 where
  pub is : List Item
  pub out : Next AThread
  pub path : Path (a64_take may (Some w) t) is (At out) 1
  pub items : row_items is ≡ made
  pub barrier : fence_choice is ≡ fence
  pub shows : ShowsNext next out

-- what makes an answer that all is made
record DoneBy (set : Option XReg) (s : A64State) (a : Answer Done) (made : RowItems) (fence : FenceChoice) (next : ANext) : Type 0 where
  is : List Item
  leads : Next Done
  answer : a ≡ Makes is leads
  items : row_items is ≡ made
  barrier : fence_choice is ≡ fence
  there : next_of set s leads ≡ next

told_done : (set : Option XReg) (s : A64State) (a : Answer Done) (made : RowItems) (fence : FenceChoice) (next : ANext) → told set s a ≡ rows.Done made fence next → DoneBy set s a made fence next
told_done set s (NeedsRead wanted) made fence next e = absurd (cc)
told_done set s NeedsInput made fence next e = absurd (cc)
told_done set s (Makes is leads) made fence next e = record { is = is; leads = leads; answer = refl; items = cc; barrier = cc; there = cc }

-- the path of the step behind that of the row
stepped : (may : Permission) (w : A64 XReg) (s : A64State) (t : AThread) (is : List Item) (leads : Next Done) → Shows s t
    → Path (a64_row xregs may t.at w (value xregs t.state) t.state.nzcv) is (At leads) 0
    → (out : Next AThread) × Path (a64_take may (Some w) t) is (At out) 1 × ShowsNext (next_of (a64_result xregs w) s leads) out
stepped may w s t is (Goes d) shows path =
    let there : Next AThread = Goes (thread_after (a64_result xregs w) d t) in
    let on : Done → Tree (Next AThread) = λ d. goes (thread_after (a64_result xregs w) d t) in
    (there, path_at (is ++ []) is 1 1 (append-nil is) refl (begins (path_then on path gives)), next_shown s t (a64_result xregs w) d shows)
stepped may w s t is (Stops end) shows path =
    let on : Done → Tree (Next AThread) = λ d. goes (thread_after (a64_result xregs w) d t) in
    (Stops end, begins (path_stop on path), refl)

-- where `row` answers that all is made, the thread makes it in a step
pub row_steps : (s : A64State) (t : AThread) (w : A64 XReg) (may : Permission) (read input : Option ℕ) (made : RowItems) (fence : FenceChoice) (next : ANext)
    → Shows s t → IsEncodable w → FitsIn (read_size w) read → FitsIn 8 input → row_answer w s may read input ≡ rows.Done made fence next → Steps may w t made fence next
row_steps s t w may read input made fence next shows range fits fits' e =
    let by = told_done (a64_result xregs w) s (answered (row_tree w s may) read input []) made fence next e in
    let here = (rows_are_paths w s may).made read input fits fits' by.is by.leads by.answer in
    let there = subst (λ tree. Path tree by.is (At by.leads) 0) (row_shown s t w may shows range) here in
    let step = stepped may w s t by.is by.leads shows there in
    record {
      is = by.is;
      out = step.0;
      path = step.1;
      items = by.items;
      barrier = by.barrier;
      shows = subst (λ n. ShowsNext n step.0) by.there step.2;
    }
