-- How the row of an instruction leaves: where a path goes on from it.
use Rattle.std.proofs.Common.{◌≡◌, ℕ, zero, ◌+◌, ◌%◌, ◌^◌, ◌&&◌, Bool, true, false, List, [], ◌∷◌, Option, Some, Result, Ok, Err, refl, sym, ap, ◌∙◌, subst, arith, ◌⊎◌, inl, inr}
use Rattle.std.specs.List.{AllByRecursion}
use Rattle.alu_width.specs.declared.operations.Quotient.{Quotient}
use Rattle.alu_width.specs.declared.operations.DivFault.{DivFault}
use Rattle.ev_graph.specs.Places.{StandsIn}
use Rattle.ev_graph.specs.declared.events.AccessKind.TheVariants as kinds
use Rattle.ev_graph.specs.declared.events.TrapKind.TheVariants.{BadAccess}
use Rattle.behavior.specs.Tree.{Tree, Gives, Begins, Acts, Next, Goes, Stops}
use Rattle.behavior.specs.Acts.{Permission, access, makes, reads, writes, exchanges, locked_write, traps}
use Rattle.x64_syntax.specs.declared.instr.AluOp.{AluOp}
use Rattle.x64_syntax.specs.declared.instr.AluOp.TheVariants as op
use Rattle.x64_syntax.specs.declared.instr.Instr.{Instr}
use Rattle.x64_syntax.specs.declared.instr.Instr.TheVariants as instr
use Rattle.x64_syntax.specs.declared.operand.Operand.{Operand}
use Rattle.x64_syntax.specs.declared.operand.Operand.TheVariants as operand
use Rattle.x64_syntax.specs.declared.operand.Width.{Width}
use Rattle.x64_syntax.specs.declared.operand.Width.TheVariants as width
use Rattle.x64_syntax.specs.declared.placed.Flow.{Flow}
use Rattle.x64_syntax.specs.declared.placed.Flow.TheVariants as flow
use Rattle.x64_syntax.specs.declared.placed.Placed.{Placed}
use Rattle.x64_table.specs.State.{Thread, bytes, register, rax, address, with_flags, jumped, pushed, below_stack}
use Rattle.x64_table.specs.Outcomes.{alu_outcome}
use Rattle.x64_syntax.specs.Operands.{bits}
use Rattle.x64_table.specs.Rows.{Exit, State, Return, Indexed, Row, leaves, compared, acts, row_of, fetches, stores, changes, called, call_row, jmp_row, table_row, alu_row, combine_row, compare_row, xchg_row, xadd_row, cmpxchg_row, exchanged, address_of, mul_row, div_row, divided, imul_row, shift_row, push_row, pop_row, leave_row}
use Rattle.elf_read.specs.Elf.{IsSegment}
use Rattle.code_at.specs.Code.{Program, target_from}
use Rattle.code_at.proofs.CallerLemmas.{ends_low}
use Rattle.cfg_walk.specs.declared.code.Code.{Code}
use Rattle.cfg_walk.specs.Reach.{IsPlaced, after, end_of, successors}
use Rattle.cfg_walk.specs.Code.{IsCodeOf}
use Rattle.cfg_walk.proofs.CallerLemmas.{row_of_placed}
use Rattle.cfg_walk.proofs.Results.{AllNext, next_choice}
use Rattle.cfg_walk.proofs.RowExits.{LeavesTo, jumped_at, pushed_at}
use Rattle.flag_use.specs.Paths.{follows, returns}

-- a row leaves otherwise than by a return
abbrev pub NoReturn : Next Exit → Type 0
NoReturn (Goes (Return t v)) = ⊥
NoReturn n = Unit {0}

-- what is weaker holds of the results too
all_weaker : {S : Type 0} (P Q : Next S → Type 0) → ((n : Next S) → P n → Q n) → (t : Tree (Next S)) → AllNext P t → AllNext Q t
all_weaker P Q weaker (Gives n) all = weaker n all
all_weaker P Q weaker (Begins t) all = all_weaker P Q weaker t all
all_weaker P Q weaker (Acts range made next) all = λ v lt. all_weaker P Q weaker (next v) (all v lt)

-- what holds of the results of a tree in two ways
both : {S : Type 0} (P Q R : Next S → Type 0) → ((n : Next S) → P n → Q n → R n) → (t : Tree (Next S))
    → AllNext P t → AllNext Q t → AllNext R t
both P Q R join (Gives n) one other = join n one other
both P Q R join (Begins t) one other = both P Q R join t one other
both P Q R join (Acts range made next) one other = λ v lt. both P Q R join (next v) (one v lt) (other v lt)

-- ---- rows that do not return

module _ (may : Permission) (place : ℕ) where
  abbrev pub Stays : Row → Type 0
  Stays row = AllNext NoReturn row

  reads_stays : (a size : ℕ) (go : ℕ → Row) → ((v : ℕ) → Stays (go v)) → Stays (reads may place a size go)
  reads_stays a size go later =
      next_choice NoReturn (may false a size) (Acts (256 ^ size) (λ v. access kinds.Read false place a size v ∷ []) go)
      (traps BadAccess) (λ v lt. later v) tt

  writes_stays : (a size value : ℕ) (go : Row) → Stays go → Stays (writes may place a size value go)
  writes_stays a size value go later =
      next_choice NoReturn (may true a size) (makes (access kinds.Write false place a size (value % 256 ^ size)) go)
      (traps BadAccess) (λ v lt. later) tt

  exchanges_stays : (a size : ℕ) (new : ℕ → Option ℕ) (go : ℕ → Row) → ((v : ℕ) → Stays (go v)) → Stays (exchanges may place a size new go)
  exchanges_stays a size new go later =
      next_choice NoReturn (may false a size && may true a size)
      (Acts (256 ^ size) (λ v. access kinds.Read true place a size v ∷ locked_write place a size (new v)) go)
      (traps BadAccess) (λ v lt. later v) tt

  fetches_stays : (w : Width) (o : Operand) (t : Thread) (go : ℕ → Row) → ((v : ℕ) → Stays (go v)) → Stays (fetches may place w o t go)
  unfolding fetches
  fetches_stays w (operand.Reg r) t go later = later _
  fetches_stays w (operand.Mem m) t go later = reads_stays (address m t) (bytes w) go later
  fetches_stays w (operand.Imm n) t go later = later n

  stores_stays : (w : Width) (o : Operand) (t : Thread) (v : ℕ) (after : Thread) → Stays (stores may place w o t v after)
  unfolding stores
  stores_stays w (operand.Reg r) t v after = tt
  stores_stays w (operand.Mem m) t v after = writes_stays (address m t) (bytes w) v _ tt
  stores_stays w (operand.Imm n) t v after = tt

  changes_stays : (locked : Bool) (w : Width) (o : Operand) (t : Thread) (new : ℕ → ℕ) (after : ℕ → Thread)
      → Stays (changes may place locked w o t new after)
  unfolding changes
  changes_stays true w (operand.Mem m) t new after =
      exchanges_stays (address m t) (bytes w) (λ v. Some (new v)) (λ v. leaves (after v)) (λ v. tt)
  changes_stays true w (operand.Reg r) t new after =
      fetches_stays w (operand.Reg r) t _ (λ v. stores_stays w (operand.Reg r) t (new v) (after v))
  changes_stays true w (operand.Imm n) t new after =
      fetches_stays w (operand.Imm n) t _ (λ v. stores_stays w (operand.Imm n) t (new v) (after v))
  changes_stays false w o t new after = fetches_stays w o t _ (λ v. stores_stays w o t (new v) (after v))

  compare_stays : (o : AluOp) (w : Width) (to from : Operand) (t : Thread) → Stays (compare_row may place o w to from t)
  unfolding compare_row
  compare_stays o w to from t = fetches_stays w to t _ (λ a. fetches_stays w from t _ (λ b. tt))

  combine_stays : (o : AluOp) (w : Width) (to from : Operand) (locked : Bool) (t : Thread)
      → Stays (combine_row may place o w to from locked t)
  unfolding combine_row
  combine_stays o w to from locked t = fetches_stays w from t _ (λ b. changes_stays locked w to t _ _)

  alu_stays : (o : AluOp) (w : Width) (to from : Operand) (locked : Bool) (t : Thread) → Stays (alu_row may place o w to from locked t)
  unfolding alu_row
  alu_stays op.Cmp w to from locked t = compare_stays op.Cmp w to from t
  alu_stays o w to from locked t = combine_stays o w to from locked t

  divided_stays : (w : Width) (r : Result Quotient DivFault) (t : Thread) → NoReturn (divided may place w r t)
  divided_stays w (Ok q) t = tt
  divided_stays w (Err fault) t = tt

  call_stays : (f : Flow) (d : ℕ) (t : Thread) → Stays (call_row may place f d t)
  unfolding call_row called
  call_stays flow.Plain d t = writes_stays (below_stack t) 8 t.at _ tt
  call_stays flow.ListedIn d t = writes_stays (below_stack t) 8 t.at _ (λ v lt. tt)
  call_stays flow.ListedOut d t = writes_stays (below_stack t) 8 t.at _ (λ v lt. tt)
  call_stays flow.TableJump d t = writes_stays (below_stack t) 8 t.at _ tt

  jump_stays : (f : Flow) (d : ℕ) (t : Thread) → returns (instr.Jmp d) f ≡ false → Stays (jmp_row may place f d t)
  unfolding jmp_row
  jump_stays flow.Plain d t none = tt
  jump_stays flow.ListedIn d t none = absurd (cc)
  jump_stays flow.ListedOut d t none = absurd (cc)
  jump_stays flow.TableJump d t none = tt

  table_stays : (f : Flow) (to : Operand) (t : Thread) → Stays (table_row may place f to t)
  unfolding table_row
  table_stays flow.Plain to t = tt
  table_stays flow.ListedIn to t = tt
  table_stays flow.ListedOut to t = tt
  table_stays flow.TableJump to t = tt

  pub acts_stays : (i : Instr) (f : Flow) (t : Thread) → returns i f ≡ false → Stays (acts may place i f t)
  unfolding acts xchg_row xadd_row cmpxchg_row mul_row div_row imul_row shift_row push_row pop_row leave_row
  acts_stays (instr.Alu o w to from locked) f t none = alu_stays o w to from locked t
  acts_stays (instr.Test w to from) f t none = compare_stays op.And w to from t
  acts_stays (instr.Xchg w to from locked) f t none = changes_stays locked w to t _ _
  acts_stays (instr.Mov w to from) f t none = fetches_stays w from t _ (λ v. stores_stays w to t v t)
  acts_stays (instr.Lea w to from) f t none = tt
  acts_stays (instr.MovZx w v to from) f t none = fetches_stays v from t _ (λ a. tt)
  acts_stays (instr.MovSx w v to from) f t none = fetches_stays v from t _ (λ a. tt)
  acts_stays (instr.MovSxd to from) f t none = fetches_stays width.Long from t _ (λ a. tt)
  acts_stays (instr.Push from) f t none = fetches_stays width.Quad from t _ (λ v. writes_stays (below_stack t) 8 v _ tt)
  acts_stays (instr.Pop to) f t none = reads_stays _ 8 _ (λ v. stores_stays width.Quad to _ v _)
  acts_stays instr.Leave f t none = reads_stays _ 8 _ (λ v. tt)
  acts_stays instr.Ret f t none = absurd (cc)
  acts_stays (instr.Call d) f t none = call_stays f d t
  acts_stays (instr.Jmp d) f t none = jump_stays f d t none
  acts_stays (instr.CallInd to) f t none = tt
  acts_stays (instr.JmpInd to) f t none = table_stays f to t
  acts_stays (instr.Jcc c d) f t none = tt
  acts_stays (instr.SetCc c to) f t none = stores_stays width.Byte to t _ t
  acts_stays (instr.CmovCc c w to from) f t none = fetches_stays w from t _ (λ v. tt)
  acts_stays (instr.Inc w to locked) f t none = changes_stays locked w to t _ _
  acts_stays (instr.Dec w to locked) f t none = changes_stays locked w to t _ _
  acts_stays (instr.Not w to locked) f t none = changes_stays locked w to t _ _
  acts_stays (instr.Neg w to) f t none = changes_stays false w to t _ _
  acts_stays (instr.Mul w from) f t none = fetches_stays w from t _ (λ b. tt)
  acts_stays (instr.ImulOne w from) f t none = fetches_stays w from t _ (λ b. tt)
  acts_stays (instr.Div w from) f t none = fetches_stays w from t _ (λ d. divided_stays w _ t)
  acts_stays (instr.Idiv w from) f t none = fetches_stays w from t _ (λ d. divided_stays w _ t)
  acts_stays (instr.ImulTwo w to from) f t none = fetches_stays w to t _ (λ a. fetches_stays w from t _ (λ b. tt))
  acts_stays (instr.ImulThree w to from by) f t none = fetches_stays w from t _ (λ a. fetches_stays w by t _ (λ b. tt))
  acts_stays (instr.Shift o w to by) f t none = fetches_stays width.Byte by t _ (λ count. changes_stays false w to t _ _)
  acts_stays (instr.Widen w) f t none = tt
  acts_stays (instr.SignFill w) f t none = tt
  acts_stays (instr.Cmpxchg w to from locked) f t none = exchanges_stays (address_of to t) (bytes w) (exchanged may place w from t)
      (λ v. leaves (with_flags (alu_outcome op.Cmp (bits w) (register w rax t) v t.flags).flags (compared may place w t v))) (λ v. tt)
  acts_stays (instr.Xadd w to from locked) f t none = changes_stays locked w to t _ _
  acts_stays instr.Nop f t none = tt
  acts_stays instr.Pause f t none = tt
  acts_stays instr.Endbr f t none = tt
  acts_stays instr.Mfence f t none = λ v lt. tt
  acts_stays instr.Ud2 f t none = tt

-- ---- how rows leave

-- an instruction with this flow and end leaves to where a path goes on, by a return only if it returns
abbrev pub ExitsOf : Instr → Flow → (end : ℕ) → Next Exit → Type 0
ExitsOf i f end (Goes (State t)) = StandsIn (follows i f end) t.at
ExitsOf i f end (Goes (Return t v)) = returns i f ≡ true
ExitsOf i f end (Goes (Indexed t k)) = ⊥
ExitsOf i f end (Stops reason) = Unit {0}

-- a call that is not listed goes to its target alone
call_exits : (may : Permission) (place d : ℕ) (t : Thread)
    → AllNext (ExitsOf (instr.Call d) flow.Plain t.at) (acts may place (instr.Call d) flow.Plain t)
unfolding acts call_row called
call_exits may place d t =
    let at : (jumped d (pushed t)).at ≡ target_from t.at d = jumped_at d (pushed t) ∙ ap (λ a. (a + d) % 2 ^ 64) (pushed_at t) in
    let Exits : Next Exit → Type 0 = ExitsOf (instr.Call d) flow.Plain t.at in
    next_choice Exits (may true (below_stack t) 8)
    (makes (access kinds.Write false place (below_stack t) 8 (t.at % 256 ^ 8)) (leaves (jumped d (pushed t))))
    (traps BadAccess) (λ v lt. (zero, ap (λ (a : ℕ). Some a) (sym at))) tt

-- any other instruction goes to its successors
call_or_not : (i : Instr) (f : Flow) → ((d : ℕ) × (i ≡ instr.Call d) × (f ≡ flow.Plain)) ⊎ ((end : ℕ) → follows i f end ≡ after i f end)
call_or_not (instr.Call d) flow.Plain = inl (d, refl, refl)
call_or_not i f = inr (λ end. refl)

module _ (i : Instr) (f : Flow) (end : ℕ) (same : follows i f end ≡ after i f end) where
  abbrev Leads : Next Exit → Type 0
  Leads = LeavesTo (λ a. StandsIn (after i f end) a)

  returning : returns i f ≡ true → (n : Next Exit) → Leads n → ExitsOf i f end n
  returning back (Goes (State t)) leads = subst (λ (l : List ℕ). StandsIn l t.at) (sym same) leads
  returning back (Goes (Return t v)) leads = back
  returning back (Goes (Indexed t k)) leads = leads
  returning back (Stops reason) leads = tt

  staying : (n : Next Exit) → Leads n → NoReturn n → ExitsOf i f end n
  staying (Goes (State t)) leads state = subst (λ (l : List ℕ). StandsIn l t.at) (sym same) leads
  staying (Goes (Return t v)) leads state = absurd state
  staying (Goes (Indexed t k)) leads state = absurd leads
  staying (Stops reason) leads state = tt

-- the row of a placed instruction
pub row_exits : (program : Program) (code : Code) → AllByRecursion IsSegment program.parts → IsCodeOf program code
    → (p : Placed) → IsPlaced program p → (may : Permission) (s : Thread) → s.at ≡ p.address
    → AllNext (ExitsOf p.instr p.flow (end_of p)) (row_of may p.instr p.length p.flow s)
unfolding row_of
row_exits program code segments is p placed may s level =
    elim (call_or_not p.instr p.flow) [
      | inl call ↦ calls call.0 call.1 call.2
      | inr same ↦ by_test (same (end_of p)) (row_of_placed program code segments is p placed may s level) (returns p.instr p.flow) refl
    ]
  where
    next : Thread
    next = record s { at = (s.at + p.length) % 2 ^ 64 }

    end : next.at ≡ end_of p
    end = let low = ends_low program p.address p segments placed.stands in omega (arith, low, level)

    RowExits : Instr → Flow → Type 0
    RowExits i f = AllNext (ExitsOf i f (end_of p)) (acts may s.at i f next)

    calls : (d : ℕ) → p.instr ≡ instr.Call d → p.flow ≡ flow.Plain → RowExits p.instr p.flow
    calls d i f =
        let there : RowExits (instr.Call d) flow.Plain =
        subst (λ e. AllNext (ExitsOf (instr.Call d) flow.Plain e) (acts may s.at (instr.Call d) flow.Plain next)) end
        (call_exits may s.at d next) in
        subst (λ f. RowExits p.instr f) (sym f) (subst (λ i. RowExits i flow.Plain) (sym i) there)

    by_test : follows p.instr p.flow (end_of p) ≡ after p.instr p.flow (end_of p)
        → AllNext (LeavesTo (λ a. StandsIn (successors p) a)) (acts may s.at p.instr p.flow next)
        → (b : Bool) → returns p.instr p.flow ≡ b → RowExits p.instr p.flow
    by_test same leads true back =
        all_weaker (LeavesTo (λ a. StandsIn (successors p) a)) (ExitsOf p.instr p.flow (end_of p))
        (returning p.instr p.flow (end_of p) same back) (acts may s.at p.instr p.flow next) leads
    by_test same leads false stay =
        both (LeavesTo (λ a. StandsIn (successors p) a)) NoReturn (ExitsOf p.instr p.flow (end_of p))
        (staying p.instr p.flow (end_of p) same) (acts may s.at p.instr p.flow next) leads (acts_stays may s.at p.instr p.flow next stay)
