-- The steps of what uses the stack, of a fence and of instructions that do nothing do what their rows do.
use Rattle.std.proofs.Common.{◌≡◌, ℕ, ◌+◌, ◌-◌, ◌%◌, ◌^◌, ◌<◌, ◌⊎◌, inl, inr, [], refl, ap, ◌∙◌, arith}
use Rattle.ev_graph.specs.declared.events.FenceKind.TheVariants.{Mfence, Fsc}
use Rattle.behavior.specs.Tree.{Tree, Next, ◌then◌}
use Rattle.behavior.specs.Acts.{Permission, goes, reads, writes}
use Rattle.behavior.specs.Leaving.{Left, SameLeft, ToReturn}
use Rattle.behavior.specs.Kept.{both-go, both-stop}
use Rattle.behavior.specs.Seen.{placed_full}
use Rattle.behavior.proofs.Beside.{give}
use Rattle.behavior.proofs.ActsLemmas.{beside_fences}
use Rattle.x64_syntax.specs.Formed.{IsRegister, IsStored, IsNumber}
use Rattle.x64_syntax.specs.declared.instr.Instr.{Instr}
use Rattle.x64_syntax.specs.declared.instr.Instr.TheVariants as instr
use Rattle.x64_syntax.specs.declared.operand.Operand.{Operand}
use Rattle.x64_syntax.specs.declared.operand.Width.TheVariants as width
use Rattle.x64_table.specs.State.{Thread, register, set, rsp, rbp, below_stack, pushed, popped}
use Rattle.x64_table.specs.Rows.{Row, Return, push_row, pop_row, leave_row, returns, leaves, acts}
use Rattle.x64_table.specs.Rows as rows
use Rattle.limm_ir.specs.Steps.{IrState}
use Rattle.limm_ir.specs.Costs.{no_cost}
use Rattle.limm_ir.specs.Blocks.{ir_block}
use Rattle.limm_ir.specs.declared.block.IrEnd.{IrEnd}
use Rattle.limm_ir.specs.declared.block.IrEnd.TheVariants as ends
use Rattle.limm_ir.specs.declared.step.IrOp.TheVariants as ops
use Rattle.lift_alu.specs.Formulas.{Formula, Kept, Number, Register, Operation, temp, value, Lifting, done, keeps, sets_register, stores}
use Rattle.lift_alu.specs.Operands.{clean, register_formula, merged_formula}
use Rattle.lift_alu.specs.Lifted.{puts, moves, pushes, pops, leaves_frame, kept_in, lifts}
use Rattle.lift_alu.specs.Meant.{SameThread}
use Rattle.lift_alu.proofs.OperandValues.{value_register}
use Rattle.lift_alu.proofs.Computed.{IsKeptBelow}
use Rattle.lift_alu.proofs.Rules.{Does, Later, Holds, holds_later, keeps_does, loads_does, stores_does}
use Rattle.lift_alu.proofs.OperandRules.{IsFetched, fetched_stored, fetched_number, low_of_fit, fetches_does, moves_does, ends_does, puts_does}
use Rattle.lift_alu.proofs.Instructions.{low_register, Follows, Means}

-- RSP and RBP are registers
is_rsp : IsRegister width.Quad rsp
is_rsp = low_register width.Quad rsp refl (omega arith)

is_rbp : IsRegister width.Quad rbp
is_rbp = low_register width.Quad rbp refl (omega arith)

-- the stack and the frame, as the steps see them
pub stack_is : (t : Thread) (s : IrState) → SameThread t s → s.regs 4 ≡ register width.Quad rsp t
unfolding register_formula clean
stack_is t s same = value_register t s width.Quad rsp same is_rsp

-- and the frame
frame_is : (t : Thread) (s : IrState) → SameThread t s → s.regs 5 ≡ register width.Quad rbp t
unfolding register_formula clean
frame_is t s same = value_register t s width.Quad rbp same is_rbp

-- addresses of the stack fit
above_fits : (a : ℕ) → (a + 8) % 2 ^ 64 < 2 ^ 64
above_fits a = omega arith

pub below_fits : (a : ℕ) → (a + (2 ^ 64 - 8)) % 2 ^ 64 < 2 ^ 64
below_fits a = omega arith

module _ (may : Permission) (table place after temps : ℕ) (fits : after < 2 ^ 64) where
  -- an instruction of this place
  abbrev Here : Instr → Type 0
  Here i = Means may table place after temps i

  -- the stack begins elsewhere, or the frame
  pub sets_stack : (end : IrEnd) (q : Tree (Next (Left Thread))) (t : Thread) (n : ℕ) (j : IrState) (e : Formula) (v : ℕ) (rest : Lifting) → SameThread t j → IsKeptBelow n e → value j e ≡ v → v < 2 ^ 64
      → Later may end q (set width.Quad rsp v t) n j rest → Does may end q (sets_register 4 e rest n) j
  unfolding puts merged_formula
  sets_stack end q t n j e v rest same kept is fit go = puts_does may end q t n j width.Quad rsp e v rest same is_rsp kept (is ∙ low_of_fit width.Quad v fit) go

  -- and the frame too
  sets_frame : (end : IrEnd) (q : Tree (Next (Left Thread))) (t : Thread) (n : ℕ) (j : IrState) (e : Formula) (v : ℕ) (rest : Lifting) → SameThread t j → IsKeptBelow n e → value j e ≡ v → v < 2 ^ 64
      → Later may end q (set width.Quad rbp v t) n j rest → Does may end q (sets_register 5 e rest n) j
  unfolding puts merged_formula
  sets_frame end q t n j e v rest same kept is fit go = puts_does may end q t n j width.Quad rbp e v rest same is_rbp kept (is ∙ low_of_fit width.Quad v fit) go

  -- PUSH
  pub push_means : (from : Operand) → IsStored width.Quad from ⊎ IsNumber width.Quad from → Here (instr.Push from)
  unfolding acts lifts push_row pushes below_stack pushed set
  push_means from formed f t s at same =
      let end = ends.Goto after in
      let follows = Follows may table in
      let below = below_stack t in
      fetches_does may place after fits follows end width.Quad from t temps s (λ v. writes may place below 8 v (leaves (pushed t)))
      (λ v. keeps (Operation ops.Sub (Register 4) (Number 8)) (λ b. stores place 8 (kept_in b) (kept_in v) (sets_register 4 b done))) same (fetched formed) at
      (λ v fit k n1 i1 same1 later1 held.
      keeps_does may end (writes may place below 8 v (leaves (pushed t)) then follows) t n1 i1 (Operation ops.Sub (Register 4) (Number 8)) below
      (λ b. stores place 8 (kept_in b) k (sets_register 4 b done)) same1 (tt, tt) (ap (λ a. (a + (2 ^ 64 - 8)) % 2 ^ 64) (stack_is t i1 same1))
      (λ b n2 i2 same2 later2 there.
      stores_does may end follows (leaves (pushed t)) n2 i2 place 8 b k below v (sets_register 4 (Kept b) done) there (holds_later later2 held)
      (sets_stack end (leaves (pushed t) then follows) t n2 i2 (Kept b) below done same2 there.below there.is (below_fits (register width.Quad rsp t))
      (λ n3 i3 same3 later3. ends_does may place after fits table (pushed t) i3 at same3))))
    where
      fetched : IsStored width.Quad from ⊎ IsNumber width.Quad from → IsFetched width.Quad from
      fetched (inl is) = fetched_stored width.Quad from is
      fetched (inr is) = fetched_number width.Quad from is

  -- what stands on the stack is read, and the stack is one value shorter
  pops_does : (end : IrEnd) (t : Thread) (s : IrState) (go : ℕ → Row) (rest : Formula → Lifting) → SameThread t s
      → ((v : ℕ) → v < 2 ^ 64 → (n : ℕ) (j : IrState) → SameThread (popped t) j → Holds n j (temps + 1) v → Does may end (go v then Follows may table) (rest (Kept (temps + 1)) n) j)
      → Does may end (reads may place (register width.Quad rsp t) 8 go then Follows may table) (pops place after rest temps) s
  unfolding pops popped set
  pops_does end t s go rest same here =
      let follows = Follows may table in
      loads_does may end follows go t temps s place 8 (Register 4) (register width.Quad rsp t) (λ v. sets_register 4 (Operation ops.Add (Register 4) (Number 8)) (rest v)) same tt (stack_is t s same)
      (λ v fit n1 i1 same1 later1 held.
      sets_stack end (go v then follows) t n1 i1 (Operation ops.Add (Register 4) (Number 8)) ((register width.Quad rsp t + 8) % 2 ^ 64) (rest (Kept (temps + 1))) same1 (tt, tt)
      (ap (λ a. (a + 8) % 2 ^ 64) (stack_is t i1 same1)) (above_fits (register width.Quad rsp t))
      (λ n2 i2 same2 later2. here v fit n2 i2 same2 (holds_later later2 held)))

  -- POP
  pub pop_means : (to : Operand) → IsStored width.Quad to → Here (instr.Pop to)
  unfolding acts lifts pop_row popped set
  pop_means to formed f t s at same =
      pops_does (ends.Goto after) t s (λ v. rows.stores may place width.Quad to (popped t) v (popped t)) (λ v. moves place after width.Quad to v done) same
      (λ v fit n j same' held. moves_does may place after fits table width.Quad to (popped t) n j (temps + 1) v same' formed at held fit)

  -- what is popped is the address to return to
  pub returns_does : (t : Thread) (s : IrState) → SameThread t s
      → Does may (ends.Return (temp (temps + 1))) (returns may place t then Follows may table) (pops place after (λ v. done) temps) s
  unfolding returns
  returns_does t s same =
      pops_does (ends.Return (temp (temps + 1))) t s (λ v. goes (Return (popped t) v)) (λ v. done) same
      (λ v fit n j same' held. give (both-go (ap ToReturn held.is, same')))

  -- RET
  pub ret_means : Here instr.Ret
  unfolding acts lifts
  ret_means f t s at same = returns_does t s same

  -- LEAVE
  pub leave_means : Here instr.Leave
  unfolding acts lifts leave_row leaves_frame set
  leave_means f t s at same =
      let end = ends.Goto after in
      let follows = Follows may table in
      let old = register width.Quad rbp t in
      let shorter = set width.Quad rsp ((old + 8) % 2 ^ 64) t in
      loads_does may end follows (λ v. leaves (set width.Quad rbp v shorter)) t temps s place 8 (Register 5) old (λ v. sets_register 4 (Operation ops.Add (Register 5) (Number 8)) (sets_register 5 v done)) same tt (frame_is t s same)
      (λ v fit n1 i1 same1 later1 held.
      let tree = leaves (set width.Quad rbp v shorter) then follows in
      sets_stack end tree t n1 i1 (Operation ops.Add (Register 5) (Number 8)) ((old + 8) % 2 ^ 64) (sets_register 5 (Kept (temps + 1)) done) same1 (tt, tt)
      (ap (λ a. (a + 8) % 2 ^ 64) (frame_is t i1 same1)) (above_fits old)
      (λ n2 i2 same2 later2.
      let kept = holds_later later2 held in
      sets_frame end tree shorter n2 i2 (Kept (temps + 1)) v done same2 kept.below kept.is fit
      (λ n3 i3 same3 later3. ends_does may place after fits table (set width.Quad rbp v shorter) i3 at same3)))

  -- instructions that do nothing
  pub nop_means : Here instr.Nop
  unfolding acts lifts
  nop_means f t s at same = ends_does may place after fits table t s at same

  pub pause_means : Here instr.Pause
  unfolding acts lifts
  pause_means f t s at same = ends_does may place after fits table t s at same

  pub endbr_means : Here instr.Endbr
  unfolding acts lifts
  endbr_means f t s at same = ends_does may place after fits table t s at same

  -- a full fence
  pub mfence_means : Here instr.Mfence
  unfolding acts lifts
  mfence_means f t s at same =
      beside_fences placed_full 0 (SameLeft SameThread) (Follows may table) (λ k. ir_block no_cost may [] (ends.Goto after) k) 0 Mfence Fsc place 0 (leaves t) (goes s) refl
      (ends_does may place after fits table t s at same)

  -- an instruction that ends the thread
  pub ud2_means : Here instr.Ud2
  unfolding acts lifts
  ud2_means f t s at same = give both-stop
