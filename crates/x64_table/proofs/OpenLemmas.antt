-- What a row does is decided by the values that it reads and takes in.
use Rattle.std.proofs.Common.{ℕ, ◌+◌, ◌^◌, ◌%◌, Bool, true, false, Some}
use Rattle.ev_graph.specs.declared.events.FenceKind.TheVariants.{Mfence}
use Rattle.ev_graph.specs.declared.events.Item.TheVariants as items
use Rattle.behavior.specs.Acts.{Permission}
use Rattle.behavior.specs.Explained.{IsOpen}
use Rattle.behavior.proofs.ActsLemmas.{open_makes, open_reads, open_writes, open_exchanges, open_takes_in}
use Rattle.x64_syntax.specs.declared.instr.AluOp.{AluOp}
use Rattle.x64_syntax.specs.declared.instr.AluOp.TheVariants as op
use Rattle.x64_syntax.specs.declared.instr.ShiftOp.{ShiftOp}
use Rattle.x64_syntax.specs.declared.instr.Instr.{Instr}
use Rattle.x64_syntax.specs.declared.instr.Instr.TheVariants as instr
use Rattle.x64_syntax.specs.declared.operand.Operand.{Operand}
use Rattle.x64_syntax.specs.declared.operand.Operand.TheVariants as operand
use Rattle.x64_syntax.specs.declared.operand.Width.{Width}
use Rattle.x64_syntax.specs.declared.operand.Width.TheVariants as width
use Rattle.x64_syntax.specs.declared.placed.Flow.{Flow}
use Rattle.x64_syntax.specs.declared.placed.Flow.TheVariants as flow
use Rattle.x64_table.specs.State.{Thread, bytes, address, register, set, rax, rsp, rbp, rdi, below_stack, pushed, popped}
use Rattle.x64_table.specs.Rows.{Row, acts, address_of, alu_row, call_row, called, changes, cmpxchg_row, combine_row, compare_row, div_row, fetches, imul_row, jmp_row, leave_row, leaves, mul_row, pop_row, push_row, returns, row_of, shift_row, stores, table_row, xadd_row, xchg_row}

module _ (may : Permission) (place : ℕ) where
  fetches_open : (w : Width) (o : Operand) (t : Thread) (go : ℕ → Row) → ((v : ℕ) → IsOpen (go v)) → IsOpen (fetches may place w o t go)
  unfolding fetches
  fetches_open w (operand.Reg r) t go here = here (register w r t)
  fetches_open w (operand.Mem m) t go here = open_reads may place (address m t) (bytes w) go here
  fetches_open w (operand.Imm n) t go here = here n

  stores_open : (w : Width) (o : Operand) (t : Thread) (value : ℕ) (after : Thread) → IsOpen (stores may place w o t value after)
  unfolding stores
  stores_open w (operand.Reg r) t value after = tt
  stores_open w (operand.Mem m) t value after = open_writes may place (address m t) (bytes w) value (leaves after) tt
  stores_open w (operand.Imm n) t value after = tt

  changes_open : (locked : Bool) (w : Width) (o : Operand) (t : Thread) (new : ℕ → ℕ) (after : ℕ → Thread) → IsOpen (changes may place locked w o t new after)
  unfolding changes
  changes_open true w (operand.Mem m) t new after =
      open_exchanges may place (address m t) (bytes w) (λ v. Some (new v)) (λ v. leaves (after v)) (λ v. tt)
  changes_open true w (operand.Reg r) t new after = fetches_open w (operand.Reg r) t (λ v. stores may place w (operand.Reg r) t (new v) (after v)) (λ v. stores_open w (operand.Reg r) t (new v) (after v))
  changes_open true w (operand.Imm n) t new after = fetches_open w (operand.Imm n) t (λ v. stores may place w (operand.Imm n) t (new v) (after v)) (λ v. stores_open w (operand.Imm n) t (new v) (after v))
  changes_open false w o t new after = fetches_open w o t (λ v. stores may place w o t (new v) (after v)) (λ v. stores_open w o t (new v) (after v))

  combine_open : (o : AluOp) (w : Width) (to from : Operand) (locked : Bool) (t : Thread) → IsOpen (combine_row may place o w to from locked t)
  unfolding combine_row
  combine_open o w to from locked t = fetches_open w from t _ (λ b. changes_open locked w to t _ _)

  compare_open : (o : AluOp) (w : Width) (to from : Operand) (t : Thread) → IsOpen (compare_row may place o w to from t)
  unfolding compare_row
  compare_open o w to from t = fetches_open w to t _ (λ a. fetches_open w from t _ (λ b. tt))

  alu_open : (o : AluOp) (w : Width) (to from : Operand) (locked : Bool) (t : Thread) → IsOpen (alu_row may place o w to from locked t)
  unfolding alu_row
  alu_open op.Cmp w to from locked t = compare_open op.Cmp w to from t
  alu_open op.Add w to from locked t = combine_open op.Add w to from locked t
  alu_open op.Or w to from locked t = combine_open op.Or w to from locked t
  alu_open op.Adc w to from locked t = combine_open op.Adc w to from locked t
  alu_open op.Sbb w to from locked t = combine_open op.Sbb w to from locked t
  alu_open op.And w to from locked t = combine_open op.And w to from locked t
  alu_open op.Sub w to from locked t = combine_open op.Sub w to from locked t
  alu_open op.Xor w to from locked t = combine_open op.Xor w to from locked t

  cmpxchg_open : (w : Width) (to from : Operand) (t : Thread) → IsOpen (cmpxchg_row may place w to from t)
  unfolding cmpxchg_row
  cmpxchg_open w to from t = open_exchanges may place (address_of to t) (bytes w) _ _ (λ v. tt)

  imul_open : (w : Width) (to first second : Operand) (t : Thread) → IsOpen (imul_row may place w to first second t)
  unfolding imul_row
  imul_open w to first second t = fetches_open w first t _ (λ a. fetches_open w second t _ (λ b. tt))

  shift_open : (o : ShiftOp) (w : Width) (to by : Operand) (t : Thread) → IsOpen (shift_row may place o w to by t)
  unfolding shift_row
  shift_open o w to by t = fetches_open width.Byte by t _ (λ count. changes_open false w to t _ _)

  push_open : (from : Operand) (t : Thread) → IsOpen (push_row may place from t)
  unfolding push_row
  push_open from t = fetches_open width.Quad from t _ (λ v. open_writes may place (below_stack t) 8 v (leaves (pushed t)) tt)

  pop_open : (to : Operand) (t : Thread) → IsOpen (pop_row may place to t)
  unfolding pop_row
  pop_open to t = open_reads may place (register width.Quad rsp t) 8 _ (λ v. stores_open width.Quad to (popped t) v (popped t))

  returns_open : (t : Thread) → IsOpen (returns may place t)
  unfolding returns
  returns_open t = open_reads may place (register width.Quad rsp t) 8 _ (λ v. tt)

  called_open : (f : Flow) (d : ℕ) (t : Thread) → IsOpen (called may place f d t)
  unfolding called
  called_open flow.ListedIn d t = open_takes_in place (λ v. leaves (set width.Quad rax v t)) (λ v. tt)
  called_open flow.ListedOut d t = open_makes (items.Output (record { value = register width.Quad rdi t; place = place })) (leaves t) tt
  called_open flow.Plain d t = tt
  called_open flow.TableJump d t = tt

  call_open : (f : Flow) (d : ℕ) (t : Thread) → IsOpen (call_row may place f d t)
  unfolding call_row
  call_open f d t = open_writes may place (below_stack t) 8 t.at (called may place f d t) (called_open f d t)

  jmp_open : (f : Flow) (d : ℕ) (t : Thread) → IsOpen (jmp_row may place f d t)
  unfolding jmp_row
  jmp_open flow.ListedIn d t = open_takes_in place (λ v. returns may place (set width.Quad rax v t)) (λ v. returns_open (set width.Quad rax v t))
  jmp_open flow.ListedOut d t = open_makes (items.Output (record { value = register width.Quad rdi t; place = place })) (returns may place t) (returns_open t)
  jmp_open flow.Plain d t = tt
  jmp_open flow.TableJump d t = tt

  table_open : (f : Flow) (to : Operand) (t : Thread) → IsOpen (table_row may place f to t)
  unfolding table_row
  table_open flow.TableJump to t = tt
  table_open flow.ListedIn to t = tt
  table_open flow.ListedOut to t = tt
  table_open flow.Plain to t = tt

  acts_open : (i : Instr) (f : Flow) (t : Thread) → IsOpen (acts may place i f t)
  unfolding acts xchg_row xadd_row mul_row div_row leave_row
  acts_open (instr.Alu o w to from locked) f t = alu_open o w to from locked t
  acts_open (instr.Test w to from) f t = compare_open op.And w to from t
  acts_open (instr.Xchg w to from locked) f t = changes_open locked w to t _ _
  acts_open (instr.Mov w to from) f t = fetches_open w from t _ (λ v. stores_open w to t v t)
  acts_open (instr.Lea w to from) f t = tt
  acts_open (instr.MovZx w v to from) f t = fetches_open v from t _ (λ a. tt)
  acts_open (instr.MovSx w v to from) f t = fetches_open v from t _ (λ a. tt)
  acts_open (instr.MovSxd to from) f t = fetches_open width.Long from t _ (λ a. tt)
  acts_open (instr.Push from) f t = push_open from t
  acts_open (instr.Pop to) f t = pop_open to t
  acts_open instr.Leave f t = open_reads may place (register width.Quad rbp t) 8 _ (λ v. tt)
  acts_open instr.Ret f t = returns_open t
  acts_open (instr.Call d) f t = call_open f d t
  acts_open (instr.Jmp d) f t = jmp_open f d t
  acts_open (instr.CallInd to) f t = tt
  acts_open (instr.JmpInd to) f t = table_open f to t
  acts_open (instr.Jcc c d) f t = tt
  acts_open (instr.SetCc c to) f t = stores_open width.Byte to t _ t
  acts_open (instr.CmovCc c w to from) f t = fetches_open w from t _ (λ v. tt)
  acts_open (instr.Inc w to locked) f t = changes_open locked w to t _ _
  acts_open (instr.Dec w to locked) f t = changes_open locked w to t _ _
  acts_open (instr.Not w to locked) f t = changes_open locked w to t _ _
  acts_open (instr.Neg w to) f t = changes_open false w to t _ _
  acts_open (instr.Mul w from) f t = fetches_open w from t _ (λ b. tt)
  acts_open (instr.ImulOne w from) f t = fetches_open w from t _ (λ b. tt)
  acts_open (instr.Div w from) f t = fetches_open w from t _ (λ d. tt)
  acts_open (instr.Idiv w from) f t = fetches_open w from t _ (λ d. tt)
  acts_open (instr.ImulTwo w to from) f t = imul_open w to to from t
  acts_open (instr.ImulThree w to from by) f t = imul_open w to from by t
  acts_open (instr.Shift o w to by) f t = shift_open o w to by t
  acts_open (instr.Widen w) f t = tt
  acts_open (instr.SignFill w) f t = tt
  acts_open (instr.Cmpxchg w to from locked) f t = cmpxchg_open w to from t
  acts_open (instr.Xadd w to from locked) f t = changes_open locked w to t _ _
  acts_open instr.Nop f t = tt
  acts_open instr.Pause f t = tt
  acts_open instr.Endbr f t = tt
  acts_open instr.Mfence f t = open_makes (items.Fence (record { kind = Mfence; place = place })) (leaves t) tt
  acts_open instr.Ud2 f t = tt

-- the values that a row reads and takes in decide what it does
pub rows_open : (may : Permission) (i : Instr) (length : ℕ) (f : Flow) (s : Thread) → IsOpen (row_of may i length f s)
unfolding row_of
rows_open may i length f s = acts_open may s.at i f (record s { at = (s.at + length) % 2 ^ 64 })
