-- The shapes that rows have: at most one read and then at most one write, with a transfer after the write or before the read.
use Rattle.std.proofs.Common.{◌≡◌, ℕ, ◌+◌, ◌%◌, ◌^◌, Bool, true, false, List, [], ◌∷◌, map, Option, Some, subst, sym, ap, refl, inl, inr}
use Rattle.ev_graph.specs.declared.events.End.{End}
use Rattle.ev_graph.specs.declared.events.FenceKind.TheVariants.{Mfence}
use Rattle.behavior.specs.Tree.{Gives, Next, Stops}
use Rattle.behavior.specs.Acts.{Permission, goes, reads, writes, exchanges, fences_at, takes_in, puts_out}
use Rattle.x64_syntax.specs.Formed.{ArePair, IsCount, IsFormed, IsInMemory, IsInRegister, IsNumber}
use Rattle.x64_syntax.specs.Slots.{alu_slots, change_slots, combine_slots, indirect_slots, jump_slots, pushed as pushed_slot, slots, compare_slots, move_slots, pop_slots, push_slots, read_slots, write_slots}
use Rattle.x64_syntax.specs.declared.instr_slots.InstrSlot.{InstrSlot}
use Rattle.x64_syntax.specs.declared.slots.SlotKind.{SlotKind}
use Rattle.x64_syntax.specs.declared.slots.SlotKind.TheVariants.{Read, Write, Locked}
use Rattle.x64_syntax.specs.declared.instr.AluOp.{AluOp}
use Rattle.x64_syntax.specs.declared.instr.AluOp.TheVariants as op
use Rattle.x64_syntax.specs.declared.instr.ShiftOp.{ShiftOp}
use Rattle.x64_syntax.specs.declared.instr.Instr.{Instr}
use Rattle.x64_syntax.specs.declared.instr.Instr.TheVariants as instr
use Rattle.x64_syntax.specs.declared.operand.Mem.{Mem}
use Rattle.x64_syntax.specs.declared.operand.Operand.{Operand}
use Rattle.x64_syntax.specs.declared.operand.Operand.TheVariants as operand
use Rattle.x64_syntax.specs.declared.operand.Width.{Width}
use Rattle.x64_syntax.specs.declared.operand.Width.TheVariants as width
use Rattle.x64_syntax.specs.declared.placed.Flow.{Flow}
use Rattle.x64_syntax.specs.declared.placed.Flow.TheVariants as flow
use Rattle.x64_table.specs.State.{Thread, bytes, address, register, set, rax, rsp, rbp, below_stack, popped}
use Rattle.x64_table.specs.Rows.{Exit, State, Return, Row, acts, address_of, alu_row, call_row, called, changes, cmpxchg_row, combine_row, compare_row, div_row, fetches, imul_row, jmp_row, leave_row, mul_row, pop_row, push_row, returns, row_of, shift_row, stores, table_row, xadd_row, xchg_row}
use Rattle.x64_table.specs.Laws.{slot_kinds}
use mathlib.Core.Path.{fun_ext}

-- A row of an instruction at a place, the kinds of accesses that it makes where it goes on, and whether it is a fence.
pub data Shape (may : Permission) (place : ℕ) : Row → List SlotKind → Bool → Type 0 where
  ends : {end : End} {kinds : List SlotKind} {fenced : Bool} → Shape may place (Gives (Stops end)) kinds fenced
  still : {next : Next Exit} → Shape may place (Gives next) [] false
  fence : {exit : Exit} → Shape may place (fences_at Mfence place (goes exit)) [] true
  read : (address size : ℕ) (next : ℕ → Next Exit) → Shape may place (reads may place address size (λ v. Gives (next v))) (Read ∷ []) false
  write : (address size value : ℕ) (exit : Exit) → Shape may place (writes may place address size value (goes exit)) (Write ∷ []) false
  change : (address size address' size' : ℕ) (value : ℕ → ℕ) (exit : ℕ → Exit)
      → Shape may place (reads may place address size (λ v. writes may place address' size' (value v) (goes (exit v)))) (Read ∷ Write ∷ []) false
  lock : (address size : ℕ) (new : ℕ → Option ℕ) (exit : ℕ → Exit) → Shape may place (exchanges may place address size new (λ v. goes (exit v))) (Locked ∷ []) false
  call-in : (address size value : ℕ) (exit : ℕ → Exit) → Shape may place (writes may place address size value (takes_in place (λ v. goes (exit v)))) (Write ∷ []) false
  call-out : (address size value output : ℕ) (exit : Exit) → Shape may place (writes may place address size value (puts_out place output (goes exit))) (Write ∷ []) false
  jump-in : (address size : ℕ) (exit : ℕ → ℕ → Exit) → Shape may place (takes_in place (λ v. reads may place address size (λ w. goes (exit v w)))) (Read ∷ []) false
  jump-out : (address size output : ℕ) (exit : ℕ → Exit) → Shape may place (puts_out place output (reads may place address size (λ w. goes (exit w)))) (Read ∷ []) false

-- the kinds of slots
abbrev pub kinds_of : List InstrSlot → List SlotKind
kinds_of slots = map (λ (slot : InstrSlot). slot.kind) slots

-- two operands are not both memory
one_memory : (w : Width) (m n : Mem) → ArePair w (operand.Mem m) (operand.Mem n) → ⊥
one_memory w m n (inl pair) = pair.1
one_memory w m n (inr (inl pair)) = pair.0
one_memory w m n (inr (inr pair)) = pair.1

-- RAX is not RSP
rsp_stays : (v : ℕ) (t : Thread) → register width.Quad rsp (set width.Quad rax v t) ≡ register width.Quad rsp t
unfolding register set
rsp_stays v t = refl

-- whether an instruction is a fence
abbrev pub is_mfence : Instr → Bool
is_mfence instr.Mfence = true
is_mfence i = false

module _ (may : Permission) (place : ℕ) where
  -- the shape of a row that is no fence
  abbrev pub Shaped : Row → List InstrSlot → Type 0
  Shaped row slots = Shape may place row (kinds_of slots) false

  fetches_shape : (w : Width) (o : Operand) (t : Thread) (next : ℕ → Next Exit) → Shaped (fetches may place w o t (λ v. Gives (next v))) (read_slots o)
  unfolding fetches
  fetches_shape w (operand.Reg r) t next = still
  fetches_shape w (operand.Mem m) t next = read (address m t) (bytes w) next
  fetches_shape w (operand.Imm n) t next = still

  stores_shape : (w : Width) (o : Operand) (t : Thread) (value : ℕ) (after : Thread) → Shaped (stores may place w o t value after) (write_slots o)
  unfolding stores
  stores_shape w (operand.Reg r) t value after = still
  stores_shape w (operand.Mem m) t value after = write (address m t) (bytes w) value (State after)
  stores_shape w (operand.Imm n) t value after = still

  changes_shape : (locked : Bool) (w : Width) (o : Operand) (t : Thread) (new : ℕ → ℕ) (after : ℕ → Thread) → Shaped (changes may place locked w o t new after) (change_slots locked o)
  unfolding changes fetches stores
  changes_shape true w (operand.Mem m) t new after = lock (address m t) (bytes w) (λ v. Some (new v)) (λ v. State (after v))
  changes_shape true w (operand.Reg r) t new after = still
  changes_shape true w (operand.Imm n) t new after = still
  changes_shape false w (operand.Mem m) t new after = change (address m t) (bytes w) (address m t) (bytes w) new (λ v. State (after v))
  changes_shape false w (operand.Reg r) t new after = still
  changes_shape false w (operand.Imm n) t new after = still

  move_shape : (w : Width) (to from : Operand) (t : Thread) → ArePair w to from → Shaped (fetches may place w from t (λ v. stores may place w to t v t)) (move_slots to from)
  unfolding fetches stores
  move_shape w (operand.Reg r) (operand.Reg q) t pair = still
  move_shape w (operand.Reg r) (operand.Mem m) t pair = read (address m t) (bytes w) _
  move_shape w (operand.Reg r) (operand.Imm n) t pair = still
  move_shape w (operand.Imm k) (operand.Reg q) t pair = still
  move_shape w (operand.Imm k) (operand.Mem m) t pair = read (address m t) (bytes w) _
  move_shape w (operand.Imm k) (operand.Imm n) t pair = still
  move_shape w (operand.Mem m) (operand.Reg q) t pair = write (address m t) (bytes w) _ (State t)
  move_shape w (operand.Mem m) (operand.Mem n) t pair = absurd (one_memory w m n pair)
  move_shape w (operand.Mem m) (operand.Imm n) t pair = write (address m t) (bytes w) _ (State t)

  combine_shape : (o : AluOp) (w : Width) (to from : Operand) (locked : Bool) (t : Thread) → ArePair w to from → Shaped (combine_row may place o w to from locked t) (combine_slots locked to from)
  unfolding combine_row changes fetches stores
  combine_shape o w (operand.Mem m) (operand.Reg q) locked t pair = changes_shape locked w (operand.Mem m) t _ _
  combine_shape o w (operand.Mem m) (operand.Mem n) locked t pair = absurd (one_memory w m n pair)
  combine_shape o w (operand.Mem m) (operand.Imm n) locked t pair = changes_shape locked w (operand.Mem m) t _ _
  combine_shape o w (operand.Reg r) (operand.Reg q) true t pair = still
  combine_shape o w (operand.Reg r) (operand.Mem m) true t pair = read (address m t) (bytes w) _
  combine_shape o w (operand.Reg r) (operand.Imm n) true t pair = still
  combine_shape o w (operand.Imm k) (operand.Reg q) true t pair = still
  combine_shape o w (operand.Imm k) (operand.Mem m) true t pair = read (address m t) (bytes w) _
  combine_shape o w (operand.Imm k) (operand.Imm n) true t pair = still
  combine_shape o w (operand.Reg r) (operand.Reg q) false t pair = still
  combine_shape o w (operand.Reg r) (operand.Mem m) false t pair = read (address m t) (bytes w) _
  combine_shape o w (operand.Reg r) (operand.Imm n) false t pair = still
  combine_shape o w (operand.Imm k) (operand.Reg q) false t pair = still
  combine_shape o w (operand.Imm k) (operand.Mem m) false t pair = read (address m t) (bytes w) _
  combine_shape o w (operand.Imm k) (operand.Imm n) false t pair = still

  compare_shape : (o : AluOp) (w : Width) (to from : Operand) (t : Thread) → ArePair w to from → Shaped (compare_row may place o w to from t) (compare_slots to from)
  unfolding compare_row fetches
  compare_shape o w (operand.Mem m) (operand.Reg q) t pair = read (address m t) (bytes w) _
  compare_shape o w (operand.Mem m) (operand.Mem n) t pair = absurd (one_memory w m n pair)
  compare_shape o w (operand.Mem m) (operand.Imm n) t pair = read (address m t) (bytes w) _
  compare_shape o w (operand.Reg r) (operand.Reg q) t pair = still
  compare_shape o w (operand.Reg r) (operand.Mem m) t pair = read (address m t) (bytes w) _
  compare_shape o w (operand.Reg r) (operand.Imm n) t pair = still
  compare_shape o w (operand.Imm k) (operand.Reg q) t pair = still
  compare_shape o w (operand.Imm k) (operand.Mem m) t pair = read (address m t) (bytes w) _
  compare_shape o w (operand.Imm k) (operand.Imm n) t pair = still

  alu_shape : (o : AluOp) (w : Width) (to from : Operand) (locked : Bool) (t : Thread) → ArePair w to from → Shaped (alu_row may place o w to from locked t) (alu_slots o locked to from)
  unfolding alu_row
  alu_shape op.Cmp w to from locked t pair = compare_shape op.Cmp w to from t pair
  alu_shape op.Add w to from locked t pair = combine_shape op.Add w to from locked t pair
  alu_shape op.Or w to from locked t pair = combine_shape op.Or w to from locked t pair
  alu_shape op.Adc w to from locked t pair = combine_shape op.Adc w to from locked t pair
  alu_shape op.Sbb w to from locked t pair = combine_shape op.Sbb w to from locked t pair
  alu_shape op.And w to from locked t pair = combine_shape op.And w to from locked t pair
  alu_shape op.Sub w to from locked t pair = combine_shape op.Sub w to from locked t pair
  alu_shape op.Xor w to from locked t pair = combine_shape op.Xor w to from locked t pair

  -- a change whose second operand is a register
  beside_register : (locked : Bool) (w : Width) (to from : Operand) (t : Thread) (new : ℕ → ℕ) (after : ℕ → Thread) → IsInRegister w from → Shaped (changes may place locked w to t new after) (combine_slots locked to from)
  beside_register locked w (operand.Mem m) from t new after here = changes_shape locked w (operand.Mem m) t new after
  beside_register locked w (operand.Reg r) (operand.Reg q) t new after here = changes_shape locked w (operand.Reg r) t new after
  beside_register locked w (operand.Imm k) (operand.Reg q) t new after here = changes_shape locked w (operand.Imm k) t new after
  beside_register locked w (operand.Reg r) (operand.Mem m) t new after here = absurd here
  beside_register locked w (operand.Imm k) (operand.Mem m) t new after here = absurd here
  beside_register locked w (operand.Reg r) (operand.Imm n) t new after here = absurd here
  beside_register locked w (operand.Imm k) (operand.Imm n) t new after here = absurd here

  cmpxchg_shape : (w : Width) (to from : Operand) (locked : Bool) (t : Thread) → IsInMemory to → locked ≡ true → Shaped (cmpxchg_row may place w to from t) (combine_slots locked to from)
  unfolding cmpxchg_row
  cmpxchg_shape w (operand.Mem m) from true t memory set = lock (address_of (operand.Mem m) t) (bytes w) _ _
  cmpxchg_shape w (operand.Mem m) from false t memory set = absurd cc
  cmpxchg_shape w (operand.Reg r) from locked t memory set = absurd memory
  cmpxchg_shape w (operand.Imm n) from locked t memory set = absurd memory

  -- IMUL with two operands, the first of which is a register
  imul_two_shape : (w : Width) (to from : Operand) (t : Thread) → IsInRegister w to → Shaped (imul_row may place w to to from t) (read_slots from)
  unfolding imul_row fetches
  imul_two_shape w (operand.Reg r) (operand.Reg q) t here = still
  imul_two_shape w (operand.Reg r) (operand.Mem m) t here = read (address m t) (bytes w) _
  imul_two_shape w (operand.Reg r) (operand.Imm n) t here = still
  imul_two_shape w (operand.Mem m) from t here = absurd here
  imul_two_shape w (operand.Imm n) from t here = absurd here

  -- IMUL with three operands, the last of which is a number
  imul_three_shape : (w : Width) (to from by : Operand) (t : Thread) → IsNumber w by → Shaped (imul_row may place w to from by t) (read_slots from)
  unfolding imul_row fetches
  imul_three_shape w to (operand.Reg q) (operand.Imm n) t here = still
  imul_three_shape w to (operand.Mem m) (operand.Imm n) t here = read (address m t) (bytes w) _
  imul_three_shape w to (operand.Imm k) (operand.Imm n) t here = still
  imul_three_shape w to from (operand.Reg q) t here = absurd here
  imul_three_shape w to from (operand.Mem m) t here = absurd here

  -- a shift, whose count is a number or a register
  shift_shape : (o : ShiftOp) (w : Width) (to by : Operand) (t : Thread) → IsCount by → Shaped (shift_row may place o w to by t) (change_slots false to)
  unfolding shift_row fetches
  shift_shape o w to (operand.Reg r) t here = changes_shape false w to t _ _
  shift_shape o w to (operand.Imm n) t here = changes_shape false w to t _ _
  shift_shape o w to (operand.Mem m) t here = absurd here

  push_shape : (from : Operand) (t : Thread) → Shaped (push_row may place from t) (push_slots from)
  unfolding push_row fetches
  push_shape (operand.Reg r) t = write (below_stack t) 8 _ _
  push_shape (operand.Mem m) t = change (address m t) 8 (below_stack t) 8 _ _
  push_shape (operand.Imm n) t = write (below_stack t) 8 _ _

  pop_shape : (to : Operand) (t : Thread) → Shaped (pop_row may place to t) (pop_slots to)
  unfolding pop_row stores
  pop_shape (operand.Reg r) t = read (register width.Quad rsp t) 8 _
  pop_shape (operand.Mem m) t = change (register width.Quad rsp t) 8 (address m (popped t)) 8 _ _
  pop_shape (operand.Imm n) t = read (register width.Quad rsp t) 8 _

  call_shape : (f : Flow) (d : ℕ) (t : Thread) → Shaped (call_row may place f d t) (pushed_slot ∷ [])
  unfolding call_row called
  call_shape flow.ListedIn d t = call-in (below_stack t) 8 t.at _
  call_shape flow.ListedOut d t = call-out (below_stack t) 8 t.at _ _
  call_shape flow.Plain d t = write (below_stack t) 8 t.at _
  call_shape flow.TableJump d t = write (below_stack t) 8 t.at _

  -- a listed jump returns from the same address, whatever comes in
  jump_in : (t : Thread) → takes_in place (λ v. returns may place (set width.Quad rax v t)) ≡ takes_in place (λ v. reads may place (register width.Quad rsp t) 8 (λ w. goes (Return (popped (set width.Quad rax v t)) w)))
  unfolding returns
  jump_in t = ap (takes_in place) (fun_ext (λ v. ap (λ a. reads may place a 8 (λ w. goes (Return (popped (set width.Quad rax v t)) w))) (rsp_stays v t)))

  jmp_shape : (f : Flow) (d : ℕ) (t : Thread) → Shaped (jmp_row may place f d t) (jump_slots f)
  unfolding jmp_row returns
  jmp_shape flow.ListedIn d t = subst (λ row. Shaped row (jump_slots flow.ListedIn)) (sym (jump_in t)) (jump-in (register width.Quad rsp t) 8 _)
  jmp_shape flow.ListedOut d t = jump-out (register width.Quad rsp t) 8 _ _
  jmp_shape flow.Plain d t = still
  jmp_shape flow.TableJump d t = still

  table_shape : (f : Flow) (to : Operand) (t : Thread) → Shaped (table_row may place f to t) (indirect_slots f to)
  unfolding table_row
  table_shape flow.TableJump to t = still
  table_shape flow.ListedIn to t = ends
  table_shape flow.ListedOut to t = ends
  table_shape flow.Plain to t = ends

  acts_shape : (i : Instr) (f : Flow) (t : Thread) → IsFormed i → Shape may place (acts may place i f t) (slot_kinds i f) (is_mfence i)
  unfolding acts xchg_row xadd_row mul_row div_row leave_row returns
  acts_shape (instr.Alu o w to from locked) f t formed = alu_shape o w to from locked t formed.0
  acts_shape (instr.Test w to from) f t formed = compare_shape op.And w to from t formed
  acts_shape (instr.Xchg w to from locked) f t formed = beside_register locked w to from t _ _ formed.1.0
  acts_shape (instr.Mov w to from) f t formed = move_shape w to from t formed
  acts_shape (instr.Lea w to from) f t formed = still
  acts_shape (instr.MovZx w v to from) f t formed = fetches_shape v from t _
  acts_shape (instr.MovSx w v to from) f t formed = fetches_shape v from t _
  acts_shape (instr.MovSxd to from) f t formed = fetches_shape width.Long from t _
  acts_shape (instr.Push from) f t formed = push_shape from t
  acts_shape (instr.Pop to) f t formed = pop_shape to t
  acts_shape instr.Leave f t formed = read (register width.Quad rbp t) 8 _
  acts_shape instr.Ret f t formed = read (register width.Quad rsp t) 8 _
  acts_shape (instr.Call d) f t formed = call_shape f d t
  acts_shape (instr.Jmp d) f t formed = jmp_shape f d t
  acts_shape (instr.CallInd to) f t formed = ends
  acts_shape (instr.JmpInd to) f t formed = table_shape f to t
  acts_shape (instr.Jcc c d) f t formed = still
  acts_shape (instr.SetCc c to) f t formed = stores_shape width.Byte to t _ t
  acts_shape (instr.CmovCc c w to from) f t formed = fetches_shape w from t _
  acts_shape (instr.Inc w to locked) f t formed = changes_shape locked w to t _ _
  acts_shape (instr.Dec w to locked) f t formed = changes_shape locked w to t _ _
  acts_shape (instr.Not w to locked) f t formed = changes_shape locked w to t _ _
  acts_shape (instr.Neg w to) f t formed = changes_shape false w to t _ _
  acts_shape (instr.Mul w from) f t formed = fetches_shape w from t _
  acts_shape (instr.ImulOne w from) f t formed = fetches_shape w from t _
  acts_shape (instr.Div w from) f t formed = fetches_shape w from t _
  acts_shape (instr.Idiv w from) f t formed = fetches_shape w from t _
  acts_shape (instr.ImulTwo w to from) f t formed = imul_two_shape w to from t formed.1.0
  acts_shape (instr.ImulThree w to from by) f t formed = imul_three_shape w to from by t formed.1.1.1
  acts_shape (instr.Shift o w to by) f t formed = shift_shape o w to by t formed.1
  acts_shape (instr.Widen w) f t formed = still
  acts_shape (instr.SignFill w) f t formed = still
  acts_shape (instr.Cmpxchg w to from locked) f t formed = cmpxchg_shape w to from locked t formed.0 formed.1.1
  acts_shape (instr.Xadd w to from locked) f t formed = beside_register locked w to from t _ _ formed.1.0
  acts_shape instr.Nop f t formed = still
  acts_shape instr.Pause f t formed = still
  acts_shape instr.Endbr f t formed = still
  acts_shape instr.Mfence f t formed = fence
  acts_shape instr.Ud2 f t formed = ends

-- the row of a formed instruction has a shape, with its slots, and is a fence where the instruction is MFENCE
pub row_shape : (may : Permission) (i : Instr) (length : ℕ) (f : Flow) (s : Thread) → IsFormed i → Shape may s.at (row_of may i length f s) (slot_kinds i f) (is_mfence i)
unfolding row_of
row_shape may i length f s formed = acts_shape may s.at i f (record s { at = (s.at + length) % 2 ^ 64 }) formed
