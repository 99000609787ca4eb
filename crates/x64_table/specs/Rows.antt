-- What each x86 instruction does: its row, a tree of acts (Intel SDM, volume 2, the pages of the instructions).
use Rattle.std.specs.Prelude.{ℕ, ◌+◌, ◌%◌, ◌^◌, ◌==◌, Bool, true, false, Option, Some, None, if◌then◌else◌, Result, Ok, Err}
use Rattle.word_arith.specs.Bits.{bit}
use Rattle.word_arith.specs.Signed.{sign_extend}
use Rattle.alu_width.specs.declared.flags.Outcome.{Outcome}
use Rattle.alu_width.specs.declared.operations.Quotient.{Quotient}
use Rattle.alu_width.specs.declared.operations.DivFault.{DivFault}
use Rattle.alu_width.specs.Conditions.{condition}
use Rattle.alu_width.specs.Products.{product}
use Rattle.alu_width.specs.Quotients.{quotient}
use Rattle.ev_graph.specs.declared.events.End.TheVariants.{Trap}
use Rattle.ev_graph.specs.declared.events.FenceKind.TheVariants.{Mfence}
use Rattle.ev_graph.specs.declared.events.TrapKind.TheVariants.{Divide, Invalid, BadJump}
use Rattle.behavior.specs.Tree.{Tree, Gives, Next, Goes, Stops}
use Rattle.behavior.specs.Acts.{Permission, goes, traps, reads, writes, exchanges, fences_at, takes_in, puts_out}
use Rattle.x64_syntax.specs.Operands.{bits}
use Rattle.x64_syntax.specs.declared.instr.AluOp.{AluOp}
use Rattle.x64_syntax.specs.declared.instr.AluOp.TheVariants as op
use Rattle.x64_syntax.specs.declared.instr.ShiftOp.{ShiftOp}
use Rattle.x64_syntax.specs.declared.instr.Instr.{Instr}
use Rattle.x64_syntax.specs.declared.instr.Instr.TheVariants as instr
use Rattle.x64_syntax.specs.declared.operand.Operand.{Operand}
use Rattle.x64_syntax.specs.declared.operand.Operand.TheVariants as operand
use Rattle.x64_syntax.specs.declared.operand.Width.{Width}
use Rattle.x64_syntax.specs.declared.operand.Width.TheVariants as width
use Rattle.x64_syntax.specs.declared.placed.Flow.{Flow}
use Rattle.x64_syntax.specs.declared.placed.Flow.TheVariants as flow
use Rattle.x64_table.specs.State.{Thread, bytes, register, set, rax, rsp, rbp, rdi, upper, part, address, with_flags, jumped, below_stack, pushed, popped}
use Rattle.x64_table.specs.Outcomes.{alu_outcome, inc_outcome, dec_outcome, neg_outcome, not_value, turn_outcome, product_flags, quotient_flags, filled}

-- How a row leaves: in a next state, with an address that it has popped to return to, or with the index of a jump
-- through a table. In all of them a state has the address after the instruction, unless it has jumped.
pub data Exit : Type 0 where
  State : Thread → Exit
  Return : Thread → (target : ℕ) → Exit
  Indexed : Thread → (index : ℕ) → Exit

-- a row: a tree of acts that comes to an exit or to the thread's end
abbrev pub Row : Type 0
Row = Tree (Next Exit)

-- the thread goes on
abbrev pub leaves : Thread → Row
leaves t = goes (State t)

-- a register operand gets the low bits of a value
unfoldable pub puts : Width → Operand → (value : ℕ) → Thread → Thread
puts w (operand.Reg r) value t = set w r value t
puts w _ value t = t

-- what a register operand holds, or a number
unfoldable pub holds : Width → Operand → Thread → ℕ
holds w (operand.Reg r) t = register w r t
holds w (operand.Mem m) t = 0
holds w (operand.Imm n) t = n

-- the address of a memory operand
unfoldable pub address_of : Operand → Thread → ℕ
address_of (operand.Mem m) t = address m t
address_of _ t = 0

-- what the index register of a memory operand holds
unfoldable pub index_of : Operand → Thread → ℕ
index_of (operand.Mem m) t = part m.index t
index_of _ t = 0

-- the low half of an accumulator's double word gets one value and the upper half another
unfoldable pub puts_double : Width → (low high : ℕ) → Thread → Thread
puts_double w low high t = set w (upper w) high (set w rax low t)

-- half of a width
abbrev pub half : Width → Width
half width.Quad = width.Long
half width.Long = width.Word
half _ = width.Byte

-- the acts of rows, under a permission, of an instruction at a place
module _ (may : Permission) (place : ℕ) where
  -- the value of an operand: what a register holds, a number, or what is read from memory
  unfoldable pub fetches : Width → Operand → Thread → (ℕ → Row) → Row
  fetches w (operand.Reg r) t go = go (register w r t)
  fetches w (operand.Mem m) t go = reads may place (address m t) (bytes w) go
  fetches w (operand.Imm n) t go = go n

  -- An operand of the thread t gets a value, by a write where it is memory, and the thread goes on as `after`.
  unfoldable pub stores : Width → Operand → Thread → (value : ℕ) → (after : Thread) → Row
  stores w (operand.Reg r) t value after = leaves (set w r value after)
  stores w (operand.Mem m) t value after = writes may place (address m t) (bytes w) value (leaves after)
  stores w (operand.Imm n) t value after = leaves after

  -- An operand is read and then gets a new value, in one locked pair where it is locked memory. By the old value, `new`
  -- is the new one, and the thread goes on as `after`.
  unfoldable pub changes : (locked : Bool) → Width → Operand → Thread → (new : ℕ → ℕ) → (after : ℕ → Thread) → Row
  changes true w (operand.Mem m) t new after =
      exchanges may place (address m t) (bytes w) (λ v. Some (new v)) (λ v. leaves (after v))
  changes locked w to t new after = fetches w to t (λ v. stores w to t (new v) (after v))

  -- an operand is changed to an outcome of its value, which gives the flags too
  abbrev pub becomes : (locked : Bool) → Width → Operand → Thread → (ℕ → Outcome) → Row
  becomes locked w to t by = changes locked w to t (λ a. (by a).value) (λ a. with_flags (by a).flags t)

  -- the destination becomes the outcome of an operation on both operands
  unfoldable pub combine_row : AluOp → Width → (to from : Operand) → (locked : Bool) → Thread → Row
  combine_row o w to from locked t = fetches w from t (λ b. becomes locked w to t (λ a. alu_outcome o (bits w) a b t.flags))

  -- an operation on both operands leaves its flags alone
  unfoldable pub compare_row : AluOp → Width → (to from : Operand) → Thread → Row
  compare_row o w to from t =
      fetches w to t (λ a. fetches w from t (λ b. leaves (with_flags (alu_outcome o (bits w) a b t.flags).flags t)))

  -- ADD, OR, ADC, SBB, AND, SUB, XOR; and CMP, which writes nothing
  unfoldable pub alu_row : AluOp → Width → (to from : Operand) → (locked : Bool) → Thread → Row
  alu_row op.Cmp w to from locked t = compare_row op.Cmp w to from t
  alu_row o w to from locked t = combine_row o w to from locked t

  -- XCHG: the second operand, a register, gets the old value of the first
  unfoldable pub xchg_row : Width → (to from : Operand) → (locked : Bool) → Thread → Row
  xchg_row w to from locked t = changes locked w to t (λ a. holds w from t) (λ a. puts w from a t)

  -- XADD: the second operand, a register, gets the old value of the first, which then gets the sum
  unfoldable pub xadd_row : Width → (to from : Operand) → (locked : Bool) → Thread → Row
  xadd_row w to from locked t =
      changes locked w to t (λ a. (alu_outcome op.Add (bits w) a (holds w from t) t.flags).value)
      (λ a. puts w from a (with_flags (alu_outcome op.Add (bits w) a (holds w from t) t.flags).flags t))

  -- what CMPXCHG writes where the memory's value v is the accumulator's
  abbrev pub exchanged : Width → (from : Operand) → Thread → (v : ℕ) → Option ℕ
  exchanged w from t v = if register w rax t == v then Some (holds w from t) else None

  -- the accumulator after CMPXCHG: it stays where it is equal, and else gets the memory's value
  abbrev pub compared : Width → Thread → (v : ℕ) → Thread
  compared w t v = if register w rax t == v then t else set w rax v t

  -- CMPXCHG of memory, locked: the flags are those of a CMP of the accumulator with the memory's value
  unfoldable pub cmpxchg_row : Width → (to from : Operand) → Thread → Row
  cmpxchg_row w to from t =
      exchanges may place (address_of to t) (bytes w) (exchanged w from t)
      (λ v. leaves (with_flags (alu_outcome op.Cmp (bits w) (register w rax t) v t.flags).flags (compared w t v)))

  -- MUL (false) and IMUL (true) with one operand: the double product in the accumulator and its upper half
  unfoldable pub mul_row : (sign : Bool) → Width → (from : Operand) → Thread → Row
  mul_row sign w from t = fetches w from t (λ b.
      let p = product sign (bits w) (register w rax t) b in
      leaves (with_flags (product_flags p t.flags) (puts_double w p.low p.high t)))

  -- how a division leaves: where it has an answer, the remainder goes to the upper half
  abbrev pub divided : Width → Result Quotient DivFault → Thread → Next Exit
  divided w (Ok q) t = Goes (State (with_flags (quotient_flags t.flags) (puts_double w q.quotient q.remainder t)))
  divided w (Err fault) t = Stops (Trap Divide)

  -- DIV (false) and IDIV (true) of the double word in the accumulator and its upper half
  unfoldable pub div_row : (sign : Bool) → Width → (from : Operand) → Thread → Row
  div_row sign w from t =
      fetches w from t (λ d. Gives (divided w (quotient sign (bits w) (register w (upper w) t) (register w rax t) d) t))

  -- IMUL with two or three operands: the low half of the product of two values
  unfoldable pub imul_row : Width → (to first second : Operand) → Thread → Row
  imul_row w to first second t = fetches w first t (λ a. fetches w second t (λ b.
      let p = product true (bits w) a b in
      leaves (with_flags (product_flags p t.flags) (puts w to p.low t))))

  -- shifts and rotates by a number or by CL
  unfoldable pub shift_row : ShiftOp → Width → (to by : Operand) → Thread → Row
  shift_row o w to by t = fetches width.Byte by t (λ count. becomes false w to t (λ a. turn_outcome o (bits w) a count t.flags))

  -- PUSH: the operand is read with the old RSP
  unfoldable pub push_row : (from : Operand) → Thread → Row
  push_row from t = fetches width.Quad from t (λ v. writes may place (below_stack t) 8 v (leaves (pushed t)))

  -- POP: the operand is written with the new RSP
  unfoldable pub pop_row : (to : Operand) → Thread → Row
  pop_row to t = reads may place (register width.Quad rsp t) 8 (λ v. stores width.Quad to (popped t) v (popped t))

  -- LEAVE: RSP gets RBP + 8, and RBP what is read at the old RBP
  unfoldable pub leave_row : Thread → Row
  leave_row t = reads may place (register width.Quad rbp t) 8 (λ v.
      leaves (set width.Quad rbp v (set width.Quad rsp ((register width.Quad rbp t + 8) % 2 ^ 64) t)))

  -- RET, and what a jump to a listed function does in the end
  unfoldable pub returns : Thread → Row
  returns t = reads may place (register width.Quad rsp t) 8 (λ v. goes (Return (popped t) v))

  -- what a call does once it has written the address after it
  unfoldable pub called : Flow → (displacement : ℕ) → Thread → Row
  called flow.ListedIn d t = takes_in place (λ v. leaves (set width.Quad rax v t))
  called flow.ListedOut d t = puts_out place (register width.Quad rdi t) (leaves t)
  called _ d t = leaves (jumped d (pushed t))

  -- CALL writes the address after it. A call of a listed function leaves RSP as it was; then a value comes in for RAX,
  -- or that of RDI goes out.
  unfoldable pub call_row : Flow → (displacement : ℕ) → Thread → Row
  call_row f d t = writes may place (below_stack t) 8 t.at (called f d t)

  -- JMP; a jump to a listed function makes the input or output and then returns
  unfoldable pub jmp_row : Flow → (displacement : ℕ) → Thread → Row
  jmp_row flow.ListedIn d t = takes_in place (λ v. returns (set width.Quad rax v t))
  jmp_row flow.ListedOut d t = puts_out place (register width.Quad rdi t) (returns t)
  jmp_row _ d t = leaves (jumped d t)

  -- A jump through a table gives its index, and makes no access. Other indirect jumps have no row.
  unfoldable pub table_row : Flow → (to : Operand) → Thread → Row
  table_row flow.TableJump to t = goes (Indexed t (index_of to t))
  table_row _ to t = traps BadJump

  -- The acts of an instruction, in a thread that has the address after it. A destination stands before its source; TEST
  -- leaves the flags of AND. Indirect calls have no row.
  unfoldable pub acts : Instr → Flow → Thread → Row
  acts (instr.Alu o w to from locked) f t = alu_row o w to from locked t
  acts (instr.Test w to from) f t = compare_row op.And w to from t
  acts (instr.Xchg w to from locked) f t = xchg_row w to from locked t
  acts (instr.Mov w to from) f t = fetches w from t (λ v. stores w to t v t)
  acts (instr.Lea w to from) f t = leaves (puts w to (address_of from t) t)
  acts (instr.MovZx w v to from) f t = fetches v from t (λ a. leaves (puts w to a t))
  acts (instr.MovSx w v to from) f t = fetches v from t (λ a. leaves (puts w to (sign_extend (bits w) (bits v) a) t))
  acts (instr.MovSxd to from) f t = fetches width.Long from t (λ a. leaves (puts width.Quad to (sign_extend 64 32 a) t))
  acts (instr.Push from) f t = push_row from t
  acts (instr.Pop to) f t = pop_row to t
  acts instr.Leave f t = leave_row t
  acts instr.Ret f t = returns t
  acts (instr.Call d) f t = call_row f d t
  acts (instr.Jmp d) f t = jmp_row f d t
  acts (instr.CallInd to) f t = traps BadJump
  acts (instr.JmpInd to) f t = table_row f to t
  acts (instr.Jcc c d) f t = leaves (if condition c.code t.flags then jumped d t else t)
  acts (instr.SetCc c to) f t = stores width.Byte to t (bit (condition c.code t.flags)) t
  acts (instr.CmovCc c w to from) f t =
      fetches w from t (λ v. leaves (puts w to (if condition c.code t.flags then v else holds w to t) t))
  acts (instr.Inc w to locked) f t = becomes locked w to t (λ a. inc_outcome (bits w) a t.flags)
  acts (instr.Dec w to locked) f t = becomes locked w to t (λ a. dec_outcome (bits w) a t.flags)
  acts (instr.Not w to locked) f t = changes locked w to t (not_value (bits w)) (λ a. t)
  acts (instr.Neg w to) f t = becomes false w to t (neg_outcome (bits w))
  acts (instr.Mul w from) f t = mul_row false w from t
  acts (instr.ImulOne w from) f t = mul_row true w from t
  acts (instr.Div w from) f t = div_row false w from t
  acts (instr.Idiv w from) f t = div_row true w from t
  acts (instr.ImulTwo w to from) f t = imul_row w to to from t
  acts (instr.ImulThree w to from by) f t = imul_row w to from by t
  acts (instr.Shift o w to by) f t = shift_row o w to by t
  acts (instr.Widen w) f t = leaves (set w rax (sign_extend (bits w) (bits (half w)) (register (half w) rax t)) t)
  acts (instr.SignFill w) f t = leaves (set w (upper w) (filled (bits w) (register w rax t)) t)
  acts (instr.Cmpxchg w to from locked) f t = cmpxchg_row w to from t
  acts (instr.Xadd w to from locked) f t = xadd_row w to from locked t
  acts instr.Nop f t = leaves t
  acts instr.Pause f t = leaves t
  acts instr.Endbr f t = leaves t
  acts instr.Mfence f t = fences_at Mfence place (leaves t)
  acts instr.Ud2 f t = traps Invalid

-- The row of an instruction of a length in bytes, from a thread that stands at it.
unfoldable pub row_of : Permission → Instr → (length : ℕ) → Flow → Thread → Row
row_of may instr length f t = acts may t.at instr f (record t { at = (t.at + length) % 2 ^ 64 })
