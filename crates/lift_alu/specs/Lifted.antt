-- The steps of each instruction that is lifted, as formulas.
use Rattle.std.specs.Prelude.{ℕ, ◌==◌, [], ◌∷◌, Bool, true, false, if◌then◌else◌}
use Rattle.ev_graph.specs.declared.events.TrapKind.TheVariants.{Divide}
use Rattle.word_arith.specs.Masks.{ones}
use Rattle.alu_width.specs.declared.operations.Rotate.TheVariants.{Rol, Ror}
use Rattle.alu_width.specs.declared.operations.Shift.TheVariants.{Shl, Shr, Sar}
use Rattle.alu_width.specs.Masked.{masked}
use Rattle.x64_syntax.specs.Operands.{bits}
use Rattle.x64_syntax.specs.declared.instr.AluOp.{AluOp}
use Rattle.x64_syntax.specs.declared.instr.AluOp.TheVariants as op
use Rattle.x64_syntax.specs.declared.instr.ShiftOp.{ShiftOp}
use Rattle.x64_syntax.specs.declared.instr.ShiftOp.TheVariants as shift
use Rattle.x64_syntax.specs.declared.instr.Instr.{Instr}
use Rattle.x64_syntax.specs.declared.instr.Instr.TheVariants as instr
use Rattle.x64_syntax.specs.declared.operand.Operand.{Operand}
use Rattle.x64_syntax.specs.declared.operand.Operand.TheVariants as operand
use Rattle.x64_syntax.specs.declared.operand.Reg.{Reg}
use Rattle.x64_syntax.specs.declared.operand.Width.{Width}
use Rattle.x64_syntax.specs.declared.operand.Width.TheVariants as width
use Rattle.x64_syntax.specs.declared.placed.Flow.{Flow}
use Rattle.x64_syntax.specs.declared.placed.Flow.TheVariants as flow
use Rattle.x64_table.specs.State.{bytes, rax, rdx, upper}
use Rattle.x64_table.specs.Rows.{half}
use Rattle.limm_ir.specs.declared.step.IrFence.TheVariants.{Fsc}
use Rattle.limm_ir.specs.declared.step.IrOp.TheVariants as ops
use Rattle.limm_ir.specs.declared.step.IrStep.TheVariants as steps
use Rattle.limm_ir.specs.declared.step.RmwOp.{RmwOp}
use Rattle.limm_ir.specs.declared.step.RmwOp.TheVariants as rmw
use Rattle.lift_alu.specs.declared.shifts.Count.{Count}
use Rattle.lift_alu.specs.declared.shifts.Count.TheVariants.{Fixed, InTemp}
use Rattle.lift_alu.specs.Formulas.{temp}
use Rattle.lift_alu.specs.Formulas.{Formula, Kept, Number, Register, Flag, Operation, Choice, Lifting, done, keeps, sets_register, loads, stores}
use Rattle.lift_alu.specs.Operands.{clean, with_sign, register_formula, merged_formula, address_formula}
use Rattle.lift_alu.specs.Locks.{modifies, replaces, locked_op, given, accumulator}
use Rattle.lift_alu.specs.Flags.{sum_overflow, difference_overflow, sum_carry, sum_carry_in, borrow, borrow_in, top, sets_result, sets_flags, condition_formula}
use Rattle.lift_alu.specs.Products.{cut, product_formula, high_formula, over_formula, sets_over}
use Rattle.lift_alu.specs.Quotients.{traps_if, dividend_formula, divisor_formula, quotient_formula, range_formula, remainder_formula}
use Rattle.lift_alu.specs.Quotients.{bytes_formula, sets_zeros}
use Rattle.lift_alu.specs.Shifts.{masked_formula, shift_formula, shift_flags}
use Rattle.lift_alu.specs.Turns.{turn_formula, turn_flags}

-- a register gets a value at a width
unfoldable pub puts : Width → Reg → Formula → Lifting → Lifting
puts w r e rest = sets_register r.number (merged_formula w r.high (Register r.number) e) rest

-- an operand that gets a value: a register, or memory whose address a temporary holds
pub data Place : Type 0 where
  InRegister : Reg → Place
  InMemory : (address : ℕ) → Place
  Nowhere : Place

-- the temporary in which a value is kept
abbrev pub kept_in : Formula → ℕ
kept_in (Kept t) = t
kept_in e = 0

-- the memory whose address is kept
abbrev pub in_memory : Formula → Place
in_memory e = InMemory (kept_in e)

-- a value comes in for RAX
abbrev pub takes_in : Lifting → Lifting
takes_in rest next = steps.Input ∷ rest next

-- the value of RDI goes out
abbrev pub puts_out : Lifting → Lifting
puts_out rest next = steps.Output ∷ rest next

-- the product of two bytes gets into AX, behind its flags
unfoldable pub puts_word : (sign : Bool) → (p : Formula) → Lifting
puts_word sign p = sets_over (over_formula sign width.Byte p p) (puts width.Word rax (cut sign width.Word p) done)

-- the product of two values gets into the accumulator and its upper half, behind its flags
unfoldable pub puts_halves : (sign : Bool) → Width → (a b p : Formula) → Lifting
puts_halves sign w a b p =
    keeps (high_formula sign w a b p) (λ high. sets_over (over_formula sign w high p) (puts w rax (clean w p) (puts w rdx high done)))

-- where a double product gets
unfoldable pub puts_product : (sign : Bool) → Width → (a b p : Formula) → Lifting
puts_product sign width.Byte a b p = puts_word sign p
puts_product sign w a b p = puts_halves sign w a b p

-- the quotient and the remainder of bytes get into AX, behind their flags
unfoldable pub puts_bytes : (sign : Bool) → (q r : Formula) → Lifting
puts_bytes sign q r = sets_zeros (puts width.Word rax (bytes_formula sign q r) done)

-- the quotient gets into the accumulator and the remainder into its upper half, behind their flags
unfoldable pub puts_parts : (sign : Bool) → Width → (q r : Formula) → Lifting
puts_parts sign w q r = sets_zeros (puts w rax (cut sign w q) (puts w rdx (cut sign w r) done))

-- where quotient and remainder get
unfoldable pub puts_quotient : (sign : Bool) → Width → (q r : Formula) → Lifting
puts_quotient sign width.Byte q r = puts_bytes sign q r
puts_quotient sign w q r = puts_parts sign w q r

-- an operand that was fetched divides the accumulator's double word, where it is not 0 and the quotient fits
unfoldable pub divides_by : (sign : Bool) → Width → (by : Formula) → Lifting
divides_by sign w by =
    traps_if Divide (Operation ops.Eq by (Number 0))
    (keeps (dividend_formula sign w) (λ n. keeps (divisor_formula sign w by) (λ d. keeps (quotient_formula sign n d)
    (λ q. traps_if Divide (range_formula sign w q) (keeps (remainder_formula n d q) (λ r. puts_quotient sign w q r))))))

-- the steps of an instruction at a place, behind which stands the address `after`
module _ (at after : ℕ) where
  -- the value of an operand is kept for what comes behind
  unfoldable pub fetches : Width → Operand → (Formula → Lifting) → Lifting
  fetches w (operand.Reg r) rest = keeps (register_formula w r) rest
  fetches w (operand.Mem m) rest = loads at (bytes w) (address_formula m after) rest
  fetches w (operand.Imm n) rest = keeps (Number n) rest

  -- where an operand is that gets a value
  unfoldable pub finds : Operand → (Place → Lifting) → Lifting
  finds (operand.Reg r) rest = rest (InRegister r)
  finds (operand.Mem m) rest = keeps (address_formula m after) (λ address. rest (in_memory address))
  finds (operand.Imm n) rest = rest Nowhere

  -- what is there now
  unfoldable pub reads_there : Width → Place → (Formula → Lifting) → Lifting
  reads_there w (InRegister r) rest = keeps (register_formula w r) rest
  reads_there w (InMemory address) rest = loads at (bytes w) (Kept address) rest
  reads_there w Nowhere rest = keeps (Number 0) rest

  -- memory gets a value that is kept
  unfoldable pub writes_there : Width → Place → Formula → Lifting → Lifting
  writes_there w (InRegister r) e rest = rest
  writes_there w (InMemory address) e rest = stores at (bytes w) address (kept_in e) rest
  writes_there w Nowhere e rest = rest

  -- a register gets a value
  unfoldable pub puts_there : Width → Place → Formula → Lifting → Lifting
  puts_there w (InRegister r) e rest = puts w r e rest
  puts_there w (InMemory address) e rest = rest
  puts_there w Nowhere e rest = rest

  -- an operand gets a value that is kept
  unfoldable pub moves : Width → Operand → Formula → Lifting → Lifting
  moves w to e rest = finds to (λ there. writes_there w there e (puts_there w there e rest))

  -- a register operand gets a value
  unfoldable pub puts_operand : Width → Operand → Formula → Lifting → Lifting
  puts_operand w (operand.Reg r) e rest = puts w r e rest
  puts_operand w _ e rest = rest

  -- An operand is read and changed: memory gets the new value before the flags are set, and a register after.
  unfoldable pub changes : Width → Operand → (new : Formula → Formula) → (flags : Formula → Formula → Lifting → Lifting) → Lifting
  changes w to new flags =
      finds to (λ there. reads_there w there (λ a. keeps (new a) (λ r. writes_there w there r (flags a r (puts_there w there r done)))))

  -- the result of an operation on two values
  abbrev pub result : AluOp → Width → (a b : Formula) → Formula
  result op.Add w a b = clean w (Operation ops.Add a b)
  result op.Or w a b = Operation ops.Or a b
  result op.Adc w a b = clean w (Operation ops.Add (Operation ops.Add a b) (Flag 0))
  result op.Sbb w a b = clean w (Operation ops.Sub (Operation ops.Sub a b) (Flag 0))
  result op.And w a b = Operation ops.And a b
  result op.Sub w a b = clean w (Operation ops.Sub a b)
  result op.Xor w a b = Operation ops.Xor a b
  result op.Cmp w a b = clean w (Operation ops.Sub a b)

  -- the flags of an operation on two values whose result is r
  abbrev pub flags_of : AluOp → Width → (a b r : Formula) → Lifting → Lifting
  flags_of op.Add w a b r = sets_flags w (sum_overflow w a b r) (sum_carry a r) r
  flags_of op.Or w a b r = sets_flags w (Number 0) (Number 0) r
  flags_of op.Adc w a b r = sets_flags w (sum_overflow w a b r) (sum_carry_in a r) r
  flags_of op.Sbb w a b r = sets_flags w (difference_overflow w a b r) (borrow_in a b) r
  flags_of op.And w a b r = sets_flags w (Number 0) (Number 0) r
  flags_of op.Sub w a b r = sets_flags w (difference_overflow w a b r) (borrow a b) r
  flags_of op.Xor w a b r = sets_flags w (Number 0) (Number 0) r
  flags_of op.Cmp w a b r = sets_flags w (difference_overflow w a b r) (borrow a b) r

  -- two operands are compared, which leaves flags alone
  unfoldable pub compares : AluOp → Width → (to from : Operand) → Lifting
  compares o w to from = fetches w to (λ a. fetches w from (λ b. keeps (result o w a b) (λ r. flags_of o w a b r done)))

  -- the first operand becomes the result of an operation on both
  unfoldable pub combines : AluOp → Width → (to from : Operand) → Lifting
  combines o w to from = fetches w from (λ b. changes w to (λ a. result o w a b) (λ a r. flags_of o w a b r))

  abbrev pub lifts_alu : AluOp → Width → (to from : Operand) → Lifting
  lifts_alu op.Cmp w to from = compares op.Cmp w to from
  lifts_alu o w to from = combines o w to from

  -- LEA: a register gets an address
  unfoldable pub takes_address : Width → (to from : Operand) → Lifting
  takes_address w to (operand.Mem m) = puts_operand w to (clean w (address_formula m after)) done
  takes_address w to _ = done

  -- two registers get each the value of the other
  unfoldable pub exchanges : Width → (to from : Operand) → Lifting
  exchanges w to from = fetches w to (λ a. fetches w from (λ b. puts_operand w from a (puts_operand w to b done)))

  -- a register gets the sum of two, and the other what the first was
  unfoldable pub adds_exchanged : Width → (to from : Operand) → Lifting
  adds_exchanged w to from =
      fetches w to (λ a. fetches w from (λ b. keeps (result op.Add w a b) (λ r. flags_of op.Add w a b r (puts_operand w from a (puts_operand w to r done)))))

  -- PUSH: the value is written below the stack
  unfoldable pub pushes : Operand → Lifting
  pushes from = fetches width.Quad from (λ v. keeps (Operation ops.Sub (Register 4) (Number 8)) (λ below. stores at 8 (kept_in below) (kept_in v) (sets_register 4 below done)))

  -- what stands on the stack is read, and the stack is one value shorter
  unfoldable pub pops : (Formula → Lifting) → Lifting
  pops rest = loads at 8 (Register 4) (λ v. sets_register 4 (Operation ops.Add (Register 4) (Number 8)) (rest v))

  -- the address behind the instruction is written below the stack
  unfoldable pub writes_return : (Formula → Lifting) → Lifting
  writes_return rest =
      keeps (Number after) (λ v. keeps (Operation ops.Sub (Register 4) (Number 8)) (λ below. stores at 8 (kept_in below) (kept_in v) (rest below)))

  -- CALL: the stack begins at what is written. A call of a listed function leaves the stack as it was, and then a value comes in
  -- or goes out.
  unfoldable pub calls : Flow → Lifting
  calls flow.ListedIn = writes_return (λ below. takes_in done)
  calls flow.ListedOut = writes_return (λ below. puts_out done)
  calls f = writes_return (λ below. sets_register 4 below done)

  -- JMP has no steps. A jump to a listed function lets a value in or out, and returns.
  unfoldable pub jumps : Flow → Lifting
  jumps flow.ListedIn = takes_in (pops (λ v. done))
  jumps flow.ListedOut = puts_out (pops (λ v. done))
  jumps f = done

  -- LEAVE: the stack begins behind the frame
  unfoldable pub leaves_frame : Lifting
  leaves_frame = loads at 8 (Register 5) (λ v. sets_register 4 (Operation ops.Add (Register 5) (Number 8)) (sets_register 5 v done))

  -- a register gets a value where a condition holds; of 32 bits the upper half is cleared in both cases
  unfoldable pub chooses : (code : ℕ) → Width → Operand → Formula → Lifting
  chooses code w (operand.Reg r) v = puts w r (Choice (condition_formula code) v (register_formula w r)) done
  chooses code w _ v = done

  -- memory is changed in one locked step, which is given a value that is kept; a register is never locked
  unfoldable pub modifies_there : RmwOp → Width → Place → (v : Formula) → (Formula → Lifting) → Lifting
  modifies_there o w (InMemory address) v rest = modifies o at (bytes w) address (kept_in v) rest
  modifies_there o w _ v rest = rest v

  -- the same of an operand, by a formula's value
  unfoldable pub locks : RmwOp → Width → Operand → (value : Formula) → (Formula → Lifting) → Lifting
  locks o w to e rest = finds to (λ there. keeps e (λ v. modifies_there o w there v rest))

  -- a value that is kept takes the place of an expected one in memory
  unfoldable pub replaces_there : Width → Place → (expected v : Formula) → (Formula → Lifting) → Lifting
  replaces_there w (InMemory address) expected v rest = replaces at (bytes w) address (kept_in expected) (kept_in v) rest
  replaces_there w _ expected v rest = rest v

  -- locked memory becomes the result of an operation, whose flags are computed from what was there
  unfoldable pub combines_locked : AluOp → Width → (to from : Operand) → Lifting
  combines_locked o w to from =
      fetches w from (λ b. locks (locked_op o) w to (given o b) (λ a. keeps (result o w a b) (λ r. flags_of o w a b r done)))

  -- locked memory becomes one more or one less
  unfoldable pub increments_locked : Width → Operand → Lifting
  increments_locked w to =
      locks rmw.Add w to (Number 1) (λ a. keeps (clean w (Operation ops.Add a (Number 1)))
      (λ r. sets_result w (sum_overflow w a (Number 1) r) r done))

  unfoldable pub decrements_locked : Width → Operand → Lifting
  decrements_locked w to =
      locks rmw.Add w to (Number (ones 64))
      (λ a. keeps (clean w (Operation ops.Sub a (Number 1))) (λ r. sets_result w (difference_overflow w a (Number 1) r) r done))

  -- each bit of locked memory is turned round
  unfoldable pub inverts_locked : Width → Operand → Lifting
  inverts_locked w to = locks rmw.Flip w to (Number (ones (bits w))) (λ a. done)

  -- memory gets a register's value, and the register what was there
  unfoldable pub swaps : Width → (to from : Operand) → Lifting
  swaps w to from = fetches w from (λ b. locks rmw.Swap w to b (λ a. puts_operand w from a done))

  -- memory gets the sum of what was there and a register, which gets what was there
  unfoldable pub adds_locked : Width → (to from : Operand) → Lifting
  adds_locked w to from =
      fetches w from (λ b. locks rmw.Add w to b
      (λ a. keeps (result op.Add w a b) (λ r. flags_of op.Add w a b r (puts_operand w from a done))))

  -- CMPXCHG: memory gets a register's value where the accumulator's is there, and the accumulator gets what was there
  unfoldable pub compares_locked : Width → (to from : Operand) → Lifting
  compares_locked w to from =
      fetches w (operand.Reg rax) (λ e. fetches w from (λ v. finds to (λ there. replaces_there w there e v
      (λ old. keeps (result op.Cmp w e old) (λ r. flags_of op.Cmp w e old r (sets_register 0 (accumulator w e old) done))))))

  -- a locked instruction; others have no steps here
  abbrev pub lifts_locked : Instr → Lifting
  lifts_locked (instr.Alu o w to from locked) = combines_locked o w to from
  lifts_locked (instr.Xchg w to from locked) = swaps w to from
  lifts_locked (instr.Inc w to locked) = increments_locked w to
  lifts_locked (instr.Dec w to locked) = decrements_locked w to
  lifts_locked (instr.Not w to locked) = inverts_locked w to
  lifts_locked (instr.Xadd w to from locked) = adds_locked w to from
  lifts_locked (instr.Cmpxchg w to from locked) = compares_locked w to from
  lifts_locked i = done

  -- MUL (false) and IMUL (true) with one operand
  unfoldable pub multiplies : (sign : Bool) → Width → (from : Operand) → Lifting
  multiplies sign w from =
      fetches w from (λ b. keeps (register_formula w rax) (λ a. keeps (product_formula sign w a b) (λ p. puts_product sign w a b p)))

  -- IMUL with two or three operands
  unfoldable pub multiplies_into : Width → (to first second : Operand) → Lifting
  multiplies_into w to first second =
      fetches w first (λ a. fetches w second (λ b. keeps (product_formula true w a b)
      (λ p. sets_over (over_formula true w (high_formula true w a b p) p) (puts_operand w to (clean w p) done))))

  -- DIV (false) and IDIV (true)
  unfoldable pub divides : (sign : Bool) → Width → (from : Operand) → Lifting
  divides sign w from = fetches w from (λ by. divides_by sign w by)

  -- an operand is shifted or turned by a count
  abbrev pub shifts_by : ShiftOp → Width → Operand → Count → Lifting
  shifts_by shift.Rol w to c = changes w to (turn_formula Rol w c) (turn_flags Rol w c)
  shifts_by shift.Ror w to c = changes w to (turn_formula Ror w c) (turn_flags Ror w c)
  shifts_by shift.Shl w to c = changes w to (shift_formula Shl w c) (shift_flags Shl w c)
  shifts_by shift.Shr w to c = changes w to (shift_formula Shr w c) (shift_flags Shr w c)
  shifts_by shift.Sar w to c = changes w to (shift_formula Sar w c) (shift_flags Sar w c)

  -- an operand gets its own value, and the flags stay: of 32 bits, the upper half of a register is cleared
  unfoldable pub rewrites : Width → Operand → Lifting
  rewrites w to = changes w to (λ a. a) (λ a r rest. rest)

  -- by a masked number
  abbrev pub shifts_number : ShiftOp → Width → Operand → (n : ℕ) → Lifting
  shifts_number o w to n = if n == 0 then rewrites w to else shifts_by o w to (Fixed n)

  -- shifts and rotates by a number or by CL, whose masked value is kept before the operand is read
  unfoldable pub shifts : ShiftOp → Width → (to by : Operand) → Lifting
  shifts o w to (operand.Imm n) = shifts_number o w to (masked (bits w) n)
  shifts o w to (operand.Reg r) = keeps (masked_formula w r) (λ c. shifts_by o w to (InTemp (temp (kept_in c))))
  shifts o w to (operand.Mem m) = done

  -- a full fence
  abbrev pub fences : Lifting
  fences next = steps.Fence Fsc ∷ []

  -- An instruction that leads nowhere but behind itself, RET or UD2; others have no steps here.
  unfoldable pub lifts : Instr → Lifting
  lifts (instr.Alu o w to from true) = lifts_locked (instr.Alu o w to from true)
  lifts (instr.Alu o w to from false) = lifts_alu o w to from
  lifts (instr.Test w to from) = compares op.And w to from
  lifts (instr.Xchg w to from true) = lifts_locked (instr.Xchg w to from true)
  lifts (instr.Xchg w to from false) = exchanges w to from
  lifts (instr.Mov w to from) = fetches w from (λ v. moves w to v done)
  lifts (instr.Lea w to from) = takes_address w to from
  lifts (instr.MovZx w v to from) = fetches v from (λ a. puts_operand w to a done)
  lifts (instr.MovSx w v to from) = fetches v from (λ a. puts_operand w to (clean w (with_sign v a)) done)
  lifts (instr.MovSxd to from) = fetches width.Long from (λ a. puts_operand width.Quad to (with_sign width.Long a) done)
  lifts (instr.Push from) = pushes from
  lifts (instr.Pop to) = pops (λ v. moves width.Quad to v done)
  lifts instr.Leave = leaves_frame
  lifts instr.Ret = pops (λ v. done)
  lifts (instr.SetCc c to) = keeps (condition_formula c.code) (λ v. moves width.Byte to v done)
  lifts (instr.CmovCc c w to from) = fetches w from (λ v. chooses c.code w to v)
  lifts (instr.Inc w to true) = lifts_locked (instr.Inc w to true)
  lifts (instr.Inc w to false) = changes w to (λ a. clean w (Operation ops.Add a (Number 1))) (λ a r. sets_result w (sum_overflow w a (Number 1) r) r)
  lifts (instr.Dec w to true) = lifts_locked (instr.Dec w to true)
  lifts (instr.Dec w to false) = changes w to (λ a. clean w (Operation ops.Sub a (Number 1))) (λ a r. sets_result w (difference_overflow w a (Number 1) r) r)
  lifts (instr.Not w to true) = lifts_locked (instr.Not w to true)
  lifts (instr.Not w to false) = changes w to (λ a. Operation ops.Xor a (Number (ones (bits w)))) (λ a r rest. rest)
  lifts (instr.Neg w to) = changes w to (λ a. clean w (Operation ops.Sub (Number 0) a)) (λ a r. sets_flags w (top w (Operation ops.And a r)) (borrow (Number 0) a) r)
  lifts (instr.Xadd w to from true) = lifts_locked (instr.Xadd w to from true)
  lifts (instr.Xadd w to from false) = adds_exchanged w to from
  lifts (instr.Cmpxchg w to from locked) = lifts_locked (instr.Cmpxchg w to from locked)
  lifts (instr.Shift o w to by) = shifts o w to by
  lifts (instr.Widen w) = puts w rax (clean w (with_sign (half w) (register_formula (half w) rax))) done
  lifts (instr.SignFill w) = puts w (upper w) (clean w (Operation ops.Sar (with_sign w (register_formula w rax)) (Number 63))) done
  lifts (instr.Mul w from) = multiplies false w from
  lifts (instr.ImulOne w from) = multiplies true w from
  lifts (instr.Div w from) = divides false w from
  lifts (instr.Idiv w from) = divides true w from
  lifts (instr.ImulTwo w to from) = multiplies_into w to to from
  lifts (instr.ImulThree w to from by) = multiplies_into w to from by
  lifts instr.Mfence = fences
  lifts _ = done

  -- an instruction with its flow: Jcc keeps its condition for the end of the block
  unfoldable pub lifts_with : Flow → Instr → Lifting
  lifts_with f (instr.Call d) = calls f
  lifts_with f (instr.Jmp d) = jumps f
  lifts_with f (instr.Jcc c d) = keeps (condition_formula c.code) (λ v. done)
  lifts_with f i = lifts i
