-- What the steps of an instruction tell, step by step, is what the instruction's accesses tell, or its fence.
use Rattle.std.proofs.Common.{◌≡◌, ◌≢◌, ℕ, ◌+◌, Bool, true, false, List, [], ◌∷◌, ◌++◌, inl, inr, refl, ap, subst, ◌∙◌, map, append-nil}
use Rattle.std.specs.Prelude.{◌==◌}
use Rattle.std.specs.List.{flat_map}
use Rattle.std.proofs.lemmas.Grind.{flat_map-append}
use Rattle.std.proofs.lemmas.List.Concat.{flat_map_single}
use Rattle.ev_graph.specs.declared.events.TrapKind.{TrapKind}
use Rattle.x64_syntax.specs.Formed.{IsFormed, IsInRegister, IsNumber, IsCount, ArePair}
use Rattle.x64_syntax.specs.Slots.{slot, slots, read_slots, write_slots, change_slots, compare_slots, move_slots, combine_slots, alu_slots, push_slots, pop_slots, jump_slots, pushed, popped}
use Rattle.x64_syntax.specs.declared.instr.AluOp.{AluOp}
use Rattle.x64_syntax.specs.declared.instr.AluOp.TheVariants as op
use Rattle.alu_width.specs.declared.operations.Rotate.{Rotate}
use Rattle.alu_width.specs.declared.operations.Shift.{Shift}
use Rattle.x64_syntax.specs.declared.instr.ShiftOp.{ShiftOp}
use Rattle.x64_syntax.specs.declared.instr.ShiftOp.TheVariants as shift
use Rattle.x64_syntax.specs.declared.instr.Instr.{Instr}
use Rattle.x64_syntax.specs.declared.instr.Instr.TheVariants as instr
use Rattle.x64_syntax.specs.declared.instr_slots.InstrSlot.{InstrSlot}
use Rattle.x64_syntax.specs.declared.instr_slots.SlotPlace.{SlotPlace}
use Rattle.x64_syntax.specs.declared.instr_slots.SlotPlace.TheVariants as stands
use Rattle.x64_syntax.specs.declared.slots.Slot.{Slot}
use Rattle.x64_syntax.specs.declared.slots.SlotKind.{SlotKind}
use Rattle.x64_syntax.specs.declared.slots.SlotKind.TheVariants.{Read, Write, Locked}
use Rattle.x64_syntax.specs.declared.operand.Operand.{Operand}
use Rattle.x64_syntax.specs.declared.operand.Operand.TheVariants as operand
use Rattle.x64_syntax.specs.declared.operand.Mem.{Mem}
use Rattle.x64_syntax.specs.declared.operand.Reg.{Reg}
use Rattle.x64_syntax.specs.declared.operand.Width.{Width}
use Rattle.x64_syntax.specs.declared.operand.Width.TheVariants as width
use Rattle.x64_syntax.specs.declared.placed.Flow.{Flow}
use Rattle.x64_syntax.specs.declared.placed.Flow.TheVariants as flow
use Rattle.x64_table.specs.State.{rax}
use Rattle.limm_ir.specs.declared.step.IrFence.{IrFence}
use Rattle.limm_ir.specs.declared.step.IrFence.TheVariants.{Fsc}
use Rattle.limm_ir.specs.declared.step.IrStep.{IrStep}
use Rattle.limm_ir.specs.declared.step.IrStep.TheVariants as steps
use Rattle.limm_ir.specs.declared.step.RmwOp.{RmwOp}
use Rattle.limm_ir.specs.declared.step.Temp.{Temp}
use Rattle.lift_alu.specs.Built.{is_lifted}
use Rattle.lift_alu.specs.Formulas.{Formula, Kept, Number, Register, Flag, Operation, Choice, computes, size, Lifting, done, keeps, sets_register, sets_flag, loads, stores}
use Rattle.lift_alu.specs.Flags.{sets_result, sets_flags}
use Rattle.lift_alu.specs.Locks.{modifies, replaces}
use Rattle.lift_alu.specs.Products.{sets_pairs, sets_over}
use Rattle.lift_alu.specs.Quotients.{traps_if, sets_zeros}
use Rattle.lift_alu.specs.Lifted.{puts_word, puts_halves, puts_product, multiplies, multiplies_into, puts_bytes, puts_parts, puts_quotient}
use Rattle.lift_alu.specs.Lifted.{divides_by, divides}
use Rattle.lift_alu.specs.Lifted.{locks, modifies_there, replaces_there, combines_locked, increments_locked, decrements_locked}
use Rattle.lift_alu.specs.Lifted.{inverts_locked, swaps, adds_locked, compares_locked}
use Rattle.lift_alu.specs.declared.shifts.Count.{Count}
use Rattle.lift_alu.specs.declared.shifts.Count.TheVariants.{Fixed}
use Rattle.lift_alu.specs.Shifts.{shift_flags}
use Rattle.lift_alu.specs.Turns.{turn_flags}
use Rattle.lift_alu.specs.Lifted.{puts, fetches, finds, reads_there, writes_there, puts_there, moves, puts_operand, changes, flags_of, compares, combines, lifts_alu, takes_address, exchanges, adds_exchanged, pushes, pops, leaves_frame, chooses, lifts, writes_return, calls, jumps, lifts_with}
use Rattle.lift_alu.specs.Lifted.{shifts_by, rewrites, shifts_number, shifts}
use Rattle.lift_alu.proofs.ShiftRules.{one_of_two}
use Rattle.lift_alu.specs.Marks.{step_slots, step_fences, instr_fences}

-- a step that neither accesses memory nor is a fence
abbrev IsBare : IrStep → Type 0
IsBare (steps.Load t a size place) = ⊥
IsBare (steps.Store a v size place) = ⊥
IsBare (steps.Rmw o t a v size place) = ⊥
IsBare (steps.Cas t a e v size place) = ⊥
IsBare (steps.Fence f) = ⊥
IsBare x = Unit {0}

-- What is told of a step: nothing of a bare one, what an access's kind says of one at a place, and something of a full fence.
record Tells {A : Type 0} (tell : IrStep → List A) (says : SlotKind → List A) (full : List A) (at : ℕ) : Type 0 where
  bare : (x : IrStep) → IsBare x → tell x ≡ []
  load : (t a : Temp) (bytes : ℕ) → tell (steps.Load t a bytes at) ≡ says Read
  store : (a v : Temp) (bytes : ℕ) → tell (steps.Store a v bytes at) ≡ says Write
  rmw : (o : RmwOp) (t a v : Temp) (bytes : ℕ) → tell (steps.Rmw o t a v bytes at) ≡ says Locked
  cas : (t a e v : Temp) (bytes : ℕ) → tell (steps.Cas t a e v bytes at) ≡ says Locked
  fence : tell (steps.Fence Fsc) ≡ full

module _ {A : Type 0} (tell : IrStep → List A) (says : SlotKind → List A) (full : List A) (at : ℕ) (tells : Tells tell says full at) (after : ℕ) where
  -- what accesses say
  abbrev said : List InstrSlot → List A
  said ss = flat_map (λ (s : InstrSlot). says s.kind) ss

  -- what is told of a first step, and of those behind it
  step : (x : IrStep) (xs : List IrStep) (told more : List A) → tell x ≡ told → flat_map tell xs ≡ more → flat_map tell (x ∷ xs) ≡ told ++ more
  step x xs told more one others = ap (λ l. l ++ flat_map tell xs) one ∙ ap (λ l. told ++ l) others

  -- of two parts, where nothing is told of the first
  behind : (xs ys : List IrStep) → flat_map tell xs ≡ [] → (more : List A) → flat_map tell ys ≡ more → flat_map tell (xs ++ ys) ≡ more
  behind xs ys none more others = flat_map-append tell xs ys ∙ ap (λ l. l ++ flat_map tell ys) none ∙ others

  -- nothing is told of what is computed
  computes_bare : (next : ℕ) (e : Formula) → flat_map tell (computes next e) ≡ []
  computes_bare next (Kept t) = refl
  computes_bare next (Number n) = step _ [] [] [] (tells.bare _ tt) refl
  computes_bare next (Register r) = step _ [] [] [] (tells.bare _ tt) refl
  computes_bare next (Flag f) = step _ [] [] [] (tells.bare _ tt) refl
  computes_bare next (Operation o a b) =
      behind (computes next a) _ (computes_bare next a) [] (behind (computes (next + size a) b) _ (computes_bare (next + size a) b) [] (step _ [] [] [] (tells.bare _ tt) refl))
  computes_bare next (Choice c a b) =
      behind (computes next c) _ (computes_bare next c) [] (behind (computes (next + size c) a) _ (computes_bare (next + size c) a) []
      (behind (computes (next + size c + size a) b) _ (computes_bare (next + size c + size a) b) [] (step _ [] [] [] (tells.bare _ tt) refl)))

  -- the steps tell what the accesses say, whatever the next temporary is
  abbrev Makes : List InstrSlot → Lifting → Type 0
  Makes ss l = (next : ℕ) → flat_map tell (l next) ≡ said ss

  abbrev MakesBy : List InstrSlot → (Formula → Lifting) → Type 0
  MakesBy ss rest = (a : Formula) → Makes ss (rest a)

  done_makes : Makes [] done
  done_makes next = refl

  keeps_makes : (ss : List InstrSlot) (e : Formula) (rest : Formula → Lifting) → MakesBy ss rest → Makes ss (keeps e rest)
  unfolding keeps
  keeps_makes ss e rest later next = behind (computes next e) _ (computes_bare next e) (said ss) (later _ (next + size e))

  register_makes : (ss : List InstrSlot) (r : ℕ) (e : Formula) (rest : Lifting) → Makes ss rest → Makes ss (sets_register r e rest)
  unfolding sets_register
  register_makes ss r e rest later next = behind (computes next e) _ (computes_bare next e) (said ss) (step _ _ [] (said ss) (tells.bare _ tt) (later (next + size e)))

  flag_makes : (ss : List InstrSlot) (f : ℕ) (e : Formula) (rest : Lifting) → Makes ss rest → Makes ss (sets_flag f e rest)
  unfolding sets_flag
  flag_makes ss f e rest later next = behind (computes next e) _ (computes_bare next e) (said ss) (step _ _ [] (said ss) (tells.bare _ tt) (later (next + size e)))

  loads_make : (ss : List InstrSlot) (p : SlotPlace) (bytes : ℕ) (address : Formula) (rest : Formula → Lifting) → MakesBy ss rest
      → Makes (slot Read p ∷ ss) (loads at bytes address rest)
  unfolding loads
  loads_make ss p bytes address rest later next =
      behind (computes next address) _ (computes_bare next address) _ (step _ _ (says Read) (said ss) (tells.load _ _ bytes) (later _ (next + size address + 1)))

  stores_make : (ss : List InstrSlot) (p : SlotPlace) (bytes address v : ℕ) (rest : Lifting) → Makes ss rest → Makes (slot Write p ∷ ss) (stores at bytes address v rest)
  unfolding stores
  stores_make ss p bytes address v rest later next = step _ _ (says Write) (said ss) (tells.store _ _ bytes) (later next)

  modifies_make : (ss : List InstrSlot) (p : SlotPlace) (o : RmwOp) (bytes address v : ℕ) (rest : Formula → Lifting) → MakesBy ss rest
      → Makes (slot Locked p ∷ ss) (modifies o at bytes address v rest)
  unfolding modifies
  modifies_make ss p o bytes address v rest later next = step _ _ (says Locked) (said ss) (tells.rmw o _ _ _ bytes) (later _ (next + 1))

  replaces_make : (ss : List InstrSlot) (p : SlotPlace) (bytes address e v : ℕ) (rest : Formula → Lifting) → MakesBy ss rest
      → Makes (slot Locked p ∷ ss) (replaces at bytes address e v rest)
  unfolding replaces
  replaces_make ss p bytes address e v rest later next = step _ _ (says Locked) (said ss) (tells.cas _ _ _ _ bytes) (later _ (next + 1))

  locks_make : (o : RmwOp) (w : Width) (m : Mem) (e : Formula) (rest : Formula → Lifting) → MakesBy [] rest
      → Makes (change_slots true (operand.Mem m)) (locks at after o w (operand.Mem m) e rest)
  unfolding locks finds modifies_there
  locks_make o w m e rest later =
      let ss = change_slots true (operand.Mem m) in
      keeps_makes ss _ _ (λ a. keeps_makes ss e _ (λ v. modifies_make [] (stands.Operand m) o _ _ _ rest later))

  result_makes : (ss : List InstrSlot) (w : Width) (overflow r : Formula) (rest : Lifting) → Makes ss rest → Makes ss (sets_result w overflow r rest)
  unfolding sets_result
  result_makes ss w overflow r rest later = flag_makes ss 3 overflow _ (flag_makes ss 1 _ _ (flag_makes ss 2 _ rest later))

  flags_make : (ss : List InstrSlot) (w : Width) (overflow carry r : Formula) (rest : Lifting) → Makes ss rest → Makes ss (sets_flags w overflow carry r rest)
  unfolding sets_flags
  flags_make ss w overflow carry r rest later = result_makes ss w overflow r _ (flag_makes ss 0 carry rest later)

  puts_makes : (ss : List InstrSlot) (w : Width) (r : Reg) (e : Formula) (rest : Lifting) → Makes ss rest → Makes ss (puts w r e rest)
  unfolding puts
  puts_makes ss w r e rest later = register_makes ss r.number _ rest later

  fetches_make : (ss : List InstrSlot) (w : Width) (o : Operand) (rest : Formula → Lifting) → MakesBy ss rest → Makes (read_slots o ++ ss) (fetches at after w o rest)
  unfolding fetches
  fetches_make ss w (operand.Reg r) rest later = keeps_makes ss _ rest later
  fetches_make ss w (operand.Mem m) rest later = loads_make ss (stands.Operand m) _ _ rest later
  fetches_make ss w (operand.Imm n) rest later = keeps_makes ss _ rest later

  -- a move, as the last access
  moves_make : (w : Width) (to : Operand) (e : Formula) → Makes (write_slots to) (moves at after w to e done)
  unfolding moves finds writes_there puts_there
  moves_make w (operand.Reg r) e = puts_makes [] w r e done done_makes
  moves_make w (operand.Mem m) e = keeps_makes (write_slots (operand.Mem m)) _ _ (λ a. stores_make [] (stands.Operand m) _ _ _ done done_makes)
  moves_make w (operand.Imm n) e = done_makes

  -- an operand that is in a register gets a value
  operand_makes : (ss : List InstrSlot) (w : Width) (to : Operand) (e : Formula) (rest : Lifting) → Makes ss rest → Makes ss (puts_operand at after w to e rest)
  unfolding puts_operand
  operand_makes ss w (operand.Reg r) e rest later = puts_makes ss w r e rest later
  operand_makes ss w (operand.Mem m) e rest later = later
  operand_makes ss w (operand.Imm n) e rest later = later

  changes_make : (w : Width) (to : Operand) (new : Formula → Formula) (flags : Formula → Formula → Lifting → Lifting)
      → ((a r : Formula) (rest : Lifting) → Makes [] rest → Makes [] (flags a r rest)) → Makes (change_slots false to) (changes at after w to new flags)
  unfolding changes finds reads_there writes_there puts_there
  changes_make w (operand.Reg q) new flags each = keeps_makes [] _ _ (λ a. keeps_makes [] (new a) _ (λ r. each a r _ (puts_makes [] w q r done done_makes)))
  changes_make w (operand.Mem m) new flags each =
      keeps_makes (change_slots false (operand.Mem m)) _ _ (λ b. loads_make (write_slots (operand.Mem m)) (stands.Operand m) _ _ _
      (λ a. keeps_makes (write_slots (operand.Mem m)) (new a) _ (λ r. stores_make [] (stands.Operand m) _ _ _ _ (each a r done done_makes))))
  changes_make w (operand.Imm n) new flags each = keeps_makes [] _ _ (λ a. keeps_makes [] (new a) _ (λ r. each a r done done_makes))

  flags_of_make : (o : AluOp) (w : Width) (a b r : Formula) (rest : Lifting) → Makes [] rest → Makes [] (flags_of at after o w a b r rest)
  flags_of_make op.Add w a b r rest later = flags_make [] w _ _ r rest later
  flags_of_make op.Or w a b r rest later = flags_make [] w _ _ r rest later
  flags_of_make op.Adc w a b r rest later = flags_make [] w _ _ r rest later
  flags_of_make op.Sbb w a b r rest later = flags_make [] w _ _ r rest later
  flags_of_make op.And w a b r rest later = flags_make [] w _ _ r rest later
  flags_of_make op.Sub w a b r rest later = flags_make [] w _ _ r rest later
  flags_of_make op.Xor w a b r rest later = flags_make [] w _ _ r rest later
  flags_of_make op.Cmp w a b r rest later = flags_make [] w _ _ r rest later

  -- the accesses of a pair of operands, at most one of which is memory
  compared : (w : Width) (to from : Operand) → ArePair w to from → read_slots to ++ (read_slots from ++ []) ≡ compare_slots to from
  compared w (operand.Reg r) from pair = append-nil (read_slots from)
  compared w (operand.Imm n) from pair = append-nil (read_slots from)
  compared w (operand.Mem m) (operand.Reg r) pair = refl
  compared w (operand.Mem m) (operand.Imm n) pair = refl
  compared w (operand.Mem m) (operand.Mem n) (inl both) = absurd both.1
  compared w (operand.Mem m) (operand.Mem n) (inr (inl both)) = absurd both.0
  compared w (operand.Mem m) (operand.Mem n) (inr (inr both)) = absurd both.1

  moved : (w : Width) (to from : Operand) → ArePair w to from → read_slots from ++ write_slots to ≡ move_slots to from
  moved w (operand.Reg r) from pair = append-nil (read_slots from)
  moved w (operand.Imm n) from pair = append-nil (read_slots from)
  moved w (operand.Mem m) (operand.Reg r) pair = refl
  moved w (operand.Mem m) (operand.Imm n) pair = refl
  moved w (operand.Mem m) (operand.Mem n) (inl both) = absurd both.1
  moved w (operand.Mem m) (operand.Mem n) (inr (inl both)) = absurd both.0
  moved w (operand.Mem m) (operand.Mem n) (inr (inr both)) = absurd both.1

  combined : (w : Width) (to from : Operand) → ArePair w to from → read_slots from ++ change_slots false to ≡ combine_slots false to from
  combined w (operand.Reg r) from pair = append-nil (read_slots from)
  combined w (operand.Imm n) from pair = append-nil (read_slots from)
  combined w (operand.Mem m) (operand.Reg r) pair = refl
  combined w (operand.Mem m) (operand.Imm n) pair = refl
  combined w (operand.Mem m) (operand.Mem n) (inl both) = absurd both.1
  combined w (operand.Mem m) (operand.Mem n) (inr (inl both)) = absurd both.0
  combined w (operand.Mem m) (operand.Mem n) (inr (inr both)) = absurd both.1

  compares_make : (o : AluOp) (w : Width) (to from : Operand) → ArePair w to from → Makes (compare_slots to from) (compares at after o w to from)
  unfolding compares
  compares_make o w to from pair = subst (λ ss. Makes ss (compares at after o w to from)) (compared w to from pair)
      (fetches_make (read_slots from ++ []) w to _ (λ a. fetches_make [] w from _ (λ b. keeps_makes [] _ _ (λ r. flags_of_make o w a b r done done_makes))))

  combines_make : (o : AluOp) (w : Width) (to from : Operand) → ArePair w to from → Makes (combine_slots false to from) (combines at after o w to from)
  unfolding combines
  combines_make o w to from pair = subst (λ ss. Makes ss (combines at after o w to from)) (combined w to from pair)
      (fetches_make (change_slots false to) w from _ (λ b. changes_make w to _ _ (λ a r rest later. flags_of_make o w a b r rest later)))

  alu_makes : (o : AluOp) (w : Width) (to from : Operand) → ArePair w to from → Makes (alu_slots o false to from) (lifts_alu at after o w to from)
  alu_makes op.Cmp w to from pair = compares_make op.Cmp w to from pair
  alu_makes op.Add w to from pair = combines_make op.Add w to from pair
  alu_makes op.Or w to from pair = combines_make op.Or w to from pair
  alu_makes op.Adc w to from pair = combines_make op.Adc w to from pair
  alu_makes op.Sbb w to from pair = combines_make op.Sbb w to from pair
  alu_makes op.And w to from pair = combines_make op.And w to from pair
  alu_makes op.Sub w to from pair = combines_make op.Sub w to from pair
  alu_makes op.Xor w to from pair = combines_make op.Xor w to from pair

  copies_make : (w : Width) (to from : Operand) → ArePair w to from → Makes (move_slots to from) (fetches at after w from (λ v. moves at after w to v done))
  copies_make w to from pair = subst (λ ss. Makes ss (fetches at after w from (λ v. moves at after w to v done))) (moved w to from pair)
      (fetches_make (write_slots to) w from _ (λ v. moves_make w to v))

  -- a value is fetched, and a register gets what becomes of it
  widens_make : (v w : Width) (to from : Operand) (new : Formula → Formula)
      → Makes (read_slots from) (fetches at after v from (λ a. puts_operand at after w to (new a) done))
  widens_make v w to from new = subst (λ ss. Makes ss (fetches at after v from (λ a. puts_operand at after w to (new a) done))) (append-nil (read_slots from))
      (fetches_make [] v from _ (λ a. operand_makes [] w to _ done done_makes))

  address_makes : (w : Width) (to from : Operand) → Makes [] (takes_address at after w to from)
  unfolding takes_address
  address_makes w to (operand.Mem m) = operand_makes [] w to _ done done_makes
  address_makes w to (operand.Reg r) = done_makes
  address_makes w to (operand.Imm n) = done_makes

  exchanges_make : (w : Width) (to from : Reg) → Makes [] (exchanges at after w (operand.Reg to) (operand.Reg from))
  unfolding exchanges
  exchanges_make w to from =
      fetches_make [] w (operand.Reg to) _ (λ a. fetches_make [] w (operand.Reg from) _ (λ b. operand_makes [] w (operand.Reg from) a _ (operand_makes [] w (operand.Reg to) b done done_makes)))

  adds_make : (w : Width) (to from : Reg) → Makes [] (adds_exchanged at after w (operand.Reg to) (operand.Reg from))
  unfolding adds_exchanged
  adds_make w to from = fetches_make [] w (operand.Reg to) _ (λ a. fetches_make [] w (operand.Reg from) _ (λ b. keeps_makes [] _ _
      (λ r. flags_of_make op.Add w a b r _ (operand_makes [] w (operand.Reg from) a _ (operand_makes [] w (operand.Reg to) r done done_makes)))))

  -- what stands beside locked memory is a register or a number
  plain_slots : (w : Width) (m : Mem) (from : Operand) → ArePair w (operand.Mem m) from → read_slots from ≡ []
  plain_slots w m (operand.Reg r) pair = refl
  plain_slots w m (operand.Imm n) pair = refl
  plain_slots w m (operand.Mem n) (inl both) = absurd both.1
  plain_slots w m (operand.Mem n) (inr (inl both)) = absurd both.0
  plain_slots w m (operand.Mem n) (inr (inr both)) = absurd both.1

  -- it is fetched, and then memory is locked
  fetched_make : (w : Width) (m : Mem) (from : Operand) (rest : Formula → Lifting) → read_slots from ≡ []
      → MakesBy (change_slots true (operand.Mem m)) rest
      → Makes (change_slots true (operand.Mem m)) (fetches at after w from rest)
  fetched_make w m from rest none later =
      subst (λ ss. Makes (ss ++ change_slots true (operand.Mem m)) (fetches at after w from rest)) none
      (fetches_make (change_slots true (operand.Mem m)) w from rest later)

  combines_locked_make : (o : AluOp) (w : Width) (m : Mem) (from : Operand) → ArePair w (operand.Mem m) from
      → Makes (change_slots true (operand.Mem m)) (combines_locked at after o w (operand.Mem m) from)
  unfolding combines_locked
  combines_locked_make o w m from pair =
      fetched_make w m from _ (plain_slots w m from pair)
      (λ b. locks_make _ w m _ _ (λ a. keeps_makes [] _ _ (λ r. flags_of_make o w a b r done done_makes)))

  increments_locked_make : (w : Width) (m : Mem) → Makes (change_slots true (operand.Mem m)) (increments_locked at after w (operand.Mem m))
  unfolding increments_locked
  increments_locked_make w m = locks_make _ w m _ _ (λ a. keeps_makes [] _ _ (λ r. result_makes [] w _ r done done_makes))

  decrements_locked_make : (w : Width) (m : Mem) → Makes (change_slots true (operand.Mem m)) (decrements_locked at after w (operand.Mem m))
  unfolding decrements_locked
  decrements_locked_make w m = locks_make _ w m _ _ (λ a. keeps_makes [] _ _ (λ r. result_makes [] w _ r done done_makes))

  inverts_locked_make : (w : Width) (m : Mem) → Makes (change_slots true (operand.Mem m)) (inverts_locked at after w (operand.Mem m))
  unfolding inverts_locked
  inverts_locked_make w m = locks_make _ w m _ _ (λ a. done_makes)

  module _ (w : Width) (m : Mem) (from : Reg) where
    swaps_make : Makes (change_slots true (operand.Mem m)) (swaps at after w (operand.Mem m) (operand.Reg from))
    unfolding swaps
    swaps_make =
        fetched_make w m (operand.Reg from) _ refl
        (λ b. locks_make _ w m _ _ (λ a. operand_makes [] w (operand.Reg from) a done done_makes))

    adds_locked_make : Makes (change_slots true (operand.Mem m)) (adds_locked at after w (operand.Mem m) (operand.Reg from))
    unfolding adds_locked
    adds_locked_make = fetched_make w m (operand.Reg from) _ refl (λ b. locks_make _ w m _ _ (λ a. keeps_makes [] _ _
        (λ r. flags_of_make op.Add w a b r _ (operand_makes [] w (operand.Reg from) a done done_makes))))

    compares_locked_make : Makes (change_slots true (operand.Mem m)) (compares_locked at after w (operand.Mem m) (operand.Reg from))
    unfolding compares_locked finds replaces_there
    compares_locked_make =
        let ss = change_slots true (operand.Mem m) in
        fetched_make w m (operand.Reg rax) _ refl
        (λ e. fetched_make w m (operand.Reg from) _ refl (λ v. keeps_makes ss _ _ (λ a. replaces_make [] (stands.Operand m) _ _ _ _ _
        (λ old. keeps_makes [] _ _ (λ r. flags_of_make op.Cmp w e old r _ (register_makes [] 0 _ done done_makes))))))

  -- locked memory of one of the eight operations
  alu_locked_make : (o : AluOp) → o ≢ op.Cmp → (w : Width) (m : Mem) (from : Operand) → ArePair w (operand.Mem m) from
      → Makes (alu_slots o true (operand.Mem m) from) (combines_locked at after o w (operand.Mem m) from)
  alu_locked_make op.Cmp other w m from pair = absurd (other refl)
  alu_locked_make op.Add other w m from pair = combines_locked_make op.Add w m from pair
  alu_locked_make op.Or other w m from pair = combines_locked_make op.Or w m from pair
  alu_locked_make op.Adc other w m from pair = combines_locked_make op.Adc w m from pair
  alu_locked_make op.Sbb other w m from pair = combines_locked_make op.Sbb w m from pair
  alu_locked_make op.And other w m from pair = combines_locked_make op.And w m from pair
  alu_locked_make op.Sub other w m from pair = combines_locked_make op.Sub w m from pair
  alu_locked_make op.Xor other w m from pair = combines_locked_make op.Xor w m from pair

  pushed_slots : (from : Operand) → read_slots from ++ (pushed ∷ []) ≡ push_slots from
  pushed_slots (operand.Reg r) = refl
  pushed_slots (operand.Mem m) = refl
  pushed_slots (operand.Imm n) = refl

  pushes_make : (from : Operand) → Makes (push_slots from) (pushes at after from)
  unfolding pushes
  pushes_make from = subst (λ ss. Makes ss (pushes at after from)) (pushed_slots from)
      (fetches_make (pushed ∷ []) _ from _ (λ v. keeps_makes (pushed ∷ []) _ _ (λ below. stores_make [] stands.Stack 8 _ _ _ (register_makes [] 4 below done done_makes))))

  pops_make : (ss : List InstrSlot) (rest : Formula → Lifting) → MakesBy ss rest → Makes (popped ∷ ss) (pops at after rest)
  unfolding pops
  pops_make ss rest later = loads_make ss stands.Stack 8 _ _ (λ v. register_makes ss 4 _ (rest v) (later v))

  popped_slots : (to : Operand) → popped ∷ write_slots to ≡ pop_slots to
  popped_slots (operand.Reg r) = refl
  popped_slots (operand.Mem m) = refl
  popped_slots (operand.Imm n) = refl

  pops_to_make : (w : Width) (to : Operand) → Makes (pop_slots to) (pops at after (λ v. moves at after w to v done))
  pops_to_make w to = subst (λ ss. Makes ss (pops at after (λ v. moves at after w to v done))) (popped_slots to) (pops_make (write_slots to) _ (λ v. moves_make w to v))

  leaves_make : Makes (popped ∷ []) (leaves_frame at after)
  unfolding leaves_frame
  leaves_make = loads_make [] stands.Stack 8 _ _ (λ v. register_makes [] 4 _ _ (register_makes [] 5 v done done_makes))

  chooses_make : (code : ℕ) (w : Width) (to : Operand) (v : Formula) → Makes [] (chooses at after code w to v)
  unfolding chooses
  chooses_make code w (operand.Reg r) v = puts_makes [] w r _ done done_makes
  chooses_make code w (operand.Mem m) v = done_makes
  chooses_make code w (operand.Imm n) v = done_makes

  chosen_makes : (code : ℕ) (w : Width) (to from : Operand) → Makes (read_slots from) (fetches at after w from (λ v. chooses at after code w to v))
  chosen_makes code w to from = subst (λ ss. Makes ss (fetches at after w from (λ v. chooses at after code w to v))) (append-nil (read_slots from))
      (fetches_make [] w from _ (λ v. chooses_make code w to v))

  returns_make : (rest : Formula → Lifting) → MakesBy [] rest → Makes (pushed ∷ []) (writes_return at after rest)
  unfolding writes_return
  returns_make rest later = keeps_makes (pushed ∷ []) _ _ (λ v. keeps_makes (pushed ∷ []) _ _ (λ b. stores_make [] stands.Stack 8 _ _ (rest b) (later b)))

  calls_make : (f : Flow) → Makes (pushed ∷ []) (calls at after f)
  unfolding calls
  calls_make flow.ListedIn = returns_make _ (λ b next. step _ [] [] [] (tells.bare _ tt) refl)
  calls_make flow.ListedOut = returns_make _ (λ b next. step _ [] [] [] (tells.bare _ tt) refl)
  calls_make flow.Plain = returns_make _ (λ b. register_makes [] 4 b done done_makes)
  calls_make flow.TableJump = returns_make _ (λ b. register_makes [] 4 b done done_makes)

  jumps_make : (f : Flow) → Makes (jump_slots f) (jumps at after f)
  unfolding jumps
  jumps_make flow.ListedIn = λ next. step _ _ [] _ (tells.bare _ tt) (pops_make [] _ (λ v. done_makes) next)
  jumps_make flow.ListedOut = λ next. step _ _ [] _ (tells.bare _ tt) (pops_make [] _ (λ v. done_makes) next)
  jumps_make flow.Plain = done_makes
  jumps_make flow.TableJump = done_makes

  -- products

  pairs_make : (over other : Formula) (rest : Lifting) → Makes [] rest → Makes [] (sets_pairs over other rest)
  unfolding sets_pairs
  pairs_make over other rest later =
      flag_makes [] 3 _ _ (flag_makes [] 1 _ _ (flag_makes [] 2 _ _ (flag_makes [] 0 _ rest later)))

  over_makes : (e : Formula) (rest : Lifting) → Makes [] rest → Makes [] (sets_over e rest)
  unfolding sets_over
  over_makes e rest later = keeps_makes [] e _ (λ o. keeps_makes [] _ _ (λ zero. pairs_make o zero rest later))

  product_makes : (sign : Bool) (w : Width) (a b p : Formula) → Makes [] (puts_product sign w a b p)
  unfolding puts_product puts_word puts_halves
  product_makes sign width.Byte a b p = over_makes _ _ (puts_makes [] _ _ _ done done_makes)
  product_makes sign w a b p = keeps_makes [] _ _ (λ high. over_makes _ _ (puts_makes [] w _ _ _ (puts_makes [] w _ high done done_makes)))

  multiplies_make : (sign : Bool) (w : Width) (from : Operand) → Makes (read_slots from) (multiplies at after sign w from)
  unfolding multiplies
  multiplies_make sign w from = subst (λ ss. Makes ss (multiplies at after sign w from)) (append-nil (read_slots from))
      (fetches_make [] w from _ (λ b. keeps_makes [] _ _ (λ a. keeps_makes [] _ _ (λ p. product_makes sign w a b p))))

  multiplies_into_makes : (w : Width) (to first second : Operand)
      → Makes (read_slots first ++ (read_slots second ++ [])) (multiplies_into at after w to first second)
  unfolding multiplies_into
  multiplies_into_makes w to first second =
      fetches_make (read_slots second ++ []) w first _
      (λ a. fetches_make [] w second _ (λ b. keeps_makes [] _ _ (λ p. over_makes _ _ (operand_makes [] w to _ done done_makes))))

  -- a register is multiplied by an operand, or an operand by a number
  imul_two_makes : (w : Width) (to from : Operand) → IsInRegister w to → Makes (read_slots from) (multiplies_into at after w to to from)
  imul_two_makes w (operand.Reg r) from is =
      subst (λ ss. Makes ss (multiplies_into at after w (operand.Reg r) (operand.Reg r) from)) (append-nil (read_slots from))
      (multiplies_into_makes w (operand.Reg r) (operand.Reg r) from)
  imul_two_makes w (operand.Mem m) from is = absurd is
  imul_two_makes w (operand.Imm n) from is = absurd is

  imul_three_makes : (w : Width) (to from by : Operand) → IsNumber w by → Makes (read_slots from) (multiplies_into at after w to from by)
  imul_three_makes w to from (operand.Imm n) is =
      subst (λ ss. Makes ss (multiplies_into at after w to from (operand.Imm n))) (append-nil (read_slots from))
      (multiplies_into_makes w to from (operand.Imm n))
  imul_three_makes w to from (operand.Reg r) is = absurd is
  imul_three_makes w to from (operand.Mem m) is = absurd is

  -- divisions

  traps_make : (kind : TrapKind) (e : Formula) (rest : Lifting) → Makes [] rest → Makes [] (traps_if kind e rest)
  unfolding traps_if
  traps_make kind e rest later next =
      behind (computes next e) _ (computes_bare next e) [] (step _ _ [] [] (tells.bare _ tt) (later (next + size e)))

  zeros_make : (rest : Lifting) → Makes [] rest → Makes [] (sets_zeros rest)
  unfolding sets_zeros
  zeros_make rest later = keeps_makes [] _ _ (λ zero. pairs_make zero zero rest later)

  quotient_makes : (sign : Bool) (w : Width) (q r : Formula) → Makes [] (puts_quotient sign w q r)
  unfolding puts_quotient puts_bytes puts_parts
  quotient_makes sign width.Byte q r = zeros_make _ (puts_makes [] _ _ _ done done_makes)
  quotient_makes sign w q r = zeros_make _ (puts_makes [] w _ _ _ (puts_makes [] w _ _ done done_makes))

  divides_by_makes : (sign : Bool) (w : Width) (by : Formula) → Makes [] (divides_by sign w by)
  unfolding divides_by
  divides_by_makes sign w by =
      traps_make _ _ _ (keeps_makes [] _ _ (λ n. keeps_makes [] _ _
      (λ d. keeps_makes [] _ _ (λ q. traps_make _ _ _ (keeps_makes [] _ _ (λ r. quotient_makes sign w q r))))))

  divides_make : (sign : Bool) (w : Width) (from : Operand) → Makes (read_slots from) (divides at after sign w from)
  unfolding divides
  divides_make sign w from =
      subst (λ ss. Makes ss (divides at after sign w from)) (append-nil (read_slots from))
      (fetches_make [] w from _ (λ by. divides_by_makes sign w by))

  -- shifts and rotates

  shift_flags_make : (o : Shift) (w : Width) (c : Count) (a r : Formula) (rest : Lifting) → Makes [] rest
      → Makes [] (shift_flags o w c a r rest)
  unfolding shift_flags
  shift_flags_make o w c a r rest later = flag_makes [] 3 _ _ (flag_makes [] 1 _ _ (flag_makes [] 2 _ _ (flag_makes [] 0 _ rest later)))

  turn_flags_make : (o : Rotate) (w : Width) (c : Count) (a r : Formula) (rest : Lifting) → Makes [] rest
      → Makes [] (turn_flags o w c a r rest)
  unfolding turn_flags
  turn_flags_make o w c a r rest later = flag_makes [] 3 _ _ (flag_makes [] 0 _ rest later)

  shifts_by_make : (o : ShiftOp) (w : Width) (to : Operand) (c : Count) → Makes (change_slots false to) (shifts_by at after o w to c)
  shifts_by_make shift.Rol w to c = changes_make w to _ _ (turn_flags_make _ w c)
  shifts_by_make shift.Ror w to c = changes_make w to _ _ (turn_flags_make _ w c)
  shifts_by_make shift.Shl w to c = changes_make w to _ _ (shift_flags_make _ w c)
  shifts_by_make shift.Shr w to c = changes_make w to _ _ (shift_flags_make _ w c)
  shifts_by_make shift.Sar w to c = changes_make w to _ _ (shift_flags_make _ w c)

  rewrites_make : (w : Width) (to : Operand) → Makes (change_slots false to) (rewrites at after w to)
  unfolding rewrites
  rewrites_make w to = changes_make w to _ _ (λ a r rest later. later)

  shifts_number_make : (o : ShiftOp) (w : Width) (to : Operand) (n : ℕ) → Makes (change_slots false to) (shifts_number at after o w to n)
  shifts_number_make o w to n =
      one_of_two (Makes (change_slots false to)) (n == 0) _ _ (λ none. rewrites_make _ to) (λ some. shifts_by_make o w to (Fixed n))

  shifts_make : (o : ShiftOp) (w : Width) (to by : Operand) → IsCount by → Makes (change_slots false to) (shifts at after o w to by)
  unfolding shifts
  shifts_make o w to (operand.Imm n) is = shifts_number_make o w to _
  shifts_make o w to (operand.Reg r) is = keeps_makes (change_slots false to) _ _ (λ c. shifts_by_make o w to _)
  shifts_make o w to (operand.Mem m) is = absurd is

  -- what is to be told of an instruction: MFENCE is a full fence, and others are their accesses
  abbrev told : Instr → Flow → List A
  told instr.Mfence f = full
  told i f = said (slots i f)

  -- the steps of an instruction tell just that
  lifts_tell : (f : Flow) (i : Instr) → IsFormed i → is_lifted i ≡ true → (next : ℕ) → flat_map tell (lifts_with at after f i next) ≡ told i f
  unfolding lifts lifts_with
  lifts_tell f (instr.Alu o w (operand.Mem m) from true) formed lifted = alu_locked_make o (formed.1.1 refl) w m from formed.0
  lifts_tell f (instr.Alu o w (operand.Reg r) from true) formed lifted = absurd (let locks = formed.1.0 refl in cc)
  lifts_tell f (instr.Alu o w (operand.Imm n) from true) formed lifted = absurd (let locks = formed.1.0 refl in cc)
  lifts_tell f (instr.Alu o w to from false) formed lifted = alu_makes o w to from formed.0
  lifts_tell f (instr.Test w to from) formed lifted = compares_make op.And w to from formed
  lifts_tell f (instr.Xchg w (operand.Mem m) (operand.Reg q) true) formed lifted = swaps_make w m q
  lifts_tell f (instr.Xchg w (operand.Mem m) (operand.Mem q) true) formed lifted = absurd formed.1.0
  lifts_tell f (instr.Xchg w (operand.Mem m) (operand.Imm q) true) formed lifted = absurd formed.1.0
  lifts_tell f (instr.Xchg w (operand.Reg r) from true) formed lifted = absurd (let locks = formed.1.1 in cc)
  lifts_tell f (instr.Xchg w (operand.Imm n) from true) formed lifted = absurd formed.0
  lifts_tell f (instr.Xchg w (operand.Reg r) (operand.Reg q) false) formed lifted = exchanges_make w r q
  lifts_tell f (instr.Xchg w (operand.Reg r) (operand.Mem m) false) formed lifted = absurd formed.1.0
  lifts_tell f (instr.Xchg w (operand.Reg r) (operand.Imm n) false) formed lifted = absurd formed.1.0
  lifts_tell f (instr.Xchg w (operand.Mem m) from false) formed lifted = absurd (let free = formed.1.1 in cc)
  lifts_tell f (instr.Xchg w (operand.Imm n) from false) formed lifted = absurd formed.0
  lifts_tell f (instr.Mov w to from) formed lifted = copies_make w to from formed
  lifts_tell f (instr.Lea w to from) formed lifted = address_makes w to from
  lifts_tell f (instr.MovZx w v to from) formed lifted = widens_make v w to from _
  lifts_tell f (instr.MovSx w v to from) formed lifted = widens_make v w to from _
  lifts_tell f (instr.MovSxd to from) formed lifted = widens_make _ _ to from _
  lifts_tell f (instr.Push from) formed lifted = pushes_make from
  lifts_tell f (instr.Pop to) formed lifted = pops_to_make _ to
  lifts_tell f instr.Leave formed lifted = leaves_make
  lifts_tell f instr.Ret formed lifted = pops_make [] _ (λ v. done_makes)
  lifts_tell f (instr.SetCc c to) formed lifted = keeps_makes (write_slots to) _ _ (λ v. moves_make _ to v)
  lifts_tell f (instr.CmovCc c w to from) formed lifted = chosen_makes c.code w to from
  lifts_tell f (instr.Inc w (operand.Mem m) true) formed lifted = increments_locked_make w m
  lifts_tell f (instr.Inc w (operand.Reg r) true) formed lifted = absurd (let locks = formed.1 refl in cc)
  lifts_tell f (instr.Inc w (operand.Imm n) true) formed lifted = absurd formed.0
  lifts_tell f (instr.Inc w to false) formed lifted = changes_make w to _ _ (λ a r rest later. result_makes [] w _ r rest later)
  lifts_tell f (instr.Dec w (operand.Mem m) true) formed lifted = decrements_locked_make w m
  lifts_tell f (instr.Dec w (operand.Reg r) true) formed lifted = absurd (let locks = formed.1 refl in cc)
  lifts_tell f (instr.Dec w (operand.Imm n) true) formed lifted = absurd formed.0
  lifts_tell f (instr.Dec w to false) formed lifted = changes_make w to _ _ (λ a r rest later. result_makes [] w _ r rest later)
  lifts_tell f (instr.Not w (operand.Mem m) true) formed lifted = inverts_locked_make w m
  lifts_tell f (instr.Not w (operand.Reg r) true) formed lifted = absurd (let locks = formed.1 refl in cc)
  lifts_tell f (instr.Not w (operand.Imm n) true) formed lifted = absurd formed.0
  lifts_tell f (instr.Not w to false) formed lifted = changes_make w to _ _ (λ a r rest later. later)
  lifts_tell f (instr.Neg w to) formed lifted = changes_make w to _ _ (λ a r rest later. flags_make [] w _ _ r rest later)
  lifts_tell f (instr.Xadd w (operand.Mem m) (operand.Reg q) true) formed lifted = adds_locked_make w m q
  lifts_tell f (instr.Xadd w (operand.Mem m) (operand.Mem q) true) formed lifted = absurd formed.1.0
  lifts_tell f (instr.Xadd w (operand.Mem m) (operand.Imm q) true) formed lifted = absurd formed.1.0
  lifts_tell f (instr.Xadd w (operand.Reg r) from true) formed lifted = absurd (let locks = formed.1.1 in cc)
  lifts_tell f (instr.Xadd w (operand.Imm n) from true) formed lifted = absurd formed.0
  lifts_tell f (instr.Xadd w (operand.Reg r) (operand.Reg q) false) formed lifted = adds_make w r q
  lifts_tell f (instr.Xadd w (operand.Reg r) (operand.Mem m) false) formed lifted = absurd formed.1.0
  lifts_tell f (instr.Xadd w (operand.Reg r) (operand.Imm n) false) formed lifted = absurd formed.1.0
  lifts_tell f (instr.Xadd w (operand.Mem m) from false) formed lifted = absurd (let free = formed.1.1 in cc)
  lifts_tell f (instr.Xadd w (operand.Imm n) from false) formed lifted = absurd formed.0
  lifts_tell f (instr.Widen w) formed lifted = puts_makes [] w _ _ done done_makes
  lifts_tell f (instr.SignFill w) formed lifted = puts_makes [] w _ _ done done_makes
  lifts_tell f instr.Mfence formed lifted = λ next. step _ [] full [] tells.fence refl ∙ append-nil full
  lifts_tell f instr.Nop formed lifted = done_makes
  lifts_tell f instr.Pause formed lifted = done_makes
  lifts_tell f instr.Endbr formed lifted = done_makes
  lifts_tell f instr.Ud2 formed lifted = done_makes
  lifts_tell f (instr.Call d) formed lifted = calls_make f
  lifts_tell f (instr.Jmp d) formed lifted = jumps_make f
  lifts_tell f (instr.Jcc c d) formed lifted = keeps_makes [] _ _ (λ v. done_makes)
  lifts_tell f (instr.CallInd to) formed lifted = absurd (cc)
  lifts_tell f (instr.JmpInd to) formed lifted = absurd (cc)
  lifts_tell f (instr.Mul w from) formed lifted = multiplies_make false w from
  lifts_tell f (instr.ImulOne w from) formed lifted = multiplies_make true w from
  lifts_tell f (instr.Div w from) formed lifted = divides_make false w from
  lifts_tell f (instr.Idiv w from) formed lifted = divides_make true w from
  lifts_tell f (instr.ImulTwo w to from) formed lifted = imul_two_makes w to from formed.1.0
  lifts_tell f (instr.ImulThree w to from by) formed lifted = imul_three_makes w to from by formed.1.1.1
  lifts_tell f (instr.Cmpxchg w (operand.Mem m) (operand.Reg q) true) formed lifted = compares_locked_make w m q
  lifts_tell f (instr.Cmpxchg w (operand.Mem m) (operand.Reg q) false) formed lifted = absurd (let locks = formed.1.1 in cc)
  lifts_tell f (instr.Cmpxchg w (operand.Mem m) (operand.Mem q) locked) formed lifted = absurd formed.1.0
  lifts_tell f (instr.Cmpxchg w (operand.Mem m) (operand.Imm q) locked) formed lifted = absurd formed.1.0
  lifts_tell f (instr.Cmpxchg w (operand.Reg r) from locked) formed lifted = absurd formed.0
  lifts_tell f (instr.Cmpxchg w (operand.Imm n) from locked) formed lifted = absurd formed.0
  lifts_tell f (instr.Shift o w to by) formed lifted = shifts_make o w to by formed.1

-- ---- what steps access

-- the slot of an access at an address
abbrev slot_at : ℕ → SlotKind → List Slot
slot_at at k = record { address = at; kind = k } ∷ []

bare_slots : (x : IrStep) → IsBare x → step_slots x ≡ []
bare_slots (steps.Load t a size place) bare = absurd bare
bare_slots (steps.Store a v size place) bare = absurd bare
bare_slots (steps.Rmw o t a v size place) bare = absurd bare
bare_slots (steps.Cas t a e v size place) bare = absurd bare
bare_slots x bare = refl

tells_slots : (at : ℕ) → Tells step_slots (slot_at at) [] at
tells_slots at = record {
  bare = bare_slots;
  load = λ t a bytes. refl;
  store = λ a v bytes. refl;
  rmw = λ o t a v bytes. refl;
  cas = λ t a e v bytes. refl;
  fence = refl;
}

told_slots : (at after : ℕ) (f : Flow) (i : Instr) → told step_slots (slot_at at) [] at (tells_slots at) after i f ≡ map (λ s. record { address = at; kind = s.kind }) (slots i f)
told_slots at after f instr.Mfence = refl
told_slots at after f i = flat_map_single (λ (s : InstrSlot). record { address = at; kind = s.kind }) (slots i f)

-- the steps of an instruction access its slots, in their order
pub lifts_slots : (at after : ℕ) (f : Flow) (i : Instr) → IsFormed i → is_lifted i ≡ true → (next : ℕ)
    → flat_map step_slots (lifts_with at after f i next) ≡ map (λ s. record { address = at; kind = s.kind }) (slots i f)
lifts_slots at after f i formed lifted next = lifts_tell step_slots (slot_at at) [] at (tells_slots at) after f i formed lifted next ∙ told_slots at after f i

-- ---- which fences they have

bare_fences : (x : IrStep) → IsBare x → step_fences x ≡ []
bare_fences (steps.Fence f) bare = absurd bare
bare_fences x bare = refl

abbrev no_fence : SlotKind → List IrFence
no_fence k = []

tells_fences : (at : ℕ) → Tells step_fences no_fence (Fsc ∷ []) at
tells_fences at = record {
  bare = bare_fences;
  load = λ t a bytes. refl;
  store = λ a v bytes. refl;
  rmw = λ o t a v bytes. refl;
  cas = λ t a e v bytes. refl;
  fence = refl;
}

none_said : (ss : List InstrSlot) → flat_map (λ (s : InstrSlot). no_fence s.kind) ss ≡ []
none_said [] = refl
none_said (s ∷ ss) = none_said ss

told_fences : (at after : ℕ) (f : Flow) (i : Instr) → told step_fences no_fence (Fsc ∷ []) at (tells_fences at) after i f ≡ instr_fences i
told_fences at after f instr.Mfence = refl
told_fences at after f i = none_said (slots i f)

-- the steps of an instruction have a full fence where it is one, and no other
pub lifts_fences : (at after : ℕ) (f : Flow) (i : Instr) → IsFormed i → is_lifted i ≡ true → (next : ℕ)
    → flat_map step_fences (lifts_with at after f i next) ≡ instr_fences i
lifts_fences at after f i formed lifted next =
    lifts_tell step_fences no_fence (Fsc ∷ []) at (tells_fences at) after f i formed lifted next ∙ told_fences at after f i
