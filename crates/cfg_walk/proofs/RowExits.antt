-- How the forms of rows leave: in a state with an address that has a property, and never by a wrong jump.
use Rattle.std.proofs.Common.{◌≡◌, ◌≢◌, ℕ, ◌+◌, ◌%◌, ◌^◌, ◌&&◌, Bool, true, false, [], ◌∷◌, Option, Some, Result, Ok, Err, refl, sym, ◌∙◌, subst}
use Rattle.std.specs.Prelude.{if◌then◌else◌}
use Rattle.alu_width.specs.declared.operations.Quotient.{Quotient}
use Rattle.alu_width.specs.declared.operations.DivFault.{DivFault}
use Rattle.ev_graph.specs.declared.events.End.TheVariants.{Trap}
use Rattle.ev_graph.specs.declared.events.AccessKind.TheVariants as kinds
use Rattle.ev_graph.specs.declared.events.TrapKind.TheVariants.{BadAccess, BadJump, Divide, Invalid}
use Rattle.behavior.specs.Tree.{Acts, Next, Goes, Stops}
use Rattle.behavior.specs.Acts.{Permission, access, makes, reads, writes, exchanges, locked_write, traps}
use Rattle.x64_syntax.specs.declared.instr.AluOp.{AluOp}
use Rattle.x64_syntax.specs.declared.instr.AluOp.TheVariants as op
use Rattle.x64_syntax.specs.declared.instr.ShiftOp.{ShiftOp}
use Rattle.x64_syntax.specs.declared.operand.Operand.{Operand}
use Rattle.x64_syntax.specs.declared.operand.Operand.TheVariants as operand
use Rattle.x64_syntax.specs.declared.operand.Reg.{Reg}
use Rattle.x64_syntax.specs.declared.operand.Width.{Width}
use Rattle.x64_syntax.specs.declared.operand.Width.TheVariants as width
use Rattle.x64_syntax.specs.Operands.{bits}
use Rattle.x64_table.specs.Outcomes.{alu_outcome}
use Rattle.x64_table.specs.State.{Thread, bytes, register, set, address, with_flags, below_stack, jumped, popped, pushed, rax, rbp, rsp, upper}
use Rattle.x64_table.specs.Rows.{Exit, State, Return, Indexed, Row, leaves, puts, puts_double, address_of, exchanged, fetches, stores, changes, combine_row, compare_row, alu_row, xchg_row, xadd_row, cmpxchg_row, compared, mul_row, div_row, divided, imul_row, shift_row, push_row, pop_row, leave_row, returns}
use Rattle.cfg_walk.proofs.Results.{AllNext, next_choice}

-- a row leaves in a state with such an address, or by an address that it has popped, or ends otherwise than by a wrong jump
abbrev pub LeavesTo : (ℕ → Type 0) → Next Exit → Type 0
LeavesTo P (Goes (State t)) = P t.at
LeavesTo P (Goes (Return t v)) = Unit {0}
LeavesTo P (Goes (Indexed t k)) = ⊥
LeavesTo P (Stops end) = end ≢ Trap BadJump

access_is_no_jump : Trap BadAccess ≢ Trap BadJump
access_is_no_jump e = absurd (cc)

division_is_no_jump : Trap Divide ≢ Trap BadJump
division_is_no_jump e = absurd (cc)

pub invalid_is_no_jump : Trap Invalid ≢ Trap BadJump
invalid_is_no_jump e = absurd (cc)

-- a register that gets a value leaves the address
pub set_at : (w : Width) (r : Reg) (v : ℕ) (t : Thread) → (set w r v t).at ≡ t.at
unfolding set
set_at w r v t = refl

pub puts_at : (w : Width) (o : Operand) (v : ℕ) (t : Thread) → (puts w o v t).at ≡ t.at
unfolding puts
puts_at w (operand.Reg r) v t = set_at w r v t
puts_at w (operand.Mem m) v t = refl
puts_at w (operand.Imm n) v t = refl

double_at : (w : Width) (low high : ℕ) (t : Thread) → (puts_double w low high t).at ≡ t.at
unfolding puts_double
double_at w low high t = set_at w (upper w) high _ ∙ set_at w rax low t

pub pushed_at : (t : Thread) → (pushed t).at ≡ t.at
unfolding pushed
pushed_at t = set_at width.Quad rsp (below_stack t) t

popped_at : (t : Thread) → (popped t).at ≡ t.at
unfolding popped
popped_at t = set_at width.Quad rsp _ t

pub jumped_at : (d : ℕ) (t : Thread) → (jumped d t).at ≡ (t.at + d) % 2 ^ 64
unfolding jumped
jumped_at d t = refl

module _ (may : Permission) (place : ℕ) (P : ℕ → Type 0) where
  -- the row leaves so
  abbrev pub Fine : Row → Type 0
  Fine row = AllNext (LeavesTo P) row

  pub same : {a b : ℕ} → a ≡ b → P b → P a
  same e holds = subst P (sym e) holds

  pub reads_fine : (a size : ℕ) (go : ℕ → Row) → ((v : ℕ) → Fine (go v)) → Fine (reads may place a size go)
  reads_fine a size go later =
      next_choice (LeavesTo P) (may false a size) (Acts (256 ^ size) (λ v. access kinds.Read false place a size v ∷ []) go) (traps BadAccess) (λ v lt. later v) access_is_no_jump

  pub writes_fine : (a size value : ℕ) (go : Row) → Fine go → Fine (writes may place a size value go)
  writes_fine a size value go later =
      next_choice (LeavesTo P) (may true a size) (makes (access kinds.Write false place a size (value % 256 ^ size)) go) (traps BadAccess) (λ v lt. later) access_is_no_jump

  pub exchanges_fine : (a size : ℕ) (new : ℕ → Option ℕ) (go : ℕ → Row) → ((v : ℕ) → Fine (go v)) → Fine (exchanges may place a size new go)
  exchanges_fine a size new go later =
      next_choice (LeavesTo P) (may false a size && may true a size) (Acts (256 ^ size) (λ v. access kinds.Read true place a size v ∷ locked_write place a size (new v)) go) (traps BadAccess)
      (λ v lt. later v) access_is_no_jump

  pub fetches_fine : (w : Width) (o : Operand) (t : Thread) (go : ℕ → Row) → ((v : ℕ) → Fine (go v)) → Fine (fetches may place w o t go)
  unfolding fetches
  fetches_fine w (operand.Reg r) t go later = later _
  fetches_fine w (operand.Mem m) t go later = reads_fine (address m t) (bytes w) go later
  fetches_fine w (operand.Imm n) t go later = later n

  pub stores_fine : (w : Width) (o : Operand) (t : Thread) (v : ℕ) (after : Thread) → P after.at → Fine (stores may place w o t v after)
  unfolding stores
  stores_fine w (operand.Reg r) t v after there = same (set_at w r v after) there
  stores_fine w (operand.Mem m) t v after there = writes_fine (address m t) (bytes w) v (leaves after) there
  stores_fine w (operand.Imm n) t v after there = there

  pub changes_fine : (locked : Bool) (w : Width) (o : Operand) (t : Thread) (new : ℕ → ℕ) (after : ℕ → Thread) → ((v : ℕ) → P (after v).at) → Fine (changes may place locked w o t new after)
  unfolding changes
  changes_fine true w (operand.Mem m) t new after there = exchanges_fine (address m t) (bytes w) (λ v. Some (new v)) (λ v. leaves (after v)) there
  changes_fine true w (operand.Reg r) t new after there = fetches_fine w (operand.Reg r) t _ (λ v. stores_fine w (operand.Reg r) t (new v) (after v) (there v))
  changes_fine true w (operand.Imm n) t new after there = fetches_fine w (operand.Imm n) t _ (λ v. stores_fine w (operand.Imm n) t (new v) (after v) (there v))
  changes_fine false w o t new after there = fetches_fine w o t _ (λ v. stores_fine w o t (new v) (after v) (there v))

  pub combine_fine : (o : AluOp) (w : Width) (to from : Operand) (locked : Bool) (t : Thread) → P t.at → Fine (combine_row may place o w to from locked t)
  unfolding combine_row
  combine_fine o w to from locked t there = fetches_fine w from t _ (λ b. changes_fine locked w to t _ _ (λ v. there))

  pub compare_fine : (o : AluOp) (w : Width) (to from : Operand) (t : Thread) → P t.at → Fine (compare_row may place o w to from t)
  unfolding compare_row
  compare_fine o w to from t there = fetches_fine w to t _ (λ a. fetches_fine w from t _ (λ b. there))

  pub alu_fine : (o : AluOp) (w : Width) (to from : Operand) (locked : Bool) (t : Thread) → P t.at → Fine (alu_row may place o w to from locked t)
  unfolding alu_row
  alu_fine op.Cmp w to from locked t there = compare_fine op.Cmp w to from t there
  alu_fine o w to from locked t there = combine_fine o w to from locked t there

  pub xchg_fine : (w : Width) (to from : Operand) (locked : Bool) (t : Thread) → P t.at → Fine (xchg_row may place w to from locked t)
  unfolding xchg_row
  xchg_fine w to from locked t there = changes_fine locked w to t _ _ (λ v. same (puts_at w from v t) there)

  pub xadd_fine : (w : Width) (to from : Operand) (locked : Bool) (t : Thread) → P t.at → Fine (xadd_row may place w to from locked t)
  unfolding xadd_row
  xadd_fine w to from locked t there = changes_fine locked w to t _ _ (λ v. same (puts_at w from v _) there)

  compared_at : (w : Width) (t : Thread) (v : ℕ) → (compared may place w t v).at ≡ t.at
  compared_at w t v = by_choice _
    where
      by_choice : (b : Bool) → (if b then t else set w rax v t).at ≡ t.at
      by_choice true = refl
      by_choice false = set_at w rax v t

  pub cmpxchg_fine : (w : Width) (to from : Operand) (t : Thread) → P t.at → Fine (cmpxchg_row may place w to from t)
  unfolding cmpxchg_row
  cmpxchg_fine w to from t there =
      exchanges_fine (address_of to t) (bytes w) (exchanged may place w from t)
      (λ v. leaves (with_flags (alu_outcome op.Cmp (bits w) (register w rax t) v t.flags).flags (compared may place w t v))) (λ v. same (compared_at w t v) there)

  pub mul_fine : (sign : Bool) (w : Width) (from : Operand) (t : Thread) → P t.at → Fine (mul_row may place sign w from t)
  unfolding mul_row
  mul_fine sign w from t there = fetches_fine w from t _ (λ b. same (double_at w _ _ t) there)

  pub divided_fine : (w : Width) (r : Result Quotient DivFault) (t : Thread) → P t.at → LeavesTo P (divided may place w r t)
  divided_fine w (Ok q) t there = same (double_at w q.quotient q.remainder t) there
  divided_fine w (Err fault) t there = division_is_no_jump

  pub div_fine : (sign : Bool) (w : Width) (from : Operand) (t : Thread) → P t.at → Fine (div_row may place sign w from t)
  unfolding div_row
  div_fine sign w from t there = fetches_fine w from t _ (λ d. divided_fine w _ t there)

  pub imul_fine : (w : Width) (to first second : Operand) (t : Thread) → P t.at → Fine (imul_row may place w to first second t)
  unfolding imul_row
  imul_fine w to first second t there = fetches_fine w first t _ (λ a. fetches_fine w second t _ (λ b. same (puts_at w to _ t) there))

  pub push_fine : (from : Operand) (t : Thread) → P t.at → Fine (push_row may place from t)
  unfolding push_row
  push_fine from t there = fetches_fine width.Quad from t _ (λ v. writes_fine (below_stack t) 8 v _ (same (pushed_at t) there))

  pub pop_fine : (to : Operand) (t : Thread) → P t.at → Fine (pop_row may place to t)
  unfolding pop_row
  pop_fine to t there = reads_fine _ 8 _ (λ v. stores_fine width.Quad to (popped t) v (popped t) (same (popped_at t) there))

  pub leave_fine : (t : Thread) → P t.at → Fine (leave_row may place t)
  unfolding leave_row
  leave_fine t there = reads_fine _ 8 _ (λ v. same (set_at width.Quad rbp v _ ∙ set_at width.Quad rsp _ t) there)

  pub shift_fine : (o : ShiftOp) (w : Width) (to by : Operand) (t : Thread) → P t.at → Fine (shift_row may place o w to by t)
  unfolding shift_row
  shift_fine o w to by t there = fetches_fine width.Byte by t _ (λ count. changes_fine false w to t _ _ (λ v. there))

  pub return_fine : (t : Thread) → Fine (returns may place t)
  unfolding returns
  return_fine t = reads_fine _ 8 _ (λ v. tt)
