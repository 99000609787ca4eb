-- How the rows of instructions leave: each state has an address to which the instruction leads, and none jumps wrong.
use Rattle.std.proofs.Common.{◌≡◌, ◌≢◌, ℕ, zero, suc, ◌+◌, ◌%◌, ◌^◌, Bool, true, false, [], ◌∷◌, Some, refl, sym, ap, ◌∙◌, subst}
use Rattle.std.specs.Prelude.{if◌then◌else◌}
use Rattle.alu_width.specs.Conditions.{condition}
use Rattle.ev_graph.specs.Places.{StandsIn}
use Rattle.behavior.specs.Acts.{Permission}
use Rattle.x64_syntax.specs.declared.instr.AluOp.TheVariants as op
use Rattle.x64_syntax.specs.declared.instr.Instr.{Instr}
use Rattle.x64_syntax.specs.declared.instr.Instr.TheVariants as instr
use Rattle.x64_syntax.specs.declared.operand.Width.TheVariants as width
use Rattle.x64_syntax.specs.declared.placed.Flow.{Flow}
use Rattle.x64_syntax.specs.declared.placed.Flow.TheVariants as flow
use Rattle.x64_table.specs.State.{Thread, below_stack, jumped, pushed, rax, upper}
use Rattle.x64_table.specs.Rows.{called, call_row, jmp_row, acts, row_of}
use Rattle.code_at.specs.Code.{target_from}
use Rattle.cfg_walk.specs.Reach.{after}
use Rattle.cfg_walk.proofs.Results.{AllNext}
use Rattle.cfg_walk.proofs.RowExits.{LeavesTo, set_at, puts_at, pushed_at, jumped_at, invalid_is_no_jump, same, writes_fine, fetches_fine, stores_fine, changes_fine, compare_fine, alu_fine, xchg_fine, xadd_fine, cmpxchg_fine, mul_fine, div_fine, imul_fine, push_fine, pop_fine, leave_fine, shift_fine, return_fine}

-- an instruction that says itself where it leads
abbrev pub IsDirect : Instr → Type 0
IsDirect (instr.CallInd to) = ⊥
IsDirect (instr.JmpInd to) = ⊥
IsDirect i = Unit {0}

module _ (may : Permission) (place : ℕ) (t : Thread) where
  -- control goes on behind the instruction
  abbrev Falls : ℕ → Type 0
  Falls a = StandsIn (t.at ∷ []) a

  here : Falls t.at
  here = (zero, refl)

  jump_fine : (f : Flow) (d : ℕ) → f ≢ flow.TableJump → AllNext (LeavesTo (λ a. StandsIn (after (instr.Jmp d) f t.at) a)) (jmp_row may place f d t)
  unfolding jmp_row
  jump_fine flow.Plain d none = (zero, ap (λ (a : ℕ). Some a) (sym (jumped_at d t)))
  jump_fine flow.ListedIn d none = λ v lt. return_fine may place (λ a. StandsIn [] a) _
  jump_fine flow.ListedOut d none = λ v lt. return_fine may place (λ a. StandsIn [] a) t
  jump_fine flow.TableJump d none = absurd (none refl)

  called_fine : (f : Flow) (d : ℕ) → f ≢ flow.TableJump → AllNext (LeavesTo (λ a. StandsIn (after (instr.Call d) f t.at) a)) (called may place f d t)
  unfolding called
  called_fine flow.Plain d none =
      let at : (jumped d (pushed t)).at ≡ (t.at + d) % 2 ^ 64 = jumped_at d (pushed t) ∙ ap (λ a. (a + d) % 2 ^ 64) (pushed_at t) in
      (zero, ap (λ (a : ℕ). Some a) (sym at))
  called_fine flow.ListedIn d none = λ v lt. (zero, ap (λ (a : ℕ). Some a) (sym (set_at width.Quad rax v t)))
  called_fine flow.ListedOut d none = λ v lt. (zero, refl)
  called_fine flow.TableJump d none = absurd (none refl)

  call_fine : (f : Flow) (d : ℕ) → f ≢ flow.TableJump → AllNext (LeavesTo (λ a. StandsIn (after (instr.Call d) f t.at) a)) (call_row may place f d t)
  unfolding call_row
  call_fine f d none = writes_fine may place (λ a. StandsIn (after (instr.Call d) f t.at) a) (below_stack t) 8 t.at (called may place f d t) (called_fine f d none)

  branch_fine : (d : ℕ) (b : Bool) → StandsIn (target_from t.at d ∷ t.at ∷ []) (if b then jumped d t else t).at
  branch_fine d true = (zero, ap (λ (a : ℕ). Some a) (sym (jumped_at d t)))
  branch_fine d false = (suc zero, refl)

  acts_fine : (i : Instr) (f : Flow) → IsDirect i → f ≢ flow.TableJump → AllNext (LeavesTo (λ a. StandsIn (after i f t.at) a)) (acts may place i f t)
  unfolding acts
  acts_fine (instr.Alu o w to from locked) f direct none = alu_fine may place Falls o w to from locked t here
  acts_fine (instr.Test w to from) f direct none = compare_fine may place Falls op.And w to from t here
  acts_fine (instr.Xchg w to from locked) f direct none = xchg_fine may place Falls w to from locked t here
  acts_fine (instr.Mov w to from) f direct none = fetches_fine may place Falls w from t _ (λ v. stores_fine may place Falls w to t v t here)
  acts_fine (instr.Lea w to from) f direct none = same may place Falls (puts_at w to _ t) here
  acts_fine (instr.MovZx w v to from) f direct none = fetches_fine may place Falls v from t _ (λ a. same may place Falls (puts_at w to _ t) here)
  acts_fine (instr.MovSx w v to from) f direct none = fetches_fine may place Falls v from t _ (λ a. same may place Falls (puts_at w to _ t) here)
  acts_fine (instr.MovSxd to from) f direct none = fetches_fine may place Falls width.Long from t _ (λ a. same may place Falls (puts_at width.Quad to _ t) here)
  acts_fine (instr.Push from) f direct none = push_fine may place Falls from t here
  acts_fine (instr.Pop to) f direct none = pop_fine may place Falls to t here
  acts_fine instr.Leave f direct none = leave_fine may place Falls t here
  acts_fine instr.Ret f direct none = return_fine may place (λ a. StandsIn [] a) t
  acts_fine (instr.Call d) f direct none = call_fine f d none
  acts_fine (instr.Jmp d) f direct none = jump_fine f d none
  acts_fine (instr.CallInd to) f direct none = absurd direct
  acts_fine (instr.JmpInd to) f direct none = absurd direct
  acts_fine (instr.Jcc c d) f direct none = branch_fine d (condition c.code t.flags)
  acts_fine (instr.SetCc c to) f direct none = stores_fine may place Falls width.Byte to t _ t here
  acts_fine (instr.CmovCc c w to from) f direct none = fetches_fine may place Falls w from t _ (λ v. same may place Falls (puts_at w to _ t) here)
  acts_fine (instr.Inc w to locked) f direct none = changes_fine may place Falls locked w to t _ _ (λ v. here)
  acts_fine (instr.Dec w to locked) f direct none = changes_fine may place Falls locked w to t _ _ (λ v. here)
  acts_fine (instr.Not w to locked) f direct none = changes_fine may place Falls locked w to t _ _ (λ v. here)
  acts_fine (instr.Neg w to) f direct none = changes_fine may place Falls false w to t _ _ (λ v. here)
  acts_fine (instr.Mul w from) f direct none = mul_fine may place Falls false w from t here
  acts_fine (instr.ImulOne w from) f direct none = mul_fine may place Falls true w from t here
  acts_fine (instr.Div w from) f direct none = div_fine may place Falls false w from t here
  acts_fine (instr.Idiv w from) f direct none = div_fine may place Falls true w from t here
  acts_fine (instr.ImulTwo w to from) f direct none = imul_fine may place Falls w to to from t here
  acts_fine (instr.ImulThree w to from by) f direct none = imul_fine may place Falls w to from by t here
  acts_fine (instr.Shift o w to by) f direct none = shift_fine may place Falls o w to by t here
  acts_fine (instr.Widen w) f direct none = same may place Falls (set_at w rax _ t) here
  acts_fine (instr.SignFill w) f direct none = same may place Falls (set_at w (upper w) _ t) here
  acts_fine (instr.Cmpxchg w to from locked) f direct none = cmpxchg_fine may place Falls w to from t here
  acts_fine (instr.Xadd w to from locked) f direct none = xadd_fine may place Falls w to from locked t here
  acts_fine instr.Nop f direct none = here
  acts_fine instr.Pause f direct none = here
  acts_fine instr.Endbr f direct none = here
  acts_fine instr.Mfence f direct none = λ v lt. here
  acts_fine instr.Ud2 f direct none = invalid_is_no_jump

-- the row of an instruction that ends at an address leaves to one of its successors
pub row_leads : (may : Permission) (i : Instr) (length : ℕ) (f : Flow) (s : Thread) (end : ℕ) → (s.at + length) % 2 ^ 64 ≡ end → IsDirect i → f ≢ flow.TableJump
    → AllNext (LeavesTo (λ a. StandsIn (after i f end) a)) (row_of may i length f s)
unfolding row_of
row_leads may i length f s end is direct none =
    subst (λ e. AllNext (LeavesTo (λ a. StandsIn (after i f e) a)) (acts may s.at i f (record s { at = (s.at + length) % 2 ^ 64 }))) is
    (acts_fine may s.at (record s { at = (s.at + length) % 2 ^ 64 }) i f direct none)
