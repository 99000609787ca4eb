-- The steps of an instruction do what its row does.
use Rattle.std.proofs.Common.{◌≡◌, ℕ, ◌+◌, ◌%◌, ◌^◌, ◌<◌, true, false, [], refl, subst, arith}
use Rattle.behavior.specs.Tree.{◌then◌}
use Rattle.behavior.specs.Acts.{Permission}
use Rattle.behavior.specs.Leaving.{SameLeft}
use Rattle.behavior.specs.Seen.{placed_full}
use Rattle.behavior.specs.Kept.{SameNext, Keeps}
use Rattle.behavior.proofs.Beside.{Beside, beside_keeps}
use Rattle.behavior.proofs.SeenLemmas.{sees-placed_full}
use Rattle.x64_syntax.specs.Formed.{IsFormed, IsFlowOf}
use Rattle.x64_syntax.specs.declared.instr.Instr.{Instr}
use Rattle.x64_syntax.specs.declared.instr.Instr.TheVariants as instr
use Rattle.x64_syntax.specs.declared.operand.Operand.TheVariants as operand
use Rattle.x64_syntax.specs.declared.placed.Flow.{Flow}
use Rattle.x64_syntax.specs.declared.placed.Placed.{Placed}
use Rattle.x64_table.specs.Blocks.{goes_on, x64_block}
use Rattle.x64_table.specs.Rows.{row_of}
use Rattle.x64_table.specs.State.{Thread}
use Rattle.limm_ir.specs.Costs.{no_cost}
use Rattle.limm_ir.specs.Steps.{IrState}
use Rattle.limm_ir.specs.Blocks.{ir_block}
use Rattle.lift_alu.specs.Built.{is_lifted}
use Rattle.lift_alu.specs.Lifted.{lifts_with}
use Rattle.lift_alu.specs.Meant.{SameThread, after, end_from, end_of}
use Rattle.lift_alu.proofs.Instructions.{same_elsewhere, MeansWith}
use Rattle.lift_alu.proofs.LiftedMoves.{mov_means, lea_means, movzx_means, movsx_means, movsxd_means, setcc_means, cmovcc_means, widen_means, signfill_means, xchg_means}
use Rattle.lift_alu.proofs.LiftedStack.{push_means, pop_means, leave_means, ret_means, nop_means, pause_means, endbr_means, mfence_means, ud2_means}
use Rattle.lift_alu.proofs.LiftedCalls.{call_means, jmp_means, jcc_means}
use Rattle.lift_alu.proofs.LiftedArithmetic.{alu_means, test_means}
use Rattle.lift_alu.proofs.LiftedShifts.{shift_means}
use Rattle.lift_alu.proofs.LiftedSteps.{inc_means, dec_means, neg_means, not_means, xadd_means}
use Rattle.lift_alu.proofs.LiftedLocks.{lock_alu_means, lock_inc_means, lock_dec_means, lock_not_means, swap_means, lock_xadd_means}
use Rattle.lift_alu.proofs.LiftedLocks.{cmpxchg_means}
use Rattle.lift_alu.proofs.OperandRules.{pair_stored}
use Rattle.lift_alu.proofs.LiftedProducts.{mul_means, imul_one_means, imul_two_means, imul_three_means}
use Rattle.lift_alu.proofs.LiftedQuotients.{div_means, idiv_means}

module _ (may : Permission) (table place next temps : ℕ) (fits : next < 2 ^ 64) where
  -- the steps of each instruction that is lifted, with its flow, do what its row does
  each_with : (f : Flow) (i : Instr) → IsFormed i → is_lifted i ≡ true → IsFlowOf i f → MeansWith may table place next temps f i
  unfolding lifts_with
  each_with f (instr.Alu o w to from true) formed lifted flows =
      lock_alu_means may table place next temps fits o w to from formed.0 (formed.1.0 refl) (pair_stored w to from formed.0)
      (formed.1.1 refl) f
  each_with f (instr.Alu o w to from false) formed lifted flows = alu_means may table place next temps fits o w to from formed.0 f
  each_with f (instr.Test w to from) formed lifted flows = test_means may table place next temps fits w to from formed f
  each_with f (instr.Xchg w (operand.Mem m) from true) formed lifted flows =
      swap_means may table place next temps fits w m from formed.0 formed.1.0 f
  each_with f (instr.Xchg w (operand.Mem m) from false) formed lifted flows = absurd (let free = formed.1.1 in cc)
  each_with f (instr.Xchg w (operand.Reg r) (operand.Reg q) false) formed lifted flows =
      xchg_means may table place next temps fits w r q formed.0 formed.1.0 f
  each_with f (instr.Xchg w (operand.Reg r) from true) formed lifted flows = absurd (let locks = formed.1.1 in cc)
  each_with f (instr.Xchg w (operand.Reg r) (operand.Mem m) false) formed lifted flows = absurd formed.1.0
  each_with f (instr.Xchg w (operand.Reg r) (operand.Imm n) false) formed lifted flows = absurd formed.1.0
  each_with f (instr.Xchg w (operand.Imm n) from locked) formed lifted flows = absurd formed.0
  each_with f (instr.Mov w to from) formed lifted flows = mov_means may table place next temps fits w to from formed f
  each_with f (instr.Lea w to from) formed lifted flows = lea_means may table place next temps fits w to from formed f
  each_with f (instr.MovZx w v to from) formed lifted flows = movzx_means may table place next temps fits w v to from formed f
  each_with f (instr.MovSx w v to from) formed lifted flows = movsx_means may table place next temps fits w v to from formed f
  each_with f (instr.MovSxd to from) formed lifted flows = movsxd_means may table place next temps fits to from formed f
  each_with f (instr.Push from) formed lifted flows = push_means may table place next temps fits from formed f
  each_with f (instr.Pop to) formed lifted flows = pop_means may table place next temps fits to formed f
  each_with f instr.Leave formed lifted flows = leave_means may table place next temps fits f
  each_with f instr.Ret formed lifted flows = ret_means may table place next temps fits f
  each_with f (instr.Call d) formed lifted flows = call_means may table place next temps fits f d flows
  each_with f (instr.Jmp d) formed lifted flows = jmp_means may table place next temps fits f d flows
  each_with f (instr.Jcc c d) formed lifted flows = jcc_means may table place next temps fits f c d formed.0
  each_with f (instr.SetCc c to) formed lifted flows = setcc_means may table place next temps fits c to formed f
  each_with f (instr.CmovCc c w to from) formed lifted flows = cmovcc_means may table place next temps fits c w to from formed f
  each_with f (instr.Inc w to true) formed lifted flows = lock_inc_means may table place next temps fits w to formed.0 (formed.1 refl) f
  each_with f (instr.Inc w to false) formed lifted flows = inc_means may table place next temps fits w to formed.0 f
  each_with f (instr.Dec w to true) formed lifted flows = lock_dec_means may table place next temps fits w to formed.0 (formed.1 refl) f
  each_with f (instr.Dec w to false) formed lifted flows = dec_means may table place next temps fits w to formed.0 f
  each_with f (instr.Not w to true) formed lifted flows = lock_not_means may table place next temps fits w to formed.0 (formed.1 refl) f
  each_with f (instr.Not w to false) formed lifted flows = not_means may table place next temps fits w to formed.0 f
  each_with f (instr.Neg w to) formed lifted flows = neg_means may table place next temps fits w to formed f
  each_with f (instr.Xadd w (operand.Mem m) from true) formed lifted flows =
      lock_xadd_means may table place next temps fits w m from formed.0 formed.1.0 f
  each_with f (instr.Xadd w (operand.Mem m) from false) formed lifted flows = absurd (let free = formed.1.1 in cc)
  each_with f (instr.Xadd w (operand.Reg r) (operand.Reg q) false) formed lifted flows =
      xadd_means may table place next temps fits w r q formed.0 formed.1.0 f
  each_with f (instr.Xadd w (operand.Reg r) from true) formed lifted flows = absurd (let locks = formed.1.1 in cc)
  each_with f (instr.Xadd w (operand.Reg r) (operand.Mem m) false) formed lifted flows = absurd formed.1.0
  each_with f (instr.Xadd w (operand.Reg r) (operand.Imm n) false) formed lifted flows = absurd formed.1.0
  each_with f (instr.Xadd w (operand.Imm n) from locked) formed lifted flows = absurd formed.0
  each_with f (instr.Cmpxchg w to from locked) formed lifted flows =
      cmpxchg_means may table place next temps fits w to from locked formed.0 formed.1.0 f
  each_with f (instr.Mul w from) formed lifted flows = mul_means may table place next temps fits w from formed f
  each_with f (instr.ImulOne w from) formed lifted flows = imul_one_means may table place next temps fits w from formed f
  each_with f (instr.Div w from) formed lifted flows = div_means may table place next temps fits w from formed f
  each_with f (instr.Idiv w from) formed lifted flows = idiv_means may table place next temps fits w from formed f
  each_with f (instr.ImulTwo w to from) formed lifted flows = imul_two_means may table place next temps fits w to from formed f
  each_with f (instr.ImulThree w to from by) formed lifted flows = imul_three_means may table place next temps fits w to from by formed f
  each_with f (instr.Shift o w to by) formed lifted flows = shift_means may table place next temps fits o w to by formed f
  each_with f (instr.Widen w) formed lifted flows = widen_means may table place next temps fits w f
  each_with f (instr.SignFill w) formed lifted flows = signfill_means may table place next temps fits w formed f
  each_with f instr.Nop formed lifted flows = nop_means may table place next temps fits f
  each_with f instr.Pause formed lifted flows = pause_means may table place next temps fits f
  each_with f instr.Endbr formed lifted flows = endbr_means may table place next temps fits f
  each_with f instr.Mfence formed lifted flows = mfence_means may table place next temps fits f
  each_with f instr.Ud2 formed lifted flows = ud2_means may table place next temps fits f
  each_with f i formed lifted flows = absurd cc

-- an address that is cut fits
cut_fits : (a : ℕ) → a % 2 ^ 64 < 2 ^ 64
cut_fits a = omega arith

-- the steps do what the row does and then what follows it, where instructions are not counted
pub lifts_mean : (p : Placed) (temps : ℕ) → IsFormed p.instr → is_lifted p.instr ≡ true → IsFlowOf p.instr p.flow → (may : Permission) (table : ℕ) (s : Thread) (i : IrState)
    → s.at ≡ p.address → SameThread s i
    → Keeps placed_full 0 0 (SameNext (SameLeft SameThread)) (row_of may p.instr p.length p.flow s then goes_on table (x64_block may table []))
    (ir_block no_cost may (lifts_with p.address (after p) p.flow p.instr temps) (end_of p temps) i)
unfolding row_of
lifts_mean p temps formed lifted flows may table s i at same =
    let next = (s.at + p.length) % 2 ^ 64 in
    let here = each_with may table s.at next temps (cut_fits (s.at + p.length)) p.flow p.instr formed lifted flows (record s { at = next }) i refl (same_elsewhere s i next same) in
    beside_keeps placed_full sees-placed_full 0 (SameNext (SameLeft SameThread))
    (subst (λ a. Beside placed_full 0 (SameNext (SameLeft SameThread)) 0 (row_of may p.instr p.length p.flow s then goes_on table (x64_block may table []))
    (ir_block no_cost may (lifts_with a ((a + p.length) % 2 ^ 64) p.flow p.instr temps) (end_from p.instr p.flow ((a + p.length) % 2 ^ 64) temps) i)) at here)
