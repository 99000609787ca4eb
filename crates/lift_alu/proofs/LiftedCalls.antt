-- The steps of calls and jumps, also of listed functions, do what their rows do.
use Rattle.std.proofs.Common.{◌≡◌, ℕ, ◌+◌, ◌-◌, ◌%◌, ◌^◌, ◌<◌, ◌==◌, Bool, true, false, [], ◌∷◌, refl, sym, ap, ◌∙◌, arith}
use Rattle.std.specs.Prelude.{if◌then◌else◌}
use Rattle.ev_graph.specs.declared.events.Item.TheVariants as items
use Rattle.word_arith.specs.Bits.{bit}
use Rattle.alu_width.specs.Conditions.{condition}
use Rattle.behavior.specs.Tree.{Tree, Next, ◌then◌}
use Rattle.behavior.specs.Acts.{Permission, put}
use Rattle.behavior.specs.Acts as rows
use Rattle.behavior.specs.Leaving.{Left, SameLeft, ToBlock}
use Rattle.behavior.specs.Kept.{both-go}
use Rattle.behavior.proofs.Beside.{give, act}
use Rattle.x64_syntax.specs.Formed.{IsCondition, IsFlowOf}
use Rattle.x64_syntax.specs.declared.instr.Instr.{Instr}
use Rattle.x64_syntax.specs.declared.instr.Instr.TheVariants as instr
use Rattle.x64_syntax.specs.declared.operand.Cond.{Cond}
use Rattle.x64_syntax.specs.declared.operand.Width.TheVariants as width
use Rattle.x64_syntax.specs.declared.placed.Flow.{Flow}
use Rattle.x64_syntax.specs.declared.placed.Flow.TheVariants as flow
use Rattle.x64_table.specs.State.{Thread, register, merged, set, rax, rsp, rdi, jumped, below_stack, pushed}
use Rattle.x64_table.specs.Rows.{Row, called, call_row, jmp_row, returns, leaves, acts}
use Rattle.limm_ir.specs.Steps.{IrState}
use Rattle.limm_ir.specs.declared.block.IrEnd.{IrEnd}
use Rattle.limm_ir.specs.declared.block.IrEnd.TheVariants as ends
use Rattle.limm_ir.specs.declared.step.IrOp.TheVariants as ops
use Rattle.lift_alu.specs.Formulas.{Formula, Kept, Number, Register, Operation, temp, place, Lifting, done, keeps, sets_register, stores}
use Rattle.lift_alu.specs.Flags.{condition_formula}
use Rattle.lift_alu.specs.Operands.{clean, register_formula}
use Rattle.lift_alu.specs.Lifted.{kept_in, takes_in, puts_out, writes_return, calls, jumps, pops, lifts_with}
use Rattle.lift_alu.specs.Meant.{SameThread, led_to}
use Rattle.lift_alu.proofs.FlagValues.{value_condition}
use Rattle.lift_alu.proofs.OperandValues.{value_register}
use Rattle.lift_alu.proofs.KeptFormulas.{below_condition}
use Rattle.lift_alu.proofs.Rules.{Holds, holds_later, same_put, Does, keeps_does, keeps_at_does, stores_does}
use Rattle.lift_alu.proofs.OperandRules.{low_of_fit, low_below, ends_does}
use Rattle.lift_alu.proofs.Instructions.{low_register, has_flags, same_elsewhere, Follows, MeansWith}
use Rattle.lift_alu.proofs.LiftedStack.{stack_is, below_fits, sets_stack, returns_does}

-- what goes out, as the steps see it
out_is : (t : Thread) (s : IrState) → SameThread t s → s.regs 7 ≡ register width.Quad rdi t
unfolding register_formula clean
out_is t s same = value_register t s width.Quad rdi same (low_register width.Quad rdi refl (omega arith))

-- a register gets a value of 64 bits on both sides
same_in : (t : Thread) (s : IrState) (v : ℕ) → v < 2 ^ 64 → SameThread t s → SameThread (set width.Quad rax v t) (record s { regs = put 0 v s.regs })
unfolding set merged
same_in t s v fit same = same_put t s 0 (v % 2 ^ 64) v (low_of_fit width.Quad v fit) (low_below width.Quad v) same

-- a block that leaves to the address of its thread
abbrev left_at : Thread → Left Thread
left_at t = record { target = ToBlock t.at; state = t }

-- a conditional jump leads to one of two addresses on both sides
leads_either : (b : Bool) (d after n : ℕ) (t : Thread) (s : IrState) → t.at ≡ after → n ≡ bit b → SameThread t s
    → SameLeft SameThread (left_at (if b then jumped d t else t)) (record { target = ToBlock (if n == 0 then after else led_to after d); state = s })
unfolding jumped
leads_either true d after n t s at is same =
    (ap (λ m. ToBlock (if m == 0 then after else led_to after d)) is ∙ ap (λ a. ToBlock (led_to a d)) (sym at), same_elsewhere t s (led_to t.at d) same)
leads_either false d after n t s at is same = (ap (λ m. ToBlock (if m == 0 then after else led_to after d)) is ∙ ap ToBlock (sym at), same)

module _ (may : Permission) (table at after temps : ℕ) (fits : after < 2 ^ 64) where
  -- an instruction of this place
  abbrev Here : Flow → Instr → Type 0
  Here f i = MeansWith may table at after temps f i

  -- a value comes in
  takes_in_does : {S : Type 0} (end : IrEnd) (f : S → Tree (Next (Left Thread))) (go : ℕ → Tree (Next S)) (t : Thread) (next : ℕ) (s : IrState) (rest : Lifting) → SameThread t s
      → ((v : ℕ) → (j : IrState) → SameThread (set width.Quad rax v t) j → Does may end (go v then f) (rest next) j) → Does may end (rows.takes_in at go then f) (takes_in rest next) s
  takes_in_does end f go t next s rest same here = act (λ v fit. refl) (λ v fit. here v (record s { regs = put 0 v s.regs }) (same_in t s v fit same))

  -- a value goes out
  puts_out_does : {S : Type 0} (end : IrEnd) (f : S → Tree (Next (Left Thread))) (p : Tree (Next S)) (t : Thread) (next : ℕ) (s : IrState) (rest : Lifting) → SameThread t s
      → Does may end (p then f) (rest next) s → Does may end (rows.puts_out at (register width.Quad rdi t) p then f) (puts_out rest next) s
  puts_out_does end f p t next s rest same here =
      act (λ v fit. ap (λ n. items.Output (record { value = n; place = 0 }) ∷ []) (out_is t s same)) (λ v fit. here)

  -- the address behind an instruction is written below the stack
  writes_return_does : (end : IrEnd) (p : Row) (t : Thread) (s : IrState) (rest : Formula → Lifting) → t.at ≡ after → SameThread t s
      → ((b n : ℕ) (j : IrState) → SameThread t j → Holds n j b (below_stack t) → Does may end (p then Follows may table) (rest (Kept b) n) j)
      → Does may end (rows.writes may at (below_stack t) 8 t.at p then Follows may table) (writes_return at after rest temps) s
  unfolding writes_return below_stack
  writes_return_does end p t s rest stands same here =
      let tree = rows.writes may at (below_stack t) 8 t.at p then Follows may table in
      let below = Operation ops.Sub (Register 4) (Number 8) in
      keeps_does may end tree t temps s (Number after) t.at (λ v. keeps below (λ b. stores at 8 (kept_in b) (kept_in v) (rest b))) same tt (sym stands)
      (λ v n1 i1 same1 later1 behind.
      keeps_does may end tree t n1 i1 below (below_stack t) (λ b. stores at 8 (kept_in b) v (rest b)) same1 (tt, tt) (ap (λ a. (a + (2 ^ 64 - 8)) % 2 ^ 64) (stack_is t i1 same1))
      (λ b n2 i2 same2 later2 there.
      stores_does may end (Follows may table) p n2 i2 at 8 b v (below_stack t) t.at (rest (Kept b)) there (holds_later later2 behind) (here b n2 i2 same2 there)))

  -- CALL
  pub call_means : (f : Flow) (d : ℕ) → IsFlowOf (instr.Call d) f → Here f (instr.Call d)
  unfolding acts lifts_with call_row called calls jumped pushed set below_stack
  call_means flow.Plain d flows t s stands same =
      let end = ends.Goto (led_to after d) in
      let gone = leaves (jumped d (pushed t)) in
      writes_return_does end gone t s (λ b. sets_register 4 b done) stands same
      (λ b n j same' there.
      sets_stack may table at after temps fits end (gone then Follows may table) t n j (Kept b) (below_stack t) done same' there.below there.is (below_fits (register width.Quad rsp t))
      (λ n' j' same'' later. give (both-go (ap (λ a. ToBlock (led_to a d)) (sym stands), same_elsewhere (pushed t) j' (led_to t.at d) same''))))
  call_means flow.ListedIn d flows t s stands same =
      let end = ends.Goto after in
      writes_return_does end (rows.takes_in at (λ v. leaves (set width.Quad rax v t))) t s (λ b. takes_in done) stands same
      (λ b n j same' there.
      takes_in_does end (Follows may table) (λ v. leaves (set width.Quad rax v t)) t n j done same'
      (λ v j' same''. ends_does may at after fits table (set width.Quad rax v t) j' stands same''))
  call_means flow.ListedOut d flows t s stands same =
      let end = ends.Goto after in
      writes_return_does end (rows.puts_out at (register width.Quad rdi t) (leaves t)) t s (λ b. puts_out done) stands same
      (λ b n j same' there. puts_out_does end (Follows may table) (leaves t) t n j done same' (ends_does may at after fits table t j stands same'))
  call_means flow.TableJump d flows t s stands same = elim flows [ ]

  -- JMP
  pub jmp_means : (f : Flow) (d : ℕ) → IsFlowOf (instr.Jmp d) f → Here f (instr.Jmp d)
  unfolding acts lifts_with jmp_row jumps jumped
  jmp_means flow.Plain d flows t s stands same = give (both-go (ap (λ a. ToBlock (led_to a d)) (sym stands), same_elsewhere t s (led_to t.at d) same))
  jmp_means flow.ListedIn d flows t s stands same =
      takes_in_does (ends.Return (temp (temps + 1))) (Follows may table) (λ v. returns may at (set width.Quad rax v t)) t temps s (pops at after (λ v. done)) same
      (λ v j same'. returns_does may table at after temps fits (set width.Quad rax v t) j same')
  jmp_means flow.ListedOut d flows t s stands same =
      puts_out_does (ends.Return (temp (temps + 1))) (Follows may table) (returns may at t) t temps s (pops at after (λ v. done)) same
      (returns_does may table at after temps fits t s same)
  jmp_means flow.TableJump d flows t s stands same = elim flows [ ]

  -- a conditional jump
  pub jcc_means : (f : Flow) (c : Cond) (d : ℕ) → IsCondition c → Here f (instr.Jcc c d)
  unfolding acts lifts_with
  jcc_means f c d is t s stands same =
      let b = condition c.code t.flags in
      let e = condition_formula c.code in
      keeps_at_does may (ends.Branch (temp (place temps e)) (led_to after d) after) (leaves (if b then jumped d t else t) then Follows may table) t temps s e (bit b) (λ v. done) same
      (below_condition temps c.code) (value_condition c t.flags s is (has_flags t s same))
      (λ j same' later held. give (both-go (leads_either b d after (j.temps (place temps e)) t j stands held.is same')))
