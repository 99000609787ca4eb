-- What it means that steps do what an instruction does.
use Rattle.std.specs.Prelude.{◌≡◌, ℕ, ◌+◌, ◌%◌, ◌^◌, ◌<◌, ◌≤◌, List, [], ◌∷◌, flat_map}
use Rattle.ev_graph.specs.declared.events.TrapKind.TheVariants.{Invalid}
use Rattle.word_arith.specs.Bits.{bit}
use Rattle.behavior.specs.Acts.{Permission}
use Rattle.behavior.specs.Leaving.{SameLeft}
use Rattle.behavior.specs.Seen.{placed_full}
use Rattle.behavior.specs.Kept.{SameNext, Keeps}
use Rattle.x64_syntax.specs.declared.instr.Instr.{Instr}
use Rattle.x64_syntax.specs.declared.instr.Instr.TheVariants as instr
use Rattle.x64_syntax.specs.declared.placed.Flow.{Flow}
use Rattle.x64_syntax.specs.declared.placed.Flow.TheVariants as flow
use Rattle.x64_syntax.specs.declared.placed.Placed.{Placed}
use Rattle.x64_syntax.specs.Slots.{placed_slots}
use Rattle.x64_table.specs.State.{Thread}
use Rattle.x64_table.specs.Blocks.{x64_block}
use Rattle.limm_ir.specs.Conditions.{IsSetIn, IsSelectable}
use Rattle.limm_ir.specs.Costs.{cost_of, fenced_cost}
use Rattle.limm_ir.specs.Steps.{IrState}
use Rattle.limm_ir.specs.Blocks.{ir_block}
use Rattle.limm_ir.specs.declared.block.IrEnd.{IrEnd}
use Rattle.limm_ir.specs.declared.block.IrEnd.TheVariants as ends
use Rattle.limm_ir.specs.declared.step.IrStep.{IrStep}
use Rattle.lift_alu.specs.Formulas.{temp, place}
use Rattle.lift_alu.specs.Flags.{condition_formula}
use Rattle.lift_alu.specs.Marks.{step_slots, step_fences, instr_fences}

-- registers and flags of a thread and of the steps are the same, and registers hold 64 bits
pub record SameThread (s : Thread) (i : IrState) : Type 0 where
  pub regs : (r : ℕ) → r < 16 → i.regs r ≡ s.regs r
  pub fit : (r : ℕ) → r < 16 → s.regs r < 2 ^ 64
  pub cf : i.flags 0 ≡ bit s.flags.cf
  pub zf : i.flags 1 ≡ bit s.flags.zf
  pub sf : i.flags 2 ≡ bit s.flags.sf
  pub of : i.flags 3 ≡ bit s.flags.of

-- the address behind an instruction
abbrev pub after : Placed → ℕ
after p = (p.address + p.length) % 2 ^ 64

-- where a displacement leads from the address behind an instruction
abbrev pub led_to : (next_address displacement : ℕ) → ℕ
led_to next_address displacement = (next_address + displacement) % 2 ^ 64

-- How a block ends whose last instruction this is, where that instruction's temporaries begin at `temps`: by a call or a jump at
-- its target, or behind a listed call; by a conditional jump by its condition, which is kept; by RET, and by a jump to a listed
-- function, with what was popped in the second temporary.
abbrev pub end_from : Instr → Flow → (next_address temps : ℕ) → IrEnd
end_from (instr.Call d) flow.Plain next_address temps = ends.Goto (led_to next_address d)
end_from (instr.Jmp d) flow.Plain next_address temps = ends.Goto (led_to next_address d)
end_from (instr.Jmp d) flow.ListedIn next_address temps = ends.Return (temp (temps + 1))
end_from (instr.Jmp d) flow.ListedOut next_address temps = ends.Return (temp (temps + 1))
end_from (instr.Jcc c d) f next_address temps = ends.Branch (temp (place temps (condition_formula c.code))) (led_to next_address d) next_address
end_from instr.Ret f next_address temps = ends.Return (temp (temps + 1))
end_from instr.Ud2 f next_address temps = ends.Stop Invalid
end_from i f next_address temps = ends.Goto next_address

abbrev pub end_of : Placed → (temps : ℕ) → IrEnd
end_of p temps = end_from p.instr p.flow (after p) temps

-- The words of an instruction, with the fences around its accesses, at most. What is left of 62 pays for the return site of a
-- call, and for the words of a block's end that lead to one of two blocks.
abbrev pub words_of : Instr → ℕ
words_of (instr.Call d) = 48
words_of (instr.Jcc c d) = 61
words_of i = 62

abbrev pub most_words : Placed → ℕ
most_words p = words_of p.instr

-- The steps do what the instruction does, with its fence where it is one: they are begun as often as they cost at most, with
-- fences, which is no more than `most` times.
abbrev pub LiftsInstr : (most : ℕ) → Placed → (temps : ℕ) → List IrStep → Type 0
LiftsInstr most p temps steps = (may : Permission) (table : ℕ) (s : Thread) (i : IrState) → s.at ≡ p.address → SameThread s i
    → Keeps placed_full most 0 (SameNext (SameLeft SameThread)) (x64_block may table (p ∷ []) s) (ir_block fenced_cost may steps (end_of p temps) i)

-- the temporaries that steps set are among the 256 from a number on
abbrev pub SetsFrom : (temps : ℕ) → List IrStep → Type 0
SetsFrom temps xs = (t : ℕ) → IsSetIn xs t → (temps ≤ t) × (t < temps + 256)

-- These are the steps of an instruction: they do what it does, cost little, and use temporaries of its own. They make its accesses,
-- in their order, and have its fence.
pub record AreStepsOf (p : Placed) (temps : ℕ) (steps : List IrStep) : Type 0 where
  pub meaning : LiftsInstr 62 p temps steps
  pub few : cost_of fenced_cost steps ≤ most_words p
  pub selectable : IsSelectable steps (end_of p temps)
  pub own : SetsFrom temps steps
  pub slots : flat_map step_slots steps ≡ placed_slots p
  pub fences : flat_map step_fences steps ≡ instr_fences p.instr
