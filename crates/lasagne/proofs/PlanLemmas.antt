-- The plan that a translation gives is the input's.
use Rattle.std.proofs.Common.{◌≡◌, ℕ, zero, suc, ◌+◌, List, [], ◌∷◌, ◌++◌, length, drop, slice_get, subst, sym, append_assoc, arith}
use Rattle.x64_syntax.specs.declared.slots.Slot.{Slot}
use Rattle.elf_read.specs.ElfFile.{threads_of}
use Rattle.code_at.specs.Code.{program_in}
use Rattle.frame_marks.specs.Marks.{ArePrivate}
use Rattle.cfg_walk.specs.declared.code.Code.{Code}
use Rattle.cfg_walk.specs.Code.{IsFileCode}
use Rattle.fence_place.specs.Marked.{marked}
use Rattle.carry_spec.specs.declared.plan.BlockPlan.{BlockPlan}
use Rattle.carry_spec.specs.declared.summary.Summary.{Summary}
use Rattle.carry_spec.specs.Faults.{HasNoFault}
use Rattle.carry_spec.specs.Plan.{ArePlans, IsSummary}
use Rattle.fence_plan.specs.declared.gap.Gap.{Gap}
use Rattle.lasagne.specs.Plan.{HasPlan, gap_line, in_turn, slot_behind, slot_line}

-- nothing between
append_empty : (xs ys : List ℕ) → xs ++ ys ≡ (xs ++ []) ++ ys
append_empty xs ys = sym (append_assoc xs [] ys)

-- a code's plan and summary by its private slots are those of the bytes
pub has_plan : (bytes : List ℕ) (private : List Slot) (code : Code) (plan : List BlockPlan) (summary : Summary) → ArePrivate (program_in bytes) private
    → HasNoFault bytes → IsFileCode bytes code → ArePlans (marked private) code plan → IsSummary (marked private) (length (threads_of bytes)) code summary
    → HasPlan bytes plan summary
has_plan bytes private code plan summary are no_fault is_code planned counted = record {
  no_fault = no_fault;
  code = code;
  is_code = is_code;
  private = private;
  are_private = are;
  planned = planned;
  counted = record { private = private; are_private = are; counted = counted };
}

turn_at : (gap : Gap) (gaps : List Gap) (slots : List Slot) (n : ℕ)
    → in_turn (gap ∷ gaps) (drop n slots) ≡ (gap_line gap ++ slot_behind (slice_get slots n)) ++ in_turn gaps (drop (suc n) slots)
turn_at gap gaps [] zero = append_empty (gap_line gap) (in_turn gaps [])
turn_at gap gaps [] (suc n) = append_empty (gap_line gap) (in_turn gaps [])
turn_at gap gaps (slot ∷ slots) zero = sym (append_assoc (gap_line gap) (slot_line slot) (in_turn gaps slots))
turn_at gap gaps (slot ∷ slots) (suc n) = turn_at gap gaps slots n

-- the gaps from one on, and the slots from a place on: a gap, the slot at the place, and what is behind both
pub turn : (gap : Gap) (gaps : List Gap) (slots : List Slot) (n : ℕ)
    → in_turn (gap ∷ gaps) (drop n slots) ≡ (gap_line gap ++ slot_behind (slice_get slots n)) ++ in_turn gaps (drop (n + 1) slots)
turn gap gaps slots n =
    let next : suc n ≡ n + 1 = omega arith in
    let Is : ℕ → Type 0 = λ m. in_turn (gap ∷ gaps) (drop n slots) ≡ (gap_line gap ++ slot_behind (slice_get slots n)) ++ in_turn gaps (drop m slots) in
    subst Is next (turn_at gap gaps slots n)
