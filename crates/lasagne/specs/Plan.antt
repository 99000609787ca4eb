-- The fence plan of an input, and the text that tells it.
use Rattle.std.specs.Prelude.{◌∷◌, [], ◌++◌, ℕ, Bool, true, false, List, codes, flat_map, Option, Some, None}
use Rattle.x64_syntax.specs.declared.slots.Slot.{Slot}
use Rattle.x64_syntax.specs.declared.slots.SlotKind.{SlotKind}
use Rattle.x64_syntax.specs.declared.slots.SlotKind.TheVariants.{Read, Write, Locked}
use Rattle.fence_plan.specs.declared.gap.Gap.{Gap}
use Rattle.code_at.specs.Code.{program_in}
use Rattle.cfg_walk.specs.declared.code.Code.{Code}
use Rattle.frame_marks.specs.Marks.{ArePrivate}
use Rattle.fence_place.specs.Marked.{marked}
use Rattle.cfg_walk.specs.Code.{IsFileCode}
use Rattle.carry_spec.specs.declared.plan.BlockPlan.{BlockPlan}
use Rattle.carry_spec.specs.declared.summary.Summary.{Summary}
use Rattle.carry_spec.specs.Faults.{HasNoFault}
use Rattle.carry_spec.specs.Plan.{ArePlans}
use Rattle.lasagne.specs.Image.{HasSummary}
use Rattle.lasagne.specs.Texts.{hex, line, summary_text}

-- The input has no fault, and its code has these plans of its blocks and this summary, by its private slots.
pub record HasPlan (input : List ℕ) (plan : List BlockPlan) (summary : Summary) : Type 0 where
  pub no_fault : HasNoFault input
  pub code : Code
  pub is_code : IsFileCode input code
  pub private : List Slot
  pub are_private : ArePrivate (program_in input) private
  pub planned : ArePlans (marked private) code plan
  pub counted : HasSummary input code summary

-- the fences of a gap: whether it holds Fsc, Frm and Fww
abbrev pub fences_name : (fsc frm fww : Bool) → List ℕ
fences_name true frm fww = codes "fsc"
fences_name false false false = codes "none"
fences_name false true false = codes "frm"
fences_name false false true = codes "fww"
fences_name false true true = codes "frm fww"

abbrev pub gap_line : Gap → List ℕ
gap_line g = line (codes "gap " ++ fences_name g.fsc g.frm g.fww)

abbrev pub kind_letter : SlotKind → List ℕ
kind_letter Read = codes "R"
kind_letter Write = codes "W"
kind_letter Locked = codes "L"

abbrev pub slot_line : Slot → List ℕ
slot_line s = line (hex s.address ++ (codes " " ++ kind_letter s.kind))

-- the slot behind a gap, where there is one
abbrev pub slot_behind : Option Slot → List ℕ
slot_behind None = []
slot_behind (Some s) = slot_line s

-- gaps and the slots between them, in turn
abbrev pub in_turn : List Gap → List Slot → List ℕ
in_turn [] slots = []
in_turn (g ∷ gaps) [] = gap_line g ++ in_turn gaps []
in_turn (g ∷ gaps) (s ∷ slots) = gap_line g ++ (slot_line s ++ in_turn gaps slots)

-- a block: where it begins, and its gaps and slots
abbrev pub block_text : BlockPlan → List ℕ
block_text b = line (codes "block " ++ hex b.first) ++ in_turn b.gaps b.slots

-- what is counted of all blocks
abbrev pub planned_line : Summary → List ℕ
planned_line s = line (codes "planned " ++ summary_text s)

-- the text of a plan: each block, by address, and the summary
abbrev pub plan_text : List BlockPlan → Summary → List ℕ
plan_text plan s = flat_map block_text plan ++ planned_line s
