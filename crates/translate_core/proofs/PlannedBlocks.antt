-- Plans and counts of blocks, one behind the other.
use Rattle.std.proofs.Common.{◌≡◌, ◌+◌, ◌≤◌, ◌^◌, ℕ, Bool, List, [], ◌∷◌, ◌++◌, length, take, get_or, Some, refl, sym, ap, subst, ◌∙◌}
use Rattle.std.specs.Prelude.{slice_get}
use Rattle.std.proofs.lemmas.List.{take_more, take_all}
use Rattle.std.proofs.lemmas.Option.{slice_get_within, get_or_from_slice_get}
use Rattle.x64_syntax.specs.declared.placed.Placed.{Placed}
use Rattle.x64_syntax.specs.declared.slots.Slot.{Slot}
use Rattle.code_at.specs.Code.{Program}
use Rattle.cfg_walk.specs.declared.code.Block.{Block}
use Rattle.cfg_walk.specs.declared.code.Code.{Code}
use Rattle.cfg_walk.specs.Blocks.{AreOf}
use Rattle.cfg_walk.specs.Code.{IsCodeOf}
use Rattle.carry_spec.specs.declared.plan.BlockPlan.{BlockPlan}
use Rattle.carry_spec.specs.declared.summary.Summary.{Summary}
use Rattle.carry_spec.specs.Plan.{AreOfEach, block_plan, block_plans}
use Rattle.translate_core.specs.Planned.{AreBelow, ArePlanned, counted, nothing_of, plus}
use Rattle.translate_core.proofs.BlockCounts.{summary_more, summary_small}

module _ (private : Slot → Bool) (threads : ℕ) (code : Code) where
  -- before the first of them there is none
  pub none_planned : (of : List Block) (plans : List BlockPlan) (summary : Summary) → plans ≡ [] → summary ≡ nothing_of threads → ArePlanned private threads code (take 0 of) plans summary
  none_planned of plans summary none nothing = record { blocks = []; are = tt; planned = none; counted = nothing }

  of_each-append : (of : List Block) (pss : List (List Placed)) (one : Block) (ps : List Placed) → AreOfEach code.placed of pss → AreOf code.placed one ps
      → AreOfEach code.placed (of ++ one ∷ []) (pss ++ ps ∷ [])
  of_each-append [] [] one ps are last = (last, tt)
  of_each-append [] (qs ∷ pss) one ps are last = absurd are
  of_each-append (b ∷ of) [] one ps are last = absurd are
  of_each-append (b ∷ of) (qs ∷ pss) one ps are last = (are.0, of_each-append of pss one ps are.1 last)

  plans-append : (of : List Block) (pss : List (List Placed)) (one : Block) (ps : List Placed) → AreOfEach code.placed of pss
      → block_plans private (of ++ one ∷ []) (pss ++ ps ∷ []) ≡ block_plans private of pss ++ block_plan private one.first ps ∷ []
  plans-append [] [] one ps are = refl
  plans-append [] (qs ∷ pss) one ps are = absurd are
  plans-append (b ∷ of) [] one ps are = absurd are
  plans-append (b ∷ of) (qs ∷ pss) one ps are = ap (λ l. block_plan private b.first qs ∷ l) (plans-append of pss one ps are.1)

  -- the first blocks, and one more
  one_more : (k : ℕ) (one : Block) → slice_get code.blocks k ≡ Some one → take (k + 1) code.blocks ≡ take k code.blocks ++ one ∷ []
  one_more k one at =
      take_more code.blocks k one (slice_get_within code.blocks k one at)
      ∙ ap (λ b. take k code.blocks ++ b ∷ []) (get_or_from_slice_get code.blocks k one one at)

  -- one more
  pub planned_more : (k : ℕ) (plans all : List BlockPlan) (before now : Summary) (one : Block) (ps : List Placed) (plan : BlockPlan) → slice_get code.blocks k ≡ Some one
      → AreOf code.placed one ps → plan ≡ block_plan private one.first ps → all ≡ plans ++ plan ∷ [] → now ≡ plus before (counted ps plan)
      → ArePlanned private threads code (take k code.blocks) plans before → ArePlanned private threads code (take (k + 1) code.blocks) all now
  planned_more k plans all before now one ps plan at of planned pushed added are =
      subst (λ bs. ArePlanned private threads code bs all now) (sym (one_more k one at)) (record {
        blocks = are.blocks ++ ps ∷ [];
        are = of_each-append (take k code.blocks) are.blocks one ps are.are of;
        planned = pushed ∙ ap (λ l. l ++ plan ∷ []) are.planned ∙ ap (λ p. block_plans private (take k code.blocks) are.blocks ++ p ∷ []) planned
            ∙ sym (plans-append (take k code.blocks) are.blocks one ps are.are);
        counted = added ∙ ap (λ p. plus before (counted ps p)) planned ∙ ap (λ s. plus s (counted ps (block_plan private one.first ps))) are.counted
            ∙ sym (summary_more private threads one.first are.blocks ps);
      })

  -- what was planned for the block of a number
  pub planned_here : (k : ℕ) (one other : Block) (ps listed : List Placed) (plan : BlockPlan) (blocks : List Block) → slice_get code.blocks k ≡ Some one → ps ≡ listed
      → blocks ≡ code.blocks → plan ≡ block_plan private (get_or blocks k other).first listed → plan ≡ block_plan private one.first ps
  planned_here k one other ps listed plan blocks at same level planned =
      planned
      ∙ ap (λ (b : Block). block_plan private b.first listed) (ap (λ bs. get_or bs k other) level ∙ get_or_from_slice_get code.blocks k one other at)
      ∙ ap (block_plan private one.first) (sym same)

  -- its numbers fit
  pub plus_fits : (program : Program) → IsCodeOf program code → threads ≤ 16 → (k : ℕ) (plans : List BlockPlan) (before : Summary) (one : Block) (ps : List Placed) (plan : BlockPlan)
      → slice_get code.blocks k ≡ Some one → AreOf code.placed one ps → plan ≡ block_plan private one.first ps
      → ArePlanned private threads code (take k code.blocks) plans before → AreBelow (2 ^ 32) (plus before (counted ps plan))
  plus_fits program is few k plans before one ps plan at of planned are =
      subst (AreBelow (2 ^ 32))
      (summary_more private threads one.first are.blocks ps ∙ ap (λ s. plus s (counted ps (block_plan private one.first ps))) (sym are.counted) ∙ ap (λ p. plus before (counted ps p)) (sym planned))
      (summary_small private program code is threads (k + 1) few (are.blocks ++ ps ∷ [])
      (subst (λ bs. AreOfEach code.placed bs (are.blocks ++ ps ∷ [])) (sym (one_more k one at)) (of_each-append (take k code.blocks) are.blocks one ps are.are of)))

  -- all of them
  pub all_planned : (k : ℕ) (plans all : List BlockPlan) (summary : Summary) → length code.blocks ≤ k → all ≡ plans
      → ArePlanned private threads code (take k code.blocks) plans summary → ArePlanned private threads code code.blocks all summary
  all_planned k plans all summary past same are =
      subst (λ of. ArePlanned private threads code of all summary) (take_all k code.blocks past)
      (subst (λ l. ArePlanned private threads code (take k code.blocks) l summary) (sym same) are)
