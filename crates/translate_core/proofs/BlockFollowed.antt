-- A path of a block's words follows the plan of the block's instructions.
use Rattle.std.proofs.Common.{◌≡◌, ℕ, Bool, List, [], ◌++◌, refl, sym, ap, ◌∙◌, subst}
use Rattle.std.specs.List.{AllByRecursion}
use Rattle.ev_graph.specs.declared.events.Item.{Item}
use Rattle.behavior.specs.Tree.{Point, Path, Next}
use Rattle.behavior.specs.Acts.{Permission}
use Rattle.behavior.specs.Leaving.{Left, SameLeft}
use Rattle.behavior.specs.Seen.{trace, placed, lowered}
use Rattle.behavior.specs.Kept.{SamePoint, both-cut, both-at, SameNext, both-go, both-stop}
use Rattle.behavior.proofs.SeenLemmas.{placed-to_trace, lowered-to_trace}
use Rattle.x64_syntax.specs.declared.placed.Placed.{Placed}
use Rattle.x64_syntax.specs.declared.slots.Slot.{Slot}
use Rattle.x64_table.specs.State.{Thread}
use Rattle.x64_table.specs.Blocks.{x64_block}
use Rattle.limm_ir.specs.Costs.{no_cost}
use Rattle.limm_ir.specs.Steps.{IrState}
use Rattle.lift.specs.Block.{first_of}
use Rattle.fence_place.specs.Marked.{marked}
use Rattle.fence_plan.specs.declared.gap.Gap.{Gap}
use Rattle.fence_plan.specs.Dressed.{dressed}
use Rattle.fence_plan.specs.Gaps.{gaps}
use Rattle.fence_plan.specs.Planned.{first_given, later_gaps, shared_view, IsFence}
use Rattle.fence_plan.specs.Private.{privacy}
use Rattle.fence_merge.specs.Follows.{IsAtState}
use Rattle.fence_merge.specs.Roles.{stations, unfenced}
use Rattle.fence_merge.proofs.CallerLemmas.{block_follows, IsNoBarrier, same_privacy, same_dressed}
use Rattle.a64_code.specs.declared.instr.XReg.{XReg}
use Rattle.a64_code.specs.declared.instr.A64.{A64}
use Rattle.a64_table.specs.State.{xregs, AState}
use Rattle.a64_block.specs.Blocks.{a64_block}
use Rattle.a64_block.specs.declared.block.AEnd.{AEnd}
use Rattle.carry_spec.specs.Plan.{block_gaps}
use Rattle.translate_core.specs.Passed.{Passes}
use Rattle.translate_core.proofs.Made.{path_all, block_none}
use Rattle.translate_core.proofs.Passes.{Alike, steps_state, numbers_of, thread_state, start_numbered, same_named, block_fences, passed_point, placed_full-to_placed}

-- The path of words that made these items and stops here has one of the instructions beside it, with its accesses, inputs and
-- outputs; its barriers are those of these gaps. Those of a gap that it is cut in may be missing.
pub record Followed (private : Slot → Bool) (gs : List Gap) (may : Permission) (table : ℕ) (ps : List Placed) (s : Thread) (made : List Item) (stop : Point (Next (Left AState))) : Type 0 where
  pub items : List Item
  pub point : Point (Next (Left Thread))
  pub begun : ℕ
  pub path : Path (x64_block may table ps s) items point begun
  pub alike : SamePoint (SameNext (SameLeft Alike)) point stop
  pub same : trace items ≡ trace made
  pub missing : List Item
  pub fences : AllByRecursion IsFence missing
  pub whole : IsAtState stop → missing ≡ []
  pub barriers : AllByRecursion IsNoBarrier items
      → first_given gs ++ shared_view (privacy private items) (dressed private (later_gaps gs) items) ≡ shared_view (privacy private items) (lowered made) ++ missing

-- a path has come to a state where another has that stops alike
at_state : {S T : Type 0} {Same : S → T → Type 0} {p : Point (Next S)} {q : Point (Next T)} → SamePoint (SameNext Same) p q → IsAtState q → IsAtState p
at_state both-cut here = here
at_state (both-at (both-go same)) here = tt
at_state (both-at both-stop) here = here

module _ (private : List Slot) (ps : List Placed) (xs : List (A64 XReg)) (fin : AEnd XReg) (passes : Passes private ps xs fin) (may : Permission) (table at : ℕ)
    (s : Thread) (t : AState) (begins : s.at ≡ first_of ps) (alike : Alike s t) where
  -- by the gaps of the steps
  by_steps : (made : List Item) (stop : Point (Next (Left AState))) (n : ℕ) → Path (a64_block xregs may at xs fin t) made stop n
      → Followed (marked private) (gaps (stations private passes.steps)) may table ps s made stop
  by_steps made stop n path =
      let i : IrState = steps_state s in
      let gs : List Gap = gaps (stations private passes.steps) in
      let four = (passes.allocates may at (numbers_of t) t refl (same_named t)).back made stop n path in
      let three = (passes.selects may at i (numbers_of t) (start_numbered s t alike)).back four.0 four.1 four.2 four.3 in
      let follows = block_follows private passes.steps passes.merged passes.follows passes.end may i three.0 three.1 three.2 three.3 in
      let two = (block_fences passes.steps passes.merged passes.end passes.keeps may i).back three.0 three.1 three.2 three.3 in
      let one = (passes.lifts may table s i begins (thread_state s t alike)).back two.0 two.1 two.2 two.3 in
      let lows : lowered three.0 ≡ lowered made = three.4 ∙ four.4 in
      let places : placed one.0 ≡ placed three.0 = placed_full-to_placed one.0 two.0 one.4 ∙ two.4 in
      let both : placed one.0 ≡ placed follows.from = places ∙ sym follows.accesses in
      record {
        items = one.0;
        point = one.1;
        begun = one.2;
        path = one.3;
        alike = passed_point one.5 two.5 three.5 four.5;
        same = placed-to_trace one.0 three.0 places ∙ lowered-to_trace three.0 made lows;
        missing = follows.missing;
        fences = follows.fences;
        whole = λ here. follows.whole (at_state three.5 (at_state four.5 here));
        barriers = λ none. seen gs one.0 follows.from three.0 made follows.missing none
            (path_all IsNoBarrier (block_none no_cost may (unfenced passes.steps) passes.end i) follows.path) both follows.barriers lows;
      }
    where
      private_is : Slot → Bool
      private_is = marked private

      seen : (gs : List Gap) (items from steps made missing : List Item) → AllByRecursion IsNoBarrier items → AllByRecursion IsNoBarrier from → placed items ≡ placed from
          → first_given gs ++ shared_view (privacy private_is from) (dressed private_is (later_gaps gs) from) ≡ shared_view (privacy private_is from) (lowered steps) ++ missing
          → lowered steps ≡ lowered made
          → first_given gs ++ shared_view (privacy private_is items) (dressed private_is (later_gaps gs) items) ≡ shared_view (privacy private_is items) (lowered made) ++ missing
      seen gs items from steps made missing none none_from both barriers lows =
          let turns : privacy private_is items ≡ privacy private_is from = same_privacy private_is items from both in
          ap (λ l. first_given gs ++ l) (same_dressed private_is (privacy private_is items) (later_gaps gs) items from none none_from both)
          ∙ ap (λ turns. first_given gs ++ shared_view turns (dressed private_is (later_gaps gs) from)) turns
          ∙ barriers
          ∙ ap (λ turns. shared_view turns (lowered steps) ++ missing) (sym turns)
          ∙ ap (λ l. shared_view (privacy private_is items) l ++ missing) lows

  -- and by those of the plan
  pub block_followed : (made : List Item) (stop : Point (Next (Left AState))) (n : ℕ) → Path (a64_block xregs may at xs fin t) made stop n
      → Followed (marked private) (block_gaps (marked private) ps) may table ps s made stop
  block_followed made stop n path =
      subst (λ gs. Followed (marked private) gs may table ps s made stop) (ap gaps passes.counts) (by_steps made stop n path)
