-- The instructions of a block, taken one behind the other, are one block within which no other begins; and such a block makes
-- what the plan counts.
use Rattle.std.proofs.Common.{◌≡◌, inl, inr, ℕ, Bool, List, [], ◌∷◌, Option, Some, sym, ap, subst, ◌∙◌}
use Rattle.std.specs.Prelude.{if◌then◌else◌}
use Rattle.std.specs.List.{AllByRecursion}
use Rattle.ev_graph.specs.Places.{StandsIn}
use Rattle.behavior.specs.Tree.{Tree, Gives, Begins, Acts, Next, Goes, Stops, ◌then◌}
use Rattle.behavior.specs.Acts.{Permission}
use Rattle.behavior.proofs.Unfolding.{AllResults}
use Rattle.x64_syntax.specs.declared.placed.Placed.{Placed}
use Rattle.x64_syntax.specs.declared.slots.Slot.{Slot}
use Rattle.x64_table.specs.State.{Thread}
use Rattle.x64_table.specs.Rows.{Exit, State, Return, Indexed, row_of}
use Rattle.x64_table.specs.Machine.{no_entries, resolve, x64_take}
use Rattle.elf_read.specs.Elf.{IsSegment}
use Rattle.code_at.specs.Code.{Program}
use Rattle.cfg_walk.specs.declared.code.Code.{Code}
use Rattle.cfg_walk.specs.Reach.{IsPlaced, end_of, successors}
use Rattle.cfg_walk.specs.Blocks.{BeginAt}
use Rattle.cfg_walk.specs.Code.{IsCodeOf}
use Rattle.cfg_walk.specs.Machine.{has_address, code_for_threads, thread_step}
use Rattle.cfg_walk.specs.Running.{whole_step}
use Rattle.cfg_walk.proofs.BlockRuns.{behind, on, whole_is, return_is}
use Rattle.cfg_walk.proofs.CallerLemmas.{finds_code, row_of_placed}
use Rattle.cfg_walk.proofs.Instructions.{AreStretch}
use Rattle.cfg_walk.proofs.Results.{next_results}
use Rattle.cfg_walk.proofs.RowExits.{LeavesTo}
use Rattle.fence_plan.specs.declared.gap.Gap.{Gap}
use Rattle.fence_plan.specs.Gaps.{Station}
use Rattle.fence_plan.specs.Realized.{Realizes, RealizesPlan}
use Rattle.fence_plan.proofs.CallerLemmas.{UnfoldsWithin, within-ends, within-goes, within-begins, within-acts}
use Rattle.carry_spec.specs.Plan.{IsPlan}
use Rattle.translate_core.proofs.CodeRealizes.{AreInner, plan_at, no_plan}

-- ---- any machine

within_self : {S : Type 0} (plan : S → Option (List Gap)) (step : S → Tree (Next S)) (t : Tree (Next S)) → UnfoldsWithin plan step t t
within_self plan step (Gives next) = within-ends
within_self plan step (Begins t) = within-begins (within_self plan step t)
within_self plan step (Acts range made next) = within-acts (λ v lt. within_self plan step (next v))

-- the same row, and then what unfolds
within_then : {S T : Type 0} (plan : T → Option (List Gap)) (step : T → Tree (Next T)) (P : S → Type 0) (t : Tree (Next S)) (f g : S → Tree (Next T))
    → AllResults P t → ((s : S) → P s → UnfoldsWithin plan step (f s) (g s)) → UnfoldsWithin plan step (t then f) (t then g)
within_then plan step P (Gives (Goes s)) f g results later = later s results
within_then plan step P (Gives (Stops end)) f g results later = within-ends
within_then plan step P (Begins t) f g results later = within-begins (within_then plan step P t f g results later)
within_then plan step P (Acts range made next) f g results later = within-acts (λ v lt. within_then plan step P (next v) f g (results v lt) later)

-- what steps make, the block that they unfold into makes
pub realizes_within : {S : Type 0} (private : Slot → Bool) (plan : S → Option (List Gap)) (Stands : S → List Station → Type 0) (step : S → Tree (Next S)) → RealizesPlan private plan Stands step
    → {t block : Tree (Next S)} → UnfoldsWithin plan step t block → (ss : List Station) → Realizes private plan Stands ss t → Realizes private plan Stands ss block
realizes_within private plan Stands step all within-ends ss realizes = realizes
realizes_within private plan Stands step all (within-goes {s = s} none rest) ss (inl (same, stands)) = realizes_within private plan Stands step all rest ss (all s ss stands)
realizes_within private plan Stands step all (within-goes {s = s} none rest) ss (inr (next, some, stands)) = absurd (let both = sym none ∙ some in cc)
realizes_within private plan Stands step all (within-begins rest) ss realizes = realizes_within private plan Stands step all rest ss realizes
realizes_within private plan Stands step all (within-acts rest) ss realizes =
    λ v lt. let one = realizes v lt in (one.0, one.1, realizes_within private plan Stands step all (rest v lt) one.0 one.2)

-- ---- a program's code

module _ (program : Program) (code : Code) (is : IsCodeOf program code) (segments : AllByRecursion IsSegment program.parts) (private : Slot → Bool) (plan : ℕ → Option (List Gap)) (is_plan : IsPlan private code plan)
    (may : Permission) (table : ℕ) where
  abbrev step : Thread → Tree (Next Thread)
  step = thread_step may code

  abbrev planned : Thread → Option (List Gap)
  planned = plan_at program code is segments private plan is_plan

  abbrev behind_exit : List Placed → Exit → Tree (Next Thread)
  behind_exit = on program code segments is may table

  -- the step of an instruction, and then the rest of the block
  within_behind : (p : Placed) (ps : List Placed) (s : Thread) → IsPlaced program p → s.at ≡ p.address
      → ((t : Thread) → StandsIn (successors p) t.at → UnfoldsWithin planned step (Gives (Goes t)) (whole_step may code table ps t))
      → UnfoldsWithin planned step (step s) (whole_step may code table (p ∷ ps) s)
  within_behind p ps s placed level later =
      let row = row_of may p.instr p.length p.flow s in
      let known = next_results (LeavesTo (λ a. StandsIn (successors p) a)) row (row_of_placed program code segments is p placed may s level) in
      let found = ((finds_code program code is).placed s.at p).1 (placed, sym level) in
      let unfolded = within_then planned step (λ e. LeavesTo (λ a. StandsIn (successors p) a) (Goes e)) row (resolve (has_address code.sites) no_entries) (behind_exit ps) known by_exit in
      subst (λ o. UnfoldsWithin planned step (x64_take may (code_for_threads code) o s) (whole_step may code table (p ∷ ps) s)) (sym found)
      (subst (λ t. UnfoldsWithin planned step (x64_take may (code_for_threads code) (Some p) s) t) (sym (whole_is program code segments is may table p ps s)) (within-begins unfolded))
    where
      by_exit : (e : Exit) → LeavesTo (λ a. StandsIn (successors p) a) (Goes e) → UnfoldsWithin planned step (resolve (has_address code.sites) no_entries e) (behind_exit ps e)
      by_exit (State t) there = later t there
      by_exit (Return t v) there =
          subst (λ u. UnfoldsWithin planned step (resolve (has_address code.sites) no_entries (Return t v)) u) (return_is program code segments is may table ps t v)
          (within_self planned step (resolve (has_address code.sites) no_entries (Return t v)))
      by_exit (Indexed t k) there = absurd there

  pub stretch_within : (ps : List Placed) → AreStretch program ps → AreInner program ps → (s : Thread) → BeginAt s.at ps → UnfoldsWithin planned step (step s) (whole_step may code table ps s)
  stretch_within [] stretch inner s begin = absurd stretch
  stretch_within (p ∷ []) stretch inner s begin = within_behind p [] s stretch.0 (sym begin) (λ t there. within-ends)
  stretch_within (p ∷ q ∷ ps) stretch inner s begin =
      within_behind p (q ∷ ps) s stretch.0 (sym begin)
      (λ t there. let at = behind p t.at stretch.1 there in
      within-goes (ap plan at ∙ no_plan program code is segments private plan is_plan (end_of p) inner.0) (stretch_within (q ∷ ps) stretch.3 inner.1 t (stretch.2 ∙ sym at)))
