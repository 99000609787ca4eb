-- Runs of a thread of the image, with the planned fences of the program's runs; and runs of the program's thread in the image.
use Rattle.std.proofs.Common.{◌≡◌, inr, ℕ, ◌+◌, Bool, true, false, List, [], ◌∷◌, Option, refl, sym, ap, ◌∙◌, subst}
use Rattle.std.specs.Prelude.{if◌then◌else◌}
use Rattle.std.specs.List.{AllByRecursion}
use Rattle.ev_graph.specs.Places.{StandsIn}
use Rattle.ev_graph.specs.declared.events.Item.{Item}
use Rattle.ev_graph.specs.declared.events.Item.TheVariants as items
use Rattle.behavior.specs.Tree.{Tree, Gives, Next, Goes, Stops, ◌then◌}
use Rattle.behavior.specs.Acts.{Permission, goes}
use Rattle.behavior.specs.Exits.{Arrived, arrives, lands, resolved}
use Rattle.behavior.specs.Leaving.{Left, SameLeft}
use Rattle.behavior.specs.Seen.{trace}
use Rattle.behavior.specs.Kept.{ForwardBy, SameNext, both-go, both-stop, Keeps}
use Rattle.behavior.specs.Unfolds.{Unfolds}
use Rattle.behavior.proofs.Beside.{give, beside_keeps}
use Rattle.behavior.proofs.KeepsLemmas.{keeps_then}
use Rattle.behavior.proofs.Paths.{then-assoc}
use Rattle.behavior.proofs.SeenLemmas.{lowered-to_trace, sees-trace}
use Rattle.x64_syntax.specs.declared.placed.Placed.{Placed}
use Rattle.x64_syntax.specs.declared.slots.Slot.{Slot}
use Rattle.x64_table.specs.State.{Thread}
use Rattle.x64_table.specs.Rows.{row_of}
use Rattle.x64_table.specs.Blocks.{goes_on, x64_block}
use Rattle.elf_read.specs.Elf.{IsSegment}
use Rattle.code_at.specs.Code.{Program}
use Rattle.cfg_walk.specs.declared.code.Code.{Code}
use Rattle.cfg_walk.specs.Code.{IsCodeOf}
use Rattle.cfg_walk.specs.Machine.{exits_of, thread_step}
use Rattle.cfg_walk.specs.Blocks.{BeginAt}
use Rattle.cfg_walk.specs.Running.{at_arrival, whole_step}
use Rattle.cfg_walk.proofs.CallerLemmas.{run_blocks}
use Rattle.fence_place.specs.Marked.{marked}
use Rattle.fence_plan.specs.declared.gap.Gap.{Gap}
use Rattle.fence_plan.specs.Planned.{is_barrier}
use Rattle.fence_plan.proofs.CallerLemmas.{planned_guards, bare, run_bare}
use Rattle.a64_code.specs.declared.instr.XReg.{XReg}
use Rattle.a64_table.specs.State.{xregs, AState}
use Rattle.a64_table.specs.Machine.{AThread, a64_step}
use Rattle.a64_block.specs.Blocks.{a64_block}
use Rattle.a64_block.specs.declared.block.ABlock.{ABlock}
use Rattle.code_layout.specs.Carried.{IsCarriedOut}
use Rattle.code_layout.specs.Places.{place_from}
use Rattle.code_layout.proofs.CallerLemmas.{HasCome, MeansBlock, threads_forward}
use Rattle.carry_spec.specs.Plan.{IsPlan}
use Rattle.translate_core.specs.Passed.{IsPassed}
use Rattle.translate_core.proofs.Accounted.{IsPlanned}
use Rattle.translate_core.proofs.CodeRealizes.{comes_to_block, code_realizes, plan_at, StandsInBlock}
use Rattle.translate_core.proofs.Passes.{Alike, block_keeps}
use Rattle.translate_core.proofs.ThreadFollows.{StandsBeside, alike_free, alike_at, first_begins, thread_follows}

bare_trace : (xs : List Item) → trace (bare xs) ≡ trace xs
bare_trace [] = refl
bare_trace (items.Access a ∷ xs) = ap (λ l. items.Access (record a { place = 0 }) ∷ l) (bare_trace xs)
bare_trace (items.Fence f ∷ xs) = by (is_barrier f.kind) (bare_trace xs)
  where
    by : (b : Bool) → trace (bare xs) ≡ trace xs → trace (if b then bare xs else items.Fence f ∷ bare xs) ≡ trace xs
    by true rest = rest
    by false rest = rest
bare_trace (items.Input t ∷ xs) = ap (λ l. items.Input (record t { place = 0 }) ∷ l) (bare_trace xs)
bare_trace (items.Output t ∷ xs) = ap (λ l. items.Output (record t { place = 0 }) ∷ l) (bare_trace xs)

module _ (program : Program) (code : Code) (is : IsCodeOf program code) (segments : AllByRecursion IsSegment program.parts) (private : List Slot)
    (plan : ℕ → Option (List Gap)) (is_plan : IsPlan (marked private) code plan) (may : Permission)
    (most first : ℕ) (words : List ℕ) (blocks : List (ABlock XReg))
    (carried : (b : ABlock XReg) → StandsIn blocks b → (t : AState) → IsCarriedOut (exits_of code) most first words blocks b may t)
    (passed : (b : ABlock XReg) → StandsIn blocks b → IsPassed private code b) where
  abbrev step : Thread → Tree (Next Thread)
  step = thread_step may code

  abbrev go : AThread → Tree (Next AThread)
  go = a64_step may first words

  -- each run of the image's thread has, with planned fences, one of the program's
  pub thread_planned : (s : Thread) (t : AThread) → StandsBeside first blocks s t → IsPlanned (marked private) step s go t
  thread_planned s t stands made end n run =
      let one = thread_follows program code is segments private plan is_plan may most first words blocks carried passed s t stands made end n run in
      let (b, here, first_is) = stands.known in
      let pass = passed b here in
      let come = comes_to_block program code is segments (marked private) plan is_plan s (pass.block, pass.known, pass.first ∙ first_is) in
      let realizes = code_realizes program code is segments (marked private) plan is_plan may in
      let plan_of = plan_at program code is segments (marked private) plan is_plan in
      let InBlock = StandsInBlock program code is segments (marked private) plan is_plan in (
        one.0,
        one.1,
        run_bare (marked private) plan_of InBlock step realizes one.2 come.0 (inr (come.0, come.1, come.2)),
        bare_trace one.0 ∙ one.3,
        one.3,
        planned_guards (marked private) plan_of InBlock step realizes s come.0 come.1 come.2 one.0 end one.1 one.2,
        one.4,
      )

  -- ---- forward

  abbrev Arrives : Thread → Arrived AState → Type 0
  Arrives = HasCome (λ (s : Thread). s.at) Alike

  both_arrive : (a : Left Thread) (b : Left AState) → SameLeft Alike a b
      → Keeps trace 62 0 (SameNext Arrives) (lands (exits_of code) a then (λ c. goes (at_arrival c))) (lands (exits_of code) b)
  both_arrive a b same = by (resolved (exits_of code) a.target) (resolved (exits_of code) b.target) (ap (resolved (exits_of code)) same.0)
    where
      by : (r q : Next ℕ) → q ≡ r → Keeps trace 62 0 (SameNext Arrives) (Gives (arrives a.state r) then (λ c. goes (at_arrival c))) (Gives (arrives b.state q))
      by (Goes at) q e =
          subst (λ q. Keeps trace 62 0 (SameNext Arrives) (Gives (arrives a.state (Goes at)) then (λ c. goes (at_arrival c))) (Gives (arrives b.state q))) (sym e)
          (beside_keeps trace sees-trace 62 (SameNext Arrives) {credit = 0} (give (both-go (refl, alike_at a.state b.state at same.1))))
      by (Stops end) q e =
          subst (λ q. Keeps trace 62 0 (SameNext Arrives) (Gives (arrives a.state (Stops end)) then (λ c. goes (at_arrival c))) (Gives (arrives b.state q))) (sym e)
          (beside_keeps trace sees-trace 62 (SameNext Arrives) {credit = 0} (give both-stop))

  block_means : (b : ABlock XReg) → StandsIn blocks b → (s : Thread) (t : AState) → s.at ≡ b.first → Alike s t
      → MeansBlock step (λ (s : Thread). s.at) Alike (exits_of code) trace 62 0 may (place_from first blocks b.first) b s t
  block_means b here s t level alike =
      by pass.ps (run_blocks program code segments is pass.block pass.ps pass.known pass.are may 0 s (level ∙ sym pass.first)).unfolds
      (block_keeps private pass.ps b.steps b.end pass.passes may 0 (place_from first blocks b.first) s t (level ∙ sym pass.first ∙ first_begins pass.block.first pass.ps pass.are.first) alike)
      pass.are.first
    where
      pass : IsPassed private code b
      pass = passed b here

      by : (ps : List Placed) → Unfolds step (step s) (whole_step may code 0 ps s)
          → Keeps trace 62 0 (SameNext (SameLeft Alike)) (x64_block may 0 ps s) (a64_block xregs may (place_from first blocks b.first) b.steps b.end t)
          → BeginAt pass.block.first ps
          → MeansBlock step (λ (s : Thread). s.at) Alike (exits_of code) trace 62 0 may (place_from first blocks b.first) b s t
      by [] unfolds keeps begin = absurd begin
      by (p ∷ ps) unfolds keeps begin = record {
        of = ((row_of may p.instr p.length p.flow s then goes_on 0 (x64_block may 0 ps)) then lands (exits_of code)) then (λ c. goes (at_arrival c));
        unfolds = unfolds;
        keeps = subst (λ u. Keeps trace 62 0 (SameNext Arrives) u (a64_block xregs may (place_from first blocks b.first) b.steps b.end t then lands (exits_of code)))
            (sym (then-assoc (x64_block may 0 (p ∷ ps) s) (lands (exits_of code)) (λ c. goes (at_arrival c))))
            (keeps_then trace sees-trace 62 0 (SameLeft Alike) Arrives (λ l. lands (exits_of code) l then (λ c. goes (at_arrival c))) (lands (exits_of code)) both_arrive keeps);
      }

  -- each run of the program's thread has one of the image's
  pub thread_forward : (s : Thread) (t : AThread) → StandsBeside first blocks s t → ForwardBy trace (62 + (0 + most)) step s go t
  thread_forward s t stands =
      threads_forward step (λ (s : Thread). s.at) Alike alike_free (exits_of code) most first words blocks may trace sees-trace lowered-to_trace 62 0 carried block_means s t stands
