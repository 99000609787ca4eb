use Rattle.std.proofs.Common.{◌≡◌, ◌<◌, ◌+◌, ◌++◌, ◌∷◌, [], List, get_or, length, length-append, refl, sym, ap, ◌∙◌, subst, arith}
use Rattle.std.specs.Prelude.{slice_get, Some}
use Rattle.std.proofs.lemmas.Result.{err_from_is_err_and}
use Rattle.ev_graph.specs.declared.execution.Stack.{Stack}
use Rattle.ev_graph.specs.declared.execution.ThreadRun.{ThreadRun}
use Rattle.arm_replay.specs.Faults.{IsThreadReplay}
use Rattle.arm_replay.specs.Memories.{low_step}
use Rattle.arm_replay.specs.Replays.{IsGiven, AreRunsBy}
use Rattle.arm_replay.specs.Threads.{a64_start}
use Rattle.arm_replay.specs.Walking.{IsWalkFault}
use Rattle.arm_replay.proofs.LayoutLemmas.{get_there}
use Rattle.arm_replay.proofs.RunLemmas.{runs_before, run_by, runs_more, walk_fault}
use Rattle.arm_replay.proofs.execution.walk_threads.Goals as goal

pub returns-in_err-run : goal.returns-in_err-run
returns-in_err-run c =
    let image = c.args.image.now in
    let file = c.args.file.now in
    let k = c.loop-k.k in
    let ats = c.as_slice-at-items.result.now in
    let stacks = c.as_slice-stacks.result.now in
    let none : Stack = record { lo = 0; hi = 0 } in
    let at = get_or ats k 0 in
    let stack = get_or stacks k none in
    let given = c.index-given-k.result in
    let same_ats : ats ≡ image.threads = c.as_slice-at-items.ensures in
    let same_stacks : stacks ≡ file.stacks = c.as_slice-stacks.ensures in
    let same_given : c.as_slice-given.result.now ≡ file.threads = c.as_slice-given.ensures in
    let in_ats : k < length ats = c.loop-k-test.true in
    let in_stacks : k < length stacks = omega (arith, in_ats, ap length same_ats, ap length same_stacks, c.requires.stacks) in
    let in_given : k < length c.as_slice-given.result.now = omega (arith, in_ats, ap length same_ats, ap length same_given, c.requires.given) in
    let step = low_step image file.stacks in
    let is : IsGiven image file k at stack given = record {
      begins = subst (λ l. slice_get l k ≡ Some at) same_ats (get_there ats k 0 in_ats);
      stack_is = subst (λ l. slice_get l k ≡ Some stack) same_stacks (get_there stacks k none in_stacks);
      given_is = subst (λ l. slice_get l k ≡ Some given) same_given (get_there c.as_slice-given.result.now k given in_given ∙ ap Some (sym c.index-given-k.is));
    } in
    let p = err_from_is_err_and c.from_residual.result c.from_residual.ensures.1 in
    let fault = subst (λ s. IsWalkFault (low_step image s) (a64_start k stack at) k given c.in_err-run.field-0.0) same_stacks c.in_err-run.ensures in
    rw (p.1, p.2) (walk_fault step image file k at stack given _ is (runs_before step image file c.loop-k.runs.items k c.loop-k.invariant.0 c.loop-k.invariant.1) fault)

pub loop-k-preserved : goal.loop-k-preserved
loop-k-preserved c =
    let image = c.args.image.now in
    let file = c.args.file.now in
    let k = c.loop-k.k in
    let ats = c.as_slice-at-items.result.now in
    let stacks = c.as_slice-stacks.result.now in
    let none : Stack = record { lo = 0; hi = 0 } in
    let at = get_or ats k 0 in
    let stack = get_or stacks k none in
    let given = c.index-given-k.result in
    let same_ats : ats ≡ image.threads = c.as_slice-at-items.ensures in
    let same_stacks : stacks ≡ file.stacks = c.as_slice-stacks.ensures in
    let same_given : c.as_slice-given.result.now ≡ file.threads = c.as_slice-given.ensures in
    let in_ats : k < length ats = c.loop-k-test.true in
    let in_stacks : k < length stacks = omega (arith, in_ats, ap length same_ats, ap length same_stacks, c.requires.stacks) in
    let in_given : k < length c.as_slice-given.result.now = omega (arith, in_ats, ap length same_ats, ap length same_given, c.requires.given) in
    let step = low_step image file.stacks in
    let is : IsGiven image file k at stack given = record {
      begins = subst (λ l. slice_get l k ≡ Some at) same_ats (get_there ats k 0 in_ats);
      stack_is = subst (λ l. slice_get l k ≡ Some stack) same_stacks (get_there stacks k none in_stacks);
      given_is = subst (λ l. slice_get l k ≡ Some given) same_given (get_there c.as_slice-given.result.now k given in_given ∙ ap Some (sym c.index-given-k.is));
    } in
    let run = c.in_ok-run.run' in
    let replay = subst (λ s. IsThreadReplay (low_step image s) (a64_start k stack at) k given run) same_stacks c.in_ok-run.ensures in
    let more = c.in_ok-push.ensures.items in
    let grown : length (c.loop-k.runs.items ++ run ∷ []) ≡ k + 1 = length-append c.loop-k.runs.items (run ∷ []) ∙ ap (λ n. n + 1) c.loop-k.invariant.0 in (
      ap length more ∙ grown,
      subst (λ (runs : List ThreadRun). AreRunsBy step image file runs) (sym more)
          (runs_more step image file c.loop-k.runs.items k run c.loop-k.invariant.0 (run_by step image file k at stack given run is replay) c.loop-k.invariant.1),
    )
