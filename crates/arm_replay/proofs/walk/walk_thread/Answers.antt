use Rattle.std.proofs.Common.{◌≡◌, drop, false, true, refl, sym, ap, ◌∙◌, subst}
use Rattle.std.specs.Prelude.{Ok, Some}
use Rattle.std.proofs.lemmas.Result.{err_from_is_err_and}
use Rattle.arm_replay.specs.Faults.{GoesOn}
use Rattle.arm_replay.specs.Memories.{low_step}
use Rattle.arm_replay.specs.Threads.{a64_start}
use Rattle.a64_table.specs.Machine.{Shows}
use Rattle.arm_replay.specs.Walking.{IsCutHere, StepsTo}
use Rattle.arm_replay.proofs.EndLemmas.{starts, left_over, cut_so}
use Rattle.arm_replay.proofs.walk.walk_thread.Goals as goal

pub loop-walk-init : goal.loop-walk-init
loop-walk-init c =
    let step = low_step c.args.thread.now.memory.image.now c.args.thread.now.memory.stacks.now in
    let k = c.args.thread.now.number in
    let start = a64_start k c.args.stack c.args.at in
    let given = c.args.given.now in
    let walk = c.new-walk.result in (
      c.new-walk.ensures.within given,
      starts step start k given walk (subst (λ s. Shows s start) (sym c.new-walk.ensures.state) c.start_state.ensures)
          (c.new-walk.ensures.made k) c.new-walk.ensures.none.0 c.new-walk.ensures.none.1,
    )

pub returns-in_err-is_cut : goal.returns-in_err-is_cut
returns-in_err-is_cut c =
    let step = low_step c.args.thread.now.memory.image.now c.args.thread.now.memory.stacks.now in
    let k = c.args.thread.now.number in
    let start = a64_start k c.args.stack c.args.at in
    let given = c.args.given.now in
    let walk = c.loop-walk.walk in
    let inv = c.loop-walk.invariant in
    let rest = drop walk.taken given.values in
    let p = err_from_is_err_and c.from_residual.result c.from_residual.ensures.1 in
    let cut = c.in_err-is_cut.ensures in
    rw (p.1, p.2) (left_over step start k given walk _ inv.0.begun cut.0 cut.1 cut.2 inv.1)

pub returns-then-branch : goal.returns-then-branch
returns-then-branch c =
    let step = low_step c.args.thread.now.memory.image.now c.args.thread.now.memory.stacks.now in
    let k = c.args.thread.now.number in
    let start = a64_start k c.args.stack c.args.at in
    let given = c.args.given.now in
    let walk = c.loop-walk.walk in
    let inv = c.loop-walk.invariant in
    let rest = drop walk.taken given.values in
    let cut : IsCutHere k given walk.made.count rest (Ok true) = subst (λ b. IsCutHere k given walk.made.count rest (Ok b)) c.if-branch.true c.in_ok-is_cut.ensures in
    cut_so step start k given walk c.run.result inv.0.begun cut.0 cut.1 cut.2 c.run.ensures.0 c.run.ensures.1 inv.1

pub returns-in_err-end : goal.returns-in_err-end
returns-in_err-end c =
    let step = low_step c.args.thread.now.memory.image.now c.args.thread.now.memory.stacks.now in
    let k = c.args.thread.now.number in
    let start = a64_start k c.args.stack c.args.at in
    let given = c.args.given.now in
    let walk = c.loop-walk.walk in
    let inv = c.loop-walk.invariant in
    let rest = drop walk.taken given.values in
    let goes_on : GoesOn given walk.made.count rest = subst (λ b. IsCutHere k given walk.made.count rest (Ok b)) c.if-branch.false c.in_ok-is_cut.ensures in
    let p = err_from_is_err_and c.from_residual-in_err-end.result c.from_residual-in_err-end.ensures.1 in
    rw (p.1, p.2) (c.in_err-end.ensures.steps start goes_on inv.1)

pub returns-in-Some : goal.returns-in-Some
returns-in-Some c =
    let step = low_step c.args.thread.now.memory.image.now c.args.thread.now.memory.stacks.now in
    let k = c.args.thread.now.number in
    let start = a64_start k c.args.stack c.args.at in
    let given = c.args.given.now in
    let walk = c.loop-walk.walk in
    let inv = c.loop-walk.invariant in
    let rest = drop walk.taken given.values in
    let goes_on : GoesOn given walk.made.count rest = subst (λ b. IsCutHere k given walk.made.count rest (Ok b)) c.if-branch.false c.in_ok-is_cut.ensures in
    let there : StepsTo step start k given c.step.new.self (Ok (Some c.in-Some.end)) =
    subst (λ o. StepsTo step start k given c.step.new.self (Ok o)) c.in-Some.is (c.in_ok-end.ensures.steps start goes_on inv.1) in
    c.ended.ensures step start there.1 there.0
