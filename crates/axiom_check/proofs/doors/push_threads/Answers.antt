use Rattle.std.proofs.Common.{length, refl, arith}
use Rattle.std.proofs.lemmas.Option.{slice_get_read}
use Rattle.axiom_check.specs.Gates.{IsThreadSource, IsThreadTarget, IsThreadEdge}
use Rattle.axiom_check.proofs.GainsLemmas.{gains_zero, gains_more}
use Rattle.axiom_check.proofs.doors.push_threads.Goals as goal

pub loop-thread-init : goal.loop-thread-init
loop-thread-init g c = (gains_zero _ _ _, gains_zero _ _ _, gains_zero _ _ _)

pub loop-thread-preserved : goal.loop-thread-preserved
loop-thread-preserved g c =
    let all = c.args.events.now.accesses.items in
    let doors = g.M.OrderModel.doors in
    let threads = c.args.threads.now in
    let t = c.loop-thread.thread-index in
    let here = slice_get_read threads (length threads) t c.thread-item.result refl (omega arith) c.thread-item.is in (
      gains_more threads (IsThreadSource all doors) t c.thread-item.result _ _ _ here c.loop-thread.invariant.0 (c.in_ok-push_thread.ensures.sources t),
      gains_more threads (IsThreadTarget all doors) t c.thread-item.result _ _ _ here c.loop-thread.invariant.1 (c.in_ok-push_thread.ensures.targets t),
      gains_more threads (IsThreadEdge all doors) t c.thread-item.result _ _ _ here c.loop-thread.invariant.2 (c.in_ok-push_thread.ensures.direct t),
    )
