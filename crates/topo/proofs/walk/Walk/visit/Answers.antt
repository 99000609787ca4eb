use Rattle.std.proofs.Common.{length}
use Rattle.topo.proofs.Steps.{no_top}
use Rattle.topo.proofs.walk.Walk.visit.Goals as goal

pub loop-top-init : goal.loop-top-init
loop-top-init c =
    let s = c.args.self.now in
    let marked = c.in_ok-open.ensures.marked in
    let goes = c.in_ok-open.ensures.goes (length s.marks.items) c.args.edges.now c.requires.holds (λ top is. absurd (no_top s.stack.items top c.requires.idle is)) in
    record { holds = goes.holds; visited = λ new. (cc); fewer_new = goes.fewer_new }
