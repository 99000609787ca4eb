use Rattle.std.proofs.Common.{◌<◌, ℕ, suc, sum_by, arith}
use Rattle.std.proofs.Math.ListN.{set}
use Rattle.topo.proofs.Moves.{passed}
use Rattle.topo.proofs.Steps.{sum_by_falls}
use Rattle.topo.proofs.walk.Walk.pass.Goals as goal

pub returns : goal.returns
returns c = λ n edges before w fixed past.
    let s = c.args.self.now in
    let within = (fixed.linked past.place c.args.next past.edge past.link past.here).within in
    let less : sum_by (λ link. link) (set s.cursors.items c.args.v c.args.next) < sum_by (λ link. link) s.cursors.items = sum_by_falls (λ (link : ℕ). link) s.cursors.items c.args.v (suc past.place) c.args.next past.cursor (omega arith) in
    record {
      holds = passed n edges before s.cursors.items s.marks.items s.stack.items s.done.items c.args.v past.place c.args.next past.edge w fixed.linked past.cursor past.here past.done past.link;
      fewer_new = λ u here. here;
      less = omega arith;
    }
