use Rattle.std.proofs.Common.{◌<◌, List, ℕ, sum_by, arith, subst, sym}
use Rattle.std.proofs.Math.ListN.{set}
use Rattle.topo.specs.declared.walk.Mark.TheVariants.{New, Open}
use Rattle.topo.specs.Walk.{IsWalk, mark_weight}
use Rattle.topo.proofs.Moves.{opened, was}
use Rattle.topo.proofs.Steps.{sum_by_falls}
use Rattle.topo.proofs.walk.Walk.open.Goals as goal

pub returns-clause-goes : goal.returns-clause-goes
returns-clause-goes c = λ n edges w leads.
    let s = c.args.self.now in
    let marks = s.marks.items in
    let less : sum_by mark_weight (set marks c.args.v Open) < sum_by mark_weight marks = sum_by_falls mark_weight marks c.args.v New Open c.requires (omega arith) in
    record {
      holds = subst (λ (stack : List ℕ). IsWalk n edges s.cursors.items (set marks c.args.v Open) stack s.done.items) (sym c.in_ok-push.ensures.items)
          (opened n edges s.cursors.items marks s.stack.items s.done.items c.args.v w c.requires leads);
      fewer_new = λ u here. (was marks c.args.v u Open New here (λ e. cc)).1;
      less = omega arith;
    }
