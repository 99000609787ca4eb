use Rattle.std.proofs.Common.{◌≡◌, ◌<◌, ◌++◌, ◌∷◌, [], List, ℕ, sum_by, arith, subst, sym}
use Rattle.std.proofs.Math.ListN.{set}
use Rattle.topo.specs.declared.walk.Mark.TheVariants.{New, Open, Done}
use Rattle.topo.specs.Walk.{IsWalk, mark_weight}
use Rattle.topo.proofs.Moves.{closed, was}
use Rattle.topo.proofs.Steps.{sum_by_falls, popped}
use Rattle.topo.proofs.walk.Walk.close.Goals as goal

pub returns : goal.returns
returns c = λ n edges w none_left.
    let s = c.args.self.now in
    let marks = s.marks.items in
    let rest = c.pop.new.self.items in
    let less : sum_by mark_weight (set marks c.args.top Done) < sum_by mark_weight marks = sum_by_falls mark_weight marks c.args.top Open Done c.requires.here (omega arith) in
    let parts : s.stack.items ≡ rest ++ c.args.top ∷ [] = popped s.stack.items rest c.pop.result s.stack.len c.args.top s.stack.ok.0 c.requires.top c.pop.ensures.items c.pop.ensures.value in
    let before = subst (λ (stack : List ℕ). IsWalk n edges s.cursors.items marks stack s.done.items) parts w in
    record {
      holds = subst (λ (done : List ℕ). IsWalk n edges s.cursors.items (set marks c.args.top Done) rest done) (sym c.in_ok-push.ensures.items)
          (closed n edges s.cursors.items marks rest s.done.items c.args.top before none_left);
      fewer_new = λ u here. (was marks c.args.top u Done New here (λ e. cc)).1;
      less = omega arith;
    }
