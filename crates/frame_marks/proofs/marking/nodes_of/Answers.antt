use Rattle.std.proofs.Common.{◌↔◌, ℕ, List, map, subst, arith}
use Rattle.std.proofs.lemmas.List.{take_all}
use Rattle.ev_graph.specs.Places.{StandsIn}
use Rattle.x64_syntax.specs.declared.placed.Placed.{Placed}
use Rattle.frame_marks.specs.Lists.{address_of}
use Rattle.frame_marks.proofs.Gathered.{node_more}
use Rattle.frame_marks.proofs.marking.nodes_of.Goals as goal

pub loop-p-preserved : goal.loop-p-preserved
loop-p-preserved c =
    node_more c.args.placed.now c.loop-p.p-index _ c.loop-p.nodes c.add.new.self c.loop-p-test.true c.loop-p.invariant c.in_ok-add.ensures

pub returns : goal.returns
returns c =
    subst (λ (ps : List Placed). (a : ℕ) → StandsIn c.loop-p.nodes a ↔ StandsIn (map address_of ps) a)
    (take_all c.loop-p.p-index c.args.placed.now (omega (arith, c.loop-p-test.false))) c.loop-p.invariant
