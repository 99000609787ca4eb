use Rattle.topo.specs.Links.{AreLinks}
use Rattle.topo.proofs.links.link_edges.Given as goal

abbrev pub invariant-loop-place : goal.invariant-loop-place
invariant-loop-place l = AreLinks l.n l.edges l.place l.last.items l.before.items
