use Rattle.std.proofs.Common.{arith}
use Rattle.std.proofs.lemmas.Grind.{common_steps}
use Rattle.axiom_check.proofs.LanesLemmas.{graph_of}
use Rattle.axiom_check.proofs.lanes.Lanes.graph.Goals as goal

pub returns-clause-graph : goal.returns-clause-graph
returns-clause-graph c =
    graph_of c.args.events c.in-Some.nodes c.args.self.direct.items _ _ c.args.self.sources.items c.args.self.targets.items c.in_ok-targets.targets.items _ _ _
    c.requires.direct c.requires.sources c.requires.targets c.in_ok-targets.ensures.rising c.in_ok-targets.ensures.same (grind (arith, common_steps))
    c.as_slice.ensures.value c.as_slice-2.ensures.value c.as_slice-3.ensures.value c.in_ok-push_rungs.ensures c.in_ok-push_entries.ensures
