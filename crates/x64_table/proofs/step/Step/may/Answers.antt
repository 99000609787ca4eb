use Rattle.std.proofs.Common.{◌∙◌, ap}
use Rattle.ev_graph.specs.Memory.{allows}
use Rattle.x64_table.proofs.PermissionLemmas.{answered_by_test}
use Rattle.x64_table.proofs.step.Step.may.Goals as goal

pub returns : goal.returns
returns g c =
    answered_by_test (g.S.StartMemory.cells c.args.self.now.memory.now) c.args.write c.args.address c.size.result c.allows.result c.allows.ensures
    ∙ ap (allows (g.S.StartMemory.cells c.args.self.now.memory.now) c.args.write c.args.address) c.size.ensures
