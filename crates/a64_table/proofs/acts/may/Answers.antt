use Rattle.a64_table.proofs.MemoryLemmas.{allows_decides}
use Rattle.a64_table.proofs.acts.may.Goals as goal

pub returns : goal.returns
returns g c =
    allows_decides (g.S.StartMemory.cells c.args.memory.now) c.args.write c.args.address c.args.size c.allows.result c.allows.ensures
