use Rattle.std.proofs.Common.{◌+◌, ap}
use Rattle.ev_graph.proofs.GivingLemmas.{no_byte_given}
use Rattle.ev_graph.proofs.giving.giving_of_write.Goals as goal

pub returns-in-None-clause-giving : goal.returns-in-None-clause-giving
returns-in-None-clause-giving c = λ start.
    no_byte_given c.args.threads.now c.args.id c.args.read.now c.args.k _ (ap (λ n. c.args.read.now.address + n) c.from-k.ensures) c.in-None.ensures.none
