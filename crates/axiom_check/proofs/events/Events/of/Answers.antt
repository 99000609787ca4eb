use Rattle.std.proofs.Common.{arith}
use Rattle.std.proofs.lemmas.Grind.{common_steps}
use Rattle.axiom_check.proofs.NumberLemmas.{are_numbered}
use Rattle.axiom_check.proofs.events.Events.of.Goals as goal

pub returns-clause-numbered : goal.returns-clause-numbered
returns-clause-numbered c = are_numbered c.args.threads.now _ _ c.requires (grind (arith, common_steps)) (grind (arith, common_steps))
