use Rattle.std.proofs.Common.{◌+◌}
use Rattle.axiom_check.specs.Bytes.{IsSourceOf, IsTargetOf}
use Rattle.axiom_check.proofs.BytesLemmas.{gains_found}
use Rattle.axiom_check.proofs.bytes.push_write.Goals as goal

pub returns-clause-sources : goal.returns-clause-sources
returns-clause-sources c =
    gains_found c.args.events.now.accesses.items c.args.events.now.firsts.items c.requires.numbered c.args.id c.in-Some.found.number c.in-Some.found.access
    (IsSourceOf c.args.writers.within c.args.writers.threads (c.args.place + 1)) _ _ c.in-Some.ensures.some c.in_ok-push_source.ensures

pub returns-clause-targets : goal.returns-clause-targets
returns-clause-targets c =
    gains_found c.args.events.now.accesses.items c.args.events.now.firsts.items c.requires.numbered c.args.id c.in-Some.found.number c.in-Some.found.access
    (IsTargetOf c.args.place) _ _ c.in-Some.ensures.some c.in_ok-push_target.ensures
