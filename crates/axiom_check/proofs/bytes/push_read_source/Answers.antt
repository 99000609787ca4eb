use Rattle.axiom_check.proofs.BytesLemmas.{gains_from}
use Rattle.axiom_check.proofs.bytes.push_read_source.Goals as goal

pub returns : goal.returns
returns c = λ co once places known.
    gains_from co once c.args.writers.within c.args.writers.threads c.args.found.now.number c.args.found.now.access c.args.k c.args.source c.start_of-place.result _ _
    (c.start_of-place.ensures co places known) c.in_ok-push_read_byte.ensures
