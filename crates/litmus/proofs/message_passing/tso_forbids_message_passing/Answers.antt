use Rattle.litmus.proofs.MessagePassingForbidden.{tso_forbids}
use Rattle.litmus.proofs.message_passing.tso_forbids_message_passing.Goals as goal

pub returns : goal.returns
returns c = tso_forbids
