use Rattle.litmus.proofs.MessagePassingAllowed.{arm_allows}
use Rattle.litmus.proofs.message_passing.arm_allows_message_passing.Goals as goal

pub returns : goal.returns
returns c = arm_allows
