use Rattle.litmus.proofs.MessagePassingForbidden.{arm_forbids}
use Rattle.litmus.proofs.message_passing.arm_forbids_message_passing_with_fences.Goals as goal

pub returns : goal.returns
returns c = arm_forbids
