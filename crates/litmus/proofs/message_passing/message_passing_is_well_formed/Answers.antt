use Rattle.litmus.proofs.MessagePassingForm.{well_formed}
use Rattle.litmus.proofs.message_passing.message_passing_is_well_formed.Goals as goal

pub returns : goal.returns
returns c = well_formed
