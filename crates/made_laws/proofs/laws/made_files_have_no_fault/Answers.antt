use Rattle.made_laws.proofs.Faultless.{no_fault_made}
use Rattle.made_laws.proofs.laws.made_files_have_no_fault.Goals as goal

pub returns : goal.returns
returns c = no_fault_made
