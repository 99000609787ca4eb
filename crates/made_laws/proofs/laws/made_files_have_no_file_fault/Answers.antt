use Rattle.made_laws.proofs.MadeFile.{made_clear}
use Rattle.made_laws.proofs.laws.made_files_have_no_file_fault.Goals as goal

pub returns : goal.returns
returns c = made_clear
