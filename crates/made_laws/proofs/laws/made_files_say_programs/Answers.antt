use Rattle.made_laws.proofs.Program.{program_made}
use Rattle.made_laws.proofs.laws.made_files_say_programs.Goals as goal

pub returns : goal.returns
returns c = program_made
