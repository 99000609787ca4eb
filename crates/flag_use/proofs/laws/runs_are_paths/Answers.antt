use Rattle.flag_use.proofs.Runs.{runs_paths}
use Rattle.flag_use.proofs.laws.runs_are_paths.Goals as goal

pub returns : goal.returns
returns c = runs_paths
