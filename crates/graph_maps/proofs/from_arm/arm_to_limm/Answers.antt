use Rattle.std.proofs.Common.{◌≡◌, map}
use Rattle.graph_maps.specs.Maps.{limm_thread}
use Rattle.graph_maps.proofs.MapAnswers.{limm_same_answer, limm_answer}
use Rattle.graph_maps.proofs.from_arm.arm_to_limm.Goals as goal

pub returns-clause-same : goal.returns-clause-same
returns-clause-same c =
    let is : c.of.result ≡ map limm_thread c.args.x.threads = cc in
    limm_same_answer c.args.x _ is

pub returns-clause-consistent : goal.returns-clause-consistent
returns-clause-consistent c =
    let is : c.of.result ≡ map limm_thread c.args.x.threads = cc in
    limm_answer c.args.x _ is c.requires
