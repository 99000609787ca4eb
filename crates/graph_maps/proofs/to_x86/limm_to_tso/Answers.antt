use Rattle.std.proofs.Common.{◌≡◌, map}
use Rattle.graph_maps.specs.Maps.{x86_thread}
use Rattle.graph_maps.proofs.MapAnswers.{x86_same_answer, x86_answer}
use Rattle.graph_maps.proofs.to_x86.limm_to_tso.Goals as goal

pub returns-clause-same : goal.returns-clause-same
returns-clause-same c =
    let is : c.of.result ≡ map x86_thread c.args.x.threads = cc in
    x86_same_answer c.args.x _ is

pub returns-clause-consistent : goal.returns-clause-consistent
returns-clause-consistent c =
    let is : c.of.result ≡ map x86_thread c.args.x.threads = cc in
    x86_answer c.args.x c.args.private.now.slots _ is c.requires.fences c.requires.pairs c.requires.sources c.requires.apart c.requires.mapped
