use Rattle.code_at.specs.Code.{program_of}
use Rattle.cfg_walk.proofs.Searches.{begins_from}
use Rattle.cfg_walk.proofs.find.Search.new.Goals as goal

pub returns : goal.returns
returns c =
    begins_from (program_of c.args.elf.now) c.new-nodes.result c.as_slice.result.now c.add_all.new.self c.new.result.items c.new-nodes.ensures c.as_slice.ensures c.new.ensures.items
    c.in_ok-add_all.ensures
