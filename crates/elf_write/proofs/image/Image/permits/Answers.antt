use Rattle.std.proofs.Common.{sym, ◌∙◌, ap}
use Rattle.ev_graph.specs.Memory.{permits}
use Rattle.elf_write.proofs.Cells.{seen_segment, segment_permits, code_refused}
use Rattle.elf_write.proofs.image.Image.permits.Goals as goal

pub returns-in-Some : goal.returns-in-Some
returns-in-Some c =
    let segment = c.in-Some.segment.now in
    c.permits.ensures ∙ sym (segment_permits segment c.args.write c.args.address)
    ∙ sym (ap (permits c.args.write) (seen_segment c.args.self.now segment c.args.address c.in-Some.ensures.some c.in-Some.ensures.covered.0 c.in-Some.ensures.covered.1))

pub returns-in-None : goal.returns-in-None
returns-in-None c = sym (code_refused c.args.self.now c.args.write c.args.address c.in-None.ensures.none)
