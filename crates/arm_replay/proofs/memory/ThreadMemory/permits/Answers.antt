use Rattle.std.proofs.Common.{◌≡◌, ◌<◌, ◌^◌, None, sym, ◌∙◌, arith}
use Rattle.std.specs.Option.{option_map}
use Rattle.ev_graph.specs.Memory.{Cell}
use Rattle.elf_write.specs.Image.{image_cells}
use Rattle.arm_replay.proofs.MemoryLemmas.{permits_stack}
use Rattle.arm_replay.proofs.memory.ThreadMemory.permits.Goals as goal

pub returns-in-None : goal.returns-in-None
returns-in-None c =
    let image = c.args.self.now.image.now in
    let none : None ≡ option_map (λ (cell : Cell). cell.byte) (image_cells image c.args.address) = sym c.in-None.is ∙ c.start_byte.ensures in
    let low : c.args.address < 2 ^ 64 = omega arith in
    c.is_in_a_stack.ensures ∙ permits_stack image c.args.self.now.stacks.now c.args.address c.args.write low none
