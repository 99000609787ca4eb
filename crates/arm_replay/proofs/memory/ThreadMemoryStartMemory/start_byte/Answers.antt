use Rattle.std.proofs.Common.{◌≡◌, ◌<◌, ◌^◌, true, false, None, sym, ◌∙◌, arith}
use Rattle.std.specs.Option.{option_map}
use Rattle.ev_graph.specs.Memory.{Cell}
use Rattle.ev_graph.specs.Start.{is_in_stacks}
use Rattle.elf_write.specs.Image.{image_cells}
use Rattle.arm_replay.proofs.MemoryLemmas.{byte_behind}
use Rattle.arm_replay.proofs.memory.ThreadMemoryStartMemory.start_byte.Goals as goal

pub returns-in-None : goal.returns-in-None
returns-in-None c =
    let image = c.args.self.now.image.now in
    let none : None ≡ option_map (λ (cell : Cell). cell.byte) (image_cells image c.args.address) = sym c.in-None.is ∙ c.start_byte.ensures in
    let low : c.args.address < 2 ^ 64 = omega arith in
    let inside : is_in_stacks c.args.self.now.stacks.now c.args.address ≡ true = sym c.is_in_a_stack.ensures ∙ c.if-is_in_a_stack.true in
    byte_behind image c.args.self.now.stacks.now c.args.address true low none inside

pub returns-in-None-2 : goal.returns-in-None-2
returns-in-None-2 c =
    let image = c.args.self.now.image.now in
    let none : None ≡ option_map (λ (cell : Cell). cell.byte) (image_cells image c.args.address) = sym c.in-None.is ∙ c.start_byte.ensures in
    let low : c.args.address < 2 ^ 64 = omega arith in
    let outside : is_in_stacks c.args.self.now.stacks.now c.args.address ≡ false = sym c.is_in_a_stack.ensures ∙ c.if-is_in_a_stack.false in
    byte_behind image c.args.self.now.stacks.now c.args.address false low none outside
