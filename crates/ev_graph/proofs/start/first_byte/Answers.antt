use Rattle.std.proofs.Common.{◌≡◌, None, sym, ◌∙◌, true, false}
use Rattle.std.specs.Option.{option_map}
use Rattle.ev_graph.specs.Memory.{Cell}
use Rattle.ev_graph.specs.Start.{is_in_stacks}
use Rattle.ev_graph.proofs.Bytes.{start_at-stack}
use Rattle.ev_graph.proofs.start.first_byte.Goals as goal

pub returns-in-None : goal.returns-in-None
returns-in-None g c =
    let none : None ≡ option_map (λ (cell : Cell). cell.byte) (g.S.StartMemory.cells c.args.start.now c.args.address) = sym c.in-None.is ∙ c.start_byte.ensures in
    let inside : is_in_stacks c.args.stacks.now c.args.address ≡ true = sym c.is_in_a_stack.ensures ∙ c.if-is_in_a_stack.true in
    sym (rw inside at (start_at-stack (g.S.StartMemory.cells c.args.start.now) c.args.stacks.now c.args.address none))

pub returns-in-None-2 : goal.returns-in-None-2
returns-in-None-2 g c =
    let none : None ≡ option_map (λ (cell : Cell). cell.byte) (g.S.StartMemory.cells c.args.start.now c.args.address) = sym c.in-None.is ∙ c.start_byte.ensures in
    let outside : is_in_stacks c.args.stacks.now c.args.address ≡ false = sym c.is_in_a_stack.ensures ∙ c.if-is_in_a_stack.false in
    sym (rw outside at (start_at-stack (g.S.StartMemory.cells c.args.start.now) c.args.stacks.now c.args.address none))
