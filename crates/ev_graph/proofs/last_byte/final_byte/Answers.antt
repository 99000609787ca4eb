use Rattle.std.proofs.Common.{Some, None, length, ap, ◌∙◌}
use Rattle.ev_graph.specs.Start.{start_at}
use Rattle.ev_graph.proofs.FinalByteLemmas.{last_moved, final_some, final_none, last_written}
use Rattle.ev_graph.proofs.last_byte.final_byte.Goals as goal

pub returns-in-Some-clause-byte : goal.returns-in-Some-clause-byte
returns-in-Some-clause-byte g c =
    let x = c.args.x.now in
    let last = last_moved _ x.threads _ x.co c.args.address _ (length x.co) (Some c.in-Some.byte)
    c.as_slice.ensures c.as_slice-2.ensures (ap length c.as_slice-2.ensures) c.in-Some.ensures in
    final_some (g.S.StartMemory.cells c.args.start.now) x c.args.address c.in-Some.byte last

pub returns-in-Some-clause-nowhere : goal.returns-in-Some-clause-nowhere
returns-in-Some-clause-nowhere g c = λ inside.
    let x = c.args.x.now in
    let start = start_at (g.S.StartMemory.cells c.args.start.now) x.stacks in
    let last = last_moved _ x.threads _ x.co c.args.address _ (length x.co) (Some c.in-Some.byte)
    c.as_slice.ensures c.as_slice-2.ensures (ap length c.as_slice-2.ensures) c.in-Some.ensures in
    ((λ false_is_true. absurd cc), (λ none. absurd (last_written start x.threads x.co c.args.address (length x.co) c.in-Some.byte inside last none)))

pub returns-in-None-clause-byte : goal.returns-in-None-clause-byte
returns-in-None-clause-byte g c =
    let x = c.args.x.now in
    let cells = g.S.StartMemory.cells c.args.start.now in
    let last = last_moved _ x.threads _ x.co c.args.address _ (length x.co) None
    c.as_slice.ensures c.as_slice-2.ensures (ap length c.as_slice-2.ensures) c.in-None.ensures in
    final_none cells x c.args.address _ last (c.first_byte.ensures ∙ ap (λ stacks. start_at cells stacks c.args.address) c.as_slice-in-None.ensures)
