use Rattle.gen_input.proofs.Written.{contents_written}
use Rattle.gen_input.proofs.built.contents.Goals as goal

pub returns : goal.returns
returns c =
    contents_written c.args.code.now c.args.cells.now c.args.cells_address _ _ _ _ _ _ c.cells_at.result c.new-out.ensures.items c.in_ok-push_headers.ensures
    c.in_ok-pad_to.ensures c.in_ok-extend_from_slice.ensures.items c.cells_at.ensures c.in_ok-pad_to-2.ensures c.in_ok-extend_from_slice-2.ensures.items
