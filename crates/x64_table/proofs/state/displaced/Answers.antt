use Rattle.std.proofs.Common.{◌∙◌, ap, ◌+◌, ◌%◌, ◌^◌, of_z, w64}
use Rattle.std.proofs.Math.Facts.{to_z-of_z}
use Rattle.x64_table.proofs.StateLemmas.{displaced_sum}
use Rattle.x64_table.proofs.state.displaced.Goals as goal

pub returns : goal.returns
returns c =
    c.wrapping_add_signed.ensures
    ∙ ap (λ z. (c.args.sum + of_z w64 z) % 2 ^ 64) (to_z-of_z c.ranges.offset)
    ∙ displaced_sum c.args.sum c.args.offset c.ranges.offset
