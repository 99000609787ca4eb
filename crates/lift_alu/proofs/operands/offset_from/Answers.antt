use Rattle.std.proofs.Common.{◌∙◌, ap, ◌+◌, ◌%◌, ◌^◌, of_z, w64}
use Rattle.std.proofs.Math.Facts.{to_z-of_z}
use Rattle.lift_alu.proofs.Words.{offset_sum}
use Rattle.lift_alu.proofs.operands.offset_from.Goals as goal

pub returns : goal.returns
returns c =
    c.wrapping_add_signed.ensures
    ∙ ap (λ z. (c.args.from + of_z w64 z) % 2 ^ 64) (to_z-of_z c.ranges.offset)
    ∙ offset_sum c.args.from c.args.offset c.ranges.offset
