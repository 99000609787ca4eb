use Rattle.std.proofs.Common.{◌∙◌, ap, ◌%◌, ◌^◌}
use Rattle.x64_syntax.specs.Operands.{bits}
use Rattle.x64_table.proofs.OperandLemmas.{extended_cut}
use Rattle.x64_table.proofs.values.extend.Goals as goal

pub returns : goal.returns
returns c =
    c.low_bits.ensures.value
    ∙ ap (λ n. n % 2 ^ bits c.args.to) c.extend_whole.ensures
    ∙ extended_cut c.args.to c.args.from c.args.a
