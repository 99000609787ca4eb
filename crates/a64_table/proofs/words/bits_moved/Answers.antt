use Rattle.std.proofs.Common.{◌*◌, ◌-◌, ◌^◌, ap, ◌∙◌}
use Rattle.std.proofs.lemmas.Bool.{lt-leb}
use Rattle.word_arith.specs.ArmWords.{bitfield_move}
use Rattle.a64_table.proofs.ArithmeticLemmas.{moved_up}
use Rattle.a64_table.proofs.words.bits_moved.Goals as goal

pub returns-else-immr-imms-clause-value : goal.returns-else-immr-imms-clause-value
unfolding bitfield_move
returns-else-immr-imms-clause-value c =
    let up = moved_up c.args.w c.args.immr c.field_extended-field.result c.requires.width c.requires.immr_fits c.field_extended-field.ensures.fits in
    rw (lt-leb c.args.immr c.args.imms c.if-immr-imms.false) (up.0 ∙ ap (λ m. m * 2 ^ (c.args.w - c.args.immr)) c.field_extended-field.ensures.value)

pub returns-else-immr-imms-clause-fits : goal.returns-else-immr-imms-clause-fits
returns-else-immr-imms-clause-fits c =
    let up = moved_up c.args.w c.args.immr c.field_extended-field.result c.requires.width c.requires.immr_fits c.field_extended-field.ensures.fits in
    up.1
