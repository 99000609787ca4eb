use Rattle.std.proofs.Common.{rules, ◌∙◌, sym, ap, arith, FitsSigned, ◌*◌}
use Rattle.std.specs.Int.{w128}
use Rattle.std.proofs.lemmas.Int.{to_z-of_z}
use Rattle.word_arith.specs.Signed.{signed}
use Rattle.word_arith.proofs.SignedLemmas.{signed_not_zero}
use Rattle.alu_width.proofs.QuotientLemmas.{quotient_signed}
use Rattle.alu_width.proofs.words.Alu.div.Goals as goal

pub signed_quotient-requires-clause-d_not_zero : goal.signed_quotient-requires-clause-d_not_zero
signed_quotient-requires-clause-d_not_zero g c =
    let fits : FitsSigned w128 c.signed.result = search rules in
    λ e. signed_not_zero g.row.W c.args.by c.requires.by_fits c.if-by-eq0.false
    (sym c.signed.ensures.value ∙ sym (to_z-of_z w128 c.signed.result fits) ∙ e)

pub returns-then-signed : goal.returns-then-signed
returns-then-signed g c =
    let fits_n : FitsSigned w128 c.double_signed.result = search rules in
    let fits_d : FitsSigned w128 c.signed.result = search rules in
    rw c.if-signed.true
    (c.signed_quotient.ensures
    ∙ sym (quotient_signed g.row.W c.args.high c.args.low c.args.by _ _ c.if-by-eq0.false
    (to_z-of_z w128 c.double_signed.result fits_n ∙ c.double_signed.ensures ∙ ap (signed (2 * g.row.W)) (grind arith))
    (to_z-of_z w128 c.signed.result fits_d ∙ c.signed.ensures.value)))
