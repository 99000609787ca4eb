use Rattle.std.proofs.Common.{◌≡◌, ℕ, ◌+◌, eqb, Option, Some, None, sym, subst, ◌∙◌}
use Rattle.std.proofs.lemmas.List.{take_rest}
use Rattle.exec_text.proofs.PartLemmas.{IsCutAt, cut_at_position}
use Rattle.exec_text.proofs.parts.cut.Goals as goal

pub returns-in_err-place-clause-parts : goal.returns-in_err-place-clause-parts
returns-in_err-place-clause-parts c =
    let bytes = c.args.bytes.now in
    let Cut : Option ℕ → Type 0 = λ place. IsCutAt (λ byte. eqb byte c.args.at) bytes place in
    let none : c.place_of.result ≡ None = cc in
    rw c.from_residual.ensures (subst Cut (sym c.place_of.ensures ∙ none) (cut_at_position (λ byte. eqb byte c.args.at) bytes 0))

pub returns-clause-parts : goal.returns-clause-parts
returns-clause-parts c =
    let bytes = c.args.bytes.now in
    let place = c.in_ok-place.place in
    let Cut : Option ℕ → Type 0 = λ place. IsCutAt (λ byte. eqb byte c.args.at) bytes place in
    let found : c.place_of.result ≡ Some place = cc in
    let is = subst Cut (sym c.place_of.ensures ∙ found) (cut_at_position (λ byte. eqb byte c.args.at) bytes 0) in
    rw (take_rest bytes (place + 1)) is.1
