use Rattle.std.proofs.Common.{sym, ◌∙◌}
use Rattle.a64_code.specs.Decoding.{a64_of}
use Rattle.a64_code.proofs.WordLemmas.{spelled, read, none_read, none_spelled}
use Rattle.a64_code.proofs.decoding.decode_word.Goals as goal

pub returns-clause-machine : goal.returns-clause-machine
unfolding a64_of
returns-clause-machine c = cc

pub returns-clause-spelled : goal.returns-clause-spelled
returns-clause-spelled c =
    let same = returns-clause-machine c in
    λ a. (λ e. spelled c.args.word a (sym same ∙ e), λ e. same ∙ read c.args.word a e)

pub returns-clause-none : goal.returns-clause-none
returns-clause-none c =
    let same = returns-clause-machine c in
    (λ e. none_read c.args.word (sym same ∙ e), λ none. same ∙ none_spelled c.args.word none)
