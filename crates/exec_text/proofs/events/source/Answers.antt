use Rattle.std.proofs.Common.{◌≡◌, true, sym, ◌∙◌}
use Rattle.std.specs.Str.{bytes_eq}
use Rattle.std.proofs.lemmas.Slice.Eq.{bytes_eq-Decides}
use Rattle.exec_text.proofs.EventLemmas.{source_fault}
use Rattle.exec_text.proofs.events.source.Goals as goal

pub returns-in-Err : goal.returns-in-Err
returns-in-Err c =
    let text = c.args.text.now in
    source_fault text c.in-Err.fault
    (λ is. let same : bytes_eq text c.as_slice.result.now ≡ true = (bytes_eq-Decides text c.as_slice.result.now).1 (is ∙ sym c.as_slice.ensures) in cc) c.in-Err.ensures
