use Rattle.std.proofs.Common.{◌≤◌, ◌∙◌, [], ◌∷◌, length, arith, ap, sym, subst}
use Rattle.std.specs.List.{AllByRecursion}
use Rattle.behavior.proofs.Lists.{all_append}
use Rattle.gen_input.specs.BuiltFile.{IsShort}
use Rattle.lasagne.proofs.tests.file_of.Goals as goal

pub loop-name-preserved : goal.loop-name-preserved
loop-name-preserved c =
    let copied : length c.of.result ≤ 32 =
    (let same = ap length (c.of.ensures ∙ c.in_ok-from_slice.ensures.items) in let size = c.as_bytes.ensures.len in let low = c.if-name-gt32.false in omega (arith, same, size, low)) in
    subst (AllByRecursion IsShort) (sym c.in_ok-push.ensures.items) (all_append IsShort c.loop-name.symbols.items (_ ∷ []) c.loop-name.invariant (copied, tt))
