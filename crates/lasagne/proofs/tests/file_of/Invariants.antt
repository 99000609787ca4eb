use Rattle.std.specs.List.{AllByRecursion}
use Rattle.gen_input.specs.BuiltFile.{IsShort}
use Rattle.lasagne.proofs.tests.file_of.Given as goal

abbrev pub invariant-loop-name : goal.invariant-loop-name
invariant-loop-name l = AllByRecursion IsShort l.symbols.items
