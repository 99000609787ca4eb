use Rattle.std.proofs.Common.{sym, subst, Some}
use Rattle.a64_code.specs.Decoding.{a64_of}
use Rattle.a64_code.proofs.WordLemmas.{a64_of-word_of}
use Rattle.a64_code.proofs.encoding.encode.Goals as goal

pub returns-clause-read_back : goal.returns-clause-read_back
returns-clause-read_back c = rw c.word_of.ensures (a64_of-word_of c.args.a c.requires)
