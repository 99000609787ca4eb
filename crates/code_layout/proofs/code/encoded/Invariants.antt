use Rattle.std.proofs.Common.{◌≡◌, take, map}
use Rattle.a64_code.specs.Words.{word_of}
use Rattle.code_layout.proofs.code.encoded.Given as goal

abbrev pub invariant-loop-instr : goal.invariant-loop-instr
invariant-loop-instr l = l.words.items ≡ map word_of (take l.instr-index l.code)
