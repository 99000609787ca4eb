use Rattle.std.proofs.Common.{◌≡◌, ◌++◌, drop, map}
use Rattle.std.specs.Prelude.{string_bytes}
use Rattle.lasagne.specs.Texts.{counts_text}
use Rattle.lasagne.proofs.texts.push_counts.Given as goal

abbrev pub invariant-loop-count : goal.invariant-loop-count
invariant-loop-count l =
    string_bytes l.text ++ counts_text (map (λ c. (c.0, c.1.now)) (drop l.count-index l.counts))
    ≡ string_bytes l.initial.text ++ counts_text (map (λ c. (c.0, c.1.now)) l.counts)
