use Rattle.std.proofs.Common.{◌≡◌, ◌++◌, ◌∷◌, drop, string_bytes}
use Rattle.std.specs.List.{flat_map}
use Rattle.exec_text.specs.Explained.{source_text}
use Rattle.exec_text.proofs.print.push_listed.Given as goal

abbrev pub invariant-loop-source : goal.invariant-loop-source
invariant-loop-source l = string_bytes l.out ++ flat_map (λ t. 44 ∷ source_text t) (drop l.source-index l.others) ≡ string_bytes l.initial.out ++ flat_map (λ t. 44 ∷ source_text t) l.others
