use Rattle.std.proofs.Common.{◌≡◌, ◌++◌, ◌∷◌, drop, string_bytes}
use Rattle.std.specs.List.{flat_map}
use Rattle.exec_text.specs.Explained.{event_text}
use Rattle.exec_text.proofs.print.push_order.Given as goal

abbrev pub invariant-loop-id : goal.invariant-loop-id
invariant-loop-id l = string_bytes l.out ++ flat_map (λ id. 32 ∷ event_text id) (drop l.id-index l.co) ≡ string_bytes l.initial.out ++ flat_map (λ id. 32 ∷ event_text id) l.co
