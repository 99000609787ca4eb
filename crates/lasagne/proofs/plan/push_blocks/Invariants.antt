use Rattle.std.proofs.Common.{◌≡◌, ◌++◌, drop, string_bytes}
use Rattle.std.specs.List.{flat_map}
use Rattle.lasagne.specs.Plan.{block_text}
use Rattle.lasagne.proofs.plan.push_blocks.Given as goal

abbrev pub invariant-loop-block : goal.invariant-loop-block
invariant-loop-block l = string_bytes l.out ++ flat_map block_text (drop l.block-index l.plan) ≡ string_bytes l.initial.out ++ flat_map block_text l.plan
