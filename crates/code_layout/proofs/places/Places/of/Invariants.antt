use Rattle.std.proofs.Common.{◌≡◌, take}
use Rattle.code_layout.specs.Places.{blocks_size, starts_from}
use Rattle.code_layout.specs.Places.{firsts}
use Rattle.code_layout.proofs.places.Places.of.Given as goal

abbrev pub invariant-loop-block : goal.invariant-loop-block
invariant-loop-block l = record {
  firsts : l.firsts.items ≡ firsts (take l.block-index l.blocks);
  starts : l.starts.items ≡ starts_from 0 (take l.block-index l.blocks);
  end : l.end ≡ blocks_size (take l.block-index l.blocks);
}
