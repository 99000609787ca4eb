use Rattle.std.proofs.Common.{◌≡◌, ◌++◌, take, length}
use Rattle.code_layout.specs.Places.{start_of}
use Rattle.code_layout.specs.Code.{blocks_words}
use Rattle.code_layout.proofs.code.push_blocks.Given as goal

abbrev pub invariant-loop-block : goal.invariant-loop-block
invariant-loop-block l =
    l.code.items ≡ l.initial.code.items ++ blocks_words (start_of l.places) l.places.end (length l.initial.code.items) (take l.block-index l.blocks)
