use Rattle.std.proofs.Common.{◌≡◌, ◌≤◌, ◌++◌, [], ◌∷◌, ◌+◌, take, length, rules, sym, ap, ◌∙◌, subst}
use Rattle.std.proofs.lemmas.List.{take_more}
use Rattle.std.proofs.lemmas.List.Sums.{sum_by-take-le}
use Rattle.code_layout.specs.Places.{block_size, blocks_size, start_of}
use Rattle.code_layout.specs.Code.{blocks_words}
use Rattle.code_layout.proofs.Pushed.{block_appended, room_for_end}
use Rattle.code_layout.proofs.code.push_blocks.Goals as goal

pub push_end-requires-clause-few : goal.push_end-requires-clause-few
push_end-requires-clause-few c =
    let blocks = c.args.blocks.now in
    let i = c.loop-block.block-index in
    let block = c.block-item.result in
    let more : take (i + 1) blocks ≡ take i blocks ++ block ∷ [] = take_more blocks i block c.loop-block-test.true ∙ ap (λ b. take i blocks ++ b ∷ []) (sym c.block-item.is) in
    let steps : c.extend_from_slice.new.self.items ≡ c.loop-block.code.items ++ block.steps = search rules in
    room_for_end (start_of c.args.places.now) c.args.places.now.end c.args.code.now.items c.loop-block.code.items c.extend_from_slice.new.self.items
    (take i blocks) blocks block 8388608 c.loop-block.invariant steps
    (subst (λ l. blocks_size l ≤ blocks_size blocks) more (sum_by-take-le block_size blocks (i + 1))) c.requires.few

pub loop-block-preserved : goal.loop-block-preserved
loop-block-preserved c =
    let blocks = c.args.blocks.now in
    let i = c.loop-block.block-index in
    let block = c.block-item.result in
    let more : take (i + 1) blocks ≡ take i blocks ++ block ∷ [] = take_more blocks i block c.loop-block-test.true ∙ ap (λ b. take i blocks ++ b ∷ []) (sym c.block-item.is) in
    let steps : c.extend_from_slice.new.self.items ≡ c.loop-block.code.items ++ block.steps = search rules in
    let start = start_of c.args.places.now in
    let returns = c.args.places.now.end in
    block_appended start returns c.args.code.now.items c.loop-block.code.items c.extend_from_slice.new.self.items c.push_end.new.code.items
    (take i blocks) block c.loop-block.invariant steps c.in_ok-push_end.ensures
    ∙ ap (λ l. c.args.code.now.items ++ blocks_words start returns (length c.args.code.now.items) l) (sym more)
