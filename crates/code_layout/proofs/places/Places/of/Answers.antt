use Rattle.std.proofs.Common.{◌≡◌, ◌++◌, [], ◌∷◌, ◌+◌, take, rules, sym, ap, ◌∙◌, arith}
use Rattle.std.proofs.lemmas.List.{take_more}
use Rattle.code_layout.specs.Places.{block_size, blocks_size, starts_from}
use Rattle.code_layout.specs.Places.{firsts}
use Rattle.code_layout.proofs.Starts.{starts_from-push, firsts-push, blocks_size-push}
use Rattle.code_layout.proofs.places.Places.of.Goals as goal

pub loop-block-preserved : goal.loop-block-preserved
loop-block-preserved c =
    let blocks = c.args.blocks.now in
    let i = c.loop-block.block-index in
    let block = c.block-item.result in
    let more : take (i + 1) blocks ≡ take i blocks ++ block ∷ [] = take_more blocks i block c.loop-block-test.true ∙ ap (λ b. take i blocks ++ b ∷ []) (sym c.block-item.is) in
    let first : c.push.new.self.items ≡ c.loop-block.firsts.items ++ block.first ∷ [] = search rules in
    let start : c.push-in-loop-block.new.self.items ≡ c.loop-block.starts.items ++ c.loop-block.end ∷ [] = search rules in
    let invariant = c.loop-block.invariant in
    record {
      firsts = first ∙ ap (λ l. l ++ block.first ∷ []) invariant.firsts ∙ sym (firsts-push (take i blocks) block) ∙ ap firsts (sym more);
      starts = start ∙ ap (λ l. l ++ c.loop-block.end ∷ []) invariant.starts ∙ ap (λ n. starts_from 0 (take i blocks) ++ n ∷ []) (omega (arith, invariant.end)) ∙ sym
          (starts_from-push 0 (take i blocks) block)
          ∙ ap (starts_from 0) (sym more);
      end = ap (λ n. c.loop-block.end + n) c.block_size-end.ensures ∙ ap (λ n. n + block_size block) invariant.end ∙ sym (blocks_size-push (take i blocks) block) ∙ ap blocks_size (sym more);
    }
