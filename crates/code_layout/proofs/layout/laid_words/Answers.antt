use Rattle.std.proofs.Common.{◌≡◌, length, map, arith, sym, subst, ap, ◌∙◌}
use Rattle.std.specs.List.{AllByRecursion}
use Rattle.std.proofs.lemmas.Result.{IfOk-weaker}
use Rattle.a64_code.specs.Ranges.{IsEncodable}
use Rattle.a64_code.specs.Words.{word_of}
use Rattle.code_layout.specs.Places.{blocks_size, start_of}
use Rattle.code_layout.specs.Code.{IsLaidOut}
use Rattle.code_layout.proofs.Sizes.{length-blocks_words}
use Rattle.code_layout.proofs.Starts.{are_told}
use Rattle.code_layout.proofs.Trees.{rise_of}
use Rattle.code_layout.proofs.Laying.{blocks_behind, all_appended, all_encodable, laid_out}
use Rattle.code_layout.proofs.layout.laid_words.Goals as goal

pub push_blocks-requires-clause-places : goal.push_blocks-requires-clause-places
push_blocks-requires-clause-places c = are_told c.args.blocks.now c.args.places.now c.requires.places c.requires.closed.sorted (omega (arith, c.requires.few))

pub push_returns-requires-clause-places : goal.push_returns-requires-clause-places
push_returns-requires-clause-places c = are_told c.args.blocks.now c.args.places.now c.requires.places c.requires.closed.sorted (omega (arith, c.requires.few))

pub push_returns-requires-clause-sites : goal.push_returns-requires-clause-sites
push_returns-requires-clause-sites c = rise_of c.args.sites.now c.requires.sites

pub push_returns-requires-clause-few : goal.push_returns-requires-clause-few
push_returns-requires-clause-few c =
    let blocks = c.args.blocks.now in
    let start = start_of c.args.places.now in
    let mid = blocks_behind start c.args.places.now.end blocks c.new-code.result.items c.push_blocks.new.code.items c.new-code.ensures.items c.in_ok-push_blocks.ensures in
    let long : length c.push_blocks.new.code.items ≡ blocks_size blocks = ap length mid ∙ length-blocks_words start c.args.places.now.end 0 blocks in
    omega (arith, long, c.requires.few)

pub encoded-requires : goal.encoded-requires
encoded-requires c =
    let blocks = c.args.blocks.now in
    let sites = c.args.sites.now in
    let places = c.args.places.now in
    let mid = blocks_behind (start_of places) places.end blocks c.new-code.result.items c.push_blocks.new.code.items c.new-code.ensures.items c.in_ok-push_blocks.ensures in
    subst (AllByRecursion IsEncodable) (sym c.deref.ensures.value)
    (all_encodable blocks sites c.push_returns.new.code.items c.requires.closed c.requires.few
    (all_appended blocks sites places c.push_blocks.new.code.items c.push_returns.new.code.items c.requires.places mid c.in_ok-push_returns.ensures))

pub returns : goal.returns
returns c =
    let blocks = c.args.blocks.now in
    let sites = c.args.sites.now in
    let places = c.args.places.now in
    let mid = blocks_behind (start_of places) places.end blocks c.new-code.result.items c.push_blocks.new.code.items c.new-code.ensures.items c.in_ok-push_blocks.ensures in
    IfOk-weaker c.encoded.result (λ words. words.items ≡ map word_of c.deref.result.now) (λ words. IsLaidOut blocks sites words.items)
    (λ words same. laid_out blocks sites words.items c.push_returns.new.code.items
    (all_appended blocks sites places c.push_blocks.new.code.items c.push_returns.new.code.items c.requires.places mid c.in_ok-push_returns.ensures)
    (same ∙ ap (map word_of) c.deref.ensures.value)) c.encoded.ensures
