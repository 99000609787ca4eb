-- The barriers of the code are those of its blocks.
use Rattle.std.proofs.Common.{◌≡◌, ℕ, ◌+◌, List, [], ◌∷◌, ◌++◌, length, map, refl, sym, ap, ◌∙◌}
use Rattle.std.specs.List.{AllByRecursion}
use Rattle.std.proofs.lemmas.Grind.{flat_map-append}
use Rattle.std.proofs.lemmas.List.{append-nil}
use Rattle.std.proofs.lemmas.List.Concat.{flat_map-cons}
use Rattle.a64_code.specs.declared.instr.XReg.{XReg}
use Rattle.a64_code.specs.declared.instr.A64.{A64}
use Rattle.a64_code.specs.Decoding.{a64_of}
use Rattle.a64_code.specs.Ranges.{IsEncodable}
use Rattle.a64_code.specs.Words.{word_of}
use Rattle.a64_code.proofs.CallerLemmas.{a64_of-word_of}
use Rattle.a64_block.specs.declared.block.AEnd.{AEnd}
use Rattle.a64_block.specs.declared.block.AEnd.TheVariants as ends
use Rattle.a64_block.specs.declared.block.ABlock.{ABlock}
use Rattle.a64_block.specs.Barriers.{barrier_of, barriers_in, read_barrier, spelled_barriers}
use Rattle.code_layout.specs.Places.{block_size, blocks_size, words_before}
use Rattle.code_layout.specs.Barriers.{barriers_of}
use Rattle.code_layout.specs.Search.{Search, Nowhere, Leaf, Fork, search_size}
use Rattle.code_layout.specs.Code.{search_words, return_words, end_words, block_words, blocks_words, code_words}

-- words spell the barriers of what they are made of
spelled : (ws : List (A64 XReg)) → AllByRecursion IsEncodable ws → spelled_barriers (map word_of ws) ≡ barriers_in ws
spelled [] range = refl
spelled (w ∷ ws) range =
    flat_map-cons (λ code. read_barrier (a64_of code)) (word_of w) (map word_of ws)
    ∙ ap (λ o. read_barrier o ++ spelled_barriers (map word_of ws)) (a64_of-word_of w range.0)
    ∙ ap (λ l. barrier_of w ++ l) (spelled ws range.1) ∙ sym (flat_map-cons barrier_of w ws)

-- the layout's own words are none
none_in_end : (start : ℕ → ℕ) (returns at : ℕ) (fin : AEnd XReg) → barriers_in (end_words start returns at fin) ≡ []
none_in_end start returns at (ends.Goto a) = refl
none_in_end start returns at (ends.Branch r a b) = refl
none_in_end start returns at (ends.Return r) = refl
none_in_end start returns at (ends.Indexed r table) = refl
none_in_end start returns at (ends.Stop kind) = refl

none_in_search : (start : ℕ → ℕ) (at : ℕ) (t : Search) → barriers_in (search_words start at t) ≡ []
none_in_search start at Nowhere = refl
none_in_search start at (Leaf site) = refl
none_in_search start at (Fork site below above) =
    flat_map-append barrier_of (search_words start (at + 7) below) (search_words start (at + 7 + search_size below) above)
    ∙ ap (λ l. l ++ barriers_in (search_words start (at + 7 + search_size below) above)) (none_in_search start (at + 7) below) ∙ none_in_search start (at + 7 + search_size below) above

in_block : (start : ℕ → ℕ) (returns at : ℕ) (b : ABlock XReg) → barriers_in (block_words start returns at b) ≡ barriers_in b.steps
in_block start returns at b =
    flat_map-append barrier_of b.steps (end_words start returns (at + length b.steps) b.end)
    ∙ ap (λ l. barriers_in b.steps ++ l) (none_in_end start returns (at + length b.steps) b.end) ∙ append-nil (barriers_in b.steps)

in_blocks : (start : ℕ → ℕ) (returns at : ℕ) (bs : List (ABlock XReg)) → barriers_in (blocks_words start returns at bs) ≡ barriers_of bs
in_blocks start returns at [] = refl
in_blocks start returns at (b ∷ bs) =
    let rest = blocks_words start returns (at + block_size b) bs in
    flat_map-append barrier_of (block_words start returns at b) rest ∙ ap (λ l. l ++ barriers_in rest) (in_block start returns at b)
    ∙ ap (λ l. barriers_in b.steps ++ l) (in_blocks start returns (at + block_size b) bs) ∙ sym (flat_map-cons (λ (c : ABlock XReg). barriers_in c.steps) b bs)

-- each barrier of the blocks stands once, and there is no other
pub barriers_once : (blocks : List (ABlock XReg)) (t : Search) → AllByRecursion IsEncodable (code_words blocks t) → spelled_barriers (map word_of (code_words blocks t)) ≡ barriers_of blocks
barriers_once blocks t range =
    let start = words_before blocks in
    let returns = blocks_size blocks in
    let own = blocks_words start returns 0 blocks in
    spelled (code_words blocks t) range
    ∙ flat_map-append barrier_of own (return_words start returns t) ∙ ap (λ l. barriers_in own ++ l) (none_in_search start (returns + 2) t) ∙ append-nil (barriers_in own)
    ∙ in_blocks start returns 0 blocks
