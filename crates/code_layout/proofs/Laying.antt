-- What holds of a code whose words were appended one after the other.
use Rattle.std.proofs.Common.{◌≡◌, ℕ, ◌+◌, ◌*◌, ◌^◌, ◌≤◌, List, [], ◌++◌, length, map, sym, ap, ◌∙◌, subst, arith}
use mathlib.Core.Path.{fun_ext}
use Rattle.std.specs.List.{AllByRecursion}
use Rattle.std.proofs.lemmas.List.{length-map}
use Rattle.a64_code.specs.declared.instr.XReg.{XReg}
use Rattle.a64_code.specs.declared.instr.A64.{A64}
use Rattle.a64_code.specs.Ranges.{IsEncodable}
use Rattle.a64_code.specs.Words.{word_of}
use Rattle.a64_block.specs.Conditions.{IsLayable}
use Rattle.a64_block.specs.declared.block.ABlock.{ABlock}
use Rattle.code_layout.specs.declared.places.Places.{Places}
use Rattle.code_layout.specs.Places.{blocks_size, words_before, start_of, ArePlacesOf}
use Rattle.code_layout.specs.Conditions.{AreClosed}
use Rattle.a64_block.specs.Barriers.{spelled_barriers}
use Rattle.code_layout.specs.Barriers.{barriers_of}
use Rattle.code_layout.specs.Search.{Search, IsSearchOf}
use Rattle.code_layout.specs.Code.{return_words, blocks_words, code_words, AppendsReturns, IsLaidOut}
use Rattle.code_layout.proofs.BarrierWords.{barriers_once}
use Rattle.code_layout.proofs.Placed.{all_stand}
use Rattle.code_layout.proofs.Sizes.{length-blocks_words, length-code_words, code_encodable}
use Rattle.code_layout.proofs.Starts.{told_is}

-- blocks behind nothing
pub blocks_behind : (start : ℕ → ℕ) (returns : ℕ) (blocks : List (ABlock XReg)) (old new : List (A64 XReg)) → old ≡ [] → new ≡ old ++ blocks_words start returns (length old) blocks
    → new ≡ blocks_words start returns 0 blocks
blocks_behind start returns blocks old new none is = is ∙ ap (λ l. l ++ blocks_words start returns (length l) blocks) none

-- blocks, and then the returns
pub all_appended : (blocks : List (ABlock XReg)) (sites : List ℕ) (places : Places) (mid new : List (A64 XReg)) → ArePlacesOf blocks places
    → mid ≡ blocks_words (start_of places) places.end 0 blocks → AppendsReturns (start_of places) sites mid new → (t : Search) × IsSearchOf sites t × (new ≡ code_words blocks t)
all_appended blocks sites places mid new are mid_is (t, looks_up, new_is) =
    let same : start_of places ≡ words_before blocks = fun_ext (told_is blocks places are) in
    let blocks_are : mid ≡ blocks_words (words_before blocks) (blocks_size blocks) 0 blocks =
    mid_is ∙ ap (λ start. blocks_words start places.end 0 blocks) same ∙ ap (λ n. blocks_words (words_before blocks) n 0 blocks) are.end_is in
    let long : length mid ≡ blocks_size blocks = ap length blocks_are ∙ length-blocks_words (words_before blocks) (blocks_size blocks) 0 blocks in (
      t,
      looks_up,
      new_is ∙ ap (λ start. mid ++ return_words start (length mid) t) same ∙ ap (λ n. mid ++ return_words (words_before blocks) n t) long
          ∙ ap (λ l. l ++ return_words (words_before blocks) (blocks_size blocks) t) blocks_are,
    )

-- all of them can be encoded
pub all_encodable : (blocks : List (ABlock XReg)) (sites : List ℕ) (new : List (A64 XReg)) → AreClosed blocks → blocks_size blocks + 15 * length sites ≤ 2 ^ 22
    → (t : Search) × IsSearchOf sites t × (new ≡ code_words blocks t) → AllByRecursion IsEncodable new
all_encodable blocks sites new closed few (t, looks_up, is) =
    let small = looks_up.small in
    subst (AllByRecursion IsEncodable) (sym is) (code_encodable blocks t (all_stand (λ (c : ABlock XReg). IsLayable c.steps c.end) blocks closed.layable) (omega (arith, small, few)))

pub laid_out : (blocks : List (ABlock XReg)) (sites words : List ℕ) (new : List (A64 XReg)) → (t : Search) × IsSearchOf sites t × (new ≡ code_words blocks t) → words ≡ map word_of new
    → IsLaidOut blocks sites words
laid_out blocks sites words new (t, looks_up, is) same = record { search = t; looks_up = looks_up; are = same ∙ ap (map word_of) is }

-- ---- a code that is laid out

pub laid_out_size : (blocks : List (ABlock XReg)) (sites words : List ℕ) → IsLaidOut blocks sites words → length words ≤ blocks_size blocks + 15 * length sites + 3
laid_out_size blocks sites words laid =
    let small = laid.looks_up.small in
    let long = ap length laid.are ∙ length-map (code_words blocks laid.search) word_of ∙ length-code_words blocks laid.search in
    omega (arith, small, long)

pub laid_out_barriers : (blocks : List (ABlock XReg)) (sites words : List ℕ) → AreClosed blocks → blocks_size blocks + 15 * length sites ≤ 2 ^ 22 → IsLaidOut blocks sites words
    → spelled_barriers words ≡ barriers_of blocks
laid_out_barriers blocks sites words closed few laid =
    let small = laid.looks_up.small in
    ap spelled_barriers laid.are
    ∙ barriers_once blocks laid.search (code_encodable blocks laid.search (all_stand (λ (c : ABlock XReg). IsLayable c.steps c.end) blocks closed.layable) (omega (arith, small, few)))
