-- How many words there are, and that all of them can be encoded.
use Rattle.std.proofs.Common.{◌≡◌, ℕ, ◌+◌, ◌^◌, ◌<◌, ◌≤◌, ◌==◌, Bool, true, false, List, [], ◌∷◌, ◌++◌, length, refl, ap, ◌∙◌, arith, length-append, inl, inr}
use Rattle.std.specs.Prelude.{if◌then◌else◌, pos, ◌-ℤ◌}
use Rattle.std.specs.List.{AllByRecursion}
use Rattle.std.proofs.lemmas.Int.{ints}
use Rattle.std.proofs.lemmas.List.Sums.{sum_by-cons}
use Rattle.ev_graph.specs.declared.events.TrapKind.{TrapKind}
use Rattle.ev_graph.specs.declared.events.TrapKind.TheVariants.{Divide, Invalid, BadReturn, BadJump, BadAccess}
use Rattle.behavior.proofs.Lists.{all_append}
use Rattle.a64_code.specs.declared.instr.XReg.{XReg}
use Rattle.a64_code.specs.declared.instr.A64.TheVariants as words
use Rattle.a64_code.specs.Ranges.{IsRegister, IsEncodable, IsDistance}
use Rattle.a64_block.specs.Breaks.{break_of}
use Rattle.a64_block.specs.Conditions.{end_operands, IsLayable}
use Rattle.a64_block.specs.declared.block.AEnd.{AEnd}
use Rattle.a64_block.specs.declared.block.AEnd.TheVariants as ends
use Rattle.a64_block.specs.declared.block.ABlock.{ABlock}
use Rattle.code_layout.specs.Places.{end_size, block_size, blocks_size, words_before}
use Rattle.code_layout.specs.Search.{Search, Nowhere, Leaf, Fork, search_size}
use Rattle.code_layout.specs.Code.{x, not_equal, lower, jump, quarter_of, compare_words, leaf_words, fork_words, search_words, return_words, end_words, block_words, blocks_words, code_words}
use Rattle.code_layout.proofs.Searches.{length-search_words}

-- ---- sizes

pub length-end_words : (start : ℕ → ℕ) (returns at : ℕ) (fin : AEnd XReg) → length (end_words start returns at fin) ≡ end_size fin
length-end_words start returns at (ends.Goto a) = refl
length-end_words start returns at (ends.Branch r a b) = refl
length-end_words start returns at (ends.Return r) = refl
length-end_words start returns at (ends.Indexed r table) = refl
length-end_words start returns at (ends.Stop kind) = refl

pub length-block_words : (start : ℕ → ℕ) (returns at : ℕ) (b : ABlock XReg) → length (block_words start returns at b) ≡ block_size b
length-block_words start returns at b =
    length-append b.steps (end_words start returns (at + length b.steps) b.end) ∙ ap (λ n. length b.steps + n) (length-end_words start returns (at + length b.steps) b.end)

pub blocks_size-cons : (b : ABlock XReg) (bs : List (ABlock XReg)) → blocks_size (b ∷ bs) ≡ block_size b + blocks_size bs
blocks_size-cons b bs = sum_by-cons block_size b bs

pub length-blocks_words : (start : ℕ → ℕ) (returns at : ℕ) (bs : List (ABlock XReg)) → length (blocks_words start returns at bs) ≡ blocks_size bs
length-blocks_words start returns at [] = refl
length-blocks_words start returns at (b ∷ bs) =
    let one = length-block_words start returns at b in
    let rest = length-blocks_words start returns (at + block_size b) bs in
    omega (arith, length-append (block_words start returns at b) (blocks_words start returns (at + block_size b) bs), one, rest, blocks_size-cons b bs)

pub length-code_words : (blocks : List (ABlock XReg)) (t : Search) → length (code_words blocks t) ≡ blocks_size blocks + 2 + search_size t
length-code_words blocks t =
    let start = words_before blocks in
    let returns = blocks_size blocks in
    let one = length-blocks_words start returns 0 blocks in
    let two = length-search_words start (returns + 2) t in
    omega (arith, length-append (blocks_words start returns 0 blocks) (return_words start returns t), one, two)

-- no block begins behind all of them
pub words_before_le : (bs : List (ABlock XReg)) (a : ℕ) → words_before bs a ≤ blocks_size bs
words_before_le [] a = omega arith
words_before_le (b ∷ bs) a = by (words_before_le bs a) (a == b.first)
  where
    by : words_before bs a ≤ blocks_size bs → (first : Bool) → (if first then 0 else block_size b + words_before bs a) ≤ blocks_size (b ∷ bs)
    by rest true = omega arith
    by rest false = omega (arith, rest, blocks_size-cons b bs)

-- ---- ranges

register_16 : IsRegister (x 16)
register_16 = (omega arith, λ e. absurd (omega (arith, e)))

register_17 : IsRegister (x 17)
register_17 = (omega arith, λ e. absurd (omega (arith, e)))

jump_encodable : (at to : ℕ) → at ≤ 2 ^ 24 → to ≤ 2 ^ 24 → IsDistance 26 (pos to -ℤ pos at)
jump_encodable at to low there = (grind (arith, ints), grind (arith, ints))

quarter_below : (v k : ℕ) → quarter_of v k < 2 ^ 16
quarter_below v k = omega arith

compare_encodable : (v : ℕ) → AllByRecursion IsEncodable (compare_words v)
compare_encodable v = (
  (register_17, (quarter_below v 0, omega arith)),
  (
    (register_17, (quarter_below v 1, omega arith)),
    (
      (register_17, (quarter_below v 2, omega arith)),
      (
        (register_17, (quarter_below v 3, omega arith)),
        ((inr refl, inl register_16, inl register_17, (omega arith, omega arith)), tt),
      ),
    ),
  ),
)

two_on : IsDistance 19 (pos 2)
two_on = (grind (arith, ints), grind (arith, ints))

leaf_encodable : (at site place : ℕ) → at + 6 ≤ 2 ^ 24 → place ≤ 2 ^ 24 → AllByRecursion IsEncodable (leaf_words at site place)
leaf_encodable at site place low there =
    all_append IsEncodable (compare_words site) (words.BCond not_equal (pos 2) ∷ jump (at + 6) place ∷ words.Brk (break_of BadReturn) ∷ []) (compare_encodable site)
    ((omega arith, two_on), (jump_encodable (at + 6) place low there, ((omega arith, omega arith), tt)))

fork_encodable : (at site place : ℕ) → at + 6 ≤ 2 ^ 24 → place ≤ 2 ^ 24 → AllByRecursion IsEncodable (fork_words at site place)
fork_encodable at site place low there =
    all_append IsEncodable (compare_words site) (words.BCond lower (pos 2) ∷ jump (at + 6) place ∷ []) (compare_encodable site) ((omega arith, two_on), (jump_encodable (at + 6) place low there, tt))

search_encodable : (start : ℕ → ℕ) → ((a : ℕ) → start a ≤ 2 ^ 24) → (t : Search) (at : ℕ) → at + search_size t ≤ 2 ^ 24 → AllByRecursion IsEncodable (search_words start at t)
search_encodable start starts Nowhere at room = ((omega arith, omega arith), tt)
search_encodable start starts (Leaf site) at room = leaf_encodable at site (start site) (omega (arith, room)) (starts site)
search_encodable start starts (Fork site below above) at room =
    all_append IsEncodable (fork_words at site (at + 7 + search_size below)) (search_words start (at + 7) below ++ search_words start (at + 7 + search_size below) above)
    (fork_encodable at site (at + 7 + search_size below) (omega (arith, room)) (omega (arith, room)))
    (all_append IsEncodable (search_words start (at + 7) below) (search_words start (at + 7 + search_size below) above) (search_encodable start starts below (at + 7) (omega (arith, room)))
    (search_encodable start starts above (at + 7 + search_size below) (omega (arith, room))))

break_encodable : (kind : TrapKind) → IsEncodable (words.Brk (break_of kind))
break_encodable Divide = (omega arith, omega arith)
break_encodable Invalid = (omega arith, omega arith)
break_encodable BadReturn = (omega arith, omega arith)
break_encodable BadJump = (omega arith, omega arith)
break_encodable BadAccess = (omega arith, omega arith)

end_encodable : (start : ℕ → ℕ) (returns at : ℕ) (fin : AEnd XReg) → ((a : ℕ) → start a ≤ 2 ^ 24) → returns ≤ 2 ^ 24 → at + 2 ≤ 2 ^ 24 → AllByRecursion IsRegister (end_operands fin)
    → AllByRecursion IsEncodable (end_words start returns at fin)
end_encodable start returns at (ends.Goto a) starts low room registers = (jump_encodable at (start a) (omega (arith, room)) (starts a), tt)
end_encodable start returns at (ends.Branch r a b) starts low room registers =
    ((registers.0, two_on), (jump_encodable (at + 1) (start a) (omega (arith, room)) (starts a), (jump_encodable (at + 2) (start b) room (starts b), tt)))
end_encodable start returns at (ends.Return r) starts low room registers =
    ((register_16, inr refl, inl registers.0, (omega arith, omega arith)), (jump_encodable (at + 1) returns (omega (arith, room)) low, tt))
end_encodable start returns at (ends.Indexed r table) starts low room registers = (break_encodable BadJump, tt)
end_encodable start returns at (ends.Stop kind) starts low room registers = (break_encodable kind, tt)

-- each block of a list can be laid out
abbrev pub AreLayable : List (ABlock XReg) → Type 0
AreLayable bs = AllByRecursion (λ (b : ABlock XReg). IsLayable b.steps b.end) bs

blocks_encodable : (start : ℕ → ℕ) (returns at : ℕ) (bs : List (ABlock XReg)) → ((a : ℕ) → start a ≤ 2 ^ 24) → returns ≤ 2 ^ 24 → at + blocks_size bs + 2 ≤ 2 ^ 24 → AreLayable bs
    → AllByRecursion IsEncodable (blocks_words start returns at bs)
blocks_encodable start returns at [] starts low room layable = tt
blocks_encodable start returns at (b ∷ bs) starts low room layable =
    let size = blocks_size-cons b bs in
    all_append IsEncodable (block_words start returns at b) (blocks_words start returns (at + block_size b) bs)
    (all_append IsEncodable b.steps (end_words start returns (at + length b.steps) b.end) layable.0.encodable
    (end_encodable start returns (at + length b.steps) b.end starts low (omega (arith, room, size)) layable.0.ends))
    (blocks_encodable start returns (at + block_size b) bs starts low (omega (arith, room, size)) layable.1)

-- all words of the code
pub code_encodable : (blocks : List (ABlock XReg)) (t : Search) → AreLayable blocks → blocks_size blocks + 2 + search_size t ≤ 2 ^ 24 → AllByRecursion IsEncodable (code_words blocks t)
code_encodable blocks t layable room =
    let starts : (a : ℕ) → words_before blocks a ≤ 2 ^ 24 = λ a. let le = words_before_le blocks a in omega (arith, le, room) in
    all_append IsEncodable (blocks_words (words_before blocks) (blocks_size blocks) 0 blocks) (return_words (words_before blocks) (blocks_size blocks) t)
    (blocks_encodable (words_before blocks) (blocks_size blocks) 0 blocks starts (omega (arith, room)) (omega (arith, room)) layable)
    ((register_16, two_on), ((omega arith, omega arith), search_encodable (words_before blocks) starts t (blocks_size blocks + 2) room))
