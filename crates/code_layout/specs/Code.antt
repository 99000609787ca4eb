-- The words of blocks with their ends, one behind the other, and of the returns, which all blocks share. Words are counted
-- from the first of the code on.
use Rattle.std.specs.Prelude.{◌≡◌, ℕ, ◌+◌, ◌*◌, ◌/◌, ◌%◌, ◌^◌, true, ℤ, pos, ◌-ℤ◌, List, [], ◌∷◌, ◌++◌, length, map}
use Rattle.ev_graph.specs.declared.events.TrapKind.TheVariants.{BadReturn, BadJump}
use Rattle.a64_code.specs.declared.instr.XReg.{XReg}
use Rattle.a64_code.specs.declared.instr.A64.{A64}
use Rattle.a64_code.specs.declared.instr.A64.TheVariants as words
use Rattle.a64_code.specs.Words.{word_of}
use Rattle.a64_block.specs.Breaks.{break_of}
use Rattle.a64_block.specs.declared.block.AEnd.{AEnd}
use Rattle.a64_block.specs.declared.block.AEnd.TheVariants as ends
use Rattle.a64_block.specs.declared.block.ABlock.{ABlock}
use Rattle.code_layout.specs.Places.{block_size, blocks_size, words_before}
use Rattle.code_layout.specs.Search.{Search, Nowhere, Leaf, Fork, search_size, IsSearchOf}

-- the register Xn, or the zero register for 31
abbrev pub x : ℕ → XReg
x n = record { number = n }

-- The registers for a return address and for a site that it is compared with, which belong to the layout between blocks;
-- and the zero register.
abbrev pub popped : XReg
popped = x 16

abbrev pub compared : XReg
compared = x 17

abbrev pub zero_register : XReg
zero_register = x 31

-- the distance over the next word
abbrev pub over_next : ℤ
over_next = pos 2

-- the conditions NE and LO, and the call that ends a thread
abbrev pub not_equal : ℕ
not_equal = 1

abbrev pub lower : ℕ
lower = 3

abbrev pub halts : ℕ
halts = 3

-- the word at a place that goes to another
abbrev pub jump : (at to : ℕ) → A64 XReg
jump at to = words.B (pos to -ℤ pos at)

-- 16 bits of an address
abbrev pub quarter_of : (address quarter : ℕ) → ℕ
quarter_of address quarter = address / 2 ^ (16 * quarter) % 2 ^ 16

-- the return address is compared with another
abbrev pub compare_words : (address : ℕ) → List (A64 XReg)
compare_words address =
    words.Movz true compared (quarter_of address 0) 0 ∷ words.Movk true compared (quarter_of address 1) 1 ∷ words.Movk true compared (quarter_of address 2) 2
    ∷ words.Movk true compared (quarter_of address 3) 3 ∷ words.Subs true zero_register popped compared 0 0 ∷ []

-- to a place where the return address is a site, and else to the trap
abbrev pub leaf_words : (at site place : ℕ) → List (A64 XReg)
leaf_words at site place = compare_words site ++ words.BCond not_equal over_next ∷ jump (at + 6) place ∷ words.Brk (break_of BadReturn) ∷ []

-- to a place where the return address is not lower than a site, and else on
abbrev pub fork_words : (at site place : ℕ) → List (A64 XReg)
fork_words at site place = compare_words site ++ words.BCond lower over_next ∷ jump (at + 6) place ∷ []

-- the words that go to the place of the site that the return address is, if it is one
abbrev pub search_words : (start : ℕ → ℕ) → (at : ℕ) → Search → List (A64 XReg)
search_words start at Nowhere = words.Brk (break_of BadReturn) ∷ []
search_words start at (Leaf site) = leaf_words at site (start site)
search_words start at (Fork site below above) =
    fork_words at site (at + 7 + search_size below)
    ++ (search_words start (at + 7) below ++ search_words start (at + 7 + search_size below) above)

-- The words that take a return address: 0 halts, and any other is looked up.
abbrev pub return_words : (start : ℕ → ℕ) → (at : ℕ) → Search → List (A64 XReg)
return_words start at t = words.Cbnz true popped over_next ∷ words.Svc halts ∷ search_words start (at + 2) t

-- the words of a block's end; blocks stand where `start` says, and the returns at `returns`
abbrev pub end_words : (start : ℕ → ℕ) → (returns at : ℕ) → AEnd XReg → List (A64 XReg)
end_words start returns at (ends.Goto a) = jump at (start a) ∷ []
end_words start returns at (ends.Branch r a b) = words.Cbz true r over_next ∷ jump (at + 1) (start a) ∷ jump (at + 2) (start b) ∷ []
end_words start returns at (ends.Return r) = words.Orr true popped zero_register r 0 0 ∷ jump (at + 1) returns ∷ []
end_words start returns at (ends.Indexed r table) = words.Brk (break_of BadJump) ∷ []
end_words start returns at (ends.Stop kind) = words.Brk (break_of kind) ∷ []

-- the words of a block
abbrev pub block_words : (start : ℕ → ℕ) → (returns at : ℕ) → ABlock XReg → List (A64 XReg)
block_words start returns at b = b.steps ++ end_words start returns (at + length b.steps) b.end

-- those of blocks, one behind the other
abbrev pub blocks_words : (start : ℕ → ℕ) → (returns at : ℕ) → List (ABlock XReg) → List (A64 XReg)
blocks_words start returns at [] = []
blocks_words start returns at (b ∷ bs) = block_words start returns at b ++ blocks_words start returns (at + block_size b) bs

-- the whole code
abbrev pub code_words : List (ABlock XReg) → Search → List (A64 XReg)
code_words blocks t =
    blocks_words (words_before blocks) (blocks_size blocks) 0 blocks ++ return_words (words_before blocks) (blocks_size blocks) t

-- the words are those of the blocks and then of the returns, in which a tree looks up just these sites
pub record IsLaidOut (blocks : List (ABlock XReg)) (sites words : List ℕ) : Type 0 where
  pub search : Search
  pub looks_up : IsSearchOf sites search
  pub are : words ≡ map word_of (code_words blocks search)

-- behind some words now stand those of a tree that looks up just these sites
abbrev pub AppendsSearch : (start : ℕ → ℕ) → (sites : List ℕ) → (old new : List (A64 XReg)) → Type 0
AppendsSearch start sites old new = (t : Search) × IsSearchOf sites t × (new ≡ old ++ search_words start (length old) t)

-- behind some words now stand those of the returns, in which a tree looks up just these sites
abbrev pub AppendsReturns : (start : ℕ → ℕ) → (sites : List ℕ) → (old new : List (A64 XReg)) → Type 0
AppendsReturns start sites old new = (t : Search) × IsSearchOf sites t × (new ≡ old ++ return_words start (length old) t)
