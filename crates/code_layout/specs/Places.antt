-- How many words blocks take, and where they stand one behind the other.
use Rattle.std.specs.Prelude.{◌≡◌, ◌≤◌, ◌^◌, ℕ, ◌+◌, ◌*◌, ◌==◌, List, [], ◌∷◌, length, map, sum_by, if◌then◌else◌}
use Rattle.std.specs.List.{AllByRecursion}
use Rattle.ev_graph.specs.Places.{StandsIn}
use Rattle.cfg_walk.specs.Code.{IsIncreasing}
use Rattle.a64_code.specs.declared.instr.XReg.{XReg}
use Rattle.a64_block.specs.declared.block.AEnd.{AEnd}
use Rattle.a64_block.specs.declared.block.AEnd.TheVariants as ends
use Rattle.a64_block.specs.declared.block.ABlock.{ABlock}
use Rattle.code_layout.specs.declared.places.Places.{Places}

-- how many words the end of a block takes
abbrev pub end_size : {R : Type 0} → AEnd R → ℕ
end_size (ends.Goto a) = 1
end_size (ends.Branch r a b) = 3
end_size (ends.Return r) = 2
end_size (ends.Indexed r table) = 1
end_size (ends.Stop kind) = 1

-- how many words a block takes
abbrev pub block_size : ABlock XReg → ℕ
block_size b = length b.steps + end_size b.end

-- how many words all of them take
abbrev pub blocks_size : List (ABlock XReg) → ℕ
blocks_size blocks = sum_by block_size blocks

-- how many words stand before those of the block that begins at an x86 address
abbrev pub words_before : List (ABlock XReg) → (address : ℕ) → ℕ
words_before [] address = 0
words_before (b ∷ bs) address = if address == b.first then 0 else block_size b + words_before bs address

-- where that block stands in the code whose words begin at `first`
abbrev pub place_from : (first : ℕ) → List (ABlock XReg) → (address : ℕ) → ℕ
place_from first blocks address = first + 4 * words_before blocks address

-- the x86 addresses at which blocks begin
abbrev pub firsts : List (ABlock XReg) → List ℕ
firsts blocks = map (λ (b : ABlock XReg). b.first) blocks

-- a block begins at the x86 address
abbrev pub IsBegun : List (ABlock XReg) → (address : ℕ) → Type 0
IsBegun blocks address = (b : ABlock XReg) × StandsIn blocks b × (b.first ≡ address)

-- how many words stand before each of the blocks, where `count` stand before the first of them
abbrev pub starts_from : (count : ℕ) → List (ABlock XReg) → List ℕ
starts_from count [] = []
starts_from count (b ∷ bs) = count ∷ starts_from (count + block_size b) bs

-- the number beside an address, or the last one where it is not listed
abbrev pub start_in : (firsts starts : List ℕ) → (last address : ℕ) → ℕ
start_in [] starts last address = last
start_in (f ∷ fs) [] last address = last
start_in (f ∷ fs) (n ∷ ns) last address = if address == f then n else start_in fs ns last address

-- the same of places
abbrev pub start_of : Places → (address : ℕ) → ℕ
start_of places address = start_in places.firsts places.starts places.end address

-- these are the places of the blocks
pub record ArePlacesOf (blocks : List (ABlock XReg)) (places : Places) : Type 0 where
  pub firsts_are : places.firsts ≡ firsts blocks
  pub starts_are : places.starts ≡ starts_from 0 blocks
  pub end_is : places.end ≡ blocks_size blocks

-- addresses in order, each beside a small number
pub record AreTold (places : Places) : Type 0 where
  pub sorted : IsIncreasing places.firsts
  pub each : length places.starts ≡ length places.firsts
  pub low : AllByRecursion (λ n. n ≤ 2 ^ 22) places.starts
  pub end_low : places.end ≤ 2 ^ 22
