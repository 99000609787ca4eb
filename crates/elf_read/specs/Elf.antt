-- The memory of a file as it is told.
use Rattle.std.specs.Prelude.{◌≤◌, ◌<◌, ◌+◌, ◌^◌, ℕ, List, [], ◌∷◌, length, map, sum_by, Option, IsTrue}
use Rattle.std.specs.List.{AllByRecursion}
use Rattle.ev_graph.specs.Memory.{Cell, Part, cells_of, has_flag, Apart}
use Rattle.elf_read.specs.declared.elf.Elf.{Elf}
use Rattle.elf_read.specs.declared.elf.Segment.{Segment}

-- a segment as a part of a memory
abbrev pub segment_part : Segment → Part
segment_part segment = record { address = segment.address; size = segment.size; flags = segment.flags; bytes = segment.bytes }

-- the parts of the memory: the segments
abbrev pub parts_of : Elf → List Part
parts_of elf = map segment_part elf.segments

-- the cells of the segments
abbrev pub elf_cells : Elf → ℕ → Option Cell
elf_cells elf = cells_of (parts_of elf)

-- a segment of an accepted file: it has no more bytes in the file than in memory, an end of at most 2 ^ 46, and not both W and X
pub record IsSegment (part : Part) : Type 0 where
  pub filled : length part.bytes ≤ part.size
  pub low : part.address + part.size ≤ 2 ^ 46
  pub unchanging : IsTrue (has_flag part.flags 2) → IsTrue (has_flag part.flags 1) → ⊥

-- two parts have no byte in common
abbrev pub IsApart : Part → Part → Type 0
IsApart part other = Apart part.address (part.address + part.size) other.address (other.address + other.size)

-- no two of the parts have
abbrev pub AreApart : List Part → Type 0
AreApart [] = Unit {0}
AreApart (part ∷ parts) = AllByRecursion (IsApart part) parts × AreApart parts

-- what holds of the memory and the threads of each accepted file
pub record IsProgram (parts : List Part) (entries : List ℕ) : Type 0 where
  pub few : length parts ≤ 64
  pub segments : AllByRecursion IsSegment parts
  pub apart : AreApart parts
  pub memory : sum_by (λ (part : Part). part.size) parts ≤ 268435456
  pub some_thread : 0 < length entries
  pub threads : length entries ≤ 16
