-- What an image is: its parts, its memory, and what holds of the image of an input.
use Rattle.std.specs.Prelude.{◌≡◌, ◌≤◌, ◌<◌, ◌+◌, ◌*◌, ◌%◌, ◌^◌, ◌==◌, ℕ, List, [], ◌∷◌, ◌++◌, length, map, flat_map, max, bit_and, Option, if◌then◌else◌}
use Rattle.std.specs.List.{AllByRecursion}
use Rattle.byteorder.specs.Endian.{little_bytes}
use Rattle.ev_graph.specs.Memory.{Cell, Part, cells_of}
use Rattle.elf_read.specs.Elf.{AreApart}
use Rattle.elf_write.specs.declared.image.Image.{Image}
use Rattle.elf_write.specs.declared.image.ImageSegment.{ImageSegment}

-- a segment as a part of a memory
abbrev pub image_part : ImageSegment → Part
image_part segment = record { address = segment.address; size = segment.size; flags = segment.flags; bytes = segment.bytes }

-- the code as a part: it may be executed, and neither read nor written
abbrev pub code_part : ℕ → List ℕ → Part
code_part address words = record { address = address; size = 4 * length words; flags = 1; bytes = flat_map (little_bytes 4) words }

-- the parts of the image: its segments, and then its code
abbrev pub image_parts : Image → List Part
image_parts image = map image_part image.segments ++ code_part image.code_address image.words ∷ []

-- the cells of its memory
abbrev pub image_cells : Image → ℕ → Option Cell
image_cells image = cells_of (image_parts image)

-- no part ends behind the address
abbrev pub EndBefore : ℕ → List Part → Type 0
EndBefore address parts = AllByRecursion (λ part. part.address + part.size ≤ address) parts

-- the highest of the ends
abbrev pub highest_end : List Part → ℕ
highest_end [] = 0
highest_end (part ∷ parts) = max (part.address + part.size) (highest_end parts)

-- the least multiple of 65,536 that is not below the end of any part
pub record IsCodeAddress (parts : List Part) (address : ℕ) : Type 0 where
  pub multiple : address % 65536 ≡ 0
  pub behind : EndBefore address parts
  pub least : (other : ℕ) → other % 65536 ≡ 0 → EndBefore other parts → address ≤ other

-- The parts that an image keeps of an input: those of nonzero size, in order, with their bytes, and with the flags R and W alone.
abbrev pub kept : List Part → List Part
kept [] = []
kept (part ∷ parts) = if part.size == 0 then kept parts else record part { flags = bit_and part.flags 6 } ∷ kept parts

-- a segment of an image: it has memory, no more bytes in the file than there, no flag but R and W, and an end of at most 2 ^ 46
pub record IsKept (part : Part) : Type 0 where
  pub some : 0 < part.size
  pub filled : length part.bytes ≤ part.size
  pub data_alone : bit_and part.flags 6 ≡ part.flags
  pub low : part.address + part.size ≤ 2 ^ 46

-- what an image has to be to be written: 1 to 16 threads, at most 64 segments, apart from one another, and code behind them
pub record IsImage (image : Image) : Type 0 where
  pub some_thread : 0 < length image.threads
  pub few_threads : length image.threads ≤ 16
  pub few_segments : length image.segments ≤ 64
  pub segments : AllByRecursion IsKept (map image_part image.segments)
  pub apart : AreApart (map image_part image.segments)
  pub behind : IsCodeAddress (map image_part image.segments) image.code_address
