-- The file of an image is read back as the image.
use Rattle.std.proofs.Common.{◌≡◌, ℕ, ◌+◌, ◌*◌, ◌^◌, ◌<◌, ◌≤◌, List, [], ◌∷◌, ◌++◌, length, map, arith, ◌∙◌, ap, refl, lit<, length-append}
use Rattle.std.specs.Prelude.{bit_and}
use Rattle.std.specs.List.{AllByRecursion}
use Rattle.std.proofs.lemmas.List.{length-map}
use Rattle.std.proofs.lemmas.Nat.{and_le_r}
use Rattle.ev_graph.specs.Memory.{Part}
use Rattle.elf_read.specs.Fields.{e_machine}
use Rattle.elf_read.specs.ElfFile.{segments_of, threads_of}
use Rattle.elf_format.specs.Symbols.{symbol_table, string_table}
use Rattle.elf_write.specs.declared.image.Image.{Image}
use Rattle.elf_write.specs.Image.{image_part, image_parts, code_part, EndBefore, IsCodeAddress, IsKept, IsImage}
use Rattle.elf_write.specs.ImageFile.{offset_after, end_of, parts_at, places_of, places_from, thread_symbols, image_file}
use Rattle.elf_write.specs.Written.{IsFileOf}
use Rattle.elf_write.proofs.ReadParts.{FitsFields, AllFit}
use Rattle.elf_write.proofs.ReadImage.{segments_of_image, machine_of_image}
use Rattle.elf_write.proofs.ReadSymbols.{IsReadable, threads_of_image}
use Rattle.elf_write.proofs.Steps.{length-code, end_of-append}

-- parts end behind where they begin
pub end_of_le : (parts : List Part) (end : ℕ) → end ≤ end_of end parts
end_of_le [] end = omega arith
end_of_le (part ∷ parts) end =
    let rest = end_of_le parts (offset_after end part.address + length part.bytes) in omega (arith, rest)

-- where the parts end in 64 bits, each offset does
pub all_fit : (parts : List Part) (end : ℕ) → AllByRecursion FitsFields parts → end_of end parts < 2 ^ 64 → AllFit end parts
all_fit [] end fit short = tt
all_fit (part ∷ parts) end fit short =
    let rest = end_of_le parts (offset_after end part.address + length part.bytes) in
    (fit.0, omega (arith, rest, short), all_fit parts (offset_after end part.address + length part.bytes) fit.1 short)

-- a segment of an image fits its fields
pub kept_fits : (part : Part) → IsKept part → FitsFields part
kept_fits part is =
    let few : bit_and part.flags 6 ≤ 6 = and_le_r part.flags 6 in
    record {
      address = omega (arith, is.low);
      size = omega (arith, is.low);
      flags = omega (arith, is.data_alone, few);
      bytes = omega (arith, is.low, is.filled);
    }

-- so do all, and the code behind them
pub parts_fit : (parts rest : List Part) → AllByRecursion IsKept parts → AllByRecursion FitsFields rest → AllByRecursion FitsFields (parts ++ rest)
parts_fit [] rest are more = more
parts_fit (part ∷ parts) rest are more = (kept_fits part are.0, parts_fit parts rest are.1 more)

-- segments of an image end before 2 ^ 46
pub kept_end : (parts : List Part) → AllByRecursion IsKept parts → EndBefore (2 ^ 46) parts
kept_end [] are = tt
kept_end (part ∷ parts) are = (are.0.low, kept_end parts are.1)

-- so the code stands there at the latest
pub code_low : (parts : List Part) (address : ℕ) → AllByRecursion IsKept parts → IsCodeAddress parts address → address ≤ 2 ^ 46
code_low parts address are behind = behind.least (2 ^ 46) refl (kept_end parts are)

-- the bytes of the code end where all parts do
pub code_short : (parts : List Part) (address : ℕ) (words : List ℕ) (end : ℕ) → end_of end (parts ++ code_part address words ∷ []) < 2 ^ 64 → 4 * length words < 2 ^ 64
code_short parts address words end short =
    let ends = end_of-append parts (code_part address words ∷ []) end in
    let long = length-code words in
    omega (arith, ends, long, short)

-- the parts end where the tables begin
sections_behind : (end t n : ℕ) → (places_from end t n).sections < 2 ^ 64 → end < 2 ^ 64
sections_behind end t n short = omega arith

-- an image is readable where its file's section headers begin in 64 bits
pub image_readable : (image : Image) → IsImage image → AllByRecursion (λ address. address < 2 ^ 64) image.threads
    → (places_of (image_parts image) image.threads).sections < 2 ^ 64 → IsReadable (image_parts image) image.threads
image_readable image is addresses short =
    let segments = map image_part image.segments in
    let parts = image_parts image in
    let ends : end_of (parts_at parts) parts < 2 ^ 64 =
    sections_behind (end_of (parts_at parts) parts) (length (symbol_table (thread_symbols 0 image.threads))) (length (string_table (thread_symbols 0 image.threads))) short in
    let low = code_low segments image.code_address is.segments is.behind in
    let size = code_short segments image.code_address image.words (parts_at parts) ends in
    let long = length-code image.words in
    let count : length parts ≡ length image.segments + 1 = simp (length-append, length-map) (omega arith) in
    record {
      few_parts = omega (arith, count, is.few_segments);
      fields = all_fit parts (parts_at parts)
          (parts_fit segments (code_part image.code_address image.words ∷ []) is.segments
          (record { address = omega (arith, low); size = size; flags = lit< tt; bytes = omega (arith, long, size) }, tt)) ends;
      few_threads = is.few_threads;
      addresses = addresses;
      short = short;
    }

-- the bytes of an image's file are read back as the image
pub file_of_image : (image : Image) (file : List ℕ) → IsImage image → AllByRecursion (λ word. word < 2 ^ 32) image.words
    → AllByRecursion (λ address. address < 2 ^ 64) image.threads → (places_of (image_parts image) image.threads).sections < 2 ^ 64
    → file ≡ image_file (image_parts image) image.threads → IsFileOf image file
file_of_image image file is words addresses short whole =
    let ready = image_readable image is addresses short in
    record {
      fit = words;
      bytes = whole;
      machine = ap (λ l. e_machine l) whole ∙ machine_of_image (image_parts image) image.threads;
      segments = ap segments_of whole ∙ segments_of_image (image_parts image) image.threads ready.few_parts ready.fields;
      threads = ap threads_of whole ∙ threads_of_image (image_parts image) image.threads ready;
    }
