-- An image's file says the parts and threads that it was written for.
use Rattle.std.proofs.Common.{◌≡◌, ℕ, ◌+◌, ◌*◌, ◌^◌, ◌<◌, List, [], ◌∷◌, ◌++◌, length, arith, sym, ◌∙◌, ap, refl, subst, append_assoc, length-append, lit<}
use Rattle.byteorder.specs.Numbers.{little_number-reads_back}
use Rattle.ev_graph.specs.Memory.{Part}
use Rattle.elf_format.specs.declared.headers.FileHeader.{FileHeader}
use Rattle.elf_read.specs.Bytes.{number_at}
use Rattle.elf_read.specs.Fields.{e_machine, e_phoff, e_phnum}
use Rattle.elf_format.specs.Bytes.{padded}
use Rattle.elf_format.specs.Headers.{file_header, program_header}
use Rattle.elf_read.specs.ElfFile.{segments_from, segments_of}
use Rattle.elf_write.specs.ImageFile.{offset_after, end_of, header_of, program_headers, with_parts, parts_at, image_front, image_header, image_file, image_tables, places_of}
use Rattle.elf_write.proofs.ReadParts.{Begins, begins_self, begins_more, begins_with_parts, AllFit, AreHeld, parts_held, segments_read, length-padded_to_offset}

-- the fields of the header
pub header_segments_at : (h : FileHeader) (rest : List ℕ) → number_at (file_header h ++ rest) 32 8 ≡ 64
unfolding number_at
header_segments_at h rest = refl

pub header_machine : (h : FileHeader) (rest : List ℕ) → h.machine < 2 ^ 16 → number_at (file_header h ++ rest) 18 2 ≡ h.machine
unfolding number_at
header_machine h rest fits = little_number-reads_back 2 h.machine [] fits

pub header_sections_at : (h : FileHeader) (rest : List ℕ) → h.sections_at < 2 ^ 64 → number_at (file_header h ++ rest) 40 8 ≡ h.sections_at
unfolding number_at
header_sections_at h rest fits = little_number-reads_back 8 h.sections_at [] fits

pub header_segment_count : (h : FileHeader) (rest : List ℕ) → h.segment_count < 2 ^ 16 → number_at (file_header h ++ rest) 56 2 ≡ h.segment_count
unfolding number_at
header_segment_count h rest fits = little_number-reads_back 2 h.segment_count [] fits

pub header_section_count : (h : FileHeader) (rest : List ℕ) → h.section_count < 2 ^ 16 → number_at (file_header h ++ rest) 60 2 ≡ h.section_count
unfolding number_at
header_section_count h rest fits = little_number-reads_back 2 h.section_count [] fits

-- the file begins with its front, and that with the header and the program headers
pub image_begins : (parts : List Part) (threads : List ℕ) → Begins (image_front parts threads) (image_file parts threads)
image_begins parts threads =
    let front = image_front parts threads in
    let padded_once = padded front (places_of parts threads).symbols in
    begins_more front (padded (padded_once ++ image_tables threads) (places_of parts threads).sections) _
    (begins_more front (padded_once ++ image_tables threads) _
    (begins_more front padded_once (image_tables threads)
    (begins_more front front _ (begins_self front))))

pub headers_begin : (parts : List Part) (threads : List ℕ)
    → Begins (file_header (image_header parts threads) ++ program_headers (parts_at parts) parts) (image_file parts threads)
headers_begin parts threads =
    let headers = file_header (image_header parts threads) ++ program_headers (parts_at parts) parts in
    let b = image_begins parts threads in
    let inner : Begins headers (image_front parts threads) = begins_with_parts parts headers headers (begins_self headers) in
    record { rest = inner.rest ++ b.rest; whole = b.whole ∙ ap (λ l. l ++ b.rest) inner.whole ∙ append_assoc headers inner.rest b.rest }

pub length-program_headers : (parts : List Part) (end : ℕ) → length (program_headers end parts) ≡ 56 * length parts
length-program_headers [] end = refl
length-program_headers (part ∷ parts) end =
    let rest = length-program_headers parts (offset_after end part.address + length part.bytes) in
    omega (arith, length-append (program_header (header_of (offset_after end part.address) part)) (program_headers (offset_after end part.address + length part.bytes) parts), rest)

-- the headers take 64 bytes and 56 for each part
pub length-headers : (parts : List Part) (threads : List ℕ)
    → length (file_header (image_header parts threads) ++ program_headers (parts_at parts) parts) ≡ parts_at parts
length-headers parts threads =
    let long = length-program_headers parts (parts_at parts) in
    length-append (file_header (image_header parts threads)) (program_headers (parts_at parts) parts) ∙ ap (λ n. 64 + n) long

-- the segments that the image's file says are the parts
pub segments_of_image : (parts : List Part) (threads : List ℕ) → length parts < 2 ^ 16 → AllFit (parts_at parts) parts
    → segments_of (image_file parts threads) ≡ parts
segments_of_image parts threads few fit =
    let bytes = image_file parts threads in
    let h = image_header parts threads in
    let headers = file_header h ++ program_headers (parts_at parts) parts in
    let b = headers_begin parts threads in
    let whole : bytes ≡ file_header h ++ (program_headers (parts_at parts) parts ++ b.rest) = b.whole ∙ append_assoc (file_header h) (program_headers (parts_at parts) parts) b.rest in
    let rest = program_headers (parts_at parts) parts ++ b.rest in
    let at : e_phoff bytes ≡ 64 = ap e_phoff whole ∙ header_segments_at h rest in
    let count : e_phnum bytes ≡ length parts = ap e_phnum whole ∙ header_segment_count h rest few in
    let front = image_begins parts threads in
    let held : AreHeld bytes (parts_at parts) parts =
    subst (λ l. AreHeld l (parts_at parts) parts) (sym front.whole)
    (subst (λ n. AreHeld (with_parts headers parts ++ front.rest) n parts) (length-headers parts threads) (parts_held parts headers front.rest)) in
    ap (λ n. segments_from bytes n (e_phnum bytes)) at ∙ ap (λ n. segments_from bytes 64 n) count
    ∙ segments_read parts bytes (file_header h) b.rest (parts_at parts) 64 whole refl fit held

-- where the parts' bytes end in the front
pub length-with_parts : (parts : List Part) (front : List ℕ) → length (with_parts front parts) ≡ end_of (length front) parts
length-with_parts [] front = refl
length-with_parts (part ∷ parts) front =
    let offset = offset_after (length front) part.address in
    let pad = padded front offset in
    let long : length (pad ++ part.bytes) ≡ offset + length part.bytes =
    length-append pad part.bytes ∙ ap (λ n. n + length part.bytes) (length-padded_to_offset front part.address) in
    length-with_parts parts (pad ++ part.bytes) ∙ ap (λ n. end_of n parts) long

pub length-image_front : (parts : List Part) (threads : List ℕ) → length (image_front parts threads) ≡ end_of (parts_at parts) parts
length-image_front parts threads =
    length-with_parts parts (file_header (image_header parts threads) ++ program_headers (parts_at parts) parts)
    ∙ ap (λ n. end_of n parts) (length-headers parts threads)

-- the image's file is one for AArch64
pub machine_of_image : (parts : List Part) (threads : List ℕ) → e_machine (image_file parts threads) ≡ 183
machine_of_image parts threads =
    let h = image_header parts threads in
    let b = headers_begin parts threads in
    let rest = program_headers (parts_at parts) parts ++ b.rest in
    ap e_machine (b.whole ∙ append_assoc (file_header h) (program_headers (parts_at parts) parts) b.rest) ∙ header_machine h rest (lit< tt)
