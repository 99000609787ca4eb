-- Steps of the writer's loops, and how the pieces that are written come together.
use Rattle.std.proofs.Common.{◌≡◌, ℕ, suc, ◌+◌, ◌<◌, List, [], ◌∷◌, ◌++◌, length, map, get_or, drop, arith, sym, ◌∙◌, append_assoc, length-append, ap, refl, lit<}
use Rattle.std.specs.Prelude.{◌*◌, ◌^◌, ◌≤◌, flat_map, decimal, slice_index}
use Rattle.std.specs.List.{AllByRecursion}
use Rattle.std.proofs.lemmas.Fmt.{length-decimal-le}
use Rattle.byteorder.specs.Endian.{little_bytes}
use Rattle.byteorder.specs.Numbers.{length-bytes_low_first}
use Rattle.ev_graph.specs.Memory.{Part}
use Rattle.elf_format.specs.declared.headers.ProgramHeader.{ProgramHeader}
use Rattle.elf_format.specs.Bytes.{padded}
use Rattle.elf_format.specs.Headers.{program_header}
use Rattle.elf_format.specs.Symbols.{symbol_names, symbol_table, string_table}
use Rattle.elf_format.proofs.CallerLemmas.{appended_3}
use Rattle.elf_write.specs.declared.image.ImageSegment.{ImageSegment}
use Rattle.elf_write.specs.declared.places.Places.{Places}
use Rattle.elf_write.specs.Image.{image_part, code_part}
use Rattle.elf_write.specs.ImageFile.{header_of, offset_after, program_headers, end_of, with_parts, parts_at, thread_symbols, places_from, places_of, front_of, section_names, image_sections, image_file}

-- one more program header is written
pub headers_step : (out next all : List ℕ) (end after i : ℕ) (segments : List ImageSegment) (segment : ImageSegment) (header : ProgramHeader)
    → drop i segments ≡ segment ∷ drop (i + 1) segments → header ≡ header_of (offset_after end segment.address) (image_part segment)
    → next ≡ out ++ program_header header → after ≡ header.offset + header.file_size
    → out ++ program_headers end (map image_part (drop i segments)) ≡ all
    → next ++ program_headers after (map image_part (drop (i + 1) segments)) ≡ all
headers_step out next all end after i segments segment header here is written moved whole =
    rw (moved, written, is, append_assoc) (rw here at whole)

-- the words of a code are four bytes each
pub length-code : (words : List ℕ) → length (flat_map (little_bytes 4) words) ≡ 4 * length words
length-code [] = refl
length-code (word ∷ words) =
    let rest = length-code words in rw length-append (omega (arith, length-bytes_low_first 0 4 word, rest))

-- parts behind others
pub end_of-append : (ps qs : List Part) (end : ℕ) → end_of end (ps ++ qs) ≡ end_of (end_of end ps) qs
end_of-append [] qs end = refl
end_of-append (p ∷ ps) qs end = end_of-append ps qs (offset_after end p.address + length p.bytes)

pub program_headers-append : (ps qs : List Part) (end : ℕ)
    → program_headers end (ps ++ qs) ≡ program_headers end ps ++ program_headers (end_of end ps) qs
program_headers-append [] qs end = refl
program_headers-append (p ∷ ps) qs end =
    let here = program_header (header_of (offset_after end p.address) p) in
    let after = offset_after end p.address + length p.bytes in
    ap (λ bytes. here ++ bytes) (program_headers-append ps qs after)
    ∙ sym (append_assoc here (program_headers after ps) (program_headers (end_of after ps) qs))

pub with_parts-append : (ps qs : List Part) (front : List ℕ) → with_parts front (ps ++ qs) ≡ with_parts (with_parts front ps) qs
with_parts-append [] qs front = refl
with_parts-append (p ∷ ps) qs front = with_parts-append ps qs (padded front (offset_after (length front) p.address) ++ p.bytes)

-- the headers and bytes of parts, and then those of one more, are those of all
pub front_built : (h first second third fourth : List ℕ) (ps : List Part) (q : Part) (end : ℕ)
    → end ≡ parts_at (ps ++ q ∷ []) → first ≡ h ++ program_headers end ps
    → second ≡ first ++ program_headers (end_of end ps) (q ∷ [])
    → third ≡ with_parts second ps → fourth ≡ with_parts third (q ∷ [])
    → fourth ≡ with_parts (h ++ program_headers (parts_at (ps ++ q ∷ [])) (ps ++ q ∷ [])) (ps ++ q ∷ [])
front_built h first second third fourth ps q end start one two three four =
    let last = program_headers (end_of end ps) (q ∷ []) in
    let headers : second ≡ h ++ program_headers end (ps ++ q ∷ []) =
    two ∙ ap (λ f. f ++ last) one ∙ append_assoc h (program_headers end ps) last ∙ ap (λ b. h ++ b) (sym (program_headers-append ps (q ∷ []) end)) in
    four ∙ ap (λ t. with_parts t (q ∷ [])) (three ∙ ap (λ s. with_parts s ps) headers)
    ∙ sym (with_parts-append ps (q ∷ []) (h ++ program_headers end (ps ++ q ∷ [])))
    ∙ ap (λ e. with_parts (h ++ program_headers e (ps ++ q ∷ [])) (ps ++ q ∷ [])) start

-- bytes that are those of the words make the code's part
pub code_made : (address : ℕ) (slice bytes words : List ℕ) → slice ≡ bytes → bytes ≡ flat_map (little_bytes 4) words
    → record { address = address; size = length slice; flags = 1; bytes = bytes } ≡ code_part address words
code_made address slice bytes words same spelled =
    let long : length slice ≡ 4 * length words = ap length (same ∙ spelled) ∙ length-code words in
    rw (long, spelled) refl

-- the names of threads are short
pub length-thread_names : (threads : List ℕ) (k : ℕ) → k + length threads ≤ 2 ^ 32
    → length (symbol_names (thread_symbols k threads)) ≤ 28 * length threads
length-thread_names [] k small = omega arith
length-thread_names (address ∷ threads) k small =
    let name : length (decimal k) ≤ 20 = length-decimal-le 20 k (lit< tt) (omega arith) (omega arith) in
    let rest = length-thread_names threads (k + 1) (omega arith) in
    simp length-append (omega (arith, name, rest))

-- where the bytes of parts and of one more end
pub end_with_last : (ps : List Part) (q : Part) (start before at last : ℕ)
    → start ≡ parts_at (ps ++ q ∷ []) → before ≡ end_of start ps → at ≡ offset_after before q.address → last ≡ at + length q.bytes
    → last ≡ end_of (parts_at (ps ++ q ∷ [])) (ps ++ q ∷ [])
end_with_last ps q start before at last begins ends placed more =
    rw (more, placed, ends, begins, end_of-append) refl

-- the file is written: the front, the tables behind it, and the section headers
pub tables_built : (old a b c sections first second third fourth fifth last : List ℕ) (at to : ℕ)
    → first ≡ padded old at → second ≡ first ++ a → third ≡ second ++ b → fourth ≡ third ++ c
    → fifth ≡ padded fourth to → last ≡ fifth ++ sections
    → last ≡ padded (padded old at ++ (a ++ (b ++ c))) to ++ sections
tables_built old a b c sections first second third fourth fifth last at to one two three four five six =
    let tables : fourth ≡ padded old at ++ (a ++ (b ++ c)) =
    appended_3 (padded old at) a b c second third fourth (two ∙ ap (λ (l : List ℕ). l ++ a) one) three four in
    six ∙ ap (λ (l : List ℕ). l ++ sections) (five ∙ ap (λ (l : List ℕ). padded l to) tables)

-- the places are those of the file
pub places_written : (parts : List Part) (threads symbols strings : List ℕ) (places : Places)
    → symbols ≡ symbol_table (thread_symbols 0 threads) → strings ≡ string_table (thread_symbols 0 threads)
    → places ≡ places_from (end_of (parts_at parts) parts) (length symbols) (length strings) → places ≡ places_of parts threads
places_written parts threads symbols strings places one two three = rw (three, one, two) refl

-- front, tables and section headers are the file
pub file_written : (parts : List Part) (threads symbols strings front last : List ℕ) (places : Places) (entry count : ℕ)
    → symbols ≡ symbol_table (thread_symbols 0 threads) → strings ≡ string_table (thread_symbols 0 threads)
    → places ≡ places_from (end_of (parts_at parts) parts) (length symbols) (length strings)
    → entry ≡ slice_index threads 0 → count ≡ length parts
    → front ≡ front_of (record { machine = 183; entry = entry; sections_at = places.sections; segment_count = count; section_count = 4; names_section = 3 }) parts
    → last ≡ padded (padded front places.symbols ++ (symbols ++ (strings ++ section_names))) places.sections ++ image_sections places (length symbols) (length strings)
    → last ≡ image_file parts threads
file_written parts threads symbols strings front last places entry count one two three four five six seven =
    rw (seven, six, three, one, two, four, five) refl

-- each word of a list of words has 32 bits
pub words_fit : (words : List ℕ) → ((i : ℕ) → get_or words i 0 < 2 ^ 32) → AllByRecursion (λ word. word < 2 ^ 32) words
words_fit [] h = tt
words_fit (word ∷ words) h = (h 0, words_fit words (λ i. h (suc i)))
