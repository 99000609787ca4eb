-- The threads that an image's file says are those that it was written for.
use Rattle.std.proofs.Common.{◌≡◌, ℕ, ◌+◌, ◌*◌, ◌^◌, ◌<◌, ◌≤◌, suc, List, [], ◌∷◌, ◌++◌, length, arith, sym, ◌∙◌, ap, refl, subst, append_assoc, append-nil, length-append}
use Rattle.std.specs.Prelude.{replicate, decimal, Some, ◌==◌, if◌then◌else◌}
use Rattle.std.specs.List.{AllByRecursion}
use Rattle.std.proofs.Common.{lit<}
use Rattle.std.proofs.lemmas.Fmt.{length-decimal-le}
use Rattle.byteorder.specs.Numbers.{little_number-reads_back}
use Rattle.ev_graph.specs.Memory.{Part}
use Rattle.elf_format.specs.declared.headers.SectionHeader.{SectionHeader}
use Rattle.elf_format.specs.declared.symbol.Symbol.{Symbol}
use Rattle.elf_read.specs.Bytes.{number_at, range_at}
use Rattle.elf_format.specs.Bytes.{padded}
use Rattle.elf_format.specs.Headers.{file_header, section_header, symbol_section, string_section}
use Rattle.elf_format.specs.Symbols.{symbol_table, string_table, symbol_entries, symbol_names}
use Rattle.elf_read.specs.Fields.{e_shoff, e_shnum, sh_link, section_header_at}
use Rattle.elf_read.specs.ElfFile.{symbol_section_from, symbol_section as found_section, section_bytes, symbols_at, strings_at, symbols_of, strings_of, symbol_count, address_of, value_from, thread_name, threads_of}
use Rattle.elf_write.specs.ImageFile.{parts_at, end_of, program_headers, image_front, image_header, image_file, image_tables, places_of, places_from, section_names, thread_symbols}
use Rattle.elf_format.proofs.CallerLemmas.{length-padded, rounded_up_le, length-symbol_table}
use Rattle.elf_write.proofs.Reading.{number_there}
use Rattle.elf_write.proofs.ReadParts.{Begins, AllFit, range_between}
use Rattle.elf_write.proofs.ReadImage.{headers_begin, header_sections_at, header_section_count, length-image_front}
use Rattle.elf_write.proofs.ReadThreads.{AreWell, address_in, values_found, thread_found, threads_counted, HasNoZero-thread_name}

-- fields of a section header
pub section_offset : (s : SectionHeader) (rest : List ℕ) → s.offset < 2 ^ 64 → number_at (section_header s ++ rest) 24 8 ≡ s.offset
unfolding number_at
section_offset s rest fits = little_number-reads_back 8 s.offset [] fits

pub section_size : (s : SectionHeader) (rest : List ℕ) → s.size < 2 ^ 64 → number_at (section_header s ++ rest) 32 8 ≡ s.size
unfolding number_at
section_size s rest fits = little_number-reads_back 8 s.size [] fits

pub section_kind : (s : SectionHeader) (rest : List ℕ) → s.kind < 2 ^ 32 → number_at (section_header s ++ rest) 4 4 ≡ s.kind
unfolding number_at
section_kind s rest fits = little_number-reads_back 4 s.kind [] fits

pub section_link : (s : SectionHeader) (rest : List ℕ) → s.link < 2 ^ 32 → number_at (section_header s ++ rest) 40 4 ≡ s.link
unfolding number_at
section_link s rest fits = little_number-reads_back 4 s.link [] fits

-- an empty header's kind is 0
empty_kind : (rest : List ℕ) → number_at (replicate 64 0 ++ rest) 4 4 ≡ 0
unfolding number_at
empty_kind rest = refl

-- a section's bytes are read where its header says
pub section_read : (bytes xs rest : List ℕ) (place : ℕ) (s : SectionHeader) (contents : List ℕ)
    → bytes ≡ xs ++ (section_header s ++ rest) → place ≡ length xs → s.offset < 2 ^ 64 → s.size < 2 ^ 64 → s.size ≡ length contents
    → range_at bytes s.offset (length contents) ≡ contents → section_bytes bytes place ≡ contents
section_read bytes xs rest place s contents whole here low short sized held =
    let at : number_at bytes (place + 24) 8 ≡ s.offset = number_there bytes xs (section_header s ++ rest) place 24 8 whole here ∙ section_offset s rest low in
    let size : number_at bytes (place + 32) 8 ≡ length contents = number_there bytes xs (section_header s ++ rest) place 32 8 whole here ∙ section_size s rest short ∙ sized in
    ap (λ o. range_at bytes o (number_at bytes (place + 32) 8)) at ∙ ap (λ n. range_at bytes s.offset n) size ∙ held

-- what an image needs for its file to be read back
pub record IsReadable (parts : List Part) (threads : List ℕ) : Type 0 where
  pub few_parts : length parts < 2 ^ 16
  pub fields : AllFit (parts_at parts) parts
  pub few_threads : length threads ≤ 16
  pub addresses : AllByRecursion (λ address. address < 2 ^ 64) threads
  pub short : (places_of parts threads).sections < 2 ^ 64

-- the parts' front, padded, ends where the symbols stand
pub length-base : (parts : List Part) (threads : List ℕ)
    → length (padded (image_front parts threads) (places_of parts threads).symbols) ≡ (places_of parts threads).symbols
length-base parts threads =
    let long = length-image_front parts threads in
    length-padded (image_front parts threads) (places_of parts threads).symbols (subst (λ n. n ≤ (places_of parts threads).symbols) (sym long) (rounded_up_le (end_of (parts_at parts) parts)))

lengths : (a b c d : List ℕ) (n : ℕ) → length a ≡ n → length (a ++ (b ++ (c ++ d))) ≡ n + length b + length c + length d
lengths a b c d n e = simp length-append (omega (arith, e))

pub length-before_sections : (parts : List Part) (threads : List ℕ)
    → length (padded (padded (image_front parts threads) (places_of parts threads).symbols ++ image_tables threads) (places_of parts threads).sections)
    ≡ (places_of parts threads).sections
length-before_sections parts threads =
    let symbols = symbol_table (thread_symbols 0 threads) in
    let strings = string_table (thread_symbols 0 threads) in
    let base = padded (image_front parts threads) (places_of parts threads).symbols in
    let long : length (base ++ image_tables threads) ≡ (places_of parts threads).symbols + length symbols + length strings + length section_names =
    lengths base symbols strings section_names (places_of parts threads).symbols (length-base parts threads) in
    length-padded (base ++ image_tables threads) (places_of parts threads).sections
    (subst (λ n. n ≤ (places_of parts threads).sections) (sym long) (rounded_up_le ((places_of parts threads).symbols + length symbols + length strings + length section_names)))

-- pieces in the middle of bytes that were appended
pub begins_first : (base t n m z s : List ℕ) → Begins (base ++ t) (((base ++ (t ++ (n ++ m))) ++ z) ++ s)
begins_first base t n m z s = record { rest = (n ++ m) ++ (z ++ s); whole = simp append_assoc }

pub begins_second : (base t n m z s : List ℕ) → Begins ((base ++ t) ++ n) (((base ++ (t ++ (n ++ m))) ++ z) ++ s)
begins_second base t n m z s = record { rest = m ++ (z ++ s); whole = simp append_assoc }

-- the tables are read where they stand
pub symbols_held : (parts : List Part) (threads : List ℕ)
    → range_at (image_file parts threads) (places_of parts threads).symbols (length (symbol_table (thread_symbols 0 threads))) ≡ symbol_table (thread_symbols 0 threads)
symbols_held parts threads =
    range_between (image_file parts threads) (padded (image_front parts threads) (places_of parts threads).symbols) (symbol_table (thread_symbols 0 threads))
    (places_of parts threads).symbols (begins_first _ _ (string_table (thread_symbols 0 threads)) section_names _ _) (sym (length-base parts threads))

pub strings_held : (parts : List Part) (threads : List ℕ)
    → range_at (image_file parts threads) (places_of parts threads).strings (length (string_table (thread_symbols 0 threads))) ≡ string_table (thread_symbols 0 threads)
strings_held parts threads =
    let base = padded (image_front parts threads) (places_of parts threads).symbols in
    let t = symbol_table (thread_symbols 0 threads) in
    range_between (image_file parts threads) (base ++ t) (string_table (thread_symbols 0 threads))
    (places_of parts threads).strings (begins_second base t (string_table (thread_symbols 0 threads)) section_names _ _)
    (sym (length-append base t ∙ ap (λ n. n + length t) (length-base parts threads)))

-- section headers: an empty one, those of a symbol table and its string table, and others
abbrev pub tables_sections : (name at size name' at' size' : ℕ) → List ℕ → List ℕ
tables_sections name at size name' at' size' others =
    replicate 64 0 ++ (section_header (symbol_section name at size) ++ (section_header (string_section name' at' size') ++ others))

-- bytes that end in such section headers: the symbol table's is found
pub symbol_section_found : (bytes xs others : List ℕ) (place count name at size name' at' size' : ℕ)
    → bytes ≡ xs ++ tables_sections name at size name' at' size' others → place ≡ length xs
    → symbol_section_from bytes place (suc (suc count)) ≡ Some (place + 64)
symbol_section_found bytes xs others place count name at size name' at' size' whole here =
    let tail = section_header (symbol_section name at size) ++ (section_header (string_section name' at' size') ++ others) in
    let empty : number_at bytes (place + 4) 4 ≡ 0 = number_there bytes xs (replicate 64 0 ++ tail) place 4 4 whole here ∙ empty_kind tail in
    let shifted : bytes ≡ (xs ++ replicate 64 0) ++ tail = whole ∙ sym (append_assoc xs (replicate 64 0) tail) in
    let placed : place + 64 ≡ length (xs ++ replicate 64 0) = ap (λ k. k + 64) here ∙ sym (length-append xs (replicate 64 0)) in
    let kind : number_at bytes (place + 64 + 4) 4 ≡ 2 = number_there bytes (xs ++ replicate 64 0) tail (place + 64) 4 4 shifted placed
    ∙ section_kind (symbol_section name at size) (section_header (string_section name' at' size') ++ others) (lit< tt) in
    ap (λ k. if k == 2 then Some place else symbol_section_from bytes (place + 64) (suc count)) empty
    ∙ ap (λ k. if k == 2 then Some (place + 64) else symbol_section_from bytes (place + 64 + 64) count) kind

two_on : (place at link : ℕ) → at ≡ place → link ≡ 2 → at + 64 * link ≡ place + 64 + 64
two_on place at link here two = omega (arith, here, two)

-- the tables that the section headers name
pub tables_found : (bytes xs others t n : List ℕ) (place symbols_name symbols_at' strings_name strings_at' : ℕ)
    → bytes ≡ xs ++ tables_sections symbols_name symbols_at' (length t) strings_name strings_at' (length n) others
    → place ≡ length xs → e_shoff bytes ≡ place
    → symbols_at' < 2 ^ 64 → strings_at' < 2 ^ 64 → length t < 2 ^ 64 → length n < 2 ^ 64
    → range_at bytes symbols_at' (length t) ≡ t → range_at bytes strings_at' (length n) ≡ n
    → (symbols_at bytes (Some (place + 64)) ≡ t) × (strings_at bytes (Some (place + 64)) ≡ n)
tables_found bytes xs others t n place symbols_name symbols_at' strings_name strings_at' whole here table low_t low_n short_t short_n held_t held_n =
    let empty = replicate 64 0 in
    let first = symbol_section symbols_name symbols_at' (length t) in
    let second = string_section strings_name strings_at' (length n) in
    let tail = section_header first ++ (section_header second ++ others) in
    let shifted : bytes ≡ (xs ++ empty) ++ tail = whole ∙ sym (append_assoc xs empty tail) in
    let placed : place + 64 ≡ length (xs ++ empty) = ap (λ k. k + 64) here ∙ sym (length-append xs empty) in
    let again : bytes ≡ ((xs ++ empty) ++ section_header first) ++ (section_header second ++ others) =
    shifted ∙ sym (append_assoc (xs ++ empty) (section_header first) (section_header second ++ others)) in
    let there : place + 64 + 64 ≡ length ((xs ++ empty) ++ section_header first) =
    ap (λ k. k + 64) placed ∙ sym (length-append (xs ++ empty) (section_header first)) in
    let link : sh_link bytes (place + 64) ≡ 2 = number_there bytes (xs ++ empty) tail (place + 64) 40 4 shifted placed ∙ section_link first (section_header second ++ others) (lit< tt) in
    let symbols : section_bytes bytes (place + 64) ≡ t =
    section_read bytes (xs ++ empty) (section_header second ++ others) (place + 64) first t shifted placed low_t short_t refl held_t in
    let strings : section_bytes bytes (place + 64 + 64) ≡ n =
    section_read bytes ((xs ++ empty) ++ section_header first) others (place + 64 + 64) second n again there low_n short_n refl held_n in
    let linked : section_header_at bytes (sh_link bytes (place + 64)) ≡ place + 64 + 64 = two_on place (e_shoff bytes) (sh_link bytes (place + 64)) table link in
    (symbols, ap (section_bytes bytes) linked ∙ strings)

-- the first symbol is no one's, and the others are looked up by name
pub table_searched : (name : List ℕ) (symbols : List Symbol) → AreWell 1 symbols
    → value_from name (symbol_table symbols) (string_table symbols) 0 (suc (length symbols)) ≡ address_in name symbols
unfolding number_at
table_searched name symbols well =
    values_found symbols name (symbol_table symbols) (string_table symbols) (replicate 24 0) (0 ∷ []) [] [] 24 1
    (ap (λ l. replicate 24 0 ++ l) (sym (append-nil (symbol_entries 1 symbols)))) refl
    (ap (λ l. 0 ∷ l) (sym (append-nil (symbol_names symbols)))) refl well

-- how many entries the table of symbols has
pub entries_counted : (symbols : List Symbol) → symbol_count (symbol_table symbols) ≡ suc (length symbols)
entries_counted symbols = omega (arith, length-symbol_table symbols)

-- the symbols of threads are well formed
pub threads_well : (threads : List ℕ) (k at : ℕ) → k + length threads ≤ 2 ^ 32 → at + 28 * length threads < 2 ^ 32
    → AllByRecursion (λ address. address < 2 ^ 64) threads → AreWell at (thread_symbols k threads)
threads_well [] k at few low fit = tt
threads_well (address ∷ threads) k at few low fit =
    let name : length (decimal k) ≤ 20 = length-decimal-le 20 k (lit< tt) (omega arith) (omega arith) in
    let next : at + length (thread_name k) + 1 + 28 * length threads < 2 ^ 32 = omega (arith, name, low) in
    (HasNoZero-thread_name k (omega arith), omega arith, fit.0, threads_well threads (k + 1) (at + length (thread_name k) + 1) (omega arith) next fit.1)

-- what stands before the section headers is short where they are
pub places_short : (end t n : ℕ) → (places_from end t n).sections < 2 ^ 64
    → ((places_from end t n).symbols < 2 ^ 64) × ((places_from end t n).strings < 2 ^ 64) × (t < 2 ^ 64) × (n < 2 ^ 64)
places_short end t n short = (omega arith, omega arith, omega arith, omega arith)

-- the section headers of the image's file
pub sections_found : (parts : List Part) (threads : List ℕ) → IsReadable parts threads
    → (e_shoff (image_file parts threads) ≡ (places_of parts threads).sections) × (e_shnum (image_file parts threads) ≡ 4)
sections_found parts threads ready =
    let h = image_header parts threads in
    let b = headers_begin parts threads in
    let whole : image_file parts threads ≡ file_header h ++ (program_headers (parts_at parts) parts ++ b.rest) =
    b.whole ∙ append_assoc (file_header h) (program_headers (parts_at parts) parts) b.rest in
    let rest = program_headers (parts_at parts) parts ++ b.rest in
    (ap e_shoff whole ∙ header_sections_at h rest ready.short, ap e_shnum whole ∙ header_section_count h rest (lit< tt))

-- the tables that are read from the image's file are those of its threads' symbols
pub tables_of_image : (parts : List Part) (threads : List ℕ) → IsReadable parts threads
    → (symbols_of (image_file parts threads) ≡ symbol_table (thread_symbols 0 threads)) × (strings_of (image_file parts threads) ≡ string_table (thread_symbols 0 threads))
tables_of_image parts threads ready =
    let bytes = image_file parts threads in
    let places = places_of parts threads in
    let t = symbol_table (thread_symbols 0 threads) in
    let n = string_table (thread_symbols 0 threads) in
    let before = padded (padded (image_front parts threads) places.symbols ++ image_tables threads) places.sections in
    let here : places.sections ≡ length before = sym (length-before_sections parts threads) in
    let sections = sections_found parts threads ready in
    let names = section_header (string_section 17 places.names (length section_names)) in
    let bounds = places_short (end_of (parts_at parts) parts) (length t) (length n) ready.short in
    let found : found_section bytes ≡ Some (places.sections + 64) =
    ap (λ o. symbol_section_from bytes o (e_shnum bytes)) sections.0 ∙ ap (λ c. symbol_section_from bytes places.sections c) sections.1
    ∙ symbol_section_found bytes before names places.sections 2 1 places.symbols (length t) 9 places.strings (length n) refl here in
    let tables = tables_found bytes before names t n places.sections 1 places.symbols 9 places.strings refl here sections.0 bounds.0 bounds.1 bounds.2 bounds.3
    (symbols_held parts threads) (strings_held parts threads) in
    (ap (symbols_at bytes) found ∙ tables.0, ap (strings_at bytes) found ∙ tables.1)

-- a name is looked up in the image's file as among the threads' symbols
pub address_found : (parts : List Part) (threads name : List ℕ) → IsReadable parts threads
    → address_of (image_file parts threads) name ≡ address_in name (thread_symbols 0 threads)
address_found parts threads name ready =
    let bytes = image_file parts threads in
    let symbols = thread_symbols 0 threads in
    let tables = tables_of_image parts threads ready in
    ap (λ t. value_from name t (strings_of bytes) 0 (symbol_count t)) tables.0
    ∙ ap (λ n. value_from name (symbol_table symbols) n 0 (symbol_count (symbol_table symbols))) tables.1
    ∙ ap (λ c. value_from name (symbol_table symbols) (string_table symbols) 0 c) (entries_counted symbols)
    ∙ table_searched name symbols (threads_well threads 0 1 (omega (arith, ready.few_threads)) (omega (arith, ready.few_threads)) ready.addresses)

-- the threads that the image's file says are those that it was written for
pub threads_of_image : (parts : List Part) (threads : List ℕ) → IsReadable parts threads → threads_of (image_file parts threads) ≡ threads
threads_of_image parts threads ready =
    threads_counted threads (λ k. address_of (image_file parts threads) (thread_name k)) 0 16
    (λ i low. address_found parts threads (thread_name (0 + i)) ready ∙ thread_found threads 0 i (omega arith)) ready.few_threads
