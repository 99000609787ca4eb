-- No fault of a file holds where its fields are those of a file that was made.
use Rattle.std.proofs.Common.{◌≡◌, ◌<◌, ◌≤◌, ◌^◌, ◌⊎◌, ℕ, zero, suc, ◌+◌, ◌%◌, true, List, [], ◌∷◌, length, Some, arith, refl, sym, ◌∙◌, ap, subst, inl, inr}
use Rattle.std.specs.Prelude.{take, slice_index, sum_by}
use Rattle.std.proofs.lemmas.Bool.{false≢true}
use Rattle.ev_graph.specs.Memory.{Part, has_flag}
use Rattle.elf_format.specs.declared.headers.ProgramHeader.{ProgramHeader}
use Rattle.elf_format.specs.declared.headers.SectionHeader.{SectionHeader}
use Rattle.elf_format.specs.Headers.{symbol_section, string_section}
use Rattle.elf_read.specs.declared.fault.FileFault.TheVariants.{TooLong, Short, Magic, Class, BadType, Machine, ProgramTable, Segment, TooBig, SymbolTable, NoThread, DoubleName}
use Rattle.elf_read.specs.Fields.{e_type, e_machine, e_phoff, e_shoff, e_phentsize, e_phnum, e_shentsize, e_shnum, program_header_at, p_type, p_memsz, section_header_at, sh_type, sh_link}
use Rattle.elf_read.specs.ElfFile.{segment_at, segments_from, segments_of, section_bytes, symbols_at, strings_at}
use Rattle.elf_read.specs.ElfFile as file
use Rattle.elf_read.specs.FileFaults.{Holds, IsOtherClass, IsBadProgramTable, IsBadSegment, LiesIn, SharesByte, memory_size, IsBadSectionTable, IsUnreadable, IsBadSymbolSection, IsBadStringSection, IsBadSymbolTable, HasNameless, HasNoThread, RepeatsName}
use Rattle.elf_read.specs.FirstFault.{Clear}
use Rattle.elf_write.proofs.ReadParts.{segments_step}
use Rattle.gen_input.specs.BuiltFile.{code_header, cells_header}
use Rattle.made_laws.proofs.Reading.{IsProgramHeader, IsSectionHeader}
use Rattle.made_laws.proofs.Tables.{table, names, all_named, has_thread, once_named}

-- the fields of a file whose code has this size and whose cells stand there
pub record IsMade (bytes : List ℕ) (size at : ℕ) : Type 0 where
  pub long : length bytes ≡ at + 0x2000 + 192
  pub above : 4096 + size ≤ at
  pub below : at ≤ 2 ^ 20
  pub magic : take 4 bytes ≡ (0x7F ∷ 0x45 ∷ 0x4C ∷ 0x46 ∷ [])
  pub class : slice_index bytes 4 ≡ 2
  pub order : slice_index bytes 5 ≡ 1
  pub version : slice_index bytes 6 ≡ 1
  pub kind : e_type bytes ≡ 2
  pub machine : e_machine bytes ≡ 62
  pub programs_at : e_phoff bytes ≡ 64
  pub program_size : e_phentsize bytes ≡ 56
  pub programs : e_phnum bytes ≡ 2
  pub sections_at : e_shoff bytes ≡ at + 0x2000
  pub section_size : e_shentsize bytes ≡ 64
  pub sections : e_shnum bytes ≡ 3
  pub code : IsProgramHeader bytes 64 (code_header size)
  pub cells : IsProgramHeader bytes 120 (cells_header at 0x800000 64)
  pub symbols : IsSectionHeader bytes (at + 0x2000 + 64) (symbol_section 0 (at + 4096) 72)
  pub strings : IsSectionHeader bytes (at + 0x2000 + 128) (string_section 0 (at + 4096 + 72) 19)
  pub found : file.symbol_section bytes ≡ Some (at + 0x2000 + 64)
  pub symbols_read : symbols_at bytes (Some (at + 0x2000 + 64)) ≡ table
  pub names_read : strings_at bytes (Some (at + 0x2000 + 64)) ≡ names

right_class : (bytes : List ℕ) (size at : ℕ) → IsMade bytes size at → IsOtherClass bytes → ⊥
right_class bytes size at is (inl other) = other is.class
right_class bytes size at is (inr (inl other)) = other is.order
right_class bytes size at is (inr (inr other)) = other is.version

place_0 : (bytes : List ℕ) (size at : ℕ) → IsMade bytes size at → program_header_at bytes 0 ≡ 64
place_0 bytes size at is = omega (arith, is.programs_at)

place_1 : (bytes : List ℕ) (size at : ℕ) → IsMade bytes size at → program_header_at bytes 1 ≡ 120
place_1 bytes size at is = omega (arith, is.programs_at)

both_load : (bytes : List ℕ) (size at k : ℕ) → IsMade bytes size at → k < e_phnum bytes → p_type bytes (program_header_at bytes k) ≡ 1
both_load bytes size at zero is low = ap (p_type bytes) (place_0 bytes size at is) ∙ is.code.kind
both_load bytes size at (suc zero) is low = ap (p_type bytes) (place_1 bytes size at is) ∙ is.cells.kind
both_load bytes size at (suc (suc k)) is low = absurd (omega (arith, low, is.programs))

good_table : (bytes : List ℕ) (size at : ℕ) → IsMade bytes size at → IsBadProgramTable bytes → ⊥
good_table bytes size at is (inl other) = other is.program_size
good_table bytes size at is (inr (inl none)) = omega (arith, none, is.programs)
good_table bytes size at is (inr (inr (inl many))) = omega (arith, many, is.programs)
good_table bytes size at is (inr (inr (inr (inl past)))) = omega (arith, past.1, is.programs, is.programs_at, is.long)
good_table bytes size at is (inr (inr (inr (inr (k, low, inl two))))) = omega (arith, both_load bytes size at k is low, two)
good_table bytes size at is (inr (inr (inr (inr (k, low, inr three))))) = omega (arith, both_load bytes size at k is low, three)

-- a segment in the file's bytes, low, and not both written and executed
good_segment : (bytes : List ℕ) (place : ℕ) (h : ProgramHeader) → IsProgramHeader bytes place h
    → h.offset + h.file_size ≤ length bytes → h.file_size ≤ h.size → h.address + h.size ≤ 2 ^ 46
    → (has_flag h.flags 2 ≡ true → has_flag h.flags 1 ≡ true → ⊥) → IsBadSegment bytes place → ⊥
good_segment bytes place h is within filled low apart (inl past) = omega (arith, past.1, within, is.offset, is.file_size)
good_segment bytes place h is within filled low apart (inr (inl over)) = omega (arith, over, filled, is.size, is.file_size)
good_segment bytes place h is within filled low apart (inr (inr (inl high))) = omega (arith, high, low, is.size, is.address)
good_segment bytes place h is within filled low apart (inr (inr (inr both))) =
    apart (ap (λ f. has_flag f 2) (sym is.flags) ∙ both.0) (ap (λ f. has_flag f 1) (sym is.flags) ∙ both.1)

no_write : has_flag 5 2 ≡ true → ⊥
no_write e = false≢true e

no_execute : has_flag 6 1 ≡ true → ⊥
no_execute e = false≢true e

good_code : (bytes : List ℕ) (size at : ℕ) → IsMade bytes size at → IsBadSegment bytes 64 → ⊥
good_code bytes size at is bad =
    good_segment bytes 64 (code_header size) is.code (omega (arith, is.long, is.above)) (omega arith) (omega (arith, is.above, is.below)) (λ w x. no_write w) bad

good_cells : (bytes : List ℕ) (size at : ℕ) → IsMade bytes size at → IsBadSegment bytes 120 → ⊥
good_cells bytes size at is bad =
    good_segment bytes 120 (cells_header at 0x800000 64) is.cells (omega (arith, is.long)) (omega arith) (omega arith) (λ w x. no_execute x) bad

lies : (bytes : List ℕ) (place there n : ℕ) (h : ProgramHeader) → place ≡ there → IsProgramHeader bytes there h → LiesIn bytes place n
    → (h.address ≤ n) × (n < h.address + h.size)
lies bytes place there n h same is in_it =
    let moved : LiesIn bytes there n = subst (λ p. LiesIn bytes p n) same in_it in
    (omega (arith, moved.0, is.address), omega (arith, moved.1, is.address, is.size))

good_pair : (bytes : List ℕ) (size at k : ℕ) → IsMade bytes size at → k < e_phnum bytes
    → IsBadSegment bytes (program_header_at bytes k) ⊎ SharesByte bytes k → ⊥
good_pair bytes size at zero is low (inl bad) = good_code bytes size at is (subst (IsBadSegment bytes) (place_0 bytes size at is) bad)
good_pair bytes size at (suc zero) is low (inl bad) = good_cells bytes size at is (subst (IsBadSegment bytes) (place_1 bytes size at is) bad)
good_pair bytes size at (suc (suc k)) is low bad = absurd (omega (arith, low, is.programs))
good_pair bytes size at zero is low (inr (j, less, shares)) = absurd (omega (arith, less))
good_pair bytes size at (suc zero) is low (inr (zero, less, (load, (n, one, two)))) =
    let first = lies bytes (program_header_at bytes 0) 64 n (code_header size) (place_0 bytes size at is) is.code one in
    let second = lies bytes (program_header_at bytes 1) 120 n (cells_header at 0x800000 64) (place_1 bytes size at is) is.cells two in
    omega (arith, first.1, second.0, is.above, is.below)
good_pair bytes size at (suc zero) is low (inr (suc j, less, shares)) = absurd (omega (arith, less))

-- the two segments
pub both_segments : (bytes : List ℕ) (size at : ℕ) → IsMade bytes size at → segments_of bytes ≡ segment_at bytes 64 ∷ segment_at bytes 120 ∷ []
both_segments bytes size at is =
    ap (λ o. segments_from bytes o (e_phnum bytes)) is.programs_at ∙ ap (λ n. segments_from bytes 64 n) is.programs
    ∙ segments_step bytes 64 1 (segment_at bytes 64) (segment_at bytes 120 ∷ []) is.code.kind refl
    (segments_step bytes 120 0 (segment_at bytes 120) [] is.cells.kind refl refl)

small : (bytes : List ℕ) (size at : ℕ) → IsMade bytes size at → 268435456 < memory_size bytes → ⊥
small bytes size at is big =
    let sum : memory_size bytes ≡ 0 + p_memsz bytes 64 + p_memsz bytes 120 = ap (λ (parts : List Part). sum_by (λ (part : Part). part.size) parts) (both_segments bytes size at is) in
    let code : p_memsz bytes 64 ≡ size = is.code.size in
    let cells : p_memsz bytes 120 ≡ 64 = is.cells.size in
    omega (arith, big, sum, code, cells, is.above, is.below)

good_sections : (bytes : List ℕ) (size at : ℕ) → IsMade bytes size at → IsBadSectionTable bytes → ⊥
good_sections bytes size at is (inl none) = omega (arith, none, is.sections_at)
good_sections bytes size at is (inr (inl none)) = omega (arith, none, is.sections)
good_sections bytes size at is (inr (inr (inl other))) = other is.section_size
good_sections bytes size at is (inr (inr (inr past))) = omega (arith, past.1, is.sections, is.sections_at, is.long)

-- a section in the file's bytes can be read
readable : (bytes : List ℕ) (place : ℕ) (s : SectionHeader) → IsSectionHeader bytes place s → s.offset + s.size ≤ length bytes → IsUnreadable bytes place → ⊥
readable bytes place s is within (inl past) = omega (arith, past.1, within, is.offset, is.size)
readable bytes place s is within (inr compressed) = false≢true (ap (λ f. has_flag f 0x800) (sym is.flags) ∙ compressed)

good_symbols : (bytes : List ℕ) (size at : ℕ) → IsMade bytes size at → IsBadSymbolSection bytes (at + 0x2000 + 64) → ⊥
good_symbols bytes size at is (inl other) = other is.symbols.entry_size
good_symbols bytes size at is (inr (inl odd)) = odd (ap (λ n. n % 24) is.symbols.size)
good_symbols bytes size at is (inr (inr bad)) =
    readable bytes (at + 0x2000 + 64) (symbol_section 0 (at + 4096) 72) is.symbols (omega (arith, is.long)) bad

linked : (bytes : List ℕ) (size at : ℕ) → IsMade bytes size at → section_header_at bytes (sh_link bytes (at + 0x2000 + 64)) ≡ at + 0x2000 + 128
linked bytes size at is =
    let link : sh_link bytes (at + 0x2000 + 64) ≡ 2 = is.symbols.link in
    omega (arith, link, is.sections_at)

good_strings : (bytes : List ℕ) (size at : ℕ) → IsMade bytes size at → IsBadStringSection bytes (at + 0x2000 + 64) → ⊥
good_strings bytes size at is (inl none) =
    let link : sh_link bytes (at + 0x2000 + 64) ≡ 2 = is.symbols.link in
    omega (arith, none, link, is.sections)
good_strings bytes size at is (inr (inl other)) = other (ap (λ p. sh_type bytes p) (linked bytes size at is) ∙ is.strings.kind)
good_strings bytes size at is (inr (inr bad)) =
    readable bytes (at + 0x2000 + 128) (string_section 0 (at + 4096 + 72) 19) is.strings (omega (arith, is.long))
    (subst (IsUnreadable bytes) (linked bytes size at is) bad)

good_found : (bytes : List ℕ) (size at : ℕ) → IsMade bytes size at → IsBadSymbolTable bytes (Some (at + 0x2000 + 64)) → ⊥
good_found bytes size at is (inl bad) = good_symbols bytes size at is bad
good_found bytes size at is (inr (inl bad)) = good_strings bytes size at is bad
good_found bytes size at is (inr (inr nameless)) =
    all_named (subst (HasNameless table) is.names_read
    (subst (λ t. HasNameless t (section_bytes bytes (section_header_at bytes (sh_link bytes (at + 0x2000 + 64))))) is.symbols_read nameless))

pub symbols_are : (bytes : List ℕ) (size at : ℕ) → IsMade bytes size at → file.symbols_of bytes ≡ table
symbols_are bytes size at is = ap (symbols_at bytes) is.found ∙ is.symbols_read

pub names_are : (bytes : List ℕ) (size at : ℕ) → IsMade bytes size at → file.strings_of bytes ≡ names
names_are bytes size at is = ap (strings_at bytes) is.found ∙ is.names_read

-- no fault of the file holds
pub clear_made : (bytes : List ℕ) (size at : ℕ) → IsMade bytes size at → Clear (Holds bytes) 1 13
clear_made bytes size at is TooLong low high holds = omega (arith, holds, is.long, is.below)
clear_made bytes size at is Short low high holds = omega (arith, holds, is.long)
clear_made bytes size at is Magic low high holds = holds is.magic
clear_made bytes size at is Class low high holds = right_class bytes size at is holds
clear_made bytes size at is (BadType kind) low high holds = holds.1 (holds.0 ∙ is.kind)
clear_made bytes size at is (Machine machine) low high holds = holds.1 (holds.0 ∙ is.machine)
clear_made bytes size at is ProgramTable low high holds = good_table bytes size at is holds
clear_made bytes size at is (Segment i) low high holds = good_pair bytes size at i is holds.0 holds.2
clear_made bytes size at is TooBig low high holds = small bytes size at is holds
clear_made bytes size at is SymbolTable low high (inl bad) = good_sections bytes size at is bad
clear_made bytes size at is SymbolTable low high (inr bad) = good_found bytes size at is (subst (IsBadSymbolTable bytes) is.found bad)
clear_made bytes size at is NoThread low high holds =
    has_thread (subst (HasNoThread table) (names_are bytes size at is) (subst (λ t. HasNoThread t (file.strings_of bytes)) (symbols_are bytes size at is) holds))
clear_made bytes size at is (DoubleName i) low high holds =
    once_named i (subst (λ n. RepeatsName table n i) (names_are bytes size at is) (subst (λ t. RepeatsName t (file.strings_of bytes) i) (symbols_are bytes size at is) holds))
clear_made bytes size at is g low high holds = absurd (omega (arith, high))
