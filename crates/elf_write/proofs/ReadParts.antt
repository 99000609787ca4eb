-- The parts that were written are the segments that are read.
use Rattle.std.proofs.Common.{◌≡◌, ℕ, ◌+◌, ◌^◌, ◌<◌, suc, List, [], ◌∷◌, ◌++◌, length, arith, sym, ◌∙◌, ap, refl, subst, append_assoc, append-nil, length-append, add-zero}
use Rattle.std.specs.Prelude.{◌==◌, if◌then◌else◌}
use Rattle.byteorder.specs.Numbers.{little_number-reads_back}
use Rattle.ev_graph.specs.Memory.{Part}
use Rattle.elf_format.specs.declared.headers.ProgramHeader.{ProgramHeader}
use Rattle.elf_read.specs.Bytes.{number_at, range_at}
use Rattle.elf_read.specs.Fields.{p_type, p_flags, p_offset, p_vaddr, p_filesz, p_memsz}
use Rattle.elf_format.specs.Bytes.{padded}
use Rattle.elf_format.specs.Headers.{program_header}
use Rattle.elf_read.specs.ElfFile.{segment_at, segments_from}
use Rattle.elf_write.specs.ImageFile.{offset_after, header_of, program_headers, with_parts}
use Rattle.elf_format.proofs.CallerLemmas.{length-padded}
use Rattle.elf_write.proofs.Reading.{range_here, number_there}

-- bytes begin with a front
pub record Begins (front bytes : List ℕ) : Type 0 where
  pub rest : List ℕ
  pub whole : bytes ≡ front ++ rest

pub begins_self : (bytes : List ℕ) → Begins bytes bytes
begins_self bytes = record { rest = []; whole = sym (append-nil bytes) }

pub begins_more : (front bytes more : List ℕ) → Begins front bytes → Begins front (bytes ++ more)
begins_more front bytes more b = record { rest = b.rest ++ more; whole = rw (b.whole, append_assoc) refl }

pub begins_shorter : (front next bytes : List ℕ) → Begins (front ++ next) bytes → Begins front bytes
begins_shorter front next bytes b = record { rest = next ++ b.rest; whole = b.whole ∙ append_assoc front next b.rest }

pub begins_with_parts : (parts : List Part) (front bytes : List ℕ) → Begins front bytes → Begins front (with_parts bytes parts)
begins_with_parts [] front bytes b = b
begins_with_parts (part ∷ parts) front bytes b =
    let pad = padded bytes (offset_after (length bytes) part.address) in
    begins_with_parts parts front (pad ++ part.bytes) (begins_more front pad part.bytes (begins_more front bytes _ b))

-- the numbers of the part fit their fields
pub record FitsFields (part : Part) : Type 0 where
  pub address : part.address < 2 ^ 64
  pub size : part.size < 2 ^ 64
  pub flags : part.flags < 2 ^ 32
  pub bytes : length part.bytes < 2 ^ 64

-- the numbers of a program header, read from the bytes that spell it
pub header_kind : (h : ProgramHeader) (rest : List ℕ) → number_at (program_header h ++ rest) 0 4 ≡ 1
unfolding number_at
header_kind h rest = refl

pub header_flags : (h : ProgramHeader) (rest : List ℕ) → h.flags < 2 ^ 32 → number_at (program_header h ++ rest) 4 4 ≡ h.flags
unfolding number_at
header_flags h rest fits = little_number-reads_back 4 h.flags [] fits

pub header_offset : (h : ProgramHeader) (rest : List ℕ) → h.offset < 2 ^ 64 → number_at (program_header h ++ rest) 8 8 ≡ h.offset
unfolding number_at
header_offset h rest fits = little_number-reads_back 8 h.offset [] fits

pub header_address : (h : ProgramHeader) (rest : List ℕ) → h.address < 2 ^ 64 → number_at (program_header h ++ rest) 16 8 ≡ h.address
unfolding number_at
header_address h rest fits = little_number-reads_back 8 h.address [] fits

pub header_file_size : (h : ProgramHeader) (rest : List ℕ) → h.file_size < 2 ^ 64 → number_at (program_header h ++ rest) 32 8 ≡ h.file_size
unfolding number_at
header_file_size h rest fits = little_number-reads_back 8 h.file_size [] fits

pub header_size : (h : ProgramHeader) (rest : List ℕ) → h.size < 2 ^ 64 → number_at (program_header h ++ rest) 40 8 ≡ h.size
unfolding number_at
header_size h rest fits = little_number-reads_back 8 h.size [] fits

-- the bytes of parts stand at their offsets, behind `end`
abbrev pub AreHeld : List ℕ → ℕ → List Part → Type 0
AreHeld bytes end [] = Unit {0}
AreHeld bytes end (part ∷ parts) =
    (range_at bytes (offset_after end part.address) (length part.bytes) ≡ part.bytes)
    × AreHeld bytes (offset_after end part.address + length part.bytes) parts

-- each part's numbers fit, and so do the offsets
abbrev pub AllFit : ℕ → List Part → Type 0
AllFit end [] = Unit {0}
AllFit end (part ∷ parts) =
    FitsFields part × (offset_after end part.address < 2 ^ 64) × AllFit (offset_after end part.address + length part.bytes) parts

-- a part whose fields are those of another is the other
part_is : {a b c : ℕ} {d : List ℕ} {part : Part} → a ≡ part.address → b ≡ part.size → c ≡ part.flags → d ≡ part.bytes
    → record { address = a; size = b; flags = c; bytes = d } ≡ part
part_is {a = a} {b = b} {c = c} {d = d} {part = part} p q r s = λ i. record { address = p i; size = q i; flags = r i; bytes = s i }

-- one segment is read from its program header
pub segment_read : (bytes xs rest : List ℕ) (place offset : ℕ) (part : Part) → bytes ≡ xs ++ (program_header (header_of offset part) ++ rest) → place ≡ length xs
    → FitsFields part → offset < 2 ^ 64 → range_at bytes offset (length part.bytes) ≡ part.bytes → segment_at bytes place ≡ part
segment_read bytes xs rest place offset part whole at fits low held =
    let h = header_of offset part in
    let flags : p_flags bytes place ≡ part.flags = number_there bytes xs (program_header h ++ rest) place 4 4 whole at ∙ header_flags h rest fits.flags in
    let standing : p_offset bytes place ≡ offset = number_there bytes xs (program_header h ++ rest) place 8 8 whole at ∙ header_offset h rest low in
    let address : p_vaddr bytes place ≡ part.address = number_there bytes xs (program_header h ++ rest) place 16 8 whole at ∙ header_address h rest fits.address in
    let filled : p_filesz bytes place ≡ length part.bytes = number_there bytes xs (program_header h ++ rest) place 32 8 whole at ∙ header_file_size h rest fits.bytes in
    let size : p_memsz bytes place ≡ part.size = number_there bytes xs (program_header h ++ rest) place 40 8 whole at ∙ header_size h rest fits.size in
    let contents : range_at bytes (p_offset bytes place) (p_filesz bytes place) ≡ part.bytes =
    ap (λ o. range_at bytes o (p_filesz bytes place)) standing ∙ ap (λ n. range_at bytes offset n) filled ∙ held in
    part_is address size flags contents

-- a program header of type PT_LOAD is one segment, and then come those of the others
pub segments_step : (bytes : List ℕ) (place count : ℕ) (part : Part) (parts : List Part)
    → p_type bytes place ≡ 1 → segment_at bytes place ≡ part → segments_from bytes (place + 56) count ≡ parts
    → segments_from bytes place (suc count) ≡ part ∷ parts
segments_step bytes place count part parts kind here rest =
    ap (λ k. if k == 1 then segment_at bytes place ∷ segments_from bytes (place + 56) count else segments_from bytes (place + 56) count) kind
    ∙ ap (λ p. p ∷ segments_from bytes (place + 56) count) here ∙ ap (λ ps. part ∷ ps) rest

-- the parts are read from their program headers
pub segments_read : (parts : List Part) (bytes xs rest : List ℕ) (end place : ℕ) → bytes ≡ xs ++ (program_headers end parts ++ rest) → place ≡ length xs
    → AllFit end parts → AreHeld bytes end parts → segments_from bytes place (length parts) ≡ parts
segments_read [] bytes xs rest end place whole at fit held = refl
segments_read (part ∷ parts) bytes xs rest end place whole at fit held =
    let offset = offset_after end part.address in
    let here = program_header (header_of offset part) in
    let others = program_headers (offset + length part.bytes) parts in
    let regrouped : bytes ≡ xs ++ (here ++ (others ++ rest)) = whole ∙ ap (λ l. xs ++ l) (append_assoc here others rest) in
    let shifted : bytes ≡ (xs ++ here) ++ (others ++ rest) = regrouped ∙ sym (append_assoc xs here (others ++ rest)) in
    let next : place + 56 ≡ length (xs ++ here) = ap (λ n. n + 56) at ∙ sym (length-append xs here) in
    let kind : p_type bytes (place + 0) ≡ 1 = number_there bytes xs (here ++ (others ++ rest)) place 0 4 regrouped at ∙ header_kind (header_of offset part) (others ++ rest) in
    segments_step bytes place (length parts) part parts (ap (λ (n : ℕ). p_type bytes n) (sym (add-zero place)) ∙ kind)
    (segment_read bytes xs (others ++ rest) place offset part regrouped at fit.0 fit.1 held.0)
    (segments_read parts bytes (xs ++ here) rest (offset + length part.bytes) (place + 56) shifted next fit.2 held.1)

-- bytes that are a piece in the middle are held there
pub range_between : (bytes xs ys : List ℕ) (offset : ℕ) → Begins (xs ++ ys) bytes → offset ≡ length xs → range_at bytes offset (length ys) ≡ ys
range_between bytes xs ys offset b at = rw (b.whole, append_assoc, at) (range_here xs ys b.rest)

-- padding reaches the offset
pub length-padded_to_offset : (front : List ℕ) (address : ℕ) → length (padded front (offset_after (length front) address)) ≡ offset_after (length front) address
length-padded_to_offset front address = length-padded front (offset_after (length front) address) (omega arith)

-- the parts that were put behind a front are held
pub parts_held : (parts : List Part) (front more : List ℕ) → AreHeld (with_parts front parts ++ more) (length front) parts
parts_held [] front more = tt
parts_held (part ∷ parts) front more =
    let offset = offset_after (length front) part.address in
    let pad = padded front offset in
    let next = pad ++ part.bytes in
    let bytes = with_parts next parts ++ more in
    let long : length pad ≡ offset = length-padded_to_offset front part.address in
    let begun : Begins next bytes = begins_more next (with_parts next parts) more (begins_with_parts parts next next (begins_self next)) in
    let after : length next ≡ offset + length part.bytes = length-append pad part.bytes ∙ ap (λ n. n + length part.bytes) long in
    (range_between bytes pad part.bytes offset begun (sym long), subst (λ n. AreHeld bytes n parts) after (parts_held parts next more))
