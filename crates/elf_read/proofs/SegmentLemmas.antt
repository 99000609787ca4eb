-- The segments that are still to be read.
use Rattle.std.proofs.Common.{◌≡◌, ◌≢◌, ◌≤◌, ◌<◌, ◌+◌, ◌-◌, ℕ, suc, List, [], ◌∷◌, arith, refl, sym, ap, ◌∙◌, append_assoc, eq-eqb}
use Rattle.std.proofs.lemmas.Bool.{ne_eqb}
use Rattle.std.proofs.lemmas.List.{map-append}
use Rattle.std.proofs.lemmas.List.Sums.{sum_by-cons}
use Rattle.std.specs.Prelude.{sum_by, map, ◌++◌}
use Rattle.ev_graph.specs.Memory.{Part}
use Rattle.elf_read.specs.Fields.{e_phoff, e_phnum, program_header_at, p_type, p_memsz}
use Rattle.elf_read.specs.ElfFile.{segment_at, segments_from, segments_of}
use Rattle.elf_read.specs.Elf.{segment_part}
use Rattle.elf_read.specs.FileFaults.{memory_size}
use Rattle.elf_read.specs.declared.elf.Segment.{Segment}

-- the segments from this program header on
abbrev pub segments_left : List ℕ → ℕ → List Part
segments_left bytes n = segments_from bytes (program_header_at bytes n) (e_phnum bytes - n)

pub left_load : (bytes : List ℕ) (n : ℕ) → n < e_phnum bytes → p_type bytes (program_header_at bytes n) ≡ 1
    → segments_left bytes n ≡ segment_at bytes (program_header_at bytes n) ∷ segments_left bytes (n + 1)
left_load bytes n low load =
    let e : e_phnum bytes - n ≡ suc (e_phnum bytes - (n + 1)) = omega arith in
    let next : program_header_at bytes (n + 1) ≡ program_header_at bytes n + 56 = omega arith in
    let test = eq-eqb (p_type bytes (program_header_at bytes n)) 1 load in
    rw (next, e) (rw test refl)

pub left_other : (bytes : List ℕ) (n : ℕ) → n < e_phnum bytes → p_type bytes (program_header_at bytes n) ≢ 1
    → segments_left bytes n ≡ segments_left bytes (n + 1)
left_other bytes n low other =
    let e : e_phnum bytes - n ≡ suc (e_phnum bytes - (n + 1)) = omega arith in
    let next : program_header_at bytes (n + 1) ≡ program_header_at bytes n + 56 = omega arith in
    let test = ne_eqb (p_type bytes (program_header_at bytes n)) 1 other in
    rw (next, e) (rw test refl)

pub left_none : (bytes : List ℕ) (n : ℕ) → e_phnum bytes ≤ n → segments_left bytes n ≡ []
left_none bytes n past =
    let e : e_phnum bytes - n ≡ 0 = omega arith in
    rw e refl

-- their bytes of memory
pub left_size : List ℕ → ℕ → ℕ
left_size bytes n = sum_by (λ (part : Part). part.size) (segments_left bytes n)

pub size_load : (bytes : List ℕ) (n : ℕ) → n < e_phnum bytes → p_type bytes (program_header_at bytes n) ≡ 1
    → left_size bytes n ≡ p_memsz bytes (program_header_at bytes n) + left_size bytes (n + 1)
unfolding left_size
size_load bytes n low load =
    ap (λ (parts : List Part). sum_by (λ (part : Part). part.size) parts) (left_load bytes n low load)
    ∙ sum_by-cons (λ (part : Part). part.size) (segment_at bytes (program_header_at bytes n)) (segments_left bytes (n + 1))

pub size_other : (bytes : List ℕ) (n : ℕ) → n < e_phnum bytes → p_type bytes (program_header_at bytes n) ≢ 1
    → left_size bytes n ≡ left_size bytes (n + 1)
unfolding left_size
size_other bytes n low other = ap (λ (parts : List Part). sum_by (λ (part : Part). part.size) parts) (left_other bytes n low other)

pub size_none : (bytes : List ℕ) (n : ℕ) → e_phnum bytes ≤ n → left_size bytes n ≡ 0
unfolding left_size
size_none bytes n past = ap (λ (parts : List Part). sum_by (λ (part : Part). part.size) parts) (left_none bytes n past)

-- from the first on they are all
pub segments_whole : (bytes : List ℕ) → segments_left bytes 0 ≡ segments_of bytes
segments_whole bytes =
    let start : program_header_at bytes 0 ≡ e_phoff bytes = omega arith in
    let count : e_phnum bytes - 0 ≡ e_phnum bytes = omega arith in
    rw (start, count) refl

pub size_all : (bytes : List ℕ) → left_size bytes 0 ≡ memory_size bytes
unfolding left_size
size_all bytes = ap (λ (parts : List Part). sum_by (λ (part : Part). part.size) parts) (segments_whole bytes)

-- one more segment was read
pub read_more : (bytes : List ℕ) (n : ℕ) (segments : List Segment) (segment : Segment) (all : List Part) → n < e_phnum bytes → p_type bytes (program_header_at bytes n) ≡ 1
    → segment_part segment ≡ segment_at bytes (program_header_at bytes n) → map segment_part segments ++ segments_left bytes n ≡ all
    → map segment_part (segments ++ segment ∷ []) ++ segments_left bytes (n + 1) ≡ all
read_more bytes n segments segment all low load is so_far =
    let step = left_load bytes n low load in
    let pushed = map-append segment_part segments (segment ∷ []) in
    let regrouped = append_assoc (map segment_part segments) (segment_part segment ∷ []) (segments_left bytes (n + 1)) in
    ap (λ (parts : List Part). parts ++ segments_left bytes (n + 1)) pushed ∙ regrouped
    ∙ ap (λ (part : Part). map segment_part segments ++ (part ∷ segments_left bytes (n + 1))) is
    ∙ ap (λ (parts : List Part). map segment_part segments ++ parts) (sym step) ∙ so_far

-- an entry that is no segment was passed
pub read_other : (bytes : List ℕ) (n : ℕ) (parts all : List Part) → n < e_phnum bytes → p_type bytes (program_header_at bytes n) ≢ 1
    → parts ++ segments_left bytes n ≡ all → parts ++ segments_left bytes (n + 1) ≡ all
read_other bytes n parts all low other so_far = ap (λ (rest : List Part). parts ++ rest) (sym (left_other bytes n low other)) ∙ so_far
