-- What a caller of this crate cites.
use Rattle.std.proofs.Common.{◌≡◌, ◌<◌, ◌≤◌, ◌+◌, ℕ, List, length, drop, arith, refl, sym, ap, ◌∙◌, inl, inr, ⊎_elim}
use Rattle.std.specs.Prelude.{◌==◌, if◌then◌else◌}
use Rattle.std.proofs.lemmas.Bool.{cases_lt}
use Rattle.std.proofs.lemmas.List.{length-drop, length-take}
use Rattle.ev_graph.specs.Memory.{Part, cells_of}
use Rattle.elf_read.specs.declared.elf.Elf.{Elf}
use Rattle.elf_read.specs.declared.fault.FileFault.{FileFault}
use Rattle.elf_read.specs.declared.fault.FileFault.TheVariants.{TooLong, Short, Magic, Class, BadType, Machine, ProgramTable, Segment, TooBig, SymbolTable, NoThread, DoubleName, TooMuchCode, BadCode, Indirect, Overlap, TableEntered, UndefinedFlag}
use Rattle.elf_read.specs.Elf.{IsProgram, parts_of, elf_cells}
use Rattle.elf_read.specs.Bytes.{PassesEnd}
use Rattle.elf_read.specs.ElfFile.{segments_of, section_bytes, threads_of}
use Rattle.elf_read.specs.Fields.{e_type, e_machine, sh_offset, sh_size}
use Rattle.elf_read.specs.FileFaults.{Holds}
use Rattle.elf_read.specs.FirstFault.{rank, place, Before, Clear, IsFirst}
use Rattle.elf_read.proofs.ProgramLemmas.{clear_is_program}

-- ranges of ranks that follow one another make one
pub clear_join : (condition : FileFault → Type 0) (low middle high : ℕ) → Clear condition low middle → Clear condition middle high → Clear condition low high
clear_join condition low middle high before after g from below holds =
    ⊎_elim (λ (less : rank g < middle). before g from less holds) (λ (more : middle ≤ rank g). after g more below holds) (cases_lt (rank g) middle)

-- the first fault behind ranks of which none holds is the first of all
pub first_behind : (condition : FileFault → Type 0) (low middle high : ℕ) (f : FileFault) → low ≤ middle → Clear condition low middle → IsFirst condition middle high f
    → IsFirst condition low high f
first_behind condition low middle high f under before first = record {
  holds = first.holds;
  from = omega (arith, first.from);
  below = first.below;
  first = λ g from earlier holds.
      ⊎_elim (λ (less : rank g < middle). before g from less holds) (λ (more : middle ≤ rank g). first.first g more earlier holds) (cases_lt (rank g) middle);
}

-- the first fault of some ranks is the first of more
pub first_before : (condition : FileFault → Type 0) (low middle high : ℕ) (f : FileFault) → middle ≤ high → IsFirst condition low middle f → IsFirst condition low high f
first_before condition low middle high f over first = record {
  holds = first.holds;
  from = first.from;
  below = omega (arith, first.below);
  first = first.first;
}

-- it is the same by another condition that agrees with the first on these ranks
pub clear_by : (condition other : FileFault → Type 0) (low high : ℕ) → ((g : FileFault) → low ≤ rank g → rank g < high → other g → condition g)
    → Clear condition low high → Clear other low high
clear_by condition other low high agree clear g from below holds = clear g from below (agree g from below holds)

-- two first faults have one rank and one place
pub same_place : (condition : FileFault → Type 0) (low high : ℕ) (f g : FileFault) → IsFirst condition low high f → IsFirst condition low high g
    → (rank f ≡ rank g) × (place f ≡ place g)
same_place condition low high f g first other =
    let f_before : Before f g → ⊥ = λ before. other.first f first.from before first.holds in
    let g_before : Before g f → ⊥ = λ before. first.first g other.from before other.holds in
    let f_less : rank f < rank g → ⊥ = λ less. f_before (inl less) in
    let g_less : rank g < rank f → ⊥ = λ less. g_before (inl less) in
    let same : rank f ≡ rank g = omega (arith, f_less, g_less) in
    let f_lower : place f < place g → ⊥ = λ less. f_before (inr (same, less)) in
    let g_lower : place g < place f → ⊥ = λ less. g_before (inr (sym same, less)) in
    (same, omega (arith, f_lower, g_lower))

-- the fault of a file that has this rank and place
fault_at : List ℕ → ℕ → ℕ → FileFault
fault_at bytes r p =
    if r == 2 then Short else (if r == 3 then Magic else (if r == 4 then Class else (if r == 5 then BadType (e_type bytes) else (if r == 6 then Machine (e_machine bytes)
    else (if r == 7 then ProgramTable else (if r == 8 then Segment p else (if r == 9 then TooBig else (if r == 10 then SymbolTable else (if r == 11 then NoThread
    else (if r == 12 then DoubleName p else TooLong))))))))))

is_fault_at : (bytes : List ℕ) (f : FileFault) → Holds bytes f → f ≡ fault_at bytes (rank f) (place f)
unfolding fault_at
is_fault_at bytes TooLong holds = refl
is_fault_at bytes Short holds = refl
is_fault_at bytes Magic holds = refl
is_fault_at bytes Class holds = refl
is_fault_at bytes (BadType kind) holds = ap BadType holds.0
is_fault_at bytes (Machine machine) holds = ap Machine holds.0
is_fault_at bytes ProgramTable holds = refl
is_fault_at bytes (Segment i) holds = refl
is_fault_at bytes TooBig holds = refl
is_fault_at bytes SymbolTable holds = refl
is_fault_at bytes NoThread holds = refl
is_fault_at bytes (DoubleName i) holds = refl
is_fault_at bytes TooMuchCode holds = absurd holds
is_fault_at bytes (BadCode fault) holds = absurd holds
is_fault_at bytes (Indirect a) holds = absurd holds
is_fault_at bytes (Overlap a) holds = absurd holds
is_fault_at bytes (TableEntered a) holds = absurd holds
is_fault_at bytes (UndefinedFlag a) holds = absurd holds

-- a file has one first fault
pub one_first_fault : (bytes : List ℕ) (low high : ℕ) (f g : FileFault) → IsFirst (Holds bytes) low high f → IsFirst (Holds bytes) low high g → f ≡ g
one_first_fault bytes low high f g first other =
    let same = same_place (Holds bytes) low high f g first other in
    is_fault_at bytes f first.holds ∙ ap (λ (r : ℕ). fault_at bytes r (place f)) same.0 ∙ ap (fault_at bytes (rank g)) same.1 ∙ sym (is_fault_at bytes g other.holds)

-- a file without a fault holds a program
pub no_fault_is_program : (bytes : List ℕ) → Clear (Holds bytes) 1 13 → IsProgram (segments_of bytes) (threads_of bytes)
no_fault_is_program = clear_is_program

-- the cells that are told are those of the file's segments
pub elf_cells-segments : (bytes : List ℕ) (elf : Elf) (n : ℕ) → parts_of elf ≡ segments_of bytes → elf_cells elf n ≡ cells_of (segments_of bytes) n
elf_cells-segments bytes elf n same = ap (λ (parts : List Part). cells_of parts n) same

-- a section that does not pass the end has as many bytes as its header says
pub length-section_bytes : (bytes : List ℕ) (at : ℕ) → (PassesEnd bytes (sh_offset bytes at) (sh_size bytes at) → ⊥) → length (section_bytes bytes at) ≡ sh_size bytes at
length-section_bytes bytes at within =
    let taken = length-take (sh_size bytes at) (drop (sh_offset bytes at) bytes) in
    let dropped = length-drop (sh_offset bytes at) bytes in
    ⊎_elim (λ (some : 0 < sh_size bytes at).
    ⊎_elim (λ (past : length bytes < sh_offset bytes at + sh_size bytes at). absurd (within (some, past)))
    (λ (low : sh_offset bytes at + sh_size bytes at ≤ length bytes). taken ∙ omega arith) (cases_lt (length bytes) (sh_offset bytes at + sh_size bytes at)))
    (λ (none : sh_size bytes at ≤ 0). taken ∙ omega arith) (cases_lt 0 (sh_size bytes at))
