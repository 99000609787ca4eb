-- What holds of the memory and the threads of a file that no fault refuses.
use Rattle.std.proofs.Common.{◌≡◌, ◌≢◌, ◌≤◌, ◌<◌, ◌⊎◌, ◌+◌, ◌^◌, ℕ, zero, suc, true, false, List, length, drop, Option, Some, None, arith, refl, sym, ap, subst, inl, inr, ⊎_elim, eqb}
use Rattle.std.specs.List.{AllByRecursion}
use Rattle.std.proofs.lemmas.Bool.{cases_lt}
use Rattle.std.proofs.lemmas.Bool.Decides.{eqb_tells}
use Rattle.std.proofs.lemmas.List.{length-take}
use Rattle.ev_graph.specs.Memory.{Part}
use Rattle.elf_read.specs.declared.fault.FileFault.TheVariants.{ProgramTable, Segment, TooBig, NoThread}
use Rattle.elf_read.specs.Fields.{e_phnum, program_header_at, p_type, p_offset, p_vaddr, p_filesz, p_memsz}
use Rattle.elf_read.specs.ElfFile.{segment_at, segments_of, symbols_of, strings_of, symbol_count, address_of, thread_name, threads_from, threads_of, with_address}
use Rattle.elf_read.specs.Elf.{IsSegment, IsApart, AreApart, IsProgram}
use Rattle.elf_read.specs.FileFaults.{Holds, IsLoad, IsBadSegment, SharesByte, memory_size, HasNoThread}
use Rattle.elf_read.specs.FirstFault.{Clear}
use Rattle.elf_read.proofs.SegmentLemmas.{segments_left, left_load, left_other, left_none, segments_whole}
use Rattle.elf_read.proofs.ListingLemmas.{not_named}

-- a segment at no fault
good_segment : (bytes : List ℕ) (at : ℕ) → (IsBadSegment bytes at → ⊥) → IsSegment (segment_at bytes at)
good_segment bytes at good =
    let size : p_filesz bytes at ≤ p_memsz bytes at = ⊎_elim (λ (less : p_memsz bytes at < p_filesz bytes at). absurd (good (inr (inl less))))
    (λ (low : p_filesz bytes at ≤ p_memsz bytes at). low) (cases_lt (p_memsz bytes at) (p_filesz bytes at)) in
    record {
      filled = rw (length-take (p_filesz bytes at) (drop (p_offset bytes at) bytes)) (omega arith);
      low = ⊎_elim (λ (high : 2 ^ 46 < p_vaddr bytes at + p_memsz bytes at). absurd (good (inr (inr (inl high)))))
          (λ (low : p_vaddr bytes at + p_memsz bytes at ≤ 2 ^ 46). low) (cases_lt (2 ^ 46) (p_vaddr bytes at + p_memsz bytes at));
      unchanging = λ write execute. good (inr (inr (inr (write, execute))));
    }

-- a fact of each segment from an entry on
left_all : (P : Part → Type 0) (bytes : List ℕ) (count n : ℕ) → n + count ≡ e_phnum bytes
    → ((k : ℕ) → n ≤ k → k < e_phnum bytes → IsLoad bytes k → P (segment_at bytes (program_header_at bytes k)))
    → AllByRecursion P (segments_left bytes n)
left_all P bytes zero n whole each = subst (AllByRecursion P) (sym (left_none bytes n (omega arith))) tt
left_all P bytes (suc count) n whole each =
    let low : n < e_phnum bytes = omega arith in
    let rest = left_all P bytes count (n + 1) (omega arith) (λ k above below load. each k (omega arith) below load) in
    ⊎_elim (λ (is : (eqb (p_type bytes (program_header_at bytes n)) 1 ≡ true) × (p_type bytes (program_header_at bytes n) ≡ 1)).
    subst (AllByRecursion P) (sym (left_load bytes n low is.1)) (each n (omega arith) low is.1, rest))
    (λ (other : (eqb (p_type bytes (program_header_at bytes n)) 1 ≡ false) × (p_type bytes (program_header_at bytes n) ≢ 1)).
    subst (AllByRecursion P) (sym (left_other bytes n low other.1)) rest)
    (eqb_tells (p_type bytes (program_header_at bytes n)) 1)

-- segments of which none shares a byte with an earlier one are apart
left_apart : (bytes : List ℕ) (count n : ℕ) → n + count ≡ e_phnum bytes
    → ((k : ℕ) → k < e_phnum bytes → IsLoad bytes k → SharesByte bytes k → ⊥) → AreApart (segments_left bytes n)
left_apart bytes zero n whole each = subst AreApart (sym (left_none bytes n (omega arith))) tt
left_apart bytes (suc count) n whole each =
    let low : n < e_phnum bytes = omega arith in
    let rest = left_apart bytes count (n + 1) (omega arith) each in
    ⊎_elim (λ (is : (eqb (p_type bytes (program_header_at bytes n)) 1 ≡ true) × (p_type bytes (program_header_at bytes n) ≡ 1)).
    let here = segment_at bytes (program_header_at bytes n) in
    let others : AllByRecursion (IsApart here) (segments_left bytes (n + 1)) =
    left_all (IsApart here) bytes count (n + 1) (omega arith)
    (λ k above below load. λ a from to low high. each k below load (n, omega arith, (is.1, (a, (from, to), (low, high))))) in
    subst AreApart (sym (left_load bytes n low is.1)) (others, rest))
    (λ (other : (eqb (p_type bytes (program_header_at bytes n)) 1 ≡ false) × (p_type bytes (program_header_at bytes n) ≢ 1)).
    subst AreApart (sym (left_other bytes n low other.1)) rest)
    (eqb_tells (p_type bytes (program_header_at bytes n)) 1)

-- there are no more segments than entries
left_few : (bytes : List ℕ) (count n : ℕ) → n + count ≡ e_phnum bytes → length (segments_left bytes n) ≤ count
left_few bytes zero n whole = rw (left_none bytes n (omega arith)) (omega arith)
left_few bytes (suc count) n whole =
    let low : n < e_phnum bytes = omega arith in
    let rest = left_few bytes count (n + 1) (omega arith) in
    ⊎_elim (λ (is : (eqb (p_type bytes (program_header_at bytes n)) 1 ≡ true) × (p_type bytes (program_header_at bytes n) ≡ 1)).
    let more = ap (λ (parts : List Part). length parts) (left_load bytes n low is.1) in omega (arith, more))
    (λ (other : (eqb (p_type bytes (program_header_at bytes n)) 1 ≡ false) × (p_type bytes (program_header_at bytes n) ≢ 1)).
    let same = ap (λ (parts : List Part). length parts) (left_other bytes n low other.1) in omega (arith, same))
    (eqb_tells (p_type bytes (program_header_at bytes n)) 1)

-- there are at most so many threads, and where the first begins there is one
threads_few : (begins : ℕ → Option ℕ) (k most : ℕ) → length (threads_from begins k most) ≤ most
unfolding threads_from
threads_few begins k zero = omega arith
threads_few begins k (suc most) = with_few (begins k) (threads_from begins (k + 1) most) most (threads_few begins (k + 1) most)
  where
    with_few : (o : Option ℕ) (rest : List ℕ) (most : ℕ) → length rest ≤ most → length (with_address o rest) ≤ suc most
    with_few None rest most low = omega arith
    with_few (Some a) rest most low = omega arith

threads_some : (begins : ℕ → Option ℕ) (most address : ℕ) → begins 0 ≡ Some address → 0 < length (threads_from begins 0 (suc most))
unfolding threads_from
threads_some begins most address some =
    let count = ap (λ (o : Option ℕ). length (with_address o (threads_from begins 1 most))) some in omega (arith, count)

begins_or_none : (o : Option ℕ) → ((a : ℕ) × (o ≡ Some a)) ⊎ (o ≡ None)
begins_or_none None = inr refl
begins_or_none (Some a) = inl (a, refl)

some_thread : (bytes : List ℕ) → (HasNoThread (symbols_of bytes) (strings_of bytes) → ⊥) → 0 < length (threads_of bytes)
some_thread bytes thread =
    let begins : ℕ → Option ℕ = λ k. address_of bytes (thread_name k) in
    ⊎_elim (λ (found : (a : ℕ) × (begins 0 ≡ Some a)). threads_some begins 15 found.0 found.1)
    (λ (none : begins 0 ≡ None).
    absurd (thread (λ i named. not_named (thread_name 0) (symbols_of bytes) (strings_of bytes) (symbol_count (symbols_of bytes)) none i named.0 named.1)))
    (begins_or_none (begins 0))

-- with no fault the file holds a program
pub clear_is_program : (bytes : List ℕ) → Clear (Holds bytes) 1 13 → IsProgram (segments_of bytes) (threads_of bytes)
clear_is_program bytes clear =
    let whole = segments_whole bytes in
    let count : 0 + e_phnum bytes ≡ e_phnum bytes = omega arith in
    let good : (k : ℕ) → k < e_phnum bytes → IsLoad bytes k → IsBadSegment bytes (program_header_at bytes k) ⊎ SharesByte bytes k → ⊥ =
    λ k low load bad. clear (Segment k) (omega arith) (omega arith) (low, load, bad) in
    record {
      few =
          let small : e_phnum bytes ≤ 64 = ⊎_elim (λ (many : 64 < e_phnum bytes). absurd (clear ProgramTable (omega arith) (omega arith) (inr (inr (inl many)))))
          (λ (few : e_phnum bytes ≤ 64). few) (cases_lt 64 (e_phnum bytes)) in
          omega (arith, left_few bytes (e_phnum bytes) 0 count, ap (λ (parts : List Part). length parts) whole);
      segments = subst (AllByRecursion IsSegment) whole
          (left_all IsSegment bytes (e_phnum bytes) 0 count (λ k above low load. good_segment bytes (program_header_at bytes k) (λ bad. good k low load (inl bad))));
      apart = subst AreApart whole (left_apart bytes (e_phnum bytes) 0 count (λ k low load shared. good k low load (inr shared)));
      memory = ⊎_elim (λ (big : 268435456 < memory_size bytes). absurd (clear TooBig (omega arith) (omega arith) big))
          (λ (low : memory_size bytes ≤ 268435456). low) (cases_lt 268435456 (memory_size bytes));
      some_thread = some_thread bytes (clear NoThread (omega arith) (omega arith));
      threads = threads_few (λ k. address_of bytes (thread_name k)) 0 16;
    }

-- the same of what is told of it
pub told_is_program : (bytes : List ℕ) (parts : List Part) (entries : List ℕ) → Clear (Holds bytes) 1 13 → parts ≡ segments_of bytes → entries ≡ threads_of bytes → IsProgram parts entries
told_is_program bytes parts entries clear these those =
    subst (λ (e : List ℕ). IsProgram parts e) (sym those) (subst (λ (p : List Part). IsProgram p (threads_of bytes)) (sym these) (clear_is_program bytes clear))
