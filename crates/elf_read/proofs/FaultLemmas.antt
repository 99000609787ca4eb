-- The order of the faults that speak of symbols.
use Rattle.std.proofs.Common.{◌≡◌, ◌<◌, ◌≤◌, ℕ, List, Some, arith, sym, subst, inr, ⊎_elim}
use Rattle.elf_read.specs.declared.fault.FileFault.{FileFault}
use Rattle.elf_read.specs.declared.fault.FileFault.TheVariants.{SymbolTable, NoThread, DoubleName, TooMuchCode, BadCode, Indirect, Overlap, TableEntered, UndefinedFlag}
use Rattle.elf_read.specs.Fields.{section_header_at, sh_link}
use Rattle.elf_read.specs.ElfFile.{symbol_section, section_bytes, symbols_of, strings_of, thread_name}
use Rattle.elf_read.specs.FileFaults.{Holds, IsBadSymbolTable, HasNameless, IsNamed, HasNoThread, RepeatsName}
use Rattle.elf_read.specs.FirstFault.{rank, place, Before, Clear, IsFirst}

-- a fault without a place is the first of its rank
pub first_of_rank : (condition : FileFault → Type 0) (f : FileFault) (high : ℕ) → place f ≡ 0 → rank f < high → condition f → IsFirst condition (rank f) high f
first_of_rank condition f high at below holds = record {
  holds = holds;
  from = omega arith;
  below = below;
  first = λ g low before there.
      ⊎_elim (λ (less : rank g < rank f). absurd (omega arith)) (λ (same : (rank g ≡ rank f) × (place g < place f)). absurd (omega (arith, same.1))) before;
}

-- a symbol without a name is a fault of the symbol table
pub nameless_holds : (bytes : List ℕ) (at : ℕ) → symbol_section bytes ≡ Some at
    → HasNameless (section_bytes bytes at) (section_bytes bytes (section_header_at bytes (sh_link bytes at))) → Holds bytes SymbolTable
nameless_holds bytes at found nameless = inr (subst (IsBadSymbolTable bytes) (sym found) (inr (inr nameless)))

-- with no fault of the symbol table, a thread and no name twice, none of these faults holds
pub clear_symbols : (bytes : List ℕ) → Clear (Holds bytes) 10 11 → (HasNoThread (symbols_of bytes) (strings_of bytes) → ⊥)
    → ((i : ℕ) → RepeatsName (symbols_of bytes) (strings_of bytes) i → ⊥) → Clear (Holds bytes) 10 13
clear_symbols bytes table thread once SymbolTable low high holds = table SymbolTable (omega arith) (omega arith) holds
clear_symbols bytes table thread once NoThread low high holds = thread holds
clear_symbols bytes table thread once (DoubleName i) low high holds = once i holds
clear_symbols bytes table thread once g low high holds = absurd (omega arith)

before_double : (bytes : List ℕ) (i : ℕ) → Clear (Holds bytes) 10 11 → (HasNoThread (symbols_of bytes) (strings_of bytes) → ⊥)
    → ((j : ℕ) → j < i → RepeatsName (symbols_of bytes) (strings_of bytes) j → ⊥)
    → (g : FileFault) → 10 ≤ rank g → Before g (DoubleName i) → Holds bytes g → ⊥
before_double bytes i table thread once SymbolTable low before holds = table SymbolTable (omega arith) (omega arith) holds
before_double bytes i table thread once NoThread low before holds = thread holds
before_double bytes i table thread once (DoubleName j) low before holds =
    ⊎_elim (λ (less : 12 < 12). absurd (omega arith)) (λ (same : (12 ≡ 12) × (j < i)). once j same.1 holds) before
before_double bytes i table thread once TooMuchCode low before holds = holds
before_double bytes i table thread once (BadCode fault) low before holds = holds
before_double bytes i table thread once (Indirect a) low before holds = holds
before_double bytes i table thread once (Overlap a) low before holds = holds
before_double bytes i table thread once (TableEntered a) low before holds = holds
before_double bytes i table thread once (UndefinedFlag a) low before holds = holds
before_double bytes i table thread once g low before holds = absurd (omega arith)

-- the first symbol that repeats a listed name is then the first fault
pub first_double : (bytes : List ℕ) (i : ℕ) → Clear (Holds bytes) 10 11 → (HasNoThread (symbols_of bytes) (strings_of bytes) → ⊥)
    → RepeatsName (symbols_of bytes) (strings_of bytes) i → ((j : ℕ) → j < i → RepeatsName (symbols_of bytes) (strings_of bytes) j → ⊥)
    → IsFirst (Holds bytes) 10 13 (DoubleName i)
first_double bytes i table thread repeated once = record {
  holds = repeated;
  from = omega arith;
  below = omega arith;
  first = before_double bytes i table thread once;
}

-- the same of tables that are those of the file
pub clear_listing : (bytes symbols strings : List ℕ) → symbols ≡ symbols_of bytes → strings ≡ strings_of bytes → Clear (Holds bytes) 10 11
    → (i : ℕ) × IsNamed symbols strings i (thread_name 0) → ((i : ℕ) → RepeatsName symbols strings i → ⊥) → Clear (Holds bytes) 10 13
clear_listing bytes symbols strings these names table thread once =
    clear_symbols bytes table (λ none. subst (λ (t : List ℕ). HasNoThread symbols t → ⊥) names
    (λ (free : HasNoThread symbols strings). free thread.0 thread.1) (subst (λ (s : List ℕ). HasNoThread s (strings_of bytes)) (sym these) none))
    (λ i repeated. subst (λ (t : List ℕ). RepeatsName symbols t i → ⊥) names (once i) (subst (λ (s : List ℕ). RepeatsName s (strings_of bytes) i) (sym these) repeated))

pub first_listing : (bytes symbols strings : List ℕ) (i : ℕ) → symbols ≡ symbols_of bytes → strings ≡ strings_of bytes → Clear (Holds bytes) 10 11
    → (k : ℕ) × IsNamed symbols strings k (thread_name 0) → RepeatsName symbols strings i → ((j : ℕ) → j < i → RepeatsName symbols strings j → ⊥)
    → IsFirst (Holds bytes) 10 13 (DoubleName i)
first_listing bytes symbols strings i these names table thread repeated once =
    first_double bytes i table (λ none. subst (λ (t : List ℕ). HasNoThread symbols t → ⊥) names
    (λ (free : HasNoThread symbols strings). free thread.0 thread.1) (subst (λ (s : List ℕ). HasNoThread s (strings_of bytes)) (sym these) none))
    (subst (λ (s : List ℕ). RepeatsName s (strings_of bytes) i) these (subst (λ (t : List ℕ). RepeatsName symbols t i) names repeated))
    (λ j low later. once j low (subst (λ (t : List ℕ). RepeatsName symbols t j) (sym names) (subst (λ (s : List ℕ). RepeatsName s (strings_of bytes) j) (sym these) later)))
