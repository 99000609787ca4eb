-- The symbols that were written are found by their names.
use Rattle.std.proofs.Common.{◌≡◌, ℕ, ◌+◌, ◌/◌, ◌%◌, ◌^◌, ◌<◌, ◌≤◌, zero, suc, Bool, true, false, List, [], ◌∷◌, ◌++◌, length, drop, cond, arith, sym, ◌∙◌, ap, refl, append_assoc, length-append, add-zero}
use Rattle.std.proofs.lemmas.Bool.Decides.{nat_tests, Decides-like, Decides-eqb, same_from_decides}
use Rattle.std.specs.Prelude.{codes, decimal, not, take_while, ◌==◌, ◌&&◌, if◌then◌else◌, Option, Some, None, slice_get}
use Rattle.std.specs.Str.{bytes_eq}
use Rattle.std.proofs.lemmas.Slice.Eq.{bytes_eq-Decides}
use Rattle.std.proofs.lemmas.List.Sums.{take_while-cons}
use Rattle.std.proofs.lemmas.Fmt.{decimal_by_steps, decimal_injective}
use Rattle.std.proofs.Math.Seq.{drop-append_seam}
use Rattle.byteorder.specs.Numbers.{little_number-reads_back}
use Rattle.elf_format.specs.declared.symbol.Symbol.{Symbol}
use Rattle.elf_read.specs.Bytes.{number_at}
use Rattle.elf_read.specs.Fields.{st_name, st_info, st_shndx}
use Rattle.elf_format.specs.Fields.{spelled}
use Rattle.elf_format.specs.Symbols.{symbol_fields, symbol_entries, symbol_names}
use Rattle.elf_read.specs.ElfFile.{name_at, is_symbol, value_from, thread_name, threads_from, with_address}
use Rattle.elf_write.specs.ImageFile.{thread_symbols}
use Rattle.elf_write.proofs.Reading.{number_there}

-- no byte is zero
abbrev pub HasNoZero : List ℕ → Type 0
HasNoZero [] = Unit {0}
HasNoZero (b ∷ bs) = ((b == 0) ≡ false) × HasNoZero bs

pub HasNoZero-append : (xs ys : List ℕ) → HasNoZero xs → HasNoZero ys → HasNoZero (xs ++ ys)
HasNoZero-append [] ys p q = q
HasNoZero-append (x ∷ xs) ys p q = (p.0, HasNoZero-append xs ys p.1 q)

digit_is_no_zero : (n : ℕ) → (48 + n == 0) ≡ false
digit_is_no_zero n = grind (arith, nat_tests)

pub HasNoZero-decimal : (n : ℕ) → n < 2 ^ 64 → HasNoZero (decimal n)
HasNoZero-decimal n small =
    decimal_by_steps (λ n ds. HasNoZero ds) (λ n low. (digit_is_no_zero n, tt)) (λ n ds high p. HasNoZero-append ds _ p (digit_is_no_zero (n % 10), tt)) n small

pub HasNoZero-thread_name : (k : ℕ) → k < 2 ^ 64 → HasNoZero (thread_name k)
HasNoZero-thread_name k small = HasNoZero-append (codes "thread_") (decimal k) (refl, (refl, (refl, (refl, (refl, (refl, (refl, tt))))))) (HasNoZero-decimal k small)

-- a name is read up to its zero
pub name_read : (name more : List ℕ) → HasNoZero name → take_while (λ b. not (b == 0)) ((name ++ 0 ∷ []) ++ more) ≡ name
name_read [] more p = take_while-cons (λ b. not (b == 0)) 0 more
name_read (b ∷ name) more p =
    take_while-cons (λ b. not (b == 0)) b ((name ++ 0 ∷ []) ++ more)
    ∙ ap (λ t. cond (not t) (b ∷ take_while (λ b. not (b == 0)) ((name ++ 0 ∷ []) ++ more)) []) p.0
    ∙ ap (λ bs. b ∷ bs) (name_read name more p.1)

pub name_found : (strings ns name more : List ℕ) (at : ℕ) → strings ≡ ns ++ ((name ++ 0 ∷ []) ++ more) → at ≡ length ns → HasNoZero name → name_at strings at ≡ name
name_found strings ns name more at whole here p =
    rw (whole, here, drop-append_seam ns ((name ++ 0 ∷ []) ++ more)) (name_read name more p)

-- the fields of a symbol's entry
pub entry_name : (at address : ℕ) (more : List ℕ) → at < 2 ^ 32 → number_at (spelled (symbol_fields at address) ++ more) 0 4 ≡ at
unfolding number_at
entry_name at address more fits = little_number-reads_back 4 at [] fits

pub entry_section : (at address : ℕ) (more : List ℕ) → number_at (spelled (symbol_fields at address) ++ more) 6 2 ≡ 0xFFF1
unfolding number_at
entry_section at address more = refl

pub entry_info : (at address : ℕ) (more : List ℕ) → number_at (spelled (symbol_fields at address) ++ more) 4 1 ≡ 0x12
unfolding number_at
entry_info at address more = refl

pub entry_address : (at address : ℕ) (more : List ℕ) → address < 2 ^ 64 → number_at (spelled (symbol_fields at address) ++ more) 8 8 ≡ address
unfolding number_at
entry_address at address more fits = little_number-reads_back 8 address [] fits

-- each name has no zero, and the numbers fit their fields
abbrev pub AreWell : ℕ → List Symbol → Type 0
AreWell at [] = Unit {0}
AreWell at (symbol ∷ symbols) =
    HasNoZero symbol.name × (at < 2 ^ 32) × (symbol.address < 2 ^ 64) × AreWell (at + length symbol.name + 1) symbols

-- the address of the first symbol of this name
abbrev pub address_in : List ℕ → List Symbol → Option ℕ
address_in name [] = None
address_in name (symbol ∷ symbols) = if bytes_eq symbol.name name then Some symbol.address else address_in name symbols

-- the entry is a defined global symbol, so its name decides
pub entry_tested : (name table strings xs more : List ℕ) (place at address : ℕ) (own : List ℕ)
    → table ≡ xs ++ (spelled (symbol_fields at address) ++ more) → place ≡ length xs → at < 2 ^ 32 → name_at strings at ≡ own
    → is_symbol name table strings place ≡ bytes_eq own name
entry_tested name table strings xs more place at address own whole here fits found =
    let entry = spelled (symbol_fields at address) ++ more in
    let section : st_shndx table place ≡ 0xFFF1 = number_there table xs entry place 6 2 whole here ∙ entry_section at address more in
    let info : st_info table place ≡ 0x12 = number_there table xs entry place 4 1 whole here ∙ entry_info at address more in
    let named : st_name table (place + 0) ≡ at = number_there table xs entry place 0 4 whole here ∙ entry_name at address more fits in
    ap (λ n. not (n == 0) && (st_info table place / 16 == 1) && bytes_eq (name_at strings (st_name table place)) name) section
    ∙ ap (λ n. true && (n / 16 == 1) && bytes_eq (name_at strings (st_name table place)) name) info
    ∙ ap (λ n. bytes_eq (name_at strings (st_name table n)) name) (sym (add-zero place))
    ∙ ap (λ n. bytes_eq (name_at strings n) name) named
    ∙ ap (λ bs. bytes_eq bs name) found

-- an entry that was tested, and then those of the others
pub values_step : (name table strings : List ℕ) (place count : ℕ) (test : Bool) (address : ℕ) (others : Option ℕ)
    → is_symbol name table strings place ≡ test → number_at table (place + 8) 8 ≡ address → value_from name table strings (place + 24) count ≡ others
    → value_from name table strings place (suc count) ≡ (if test then Some address else others)
values_step name table strings place count test address others tested here rest =
    ap (λ t. if t then Some (number_at table (place + 8) 8) else value_from name table strings (place + 24) count) tested
    ∙ ap (λ a. if test then Some a else value_from name table strings (place + 24) count) here
    ∙ ap (λ o. if test then Some address else o) rest

-- a name is looked up among the entries as among the symbols
pub values_found : (symbols : List Symbol) (name table strings xs ns more rest : List ℕ) (place at : ℕ)
    → table ≡ xs ++ (symbol_entries at symbols ++ more) → place ≡ length xs
    → strings ≡ ns ++ (symbol_names symbols ++ rest) → at ≡ length ns → AreWell at symbols
    → value_from name table strings place (length symbols) ≡ address_in name symbols
values_found [] name table strings xs ns more rest place at whole here named there well = refl
values_found (symbol ∷ symbols) name table strings xs ns more rest place at whole here named there well =
    let entry = spelled (symbol_fields at symbol.address) in
    let next = at + length symbol.name + 1 in
    let others = symbol_entries next symbols in
    let own = symbol.name ++ 0 ∷ [] in
    let regrouped : table ≡ xs ++ (entry ++ (others ++ more)) = whole ∙ ap (λ l. xs ++ l) (append_assoc entry others more) in
    let shifted : table ≡ (xs ++ entry) ++ (others ++ more) = regrouped ∙ sym (append_assoc xs entry (others ++ more)) in
    let placed : place + 24 ≡ length (xs ++ entry) = ap (λ n. n + 24) here ∙ sym (length-append xs entry) in
    let texts : strings ≡ ns ++ (own ++ (symbol_names symbols ++ rest)) = named ∙ ap (λ l. ns ++ l) (append_assoc own (symbol_names symbols) rest) in
    let passed : strings ≡ (ns ++ own) ++ (symbol_names symbols ++ rest) = texts ∙ sym (append_assoc ns own (symbol_names symbols ++ rest)) in
    let counted : next ≡ length (ns ++ own) = simp length-append (omega (arith, there)) in
    let found : name_at strings at ≡ symbol.name = name_found strings ns symbol.name (symbol_names symbols ++ rest) at texts there well.0 in
    let address : number_at table (place + 8) 8 ≡ symbol.address =
    number_there table xs (entry ++ (others ++ more)) place 8 8 regrouped here ∙ entry_address at symbol.address (others ++ more) well.2 in
    values_step name table strings place (length symbols) (bytes_eq symbol.name name) symbol.address (address_in name symbols)
    (entry_tested name table strings xs (others ++ more) place at symbol.address symbol.name regrouped here well.1 found) address
    (values_found symbols name table strings (xs ++ entry) (ns ++ own) more rest (place + 24) next shifted placed passed counted well.3)

-- threads that begin as a list says are that list, up to its end
pub threads_counted : (threads : List ℕ) (begins : ℕ → Option ℕ) (k most : ℕ) → ((i : ℕ) → i < most → begins (k + i) ≡ slice_get threads i)
    → length threads ≤ most → threads_from begins k most ≡ threads
unfolding threads_from
threads_counted [] begins k zero found few = refl
threads_counted [] begins k (suc most) found few =
    ap (λ (a : Option ℕ). with_address a (threads_from begins (k + 1) most)) (ap begins (sym (add-zero k)) ∙ found 0 (omega arith))
threads_counted (address ∷ threads) begins k zero found few = absurd (omega arith)
threads_counted (address ∷ threads) begins k (suc most) found few =
    let here : begins k ≡ Some address = ap begins (sym (add-zero k)) ∙ found 0 (omega arith) in
    let later = λ (i : ℕ) (low : i < most). let moved : k + 1 + i ≡ k + suc i = omega arith in ap begins moved ∙ found (suc i) (omega arith) in
    ap (λ (a : Option ℕ). with_address a (threads_from begins (k + 1) most)) here ∙ ap (λ (others : List ℕ). address ∷ others) (threads_counted threads begins (k + 1) most later (omega arith))

-- the names of two threads are the same where their numbers are
pub names_tested : (k j : ℕ) → k < 2 ^ 64 → j < 2 ^ 64 → bytes_eq (thread_name k) (thread_name j) ≡ (k == j)
names_tested k j low high =
    let apart : thread_name k ≡ thread_name j → k ≡ j = λ e. decimal_injective k j low high (ap (drop 7) e) in
    same_from_decides (bytes_eq (thread_name k) (thread_name j)) (k == j)
    (Decides-like (bytes_eq (thread_name k) (thread_name j)) apart (λ e. ap thread_name e) (bytes_eq-Decides (thread_name k) (thread_name j)))
    (Decides-eqb k j)

differs : (k i : ℕ) → (k == k + suc i) ≡ false
differs k i = grind (arith, nat_tests)

same_number : (k : ℕ) → (k == k + 0) ≡ true
same_number k = grind (arith, nat_tests)

-- a thread's symbol has its address
pub thread_found : (threads : List ℕ) (k i : ℕ) → k + i < 2 ^ 64 → address_in (thread_name (k + i)) (thread_symbols k threads) ≡ slice_get threads i
thread_found [] k i small = refl
thread_found (address ∷ threads) k zero small =
    let test : (k == k + 0) ≡ true = same_number k in
    ap (λ t. if t then Some address else address_in (thread_name (k + 0)) (thread_symbols (k + 1) threads)) (names_tested k (k + 0) (omega arith) small ∙ test)
thread_found (address ∷ threads) k (suc i) small =
    let test : (k == k + suc i) ≡ false = differs k i in
    let moved : k + suc i ≡ k + 1 + i = omega arith in
    ap (λ t. if t then Some address else address_in (thread_name (k + suc i)) (thread_symbols (k + 1) threads)) (names_tested k (k + suc i) (omega arith) small ∙ test)
    ∙ ap (λ n. address_in (thread_name n) (thread_symbols (k + 1) threads)) moved ∙ thread_found threads (k + 1) i (omega arith)
