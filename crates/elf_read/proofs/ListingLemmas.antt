-- The listing of symbols, one symbol after another.
use Rattle.std.proofs.Common.{◌≡◌, ◌≢◌, ◌≤◌, ◌<◌, ◌⊎◌, ◌+◌, ◌-◌, ◌*◌, ℕ, zero, suc, Bool, true, false, List, [], ◌∷◌, ◌++◌, length, get_or, drop, Option, Some, None, arith, refl, sym, ap, ◌∙◌, subst, inl, inr, ⊎_elim, eqb, append_assoc, append-nil}
use Rattle.std.specs.Prelude.{if◌then◌else◌, decimal, is_some, MatchBool}
use Rattle.std.proofs.lemmas.Bool.{cases_Bool, cases_lt, false≢true}
use Rattle.std.proofs.lemmas.Bool.Decides.{eqb_tells}
use Rattle.std.proofs.lemmas.Fmt.{decimal_is_IsNumeral}
use Rattle.std.specs.Str.Parse.{digits_value}
use Rattle.ev_graph.specs.Memory.{or_else}
use Rattle.elf_read.specs.declared.listed.Listed.{Listed}
use Rattle.elf_read.specs.declared.listed.Listed.TheVariants.{Input, Output, Thread}
use Rattle.elf_read.specs.declared.listing.Listing.{Listing}
use Rattle.elf_read.specs.Fields.{st_value}
use Rattle.elf_read.specs.ElfFile.{is_symbol, value_from, symbol_count, thread_name, threads_from, with_address}
use Rattle.elf_read.specs.FileFaults.{IsListedName, RepeatsName}
use Rattle.elf_read.specs.Listed.{name_of, IsListed, listed_value, Lists}
use Rattle.elf_read.proofs.ListedLemmas.{symbol_named, named_listed}

-- the number of a thread is read from its name
same_number : (j k : ℕ) → j < 16 → k < 16 → thread_name j ≡ thread_name k → j ≡ k
same_number j k low high same =
    let digits : decimal j ≡ decimal k = ap (drop 7) same in
    let here = (decimal_is_IsNumeral j (omega arith)).1 in
    let there = (decimal_is_IsNumeral k (omega arith)).1 in
    sym here ∙ ap (digits_value 10) digits ∙ there

-- two listed names differ
pub same_name : (f g : Listed) → IsListed f → IsListed g → name_of f ≡ name_of g → f ≡ g
same_name Input Input low high same = refl
same_name Output Output low high same = refl
same_name (Thread j) (Thread k) low high same = ap Thread (same_number j k low high same)
same_name Input Output low high same = absurd (omega (arith, ap length same))
same_name Output Input low high same = absurd (omega (arith, ap length same))
same_name Input (Thread k) low high same = absurd (omega (arith, ap (λ (name : List ℕ). get_or name 0 0) same))
same_name Output (Thread k) low high same = absurd (omega (arith, ap (λ (name : List ℕ). get_or name 0 0) same))
same_name (Thread k) Input low high same = absurd (omega (arith, ap (λ (name : List ℕ). get_or name 0 0) same))
same_name (Thread k) Output low high same = absurd (omega (arith, ap (λ (name : List ℕ). get_or name 0 0) same))

-- a symbol has one name
pub one_name : (f g symbols strings : List ℕ) (at : ℕ) → is_symbol f symbols strings at ≡ true → is_symbol g symbols strings at ≡ true → f ≡ g
one_name f g symbols strings at here there = sym (symbol_named f symbols strings at here) ∙ symbol_named g symbols strings at there

same_or_other : (f g : Listed) → (f ≡ g) ⊎ (f ≢ g)
same_or_other Input Input = inl refl
same_or_other Output Output = inl refl
same_or_other (Thread j) (Thread k) =
    ⊎_elim (λ (is : (eqb j k ≡ true) × (j ≡ k)). inl (ap Thread is.1))
    (λ (other : (eqb j k ≡ false) × (j ≢ k)). inr (λ (same : Thread j ≡ Thread k). other.1 (cc))) (eqb_tells j k)
same_or_other Input Output = inr (λ (same : Input ≡ Output). cc)
same_or_other Output Input = inr (λ (same : Output ≡ Input). cc)
same_or_other Input (Thread k) = inr (λ (same : Input ≡ Thread k). cc)
same_or_other Output (Thread k) = inr (λ (same : Output ≡ Thread k). cc)
same_or_other (Thread k) Input = inr (λ (same : Thread k ≡ Input). cc)
same_or_other (Thread k) Output = inr (λ (same : Thread k ≡ Output). cc)

-- the value of one symbol, if it has the name
abbrev value_at : List ℕ → List ℕ → List ℕ → ℕ → Option ℕ
value_at name symbols strings at = if is_symbol name symbols strings at then Some (st_value symbols at) else None

value_named : (name symbols strings : List ℕ) (at : ℕ) → is_symbol name symbols strings at ≡ true → value_at name symbols strings at ≡ Some (st_value symbols at)
value_named name symbols strings at is = rw is refl

value_unnamed : (name symbols strings : List ℕ) (at : ℕ) → is_symbol name symbols strings at ≡ false → value_at name symbols strings at ≡ None
value_unnamed name symbols strings at other = rw other refl

-- the value among one symbol more
value_more : (name symbols strings : List ℕ) (at count : ℕ)
    → value_from name symbols strings at (suc count) ≡ or_else (value_from name symbols strings at count) (value_at name symbols strings (at + 24 * count))
value_more name symbols strings at zero =
    let here : at + 24 * 0 ≡ at = omega arith in
    rw here refl
value_more name symbols strings at (suc count) =
    let here : at + 24 + 24 * count ≡ at + 24 * suc count = omega arith in
    let rest = value_more name symbols strings (at + 24) count in
    ⊎_elim (λ (yes : is_symbol name symbols strings at ≡ true). rw yes refl)
    (λ (other : is_symbol name symbols strings at ≡ false). rw other (rw (rest, here) refl)) (cases_Bool (is_symbol name symbols strings at))

value_next : (name symbols strings : List ℕ) (i : ℕ)
    → value_from name symbols strings 0 (i + 1) ≡ or_else (value_from name symbols strings 0 i) (value_at name symbols strings (24 * i))
value_next name symbols strings i =
    let start : 0 + 24 * i ≡ 24 * i = omega arith in
    let next : i + 1 ≡ suc i = omega arith in
    rw next (value_more name symbols strings 0 i ∙ ap (λ (at : ℕ). or_else (value_from name symbols strings 0 i) (value_at name symbols strings at)) start)

or_else-Some : (o : Option ℕ) (v : ℕ) → or_else o (Some v) ≡ None → ⊥
or_else-Some None v none = cc
or_else-Some (Some x) v none = cc

or_else-None : (o : Option ℕ) → or_else o None ≡ o
or_else-None None = refl
or_else-None (Some x) = refl

-- a symbol without the name adds nothing
value_kept : (name symbols strings : List ℕ) (i : ℕ) → is_symbol name symbols strings (24 * i) ≡ false
    → value_from name symbols strings 0 (i + 1) ≡ value_from name symbols strings 0 i
value_kept name symbols strings i other =
    value_next name symbols strings i ∙ ap (or_else (value_from name symbols strings 0 i)) (value_unnamed name symbols strings (24 * i) other)
    ∙ or_else-None (value_from name symbols strings 0 i)

-- the first symbol of a name gives its value
value_new : (name symbols strings : List ℕ) (i : ℕ) → value_from name symbols strings 0 i ≡ None → is_symbol name symbols strings (24 * i) ≡ true
    → value_from name symbols strings 0 (i + 1) ≡ Some (st_value symbols (24 * i))
value_new name symbols strings i none is =
    value_next name symbols strings i ∙ ap (λ (o : Option ℕ). or_else o (value_at name symbols strings (24 * i))) none ∙ value_named name symbols strings (24 * i) is

-- a value comes from a symbol of that name
was_named : (name symbols strings : List ℕ) (i v : ℕ) → value_from name symbols strings 0 i ≡ Some v
    → (j : ℕ) × (j < i) × (is_symbol name symbols strings (24 * j) ≡ true)
was_named name symbols strings zero v found = absurd (cc)
was_named name symbols strings (suc i) v found =
    let next : i + 1 ≡ suc i = omega arith in
    let here : value_from name symbols strings 0 (i + 1) ≡ Some v = rw next found in
    ⊎_elim (λ (yes : is_symbol name symbols strings (24 * i) ≡ true). (i, omega arith, yes))
    (λ (other : is_symbol name symbols strings (24 * i) ≡ false).
    let before = was_named name symbols strings i v (sym (value_kept name symbols strings i other) ∙ here) in (before.0, omega (arith, before.1), before.2))
    (cases_Bool (is_symbol name symbols strings (24 * i)))

-- without a value no symbol has the name
pub not_named : (name symbols strings : List ℕ) (i : ℕ) → value_from name symbols strings 0 i ≡ None
    → (j : ℕ) → j < i → is_symbol name symbols strings (24 * j) ≡ true → ⊥
not_named name symbols strings zero none j low is = absurd (omega arith)
not_named name symbols strings (suc i) none j low is =
    let next : i + 1 ≡ suc i = omega arith in
    let here : value_from name symbols strings 0 (i + 1) ≡ None = rw next none in
    ⊎_elim (λ (yes : is_symbol name symbols strings (24 * i) ≡ true).
    let more = value_next name symbols strings i ∙ ap (or_else (value_from name symbols strings 0 i)) (value_named name symbols strings (24 * i) yes) in
    or_else-Some (value_from name symbols strings 0 i) (st_value symbols (24 * i)) (sym more ∙ here))
    (λ (other : is_symbol name symbols strings (24 * i) ≡ false).
    let before : value_from name symbols strings 0 i ≡ None = sym (value_kept name symbols strings i other) ∙ here in
    ⊎_elim (λ (lower : j < i). not_named name symbols strings i before j lower is)
    (λ (last : i ≤ j).
    let same : j ≡ i = omega arith in
    absurd (false≢true (sym other ∙ subst (λ (n : ℕ). is_symbol name symbols strings (24 * n) ≡ true) same is)))
    (cases_lt j i))
    (cases_Bool (is_symbol name symbols strings (24 * i)))

-- a symbol without a listed name leaves the listing, and repeats none
pub lists_same : (symbols strings : List ℕ) (i : ℕ) (listing : Listing) → Lists symbols strings i listing
    → ((name : List ℕ) → IsListedName name → is_symbol name symbols strings (24 * i) ≡ false) → Lists symbols strings (i + 1) listing
lists_same symbols strings i listing lists free = λ name low.
    lists name low ∙ sym (value_kept (name_of name) symbols strings i (free (name_of name) (named_listed name low)))

pub no_repeat_unlisted : (symbols strings : List ℕ) (i : ℕ) → ((name : List ℕ) → IsListedName name → is_symbol name symbols strings (24 * i) ≡ false)
    → RepeatsName symbols strings i → ⊥
no_repeat_unlisted symbols strings i free repeated = false≢true (sym (free repeated.0 repeated.1) ∙ repeated.2.1)

-- the first symbol of a listed name is put into the listing, and repeats none
pub lists_more : (symbols strings : List ℕ) (i : ℕ) (before after : Listing) (found : Listed) → IsListed found → Lists symbols strings i before
    → is_symbol (name_of found) symbols strings (24 * i) ≡ true → listed_value before found ≡ None → listed_value after found ≡ Some (st_value symbols (24 * i))
    → ((other : Listed) → IsListed other → other ≢ found → listed_value after other ≡ listed_value before other) → Lists symbols strings (i + 1) after
lists_more symbols strings i before after found listed lists is none here others = λ name low.
    ⊎_elim (λ (same : name ≡ found).
    subst (λ (n : Listed). listed_value after n ≡ value_from (name_of n) symbols strings 0 (i + 1)) (sym same)
    (here ∙ sym (value_new (name_of found) symbols strings i (sym (lists found listed) ∙ none) is)))
    (λ (other : name ≢ found).
    let unnamed : is_symbol (name_of name) symbols strings (24 * i) ≡ false =
    ⊎_elim (λ (yes : is_symbol (name_of name) symbols strings (24 * i) ≡ true).
    absurd (other (same_name name found low listed (one_name (name_of name) (name_of found) symbols strings (24 * i) yes is))))
    (λ (free : is_symbol (name_of name) symbols strings (24 * i) ≡ false). free) (cases_Bool (is_symbol (name_of name) symbols strings (24 * i))) in
    others name low other ∙ lists name low ∙ sym (value_kept (name_of name) symbols strings i unnamed))
    (same_or_other name found)

pub no_repeat_first : (symbols strings : List ℕ) (i : ℕ) (listing : Listing) (found : Listed) → IsListed found → Lists symbols strings i listing
    → is_symbol (name_of found) symbols strings (24 * i) ≡ true → listed_value listing found ≡ None → RepeatsName symbols strings i → ⊥
no_repeat_first symbols strings i listing found listed lists is none repeated =
    let same : repeated.0 ≡ name_of found = one_name repeated.0 (name_of found) symbols strings (24 * i) repeated.2.1 is in
    let earlier = repeated.3 in
    not_named (name_of found) symbols strings i (sym (lists found listed) ∙ none) earlier.0 earlier.1
    (subst (λ (name : List ℕ). is_symbol name symbols strings (24 * earlier.0) ≡ true) same earlier.2.1)

-- a later one repeats its name
pub repeats : (symbols strings : List ℕ) (i v : ℕ) (listing : Listing) (found : Listed) → IsListed found → Lists symbols strings i listing → i < symbol_count symbols
    → is_symbol (name_of found) symbols strings (24 * i) ≡ true → listed_value listing found ≡ Some v → RepeatsName symbols strings i
repeats symbols strings i v listing found listed lists low is some =
    let earlier = was_named (name_of found) symbols strings i v (sym (lists found listed) ∙ some) in
    (name_of found, named_listed found listed, (low, is), (earlier.0, earlier.1, (omega (arith, earlier.1), earlier.2)))

-- an option that is something has a value
pub value_of_some : (o : Option ℕ) → is_some o ≡ true → (v : ℕ) × (o ≡ Some v)
value_of_some None is = absurd (false≢true is)
value_of_some (Some v) is = (v, refl)

pub none_of_some : (o : Option ℕ) → is_some o ≡ false → o ≡ None
none_of_some None is = refl
none_of_some (Some v) is = absurd (false≢true (sym is))

-- whether a symbol begins the first thread is told by its listed name
pub first_told : (found : Listed) (symbols strings : List ℕ) (at : ℕ) (b : Bool) → IsListed found → is_symbol (name_of found) symbols strings at ≡ true
    → MatchBool b (found ≡ Thread 0) (found ≢ Thread 0) → b ≡ is_symbol (thread_name 0) symbols strings at
first_told found symbols strings at true listed is same = sym (subst (λ (f : Listed). is_symbol (name_of f) symbols strings at ≡ true) same is)
first_told found symbols strings at false listed is other =
    ⊎_elim (λ (yes : is_symbol (thread_name 0) symbols strings at ≡ true).
    absurd (other (same_name found (Thread 0) listed (omega arith) (one_name (name_of found) (thread_name 0) symbols strings at is yes))))
    (λ (free : is_symbol (thread_name 0) symbols strings at ≡ false). sym free) (cases_Bool (is_symbol (thread_name 0) symbols strings at))

-- the threads, one after another
threads_next : (begins : ℕ → Option ℕ) (k : ℕ) → k < 16
    → threads_from begins k (16 - k) ≡ with_address (begins k) (threads_from begins (k + 1) (16 - (k + 1)))
unfolding threads_from
threads_next begins k low = let count : 16 - k ≡ suc (16 - (k + 1)) = omega arith in rw count refl

pub threads_end : (begins : ℕ → Option ℕ) (k : ℕ) (items all : List ℕ) → k < 16 → begins k ≡ None → items ++ threads_from begins k (16 - k) ≡ all → items ≡ all
threads_end begins k items all low none so_far =
    let rest = threads_next begins k low ∙ ap (λ (o : Option ℕ). with_address o (threads_from begins (k + 1) (16 - (k + 1)))) none in
    sym (append-nil items) ∙ ap (λ (more : List ℕ). items ++ more) (sym rest) ∙ so_far

pub threads_more : (begins : ℕ → Option ℕ) (k address : ℕ) (items all : List ℕ) → k < 16 → begins k ≡ Some address → items ++ threads_from begins k (16 - k) ≡ all
    → (items ++ address ∷ []) ++ threads_from begins (k + 1) (16 - (k + 1)) ≡ all
threads_more begins k address items all low some so_far =
    let rest = threads_next begins k low ∙ ap (λ (o : Option ℕ). with_address o (threads_from begins (k + 1) (16 - (k + 1)))) some in
    append_assoc items (address ∷ []) (threads_from begins (k + 1) (16 - (k + 1))) ∙ ap (λ (more : List ℕ). items ++ more) (sym rest) ∙ so_far

pub threads_all : (begins : ℕ → Option ℕ) (k : ℕ) (items all : List ℕ) → 16 ≤ k → items ++ threads_from begins k (16 - k) ≡ all → items ≡ all
unfolding threads_from
threads_all begins k items all past so_far =
    let count : 16 - k ≡ 0 = omega arith in
    sym (append-nil items) ∙ rw count at so_far

-- threads that begin at the same addresses are the same
pub threads_same : (begins other : ℕ → Option ℕ) (k most : ℕ) → ((j : ℕ) → j < k + most → begins j ≡ other j) → threads_from begins k most ≡ threads_from other k most
unfolding threads_from
threads_same begins other k zero same = refl
threads_same begins other k (suc most) same =
    ap (λ (o : Option ℕ). with_address o (threads_from begins (k + 1) most)) (same k (omega arith))
    ∙ ap (with_address (other k)) (threads_same begins other (k + 1) most (λ j low. same j (omega arith)))
