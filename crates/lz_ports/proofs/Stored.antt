-- Files by name in a list: where one is, and what putting one changes.
use Rattle.std.proofs.Common.{◌≡◌, ◌≢◌, ℕ, suc, ◌<◌, Bool, true, false, List, [], ◌∷◌, ◌++◌, length, arith, sym, ◌∙◌, ap, refl}
use Rattle.std.specs.Prelude.{Option, Some, None, option_map, slice_set, if◌then◌else◌}
use Rattle.std.specs.Str.{bytes_eq}
use Rattle.std.proofs.lemmas.Slice.Eq.{bytes_eq-Decides}
use Rattle.std.proofs.Common.{inr, take}
use Rattle.lz_ports.specs.Ports.{IsPut, IsTorn}
use Rattle.lz_ports.specs.Memories.{Named, file_at, with_file, place_of}

-- a place behind the first
pub later_place : (o : Option ℕ) (place : ℕ) → option_map suc o ≡ Some place → (p : ℕ) × (o ≡ Some p) × (place ≡ suc p)
later_place None place e = absurd (cc)
later_place (Some p) place e = (p, refl, (cc))

pub no_place : (o : Option ℕ) → option_map suc o ≡ None → o ≡ None
no_place None e = refl
no_place (Some p) e = absurd (cc)

-- a place that was found is within
within_by : (b : Bool) (o : Option ℕ) (count place : ℕ) → (if b then Some 0 else option_map suc o) ≡ Some place
    → ((p : ℕ) → o ≡ Some p → p < count) → place < suc count
within_by true o count place e deeper = let first : 0 ≡ place = (cc) in omega (arith, first)
within_by false o count place e deeper =
    let later = later_place o place e in
    let within = deeper later.0 later.1 in omega (arith, later.2, within)

pub place_within : (files : List Named) (name : List ℕ) (place : ℕ) → place_of files name ≡ Some place → place < length files
place_within [] name place e = absurd (cc)
place_within (file ∷ files) name place e =
    within_by (bytes_eq file.name name) (place_of files name) (length files) place e (λ p h. place_within files name p h)

-- what stands at the place of the name is replaced
replaced_by : (b : Bool) (file new : Named) (files after : List Named) (o : Option ℕ) (place : ℕ)
    → (if b then Some 0 else option_map suc o) ≡ Some place
    → ((p : ℕ) → o ≡ Some p → slice_set files p new ≡ after)
    → slice_set (file ∷ files) place new ≡ (if b then new ∷ files else file ∷ after)
replaced_by true file new files after o place e deeper = let first : place ≡ 0 = (cc) in rw first refl
replaced_by false file new files after o place e deeper =
    let later = later_place o place e in rw later.2 (ap (λ l. file ∷ l) (deeper later.0 later.1))

pub file_replaced : (files : List Named) (name bytes : List ℕ) (place : ℕ) → place_of files name ≡ Some place
    → slice_set files place (record { name = name; bytes = bytes }) ≡ with_file files name bytes
file_replaced [] name bytes place e = absurd (cc)
file_replaced (file ∷ files) name bytes place e =
    replaced_by (bytes_eq file.name name) file (record { name = name; bytes = bytes }) files (with_file files name bytes) (place_of files name) place e
    (λ p h. file_replaced files name bytes p h)

-- a new name goes last
added_by : (b : Bool) (file new : Named) (files after : List Named) (o : Option ℕ)
    → (if b then Some 0 else option_map suc o) ≡ None
    → (o ≡ None → files ++ new ∷ [] ≡ after)
    → (file ∷ files) ++ new ∷ [] ≡ (if b then new ∷ files else file ∷ after)
added_by true file new files after o e deeper = absurd (cc)
added_by false file new files after o e deeper = ap (λ l. file ∷ l) (deeper (no_place o e))

pub file_added : (files : List Named) (name bytes : List ℕ) → place_of files name ≡ None
    → files ++ record { name = name; bytes = bytes } ∷ [] ≡ with_file files name bytes
file_added [] name bytes e = refl
file_added (file ∷ files) name bytes e =
    added_by (bytes_eq file.name name) file (record { name = name; bytes = bytes }) files (with_file files name bytes) (place_of files name) e
    (λ h. file_added files name bytes h)

-- the name that was put has its bytes
found_by : (b : Bool) (name bytes : List ℕ) (file : Named) (files after : List Named)
    → bytes_eq file.name name ≡ b → file_at after name ≡ Some bytes
    → file_at (if b then record { name = name; bytes = bytes } ∷ files else file ∷ after) name ≡ Some bytes
found_by true name bytes file files after test deeper =
    let same : bytes_eq name name ≡ true = (bytes_eq-Decides name name).1 refl in
    ap (λ t. if t then Some bytes else file_at files name) same
found_by false name bytes file files after test deeper =
    ap (λ t. if t then Some file.bytes else file_at after name) test ∙ deeper

pub file_at-with_file : (files : List Named) (name bytes : List ℕ) → file_at (with_file files name bytes) name ≡ Some bytes
file_at-with_file [] name bytes =
    let same : bytes_eq name name ≡ true = (bytes_eq-Decides name name).1 refl in ap (λ t. if t then Some bytes else None) same
file_at-with_file (file ∷ files) name bytes =
    found_by (bytes_eq file.name name) name bytes file files (with_file files name bytes) refl (file_at-with_file files name bytes)

-- another name has what it had
differs : (name other : List ℕ) → other ≢ name → bytes_eq name other ≡ false
differs name other apart = by_test (bytes_eq name other) refl where
  by_test : (b : Bool) → bytes_eq name other ≡ b → bytes_eq name other ≡ false
  by_test true e = absurd (apart (sym ((bytes_eq-Decides name other).0 e)))
  by_test false e = e

kept_by : (b : Bool) (name other bytes : List ℕ) (file : Named) (files after : List Named)
    → bytes_eq file.name name ≡ b → other ≢ name → file_at after other ≡ file_at files other
    → file_at (if b then record { name = name; bytes = bytes } ∷ files else file ∷ after) other ≡ file_at (file ∷ files) other
kept_by true name other bytes file files after test apart deeper =
    let own : file.name ≡ name = (bytes_eq-Decides file.name name).0 test in
    ap (λ t. if t then Some bytes else file_at files other) (differs name other apart)
    ∙ sym (ap (λ t. if t then Some file.bytes else file_at files other) (ap (λ n. bytes_eq n other) own ∙ differs name other apart))
kept_by false name other bytes file files after test apart deeper =
    ap (λ o. if bytes_eq file.name other then Some file.bytes else o) deeper

pub file_at-with_other : (files : List Named) (name other bytes : List ℕ) → other ≢ name → file_at (with_file files name bytes) other ≡ file_at files other
file_at-with_other [] name other bytes apart = ap (λ t. if t then Some bytes else None) (differs name other apart)
file_at-with_other (file ∷ files) name other bytes apart =
    kept_by (bytes_eq file.name name) name other bytes file files (with_file files name bytes) refl apart (file_at-with_other files name other bytes apart)

-- what a shelf in memory does is what a shelf may do
pub put_in_memory : (files after : List Named) (name bytes : List ℕ) → after ≡ with_file files name bytes → IsPut name bytes (file_at files) (file_at after)
put_in_memory files after name bytes e = record {
  here = ap (λ l. file_at l name) e ∙ file_at-with_file files name bytes;
  others = λ other apart. ap (λ l. file_at l other) e ∙ file_at-with_other files name other bytes apart;
}

pub torn_in_memory : (files after : List Named) (name bytes : List ℕ) (n : ℕ) → after ≡ with_file files name (take n bytes)
    → IsTorn name bytes (file_at files) (file_at after)
torn_in_memory files after name bytes n e = record {
  here = inr (n, ap (λ l. file_at l name) e ∙ file_at-with_file files name (take n bytes));
  others = λ other apart. ap (λ l. file_at l other) e ∙ file_at-with_other files name other (take n bytes) apart;
}
