-- What stands before an opcode is what the code finds there.
use Rattle.std.proofs.Common.{◌≡◌, ℕ, ◌+◌, true, false, ◌==◌, List, [], ◌∷◌, ◌++◌, length, drop, Option, Some, None, IfSome, inl, inr, refl, sym, ◌∙◌, ap, subst, append-nil, drop-drop}
use Rattle.std.specs.List.{AllByRecursion}
use Rattle.std.proofs.Math.Seq.{drop-append_seam}
use Rattle.std.proofs.lemmas.Bool.{cases_Bool, ne_eqb}
use Rattle.x64_decode.specs.Bytes.{IsPrefix, IsRex, is_prefix, is_rex}
use Rattle.x64_decode.specs.Fronts.{front_of, rex_bytes}
use Rattle.x64_decode.specs.Reading.{front_at, prefixes_at, rex_at}

-- these bytes are none, or begin with neither a prefix nor REX
abbrev pub IsBody : List ℕ → Type 0
IsBody [] = Unit {0}
IsBody (b ∷ bs) = (is_prefix b ≡ false) × (is_rex b ≡ false)

-- REX is no prefix
other : (b p : ℕ) → (is_rex b ≡ true) → is_rex p ≡ false → (b == p) ≡ false
other b p holds differs = ne_eqb b p (λ e. let P : ℕ → Type 0 = λ x. is_rex x ≡ true in let same : is_rex p ≡ true = subst P e holds in absurd (cc))

not_rex : (is_rex 0x66 ≡ false) × (is_rex 0xF0 ≡ false) × (is_rex 0x2E ≡ false) × (is_rex 0x36 ≡ false) × (is_rex 0x3E ≡ false) × (is_rex 0x26 ≡ false)
unfolding is_rex
not_rex = (refl, refl, refl, refl, refl, refl)

pub rex_is_no_prefix : (b : ℕ) → is_rex b ≡ true → is_prefix b ≡ false
unfolding is_prefix
rex_is_no_prefix b holds =
    rw (other b 0x66 holds not_rex.0, other b 0xF0 holds not_rex.1, other b 0x2E holds not_rex.2, other b 0x36 holds not_rex.3, other b 0x3E holds not_rex.4, other b 0x26 holds not_rex.5) refl

-- prefixes go on with what the rest has
prefixes_at-append : (p rest : List ℕ) → AllByRecursion IsPrefix p → prefixes_at (p ++ rest) ≡ p ++ prefixes_at rest
prefixes_at-append [] rest h = refl
prefixes_at-append (b ∷ bs) rest h = rw h.0 (ap (λ x. b ∷ x) (prefixes_at-append bs rest h.1))

prefixes_at-body : (rex : Option ℕ) (body : List ℕ) → IfSome rex IsRex → IsBody body → prefixes_at (rex_bytes rex ++ body) ≡ []
prefixes_at-body None [] r o = refl
prefixes_at-body None (b ∷ bs) r o = rw o.0 refl
prefixes_at-body (Some b) body r o = rw (rex_is_no_prefix b r) refl

rex_at-body : (rex : Option ℕ) (body : List ℕ) → IfSome rex IsRex → IsBody body → rex_at (rex_bytes rex ++ body) ≡ rex
rex_at-body None [] r o = refl
rex_at-body None (b ∷ bs) r o = rw o.1 refl
rex_at-body (Some b) body r o = rw r refl

-- the prefixes and REX of a spelling are those that are found
pub prefixes_at-is : (p : List ℕ) (rex : Option ℕ) (body : List ℕ) → AllByRecursion IsPrefix p → IfSome rex IsRex → IsBody body →
    prefixes_at (p ++ (rex_bytes rex ++ body)) ≡ p
prefixes_at-is p rex body h r o =
    prefixes_at-append p (rex_bytes rex ++ body) h ∙ (ap (λ x. p ++ x) (prefixes_at-body rex body r o) ∙ append-nil p)

pub rex_at-is : (p : List ℕ) (rex : Option ℕ) (body : List ℕ) → AllByRecursion IsPrefix p → IfSome rex IsRex → IsBody body →
    rex_at (drop (length p) (p ++ (rex_bytes rex ++ body))) ≡ rex
rex_at-is p rex body h r o = rw (drop-append_seam p (rex_bytes rex ++ body)) (rex_at-body rex body r o)

pub front_at-is : (p : List ℕ) (rex : Option ℕ) (body : List ℕ) → AllByRecursion IsPrefix p → IfSome rex IsRex → IsBody body →
    front_at (p ++ (rex_bytes rex ++ body)) ≡ front_of p rex
unfolding front_at
front_at-is p rex body h r o =
    rw (prefixes_at-is p rex body h r o, rex_at-is p rex body h r o) refl

pub front_of-length : (p : List ℕ) (rex : Option ℕ) → (front_of p rex).length ≡ length p + length (rex_bytes rex)
unfolding front_of
front_of-length p rex = refl

-- what is found stands there
prefixes_at-stands : (c : List ℕ) → (AllByRecursion IsPrefix (prefixes_at c)) × (c ≡ prefixes_at c ++ drop (length (prefixes_at c)) c)
prefixes_at-stands [] = (tt, refl)
prefixes_at-stands (b ∷ bs) =
    let more = prefixes_at-stands bs in
    elim (cases_Bool (is_prefix b)) [
      | inl holds ↦ rw holds ((holds, more.0), ap (λ x. b ∷ x) more.1)
      | inr differs ↦ rw differs (tt, refl)
    ]

rex_at-stands : (c : List ℕ) → IfSome (rex_at c) IsRex × (c ≡ rex_bytes (rex_at c) ++ drop (length (rex_bytes (rex_at c))) c)
rex_at-stands [] = (tt, refl)
rex_at-stands (b ∷ bs) =
    elim (cases_Bool (is_rex b)) [
      | inl holds ↦ rw holds (holds, refl)
      | inr differs ↦ rw differs (tt, refl)
    ]

-- prefixes, and REX or none, that stand before what is left
pub record StandsBefore (c : List ℕ) : Type 0 where
  pub prefixes : List ℕ
  pub rex : Option ℕ
  pub are_prefixes : AllByRecursion IsPrefix prefixes
  pub is_rex : IfSome rex IsRex
  pub front : front_at c ≡ front_of prefixes rex
  pub parts : c ≡ prefixes ++ (rex_bytes rex ++ drop (front_at c).length c)

pub stands_before : (c : List ℕ) → StandsBefore c
unfolding front_at
stands_before c =
    let p = prefixes_at c in
    let after = drop (length p) c in
    let rex = rex_at after in
    let first = prefixes_at-stands c in
    let second = rex_at-stands after in
    let count : (front_of p rex).length ≡ length p + length (rex_bytes rex) = front_of-length p rex in
    let split : drop (length p + length (rex_bytes rex)) c ≡ drop (length (rex_bytes rex)) after = sym (drop-drop (length (rex_bytes rex)) (length p) c) in
    let same : drop (front_of p rex).length c ≡ drop (length (rex_bytes rex)) after = ap (λ n. drop n c) count ∙ split in
    record {
      prefixes = p;
      rex = rex;
      are_prefixes = first.0;
      is_rex = second.0;
      front = refl;
      parts = first.1 ∙ ap (λ x. p ++ x) (second.1 ∙ ap (λ x. rex_bytes rex ++ x) (sym same));
    }
