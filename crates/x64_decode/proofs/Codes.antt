-- A code against bytes of which some may be missing.
use Rattle.std.proofs.Common.{◌≡◌, ℕ, ◌≤◌, Bool, true, false, ◌&&◌, ◌==◌, if◌then◌else◌, List, [], ◌∷◌, ◌++◌, length, drop, refl, sym, ap₂, arith, eq-eqb}
use Rattle.std.proofs.lemmas.Bool.{and_parts, eqb-true}
use Rattle.x64_decode.specs.declared.row.Code.{Code}
use Rattle.x64_decode.specs.declared.row.Code.TheVariants.{One, Two, Three, Four}
use Rattle.x64_decode.specs.Reading.{agrees}
use Rattle.x64_decode.specs.Spelling.{code_bytes}

-- the bytes agree with these as far as both go
abbrev pub along : List ℕ → List ℕ → Bool
along [] bytes = true
along (x ∷ xs) [] = true
along (x ∷ xs) (b ∷ bs) = (b == x) && along xs bs

and-true : (b : Bool) → (b && true) ≡ b
and-true true = refl
and-true false = refl

same : (a : ℕ) → (a == a) ≡ true
same a = eq-eqb a a refl

pub agrees-along : (c : Code) (bytes : List ℕ) → agrees c bytes ≡ along (code_bytes c) bytes
agrees-along (One a) [] = rw (same a) refl
agrees-along (One a) (x ∷ xs) = refl
agrees-along (Two a b) [] = rw (same a, same b) refl
agrees-along (Two a b) (x ∷ []) = rw (same b) refl
agrees-along (Two a b) (x ∷ y ∷ xs) = rw (and-true (y == b)) refl
agrees-along (Three a b c) [] = rw (same a, same b, same c) refl
agrees-along (Three a b c) (x ∷ []) = rw (same b, same c) refl
agrees-along (Three a b c) (x ∷ y ∷ []) = rw (same c) refl
agrees-along (Three a b c) (x ∷ y ∷ z ∷ xs) = rw (and-true (z == c)) refl
agrees-along (Four a b c d) [] = rw (same a, same b, same c, same d) refl
agrees-along (Four a b c d) (x ∷ []) = rw (same b, same c, same d) refl
agrees-along (Four a b c d) (x ∷ y ∷ []) = rw (same c, same d) refl
agrees-along (Four a b c d) (x ∷ y ∷ z ∷ []) = rw (same d) refl
agrees-along (Four a b c d) (x ∷ y ∷ z ∷ w ∷ xs) = rw (and-true (w == d)) refl

-- bytes that agree and are long enough begin with these
pub along-long : (xs bytes : List ℕ) → along xs bytes ≡ true → length xs ≤ length bytes → bytes ≡ xs ++ drop (length xs) bytes
along-long [] bytes h k = refl
along-long (x ∷ xs) [] h k = absurd (omega arith)
along-long (x ∷ xs) (b ∷ bs) h k =
    let parts = and_parts (b == x) (along xs bs) h in
    ap₂ (λ y ys. y ∷ ys) (eqb-true b x parts.0) (along-long xs bs parts.1 (omega arith))

-- and those that are short begin these
pub along-short : (xs bytes : List ℕ) → along xs bytes ≡ true → length bytes ≤ length xs → xs ≡ bytes ++ drop (length bytes) xs
along-short xs [] h k = refl
along-short [] (b ∷ bs) h k = absurd (omega arith)
along-short (x ∷ xs) (b ∷ bs) h k =
    let parts = and_parts (b == x) (along xs bs) h in
    ap₂ (λ y ys. y ∷ ys) (sym (eqb-true b x parts.0)) (along-short xs bs parts.1 (omega arith))

-- the front of what begins with these agrees
pub along-from : (xs bytes t rest : List ℕ) → bytes ++ t ≡ xs ++ rest → along xs bytes ≡ true
along-from [] bytes t rest e = refl
along-from (x ∷ xs) [] t rest e = refl
along-from (x ∷ xs) (b ∷ bs) t rest e =
    let first : b ≡ x = cc in
    let others : bs ++ t ≡ xs ++ rest = cc in
    rw (eq-eqb b x first, along-from xs bs t rest others) refl

-- what follows these in the whole goes on from what follows them in the front
pub follows : (xs bytes t rest : List ℕ) → bytes ++ t ≡ xs ++ rest → (u : List ℕ) × (rest ≡ drop (length xs) bytes ++ u)
follows [] bytes t rest e = (t, sym e)
follows (x ∷ xs) [] t rest e = (rest, refl)
follows (x ∷ xs) (b ∷ bs) t rest e = let others : bs ++ t ≡ xs ++ rest = cc in follows xs bs t rest others

-- two codes differ at a place that both have
abbrev pub clash : List ℕ → List ℕ → Bool
clash [] ys = false
clash (x ∷ xs) [] = false
clash (x ∷ xs) (y ∷ ys) = if x == y then clash xs ys else true

-- then nothing begins with both
pub clash-apart : (xs ys a b : List ℕ) → clash xs ys ≡ true → xs ++ a ≡ ys ++ b → ⊥
clash-apart [] ys a b h e = absurd (cc)
clash-apart (x ∷ xs) [] a b h e = absurd (cc)
clash-apart (x ∷ xs) (y ∷ ys) a b h e =
    let first : x ≡ y = cc in
    let others : xs ++ a ≡ ys ++ b = cc in
    let h' : clash xs ys ≡ true = rw (eq-eqb x y first) at h in
    clash-apart xs ys a b h' others
