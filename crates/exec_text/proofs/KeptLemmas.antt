-- Lists that are read part by part, and kept while they are within their limits.
use Rattle.std.proofs.Common.{◌≡◌, ℕ, suc, length, Bool, true, false, List, [], ◌∷◌, ◌++◌, refl, sym, ap, subst, ◌∙◌, append_assoc, append-nil}
use Rattle.std.specs.List.{AllZip}

-- what the parts so far say, if it is within the limits; else that it is not
abbrev pub Kept : {A : Type 0} → (List ℕ → A → Type 0) → (List A → Type 0) → List (List ℕ) → Bool → List A → Type 0
Kept R Small parts false found = AllZip R parts found × Small found
Kept {A} R Small parts true found = (all : List A) × AllZip R parts all × (Small all → ⊥)

-- the limits hold of each front of what they hold of
abbrev pub HoldsOfFronts : {A : Type 0} → (List A → Type 0) → Type 0
HoldsOfFronts {A} Small = (xs : List A) (x : A) → Small (xs ++ x ∷ []) → Small xs

-- what is kept of the parts before the rest
pub record KeptBefore {A : Type 0} (R : List ℕ → A → Type 0) (Small : List A → Type 0) (parts rest : List (List ℕ)) (wide : Bool) (found : List A) : Type 0 where
  pub front : List (List ℕ)
  pub is : front ++ rest ≡ parts
  pub kept : Kept R Small front wide found

zip-push : {A B : Type 0} (R : A → B → Type 0) (xs : List A) (ys : List B) (x : A) (y : B) → AllZip R xs ys → R x y → AllZip R (xs ++ x ∷ []) (ys ++ y ∷ [])
zip-push R [] [] x y all one = (one, tt)
zip-push R [] (z ∷ zs) x y all one = absurd all
zip-push R (w ∷ ws) [] x y all one = absurd all
zip-push R (w ∷ ws) (z ∷ zs) x y all one = (all.0, zip-push R ws zs x y all.1 one)

pub zip-length : {A B : Type 0} (R : A → B → Type 0) (xs : List A) (ys : List B) → AllZip R xs ys → length ys ≡ length xs
zip-length R [] [] all = refl
zip-length R [] (z ∷ zs) all = absurd all
zip-length R (w ∷ ws) [] all = absurd all
zip-length R (w ∷ ws) (z ∷ zs) all = ap (λ n. suc n) (zip-length R ws zs all.1)

kept-more : {A : Type 0} (R : List ℕ → A → Type 0) (Small : List A → Type 0) → HoldsOfFronts Small → (front : List (List ℕ)) (part : List ℕ) (x : A) (wide : Bool) (found : List A)
    → R part x → (Small found → Small (found ++ x ∷ [])) → Kept R Small front wide found → Kept R Small (front ++ part ∷ []) wide (found ++ x ∷ [])
kept-more R Small fronts front part x false found says grows kept = (zip-push R front found part x kept.0 says, grows kept.1)
kept-more R Small fronts front part x true found says grows kept =
    (kept.0 ++ x ∷ [], zip-push R front kept.0 part x kept.1 says, λ small. kept.2 (fronts kept.0 x small))

kept-wide : {A : Type 0} (R : List ℕ → A → Type 0) (Small : List A → Type 0) → HoldsOfFronts Small → (front : List (List ℕ)) (part : List ℕ) (x : A) (wide : Bool) (found others : List A)
    → R part x → (Small (found ++ x ∷ []) → ⊥) → Kept R Small front wide found → Kept R Small (front ++ part ∷ []) true others
kept-wide R Small fronts front part x false found others says wide kept = (found ++ x ∷ [], zip-push R front found part x kept.0 says, wide)
kept-wide R Small fronts front part x true found others says wide kept =
    (kept.0 ++ x ∷ [], zip-push R front kept.0 part x kept.1 says, λ small. kept.2 (fronts kept.0 x small))

module _ {A : Type 0} (R : List ℕ → A → Type 0) (Small : List A → Type 0) where
  -- nothing is read
  pub kept_none : (parts : List (List ℕ)) → Small [] → KeptBefore R Small parts parts false []
  kept_none parts small = record { front = []; is = refl; kept = (tt, small) }

  -- the next part is within the limits
  pub kept_more : HoldsOfFronts Small → (parts rest others : List (List ℕ)) (part : List ℕ) (x : A) (wide : Bool) (found : List A)
      → rest ≡ part ∷ others → R part x → (Small found → Small (found ++ x ∷ [])) → KeptBefore R Small parts rest wide found → KeptBefore R Small parts others wide (found ++ x ∷ [])
  kept_more fronts parts rest others part x wide found next says grows before = record {
    front = before.front ++ part ∷ [];
    is = append_assoc before.front (part ∷ []) others ∙ ap (λ r. before.front ++ r) (sym next) ∙ before.is;
    kept = kept-more R Small fronts before.front part x wide found says grows before.kept;
  }

  -- the next part is beyond them
  pub kept_wide : HoldsOfFronts Small → (parts rest others : List (List ℕ)) (part : List ℕ) (x : A) (wide : Bool) (found kept : List A)
      → rest ≡ part ∷ others → R part x → (Small (found ++ x ∷ []) → ⊥) → KeptBefore R Small parts rest wide found → KeptBefore R Small parts others true kept
  kept_wide fronts parts rest others part x wide found kept next says beyond before = record {
    front = before.front ++ part ∷ [];
    is = append_assoc before.front (part ∷ []) others ∙ ap (λ r. before.front ++ r) (sym next) ∙ before.is;
    kept = kept-wide R Small fronts before.front part x wide found kept says beyond before.kept;
  }

  -- no part is left
  pub kept_all : (parts rest : List (List ℕ)) (wide : Bool) (found : List A) → rest ≡ [] → KeptBefore R Small parts rest wide found → Kept R Small parts wide found
  kept_all parts rest wide found none before =
      let Here : List (List ℕ) → Type 0 = λ front. Kept R Small front wide found in
      subst Here (sym (append-nil before.front) ∙ ap (λ r. before.front ++ r) (sym none) ∙ before.is) before.kept

  nothing-said : (front others : List (List ℕ)) (part : List ℕ) → ((x : A) → R part x → ⊥) → (all : List A) → AllZip R (front ++ part ∷ others) all → ⊥
  nothing-said [] others part none [] says = says
  nothing-said [] others part none (x ∷ xs) says = none x says.0
  nothing-said (p ∷ ps) others part none [] says = says
  nothing-said (p ∷ ps) others part none (x ∷ xs) says = nothing-said ps others part none xs says.1

  -- one part that says nothing
  pub says_nothing : (parts rest others : List (List ℕ)) (part : List ℕ) (wide : Bool) (found : List A) → rest ≡ part ∷ others → KeptBefore R Small parts rest wide found
      → ((x : A) → R part x → ⊥) → (all : List A) → AllZip R parts all → ⊥
  says_nothing parts rest others part wide found next before none all says =
      let Said : List (List ℕ) → Type 0 = λ read. AllZip R read all in
      nothing-said before.front others part none all (subst Said (sym before.is ∙ ap (λ r. before.front ++ r) next) says)
