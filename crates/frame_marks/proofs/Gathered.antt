-- Lists that are gathered from each element of a list.
use Rattle.std.proofs.Common.{◌≡◌, ◌↔◌, ◌<◌, ◌+◌, ◌++◌, ℕ, zero, suc, List, [], ◌∷◌, map, take, length, get_or, inl, inr, Some, refl, sym, ap, subst, ◌∙◌}
use Rattle.std.specs.List.{flat_map, slice_get}
use Rattle.std.proofs.lemmas.List.{take_more, map-append}
use Rattle.ev_graph.specs.Places.{StandsIn}
use Rattle.ev_graph.proofs.Members.{stands_front, stands_back, stands_cases}
use Rattle.graph_reach.specs.Nodes.{AddsOne}
use Rattle.x64_syntax.specs.declared.placed.Placed.{Placed}
use Rattle.frame_marks.specs.Lists.{address_of}
use Rattle.frame_marks.proofs.Plain.{some_same, only}

-- what stands in a gathered list comes from an element
pub gathered_from : {A B : Type 0} (f : A → List B) (xs : List A) (y : B) → StandsIn (flat_map f xs) y →
    (x : A) × StandsIn xs x × StandsIn (f x) y
gathered_from f [] y at = absurd (let none = at.1 in cc)
gathered_from f (x ∷ xs) y at = elim (stands_cases (f x) (flat_map f xs) y at) [
  | inl here ↦ (x, (zero, refl), here)
  | inr later ↦ (let rest = gathered_from f xs y later in (rest.0, (suc rest.1.0, rest.1.1), rest.2))
]

-- and what comes from one stands there
pub gathered : {A B : Type 0} (f : A → List B) (xs : List A) (x : A) (y : B) → StandsIn xs x → StandsIn (f x) y → StandsIn (flat_map f xs) y
gathered f xs x y at from = go f xs x y at.0 at.1 from
  where
    go : {A B : Type 0} (f : A → List B) (xs : List A) (x : A) (y : B) (i : ℕ) → slice_get xs i ≡ Some x → StandsIn (f x) y → StandsIn
        (flat_map f xs) y
    go f [] x y i at from = absurd (cc)
    go f (z ∷ xs) x y zero at from = stands_front (f z) (flat_map f xs) y (subst (λ u. StandsIn (f u) y) (sym (some_same at)) from)
    go f (z ∷ xs) x y (suc i) at from = stands_back (f z) (flat_map f xs) y (go f xs x y i at from)

-- the addresses of one instruction more
pub node_more : (placed : List Placed) (i : ℕ) (d : Placed) (old now : List ℕ) → i < length placed
    → ((a : ℕ) → StandsIn old a ↔ StandsIn (map address_of (take i placed)) a) → AddsOne old (address_of (get_or placed i d)) now
    → (a : ℕ) → StandsIn now a ↔ StandsIn (map address_of (take (i + 1) placed)) a
node_more placed i d old now within before adds a =
    let p = get_or placed i d in
    let front = map address_of (take i placed) in
    let more : map address_of (take (i + 1) placed) ≡ front ++ address_of p ∷ [] =
    ap (map address_of) (take_more placed i d within) ∙ map-append address_of (take i placed) (p ∷ []) in (
      (λ at. subst (λ xs. StandsIn xs a) (sym more) (elim (adds.only a at) [
        | inl there ↦ stands_front front (p.address ∷ []) a ((before a).0 there)
        | inr here ↦ stands_back front (p.address ∷ []) a (zero, ap (λ (x : ℕ). Some x) here)
      ])),
      (λ at. elim (stands_cases front (p.address ∷ []) a (subst (λ xs. StandsIn xs a) more at)) [
        | inl there ↦ (let place = (before a).1 there in (place.0, adds.kept place.0 a place.1))
        | inr here ↦ subst (λ x. StandsIn now x) (only p.address a here.0 here.1) adds.there
      ]),
    )
