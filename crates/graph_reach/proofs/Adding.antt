-- Adding nodes, one or several.
use Rattle.std.proofs.Common.{◌≡◌, ◌≤◌, ◌+◌, ℕ, List, [], ◌∷◌, ◌++◌, length, Bool, true, false, inl, inr, Some, refl, sym, ap, ◌∙◌, subst, cond, nat_eq, take, arith}
use Rattle.std.specs.List.{slice_get, list_any}
use Rattle.ev_graph.specs.Places.{StandsIn}
use Rattle.ev_graph.proofs.PlaceLemmas.{get-append, get-push, push_cases}
use Rattle.graph_reach.specs.Nodes.{AddsOne, Adds}
use Rattle.graph_reach.proofs.Places.{front_more, from_front, in_front, front_past}
use Rattle.graph_reach.proofs.Members.{stands_from_any}

adds_absent : (old : List ℕ) (k : ℕ) → AddsOne old k (old ++ k ∷ [])
adds_absent old k = record {
  kept = get-append old (k ∷ []);
  there = (length old, get-push old k);
  only = λ a at. elim (push_cases old k at.0 a at.1) [
    | inl before ↦ inl (at.0, before)
    | inr last ↦ inr last.1
  ];
}

adds_present : (old : List ℕ) (k : ℕ) → StandsIn old k → AddsOne old k old
adds_present old k there = record { kept = λ i a here. here; there = there; only = λ a at. inl at }

-- what an insertion in the set does
pub adds_one : (old : List ℕ) (k : ℕ) (now : List ℕ) → now ≡ cond (list_any (nat_eq k) old) old (old ++ k ∷ []) → AddsOne old k now
adds_one old k now is = by (list_any (nat_eq k) old) refl is
  where
    by : (found : Bool) → list_any (nat_eq k) old ≡ found → now ≡ cond found old (old ++ k ∷ []) → AddsOne old k now
    by true there same = subst (AddsOne old k) (sym same) (adds_present old k (stands_from_any old k there))
    by false absent same = subst (AddsOne old k) (sym same) (adds_absent old k)

pub adds_none : (old : List ℕ) → Adds old [] old
adds_none old = record { kept = λ i a here. here; there = λ a at. absurd (let nothing = at.1 in cc); only = λ a at. inl at }

-- one of the list more
pub adds_more : (old more : List ℕ) (i k : ℕ) (mid now : List ℕ) → slice_get more i ≡ Some k → Adds old (take i more) mid → AddsOne mid k now → Adds old (take (i + 1) more) now
adds_more old more i k mid now here before one = record {
  kept = λ j a at. one.kept j a (before.kept j a at);
  there = λ a at. elim (front_more more i k a here at) [
    | inl earlier ↦ let found = before.there a earlier in (found.0, one.kept found.0 a found.1)
    | inr last ↦ subst (StandsIn now) last one.there
  ];
  only = λ a at. elim (one.only a at) [
    | inl earlier ↦ elim (before.only a earlier) [
      | inl old_one ↦ inl old_one
      | inr new_one ↦ let at_front = from_front i more new_one.0 a new_one.1 in let less = at_front.0 in inr (new_one.0, in_front (i + 1) more new_one.0 a (omega arith) at_front.1)
    ]
    | inr last ↦ inr (i, in_front (i + 1) more i a (omega arith) (here ∙ ap (λ (x : ℕ). Some x) last))
  ];
}

-- all of the list
pub adds_all : (old more now : List ℕ) (i : ℕ) → Adds old (take i more) now → length more ≤ i → Adds old more now
adds_all old more now i adds end = subst (λ (xs : List ℕ). Adds old xs now) (front_past i more end) adds
