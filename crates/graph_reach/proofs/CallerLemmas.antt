-- What a caller of this crate cites.
use Rattle.std.proofs.Common.{◌≡◌, ◌≤◌, ◌<◌, nat_eq, length, take, ℕ, zero, suc, List, [], ◌∷◌, inl, inr, Some, None, sum_by, ◌↔◌, ap, sym, subst}
use Rattle.std.specs.List.{slice_get}
use Rattle.ev_graph.specs.Places.{StandsIn, IsDistinct}
use Rattle.graph_reach.specs.Reach.{From, Reached, IsReachedSet, IsOver, HasPath, IsFirst}
use Rattle.graph_reach.specs.Reach.Reached.{start, step}
use Rattle.graph_reach.specs.Backwards.{IsTurned, IsClosed}
use Rattle.graph_reach.proofs.Searches as searches
use Rattle.graph_reach.proofs.TurnedEdges as turned
use Rattle.graph_reach.proofs.Weights as weights
use Rattle.graph_reach.proofs.Places as places
use Rattle.graph_reach.proofs.Members as members
use Rattle.std.specs.List.{IsDistinct as IsDistinctBy}
use Rattle.graph_reach.specs.Nodes.{Keeps}

-- what is reached has a finite way along edges from a start, and the other way
pub path : (successors : ℕ → List ℕ) (starts : List ℕ) (a : ℕ) → Reached successors starts a → HasPath successors starts a
path successors starts a = (searches.by_path successors starts a).0

pub from_path : (successors : ℕ → List ℕ) (starts : List ℕ) (a : ℕ) → HasPath successors starts a → Reached successors starts a
from_path successors starts a = (searches.by_path successors starts a).1

-- a property of the starts that edges keep holds of all that is reached
pub holds_of_reached : (successors : ℕ → List ℕ) (starts : List ℕ) (P : ℕ → Type 0) → ((a : ℕ) → StandsIn starts a → P a) → ((a b : ℕ) → P a → StandsIn (successors a) b → P b)
    → (a : ℕ) → Reached successors starts a → P a
holds_of_reached successors starts P first kept a (start at) = first a at
holds_of_reached successors starts P first kept b (step {a = a} reached at) = kept a b (holds_of_reached successors starts P first kept a reached) at

-- what is reached from nodes that are reached is reached
pub reached_on : (successors : ℕ → List ℕ) (starts middle : List ℕ) → ((a : ℕ) → StandsIn middle a → Reached successors starts a) → (a : ℕ) → Reached successors middle a → Reached successors starts a
reached_on successors starts middle among = holds_of_reached successors middle (Reached successors starts) among (λ a b reached at. step reached at)

-- all that is reached is not within a limit that it is over
pub over_excludes_within : (successors : ℕ → List ℕ) (starts : List ℕ) (weight : ℕ → ℕ) (limit : ℕ) (nodes : List ℕ) → IsReachedSet successors starts nodes → sum_by weight nodes ≤ limit
    → IsOver successors starts weight limit → ⊥
over_excludes_within = searches.over_excludes_within

-- the first of a list is one of it, and the property holds of it
pub first_is : (P : ℕ → Type 0) (ks : List ℕ) (k : ℕ) → IsFirst P ks (Some k) → StandsIn ks k × P k
first_is P [] k is = absurd (cc)
first_is P (x ∷ ks) k is = elim is [
  | inl here ↦ let same : k ≡ x = (let some = here.1 in cc) in ((zero, ap (λ (y : ℕ). Some y) (sym same)), subst P (sym same) here.0)
  | inr later ↦ let rest = first_is P ks k later.1 in ((suc rest.0.0, rest.0.1), rest.1)
]

-- where there is no first, the property holds of none
pub none_is : (P : ℕ → Type 0) (ks : List ℕ) → IsFirst P ks None → (k : ℕ) → StandsIn ks k → P k → ⊥
none_is P [] is k at holds = absurd (let nothing = at.1 in cc)
none_is P (x ∷ ks) is k at holds = elim is [
  | inl here ↦ absurd (let some = here.1 in cc)
  | inr later ↦ go later.0 (λ i there. none_is P ks later.1 k (i, there) holds) at.0 at.1
]
  where
    go : (P x → ⊥) → ((i : ℕ) → slice_get ks i ≡ Some k → ⊥) → (i : ℕ) → slice_get (x ∷ ks) i ≡ Some k → ⊥
    go first rest zero here = first (let same : k ≡ x = cc in subst P same holds)
    go first rest (suc i) here = rest i here

-- among nodes that edges do not leave, a is reached from s exactly where s is reached from a against the edges
pub reached_backwards : (successors back : ℕ → List ℕ) (nodes : List ℕ) → IsTurned successors nodes back → IsClosed successors nodes
    → (a s : ℕ) → StandsIn nodes s → From successors a s ↔ (StandsIn nodes a × From back s a)
reached_backwards = turned.reached_backwards

-- the nodes that a search found are such nodes
pub closed : (successors : ℕ → List ℕ) (starts nodes : List ℕ) → IsReachedSet successors starts nodes → IsClosed successors nodes
closed successors starts nodes whole a b in_a leads = whole.each b (step (whole.only a in_a) leads)

-- some nodes of a list, each once, weigh no more than the list
pub sum_within : (weight : ℕ → ℕ) (some nodes : List ℕ) → IsDistinct some → ((a : ℕ) → StandsIn some a → StandsIn nodes a) → sum_by weight some ≤ sum_by weight nodes
sum_within = weights.sum_within

-- where nodes have only come behind those that were there, an old place has what it had
pub kept_back : (nodes now : List ℕ) → Keeps nodes now → (i a : ℕ) → i < length nodes → slice_get now i ≡ Some a → slice_get nodes i ≡ Some a
kept_back = places.kept_back

-- and the front is the same
pub same_front : (n : ℕ) (nodes now : List ℕ) → Keeps nodes now → n ≤ length nodes → take n now ≡ take n nodes
same_front = places.same_front

-- numbers that are distinct by their test stand at one place each
pub distinct_places : (ks : List ℕ) → IsDistinctBy nat_eq ks → IsDistinct ks
distinct_places = members.distinct_places
