-- The search for all that is reached.
use Rattle.std.proofs.Common.{◌≡◌, ◌<◌, ◌≤◌, ◌+◌, ◌-◌, ℕ, List, [], ◌∷◌, ◌++◌, length, ◌⊎◌, inl, inr, Some, ap, subst, take, sum_by, arith}
use Rattle.std.specs.List.{slice_get}
use Rattle.std.proofs.lemmas.Option.{slice_get_within}
use Rattle.ev_graph.specs.Places.{StandsIn, IsDistinct}
use Rattle.ev_graph.specs.Cycle.{Chain}
use Rattle.graph_reach.specs.Reach.{Reached, IsReachedSet, IsOver, HasPath, Leads}
use Rattle.graph_reach.specs.Reach.Reached.{start, step}
use Rattle.graph_reach.specs.Reach.HasPath.{here, along}
use Rattle.graph_reach.specs.Nodes.{Adds}
use Rattle.graph_reach.specs.Searching.{AreFollowed, IsSearching}
use Rattle.graph_reach.proofs.Places.{same_front, kept_back, from_front, front_past}
use Rattle.graph_reach.proofs.Weights.{sum_within, sum_front_more}

-- nodes that have the starts and each successor of theirs have all that is reached
pub has_reached : (successors : ℕ → List ℕ) (starts nodes : List ℕ) → ((a : ℕ) → StandsIn starts a → StandsIn nodes a) → AreFollowed successors nodes 0 (length nodes) → (a : ℕ) → Reached successors starts a → StandsIn nodes a
has_reached successors starts nodes started followed a (start at) = started a at
has_reached successors starts nodes started followed b (step {a = a} reached at) =
    let there = has_reached successors starts nodes started followed a reached in
    followed there.0 a b (omega arith) (slice_get_within nodes there.0 a there.1) there.1 at

-- the search begins with the starts
pub begins : (successors : ℕ → List ℕ) (weight : ℕ → ℕ) (starts : List ℕ) (limit : ℕ) (nodes : List ℕ) → Adds [] starts nodes → IsSearching successors weight starts limit nodes 0 limit
begins successors weight starts limit nodes adds = record {
  reached = λ a at. elim (adds.only a at) [
    | inl nowhere ↦ absurd (let nothing = nowhere.1 in cc)
    | inr is ↦ start is
  ];
  started = adds.there;
  followed = λ i a b le less. absurd (omega arith);
  within = omega arith;
  spent = grind arith;
}

pub begins_from : (successors : ℕ → List ℕ) (weight : ℕ → ℕ) (starts : List ℕ) (limit : ℕ) (empty nodes : List ℕ) → empty ≡ [] → Adds empty starts nodes
    → IsSearching successors weight starts limit nodes 0 limit
begins_from successors weight starts limit empty nodes none adds = begins successors weight starts limit nodes (subst (λ (old : List ℕ). Adds old starts nodes) none adds)

-- it goes on by the successors of the next node
pub goes_on : (successors : ℕ → List ℕ) (weight : ℕ → ℕ) (starts : List ℕ) (limit : ℕ) (nodes : List ℕ) (place left node w : ℕ) (now : List ℕ)
    → IsSearching successors weight starts limit nodes place left → slice_get nodes place ≡ Some node → w ≡ weight node → w ≤ left → Adds nodes (successors node) now
    → IsSearching successors weight starts limit now (place + 1) (left - w)
goes_on successors weight starts limit nodes place left node w now s at is enough adds =
    let within = slice_get_within nodes place node at in
    let there = adds.kept place node at in
    let within_now = slice_get_within now place node there in
    record {
      reached = λ a in_now. elim (adds.only a in_now) [
        | inl before ↦ s.reached a before
        | inr next ↦ step (s.reached node (place, at)) next
      ];
      started = λ a in_starts. let before = s.started a in_starts in (before.0, adds.kept before.0 a before.1);
      followed = λ i a b le less here_i leads.
          let cases : (i < place) ⊎ (i ≡ place) = grind arith in
          elim cases [
            | inl earlier ↦ let before = s.followed i a b le earlier (kept_back nodes now adds.kept i a (omega arith) here_i) leads in (before.0, adds.kept before.0 b before.1)
            | inr same ↦
                let moved : slice_get now i ≡ slice_get now place = ap (slice_get now) same in
                let one : a ≡ node = cc in
                adds.there b (subst (λ (x : ℕ). StandsIn (successors x) b) one leads)
          ];
      within = omega arith;
      spent = let before = s.spent in
          let more = sum_front_more weight now place node there in
          let front = same_front place nodes now adds.kept (omega arith) in
          let same : sum_by weight (take place now) ≡ sum_by weight (take place nodes) = ap (sum_by weight) front in
          omega arith;
    }

-- the next node weighs more than is left
pub is_over : (successors : ℕ → List ℕ) (weight : ℕ → ℕ) (starts : List ℕ) (limit : ℕ) (nodes : List ℕ) (place left node w : ℕ)
    → IsSearching successors weight starts limit nodes place left → IsDistinct nodes → slice_get nodes place ≡ Some node → w ≡ weight node → left < w → IsOver successors starts weight limit
is_over successors weight starts limit nodes place left node w s once at is little = record {
  some = take (place + 1) nodes;
  reached = λ a in_front. s.reached a (in_front.0, (from_front (place + 1) nodes in_front.0 a in_front.1).1);
  once = λ i j x first second. once i j x (from_front (place + 1) nodes i x first).1 (from_front (place + 1) nodes j x second).1;
  more = let before = s.spent in let sum = sum_front_more weight nodes place node at in omega arith;
}

-- no node is left
pub is_whole : (successors : ℕ → List ℕ) (weight : ℕ → ℕ) (starts : List ℕ) (limit : ℕ) (nodes : List ℕ) (place left : ℕ)
    → IsSearching successors weight starts limit nodes place left → IsDistinct nodes → length nodes ≤ place → IsReachedSet successors starts nodes
is_whole successors weight starts limit nodes place left s once end =
    record {
      only = s.reached;
      each = has_reached successors starts nodes s.started (λ i a b le less. s.followed i a b le (omega arith));
      once = once;
    }

pub all_within : (successors : ℕ → List ℕ) (weight : ℕ → ℕ) (starts : List ℕ) (limit : ℕ) (nodes : List ℕ) (place left : ℕ)
    → IsSearching successors weight starts limit nodes place left → length nodes ≤ place → sum_by weight nodes ≤ limit
all_within successors weight starts limit nodes place left s end =
    let all : sum_by weight (take place nodes) ≡ sum_by weight nodes = ap (sum_by weight) (front_past place nodes end) in
    let spent = s.spent in
    omega arith

-- all of what is reached is within the limit, so no part of it is over
pub over_excludes_within : (successors : ℕ → List ℕ) (starts : List ℕ) (weight : ℕ → ℕ) (limit : ℕ) (nodes : List ℕ) → IsReachedSet successors starts nodes → sum_by weight nodes ≤ limit
    → IsOver successors starts weight limit → ⊥
over_excludes_within successors starts weight limit nodes whole within over =
    let less = sum_within weight over.some nodes over.once (λ a at. whole.each a (over.reached a at)) in
    let more = over.more in
    omega arith

chain-push : (R : ℕ → ℕ → Type 0) (s : ℕ) (via : List ℕ) (a b : ℕ) → Chain R s via a → R a b → Chain R s (via ++ a ∷ []) b
chain-push R s [] a b led last = (led, last)
chain-push R s (v ∷ via) a b led last = (led.0, chain-push R v via a b led.1 last)

to_path : (successors : ℕ → List ℕ) (starts : List ℕ) (a : ℕ) → Reached successors starts a → HasPath successors starts a
to_path successors starts a (start at) = here at
to_path successors starts b (step {a = a} reached at) = longer (to_path successors starts a reached)
  where
    longer : HasPath successors starts a → HasPath successors starts b
    longer (here in_starts) = along a [] in_starts at
    longer (along s via in_starts led) = along s (via ++ a ∷ []) in_starts (chain-push (Leads successors) s via a b led at)

reached_along : (successors : ℕ → List ℕ) (starts : List ℕ) (a s : ℕ) (via : List ℕ) → Reached successors starts s → Chain (Leads successors) s via a → Reached successors starts a
reached_along successors starts a s [] reached led = step reached led
reached_along successors starts a s (v ∷ via) reached led = reached_along successors starts a v via (step reached led.0) led.1

from_path : (successors : ℕ → List ℕ) (starts : List ℕ) (a : ℕ) → HasPath successors starts a → Reached successors starts a
from_path successors starts a (here at) = start at
from_path successors starts a (along s via at led) = reached_along successors starts a s via (start at) led

pub by_path : (successors : ℕ → List ℕ) (starts : List ℕ) (a : ℕ) → (Reached successors starts a → HasPath successors starts a) × (HasPath successors starts a → Reached successors starts a)
by_path successors starts a = (to_path successors starts a, from_path successors starts a)
