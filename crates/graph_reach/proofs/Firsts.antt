-- Spreading from the sources one after another, and the first source of each node.
use Rattle.std.proofs.Common.{◌≡◌, ◌≢◌, ◌<◌, ◌≤◌, ◌+◌, ◌-◌, ℕ, zero, suc, List, [], ◌∷◌, ◌++◌, length, Bool, true, false, ◌⊎◌, inl, inr, Option, Some, None, refl, sym, ap, ◌∙◌, subst, cond, nat_eq, take, replicate, get_or, arith, length-append}
use Rattle.std.specs.List.{slice_get, list_any, zip}
use Rattle.std.proofs.lemmas.Option.{slice_get_within, slice_get-get_or, get_or_from_slice_get}
use Rattle.std.proofs.lemmas.List.{length-replicate, take_more}
use Rattle.std.proofs.lemmas.Bool.Decides.{nat_tests}
use Rattle.ev_graph.specs.Places.{StandsIn, IsDistinct}
use Rattle.ev_graph.proofs.PlaceLemmas.{get-append}
use Rattle.graph_reach.specs.Reach.{Reached, From, IsFirst}
use Rattle.graph_reach.specs.Reach.Reached.{start, step}
use Rattle.graph_reach.specs.Nodes.{Adds, AddsOne}
use Rattle.graph_reach.specs.Sources.{source_of}
use Rattle.graph_reach.specs.Searching.{AreFollowed, Spreads, AreFirst}
use Rattle.graph_reach.proofs.Places.{kept_back, kept_longer, front_past, append_back, replicated}
use Rattle.graph_reach.proofs.Members.{stands_from_any, any_from_stands}
use Rattle.graph_reach.proofs.Searches.{has_reached}

-- nothing is spread yet
pub spread_none : (successors : ℕ → List ℕ) (old : List ℕ) (from : ℕ) → Spreads successors old from from old
spread_none successors old from = record {
  kept = λ i a here. here;
  reached = λ a at. start at;
  followed = λ i a b le less here leads. absurd (omega arith);
}

-- the successors of one node more
pub spread_more : (successors : ℕ → List ℕ) (old : List ℕ) (from place : ℕ) (mid : List ℕ) (node : ℕ) (now : List ℕ) → Spreads successors old from place mid → slice_get mid place ≡ Some node
    → Adds mid (successors node) now → Spreads successors old from (place + 1) now
spread_more successors old from place mid node now s at adds =
    let within = slice_get_within mid place node at in
    let there = adds.kept place node at in
    record {
      kept = λ i a here. adds.kept i a (s.kept i a here);
      reached = λ a in_now. elim (adds.only a in_now) [
        | inl before ↦ s.reached a before
        | inr next ↦ step (s.reached node (place, at)) next
      ];
      followed = λ i a b le less here_i leads.
          let cases : (i < place) ⊎ (i ≡ place) = grind arith in
          elim cases [
            | inl earlier ↦ let before = s.followed i a b le earlier (kept_back mid now adds.kept i a (omega arith) here_i) leads in (before.0, adds.kept before.0 b before.1)
            | inr same ↦
                let moved : slice_get now i ≡ slice_get now place = ap (slice_get now) same in
                let one : a ≡ node = cc in
                adds.there b (subst (λ (x : ℕ). StandsIn (successors x) b) one leads)
          ];
    }

-- no node is left
pub spread_all : (successors : ℕ → List ℕ) (old : List ℕ) (from place : ℕ) (now : List ℕ) → Spreads successors old from place now → length now ≤ place → Spreads successors old from (length now) now
spread_all successors old from place now s end = record {
  kept = s.kept;
  reached = s.reached;
  followed = λ i a b le less here leads. s.followed i a b le (omega arith) here leads;
}

-- the first of a list stays the first of a longer one
pub first_kept : (P : ℕ → Type 0) (ks ls : List ℕ) (k : ℕ) → IsFirst P ks (Some k) → IsFirst P (ks ++ ls) (Some k)
first_kept P [] ls k is = absurd (cc)
first_kept P (x ∷ ks) ls k is = elim is [
  | inl here ↦ inl here
  | inr later ↦ inr (later.0, first_kept P ks ls k later.1)
]

-- where none is there, the first of what comes behind is the first
pub first_next : (P : ℕ → Type 0) (ks ls : List ℕ) (found : Option ℕ) → IsFirst P ks None → IsFirst P ls found → IsFirst P (ks ++ ls) found
first_next P [] ls found none is = is
first_next P (x ∷ ks) ls found none is = elim none [
  | inl here ↦ absurd (let some = here.1 in cc)
  | inr later ↦ inr (later.0, first_next P ks ls found later.1 is)
]

-- what a set that leads to nothing more and one node lead to is in the set, or reached from the node
pub old_or_from : (successors : ℕ → List ℕ) (old : List ℕ) (s : ℕ) (begin : List ℕ) → AreFollowed successors old 0 (length old) → AddsOne old s begin
    → (a : ℕ) → Reached successors begin a → StandsIn old a ⊎ From successors a s
old_or_from successors old s begin followed one a (start at) = elim (one.only a at) [
  | inl before ↦ inl before
  | inr is ↦ inr (start (zero, ap (λ (x : ℕ). Some x) is))
]
old_or_from successors old s begin followed one b (step {a = a} reached leads) = elim (old_or_from successors old s begin followed one a reached) [
  | inl before ↦ inl (followed before.0 a b (omega arith) (slice_get_within old before.0 a before.1) before.1 leads)
  | inr from ↦ inr (step from leads)
]

only_source : (s a i : ℕ) → slice_get (s ∷ []) i ≡ Some a → s ≡ a
only_source s a zero here = cc
only_source s a (suc i) here = absurd (cc)

-- where the nodes are taken on, they lead to nothing more
followed_on : (successors : ℕ → List ℕ) (old begin now : List ℕ) → AreFollowed successors old 0 (length old) → ((i a : ℕ) → slice_get old i ≡ Some a → slice_get now i ≡ Some a)
    → Spreads successors begin (length old) (length now) now → AreFollowed successors now 0 (length now)
followed_on successors old begin now followed kept s i a b le less here leads =
    let cases : (i < length old) ⊎ (length old ≤ i) = grind arith in
    elim cases [
      | inl earlier ↦ let before = followed i a b le earlier (kept_back old now kept i a earlier here) leads in (before.0, kept before.0 b before.1)
      | inr later ↦ s.followed i a b later less here leads
    ]

-- no source yet
pub first_none : (successors : ℕ → List ℕ) → AreFirst successors [] [] []
first_none successors = record {
  long = refl;
  followed = λ i a b le less here leads. absurd (cc);
  named = λ i a s here there. absurd (cc);
  others = λ a absent. refl;
}

-- one source more
pub first_more : (successors : ℕ → List ℕ) (ks old first : List ℕ) (s : ℕ) (begin now first_now : List ℕ) → AreFirst successors ks old first → AddsOne old s begin
    → Spreads successors begin (length old) (length now) now → IsDistinct now → first_now ≡ first ++ replicate (length now - length first) s → AreFirst successors (ks ++ s ∷ []) now first_now
first_more successors ks old first s begin now first_now f one spread once resized =
    let long = f.long in
    let kept : (i a : ℕ) → slice_get old i ≡ Some a → slice_get now i ≡ Some a = λ i a here. spread.kept i a (one.kept i a here) in
    let longer = kept_longer old now kept in
    let followed = followed_on successors old begin now f.followed kept spread in
    record {
      long =
          let joined = ap length resized in
          let parts = length-append first (replicate (length now - length first) s) in
          let copies : length (replicate (length now - length first) s) ≡ length now - length first = length-replicate (length now - length first) s in
          omega arith;
      followed = followed;
      named = λ i a t here there.
          let cases : (i < length old) ⊎ (length old ≤ i) = grind arith in
          let there_joined : slice_get (first ++ replicate (length now - length first) s) i ≡ Some t = ap (λ (xs : List ℕ). slice_get xs i) (sym resized) ∙ there in
          elim cases [
            | inl earlier ↦ first_kept (From successors a) ks (s ∷ []) t
                (f.named i a t (kept_back old now kept i a earlier here) (kept_back first (first ++ replicate (length now - length first) s) (get-append first (replicate (length now - length first) s)) i t (omega arith) there_joined))
            | inr later ↦
                let absent : StandsIn old a → ⊥ = λ at. (let same = once i at.0 a here (kept at.0 a at.1) in let within = slice_get_within old at.0 a at.1 in omega arith) in
                let copy = replicated (length now - length first) s t (append_back first (replicate (length now - length first) s) i t (omega arith) there_joined) in
                first_next (From successors a) ks (s ∷ []) (Some t) (f.others a absent)
                (elim (old_or_from successors old s begin f.followed one a (spread.reached a (i, here))) [
                  | inl before ↦ absurd (absent before)
                  | inr from ↦ inl (from, ap (λ (x : ℕ). Some x) copy)
                ])
          ];
      others = λ a absent.
          let absent_old : StandsIn old a → ⊥ = λ at. absent (at.0, kept at.0 a at.1) in
          first_next (From successors a) ks (s ∷ []) None (f.others a absent_old)
          (inr ((λ from. absent (has_reached successors (s ∷ []) now (λ x at. (let is = only_source s x at.0 at.1 in let there = one.there in subst (StandsIn now) is (there.0, spread.kept there.0 s there.1))) followed a from)), refl));
    }

-- the same, of a list of sources up to a place, and of copies put behind
pub first_step : (successors : ℕ → List ℕ) (sources : List ℕ) (k : ℕ) (old first : List ℕ) (s m : ℕ) (begin now first_now : List ℕ) → AreFirst successors (take k sources) old first
    → slice_get sources k ≡ Some s → AddsOne old s begin → Spreads successors begin (length old) (length now) now → IsDistinct now → m ≡ length first
    → first_now ≡ take (length now) first ++ replicate (length now - m) s → AreFirst successors (take (k + 1) sources) now first_now
first_step successors sources k old first s m begin now first_now f at one spread once size resized =
    let long = f.long in
    let kept : (i a : ℕ) → slice_get old i ≡ Some a → slice_get now i ≡ Some a = λ i a here. spread.kept i a (one.kept i a here) in
    let longer = kept_longer old now kept in
    let front = front_past (length now) first (omega arith) in
    let joined : first_now ≡ first ++ replicate (length now - length first) s
    = resized ∙ ap (λ (xs : List ℕ). xs ++ replicate (length now - m) s) front ∙ ap (λ (i : ℕ). first ++ replicate (length now - i) s) size in
    let within = slice_get_within sources k s at in
    let more = take_more sources k s within in
    let read = get_or_from_slice_get sources k s s at in
    let longer_front : take (k + 1) sources ≡ take k sources ++ s ∷ [] = more ∙ ap (λ (x : ℕ). take k sources ++ x ∷ []) read in
    subst (λ (ks : List ℕ). AreFirst successors ks now first_now) (sym longer_front) (first_more successors (take k sources) old first s begin now first_now f one spread once joined)

if_same : (a n : ℕ) (x y : Option ℕ) → a ≡ n → cond (nat_eq a n) x y ≡ x
if_same a n x y same = let e : nat_eq a n ≡ true = grind (arith, nat_tests) in ap (λ (b : Bool). cond b x y) e

if_other : (a n : ℕ) (x y : Option ℕ) → a ≢ n → cond (nat_eq a n) x y ≡ y
if_other a n x y differ = let e : nat_eq a n ≡ false = grind (arith, nat_tests) in ap (λ (b : Bool). cond b x y) e

-- the source beside a node, and none beside what is not there
pub source_at : (nodes first : List ℕ) (i a s : ℕ) → slice_get nodes i ≡ Some a → slice_get first i ≡ Some s → ((j : ℕ) → j < i → slice_get nodes j ≡ Some a → ⊥) → source_of (zip nodes first) a ≡ Some s
source_at [] first i a s here there earliest = absurd (cc)
source_at (n ∷ nodes) [] i a s here there earliest = absurd (cc)
source_at (n ∷ nodes) (t ∷ first) zero a s here there earliest =
    let same : a ≡ n = cc in
    if_same a n (Some t) (source_of (zip nodes first) a) same ∙ there
source_at (n ∷ nodes) (t ∷ first) (suc i) a s here there earliest =
    let differ : a ≢ n = λ same. earliest zero (omega arith) (ap (λ (x : ℕ). Some x) (sym same)) in
    if_other a n (Some t) (source_of (zip nodes first) a) differ ∙ source_at nodes first i a s here there (λ j less at. earliest (suc j) (omega arith) at)

pub no_source : (nodes first : List ℕ) (a : ℕ) → (StandsIn nodes a → ⊥) → source_of (zip nodes first) a ≡ None
no_source [] first a absent = refl
no_source (n ∷ nodes) [] a absent = refl
no_source (n ∷ nodes) (t ∷ first) a absent =
    let differ : a ≢ n = λ same. absent (zero, ap (λ (x : ℕ). Some x) (sym same)) in
    if_other a n (Some t) (source_of (zip nodes first) a) differ ∙ no_source nodes first a (λ at. absent (suc at.0, at.1))

-- the look-up gives the first source of each node
pub looks_up : (successors : ℕ → List ℕ) (sources nodes first : List ℕ) → AreFirst successors sources nodes first → IsDistinct nodes → (a : ℕ) → IsFirst (From successors a) sources (source_of (zip nodes first) a)
looks_up successors sources nodes first f once a = by (list_any (nat_eq a) nodes) refl
  where
    by : (found : Bool) → list_any (nat_eq a) nodes ≡ found → IsFirst (From successors a) sources (source_of (zip nodes first) a)
    by true found =
        let at = stands_from_any nodes a found in
        let long = f.long in
        let within = slice_get_within nodes at.0 a at.1 in
        let s = get_or first at.0 0 in
        let beside = slice_get-get_or first at.0 0 (omega arith) in
        let looked = source_at nodes first at.0 a s at.1 beside (λ j less here. let same = once j at.0 a here at.1 in omega arith) in
        subst (λ (r : Option ℕ). IsFirst (From successors a) sources r) (sym looked) (f.named at.0 a s at.1 beside)
    by false absent =
        let looked = no_source nodes first a (λ at. let found = any_from_stands nodes a at in absurd (cc)) in
        subst (λ (r : Option ℕ). IsFirst (From successors a) sources r) (sym looked) (f.others a (λ at. let found = any_from_stands nodes a at in absurd (cc)))

-- the same where all sources are done
pub looks_up_all : (successors : ℕ → List ℕ) (sources : List ℕ) (k : ℕ) (nodes first : List ℕ) → AreFirst successors (take k sources) nodes first → IsDistinct nodes → length sources ≤ k
    → (a : ℕ) → IsFirst (From successors a) sources (source_of (zip nodes first) a)
looks_up_all successors sources k nodes first f once all =
    looks_up successors sources nodes first (subst (λ (ks : List ℕ). AreFirst successors ks nodes first) (front_past k sources all) f) once
