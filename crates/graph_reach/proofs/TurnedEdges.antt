-- Turning edges round, and searching against them.
use Rattle.std.proofs.Common.{◌≡◌, ◌≢◌, ◌<◌, ◌≤◌, ◌+◌, ℕ, zero, suc, List, [], ◌∷◌, ◌++◌, length, Bool, true, false, ◌⊎◌, inl, inr, Option, Some, None, ◌↔◌, refl, sym, ap, ◌∙◌, subst, cond, nat_eq, take, Vec, unwrap_or, arith, length-append}
use Rattle.std.proofs.Math.ListN.{set, length-set}
use Rattle.std.specs.List.{slice_get, list_any, zip}
use Rattle.std.proofs.lemmas.Option.{slice_get_within, slice_get-map}
use Rattle.std.proofs.lemmas.List.{map-append, map-set}
use Rattle.std.proofs.lemmas.Bool.Decides.{nat_tests}
use Rattle.ev_graph.specs.Places.{StandsIn, IsDistinct}
use Rattle.ev_graph.proofs.PlaceLemmas.{get-append, get-push, push_cases}
use Rattle.graph_reach.specs.Reach.{Reached, From}
use Rattle.graph_reach.specs.Reach.Reached.{start, step}
use Rattle.graph_reach.specs.Rows.{row_of}
use Rattle.std.specs.Option.{option_map}
use Rattle.graph_reach.specs.Backwards.{IsTurned, IsClosed, lists_of, row_beside}
use Rattle.graph_reach.specs.Turning.{AreEmpty, AddsAt, AddsInto, TurnedUpTo}
use Rattle.graph_reach.proofs.Places.{front_more, from_front, in_front, front_past}
use Rattle.graph_reach.proofs.Members.{stands_from_any, any_from_stands}

get-set_same : {A : Type 0} (xs : List A) (i : ℕ) (y : A) → i < length xs → slice_get (set xs i y) i ≡ Some y
get-set_same [] i y lt = absurd (omega arith)
get-set_same (x ∷ xs) zero y lt = refl
get-set_same (x ∷ xs) (suc i) y lt = get-set_same xs i y (omega arith)

get-set_other : {A : Type 0} (xs : List A) (i j : ℕ) (y : A) → j ≢ i → slice_get (set xs i y) j ≡ slice_get xs j
get-set_other [] i j y ne = refl
get-set_other (x ∷ xs) zero zero y ne = absurd (ne refl)
get-set_other (x ∷ xs) zero (suc j) y ne = refl
get-set_other (x ∷ xs) (suc i) zero y ne = refl
get-set_other (x ∷ xs) (suc i) (suc j) y ne = get-set_other xs i j y (λ e. ne (ap (λ k. suc k) e))

row_at : (rows : List (List ℕ)) (p : ℕ) (row : List ℕ) → slice_get rows p ≡ Some row → row_of rows p ≡ row
row_at rows p row here = ap (λ (r : Option (List ℕ)). unwrap_or r []) here

-- a node put behind the list at a place
pub adds_at : (old : List (List ℕ)) (place node : ℕ) (row : List ℕ) → slice_get old place ≡ Some row → AddsAt old place node (set old place (row ++ node ∷ []))
adds_at old place node row here =
    let now = set old place (row ++ node ∷ []) in
    let within = slice_get_within old place row here in
    let old_row = row_at old place row here in
    let new_row : row_of now place ≡ row ++ node ∷ [] = row_at now place (row ++ node ∷ []) (get-set_same old place (row ++ node ∷ []) within) in
    let other : (p : ℕ) → p ≢ place → row_of now p ≡ row_of old p = λ p differ. ap (λ (r : Option (List ℕ)). unwrap_or r []) (get-set_other old place p (row ++ node ∷ []) differ) in
    record {
      long = length-set old place (row ++ node ∷ []);
      there = subst (λ (xs : List ℕ). StandsIn xs node) (sym new_row) (length row, get-push row node);
      kept = λ p a at.
          let cases : (p ≡ place) ⊎ (p ≢ place) = grind arith in
          elim cases [
            | inl same ↦
                let in_row : StandsIn row a = subst (λ (xs : List ℕ). StandsIn xs a) old_row (subst (λ (q : ℕ). StandsIn (row_of old q) a) same at) in
                let in_new : StandsIn (row_of now place) a = subst (λ (xs : List ℕ). StandsIn xs a) (sym new_row) (in_row.0, get-append row (node ∷ []) in_row.0 a in_row.1) in
                subst (λ (q : ℕ). StandsIn (row_of now q) a) (sym same) in_new
            | inr differ ↦ subst (λ (xs : List ℕ). StandsIn xs a) (sym (other p differ)) at
          ];
      only = λ p a at.
          let cases : (p ≡ place) ⊎ (p ≢ place) = grind arith in
          elim cases [
            | inl same ↦
                let in_new : StandsIn (row ++ node ∷ []) a = subst (λ (xs : List ℕ). StandsIn xs a) new_row (subst (λ (q : ℕ). StandsIn (row_of now q) a) same at) in
                elim (push_cases row node in_new.0 a in_new.1) [
                  | inl before ↦ inl (subst (λ (q : ℕ). StandsIn (row_of old q) a) (sym same) (subst (λ (xs : List ℕ). StandsIn xs a) (sym old_row) (in_new.0, before)))
                  | inr last ↦ inr (sym same, last.1)
                ]
            | inr differ ↦ inl (subst (λ (xs : List ℕ). StandsIn xs a) (other p differ) at)
          ];
    }

pub into_none : (nodes : List ℕ) (node : ℕ) (old : List (List ℕ)) → AddsInto nodes node [] old old
into_none nodes node old = record {
  long = refl;
  there = λ p b here at. absurd (let nothing = at.1 in cc);
  kept = λ p a at. at;
  only = λ p a at. inl at;
}

-- a successor that is among the nodes
pub into_more : (nodes : List ℕ) (node : ℕ) (successors : List ℕ) (j b place : ℕ) (old mid now : List (List ℕ)) → IsDistinct nodes → AddsInto nodes node (take j successors) old mid
    → slice_get successors j ≡ Some b → slice_get nodes place ≡ Some b → AddsAt mid place node now → AddsInto nodes node (take (j + 1) successors) old now
into_more nodes node successors j b place old mid now once before next found adds = record {
  long = adds.long ∙ before.long;
  there = λ p c here at. elim (front_more successors j b c next at) [
    | inl earlier ↦ adds.kept p node (before.there p c here earlier)
    | inr last ↦ let same = once p place b (here ∙ ap (λ (x : ℕ). Some x) (sym last)) found in subst (λ (q : ℕ). StandsIn (row_of now q) node) (sym same) adds.there
  ];
  kept = λ p a at. adds.kept p a (before.kept p a at);
  only = λ p a at. elim (adds.only p a at) [
    | inl earlier ↦ elim (before.only p a earlier) [
      | inl old_one ↦ inl old_one
      | inr new_one ↦ inr (new_one.0, (new_one.1.0, new_one.1.1, in_longer new_one.1.0 new_one.1.2))
    ]
    | inr here ↦ inr (here.1, (b, subst (λ (q : ℕ). slice_get nodes q ≡ Some b) here.0 found, (j, in_front (j + 1) successors j b (omega arith) next)))
  ];
}
  where
    in_longer : (c : ℕ) → StandsIn (take j successors) c → StandsIn (take (j + 1) successors) c
    in_longer c at = let front = from_front j successors at.0 c at.1 in let less = front.0 in (at.0, in_front (j + 1) successors at.0 c (omega arith) front.1)

-- a successor that is none of the nodes
pub into_other : (nodes : List ℕ) (node : ℕ) (successors : List ℕ) (j b : ℕ) (old mid : List (List ℕ)) → AddsInto nodes node (take j successors) old mid
    → slice_get successors j ≡ Some b → (StandsIn nodes b → ⊥) → AddsInto nodes node (take (j + 1) successors) old mid
into_other nodes node successors j b old mid before next absent = record {
  long = before.long;
  there = λ p c here at. elim (front_more successors j b c next at) [
    | inl earlier ↦ before.there p c here earlier
    | inr last ↦ absurd (absent (p, here ∙ ap (λ (x : ℕ). Some x) (sym last)))
  ];
  kept = before.kept;
  only = λ p a at. elim (before.only p a at) [
    | inl old_one ↦ inl old_one
    | inr new_one ↦ inr (new_one.0, (new_one.1.0, new_one.1.1, in_longer new_one.1.0 new_one.1.2))
  ];
}
  where
    in_longer : (c : ℕ) → StandsIn (take j successors) c → StandsIn (take (j + 1) successors) c
    in_longer c at = let front = from_front j successors at.0 c at.1 in let less = front.0 in (at.0, in_front (j + 1) successors at.0 c (omega arith) front.1)

pub into_all : (nodes : List ℕ) (node : ℕ) (successors : List ℕ) (j : ℕ) (old now : List (List ℕ)) → AddsInto nodes node (take j successors) old now → length successors ≤ j → AddsInto nodes node successors old now
into_all nodes node successors j old now adds end = subst (λ (xs : List ℕ). AddsInto nodes node xs old now) (front_past j successors end) adds

pub empty_none : AreEmpty 0 []
empty_none = record { long = refl; nothing = λ p a at. (let none = at.1 in cc) }

pub empty_more : (count : ℕ) (lists : List (List ℕ)) → AreEmpty count lists → AreEmpty (count + 1) (lists ++ [] ∷ [])
empty_more count lists are = record {
  long = let sum = length-append lists ([] ∷ []) in let long = are.long in omega arith;
  nothing = λ p a at. by p a (slice_get (lists ++ [] ∷ []) p) refl at;
}
  where
    by : (p a : ℕ) (found : Option (List ℕ)) → slice_get (lists ++ [] ∷ []) p ≡ found → StandsIn (row_of (lists ++ [] ∷ []) p) a → ⊥
    by p a None is at =
        let row : row_of (lists ++ [] ∷ []) p ≡ [] = ap (λ (r : Option (List ℕ)). unwrap_or r []) is in
        let nowhere : StandsIn [] a = subst (λ (xs : List ℕ). StandsIn xs a) row at in
        let none = nowhere.1 in
        absurd (cc)
    by p a (Some found) is at = elim (push_cases lists [] p found is) [
      | inl before ↦
          let row = row_at (lists ++ [] ∷ []) p found is in
          let old_row = row_at lists p found before in
          are.nothing p a (subst (λ (xs : List ℕ). StandsIn xs a) (row ∙ sym old_row) at)
      | inr last ↦
          let row = row_at (lists ++ [] ∷ []) p found is in
          let nowhere : StandsIn [] a = subst (λ (xs : List ℕ). StandsIn xs a) (row ∙ sym last.1) at in
          let none = nowhere.1 in
          absurd (cc)
    ]

-- nothing is turned yet
pub turned_none : (successors : ℕ → List ℕ) (nodes : List ℕ) (lists : List (List ℕ)) → AreEmpty (length nodes) lists → TurnedUpTo successors nodes 0 lists
turned_none successors nodes lists empty = record {
  long = empty.long;
  only = λ p a at. absurd (empty.nothing p a at);
  each = λ p b i a here less. absurd (omega arith);
}

-- the edges from one node more
pub turned_more : (successors : ℕ → List ℕ) (nodes : List ℕ) (place node : ℕ) (lists now : List (List ℕ)) → TurnedUpTo successors nodes place lists → slice_get nodes place ≡ Some node
    → AddsInto nodes node (successors node) lists now → TurnedUpTo successors nodes (place + 1) now
turned_more successors nodes place node lists now so_far here adds = record {
  long = adds.long ∙ so_far.long;
  only = λ p a at. elim (adds.only p a at) [
    | inl before ↦ so_far.only p a before
    | inr new_one ↦ (subst (StandsIn nodes) new_one.0 (place, here), (new_one.1.0, new_one.1.1, subst (λ (x : ℕ). StandsIn (successors x) new_one.1.0) new_one.0 new_one.1.2))
  ];
  each = λ p b i a there less at leads.
      let cases : (i < place) ⊎ (i ≡ place) = grind arith in
      elim cases [
        | inl earlier ↦ adds.kept p a (so_far.each p b i a there earlier at leads)
        | inr same ↦
            let moved : slice_get nodes i ≡ slice_get nodes place = ap (slice_get nodes) same in
            let one : node ≡ a = cc in
            subst (StandsIn (row_of now p)) one (adds.there p b there (subst (λ (x : ℕ). StandsIn (successors x) b) (sym one) leads))
      ];
}

if_same : (a n : ℕ) (x y : List ℕ) → a ≡ n → cond (nat_eq a n) x y ≡ x
if_same a n x y same = let e : nat_eq a n ≡ true = grind (arith, nat_tests) in ap (λ (b : Bool). cond b x y) e

if_other : (a n : ℕ) (x y : List ℕ) → a ≢ n → cond (nat_eq a n) x y ≡ y
if_other a n x y differ = let e : nat_eq a n ≡ false = grind (arith, nat_tests) in ap (λ (b : Bool). cond b x y) e

-- the list beside a node, and none beside what is not there
pub beside_at : (nodes : List ℕ) (lists : List (List ℕ)) (p b : ℕ) → length lists ≡ length nodes → slice_get nodes p ≡ Some b → ((q : ℕ) → q < p → slice_get nodes q ≡ Some b → ⊥)
    → row_beside (zip nodes lists) b ≡ row_of lists p
beside_at [] lists p b long here earliest = absurd (cc)
beside_at (n ∷ nodes) [] p b long here earliest = absurd (omega arith)
beside_at (n ∷ nodes) (row ∷ lists) zero b long here earliest =
    let same : b ≡ n = cc in
    if_same b n row (row_beside (zip nodes lists) b) same
beside_at (n ∷ nodes) (row ∷ lists) (suc p) b long here earliest =
    let differ : b ≢ n = λ same. earliest zero (omega arith) (ap (λ (x : ℕ). Some x) (sym same)) in
    if_other b n row (row_beside (zip nodes lists) b) differ ∙ beside_at nodes lists p b (omega arith) here (λ q less at. earliest (suc q) (omega arith) at)

pub beside_none : (nodes : List ℕ) (lists : List (List ℕ)) (b : ℕ) → (StandsIn nodes b → ⊥) → row_beside (zip nodes lists) b ≡ []
beside_none [] lists b absent = refl
beside_none (n ∷ nodes) [] b absent = refl
beside_none (n ∷ nodes) (row ∷ lists) b absent =
    let differ : b ≢ n = λ same. absent (zero, ap (λ (x : ℕ). Some x) (sym same)) in
    if_other b n row (row_beside (zip nodes lists) b) differ ∙ beside_none nodes lists b (λ at. absent (suc at.0, at.1))

-- where a list beside a node has something, the node is there, and it is the list at its place
stands_beside : (nodes : List ℕ) (lists : List (List ℕ)) → length lists ≡ length nodes → IsDistinct nodes → (a b : ℕ) → StandsIn (row_beside (zip nodes lists) b) a
    → (p : ℕ) × (slice_get nodes p ≡ Some b) × StandsIn (row_of lists p) a
stands_beside nodes lists long once a b at = by (list_any (nat_eq b) nodes) refl
  where
    by : (found : Bool) → list_any (nat_eq b) nodes ≡ found → (p : ℕ) × (slice_get nodes p ≡ Some b) × StandsIn (row_of lists p) a
    by true found =
        let there = stands_from_any nodes b found in
        let is = beside_at nodes lists there.0 b long there.1 (λ q less here. let same = once q there.0 b here there.1 in omega arith) in
        (there.0, there.1, subst (λ (xs : List ℕ). StandsIn xs a) is at)
    by false absent =
        let is = beside_none nodes lists b (λ there. let found = any_from_stands nodes b there in absurd (cc)) in
        let nowhere : StandsIn [] a = subst (λ (xs : List ℕ). StandsIn xs a) is at in
        absurd (let nothing = nowhere.1 in cc)

-- all edges are turned round
pub turned_all : (successors : ℕ → List ℕ) (nodes : List ℕ) (place : ℕ) (lists : List (List ℕ)) → TurnedUpTo successors nodes place lists → length nodes ≤ place → IsDistinct nodes
    → IsTurned successors nodes (row_beside (zip nodes lists))
turned_all successors nodes place lists done end once = record {
  from = λ a b at. let found = stands_beside nodes lists done.long once a b at in (done.only found.0 a found.2).0;
  to = λ a b at. let found = stands_beside nodes lists done.long once a b at in (found.0, found.1);
  only = λ a b at.
      let found = stands_beside nodes lists done.long once a b at in
      let edge = (done.only found.0 a found.2).1 in
      let here = found.1 in
      let there = edge.1 in
      let same : edge.0 ≡ b = cc in
      subst (StandsIn (successors a)) same edge.2;
  each = λ a b in_a in_b leads.
      let is = beside_at nodes lists in_b.0 b done.long in_b.1 (λ q less here. let same = once q in_b.0 b here in_b.1 in omega arith) in
      let row = done.each in_b.0 b in_a.0 a in_b.1 (let within = slice_get_within nodes in_a.0 a in_a.1 in omega arith) in_a.1 leads in
      subst (λ (xs : List ℕ). StandsIn xs a) (sym is) row;
}

only_one : (s a i : ℕ) → slice_get (s ∷ []) i ≡ Some a → s ≡ a
only_one s a zero here = cc
only_one s a (suc i) here = absurd (cc)

-- what is reached from a successor of a node is reached from the node
from_before : (successors : ℕ → List ℕ) (b a : ℕ) → StandsIn (successors b) a → (x : ℕ) → Reached successors (a ∷ []) x → Reached successors (b ∷ []) x
from_before successors b a leads x (start at) =
    let is = only_one a x at.0 at.1 in
    subst (Reached successors (b ∷ [])) is (step (start (zero, refl)) leads)
from_before successors b a leads x (step {a = y} reached at) = step (from_before successors b a leads y reached) at

-- a way along edges from a node of the set, turned round
against : (successors back : ℕ → List ℕ) (nodes : List ℕ) → IsTurned successors nodes back → IsClosed successors nodes → (s : ℕ) → StandsIn nodes s
    → (a : ℕ) → From successors a s → StandsIn nodes a × From back s a
against successors back nodes turned closed s in_s a (start at) =
    let is = only_one s a at.0 at.1 in
    (subst (StandsIn nodes) is in_s, start (zero, ap (λ (x : ℕ). Some x) (sym is)))
against successors back nodes turned closed s in_s b (step {a = a} reached leads) =
    let before = against successors back nodes turned closed s in_s a reached in
    let in_b = closed a b before.0 leads in
    (in_b, from_before back b a (turned.each a b before.0 in_b leads) s before.1)

-- a way against edges is one along them, turned round
along : (successors back : ℕ → List ℕ) (nodes : List ℕ) → IsTurned successors nodes back → (a s : ℕ) → From back s a → From successors a s
along successors back nodes turned a s (start at) = let is = only_one a s at.0 at.1 in start (zero, ap (λ (x : ℕ). Some x) (sym is))
along successors back nodes turned a s (step {a = b} reached at) =
    from_before successors s b (turned.only s b at) a (along successors back nodes turned a b reached)

pub reached_backwards : (successors back : ℕ → List ℕ) (nodes : List ℕ) → IsTurned successors nodes back → IsClosed successors nodes
    → (a s : ℕ) → StandsIn nodes s → From successors a s ↔ (StandsIn nodes a × From back s a)
reached_backwards successors back nodes turned closed a s in_s =
    (against successors back nodes turned closed s in_s a, (λ both. along successors back nodes turned a s both.1))

-- the lists after one more empty vector
pub lists_pushed : {Z : Type 0} (vecs : List (Vec ℕ Z)) (new : Vec ℕ Z) (count : ℕ) (now : List (Vec ℕ Z)) → AreEmpty count (lists_of vecs) → new.items ≡ [] → now ≡ vecs ++ new ∷ []
    → AreEmpty (count + 1) (lists_of now)
lists_pushed {Z} vecs new count now are empty is =
    let joined = map-append (λ (vec : Vec ℕ Z). vec.items) vecs (new ∷ []) in
    let last : lists_of vecs ++ new.items ∷ [] ≡ lists_of vecs ++ [] ∷ [] = ap (λ (row : List ℕ). lists_of vecs ++ row ∷ []) empty in
    let whole : lists_of now ≡ lists_of vecs ++ [] ∷ [] = ap (λ (xs : List (Vec ℕ Z)). lists_of xs) is ∙ joined ∙ last in
    subst (AreEmpty (count + 1)) (sym whole) (empty_more count (lists_of vecs) are)

-- the lists after a push to the vector at a place
pub lists_put : {Z : Type 0} (vecs : List (Vec ℕ Z)) (place node : ℕ) (old new : Vec ℕ Z) → slice_get vecs place ≡ Some old → new.items ≡ old.items ++ node ∷ []
    → AddsAt (lists_of vecs) place node (lists_of (set vecs place new))
lists_put {Z} vecs place node old new here pushed =
    let listed : slice_get (lists_of vecs) place ≡ Some old.items = slice_get-map (λ (vec : Vec ℕ Z). vec.items) vecs place ∙ ap (λ (r : Option (Vec ℕ Z)). option_map (λ (vec : Vec ℕ Z). vec.items) r) here in
    let written = map-set (λ (vec : Vec ℕ Z). vec.items) vecs place new in
    let whole : lists_of (set vecs place new) ≡ set (lists_of vecs) place (old.items ++ node ∷ []) = written ∙ ap (λ (row : List ℕ). set (lists_of vecs) place row) pushed in
    subst (AddsAt (lists_of vecs) place node) (sym whole) (adds_at (lists_of vecs) place node old.items listed)

-- as many lists as vectors
pub length-lists_of : {Z : Type 0} (vecs : List (Vec ℕ Z)) → length (lists_of vecs) ≡ length vecs
length-lists_of [] = refl
length-lists_of (vec ∷ vecs) = let rest = length-lists_of vecs in omega arith

-- the list of a vector
pub row_of_lists : {Z : Type 0} (vecs : List (Vec ℕ Z)) (place : ℕ) (vec : Vec ℕ Z) → slice_get vecs place ≡ Some vec → row_of (lists_of vecs) place ≡ vec.items
row_of_lists {Z} vecs place vec here =
    row_at (lists_of vecs) place vec.items (slice_get-map (λ (v : Vec ℕ Z). v.items) vecs place ∙ ap (λ (r : Option (Vec ℕ Z)). option_map (λ (v : Vec ℕ Z). v.items) r) here)

-- nothing put behind a list
pub append_empty : (xs ys : List ℕ) → ys ≡ [] → xs ≡ xs ++ ys
append_empty [] ys empty = sym empty
append_empty (x ∷ xs) ys empty = ap (λ (zs : List ℕ). x ∷ zs) (append_empty xs ys empty)
