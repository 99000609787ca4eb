-- What the ends of the walk show: an order where all is done, a cycle where an edge comes from the stack.
use Rattle.std.proofs.Common.{◌≡◌, ◌<◌, ◌≤◌, ◌+◌, ◌-◌, ℕ, zero, suc, List, [], ◌∷◌, length, drop, reverse, Option, Some, None, refl, sym, ap, subst, ◌∙◌, arith, get_or, length-drop}
use Rattle.std.specs.List.{slice_get}
use Rattle.std.proofs.lemmas.List.{length-reverse, get_or-reverse}
use Rattle.std.specs.Option.{MatchOption}
use Rattle.std.proofs.lemmas.Option.{slice_get_within, slice_get-get_or, get_or_from_slice_get, MatchOption-at_some}
use Rattle.ev_graph.specs.Places.{StandsIn, IsDistinct, Earlier}
use Rattle.ev_graph.specs.Cycle.{Chain}
use Rattle.ev_graph.proofs.PlaceLemmas.{get-drop}
use Rattle.topo.specs.declared.edge.Edge.{Edge}
use Rattle.topo.specs.declared.walk.Mark.{Mark}
use Rattle.topo.specs.declared.walk.Mark.TheVariants.{New, Open, Done}
use Rattle.topo.specs.declared.walk.Walk.{Walk}
use Rattle.topo.specs.Order.{Leads, IsOrder, IsCycle, IsAcyclic, HasCycle}
use Rattle.topo.specs.Walk.{AreWalkable, IsWalk, Holds, LeadsToTop, IsPartFrom, Closes}

-- in an order, what leads on by edges stands earlier
pub earlier_along : (n : ℕ) (edges : List Edge) (order : List ℕ) → IsOrder n edges order → (a : ℕ) (via : List ℕ) (b : ℕ) → Chain (Leads edges) a via b → Earlier order a b
earlier_along n edges order is a [] b led = is.forward a b led
earlier_along n edges order is a (v ∷ via) b led =
    let one = is.forward a v led.0 in
    let rest = earlier_along n edges order is v via b led.1 in
    let same = is.once one.j rest.i v one.second rest.first in
    record { i = one.i; j = rest.j; order = (let first = one.order in let second = rest.order in omega arith); first = one.first; second = rest.second }

pub order_excludes_cycle : (n : ℕ) (edges : List Edge) (order : List ℕ) → IsOrder n edges order → IsAcyclic edges
order_excludes_cycle n edges order is v via round =
    let before = earlier_along n edges order is v via v round in
    let same = is.once before.i before.j v before.first before.second in
    let less = before.order in
    absurd (omega arith)

-- a list whose elements lead on, and whose last leads to c, is a chain to c
to_chain : (R : ℕ → ℕ → Type 0) (c last v : ℕ) (via : List ℕ) → ((i a b : ℕ) → slice_get (v ∷ via) i ≡ Some a → slice_get (v ∷ via) (suc i) ≡ Some b → R a b)
    → slice_get (v ∷ via) (length via) ≡ Some last → R last c → Chain R v via c
to_chain R c last v [] leads end closing = let same : last ≡ v = cc in subst (λ (x : ℕ). R x c) same closing
to_chain R c last v (u ∷ via) leads end closing = (leads zero v u refl refl, to_chain R c last u via (λ i a b here next. leads (suc i) a b here next) end closing)

-- distinct elements that lead on, the last to the first, are a cycle
cycle_of : (edges : List Edge) (xs : List ℕ) (last first : ℕ) → ((i a b : ℕ) → slice_get xs i ≡ Some a → slice_get xs (suc i) ≡ Some b → Leads edges a b) → IsDistinct xs
    → slice_get xs zero ≡ Some first → slice_get xs (length xs - 1) ≡ Some last → Leads edges last first → IsCycle edges xs
cycle_of edges [] last first leads once begins ends closing = absurd (cc)
cycle_of edges (v ∷ via) last first leads once begins ends closing =
    let at_end : length (v ∷ via) - 1 ≡ length via = omega arith in
    let moved : slice_get (v ∷ via) (length (v ∷ via) - 1) ≡ slice_get (v ∷ via) (length via) = ap (slice_get (v ∷ via)) at_end in
    let same : first ≡ v = cc in
    let end : slice_get (v ∷ via) (length via) ≡ Some last = cc in
    (to_chain (Leads edges) v last v via leads end (subst (λ (x : ℕ). Leads edges last x) same closing), once)

get-reverse : (xs : List ℕ) (i a : ℕ) → slice_get (reverse xs) i ≡ Some a → (i < length xs) × (slice_get xs (length xs - 1 - i) ≡ Some a)
get-reverse xs i a here =
    let within = slice_get_within (reverse xs) i a here in
    let long = length-reverse xs in
    let inside : i < length xs = omega arith in
    let read = get_or_from_slice_get (reverse xs) i a a here in
    let turned = get_or-reverse xs i a inside in
    let at = slice_get-get_or xs (length xs - 1 - i) a (omega arith) in
    (inside, (cc))

reverse-get : (xs : List ℕ) (i a : ℕ) → i < length xs → slice_get xs (length xs - 1 - i) ≡ Some a → slice_get (reverse xs) i ≡ Some a
reverse-get xs i a inside here =
    let long = length-reverse xs in
    let read = get_or_from_slice_get xs (length xs - 1 - i) a a here in
    let turned = get_or-reverse xs i a inside in
    let at = slice_get-get_or (reverse xs) i a (omega arith) in
    cc

-- element i of the stack from the top down to a place
from_top : (stack : List ℕ) (place i a : ℕ) → slice_get (reverse (drop place stack)) i ≡ Some a → (i + place < length stack) × (slice_get stack (length stack - 1 - i) ≡ Some a)
from_top stack place i a here =
    let found = get-reverse (drop place stack) i a here in
    let long = length-drop place stack in
    let moved = get-drop stack place (length (drop place stack) - 1 - i) in
    let inside = found.0 in
    let same : place + (length (drop place stack) - 1 - i) ≡ length stack - 1 - i = omega arith in
    let there = found.1 in
    let at : slice_get stack (place + (length (drop place stack) - 1 - i)) ≡ slice_get stack (length stack - 1 - i) = ap (slice_get stack) same in
    (omega arith, (cc))

to_top : (stack : List ℕ) (place i a : ℕ) → i + place < length stack → slice_get stack (length stack - 1 - i) ≡ Some a → slice_get (reverse (drop place stack)) i ≡ Some a
to_top stack place i a inside here =
    let long = length-drop place stack in
    let moved = get-drop stack place (length (drop place stack) - 1 - i) in
    let same : place + (length (drop place stack) - 1 - i) ≡ length stack - 1 - i = omega arith in
    let at : slice_get stack (place + (length (drop place stack) - 1 - i)) ≡ slice_get stack (length stack - 1 - i) = ap (slice_get stack) same in
    reverse-get (drop place stack) i a (omega arith) (cc)

-- an edge to the top of the stack from a number of the stack closes a cycle
pub closes_cycle : (n : ℕ) (edges : List Edge) (cursors : List ℕ) (marks : List Mark) (stack done : List ℕ) (from : ℕ) (part : List ℕ) → IsWalk n edges cursors marks stack done
    → LeadsToTop edges from stack → IsPartFrom stack from part → IsCycle edges part
closes_cycle n edges cursors marks stack done from part w leads is =
    let within = slice_get_within stack is.place from is.here in
    let long = length-drop is.place stack in
    let turned = length-reverse (drop is.place stack) in
    let xs = reverse (drop is.place stack) in
    let top = get_or stack (length stack - 1) 0 in
    let at_top = slice_get-get_or stack (length stack - 1) 0 (omega arith) in
    let closing : Leads edges from top = leads top (record { below = length stack - 1; here = at_top; last = omega arith }) in
    let zero_less : length stack - 1 - 0 ≡ length stack - 1 = omega arith in
    let at_top_too : slice_get stack (length stack - 1 - 0) ≡ slice_get stack (length stack - 1) = ap (slice_get stack) zero_less in
    let last_place : length stack - 1 - (length xs - 1) ≡ is.place = omega arith in
    let at_last : slice_get stack (length stack - 1 - (length xs - 1)) ≡ slice_get stack is.place = ap (slice_get stack) last_place in
    let here = is.here in
    let cycle : IsCycle edges xs = cycle_of edges xs from top
    (λ i a b first second.
    let one = from_top stack is.place i a first in
    let two = from_top stack is.place (suc i) b second in
    let inside = two.0 in
    let next : length stack - 1 - i ≡ suc (length stack - 1 - suc i) = omega arith in
    let moved : slice_get stack (length stack - 1 - i) ≡ slice_get stack (suc (length stack - 1 - suc i)) = ap (slice_get stack) next in
    w.piled (length stack - 1 - suc i) b a two.1 (sym moved ∙ one.1))
    (λ i j x first second.
    let one = from_top stack is.place i x first in
    let two = from_top stack is.place j x second in
    let same = w.open_once (length stack - 1 - i) (length stack - 1 - j) x one.1 two.1 in
    let inside = one.0 in
    let inside_too = two.0 in
    omega arith)
    (to_top stack is.place zero top (omega arith) (cc))
    (to_top stack is.place (length xs - 1) from (omega arith) (cc))
    closing in
    subst (λ (ys : List ℕ). IsCycle edges ys) (sym is.downwards) cycle

-- where no number is new and none is open, the list of those that are done is an order
pub done_is_order : (n : ℕ) (edges : List Edge) (cursors : List ℕ) (marks : List Mark) (stack done : List ℕ) → IsWalk n edges cursors marks stack done → stack ≡ []
    → ((j : ℕ) (e : Edge) → slice_get edges j ≡ Some e → (e.from < n) × (e.to < n)) → ((v : ℕ) → v < n → slice_get marks v ≡ Some New → ⊥) → IsOrder n edges done
done_is_order n edges cursors marks stack done w idle ends visited =
    let each : (v : ℕ) → v < n → StandsIn done v = λ v less. listed v less (get_or marks v New) (slice_get-get_or marks v New (let long = w.mark_each in omega arith)) in
    record {
      below = λ i v here. let within = slice_get_within marks v Done (w.done_marked i v here) in let long = w.mark_each in omega arith;
      each = each;
      once = w.done_once;
      forward = λ a b led. w.forward led.0 (record { from = a; to = b }) led.1 (each b (ends led.0 (record { from = a; to = b }) led.1).1);
    }
  where
    listed : (v : ℕ) → v < n → (m : Mark) → slice_get marks v ≡ Some m → StandsIn done v
    listed v less New here = absurd (visited v less here)
    listed v less Open here = let open_at = w.open_listed v here in let nothing : slice_get stack open_at.0 ≡ None = rw idle refl in let there = open_at.1 in absurd (cc)
    listed v less Done here = w.done_listed v here

-- what a cycle is is a way from a number back to itself
pub has_cycle : (edges : List Edge) (xs : List ℕ) → IsCycle edges xs → HasCycle edges
has_cycle edges [] is = absurd is
has_cycle edges (v ∷ via) is = record { first = v; between = via; round = is.0 }

pub cycle_excludes : (edges : List Edge) → HasCycle edges → IsAcyclic edges → ⊥
cycle_excludes edges cycle acyclic = acyclic cycle.first cycle.between cycle.round

-- the part of the stack that an edge closes is a cycle
pub found_cycle : (n : ℕ) (edges : List Edge) (found : Option ℕ) (P : Type 0) (w : Walk) (from : ℕ) (part : List ℕ) → MatchOption found P (Closes n edges w) → found ≡ Some from
    → IsPartFrom w.stack.items from part → IsCycle edges part
found_cycle n edges found P w from part closes is down =
    let at = MatchOption-at_some P (Closes n edges w) from is closes in
    closes_cycle n edges w.cursors.items w.marks.items w.stack.items w.done.items from part at.holds at.leads down

-- the walk from each number below n has ended
pub finished : (n : ℕ) (edges : List Edge) (before : List ℕ) (w : Walk) (v : ℕ) (done : List ℕ) → AreWalkable n edges before → Holds n edges w → w.stack.items ≡ []
    → ((u : ℕ) → u < v → slice_get w.marks.items u ≡ Some New → ⊥) → n ≤ v → done ≡ w.done.items → IsOrder n edges done
finished n edges before w v done fixed holds idle visited all same =
    let order = done_is_order n edges w.cursors.items w.marks.items w.stack.items w.done.items holds idle fixed.ends (λ u less. visited u (omega arith)) in
    subst (λ (xs : List ℕ). IsOrder n edges xs) (sym same) order
