-- What the walk keeps true.
use Rattle.std.specs.Prelude.{◌≡◌, ◌≤◌, ◌<◌, ◌+◌, ℕ, suc, List, [], Some, slice_get, length, sum_by, reverse, drop, replicate}
use Rattle.ev_graph.specs.Places.{StandsIn, IsDistinct, Earlier}
use Rattle.topo.specs.declared.edge.Edge.{Edge}
use Rattle.topo.specs.declared.walk.Mark.{Mark}
use Rattle.topo.specs.declared.walk.Mark.TheVariants.{New, Open, Done}
use Rattle.topo.specs.declared.walk.Walk.{Walk}
use Rattle.topo.specs.Order.{Leads}
use Rattle.topo.specs.Links.{AreLinked}

-- what stays during the walk: the edges lie between numbers below n, and each has its link
pub record AreWalkable (n : ℕ) (edges : List Edge) (before : List ℕ) : Type 0 where
  pub ends : (j : ℕ) (e : Edge) → slice_get edges j ≡ Some e → (e.from < n) × (e.to < n)
  pub one_an_edge : length before ≡ length edges
  pub linked : AreLinked edges before

-- the cursor of v is the link of an edge to v, or 0
pub record IsCursor (edges : List Edge) (v link : ℕ) : Type 0 where
  pub within : link ≤ length edges
  pub leads : (j : ℕ) (e : Edge) → link ≡ suc j → slice_get edges j ≡ Some e → e.to ≡ v

-- what holds at every moment of the walk
pub record IsWalk (n : ℕ) (edges : List Edge) (cursors : List ℕ) (marks : List Mark) (stack done : List ℕ) : Type 0 where
  pub cursor_each : length cursors ≡ n
  pub mark_each : length marks ≡ n
  pub cursor : (v link : ℕ) → slice_get cursors v ≡ Some link → IsCursor edges v link
  pub passed : (v link j : ℕ) (e : Edge) → slice_get cursors v ≡ Some link → link ≤ j → slice_get edges j ≡ Some e → e.to ≡ v → slice_get marks e.from ≡ Some Done
  pub done_marked : (i v : ℕ) → slice_get done i ≡ Some v → slice_get marks v ≡ Some Done
  pub done_listed : (v : ℕ) → slice_get marks v ≡ Some Done → StandsIn done v
  pub open_marked : (i v : ℕ) → slice_get stack i ≡ Some v → slice_get marks v ≡ Some Open
  pub open_listed : (v : ℕ) → slice_get marks v ≡ Some Open → StandsIn stack v
  pub done_once : IsDistinct done
  pub open_once : IsDistinct stack
  pub piled : (i a b : ℕ) → slice_get stack i ≡ Some a → slice_get stack (suc i) ≡ Some b → Leads edges b a
  pub forward : (j : ℕ) (e : Edge) → slice_get edges j ≡ Some e → StandsIn done e.to → Earlier done e.from e.to

-- the same of a walk
abbrev pub Holds : ℕ → List Edge → Walk → Type 0
Holds n edges w = IsWalk n edges w.cursors.items w.marks.items w.stack.items w.done.items

-- v stands at the end of the stack
pub record IsTop (stack : List ℕ) (v : ℕ) : Type 0 where
  pub below : ℕ
  pub here : slice_get stack below ≡ Some v
  pub last : length stack ≡ suc below

-- an edge leads from v to the top of the stack, if there is one
abbrev pub LeadsToTop : List Edge → ℕ → List ℕ → Type 0
LeadsToTop edges v stack = (top : ℕ) → IsTop stack top → Leads edges v top

-- what is left to do with a number, but for its edges
abbrev pub mark_weight : Mark → ℕ
mark_weight New = 2
mark_weight Open = 1
mark_weight Done = 0

-- what is left to do: it grows less with every step
abbrev pub left : Walk → ℕ
left w = sum_by (λ link. link) w.cursors.items + sum_by mark_weight w.marks.items

-- the walk has gone on: no number is new again, and less is left to do
pub record GoesOn (n : ℕ) (edges : List Edge) (old now : Walk) : Type 0 where
  pub holds : Holds n edges now
  pub fewer_new : (v : ℕ) → slice_get now.marks.items v ≡ Some New → slice_get old.marks.items v ≡ Some New
  pub less : left now < left old

-- an edge to the top of the stack comes from this number of the stack
pub record Closes (n : ℕ) (edges : List Edge) (now : Walk) (from : ℕ) : Type 0 where
  pub holds : Holds n edges now
  pub «open» : StandsIn now.stack.items from
  pub leads : LeadsToTop edges from now.stack.items

-- the walk from v has ended, with nothing open
pub record HasVisited (n : ℕ) (edges : List Edge) (v : ℕ) (old now : Walk) : Type 0 where
  pub holds : Holds n edges now
  pub idle : now.stack.items ≡ []
  pub visited : slice_get now.marks.items v ≡ Some New → ⊥
  pub fewer_new : (u : ℕ) → slice_get now.marks.items u ≡ Some New → slice_get old.marks.items u ≡ Some New

-- the numbers of the stack from the top down to this one
pub record IsPartFrom (stack : List ℕ) (from : ℕ) (part : List ℕ) : Type 0 where
  pub place : ℕ
  pub here : slice_get stack place ≡ Some from
  pub downwards : part ≡ reverse (drop place stack)

-- next is the link after the edge at the cursor of v, and that edge comes from a number that is done
pub record IsPast (edges : List Edge) (before : List ℕ) (w : Walk) (v next : ℕ) : Type 0 where
  pub place : ℕ
  pub edge : Edge
  pub cursor : slice_get w.cursors.items v ≡ Some (suc place)
  pub here : slice_get edges place ≡ Some edge
  pub done : slice_get w.marks.items edge.from ≡ Some Done
  pub link : slice_get before place ≡ Some next

-- a walk that has come to no number below n, with these cursors
pub record IsFresh (n : ℕ) (last : List ℕ) (w : Walk) : Type 0 where
  pub cursors : w.cursors.items ≡ last
  pub marks : w.marks.items ≡ replicate n New
  pub stack : w.stack.items ≡ []
  pub done : w.done.items ≡ []
