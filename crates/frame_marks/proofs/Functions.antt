-- The bodies of functions, as they are searched: along the instructions that are listed, and against them.
use Rattle.std.proofs.Common.{◌≡◌, ◌↔◌, ℕ, zero, suc, List, map, ◌⊎◌, inl, inr, Option, Some, None, refl, sym, ap, subst, ◌∙◌}
use Rattle.ev_graph.specs.Places.{StandsIn}
use Rattle.ev_graph.proofs.Members.{stands_map, stands_image}
use Rattle.graph_reach.specs.Reach.{From}
use Rattle.graph_reach.specs.Reach.Reached.{start, step}
use Rattle.graph_reach.specs.Backwards.{IsTurned, IsClosed}
use Rattle.graph_reach.proofs.CallerLemmas.{reached_backwards}
use Rattle.x64_syntax.specs.declared.instr.Instr.{Instr}
use Rattle.x64_syntax.specs.declared.instr.Instr.TheVariants as instr
use Rattle.x64_syntax.specs.declared.placed.Flow.{Flow}
use Rattle.x64_syntax.specs.declared.placed.Flow.TheVariants as flow
use Rattle.x64_syntax.specs.declared.placed.Placed.{Placed}
use Rattle.code_at.specs.Code.{Program, StandsAt}
use Rattle.cfg_walk.specs.declared.code.Code.{Code}
use Rattle.cfg_walk.specs.Reach.{IsReached, IsPlaced, after, end_of}
use Rattle.cfg_walk.specs.Reach.IsReached.{at-entry as reach-entry, at-next as reach-next, at-table as reach-table}
use Rattle.cfg_walk.specs.Blocks.{IsFunction, called}
use Rattle.cfg_walk.specs.Code.{IsCodeOf}
use Rattle.cfg_walk.specs.Machine.{placed_at}
use Rattle.cfg_walk.proofs.CallerLemmas.{finds_code, no_table, whole}
use Rattle.frame_marks.specs.Bodies.{IsInBody, on_from}
use Rattle.frame_marks.specs.Bodies.IsInBody.{at-start, at-next, at-table}
use Rattle.frame_marks.specs.Lists.{address_of, goes_on_at, goes_on_after}
use Rattle.frame_marks.proofs.Plain.{some_same, only}

-- ---- what instructions lead to

-- a function goes on where control may
on_after : (i : Instr) (f : Flow) (end b : ℕ) → StandsIn (on_from i f end) b → StandsIn (after i f end) b
on_after (instr.Call displacement) flow.Plain end b at = (suc at.0, at.1)
on_after (instr.Call displacement) f end b at = at
on_after i f end b at = at

-- control goes on where a function does, or to what is called
after_cases : (i : Instr) (f : Flow) (end b : ℕ) → StandsIn (after i f end) b → StandsIn (on_from i f end) b ⊎ StandsIn (called i f end) b
after_cases (instr.Call displacement) flow.Plain end b (zero, here) = inr (zero, here)
after_cases (instr.Call displacement) flow.Plain end b (suc i, here) = inl (i, here)
after_cases (instr.Call displacement) f end b at = inl at
after_cases i f end b at = inl at

-- what is called is gone to
called_after : (i : Instr) (f : Flow) (end b : ℕ) → StandsIn (called i f end) b → StandsIn (after i f end) b
called_after (instr.Call displacement) flow.Plain end b (zero, here) = (zero, here)
called_after (instr.Call displacement) flow.Plain end b (suc i, here) = absurd (cc)
called_after (instr.Call displacement) f end b at = absurd (let none = at.1 in cc)
called_after i f end b at = absurd (let none = at.1 in cc)

-- ---- bodies

module _ (program : Program) where
  -- what is in the body of a function that is reached is reached
  pub body_reached : (f a : ℕ) → IsReached program f → IsInBody program f a → IsReached program a
  body_reached f a reached at-start = reached
  body_reached f b reached (at-next {a = a} p body stands at) =
      reach-next p (body_reached f a reached body) stands (on_after p.instr p.flow (end_of p) b at)
  body_reached f b reached (at-table {a = a} body at) = reach-table (body_reached f a reached body) at

  -- a function is reached
  pub function_reached : (f : ℕ) → IsFunction program f → IsReached program f
  function_reached f (inl entry) = reach-entry entry
  function_reached f (inr is) = reach-next is.p is.placed.reached is.placed.stands
      (called_after is.p.instr is.p.flow (end_of is.p) f is.target)

  -- each reached address is in the body of some function
  pub in_some_body : (a : ℕ) → IsReached program a → (f : ℕ) × IsFunction program f × IsInBody program f a
  in_some_body a (reach-entry entry) = (a, inl entry, at-start)
  in_some_body b (reach-next {a = a} p reached stands at) = elim (after_cases p.instr p.flow (end_of p) b at) [
    | inl on ↦ (let rest = in_some_body a reached in (rest.0, rest.1, at-next p rest.2 stands on))
    | inr target ↦
        (let placed : IsPlaced program p = record {
          reached = subst (IsReached program) (sym stands.here) reached;
          stands = subst (λ x. StandsAt program x p) (sym stands.here) stands;
        } in
        (b, inr (record { p = p; placed = placed; target = target }), at-start))
  ]
  in_some_body b (reach-table {a = a} reached at) = let rest = in_some_body a reached in (rest.0, rest.1, at-table rest.2 at)

module _ (program : Program) (code : Code) (is : IsCodeOf program code) where
  -- the instruction at a reached address is the one that is found there
  pub found_here : (a : ℕ) (p : Placed) → IsReached program a → StandsAt program a p → placed_at code.placed a ≡ Some p
  found_here a p reached stands =
      let placed : IsPlaced program p = record {
        reached = subst (IsReached program) (sym stands.here) reached;
        stands = subst (λ x. StandsAt program x p) (sym stands.here) stands;
      } in
      ((finds_code program code is).placed a p).1 (placed, stands.here)

  -- a placed instruction is found at its address
  pub placed_found : (p : Placed) → IsPlaced program p → placed_at code.placed p.address ≡ Some p
  placed_found p placed = ((finds_code program code is).placed p.address p).1 (placed, refl)

  -- what is found is placed there
  pub found_placed : (a : ℕ) (p : Placed) → placed_at code.placed a ≡ Some p → IsPlaced program p × (p.address ≡ a)
  found_placed a p found = ((finds_code program code is).placed a p).0 found

  -- one instruction is placed at an address
  pub one_placed : (p q : Placed) → IsPlaced program p → IsPlaced program q → p.address ≡ q.address → p ≡ q
  one_placed p q one other same = some_same (sym (placed_found p one) ∙ ap (placed_at code.placed) same ∙ placed_found q other)

  -- a body is what is searched along the instructions
  pub body_to : (f a : ℕ) → IsReached program f → IsInBody program f a → From (goes_on_at code.placed) a f
  body_to f a reached at-start = start (zero, refl)
  body_to f b reached (at-next {a = a} p body stands at) =
      let found = found_here a p (body_reached program f a reached body) stands in
      step (body_to f a reached body) (subst (λ o. StandsIn (goes_on_after o) b) (sym found) at)
  body_to f b reached (at-table {a = a} body at) = absurd (no_table program code is a at.table (body_reached program f a reached body) at.begins)

  pub body_from : (f a : ℕ) → From (goes_on_at code.placed) a f → IsInBody program f a
  body_from f a (start at) = subst (IsInBody program f) (only f a at.0 at.1) at-start
  body_from f b (step {a = a} reached at) = by_found (placed_at code.placed a) refl at (body_from f a reached)
    where
      by_found : (o : Option Placed) → placed_at code.placed a ≡ o → StandsIn (goes_on_after o) b → IsInBody program f a
          → IsInBody program f b
      by_found None e at rest = absurd (let none = at.1 in cc)
      by_found (Some p) e at rest =
          let there = found_placed a p e in
          at-next p rest (subst (λ x. StandsAt program x p) there.1 there.0.stands) at

  -- ---- against the edges

  module _ (nodes : List ℕ) (exact : (a : ℕ) → StandsIn nodes a ↔ StandsIn (map address_of code.placed) a) where
    node_reached : (a : ℕ) → StandsIn nodes a → IsReached program a
    node_reached a at =
        let there = stands_image address_of code.placed a ((exact a).0 at) in
        subst (IsReached program) there.2 ((is.placed.exact there.0).0 there.1).reached

    reached_node : (a : ℕ) → IsReached program a → StandsIn nodes a
    reached_node a reached =
        let there = whole program code is a reached in
        (exact a).1 (subst (StandsIn (map address_of code.placed)) there.2
        (stands_map address_of code.placed there.0 ((is.placed.exact there.0).1 there.1)))

    -- from the nodes edges lead to nodes alone
    nodes_closed : IsClosed (goes_on_at code.placed) nodes
    nodes_closed a b in_a at = by_found (placed_at code.placed a) refl at
      where
        by_found : (o : Option Placed) → placed_at code.placed a ≡ o → StandsIn (goes_on_after o) b → StandsIn nodes b
        by_found None e at = absurd (let none = at.1 in cc)
        by_found (Some p) e at =
            let there = found_placed a p e in
            reached_node b (reach-next p there.0.reached there.0.stands (on_after p.instr p.flow (end_of p) b at))

    -- a body is searched against the edges just as along them
    pub body_back : (back : ℕ → List ℕ) → IsTurned (goes_on_at code.placed) nodes back → (f a : ℕ) → IsReached program f
        → IsReached program a
        → IsInBody program f a ↔ From back f a
    body_back back turned f a f_reached a_reached =
        let both = reached_backwards (goes_on_at code.placed) back nodes turned nodes_closed a f (reached_node f f_reached) in (
          (λ body. (both.0 (body_to f a f_reached body)).1),
          (λ from. body_from f a (both.1 (reached_node a a_reached, from))),
        )
