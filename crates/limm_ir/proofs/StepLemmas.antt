-- Steps in two parts, and steps whose instructions are counted or not.
use Rattle.std.proofs.Common.{◌≡◌, ℕ, suc, ◌+◌, ◌*◌, ◌≤◌, List, [], ◌∷◌, ◌++◌, refl, sym, ap, ◌∙◌, arith}
use mathlib.Core.Path.{fun_ext}
use Rattle.std.proofs.Math.Nat.{mul-suc}
use Rattle.ev_graph.specs.declared.events.Item.{Item}
use Rattle.ev_graph.specs.declared.events.End.{End}
use Rattle.behavior.specs.Tree.{Tree, Begins, Point, Cut, At, Path, cut, begins, Next, Goes, Stops, ◌then◌, ticks}
use Rattle.behavior.specs.Acts.{Permission}
use Rattle.behavior.specs.Kept.{SamePoint, both-cut, Keeps}
use Rattle.behavior.specs.Leaving.{Left}
use Rattle.behavior.proofs.Paths.{then-assoc, path_at, path_cut, path_stop, path_then, Split, within, ended, beyond, split}
use Rattle.behavior.proofs.Ticks.{path_ticks, Ticked, cut-within, behind, ticked}
use Rattle.limm_ir.specs.Costs.{no_cost, cost_of}
use Rattle.limm_ir.specs.Steps.{IrState, ir_step, ir_steps}
use Rattle.limm_ir.specs.Blocks.{ir_end, ir_block}
use Rattle.limm_ir.specs.declared.block.IrEnd.{IrEnd}
use Rattle.limm_ir.specs.declared.step.IrStep.{IrStep}

-- steps, and then more steps
pub steps-append : (cost : IrStep → ℕ) (may : Permission) (xs ys : List IrStep) (s : IrState) → ir_steps cost may (xs ++ ys) s ≡ (ir_steps cost may xs s then ir_steps cost may ys)
steps-append cost may [] ys s = refl
steps-append cost may (x ∷ xs) ys s =
    ap (λ f. ticks (cost x) (ir_step may x s) then f) (fun_ext (λ t. steps-append cost may xs ys t))
    ∙ sym (then-assoc (ticks (cost x) (ir_step may x s)) (ir_steps cost may xs) (ir_steps cost may ys))

-- what steps cost that stand one behind the other
pub cost_of-append : (cost : IrStep → ℕ) (xs ys : List IrStep) → cost_of cost (xs ++ ys) ≡ cost_of cost xs + cost_of cost ys
cost_of-append cost [] ys = omega arith
cost_of-append cost (x ∷ xs) ys = omega (arith, cost_of-append cost xs ys)

module _ (cost : IrStep → ℕ) (may : Permission) where
  -- a path through steps that are not counted is one through counted ones, which begins at most what they cost
  abbrev Recounted : List IrStep → IrState → List Item → Point (Next IrState) → ℕ → Type 0
  Recounted xs s items p m = (k : ℕ) × Path (ir_steps cost may xs s) items p k × (k ≤ cost_of cost xs + m)

  recount : (xs : List IrStep) (s : IrState) {items : List Item} {p : Point (Next IrState)} {m : ℕ} → Path (ir_steps no_cost may xs s) items p m → Recounted xs s items p m
  recount [] s {m = m} path = (m, path, omega arith)
  recount (x ∷ xs) s path = counted_here (λ t items p m more. recount xs t more) (split (ir_step may x s) (ir_steps no_cost may xs) path)
    where
      counted_here : ((t : IrState) (items : List Item) (p : Point (Next IrState)) (m : ℕ) → Path (ir_steps no_cost may xs t) items p m → Recounted xs t items p m)
          → {items : List Item} {p : Point (Next IrState)} {m : ℕ} → Split (ir_step may x s) (ir_steps no_cost may xs) items p m → Recounted (x ∷ xs) s items p m
      counted_here later (within {n = n} path) = (cost x + n, path_cut (ir_steps cost may xs) (path_ticks (cost x) path), omega arith)
      counted_here later (ended {n = n} path) = (cost x + n, path_stop (ir_steps cost may xs) (path_ticks (cost x) path), omega arith)
      counted_here later (beyond {s = t} {p = p} {ys = ys} {n = n} {m = m} path more same_items same_count) =
          let rest = later t ys p m more in
          (cost x + n + rest.0, path_at _ _ _ _ (sym same_items) refl (path_then (ir_steps cost may xs) (path_ticks (cost x) path) rest.1), omega (arith, rest.2, same_count))

  -- and the other way round
  abbrev Uncounted : List IrStep → IrState → List Item → Point (Next IrState) → Type 0
  Uncounted xs s items p = (k : ℕ) × Path (ir_steps no_cost may xs s) items p k

  uncount : (xs : List IrStep) (s : IrState) {items : List Item} {p : Point (Next IrState)} {m : ℕ} → Path (ir_steps cost may xs s) items p m → Uncounted xs s items p
  uncount [] s {m = m} path = (m, path)
  uncount (x ∷ xs) s path = uncounted_here (λ t items p m more. uncount xs t more) (split (ticks (cost x) (ir_step may x s)) (ir_steps cost may xs) path)
    where
      cut_here : {items : List Item} {n : ℕ} → Ticked (cost x) (ir_step may x s) items Cut n → Uncounted (x ∷ xs) s items Cut
      cut_here cut-within = (0, cut)
      cut_here (behind {m = m} path same) = (m, path_cut (ir_steps no_cost may xs) path)

      stopped_here : {items : List Item} {end : End} {n : ℕ} → Ticked (cost x) (ir_step may x s) items (At (Stops end)) n → Uncounted (x ∷ xs) s items (At (Stops end))
      stopped_here (behind {m = m} path same) = (m, path_stop (ir_steps no_cost may xs) path)

      gone_here : {items more all : List Item} {t : IrState} {p : Point (Next IrState)} {n : ℕ} → Ticked (cost x) (ir_step may x s) items (At (Goes t)) n
          → Uncounted xs t more p → all ≡ items ++ more → Uncounted (x ∷ xs) s all p
      gone_here (behind {m = m} path same) (k, rest) same_items = (m + k, path_at _ _ _ _ (sym same_items) refl (path_then (ir_steps no_cost may xs) path rest))

      uncounted_here : ((t : IrState) (items : List Item) (p : Point (Next IrState)) (m : ℕ) → Path (ir_steps cost may xs t) items p m → Uncounted xs t items p)
          → {items : List Item} {p : Point (Next IrState)} {m : ℕ} → Split (ticks (cost x) (ir_step may x s)) (ir_steps cost may xs) items p m → Uncounted (x ∷ xs) s items p
      uncounted_here later (within path) = cut_here (ticked (cost x) (ir_step may x s) path)
      uncounted_here later (ended path) = stopped_here (ticked (cost x) (ir_step may x s) path)
      uncounted_here later (beyond {s = t} {p = p} {ys = ys} {m = m} path more same_items same_count) =
          gone_here (ticked (cost x) (ir_step may x s) path) (later t ys p m more) same_items

  recount_block : (xs : List IrStep) (end : IrEnd) (s : IrState) {items : List Item} {p : Point (Next (Left IrState))} {m : ℕ} → Path (ir_block no_cost may xs end s) items p m
      → (k : ℕ) × Path (ir_block cost may xs end s) items p k × (k ≤ cost_of cost xs + m)
  recount_block xs end s path = here (split (ir_steps no_cost may xs s) (ir_end end) path)
    where
      here : {items : List Item} {p : Point (Next (Left IrState))} {m : ℕ} → Split (ir_steps no_cost may xs s) (ir_end end) items p m
          → (k : ℕ) × Path (ir_block cost may xs end s) items p k × (k ≤ cost_of cost xs + m)
      here (within path) = let one = recount xs s path in (one.0, path_cut (ir_end end) one.1, one.2)
      here (ended path) = let one = recount xs s path in (one.0, path_stop (ir_end end) one.1, one.2)
      here (beyond {m = m} path more same_items same_count) =
          let one = recount xs s path in
          (one.0 + m, path_at _ _ _ _ (sym same_items) refl (path_then (ir_end end) one.1 more), omega (arith, one.2, same_count))

  uncount_block : (xs : List IrStep) (end : IrEnd) (s : IrState) {items : List Item} {p : Point (Next (Left IrState))} {m : ℕ} → Path (ir_block cost may xs end s) items p m
      → (k : ℕ) × Path (ir_block no_cost may xs end s) items p k
  uncount_block xs end s path = here (split (ir_steps cost may xs s) (ir_end end) path)
    where
      here : {items : List Item} {p : Point (Next (Left IrState))} {m : ℕ} → Split (ir_steps cost may xs s) (ir_end end) items p m → (k : ℕ) × Path (ir_block no_cost may xs end s) items p k
      here (within path) = let one = uncount xs s path in (one.0, path_cut (ir_end end) one.1)
      here (ended path) = let one = uncount xs s path in (one.0, path_stop (ir_end end) one.1)
      here (beyond {m = m} path more same_items same_count) =
          let one = uncount xs s path in
          (one.0 + m, path_at _ _ _ _ (sym same_items) refl (path_then (ir_end end) one.1 more))

  -- What is kept where instructions are not counted is kept where the source begins one, and the steps as many as they cost.
  module _ (seen : List Item → List Item) (most : ℕ) {A : Type 0} (Same : A → Next (Left IrState) → Type 0) (p : Tree A) (xs : List IrStep) (end : IrEnd) (s : IrState)
      (few : cost_of cost xs ≤ most) (keeps : Keeps seen 0 0 Same p (ir_block no_cost may xs end s)) where
    forth_counted : {from : List Item} {i : Point A} {n : ℕ} → Path (Begins p) from i n
        → (to : List Item) × (o : Point (Next (Left IrState))) × (m : ℕ) × Path (ir_block cost may xs end s) to o m × (seen to ≡ seen from) × SamePoint Same i o × (m ≤ most * n + 0)
    forth_counted cut = ([], Cut, 0, cut, refl, both-cut, omega arith)
    forth_counted (begins {items = from} {p = i} {n = n} path) =
        let one = keeps.forth from i n path in
        let two = recount_block xs end s one.3 in
        (one.0, one.1, two.0, two.1, one.4, one.5, omega (arith, two.2, one.6, few, mul-suc most n))

    pub keeps_counted : Keeps seen most 0 Same (Begins p) (ir_block cost may xs end s)
    keeps_counted = record {
      forth = λ from i n path. forth_counted path;
      back = λ to o m path.
          let two = uncount_block xs end s path in
          let one = keeps.back to o two.0 two.1 in
          (one.0, one.1, suc one.2, begins one.3, one.4, one.5);
    }
