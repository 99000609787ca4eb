-- Two machines that match block by block have the same runs.
use Rattle.std.proofs.Common.{◌≡◌, ℕ, zero, suc, ◌+◌, ◌*◌, ◌<◌, ◌≤◌, List, ◌++◌, refl, sym, ap, ◌∙◌, arith}
use Rattle.std.proofs.Math.Nat.{mul-add}
use Rattle.ev_graph.specs.declared.events.Item.{Item}
use Rattle.ev_graph.specs.declared.events.End.{End}
use Rattle.ev_graph.specs.declared.events.End.TheVariants.{Running}
use Rattle.behavior.specs.Tree.{Tree, Begins, Point, Cut, At, Path, Next, Goes, Stops}
use Rattle.behavior.specs.Run.{Run}
use Rattle.behavior.specs.Unfolds.{Unfolds}
use Rattle.behavior.specs.Kept.{BackwardBy, ForwardBy, SamePoint, both-cut, both-at, SameNext, both-go, both-stop, Keeps}
use Rattle.behavior.proofs.SeenLemmas.{SeesByParts}
use Rattle.behavior.proofs.Walks.{From, from-cut, from-stop, from-go, run_walk, walk_run, from_walk, walk_from}
use Rattle.behavior.proofs.Blocks.{begins_advances, to_block, to_step}

-- From two states each machine takes a block, and the blocks keep the meaning.
pub record BlocksMatch {S T : Type 0} (seen : List Item → List Item) (rate : ℕ) (Same : S → T → Type 0) (source : S → Tree (Next S)) (target : T → Tree (Next T)) (s : S) (t : T) : Type 0 where
  pub of : Tree (Next S)
  pub to : Tree (Next T)
  pub source_unfolds : Unfolds source (source s) (Begins of)
  pub target_unfolds : Unfolds target (target t) (Begins to)
  pub keeps : Keeps seen rate 0 (SameNext Same) (Begins of) (Begins to)

module _ (seen : List Item → List Item) (sees : SeesByParts seen) {S T : Type 0} (rate : ℕ) (Same : S → T → Type 0) (source : S → Tree (Next S)) (target : T → Tree (Next T))
    (matches : (s : S) (t : T) → Same s t → BlocksMatch seen rate Same source target s t) where
  joined : (x xs y ys : List Item) → seen x ≡ seen y → seen xs ≡ seen ys → seen (x ++ xs) ≡ seen (y ++ ys)
  joined x xs y ys first rest = sees.append x xs ∙ ap (λ l. l ++ seen xs) first ∙ ap (λ l. seen y ++ l) rest ∙ sym (sees.append y ys)

  abbrev Forth : T → List Item → End → ℕ → Type 0
  Forth t made end n = (to : List Item) × (m : ℕ) × Run target t to end m × (seen to ≡ seen made) × (m ≤ rate * n)

  abbrev Back : S → List Item → End → Type 0
  Back s made end = (from : List Item) × (m : ℕ) × Run source s from end m × (seen from ≡ seen made)

  module _ (s : S) (t : T) (pair : BlocksMatch seen rate Same source target s t) where
    target_run : {to : List Item} {end : End} {m : ℕ} → From target (Begins pair.to) to end m → Run target t to end m
    target_run from = walk_run (to_step pair.target_unfolds (from_walk from))

    source_run : {from : List Item} {end : End} {m : ℕ} → From source (Begins pair.of) from end m → Run source s from end m
    source_run from = walk_run (to_step pair.source_unfolds (from_walk from))

    forth_cut : (made to : List Item) (n m : ℕ) (o : Point (Next T)) → Path (Begins pair.to) to o m → seen to ≡ seen made → m ≤ rate * n + 0 → SamePoint (SameNext Same) Cut o → Forth t made Running n
    forth_cut made to n m o path same few both-cut = (to, m, target_run (from-cut path), same, omega (arith, few))

    forth_stop : (made to : List Item) (n m : ℕ) (end : End) (o : Point (Next T)) → Path (Begins pair.to) to o m → seen to ≡ seen made → m ≤ rate * n + 0
        → SamePoint (SameNext Same) (At (Stops end)) o → Forth t made end n
    forth_stop made to n m end o path same few (both-at both-stop) = (to, m, target_run (from-stop path), same, omega (arith, few))

    forth_go : (made rest all to : List Item) (r : S) (end : End) (n m total k : ℕ) (o : Point (Next T)) → Path (Begins pair.to) to o k → seen to ≡ seen made → k ≤ rate * n + 0
        → all ≡ made ++ rest → total ≡ n + m → ((u : T) → Same r u → Forth u rest end m) → SamePoint (SameNext Same) (At (Goes r)) o → Forth t all end total
    forth_go made rest all to r end n m total k o path same few same_items same_count later (both-at (both-go {t = u} there)) =
        let two = later u there in (
          to ++ two.0,
          k + two.1,
          target_run (from-go path two.2 refl refl),
          joined to two.0 made rest same two.3 ∙ ap seen (sym same_items),
          omega (arith, few, two.4, mul-add rate n m, ap (λ c. rate * c) same_count),
        )

    forth_from : {made : List Item} {end : End} {n : ℕ} → ((r : S) (rest : List Item) (m : ℕ) → m < n → Run source r rest end m → (u : T) → Same r u → Forth u rest end m)
        → From source (Begins pair.of) made end n → Forth t made end n
    forth_from {made} {n = n} later (from-cut path) =
        let one = pair.keeps.forth made Cut n path in forth_cut made one.0 n one.2 one.1 one.3 one.4 one.6 one.5
    forth_from {made} {end} {n} later (from-stop path) =
        let one = pair.keeps.forth made (At (Stops end)) n path in forth_stop made one.0 n one.2 end one.1 one.3 one.4 one.6 one.5
    forth_from later (from-go {s = r} {items = made} {rest = rest} {all = all} {end = end} {n = n} {m = m} {total = total} path run same_items same_count) =
        let one = pair.keeps.forth made (At (Goes r)) n path in
        let some = begins_advances pair.of made r n path in
        forth_go made rest all one.0 r end n m total one.2 one.1 one.3 one.4 one.6 same_items same_count (λ u there. later r rest m (omega (arith, some, same_count)) run u there) one.5

    back_cut : (made from : List Item) (n : ℕ) (i : Point (Next S)) → Path (Begins pair.of) from i n → seen from ≡ seen made → SamePoint (SameNext Same) i Cut → Back s made Running
    back_cut made from n i path same both-cut = (from, n, source_run (from-cut path), same)

    back_stop : (made from : List Item) (n : ℕ) (end : End) (i : Point (Next S)) → Path (Begins pair.of) from i n → seen from ≡ seen made → SamePoint (SameNext Same) i (At (Stops end))
        → Back s made end
    back_stop made from n end i path same (both-at both-stop) = (from, n, source_run (from-stop path), same)

    back_go : (made rest all from : List Item) (u : T) (end : End) (n : ℕ) (i : Point (Next S)) → Path (Begins pair.of) from i n → seen from ≡ seen made
        → all ≡ made ++ rest → ((r : S) → Same r u → Back r rest end) → SamePoint (SameNext Same) i (At (Goes u)) → Back s all end
    back_go made rest all from u end n i path same same_items later (both-at (both-go {s = r} there)) =
        let two = later r there in
        (from ++ two.0, n + two.1, source_run (from-go path two.2 refl refl), joined from two.0 made rest same two.3 ∙ ap seen (sym same_items))

    back_from : {made : List Item} {end : End} {n : ℕ} → ((u : T) (rest : List Item) (m : ℕ) → m < n → Run target u rest end m → (r : S) → Same r u → Back r rest end)
        → From target (Begins pair.to) made end n → Back s made end
    back_from {made} {n = n} later (from-cut path) =
        let one = pair.keeps.back made Cut n path in back_cut made one.0 one.2 one.1 one.3 one.4 one.5
    back_from {made} {end} {n} later (from-stop path) =
        let one = pair.keeps.back made (At (Stops end)) n path in back_stop made one.0 one.2 end one.1 one.3 one.4 one.5
    back_from later (from-go {s = u} {items = made} {rest = rest} {all = all} {end = end} {n = n} {m = m} {total = total} path run same_items same_count) =
        let one = pair.keeps.back made (At (Goes u)) n path in
        let some = begins_advances pair.to made u n path in
        back_go made rest all one.0 u end one.2 one.1 one.3 one.4 same_items (λ r there. later u rest m (omega (arith, some, same_count)) run r there) one.5

  forth_within : (most : ℕ) {s : S} {made : List Item} {end : End} {n : ℕ} → n < most → Run source s made end n → (t : T) → Same s t → Forth t made end n
  forth_within zero le run t here = absurd (omega (arith, le))
  forth_within (suc most) {s} le run t here =
      let pair = matches s t here in
      forth_from s t pair (λ r rest m fewer more u there. forth_within most (omega (arith, le, fewer)) more u there) (walk_from (to_block pair.source_unfolds (run_walk run)))

  back_within : (most : ℕ) {t : T} {made : List Item} {end : End} {n : ℕ} → n < most → Run target t made end n → (s : S) → Same s t → Back s made end
  back_within zero le run s here = absurd (omega (arith, le))
  back_within (suc most) {t} le run s here =
      let pair = matches s t here in
      back_from s t pair (λ u rest m fewer more r there. back_within most (omega (arith, le, fewer)) more r there) (walk_from (to_block pair.target_unfolds (run_walk run)))

  -- each run of the source is matched by one of the target, within the rate
  pub blocks_forward : (s : S) (t : T) → Same s t → ForwardBy seen rate source s target t
  blocks_forward s t here made end n run = forth_within (suc n) (omega arith) run t here

  -- each run of the target is matched by one of the source
  pub blocks_backward : (s : S) (t : T) → Same s t → BackwardBy seen source s target t
  blocks_backward s t here made end n run = back_within (suc n) (omega arith) run s here
