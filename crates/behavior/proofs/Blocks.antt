-- A machine that takes several steps of another as one has the same runs, with the same count. So two machines whose
-- blocks match in pairs match.
use Rattle.std.proofs.Common.{◌≡◌, ℕ, zero, suc, ◌+◌, ◌*◌, ◌<◌, ◌≤◌, List, ◌++◌, refl, sym, ap, ◌∙◌, subst, arith}
use Rattle.std.proofs.Math.Nat.{mul-add}
use Rattle.ev_graph.specs.declared.events.Item.{Item}
use Rattle.ev_graph.specs.declared.events.End.{End}
use Rattle.ev_graph.specs.declared.events.End.TheVariants.{Running}
use Rattle.behavior.specs.Tree.{Tree, Gives, Begins, Acts, Point, Cut, At, Path, begins, Next, Goes, Stops}
use Rattle.behavior.specs.Run.{Run, cuts, stops, goes_on}
pub use Rattle.behavior.specs.Unfolds.{Unfolds, block-ends, block-goes, block-begins, block-acts}
use Rattle.behavior.specs.Seen.{trace}
use Rattle.behavior.specs.Kept.{Backward, Forward, SamePoint, both-cut, both-at, SameNext, both-go, both-stop, Keeps}
use Rattle.behavior.proofs.SeenLemmas.{SeesByParts, sees-trace}
use Rattle.behavior.proofs.Walks.{Walk, ends-cut, walks-on, walks-begin, walks-act, From, from-cut, from-stop, from-go, run_walk, walk_run, from_walk, walk_from}

-- each way on from a tree to a next state begins an instruction
abbrev pub Advances : {S : Type 0} → Tree (Next S) → Type 0
Advances {S} t = (items : List Item) (s : S) (n : ℕ) → Path t items (At (Goes s)) n → 0 < n

-- The blocks of a machine, at the states that lead them: each unfolds from the machine's step, and begins an
-- instruction before it goes on.
pub record AreBlocks {S : Type 0} (step : S → Tree (Next S)) (IsLeader : S → Type 0) (block : S → Tree (Next S)) : Type 0 where
  pub unfolds : (s : S) → IsLeader s → Unfolds step (step s) (block s)
  pub advances : (s : S) → IsLeader s → Advances (block s)

-- a tree that begins with an instruction advances
pub begins_advances : {S : Type 0} (t : Tree (Next S)) → Advances (Begins t)
begins_advances t items s n (begins path) = omega arith

-- walks through the step and through the block are the same
pub to_block : {S : Type 0} {step : S → Tree (Next S)} {t block : Tree (Next S)} → Unfolds step t block → {items : List Item} {end : End} {n : ℕ} → Walk step t items end n → Walk step block items end n
to_block block-ends walk = walk
to_block (block-goes unfolds) ends-cut = ends-cut
to_block (block-goes unfolds) (walks-on walk) = to_block unfolds walk
to_block (block-begins unfolds) ends-cut = ends-cut
to_block (block-begins unfolds) (walks-begin walk) = walks-begin (to_block unfolds walk)
to_block (block-acts unfolds) ends-cut = ends-cut
to_block (block-acts unfolds) (walks-act v lt walk) = walks-act v lt (to_block (unfolds v lt) walk)

pub to_step : {S : Type 0} {step : S → Tree (Next S)} {t block : Tree (Next S)} → Unfolds step t block → {items : List Item} {end : End} {n : ℕ} → Walk step block items end n → Walk step t items end n
to_step block-ends walk = walk
to_step (block-goes unfolds) walk = walks-on (to_step unfolds walk)
to_step (block-begins unfolds) ends-cut = ends-cut
to_step (block-begins unfolds) (walks-begin walk) = walks-begin (to_step unfolds walk)
to_step (block-acts unfolds) ends-cut = ends-cut
to_step (block-acts unfolds) (walks-act v lt walk) = walks-act v lt (to_step (unfolds v lt) walk)

-- a run of blocks is a run of the machine, with the same items, end and count
pub to_steps : {S : Type 0} (step block : S → Tree (Next S)) (IsLeader : S → Type 0) → AreBlocks step IsLeader block
    → ((s t : S) → IsLeader s → (items : List Item) (n : ℕ) → Path (block s) items (At (Goes t)) n → IsLeader t)
    → {s : S} {items : List Item} {end : End} {n : ℕ} → IsLeader s → Run block s items end n → Run step s items end n
to_steps step block IsLeader blocks leads {s} leader (cuts path) = walk_run (to_step (blocks.unfolds s leader) (from_walk (from-cut path)))
to_steps step block IsLeader blocks leads {s} leader (stops path) = walk_run (to_step (blocks.unfolds s leader) (from_walk (from-stop path)))
to_steps step block IsLeader blocks leads {s} leader (goes_on {t = t} {items = items} {n = n} path run) =
    let rest = to_steps step block IsLeader blocks leads (leads s t leader items n path) run in
    walk_run (to_step (blocks.unfolds s leader) (from_walk (from-go path rest refl refl)))

run_at : {S : Type 0} {step : S → Tree (Next S)} {s : S} {end : End} (xs ys : List Item) (n m : ℕ) → xs ≡ ys → n ≡ m → Run step s xs end n → Run step s ys end m
run_at {S} {step} {s} {end} xs ys n m same_items same_count run =
    subst (λ k. Run step s ys end k) same_count (subst (λ l. Run step s l end n) same_items run)

-- a run of the machine is a run of blocks
module _ {S : Type 0} (step block : S → Tree (Next S)) (IsLeader : S → Type 0) (blocks : AreBlocks step IsLeader block)
    (leads : (s t : S) → IsLeader s → (items : List Item) (n : ℕ) → Path (block s) items (At (Goes t)) n → IsLeader t) where
  to_blocks_from : {s : S} {items : List Item} {end : End} {n : ℕ} → IsLeader s
      → ((t : S) (rest : List Item) (m : ℕ) → IsLeader t → m < n → Run step t rest end m → Run block t rest end m)
      → From step (block s) items end n → Run block s items end n
  to_blocks_from leader later (from-cut path) = cuts path
  to_blocks_from leader later (from-stop path) = stops path
  to_blocks_from {s} leader later (from-go {s = t} {items = xs} {rest = rest} {n = n} {m = m} path run same_items same_count) =
      let some = blocks.advances s leader xs t n path in
      run_at _ _ _ _ (sym same_items) (sym same_count) (goes_on path (later t rest m (leads s t leader xs n path) (omega (arith, some, same_count)) run))

  to_blocks_within : (most : ℕ) {s : S} {items : List Item} {end : End} {n : ℕ} → n < most → IsLeader s → Run step s items end n → Run block s items end n
  to_blocks_within zero le leader run = absurd (omega (arith, le))
  to_blocks_within (suc most) {s} {items} {end} {n} le leader run =
      to_blocks_from leader (λ t rest m there fewer more. to_blocks_within most (omega (arith, le, fewer)) there more) (walk_from (to_block (blocks.unfolds s leader) (run_walk run)))

  pub to_blocks : {s : S} {items : List Item} {end : End} {n : ℕ} → IsLeader s → Run step s items end n → Run block s items end n
  to_blocks {n = n} leader run = to_blocks_within (suc n) (omega arith) leader run

module _ (seen : List Item → List Item) (sees : SeesByParts seen) {S T : Type 0} (rate : ℕ) (Same : S → T → Type 0)
    (step block : S → Tree (Next S)) (IsLeader : S → Type 0) (blocks : AreBlocks step IsLeader block)
    (step' block' : T → Tree (Next T)) (IsLeader' : T → Type 0) (blocks' : AreBlocks step' IsLeader' block')
    (leads : (s : S) (t : T) → Same s t → IsLeader s × IsLeader' t)
    (keeps : (s : S) (t : T) → Same s t → Keeps seen rate 0 (SameNext Same) (block s) (block' t)) where
  joined : (x xs y ys : List Item) → seen x ≡ seen y → seen xs ≡ seen ys → seen (x ++ xs) ≡ seen (y ++ ys)
  joined x xs y ys first rest = sees.append x xs ∙ ap (λ l. l ++ seen xs) first ∙ ap (λ l. seen y ++ l) rest ∙ sym (sees.append y ys)

  abbrev Forth : T → List Item → End → ℕ → Type 0
  Forth t made end n = (to : List Item) × (m : ℕ) × Run step' t to end m × (seen to ≡ seen made) × (m ≤ rate * n)

  abbrev Back : S → List Item → End → Type 0
  Back s made end = (from : List Item) × (m : ℕ) × Run step s from end m × (seen from ≡ seen made)

  target_run : (s : S) (t : T) → Same s t → {to : List Item} {end : End} {m : ℕ} → From step' (block' t) to end m → Run step' t to end m
  target_run s t same from = walk_run (to_step (blocks'.unfolds t ((leads s t same).1)) (from_walk from))

  source_run : (s : S) (t : T) → Same s t → {from : List Item} {end : End} {m : ℕ} → From step (block s) from end m → Run step s from end m
  source_run s t same from = walk_run (to_step (blocks.unfolds s ((leads s t same).0)) (from_walk from))

  forth_cut : (s : S) (t : T) → Same s t → (made to : List Item) (n m : ℕ) (o : Point (Next T)) → Path (block' t) to o m → seen to ≡ seen made → m ≤ rate * n + 0 → SamePoint (SameNext Same) Cut o → Forth t made Running n
  forth_cut s t here made to n m o path same few both-cut = (to, m, target_run s t here (from-cut path), same, omega (arith, few))

  forth_stop : (s : S) (t : T) → Same s t → (made to : List Item) (n m : ℕ) (end : End) (o : Point (Next T)) → Path (block' t) to o m → seen to ≡ seen made → m ≤ rate * n + 0 → SamePoint (SameNext Same) (At (Stops end)) o → Forth t made end n
  forth_stop s t here made to n m end o path same few (both-at both-stop) = (to, m, target_run s t here (from-stop path), same, omega (arith, few))

  forth_go : (s : S) (t : T) → Same s t → (made rest all to : List Item) (r : S) (end : End) (n m total k : ℕ) (o : Point (Next T)) → Path (block' t) to o k → seen to ≡ seen made → k ≤ rate * n + 0
      → all ≡ made ++ rest → total ≡ n + m → ((u : T) → Same r u → Forth u rest end m) → SamePoint (SameNext Same) (At (Goes r)) o → Forth t all end total
  forth_go s t here made rest all to r end n m total k o path same few same_items same_count later (both-at (both-go {t = u} there)) =
      let two = later u there in (
        to ++ two.0,
        k + two.1,
        target_run s t here (from-go path two.2 refl refl),
        joined to two.0 made rest same two.3 ∙ ap seen (sym same_items),
        omega (arith, few, two.4, mul-add rate n m, ap (λ c. rate * c) same_count),
      )

  forth_from : (s : S) (t : T) → Same s t → {made : List Item} {end : End} {n : ℕ}
      → ((r : S) (rest : List Item) (m : ℕ) → m < n → Run step r rest end m → (u : T) → Same r u → Forth u rest end m)
      → From step (block s) made end n → Forth t made end n
  forth_from s t here {made} {n = n} later (from-cut path) =
      let one = (keeps s t here).forth made Cut n path in forth_cut s t here made one.0 n one.2 one.1 one.3 one.4 one.6 one.5
  forth_from s t here {made} {end} {n} later (from-stop path) =
      let one = (keeps s t here).forth made (At (Stops end)) n path in forth_stop s t here made one.0 n one.2 end one.1 one.3 one.4 one.6 one.5
  forth_from s t here later (from-go {s = r} {items = made} {rest = rest} {all = all} {end = end} {n = n} {m = m} {total = total} path run same_items same_count) =
      let one = (keeps s t here).forth made (At (Goes r)) n path in
      let some = blocks.advances s ((leads s t here).0) made r n path in
      forth_go s t here made rest all one.0 r end n m total one.2 one.1 one.3 one.4 one.6 same_items same_count (λ u there. later r rest m (omega (arith, some, same_count)) run u there) one.5

  forth_within : (most : ℕ) {s : S} {made : List Item} {end : End} {n : ℕ} → n < most → Run step s made end n → (t : T) → Same s t → Forth t made end n
  forth_within zero le run t here = absurd (omega (arith, le))
  forth_within (suc most) {s} le run t here =
      forth_from s t here (λ r rest m fewer more u there. forth_within most (omega (arith, le, fewer)) more u there) (walk_from (to_block (blocks.unfolds s ((leads s t here).0)) (run_walk run)))

  back_cut : (s : S) (t : T) → Same s t → (made from : List Item) (n : ℕ) (i : Point (Next S)) → Path (block s) from i n → seen from ≡ seen made → SamePoint (SameNext Same) i Cut → Back s made Running
  back_cut s t here made from n i path same both-cut = (from, n, source_run s t here (from-cut path), same)

  back_stop : (s : S) (t : T) → Same s t → (made from : List Item) (n : ℕ) (end : End) (i : Point (Next S)) → Path (block s) from i n → seen from ≡ seen made → SamePoint (SameNext Same) i (At (Stops end)) → Back s made end
  back_stop s t here made from n end i path same (both-at both-stop) = (from, n, source_run s t here (from-stop path), same)

  back_go : (s : S) (t : T) → Same s t → (made rest all from : List Item) (u : T) (end : End) (n : ℕ) (i : Point (Next S)) → Path (block s) from i n → seen from ≡ seen made
      → all ≡ made ++ rest → ((r : S) → Same r u → Back r rest end) → SamePoint (SameNext Same) i (At (Goes u)) → Back s all end
  back_go s t here made rest all from u end n i path same same_items later (both-at (both-go {s = r} there)) =
      let two = later r there in
      (from ++ two.0, n + two.1, source_run s t here (from-go path two.2 refl refl), joined from two.0 made rest same two.3 ∙ ap seen (sym same_items))

  back_from : (s : S) (t : T) → Same s t → {made : List Item} {end : End} {n : ℕ}
      → ((u : T) (rest : List Item) (m : ℕ) → m < n → Run step' u rest end m → (r : S) → Same r u → Back r rest end)
      → From step' (block' t) made end n → Back s made end
  back_from s t here {made} {n = n} later (from-cut path) =
      let one = (keeps s t here).back made Cut n path in back_cut s t here made one.0 one.2 one.1 one.3 one.4 one.5
  back_from s t here {made} {end} {n} later (from-stop path) =
      let one = (keeps s t here).back made (At (Stops end)) n path in back_stop s t here made one.0 one.2 end one.1 one.3 one.4 one.5
  back_from s t here later (from-go {s = u} {items = made} {rest = rest} {all = all} {end = end} {n = n} {m = m} {total = total} path run same_items same_count) =
      let one = (keeps s t here).back made (At (Goes u)) n path in
      let some = blocks'.advances t ((leads s t here).1) made u n path in
      back_go s t here made rest all one.0 u end one.2 one.1 one.3 one.4 same_items (λ r there. later u rest m (omega (arith, some, same_count)) run r there) one.5

  back_within : (most : ℕ) {t : T} {made : List Item} {end : End} {n : ℕ} → n < most → Run step' t made end n → (s : S) → Same s t → Back s made end
  back_within zero le run s here = absurd (omega (arith, le))
  back_within (suc most) {t} le run s here =
      back_from s t here (λ u rest m fewer more r there. back_within most (omega (arith, le, fewer)) more r there) (walk_from (to_block (blocks'.unfolds t ((leads s t here).1)) (run_walk run)))

  -- each run of the source is matched by one of the target, within the rate
  pub blocks-forth : (s : S) (t : T) → Same s t → (made : List Item) (end : End) (n : ℕ) → Run step s made end n → Forth t made end n
  blocks-forth s t here made end n run = forth_within (suc n) (omega arith) run t here

  -- each run of the target is matched by one of the source
  pub blocks-back : (s : S) (t : T) → Same s t → (made : List Item) (end : End) (n : ℕ) → Run step' t made end n → Back s made end
  blocks-back s t here made end n run = back_within (suc n) (omega arith) run s here

-- two machines whose blocks keep the traces: forward simulation within the rate
pub blocks_forward : {S T : Type 0} (rate : ℕ) (Same : S → T → Type 0)
    (step block : S → Tree (Next S)) (IsLeader : S → Type 0) → AreBlocks step IsLeader block
    → (step' block' : T → Tree (Next T)) (IsLeader' : T → Type 0) → AreBlocks step' IsLeader' block'
    → ((s : S) (t : T) → Same s t → IsLeader s × IsLeader' t)
    → ((s : S) (t : T) → Same s t → Keeps trace rate 0 (SameNext Same) (block s) (block' t))
    → (s : S) (t : T) → Same s t → Forward rate step s step' t
blocks_forward rate Same step block IsLeader blocks step' block' IsLeader' blocks' leads keeps s t same made end n run =
    blocks-forth trace sees-trace rate Same step block IsLeader blocks step' block' IsLeader' blocks' leads keeps s t same made end n run

-- and backward simulation
pub blocks_backward : {S T : Type 0} (rate : ℕ) (Same : S → T → Type 0)
    (step block : S → Tree (Next S)) (IsLeader : S → Type 0) → AreBlocks step IsLeader block
    → (step' block' : T → Tree (Next T)) (IsLeader' : T → Type 0) → AreBlocks step' IsLeader' block'
    → ((s : S) (t : T) → Same s t → IsLeader s × IsLeader' t)
    → ((s : S) (t : T) → Same s t → Keeps trace rate 0 (SameNext Same) (block s) (block' t))
    → (s : S) (t : T) → Same s t → Backward step s step' t
blocks_backward rate Same step block IsLeader blocks step' block' IsLeader' blocks' leads keeps s t same made end n run =
    blocks-back trace sees-trace rate Same step block IsLeader blocks step' block' IsLeader' blocks' leads keeps s t same made end n run
