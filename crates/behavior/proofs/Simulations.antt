-- Two machines whose steps keep the meaning have the same runs.
use Rattle.std.proofs.Common.{◌≡◌, ℕ, ◌+◌, ◌*◌, ◌≤◌, List, ◌++◌, sym, ap, ◌∙◌, arith}
use Rattle.std.proofs.Math.Nat.{mul-add}
use Rattle.ev_graph.specs.declared.events.Item.{Item}
use Rattle.ev_graph.specs.declared.events.End.{End}
use Rattle.ev_graph.specs.declared.events.End.TheVariants.{Running}
use Rattle.behavior.specs.Tree.{Tree, Point, Cut, At, Path, Next, Goes, Stops}
use Rattle.behavior.specs.Run.{Run, cuts, stops, goes_on}
use Rattle.behavior.specs.Seen.{trace}
use Rattle.behavior.specs.Kept.{Backward, Forward, SamePoint, both-cut, both-at, SameNext, both-go, both-stop, Keeps}
use Rattle.behavior.proofs.SeenLemmas.{SeesByParts, sees-trace}

module _ (seen : List Item → List Item) (sees : SeesByParts seen) {S T : Type 0} (rate : ℕ) (Same : S → T → Type 0) (source : S → Tree (Next S)) (target : T → Tree (Next T))
    (keeps : (s : S) (t : T) → Same s t → Keeps seen rate 0 (SameNext Same) (source s) (target t)) where
  joined : (x xs y ys : List Item) → seen x ≡ seen y → seen xs ≡ seen ys → seen (x ++ xs) ≡ seen (y ++ ys)
  joined x xs y ys first rest = sees.append x xs ∙ ap (λ l. l ++ seen xs) first ∙ ap (λ l. seen y ++ l) rest ∙ sym (sees.append y ys)

  abbrev Forth : T → List Item → End → ℕ → Type 0
  Forth t made end n = (to : List Item) × (m : ℕ) × Run target t to end m × (seen to ≡ seen made) × (m ≤ rate * n)

  abbrev Back : S → List Item → End → Type 0
  Back s made end = (from : List Item) × (m : ℕ) × Run source s from end m × (seen from ≡ seen made)

  forth_cut : (t : T) (made to : List Item) (n m : ℕ) (o : Point (Next T)) → Path (target t) to o m → seen to ≡ seen made → m ≤ rate * n + 0 → SamePoint (SameNext Same) Cut o → Forth t made Running n
  forth_cut t made to n m o path same few both-cut = (to, m, cuts path, same, omega (arith, few))

  forth_stop : (t : T) (made to : List Item) (n m : ℕ) (end : End) (o : Point (Next T)) → Path (target t) to o m → seen to ≡ seen made → m ≤ rate * n + 0 → SamePoint (SameNext Same) (At (Stops end)) o → Forth t made end n
  forth_stop t made to n m end o path same few (both-at both-stop) = (to, m, stops path, same, omega (arith, few))

  forth_go : (t : T) (made rest to : List Item) (s : S) (end : End) (n m k : ℕ) (o : Point (Next T)) → Path (target t) to o k → seen to ≡ seen made → k ≤ rate * n + 0
      → ((u : T) → Same s u → Forth u rest end m) → SamePoint (SameNext Same) (At (Goes s)) o → Forth t (made ++ rest) end (n + m)
  forth_go t made rest to s end n m k o path same few later (both-at (both-go {t = u} here)) =
      let two = later u here in
      (to ++ two.0, k + two.1, goes_on path two.2, joined to two.0 made rest same two.3, omega (arith, few, two.4, mul-add rate n m))

  back_cut : (s : S) (made from : List Item) (n : ℕ) (i : Point (Next S)) → Path (source s) from i n → seen from ≡ seen made → SamePoint (SameNext Same) i Cut → Back s made Running
  back_cut s made from n i path same both-cut = (from, n, cuts path, same)

  back_stop : (s : S) (made from : List Item) (n : ℕ) (end : End) (i : Point (Next S)) → Path (source s) from i n → seen from ≡ seen made → SamePoint (SameNext Same) i (At (Stops end)) → Back s made end
  back_stop s made from n end i path same (both-at both-stop) = (from, n, stops path, same)

  back_go : (s : S) (made rest from : List Item) (t : T) (end : End) (n : ℕ) (i : Point (Next S)) → Path (source s) from i n → seen from ≡ seen made
      → ((r : S) → Same r t → Back r rest end) → SamePoint (SameNext Same) i (At (Goes t)) → Back s (made ++ rest) end
  back_go s made rest from t end n i path same later (both-at (both-go {s = r} here)) =
      let two = later r here in
      (from ++ two.0, n + two.1, goes_on path two.2, joined from two.0 made rest same two.3)

  -- each run of the source is matched by one of the target, within the rate
  pub runs-forth : {s : S} {made : List Item} {end : End} {n : ℕ} → Run source s made end n → (t : T) → Same s t → Forth t made end n
  runs-forth {s} {made} {n = n} (cuts path) t same =
      let one = (keeps s t same).forth made Cut n path in forth_cut t made one.0 n one.2 one.1 one.3 one.4 one.6 one.5
  runs-forth {s} {made} {end} {n} (stops path) t same =
      let one = (keeps s t same).forth made (At (Stops end)) n path in forth_stop t made one.0 n one.2 end one.1 one.3 one.4 one.6 one.5
  runs-forth {s} (goes_on {t = r} {items = made} {rest = rest} {end = end} {n = n} {m = m} path run) t same =
      let one = (keeps s t same).forth made (At (Goes r)) n path in
      forth_go t made rest one.0 r end n m one.2 one.1 one.3 one.4 one.6 (λ u here. runs-forth run u here) one.5

  -- each run of the target is matched by one of the source
  pub runs-back : {t : T} {made : List Item} {end : End} {n : ℕ} → Run target t made end n → (s : S) → Same s t → Back s made end
  runs-back {t} {made} {n = n} (cuts path) s same =
      let one = (keeps s t same).back made Cut n path in back_cut s made one.0 one.2 one.1 one.3 one.4 one.5
  runs-back {t} {made} {end} {n} (stops path) s same =
      let one = (keeps s t same).back made (At (Stops end)) n path in back_stop s made one.0 one.2 end one.1 one.3 one.4 one.5
  runs-back {t} (goes_on {t = u} {items = made} {rest = rest} {end = end} {n = n} path run) s same =
      let one = (keeps s t same).back made (At (Goes u)) n path in
      back_go s made rest one.0 u end one.2 one.1 one.3 one.4 (λ r here. runs-back run r here) one.5

-- machines whose steps keep the traces: forward simulation within the rate
pub runs-forward : {S T : Type 0} (rate : ℕ) (Same : S → T → Type 0) (source : S → Tree (Next S)) (target : T → Tree (Next T))
    → ((s : S) (t : T) → Same s t → Keeps trace rate 0 (SameNext Same) (source s) (target t)) → (s : S) (t : T) → Same s t → Forward rate source s target t
runs-forward rate Same source target keeps s t same made end n run = runs-forth trace sees-trace rate Same source target keeps run t same

-- and backward simulation
pub runs-backward : {S T : Type 0} (rate : ℕ) (Same : S → T → Type 0) (source : S → Tree (Next S)) (target : T → Tree (Next T))
    → ((s : S) (t : T) → Same s t → Keeps trace rate 0 (SameNext Same) (source s) (target t)) → (s : S) (t : T) → Same s t → Backward source s target t
runs-backward rate Same source target keeps s t same made end n run = runs-back trace sees-trace rate Same source target keeps run s same
