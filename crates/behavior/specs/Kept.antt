-- What it means that one program does what another does.
use Rattle.std.specs.Prelude.{◌≡◌, ℕ, ◌+◌, ◌*◌, ◌≤◌, List}
use Rattle.ev_graph.specs.declared.events.Item.{Item}
use Rattle.ev_graph.specs.declared.events.End.{End}
use Rattle.behavior.specs.Tree.{Tree, Point, Cut, At, Path, Next, Goes, Stops}
use Rattle.behavior.specs.Run.{Run}
use Rattle.behavior.specs.Seen.{trace}

-- each run of the target is matched, as far as `seen` shows, by one of the source
abbrev pub BackwardBy : {S T : Type 0} → (List Item → List Item) → (S → Tree (Next S)) → S → (T → Tree (Next T)) → T → Type 0
BackwardBy seen source s target t = (made : List Item) (end : End) (n : ℕ) → Run target t made end n
    → (from : List Item) × (m : ℕ) × Run source s from end m × (seen from ≡ seen made)

-- each run of the source that has begun n instructions is matched by one of the target that has begun at most rate * n
abbrev pub ForwardBy : {S T : Type 0} → (List Item → List Item) → ℕ → (S → Tree (Next S)) → S → (T → Tree (Next T)) → T → Type 0
ForwardBy seen rate source s target t = (made : List Item) (end : End) (n : ℕ) → Run source s made end n
    → (to : List Item) × (m : ℕ) × Run target t to end m × (seen to ≡ seen made) × (m ≤ rate * n)

-- Backward simulation: each run of the target has the trace and the end of one of the source, on the same values.
abbrev pub Backward : {S T : Type 0} → (S → Tree (Next S)) → S → (T → Tree (Next T)) → T → Type 0
Backward source s target t = BackwardBy trace source s target t

-- Forward simulation: each run of the source that has begun n instructions has the trace and the end of one of the
-- target, on the same values, that has begun at most rate * n.
abbrev pub Forward : {S T : Type 0} → ℕ → (S → Tree (Next S)) → S → (T → Tree (Next T)) → T → Type 0
Forward rate source s target t = ForwardBy trace rate source s target t

-- two paths stop alike: both are cut, or both have come to results that are the same by `Same`
pub data SamePoint {A B : Type 0} (Same : A → B → Type 0) : Point A → Point B → Type 0 where
  both-cut : SamePoint Same Cut Cut
  both-at : {a : A} {b : B} → Same a b → SamePoint Same (At a) (At b)

-- two steps come out alike: both go on, in states that are the same by `Same`, or both stop with the same end
pub data SameNext {S T : Type 0} (Same : S → T → Type 0) : Next S → Next T → Type 0 where
  both-go : {s : S} {t : T} → Same s t → SameNext Same (Goes s) (Goes t)
  both-stop : {end : End} → SameNext Same (Stops end) (Stops end)

-- The meaning is kept: the same items, as far as `seen` shows, and the same result at every cut. Where the source has
-- begun n instructions, the target has begun at most rate * n + extra.
pub record Keeps {A B : Type 0} (seen : List Item → List Item) (rate extra : ℕ) (Same : A → B → Type 0) (source : Tree A) (target : Tree B) : Type 0 where
  pub forth : (from : List Item) (p : Point A) (n : ℕ) → Path source from p n
      → (to : List Item) × (q : Point B) × (m : ℕ) × Path target to q m × (seen to ≡ seen from) × SamePoint Same p q × (m ≤ rate * n + extra)
  pub back : (to : List Item) (q : Point B) (m : ℕ) → Path target to q m
      → (from : List Item) × (p : Point A) × (n : ℕ) × Path source from p n × (seen from ≡ seen to) × SamePoint Same p q

-- related by way of something between
abbrev pub Through : {A B C : Type 0} → (A → B → Type 0) → (B → C → Type 0) → A → C → Type 0
Through {B = B} First Second a c = (b : B) × First a b × Second b c
