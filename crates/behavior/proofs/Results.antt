-- What is known of all results of a tree, and a tree beside itself before what is side by side.
use Rattle.std.proofs.Common.{◌≡◌, ℕ, ◌+◌, ◌≤◌, List, refl, subst, arith}
use Rattle.ev_graph.specs.declared.events.Item.{Item}
use Rattle.behavior.specs.Tree.{Tree, Gives, Begins, Acts, Point, At, Path, gives, begins, acts, Next, Goes, Stops, ◌then◌}
use Rattle.behavior.specs.Kept.{SamePoint, both-cut, both-at, SameNext, both-go, both-stop, Keeps}
use Rattle.behavior.proofs.Beside.{Beside, give, earn, spend, act}
use Rattle.behavior.proofs.Unfolding.{AllResults}

-- a result at which a path stops has the property
pub result_at : {S : Type 0} (P : S → Type 0) {t : Tree (Next S)} {items : List Item} {s : S} {n : ℕ} → Path t items (At (Goes s)) n → AllResults P t → P s
result_at P gives all = all
result_at P (begins path) all = result_at P path all
result_at P (acts v lt path) all = result_at P path (all v lt)

-- nothing need be known
pub results_any : {S : Type 0} (t : Tree (Next S)) → AllResults (λ s. Unit {0}) t
results_any (Gives (Goes s)) = tt
results_any (Gives (Stops end)) = tt
results_any (Begins t) = results_any t
results_any (Acts range made next) = λ v lt. results_any (next v)

-- what holds of the results of a tree, and of those of what follows
pub results_then : {S T : Type 0} (P : S → Type 0) (Q : T → Type 0) (t : Tree (Next S)) (f : S → Tree (Next T)) → AllResults P t → ((s : S) → P s → AllResults Q (f s)) → AllResults Q (t then f)
results_then P Q (Gives (Goes s)) f results later = later s results
results_then P Q (Gives (Stops end)) f results later = tt
results_then P Q (Begins t) f results later = results_then P Q t f results later
results_then P Q (Acts range made next) f results later = λ v lt. results_then P Q (next v) f (results v lt) later

-- a tree beside itself, before what is side by side after its results
pub self_then : (seen : List Item → List Item) (rate : ℕ) → 1 ≤ rate → {S T U : Type 0} (P : S → Type 0) (Same : T → U → Type 0) (credit : ℕ) (t : Tree (Next S)) (f : S → Tree (Next T)) (g : S → Tree (Next U))
    → AllResults P t → ((s : S) → P s → Beside seen rate (SameNext Same) credit (f s) (g s)) → Beside seen rate (SameNext Same) credit (t then f) (t then g)
self_then seen rate le P Same credit (Gives (Goes s)) f g results here = here s results
self_then seen rate le P Same credit (Gives (Stops end)) f g results here = give both-stop
self_then seen rate le P Same credit (Begins t) f g results here =
    earn {more = credit + 1} (omega (arith, le)) (spend {less = credit} (omega arith) (self_then seen rate le P Same credit t f g results here))
self_then seen rate le P Same credit (Acts range made next) f g results here =
    act (λ v lt. refl) (λ v lt. self_then seen rate le P Same credit (next v) f g (results v lt) here)

-- what is kept holds where more is known of the source's and of the target's results
module _ (seen : List Item → List Item) (rate extra : ℕ) {S T : Type 0} (Same : S → T → Type 0) (P : S → Type 0) (Q : T → Type 0) where
  -- the same, and what is known of each
  abbrev pub Known : S → T → Type 0
  Known s t = Same s t × P s × Q t

  point_known : {p : Point (Next S)} {q : Point (Next T)} → ((s : S) → p ≡ At (Goes s) → P s) → ((t : T) → q ≡ At (Goes t) → Q t) → SamePoint (SameNext Same) p q → SamePoint (SameNext Known) p q
  point_known source target both-cut = both-cut
  point_known source target (both-at (both-go {s = s} {t = t} same)) = both-at (both-go (same, source s refl, target t refl))
  point_known source target (both-at both-stop) = both-at both-stop

  pub keeps_known : {p : Tree (Next S)} {q : Tree (Next T)} → AllResults P p → AllResults Q q → Keeps seen rate extra (SameNext Same) p q → Keeps seen rate extra (SameNext Known) p q
  keeps_known {p} {q} sources targets keeps = record {
    forth = λ from i n path.
        let one = keeps.forth from i n path in (
          one.0,
          one.1,
          one.2,
          one.3,
          one.4,
          point_known (λ s e. result_at P (subst (λ r. Path p from r n) e path) sources) (λ t e. result_at Q (subst (λ r. Path q one.0 r one.2) e one.3) targets) one.5,
          one.6,
        );
    back = λ to o m path.
        let one = keeps.back to o m path in (
          one.0,
          one.1,
          one.2,
          one.3,
          one.4,
          point_known (λ s e. result_at P (subst (λ r. Path p one.0 r one.2) e one.3) sources) (λ t e. result_at Q (subst (λ r. Path q to r m) e path) targets) one.5,
        );
  }
