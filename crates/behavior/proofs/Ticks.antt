-- Trees that begin some instructions before they do anything else.
use Rattle.std.proofs.Common.{◌≡◌, ℕ, zero, suc, ◌+◌, ◌*◌, ◌≤◌, List, [], refl, ap, arith}
use Rattle.std.proofs.Math.Nat.{mul-suc, mul-add}
use Rattle.ev_graph.specs.declared.events.Item.{Item}
use Rattle.behavior.specs.Tree.{Tree, Begins, Point, Cut, Path, cut, begins, Next, ◌then◌, ticks}
use Rattle.behavior.specs.Kept.{SamePoint, both-cut, Keeps}
use Rattle.behavior.specs.Explained.{IsOpen}
use Rattle.behavior.proofs.Paths.{path_at}
use Rattle.behavior.proofs.Beside.{Beside, earn, more_credit}
use Rattle.behavior.proofs.SeenLemmas.{SeesByParts}

-- what comes behind comes behind the instructions
pub ticks-then : {S T : Type 0} (n : ℕ) (t : Tree (Next S)) (f : S → Tree (Next T)) → (ticks n t then f) ≡ ticks n (t then f)
ticks-then zero t f = refl
ticks-then (suc n) t f = ap Begins (ticks-then n t f)

-- instructions show nothing
pub open_ticks : {R : Type 0} (n : ℕ) (t : Tree R) → IsOpen t → IsOpen (ticks n t)
open_ticks zero t here = here
open_ticks (suc n) t here = open_ticks n t here

-- a path through the tree is one through it behind the instructions
pub path_ticks : {R : Type 0} (n : ℕ) {t : Tree R} {items : List Item} {p : Point R} {m : ℕ} → Path t items p m → Path (ticks n t) items p (n + m)
path_ticks zero {items = items} {m = m} path = path_at items items m (0 + m) refl (omega arith) path
path_ticks (suc n) {items = items} {m = m} path = path_at items items (suc (n + m)) (suc n + m) refl (omega arith) (begins (path_ticks n path))

-- how a path through instructions and then a tree comes about: it is cut in them, or goes beyond them
pub data Ticked {R : Type 0} (n : ℕ) (t : Tree R) : List Item → Point R → ℕ → Type 0 where
  cut-within : {k : ℕ} → Ticked n t [] Cut k
  behind : {items : List Item} {p : Point R} {m total : ℕ} → Path t items p m → total ≡ n + m → Ticked n t items p total

one_more : {R : Type 0} {n : ℕ} {t : Tree R} {items : List Item} {p : Point R} {total : ℕ} → Ticked n t items p total → Ticked (suc n) t items p (suc total)
one_more cut-within = cut-within
one_more (behind path same) = behind path (omega (arith, same))

pub ticked : {R : Type 0} (n : ℕ) (t : Tree R) {items : List Item} {p : Point R} {total : ℕ} → Path (ticks n t) items p total → Ticked n t items p total
ticked zero t {total = total} path = behind path (omega arith)
ticked (suc n) t cut = cut-within
ticked (suc n) t (begins path) = one_more (ticked n t path)

-- where the source begins n instructions, the credit grows n times
pub earn_many : (seen : List Item → List Item) → SeesByParts seen → (rate : ℕ) {A B : Type 0} (Same : A → B → Type 0) (n less more : ℕ) {p : Tree A} {q : Tree B}
    → more ≤ less + rate * n → Beside seen rate Same more p q → Beside seen rate Same less (ticks n p) q
earn_many seen sees rate Same zero less more le beside = more_credit seen sees rate Same less (omega (arith, le)) beside
earn_many seen sees rate Same (suc n) less more le beside =
    earn {more = less + rate} (omega arith) (earn_many seen sees rate Same n (less + rate) more (omega (arith, le, mul-suc rate n)) beside)

module _ (seen : List Item → List Item) (rate extra more : ℕ) {A B : Type 0} (Same : A → B → Type 0) (n m : ℕ) {p : Tree A} {q : Tree B}
    (le : extra + m ≤ rate * n + more) (keeps : Keeps seen rate extra Same p q) where
  forth_ticks : {from : List Item} {i : Point A} {k : ℕ} → Ticked n p from i k → (to : List Item) × (o : Point B) × (l : ℕ) × Path (ticks m q) to o l × (seen to ≡ seen from) × SamePoint Same i o × (l ≤ rate * k + more)
  forth_ticks cut-within = ([], Cut, 0, cut, refl, both-cut, omega arith)
  forth_ticks (behind {items = from} {p = i} {m = k} path same) =
      let one = keeps.forth from i k path in
      (one.0, one.1, m + one.2, path_ticks m one.3, one.4, one.5, omega (arith, le, one.6, mul-add rate n k, ap (λ c. rate * c) same))

  back_ticks : {to : List Item} {o : Point B} {l : ℕ} → Ticked m q to o l → (from : List Item) × (i : Point A) × (k : ℕ) × Path (ticks n p) from i k × (seen from ≡ seen to) × SamePoint Same i o
  back_ticks cut-within = ([], Cut, 0, cut, refl, both-cut)
  back_ticks (behind {items = to} {p = o} {m = l} path same) =
      let one = keeps.back to o l path in
      (one.0, one.1, n + one.2, path_ticks n one.3, one.4, one.5)

  -- both begin some instructions first, and the source enough
  pub keeps_ticks : Keeps seen rate more Same (ticks n p) (ticks m q)
  keeps_ticks = record {
    forth = λ from i k path. forth_ticks (ticked n p path);
    back = λ to o l path. back_ticks (ticked m q path);
  }
