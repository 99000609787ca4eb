-- How kept meanings compose: pass after pass, program after program.
use Rattle.std.proofs.Common.{◌≡◌, ℕ, suc, ◌+◌, ◌*◌, ◌≤◌, List, [], ◌++◌, refl, sym, ap, ◌∙◌, subst, arith}
use Rattle.std.proofs.Math.Nat.{mul-suc, mul-add, mul_assoc, mul-le-mul_left, mul-le-mul_right, add-mul}
use Rattle.ev_graph.specs.declared.events.Item.{Item}
use Rattle.ev_graph.specs.declared.events.End.{End}
use Rattle.behavior.specs.Tree.{Tree, Begins, Point, Cut, At, Path, cut, begins, Next, Goes, Stops, ◌then◌}
use Rattle.behavior.specs.Kept.{SamePoint, both-cut, both-at, SameNext, both-go, both-stop, Keeps, Through}
use Rattle.behavior.proofs.SeenLemmas.{SeesByParts, IsCoarser}
use Rattle.behavior.proofs.Paths.{path_cut, path_stop, path_then, Split, within, ended, beyond, split}

pub point_wider : {A B : Type 0} {Same Wider : A → B → Type 0} → ((a : A) (b : B) → Same a b → Wider a b) → {p : Point A} {q : Point B} → SamePoint Same p q → SamePoint Wider p q
point_wider wider both-cut = both-cut
point_wider wider (both-at {a = a} {b = b} same) = both-at (wider a b same)

pub next_wider : {S T : Type 0} {Same Wider : S → T → Type 0} → ((s : S) (t : T) → Same s t → Wider s t) → (a : Next S) (b : Next T) → SameNext Same a b → SameNext Wider a b
next_wider wider a b (both-go {s = s} {t = t} same) = both-go (wider s t same)
next_wider wider a b both-stop = both-stop

point_through : {A B C : Type 0} {First : A → B → Type 0} {Second : B → C → Type 0} {p : Point A} {q : Point B} {r : Point C} → SamePoint First p q → SamePoint Second q r → SamePoint (Through First Second) p r
point_through both-cut both-cut = both-cut
point_through (both-at {b = b} first) (both-at second) = both-at (b, first, second)

-- a pair of steps by way of a third, as steps of pairs
pub next_through : {S T U : Type 0} {First : S → T → Type 0} {Second : T → U → Type 0} (a : Next S) (c : Next U) → Through (SameNext First) (SameNext Second) a c → SameNext (Through First Second) a c
next_through a c (b, first, second) = next_join first second
  where
    next_join : {S T U : Type 0} {First : S → T → Type 0} {Second : T → U → Type 0} {a : Next S} {b : Next T} {c : Next U} → SameNext First a b → SameNext Second b c → SameNext (Through First Second) a c
    next_join (both-go {t = t} first) (both-go second) = both-go (t, first, second)
    next_join both-stop both-stop = both-stop

-- one pass after another: the rates multiply
pub keeps_through : {A B C : Type 0} (seen : List Item → List Item) (a e b d : ℕ) (First : A → B → Type 0) (Second : B → C → Type 0) {p : Tree A} {q : Tree B} {r : Tree C}
    → Keeps seen a e First p q → Keeps seen b d Second q r → Keeps seen (b * a) (b * e + d) (Through First Second) p r
keeps_through seen a e b d First Second first second = record {
  forth = λ from i n path.
      let one = first.forth from i n path in
      let two = second.forth one.0 one.1 one.2 one.3 in
      let few : b * one.2 ≤ b * (a * n + e) = mul-le-mul_left b one.6 in
      let all : b * (a * n + e) ≡ b * a * n + b * e = mul-add b (a * n) e ∙ ap (λ k. k + b * e) (sym (mul_assoc b a n)) in
      (two.0, two.1, two.2, two.3, two.4 ∙ one.4, point_through one.5 two.5, omega (arith, two.6, few, all));
  back = λ to o m path.
      let two = second.back to o m path in
      let one = first.back two.0 two.1 two.2 two.3 in
      (one.0, one.1, one.2, one.3, one.4 ∙ two.4, point_through one.5 two.5);
}

-- results that are the same by more, and more room for instructions
pub keeps_wider : {A B : Type 0} (seen : List Item → List Item) (rate extra more : ℕ) (Same Wider : A → B → Type 0) {p : Tree A} {q : Tree B}
    → extra ≤ more → ((a : A) (b : B) → Same a b → Wider a b) → Keeps seen rate extra Same p q → Keeps seen rate more Wider p q
keeps_wider seen rate extra more Same Wider le wider keeps = record {
  forth = λ from i n path.
      let one = keeps.forth from i n path in
      (one.0, one.1, one.2, one.3, one.4, point_wider wider one.5, omega (arith, le, one.6));
  back = λ to o m path.
      let one = keeps.back to o m path in
      (one.0, one.1, one.2, one.3, one.4, point_wider wider one.5);
}

-- a greater rate
pub keeps_faster : {A B : Type 0} (seen : List Item → List Item) (rate more extra : ℕ) (Same : A → B → Type 0) {p : Tree A} {q : Tree B}
    → rate ≤ more → Keeps seen rate extra Same p q → Keeps seen more extra Same p q
keeps_faster seen rate more extra Same le keeps = record {
  forth = λ from i n path.
      let one = keeps.forth from i n path in
      let few : rate * n ≤ more * n = mul-le-mul_right n le in
      (one.0, one.1, one.2, one.3, one.4, one.5, omega (arith, few, one.6));
  back = keeps.back;
}

-- less is seen
pub keeps_coarser : {A B : Type 0} (fine coarse : List Item → List Item) (rate extra : ℕ) (Same : A → B → Type 0) {p : Tree A} {q : Tree B}
    → IsCoarser fine coarse → Keeps fine rate extra Same p q → Keeps coarse rate extra Same p q
keeps_coarser fine coarse rate extra Same less keeps = record {
  forth = λ from i n path.
      let one = keeps.forth from i n path in
      (one.0, one.1, one.2, one.3, less one.0 from one.4, one.5, one.6);
  back = λ to o m path.
      let one = keeps.back to o m path in
      (one.0, one.1, one.2, one.3, less one.0 to one.4, one.5);
}

-- a tree keeps its own meaning
pub keeps_self : {A : Type 0} (seen : List Item → List Item) (p : Tree A) → Keeps seen 1 0 (λ a b. a ≡ b) p p
keeps_self {A} seen p = record {
  forth = λ from i n path. (from, i, n, path, refl, same_point i, omega arith);
  back = λ to o m path. (to, o, m, path, refl, same_point o);
}
  where
    same_point : {A : Type 0} (i : Point A) → SamePoint (λ (a b : A). a ≡ b) i i
    same_point Cut = both-cut
    same_point (At a) = both-at refl

-- What is spent beside the rate is paid by the first instruction.
pub keeps_first : {A B : Type 0} (seen : List Item → List Item) (rate extra : ℕ) (Same : A → B → Type 0) {p : Tree A} {q : Tree B}
    → Keeps seen rate extra Same (Begins p) q → Keeps seen (rate + extra) 0 Same (Begins p) q
keeps_first {A} {B} seen rate extra Same {p} {q} keeps = record { forth = λ from i n path. paid path; back = keeps.back }
  where
    paid : {from : List Item} {i : Point A} {n : ℕ} → Path (Begins p) from i n
        → (to : List Item) × (o : Point B) × (m : ℕ) × Path q to o m × (seen to ≡ seen from) × SamePoint Same i o × (m ≤ (rate + extra) * n + 0)
    paid cut = ([], Cut, 0, cut, refl, both-cut, omega arith)
    paid (begins {items = from} {p = i} {n = n} path) =
        let one = keeps.forth from i (suc n) (begins path) in
        (one.0, one.1, one.2, one.3, one.4, one.5, omega (arith, one.6, add-mul rate extra (suc n), mul-suc extra n))

module _ (seen : List Item → List Item) (sees : SeesByParts seen) {S T U V : Type 0} (rate extra later : ℕ) (Same : S → T → Type 0) (Later : U → V → Type 0)
    (f : S → Tree (Next U)) (g : T → Tree (Next V)) (afterwards : (s : S) (t : T) → Same s t → Keeps seen rate later (SameNext Later) (f s) (g t)) where
  joined : (x xs y ys : List Item) → seen x ≡ seen y → seen xs ≡ seen ys → seen (x ++ xs) ≡ seen (y ++ ys)
  joined x xs y ys first rest = sees.append x xs ∙ ap (λ l. l ++ seen xs) first ∙ ap (λ l. seen y ++ l) rest ∙ sym (sees.append y ys)

  abbrev Forth : Tree (Next T) → List Item → Point (Next U) → ℕ → Type 0
  Forth q from i n = (to : List Item) × (o : Point (Next V)) × (m : ℕ) × Path (q then g) to o m × (seen to ≡ seen from) × SamePoint (SameNext Later) i o × (m ≤ rate * n + (extra + later))

  abbrev Back : Tree (Next S) → List Item → Point (Next V) → Type 0
  Back p to o = (from : List Item) × (i : Point (Next U)) × (n : ℕ) × Path (p then f) from i n × (seen from ≡ seen to) × SamePoint (SameNext Later) i o

  forth_cut : (q : Tree (Next T)) (from to : List Item) (n m : ℕ) (o : Point (Next T)) → Path q to o m → seen to ≡ seen from → m ≤ rate * n + extra → SamePoint (SameNext Same) Cut o → Forth q from Cut n
  forth_cut q from to n m o path same few both-cut = (to, Cut, m, path_cut g path, same, both-cut, omega (arith, few))

  forth_stop : (q : Tree (Next T)) (from to : List Item) (n m : ℕ) (end : End) (o : Point (Next T)) → Path q to o m → seen to ≡ seen from → m ≤ rate * n + extra → SamePoint (SameNext Same) (At (Stops end)) o → Forth q from (At (Stops end)) n
  forth_stop q from to n m end o path same few (both-at both-stop) = (to, At (Stops end), m, path_stop g path, same, both-at both-stop, omega (arith, few))

  forth_go : (q : Tree (Next T)) (s : S) (xs ys all to : List Item) (n k total m : ℕ) (i : Point (Next U)) (o : Point (Next T)) → Path q to o m → seen to ≡ seen xs → m ≤ rate * n + extra
      → Path (f s) ys i k → all ≡ xs ++ ys → total ≡ n + k → SamePoint (SameNext Same) (At (Goes s)) o → Forth q all i total
  forth_go q s xs ys all to n k total m i o path same few more same_items same_count (both-at (both-go {t = t} here)) =
      let two = (afterwards s t here).forth ys i k more in (
        to ++ two.0,
        two.1,
        m + two.2,
        path_then g path two.3,
        joined to two.0 xs ys same two.4 ∙ ap seen (sym same_items),
        two.5,
        omega (arith, few, two.6, mul-add rate n k, ap (λ c. rate * c) same_count),
      )

  back_cut : (p : Tree (Next S)) (from to : List Item) (n : ℕ) (i : Point (Next S)) → Path p from i n → seen from ≡ seen to → SamePoint (SameNext Same) i Cut → Back p to Cut
  back_cut p from to n i path same both-cut = (from, Cut, n, path_cut f path, same, both-cut)

  back_stop : (p : Tree (Next S)) (from to : List Item) (n : ℕ) (end : End) (i : Point (Next S)) → Path p from i n → seen from ≡ seen to → SamePoint (SameNext Same) i (At (Stops end)) → Back p to (At (Stops end))
  back_stop p from to n end i path same (both-at both-stop) = (from, At (Stops end), n, path_stop f path, same, both-at both-stop)

  back_go : (p : Tree (Next S)) (t : T) (xs ys all from : List Item) (n m : ℕ) (i : Point (Next S)) (o : Point (Next V)) → Path p from i n → seen from ≡ seen xs
      → Path (g t) ys o m → all ≡ xs ++ ys → SamePoint (SameNext Same) i (At (Goes t)) → Back p all o
  back_go p t xs ys all from n m i o path same more same_items (both-at (both-go {s = s} here)) =
      let two = (afterwards s t here).back ys o m more in
      (from ++ two.0, two.1, n + two.2, path_then f path two.3, joined from two.0 xs ys same two.4 ∙ ap seen (sym same_items), two.5)

  forth_split : {p : Tree (Next S)} {q : Tree (Next T)} → Keeps seen rate extra (SameNext Same) p q → {from : List Item} {i : Point (Next U)} {n : ℕ} → Split p f from i n → Forth q from i n
  forth_split {q = q} keeps (within {xs = from} {n = n} path) =
      let one = keeps.forth from Cut n path in forth_cut q from one.0 n one.2 one.1 one.3 one.4 one.6 one.5
  forth_split {q = q} keeps (ended {end = end} {xs = from} {n = n} path) =
      let one = keeps.forth from (At (Stops end)) n path in forth_stop q from one.0 n one.2 end one.1 one.3 one.4 one.6 one.5
  forth_split {q = q} keeps (beyond {s = s} {p = i} {xs = xs} {ys = ys} {all = all} {n = n} {m = k} {total = total} path more same_items same_count) =
      let one = keeps.forth xs (At (Goes s)) n path in
      forth_go q s xs ys all one.0 n k total one.2 i one.1 one.3 one.4 one.6 more same_items same_count one.5

  back_split : {p : Tree (Next S)} {q : Tree (Next T)} → Keeps seen rate extra (SameNext Same) p q → {to : List Item} {o : Point (Next V)} {m : ℕ} → Split q g to o m → Back p to o
  back_split {p} keeps (within {xs = to} {n = m} path) =
      let one = keeps.back to Cut m path in back_cut p one.0 to one.2 one.1 one.3 one.4 one.5
  back_split {p} keeps (ended {end = end} {xs = to} {n = m} path) =
      let one = keeps.back to (At (Stops end)) m path in back_stop p one.0 to one.2 end one.1 one.3 one.4 one.5
  back_split {p} keeps (beyond {s = t} {p = o} {xs = xs} {ys = ys} {all = all} {n = n} {m = m} path more same_items same_count) =
      let one = keeps.back xs (At (Goes t)) n path in
      back_go p t xs ys all one.0 one.2 m one.1 o one.3 one.4 more same_items one.5

  -- one program after another, where both spend something beside the rate
  pub keeps_then_more : {p : Tree (Next S)} {q : Tree (Next T)} → Keeps seen rate extra (SameNext Same) p q → Keeps seen rate (extra + later) (SameNext Later) (p then f) (q then g)
  keeps_then_more {p} {q} keeps = record {
    forth = λ from i n path. forth_split keeps (split p f path);
    back = λ to o m path. back_split keeps (split q g path);
  }

-- one program after another
pub keeps_then : (seen : List Item → List Item) → SeesByParts seen → {S T U V : Type 0} (rate extra : ℕ) (Same : S → T → Type 0) (Later : U → V → Type 0)
    (f : S → Tree (Next U)) (g : T → Tree (Next V)) → ((s : S) (t : T) → Same s t → Keeps seen rate 0 (SameNext Later) (f s) (g t))
    → {p : Tree (Next S)} {q : Tree (Next T)} → Keeps seen rate extra (SameNext Same) p q → Keeps seen rate extra (SameNext Later) (p then f) (q then g)
keeps_then seen sees rate extra Same Later f g afterwards {p} {q} keeps =
    let e : extra + 0 ≡ extra = omega arith in
    subst (λ k. Keeps seen rate k (SameNext Later) (p then f) (q then g)) e (keeps_then_more seen sees rate extra 0 Same Later f g afterwards keeps)
