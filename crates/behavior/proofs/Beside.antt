-- Two trees side by side: the tool with which one instruction's meaning is shown to be kept. Both directions and the
-- bound on the count come out of it.
use Rattle.std.proofs.Common.{◌≡◌, ℕ, zero, suc, ◌+◌, ◌*◌, ◌<◌, ◌≤◌, List, [], ◌++◌, refl, sym, ap, ◌∙◌, arith}
use Rattle.ev_graph.specs.declared.events.Item.{Item}
use Rattle.behavior.specs.Tree.{Tree, Gives, Begins, Acts, Point, Cut, At, Path, cut, gives, begins, acts, ticks}
use Rattle.behavior.specs.Kept.{SamePoint, both-cut, both-at, Keeps}
use Rattle.behavior.proofs.SeenLemmas.{SeesByParts}
use Rattle.std.proofs.Math.Nat.{mul-suc}

-- The source and the target with a credit of instructions that the target may still begin. Where the source begins
-- one, the credit grows by the rate. An act is made by both, or by one alone where nothing is seen of it.
pub data Beside (seen : List Item → List Item) (rate : ℕ) {A B : Type 0} (Same : A → B → Type 0) : ℕ → Tree A → Tree B → Type 0 where
  give : {credit : ℕ} {a : A} {b : B} → Same a b → Beside seen rate Same credit (Gives a) (Gives b)
  earn : {less more : ℕ} {p : Tree A} {q : Tree B} → more ≤ less + rate → Beside seen rate Same more p q → Beside seen rate Same less (Begins p) q
  spend : {less more : ℕ} {p : Tree A} {q : Tree B} → suc less ≤ more → Beside seen rate Same less p q → Beside seen rate Same more p (Begins q)
  act : {credit range : ℕ} {made made' : ℕ → List Item} {p : ℕ → Tree A} {q : ℕ → Tree B}
      → ((v : ℕ) → v < range → seen (made' v) ≡ seen (made v)) → ((v : ℕ) → v < range → Beside seen rate Same credit (p v) (q v))
      → Beside seen rate Same credit (Acts range made p) (Acts range made' q)
  only-target : {credit range : ℕ} {made : ℕ → List Item} {p : Tree A} {q : ℕ → Tree B}
      → 0 < range → ((v : ℕ) → v < range → seen (made v) ≡ []) → ((v : ℕ) → v < range → Beside seen rate Same credit p (q v))
      → Beside seen rate Same credit p (Acts range made q)
  only-source : {credit range : ℕ} {made : ℕ → List Item} {p : ℕ → Tree A} {q : Tree B}
      → 0 < range → ((v : ℕ) → v < range → seen (made v) ≡ []) → ((v : ℕ) → v < range → Beside seen rate Same credit (p v) q)
      → Beside seen rate Same credit (Acts range made p) q

module _ (seen : List Item → List Item) (sees : SeesByParts seen) (rate : ℕ) {A B : Type 0} (Same : A → B → Type 0) where
  -- what the target does on a path of the source
  abbrev Forth : ℕ → Tree B → List Item → Point A → ℕ → Type 0
  Forth credit q from p n = (to : List Item) × (o : Point B) × (m : ℕ) × Path q to o m × (seen to ≡ seen from) × SamePoint Same p o × (m ≤ rate * n + credit)

  -- what the source does on a path of the target
  abbrev Back : Tree A → List Item → Point B → Type 0
  Back p to o = (from : List Item) × (i : Point A) × (n : ℕ) × Path p from i n × (seen from ≡ seen to) × SamePoint Same i o

  cut_forth : (credit : ℕ) (q : Tree B) → Forth credit q [] Cut 0
  cut_forth credit q = ([], Cut, 0, cut, refl, both-cut, omega arith)

  cut_back : (p : Tree A) → Back p [] Cut
  cut_back p = ([], Cut, 0, cut, refl, both-cut)

  earn_forth : (less more : ℕ) (q : Tree B) (from : List Item) (i : Point A) (n : ℕ) → more ≤ less + rate → Forth more q from i n → Forth less q from i (suc n)
  earn_forth less more q from i n le (to, o, m, path, same, alike, few) = (to, o, m, path, same, alike, omega (arith, le, few, mul-suc rate n))

  spend_forth : (less more : ℕ) (q : Tree B) (from : List Item) (i : Point A) (n : ℕ) → suc less ≤ more → Forth less q from i n → Forth more (Begins q) from i n
  spend_forth less more q from i n le (to, o, m, path, same, alike, few) = (to, o, suc m, begins path, same, alike, omega (arith, le, few))

  act_same : (x y xs ys : List Item) → seen x ≡ seen y → seen xs ≡ seen ys → seen (x ++ xs) ≡ seen (y ++ ys)
  act_same x y xs ys first rest = sees.append x xs ∙ ap (λ l. l ++ seen xs) first ∙ ap (λ l. seen y ++ l) rest ∙ sym (sees.append y ys)

  unseen : (x xs : List Item) → seen x ≡ [] → seen (x ++ xs) ≡ seen xs
  unseen x xs none = sees.append x xs ∙ ap (λ l. l ++ seen xs) none

  act_forth : (credit range : ℕ) (made made' : ℕ → List Item) (q : ℕ → Tree B) (from : List Item) (i : Point A) (n v : ℕ) → v < range → seen (made' v) ≡ seen (made v)
      → Forth credit (q v) from i n → Forth credit (Acts range made' q) (made v ++ from) i n
  act_forth credit range made made' q from i n v lt first (to, o, m, path, same, alike, few) =
      (made' v ++ to, o, m, acts v lt path, act_same (made' v) (made v) to from first same, alike, few)

  target_forth : (credit range : ℕ) (made : ℕ → List Item) (q : ℕ → Tree B) (from : List Item) (i : Point A) (n : ℕ) (some : 0 < range) → seen (made 0) ≡ []
      → Forth credit (q 0) from i n → Forth credit (Acts range made q) from i n
  target_forth credit range made q from i n some none (to, o, m, path, same, alike, few) =
      (made 0 ++ to, o, m, acts 0 some path, unseen (made 0) to none ∙ same, alike, few)

  source_forth : (credit : ℕ) (q : Tree B) (x from : List Item) (i : Point A) (n : ℕ) → seen x ≡ [] → Forth credit q from i n → Forth credit q (x ++ from) i n
  source_forth credit q x from i n none (to, o, m, path, same, alike, few) = (to, o, m, path, same ∙ sym (unseen x from none), alike, few)

  forth : {credit : ℕ} {p : Tree A} {q : Tree B} → Beside seen rate Same credit p q → {from : List Item} {i : Point A} {n : ℕ} → Path p from i n → Forth credit q from i n
  forth {credit} (give {b = b} same) cut = cut_forth credit (Gives b)
  forth {credit} (give {b = b} same) gives = ([], At b, 0, gives, refl, both-at same, omega arith)
  forth {credit} {q = q} (earn le beside) cut = cut_forth credit q
  forth {q = q} (earn {less = less} {more = more} le beside) (begins {items = from} {p = i} {n = n} path) = earn_forth less more q from i n le (forth beside path)
  forth (spend {less = less} {more = more} {q = q} le beside) {from} {i} {n} path = spend_forth less more q from i n le (forth beside path)
  forth {credit} {q = q} (act same beside) cut = cut_forth credit q
  forth {credit} (act {range = range} {made = made} {made' = made'} {q = q} same beside) (acts {items = from} {p = i} {n = n} v lt path) =
      act_forth credit range made made' q from i n v lt (same v lt) (forth (beside v lt) path)
  forth {credit} (only-target {range = range} {made = made} {q = q} some none beside) {from} {i} {n} path =
      target_forth credit range made q from i n some (none 0 some) (forth (beside 0 some) path)
  forth {credit} {q = q} (only-source some none beside) cut = cut_forth credit q
  forth {credit} {q = q} (only-source {made = made} some none beside) (acts {items = from} {p = i} {n = n} v lt path) =
      source_forth credit q (made v) from i n (none v lt) (forth (beside v lt) path)

  earn_back : (p : Tree A) (to : List Item) (o : Point B) → Back p to o → Back (Begins p) to o
  earn_back p to o (from, i, n, path, same, alike) = (from, i, suc n, begins path, same, alike)

  act_back : (range : ℕ) (made made' : ℕ → List Item) (p : ℕ → Tree A) (to : List Item) (o : Point B) (v : ℕ) → v < range → seen (made' v) ≡ seen (made v)
      → Back (p v) to o → Back (Acts range made p) (made' v ++ to) o
  act_back range made made' p to o v lt first (from, i, n, path, same, alike) =
      (made v ++ from, i, n, acts v lt path, act_same (made v) (made' v) from to (sym first) same, alike)

  target_back : (p : Tree A) (x to : List Item) (o : Point B) → seen x ≡ [] → Back p to o → Back p (x ++ to) o
  target_back p x to o none (from, i, n, path, same, alike) = (from, i, n, path, same ∙ sym (unseen x to none), alike)

  source_back : (range : ℕ) (made : ℕ → List Item) (p : ℕ → Tree A) (to : List Item) (o : Point B) → 0 < range → seen (made 0) ≡ [] → Back (p 0) to o → Back (Acts range made p) to o
  source_back range made p to o some none (from, i, n, path, same, alike) =
      (made 0 ++ from, i, n, acts 0 some path, unseen (made 0) from none ∙ same, alike)

  back : {credit : ℕ} {p : Tree A} {q : Tree B} → Beside seen rate Same credit p q → {to : List Item} {o : Point B} {m : ℕ} → Path q to o m → Back p to o
  back (give {a = a} same) cut = cut_back (Gives a)
  back (give {a = a} same) gives = ([], At a, 0, gives, refl, both-at same)
  back (earn {p = p} le beside) {to} {o} path = earn_back p to o (back beside path)
  back {p = p} (spend le beside) cut = cut_back p
  back (spend le beside) (begins path) = back beside path
  back {p = p} (act same beside) cut = cut_back p
  back (act {range = range} {made = made} {made' = made'} {p = p} same beside) (acts {items = to} {p = o} v lt path) =
      act_back range made made' p to o v lt (same v lt) (back (beside v lt) path)
  back {p = p} (only-target some none beside) cut = cut_back p
  back {p = p} (only-target {made = made} some none beside) (acts {items = to} {p = o} v lt path) =
      target_back p (made v) to o (none v lt) (back (beside v lt) path)
  back (only-source {range = range} {made = made} {p = p} some none beside) {to} {o} path =
      source_back range made p to o some (none 0 some) (back (beside 0 some) path)

  -- what stands side by side has one meaning
  pub beside_keeps : {credit : ℕ} {p : Tree A} {q : Tree B} → Beside seen rate Same credit p q → Keeps seen rate credit Same p q
  beside_keeps beside = record { forth = λ from i n path. forth beside path; back = λ to o m path. back beside path }

  -- more credit does no harm
  pub more_credit : {few : ℕ} (many : ℕ) {p : Tree A} {q : Tree B} → few ≤ many → Beside seen rate Same few p q → Beside seen rate Same many p q
  more_credit many le (give same) = give same
  more_credit many le (earn {more = more} some beside) = earn {more = more} (omega (arith, le, some)) beside
  more_credit many le (spend {less = less} some beside) = spend {less = less} (omega (arith, le, some)) beside
  more_credit many le (act same beside) = act same (λ v lt. more_credit many le (beside v lt))
  more_credit many le (only-target some none beside) = only-target some none (λ v lt. more_credit many le (beside v lt))
  more_credit many le (only-source some none beside) = only-source some none (λ v lt. more_credit many le (beside v lt))

  -- n instructions of the target before it does anything else
  pub spend_many : (n few many : ℕ) {p : Tree A} {q : Tree B} → few + n ≤ many → Beside seen rate Same few p q → Beside seen rate Same many p (ticks n q)
  spend_many zero few many le beside = more_credit many (omega (arith, le)) beside
  spend_many (suc n) few many le beside = spend {less = few + n} (omega (arith, le)) (spend_many n few (few + n) (omega arith) beside)
