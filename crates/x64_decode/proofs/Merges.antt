-- The merged reading of many rows, and those of each.
use Rattle.std.proofs.Common.{◌≡◌, ℕ, ◌+◌, ◌<◌, ◌≤◌, min, Bool, false, List, [], ◌∷◌, length, drop, get_or, ◌⊎◌, inl, inr, refl, sym, ◌∙◌, ap, subst, arith}
use Rattle.std.proofs.lemmas.List.{drop_more}
use Rattle.std.proofs.lemmas.Bool.{cases_lt}
use Rattle.x64_decode.specs.declared.reading.Reading.{Reading}
use Rattle.x64_decode.specs.declared.reading.Reading.TheVariants.{Done, More, Bad}
use Rattle.x64_decode.specs.declared.row.Front.{Front}
use Rattle.x64_decode.specs.declared.row.Row.{Row}
use Rattle.x64_decode.specs.Reading.{IsWithin, agrees, merge, row_reading, rows_reading}
use Rattle.x64_decode.specs.Spelling.{StandsIn}

-- a reading that finds an instruction, or at most so many bytes missing
abbrev pub Meets : Reading → ℕ → Type 0
Meets (Done i n) k = Unit {0}
Meets (More m) k = m ≤ k
Meets Bad k = ⊥

-- a reading that finds an instruction
abbrev pub IsDone : Reading → Type 0
IsDone (Done i n) = Unit {0}
IsDone _ = ⊥

pub merge_assoc : (a b c : Reading) → merge (merge a b) c ≡ merge a (merge b c)
merge_assoc (Done i n) b c = refl
merge_assoc (More k) (Done j m) c = refl
merge_assoc (More k) (More m) (Done i n) = refl
merge_assoc (More k) (More m) (More n) = let e : min (min k m) n ≡ min k (min m n) = omega arith in ap More e
merge_assoc (More k) (More m) Bad = refl
merge_assoc (More k) Bad c = refl
merge_assoc Bad b c = refl

pub merge-bad : (a : Reading) → merge a Bad ≡ a
merge-bad (Done i n) = refl
merge-bad (More k) = refl
merge-bad Bad = refl

pub merge-within : (k : ℕ) (a b : Reading) → IsWithin k a → IsWithin k b → IsWithin k (merge a b)
merge-within k (Done i n) b h h' = h
merge-within k (More m) (Done i n) h h' = h'
merge-within k (More m) (More n) h h' = tt
merge-within k (More m) Bad h h' = tt
merge-within k Bad b h h' = h'

-- a row whose code disagrees reads nothing
pub row_reading-skipped : (f : Front) (r : Row) (body : List ℕ) → agrees r.code body ≡ false → row_reading f r body ≡ Bad
unfolding row_reading
row_reading-skipped f r body h = rw h refl

-- a step of the walk over the rows, where y is what the row at i reads
pub rows_reading-step : (f : Front) (rows : List Row) (body : List ℕ) (i : ℕ) (d : Row) (x y : Reading) →
    i < length rows → y ≡ row_reading f (get_or rows i d) body →
    rows_reading f rows body ≡ merge x (rows_reading f (drop i rows) body) →
    rows_reading f rows body ≡ merge (merge x y) (rows_reading f (drop (i + 1) rows) body)
rows_reading-step f rows body i d x y below is h =
    let e : drop i rows ≡ get_or rows i d ∷ drop (i + 1) rows = drop_more rows i d below in
    let h' : rows_reading f rows body ≡ merge x (merge (row_reading f (get_or rows i d) body) (rows_reading f (drop (i + 1) rows) body)) = rw e at h in
    let h'' : rows_reading f rows body ≡ merge x (merge y (rows_reading f (drop (i + 1) rows) body)) = rw (sym is) at h' in
    h'' ∙ sym (merge_assoc x y (rows_reading f (drop (i + 1) rows) body))

-- a step over a row whose code disagrees
pub rows_reading-skip : (f : Front) (rows : List Row) (body : List ℕ) (i : ℕ) (d : Row) (x : Reading) (b : Bool) →
    i < length rows → b ≡ agrees (get_or rows i d).code body → b ≡ false →
    rows_reading f rows body ≡ merge x (rows_reading f (drop i rows) body) →
    rows_reading f rows body ≡ merge x (rows_reading f (drop (i + 1) rows) body)
rows_reading-skip f rows body i d x b below is disagrees h =
    let bad : row_reading f (get_or rows i d) body ≡ Bad = row_reading-skipped f (get_or rows i d) body (sym is ∙ disagrees) in
    let h' : rows_reading f rows body ≡ merge (merge x Bad) (rows_reading f (drop (i + 1) rows) body) = rows_reading-step f rows body i d x Bad below (sym bad) h in
    rw (merge-bad x) at h'

meets_left : (a b : Reading) (k : ℕ) → Meets a k → Meets (merge a b) k
meets_left (Done i n) b k h = tt
meets_left (More m) (Done i n) k h = tt
meets_left (More m) (More n) k h = omega arith
meets_left (More m) Bad k h = h
meets_left Bad b k h = absurd h

meets_right : (a b : Reading) (k : ℕ) → Meets b k → Meets (merge a b) k
meets_right (Done i n) b k h = tt
meets_right (More m) (Done i n) k h = tt
meets_right (More m) (More n) k h = omega arith
meets_right (More m) Bad k h = absurd h
meets_right Bad b k h = h

-- where one row's reading meets a count, that of all does
pub rows_reading-meets : (f : Front) (rows : List Row) (r : Row) (body : List ℕ) (k : ℕ) →
    StandsIn rows r → Meets (row_reading f r body) k → Meets (rows_reading f rows body) k
rows_reading-meets f [] r body k stands h = absurd stands
rows_reading-meets f (x ∷ xs) r body k (inl e) h =
    let P : Row → Type 0 = λ q. Meets (row_reading f q body) k in
    meets_left (row_reading f x body) (rows_reading f xs body) k (subst P e h)
rows_reading-meets f (x ∷ xs) r body k (inr stands) h =
    meets_right (row_reading f x body) (rows_reading f xs body) k (rows_reading-meets f xs r body k stands h)

done_left : (a b : Reading) → IsDone a → IsDone (merge a b)
done_left (Done i n) b h = tt
done_left (More m) b h = absurd h
done_left Bad b h = absurd h

done_right : (a b : Reading) → IsDone b → IsDone (merge a b)
done_right (Done i n) b h = tt
done_right (More m) (Done i n) h = tt
done_right (More m) (More n) h = absurd h
done_right (More m) Bad h = absurd h
done_right Bad b h = h

-- where one row finds an instruction, all together find one
pub rows_reading-done : (f : Front) (rows : List Row) (r : Row) (body : List ℕ) →
    StandsIn rows r → IsDone (row_reading f r body) → IsDone (rows_reading f rows body)
rows_reading-done f [] r body stands h = absurd stands
rows_reading-done f (x ∷ xs) r body (inl e) h =
    let P : Row → Type 0 = λ q. IsDone (row_reading f q body) in
    done_left (row_reading f x body) (rows_reading f xs body) (subst P e h)
rows_reading-done f (x ∷ xs) r body (inr stands) h =
    done_right (row_reading f x body) (rows_reading f xs body) (rows_reading-done f xs r body stands h)

-- what all together read, one row of them read
abbrev pub ReadsBy : Front → List Row → List ℕ → Reading → Type 0
ReadsBy f rows body x = (r : Row) × StandsIn rows r × (row_reading f r body ≡ x)

least_of : (k m : ℕ) (x : Reading) → More (min k m) ≡ x → (More k ≡ x) ⊎ (More m ≡ x)
least_of k m x h =
    elim (cases_lt k m) [
      | inl below ↦ inl (let e : k ≡ min k m = omega arith in ap More e ∙ h)
      | inr above ↦ inr (let e : m ≡ min k m = omega arith in ap More e ∙ h)
    ]

one_of : (a b : Reading) (x : Reading) → (x ≡ Bad → ⊥) → merge a b ≡ x → (a ≡ x) ⊎ (b ≡ x)
one_of (Done i n) b x good h = inl h
one_of (More k) (Done i n) x good h = inr h
one_of (More k) (More m) x good h = least_of k m x h
one_of (More k) Bad x good h = inl h
one_of Bad b x good h = inr h

pub rows_reading-by : (f : Front) (rows : List Row) (body : List ℕ) (x : Reading) → (x ≡ Bad → ⊥) →
    rows_reading f rows body ≡ x → ReadsBy f rows body x
rows_reading-by f [] body x good h = absurd (good (sym h))
rows_reading-by f (r ∷ rs) body x good h =
    elim (one_of (row_reading f r body) (rows_reading f rs body) x good h) [
      | inl e ↦ (r, inl refl, e)
      | inr e ↦ (let by : ReadsBy f rs body x = rows_reading-by f rs body x good e in (by.0, inr by.1, by.2))
    ]
