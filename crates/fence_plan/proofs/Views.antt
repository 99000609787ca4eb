-- Barriers between accesses that are not private are the same in two runs of which one follows the other.
use Rattle.std.proofs.Common.{◌≡◌, ◌⊎◌, inl, inr, ℕ, zero, suc, ◌<◌, ◌≤◌, Bool, true, false, List, [], ◌∷◌, ◌++◌, length, Some, refl, sym, ap, ◌∙◌, subst, arith}
use Rattle.std.specs.Prelude.{slice_get, if◌then◌else◌}
use Rattle.ev_graph.specs.declared.events.Access.{Access}
use Rattle.ev_graph.specs.declared.events.FenceItem.{FenceItem}
use Rattle.ev_graph.specs.declared.events.FenceKind.{FenceKind}
use Rattle.ev_graph.specs.declared.events.Item.{Item}
use Rattle.ev_graph.specs.declared.events.Item.TheVariants as items
use Rattle.ev_graph.specs.declared.events.Transfer.{Transfer}
use Rattle.ev_graph.specs.Events.{accesses, accesses_before, FenceBetween}
use Rattle.fence_plan.specs.Planned.{is_barrier, with_barrier, shared_view}
use Rattle.fence_plan.proofs.Mapped.{both, none_there}

-- whether the access with this number is left out
abbrev pub is_hidden : List Bool → ℕ → Bool
is_hidden [] n = false
is_hidden (turn ∷ turns) zero = turn
is_hidden (turn ∷ turns) (suc n) = is_hidden turns n

-- how many of the first n are not
abbrev pub shown : List Bool → ℕ → ℕ
shown turns zero = 0
shown [] (suc n) = suc (shown [] n)
shown (true ∷ turns) (suc n) = shown turns n
shown (false ∷ turns) (suc n) = suc (shown turns n)

shown_rises : (turns : List Bool) (m n : ℕ) → m ≤ n → shown turns m ≤ shown turns n
shown_rises turns zero n le = omega arith
shown_rises turns (suc m) zero le = absurd (omega (arith, le))
shown_rises [] (suc m) (suc n) le = let rest = shown_rises [] m n (omega (arith, le)) in omega (arith, rest)
shown_rises (true ∷ turns) (suc m) (suc n) le = shown_rises turns m n (omega (arith, le))
shown_rises (false ∷ turns) (suc m) (suc n) le = let rest = shown_rises turns m n (omega (arith, le)) in omega (arith, rest)

shown_next : (turns : List Bool) (n : ℕ) → is_hidden turns n ≡ false → shown turns (suc n) ≡ suc (shown turns n)
shown_next [] zero here = refl
shown_next [] (suc n) here = ap suc (shown_next [] n refl)
shown_next (true ∷ turns) zero here = absurd (both refl here)
shown_next (false ∷ turns) zero here = refl
shown_next (true ∷ turns) (suc n) here = shown_next turns n here
shown_next (false ∷ turns) (suc n) here = ap suc (shown_next turns n here)

no_access : {a : Access} {f : FenceItem} → Some (items.Access a) ≡ Some (items.Fence f) → ⊥
no_access e = absurd cc

no_input : {t : Transfer} {f : FenceItem} → Some (items.Input t) ≡ Some (items.Fence f) → ⊥
no_input e = absurd cc

no_output : {t : Transfer} {f : FenceItem} → Some (items.Output t) ≡ Some (items.Fence f) → ⊥
no_output e = absurd cc

same_fence : {f g : FenceItem} → Some (items.Fence f) ≡ Some (items.Fence g) → f ≡ g
same_fence e = cc

-- a barrier in a view, with so many accesses before it
record InView (view : List Item) (kind : FenceKind) (count : ℕ) : Type 0 where
  place : ℕ
  fence : FenceItem
  here : slice_get view place ≡ Some (items.Fence fence)
  same : fence.kind ≡ kind
  many : accesses_before view place ≡ count

one_access : (a : Access) (view : List Item) (kind : FenceKind) (count : ℕ) → InView view kind count → InView (items.Access a ∷ view) kind (suc count)
one_access a view kind count v = record { place = suc v.place; fence = v.fence; here = v.here; same = v.same; many = ap suc v.many }

one_fence : (f : FenceItem) (view : List Item) (kind : FenceKind) (count : ℕ) → InView view kind count → InView (items.Fence f ∷ view) kind count
one_fence f view kind count v = record { place = suc v.place; fence = v.fence; here = v.here; same = v.same; many = v.many }

-- behind a fence that is kept or left out
behind_kept : (kind : FenceKind) (view : List Item) (k : FenceKind) (count : ℕ) → InView view k count → InView (with_barrier kind view) k count
behind_kept kind view k count v = by (is_barrier kind)
  where
    by : (b : Bool) → InView (if b then items.Fence (record { kind = kind; place = 0 }) ∷ view else view) k count
    by true = one_fence (record { kind = kind; place = 0 }) view k count v
    by false = v

kept_here : (kind : FenceKind) (view : List Item) → is_barrier kind ≡ true → InView (with_barrier kind view) kind 0
kept_here kind view kept =
    subst (λ b. InView (if b then items.Fence (record { kind = kind; place = 0 }) ∷ view else view) kind 0) (sym kept) (record { place = 0; fence = record { kind = kind; place = 0 }; here = refl; same = refl; many = refl })

-- a barrier of a run stands in its view
in_view : (turns : List Bool) (xs : List Item) (p : ℕ) (f : FenceItem) → slice_get xs p ≡ Some (items.Fence f) → is_barrier f.kind ≡ true → InView (shared_view turns xs) f.kind (shown turns (accesses_before xs p))
in_view turns [] p f e kept = absurd (none_there e)
in_view turns (items.Access a ∷ xs) zero f e kept = absurd (no_access e)
in_view [] (items.Access a ∷ xs) (suc p) f e kept = one_access (record a { place = 0 }) (shared_view [] xs) f.kind (shown [] (accesses_before xs p)) (in_view [] xs p f e kept)
in_view (true ∷ turns) (items.Access a ∷ xs) (suc p) f e kept = in_view turns xs p f e kept
in_view (false ∷ turns) (items.Access a ∷ xs) (suc p) f e kept = one_access (record a { place = 0 }) (shared_view turns xs) f.kind (shown turns (accesses_before xs p)) (in_view turns xs p f e kept)
in_view turns (items.Fence g ∷ xs) zero f e kept = subst (λ k. InView (with_barrier g.kind (shared_view turns xs)) k 0) (ap (λ (h : FenceItem). h.kind) (same_fence e))
    (kept_here g.kind (shared_view turns xs) (subst (λ (h : FenceItem). is_barrier h.kind ≡ true) (sym (same_fence e)) kept))
in_view turns (items.Fence g ∷ xs) (suc p) f e kept = behind_kept g.kind (shared_view turns xs) f.kind (shown turns (accesses_before xs p)) (in_view turns xs p f e kept)
in_view turns (items.Input t ∷ xs) zero f e kept = absurd (no_input e)
in_view turns (items.Input t ∷ xs) (suc p) f e kept = in_view turns xs p f e kept
in_view turns (items.Output t ∷ xs) zero f e kept = absurd (no_output e)
in_view turns (items.Output t ∷ xs) (suc p) f e kept = in_view turns xs p f e kept

-- a barrier of a run that has so many accesses before it, of those that are not left out
record InRun (turns : List Bool) (ys : List Item) (kind : FenceKind) (count : ℕ) : Type 0 where
  place : ℕ
  fence : FenceItem
  here : slice_get ys place ≡ Some (items.Fence fence)
  same : fence.kind ≡ kind
  many : shown turns (accesses_before ys place) ≡ count

run_other : (turns : List Bool) (x : Item) (ys : List Item) (kind : FenceKind) (count : ℕ) → ((i : ℕ) → accesses_before (x ∷ ys) (suc i) ≡ accesses_before ys i) → InRun turns ys kind count → InRun turns (x ∷ ys) kind count
run_other turns x ys kind count same r = record { place = suc r.place; fence = r.fence; here = r.here; same = r.same; many = ap (shown turns) (same r.place) ∙ r.many }

-- a barrier of the view stands in the run
in_run : (turns : List Bool) (ys : List Item) (v : ℕ) (g : FenceItem) → slice_get (shared_view turns ys) v ≡ Some (items.Fence g) → InRun turns ys g.kind (accesses_before (shared_view turns ys) v)
in_run turns [] v g e = absurd (none_there e)
in_run [] (items.Access a ∷ ys) zero g e = absurd (no_access e)
in_run [] (items.Access a ∷ ys) (suc v) g e = let r = in_run [] ys v g e in record { place = suc r.place; fence = r.fence; here = r.here; same = r.same; many = ap suc r.many }
in_run (true ∷ turns) (items.Access a ∷ ys) v g e = let r = in_run turns ys v g e in record { place = suc r.place; fence = r.fence; here = r.here; same = r.same; many = r.many }
in_run (false ∷ turns) (items.Access a ∷ ys) zero g e = absurd (no_access e)
in_run (false ∷ turns) (items.Access a ∷ ys) (suc v) g e = let r = in_run turns ys v g e in record { place = suc r.place; fence = r.fence; here = r.here; same = r.same; many = ap suc r.many }
in_run turns (items.Fence f ∷ ys) v g e = by (is_barrier f.kind) v e (λ n h. in_run turns ys n g h)
  where
    by : (b : Bool) (v : ℕ) → slice_get (if b then items.Fence (record { kind = f.kind; place = 0 }) ∷ shared_view turns ys else shared_view turns ys) v ≡ Some (items.Fence g)
        → ((n : ℕ) → slice_get (shared_view turns ys) n ≡ Some (items.Fence g) → InRun turns ys g.kind (accesses_before (shared_view turns ys) n))
        → InRun turns (items.Fence f ∷ ys) g.kind (accesses_before (if b then items.Fence (record { kind = f.kind; place = 0 }) ∷ shared_view turns ys else shared_view turns ys) v)
    by true zero e later = record { place = 0; fence = f; here = refl; same = ap (λ (h : FenceItem). h.kind) (same_fence e); many = refl }
    by true (suc v) e later = run_other turns (items.Fence f) ys g.kind (accesses_before (shared_view turns ys) v) (λ i. refl) (later v e)
    by false v e later = run_other turns (items.Fence f) ys g.kind (accesses_before (shared_view turns ys) v) (λ i. refl) (later v e)
in_run turns (items.Input t ∷ ys) v g e = run_other turns (items.Input t) ys g.kind (accesses_before (shared_view turns ys) v) (λ i. refl) (in_run turns ys v g e)
in_run turns (items.Output t ∷ ys) v g e = run_other turns (items.Output t) ys g.kind (accesses_before (shared_view turns ys) v) (λ i. refl) (in_run turns ys v g e)

-- how many accesses a view has
view_count : (turns : List Bool) (ys : List Item) → length (accesses (shared_view turns ys)) ≡ shown turns (length (accesses ys))
view_count turns [] = refl
view_count [] (items.Access a ∷ ys) = ap suc (view_count [] ys)
view_count (true ∷ turns) (items.Access a ∷ ys) = view_count turns ys
view_count (false ∷ turns) (items.Access a ∷ ys) = ap suc (view_count turns ys)
view_count turns (items.Fence f ∷ ys) = by (is_barrier f.kind) (view_count turns ys)
  where
    by : (b : Bool) → length (accesses (shared_view turns ys)) ≡ shown turns (length (accesses ys))
        → length (accesses (if b then items.Fence (record { kind = f.kind; place = 0 }) ∷ shared_view turns ys else shared_view turns ys)) ≡ shown turns (length (accesses ys))
    by true rest = rest
    by false rest = rest
view_count turns (items.Input t ∷ ys) = view_count turns ys
view_count turns (items.Output t ∷ ys) = view_count turns ys

-- a fence in joined lists with fewer accesses before it than the first has stands in the first
in_first : (xs ys : List Item) (v : ℕ) (g : FenceItem) → slice_get (xs ++ ys) v ≡ Some (items.Fence g) → accesses_before (xs ++ ys) v < length (accesses xs)
    → (slice_get xs v ≡ Some (items.Fence g)) × (accesses_before xs v ≡ accesses_before (xs ++ ys) v)
in_first [] ys v g e few = absurd (omega (arith, few))
in_first (x ∷ xs) ys zero g e few = (e, refl)
in_first (items.Access a ∷ xs) ys (suc v) g e few = let rest = in_first xs ys v g e (omega (arith, few)) in (rest.0, ap suc rest.1)
in_first (items.Fence f ∷ xs) ys (suc v) g e few = in_first xs ys v g e few
in_first (items.Input t ∷ xs) ys (suc v) g e few = in_first xs ys v g e few
in_first (items.Output t ∷ xs) ys (suc v) g e few = in_first xs ys v g e few

cases_below : (m i : ℕ) → (m < i) ⊎ (i ≤ m)
cases_below m zero = inr (omega arith)
cases_below zero (suc i) = inl (omega arith)
cases_below (suc m) (suc i) = by (cases_below m i)
  where
    by : (m < i) ⊎ (i ≤ m) → (suc m < suc i) ⊎ (suc i ≤ suc m)
    by (inl less) = inl (omega (arith, less))
    by (inr other) = inr (omega (arith, other))

-- A barrier between two accesses of a run that are not left out stands between them in each run whose view is the front of its.
pub same_between : (turns : List Bool) (xs ys more : List Item) → shared_view turns xs ≡ shared_view turns ys ++ more → (kind : FenceKind) → is_barrier kind ≡ true → (m n : ℕ) → is_hidden turns m ≡ false → is_hidden turns n ≡ false
    → n < length (accesses ys) → FenceBetween kind xs m n → FenceBetween kind ys m n
same_between turns xs ys more same kind kept m n first second within f =
    let seen = in_view turns xs f.place f.fence f.here (subst (λ k. is_barrier k ≡ true) (sym f.same) kept) in
    let here : slice_get (shared_view turns ys ++ more) seen.place ≡ Some (items.Fence seen.fence) = subst (λ l. slice_get l seen.place ≡ Some (items.Fence seen.fence)) same seen.here in
    let count : accesses_before (shared_view turns ys ++ more) seen.place ≡ shown turns (accesses_before xs f.place) = ap (λ l. accesses_before l seen.place) (sym same) ∙ seen.many in
    let low : shown turns (accesses_before xs f.place) ≤ shown turns n = shown_rises turns (accesses_before xs f.place) n f.ahead in
    let high : shown turns (suc m) ≤ shown turns (accesses_before xs f.place) = shown_rises turns (suc m) (accesses_before xs f.place) f.behind in
    let next_m = shown_next turns m first in
    let next_n = shown_next turns n second in
    let all : shown turns (suc n) ≤ shown turns (length (accesses ys)) = shown_rises turns (suc n) (length (accesses ys)) within in
    let front = in_first (shared_view turns ys) more seen.place seen.fence here (omega (arith, count, low, next_n, all, view_count turns ys)) in
    let found = in_run turns ys seen.place seen.fence front.0 in
    let at : shown turns (accesses_before ys found.place) ≡ shown turns (accesses_before xs f.place) = found.many ∙ front.1 ∙ count in
    record {
      place = found.place;
      fence = found.fence;
      here = found.here;
      same = found.same ∙ seen.same ∙ f.same;
      behind = behind_m (accesses_before ys found.place) (accesses_before xs f.place) at high next_m;
      ahead = ahead_n (accesses_before ys found.place) (accesses_before xs f.place) at low next_n;
    }
  where
    behind_m : (i j : ℕ) → shown turns i ≡ shown turns j → shown turns (suc m) ≤ shown turns j → shown turns (suc m) ≡ suc (shown turns m) → m < i
    behind_m i j at high next = elim (cases_below m i) [
      | inl less ↦ less
      | inr other ↦ (let low = shown_rises turns i m other in absurd (omega (arith, at, high, next, low)))
    ]

    ahead_n : (i j : ℕ) → shown turns i ≡ shown turns j → shown turns j ≤ shown turns n → shown turns (suc n) ≡ suc (shown turns n) → i ≤ n
    ahead_n i j at low next = elim (cases_below n i) [
      | inl less ↦ (let high = shown_rises turns (suc n) i less in absurd (omega (arith, at, low, next, high)))
      | inr other ↦ other
    ]
