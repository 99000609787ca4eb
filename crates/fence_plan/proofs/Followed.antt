-- A thread's run that follows the plan, and the run of the source that explains it: the fences of the mapping stand in the one,
-- and a full barrier where the other has an MFENCE.
use Rattle.std.proofs.Common.{◌≡◌, ◌⊎◌, inl, inr, ℕ, zero, suc, ◌<◌, Bool, true, false, List, [], ◌∷◌, ◌++◌, length, Option, Some, None, refl, sym, ap, ◌∙◌, subst, arith}
use Rattle.std.specs.Prelude.{slice_get, map, if◌then◌else◌}
use Rattle.std.specs.Option.{option_map}
use Rattle.std.proofs.lemmas.Option.{slice_get-map, slice_get_within}
use Rattle.ev_graph.specs.declared.events.Access.{Access}
use Rattle.ev_graph.specs.declared.events.FenceItem.{FenceItem}
use Rattle.ev_graph.specs.declared.events.FenceKind.{FenceKind}
use Rattle.ev_graph.specs.declared.events.FenceKind.TheVariants.{Mfence, DmbLd, DmbSt, DmbFull}
use Rattle.ev_graph.specs.declared.events.Item.{Item}
use Rattle.ev_graph.specs.declared.events.Item.TheVariants as items
use Rattle.ev_graph.specs.Events.{accesses, accesses_before, FenceBetween}
use Rattle.ev_graph.proofs.Numbers.{place, place_order}
use Rattle.behavior.specs.Seen.{trace}
use Rattle.x64_syntax.specs.declared.slots.Slot.{Slot}
use Rattle.fence_plan.specs.Private.{is_private, privacy}
use Rattle.fence_plan.specs.Planned.{is_barrier, Follows}
use Rattle.fence_plan.specs.Guards.{open_at_start, Guards}
use Rattle.fence_plan.proofs.Mapped.{none_there, some_same}
use Rattle.fence_plan.proofs.Mapping.{Mapping, IsNextPair}
use Rattle.fence_plan.proofs.Between.{mapped, full_at_mfence}
use Rattle.fence_plan.proofs.Views.{is_hidden, same_between}
use Rattle.fence_plan.proofs.Bare.{bare}

-- ---- accesses and traces

-- an access without the address of its instruction
abbrev unplaced : Access → Access
unplaced a = record a { place = 0 }

accesses-trace : (xs : List Item) → accesses (trace xs) ≡ map unplaced (accesses xs)
accesses-trace [] = refl
accesses-trace (items.Access a ∷ xs) = ap (λ l. unplaced a ∷ l) (accesses-trace xs)
accesses-trace (items.Fence f ∷ xs) = accesses-trace xs
accesses-trace (items.Input t ∷ xs) = accesses-trace xs
accesses-trace (items.Output t ∷ xs) = accesses-trace xs

some_of : {A B : Type 0} (f : A → B) (o : Option A) (v : B) → option_map f o ≡ Some v → (a : A) × (o ≡ Some a) × (f a ≡ v)
some_of f None v e = absurd (none_there e)
some_of f (Some a) v e = (a, refl, some_same e)

-- an access of the one is one of the other, but for the address of its instruction
same_access : (xs ys : List Item) → trace xs ≡ trace ys → (n : ℕ) (a : Access) → slice_get (accesses xs) n ≡ Some a → (b : Access) × (slice_get (accesses ys) n ≡ Some b) × (unplaced b ≡ unplaced a)
same_access xs ys same n a here =
    let lists : map unplaced (accesses xs) ≡ map unplaced (accesses ys) = sym (accesses-trace xs) ∙ ap accesses same ∙ accesses-trace ys in
    some_of unplaced (slice_get (accesses ys) n) (unplaced a)
    (sym (slice_get-map unplaced (accesses ys) n) ∙ ap (λ l. slice_get l n) (sym lists) ∙ slice_get-map unplaced (accesses xs) n ∙ ap (option_map unplaced) here)

-- ---- privacy by turns

module _ (private : Slot → Bool) where
  -- the turn of an access says whether it is private
  pub turn_is : (xs : List Item) (n : ℕ) (a : Access) → slice_get (accesses xs) n ≡ Some a → is_hidden (privacy private xs) n ≡ is_private private a
  turn_is [] n a here = absurd (none_there here)
  turn_is (items.Access c ∷ xs) zero a here = ap (is_private private) (some_same here)
  turn_is (items.Access c ∷ xs) (suc n) a here = turn_is xs n a here
  turn_is (items.Fence f ∷ xs) n a here = turn_is xs n a here
  turn_is (items.Input t ∷ xs) n a here = turn_is xs n a here
  turn_is (items.Output t ∷ xs) n a here = turn_is xs n a here

  front_access : (xs ys : List Item) (n : ℕ) (a : Access) → slice_get (accesses xs) n ≡ Some a → slice_get (accesses (xs ++ ys)) n ≡ Some a
  front_access [] ys n a here = absurd (none_there here)
  front_access (items.Access c ∷ xs) ys zero a here = here
  front_access (items.Access c ∷ xs) ys (suc n) a here = front_access xs ys n a here
  front_access (items.Fence f ∷ xs) ys n a here = front_access xs ys n a here
  front_access (items.Input t ∷ xs) ys n a here = front_access xs ys n a here
  front_access (items.Output t ∷ xs) ys n a here = front_access xs ys n a here

bare_accesses : (xs : List Item) → accesses (bare xs) ≡ accesses xs
bare_accesses [] = refl
bare_accesses (items.Access a ∷ xs) = ap (λ l. a ∷ l) (bare_accesses xs)
bare_accesses (items.Fence f ∷ xs) = by (is_barrier f.kind) (bare_accesses xs)
  where
    by : (b : Bool) → accesses (bare xs) ≡ accesses xs → accesses (if b then bare xs else items.Fence f ∷ bare xs) ≡ accesses xs
    by true rest = rest
    by false rest = rest
bare_accesses (items.Input t ∷ xs) = bare_accesses xs
bare_accesses (items.Output t ∷ xs) = bare_accesses xs

-- ---- places of MFENCE

no_access : {a : Access} {f : FenceItem} → Some (items.Access a) ≡ Some (items.Fence f) → ⊥
no_access e = absurd cc

-- a fence at a place, with so many accesses before it
record FenceAt (xs : List Item) (f : FenceItem) (count : ℕ) : Type 0 where
  at : ℕ
  here : slice_get xs at ≡ Some (items.Fence f)
  many : accesses_before xs at ≡ count

fence_front : (xs ys : List Item) (p : ℕ) (f : FenceItem) → slice_get xs p ≡ Some (items.Fence f) → (slice_get (xs ++ ys) p ≡ Some (items.Fence f)) × (accesses_before (xs ++ ys) p ≡ accesses_before xs p)
fence_front [] ys p f here = absurd (none_there here)
fence_front (x ∷ xs) ys zero f here = (here, refl)
fence_front (items.Access a ∷ xs) ys (suc p) f here = let rest = fence_front xs ys p f here in (rest.0, ap suc rest.1)
fence_front (items.Fence g ∷ xs) ys (suc p) f here = fence_front xs ys p f here
fence_front (items.Input t ∷ xs) ys (suc p) f here = fence_front xs ys p f here
fence_front (items.Output t ∷ xs) ys (suc p) f here = fence_front xs ys p f here

behind : (x : Item) (xs : List Item) (f : FenceItem) (count : ℕ) → ((i : ℕ) → accesses_before (x ∷ xs) (suc i) ≡ accesses_before xs i) → FenceAt xs f count → FenceAt (x ∷ xs) f count
behind x xs f count same r = record { at = suc r.at; here = r.here; many = same r.at ∙ r.many }

-- a fence of the bare items stands in the items
in_whole : (xs : List Item) (p : ℕ) (f : FenceItem) → slice_get (bare xs) p ≡ Some (items.Fence f) → FenceAt xs f (accesses_before (bare xs) p)
in_whole [] p f here = absurd (none_there here)
in_whole (items.Access a ∷ xs) zero f here = absurd (no_access here)
in_whole (items.Access a ∷ xs) (suc p) f here = let r = in_whole xs p f here in record { at = suc r.at; here = r.here; many = ap suc r.many }
in_whole (items.Fence g ∷ xs) p f here = by (is_barrier g.kind) p here (λ n h. in_whole xs n f h)
  where
    by : (b : Bool) (p : ℕ) → slice_get (if b then bare xs else items.Fence g ∷ bare xs) p ≡ Some (items.Fence f) → ((n : ℕ) → slice_get (bare xs) n ≡ Some (items.Fence f) → FenceAt xs f (accesses_before (bare xs) n))
        → FenceAt (items.Fence g ∷ xs) f (accesses_before (if b then bare xs else items.Fence g ∷ bare xs) p)
    by true p here later = behind (items.Fence g) xs f (accesses_before (bare xs) p) (λ i. refl) (later p here)
    by false zero here later = record { at = 0; here = here; many = refl }
    by false (suc p) here later = behind (items.Fence g) xs f (accesses_before (bare xs) p) (λ i. refl) (later p here)
in_whole (items.Input t ∷ xs) zero f here = absurd (no_item here)
  where
    no_item : Some (items.Input t) ≡ Some (items.Fence f) → ⊥
    no_item e = absurd cc
in_whole (items.Input t ∷ xs) (suc p) f here = behind (items.Input t) xs f (accesses_before (bare xs) p) (λ i. refl) (in_whole xs p f here)
in_whole (items.Output t ∷ xs) zero f here = absurd (no_item here)
  where
    no_item : Some (items.Output t) ≡ Some (items.Fence f) → ⊥
    no_item e = absurd cc
in_whole (items.Output t ∷ xs) (suc p) f here = behind (items.Output t) xs f (accesses_before (bare xs) p) (λ i. refl) (in_whole xs p f here)

-- ---- one thread

-- What is known of a thread's run `made` and of what explains it: the planned run that it follows is guarded, and without its
-- planned fences it begins with the explanation.
pub record IsPlannedFor (private : Slot → Bool) (made explains : List Item) : Type 0 where
  pub from : List Item
  pub rest : List Item
  pub guards : Guards (λ a. is_private private a) open_at_start from
  pub follows : Follows private from made
  pub same : trace from ≡ trace made
  pub front : bare from ≡ explains ++ rest
  pub trace_is : trace explains ≡ trace made

module _ (private : Slot → Bool) (made explains : List Item) (known : IsPlannedFor private made explains) where
  -- the access of the planned run with a number of one of the explanation's
  from_access : (n : ℕ) (e : Access) → slice_get (accesses explains) n ≡ Some e → slice_get (accesses known.from) n ≡ Some e
  from_access n e here = subst (λ l. slice_get l n ≡ Some e) (ap accesses (sym known.front) ∙ bare_accesses known.from) (front_access private explains known.rest n e here)

  same_turn : (n : ℕ) (e : Access) → slice_get (accesses explains) n ≡ Some e → is_hidden (privacy private known.from) n ≡ is_hidden (privacy private explains) n
  same_turn n e here = turn_is private known.from n e (from_access n e here) ∙ sym (turn_is private explains n e here)

  within : (n : ℕ) (a : Access) → slice_get (accesses made) n ≡ Some a → n < length (accesses made)
  within n a here = slice_get_within (accesses made) n a here

  carried : (kind : FenceKind) → is_barrier kind ≡ true → (m n : ℕ) (a b : Access) → slice_get (accesses made) m ≡ Some a → slice_get (accesses made) n ≡ Some b
      → is_hidden (privacy private explains) m ≡ false → is_hidden (privacy private explains) n ≡ false → FenceBetween kind known.from m n → FenceBetween kind made m n
  carried kind kept m n a b first second one two f =
      let e = same_access made explains (sym known.trace_is) m a first in
      let g = same_access made explains (sym known.trace_is) n b second in
      same_between (privacy private known.from) known.from made known.follows.0 known.follows.2 kind kept m n (same_turn m e.0 e.1 ∙ one) (same_turn n g.0 g.1 ∙ two) (within n b second) f

  -- between two accesses of the run that are not private stand the fences of the mapping
  pub followed_mapping : (m n : ℕ) (a b : Access) → m < n → slice_get (accesses made) m ≡ Some a → slice_get (accesses made) n ≡ Some b
      → is_hidden (privacy private explains) m ≡ false → is_hidden (privacy private explains) n ≡ false → (IsNextPair a b m n → ⊥) → Mapping made m n a b
  followed_mapping m n a b order first second one two other =
      let e = same_access made explains (sym known.trace_is) m a first in
      let g = same_access made explains (sym known.trace_is) n b second in
      let at_m = place known.from m e.0 (from_access m e.0 e.1) in
      let at_n = place known.from n g.0 (from_access n g.0 g.1) in
      let before : at_m.0 < at_n.0 = place_order known.from at_m.0 at_n.0 (omega (arith, at_m.2, at_n.2, order)) in
      let inner = mapped (λ c. is_private private c) known.from open_at_start known.guards at_m.0 at_n.0 e.0 g.0 before at_m.1 at_n.1
      (sym (turn_is private known.from m e.0 (from_access m e.0 e.1)) ∙ same_turn m e.0 e.1 ∙ one) (sym (turn_is private known.from n g.0 (from_access n g.0 g.1)) ∙ same_turn n g.0 g.1 ∙ two)
      (λ pair. other (same_pair e.0 g.0 e.2 g.2 at_m.2 at_n.2 pair)) in
      let here : Mapping known.from m n e.0 g.0 = subst (λ i. Mapping known.from i n e.0 g.0) at_m.2 (subst (λ i. Mapping known.from (accesses_before known.from at_m.0) i e.0 g.0) at_n.2 inner) in
      record {
        full = λ locked. carried DmbFull refl m n a b first second one two (here.full (either (locked_of e.0 a e.2) (locked_of g.0 b g.2) locked));
        read = λ read. either (carried DmbLd refl m n a b first second one two) (carried DmbFull refl m n a b first second one two) (here.read (ap (λ (c : Access). c.kind) e.2 ∙ read));
        writes = λ write another. either (carried DmbSt refl m n a b first second one two) (carried DmbFull refl m n a b first second one two)
            (here.writes (ap (λ (c : Access). c.kind) e.2 ∙ write) (ap (λ (c : Access). c.kind) g.2 ∙ another));
      }
    where
      either : {A B C D : Type 0} → (A → C) → (B → D) → A ⊎ B → C ⊎ D
      either f g (inl x) = inl (f x)
      either f g (inr y) = inr (g y)

      locked_of : (e a : Access) → unplaced e ≡ unplaced a → a.locked ≡ true → e.locked ≡ true
      locked_of e a same locked = ap (λ (c : Access). c.locked) same ∙ locked

      same_pair : (e g : Access) → unplaced e ≡ unplaced a → unplaced g ≡ unplaced b → {i j : ℕ} → i ≡ m → j ≡ n → IsNextPair e g i j → IsNextPair a b m n
      same_pair e g same other at_m at_n pair = (
        sym (ap (λ (c : Access). c.locked) same) ∙ pair.0,
        sym (ap (λ (c : Access). c.kind) same) ∙ pair.1,
        sym (ap (λ (c : Access). c.locked) other) ∙ pair.2,
        sym (ap (λ (c : Access). c.kind) other) ∙ pair.3,
        sym at_n ∙ pair.4 ∙ ap suc at_m,
      )

  -- where the explanation has an MFENCE between two accesses that are not private, the run has a full barrier
  pub followed_full : (m n : ℕ) (a b : Access) → slice_get (accesses made) m ≡ Some a → slice_get (accesses made) n ≡ Some b
      → is_hidden (privacy private explains) m ≡ false → is_hidden (privacy private explains) n ≡ false → FenceBetween Mfence explains m n → FenceBetween DmbFull made m n
  followed_full m n a b first second one two f =
      let e = same_access made explains (sym known.trace_is) m a first in
      let at_m = place known.from m e.0 (from_access m e.0 e.1) in
      let front = fence_front explains known.rest f.place f.fence f.here in
      let there : slice_get (bare known.from) f.place ≡ Some (items.Fence f.fence) = subst (λ l. slice_get l f.place ≡ Some (items.Fence f.fence)) (sym known.front) front.0 in
      let whole = in_whole known.from f.place f.fence there in
      let count : accesses_before known.from whole.at ≡ accesses_before explains f.place = whole.many ∙ ap (λ l. accesses_before l f.place) known.front ∙ front.1 in
      let before : at_m.0 < whole.at = place_order known.from at_m.0 whole.at (omega (arith, at_m.2, count, f.behind)) in
      let full = full_at_mfence (λ c. is_private private c) known.from open_at_start known.guards at_m.0 whole.at e.0 f.fence before at_m.1 whole.here
      (sym (turn_is private known.from m e.0 (from_access m e.0 e.1)) ∙ same_turn m e.0 e.1 ∙ one) f.same in
      carried DmbFull refl m n a b first second one two (record {
        place = full.place;
        fence = full.fence;
        here = full.here;
        same = full.same;
        behind = omega (arith, at_m.2, full.behind);
        ahead = omega (arith, count, full.ahead, f.ahead);
      })
