-- Between two accesses of guarded items stand the fences of the mapping, and a full barrier where an MFENCE stands.
use Rattle.std.proofs.Common.{◌≡◌, ◌⊎◌, inl, inr, ℕ, zero, suc, Bool, true, false, List, [], ◌∷◌, Some, refl, sym, ap, ◌∙◌, subst, arith}
use Rattle.std.specs.Prelude.{slice_get}
use Rattle.ev_graph.specs.declared.events.Access.{Access}
use Rattle.ev_graph.specs.declared.events.AccessKind.{AccessKind}
use Rattle.ev_graph.specs.declared.events.AccessKind.TheVariants.{Read, Write}
use Rattle.ev_graph.specs.declared.events.FenceKind.{FenceKind}
use Rattle.ev_graph.specs.declared.events.FenceKind.TheVariants.{Frm, Fww, Fsc, Mfence, DmbLd, DmbSt, DmbFull}
use Rattle.ev_graph.specs.declared.events.Item.{Item}
use Rattle.ev_graph.specs.declared.events.Item.TheVariants as items
use Rattle.ev_graph.specs.Events.{accesses_before, FenceBetween}
use Rattle.fence_plan.specs.Guards.{Open, behind_fence, behind_access, MayCome, HasBarrier, OfAccess, Guards}
use Rattle.fence_plan.proofs.Mapped.{Found, LockedOpen, IsFull, ClosesReads, ClosesWrites, both, none_there, some_same, locked_at_fence, full_before_locked, load_before_any, full_before_any, store_before_write}

-- ---- behind a locked read whose write may follow

pub record HalfOpen (o : Open) : Type 0 where
  pub all : o.all ≡ true
  pub locked : o.locked ≡ true

whole : (o : Open) → HalfOpen o → LockedOpen (record o { half = false })
whole o half = record { rest = record { whole = refl; all = half.all }; locked = half.locked }

same_behind : (kind : FenceKind) (o : Open) → behind_fence kind (record o { half = false }) ≡ behind_fence kind o
same_behind DmbLd o = refl
same_behind DmbSt o = refl
same_behind DmbFull o = refl
same_behind Frm o = refl
same_behind Fww o = refl
same_behind Fsc o = refl
same_behind Mfence o = refl

same_barrier : (kind : FenceKind) (o : Open) → HasBarrier kind o → HasBarrier kind (record o { half = false })
same_barrier DmbLd o has = has
same_barrier DmbSt o has = has
same_barrier DmbFull o has = has
same_barrier Frm o has = has
same_barrier Fww o has = has
same_barrier Fsc o has = has
same_barrier Mfence o has = has

-- only the write of the pair may come
only_write : (locked : Bool) (kind : AccessKind) (o : Open) → HalfOpen o → MayCome locked kind o → (locked ≡ true) × (kind ≡ Write)
only_write true Write o half may = (refl, refl)
only_write true Read o half may = absurd (both half.all may)
only_write false Read o half may = absurd (both half.locked may.0)
only_write false Write o half may = absurd (both half.locked may.0)

behind_write : (locked : Bool) (kind : AccessKind) → locked ≡ true → kind ≡ Write → LockedOpen (behind_access locked kind)
behind_write locked kind l k = subst (λ b. LockedOpen (behind_access b kind)) (sym l) (subst (λ w. LockedOpen (behind_access true w)) (sym k) (record { rest = record { whole = refl; all = refl }; locked = refl }))

found_other : (x : Item) (xs : List Item) (place : ℕ) → ((n : ℕ) → accesses_before (x ∷ xs) (suc n) ≡ accesses_before xs n) → Found IsFull xs place → Found IsFull (x ∷ xs) (suc place)
found_other x xs place same f = record { at = suc f.at; fence = f.fence; here = f.here; kind = f.kind; before = omega (arith, same f.at, same place, f.before) }

found_one : (a : Access) (xs : List Item) (place : ℕ) → Found IsFull xs place → Found IsFull (items.Access a ∷ xs) (suc place)
found_one a xs place f = record { at = suc f.at; fence = f.fence; here = f.here; kind = f.kind; before = omega (arith, f.before) }

-- The item at a place finds a full barrier before it, where it does so behind all that is locked and is not the pair's write.
abbrev pub IsSilent : Item → Type 0
IsSilent (items.Access a) = ⊥
IsSilent (items.Fence f) = ⊥
IsSilent (items.Input t) = Unit {0}
IsSilent (items.Output t) = Unit {0}

module _ (is : Access → Bool) (i : Item) (quiet : (x : Item) → IsSilent x → x ≡ i → ⊥) (private_one : (c : Access) → items.Access c ≡ i → is c ≡ false)
    (closed : (xs : List Item) (o : Open) → Guards is o xs → LockedOpen o → (place : ℕ) → slice_get xs place ≡ Some i → Found IsFull xs place) where
  abbrev pub IsPairWrite : List Item → ℕ → Type 0
  IsPairWrite xs place = (c : Access) × (items.Access c ≡ i) × (c.locked ≡ true) × (c.kind ≡ Write) × (accesses_before xs place ≡ 0)

  pub behind_half : (xs : List Item) (o : Open) → Guards is o xs → HalfOpen o → (place : ℕ) → slice_get xs place ≡ Some i → (IsPairWrite xs place → ⊥) → Found IsFull xs place
  behind_half [] o guards half place e other = absurd (none_there e)
  behind_half (items.Access c ∷ xs) o guards half place e other = by (is c) refl guards place e other
    where
      by : (b : Bool) → is c ≡ b → OfAccess b (Guards is (record o { half = false }) xs) (MayCome c.locked c.kind o × Guards is (behind_access c.locked c.kind) xs)
          → (place : ℕ) → slice_get (items.Access c ∷ xs) place ≡ Some i → (IsPairWrite (items.Access c ∷ xs) place → ⊥) → Found IsFull (items.Access c ∷ xs) place
      by true hidden rest zero e other = absurd (both hidden (private_one c (some_same e)))
      by true hidden rest (suc place) e other = found_one c xs place (closed xs (record o { half = false }) rest (whole o half) place e)
      by false shown rest zero e other = let one = only_write c.locked c.kind o half rest.0 in absurd (other (c, some_same e, one.0, one.1, refl))
      by false shown rest (suc place) e other =
          let one = only_write c.locked c.kind o half rest.0 in
          found_one c xs place (closed xs (behind_access c.locked c.kind) rest.1 (behind_write c.locked c.kind one.0 one.1) place e)
  behind_half (items.Fence f ∷ xs) o guards half place e other =
      by (locked_at_fence f.kind (record o { half = false }) (whole o half) (same_barrier f.kind o guards.0)) place e
    where
      by : IsFull f.kind ⊎ ((⊥ → ⊥) × LockedOpen (behind_fence f.kind (record o { half = false }))) → (place : ℕ) → slice_get (items.Fence f ∷ xs) place ≡ Some i → Found IsFull (items.Fence f ∷ xs) place
      by (inl full) place e = record { at = 0; fence = f; here = refl; kind = full; before = omega arith }
      by (inr (quiet, still)) zero e = closed (items.Fence f ∷ xs) (record o { half = false }) (same_barrier f.kind o guards.0, subst (λ p. Guards is p xs) (sym (same_behind f.kind o)) guards.1) (whole o half) zero e
      by (inr (quiet, still)) (suc place) e =
          found_other (items.Fence f) xs place (λ n. refl) (closed xs (behind_fence f.kind o) guards.1 (subst LockedOpen (same_behind f.kind o) still) place e)
  behind_half (items.Input t ∷ xs) o guards half zero e other = absurd (quiet (items.Input t) tt (some_same e))
  behind_half (items.Input t ∷ xs) o guards half (suc place) e other = found_other (items.Input t) xs place (λ n. refl) (behind_half xs o guards half place e other)
  behind_half (items.Output t ∷ xs) o guards half zero e other = absurd (quiet (items.Output t) tt (some_same e))
  behind_half (items.Output t ∷ xs) o guards half (suc place) e other = found_other (items.Output t) xs place (λ n. refl) (behind_half xs o guards half place e other)

-- ---- from what stands behind the first access

-- the fences of the mapping between two accesses
pub record Mapping (xs : List Item) (m n : ℕ) (a b : Access) : Type 0 where
  pub full : (a.locked ≡ true) ⊎ (b.locked ≡ true) → FenceBetween DmbFull xs m n
  pub read : a.kind ≡ Read → FenceBetween DmbLd xs m n ⊎ FenceBetween DmbFull xs m n
  pub writes : a.kind ≡ Write → b.kind ≡ Write → FenceBetween DmbSt xs m n ⊎ FenceBetween DmbFull xs m n

-- a locked read, and then a locked write that is the next access
abbrev pub IsNextPair : (a b : Access) → (m n : ℕ) → Type 0
IsNextPair a b m n = (a.locked ≡ true) × (a.kind ≡ Read) × (b.locked ≡ true) × (b.kind ≡ Write) × (n ≡ suc m)

module _ (is : Access → Bool) (a : Access) (xs : List Item) (q : ℕ) where
  pub first_full : Found IsFull xs q → FenceBetween DmbFull (items.Access a ∷ xs) 0 (suc (accesses_before xs q))
  first_full f = record { place = suc f.at; fence = f.fence; here = f.here; same = f.kind; behind = omega arith; ahead = omega (arith, f.before) }

  first_load : Found ClosesReads xs q → FenceBetween DmbLd (items.Access a ∷ xs) 0 (suc (accesses_before xs q)) ⊎ FenceBetween DmbFull (items.Access a ∷ xs) 0 (suc (accesses_before xs q))
  first_load f = by f.kind
    where
      by : ClosesReads f.fence.kind → FenceBetween DmbLd (items.Access a ∷ xs) 0 (suc (accesses_before xs q)) ⊎ FenceBetween DmbFull (items.Access a ∷ xs) 0 (suc (accesses_before xs q))
      by (inl load) = inl (record { place = suc f.at; fence = f.fence; here = f.here; same = load; behind = omega arith; ahead = omega (arith, f.before) })
      by (inr full) = inr (record { place = suc f.at; fence = f.fence; here = f.here; same = full; behind = omega arith; ahead = omega (arith, f.before) })

  first_store : Found ClosesWrites xs q → FenceBetween DmbSt (items.Access a ∷ xs) 0 (suc (accesses_before xs q)) ⊎ FenceBetween DmbFull (items.Access a ∷ xs) 0 (suc (accesses_before xs q))
  first_store f = by f.kind
    where
      by : ClosesWrites f.fence.kind → FenceBetween DmbSt (items.Access a ∷ xs) 0 (suc (accesses_before xs q)) ⊎ FenceBetween DmbFull (items.Access a ∷ xs) 0 (suc (accesses_before xs q))
      by (inl store) = inl (record { place = suc f.at; fence = f.fence; here = f.here; same = store; behind = omega arith; ahead = omega (arith, f.before) })
      by (inr full) = inr (record { place = suc f.at; fence = f.fence; here = f.here; same = full; behind = omega arith; ahead = omega (arith, f.before) })

  module _ (b : Access) (e : slice_get xs q ≡ Some (items.Access b)) (shown : is b ≡ false) where
    differ : {x : AccessKind} → x ≡ Read → x ≡ Write → ⊥
    differ one other = absurd (apart (sym one ∙ other))
      where
        apart : Read ≡ Write → ⊥
        apart e = absurd cc

    -- behind a locked access a full barrier comes before each other one
    by_full : a.locked ≡ true → Found IsFull xs q → Mapping (items.Access a ∷ xs) 0 (suc (accesses_before xs q)) a b
    by_full locked f = record { full = λ one. first_full f; read = λ one. inr (first_full f); writes = λ one other. inr (first_full f) }

    plain_read : a.locked ≡ false → a.kind ≡ Read → Guards is (behind_access false Read) xs → Mapping (items.Access a ∷ xs) 0 (suc (accesses_before xs q)) a b
    plain_read plain kind guards = record {
      full = λ one. first_full (full_before_locked is xs (behind_access false Read) guards (record { whole = refl; all = refl }) q b e shown (second one));
      read = λ one. first_load (load_before_any is xs (behind_access false Read) guards (record { rest = record { whole = refl; all = refl }; reads = refl }) q b e shown);
      writes = λ one other. absurd (differ kind one);
    }
      where
        second : (a.locked ≡ true) ⊎ (b.locked ≡ true) → b.locked ≡ true
        second (inl locked) = absurd (both locked plain)
        second (inr locked) = locked

    plain_write : a.locked ≡ false → a.kind ≡ Write → Guards is (behind_access false Write) xs → Mapping (items.Access a ∷ xs) 0 (suc (accesses_before xs q)) a b
    plain_write plain kind guards = record {
      full = λ one. first_full (before_locked (second one));
      read = λ one. absurd (differ one kind);
      writes = λ one other. store b.locked refl other;
    }
      where
        second : (a.locked ≡ true) ⊎ (b.locked ≡ true) → b.locked ≡ true
        second (inl locked) = absurd (both locked plain)
        second (inr locked) = locked

        before_locked : b.locked ≡ true → Found IsFull xs q
        before_locked locked = full_before_locked is xs (behind_access false Write) guards (record { whole = refl; all = refl }) q b e shown locked

        store : (l : Bool) → b.locked ≡ l → b.kind ≡ Write → FenceBetween DmbSt (items.Access a ∷ xs) 0 (suc (accesses_before xs q)) ⊎ FenceBetween DmbFull (items.Access a ∷ xs) 0 (suc (accesses_before xs q))
        store true locked other = inr (first_full (before_locked locked))
        store false unlocked other =
            first_store (store_before_write is xs (behind_access false Write) guards (record { rest = record { whole = refl; all = refl }; writes = refl }) q b e shown unlocked other)

    locked_write : a.locked ≡ true → Guards is (behind_access true Write) xs → Mapping (items.Access a ∷ xs) 0 (suc (accesses_before xs q)) a b
    locked_write locked guards =
        by_full locked (full_before_any is xs (behind_access true Write) guards (record { rest = record { whole = refl; all = refl }; locked = refl }) q b e shown)

    locked_read : a.locked ≡ true → a.kind ≡ Read → (IsNextPair a b 0 (suc (accesses_before xs q)) → ⊥) → Guards is (behind_access true Read) xs → Mapping (items.Access a ∷ xs) 0 (suc (accesses_before xs q)) a b
    locked_read locked kind other guards =
        by_full locked (behind_half is (items.Access b) not_silent (λ c same. subst (λ d. is d ≡ false) (sym (same_access same)) shown)
        (λ ys o g l place here. full_before_any is ys o g l place b here shown) xs (behind_access true Read) guards (record { all = refl; locked = refl }) q e
        (λ write. other (locked, kind, subst (λ (d : Access). d.locked ≡ true) (same_access write.1) write.2, subst (λ (d : Access). d.kind ≡ Write) (same_access write.1) write.3, ap suc write.4)))
      where
        not_silent : (x : Item) → IsSilent x → x ≡ items.Access b → ⊥
        not_silent x silent same = subst IsSilent same silent

        same_access : {c d : Access} → items.Access c ≡ items.Access d → c ≡ d
        same_access e = cc

    pub first_mapped : (l : Bool) (k : AccessKind) → a.locked ≡ l → a.kind ≡ k → (IsNextPair a b 0 (suc (accesses_before xs q)) → ⊥) → Guards is (behind_access l k) xs → Mapping (items.Access a ∷ xs) 0 (suc (accesses_before xs q)) a b
    first_mapped false Read l k other guards = plain_read l k guards
    first_mapped false Write l k other guards = plain_write l k guards
    first_mapped true Read l k other guards = locked_read l k other guards
    first_mapped true Write l k other guards = locked_write l guards
