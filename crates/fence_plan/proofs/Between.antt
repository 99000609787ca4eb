-- Of guarded items: the fences between any two accesses that are not private.
use Rattle.std.proofs.Common.{◌≡◌, ◌⊎◌, inl, inr, ℕ, zero, suc, ◌<◌, Bool, true, false, List, [], ◌∷◌, Some, refl, sym, ap, subst, arith}
use Rattle.std.specs.Prelude.{slice_get}
use Rattle.ev_graph.specs.declared.events.Access.{Access}
use Rattle.ev_graph.specs.declared.events.AccessKind.{AccessKind}
use Rattle.ev_graph.specs.declared.events.AccessKind.TheVariants.{Read, Write}
use Rattle.ev_graph.specs.declared.events.FenceItem.{FenceItem}
use Rattle.ev_graph.specs.declared.events.FenceKind.{FenceKind}
use Rattle.ev_graph.specs.declared.events.FenceKind.TheVariants.{Mfence, DmbLd, DmbSt, DmbFull}
use Rattle.ev_graph.specs.declared.events.Item.{Item}
use Rattle.ev_graph.specs.declared.events.Item.TheVariants as items
use Rattle.ev_graph.specs.declared.events.Transfer.{Transfer}
use Rattle.ev_graph.specs.Events.{accesses_before, FenceBetween}
use Rattle.fence_plan.specs.Guards.{Open, behind_fence, behind_access, MayCome, OfAccess, Guards}
use Rattle.fence_plan.proofs.Mapped.{Found, IsFull, none_there, full_before_mfence}
use Rattle.fence_plan.proofs.Mapping.{IsSilent, behind_half, Mapping, IsNextPair, first_full, first_mapped}

same_item : {a b : Access} → Some (items.Access a) ≡ Some (items.Access b) → a ≡ b
same_item e = cc

no_fence : {a : Access} {f : FenceItem} → Some (items.Access a) ≡ Some (items.Fence f) → ⊥
no_fence e = absurd cc

no_access : {f : FenceItem} {a : Access} → Some (items.Fence f) ≡ Some (items.Access a) → ⊥
no_access e = absurd cc

input_access : {t : Transfer} {a : Access} → Some (items.Input t) ≡ Some (items.Access a) → ⊥
input_access e = absurd cc

output_access : {t : Transfer} {a : Access} → Some (items.Output t) ≡ Some (items.Access a) → ⊥
output_access e = absurd cc

-- a fence behind one access more, and behind another item
fence_access : (kind : FenceKind) (c : Access) (xs : List Item) (m n : ℕ) → FenceBetween kind xs m n → FenceBetween kind (items.Access c ∷ xs) (suc m) (suc n)
fence_access kind c xs m n f = record { place = suc f.place; fence = f.fence; here = f.here; same = f.same; behind = omega (arith, f.behind); ahead = omega (arith, f.ahead) }

fence_other : (kind : FenceKind) (x : Item) (xs : List Item) (m n : ℕ) → ((i : ℕ) → accesses_before (x ∷ xs) (suc i) ≡ accesses_before xs i) → FenceBetween kind xs m n → FenceBetween kind (x ∷ xs) m n
fence_other kind x xs m n same f =
    record { place = suc f.place; fence = f.fence; here = f.here; same = f.same; behind = omega (arith, same f.place, f.behind); ahead = omega (arith, same f.place, f.ahead) }

either : {A B C D : Type 0} → (A → C) → (B → D) → A ⊎ B → C ⊎ D
either f g (inl a) = inl (f a)
either f g (inr b) = inr (g b)

mapping_access : (c : Access) (xs : List Item) (m n : ℕ) (a b : Access) → Mapping xs m n a b → Mapping (items.Access c ∷ xs) (suc m) (suc n) a b
mapping_access c xs m n a b inner = record {
  full = λ one. fence_access DmbFull c xs m n (inner.full one);
  read = λ one. either (fence_access DmbLd c xs m n) (fence_access DmbFull c xs m n) (inner.read one);
  writes = λ one other. either (fence_access DmbSt c xs m n) (fence_access DmbFull c xs m n) (inner.writes one other);
}

mapping_other : (x : Item) (xs : List Item) (m n : ℕ) (a b : Access) → ((i : ℕ) → accesses_before (x ∷ xs) (suc i) ≡ accesses_before xs i) → Mapping xs m n a b → Mapping (x ∷ xs) m n a b
mapping_other x xs m n a b same inner = record {
  full = λ one. fence_other DmbFull x xs m n same (inner.full one);
  read = λ one. either (fence_other DmbLd x xs m n same) (fence_other DmbFull x xs m n same) (inner.read one);
  writes = λ one other. either (fence_other DmbSt x xs m n same) (fence_other DmbFull x xs m n same) (inner.writes one other);
}

next_pair : (a b : Access) (m n : ℕ) → IsNextPair a b m n → IsNextPair a b (suc m) (suc n)
next_pair a b m n p = (p.0, p.1, p.2, p.3, ap suc p.4)

module _ (is : Access → Bool) where
  -- what stands behind an access, whatever it is
  behind_guards : (c : Access) (xs : List Item) (o : Open) → Guards is o (items.Access c ∷ xs) → (next : Open) × Guards is next xs
  behind_guards c xs o guards = by (is c) guards
    where
      by : (b : Bool) → OfAccess b (Guards is (record o { half = false }) xs) (MayCome c.locked c.kind o × Guards is (behind_access c.locked c.kind) xs) → (next : Open) × Guards is next xs
      by true rest = (record o { half = false }, rest)
      by false rest = (behind_access c.locked c.kind, rest.1)

  shown_guards : (c : Access) (xs : List Item) (o : Open) → is c ≡ false → Guards is o (items.Access c ∷ xs) → Guards is (behind_access c.locked c.kind) xs
  shown_guards c xs o shown guards =
      (subst (λ b. OfAccess b (Guards is (record o { half = false }) xs) (MayCome c.locked c.kind o × Guards is (behind_access c.locked c.kind) xs)) shown guards).1

  -- between any two accesses that are not private stand the fences of the mapping
  pub mapped : (xs : List Item) (o : Open) → Guards is o xs → (p q : ℕ) (a b : Access) → p < q → slice_get xs p ≡ Some (items.Access a) → slice_get xs q ≡ Some (items.Access b) → is a ≡ false → is b ≡ false
      → (IsNextPair a b (accesses_before xs p) (accesses_before xs q) → ⊥) → Mapping xs (accesses_before xs p) (accesses_before xs q) a b
  mapped [] o guards p q a b order first second one two other = absurd (none_there first)
  mapped (x ∷ xs) o guards p zero a b order first second one two other = absurd (omega (arith, order))
  mapped (items.Access c ∷ xs) o guards zero (suc q) a b order first second one two other =
      let same : c ≡ a = same_item first in
      subst (λ d. Mapping (items.Access c ∷ xs) 0 (suc (accesses_before xs q)) d b) same
      (first_mapped is c xs q b second two c.locked c.kind refl refl (subst (λ d. IsNextPair d b 0 (suc (accesses_before xs q)) → ⊥) (sym same) other)
      (shown_guards c xs o (subst (λ d. is d ≡ false) (sym same) one) guards))
  mapped (items.Access c ∷ xs) o guards (suc p) (suc q) a b order first second one two other =
      let rest = behind_guards c xs o guards in
      mapping_access c xs (accesses_before xs p) (accesses_before xs q) a b
      (mapped xs rest.0 rest.1 p q a b (omega (arith, order)) first second one two (λ pair. other (next_pair a b (accesses_before xs p) (accesses_before xs q) pair)))
  mapped (items.Fence f ∷ xs) o guards zero (suc q) a b order first second one two other = absurd (no_access first)
  mapped (items.Fence f ∷ xs) o guards (suc p) (suc q) a b order first second one two other =
      mapping_other (items.Fence f) xs (accesses_before xs p) (accesses_before xs q) a b (λ i. refl) (mapped xs (behind_fence f.kind o) guards.1 p q a b (omega (arith, order)) first second one two other)
  mapped (items.Input t ∷ xs) o guards zero (suc q) a b order first second one two other = absurd (input_access first)
  mapped (items.Input t ∷ xs) o guards (suc p) (suc q) a b order first second one two other =
      mapping_other (items.Input t) xs (accesses_before xs p) (accesses_before xs q) a b (λ i. refl) (mapped xs o guards p q a b (omega (arith, order)) first second one two other)
  mapped (items.Output t ∷ xs) o guards zero (suc q) a b order first second one two other = absurd (output_access first)
  mapped (items.Output t ∷ xs) o guards (suc p) (suc q) a b order first second one two other =
      mapping_other (items.Output t) xs (accesses_before xs p) (accesses_before xs q) a b (λ i. refl) (mapped xs o guards p q a b (omega (arith, order)) first second one two other)

  -- ---- full barriers for MFENCE

  found_before : (c : Access) (xs : List Item) (q : ℕ) (f : FenceItem) (l : Bool) (k : AccessKind) → f.kind ≡ Mfence → slice_get xs q ≡ Some (items.Fence f) → Guards is (behind_access l k) xs → Found IsFull xs q
  found_before c xs q f false Read kind e guards = full_before_mfence is xs (behind_access false Read) guards (record { whole = refl; all = refl }) q f e kind
  found_before c xs q f false Write kind e guards = full_before_mfence is xs (behind_access false Write) guards (record { whole = refl; all = refl }) q f e kind
  found_before c xs q f true Write kind e guards = full_before_mfence is xs (behind_access true Write) guards (record { whole = refl; all = refl }) q f e kind
  found_before c xs q f true Read kind e guards =
      behind_half is (items.Fence f) (λ x silent same. subst IsSilent same silent) (λ d same. absurd (apart same))
      (λ ys o g l place here. full_before_mfence is ys o g l.rest place f here kind) xs (behind_access true Read) guards (record { all = refl; locked = refl }) q e (λ write. apart write.1)
    where
      apart : {d : Access} → items.Access d ≡ items.Fence f → ⊥
      apart e = absurd cc

  -- behind an access that is not private, and before an MFENCE, stands a full barrier
  pub full_at_mfence : (xs : List Item) (o : Open) → Guards is o xs → (p q : ℕ) (a : Access) (f : FenceItem) → p < q → slice_get xs p ≡ Some (items.Access a) → slice_get xs q ≡ Some (items.Fence f) → is a ≡ false → f.kind ≡ Mfence
      → FenceBetween DmbFull xs (accesses_before xs p) (accesses_before xs q)
  full_at_mfence [] o guards p q a f order first second one kind = absurd (none_there first)
  full_at_mfence (x ∷ xs) o guards p zero a f order first second one kind = absurd (omega (arith, order))
  full_at_mfence (items.Access c ∷ xs) o guards zero (suc q) a f order first second one kind =
      let same : c ≡ a = same_item first in
      first_full is c xs q (found_before c xs q f c.locked c.kind kind second (shown_guards c xs o (subst (λ d. is d ≡ false) (sym same) one) guards))
  full_at_mfence (items.Access c ∷ xs) o guards (suc p) (suc q) a f order first second one kind =
      let rest = behind_guards c xs o guards in
      fence_access DmbFull c xs (accesses_before xs p) (accesses_before xs q) (full_at_mfence xs rest.0 rest.1 p q a f (omega (arith, order)) first second one kind)
  full_at_mfence (items.Fence g ∷ xs) o guards zero (suc q) a f order first second one kind = absurd (no_access first)
  full_at_mfence (items.Fence g ∷ xs) o guards (suc p) (suc q) a f order first second one kind =
      fence_other DmbFull (items.Fence g) xs (accesses_before xs p) (accesses_before xs q) (λ i. refl) (full_at_mfence xs (behind_fence g.kind o) guards.1 p q a f (omega (arith, order)) first second one kind)
  full_at_mfence (items.Input t ∷ xs) o guards zero (suc q) a f order first second one kind = absurd (input_access first)
  full_at_mfence (items.Input t ∷ xs) o guards (suc p) (suc q) a f order first second one kind =
      fence_other DmbFull (items.Input t) xs (accesses_before xs p) (accesses_before xs q) (λ i. refl) (full_at_mfence xs o guards p q a f (omega (arith, order)) first second one kind)
  full_at_mfence (items.Output t ∷ xs) o guards zero (suc q) a f order first second one kind = absurd (output_access first)
  full_at_mfence (items.Output t ∷ xs) o guards (suc p) (suc q) a f order first second one kind =
      fence_other DmbFull (items.Output t) xs (accesses_before xs p) (accesses_before xs q) (λ i. refl) (full_at_mfence xs o guards p q a f (omega (arith, order)) first second one kind)
