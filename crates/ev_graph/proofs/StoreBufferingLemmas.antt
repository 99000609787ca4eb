-- Store buffering: its accesses, its fences, its sources, and that it is what its threads' items say.
use Rattle.std.proofs.Common.{◌≡◌, ◌<◌, ◌-◌, ℕ, zero, suc, Bool, false, List, [], ◌∷◌, map, length, ◌⊎◌, inl, inr, IsSomeAnd, Option, Some, None, refl, sym, ◌∙◌, subst, ap, arith}
use Rattle.std.specs.List.{slice_get}
use Rattle.ev_graph.specs.declared.events.Access.{Access}
use Rattle.std.specs.Option.{option_map}
use Rattle.std.proofs.lemmas.Option.{slice_get-map}
use Rattle.ev_graph.specs.declared.events.AccessKind.{AccessKind}
use Rattle.ev_graph.specs.declared.events.EventId.{EventId}
use Rattle.ev_graph.specs.declared.events.FenceItem.{FenceItem}
use Rattle.ev_graph.specs.declared.events.FenceKind.{FenceKind}
use Rattle.ev_graph.specs.declared.events.Item.TheVariants as item
use Rattle.ev_graph.specs.declared.execution.ReadFrom.{ReadFrom}
use Rattle.ev_graph.specs.declared.execution.Source.TheVariants.{Start, From}
use Rattle.ev_graph.specs.Places.{StandsIn}
use Rattle.ev_graph.specs.Events.{Event, event, events, accesses, items_of, IsIn, IsAccessOf, IsLocked, LockedAt}
use Rattle.ev_graph.specs.Pairs.{SourceOf}
use Rattle.ev_graph.specs.WellFormed.{IsIndexed, HasEntries, HasLockedPairs, IsShaped, EachAccess, IsAddressable, read_ids}
use Rattle.ev_graph.proofs.EventLemmas.{access_of}
use Rattle.ev_graph.specs.StoreBuffering.{sb_write, sb_read, sb_items, sb_entry, store_buffering, IsSbWrite, IsSbRead}

-- a thread's accesses are its write and its read
sb_accesses : (t value : ℕ) (fence : Option FenceKind) → accesses (sb_items t value fence) ≡ sb_write t ∷ sb_read t value ∷ []
sb_accesses t value None = refl
sb_accesses t value (Some kind) = refl

two : (t value n : ℕ) (a : Access) → slice_get (sb_write t ∷ sb_read t value ∷ []) n ≡ Some a
    → ((n ≡ 0) × (sb_write t ≡ a)) ⊎ ((n ≡ 1) × (sb_read t value ≡ a))
two t value zero a here = inl (refl, cc)
two t value (suc zero) a here = inr (omega arith, cc)
two t value (suc (suc n)) a here = absurd cc

-- each access is the write or the read of a thread
pub sb_access : (value : ℕ) (fence : Option FenceKind) (t n : ℕ) (a : Access) → slice_get (accesses (items_of (store_buffering value fence).threads t)) n ≡ Some a
    → (t < 2) × (((n ≡ 0) × (sb_write t ≡ a)) ⊎ ((n ≡ 1) × (sb_read t value ≡ a)))
sb_access value fence zero n a here = (omega arith, two 0 value n a (let At : List Access → Type 0 = λ all. slice_get all n ≡ Some a in subst At (sb_accesses 0 value fence) here))
sb_access value fence (suc zero) n a here = (omega arith, two 1 value n a (let At : List Access → Type 0 = λ all. slice_get all n ≡ Some a in subst At (sb_accesses 1 value fence) here))
sb_access value fence (suc (suc t)) n a here = absurd cc

-- each event is the write or the read of a thread
pub sb_known : (value : ℕ) (fence : Option FenceKind) (a : Event) → IsIn (store_buffering value fence).threads a → IsSbWrite a ⊎ IsSbRead a
sb_known value fence a in_a =
    let found = access_of (store_buffering value fence).threads a in_a in
    let access = sb_access value fence a.id.thread a.id.index found.0 found.1 in
    elim access.1 [
      | inl (index, is) ↦ inl (
          let same : event (sb_write a.id.thread) ≡ a = ap event is ∙ found.2 in
          record {
            kind = ap {B = AccessKind} (λ (e : Event). e.kind) (sym same);
            index = index;
            thread = access.0;
            address = ap {B = ℕ} (λ (e : Event). e.address) (sym same);
            size = ap {B = ℕ} (λ (e : Event). e.size) (sym same);
            unlocked = ap {B = Bool} (λ (e : Event). e.locked) (sym same);
          })
      | inr (index, is) ↦ inr (
          let same : event (sb_read a.id.thread value) ≡ a = ap event is ∙ found.2 in
          let address : a.address ≡ 4097 - a.id.thread = ap {B = ℕ} (λ (e : Event). e.address) (sym same) in
          record {
            kind = ap {B = AccessKind} (λ (e : Event). e.kind) (sym same);
            index = index;
            thread = access.0;
            address = (let below = access.0 in omega arith);
            size = ap {B = ℕ} (λ (e : Event). e.size) (sym same);
            unlocked = ap {B = Bool} (λ (e : Event). e.locked) (sym same);
          })
    ]

start_only : (k : ℕ) (w : EventId) → slice_get (Start ∷ []) k ≡ Some (From w) → ⊥
start_only zero w here = cc
start_only (suc k) w here = cc

no_from : (entry : ReadFrom) (k : ℕ) (w : EventId) → StandsIn (sb_entry 0 ∷ sb_entry 1 ∷ []) entry → slice_get entry.bytes k ≡ Some (From w) → ⊥
no_from entry k w (zero, here) byte =
    let At : ReadFrom → Type 0 = λ e. slice_get e.bytes k ≡ Some (From w) in
    start_only k w (subst At (let same : entry ≡ sb_entry 0 = cc in same) byte)
no_from entry k w (suc zero, here) byte =
    let At : ReadFrom → Type 0 = λ e. slice_get e.bytes k ≡ Some (From w) in
    start_only k w (subst At (let same : entry ≡ sb_entry 1 = cc in same) byte)
no_from entry k w (suc (suc i), here) byte = cc

-- no read has a write as its source
pub sb_from : (value : ℕ) (fence : Option FenceKind) (r : Event) (k : ℕ) (w : EventId) → SourceOf (store_buffering value fence).rf r k (From w) → ⊥
sb_from value fence r k w source = no_from source.entry k w source.listed source.byte

item_fence : (t value : ℕ) (fence : Option FenceKind) (place : ℕ) (f : FenceItem) → slice_get (sb_items t value fence) place ≡ Some (item.Fence f) → fence ≡ Some f.kind
item_fence t value None zero f here = absurd cc
item_fence t value None (suc zero) f here = absurd cc
item_fence t value None (suc (suc place)) f here = absurd cc
item_fence t value (Some kind) zero f here = absurd cc
item_fence t value (Some kind) (suc zero) f here =
    let same : record { kind = kind; place = 2 } ≡ f = cc in ap {B = Option FenceKind} (λ (g : FenceItem). Some g.kind) same
item_fence t value (Some kind) (suc (suc zero)) f here = absurd cc
item_fence t value (Some kind) (suc (suc (suc place))) f here = absurd cc

-- the fences are those between
pub sb_fence : (value : ℕ) (fence : Option FenceKind) (t place : ℕ) (f : FenceItem)
    → slice_get (items_of (store_buffering value fence).threads t) place ≡ Some (item.Fence f) → fence ≡ Some f.kind
sb_fence value fence zero place f here = item_fence 0 value fence place f here
sb_fence value fence (suc zero) place f here = item_fence 1 value fence place f here
sb_fence value fence (suc (suc t)) place f here = absurd cc

sb_indexed : (value : ℕ) (fence : Option FenceKind) → IsIndexed (store_buffering value fence).threads
sb_indexed value fence t n a here =
    let access = sb_access value fence t n a here in
    elim access.1 [
      | inl (index, is) ↦ ap {B = EventId} (λ (b : Access). b.id) (sym is) ∙ ap (λ i. record { thread = t; index = i }) (sym index)
      | inr (index, is) ↦ ap {B = EventId} (λ (b : Access). b.id) (sym is) ∙ ap (λ i. record { thread = t; index = i }) (sym index)
    ]

sb_reads : (value : ℕ) (fence : Option FenceKind) → map (λ (e : ReadFrom). e.read) (store_buffering value fence).rf ≡ read_ids (store_buffering value fence).threads
sb_reads value None = refl
sb_reads value (Some kind) = refl

entry_size : (value : ℕ) (fence : Option FenceKind) (e : ReadFrom) (a : Access) → e ≡ sb_entry 0 → IsAccessOf (store_buffering value fence).threads e.read a → length e.bytes ≡ a.size
entry_size value fence e a is found =
    let At : ReadFrom → Type 0 = λ entry. IsAccessOf (store_buffering value fence).threads entry.read a in
    let access = sb_access value fence 0 1 a (subst At is found) in
    let size : a.size ≡ 1 = elim access.1 [ inl (index, same) ↦ absurd (omega arith) | inr (index, same) ↦ ap {B = ℕ} (λ (b : Access). b.size) (sym same) ] in
    ap {B = ℕ} (λ (entry : ReadFrom). length entry.bytes) is ∙ sym size

entry_size' : (value : ℕ) (fence : Option FenceKind) (e : ReadFrom) (a : Access) → e ≡ sb_entry 1 → IsAccessOf (store_buffering value fence).threads e.read a → length e.bytes ≡ a.size
entry_size' value fence e a is found =
    let At : ReadFrom → Type 0 = λ entry. IsAccessOf (store_buffering value fence).threads entry.read a in
    let access = sb_access value fence 1 1 a (subst At is found) in
    let size : a.size ≡ 1 = elim access.1 [ inl (index, same) ↦ absurd (omega arith) | inr (index, same) ↦ ap {B = ℕ} (λ (b : Access). b.size) (sym same) ] in
    ap {B = ℕ} (λ (entry : ReadFrom). length entry.bytes) is ∙ sym size

locked_access : (value : ℕ) (fence : Option FenceKind) (t n : ℕ) (o : Option Access) → slice_get (accesses (items_of (store_buffering value fence).threads t)) n ≡ o
    → IsSomeAnd (option_map event o) IsLocked → ⊥
locked_access value fence t n None is locked = absurd locked
locked_access value fence t n (Some a) is locked =
    let access = sb_access value fence t n a is in
    let unlocked : a.locked ≡ false = elim access.1 [
      | inl (index, same) ↦ ap {B = Bool} (λ (b : Access). b.locked) (sym same)
      | inr (index, same) ↦ ap {B = Bool} (λ (b : Access). b.locked) (sym same)
    ] in
    cc

-- no access is locked
none_locked : (value : ℕ) (fence : Option FenceKind) (t n : ℕ) → LockedAt (items_of (store_buffering value fence).threads t) n → ⊥
none_locked value fence t n locked =
    let all = accesses (items_of (store_buffering value fence).threads t) in
    let mapped = slice_get-map event all n in
    let Locked : Option Event → Type 0 = λ o. IsSomeAnd o IsLocked in
    locked_access value fence t n (slice_get all n) refl (subst Locked mapped locked)

sb_size : (value : ℕ) (fence : Option FenceKind) (e : ReadFrom) (a : Access) → StandsIn (store_buffering value fence).rf e
    → IsAccessOf (store_buffering value fence).threads e.read a → length e.bytes ≡ a.size
sb_size value fence e a (zero, here) found = entry_size value fence e a (let same : e ≡ sb_entry 0 = cc in same) found
sb_size value fence e a (suc zero, here) found = entry_size' value fence e a (let same : e ≡ sb_entry 1 = cc in same) found
sb_size value fence e a (suc (suc i), here) found = absurd cc

sb_entries : (value : ℕ) (fence : Option FenceKind) → HasEntries (store_buffering value fence)
sb_entries value fence = record { reads = sb_reads value fence; sizes = sb_size value fence }

sb_pairs : (value : ℕ) (fence : Option FenceKind) → HasLockedPairs (store_buffering value fence)
sb_pairs value fence p = (
  (λ (i, here). absurd cc),
  (λ pair. absurd (
      let t = p.first.thread in
      let Locked : Option Event → Type 0 = λ o. IsSomeAnd o IsLocked in
      let locked : IsSomeAnd (slice_get (events (items_of (store_buffering value fence).threads t)) p.first.index) IsLocked = pair.1.2 in
      none_locked value fence t p.first.index locked)),
)

-- the ids, the entries of rf and the locked pairs are what the threads' items say
pub sb_shaped : (value : ℕ) (fence : Option FenceKind) → IsShaped (store_buffering value fence)
sb_shaped value fence = record { indexed = sb_indexed value fence; entries = sb_entries value fence; pairs = sb_pairs value fence }

-- each access ends within the addresses
pub sb_addressable : (value : ℕ) (fence : Option FenceKind) → EachAccess IsAddressable (store_buffering value fence).threads
sb_addressable value fence t n a here =
    let access = sb_access value fence t n a here in
    let End : Access → Type 0 = λ b. IsAddressable b in
    elim access.1 [
      | inl (index, is) ↦ subst End is (let below = access.0 in omega arith)
      | inr (index, is) ↦ subst End is (let below = access.0 in omega arith)
    ]
