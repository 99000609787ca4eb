-- Message passing without fences: which events it has, and that its pairs between threads lead from a second access to
-- a first.
use Rattle.std.proofs.Common.{◌≡◌, ◌<◌, ◌+◌, ◌⊎◌, ℕ, zero, suc, false, [], ◌∷◌, inl, inr, Some}
use Rattle.std.proofs.Common.{None, refl, sym, subst, ap, arith}
use Rattle.std.specs.List.{slice_get}
use Rattle.ev_graph.specs.declared.events.AccessKind.TheVariants.{Read, Write}
use Rattle.ev_graph.specs.declared.events.EventId.{EventId}
use Rattle.ev_graph.specs.declared.execution.Execution.{Execution}
use Rattle.ev_graph.specs.declared.execution.ReadFrom.{ReadFrom}
use Rattle.ev_graph.specs.declared.execution.Source.{Source}
use Rattle.ev_graph.specs.declared.execution.Source.TheVariants.{Start, From}
use Rattle.ev_graph.specs.Events.{Event, event, events, items_of, IsIn}
use Rattle.ev_graph.specs.Pairs.{PoLoc, Rf, Co, Fr, SourceOf, Overwrites}
use Rattle.ev_graph.specs.Places.{StandsIn, Earlier}
use Rattle.litmus.specs.MessagePassing.{write_data, write_flag, read_flag, read_data, flag_entry}
use Rattle.litmus.specs.MessagePassing.{data_entry, message_passing}

-- the execution without fences
abbrev pub bare : Execution
bare = message_passing None None

-- what is known of each write
pub record IsMessageWrite (a : Event) : Type 0 where
  pub kind : a.kind ≡ Write
  pub thread : a.id.thread ≡ 0
  pub index : a.id.index < 2
  pub address : a.address ≡ 4096 + a.id.index
  pub size : a.size ≡ 1
  pub unlocked : a.locked ≡ false

-- what is known of each read
pub record IsMessageRead (a : Event) : Type 0 where
  pub kind : a.kind ≡ Read
  pub thread : a.id.thread ≡ 1
  pub index : a.id.index < 2
  pub address : a.address + a.id.index ≡ 4097
  pub size : a.size ≡ 1
  pub unlocked : a.locked ≡ false

-- an event is a write or a read of the execution
abbrev pub IsKnown : Event → Type 0
IsKnown a = IsMessageWrite a ⊎ IsMessageRead a

-- the event that a thread and a number name is known
known_at : (t n : ℕ) (a : Event) → slice_get (events (items_of bare.threads t)) n ≡ Some a → IsKnown a
known_at zero zero a here =
    let same : event write_data ≡ a = cc in
    subst IsKnown same (inl (record {
      kind = refl;
      thread = refl;
      index = omega arith;
      address = refl;
      size = refl;
      unlocked = refl;
    }))
known_at zero (suc zero) a here =
    let same : event write_flag ≡ a = cc in
    subst IsKnown same (inl (record {
      kind = refl;
      thread = refl;
      index = omega arith;
      address = refl;
      size = refl;
      unlocked = refl;
    }))
known_at zero (suc (suc n)) a here = absurd cc
known_at (suc zero) zero a here =
    let same : event read_flag ≡ a = cc in
    subst IsKnown same (inr (record {
      kind = refl;
      thread = refl;
      index = omega arith;
      address = refl;
      size = refl;
      unlocked = refl;
    }))
known_at (suc zero) (suc zero) a here =
    let same : event read_data ≡ a = cc in
    subst IsKnown same (inr (record {
      kind = refl;
      thread = refl;
      index = omega arith;
      address = refl;
      size = refl;
      unlocked = refl;
    }))
known_at (suc zero) (suc (suc n)) a here = absurd cc
known_at (suc (suc t)) n a here = absurd cc

-- each event is a write or a read of the execution
pub known : (a : Event) → IsIn bare.threads a → IsKnown a
known a in_a = known_at a.id.thread a.id.index a in_a

-- no two events of a thread have a byte in common
pub no_poloc : (a b : Event) → IsKnown a → IsKnown b → PoLoc a b → ⊥
no_poloc a b (inl write) (inr read) loc =
    let thread = loc.po.thread in let left = write.thread in let right = read.thread in omega arith
no_poloc a b (inr read) (inl write) loc =
    let thread = loc.po.thread in let left = read.thread in let right = write.thread in omega arith
no_poloc a b (inl write) (inl later) loc =
    let order = loc.po.order in
    let first = write.address in let second = later.address in
    let one = write.size in let also = later.size in
    let common = loc.overlap in
    let left = common.1 in let right = common.2 in
    omega arith
no_poloc a b (inr read) (inr later) loc =
    let order = loc.po.order in
    let first = read.address in let second = later.address in
    let one = read.size in let also = later.size in
    let common = loc.overlap in
    let left = common.1 in let right = common.2 in
    omega arith

-- of two places of co the earlier is the data's and the later the flag's
co_indexes : (i j : ℕ) (a b : EventId) → i < j → slice_get bare.co i ≡ Some a → slice_get bare.co j ≡ Some b
    → (a.index ≡ 0) × (b.index ≡ 1)
co_indexes zero zero a b less first second = absurd (omega arith)
co_indexes zero (suc zero) a b less first second =
    let one : record { thread = 0; index = 0 } ≡ a = cc in
    let two : record { thread = 0; index = 1 } ≡ b = cc in
    (ap {B = ℕ} (λ (id : EventId). id.index) (sym one), ap {B = ℕ} (λ (id : EventId). id.index) (sym two))
co_indexes zero (suc (suc j)) a b less first second = absurd cc
co_indexes (suc i) zero a b less first second = absurd (omega arith)
co_indexes (suc zero) (suc zero) a b less first second = absurd (omega arith)
co_indexes (suc zero) (suc (suc j)) a b less first second = absurd cc
co_indexes (suc (suc i)) (suc j) a b less first second = absurd cc

-- an id that is earlier in co is the data's, and one that is later the flag's
earlier_indexes : (a b : EventId) → Earlier bare.co a b → (a.index ≡ 0) × (b.index ≡ 1)
earlier_indexes a b earlier = co_indexes earlier.i earlier.j a b earlier.order earlier.first earlier.second

-- the two writes have no byte in common
pub no_co : (a b : Event) → IsKnown a → IsKnown b → Co bare.co a b → ⊥
no_co a b (inr read) known_b co = let first = co.first in let kind = read.kind in cc
no_co a b (inl write) (inr read) co = let second = co.second in let kind = read.kind in cc
no_co a b (inl write) (inl later) co =
    let indexes = earlier_indexes a.id b.id co.earlier in
    let lower = indexes.0 in let higher = indexes.1 in
    let first = write.address in let second = later.address in
    let one = write.size in let also = later.size in
    let common = co.overlap in
    let left = common.1 in let right = common.2 in
    omega arith

-- the source of a byte of an entry: the read of the flag has the write of the flag, and the read of the data the start
abbrev pub SourceIs : EventId → Source → Type 0
SourceIs read source =
    ((read.index ≡ 0) × (source ≡ From (record { thread = 0; index = 1 }))) ⊎ ((read.index ≡ 1) × (source ≡ Start))

-- the one source of a list of one
one_source : (source other : Source) (k : ℕ) → slice_get (source ∷ []) k ≡ Some other → other ≡ source
one_source source other zero here = cc
one_source source other (suc k) here = absurd cc

-- each entry of rf is that of the flag or that of the data
entry_source : (entry : ReadFrom) (k : ℕ) (source : Source) → StandsIn bare.rf entry
    → slice_get entry.bytes k ≡ Some source → SourceIs entry.read source
entry_source entry k source (zero, here) byte =
    let same : entry ≡ flag_entry = cc in
    let At : ReadFrom → Type 0 = λ e. slice_get e.bytes k ≡ Some source in
    inl (
      ap {B = ℕ} (λ (e : ReadFrom). e.read.index) same,
      one_source (From (record { thread = 0; index = 1 })) source k (subst At same byte),
    )
entry_source entry k source (suc zero, here) byte =
    let same : entry ≡ data_entry = cc in
    let At : ReadFrom → Type 0 = λ e. slice_get e.bytes k ≡ Some source in
    inr (ap {B = ℕ} (λ (e : ReadFrom). e.read.index) same, one_source Start source k (subst At same byte))
entry_source entry k source (suc (suc i), here) byte = absurd cc

-- what a read finds
pub source_is : (r : Event) (k : ℕ) (source : Source) → SourceOf bare.rf r k source → SourceIs r.id source
source_is r k source from =
    let Of : EventId → Type 0 = λ id. SourceIs id source in
    subst Of from.read (entry_source from.entry k source from.listed from.byte)

-- reads-from leads from a second access to a first
pub rf_indexes : (w r : Event) → Rf bare.rf w r → (w.id.index ≡ 1) × (r.id.index ≡ 0)
rf_indexes w r rf = elim (source_is r rf.k (From w.id) rf.source) [
  | inl (index, is) ↦ (
      let same : w.id ≡ record { thread = 0; index = 1 } = cc in
      (ap {B = ℕ} (λ (id : EventId). id.index) same, index))
  | inr (index, is) ↦ absurd cc
]

-- the write of the flag overwrites no write of the flag
flag_again : (w : Event) (source : Source) → source ≡ From (record { thread = 0; index = 1 })
    → Overwrites bare.co w source → ⊥
flag_again w source is later =
    let At : Source → Type 0 = λ s. Overwrites bare.co w s in
    let earlier : Earlier bare.co (record { thread = 0; index = 1 }) w.id = subst At is later in
    let indexes = earlier_indexes (record { thread = 0; index = 1 }) w.id earlier in
    let wrong : ◌≡◌ {A = ℕ} 1 0 = indexes.0 in
    omega arith

-- from-reads leads from a second access to a first
pub fr_indexes : (r w : Event) → IsKnown r → IsKnown w → Fr bare.rf bare.co r w → (r.id.index ≡ 1) × (w.id.index ≡ 0)
fr_indexes r w (inl write) known_w fr = absurd (let kind = write.kind in let read = fr.read in cc)
fr_indexes r w (inr read) (inr other) fr = absurd (let kind = other.kind in let write = fr.write in cc)
fr_indexes r w (inr read) (inl write) fr = elim (source_is r fr.k fr.source fr.from) [
  | inl (index, is) ↦ absurd (flag_again w fr.source is fr.later)
  | inr (index, is) ↦ (
      let from = read.address in let to = write.address in
      let one = read.size in let also = write.size in
      let within = fr.within in
      let left = fr.covers.0 in let right = fr.covers.1 in
      (index, omega arith))
]
