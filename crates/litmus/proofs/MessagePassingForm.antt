-- Message passing without fences is well-formed over no segments: its sources give what is read, and co has each write
-- once.
use Rattle.std.proofs.Common.{◌≡◌, ℕ, zero, suc, length, Option, Some}
use Rattle.std.proofs.Common.{None, refl, sym, subst, ap, arith}
use Rattle.std.specs.List.{slice_get}
use Rattle.ev_graph.specs.declared.events.Access.{Access}
use Rattle.ev_graph.specs.declared.events.EventId.{EventId}
use Rattle.ev_graph.specs.declared.execution.ReadFrom.{ReadFrom}
use Rattle.ev_graph.specs.declared.execution.Source.{Source}
use Rattle.ev_graph.specs.declared.execution.Source.TheVariants.{Start, From}
use Rattle.ev_graph.specs.Events.{items_of, IsAccessOf, LockedAt}
use Rattle.ev_graph.specs.Memory.{Cell}
use Rattle.ev_graph.specs.Places.{StandsIn, IsDistinct}
use Rattle.ev_graph.specs.Start.{start_at}
use Rattle.ev_graph.specs.WellFormed.{IsIndexed, HasLockedPairs, HasSources, Gives, WellFormed}
use Rattle.litmus.specs.MessagePassing.{write_data, write_flag, read_flag, read_data, flag_entry}
use Rattle.litmus.specs.MessagePassing.{data_entry, message_passing}
use Rattle.litmus.proofs.MessagePassingEvents.{bare}

-- a file without segments
abbrev pub no_cells : ℕ → Option Cell
no_cells n = None

-- each access has the id of its thread and of its number there
indexed : IsIndexed bare.threads
indexed zero zero a here = let same : write_data ≡ a = cc in ap {B = EventId} (λ (b : Access). b.id) (sym same)
indexed zero (suc zero) a here = let same : write_flag ≡ a = cc in ap {B = EventId} (λ (b : Access). b.id) (sym same)
indexed zero (suc (suc n)) a here = absurd cc
indexed (suc zero) zero a here = let same : read_flag ≡ a = cc in ap {B = EventId} (λ (b : Access). b.id) (sym same)
indexed (suc zero) (suc zero) a here =
    let same : read_data ≡ a = cc in ap {B = EventId} (λ (b : Access). b.id) (sym same)
indexed (suc zero) (suc (suc n)) a here = absurd cc
indexed (suc (suc t)) n a here = absurd cc

-- what the entry of the read says of its size
abbrev pub IsSized : Access → ReadFrom → Type 0
IsSized a entry = IsAccessOf bare.threads entry.read a → length entry.bytes ≡ a.size

-- the entry of the flag has one source
flag_sized : (a : Access) → IsSized a flag_entry
flag_sized a found = let same : read_flag ≡ a = cc in ap {B = ℕ} (λ (b : Access). b.size) same

-- the entry of the data has one source
data_sized : (a : Access) → IsSized a data_entry
data_sized a found = let same : read_data ≡ a = cc in ap {B = ℕ} (λ (b : Access). b.size) same

-- each entry has as many sources as its read has bytes
sized : (e : ReadFrom) (a : Access) → StandsIn bare.rf e → IsSized a e
sized e a (zero, here) = let same : flag_entry ≡ e = cc in subst (IsSized a) same (flag_sized a)
sized e a (suc zero, here) = let same : data_entry ≡ e = cc in subst (IsSized a) same (data_sized a)
sized e a (suc (suc i), here) = absurd cc

-- no access is locked
none_locked : (t n : ℕ) → LockedAt (items_of bare.threads t) n → ⊥
none_locked zero zero locked = cc
none_locked zero (suc zero) locked = cc
none_locked zero (suc (suc n)) locked = absurd locked
none_locked (suc zero) zero locked = cc
none_locked (suc zero) (suc zero) locked = cc
none_locked (suc zero) (suc (suc n)) locked = absurd locked
none_locked (suc (suc t)) n locked = absurd locked

-- there are no locked pairs
pairs : HasLockedPairs bare
pairs p = ((λ (i, here). absurd cc), (λ pair. absurd (none_locked p.first.thread p.first.index pair.1.2)))

-- the source gives byte k of the read, over no segments
abbrev pub GivesBare : Access → ℕ → Source → Type 0
GivesBare r k source = Gives (start_at no_cells bare.stacks) bare.threads r k source

-- what an entry of rf gives
abbrev pub EntryGives : Access → ℕ → Source → ReadFrom → Type 0
EntryGives r k source entry =
    IsAccessOf bare.threads entry.read r → slice_get entry.bytes k ≡ Some source → GivesBare r k source

-- the write of the flag gives what the read of the flag finds
flag_gives : (r : Access) (k : ℕ) (source : Source) → EntryGives r k source flag_entry
flag_gives r zero source found byte =
    let access : read_flag ≡ r = cc in
    let from : From (record { thread = 0; index = 1 }) ≡ source = cc in
    let Of : Access → Type 0 = λ a. GivesBare a 0 source in
    let At : Source → Type 0 = λ s. GivesBare read_flag 0 s in
    subst Of access (subst At from (write_flag, refl, refl, (omega arith, omega arith), refl))
flag_gives r (suc k) source found byte = absurd cc

-- the start gives what the read of the data finds
data_gives : (r : Access) (k : ℕ) (source : Source) → EntryGives r k source data_entry
data_gives r zero source found byte =
    let access : read_data ≡ r = cc in
    let from : Start ≡ source = cc in
    let Of : Access → Type 0 = λ a. GivesBare a 0 source in
    let At : Source → Type 0 = λ s. GivesBare read_data 0 s in
    subst Of access (subst At from refl)
data_gives r (suc k) source found byte = absurd cc

-- each source that rf lists gives the byte that is read
sources : HasSources (start_at no_cells bare.stacks) bare
sources e r k source (zero, here) =
    let same : flag_entry ≡ e = cc in subst (EntryGives r k source) same (flag_gives r k source)
sources e r k source (suc zero, here) =
    let same : data_entry ≡ e = cc in subst (EntryGives r k source) same (data_gives r k source)
sources e r k source (suc (suc i), here) = absurd cc

-- the two writes have different ids
apart : (id : EventId) → id ≡ record { thread = 0; index = 0 } → id ≡ record { thread = 0; index = 1 } → ⊥
apart id data_id flag_id =
    let lower : id.index ≡ 0 = ap {B = ℕ} (λ (other : EventId). other.index) data_id in
    let higher : id.index ≡ 1 = ap {B = ℕ} (λ (other : EventId). other.index) flag_id in
    omega arith

-- the two writes stand at one place of co each
distinct : IsDistinct bare.co
distinct zero zero id first second = refl
distinct zero (suc zero) id first second =
    let data_id : id ≡ record { thread = 0; index = 0 } = cc in
    let flag_id : id ≡ record { thread = 0; index = 1 } = cc in
    absurd (apart id data_id flag_id)
distinct (suc zero) zero id first second =
    let data_id : id ≡ record { thread = 0; index = 0 } = cc in
    let flag_id : id ≡ record { thread = 0; index = 1 } = cc in
    absurd (apart id data_id flag_id)
distinct (suc zero) (suc zero) id first second = refl
distinct zero (suc (suc j)) id first second = absurd cc
distinct (suc zero) (suc (suc j)) id first second = absurd cc
distinct (suc (suc i)) j id first second = absurd cc

-- message passing without fences is well-formed
pub well_formed : WellFormed no_cells (message_passing None None)
well_formed = record {
  shaped = record { indexed = indexed; entries = record { reads = refl; sizes = sized }; pairs = pairs };
  sources = sources;
  co = record { only = λ id here. here; once = distinct; each = λ id here. here };
}
