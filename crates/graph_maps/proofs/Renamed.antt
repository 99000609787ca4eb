-- Renaming fences, and leaving some out, keeps the accesses and their numbers; each fence comes from one before.
use Rattle.std.proofs.Common.{◌≡◌, ℕ, zero, suc, Bool, true, false, cond, List, [], ◌∷◌, map, filter, Some, sym, ◌∙◌, ap, subst, refl, arith}
use Rattle.std.specs.List.{slice_get}
use Rattle.ev_graph.specs.declared.events.FenceItem.{FenceItem}
use Rattle.ev_graph.specs.declared.events.FenceKind.{FenceKind}
use Rattle.ev_graph.specs.declared.events.FenceKind.TheVariants as fence
use Rattle.ev_graph.specs.declared.events.Item.{Item}
use Rattle.ev_graph.specs.declared.events.Item.TheVariants as item
use Rattle.ev_graph.specs.declared.execution.Execution.{Execution}
use Rattle.ev_graph.specs.declared.execution.ThreadRun.{ThreadRun}
use Rattle.ev_graph.specs.Events.{accesses, accesses_before, event, events, items_of, FenceBetween}
use Rattle.graph_maps.specs.Maps.{renamed, is_needed, is_kept, limm_kind, limm_thread, x86_kind, x86_thread}
use Rattle.graph_maps.specs.Needs.{SameEvents, HasFences, IsDmb, IsLimmFence, FencesFrom}

-- renaming keeps the accesses
pub accesses-renamed : (kind_of : FenceKind → FenceKind) (items : List Item) → accesses (map (renamed kind_of) items) ≡ accesses items
accesses-renamed kind_of [] = refl
accesses-renamed kind_of (item.Access a ∷ items) = ap (λ rest. a ∷ rest) (accesses-renamed kind_of items)
accesses-renamed kind_of (other ∷ items) = accesses-renamed kind_of items

-- and their numbers
pub before-renamed : (kind_of : FenceKind → FenceKind) (items : List Item) (place : ℕ)
    → accesses_before (map (renamed kind_of) items) place ≡ accesses_before items place
before-renamed kind_of items zero = refl
before-renamed kind_of [] (suc place) = refl
before-renamed kind_of (item.Access a ∷ items) (suc place) = ap suc (before-renamed kind_of items place)
before-renamed kind_of (other ∷ items) (suc place) = before-renamed kind_of items place

-- a fence that stands after renaming stood at its place before
pub fence_before : (kind_of : FenceKind → FenceKind) (items : List Item) (place : ℕ) (f : FenceItem) → slice_get (map (renamed kind_of) items) place ≡ Some (item.Fence f)
    → (g : FenceItem) × (slice_get items place ≡ Some (item.Fence g)) × (f.kind ≡ kind_of g.kind)
fence_before kind_of [] place f here = absurd cc
fence_before kind_of (item.Fence g ∷ items) zero f here =
    (g, refl, (let same : record g { kind = kind_of g.kind } ≡ f = cc in ap {B = FenceKind} (λ (h : FenceItem). h.kind) (sym same)))
fence_before kind_of (other ∷ items) zero f here = absurd cc
fence_before kind_of (other ∷ items) (suc place) f here = fence_before kind_of items place f here

-- leaving out fences keeps the accesses
pub accesses-kept : (items : List Item) → accesses (filter is_kept items) ≡ accesses items
accesses-kept [] = refl
accesses-kept (item.Access a ∷ items) = ap (λ rest. a ∷ rest) (accesses-kept items)
accesses-kept (item.Input v ∷ items) = accesses-kept items
accesses-kept (item.Output v ∷ items) = accesses-kept items
accesses-kept (item.Fence f ∷ items) =
    let Goal : Bool → Type 0 = λ kept. accesses (cond kept (item.Fence f ∷ filter is_kept items) (filter is_kept items)) ≡ accesses items in
    elim (is_needed f.kind) as Goal [ true ↦ accesses-kept items | false ↦ accesses-kept items ]

-- a fence that is kept stood before, at a place with as many accesses before it
pub record KeptFrom (items : List Item) (place : ℕ) (f : FenceItem) : Type 0 where
  pub old : ℕ
  pub here : slice_get items old ≡ Some (item.Fence f)
  pub before : accesses_before (filter is_kept items) place ≡ accesses_before items old

-- the same behind a fence, which is kept or left out
fence_kept : (g : FenceItem) (items : List Item) (kept : Bool) (place : ℕ) (f : FenceItem)
    → ((k : ℕ) → slice_get (filter is_kept items) k ≡ Some (item.Fence f) → KeptFrom items k f)
    → slice_get (cond kept (item.Fence g ∷ filter is_kept items) (filter is_kept items)) place ≡ Some (item.Fence f)
    → (old : ℕ) × (slice_get (item.Fence g ∷ items) old ≡ Some (item.Fence f))
    × (accesses_before (cond kept (item.Fence g ∷ filter is_kept items) (filter is_kept items)) place ≡ accesses_before (item.Fence g ∷ items) old)
fence_kept g items true zero f rest here = (0, here, refl)
fence_kept g items true (suc place) f rest here = let found = rest place here in (suc found.old, found.here, found.before)
fence_kept g items false place f rest here = let found = rest place here in (suc found.old, found.here, found.before)

pub kept_from : (items : List Item) (place : ℕ) (f : FenceItem) → slice_get (filter is_kept items) place ≡ Some (item.Fence f) → KeptFrom items place f
kept_from [] place f here = absurd cc
kept_from (item.Access a ∷ items) zero f here = absurd cc
kept_from (item.Access a ∷ items) (suc place) f here =
    let rest = kept_from items place f here in record { old = suc rest.old; here = rest.here; before = ap suc rest.before }
kept_from (item.Input v ∷ items) zero f here = absurd cc
kept_from (item.Input v ∷ items) (suc place) f here =
    let rest = kept_from items place f here in record { old = suc rest.old; here = rest.here; before = rest.before }
kept_from (item.Output v ∷ items) zero f here = absurd cc
kept_from (item.Output v ∷ items) (suc place) f here =
    let rest = kept_from items place f here in record { old = suc rest.old; here = rest.here; before = rest.before }
kept_from (item.Fence g ∷ items) place f here =
    let found = fence_kept g items (is_needed g.kind) place f (λ k there. kept_from items k f there) here in
    record { old = found.0; here = found.1; before = found.2 }

-- a thread's items in the two forms
pub items-limm : (threads : List ThreadRun) (t : ℕ) → items_of (map limm_thread threads) t ≡ map (renamed limm_kind) (items_of threads t)
items-limm [] t = refl
items-limm (thread ∷ threads) zero = refl
items-limm (thread ∷ threads) (suc t) = items-limm threads t

pub items-x86 : (threads : List ThreadRun) (t : ℕ) → items_of (map x86_thread threads) t ≡ map (renamed x86_kind) (filter is_kept (items_of threads t))
items-x86 [] t = refl
items-x86 (thread ∷ threads) zero = refl
items-x86 (thread ∷ threads) (suc t) = items-x86 threads t

-- the events of a thread in the two forms
pub events-limm : (threads : List ThreadRun) (t : ℕ) → events (items_of (map limm_thread threads) t) ≡ events (items_of threads t)
events-limm threads t = ap events (items-limm threads t) ∙ ap (map event) (accesses-renamed limm_kind (items_of threads t))

pub events-x86 : (threads : List ThreadRun) (t : ℕ) → events (items_of (map x86_thread threads) t) ≡ events (items_of threads t)
events-x86 threads t =
    let items = items_of threads t in
    ap events (items-x86 threads t) ∙ ap (map event) (accesses-renamed x86_kind (filter is_kept items) ∙ accesses-kept items)

-- the same events, with the fences of the intermediate form
pub limm_same : (x : Execution) → SameEvents x (record x { threads = map limm_thread x.threads })
limm_same x = record { threads = events-limm x.threads; rf = refl; co = refl; rmw = refl }

-- the same events, with the fences of x86
pub x86_same : (x : Execution) → SameEvents x (record x { threads = map x86_thread x.threads })
x86_same x = record { threads = events-x86 x.threads; rf = refl; co = refl; rmw = refl }

-- a fence between two accesses of the intermediate form comes from one of Armv8 between them
limm_between : (kind other : FenceKind) → ((k : FenceKind) → IsDmb k → other ≡ limm_kind k → k ≡ kind) → (threads : List ThreadRun) → HasFences IsDmb threads
    → (t m n : ℕ) → FenceBetween other (items_of (map limm_thread threads) t) m n → FenceBetween kind (items_of threads t) m n
limm_between kind other back threads dmbs t m n between =
    let items = items_of threads t in
    let Between : List Item → Type 0 = λ all. FenceBetween other all m n in
    let moved = subst Between (items-limm threads t) between in
    let found = fence_before limm_kind items moved.place moved.fence moved.here in
    let counted = before-renamed limm_kind items moved.place in
    record {
      place = moved.place;
      fence = found.0;
      here = found.1;
      same = back found.0.kind (dmbs t moved.place found.0 found.1) (let kinds = found.2 in let same = moved.same in cc);
      behind = let behind = moved.behind in omega arith;
      ahead = let ahead = moved.ahead in omega arith;
    }

frm_from : (k : FenceKind) → IsDmb k → fence.Frm ≡ limm_kind k → k ≡ fence.DmbLd
frm_from fence.DmbLd dmb is = refl
frm_from fence.DmbSt dmb is = absurd cc
frm_from fence.DmbFull dmb is = absurd cc
frm_from _ dmb is = absurd dmb

fww_from : (k : FenceKind) → IsDmb k → fence.Fww ≡ limm_kind k → k ≡ fence.DmbSt
fww_from fence.DmbSt dmb is = refl
fww_from fence.DmbLd dmb is = absurd cc
fww_from fence.DmbFull dmb is = absurd cc
fww_from _ dmb is = absurd dmb

fsc_from : (k : FenceKind) → IsDmb k → fence.Fsc ≡ limm_kind k → k ≡ fence.DmbFull
fsc_from fence.DmbFull dmb is = refl
fsc_from fence.DmbLd dmb is = absurd cc
fsc_from fence.DmbSt dmb is = absurd cc
fsc_from _ dmb is = absurd dmb

pub limm_frm : (x : Execution) → HasFences IsDmb x.threads → FencesFrom fence.DmbLd fence.Frm x (record x { threads = map limm_thread x.threads })
limm_frm x dmbs a b in_a in_b po between = limm_between fence.DmbLd fence.Frm frm_from x.threads dmbs a.id.thread a.id.index b.id.index between

pub limm_fww : (x : Execution) → HasFences IsDmb x.threads → FencesFrom fence.DmbSt fence.Fww x (record x { threads = map limm_thread x.threads })
limm_fww x dmbs a b in_a in_b po between = limm_between fence.DmbSt fence.Fww fww_from x.threads dmbs a.id.thread a.id.index b.id.index between

pub limm_fsc : (x : Execution) → HasFences IsDmb x.threads → FencesFrom fence.DmbFull fence.Fsc x (record x { threads = map limm_thread x.threads })
limm_fsc x dmbs a b in_a in_b po between = limm_between fence.DmbFull fence.Fsc fsc_from x.threads dmbs a.id.thread a.id.index b.id.index between

mfence_from : (k : FenceKind) → IsLimmFence k → fence.Mfence ≡ x86_kind k → k ≡ fence.Fsc
mfence_from fence.Fsc limm is = refl
mfence_from fence.Frm limm is = absurd cc
mfence_from fence.Fww limm is = absurd cc
mfence_from _ limm is = absurd limm

-- an MFENCE comes from an Fsc
pub x86_mfence : (x : Execution) → HasFences IsLimmFence x.threads → FencesFrom fence.Fsc fence.Mfence x (record x { threads = map x86_thread x.threads })
x86_mfence x limm a b in_a in_b po between =
    let items = items_of x.threads a.id.thread in
    let Between : List Item → Type 0 = λ all. FenceBetween fence.Mfence all a.id.index b.id.index in
    let moved = subst Between (items-x86 x.threads a.id.thread) between in
    let found = fence_before x86_kind (filter is_kept items) moved.place moved.fence moved.here in
    let kept = kept_from items moved.place found.0 found.1 in
    let counted = before-renamed x86_kind (filter is_kept items) moved.place ∙ kept.before in
    record {
      place = kept.old;
      fence = found.0;
      here = kept.here;
      same = mfence_from found.0.kind (limm a.id.thread kept.old found.0 kept.here) (let kinds = found.2 in let same = moved.same in cc);
      behind = let behind = moved.behind in omega arith;
      ahead = let ahead = moved.ahead in omega arith;
    }
