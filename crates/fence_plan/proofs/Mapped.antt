-- In items that are guarded the fences stand that the mapping from x86 asks for.
use Rattle.std.proofs.Common.{◌≡◌, ◌⊎◌, inl, inr, ℕ, zero, suc, ◌≤◌, Bool, true, false, List, [], ◌∷◌, Some, None, refl, sym, ◌∙◌, subst, arith}
use Rattle.std.specs.Prelude.{slice_get}
use Rattle.ev_graph.specs.declared.events.Access.{Access}
use Rattle.ev_graph.specs.declared.events.AccessKind.{AccessKind}
use Rattle.ev_graph.specs.declared.events.AccessKind.TheVariants.{Read, Write}
use Rattle.ev_graph.specs.declared.events.FenceItem.{FenceItem}
use Rattle.ev_graph.specs.declared.events.FenceKind.{FenceKind}
use Rattle.ev_graph.specs.declared.events.FenceKind.TheVariants.{Frm, Fww, Fsc, Mfence, DmbLd, DmbSt, DmbFull}
use Rattle.ev_graph.specs.declared.events.Item.{Item}
use Rattle.ev_graph.specs.declared.events.Item.TheVariants as items
use Rattle.ev_graph.specs.Events.{accesses_before}
use Rattle.fence_plan.specs.Guards.{Open, behind_fence, behind_access, MayCome, HasBarrier, OfAccess, Guards}

pub none_there : {A : Type 0} {x : A} → None ≡ Some x → ⊥
none_there e = absurd cc

pub some_same : {A : Type 0} {x y : A} → Some x ≡ Some y → x ≡ y
some_same e = cc

not_false : true ≡ false → ⊥
not_false e = absurd cc

pub both : {b : Bool} → b ≡ true → b ≡ false → ⊥
both one other = not_false (sym one ∙ other)

-- a fence of one of these kinds stands among items, with no more accesses before it than before a place
pub record Found (P : FenceKind → Type 0) (xs : List Item) (place : ℕ) : Type 0 where
  pub at : ℕ
  pub fence : FenceItem
  pub here : slice_get xs at ≡ Some (items.Fence fence)
  pub kind : P fence.kind
  pub before : accesses_before xs at ≤ accesses_before xs place

-- ---- one search for all: what is open is closed before an item that asks for it

module _ (is : Access → Bool) (P : FenceKind → Type 0) (IsOpen : Open → Type 0) (Asks : Bool → AccessKind → Type 0) (AsksFence : FenceKind → Type 0)
    (at_fence : (kind : FenceKind) (o : Open) → IsOpen o → HasBarrier kind o → P kind ⊎ ((AsksFence kind → ⊥) × IsOpen (behind_fence kind o)))
    (at_access : (locked : Bool) (kind : AccessKind) (o : Open) → IsOpen o → MayCome locked kind o → (Asks locked kind → ⊥) × IsOpen (behind_access locked kind))
    (at_private : (o : Open) → IsOpen o → IsOpen (record o { half = false })) where
  -- an item that asks
  abbrev AsksItem : Item → Type 0
  AsksItem (items.Access a) = (is a ≡ false) × Asks a.locked a.kind
  AsksItem (items.Fence f) = AsksFence f.kind
  AsksItem (items.Input t) = ⊥
  AsksItem (items.Output t) = ⊥

  behind_other : (x : Item) (xs : List Item) (place : ℕ) → ((n : ℕ) → accesses_before (x ∷ xs) (suc n) ≡ accesses_before xs n) → Found P xs place → Found P (x ∷ xs) (suc place)
  behind_other x xs place same f = record { at = suc f.at; fence = f.fence; here = f.here; kind = f.kind; before = omega (arith, same f.at, same place, f.before) }

  behind_one : (a : Access) (xs : List Item) (place : ℕ) → Found P xs place → Found P (items.Access a ∷ xs) (suc place)
  behind_one a xs place f = record { at = suc f.at; fence = f.fence; here = f.here; kind = f.kind; before = omega (arith, f.before) }

  search_closed : (xs : List Item) (o : Open) → Guards is o xs → IsOpen o → (place : ℕ) (i : Item) → slice_get xs place ≡ Some i → AsksItem i → Found P xs place
  search_closed [] o guards opened place i e asks = absurd (none_there e)
  search_closed (items.Access c ∷ xs) o guards opened place i e asks = by (is c) refl guards place e (λ o' g open' n e'. search_closed xs o' g open' n i e' asks)
    where
      by : (b : Bool) → is c ≡ b → OfAccess b (Guards is (record o { half = false }) xs) (MayCome c.locked c.kind o × Guards is (behind_access c.locked c.kind) xs)
          → (place : ℕ) → slice_get (items.Access c ∷ xs) place ≡ Some i
          → ((o' : Open) → Guards is o' xs → IsOpen o' → (n : ℕ) → slice_get xs n ≡ Some i → Found P xs n) → Found P (items.Access c ∷ xs) place
      by true hidden rest zero e later = absurd (both hidden (subst AsksItem (sym (some_same e)) asks).0)
      by true hidden rest (suc place) e later = behind_one c xs place (later (record o { half = false }) rest (at_private o opened) place e)
      by false shown rest zero e later = absurd ((at_access c.locked c.kind o opened rest.0).0 (subst AsksItem (sym (some_same e)) asks).1)
      by false shown rest (suc place) e later = behind_one c xs place (later (behind_access c.locked c.kind) rest.1 (at_access c.locked c.kind o opened rest.0).1 place e)
  search_closed (items.Fence f ∷ xs) o guards opened place i e asks = by (at_fence f.kind o opened guards.0) place e (λ o' g open' n e'. search_closed xs o' g open' n i e' asks)
    where
      by : P f.kind ⊎ ((AsksFence f.kind → ⊥) × IsOpen (behind_fence f.kind o)) → (place : ℕ) → slice_get (items.Fence f ∷ xs) place ≡ Some i
          → ((o' : Open) → Guards is o' xs → IsOpen o' → (n : ℕ) → slice_get xs n ≡ Some i → Found P xs n) → Found P (items.Fence f ∷ xs) place
      by (inl closes) place e later = record { at = 0; fence = f; here = refl; kind = closes; before = omega arith }
      by (inr (quiet, still)) zero e later = absurd (quiet (subst AsksItem (sym (some_same e)) asks))
      by (inr (quiet, still)) (suc place) e later = behind_other (items.Fence f) xs place (λ n. refl) (later (behind_fence f.kind o) guards.1 still place e)
  search_closed (items.Input t ∷ xs) o guards opened zero i e asks = absurd (subst AsksItem (sym (some_same e)) asks)
  search_closed (items.Input t ∷ xs) o guards opened (suc place) i e asks = behind_other (items.Input t) xs place (λ n. refl) (search_closed xs o guards opened place i e asks)
  search_closed (items.Output t ∷ xs) o guards opened zero i e asks = absurd (subst AsksItem (sym (some_same e)) asks)
  search_closed (items.Output t ∷ xs) o guards opened (suc place) i e asks = behind_other (items.Output t) xs place (λ n. refl) (search_closed xs o guards opened place i e asks)

-- ---- what may be open

-- the last access that is not private is no half of a pair that may go on, and no full barrier has come since
pub record AllOpen (o : Open) : Type 0 where
  pub whole : o.half ≡ false
  pub all : o.all ≡ true

pub record ReadsOpen (o : Open) : Type 0 where
  pub rest : AllOpen o
  pub reads : o.reads ≡ true

pub record LockedOpen (o : Open) : Type 0 where
  pub rest : AllOpen o
  pub locked : o.locked ≡ true

pub record WritesOpen (o : Open) : Type 0 where
  pub rest : AllOpen o
  pub writes : o.writes ≡ true

abbrev pub IsFull : FenceKind → Type 0
IsFull kind = kind ≡ DmbFull

abbrev pub ClosesReads : FenceKind → Type 0
ClosesReads kind = (kind ≡ DmbLd) ⊎ (kind ≡ DmbFull)

abbrev pub ClosesWrites : FenceKind → Type 0
ClosesWrites kind = (kind ≡ DmbSt) ⊎ (kind ≡ DmbFull)

-- which accesses ask
abbrev Any : Bool → AccessKind → Type 0
Any locked kind = Unit {0}

abbrev Locked : Bool → AccessKind → Type 0
Locked locked kind = locked ≡ true

abbrev PlainWrite : Bool → AccessKind → Type 0
PlainWrite locked kind = (locked ≡ false) × (kind ≡ Write)

-- which fences ask
abbrev NoFence : FenceKind → Type 0
NoFence kind = ⊥

abbrev IsMfence : FenceKind → Type 0
IsMfence kind = kind ≡ Mfence

-- with all open no locked access may come
none_locked : (kind : AccessKind) (o : Open) → AllOpen o → MayCome true kind o → ⊥
none_locked Read o opened may = both opened.all may
none_locked Write o opened (inl half) = both half opened.whole
none_locked Write o opened (inr closed) = both opened.all closed

behind_plain : (kind : AccessKind) → AllOpen (behind_access false kind)
behind_plain Read = record { whole = refl; all = refl }
behind_plain Write = record { whole = refl; all = refl }

all_at_fence : (kind : FenceKind) (o : Open) → AllOpen o → HasBarrier kind o → IsFull kind ⊎ ((IsMfence kind → ⊥) × AllOpen (behind_fence kind o))
all_at_fence DmbFull o opened has = inl refl
all_at_fence DmbLd o opened has = inr ((λ e. absurd cc), record { whole = refl; all = opened.all })
all_at_fence DmbSt o opened has = inr ((λ e. absurd cc), record { whole = refl; all = opened.all })
all_at_fence Frm o opened has = inr ((λ e. absurd cc), record { whole = refl; all = opened.all })
all_at_fence Fww o opened has = inr ((λ e. absurd cc), record { whole = refl; all = opened.all })
all_at_fence Fsc o opened has = inr ((λ e. absurd cc), record { whole = refl; all = opened.all })
all_at_fence Mfence o opened has = absurd (both opened.all has)

all_at_access : (locked : Bool) (kind : AccessKind) (o : Open) → AllOpen o → MayCome locked kind o → (Locked locked kind → ⊥) × AllOpen (behind_access locked kind)
all_at_access true kind o opened may = absurd (none_locked kind o opened may)
all_at_access false kind o opened may = ((λ e. absurd cc), behind_plain kind)

all_at_private : (o : Open) → AllOpen o → AllOpen (record o { half = false })
all_at_private o opened = record { whole = refl; all = opened.all }

reads_at_fence : (kind : FenceKind) (o : Open) → ReadsOpen o → HasBarrier kind o → ClosesReads kind ⊎ ((NoFence kind → ⊥) × ReadsOpen (behind_fence kind o))
reads_at_fence DmbFull o opened has = inl (inr refl)
reads_at_fence DmbLd o opened has = inl (inl refl)
reads_at_fence DmbSt o opened has = inr ((λ e. e), record { rest = record { whole = refl; all = opened.rest.all }; reads = opened.reads })
reads_at_fence Frm o opened has = inr ((λ e. e), record { rest = record { whole = refl; all = opened.rest.all }; reads = opened.reads })
reads_at_fence Fww o opened has = inr ((λ e. e), record { rest = record { whole = refl; all = opened.rest.all }; reads = opened.reads })
reads_at_fence Fsc o opened has = inr ((λ e. e), record { rest = record { whole = refl; all = opened.rest.all }; reads = opened.reads })
reads_at_fence Mfence o opened has = absurd (both opened.rest.all has)

reads_at_access : (locked : Bool) (kind : AccessKind) (o : Open) → ReadsOpen o → MayCome locked kind o → (Any locked kind → ⊥) × ReadsOpen (behind_access locked kind)
reads_at_access true kind o opened may = absurd (none_locked kind o opened.rest may)
reads_at_access false Read o opened may = absurd (both opened.reads may.1)
reads_at_access false Write o opened may = absurd (both opened.reads may.1)

reads_at_private : (o : Open) → ReadsOpen o → ReadsOpen (record o { half = false })
reads_at_private o opened = record { rest = record { whole = refl; all = opened.rest.all }; reads = opened.reads }

pub locked_at_fence : (kind : FenceKind) (o : Open) → LockedOpen o → HasBarrier kind o → IsFull kind ⊎ ((NoFence kind → ⊥) × LockedOpen (behind_fence kind o))
locked_at_fence DmbFull o opened has = inl refl
locked_at_fence DmbLd o opened has = inr ((λ e. e), record { rest = record { whole = refl; all = opened.rest.all }; locked = opened.locked })
locked_at_fence DmbSt o opened has = inr ((λ e. e), record { rest = record { whole = refl; all = opened.rest.all }; locked = opened.locked })
locked_at_fence Frm o opened has = inr ((λ e. e), record { rest = record { whole = refl; all = opened.rest.all }; locked = opened.locked })
locked_at_fence Fww o opened has = inr ((λ e. e), record { rest = record { whole = refl; all = opened.rest.all }; locked = opened.locked })
locked_at_fence Fsc o opened has = inr ((λ e. e), record { rest = record { whole = refl; all = opened.rest.all }; locked = opened.locked })
locked_at_fence Mfence o opened has = absurd (both opened.rest.all has)

locked_at_access : (locked : Bool) (kind : AccessKind) (o : Open) → LockedOpen o → MayCome locked kind o → (Any locked kind → ⊥) × LockedOpen (behind_access locked kind)
locked_at_access true kind o opened may = absurd (none_locked kind o opened.rest may)
locked_at_access false Read o opened may = absurd (both opened.locked may.0)
locked_at_access false Write o opened may = absurd (both opened.locked may.0)

locked_at_private : (o : Open) → LockedOpen o → LockedOpen (record o { half = false })
locked_at_private o opened = record { rest = record { whole = refl; all = opened.rest.all }; locked = opened.locked }

writes_at_fence : (kind : FenceKind) (o : Open) → WritesOpen o → HasBarrier kind o → ClosesWrites kind ⊎ ((NoFence kind → ⊥) × WritesOpen (behind_fence kind o))
writes_at_fence DmbFull o opened has = inl (inr refl)
writes_at_fence DmbSt o opened has = inl (inl refl)
writes_at_fence DmbLd o opened has = inr ((λ e. e), record { rest = record { whole = refl; all = opened.rest.all }; writes = opened.writes })
writes_at_fence Frm o opened has = inr ((λ e. e), record { rest = record { whole = refl; all = opened.rest.all }; writes = opened.writes })
writes_at_fence Fww o opened has = inr ((λ e. e), record { rest = record { whole = refl; all = opened.rest.all }; writes = opened.writes })
writes_at_fence Fsc o opened has = inr ((λ e. e), record { rest = record { whole = refl; all = opened.rest.all }; writes = opened.writes })
writes_at_fence Mfence o opened has = absurd (both opened.rest.all has)

writes_at_access : (locked : Bool) (kind : AccessKind) (o : Open) → WritesOpen o → MayCome locked kind o → (PlainWrite locked kind → ⊥) × WritesOpen (behind_access locked kind)
writes_at_access true kind o opened may = absurd (none_locked kind o opened.rest may)
writes_at_access false Read o opened may = ((λ e. absurd cc), record { rest = record { whole = refl; all = refl }; writes = refl })
writes_at_access false Write o opened may = absurd (both opened.writes may.2)

writes_at_private : (o : Open) → WritesOpen o → WritesOpen (record o { half = false })
writes_at_private o opened = record { rest = record { whole = refl; all = opened.rest.all }; writes = opened.writes }

-- ---- behind an access

module _ (is : Access → Bool) where
  -- a full barrier before each locked access, a barrier for reads before any, and one for writes before a plain write
  pub full_before_locked : (xs : List Item) (o : Open) → Guards is o xs → AllOpen o → (place : ℕ) (b : Access) → slice_get xs place ≡ Some (items.Access b) → is b ≡ false → b.locked ≡ true → Found IsFull xs place
  full_before_locked xs o guards opened place b e shown locked = search_closed is IsFull AllOpen Locked IsMfence all_at_fence all_at_access all_at_private xs o guards opened place (items.Access b) e (shown, locked)

  pub full_before_mfence : (xs : List Item) (o : Open) → Guards is o xs → AllOpen o → (place : ℕ) (f : FenceItem) → slice_get xs place ≡ Some (items.Fence f) → f.kind ≡ Mfence → Found IsFull xs place
  full_before_mfence xs o guards opened place f e kind = search_closed is IsFull AllOpen Locked IsMfence all_at_fence all_at_access all_at_private xs o guards opened place (items.Fence f) e kind

  pub load_before_any : (xs : List Item) (o : Open) → Guards is o xs → ReadsOpen o → (place : ℕ) (b : Access) → slice_get xs place ≡ Some (items.Access b) → is b ≡ false → Found ClosesReads xs place
  load_before_any xs o guards opened place b e shown = search_closed is ClosesReads ReadsOpen Any NoFence reads_at_fence reads_at_access reads_at_private xs o guards opened place (items.Access b) e (shown, tt)

  pub full_before_any : (xs : List Item) (o : Open) → Guards is o xs → LockedOpen o → (place : ℕ) (b : Access) → slice_get xs place ≡ Some (items.Access b) → is b ≡ false → Found IsFull xs place
  full_before_any xs o guards opened place b e shown = search_closed is IsFull LockedOpen Any NoFence locked_at_fence locked_at_access locked_at_private xs o guards opened place (items.Access b) e (shown, tt)

  pub store_before_write : (xs : List Item) (o : Open) → Guards is o xs → WritesOpen o → (place : ℕ) (b : Access) → slice_get xs place ≡ Some (items.Access b) → is b ≡ false → b.locked ≡ false → b.kind ≡ Write → Found ClosesWrites xs place
  store_before_write xs o guards opened place b e shown plain write =
      search_closed is ClosesWrites WritesOpen PlainWrite NoFence writes_at_fence writes_at_access writes_at_private xs o guards opened place (items.Access b) e (shown, (plain, write))
