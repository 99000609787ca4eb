-- The gaps of a block one by one, and what the fences of a gap close.
use Rattle.std.proofs.Common.{◌≡◌, ◌⊎◌, inl, inr, Bool, true, false, List, [], ◌∷◌, ◌++◌, Option, Some, None, refl, sym, ◌∙◌}
use Rattle.std.specs.Prelude.{map}
use Rattle.ev_graph.specs.declared.events.Access.{Access}
use Rattle.ev_graph.specs.declared.events.FenceKind.{FenceKind}
use Rattle.ev_graph.specs.declared.events.FenceKind.TheVariants.{Frm, Fww, Fsc}
use Rattle.ev_graph.specs.declared.events.Item.{Item}
use Rattle.behavior.specs.Seen.{barrier}
use Rattle.x64_syntax.specs.declared.slots.SlotKind.{SlotKind}
use Rattle.x64_syntax.specs.declared.slots.SlotKind.TheVariants.{Read, Write, Locked}
use Rattle.fence_plan.specs.declared.gap.Gap.{Gap}
use Rattle.fence_plan.specs.Gaps.{Station, Shared, Strong, gap, gaps_from, fence_if}
use Rattle.fence_plan.specs.Planned.{barrier_item, given}
use Rattle.fence_plan.specs.Guards.{Open, behind_fence, Guards}

-- the gap in which a block stands behind this slot, and those behind it
abbrev pub current : (before : Option SlotKind) → (fenced : Bool) → List Station → Gap
current before fenced [] = gap before fenced None
current before fenced (Strong ∷ ss) = current before true ss
current before fenced (Shared k ∷ ss) = gap before fenced (Some k)

abbrev pub later : (before : Option SlotKind) → (fenced : Bool) → List Station → List Gap
later before fenced [] = []
later before fenced (Strong ∷ ss) = later before true ss
later before fenced (Shared k ∷ ss) = gaps_from (Some k) false ss

pub gaps_parts : (before : Option SlotKind) (fenced : Bool) (ss : List Station) → gaps_from before fenced ss ≡ current before fenced ss ∷ later before fenced ss
gaps_parts before fenced [] = refl
gaps_parts before fenced (Strong ∷ ss) = gaps_parts before true ss
gaps_parts before fenced (Shared k ∷ ss) = refl

-- ---- what a gap holds by its ends

-- behind a read a gap closes reads, behind a locked access all
abbrev pub Closed : SlotKind → Gap → Type 0
Closed Read g = (g.frm ≡ true) ⊎ (g.fsc ≡ true)
Closed Write g = Unit {0}
Closed Locked g = g.fsc ≡ true

gap_closes : (k : SlotKind) (fenced : Bool) (after : Option SlotKind) → Closed k (gap (Some k) fenced after)
gap_closes Write fenced after = tt
gap_closes Read true after = inr refl
gap_closes Read false None = inl refl
gap_closes Read false (Some Read) = inl refl
gap_closes Read false (Some Write) = inl refl
gap_closes Read false (Some Locked) = inr refl
gap_closes Locked true after = refl
gap_closes Locked false after = refl

pub current_closes : (k : SlotKind) (fenced : Bool) (ss : List Station) → Closed k (current (Some k) fenced ss)
current_closes k fenced [] = gap_closes k fenced None
current_closes k fenced (Strong ∷ ss) = current_closes k true ss
current_closes k fenced (Shared j ∷ ss) = gap_closes k fenced (Some j)

-- before a write writes are closed, before a locked access all
pub before_write : (before : Option SlotKind) (fenced : Bool) → ((gap before fenced (Some Write)).fww ≡ true) ⊎ ((gap before fenced (Some Write)).fsc ≡ true)
before_write before true = inr refl
before_write None false = inl refl
before_write (Some Read) false = inl refl
before_write (Some Write) false = inl refl
before_write (Some Locked) false = inr refl

pub before_locked : (before : Option SlotKind) (fenced : Bool) → (gap before fenced (Some Locked)).fsc ≡ true
before_locked before true = refl
before_locked None false = refl
before_locked (Some Read) false = refl
before_locked (Some Write) false = refl
before_locked (Some Locked) false = refl

-- with an MFENCE in it a gap closes all
pub strong_current : (before : Option SlotKind) (ss : List Station) → (current before true ss).fsc ≡ true
strong_current before [] = refl
strong_current before (Strong ∷ ss) = strong_current before ss
strong_current before (Shared k ∷ ss) = refl

-- ---- behind the fences of a gap

abbrev after_if : Bool → FenceKind → Open → Open
after_if true kind o = behind_fence (barrier kind) o
after_if false kind o = o

abbrev pub behind_gap : Gap → Open → Open
behind_gap g o = after_if g.fsc Fsc (after_if g.fww Fww (after_if g.frm Frm o))

fences_guard : (p : Access → Bool) (frm fww fsc : Bool) (o : Open) (is : List Item) → Guards p (after_if fsc Fsc (after_if fww Fww (after_if frm Frm o))) is
    → Guards p o (map barrier_item (fence_if frm Frm ++ (fence_if fww Fww ++ fence_if fsc Fsc)) ++ is)
fences_guard p true true true o is rest = (tt, (tt, (tt, rest)))
fences_guard p true true false o is rest = (tt, (tt, rest))
fences_guard p true false true o is rest = (tt, (tt, rest))
fences_guard p true false false o is rest = (tt, rest)
fences_guard p false true true o is rest = (tt, (tt, rest))
fences_guard p false true false o is rest = (tt, rest)
fences_guard p false false true o is rest = (tt, rest)
fences_guard p false false false o is rest = rest

-- the fences of a gap guard what comes behind them
pub given_guards : (p : Access → Bool) (g : Gap) (o : Open) (is : List Item) → Guards p (behind_gap g o) is → Guards p o (given g ++ is)
given_guards p g o is rest = fences_guard p g.frm g.fww g.fsc o is rest

-- What is closed in a gap: reads and locked accesses, and before a write or a locked access what these need.
pub record Closes (g : Gap) (o : Open) : Type 0 where
  pub locked : o.locked ≡ false
  pub reads : o.reads ≡ false
  pub writes : g.fww ≡ true → o.writes ≡ false
  pub all : g.fsc ≡ true → (o.all ≡ false) × (o.writes ≡ false)

not_true : false ≡ true → ⊥
not_true e = absurd cc

-- where nothing was open but writes, a gap closes what it has to
closes_plain : (frm fww fsc : Bool) (o : Open) → o.locked ≡ false → o.reads ≡ false
    → ((after_if fsc Fsc (after_if fww Fww (after_if frm Frm o))).locked ≡ false) × ((after_if fsc Fsc (after_if fww Fww (after_if frm Frm o))).reads ≡ false)
    × (fww ≡ true → (after_if fsc Fsc (after_if fww Fww (after_if frm Frm o))).writes ≡ false)
    × (fsc ≡ true → ((after_if fsc Fsc (after_if fww Fww (after_if frm Frm o))).all ≡ false) × ((after_if fsc Fsc (after_if fww Fww (after_if frm Frm o))).writes ≡ false))
closes_plain frm fww true o locked reads = (refl, refl, λ e. refl, λ e. (refl, refl))
closes_plain true true false o locked reads = (locked, refl, λ e. refl, λ e. absurd (not_true e))
closes_plain false true false o locked reads = (locked, reads, λ e. refl, λ e. absurd (not_true e))
closes_plain true false false o locked reads = (locked, refl, λ e. absurd (not_true e), λ e. absurd (not_true e))
closes_plain false false false o locked reads = (locked, reads, λ e. absurd (not_true e), λ e. absurd (not_true e))

pub closes_begin : (g : Gap) (o : Open) → o.locked ≡ false → o.reads ≡ false → Closes g (behind_gap g o)
closes_begin g o locked reads =
    let one = closes_plain g.frm g.fww g.fsc o locked reads in
    record { locked = one.0; reads = one.1; writes = one.2; all = one.3 }

closes_full : (frm fww fsc : Bool) (o : Open) → fsc ≡ true
    → ((after_if fsc Fsc (after_if fww Fww (after_if frm Frm o))).locked ≡ false) × ((after_if fsc Fsc (after_if fww Fww (after_if frm Frm o))).reads ≡ false)
    × ((after_if fsc Fsc (after_if fww Fww (after_if frm Frm o))).all ≡ false) × ((after_if fsc Fsc (after_if fww Fww (after_if frm Frm o))).writes ≡ false)
closes_full frm fww true o e = (refl, refl, refl, refl)
closes_full frm fww false o e = absurd (not_true e)

-- a gap with a full fence closes all
pub closes_all : (g : Gap) (o : Open) → g.fsc ≡ true → Closes g (behind_gap g o)
closes_all g o full =
    let one = closes_full g.frm g.fww g.fsc o full in
    record { locked = one.0; reads = one.1; writes = λ e. one.3; all = λ e. (one.2, one.3) }

closes_load : (frm fww fsc : Bool) (o : Open) → frm ≡ true → fsc ≡ false → o.locked ≡ false
    → ((after_if fsc Fsc (after_if fww Fww (after_if frm Frm o))).locked ≡ false) × ((after_if fsc Fsc (after_if fww Fww (after_if frm Frm o))).reads ≡ false)
    × (fww ≡ true → (after_if fsc Fsc (after_if fww Fww (after_if frm Frm o))).writes ≡ false)
closes_load true true false o e f locked = (locked, refl, λ e. refl)
closes_load true false false o e f locked = (locked, refl, λ e. absurd (not_true e))
closes_load true fww true o e f locked = absurd (not_true (sym f))
closes_load false fww fsc o e f locked = absurd (not_true e)

by_full : (b : Bool) → (b ≡ true) ⊎ (b ≡ false)
by_full true = inl refl
by_full false = inr refl

-- a gap with a load fence closes reads
pub closes_reads : (g : Gap) (o : Open) → g.frm ≡ true → o.locked ≡ false → Closes g (behind_gap g o)
closes_reads g o load locked = by (by_full g.fsc)
  where
    by : (g.fsc ≡ true) ⊎ (g.fsc ≡ false) → Closes g (behind_gap g o)
    by (inl full) = closes_all g o full
    by (inr none) =
        let one = closes_load g.frm g.fww g.fsc o load none locked in
        record { locked = one.0; reads = one.1; writes = one.2; all = λ e. absurd (not_true (sym none ∙ e)) }
