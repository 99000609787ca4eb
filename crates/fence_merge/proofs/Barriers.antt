-- What the plan sees of items that stand one behind the other.
use Rattle.std.proofs.Common.{◌≡◌, ◌&&◌, not, Bool, true, false, List, [], ◌∷◌, ◌++◌, map, refl, sym, ap, ◌∙◌, append_assoc}
use Rattle.std.specs.Prelude.{if◌then◌else◌}
use Rattle.std.specs.List.{AllByRecursion}
use Rattle.ev_graph.specs.declared.events.Access.{Access}
use Rattle.ev_graph.specs.declared.events.FenceItem.{FenceItem}
use Rattle.ev_graph.specs.declared.events.Transfer.{Transfer}
use Rattle.ev_graph.specs.declared.events.FenceKind.{FenceKind}
use Rattle.ev_graph.specs.declared.events.FenceKind.TheVariants.{Frm, Fww, Fsc, Mfence, DmbLd, DmbSt, DmbFull}
use Rattle.ev_graph.specs.declared.events.Item.{Item}
use Rattle.ev_graph.specs.declared.events.Item.TheVariants as items
use Rattle.behavior.specs.Seen.{barrier, trace, lowered}
use Rattle.behavior.proofs.SeenLemmas.{lowered-append}
use Rattle.x64_syntax.specs.declared.slots.Slot.{Slot}
use Rattle.fence_plan.specs.Gaps.{fences_of}
use Rattle.fence_plan.specs.Planned.{barrier_item, first_given, later_gaps, with_barrier, shared_view, IsFence}
use Rattle.fence_plan.specs.Private.{slot_kind, is_private, privacy}
use Rattle.fence_plan.specs.declared.gap.Gap.{Gap}
use Rattle.ev_graph.specs.WellFormed.{is_write}
use Rattle.fence_plan.specs.Dressed.{starts_with_locked_write, dressed}
use Rattle.fence_merge.proofs.Views.{IsQuiet, IsTurn, one, pair}

-- one item in front, whatever the turns are
pub view-fence : (turns : List Bool) (f : FenceItem) (is : List Item) → shared_view turns (items.Fence f ∷ is) ≡ with_barrier f.kind (shared_view turns is)
view-fence [] f is = refl
view-fence (true ∷ turns) f is = refl
view-fence (false ∷ turns) f is = refl

pub view-input : (turns : List Bool) (t : Transfer) (is : List Item) → shared_view turns (items.Input t ∷ is) ≡ shared_view turns is
view-input [] t is = refl
view-input (true ∷ turns) t is = refl
view-input (false ∷ turns) t is = refl

pub view-output : (turns : List Bool) (t : Transfer) (is : List Item) → shared_view turns (items.Output t ∷ is) ≡ shared_view turns is
view-output [] t is = refl
view-output (true ∷ turns) t is = refl
view-output (false ∷ turns) t is = refl

-- a barrier in front is seen
with_barrier-is : (kind : FenceKind) (is : List Item) → with_barrier (barrier kind) is ≡ barrier_item kind ∷ is
with_barrier-is Frm is = refl
with_barrier-is Fww is = refl
with_barrier-is Fsc is = refl
with_barrier-is Mfence is = refl
with_barrier-is DmbLd is = refl
with_barrier-is DmbSt is = refl
with_barrier-is DmbFull is = refl

pub view-barrier : (turns : List Bool) (kind : FenceKind) (is : List Item) → shared_view turns (barrier_item kind ∷ is) ≡ barrier_item kind ∷ shared_view turns is
view-barrier turns kind is = view-fence turns (record { kind = barrier kind; place = 0 }) is ∙ with_barrier-is kind (shared_view turns is)

view-barriers : (turns : List Bool) (kinds : List FenceKind) (is : List Item) → shared_view turns (map barrier_item kinds ++ is) ≡ map barrier_item kinds ++ shared_view turns is
view-barriers turns [] is = refl
view-barriers turns (kind ∷ kinds) is = view-barrier turns kind (map barrier_item kinds ++ is) ∙ ap (λ l. barrier_item kind ∷ l) (view-barriers turns kinds is)

-- what gaps give is seen
pub view-given : (turns : List Bool) (gs : List Gap) (is : List Item) → shared_view turns (first_given gs ++ is) ≡ first_given gs ++ shared_view turns is
view-given turns [] is = refl
view-given turns (g ∷ gs) is = view-barriers turns (fences_of g) is

-- and is fences
pub barriers_fences : (kinds : List FenceKind) → AllByRecursion IsFence (map barrier_item kinds)
barriers_fences [] = tt
barriers_fences (kind ∷ kinds) = (tt, barriers_fences kinds)

pub given_fences : (gs : List Gap) → AllByRecursion IsFence (first_given gs)
given_fences [] = tt
given_fences (g ∷ gs) = barriers_fences (fences_of g)

module _ (private : Slot → Bool) where
  -- what the plan sees of items
  abbrev pub Seen : (from is : List Item) → List Item
  Seen from is = shared_view (privacy private from) is

  -- an access and dressed items, where a gap begins between and where none does
  abbrev pub with_gap : List Gap → Access → List Item → List Item
  with_gap gs a is = items.Access a ∷ (first_given gs ++ dressed private (later_gaps gs) is)

  abbrev pub without_gap : List Gap → Access → List Item → List Item
  without_gap gs a is = items.Access a ∷ dressed private gs is

  -- quiet items are not seen, and no gap begins behind them
  quiet_seen : (is from l : List Item) → AllByRecursion (IsQuiet private) is → Seen (is ++ from) (is ++ l) ≡ Seen from l
  quiet_seen [] from l quiet = refl
  quiet_seen (items.Access a ∷ is) from l quiet = ap (λ b. shared_view (b ∷ privacy private (is ++ from)) (items.Access a ∷ (is ++ l))) quiet.0 ∙ quiet_seen is from l quiet.1
  quiet_seen (items.Fence f ∷ is) from l quiet = absurd quiet.0
  quiet_seen (items.Input t ∷ is) from l quiet = view-input (privacy private (is ++ from)) t (is ++ l) ∙ quiet_seen is from l quiet.1
  quiet_seen (items.Output t ∷ is) from l quiet = view-output (privacy private (is ++ from)) t (is ++ l) ∙ quiet_seen is from l quiet.1

  quiet_lowered : (is from l : List Item) → AllByRecursion (IsQuiet private) is → Seen (is ++ from) (lowered is ++ l) ≡ Seen from l
  quiet_lowered [] from l quiet = refl
  quiet_lowered (items.Access a ∷ is) from l quiet =
      ap (λ b. shared_view (b ∷ privacy private (is ++ from)) (items.Access (record a { place = 0 }) ∷ (lowered is ++ l))) quiet.0 ∙ quiet_lowered is from l quiet.1
  quiet_lowered (items.Fence f ∷ is) from l quiet = absurd quiet.0
  quiet_lowered (items.Input t ∷ is) from l quiet = view-input (privacy private (is ++ from)) (record t { place = 0 }) (lowered is ++ l) ∙ quiet_lowered is from l quiet.1
  quiet_lowered (items.Output t ∷ is) from l quiet = view-output (privacy private (is ++ from)) (record t { place = 0 }) (lowered is ++ l) ∙ quiet_lowered is from l quiet.1

  quiet_dressed : (gs : List Gap) (is from : List Item) → AllByRecursion (IsQuiet private) is → dressed private gs (is ++ from) ≡ is ++ dressed private gs from
  quiet_dressed gs [] from quiet = refl
  quiet_dressed gs (items.Access a ∷ is) from quiet =
      ap (λ p. if not p && not (starts_with_locked_write (is ++ from)) then with_gap gs a (is ++ from) else without_gap gs a (is ++ from)) quiet.0
      ∙ ap (λ l. items.Access a ∷ l) (quiet_dressed gs is from quiet.1)
  quiet_dressed gs (items.Fence f ∷ is) from quiet = absurd quiet.0
  quiet_dressed gs (items.Input t ∷ is) from quiet = ap (λ l. items.Input t ∷ l) (quiet_dressed gs is from quiet.1)
  quiet_dressed gs (items.Output t ∷ is) from quiet = ap (λ l. items.Output t ∷ l) (quiet_dressed gs is from quiet.1)

  -- a private access is not locked
  unlocked : (locked marked write : Bool) → (not locked && marked) ≡ true → (locked && write) ≡ false
  unlocked true marked write private = cc
  unlocked false marked write private = refl

  pub quiet_starts : (is from : List Item) → AllByRecursion (IsQuiet private) is → starts_with_locked_write from ≡ false → starts_with_locked_write (is ++ from) ≡ false
  quiet_starts [] from quiet starts = starts
  quiet_starts (items.Access a ∷ is) from quiet starts = unlocked a.locked (private (record { address = a.place; kind = slot_kind a.kind })) (is_write a.kind) quiet.0
  quiet_starts (items.Fence f ∷ is) from quiet starts = absurd quiet.0
  quiet_starts (items.Input t ∷ is) from quiet starts = refl
  quiet_starts (items.Output t ∷ is) from quiet starts = refl

  -- a slot is seen as its accesses
  pub turn_starts : {is : List Item} → IsTurn private is → (from : List Item) → starts_with_locked_write (is ++ from) ≡ false
  turn_starts (one first) from = first.first
  turn_starts (pair first second) from = first.first

  turn_seen : {is : List Item} → IsTurn private is → (from l : List Item) → Seen (is ++ from) (is ++ l) ≡ trace is ++ Seen from l
  turn_seen (one {a = a} first) from l = ap (λ b. shared_view (b ∷ privacy private from) (items.Access a ∷ l)) first.shared
  turn_seen (pair {a = a} {b = b} first second) from l =
      ap (λ p. shared_view (p ∷ is_private private b ∷ privacy private from) (items.Access a ∷ items.Access b ∷ l)) first.shared
      ∙ ap (λ p. items.Access (record a { place = 0 }) ∷ shared_view (p ∷ privacy private from) (items.Access b ∷ l)) second.shared

  turn_lowered : {is : List Item} → IsTurn private is → (from l : List Item) → Seen (is ++ from) (lowered is ++ l) ≡ trace is ++ Seen from l
  turn_lowered (one {a = a} first) from l = ap (λ b. shared_view (b ∷ privacy private from) (items.Access (record a { place = 0 }) ∷ l)) first.shared
  turn_lowered (pair {a = a} {b = b} first second) from l =
      ap (λ p. shared_view (p ∷ is_private private b ∷ privacy private from) (items.Access (record a { place = 0 }) ∷ items.Access (record b { place = 0 }) ∷ l)) first.shared
      ∙ ap (λ p. items.Access (record a { place = 0 }) ∷ shared_view (p ∷ privacy private from) (items.Access (record b { place = 0 }) ∷ l)) second.shared

  -- whether a gap begins, by what is known
  begins : (shared : Bool) (starts : Bool) {A : Type 0} (x y : A) → shared ≡ false → starts ≡ false → (if not shared && not starts then x else y) ≡ x
  begins true starts x y shared_is starts_is = cc
  begins false true x y shared_is starts_is = cc
  begins false false x y shared_is starts_is = refl

  begins_not : (shared : Bool) (starts : Bool) {A : Type 0} (x y : A) → starts ≡ true → (if not shared && not starts then x else y) ≡ y
  begins_not true starts x y starts_is = refl
  begins_not false true x y starts_is = refl
  begins_not false false x y starts_is = cc

  pub turn_dressed : {is : List Item} → IsTurn private is → (gs : List Gap) (from : List Item) → starts_with_locked_write from ≡ false
      → dressed private gs (is ++ from) ≡ is ++ (first_given gs ++ dressed private (later_gaps gs) from)
  turn_dressed (one {a = a} first) gs from starts =
      begins (is_private private a) (starts_with_locked_write from) (with_gap gs a from) (without_gap gs a from) first.shared starts
  turn_dressed (pair {a = a} {b = b} first second) gs from starts =
      let behind = items.Access b ∷ from in
      begins_not (is_private private a) (starts_with_locked_write behind) (with_gap gs a behind) (without_gap gs a behind) second.second
      ∙ ap (λ l. items.Access a ∷ l)
      (begins (is_private private b) (starts_with_locked_write from) (with_gap gs b from) (without_gap gs b from) second.shared starts)

  -- the barriers of two runs, where the first owes some in front
  abbrev pub Owed : (owed : List Item) → List Gap → (from made missing : List Item) → Type 0
  Owed owed gs from made missing = owed ++ Seen from (dressed private gs from) ≡ Seen from (lowered made) ++ missing

  -- with quiet items in front of both
  pub quiet_owed : (owed : List Item) (gs : List Gap) (is from made missing : List Item) → AllByRecursion (IsQuiet private) is → Owed owed gs from made missing
      → Owed owed gs (is ++ from) (is ++ made) missing
  quiet_owed owed gs is from made missing quiet same =
      ap (λ l. owed ++ Seen (is ++ from) l) (quiet_dressed gs is from quiet)
      ∙ ap (λ l. owed ++ l) (quiet_seen is from (dressed private gs from) quiet)
      ∙ same
      ∙ ap (λ l. l ++ missing) (sym (ap (λ l. Seen (is ++ from) l) (lowered-append is made) ∙ quiet_lowered is from (lowered made) quiet))

  -- with a slot in front of both, where nothing is owed: behind it the next gap's are
  pub turn_owed : (gs : List Gap) {is : List Item} (from made missing : List Item) → IsTurn private is → starts_with_locked_write from ≡ false
      → Owed (first_given gs) (later_gaps gs) from made missing → Owed [] gs (is ++ from) (is ++ made) missing
  turn_owed gs {is} from made missing turn starts same =
      let later = dressed private (later_gaps gs) from in
      ap (λ l. Seen (is ++ from) l) (turn_dressed turn gs from starts)
      ∙ turn_seen turn from (first_given gs ++ later)
      ∙ ap (λ l. trace is ++ l) (view-given (privacy private from) gs later ∙ same)
      ∙ sym (append_assoc (trace is) (Seen from (lowered made)) missing)
      ∙ ap (λ l. l ++ missing) (sym (ap (λ l. Seen (is ++ from) l) (lowered-append is made) ∙ turn_lowered turn from (lowered made)))

  -- a fence of the second pays for one that is owed
  pub pays_owed : (kind : FenceKind) (owed : List Item) (gs : List Gap) (from made missing : List Item) → Owed owed gs from made missing
      → Owed (barrier_item kind ∷ owed) gs from (items.Fence (record { kind = kind; place = 0 }) ∷ made) missing
  pays_owed kind owed gs from made missing same =
      ap (λ l. barrier_item kind ∷ l) same ∙ ap (λ l. l ++ missing) (sym (view-barrier (privacy private from) kind (lowered made)))
