-- A path of a machine that realizes a plan has, with planned fences, its items dressed.
use Rattle.std.proofs.Common.{◌≡◌, ℕ, Bool, true, false, not, ◌&&◌, ◌||◌, List, [], ◌∷◌, ◌++◌, Option, refl, sym, ap, ◌∙◌, subst}
use Rattle.std.specs.Prelude.{if◌then◌else◌}
use Rattle.ev_graph.specs.declared.events.Access.{Access}
use Rattle.ev_graph.specs.declared.events.AccessKind.{AccessKind}
use Rattle.ev_graph.specs.declared.events.AccessKind.TheVariants as access
use Rattle.ev_graph.specs.declared.events.Item.{Item}
use Rattle.ev_graph.specs.declared.events.Item.TheVariants as items
use Rattle.ev_graph.specs.WellFormed.{is_write}
use Rattle.behavior.specs.Tree.{Tree, Gives, Begins, Acts, Point, Cut, At, Path, cut, gives, begins, acts, Next, Goes, Stops}
use Rattle.x64_syntax.specs.declared.slots.Slot.{Slot}
use Rattle.fence_plan.specs.declared.gap.Gap.{Gap}
use Rattle.fence_plan.specs.Private.{is_private, slot_kind, has_shared}
use Rattle.fence_plan.specs.Gaps.{Station}
use Rattle.fence_plan.specs.Planned.{first_given, later_gaps, Planning, with_gaps}
use Rattle.fence_plan.specs.Realized.{IsAct, silent, input, output, hidden, shared, read, pair, strong, Realizes}
use Rattle.fence_plan.specs.Dressed.{starts_with_locked_write, begins_gap, dressed}

module _ (private : Slot → Bool) where
  -- ---- acts

  plain_start : (l : Bool) (k : AccessKind) → l ≡ false → (l && is_write k) ≡ false
  plain_start false k e = refl
  plain_start true k e = absurd cc

  read_start : (l : Bool) (k : AccessKind) → k ≡ access.Read → (l && is_write k) ≡ false
  read_start true access.Read e = refl
  read_start false access.Read e = refl
  read_start l access.Write e = absurd cc

  hidden_plain : (a : Access) → is_private private a ≡ true → a.locked ≡ false
  hidden_plain a e = by a.locked e
    where
      by : (l : Bool) → (not l && private (record { address = a.place; kind = slot_kind a.kind })) ≡ true → l ≡ false
      by true e = absurd cc
      by false e = refl

  locked_shared : (a : Access) → a.locked ≡ true → is_private private a ≡ false
  locked_shared a locked = ap (λ b. not b && private (record { address = a.place; kind = slot_kind a.kind })) locked

  act_start : {xs : List Item} {ss rest : List Station} → IsAct private xs ss rest → (ys : List Item) → starts_with_locked_write ys ≡ false → starts_with_locked_write (xs ++ ys) ≡ false
  act_start silent ys e = e
  act_start input ys e = refl
  act_start output ys e = refl
  act_start (hidden {a = a} one) ys e = plain_start a.locked a.kind (hidden_plain a one)
  act_start (shared {a = a} one plain) ys e = plain_start a.locked a.kind plain
  act_start (read {a = a} locked kind) ys e = read_start a.locked a.kind kind
  act_start (pair {a = a} locked kind other two) ys e = read_start a.locked a.kind kind
  act_start (strong kind) ys e = e

  -- an access behind which a gap begins, and one behind which none does
  begin_here : (a : Access) (gs : List Gap) (ys : List Item) → is_private private a ≡ false → starts_with_locked_write ys ≡ false
      → dressed private gs (items.Access a ∷ ys) ≡ items.Access a ∷ (first_given gs ++ dressed private (later_gaps gs) ys)
  begin_here a gs ys one e =
      let both : begins_gap private a ys ≡ true = ap (λ b. not b && not (starts_with_locked_write ys)) one ∙ ap (λ b. not b) e in
      ap (λ b. if b then items.Access a ∷ (first_given gs ++ dressed private (later_gaps gs) ys) else items.Access a ∷ dressed private gs ys) both

  none_here : (a : Access) (gs : List Gap) (ys : List Item) → begins_gap private a ys ≡ false → dressed private gs (items.Access a ∷ ys) ≡ items.Access a ∷ dressed private gs ys
  none_here a gs ys e = ap (λ b. if b then items.Access a ∷ (first_given gs ++ dressed private (later_gaps gs) ys) else items.Access a ∷ dressed private gs ys) e

  -- the items of an act with the fences that it begins
  abbrev acted : List Item → List Gap → List Item
  acted xs gs = if has_shared private xs then xs ++ first_given gs else xs

  abbrev left : List Item → List Gap → List Gap
  left xs gs = if has_shared private xs then later_gaps gs else gs

  is_shared : (a : Access) (gs : List Gap) (ys : List Item) → is_private private a ≡ false
      → acted (items.Access a ∷ []) gs ++ dressed private (left (items.Access a ∷ []) gs) ys ≡ items.Access a ∷ (first_given gs ++ dressed private (later_gaps gs) ys)
  is_shared a gs ys one =
      ap (λ b. (if not b || false then (items.Access a ∷ []) ++ first_given gs else items.Access a ∷ []) ++ dressed private (if not b || false then later_gaps gs else gs) ys) one

  pair_shared : (a b : Access) (gs : List Gap) (ys : List Item) → is_private private a ≡ false
      → acted (items.Access a ∷ items.Access b ∷ []) gs ++ dressed private (left (items.Access a ∷ items.Access b ∷ []) gs) ys
      ≡ items.Access a ∷ items.Access b ∷ (first_given gs ++ dressed private (later_gaps gs) ys)
  pair_shared a b gs ys one =
      ap (λ c. (if not c || has_shared private (items.Access b ∷ []) then (items.Access a ∷ items.Access b ∷ []) ++ first_given gs else items.Access a ∷ items.Access b ∷ [])
      ++ dressed private (if not c || has_shared private (items.Access b ∷ []) then later_gaps gs else gs) ys) one

  pair_start : (b : Access) → b.locked ≡ true → b.kind ≡ access.Write → (b.locked && is_write b.kind) ≡ true
  pair_start b locked kind = ap (λ l. l && is_write b.kind) locked ∙ ap is_write kind

  act_dressed : {xs : List Item} {ss rest : List Station} → IsAct private xs ss rest → (gs : List Gap) (ys : List Item) → starts_with_locked_write ys ≡ false
      → dressed private gs (xs ++ ys) ≡ acted xs gs ++ dressed private (left xs gs) ys
  act_dressed silent gs ys e = refl
  act_dressed input gs ys e = refl
  act_dressed output gs ys e = refl
  act_dressed (hidden {a = a} one) gs ys e =
      none_here a gs ys (ap (λ b. not b && not (starts_with_locked_write ys)) one)
      ∙ sym (ap (λ b. (if not b || false then (items.Access a ∷ []) ++ first_given gs else items.Access a ∷ []) ++ dressed private (if not b || false then later_gaps gs else gs) ys) one)
  act_dressed (shared {a = a} one plain) gs ys e = begin_here a gs ys one e ∙ sym (is_shared a gs ys one)
  act_dressed (read {a = a} locked kind) gs ys e = begin_here a gs ys (locked_shared a locked) e ∙ sym (is_shared a gs ys (locked_shared a locked))
  act_dressed (pair {a = a} {b = b} locked kind other two) gs ys e =
      none_here a gs (items.Access b ∷ ys) (ap (λ c. not c && not (b.locked && is_write b.kind)) (locked_shared a locked) ∙ ap (λ c. not c) (pair_start b other two))
      ∙ ap (λ l. items.Access a ∷ l) (begin_here b gs ys (locked_shared b other) e) ∙ sym (pair_shared a b gs ys (locked_shared a locked))
  act_dressed (strong kind) gs ys e = refl

  -- ---- paths

  module _ {S : Type 0} (plan : S → Option (List Gap)) (Stands : S → List Station → Type 0) where
    path_start : (t : Tree (Next S)) (ss : List Station) → Realizes private plan Stands ss t → {xs : List Item} {q : Point (Next S)} {n : ℕ} → Path t xs q n → starts_with_locked_write xs ≡ false
    path_start (Gives (Goes s)) ss realizes cut = refl
    path_start (Gives (Goes s)) ss realizes gives = refl
    path_start (Gives (Stops end)) ss realizes cut = refl
    path_start (Gives (Stops end)) ss realizes gives = refl
    path_start (Begins t) ss realizes cut = refl
    path_start (Begins t) ss realizes (begins path) = path_start t ss realizes path
    path_start (Acts range made next) ss realizes cut = refl
    path_start (Acts range made next) ss realizes (acts {items = ys} v lt path) = let one = realizes v lt in act_start one.1 ys (path_start (next v) one.0 one.2 path)

    -- a point with the gaps that are left
    abbrev pub at_left : Point (Next S) → List Gap → Point (Next (Planning S))
    at_left Cut gs = Cut
    at_left (At (Goes s)) gs = At (Goes (record { state = s; gaps = gs }))
    at_left (At (Stops end)) gs = At (Stops end)

    pub path_dressed : (t : Tree (Next S)) (ss : List Station) → Realizes private plan Stands ss t → (gs : List Gap) → {xs : List Item} {q : Point (Next S)} {n : ℕ} → Path t xs q n
        → (after : List Gap) × Path (with_gaps private gs t) (dressed private gs xs) (at_left q after) n
    path_dressed (Gives (Goes s)) ss realizes gs cut = (gs, cut)
    path_dressed (Gives (Goes s)) ss realizes gs gives = (gs, gives)
    path_dressed (Gives (Stops end)) ss realizes gs cut = (gs, cut)
    path_dressed (Gives (Stops end)) ss realizes gs gives = (gs, gives)
    path_dressed (Begins t) ss realizes gs cut = (gs, cut)
    path_dressed (Begins t) ss realizes gs (begins path) = let rest = path_dressed t ss realizes gs path in (rest.0, begins rest.1)
    path_dressed (Acts range made next) ss realizes gs cut = (gs, cut)
    path_dressed (Acts range made next) ss realizes gs (acts {items = ys} {p = q} {n = n} v lt path) =
        let one = realizes v lt in
        let rest = path_dressed (next v) one.0 one.2 (left (made v) gs) path in
        (rest.0, subst (λ l. Path (with_gaps private gs (Acts range made next)) l (at_left q rest.0) n) (sym (act_dressed one.1 gs ys (path_start (next v) one.0 one.2 path))) (acts v lt rest.1))
