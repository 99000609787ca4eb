-- What is seen of items with the fences of gaps goes by the accesses with their places alone.
use Rattle.std.proofs.Common.{◌≡◌, ◌&&◌, not, Bool, true, false, List, [], ◌∷◌, ◌++◌, refl, sym, ap, ◌∙◌}
use Rattle.std.specs.Prelude.{if◌then◌else◌}
use Rattle.std.specs.List.{AllByRecursion}
use Rattle.ev_graph.specs.declared.events.Access.{Access}
use Rattle.ev_graph.specs.declared.events.FenceItem.{FenceItem}
use Rattle.ev_graph.specs.declared.events.FenceKind.{FenceKind}
use Rattle.ev_graph.specs.declared.events.FenceKind.TheVariants.{Frm, Fww, Fsc, Mfence, DmbLd, DmbSt, DmbFull}
use Rattle.ev_graph.specs.declared.events.Item.{Item}
use Rattle.ev_graph.specs.declared.events.Item.TheVariants as items
use Rattle.behavior.specs.Seen.{barrier, placed, lowered}
use Rattle.x64_syntax.specs.declared.slots.Slot.{Slot}
use Rattle.fence_plan.specs.Planned.{first_given, later_gaps, is_barrier, with_barrier, shared_view}
use Rattle.fence_plan.specs.Private.{is_private, privacy}
use Rattle.fence_plan.specs.declared.gap.Gap.{Gap}
use Rattle.fence_plan.specs.Dressed.{starts_with_locked_write, begins_gap, dressed}
use Rattle.fence_merge.proofs.Barriers.{with_gap, without_gap, view-fence, view-given, view-input, view-output}

-- a fence that is no barrier of Arm
abbrev pub IsNoBarrier : Item → Type 0
IsNoBarrier (items.Access a) = Unit {0}
IsNoBarrier (items.Fence f) = is_barrier f.kind ≡ false
IsNoBarrier (items.Input t) = Unit {0}
IsNoBarrier (items.Output t) = Unit {0}

-- behind an access, whatever its turn is
view-access : (turns : List Bool) (a : Access) (is js : List Item) → ((turns : List Bool) → shared_view turns is ≡ shared_view turns js)
    → shared_view turns (items.Access a ∷ is) ≡ shared_view turns (items.Access a ∷ js)
view-access [] a is js same = ap (λ l. items.Access (record a { place = 0 }) ∷ l) (same [])
view-access (true ∷ turns) a is js same = same turns
view-access (false ∷ turns) a is js same = ap (λ l. items.Access (record a { place = 0 }) ∷ l) (same turns)

view-no_barrier : (turns : List Bool) (f : FenceItem) (is : List Item) → is_barrier f.kind ≡ false → shared_view turns (items.Fence f ∷ is) ≡ shared_view turns is
view-no_barrier turns f is none = view-fence turns f is ∙ ap (λ b. if b then items.Fence (record { kind = f.kind; place = 0 }) ∷ shared_view turns is else shared_view turns is) none

-- a fence that is a barrier of Arm
abbrev pub IsBarrier : Item → Type 0
IsBarrier (items.Access a) = Unit {0}
IsBarrier (items.Fence f) = is_barrier f.kind ≡ true
IsBarrier (items.Input t) = Unit {0}
IsBarrier (items.Output t) = Unit {0}

barrier_stays : (kind : FenceKind) → is_barrier kind ≡ true → barrier kind ≡ kind
barrier_stays Frm is = cc
barrier_stays Fww is = cc
barrier_stays Fsc is = cc
barrier_stays Mfence is = cc
barrier_stays DmbLd is = refl
barrier_stays DmbSt is = refl
barrier_stays DmbFull is = refl

-- where all fences are barriers, they are seen as they are
pub view-lowered : (turns : List Bool) (xs : List Item) → AllByRecursion IsBarrier xs → shared_view turns (lowered xs) ≡ shared_view turns xs
view-lowered turns [] are = refl
view-lowered [] (items.Access a ∷ xs) are = ap (λ l. items.Access (record a { place = 0 }) ∷ l) (view-lowered [] xs are.1)
view-lowered (true ∷ turns) (items.Access a ∷ xs) are = view-lowered turns xs are.1
view-lowered (false ∷ turns) (items.Access a ∷ xs) are = ap (λ l. items.Access (record a { place = 0 }) ∷ l) (view-lowered turns xs are.1)
view-lowered turns (items.Fence f ∷ xs) are =
    view-fence turns (record { kind = barrier f.kind; place = 0 }) (lowered xs)
    ∙ ap (λ kind. with_barrier kind (shared_view turns (lowered xs))) (barrier_stays f.kind are.0)
    ∙ ap (with_barrier f.kind) (view-lowered turns xs are.1)
    ∙ sym (view-fence turns f xs)
view-lowered turns (items.Input t ∷ xs) are = view-input turns (record t { place = 0 }) (lowered xs) ∙ view-lowered turns xs are.1 ∙ sym (view-input turns t xs)
view-lowered turns (items.Output t ∷ xs) are = view-output turns (record t { place = 0 }) (lowered xs) ∙ view-lowered turns xs are.1 ∙ sym (view-output turns t xs)

starts-placed : (xs : List Item) → starts_with_locked_write (placed xs) ≡ starts_with_locked_write xs
starts-placed [] = refl
starts-placed (items.Access a ∷ xs) = refl
starts-placed (items.Fence f ∷ xs) = starts-placed xs
starts-placed (items.Input t ∷ xs) = refl
starts-placed (items.Output t ∷ xs) = refl

module _ (private : Slot → Bool) where
  pub privacy-placed : (xs : List Item) → privacy private (placed xs) ≡ privacy private xs
  privacy-placed [] = refl
  privacy-placed (items.Access a ∷ xs) = ap (λ l. is_private private a ∷ l) (privacy-placed xs)
  privacy-placed (items.Fence f ∷ xs) = privacy-placed xs
  privacy-placed (items.Input t ∷ xs) = privacy-placed xs
  privacy-placed (items.Output t ∷ xs) = privacy-placed xs

  -- what the plan sees of items with the fences of gaps does not rest on the fences that were among them
  view-placed : (turns : List Bool) (gs : List Gap) (xs : List Item) → AllByRecursion IsNoBarrier xs → shared_view turns (dressed private gs (placed xs)) ≡ shared_view turns (dressed private gs xs)
  view-placed turns gs [] none = refl
  view-placed turns gs (items.Access a ∷ xs) none =
      by (begins_gap private a (placed xs)) (begins_gap private a xs) (ap (λ s. not (is_private private a) && not s) (starts-placed xs)) (λ turns gs. view-placed turns gs xs none.1)
    where
      by : (b c : Bool) → b ≡ c → ((turns : List Bool) (gs : List Gap) → shared_view turns (dressed private gs (placed xs)) ≡ shared_view turns (dressed private gs xs))
          → shared_view turns (if b then with_gap private gs a (placed xs) else without_gap private gs a (placed xs))
          ≡ shared_view turns (if c then with_gap private gs a xs else without_gap private gs a xs)
      by true true same rest =
          view-access turns a (first_given gs ++ dressed private (later_gaps gs) (placed xs)) (first_given gs ++ dressed private (later_gaps gs) xs)
          (λ turns. view-given turns gs (dressed private (later_gaps gs) (placed xs)) ∙ ap (λ l. first_given gs ++ l) (rest turns (later_gaps gs))
          ∙ sym (view-given turns gs (dressed private (later_gaps gs) xs)))
      by false false same rest = view-access turns a (dressed private gs (placed xs)) (dressed private gs xs) (λ turns. rest turns gs)
      by true false same rest = cc
      by false true same rest = cc
  view-placed turns gs (items.Fence f ∷ xs) none = view-placed turns gs xs none.1 ∙ sym (view-no_barrier turns f (dressed private gs xs) none.0)
  view-placed turns gs (items.Input t ∷ xs) none =
      view-input turns (record t { place = 0 }) (dressed private gs (placed xs)) ∙ view-placed turns gs xs none.1 ∙ sym (view-input turns t (dressed private gs xs))
  view-placed turns gs (items.Output t ∷ xs) none =
      view-output turns (record t { place = 0 }) (dressed private gs (placed xs)) ∙ view-placed turns gs xs none.1 ∙ sym (view-output turns t (dressed private gs xs))

  -- runs with the same accesses in the same places have the same turns, and are seen alike with the fences of gaps
  pub same_privacy : (xs ys : List Item) → placed xs ≡ placed ys → privacy private xs ≡ privacy private ys
  same_privacy xs ys same = sym (privacy-placed xs) ∙ ap (privacy private) same ∙ privacy-placed ys

  pub same_dressed : (turns : List Bool) (gs : List Gap) (xs ys : List Item) → AllByRecursion IsNoBarrier xs → AllByRecursion IsNoBarrier ys → placed xs ≡ placed ys
      → shared_view turns (dressed private gs xs) ≡ shared_view turns (dressed private gs ys)
  same_dressed turns gs xs ys none none' same = sym (view-placed turns gs xs none) ∙ ap (λ l. shared_view turns (dressed private gs l)) same ∙ view-placed turns gs ys none'
