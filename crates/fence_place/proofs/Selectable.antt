-- Steps with fences set the temporaries that the steps set, once, and have no more of them live.
use Rattle.std.proofs.Common.{◌≡◌, ℕ, Bool, true, false, List, [], ◌∷◌, ◌++◌, refl, ap, subst, inl, inr, arith}
use Rattle.std.specs.Prelude.{◌⊎◌, if◌then◌else◌, Some, Contains}
use Rattle.std.specs.List.{flat_map, AllByRecursion}
use Rattle.x64_syntax.specs.declared.slots.Slot.{Slot}
use Rattle.x64_syntax.specs.declared.slots.SlotKind.TheVariants.{Read, Write}
use Rattle.limm_ir.specs.declared.block.IrEnd.{IrEnd}
use Rattle.limm_ir.specs.declared.step.IrStep.{IrStep}
use Rattle.limm_ir.specs.declared.step.IrStep.TheVariants as steps
use Rattle.limm_ir.specs.declared.step.IrFence.{IrFence}
use Rattle.limm_ir.specs.declared.step.IrFence.TheVariants.{Frm, Fww, Fsc}
use Rattle.limm_ir.specs.Conditions.{step_sets, Unset, IsSetIn, SetsOnce, IsRead, IsLiveAt, LiveAtMost, IsSelectable}
use Rattle.fence_place.specs.Marked.{marked}
use Rattle.fence_place.specs.Fenced.{fenced}
use Rattle.fence_place.proofs.Well.{fences_well}

-- nothing is in an empty list
in_none : (t : ℕ) → Contains [] t → ⊥
in_none t (n, low, same) = omega (arith, low)

module _ (end : IrEnd) where
  -- a place in the longer list has one in the shorter at which all is live that is live there
  pub record Found (before : List IrStep) (y : IrStep) (behind xs : List IrStep) : Type 0 where
    pub earlier : List IrStep
    pub step : IrStep
    pub later : List IrStep
    pub parts : xs ≡ earlier ++ step ∷ later
    pub set : (t : ℕ) → IsSetIn before t ⊎ (step_sets y ≡ Some t) → IsSetIn earlier t ⊎ (step_sets step ≡ Some t)
    pub used : (t : ℕ) → (step_sets y ≡ Some t) ⊎ IsRead end (y ∷ behind) t → (step_sets step ≡ Some t) ⊎ IsRead end (step ∷ later) t

  -- what holds of the longer list, seen from the shorter: it sets and reads nothing more, and no more is live at any place
  pub record Stretched (ys xs : List IrStep) : Type 0 where
    pub sets : (t : ℕ) → IsSetIn ys t → IsSetIn xs t
    pub reads : (t : ℕ) → IsRead end ys t → IsRead end xs t
    pub found : (before : List IrStep) (y : IrStep) (behind : List IrStep) → ys ≡ before ++ y ∷ behind → Found before y behind xs

  nothing_at : (before : List IrStep) (y : IrStep) (behind : List IrStep) → [] ≡ before ++ y ∷ behind → ⊥
  nothing_at [] y behind same = cc
  nothing_at (b ∷ before) y behind same = cc

  empty : Stretched [] []
  empty = record { sets = λ t h. h; reads = λ t h. h; found = λ before y behind same. absurd (nothing_at before y behind same) }

  -- what stands behind a first step is found behind it
  deeper : (x : IrStep) (before : List IrStep) (y : IrStep) (behind xs : List IrStep) → Found before y behind xs → Found (x ∷ before) y behind (x ∷ xs)
  deeper x before y behind xs f = record {
    earlier = x ∷ f.earlier;
    step = f.step;
    later = f.later;
    parts = ap (λ l. x ∷ l) f.parts;
    set = λ t here. in_front t here;
    used = f.used;
  }
    where
      with_first : (t : ℕ) → IsSetIn f.earlier t ⊎ (step_sets f.step ≡ Some t) → IsSetIn (x ∷ f.earlier) t ⊎ (step_sets f.step ≡ Some t)
      with_first t (inl h) = inl (inr h)
      with_first t (inr h) = inr h

      in_front : (t : ℕ) → IsSetIn (x ∷ before) t ⊎ (step_sets y ≡ Some t) → IsSetIn (x ∷ f.earlier) t ⊎ (step_sets f.step ≡ Some t)
      in_front t (inl (inl h)) = inl (inl h)
      in_front t (inl (inr h)) = with_first t (f.set t (inl h))
      in_front t (inr h) = with_first t (f.set t (inr h))

  -- the first step itself
  first : (x : IrStep) (ys xs : List IrStep) → Stretched ys xs → Found [] x ys (x ∷ xs)
  first x ys xs s = record { earlier = []; step = x; later = xs; parts = refl; set = λ t h. only t h; used = λ t h. seen t h }
    where
      only : (t : ℕ) → IsSetIn [] t ⊎ (step_sets x ≡ Some t) → IsSetIn [] t ⊎ (step_sets x ≡ Some t)
      only t h = h

      seen : (t : ℕ) → (step_sets x ≡ Some t) ⊎ IsRead end (x ∷ ys) t → (step_sets x ≡ Some t) ⊎ IsRead end (x ∷ xs) t
      seen t (inl h) = inl h
      seen t (inr (inl h)) = inr (inl h)
      seen t (inr (inr h)) = inr (inr (s.reads t h))

  head_is : (x y : IrStep) (xs ys : List IrStep) → (x ∷ xs) ≡ (y ∷ ys) → x ≡ y
  head_is x y xs ys same = cc

  tail_is : (x y : IrStep) (xs ys : List IrStep) → (x ∷ xs) ≡ (y ∷ ys) → xs ≡ ys
  tail_is x y xs ys same = cc

  first_as : (x y : IrStep) (ys behind xs : List IrStep) → x ≡ y → ys ≡ behind → Found [] x ys xs → Found [] y behind xs
  first_as x y ys behind xs same same_rest f = subst (λ z. Found [] z behind xs) same (subst (λ l. Found [] x l xs) same_rest f)

  -- the same step in front of both
  alike : (x : IrStep) (ys xs : List IrStep) → Stretched ys xs → Stretched (x ∷ ys) (x ∷ xs)
  alike x ys xs s = record { sets = λ t h. set t h; reads = λ t h. read t h; found = λ before y behind same. at before y behind same }
    where
      set : (t : ℕ) → IsSetIn (x ∷ ys) t → IsSetIn (x ∷ xs) t
      set t (inl h) = inl h
      set t (inr h) = inr (s.sets t h)

      read : (t : ℕ) → IsRead end (x ∷ ys) t → IsRead end (x ∷ xs) t
      read t (inl h) = inl h
      read t (inr h) = inr (s.reads t h)

      at : (before : List IrStep) (y : IrStep) (behind : List IrStep) → (x ∷ ys) ≡ (before ++ y ∷ behind) → Found before y behind (x ∷ xs)
      at [] y behind same = first_as x y ys behind (x ∷ xs) (head_is x y ys behind same) (tail_is x y ys behind same) (first x ys xs s)
      at (b ∷ before) y behind same =
          subst (λ d. Found (d ∷ before) y behind (x ∷ xs)) (head_is x b ys (before ++ y ∷ behind) same)
          (deeper x before y behind xs (s.found before y behind (tail_is x b ys (before ++ y ∷ behind) same)))

  -- a fence in front of the longer list, where the shorter has some step
  fence_first : (f : IrFence) (x : IrStep) (ys xs : List IrStep) → Stretched ys (x ∷ xs) → Stretched (steps.Fence f ∷ ys) (x ∷ xs)
  fence_first f x ys xs s = record { sets = λ t h. set t h; reads = λ t h. read t h; found = λ before y behind same. at before y behind same }
    where
      set : (t : ℕ) → IsSetIn (steps.Fence f ∷ ys) t → IsSetIn (x ∷ xs) t
      set t (inl h) = cc
      set t (inr h) = s.sets t h

      read : (t : ℕ) → IsRead end (steps.Fence f ∷ ys) t → IsRead end (x ∷ xs) t
      read t (inl h) = absurd (in_none t h)
      read t (inr h) = s.reads t h

      here : Found [] (steps.Fence f) ys (x ∷ xs)
      here = record { earlier = []; step = x; later = xs; parts = refl; set = λ t h. none t h; used = λ t h. seen t h }
        where
          none : (t : ℕ) → IsSetIn [] t ⊎ (step_sets (steps.Fence f) ≡ Some t) → IsSetIn [] t ⊎ (step_sets x ≡ Some t)
          none t (inl h) = inl h
          none t (inr h) = cc

          seen : (t : ℕ) → (step_sets (steps.Fence f) ≡ Some t) ⊎ IsRead end (steps.Fence f ∷ ys) t → (step_sets x ≡ Some t) ⊎ IsRead end (x ∷ xs) t
          seen t (inl h) = cc
          seen t (inr (inl h)) = absurd (in_none t h)
          seen t (inr (inr h)) = inr (s.reads t h)

      behind_fence : (before : List IrStep) (y : IrStep) (behind : List IrStep) → Found before y behind (x ∷ xs) → Found (steps.Fence f ∷ before) y behind (x ∷ xs)
      behind_fence before y behind g = record { earlier = g.earlier; step = g.step; later = g.later; parts = g.parts; set = λ t h. no_fence t h; used = g.used }
        where
          no_fence : (t : ℕ) → IsSetIn (steps.Fence f ∷ before) t ⊎ (step_sets y ≡ Some t) → IsSetIn g.earlier t ⊎ (step_sets g.step ≡ Some t)
          no_fence t (inl (inl h)) = cc
          no_fence t (inl (inr h)) = g.set t (inl h)
          no_fence t (inr h) = g.set t (inr h)

      at : (before : List IrStep) (y : IrStep) (behind : List IrStep) → (steps.Fence f ∷ ys) ≡ (before ++ y ∷ behind) → Found before y behind (x ∷ xs)
      at [] y behind same = first_as (steps.Fence f) y ys behind (x ∷ xs) (head_is (steps.Fence f) y ys behind same) (tail_is (steps.Fence f) y ys behind same) here
      at (b ∷ before) y behind same =
          subst (λ d. Found (d ∷ before) y behind (x ∷ xs)) (head_is (steps.Fence f) b ys (before ++ y ∷ behind) same)
          (behind_fence before y behind (s.found before y behind (tail_is (steps.Fence f) b ys (before ++ y ∷ behind) same)))

  -- a fence behind a step that both have in front
  fence_second : (f : IrFence) (x : IrStep) (ys xs : List IrStep) → Stretched ys xs → Stretched (x ∷ steps.Fence f ∷ ys) (x ∷ xs)
  fence_second f x ys xs s = record { sets = λ t h. set t h; reads = λ t h. read t h; found = λ before y behind same. at before y behind same }
    where
      set : (t : ℕ) → IsSetIn (x ∷ steps.Fence f ∷ ys) t → IsSetIn (x ∷ xs) t
      set t (inl h) = inl h
      set t (inr (inl h)) = cc
      set t (inr (inr h)) = inr (s.sets t h)

      read : (t : ℕ) → IsRead end (x ∷ steps.Fence f ∷ ys) t → IsRead end (x ∷ xs) t
      read t (inl h) = inl h
      read t (inr (inl h)) = absurd (in_none t h)
      read t (inr (inr h)) = inr (s.reads t h)

      here : Found [] x (steps.Fence f ∷ ys) (x ∷ xs)
      here = record { earlier = []; step = x; later = xs; parts = refl; set = λ t h. h; used = λ t h. seen t h }
        where
          seen : (t : ℕ) → (step_sets x ≡ Some t) ⊎ IsRead end (x ∷ steps.Fence f ∷ ys) t → (step_sets x ≡ Some t) ⊎ IsRead end (x ∷ xs) t
          seen t (inl h) = inl h
          seen t (inr h) = inr (read t h)

      at_fence : Found (x ∷ []) (steps.Fence f) ys (x ∷ xs)
      at_fence = record { earlier = []; step = x; later = xs; parts = refl; set = λ t h. set_by t h; used = λ t h. seen t h }
        where
          set_by : (t : ℕ) → IsSetIn (x ∷ []) t ⊎ (step_sets (steps.Fence f) ≡ Some t) → IsSetIn [] t ⊎ (step_sets x ≡ Some t)
          set_by t (inl (inl h)) = inr h
          set_by t (inl (inr h)) = inl h
          set_by t (inr h) = cc

          seen : (t : ℕ) → (step_sets (steps.Fence f) ≡ Some t) ⊎ IsRead end (steps.Fence f ∷ ys) t → (step_sets x ≡ Some t) ⊎ IsRead end (x ∷ xs) t
          seen t (inl h) = cc
          seen t (inr (inl h)) = absurd (in_none t h)
          seen t (inr (inr h)) = inr (inr (s.reads t h))

      behind_fence : (before : List IrStep) (y : IrStep) (behind : List IrStep) → Found before y behind xs → Found (x ∷ steps.Fence f ∷ before) y behind (x ∷ xs)
      behind_fence before y behind g = record { earlier = g'.earlier; step = g'.step; later = g'.later; parts = g'.parts; set = λ t h. no_fence t h; used = g'.used }
        where
          g' : Found (x ∷ before) y behind (x ∷ xs)
          g' = deeper x before y behind xs g

          no_fence : (t : ℕ) → IsSetIn (x ∷ steps.Fence f ∷ before) t ⊎ (step_sets y ≡ Some t) → IsSetIn g'.earlier t ⊎ (step_sets g'.step ≡ Some t)
          no_fence t (inl (inl h)) = g'.set t (inl (inl h))
          no_fence t (inl (inr (inl h))) = cc
          no_fence t (inl (inr (inr h))) = g'.set t (inl (inr h))
          no_fence t (inr h) = g'.set t (inr h)

      at : (before : List IrStep) (y : IrStep) (behind : List IrStep) → (x ∷ steps.Fence f ∷ ys) ≡ (before ++ y ∷ behind) → Found before y behind (x ∷ xs)
      at [] y behind same = first_as x y (steps.Fence f ∷ ys) behind (x ∷ xs) (head_is x y (steps.Fence f ∷ ys) behind same) (tail_is x y (steps.Fence f ∷ ys) behind same) here
      at (b ∷ []) y behind same =
          let rest = tail_is x b (steps.Fence f ∷ ys) (y ∷ behind) same in
          subst (λ d. Found (d ∷ []) y behind (x ∷ xs)) (head_is x b (steps.Fence f ∷ ys) (y ∷ behind) same)
          (subst (λ z. Found (x ∷ []) z behind (x ∷ xs)) (head_is (steps.Fence f) y ys behind rest)
          (subst (λ l. Found (x ∷ []) (steps.Fence f) l (x ∷ xs)) (tail_is (steps.Fence f) y ys behind rest) at_fence))
      at (b ∷ c ∷ before) y behind same =
          let rest = tail_is x b (steps.Fence f ∷ ys) (c ∷ (before ++ y ∷ behind)) same in
          subst (λ d. Found (d ∷ c ∷ before) y behind (x ∷ xs)) (head_is x b (steps.Fence f ∷ ys) (c ∷ (before ++ y ∷ behind)) same)
          (subst (λ d. Found (x ∷ d ∷ before) y behind (x ∷ xs)) (head_is (steps.Fence f) c ys (before ++ y ∷ behind) rest)
          (behind_fence before y behind (s.found before y behind (tail_is (steps.Fence f) c ys (before ++ y ∷ behind) rest))))

  either : (b : Bool) (xs ys rest zs : List IrStep) → Stretched (xs ++ rest) zs → Stretched (ys ++ rest) zs → Stretched ((if b then xs else ys) ++ rest) zs
  either true xs ys rest zs one other = one
  either false xs ys rest zs one other = other

  stretched : (private : List Slot) (xs : List IrStep) → Stretched (flat_map (fenced private) xs) xs
  stretched private [] = empty
  stretched private (steps.Load t a size place ∷ xs) =
      let x = steps.Load t a size place in
      let rest = flat_map (fenced private) xs in
      let later = stretched private xs in
      either (marked private (record { address = place; kind = Read })) (x ∷ []) (x ∷ steps.Fence Frm ∷ []) rest (x ∷ xs) (alike x rest xs later) (fence_second Frm x rest xs later)
  stretched private (steps.Store a v size place ∷ xs) =
      let x = steps.Store a v size place in
      let rest = flat_map (fenced private) xs in
      let later = alike x rest xs (stretched private xs) in
      either (marked private (record { address = place; kind = Write })) (x ∷ []) (steps.Fence Fww ∷ x ∷ []) rest (x ∷ xs) later (fence_first Fww x (x ∷ rest) xs later)
  stretched private (steps.Rmw op t a v size place ∷ xs) =
      let x = steps.Rmw op t a v size place in
      let rest = flat_map (fenced private) xs in
      fence_first Fsc x (x ∷ steps.Fence Fsc ∷ rest) xs (fence_second Fsc x rest xs (stretched private xs))
  stretched private (steps.Cas t a e v size place ∷ xs) =
      let x = steps.Cas t a e v size place in
      let rest = flat_map (fenced private) xs in
      fence_first Fsc x (x ∷ steps.Fence Fsc ∷ rest) xs (fence_second Fsc x rest xs (stretched private xs))
  stretched private (steps.Const t v ∷ xs) = alike (steps.Const t v) (flat_map (fenced private) xs) xs (stretched private xs)
  stretched private (steps.GetReg t r ∷ xs) = alike (steps.GetReg t r) (flat_map (fenced private) xs) xs (stretched private xs)
  stretched private (steps.SetReg r t ∷ xs) = alike (steps.SetReg r t) (flat_map (fenced private) xs) xs (stretched private xs)
  stretched private (steps.GetFlag t f ∷ xs) = alike (steps.GetFlag t f) (flat_map (fenced private) xs) xs (stretched private xs)
  stretched private (steps.SetFlag f t ∷ xs) = alike (steps.SetFlag f t) (flat_map (fenced private) xs) xs (stretched private xs)
  stretched private (steps.Op op t a b ∷ xs) = alike (steps.Op op t a b) (flat_map (fenced private) xs) xs (stretched private xs)
  stretched private (steps.Select t c a b ∷ xs) = alike (steps.Select t c a b) (flat_map (fenced private) xs) xs (stretched private xs)
  stretched private (steps.Fence f ∷ xs) = alike (steps.Fence f) (flat_map (fenced private) xs) xs (stretched private xs)
  stretched private (steps.Input ∷ xs) = alike steps.Input (flat_map (fenced private) xs) xs (stretched private xs)
  stretched private (steps.Output ∷ xs) = alike steps.Output (flat_map (fenced private) xs) xs (stretched private xs)
  stretched private (steps.TrapIf t kind ∷ xs) = alike (steps.TrapIf t kind) (flat_map (fenced private) xs) xs (stretched private xs)

  -- what is live in the longer list is live in the shorter, so there are no more
  live_in : (before : List IrStep) (y : IrStep) (behind xs : List IrStep) (f : Found before y behind xs) (ts : List ℕ)
      → AllByRecursion (IsLiveAt end before y behind) ts → AllByRecursion (IsLiveAt end f.earlier f.step f.later) ts
  live_in before y behind xs f [] all = tt
  live_in before y behind xs f (t ∷ ts) all = ((f.set t all.0.0, f.used t all.0.1), live_in before y behind xs f ts all.1)

  few_live : (most : ℕ) (ys xs : List IrStep) → Stretched ys xs → LiveAtMost most end xs → LiveAtMost most end ys
  few_live most ys xs s few before y behind parts ts distinct all =
      let f = s.found before y behind parts in few f.earlier f.step f.later f.parts ts distinct (live_in before y behind xs f ts all)

-- a fence sets nothing
once_with_fence : (f : IrFence) (ys : List IrStep) → SetsOnce ys → SetsOnce (steps.Fence f ∷ ys)
once_with_fence f ys once = ((λ t set later. none t set), once)
  where
    none : (t : ℕ) → step_sets (steps.Fence f) ≡ Some t → ⊥
    none t set = cc

module _ (end : IrEnd) (private : List Slot) where
  -- a step in front of the longer list sets what it sets in front of the shorter
  once_first : (x : IrStep) (ys xs : List IrStep) → ((t : ℕ) → IsSetIn ys t → IsSetIn xs t) → ((t : ℕ) → step_sets x ≡ Some t → IsSetIn xs t → ⊥) → SetsOnce ys → SetsOnce (x ∷ ys)
  once_first x ys xs sets apart once = ((λ t set later. apart t set (sets t later)), once)

  no_more : (f : IrFence) (ys xs : List IrStep) → ((t : ℕ) → IsSetIn ys t → IsSetIn xs t) → (t : ℕ) → IsSetIn (steps.Fence f ∷ ys) t → IsSetIn xs t
  no_more f ys xs sets t (inl h) = cc
  no_more f ys xs sets t (inr h) = sets t h

  either_once : (b : Bool) (xs ys rest : List IrStep) → SetsOnce (xs ++ rest) → SetsOnce (ys ++ rest) → SetsOnce ((if b then xs else ys) ++ rest)
  either_once true xs ys rest one other = one
  either_once false xs ys rest one other = other

  plain_once : (x : IrStep) (xs : List IrStep) → SetsOnce (x ∷ xs) → SetsOnce (flat_map (fenced private) xs) → SetsOnce (x ∷ flat_map (fenced private) xs)
  plain_once x xs given later = once_first x (flat_map (fenced private) xs) xs ((stretched end private xs).sets) given.0 later

  fenced_once : (f : IrFence) (x : IrStep) (xs : List IrStep) → SetsOnce (x ∷ xs) → SetsOnce (flat_map (fenced private) xs) → SetsOnce (x ∷ steps.Fence f ∷ flat_map (fenced private) xs)
  fenced_once f x xs given later =
      let rest = flat_map (fenced private) xs in
      once_first x (steps.Fence f ∷ rest) xs (no_more f rest xs ((stretched end private xs).sets)) given.0 (once_with_fence f rest later)

  once : (xs : List IrStep) → SetsOnce xs → SetsOnce (flat_map (fenced private) xs)
  once [] given = tt
  once (steps.Load t a size place ∷ xs) given =
      let x = steps.Load t a size place in
      let later = once xs given.1 in
      either_once (marked private (record { address = place; kind = Read })) (x ∷ []) (x ∷ steps.Fence Frm ∷ []) (flat_map (fenced private) xs) (plain_once x xs given later) (fenced_once Frm x xs given later)
  once (steps.Store a v size place ∷ xs) given =
      let x = steps.Store a v size place in
      let rest = flat_map (fenced private) xs in
      let later = plain_once x xs given (once xs given.1) in
      either_once (marked private (record { address = place; kind = Write })) (x ∷ []) (steps.Fence Fww ∷ x ∷ []) rest later (once_with_fence Fww (x ∷ rest) later)
  once (steps.Rmw op t a v size place ∷ xs) given =
      let x = steps.Rmw op t a v size place in
      once_with_fence Fsc (x ∷ steps.Fence Fsc ∷ flat_map (fenced private) xs) (fenced_once Fsc x xs given (once xs given.1))
  once (steps.Cas t a e v size place ∷ xs) given =
      let x = steps.Cas t a e v size place in
      once_with_fence Fsc (x ∷ steps.Fence Fsc ∷ flat_map (fenced private) xs) (fenced_once Fsc x xs given (once xs given.1))
  once (steps.Const t v ∷ xs) given = plain_once (steps.Const t v) xs given (once xs given.1)
  once (steps.GetReg t r ∷ xs) given = plain_once (steps.GetReg t r) xs given (once xs given.1)
  once (steps.SetReg r t ∷ xs) given = plain_once (steps.SetReg r t) xs given (once xs given.1)
  once (steps.GetFlag t f ∷ xs) given = plain_once (steps.GetFlag t f) xs given (once xs given.1)
  once (steps.SetFlag f t ∷ xs) given = plain_once (steps.SetFlag f t) xs given (once xs given.1)
  once (steps.Op op t a b ∷ xs) given = plain_once (steps.Op op t a b) xs given (once xs given.1)
  once (steps.Select t c a b ∷ xs) given = plain_once (steps.Select t c a b) xs given (once xs given.1)
  once (steps.Fence f ∷ xs) given = plain_once (steps.Fence f) xs given (once xs given.1)
  once (steps.Input ∷ xs) given = plain_once steps.Input xs given (once xs given.1)
  once (steps.Output ∷ xs) given = plain_once steps.Output xs given (once xs given.1)
  once (steps.TrapIf t kind ∷ xs) given = plain_once (steps.TrapIf t kind) xs given (once xs given.1)

  -- selection may rest on steps with fences where it may on the steps
  pub fences_selectable : (xs : List IrStep) → IsSelectable xs end → IsSelectable (flat_map (fenced private) xs) end
  fences_selectable xs s = record {
    well = fences_well end private xs (λ t. Unset) s.well;
    once = once xs s.once;
    small = λ t set. s.small t ((stretched end private xs).sets t set);
    few = few_live end 6 (flat_map (fenced private) xs) xs (stretched end private xs) s.few;
  }
