-- Whether steps are well made, and what is live in them, is the same with fences and without.
use Rattle.std.proofs.Common.{◌≡◌, ℕ, ◌≤◌, List, [], ◌∷◌, ◌++◌, length, refl, sym, ap, ◌∙◌, subst, inl, inr, arith}
use mathlib.Core.Path.{fun_ext}
use Rattle.std.specs.Prelude.{◌⊎◌, Some, Contains, eqb}
use Rattle.std.proofs.lemmas.List.{append-nil}
use Rattle.std.proofs.lemmas.List.Concat.{flat_map-append}
use Rattle.std.specs.List.{AllByRecursion, IsDistinct}
use Rattle.limm_ir.specs.declared.block.IrEnd.{IrEnd}
use Rattle.limm_ir.specs.declared.step.IrStep.{IrStep}
use Rattle.limm_ir.specs.declared.step.IrStep.TheVariants as steps
use Rattle.limm_ir.specs.declared.step.IrFence.{IrFence}
use Rattle.limm_ir.specs.Conditions.{Known, Unset, learn, IsWell, IsWellMade, step_sets, IsSetIn, SetsOnce, IsRead, IsLiveAt, LiveAtMost, IsSelectable}
use Rattle.fence_merge.specs.Roles.{unfenced, without_fence}

-- a step is a fence, or stays
pub data Kept : IrStep → Type 0 where
  a-fence : {f : IrFence} → Kept (steps.Fence f)
  stays : {x : IrStep} → without_fence x ≡ x ∷ [] → Kept x

pub kept : (x : IrStep) → Kept x
kept (steps.Fence f) = a-fence
kept (steps.Load t a size place) = stays refl
kept (steps.Store a v size place) = stays refl
kept (steps.Rmw op t a v size place) = stays refl
kept (steps.Cas t a e v size place) = stays refl
kept (steps.Const t v) = stays refl
kept (steps.GetReg t r) = stays refl
kept (steps.SetReg r t) = stays refl
kept (steps.GetFlag t f) = stays refl
kept (steps.SetFlag f t) = stays refl
kept (steps.Op op t a b) = stays refl
kept (steps.Select t c a b) = stays refl
kept steps.Input = stays refl
kept steps.Output = stays refl
kept (steps.TrapIf t kind) = stays refl

front : {x : IrStep} (xs : List IrStep) → without_fence x ≡ x ∷ [] → unfenced (x ∷ xs) ≡ x ∷ unfenced xs
front xs same = ap (λ l. l ++ unfenced xs) same

-- nothing is in an empty list
in_none : (t : ℕ) → Contains [] t → ⊥
in_none t (n, low, same) = omega (arith, low)

no_more : (f : IrFence) (known : ℕ → Known) → learn (steps.Fence f) known ≡ known
no_more f known = fun_ext (λ t. refl)

module _ (end : IrEnd) where
  well_without : (xs : List IrStep) (known : ℕ → Known) → IsWell end known xs → IsWell end known (unfenced xs)
  well_without [] known well = well
  well_without (x ∷ xs) known well = by (kept x) well (λ known well. well_without xs known well)
    where
      by : {x : IrStep} → Kept x → IsWell end known (x ∷ xs) → ((known : ℕ → Known) → IsWell end known xs → IsWell end known (unfenced xs)) → IsWell end known (unfenced (x ∷ xs))
      by (a-fence {f = f}) well rest = rest known (subst (λ k. IsWell end k xs) (no_more f known) well.2)
      by (stays {x = x} same) well rest = subst (λ l. IsWell end known l) (sym (front xs same)) (well.0, well.1, rest (learn x known) well.2)

  well_with : (xs : List IrStep) (known : ℕ → Known) → IsWell end known (unfenced xs) → IsWell end known xs
  well_with [] known well = well
  well_with (x ∷ xs) known well = by (kept x) well (λ known well. well_with xs known well)
    where
      by : {x : IrStep} → Kept x → IsWell end known (unfenced (x ∷ xs)) → ((known : ℕ → Known) → IsWell end known (unfenced xs) → IsWell end known xs) → IsWell end known (x ∷ xs)
      by (a-fence {f = f}) well rest = (tt, tt, subst (λ k. IsWell end k xs) (sym (no_more f known)) (rest known well))
      by (stays {x = x} same) well rest = let here = subst (λ l. IsWell end known l) (front xs same) well in (here.0, here.1, rest (learn x known) here.2)

  -- steps that differ by fences alone are well made alike
  pub well_alike : (xs ys : List IrStep) → unfenced ys ≡ unfenced xs → IsWellMade xs end → IsWellMade ys end
  well_alike xs ys same well = well_with ys (λ t. Unset) (subst (λ l. IsWell end (λ t. Unset) l) (sym same) (well_without xs (λ t. Unset) well))

  -- what is set, and what is read
  sets_without : (xs : List IrStep) (t : ℕ) → IsSetIn xs t → IsSetIn (unfenced xs) t
  sets_without [] t h = h
  sets_without (x ∷ xs) t h = by (kept x) h (sets_without xs t)
    where
      later : (x : IrStep) → (IsSetIn xs t → IsSetIn (unfenced xs) t) → IsSetIn (x ∷ xs) t → IsSetIn (x ∷ unfenced xs) t
      later x rest (inl h) = inl h
      later x rest (inr h) = inr (rest h)

      by : {x : IrStep} → Kept x → IsSetIn (x ∷ xs) t → (IsSetIn xs t → IsSetIn (unfenced xs) t) → IsSetIn (unfenced (x ∷ xs)) t
      by a-fence (inl h) rest = cc
      by a-fence (inr h) rest = rest h
      by (stays {x = x} same) h rest = subst (λ l. IsSetIn l t) (sym (front xs same)) (later x rest h)

  sets_with : (xs : List IrStep) (t : ℕ) → IsSetIn (unfenced xs) t → IsSetIn xs t
  sets_with [] t h = h
  sets_with (x ∷ xs) t h = by (kept x) h (sets_with xs t)
    where
      later : (x : IrStep) → (IsSetIn (unfenced xs) t → IsSetIn xs t) → IsSetIn (x ∷ unfenced xs) t → IsSetIn (x ∷ xs) t
      later x rest (inl h) = inl h
      later x rest (inr h) = inr (rest h)

      by : {x : IrStep} → Kept x → IsSetIn (unfenced (x ∷ xs)) t → (IsSetIn (unfenced xs) t → IsSetIn xs t) → IsSetIn (x ∷ xs) t
      by a-fence h rest = inr (rest h)
      by (stays {x = x} same) h rest = later x rest (subst (λ l. IsSetIn l t) (front xs same) h)

  reads_without : (xs : List IrStep) (t : ℕ) → IsRead end xs t → IsRead end (unfenced xs) t
  reads_without [] t h = h
  reads_without (x ∷ xs) t h = by (kept x) h (reads_without xs t)
    where
      later : (x : IrStep) → (IsRead end xs t → IsRead end (unfenced xs) t) → IsRead end (x ∷ xs) t → IsRead end (x ∷ unfenced xs) t
      later x rest (inl h) = inl h
      later x rest (inr h) = inr (rest h)

      by : {x : IrStep} → Kept x → IsRead end (x ∷ xs) t → (IsRead end xs t → IsRead end (unfenced xs) t) → IsRead end (unfenced (x ∷ xs)) t
      by a-fence (inl h) rest = absurd (in_none t h)
      by a-fence (inr h) rest = rest h
      by (stays {x = x} same) h rest = subst (λ l. IsRead end l t) (sym (front xs same)) (later x rest h)

  reads_with : (xs : List IrStep) (t : ℕ) → IsRead end (unfenced xs) t → IsRead end xs t
  reads_with [] t h = h
  reads_with (x ∷ xs) t h = by (kept x) h (reads_with xs t)
    where
      later : (x : IrStep) → (IsRead end (unfenced xs) t → IsRead end xs t) → IsRead end (x ∷ unfenced xs) t → IsRead end (x ∷ xs) t
      later x rest (inl h) = inl h
      later x rest (inr h) = inr (rest h)

      by : {x : IrStep} → Kept x → IsRead end (unfenced (x ∷ xs)) t → (IsRead end (unfenced xs) t → IsRead end xs t) → IsRead end (x ∷ xs) t
      by a-fence h rest = inr (rest h)
      by (stays {x = x} same) h rest = later x rest (subst (λ l. IsRead end l t) (front xs same) h)

  once_without : (xs : List IrStep) → SetsOnce xs → SetsOnce (unfenced xs)
  once_without [] once = once
  once_without (x ∷ xs) once = by (kept x) once (once_without xs once.1)
    where
      by : {x : IrStep} → Kept x → SetsOnce (x ∷ xs) → SetsOnce (unfenced xs) → SetsOnce (unfenced (x ∷ xs))
      by a-fence once rest = rest
      by (stays {x = x} same) once rest = subst SetsOnce (sym (front xs same)) ((λ t set later. once.0 t set (sets_with xs t later)), rest)

  once_with : (xs : List IrStep) → SetsOnce (unfenced xs) → SetsOnce xs
  once_with [] once = once
  once_with (x ∷ xs) once = by (kept x) once (λ rest. once_with xs rest)
    where
      none : (f : IrFence) (t : ℕ) → step_sets (steps.Fence f) ≡ Some t → ⊥
      none f t set = cc

      by : {x : IrStep} → Kept x → SetsOnce (unfenced (x ∷ xs)) → (SetsOnce (unfenced xs) → SetsOnce xs) → SetsOnce (x ∷ xs)
      by (a-fence {f = f}) once rest = ((λ t set later. none f t set), rest once)
      by (stays {x = x} same) once rest = let here = subst SetsOnce (front xs same) once in ((λ t set later. here.0 t set (sets_without xs t later)), rest here.1)

  -- a place among the steps without fences is one among the steps
  pub record Place (xs before : List IrStep) (x : IrStep) (behind : List IrStep) : Type 0 where
    pub earlier : List IrStep
    pub later : List IrStep
    pub parts : xs ≡ earlier ++ x ∷ later
    pub before_is : unfenced earlier ≡ before
    pub behind_is : unfenced later ≡ behind

  deeper : (x : IrStep) {xs before : List IrStep} {y : IrStep} {behind more : List IrStep} → unfenced (x ∷ []) ++ before ≡ more → Place xs before y behind → Place (x ∷ xs) more y behind
  deeper x {xs} {before} {y} {behind} {more} same place = record {
    earlier = x ∷ place.earlier;
    later = place.later;
    parts = ap (λ l. x ∷ l) place.parts;
    before_is = in_front;
    behind_is = place.behind_is;
  }
    where
      in_front : unfenced (x ∷ place.earlier) ≡ more
      in_front = ap (λ l. without_fence x ++ l) place.before_is ∙ ap (λ l. l ++ before) (sym (append-nil (without_fence x))) ∙ same

  nothing_at : (before : List IrStep) (y : IrStep) (behind : List IrStep) → [] ≡ before ++ y ∷ behind → ⊥
  nothing_at [] y behind same = cc
  nothing_at (b ∷ before) y behind same = cc

  head_is : (x y : IrStep) (xs ys : List IrStep) → (x ∷ xs) ≡ (y ∷ ys) → x ≡ y
  head_is x y xs ys same = cc

  tail_is : (x y : IrStep) (xs ys : List IrStep) → (x ∷ xs) ≡ (y ∷ ys) → xs ≡ ys
  tail_is x y xs ys same = cc

  place_of : (xs before : List IrStep) (y : IrStep) (behind : List IrStep) → unfenced xs ≡ before ++ y ∷ behind → Place xs before y behind
  place_of [] before y behind same = absurd (nothing_at before y behind same)
  place_of (x ∷ xs) before y behind same = by (kept x) before same (λ before same. place_of xs before y behind same)
    where
      at : (x : IrStep) → without_fence x ≡ x ∷ [] → (before : List IrStep) → (x ∷ unfenced xs) ≡ (before ++ y ∷ behind)
          → ((before : List IrStep) → unfenced xs ≡ before ++ y ∷ behind → Place xs before y behind) → Place (x ∷ xs) before y behind
      at x kept [] same rest = record {
        earlier = [];
        later = xs;
        parts = ap (λ z. z ∷ xs) (head_is x y (unfenced xs) behind same);
        before_is = refl;
        behind_is = tail_is x y (unfenced xs) behind same;
      }
      at x kept (b ∷ before) same rest =
          deeper x (ap (λ l. (l ++ []) ++ before) kept ∙ ap (λ z. z ∷ before) (head_is x b (unfenced xs) (before ++ y ∷ behind) same))
          (rest before (tail_is x b (unfenced xs) (before ++ y ∷ behind) same))

      by : {x : IrStep} → Kept x → (before : List IrStep) → unfenced (x ∷ xs) ≡ before ++ y ∷ behind
          → ((before : List IrStep) → unfenced xs ≡ before ++ y ∷ behind → Place xs before y behind) → Place (x ∷ xs) before y behind
      by (a-fence {f = f}) before same rest = deeper (steps.Fence f) refl (rest before same)
      by (stays {x = x} kept) before same rest = at x kept before (sym (front xs kept) ∙ same) rest

  -- what is live at a place
  live_at : (t : ℕ) (before before' behind behind' : List IrStep) (x : IrStep) → (IsSetIn before t → IsSetIn before' t) → (IsRead end behind t → IsRead end behind' t)
      → IsLiveAt end before x behind t → IsLiveAt end before' x behind' t
  live_at t before before' behind behind' x sets reads (set, read) = (earlier set, later read)
    where
      earlier : IsSetIn before t ⊎ (step_sets x ≡ Some t) → IsSetIn before' t ⊎ (step_sets x ≡ Some t)
      earlier (inl h) = inl (sets h)
      earlier (inr h) = inr h

      later : (step_sets x ≡ Some t) ⊎ IsRead end (x ∷ behind) t → (step_sets x ≡ Some t) ⊎ IsRead end (x ∷ behind') t
      later (inl h) = inl h
      later (inr (inl h)) = inr (inl h)
      later (inr (inr h)) = inr (inr (reads h))

  each : (P Q : ℕ → Type 0) → ((t : ℕ) → P t → Q t) → (ts : List ℕ) → AllByRecursion P ts → AllByRecursion Q ts
  each P Q step [] all = tt
  each P Q step (t ∷ ts) all = (step t all.0, each P Q step ts all.1)

  live_without : (most : ℕ) (xs : List IrStep) → LiveAtMost most end xs → LiveAtMost most end (unfenced xs)
  live_without most xs few before x behind parts ts distinct all =
      let p = place_of xs before x behind parts in
      few p.earlier x p.later p.parts ts distinct (each (IsLiveAt end before x behind) (IsLiveAt end p.earlier x p.later)
      (λ t live. live_at t before p.earlier behind p.later x (λ h. sets_with p.earlier t (subst (λ l. IsSetIn l t) (sym p.before_is) h))
      (λ h. reads_with p.later t (subst (λ l. IsRead end l t) (sym p.behind_is) h)) live) ts all)

  -- the last step of some
  pub record Last (b : IrStep) (bs : List IrStep) : Type 0 where
    pub earlier : List IrStep
    pub last : IrStep
    pub parts : (b ∷ bs) ≡ earlier ++ last ∷ []
    pub set : (t : ℕ) → IsSetIn (b ∷ bs) t → IsSetIn earlier t ⊎ (step_sets last ≡ Some t)

  last_of : (b : IrStep) (bs : List IrStep) → Last b bs
  last_of b [] = record { earlier = []; last = b; parts = refl; set = λ t h. by t h }
    where
      by : (t : ℕ) → IsSetIn (b ∷ []) t → IsSetIn [] t ⊎ (step_sets b ≡ Some t)
      by t (inl h) = inr h
      by t (inr h) = inl h
  last_of b (c ∷ bs) = from (last_of c bs)
    where
      from : Last c bs → Last b (c ∷ bs)
      from rest = record { earlier = b ∷ rest.earlier; last = rest.last; parts = ap (λ l. b ∷ l) rest.parts; set = λ t h. by t h }
        where
          later : (t : ℕ) → IsSetIn rest.earlier t ⊎ (step_sets rest.last ≡ Some t) → IsSetIn (b ∷ rest.earlier) t ⊎ (step_sets rest.last ≡ Some t)
          later t (inl h) = inl (inr h)
          later t (inr h) = inr h

          by : (t : ℕ) → IsSetIn (b ∷ c ∷ bs) t → IsSetIn (b ∷ rest.earlier) t ⊎ (step_sets rest.last ≡ Some t)
          by t (inl h) = inl (inl h)
          by t (inr h) = later t (rest.set t h)

  -- what is set in front and read behind is live at some step
  abbrev IsAcross : (bs es : List IrStep) → ℕ → Type 0
  IsAcross bs es t = IsSetIn bs t × IsRead end es t

  few_across : (most : ℕ) (bs es : List IrStep) → LiveAtMost most end (bs ++ es) → (ts : List ℕ) → IsDistinct eqb ts → AllByRecursion (IsAcross bs es) ts → length ts ≤ most
  few_across most bs (e ∷ es) few ts distinct all =
      few bs e es refl ts distinct (each (IsAcross bs (e ∷ es)) (IsLiveAt end bs e es) (λ t across. (inl across.0, inr across.1)) ts all)
  few_across most [] [] few [] distinct all = omega arith
  few_across most [] [] few (t ∷ ts) distinct all = absurd all.0.0
  few_across most (b ∷ bs) [] few ts distinct all =
      let l = last_of b bs in
      few l.earlier l.last [] (append-nil (b ∷ bs) ∙ l.parts) ts distinct
      (each (IsAcross (b ∷ bs) []) (IsLiveAt end l.earlier l.last []) (λ t across. (l.set t across.0, inr (inr across.1))) ts all)

  live_with : (most : ℕ) (xs : List IrStep) → LiveAtMost most end (unfenced xs) → LiveAtMost most end xs
  live_with most xs few before x behind parts ts distinct all =
      by (kept x) (ap unfenced parts ∙ flat_map-append without_fence before (x ∷ behind)) all
    where
      across : (f : IrFence) (t : ℕ) → IsLiveAt end before (steps.Fence f) behind t → IsAcross (unfenced before) (unfenced behind) t
      across f t (set, read) = (earlier set, later read)
        where
          earlier : IsSetIn before t ⊎ (step_sets (steps.Fence f) ≡ Some t) → IsSetIn (unfenced before) t
          earlier (inl h) = sets_without before t h
          earlier (inr h) = cc

          later : (step_sets (steps.Fence f) ≡ Some t) ⊎ IsRead end (steps.Fence f ∷ behind) t → IsRead end (unfenced behind) t
          later (inl h) = cc
          later (inr (inl h)) = absurd (in_none t h)
          later (inr (inr h)) = reads_without behind t h

      by : {x : IrStep} → Kept x → unfenced xs ≡ unfenced before ++ unfenced (x ∷ behind) → AllByRecursion (IsLiveAt end before x behind) ts → length ts ≤ most
      by (a-fence {f = f}) same all =
          few_across most (unfenced before) (unfenced behind) (subst (λ l. LiveAtMost most end l) same few) ts distinct
          (each (IsLiveAt end before (steps.Fence f) behind) (IsAcross (unfenced before) (unfenced behind)) (across f) ts all)
      by (stays {x = x} kept) same all =
          few (unfenced before) x (unfenced behind) (same ∙ ap (λ l. unfenced before ++ l) (front behind kept)) ts distinct
          (each (IsLiveAt end before x behind) (IsLiveAt end (unfenced before) x (unfenced behind))
          (λ t live. live_at t before (unfenced before) behind (unfenced behind) x (sets_without before t) (reads_without behind t) live) ts all)

  -- selection may rest alike on steps that differ by fences alone
  pub selectable_alike : (xs ys : List IrStep) → unfenced ys ≡ unfenced xs → IsSelectable xs end → IsSelectable ys end
  selectable_alike xs ys same s = record {
    well = well_alike xs ys same s.well;
    once = once_with ys (subst SetsOnce (sym same) (once_without xs s.once));
    small = λ t set. s.small t (sets_with xs t (subst (λ l. IsSetIn l t) same (sets_without ys t set)));
    few = live_with 6 ys (subst (λ l. LiveAtMost 6 end l) (sym same) (live_without 6 xs s.few));
  }
