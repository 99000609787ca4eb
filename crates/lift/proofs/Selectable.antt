-- Steps of instructions one behind the other, each with temporaries of its own, may be selected where those of each may be.
use Rattle.std.proofs.Common.{◌≡◌, ℕ, zero, suc, ◌+◌, ◌*◌, ◌^◌, ◌<◌, ◌≤◌, ◌==◌, Bool, true, false, List, [], ◌∷◌, ◌++◌, length, take, refl, sym, ap, ◌∙◌, subst, inl, inr, arith, append_assoc}
use Rattle.std.specs.Prelude.{◌⊎◌, sum_by, if◌then◌else◌, slice_index_or, Option, Some, None, Contains}
use Rattle.std.specs.List.{AllByRecursion}
use Rattle.std.proofs.lemmas.Bool.Decides.{nat_tests}
use Rattle.std.proofs.lemmas.List.Sums.{sum_by-cons}
use Rattle.std.proofs.lemmas.List.{append-nil, take_more, length-take-le}
use Rattle.x64_syntax.specs.declared.placed.Placed.{Placed}
use Rattle.limm_ir.specs.declared.block.IrEnd.{IrEnd}
use Rattle.limm_ir.specs.declared.step.IrOp.{IrOp}
use Rattle.limm_ir.specs.declared.step.IrOp.TheVariants as ops
use Rattle.limm_ir.specs.declared.step.IrStep.{IrStep}
use Rattle.limm_ir.specs.declared.step.IrStep.TheVariants as steps
use Rattle.limm_ir.specs.Conditions.{step_reads, step_sets, end_reads, Known, Unset, Set, Constant, IsSet, know, learn, HasConstant, InRange, IsWell, IsWellMade, IsSetIn, SetsOnce, IsRead, IsLiveAt, LiveAtMost, IsSelectable}
use Rattle.limm_ir.specs.Costs.{cost_of, fenced_cost}
use Rattle.limm_ir.proofs.CallerLemmas.{cost_of-append}
use Rattle.lift_alu.specs.Meant.{end_of, most_words, AreStepsOf}
use Rattle.lift.specs.Block.{end_from, AreStepsFrom}

-- ---- what is known may be more

-- where something is known of a temporary, the same is known
abbrev KnowsMore : (ℕ → Known) → (ℕ → Known) → Type 0
KnowsMore known more = (t : ℕ) → (known t ≡ Unset) ⊎ (more t ≡ known t)

set_more : (k l : Known) → (k ≡ Unset) ⊎ (l ≡ k) → IsSet k → IsSet l
set_more k l (inl unset) set = absurd (subst IsSet unset set)
set_more k l (inr same) set = subst IsSet (sym same) set

sets_more : (known more : ℕ → Known) → KnowsMore known more → (ts : List ℕ) → AllByRecursion (λ t. IsSet (known t)) ts → AllByRecursion (λ t. IsSet (more t)) ts
sets_more known more knows [] all = tt
sets_more known more knows (t ∷ ts) all = (set_more (known t) (more t) (knows t) all.0, sets_more known more knows ts all.1)

constant_more : (op : IrOp) (k l : Known) → (k ≡ Unset) ⊎ (l ≡ k) → HasConstant op k → HasConstant op l
constant_more op k l (inr same) has = subst (HasConstant op) (sym same) has
constant_more ops.ZeroExt k l (inl unset) has = absurd (subst (HasConstant ops.ZeroExt) unset has)
constant_more ops.SignExt k l (inl unset) has = absurd (subst (HasConstant ops.SignExt) unset has)
constant_more ops.Add k l (inl unset) has = tt
constant_more ops.Sub k l (inl unset) has = tt
constant_more ops.And k l (inl unset) has = tt
constant_more ops.Or k l (inl unset) has = tt
constant_more ops.Xor k l (inl unset) has = tt
constant_more ops.Shl k l (inl unset) has = tt
constant_more ops.Shr k l (inl unset) has = tt
constant_more ops.Sar k l (inl unset) has = tt
constant_more ops.Ror k l (inl unset) has = tt
constant_more ops.Mul k l (inl unset) has = tt
constant_more ops.HighU k l (inl unset) has = tt
constant_more ops.HighS k l (inl unset) has = tt
constant_more ops.DivU k l (inl unset) has = tt
constant_more ops.DivS k l (inl unset) has = tt
constant_more ops.Eq k l (inl unset) has = tt
constant_more ops.LessU k l (inl unset) has = tt
constant_more ops.LessS k l (inl unset) has = tt

range_more : (known more : ℕ → Known) → KnowsMore known more → (x : IrStep) → InRange known x → InRange more x
range_more known more knows (steps.Op op t a b) range = constant_more op (known b.0) (more b.0) (knows b.0) range
range_more known more knows (steps.Const t v) range = range
range_more known more knows (steps.GetReg t r) range = range
range_more known more knows (steps.SetReg r t) range = range
range_more known more knows (steps.GetFlag t f) range = range
range_more known more knows (steps.SetFlag f t) range = range
range_more known more knows (steps.Select t c a b) range = range
range_more known more knows (steps.Load t a size place) range = range
range_more known more knows (steps.Store a v size place) range = range
range_more known more knows (steps.Rmw op t a v size place) range = range
range_more known more knows (steps.Cas t a e v size place) range = range
range_more known more knows (steps.Fence f) range = range
range_more known more knows steps.Input range = range
range_more known more knows steps.Output range = range
range_more known more knows (steps.TrapIf t kind) range = range

choice_more : (b : Bool) (k known more : Known) → (known ≡ Unset) ⊎ (more ≡ known) → ((if b then k else known) ≡ Unset) ⊎ ((if b then k else more) ≡ (if b then k else known))
choice_more true k known more knows = inr refl
choice_more false k known more knows = knows

know_more : (o : Option ℕ) (k : Known) (known more : ℕ → Known) → KnowsMore known more → KnowsMore (know o k known) (know o k more)
know_more None k known more knows t = knows t
know_more (Some n) k known more knows t = choice_more (t == n) k (known t) (more t) (knows t)

learn_more : (known more : ℕ → Known) → KnowsMore known more → (x : IrStep) → KnowsMore (learn x known) (learn x more)
learn_more known more knows (steps.Const t v) = know_more (Some t.0) (Constant v) known more knows
learn_more known more knows (steps.GetReg t r) = know_more (Some t.0) Set known more knows
learn_more known more knows (steps.SetReg r t) = know_more None Set known more knows
learn_more known more knows (steps.GetFlag t f) = know_more (Some t.0) Set known more knows
learn_more known more knows (steps.SetFlag f t) = know_more None Set known more knows
learn_more known more knows (steps.Op op t a b) = know_more (Some t.0) Set known more knows
learn_more known more knows (steps.Select t c a b) = know_more (Some t.0) Set known more knows
learn_more known more knows (steps.Load t a size place) = know_more (Some t.0) Set known more knows
learn_more known more knows (steps.Store a v size place) = know_more None Set known more knows
learn_more known more knows (steps.Rmw op t a v size place) = know_more (Some t.0) Set known more knows
learn_more known more knows (steps.Cas t a e v size place) = know_more (Some t.0) Set known more knows
learn_more known more knows (steps.Fence f) = know_more None Set known more knows
learn_more known more knows steps.Input = know_more None Set known more knows
learn_more known more knows steps.Output = know_more None Set known more knows
learn_more known more knows (steps.TrapIf t kind) = know_more None Set known more knows

-- steps that are well made, and behind them steps that are well made whatever is known before
well_then : (xs ys : List IrStep) (first end : IrEnd) (known more : ℕ → Known) → KnowsMore known more → IsWell first known xs → ((all : ℕ → Known) → IsWell end all ys) → IsWell end more (xs ++ ys)
well_then [] ys first end known more knows well later = later more
well_then (x ∷ xs) ys first end known more knows well later =
    (sets_more known more knows (step_reads x) well.0, range_more known more knows x well.1, well_then xs ys first end (learn x known) (learn x more) (learn_more known more knows x) well.2 later)

knows_all : (all : ℕ → Known) → KnowsMore (λ t. Unset) all
knows_all all t = inl refl

-- well made, whatever is known before
well_anyway : (xs : List IrStep) (end : IrEnd) (known more : ℕ → Known) → KnowsMore known more → IsWell end known xs → IsWell end more xs
well_anyway [] end known more knows well = (sets_more known more knows (end_reads end) well.0, well.1)
well_anyway (x ∷ xs) end known more knows well =
    (sets_more known more knows (step_reads x) well.0, range_more known more knows x well.1, well_anyway xs end (learn x known) (learn x more) (learn_more known more knows x) well.2)

-- ---- what steps read they set

among_set : (known : ℕ → Known) (ts : List ℕ) (t : ℕ) → AllByRecursion (λ u. IsSet (known u)) ts → Contains ts t → IsSet (known t)
among_set known ts t all (n, low, same) = at ts n all low same
  where
    at : (ts : List ℕ) (n : ℕ) → AllByRecursion (λ u. IsSet (known u)) ts → n < length ts → slice_index_or ts n t ≡ t → IsSet (known t)
    at [] n all low same = absurd (omega (arith, low))
    at (u ∷ us) zero all low same = subst (λ v. IsSet (known v)) same all.0
    at (u ∷ us) (suc n) all low same = at us n all.1 (omega (arith, low)) same

learned_set : (u : ℕ) (known : ℕ → Known) (t : ℕ) → IsSet (know (Some u) Set known t) → IsSet (known t) ⊎ (Some u ≡ Some t)
learned_set u known t set = by_test (t == u) refl set
  where
    by_test : (b : Bool) → (t == u) ≡ b → IsSet (if b then Set else known t) → IsSet (known t) ⊎ (Some u ≡ Some t)
    by_test true e h = let same : t ≡ u = grind (arith, nat_tests) in inr (ap Some (sym same))
    by_test false e h = inl h

learned : (x : IrStep) (known : ℕ → Known) (t : ℕ) → IsSet (learn x known t) → IsSet (known t) ⊎ (step_sets x ≡ Some t)
learned (steps.Const u v) known t set = by_test (t == u.0) refl set
  where
    by_test : (b : Bool) → (t == u.0) ≡ b → IsSet (if b then Constant v else known t) → IsSet (known t) ⊎ (Some u.0 ≡ Some t)
    by_test true e h = let same : t ≡ u.0 = grind (arith, nat_tests) in inr (ap Some (sym same))
    by_test false e h = inl h
learned (steps.GetReg u r) known t set = learned_set u.0 known t set
learned (steps.SetReg r u) known t set = inl set
learned (steps.GetFlag u f) known t set = learned_set u.0 known t set
learned (steps.SetFlag f u) known t set = inl set
learned (steps.Op op u a b) known t set = learned_set u.0 known t set
learned (steps.Select u c a b) known t set = learned_set u.0 known t set
learned (steps.Load u a size place) known t set = learned_set u.0 known t set
learned (steps.Store a v size place) known t set = inl set
learned (steps.Rmw op u a v size place) known t set = learned_set u.0 known t set
learned (steps.Cas u a e v size place) known t set = learned_set u.0 known t set
learned (steps.Fence f) known t set = inl set
learned steps.Input known t set = inl set
learned steps.Output known t set = inl set
learned (steps.TrapIf u kind) known t set = inl set

read_set : (end : IrEnd) (known : ℕ → Known) (xs : List IrStep) (t : ℕ) → IsWell end known xs → IsRead end xs t → IsSet (known t) ⊎ IsSetIn xs t
read_set end known [] t well read = inl (among_set known (end_reads end) t well.0 read)
read_set end known (x ∷ xs) t well (inl read) = inl (among_set known (step_reads x) t well.0 read)
read_set end known (x ∷ xs) t well (inr read) = by (read_set end (learn x known) xs t well.2 read)
  where
    first_or : IsSet (known t) ⊎ (step_sets x ≡ Some t) → IsSet (known t) ⊎ IsSetIn (x ∷ xs) t
    first_or (inl h) = inl h
    first_or (inr h) = inr (inl h)

    by : IsSet (learn x known t) ⊎ IsSetIn xs t → IsSet (known t) ⊎ IsSetIn (x ∷ xs) t
    by (inl h) = first_or (learned x known t h)
    by (inr h) = inr (inr h)

-- what a well-made block reads it sets
reads_own : (end : IrEnd) (xs : List IrStep) (t : ℕ) → IsWellMade xs end → IsRead end xs t → IsSetIn xs t
reads_own end xs t well read = by (read_set end (λ t. Unset) xs t well read)
  where
    by : ⊥ ⊎ IsSetIn xs t → IsSetIn xs t
    by (inl h) = absurd h
    by (inr h) = h

-- ---- steps one behind the other

set_either : (xs ys : List IrStep) (t : ℕ) → IsSetIn (xs ++ ys) t → IsSetIn xs t ⊎ IsSetIn ys t
set_either [] ys t set = inr set
set_either (x ∷ xs) ys t (inl h) = inl (inl h)
set_either (x ∷ xs) ys t (inr h) = by (set_either xs ys t h)
  where
    by : IsSetIn xs t ⊎ IsSetIn ys t → IsSetIn (x ∷ xs) t ⊎ IsSetIn ys t
    by (inl h) = inl (inr h)
    by (inr h) = inr h

read_either : (first end : IrEnd) (xs ys : List IrStep) (t : ℕ) → IsRead end (xs ++ ys) t → IsRead first xs t ⊎ IsRead end ys t
read_either first end [] ys t read = inr read
read_either first end (x ∷ xs) ys t (inl h) = inl (inl h)
read_either first end (x ∷ xs) ys t (inr h) = by (read_either first end xs ys t h)
  where
    by : IsRead first xs t ⊎ IsRead end ys t → IsRead first (x ∷ xs) t ⊎ IsRead end ys t
    by (inl h) = inl (inr h)
    by (inr h) = inr h

once_then : (xs ys : List IrStep) → SetsOnce xs → SetsOnce ys → ((t : ℕ) → IsSetIn xs t → IsSetIn ys t → ⊥) → SetsOnce (xs ++ ys)
once_then [] ys one two apart = two
once_then (x ∷ xs) ys one two apart = ((λ t set later. by t set (set_either xs ys t later)), once_then xs ys one.1 two (λ t set later. apart t (inr set) later))
  where
    by : (t : ℕ) → step_sets x ≡ Some t → IsSetIn xs t ⊎ IsSetIn ys t → ⊥
    by t set (inl h) = one.0 t set h
    by t set (inr h) = apart t (inl set) h

-- where a step of two lists is: in the first or in the second
data Lies (xs ys before : List IrStep) (x : IrStep) (behind : List IrStep) : Type 0 where
  in-first : (rest : List IrStep) → xs ≡ before ++ x ∷ rest → behind ≡ rest ++ ys → Lies xs ys before x behind
  in-second : (rest : List IrStep) → before ≡ xs ++ rest → ys ≡ rest ++ x ∷ behind → Lies xs ys before x behind

lies : (xs ys before : List IrStep) (x : IrStep) (behind : List IrStep) → xs ++ ys ≡ before ++ x ∷ behind → Lies xs ys before x behind
lies [] ys before x behind same = in-second before refl same
lies (y ∷ xs) ys [] x behind same = in-first xs (ap (λ z. z ∷ xs) (head_is same)) (sym (tail_is same))
  where
    head_is : {a b : IrStep} {cs bs : List IrStep} → (a ∷ cs) ≡ (b ∷ bs) → a ≡ b
    head_is e = cc

    tail_is : {a b : IrStep} {cs bs : List IrStep} → (a ∷ cs) ≡ (b ∷ bs) → cs ≡ bs
    tail_is e = cc
lies (y ∷ xs) ys (b ∷ before) x behind same = deeper (heads same) (lies xs ys before x behind (tails same))
  where
    heads : {a c : IrStep} {cs bs : List IrStep} → (a ∷ cs) ≡ (c ∷ bs) → a ≡ c
    heads e = cc

    tails : {a c : IrStep} {cs bs : List IrStep} → (a ∷ cs) ≡ (c ∷ bs) → cs ≡ bs
    tails e = cc

    deeper : y ≡ b → Lies xs ys before x behind → Lies (y ∷ xs) ys (b ∷ before) x behind
    deeper e (in-first rest parts behind_is) = in-first rest (ap (λ l. y ∷ l) parts ∙ ap (λ z. z ∷ (before ++ x ∷ rest)) e) behind_is
    deeper e (in-second rest before_is parts) = in-second rest (ap (λ l. b ∷ l) before_is ∙ ap (λ z. z ∷ (xs ++ rest)) (sym e)) parts

all_into : {P Q : ℕ → Type 0} → ((t : ℕ) → P t → Q t) → (ts : List ℕ) → AllByRecursion P ts → AllByRecursion Q ts
all_into into [] all = tt
all_into into (t ∷ ts) all = (into t all.0, all_into into ts all.1)

module _ (xs ys : List IrStep) (first end : IrEnd) (one : IsSelectable xs first) (two : IsSelectable ys end) (apart : (t : ℕ) → IsSetIn xs t → IsSetIn ys t → ⊥) where
  -- what is live at a step of the first list is live there without the second
  live_first : (before : List IrStep) (x : IrStep) (rest : List IrStep) → xs ≡ before ++ x ∷ rest → (t : ℕ) → IsLiveAt end before x (rest ++ ys) t → IsLiveAt first before x rest t
  live_first before x rest parts t (set, used) = (set, by used)
    where
      here : IsSetIn before t ⊎ (step_sets x ≡ Some t) → IsSetIn xs t
      here h = subst (λ l. IsSetIn l t) (sym parts) (set_in h)
        where
          in_behind : (bs : List IrStep) → IsSetIn bs t → IsSetIn (bs ++ x ∷ rest) t
          in_behind [] h = elim h [ ]
          in_behind (b ∷ bs) (inl h) = inl h
          in_behind (b ∷ bs) (inr h) = inr (in_behind bs h)

          at_step : (bs : List IrStep) → step_sets x ≡ Some t → IsSetIn (bs ++ x ∷ rest) t
          at_step [] h = inl h
          at_step (b ∷ bs) h = inr (at_step bs h)

          set_in : IsSetIn before t ⊎ (step_sets x ≡ Some t) → IsSetIn (before ++ x ∷ rest) t
          set_in (inl h) = in_behind before h
          set_in (inr h) = at_step before h

      read : IsRead first (x ∷ rest) t ⊎ IsRead end ys t → (step_sets x ≡ Some t) ⊎ IsRead first (x ∷ rest) t
      read (inl h) = inr h
      read (inr h) = absurd (apart t (here set) (reads_own end ys t two.well h))

      by : (step_sets x ≡ Some t) ⊎ IsRead end (x ∷ (rest ++ ys)) t → (step_sets x ≡ Some t) ⊎ IsRead first (x ∷ rest) t
      by (inl h) = inl h
      by (inr h) = read (read_either first end (x ∷ rest) ys t h)

  -- what is live at a step of the second list is live there without the first
  live_second : (rest : List IrStep) (x : IrStep) (behind : List IrStep) → ys ≡ rest ++ x ∷ behind → (t : ℕ) → IsLiveAt end (xs ++ rest) x behind t → IsLiveAt end rest x behind t
  live_second rest x behind parts t (set, used) = (by set, used)
    where
      read_in : (bs : List IrStep) → IsRead end (x ∷ behind) t → IsRead end (bs ++ x ∷ behind) t
      read_in [] h = h
      read_in (b ∷ bs) h = inr (read_in bs h)

      needed : IsSetIn xs t → (step_sets x ≡ Some t) ⊎ IsRead end (x ∷ behind) t → IsSetIn rest t ⊎ (step_sets x ≡ Some t)
      needed there (inl h) = inr h
      needed there (inr h) = absurd (apart t there (reads_own end ys t two.well (subst (λ l. IsRead end l t) (sym parts) (read_in rest h))))

      before_it : IsSetIn xs t ⊎ IsSetIn rest t → IsSetIn rest t ⊎ (step_sets x ≡ Some t)
      before_it (inl h) = needed h used
      before_it (inr h) = inl h

      by : IsSetIn (xs ++ rest) t ⊎ (step_sets x ≡ Some t) → IsSetIn rest t ⊎ (step_sets x ≡ Some t)
      by (inl h) = before_it (set_either xs rest t h)
      by (inr h) = inr h

  few_then : LiveAtMost 6 end (xs ++ ys)
  few_then before x behind same ts distinct all = at (lies xs ys before x behind same)
    where
      at : Lies xs ys before x behind → length ts ≤ 6
      at (in-first rest parts behind_is) =
          one.few before x rest parts ts distinct
          (all_into (λ t live. live_first before x rest parts t live) ts (subst (λ l. AllByRecursion (IsLiveAt end before x l) ts) behind_is all))
      at (in-second rest before_is parts) =
          two.few rest x behind parts ts distinct
          (all_into (λ t live. live_second rest x behind parts t live) ts (subst (λ l. AllByRecursion (IsLiveAt end l x behind) ts) before_is all))

  small_then : (t : ℕ) → IsSetIn (xs ++ ys) t → t < 2 ^ 25
  small_then t set = by (set_either xs ys t set)
    where
      by : IsSetIn xs t ⊎ IsSetIn ys t → t < 2 ^ 25
      by (inl h) = one.small t h
      by (inr h) = two.small t h

  selectable_then : IsSelectable (xs ++ ys) end
  selectable_then = record {
    well = well_then xs ys first end (λ t. Unset) (λ t. Unset) (knows_all (λ t. Unset)) one.well (λ all. well_anyway ys end (λ t. Unset) all (knows_all all) two.well);
    once = once_then xs ys one.once two.once apart;
    small = small_then;
    few = few_then;
  }

-- ---- a block

-- all temporaries that steps set are from a number on
sets_above : (temps : ℕ) (ps : List Placed) (steps : List IrStep) → AreStepsFrom temps ps steps → (t : ℕ) → IsSetIn steps t → temps ≤ t
sets_above temps [] steps none t set = absurd (subst (λ l. IsSetIn l t) none set)
sets_above temps (p ∷ ps) steps (here, later, same, one, rest) t set =
    by (λ h. sets_above (temps + 256) ps later rest t h) (set_either here later t (subst (λ l. IsSetIn l t) same set))
  where
    further : temps + 256 ≤ t → temps ≤ t
    further le = omega (arith, le)

    by : (IsSetIn later t → temps + 256 ≤ t) → IsSetIn here t ⊎ IsSetIn later t → temps ≤ t
    by above (inl h) = (one.own t h).0
    by above (inr h) = further (above h)

-- the steps of a block may be selected
pub block_selectable : (p : Placed) (ps : List Placed) (temps : ℕ) (steps : List IrStep) → AreStepsFrom temps (p ∷ ps) steps → IsSelectable steps (end_from temps (p ∷ ps))
block_selectable p [] temps steps (here, later, same, one, none) =
    let alone : steps ≡ here = same ∙ ap (λ l. here ++ l) none ∙ append-nil here in
    subst (λ l. IsSelectable l (end_of p temps)) (sym alone) one.selectable
block_selectable p (q ∷ ps) temps steps (here, later, same, one, rest) =
    let apart : (t : ℕ) → IsSetIn here t → IsSetIn later t → ⊥ = λ t set again. omega (arith, (one.own t set).1, sets_above (temps + 256) (q ∷ ps) later rest t again) in
    subst (λ l. IsSelectable l (end_from temps (p ∷ q ∷ ps))) (sym same)
    (selectable_then here later (end_of p temps) (end_from (temps + 256) (q ∷ ps)) one.selectable (block_selectable q ps (temps + 256) later rest) apart)

-- they have no more words than the instructions have at most
pub block_few : (ps : List Placed) (temps : ℕ) (steps : List IrStep) → AreStepsFrom temps ps steps → cost_of fenced_cost steps ≤ sum_by most_words ps
block_few [] temps steps none = let zero_cost : cost_of fenced_cost steps ≡ 0 = ap (cost_of fenced_cost) none in omega (arith, zero_cost)
block_few (p ∷ ps) temps steps (here, later, same, one, rest) =
    let parts : cost_of fenced_cost steps ≡ cost_of fenced_cost here + cost_of fenced_cost later = ap (cost_of fenced_cost) same ∙ cost_of-append fenced_cost here later in
    let words = sum_by-cons most_words p ps in
    omega (arith, parts, words, one.few, block_few ps (temps + 256) later rest)

-- one instruction more, behind the others
pub steps_snoc : (ps : List Placed) (q : Placed) (temps : ℕ) (xs ys : List IrStep) → AreStepsFrom temps ps xs → AreStepsOf q (temps + 256 * length ps) ys → AreStepsFrom temps (ps ++ q ∷ []) (xs ++ ys)
steps_snoc [] q temps xs ys none one =
    let base : temps + 256 * 0 ≡ temps = omega arith in
    (ys, [], ap (λ l. l ++ ys) none ∙ sym (append-nil ys), subst (λ b. AreStepsOf q b ys) base one, refl)
steps_snoc (p ∷ ps) q temps xs ys (here, later, same, first, rest) one =
    let base : temps + 256 * length (p ∷ ps) ≡ temps + 256 + 256 * length ps = omega arith in
    (here, later ++ ys, ap (λ l. l ++ ys) same ∙ append_assoc here later ys, first, steps_snoc ps q (temps + 256) later ys rest (subst (λ b. AreStepsOf q b ys) base one))

-- the block ends as its last instruction
pub ends_as_last : (ps : List Placed) (temps k : ℕ) (q : Placed) → slice_index_or ps k q ≡ q → suc k ≡ length ps → end_from temps ps ≡ end_of q (temps + 256 * k)
ends_as_last [] temps k q there long = absurd (omega (arith, long))
ends_as_last (p ∷ []) temps k q there long =
    let none : k ≡ 0 = omega (arith, long) in
    let same : p ≡ q = subst (λ j. slice_index_or (p ∷ []) j q ≡ q) none there in
    let base : temps ≡ temps + 256 * k = omega (arith, none) in
    ap (λ r. end_of r temps) same ∙ ap (end_of q) base
ends_as_last (p ∷ r ∷ ps) temps zero q there long = absurd (omega (arith, long))
ends_as_last (p ∷ r ∷ ps) temps (suc k) q there long =
    let base : temps + 256 + 256 * k ≡ temps + 256 * suc k = omega arith in
    ends_as_last (r ∷ ps) (temps + 256) k q there (omega (arith, long)) ∙ ap (end_of q) base

-- the steps of one instruction more of the line
pub steps_next : (ps : List Placed) (k temps : ℕ) (d : Placed) (xs ys zs : List IrStep) → k < length ps → temps ≡ 256 * k → AreStepsFrom 0 (take k ps) xs
    → AreStepsOf (slice_index_or ps k d) temps ys → zs ≡ xs ++ ys → AreStepsFrom 0 (take (k + 1) ps) zs
steps_next ps k temps d xs ys zs low numbered before one more =
    let long : length (take k ps) ≡ k = length-take-le k ps (omega (arith, low)) in
    let base : temps ≡ 0 + 256 * length (take k ps) = omega (arith, numbered, long) in
    subst (λ l. AreStepsFrom 0 l zs) (sym (take_more ps k d low))
    (subst (AreStepsFrom 0 (take k ps ++ slice_index_or ps k d ∷ [])) (sym more) (steps_snoc (take k ps) (slice_index_or ps k d) 0 xs ys before (subst (λ b. AreStepsOf (slice_index_or ps k d) b ys) base one)))
