-- Steps that set their own temporaries in order, cost little and have few live: one predicate on lists of steps, and what it says
-- of a block.
use Rattle.std.proofs.Common.{◌≡◌, ℕ, zero, suc, ◌+◌, ◌<◌, ◌≤◌, ◌==◌, Bool, true, false, eqb, List, [], ◌∷◌, ◌++◌, length, Option, Some, None, slice_index_or, refl, sym, ap, ◌∙◌, subst, inl, inr, ◌⊎◌, arith}
use Rattle.std.specs.Prelude.{if◌then◌else◌}
use Rattle.std.specs.List.{AllByRecursion, IsDistinct}
use Rattle.std.proofs.lemmas.Bool.{cases_lt}
use Rattle.std.proofs.lemmas.Bool.Decides.{nat_tests}
use Rattle.std.proofs.lemmas.Map.Keys.{IsDistinct-head, IsDistinct-tail}
use Rattle.limm_ir.specs.Conditions.{step_reads, step_sets, end_reads, Known, Set, Constant, IsSet, know, learn, IsExtended, HasConstant, InRange, IsEndInRange, IsWell, IsSetIn, SetsOnce, IsRead, LiveAtMost}
use Rattle.limm_ir.specs.Costs.{op_cost, number_cost, fenced_cost, cost_of}
use Rattle.limm_ir.specs.declared.block.IrEnd.{IrEnd}
use Rattle.limm_ir.specs.declared.step.IrOp.{IrOp}
use Rattle.limm_ir.specs.declared.step.IrOp.TheVariants.{ZeroExt, SignExt}
use Rattle.limm_ir.specs.declared.step.IrStep.{IrStep}
use Rattle.limm_ir.specs.declared.step.IrStep.TheVariants as steps
use Rattle.lift_alu.specs.Formulas.{temp}

-- t is one of the temporaries
abbrev pub Among : List ℕ → ℕ → Type 0
Among [] t = ⊥
Among (x ∷ xs) t = (t ≡ x) ⊎ Among xs t

-- Only temporaries of `live` are read that were set before. The steps set the temporaries from `next` on, one after the other, and
-- cost at most `most`. At each step at most six temporaries are live.
pub data Tame (end : IrEnd) : (live : List ℕ) → (next most : ℕ) → List IrStep → Type 0 where
  ended : {live : List ℕ} {next most : ℕ} → AllByRecursion (Among live) (end_reads end) → IsEndInRange end → Tame end live next most []
  -- some of the temporaries are not read any more
  dropped : {live fewer : List ℕ} {next most : ℕ} {xs : List IrStep} → ((t : ℕ) → Among fewer t → Among live t) → Tame end fewer next most xs → Tame end live next most xs
  -- a step sets the next temporary
  setting : {live : List ℕ} {next most left : ℕ} {x : IrStep} {xs : List IrStep} → step_sets x ≡ Some next → AllByRecursion (Among live) (step_reads x)
      → ((known : ℕ → Known) → InRange known x) → length live ≤ 5 → suc left ≤ most → fenced_cost x + left ≤ most → Tame end (next ∷ live) (suc next) left xs
      → Tame end live next most (x ∷ xs)
  -- an extension, and before it the number of bytes that it takes
  extending : {live : List ℕ} {next most left : ℕ} {op : IrOp} {a v : ℕ} {xs : List IrStep} → Among live a → IsExtended (Constant v) → length live ≤ 4
      → suc (suc left) ≤ most → number_cost v + (op_cost op + left) ≤ most → Tame end (suc next ∷ live) (suc (suc next)) left xs
      → Tame end live next most (steps.Const (temp next) v ∷ steps.Op op (temp (suc next)) (temp a) (temp next) ∷ xs)
  -- a step sets no temporary
  acting : {live : List ℕ} {next most left : ℕ} {x : IrStep} {xs : List IrStep} → step_sets x ≡ None → AllByRecursion (Among live) (step_reads x)
      → ((known : ℕ → Known) → InRange known x) → length live ≤ 6 → fenced_cost x + left ≤ most → Tame end live next left xs
      → Tame end live next most (x ∷ xs)

-- what two options hold that are the same
some_same : {a b : ℕ} → Some a ≡ Some b → a ≡ b
some_same same = cc

-- what an extension takes is in range for any operation
has_constant : (op : IrOp) (k : Known) → IsExtended k → HasConstant op k
has_constant ZeroExt k is = is
has_constant SignExt k is = is
has_constant op k is = tt

-- ---- costs

-- the steps cost at most so much
pub tame_cost : {end : IrEnd} {live : List ℕ} {next most : ℕ} {xs : List IrStep} → Tame end live next most xs → cost_of fenced_cost xs ≤ most
tame_cost (ended reads range) = omega arith
tame_cost (dropped fewer rest) = tame_cost rest
tame_cost (setting sets reads range few more cost rest) = omega (arith, cost, tame_cost rest)
tame_cost (extending among extended few more cost rest) = omega (arith, cost, tame_cost rest)
tame_cost (acting none reads range few cost rest) = omega (arith, cost, tame_cost rest)

-- steps that cost so much cost at most more
pub tame_more : {end : IrEnd} {live : List ℕ} {next least most : ℕ} {xs : List IrStep} → least ≤ most → Tame end live next least xs → Tame end live next most xs
tame_more le (ended reads range) = ended reads range
tame_more le (dropped fewer rest) = dropped fewer (tame_more le rest)
tame_more le (setting sets reads range few more cost rest) = setting sets reads range few (omega (arith, le, more)) (omega (arith, le, cost)) rest
tame_more le (extending among extended few more cost rest) = extending among extended few (omega (arith, le, more)) (omega (arith, le, cost)) rest
tame_more le (acting none reads range few cost rest) = acting none reads range few (omega (arith, le, cost)) rest

-- ---- the steps are well made

-- what is set stays set where a temporary is known to be otherwise
know_keeps : (o : Option ℕ) (k : Known) (known : ℕ → Known) (t : ℕ) → IsSet k → IsSet (known t) → IsSet (know o k known t)
know_keeps None k known t set was = was
know_keeps (Some n) k known t set was = either (t == n)
  where
    either : (b : Bool) → IsSet (if b then k else known t)
    either true = set
    either false = was

-- what is known of the temporary that is known to be otherwise
know_new : (P : Known → Type 0) (n : ℕ) (k : Known) (known : ℕ → Known) (t : ℕ) → t ≡ n → P k → P (know (Some n) k known t)
know_new P n k known t same holds = at (t == n) (grind (arith, nat_tests))
  where
    at : (b : Bool) → b ≡ true → P (if b then k else known t)
    at true is = holds
    at false is = absurd cc

-- what is set stays set behind a step
learn_keeps : (x : IrStep) (known : ℕ → Known) (t : ℕ) → IsSet (known t) → IsSet (learn x known t)
learn_keeps (steps.Const n v) known t was = know_keeps (Some n.0) (Constant v) known t tt was
learn_keeps x known t was = know_keeps (step_sets x) Set known t tt was

-- what a step sets is set
learn_new : (x : IrStep) (known : ℕ → Known) (n t : ℕ) → step_sets x ≡ Some n → t ≡ n → IsSet (learn x known t)
learn_new (steps.Const m v) known n t sets same = know_new IsSet m.0 (Constant v) known t (cc) tt
learn_new x known n t sets same = subst (λ o. IsSet (know o Set known t)) (sym sets) (know_new IsSet n Set known t same tt)

-- what follows from what holds of each
each : {P Q : ℕ → Type 0} (xs : List ℕ) → ((t : ℕ) → P t → Q t) → AllByRecursion P xs → AllByRecursion Q xs
each [] f all = tt
each (x ∷ xs) f all = (f x all.0, each xs f all.1)

-- behind a step that sets the next temporary, this one is set too
set_behind : (x : IrStep) (known : ℕ → Known) (live : List ℕ) (next : ℕ) → step_sets x ≡ Some next → ((t : ℕ) → Among live t → IsSet (known t)) → (t : ℕ)
    → Among (next ∷ live) t → IsSet (learn x known t)
set_behind x known live next sets are t (inl same) = learn_new x known next t sets same
set_behind x known live next sets are t (inr in_live) = learn_keeps x known t (are t in_live)

-- the steps are well made, where all that may be read is set
pub tame_well : {end : IrEnd} {live : List ℕ} {next most : ℕ} {xs : List IrStep} → Tame end live next most xs → (known : ℕ → Known)
    → ((t : ℕ) → Among live t → IsSet (known t)) → IsWell end known xs
tame_well (ended reads range) known are = (each _ are reads, range)
tame_well (dropped fewer rest) known are = tame_well rest known (λ t among. are t (fewer t among))
tame_well (setting {live = live} {next = next} {x = x} sets reads range few more cost rest) known are =
    (each _ are reads, range known, tame_well rest (learn x known) (set_behind x known live next sets are))
tame_well (extending {live = live} {next = next} {op = op} {a = a} {v = v} among extended few more cost rest) known are =
    let k = know (Some next) (Constant v) known in (
      tt,
      tt,
      (
        (know_keeps (Some next) (Constant v) known a tt (are a among), (know_new IsSet next (Constant v) known next refl tt, tt)),
        has_constant op (k next) (know_new IsExtended next (Constant v) known next refl extended),
        tame_well rest (know (Some (suc next)) Set k) (behind k (λ t in_live. know_keeps (Some next) (Constant v) known t tt (are t in_live))),
      ),
    )
  where
    behind : (k : ℕ → Known) → ((t : ℕ) → Among live t → IsSet (k t)) → (t : ℕ) → Among (suc next ∷ live) t → IsSet (know (Some (suc next)) Set k t)
    behind k are t (inl same) = know_new IsSet (suc next) Set k t same tt
    behind k are t (inr in_live) = know_keeps (Some (suc next)) Set k t tt (are t in_live)
tame_well (acting {x = x} none reads range few cost rest) known are = (each _ are reads, range known, tame_well rest (learn x known) (λ t among. learn_keeps x known t (are t among)))

-- ---- each temporary is set once

-- the temporaries that are set are no more than the steps may cost
pub tame_sets : {end : IrEnd} {live : List ℕ} {next most : ℕ} {xs : List IrStep} → Tame end live next most xs → (t : ℕ) → IsSetIn xs t → (next ≤ t) × (t < next + most)
tame_sets (ended reads range) t set = elim set [ ]
tame_sets (dropped fewer rest) t set = tame_sets rest t set
tame_sets (setting sets reads range few more cost rest) t (inl now) = let same : Some t ≡ Some _ = sym now ∙ sets in (omega (arith, some_same same), omega (arith, some_same same))
tame_sets (setting sets reads range few more cost rest) t (inr later) = let within = tame_sets rest t later in (omega (arith, within), omega (arith, within))
tame_sets (extending among extended few more cost rest) t (inl now) = (omega (arith, some_same now), omega (arith, some_same now))
tame_sets (extending among extended few more cost rest) t (inr (inl now)) = (omega (arith, some_same now), omega (arith, some_same now))
tame_sets (extending among extended few more cost rest) t (inr (inr later)) = let within = tame_sets rest t later in (omega (arith, within), omega (arith, within))
tame_sets (acting none reads range few cost rest) t (inl now) = absurd cc
tame_sets (acting none reads range few cost rest) t (inr later) = let within = tame_sets rest t later in (omega (arith, within), omega (arith, within))

-- none is set twice
pub tame_once : {end : IrEnd} {live : List ℕ} {next most : ℕ} {xs : List IrStep} → Tame end live next most xs → SetsOnce xs
tame_once (ended reads range) = tt
tame_once (dropped fewer rest) = tame_once rest
tame_once (setting sets reads range few more cost rest) = (λ t now later. absurd (omega (arith, tame_sets rest t later, some_same (sym now ∙ sets))), tame_once rest)
tame_once (extending {next = next} {xs = xs} among extended few more cost rest) =
    (λ t now later. absurd (once t (some_same now) later), (λ t now later. absurd (omega (arith, tame_sets rest t later, some_same now)), tame_once rest))
  where
    once : (t : ℕ) → next ≡ t → (Some (suc next) ≡ Some t) ⊎ IsSetIn xs t → ⊥
    once t same (inl twice) = omega (arith, same, some_same twice)
    once t same (inr later) = omega (arith, same, tame_sets rest t later)
tame_once (acting none reads range few cost rest) = (λ t now later. absurd cc, tame_once rest)

-- ---- six temporaries are live at most

-- what is in a list each of which is among some temporaries is one of these
contained : (live xs : List ℕ) (t : ℕ) → AllByRecursion (Among live) xs → (k : ℕ) → k < length xs → slice_index_or xs k t ≡ t → Among live t
contained live [] t all k below is = absurd (omega (arith, below))
contained live (x ∷ xs) t all zero below is = subst (Among live) is all.0
contained live (x ∷ xs) t all (suc k) below is = contained live xs t all.1 k (omega (arith, below)) is

-- a temporary that was set before, and is read from here on, is one of those that may be
tame_reads : {end : IrEnd} {live : List ℕ} {next most : ℕ} {xs : List IrStep} → Tame end live next most xs → (t : ℕ) → t < next → IsRead end xs t → Among live t
tame_reads {end = end} {live = live} (ended reads range) t before read = contained live (end_reads end) t reads read.0 read.1 read.2
tame_reads (dropped fewer rest) t before read = fewer t (tame_reads rest t before read)
tame_reads {live = live} (setting {x = x} sets reads range few more cost rest) t before (inl now) = contained live (step_reads x) t reads now.0 now.1 now.2
tame_reads {live = live} (setting {next = next} sets reads range few more cost rest) t before (inr later) = old (tame_reads rest t (omega (arith, before)) later)
  where
    old : Among (next ∷ live) t → Among live t
    old (inl same) = absurd (omega (arith, same, before))
    old (inr among) = among
tame_reads (extending among extended few more cost rest) t before (inl now) = absurd (omega (arith, now.1))
tame_reads {live = live} (extending {next = next} {a = a} among extended few more cost rest) t before (inr (inl now)) =
    old (contained (next ∷ live) (a ∷ next ∷ []) t (inr among, (inl refl, tt)) now.0 now.1 now.2)
  where
    old : Among (next ∷ live) t → Among live t
    old (inl same) = absurd (omega (arith, same, before))
    old (inr among) = among
tame_reads {live = live} (extending {next = next} among extended few more cost rest) t before (inr (inr later)) = old (tame_reads rest t (omega (arith, before)) later)
  where
    old : Among (suc next ∷ live) t → Among live t
    old (inl same) = absurd (omega (arith, same, before))
    old (inr among) = among
tame_reads {live = live} (acting {x = x} none reads range few cost rest) t before (inl now) = contained live (step_reads x) t reads now.0 now.1 now.2
tame_reads (acting none reads range few cost rest) t before (inr later) = tame_reads rest t before later

-- t was set before these steps, or is set by one of them up to x; and x sets it, or it is read from x on
abbrev LiveHere : IrEnd → (next : ℕ) → (before : List IrStep) → IrStep → (behind : List IrStep) → ℕ → Type 0
LiveHere end next before x behind t = ((t < next) ⊎ (IsSetIn before t ⊎ (step_sets x ≡ Some t))) × ((step_sets x ≡ Some t) ⊎ IsRead end (x ∷ behind) t)

-- those that are live at a step are among six temporaries
abbrev SixAt : IrEnd → (next : ℕ) → (before : List IrStep) → IrStep → (behind : List IrStep) → Type 0
SixAt end next before x behind = (six : List ℕ) × (length six ≤ 6) × ((t : ℕ) → LiveHere end next before x behind t → Among six t)

module _ (end : IrEnd) (x : IrStep) (behind : List IrStep) where
  -- at a step that sets a temporary, where the others that are read from it on and were set before are some of `live`
  at_setting : (live : List ℕ) (next : ℕ) → length live ≤ 5 → step_sets x ≡ Some next
      → ((t : ℕ) → t < next → IsRead end (x ∷ behind) t → Among live t) → SixAt end next [] x behind
  at_setting live next few sets reads = (next ∷ live, omega (arith, few), among)
    where
      among : (t : ℕ) → LiveHere end next [] x behind t → Among (next ∷ live) t
      among t (old, inl now) = inl (some_same (sym now ∙ sets))
      among t (inl old, inr read) = inr (reads t old read)
      among t (inr (inl none), inr read) = elim none [ ]
      among t (inr (inr now), inr read) = inl (some_same (sym now ∙ sets))

  -- at a step that sets none
  at_acting : (live : List ℕ) (next : ℕ) → length live ≤ 6 → step_sets x ≡ None
      → ((t : ℕ) → t < next → IsRead end (x ∷ behind) t → Among live t) → SixAt end next [] x behind
  at_acting live next few none reads = (live, few, among)
    where
      among : (t : ℕ) → LiveHere end next [] x behind t → Among live t
      among t (old, inl now) = absurd cc
      among t (inl old, inr read) = reads t old read
      among t (inr (inl none_before), inr read) = elim none_before [ ]
      among t (inr (inr now), inr read) = absurd cc

  -- one step later, where it set the temporary `next` or none
  later : (y : IrStep) (before : List IrStep) (next after : ℕ) → next ≤ after → ((t : ℕ) → step_sets y ≡ Some t → t < after) → SixAt end after before x behind
      → SixAt end next (y ∷ before) x behind
  later y before next after le sets (six, few, among) = (six, few, λ t live. among t (moved t live.0, live.1))
    where
      moved : (t : ℕ) → (t < next) ⊎ ((step_sets y ≡ Some t) ⊎ IsSetIn before t) ⊎ (step_sets x ≡ Some t)
          → (t < after) ⊎ (IsSetIn before t ⊎ (step_sets x ≡ Some t))
      moved t (inl old) = inl (omega (arith, old, le))
      moved t (inr (inl (inl set))) = inl (sets t set)
      moved t (inr (inl (inr set))) = inr (inl set)
      moved t (inr (inr set)) = inr (inr set)

-- no step stands in no steps
nothing_there : (before : List IrStep) (x : IrStep) (behind : List IrStep) → [] ≡ before ++ x ∷ behind → ⊥
nothing_there [] x behind is = cc
nothing_there (y ∷ before) x behind is = cc

-- the first of the same steps, and the rest
same_head : {x y : IrStep} {xs ys : List IrStep} → x ∷ xs ≡ y ∷ ys → x ≡ y
same_head is = cc

same_tail : {x y : IrStep} {xs ys : List IrStep} → x ∷ xs ≡ y ∷ ys → xs ≡ ys
same_tail is = cc

-- what is live at a step is among six temporaries
tame_six : {end : IrEnd} {live : List ℕ} {next most : ℕ} {xs : List IrStep} → Tame end live next most xs → (before : List IrStep) (x : IrStep) (behind : List IrStep)
    → xs ≡ before ++ x ∷ behind
    → SixAt end next before x behind
tame_six (ended reads range) before x behind is = absurd (nothing_there before x behind is)
tame_six {end = end} {next = next} (dropped fewer rest) before x behind is = tame_six rest before x behind is
tame_six {end = end} {live = live} {next = next} (setting sets reads range few more cost rest) [] x behind is =
    at_setting end x behind live next few (subst (λ y. step_sets y ≡ Some next) (same_head is) sets)
    (λ t old read. tame_reads (setting sets reads range few more cost rest) t old (subst (λ ys. IsRead end ys t) (sym is) read))
tame_six {end = end} {next = next} (setting sets reads range few more cost rest) (y ∷ before) x behind is =
    later end x behind y before next (suc next) (omega arith) (λ t now. omega (arith, some_same (sym now ∙ subst (λ z. step_sets z ≡ Some next) (same_head is) sets)))
    (tame_six rest before x behind (same_tail is))
tame_six {end = end} {live = live} {next = next} (extending among extended few more cost rest) [] x behind is =
    at_setting end x behind live next (omega (arith, few)) (subst (λ y. step_sets y ≡ Some next) (same_head is) refl)
    (λ t old read. tame_reads (extending among extended few more cost rest) t old (subst (λ ys. IsRead end ys t) (sym is) read))
tame_six {end = end} {live = live} {next = next} (extending {op = op} {a = a} {xs = xs} among extended few more cost rest) (y ∷ []) x behind is =
    later end x behind y [] next (suc next) (omega arith) (λ t now. omega (arith, some_same (sym now ∙ subst (λ z. step_sets z ≡ Some next) (same_head is) refl)))
    (at_setting end x behind (next ∷ live) (suc next) (omega (arith, few)) (subst (λ y. step_sets y ≡ Some (suc next)) (same_head (same_tail is)) refl)
    (λ t old read. old_or_next t (cases_lt t next) old (subst (λ ys. IsRead end ys t) (sym (same_tail is)) read)))
  where
    old_or_next : (t : ℕ) → (t < next) ⊎ (next ≤ t) → t < suc next → IsRead end (steps.Op op (temp (suc next)) (temp a) (temp next) ∷ xs) t → Among (next ∷ live) t
    old_or_next t (inl old) before read = inr (tame_reads (extending among extended few more cost rest) t old (inr read))
    old_or_next t (inr le) before read = inl (omega (arith, le, before))
tame_six {end = end} {next = next} (extending among extended few more cost rest) (y ∷ z ∷ before) x behind is =
    later end x behind y (z ∷ before) next (suc next) (omega arith) (λ t now. omega (arith, some_same (sym now ∙ subst (λ w. step_sets w ≡ Some next) (same_head is) refl)))
    (later end x behind z before (suc next) (suc (suc next)) (omega arith)
    (λ t now. omega (arith, some_same (sym now ∙ subst (λ w. step_sets w ≡ Some (suc next)) (same_head (same_tail is)) refl)))
    (tame_six rest before x behind (same_tail (same_tail is))))
tame_six {end = end} {live = live} {next = next} (acting none reads range few cost rest) [] x behind is =
    at_acting end x behind live next few (subst (λ y. step_sets y ≡ None) (same_head is) none)
    (λ t old read. tame_reads (acting none reads range few cost rest) t old (subst (λ ys. IsRead end ys t) (sym is) read))
tame_six {end = end} {next = next} (acting none reads range few cost rest) (y ∷ before) x behind is =
    let sets_none : step_sets y ≡ None = subst (λ z. step_sets z ≡ None) (same_head is) none in
    later end x behind y before next next (omega arith) (λ t now. absurd cc) (tame_six rest before x behind (same_tail is))

-- ---- no more different temporaries than a list has

-- a list without one of its elements
without : (xs : List ℕ) (t : ℕ) → Among xs t → (ys : List ℕ) × (length xs ≡ suc (length ys)) × ((u : ℕ) → eqb t u ≡ false → Among xs u → Among ys u)
without [] t among = elim among [ ]
without (x ∷ xs) t (inl same) = (xs, refl, rest)
  where
    rest : (u : ℕ) → eqb t u ≡ false → Among (x ∷ xs) u → Among xs u
    rest u differs (inl also) = absurd (grind (arith, nat_tests))
    rest u differs (inr among) = among
without (x ∷ xs) t (inr among) = let (ys, count, rest) = without xs t among in (x ∷ ys, ap suc count, with_first ys rest)
  where
    with_first : (ys : List ℕ) → ((u : ℕ) → eqb t u ≡ false → Among xs u → Among ys u) → (u : ℕ) → eqb t u ≡ false → Among (x ∷ xs) u → Among (x ∷ ys) u
    with_first ys rest u differs (inl same) = inl same
    with_first ys rest u differs (inr among) = inr (rest u differs among)

-- those that differ from an element are among the others
all_without : (t : ℕ) (us xs ys : List ℕ) → ((u : ℕ) → eqb t u ≡ false → Among xs u → Among ys u) → AllByRecursion (λ u. eqb t u ≡ false) us
    → AllByRecursion (Among xs) us → AllByRecursion (Among ys) us
all_without t [] xs ys rest differ among = tt
all_without t (u ∷ us) xs ys rest differ among = (rest u differ.0 among.0, all_without t us xs ys rest differ.1 among.1)

-- different elements of a list are no more than it has
no_more : (ts xs : List ℕ) → IsDistinct eqb ts → AllByRecursion (Among xs) ts → length ts ≤ length xs
no_more [] xs distinct among = omega arith
no_more (t ∷ ts) xs distinct among =
    let (ys, count, rest) = without xs t among.0 in
    omega (arith, count, no_more ts ys (IsDistinct-tail eqb t ts distinct) (all_without t ts xs ys rest (IsDistinct-head eqb t ts distinct) among.1))

-- at each step at most six temporaries are live
pub tame_few : {end : IrEnd} {live : List ℕ} {next most : ℕ} {xs : List IrStep} → Tame end live next most xs → LiveAtMost 6 end xs
tame_few tame before x behind is ts distinct live =
    let (six, few, among) = tame_six tame before x behind is in
    omega (arith, few, no_more ts six distinct (each ts (λ t here. among t (inr here.0, here.1)) live))
