-- A block whose steps set temporaries in rising order, none of them above 5, has at most six of them live. Tests rest on this.
use Rattle.std.proofs.Common.{◌≡◌, ◌⊎◌, ℕ, suc, ◌<◌, ◌≤◌, Bool, true, false, List, [], ◌∷◌, ◌++◌, Option, Some, None, inl, inr, refl, sym, subst, arith}
use Rattle.std.specs.Prelude.{eqb, ◌||◌}
use Rattle.std.specs.List.{AllByRecursion, list_any}
use Rattle.std.proofs.lemmas.Bool.{eqb-true}
use Rattle.std.proofs.lemmas.Map.Steps.{length-le_from_distinct_below}
use Rattle.limm_ir.specs.Conditions.{IsSetIn, SetsOnce, IsWellMade, IsSelectable, IsLiveAt, LiveAtMost, step_sets}
use Rattle.limm_ir.specs.declared.block.IrEnd.{IrEnd}
use Rattle.limm_ir.specs.declared.step.IrStep.{IrStep}
use Rattle.isel.proofs.Uses.{some_same, none_some}

-- what a step sets is not below the one number, and below the other
abbrev InTurn : (low high : ℕ) → Option ℕ → Type 0
InTurn low high None = Unit {0}
InTurn low high (Some t) = (low ≤ t) × (t < high)

-- the least number that may be set behind it
abbrev next : ℕ → Option ℕ → ℕ
next low None = low
next low (Some t) = suc t

-- steps set temporaries in rising order
abbrev pub Rising : (low high : ℕ) → List IrStep → Type 0
Rising low high [] = Unit {0}
Rising low high (x ∷ xs) = InTurn low high (step_sets x) × Rising (next low (step_sets x)) high xs

-- what is set in turn lies between the two
in_turn : (low high t : ℕ) (one : Option ℕ) → InTurn low high one → one ≡ Some t → (low ≤ t) × (t < high)
in_turn low high t None turn e = absurd (none_some t e)
in_turn low high t (Some u) turn e = subst (λ n. (low ≤ n) × (n < high)) (some_same u t e) turn

-- what is not below the next number is not below this one
at_least : (low high t : ℕ) (one : Option ℕ) → InTurn low high one → next low one ≤ t → low ≤ t
at_least low high t None turn le = le
at_least low high t (Some u) turn le = omega (arith, turn.0, le)

-- what is set lies between the two
rising_sets : (low high : ℕ) (xs : List IrStep) → Rising low high xs → (t : ℕ) → IsSetIn xs t → (low ≤ t) × (t < high)
rising_sets low high [] rising t h = elim h [ ]
rising_sets low high (x ∷ xs) rising t (inl e) = in_turn low high t (step_sets x) rising.0 e
rising_sets low high (x ∷ xs) rising t (inr h) =
    let r = rising_sets (next low (step_sets x)) high xs rising.1 t h in
    (at_least low high t (step_sets x) rising.0 r.0, r.1)

-- and is set once
rising_once : (low high : ℕ) (xs : List IrStep) → Rising low high xs → SetsOnce xs
rising_once low high [] rising = tt
rising_once low high (x ∷ xs) rising =
    ((λ t e again. beyond t (step_sets x) e (rising_sets (next low (step_sets x)) high xs rising.1 t again).0), rising_once (next low (step_sets x)) high xs rising.1)
  where
    beyond : (t : ℕ) (one : Option ℕ) → one ≡ Some t → next low one ≤ t → ⊥
    beyond t None e le = none_some t e
    beyond t (Some u) e le = absurd (omega (arith, some_same u t e, le))

-- what is set up to a step is set in the block
set_before : (front : List IrStep) (x : IrStep) (back : List IrStep) (t : ℕ) → IsSetIn front t ⊎ (step_sets x ≡ Some t) → IsSetIn (front ++ x ∷ back) t
set_before [] x back t (inl h) = elim h [ ]
set_before [] x back t (inr e) = inl e
set_before (y ∷ front) x back t (inl (inl e)) = inl e
set_before (y ∷ front) x back t (inl (inr h)) = inr (set_before front x back t (inl h))
set_before (y ∷ front) x back t (inr e) = inr (set_before front x back t (inr e))

-- a number that is found among others is below what they are below
found_below : (high : ℕ) (ts : List ℕ) → AllByRecursion (λ t. t < high) ts → (q : ℕ) → list_any (eqb q) ts ≡ true → q < high
found_below high [] below q found = cc
found_below high (t ∷ ts) below q found = by (eqb q t) refl found (λ rest. found_below high ts below.1 q rest)
  where
    by : (b : Bool) → eqb q t ≡ b → (b || list_any (eqb q) ts) ≡ true → (list_any (eqb q) ts ≡ true → q < high) → q < high
    by true e found later = omega (arith, eqb-true q t e, below.0)
    by false e found later = later found

-- as many temporaries are live at most
rising_few : (end : IrEnd) (high : ℕ) (xs : List IrStep) → Rising 0 high xs → LiveAtMost high end xs
rising_few end high xs rising before x behind split ts distinct live = length-le_from_distinct_below ts high distinct (found_below high ts (all_below ts live))
  where
    all_below : (ts : List ℕ) → AllByRecursion (IsLiveAt end before x behind) ts → AllByRecursion (λ t. t < high) ts
    all_below [] live = tt
    all_below (t ∷ ts) live = ((rising_sets 0 high xs rising t (subst (λ l. IsSetIn l t) (sym split) (set_before before x behind t live.0.0))).1, all_below ts live.1)

-- such a block may be selected where it is well made
pub rising_selectable : (xs : List IrStep) (end : IrEnd) → IsWellMade xs end → Rising 0 6 xs → IsSelectable xs end
rising_selectable xs end well rising = record {
  well = well;
  once = rising_once 0 6 xs rising;
  small = λ t h. omega (arith, (rising_sets 0 6 xs rising t h).1);
  few = rising_few end 6 xs rising;
}
