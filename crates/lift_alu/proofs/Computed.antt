-- The steps of a formula set temporaries of their own, the last of them to its value, and nothing else.
use Rattle.std.proofs.Common.{◌≡◌, ℕ, ◌+◌, ◌<◌, ◌≤◌, ◌==◌, List, [], ◌∷◌, ◌++◌, append_assoc, refl, ap, ◌∙◌, arith}
use Rattle.std.specs.Prelude.{if◌then◌else◌}
use Rattle.behavior.specs.Acts.{Bank, put, Permission}
use Rattle.behavior.proofs.Banks.{put_here, put_other}
use Rattle.limm_ir.specs.Costs.{no_cost}
use Rattle.limm_ir.specs.Values.{op_value}
use Rattle.limm_ir.specs.Steps.{IrState, ir_steps}
use Rattle.limm_ir.specs.declared.step.IrStep.{IrStep}
use Rattle.limm_ir.specs.declared.step.IrStep.TheVariants as steps
use Rattle.lift_alu.specs.Formulas.{Formula, Kept, Number, Register, Flag, Operation, Choice, temp, size, place, computes, value}

-- the temporaries behind the steps of a formula, where registers and flags are those of a state
abbrev pub temps_behind : (next : ℕ) → Formula → IrState → Bank → Bank
temps_behind next (Kept t) i temps = temps
temps_behind next (Number n) i temps = put next n temps
temps_behind next (Register r) i temps = put next (i.regs r) temps
temps_behind next (Flag f) i temps = put next (i.flags f) temps
temps_behind next (Operation op a b) i temps =
    let both = temps_behind (next + size a) b i (temps_behind next a i temps) in
    put (next + size a + size b) (op_value op (both (place next a)) (both (place (next + size a) b))) both
temps_behind next (Choice c a b) i temps =
    let all = temps_behind (next + size c + size a) b i (temps_behind (next + size c) a i (temps_behind next c i temps)) in
    put (next + size c + size a + size b)
    (if all (place next c) == 0 then all (place (next + size c + size a) b) else all (place (next + size c) a)) all

-- the state behind the steps of a formula
abbrev pub computed : (next : ℕ) → Formula → IrState → IrState
computed next e i = record i { temps = temps_behind next e i i.temps }

-- a state with other temporaries
abbrev with_temps : IrState → Bank → IrState
with_temps i temps = record i { temps = temps }

-- lists one behind the other, as they come from an operation
three-append : (a b c d : List IrStep) → (a ++ (b ++ c)) ++ d ≡ a ++ (b ++ (c ++ d))
three-append a b c d = simp append_assoc

-- and from a choice
four-append : (a b c d e : List IrStep) → (a ++ (b ++ (c ++ d))) ++ e ≡ a ++ (b ++ (c ++ (d ++ e)))
four-append a b c d e = simp append_assoc

module _ (may : Permission) where
  -- steps behind those of a formula, from any temporaries on
  computes_behind : (next : ℕ) (e : Formula) (rest : List IrStep) (i : IrState) (temps : Bank)
      → ir_steps no_cost may (computes next e ++ rest) (with_temps i temps) ≡ ir_steps no_cost may rest (with_temps i (temps_behind next e i temps))
  computes_behind next (Kept t) rest i temps = refl
  computes_behind next (Number n) rest i temps = refl
  computes_behind next (Register r) rest i temps = refl
  computes_behind next (Flag f) rest i temps = refl
  computes_behind next (Operation op a b) rest i temps =
      let last : List IrStep = steps.Op op (temp (next + size a + size b)) (temp (place next a)) (temp (place (next + size a) b)) ∷ [] in
      let one = temps_behind next a i temps in
      ap (λ l. ir_steps no_cost may l (with_temps i temps)) (three-append (computes next a) (computes (next + size a) b) last rest)
      ∙ computes_behind next a (computes (next + size a) b ++ (last ++ rest)) i temps
      ∙ computes_behind (next + size a) b (last ++ rest) i one
  computes_behind next (Choice c a b) rest i temps =
      let last : List IrStep = steps.Select (temp (next + size c + size a + size b)) (temp (place next c)) (temp (place (next + size c) a)) (temp (place (next + size c + size a) b)) ∷ [] in
      let one = temps_behind next c i temps in
      let two = temps_behind (next + size c) a i one in
      ap (λ l. ir_steps no_cost may l (with_temps i temps)) (four-append (computes next c) (computes (next + size c) a) (computes (next + size c + size a) b) last rest)
      ∙ computes_behind next c (computes (next + size c) a ++ (computes (next + size c + size a) b ++ (last ++ rest))) i temps
      ∙ computes_behind (next + size c) a (computes (next + size c + size a) b ++ (last ++ rest)) i one
      ∙ computes_behind (next + size c + size a) b (last ++ rest) i two

  -- steps behind those of a formula begin in the state that these come to
  pub computes_then : (next : ℕ) (e : Formula) (rest : List IrStep) (i : IrState) → ir_steps no_cost may (computes next e ++ rest) i ≡ ir_steps no_cost may rest (computed next e i)
  computes_then next e rest i = computes_behind next e rest i i.temps

-- what a formula keeps was set before
abbrev pub IsKeptBelow : (next : ℕ) → Formula → Type 0
IsKeptBelow next (Kept t) = t < next
IsKeptBelow next (Number n) = Unit {0}
IsKeptBelow next (Register r) = Unit {0}
IsKeptBelow next (Flag f) = Unit {0}
IsKeptBelow next (Operation op a b) = IsKeptBelow next a × IsKeptBelow next b
IsKeptBelow next (Choice c a b) = IsKeptBelow next c × (IsKeptBelow next a × IsKeptBelow next b)

-- what was set before a number was set before a later one
pub kept_later : (next later : ℕ) (e : Formula) → next ≤ later → IsKeptBelow next e → IsKeptBelow later e
kept_later next later (Kept t) le kept = omega (arith, le, kept)
kept_later next later (Number n) le kept = tt
kept_later next later (Register r) le kept = tt
kept_later next later (Flag f) le kept = tt
kept_later next later (Operation op a b) le kept = (kept_later next later a le kept.0, kept_later next later b le kept.1)
kept_later next later (Choice c a b) le kept = (kept_later next later c le kept.0, (kept_later next later a le kept.1.0, kept_later next later b le kept.1.1))

-- the steps leave the temporaries before them alone
pub temps_before : (next : ℕ) (e : Formula) (i : IrState) (temps : Bank) (t : ℕ) → t < next → temps_behind next e i temps t ≡ temps t
temps_before next (Kept k) i temps t lt = refl
temps_before next (Number n) i temps t lt = put_other next n temps t (omega (arith, lt))
temps_before next (Register r) i temps t lt = put_other next (i.regs r) temps t (omega (arith, lt))
temps_before next (Flag f) i temps t lt = put_other next (i.flags f) temps t (omega (arith, lt))
temps_before next (Operation op a b) i temps t lt =
    let one = temps_behind next a i temps in
    let both = temps_behind (next + size a) b i one in
    put_other (next + size a + size b) (op_value op (both (place next a)) (both (place (next + size a) b))) both t (omega (arith, lt))
    ∙ temps_before (next + size a) b i one t (omega (arith, lt)) ∙ temps_before next a i temps t lt
temps_before next (Choice c a b) i temps t lt =
    let one = temps_behind next c i temps in
    let two = temps_behind (next + size c) a i one in
    let all = temps_behind (next + size c + size a) b i two in
    put_other (next + size c + size a + size b) (if all (place next c) == 0 then all (place (next + size c + size a) b) else all (place (next + size c) a)) all t (omega (arith, lt))
    ∙ temps_before (next + size c + size a) b i two t (omega (arith, lt)) ∙ temps_before (next + size c) a i one t (omega (arith, lt)) ∙ temps_before next c i temps t lt

-- the value's temporary is set behind the steps
pub place_below : (next : ℕ) (e : Formula) → IsKeptBelow next e → place next e < next + size e
place_below next (Kept t) kept = omega (arith, kept)
place_below next (Number n) kept = omega arith
place_below next (Register r) kept = omega arith
place_below next (Flag f) kept = omega arith
place_below next (Operation op a b) kept = omega arith
place_below next (Choice c a b) kept = omega arith

-- a value is the same where what it keeps is the same
value_same : (next : ℕ) (e : Formula) (i : IrState) (one two : Bank) → IsKeptBelow next e → ((t : ℕ) → t < next → two t ≡ one t) → value (with_temps i two) e ≡ value (with_temps i one) e
value_same next (Kept t) i one two kept same = same t kept
value_same next (Number n) i one two kept same = refl
value_same next (Register r) i one two kept same = refl
value_same next (Flag f) i one two kept same = refl
value_same next (Operation op a b) i one two kept same =
    let first = value_same next a i one two kept.0 same in
    let second = value_same next b i one two kept.1 same in
    cc
value_same next (Choice c a b) i one two kept same =
    let first = value_same next c i one two kept.0 same in
    let second = value_same next a i one two kept.1.0 same in
    let third = value_same next b i one two kept.1.1 same in
    cc

-- the value's temporary holds the formula's value
pub value_placed : (next : ℕ) (e : Formula) (i : IrState) (temps : Bank) → IsKeptBelow next e → temps_behind next e i temps (place next e) ≡ value (with_temps i temps) e
value_placed next (Kept t) i temps kept = refl
value_placed next (Number n) i temps kept = put_here next n temps
value_placed next (Register r) i temps kept = put_here next (i.regs r) temps
value_placed next (Flag f) i temps kept = put_here next (i.flags f) temps
value_placed next (Operation op a b) i temps kept =
    let one = temps_behind next a i temps in
    let both = temps_behind (next + size a) b i one in
    let first : both (place next a) ≡ value (with_temps i temps) a = temps_before (next + size a) b i one (place next a) (place_below next a kept.0) ∙ value_placed next a i temps kept.0 in
    let second : both (place (next + size a) b) ≡ value (with_temps i temps) b =
    value_placed (next + size a) b i one (kept_later next (next + size a) b (omega arith) kept.1)
    ∙ value_same next b i temps one kept.1 (λ t lt. temps_before next a i temps t lt) in
    put_here (next + size a + size b) (op_value op (both (place next a)) (both (place (next + size a) b))) both
    ∙ ap (λ k. op_value op k (both (place (next + size a) b))) first
    ∙ ap (λ k. op_value op (value (with_temps i temps) a) k) second
value_placed next (Choice c a b) i temps kept =
    let one = temps_behind next c i temps in
    let two = temps_behind (next + size c) a i one in
    let all = temps_behind (next + size c + size a) b i two in
    let early = λ (t : ℕ) (lt : t < next). temps_before (next + size c) a i one t (omega (arith, lt)) ∙ temps_before next c i temps t lt in
    let first : all (place next c) ≡ value (with_temps i temps) c =
    let below = place_below next c kept.0 in
    temps_before (next + size c + size a) b i two (place next c) (omega (arith, below)) ∙ temps_before (next + size c) a i one (place next c) below ∙ value_placed next c i temps kept.0 in
    let second : all (place (next + size c) a) ≡ value (with_temps i temps) a =
    let kept_a = kept_later next (next + size c) a (omega arith) kept.1.0 in
    temps_before (next + size c + size a) b i two (place (next + size c) a) (place_below (next + size c) a kept_a) ∙ value_placed (next + size c) a i one kept_a
    ∙ value_same next a i temps one kept.1.0 (λ t lt. temps_before next c i temps t lt) in
    let third : all (place (next + size c + size a) b) ≡ value (with_temps i temps) b =
    value_placed (next + size c + size a) b i two (kept_later next (next + size c + size a) b (omega arith) kept.1.1)
    ∙ value_same next b i temps two kept.1.1 early in
    put_here (next + size c + size a + size b) (if all (place next c) == 0 then all (place (next + size c + size a) b) else all (place (next + size c) a)) all
    ∙ cc
