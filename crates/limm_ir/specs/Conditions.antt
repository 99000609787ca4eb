-- When a block is well made: its operands are in range, and each temporary is set before it is read.
use Rattle.std.specs.Prelude.{◌≡◌, ◌≢◌, ℕ, ◌^◌, ◌<◌, ◌≤◌, ◌==◌, List, [], ◌∷◌, ◌++◌, length, eqb, Option, Some, None, if◌then◌else◌, Contains}
use Rattle.std.specs.Prelude.{◌⊎◌}
use Rattle.std.specs.List.{AllByRecursion, IsDistinct}
use Rattle.ev_graph.specs.declared.events.TrapKind.TheVariants.{BadAccess}
use Rattle.limm_ir.specs.declared.block.IrEnd.{IrEnd}
use Rattle.limm_ir.specs.declared.block.IrEnd.TheVariants as ends
use Rattle.limm_ir.specs.declared.step.IrOp.{IrOp}
use Rattle.limm_ir.specs.declared.step.IrOp.TheVariants.{ZeroExt, SignExt}
use Rattle.limm_ir.specs.declared.step.IrStep.{IrStep}
use Rattle.limm_ir.specs.declared.step.IrStep.TheVariants as steps

-- the temporaries that a step reads
abbrev pub step_reads : IrStep → List ℕ
step_reads (steps.SetReg r t) = t.0 ∷ []
step_reads (steps.SetFlag f t) = t.0 ∷ []
step_reads (steps.Op op t a b) = a.0 ∷ b.0 ∷ []
step_reads (steps.Select t c a b) = c.0 ∷ a.0 ∷ b.0 ∷ []
step_reads (steps.Load t a size place) = a.0 ∷ []
step_reads (steps.Store a v size place) = a.0 ∷ v.0 ∷ []
step_reads (steps.Rmw op t a v size place) = a.0 ∷ v.0 ∷ []
step_reads (steps.Cas t a e v size place) = a.0 ∷ e.0 ∷ v.0 ∷ []
step_reads (steps.TrapIf t kind) = t.0 ∷ []
step_reads x = []

-- the temporary that it sets, if it sets one
abbrev pub step_sets : IrStep → Option ℕ
step_sets (steps.Const t v) = Some t.0
step_sets (steps.GetReg t r) = Some t.0
step_sets (steps.GetFlag t f) = Some t.0
step_sets (steps.Op op t a b) = Some t.0
step_sets (steps.Select t c a b) = Some t.0
step_sets (steps.Load t a size place) = Some t.0
step_sets (steps.Rmw op t a v size place) = Some t.0
step_sets (steps.Cas t a e v size place) = Some t.0
step_sets x = None

-- the temporaries that an end reads
abbrev pub end_reads : IrEnd → List ℕ
end_reads (ends.Branch t a b) = t.0 ∷ []
end_reads (ends.Return t) = t.0 ∷ []
end_reads (ends.Indexed t table) = t.0 ∷ []
end_reads end = []

-- what is known of a temporary: nothing is in it, something is, or a number is
pub data Known : Type 0 where
  Unset : Known
  Set : Known
  Constant : (number : ℕ) → Known

abbrev pub IsSet : Known → Type 0
IsSet Unset = ⊥
IsSet Set = Unit {0}
IsSet (Constant number) = Unit {0}

-- one temporary is known to be otherwise
abbrev pub know : Option ℕ → Known → (ℕ → Known) → ℕ → Known
know None k known t = known t
know (Some n) k known t = if t == n then k else known t

-- what is known behind a step
abbrev pub learn : IrStep → (ℕ → Known) → ℕ → Known
learn (steps.Const t v) known = know (Some t.0) (Constant v) known
learn x known = know (step_sets x) Set known

-- the sizes of accesses
abbrev pub IsSize : ℕ → Type 0
IsSize n = (n ≡ 1) ⊎ ((n ≡ 2) ⊎ ((n ≡ 4) ⊎ (n ≡ 8)))

-- an extension takes one, two or four bytes
abbrev pub IsExtended : Known → Type 0
IsExtended Unset = ⊥
IsExtended Set = ⊥
IsExtended (Constant n) = (n ≡ 1) ⊎ ((n ≡ 2) ⊎ (n ≡ 4))

abbrev pub HasConstant : IrOp → Known → Type 0
HasConstant ZeroExt k = IsExtended k
HasConstant SignExt k = IsExtended k
HasConstant op k = Unit {0}

-- registers, flags, sizes and kinds of traps are in range; no step traps as an access that is not allowed
abbrev pub InRange : (ℕ → Known) → IrStep → Type 0
InRange known (steps.GetReg t r) = r < 16
InRange known (steps.SetReg r t) = r < 16
InRange known (steps.GetFlag t f) = f < 4
InRange known (steps.SetFlag f t) = f < 4
InRange known (steps.Op op t a b) = HasConstant op (known b.0)
InRange known (steps.Load t a size place) = IsSize size
InRange known (steps.Store a v size place) = IsSize size
InRange known (steps.Rmw op t a v size place) = IsSize size
InRange known (steps.Cas t a e v size place) = IsSize size
InRange known (steps.TrapIf t kind) = kind ≢ BadAccess
InRange known x = Unit {0}

-- the same of an end
abbrev pub IsEndInRange : IrEnd → Type 0
IsEndInRange (ends.Stop kind) = kind ≢ BadAccess
IsEndInRange end = Unit {0}

-- the steps from here on and the end are well made, where this is known of temporaries
abbrev pub IsWell : IrEnd → (ℕ → Known) → List IrStep → Type 0
IsWell end known [] = AllByRecursion (λ t. IsSet (known t)) (end_reads end) × IsEndInRange end
IsWell end known (x ∷ xs) = AllByRecursion (λ t. IsSet (known t)) (step_reads x) × InRange known x × IsWell end (learn x known) xs

-- a block is well made: no temporary is set before it
abbrev pub IsWellMade : List IrStep → IrEnd → Type 0
IsWellMade xs end = IsWell end (λ t. Unset) xs

-- one of the steps sets the temporary
abbrev pub IsSetIn : List IrStep → ℕ → Type 0
IsSetIn [] t = ⊥
IsSetIn (x ∷ xs) t = (step_sets x ≡ Some t) ⊎ IsSetIn xs t

-- no temporary is set twice
abbrev pub SetsOnce : List IrStep → Type 0
SetsOnce [] = Unit {0}
SetsOnce (x ∷ xs) = ((t : ℕ) → step_sets x ≡ Some t → IsSetIn xs t → ⊥) × SetsOnce xs

-- one of the steps, or the end, reads the temporary
abbrev pub IsRead : IrEnd → List IrStep → ℕ → Type 0
IsRead end [] t = Contains (end_reads end) t
IsRead end (x ∷ xs) t = Contains (step_reads x) t ⊎ IsRead end xs t

-- A temporary is live at a step: it is set before the step or by it, and set by it or read by it or later.
abbrev pub IsLiveAt : IrEnd → (before : List IrStep) → IrStep → (behind : List IrStep) → ℕ → Type 0
IsLiveAt end before x behind t = (IsSetIn before t ⊎ (step_sets x ≡ Some t)) × ((step_sets x ≡ Some t) ⊎ IsRead end (x ∷ behind) t)

-- at each step at most so many temporaries are live
abbrev pub LiveAtMost : ℕ → IrEnd → List IrStep → Type 0
LiveAtMost most end xs = (before : List IrStep) (x : IrStep) (behind : List IrStep) → xs ≡ before ++ x ∷ behind
    → (ts : List ℕ) → IsDistinct eqb ts → AllByRecursion (IsLiveAt end before x behind) ts → length ts ≤ most

-- the step makes no locked access
abbrev pub IsUnlocked : IrStep → Type 0
IsUnlocked (steps.Rmw op t a v size place) = ⊥
IsUnlocked (steps.Cas t a e v size place) = ⊥
IsUnlocked x = Unit {0}

-- What selection and the allocation of registers rest on: the block is well made, sets no temporary twice and none of a great
-- number, and has at most six of them live at any step.
pub record IsSelectable (xs : List IrStep) (end : IrEnd) : Type 0 where
  pub well : IsWellMade xs end
  pub once : SetsOnce xs
  pub small : (t : ℕ) → IsSetIn xs t → t < 2 ^ 25
  pub few : LiveAtMost 6 end xs
