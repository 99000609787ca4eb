-- In a block that is well made, each temporary that a step names is set somewhere, so its number is small.
use Rattle.std.proofs.Common.{◌≡◌, ◌⊎◌, ℕ, List, [], ◌∷◌, Some, inl, inr, refl}
use Rattle.std.specs.List.{AllByRecursion}
use Rattle.limm_ir.specs.Conditions.{Known, Unset, IsSet, IsSetIn, IsWell, IsWellMade, learn, step_reads, step_sets, end_reads}
use Rattle.limm_ir.specs.declared.block.IrEnd.{IrEnd}
use Rattle.limm_ir.specs.declared.block.IrEnd.TheVariants as ends
use Rattle.limm_ir.specs.declared.step.IrStep.{IrStep}
use Rattle.limm_ir.specs.declared.step.IrStep.TheVariants as steps
use Rattle.isel.specs.Ranges.{IsSmall, HasSmall, HasSmallEnd}
use Rattle.isel.proofs.Meaning.{learned}

-- a step sets and reads small temporaries
step_small : (x : IrStep) → ((t : ℕ) → step_sets x ≡ Some t → IsSmall t) → AllByRecursion IsSmall (step_reads x) → HasSmall x
step_small (steps.Const t v) sets reads = sets t.0 refl
step_small (steps.GetReg t r) sets reads = sets t.0 refl
step_small (steps.SetReg r t) sets reads = reads.0
step_small (steps.GetFlag t f) sets reads = sets t.0 refl
step_small (steps.SetFlag f t) sets reads = reads.0
step_small (steps.Op op t a b) sets reads = (sets t.0 refl, reads.0, reads.1.0)
step_small (steps.Select t c a b) sets reads = (sets t.0 refl, reads.0, reads.1.0, reads.1.1.0)
step_small (steps.Load t a size place) sets reads = (sets t.0 refl, reads.0)
step_small (steps.Store a v size place) sets reads = (reads.0, reads.1.0)
step_small (steps.Rmw op t a v size place) sets reads = (sets t.0 refl, reads.0, reads.1.0)
step_small (steps.Cas t a e v size place) sets reads = (sets t.0 refl, reads.0, reads.1.0, reads.1.1.0)
step_small (steps.Fence f) sets reads = tt
step_small steps.Input sets reads = tt
step_small steps.Output sets reads = tt
step_small (steps.TrapIf t kind) sets reads = reads.0

-- an end reads small temporaries
end_small : (end : IrEnd) → AllByRecursion IsSmall (end_reads end) → HasSmallEnd end
end_small (ends.Goto a) reads = tt
end_small (ends.Branch t a b) reads = reads.0
end_small (ends.Return t) reads = reads.0
end_small (ends.Indexed t table) reads = reads.0
end_small (ends.Stop kind) reads = tt

-- a property of all elements, by one that is weaker
all_wider : {A : Type 0} (P Q : A → Type 0) → ((x : A) → P x → Q x) → (xs : List A) → AllByRecursion P xs → AllByRecursion Q xs
all_wider P Q wider [] here = tt
all_wider P Q wider (x ∷ xs) here = (wider x here.0, all_wider P Q wider xs here.1)

module _ (end : IrEnd) where
  -- what is set before and by the steps is small, so all is
  all_small : (known : ℕ → Known) (xs : List IrStep) → IsWell end known xs → ((t : ℕ) → IsSet (known t) → IsSmall t) → ((t : ℕ) → IsSetIn xs t → IsSmall t) → AllByRecursion HasSmall xs × HasSmallEnd end
  all_small known [] well before later = (tt, end_small end (all_wider (λ t. IsSet (known t)) IsSmall before (end_reads end) well.0))
  all_small known (x ∷ xs) well before later =
      let rest = all_small (learn x known) xs well.2 (λ t is_set. by t (learned x known t is_set)) (λ t sets. later t (inr sets)) in
      ((step_small x (λ t sets. later t (inl sets)) (all_wider (λ t. IsSet (known t)) IsSmall before (step_reads x) well.0), rest.0), rest.1)
    where
      by : (t : ℕ) → (step_sets x ≡ Some t) ⊎ IsSet (known t) → IsSmall t
      by t (inl sets) = later t (inl sets)
      by t (inr is_set) = before t is_set

-- all temporaries of a block that is well made have small numbers, where those that are set do
pub block_small : (xs : List IrStep) (end : IrEnd) → IsWellMade xs end → ((t : ℕ) → IsSetIn xs t → IsSmall t) → AllByRecursion HasSmall xs × HasSmallEnd end
block_small xs end well small = all_small end (λ t. Unset) xs well (λ t is_set. elim is_set [ ]) small
