-- What holds of blocks and sites that are written out.
use Rattle.std.proofs.Common.{◌≡◌, ℕ, zero, suc, ◌<◌, List, [], ◌∷◌, Some, subst, arith}
use Rattle.std.specs.Prelude.{slice_get}
use Rattle.std.specs.List.{AllByRecursion}
use Rattle.cfg_walk.specs.Code.{IsIncreasing}
use Rattle.a64_code.specs.declared.instr.XReg.{XReg}
use Rattle.a64_block.specs.Conditions.{IsLayable}
use Rattle.a64_block.specs.declared.block.ABlock.{ABlock}
use Rattle.code_layout.specs.Places.{firsts, IsBegun}
use Rattle.code_layout.specs.Conditions.{LeadsToBlocks, AreClosed, AreBegun}
use Rattle.code_layout.specs.Search.{Rise}

some_same : {A : Type 0} (a b : A) → Some a ≡ Some b → a ≡ b
some_same a b e = cc

-- what holds of all holds of the one at a place
pub all_at : {A : Type 0} (P : A → Type 0) (xs : List A) (i : ℕ) (x : A) → AllByRecursion P xs → slice_get xs i ≡ Some x → P x
all_at P [] i x all at = absurd (cc)
all_at P (y ∷ ys) zero x all at = subst P (some_same y x at) all.0
all_at P (y ∷ ys) (suc i) x all at = all_at P ys i x all.1 at

-- numbers that rise increase
pub increasing_of : (xs : List ℕ) → Rise xs → IsIncreasing xs
increasing_of [] rise i j a b less one two = absurd (cc)
increasing_of (x ∷ xs) rise i zero a b less one two = absurd (omega (arith, less))
increasing_of (x ∷ xs) rise zero (suc j) a b less one two = subst (λ n. n < b) (some_same x a one) (all_at (λ y. x < y) xs j b rise.0 two)
increasing_of (x ∷ xs) rise (suc i) (suc j) a b less one two = increasing_of xs rise.1 i j a b (omega (arith, less)) one two

pub begun_of : (bs : List (ABlock XReg)) (addresses : List ℕ) → AllByRecursion (IsBegun bs) addresses → AreBegun bs addresses
begun_of bs addresses all a (i, at) = all_at (IsBegun bs) addresses i a all at

pub closed_of : (bs : List (ABlock XReg)) → AllByRecursion (λ (b : ABlock XReg). IsLayable b.steps b.end) bs → AllByRecursion (λ (b : ABlock XReg). LeadsToBlocks bs b.end) bs → Rise (firsts bs)
    → AreClosed bs
closed_of bs layable leads rise = record {
  layable = λ b at. all_at (λ (c : ABlock XReg). IsLayable c.steps c.end) bs at.0 b layable at.1;
  leads = λ b at. all_at (λ (c : ABlock XReg). LeadsToBlocks bs c.end) bs at.0 b leads at.1;
  sorted = increasing_of (firsts bs) rise;
}
