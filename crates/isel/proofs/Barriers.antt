-- The barriers among the words of steps are those of the fences.
use Rattle.std.proofs.Common.{◌≡◌, ℕ, ◌+◌, ◌-◌, ◌%◌, ◌^◌, ◌==◌, Bool, true, false, List, [], ◌∷◌, ◌++◌, refl, sym, ap, ◌∙◌}
use Rattle.std.specs.Prelude.{if◌then◌else◌, nat_le}
use Rattle.std.proofs.lemmas.Grind.{flat_map-append}
use Rattle.std.proofs.lemmas.List.Concat.{flat_map-cons}
use Rattle.limm_ir.specs.Costs.{quarter_of, quarters_not}
use Rattle.limm_ir.specs.Conditions.{Known, learn}
use Rattle.limm_ir.specs.declared.step.IrFence.TheVariants as fences
use Rattle.limm_ir.specs.declared.step.IrOp.{IrOp}
use Rattle.limm_ir.specs.declared.step.IrOp.TheVariants as ops
use Rattle.limm_ir.specs.declared.step.RmwOp.TheVariants as rmw
use Rattle.limm_ir.specs.declared.step.IrStep.{IrStep}
use Rattle.limm_ir.specs.declared.step.IrStep.TheVariants as steps
use Rattle.a64_code.specs.declared.instr.A64.TheVariants as words
use Rattle.a64_block.specs.Barriers.{barrier_of, barriers_in}
use Rattle.isel.specs.Barriers.{step_barrier, step_barriers}
use Rattle.isel.specs.Groups.{quarter_word, upper_words, number_words, op_words, last_bit, group_of, selected}

-- the words of a number are none
none_in_quarter : (bits d v k : ℕ) → barriers_in (quarter_word bits d v k) ≡ []
none_in_quarter bits d v k = by (quarter_of v k == bits)
  where
    by : (b : Bool) → barriers_in (if b then [] else words.Movk true d (quarter_of v k) k ∷ []) ≡ []
    by true = refl
    by false = refl

none_in_upper : (bits d v : ℕ) → barriers_in (upper_words bits d v) ≡ []
none_in_upper bits d v =
    flat_map-append barrier_of (quarter_word bits d v 1) (quarter_word bits d v 2 ++ quarter_word bits d v 3)
    ∙ ap (λ l. l ++ barriers_in (quarter_word bits d v 2 ++ quarter_word bits d v 3)) (none_in_quarter bits d v 1)
    ∙ flat_map-append barrier_of (quarter_word bits d v 2) (quarter_word bits d v 3)
    ∙ ap (λ l. l ++ barriers_in (quarter_word bits d v 3)) (none_in_quarter bits d v 2) ∙ none_in_quarter bits d v 3

none_in_number : (d v : ℕ) → barriers_in (number_words d v) ≡ []
none_in_number d v = by (nat_le (quarters_not 0 v) (quarters_not 0xFFFF v))
  where
    by : (b : Bool) → barriers_in (if b then words.Movz true d (v % 2 ^ 16) 0 ∷ upper_words 0 d v else words.Movn true d (0xFFFF - v % 2 ^ 16) 0 ∷ upper_words 0xFFFF d v) ≡ []
    by true = flat_map-cons barrier_of (words.Movz true d (v % 2 ^ 16) 0) (upper_words 0 d v) ∙ none_in_upper 0 d v
    by false = flat_map-cons barrier_of (words.Movn true d (0xFFFF - v % 2 ^ 16) 0) (upper_words 0xFFFF d v) ∙ none_in_upper 0xFFFF d v

-- nor are those of an operation
none_in_op : (last : ℕ) (op : IrOp) (d a b : ℕ) → barriers_in (op_words last op d a b) ≡ []
none_in_op last ops.Mul d a b = refl
none_in_op last op d a b = refl

-- a group has the barrier of its step
in_group : (last : ℕ → ℕ) (x : IrStep) → barriers_in (group_of last x) ≡ step_barrier x
in_group last (steps.Const t v) = none_in_number (21 + t.0) v
in_group last (steps.Op op t a b) = none_in_op (last b.0) op (21 + t.0) (21 + a.0) (21 + b.0)
in_group last (steps.Rmw rmw.Swap t a v size place) = refl
in_group last (steps.Rmw rmw.Add t a v size place) = refl
in_group last (steps.Rmw rmw.Clear t a v size place) = refl
in_group last (steps.Rmw rmw.Flip t a v size place) = refl
in_group last (steps.Rmw rmw.Set t a v size place) = refl
in_group last (steps.Fence fences.Frm) = refl
in_group last (steps.Fence fences.Fww) = refl
in_group last (steps.Fence fences.Fsc) = refl
in_group last x = refl

-- each fence's barrier stands once, and there is no other
pub selected_barriers : (known : ℕ → Known) (xs : List IrStep) → barriers_in (selected known xs) ≡ step_barriers xs
selected_barriers known [] = refl
selected_barriers known (x ∷ xs) =
    let group = group_of (λ t. last_bit (known t)) x in
    flat_map-append barrier_of group (selected (learn x known) xs) ∙ ap (λ l. l ++ barriers_in (selected (learn x known) xs)) (in_group (λ t. last_bit (known t)) x)
    ∙ ap (λ l. step_barrier x ++ l) (selected_barriers (learn x known) xs) ∙ sym (flat_map-cons step_barrier x xs)
