-- What holds while the steps of a block are selected, one behind the other.
use Rattle.std.proofs.Common.{◌≡◌, ℕ, ◌+◌, ◌<◌, List, [], ◌∷◌, ◌++◌, drop, take, length, get_or, refl, sym, ap, ◌∙◌, subst, append_assoc, add-one, drop-cons}
use Rattle.std.proofs.lemmas.List.{take_more}
use Rattle.std.specs.List.{AllByRecursion}
use Rattle.indexmap.specs.IndexMap.{IndexMap}
use Rattle.limm_ir.specs.Conditions.{Known, Unset, HasConstant, InRange, IsExtended, IsWell, learn}
use Rattle.limm_ir.specs.declared.block.IrEnd.{IrEnd}
use Rattle.limm_ir.specs.declared.step.IrOp.{IrOp}
use Rattle.limm_ir.specs.declared.step.IrOp.TheVariants as ops
use Rattle.limm_ir.specs.declared.step.IrStep.{IrStep}
use Rattle.limm_ir.specs.declared.step.IrStep.TheVariants as steps
use Rattle.a64_code.specs.declared.instr.A64.{A64}
use Rattle.isel.specs.Groups.{op_words, group_of, last_bit, selected}
use Rattle.isel.specs.Ranges.{HasSmall, Fits}
use Rattle.isel.specs.LastBits.{kept_bit, Remembers}

-- what is known of temporaries, and that the words so far and those of what is left are all
pub record Selecting {S : Type 0} (xs : List IrStep) (i : ℕ) (ws : List (A64 ℕ)) (bits : IndexMap ℕ ℕ S) : Type 0 where
  pub known : ℕ → Known
  pub end : IrEnd
  pub words : ws ++ selected known (drop i xs) ≡ selected (λ t. Unset) xs
  pub remembers : Remembers known bits
  pub well : IsWell end known (drop i xs)
  pub small : AllByRecursion HasSmall (drop i xs)
  pub fit : AllByRecursion Fits (take i xs)

-- an operation asks for a last bit where it is an extension
op_same : (op : IrOp) (k : Known) (last : ℕ) (d a b : ℕ) → HasConstant op k → (IsExtended k → last ≡ last_bit k) → op_words last op d a b ≡ op_words (last_bit k) op d a b
op_same ops.ZeroExt k last d a b has same = ap (λ n. op_words n ops.ZeroExt d a b) (same has)
op_same ops.SignExt k last d a b has same = ap (λ n. op_words n ops.SignExt d a b) (same has)
op_same ops.Add k last d a b has same = refl
op_same ops.Sub k last d a b has same = refl
op_same ops.And k last d a b has same = refl
op_same ops.Or k last d a b has same = refl
op_same ops.Xor k last d a b has same = refl
op_same ops.Shl k last d a b has same = refl
op_same ops.Shr k last d a b has same = refl
op_same ops.Sar k last d a b has same = refl
op_same ops.Ror k last d a b has same = refl
op_same ops.Mul k last d a b has same = refl
op_same ops.HighU k last d a b has same = refl
op_same ops.HighS k last d a b has same = refl
op_same ops.DivU k last d a b has same = refl
op_same ops.DivS k last d a b has same = refl
op_same ops.Eq k last d a b has same = refl
op_same ops.LessU k last d a b has same = refl
op_same ops.LessS k last d a b has same = refl

-- the words by what is kept are the words by what is known
group_same : {S : Type 0} (known : ℕ → Known) (bits : IndexMap ℕ ℕ S) (x : IrStep) → InRange known x → Remembers known bits
    → group_of (kept_bit bits) x ≡ group_of (λ t. last_bit (known t)) x
group_same known bits (steps.Op op t a b) range remembers = op_same op (known b.0) (kept_bit bits b.0) (21 + t.0) (21 + a.0) (21 + b.0) range (remembers b.0)
group_same known bits (steps.Const t v) range remembers = refl
group_same known bits (steps.GetReg t r) range remembers = refl
group_same known bits (steps.SetReg r t) range remembers = refl
group_same known bits (steps.GetFlag t f) range remembers = refl
group_same known bits (steps.SetFlag f t) range remembers = refl
group_same known bits (steps.Select t c a b) range remembers = refl
group_same known bits (steps.Load t a size place) range remembers = refl
group_same known bits (steps.Store a v size place) range remembers = refl
group_same known bits (steps.Rmw op t a v size place) range remembers = refl
group_same known bits (steps.Cas t a e v size place) range remembers = refl
group_same known bits (steps.Fence f) range remembers = refl
group_same known bits steps.Input range remembers = refl
group_same known bits steps.Output range remembers = refl
group_same known bits (steps.TrapIf t kind) range remembers = refl

-- a property of each element of a list with one more
all_push : {A : Type 0} (P : A → Type 0) (xs : List A) (x : A) → AllByRecursion P xs → P x → AllByRecursion P (xs ++ x ∷ [])
all_push P [] x here more = (more, tt)
all_push P (y ∷ ys) x here more = (here.0, all_push P ys x here.1 more)

module _ {S : Type 0} (xs : List IrStep) (i : ℕ) (ws : List (A64 ℕ)) (bits : IndexMap ℕ ℕ S) (now : Selecting xs i ws bits) (x other : IrStep) (within : i < length xs) (here : x ≡ get_or xs i other) where
  -- the steps that are left begin with the step at the index
  left : drop i xs ≡ x ∷ drop (i + 1) xs
  left = rw (add-one, drop-cons xs i other) (rw (← here) refl)

  -- the steps up to the next index end with it
  so_far : take (i + 1) xs ≡ take i xs ++ x ∷ []
  so_far = take_more xs i other within ∙ ap (λ y. take i xs ++ y ∷ []) (sym here)

  -- the step's temporaries have small numbers
  pub step_small : HasSmall x
  step_small = (subst (λ l. AllByRecursion HasSmall l) left now.small).0

  -- one step is selected
  pub selecting_next : (more : List (A64 ℕ)) (bits' : IndexMap ℕ ℕ S) → more ≡ ws ++ group_of (kept_bit bits) x
      → ((known : ℕ → Known) → Remembers known bits → Remembers (learn x known) bits') → Fits x → Selecting xs (i + 1) more bits'
  selecting_next more bits' made learned fits =
      let well = subst (λ l. IsWell now.end now.known l) left now.well in
      record {
        known = learn x now.known;
        end = now.end;
        words = rw made (append_assoc ws (group_of (kept_bit bits) x) (selected (learn x now.known) (drop (i + 1) xs))
            ∙ ap (λ g. ws ++ (g ++ selected (learn x now.known) (drop (i + 1) xs))) (group_same now.known bits x well.1 now.remembers)
            ∙ ap (λ l. ws ++ selected now.known l) (sym left) ∙ now.words);
        remembers = learned now.known now.remembers;
        well = well.2;
        small = (subst (λ l. AllByRecursion HasSmall l) left now.small).1;
        fit = subst (λ l. AllByRecursion Fits l) (sym so_far) (all_push Fits (take i xs) x now.fit fits);
      }
