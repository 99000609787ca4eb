-- Formulas whose steps cost little and have few temporaries live at once.
use Rattle.std.proofs.Common.{◌≡◌, Some, ℕ, suc, ◌+◌, ◌<◌, ◌≤◌, max, List, [], ◌∷◌, ◌++◌, length, refl, sym, ap, ◌∙◌, subst, inl, inr, arith}
use Rattle.std.specs.List.{AllByRecursion}
use Rattle.std.proofs.lemmas.List.{append_assoc}
use Rattle.limm_ir.specs.Conditions.{step_reads, step_sets, Known, Constant, IsExtended, HasConstant, InRange}
use Rattle.limm_ir.specs.Costs.{op_cost, number_cost, fenced_cost}
use Rattle.limm_ir.specs.declared.block.IrEnd.{IrEnd}
use Rattle.limm_ir.specs.declared.step.IrOp.{IrOp}
use Rattle.limm_ir.specs.declared.step.IrOp.TheVariants as ops
use Rattle.limm_ir.specs.declared.step.IrStep.{IrStep}
use Rattle.limm_ir.specs.declared.step.IrStep.TheVariants as steps
use Rattle.lift_alu.specs.Formulas.{Formula, Kept, Number, Register, Flag, Operation, Choice, temp, size, place, computes}
use Rattle.lift_alu.proofs.Tame.{Among, Tame, tame_more, dropped, setting, extending}

-- the operands of an operation are in range: an extension takes a number of bytes
pub data InOperation (op : IrOp) : Formula → Type 0 where
  ordinary : {b : Formula} → ((k : Known) → HasConstant op k) → InOperation op b
  extension : {n : ℕ} → IsExtended (Constant n) → InOperation op (Number n)

-- a formula reads only temporaries that may be read, and registers and flags that there are
abbrev pub Sound : (live : List ℕ) → Formula → Type 0
Sound live (Kept t) = Among live t
Sound live (Number n) = Unit {0}
Sound live (Register r) = r < 16
Sound live (Flag f) = f < 4
Sound live (Operation op a b) = Sound live a × Sound live b × InOperation op b
Sound live (Choice c a b) = Sound live c × Sound live a × Sound live b

-- how many temporaries of its own a formula's value takes
abbrev pub own : Formula → ℕ
own (Kept t) = 0
own e = 1

-- how many of its own temporaries are live at once while a formula is computed
abbrev pub room : Formula → ℕ
room (Kept t) = 0
room (Number n) = 1
room (Register r) = 1
room (Flag f) = 1
room (Operation op a b) = max (room a) (max (own a + room b) (own a + own b + 1))
room (Choice c a b) = max (room c) (max (own c + room a) (max (own c + own a + room b) (own c + own a + own b + 1)))

-- what the steps of a formula cost
abbrev pub price : Formula → ℕ
price (Kept t) = 0
price (Number n) = number_cost n
price (Register r) = 1
price (Flag f) = 1
price (Operation op a b) = price a + price b + op_cost op
price (Choice c a b) = price c + price a + price b + 2

-- the temporaries that may be read where a formula has been computed
abbrev pub beside : (next : ℕ) → Formula → (live : List ℕ) → List ℕ
beside next (Kept t) live = live
beside next e live = place next e ∷ live

-- what may be read stays so
pub beside_more : (next : ℕ) (e : Formula) (live : List ℕ) (t : ℕ) → Among live t → Among (beside next e live) t
beside_more next (Kept t) live u among = among
beside_more next e live u among = inr among

-- the same with one more in front
pub keep_first : (live more : List ℕ) → ((t : ℕ) → Among live t → Among more t) → (first t : ℕ) → Among (first ∷ live) t → Among (first ∷ more) t
keep_first live more grows first t (inl same) = inl same
keep_first live more grows first t (inr among) = inr (grows t among)

-- the place of a value may be read
pub place_among : (next : ℕ) (e : Formula) (live : List ℕ) → Sound live e → Among (beside next e live) (place next e)
place_among next (Kept t) live sound = sound
place_among next e live sound = inl refl

-- how many temporaries may be read then
pub beside_count : (next : ℕ) (e : Formula) (live : List ℕ) → length (beside next e live) ≡ own e + length live
beside_count next (Kept t) live = omega arith
beside_count next e live = omega arith

-- a value takes no more room than its steps
pub own_room : (e : Formula) → own e ≤ room e
own_room (Kept t) = omega arith
own_room (Operation op a b) = omega arith
own_room (Choice c a b) = omega arith
own_room e = omega arith

-- a value takes one temporary at most
pub own_one : (e : Formula) → own e ≤ 1
own_one (Kept t) = omega arith
own_one e = omega arith

-- more temporaries may be read
pub sound_more : (live more : List ℕ) (e : Formula) → ((t : ℕ) → Among live t → Among more t) → Sound live e → Sound more e
sound_more live more (Kept t) grows sound = grows t sound
sound_more live more (Operation op a b) grows sound = (sound_more live more a grows sound.0, sound_more live more b grows sound.1, sound.2)
sound_more live more (Choice c a b) grows sound = (sound_more live more c grows sound.0, sound_more live more a grows sound.1, sound_more live more b grows sound.2)
sound_more live more (Number n) grows sound = sound
sound_more live more (Register r) grows sound = sound
sound_more live more (Flag f) grows sound = sound

-- an operation costs something
op_costs : (op : IrOp) → 1 ≤ op_cost op
op_costs ops.Mul = omega arith
op_costs ops.Eq = omega arith
op_costs ops.LessU = omega arith
op_costs ops.LessS = omega arith
op_costs op = omega arith

-- a number costs something
number_costs : (n : ℕ) → 1 ≤ number_cost n
number_costs n = omega arith

-- the steps of operands, a step, and what comes behind
both_then : (xs ys : List IrStep) (z : IrStep) (zs : List IrStep) → (xs ++ (ys ++ z ∷ [])) ++ zs ≡ xs ++ (ys ++ (z ∷ zs))
both_then xs ys z zs = append_assoc xs (ys ++ z ∷ []) zs ∙ ap (λ l. xs ++ l) (append_assoc ys (z ∷ []) zs)

three_then : (ws xs ys : List IrStep) (z : IrStep) (zs : List IrStep) → (ws ++ (xs ++ (ys ++ z ∷ []))) ++ zs ≡ ws ++ (xs ++ (ys ++ (z ∷ zs)))
three_then ws xs ys z zs = append_assoc ws (xs ++ (ys ++ z ∷ [])) zs ∙ ap (λ l. ws ++ l) (both_then xs ys z zs)

module _ (end : IrEnd) where
  -- the steps of a formula, and then what is tame where its value may be read
  abbrev Computed : Formula → Type 0
  Computed e = (live : List ℕ) (next most left : ℕ) (xs : List IrStep) → Sound live e → room e + length live ≤ 6 → price e + left ≤ most
      → Tame end (beside next e live) (next + size e) left xs → Tame end live next most (computes next e ++ xs)

  -- a step that sets the next temporary, where then only this one may be read besides
  set_one : (live seen : List ℕ) (next after most left : ℕ) (x : IrStep) (xs : List IrStep) → step_sets x ≡ Some next → AllByRecursion (Among seen) (step_reads x)
      → ((known : ℕ → Known) → InRange known x) → length seen ≤ 5 → suc left ≤ most → fenced_cost x + left ≤ most → after ≡ suc next
      → ((t : ℕ) → Among live t → Among seen t)
      → Tame end (next ∷ live) after left xs → Tame end seen next most (x ∷ xs)
  set_one live seen next after most left x xs sets reads range few more cost is grows rest =
      setting sets reads range few more cost (dropped (keep_first live seen grows next) (subst (λ n. Tame end (next ∷ live) n left xs) is rest))

  -- an operation on two values
  operation_computed : (op : IrOp) (a b : Formula) → InOperation op b → Computed a → Computed b → Computed (Operation op a b)
  operation_computed op a b (ordinary range) first second live next most left xs sound few cost rest =
      let second_at = next + size a in
      let at = next + size a + size b in
      let with_first = beside next a live in
      let with_both = beside second_at b with_first in
      let step = steps.Op op (temp at) (temp (place next a)) (temp (place second_at b)) in
      let in_both = place_among second_at b with_first (sound_more live with_first b (beside_more next a live) sound.1) in
      let behind : Tame end with_both at (op_cost op + left) (step ∷ xs) =
      set_one live with_both at (next + (size a + size b + 1)) (op_cost op + left) left step xs refl
      (beside_more second_at b with_first (place next a) (place_among next a live sound.0), (in_both, tt)) (λ known. range (known (place second_at b)))
      (omega (arith, few, beside_count next a live, beside_count second_at b with_first)) (omega (arith, op_costs op)) (omega arith) (omega arith)
      (λ t among. beside_more second_at b with_first t (beside_more next a live t among)) rest in
      subst (Tame end live next most) (sym (both_then (computes next a) (computes second_at b) step xs))
      (first live next most (price b + (op_cost op + left)) (computes second_at b ++ (step ∷ xs)) sound.0 (omega (arith, few)) (omega (arith, cost))
      (second with_first second_at (price b + (op_cost op + left)) (op_cost op + left) (step ∷ xs) (sound_more live with_first b (beside_more next a live) sound.1)
      (omega (arith, few, beside_count next a live)) (omega arith) behind))
  operation_computed op a (Number n) (extension is) first second live next most left xs sound few cost rest =
      let at = next + size a in
      let with_first = beside next a live in
      let behind = λ (result : ℕ). steps.Const (temp at) n ∷ (steps.Op op (temp result) (temp (place next a)) (temp at) ∷ xs) in
      let result_is : suc at ≡ at + 1 = omega arith in
      let grown = keep_first live with_first (beside_more next a live) in
      let extends : Tame end with_first at (number_cost n + (op_cost op + left)) (behind (suc at)) =
      extending (place_among next a live sound.0) is (omega (arith, few, beside_count next a live)) (omega (arith, op_costs op, number_costs n)) (omega arith)
      (dropped (grown (suc at)) (subst (λ t. Tame end (suc at ∷ live) t left xs) (omega arith)
      (subst (λ t. Tame end (t ∷ live) (next + (size a + 1 + 1)) left xs) (omega arith) rest))) in
      subst (Tame end live next most) (sym (both_then (computes next a) (steps.Const (temp at) n ∷ []) (steps.Op op (temp (at + 1)) (temp (place next a)) (temp at)) xs))
      (first live next most (number_cost n + (op_cost op + left)) (behind (at + 1)) sound.0 (omega (arith, few)) (omega (arith, cost))
      (subst (λ t. Tame end with_first at (number_cost n + (op_cost op + left)) (behind t)) result_is extends))

  -- one of two values, by a condition
  choice_computed : (c a b : Formula) → Computed c → Computed a → Computed b → Computed (Choice c a b)
  choice_computed c a b condition first second live next most left xs sound few cost rest =
      let first_at = next + size c in
      let second_at = next + size c + size a in
      let at = next + size c + size a + size b in
      let with_condition = beside next c live in
      let with_first = beside first_at a with_condition in
      let with_both = beside second_at b with_first in
      let step = steps.Select (temp at) (temp (place next c)) (temp (place first_at a)) (temp (place second_at b)) in
      let grows_once = beside_more next c live in
      let grows_again = beside_more first_at a with_condition in
      let grows_last = beside_more second_at b with_first in
      let first_sound = sound_more live with_condition a grows_once sound.1 in
      let second_sound = sound_more live with_first b (λ t among. grows_again t (grows_once t among)) sound.2 in
      let count_once = beside_count next c live in
      let count_again = beside_count first_at a with_condition in
      let count_last = beside_count second_at b with_first in
      let behind : Tame end with_both at (2 + left) (step ∷ xs) =
      set_one live with_both at (next + (size c + size a + size b + 1)) (2 + left) left step xs refl (
        grows_last (place next c) (grows_again (place next c) (place_among next c live sound.0)),
        (
          grows_last (place first_at a) (place_among first_at a with_condition first_sound),
          (place_among second_at b with_first second_sound, tt),
        ),
      ) (λ known. tt)
      (omega (arith, few)) (omega arith) (omega arith) (omega arith) (λ t among. grows_last t (grows_again t (grows_once t among))) rest in
      subst (Tame end live next most) (sym (three_then (computes next c) (computes first_at a) (computes second_at b) step xs))
      (condition live next most (price a + (price b + (2 + left))) (computes first_at a ++ (computes second_at b ++ (step ∷ xs))) sound.0 (omega (arith, few)) (omega (arith, cost))
      (first with_condition first_at (price a + (price b + (2 + left))) (price b + (2 + left)) (computes second_at b ++ (step ∷ xs)) first_sound (omega (arith, few)) (omega arith)
      (second with_first second_at (price b + (2 + left)) (2 + left) (step ∷ xs) second_sound (omega (arith, few)) (omega arith) behind)))

  -- one step that reads nothing and sets its temporary
  leaf_computed : (live : List ℕ) (next most left : ℕ) (x : IrStep) (xs : List IrStep) → step_sets x ≡ Some next → step_reads x ≡ [] → ((known : ℕ → Known) → InRange known x)
      → 1 + length live ≤ 6 → 1 ≤ fenced_cost x → fenced_cost x + left ≤ most → Tame end (next ∷ live) (next + 1) left xs → Tame end live next most (x ∷ xs)
  leaf_computed live next most left x xs sets reads range few cheap cost rest =
      set_one live live next (next + 1) most left x xs sets (subst (AllByRecursion (Among live)) (sym reads) tt) range (omega (arith, few)) (omega (arith, cheap, cost)) cost (omega arith)
      (λ t among. among) rest

  -- the steps of a formula keep what comes behind tame
  pub computed : (e : Formula) → Computed e
  computed (Kept t) live next most left xs sound few cost rest = tame_more (omega (arith, cost)) (subst (λ n. Tame end live n left xs) (omega arith) rest)
  computed (Number n) live next most left xs sound few cost rest =
      leaf_computed live next most left (steps.Const (temp next) n) xs refl refl (λ known. tt) few (omega (arith, number_costs n)) (omega (arith, cost)) rest
  computed (Register r) live next most left xs sound few cost rest =
      leaf_computed live next most left (steps.GetReg (temp next) r) xs refl refl (λ known. sound) few (omega arith) (omega (arith, cost)) rest
  computed (Flag f) live next most left xs sound few cost rest =
      leaf_computed live next most left (steps.GetFlag (temp next) f) xs refl refl (λ known. sound) few (omega arith) (omega (arith, cost)) rest
  computed (Operation op a b) live next most left xs sound few cost rest = operation_computed op a b sound.2 (computed a) (computed b) live next most left xs sound few cost rest
  computed (Choice c a b) live next most left xs sound few cost rest = choice_computed c a b (computed c) (computed a) (computed b) live next most left xs sound few cost rest

-- a formula is sound, takes at most so many temporaries at once, and costs at most so much
pub record Within (live : List ℕ) (most_room most_price : ℕ) (e : Formula) : Type 0 where
  pub sound : Sound live e
  pub in_room : room e ≤ most_room
  pub in_price : price e ≤ most_price

-- the same with greater bounds
pub within_more : {live : List ℕ} {room_before price_before room_after price_after : ℕ} {e : Formula} → room_before ≤ room_after → price_before ≤ price_after
    → Within live room_before price_before e → Within live room_after price_after e
within_more room_le price_le w = record { sound = w.sound; in_room = omega (arith, w.in_room, room_le); in_price = omega (arith, w.in_price, price_le) }
