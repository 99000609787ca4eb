-- Which temporaries the words of a group set and read: those of the step.
use Rattle.std.proofs.Common.{◌≡◌, ◌⊎◌, ℕ, zero, suc, ◌+◌, ◌-◌, ◌%◌, ◌^◌, ◌<◌, ◌==◌, Bool, true, false, List, [], ◌∷◌, ◌++◌, Option, Some, None, Contains, inl, inr, refl, sym, ap, ◌∙◌, subst, arith}
use Rattle.std.specs.Prelude.{if◌then◌else◌, nat_le}
use Rattle.std.specs.List.{AllByRecursion}
use Rattle.std.proofs.lemmas.List.{append-nil}
use Rattle.limm_ir.specs.Costs.{quarter_of, quarters_not}
use Rattle.limm_ir.specs.Conditions.{step_reads, step_sets}
use Rattle.limm_ir.specs.declared.step.Temp.{Temp}
use Rattle.limm_ir.specs.declared.step.IrOp.{IrOp}
use Rattle.limm_ir.specs.declared.step.IrOp.TheVariants as ops
use Rattle.limm_ir.specs.declared.step.IrFence.{IrFence}
use Rattle.limm_ir.specs.declared.step.IrFence.TheVariants as fences
use Rattle.limm_ir.specs.declared.step.RmwOp.{RmwOp}
use Rattle.limm_ir.specs.declared.step.RmwOp.TheVariants as rmw
use Rattle.limm_ir.specs.declared.step.IrStep.{IrStep}
use Rattle.limm_ir.specs.declared.step.IrStep.TheVariants as steps
use Rattle.a64_code.specs.declared.instr.A64.{A64}
use Rattle.a64_code.specs.declared.instr.A64.TheVariants as words
use Rattle.a64_table.specs.Rows.{a64_result, a64_operands}
use Rattle.a64_block.specs.Registers.{numbers}
use Rattle.a64_block.specs.Conditions.{IsSetIn, IsReadFirst, a64_skip}
use Rattle.a64_block.specs.declared.block.AEnd.{AEnd}
use Rattle.isel.specs.Groups.{quarter_word, upper_words, number_words, compare_words, op_words, rmw_word, barrier_word, group_of}

-- ---- lists of temporaries

-- a number stands in a list
abbrev pub Among : List ℕ → ℕ → Type 0
Among [] n = ⊥
Among (t ∷ ts) n = (t ≡ n) ⊎ Among ts n

-- what a list contains is among its elements
pub among : (ts : List ℕ) (n : ℕ) → Contains ts n → Among ts n
among [] n (k, lt, e) = absurd (omega (arith, lt))
among (t ∷ ts) n (zero, lt, e) = inl e
among (t ∷ ts) n (suc k, lt, e) = inr (among ts n (k, omega (arith, lt), e))

-- what is among its elements a list contains
pub contained : (ts : List ℕ) (n : ℕ) → Among ts n → Contains ts n
contained [] n h = elim h [ ]
contained (t ∷ ts) n (inl e) = (0, omega arith, e)
contained (t ∷ ts) n (inr h) = let r = contained ts n h in (suc r.0, omega (arith, r.1), r.2)

-- what holds of all elements holds of one among them
pub of_all : (P : ℕ → Type 0) (ts : List ℕ) → AllByRecursion P ts → (n : ℕ) → Among ts n → P n
of_all P [] all n h = elim h [ ]
of_all P (t ∷ ts) all n (inl e) = subst P e all.0
of_all P (t ∷ ts) all n (inr h) = of_all P ts all.1 n h

-- the numbers of temporaries
abbrev pub numbers_of : List ℕ → List ℕ
numbers_of [] = []
numbers_of (t ∷ ts) = (21 + t) ∷ numbers_of ts

-- the temporary of a number among them is among the temporaries
pub lower : (ts : List ℕ) (n : ℕ) → Among (numbers_of ts) n → Among ts (n - 21)
lower [] n h = elim h [ ]
lower (t ∷ ts) n (inl e) = inl (omega (arith, e))
lower (t ∷ ts) n (inr h) = inr (lower ts n h)

-- one value
pub some_same : (a b : ℕ) → Some a ≡ Some b → a ≡ b
some_same a b e = cc

-- no value is not a value
pub none_some : (n : ℕ) → None ≡ Some n → ⊥
none_some n e = cc

-- ---- the words of a group

-- A word reads temporaries that the step reads, or the one that it sets, where a word before has set it.
abbrev Uses : (x : IrStep) (done : Bool) → A64 ℕ → Type 0
Uses x done w = (n : ℕ) → 20 < n → Among (a64_operands numbers w) n → Among (step_reads x) (n - 21) ⊎ ((done ≡ true) × (step_sets x ≡ Some (n - 21)))

-- a word sets no temporary
abbrev SetsNone : A64 ℕ → Type 0
SetsNone w = (n : ℕ) → 20 < n → a64_result numbers w ≡ Some n → ⊥

-- words that read what the step reads, and set what it sets
pub data Fine (x : IrStep) : (done : Bool) → List (A64 ℕ) → Type 0 where
  nothing : step_sets x ≡ None → Fine x false []
  finished : Fine x true []
  passes : {done : Bool} {w : A64 ℕ} {ws : List (A64 ℕ)} → Uses x done w → SetsNone w → Fine x done ws → Fine x done (w ∷ ws)
  sets : {done : Bool} {w : A64 ℕ} {ws : List (A64 ℕ)} (t : ℕ) → Uses x done w → step_sets x ≡ Some t → a64_result numbers w ≡ Some (21 + t) → Fine x true ws → Fine x done (w ∷ ws)

-- a word of a group has the number as its result or as an operand
abbrev pub OccursIn : List (A64 ℕ) → ℕ → Type 0
OccursIn [] n = ⊥
OccursIn (w ∷ ws) n = (a64_result numbers w ≡ Some n) ⊎ (Contains (a64_operands numbers w) n ⊎ OccursIn ws n)

-- the word of a result that is the step's
set_here : (x : IrStep) (t n : ℕ) (one : Option ℕ) → step_sets x ≡ Some t → one ≡ Some (21 + t) → one ≡ Some n → step_sets x ≡ Some (n - 21)
set_here x t n one is_set result here =
    let e : 21 + t ≡ n = some_same (21 + t) n (sym result ∙ here) in
    let same : t ≡ n - 21 = omega (arith, e) in
    is_set ∙ ap Some same

-- what a group sets, the step sets
pub group_sets : (x : IrStep) (n : ℕ) → 20 < n → {done : Bool} {ws : List (A64 ℕ)} → Fine x done ws → IsSetIn ws n → step_sets x ≡ Some (n - 21)
group_sets x n high (nothing none) h = elim h [ ]
group_sets x n high finished h = elim h [ ]
group_sets x n high (passes uses none fine) (inl e) = absurd (none n high e)
group_sets x n high (passes uses none fine) (inr h) = group_sets x n high fine h
group_sets x n high (sets {w = w} t uses is_set result fine) (inl e) = set_here x t n (a64_result numbers w) is_set result e
group_sets x n high (sets t uses is_set result fine) (inr h) = group_sets x n high fine h

-- what occurs in a group, the step reads or sets
pub group_uses : (x : IrStep) (n : ℕ) → 20 < n → {done : Bool} {ws : List (A64 ℕ)} → Fine x done ws → OccursIn ws n → (step_sets x ≡ Some (n - 21)) ⊎ Among (step_reads x) (n - 21)
group_uses x n high (nothing none) h = elim h [ ]
group_uses x n high finished h = elim h [ ]
group_uses x n high (passes uses none fine) (inl e) = absurd (none n high e)
group_uses x n high (passes {w = w} uses none fine) (inr (inl h)) = elim (uses n high (among (a64_operands numbers w) n h)) [ inl r ↦ inr r | inr r ↦ inl r.1 ]
group_uses x n high (passes uses none fine) (inr (inr h)) = group_uses x n high fine h
group_uses x n high (sets {w = w} t uses is_set result fine) (inl e) = inl (set_here x t n (a64_result numbers w) is_set result e)
group_uses x n high (sets {w = w} t uses is_set result fine) (inr (inl h)) = elim (uses n high (among (a64_operands numbers w) n h)) [ inl r ↦ inr r | inr r ↦ inl r.1 ]
group_uses x n high (sets t uses is_set result fine) (inr (inr h)) = group_uses x n high fine h

-- no word of a group branches
abbrev Straight : List (A64 ℕ) → Type 0
Straight ws = AllByRecursion (λ w. a64_skip w ≡ 0) ws

module _ (fin : AEnd ℕ) (x : IrStep) (n : ℕ) (high : 20 < n) (rest : List (A64 ℕ)) where
  -- the step reads the temporary, or it is read first behind the step, which does not set it
  abbrev pub ReadsFirst : Type 0
  ReadsFirst = Among (step_reads x) (n - 21) ⊎ ((step_sets x ≡ Some (n - 21) → ⊥) × IsReadFirst fin rest 0 n)

  -- a word that does not branch goes on with the next
  on : (w : A64 ℕ) (ws : List (A64 ℕ)) → a64_skip w ≡ 0 → IsReadFirst fin ws 0 n ⊎ IsReadFirst fin ws (a64_skip w) n → IsReadFirst fin ws 0 n
  on w ws plain (inl h) = h
  on w ws plain (inr h) = subst (λ k. IsReadFirst fin ws k n) plain h

  -- one word: it reads the number, or does not set it and the number is read behind it
  word_read : (w : A64 ℕ) (done : Bool) (ws : List (A64 ℕ)) → Uses x done w → a64_skip w ≡ 0 → (done ≡ true → step_sets x ≡ Some (n - 21) → ⊥)
      → ((a64_result numbers w ≡ Some n → ⊥) → IsReadFirst fin ws 0 n → ReadsFirst) → IsReadFirst fin (w ∷ ws) 0 n → ReadsFirst
  word_read w done ws uses plain apart later (inl h) = elim (uses n high (among (a64_operands numbers w) n h)) [ inl r ↦ inl r | inr r ↦ absurd (apart r.0 r.1) ]
  word_read w done ws uses plain apart later (inr h) = later h.0 (on w ws plain h.1)

  -- the words of a group that does not branch
  first_read : {done : Bool} {ws : List (A64 ℕ)} → Fine x done ws → Straight ws → (done ≡ true → step_sets x ≡ Some (n - 21) → ⊥) → IsReadFirst fin (ws ++ rest) 0 n → ReadsFirst
  first_read (nothing none) straight apart read = inr ((λ e. none_some (n - 21) (sym none ∙ e)), read)
  first_read finished straight apart read = inr (apart refl, read)
  first_read (passes {done = done} {w = w} {ws = ws} uses none fine) straight apart read =
      word_read w done (ws ++ rest) uses straight.0 apart (λ other later. first_read fine straight.1 apart later) read
  first_read (sets {done = done} {w = w} {ws = ws} t uses is_set result fine) straight apart read =
      word_read w done (ws ++ rest) uses straight.0 apart (λ other later. first_read fine straight.1 (λ d again. other (result ∙ ap Some (same t (some_same t (n - 21) (sym is_set ∙ again))))) later) read
    where
      same : (t : ℕ) → t ≡ n - 21 → 21 + t ≡ n
      same t e = omega (arith, e, high)

-- ---- the group of each step

-- a result up to the zero register's number is no temporary
low_result : (k n : ℕ) → k < 21 → 20 < n → Some k ≡ Some n → ⊥
low_result k n low high e = absurd (omega (arith, some_same k n e, low, high))

-- an operand up to that is none
low_operand : (k n : ℕ) → k < 21 → 20 < n → k ≡ n → ⊥
low_operand k n low high e = absurd (omega (arith, e, low, high))

-- one word that reads what the step reads and sets what it sets
one_fine : (x : IrStep) (w : A64 ℕ) (t : ℕ) → step_sets x ≡ Some t → a64_result numbers w ≡ Some (21 + t) → a64_operands numbers w ≡ numbers_of (step_reads x) → Fine x false (w ∷ [])
one_fine x w t is_set result operands = sets t (λ n high r. inl (lower (step_reads x) n (subst (λ l. Among l n) operands r))) is_set result finished

-- the words of a comparison
compare_fine : (op : IrOp) (t a b : Temp) (code : ℕ) → Fine (steps.Op op t a b) false (compare_words code (21 + t.0) (21 + a.0) (21 + b.0))
compare_fine op t a b code =
    passes (λ n high r. inl (lower (a.0 ∷ b.0 ∷ []) n r)) (λ n high e. low_result 20 n (omega arith) high e)
    (sets t.0 (λ n high r. elim r [ inl e ↦ absurd (low_operand 20 n (omega arith) high e) | inr s ↦ elim s [ inl e ↦ absurd (low_operand 20 n (omega arith) high e) | inr e ↦ elim e [ ] ] ]) refl refl finished)

-- an extension reads its first operand alone
first_fine : (op : IrOp) (t a b : Temp) (w : A64 ℕ) → a64_result numbers w ≡ Some (21 + t.0) → a64_operands numbers w ≡ (21 + a.0) ∷ [] → Fine (steps.Op op t a b) false (w ∷ [])
first_fine op t a b w result operands =
    sets t.0 (λ n high r. inl (elim (lower (a.0 ∷ []) n (subst (λ l. Among l n) operands r)) [ inl e ↦ inl e | inr e ↦ elim e [ ] ])) refl result finished

-- the words of an operation
op_fine : (last : ℕ) (op : IrOp) (t a b : Temp) → Fine (steps.Op op t a b) false (op_words last op (21 + t.0) (21 + a.0) (21 + b.0))
op_fine last ops.Mul t a b =
    sets t.0 (λ n high r. elim r [ ]) refl refl
    (sets t.0 (λ n high r. elim r [ inl e ↦ inl (inl (omega (arith, e))) | inr s ↦ elim s [ inl e ↦ inl (inr (inl (omega (arith, e)))) | inr u ↦ elim u [ inl e ↦ inr (refl, ap Some (omega (arith, e))) | inr e ↦ elim e [ ] ] ] ]) refl refl finished)
op_fine last ops.Eq t a b = compare_fine ops.Eq t a b 1
op_fine last ops.LessU t a b = compare_fine ops.LessU t a b 2
op_fine last ops.LessS t a b = compare_fine ops.LessS t a b 10
op_fine last ops.ZeroExt t a b = first_fine ops.ZeroExt t a b (words.Ubfm true (21 + t.0) (21 + a.0) 0 last) refl refl
op_fine last ops.SignExt t a b = first_fine ops.SignExt t a b (words.Sbfm true (21 + t.0) (21 + a.0) 0 last) refl refl
op_fine last ops.Add t a b = one_fine (steps.Op ops.Add t a b) (words.Add true (21 + t.0) (21 + a.0) (21 + b.0) 0 0) t.0 refl refl refl
op_fine last ops.Sub t a b = one_fine (steps.Op ops.Sub t a b) (words.Sub true (21 + t.0) (21 + a.0) (21 + b.0) 0 0) t.0 refl refl refl
op_fine last ops.And t a b = one_fine (steps.Op ops.And t a b) (words.And true (21 + t.0) (21 + a.0) (21 + b.0) 0 0) t.0 refl refl refl
op_fine last ops.Or t a b = one_fine (steps.Op ops.Or t a b) (words.Orr true (21 + t.0) (21 + a.0) (21 + b.0) 0 0) t.0 refl refl refl
op_fine last ops.Xor t a b = one_fine (steps.Op ops.Xor t a b) (words.Eor true (21 + t.0) (21 + a.0) (21 + b.0) 0 0) t.0 refl refl refl
op_fine last ops.Shl t a b = one_fine (steps.Op ops.Shl t a b) (words.Lslv true (21 + t.0) (21 + a.0) (21 + b.0)) t.0 refl refl refl
op_fine last ops.Shr t a b = one_fine (steps.Op ops.Shr t a b) (words.Lsrv true (21 + t.0) (21 + a.0) (21 + b.0)) t.0 refl refl refl
op_fine last ops.Sar t a b = one_fine (steps.Op ops.Sar t a b) (words.Asrv true (21 + t.0) (21 + a.0) (21 + b.0)) t.0 refl refl refl
op_fine last ops.Ror t a b = one_fine (steps.Op ops.Ror t a b) (words.Rorv true (21 + t.0) (21 + a.0) (21 + b.0)) t.0 refl refl refl
op_fine last ops.HighU t a b = one_fine (steps.Op ops.HighU t a b) (words.Umulh (21 + t.0) (21 + a.0) (21 + b.0)) t.0 refl refl refl
op_fine last ops.HighS t a b = one_fine (steps.Op ops.HighS t a b) (words.Smulh (21 + t.0) (21 + a.0) (21 + b.0)) t.0 refl refl refl
op_fine last ops.DivU t a b = one_fine (steps.Op ops.DivU t a b) (words.Udiv true (21 + t.0) (21 + a.0) (21 + b.0)) t.0 refl refl refl
op_fine last ops.DivS t a b = one_fine (steps.Op ops.DivS t a b) (words.Sdiv true (21 + t.0) (21 + a.0) (21 + b.0)) t.0 refl refl refl

-- a quarter goes into the number that was begun
quarter_fine : (t : Temp) (v bits k : ℕ) (ws : List (A64 ℕ)) → Fine (steps.Const t v) true ws → Fine (steps.Const t v) true (quarter_word bits (21 + t.0) v k ++ ws)
quarter_fine t v bits k ws fine = by (quarter_of v k == bits)
  where
    by : (b : Bool) → Fine (steps.Const t v) true ((if b then [] else words.Movk true (21 + t.0) (quarter_of v k) k ∷ []) ++ ws)
    by true = fine
    by false = sets t.0 (λ n high r. elim r [ inl e ↦ inr (refl, ap Some (omega (arith, e))) | inr e ↦ elim e [ ] ]) refl refl fine

-- the words of the upper quarters
upper_fine : (t : Temp) (v bits : ℕ) → Fine (steps.Const t v) true (upper_words bits (21 + t.0) v)
upper_fine t v bits =
    quarter_fine t v bits 1 (quarter_word bits (21 + t.0) v 2 ++ quarter_word bits (21 + t.0) v 3)
    (quarter_fine t v bits 2 (quarter_word bits (21 + t.0) v 3)
    (subst (λ l. Fine (steps.Const t v) true l) (append-nil (quarter_word bits (21 + t.0) v 3)) (quarter_fine t v bits 3 [] finished)))

-- the words of a number
number_fine : (t : Temp) (v : ℕ) → Fine (steps.Const t v) false (number_words (21 + t.0) v)
number_fine t v = by (nat_le (quarters_not 0 v) (quarters_not 0xFFFF v))
  where
    by : (b : Bool) → Fine (steps.Const t v) false (if b then words.Movz true (21 + t.0) (v % 2 ^ 16) 0 ∷ upper_words 0 (21 + t.0) v else words.Movn true (21 + t.0) (0xFFFF - v % 2 ^ 16) 0 ∷ upper_words 0xFFFF (21 + t.0) v)
    by true = sets t.0 (λ n high r. elim r [ ]) refl refl (upper_fine t v 0)
    by false = sets t.0 (λ n high r. elim r [ ]) refl refl (upper_fine t v 0xFFFF)

-- a number that stands alone behind zero
behind_zero : (x : IrStep) (k n : ℕ) → 20 < n → (k ≡ n → Among (step_reads x) (n - 21)) → Among (20 ∷ k ∷ []) n → Among (step_reads x) (n - 21)
behind_zero x k n high reads (inl e) = absurd (low_operand 20 n (omega arith) high e)
behind_zero x k n high reads (inr (inl e)) = reads e
behind_zero x k n high reads (inr (inr e)) = elim e [ ]

-- the word of a locked step
locked_fine : (op : RmwOp) (t a v : Temp) (size place : ℕ) (w : A64 ℕ) → a64_result numbers w ≡ Some (21 + t.0) → a64_operands numbers w ≡ (21 + v.0) ∷ (21 + a.0) ∷ []
    → Fine (steps.Rmw op t a v size place) false (w ∷ [])
locked_fine op t a v size place w result operands =
    sets t.0 (λ n high r. inl (by n (subst (λ l. Among l n) operands r))) refl result finished
  where
    by : (n : ℕ) → Among ((21 + v.0) ∷ (21 + a.0) ∷ []) n → Among (a.0 ∷ v.0 ∷ []) (n - 21)
    by n (inl e) = inr (inl (omega (arith, e)))
    by n (inr (inl e)) = inl (omega (arith, e))
    by n (inr (inr e)) = elim e [ ]

-- the registers and flags of a step are in range
abbrev pub IsLow : IrStep → Type 0
IsLow (steps.GetReg t r) = r < 16
IsLow (steps.SetReg r t) = r < 16
IsLow (steps.GetFlag t f) = f < 4
IsLow (steps.SetFlag f t) = f < 4
IsLow x = Unit {0}

-- the group of a step reads what the step reads, and sets what it sets
pub group_fine : (last : ℕ → ℕ) (x : IrStep) → IsLow x → Fine x false (group_of last x)
group_fine last (steps.Const t v) range = number_fine t v
group_fine last (steps.GetReg t r) range =
    sets t.0 (λ n high h. inl (behind_zero (steps.GetReg t r) r n high (λ e. absurd (omega (arith, e, range, high))) h)) refl refl finished
group_fine last (steps.SetReg r t) range =
    passes (λ n high h. inl (behind_zero (steps.SetReg r t) (21 + t.0) n high (λ e. inl (omega (arith, e))) h)) (λ n high e. low_result r n (omega (arith, range)) high e) (nothing refl)
group_fine last (steps.GetFlag t f) range =
    sets t.0 (λ n high h. inl (behind_zero (steps.GetFlag t f) (16 + f) n high (λ e. absurd (omega (arith, e, range, high))) h)) refl refl finished
group_fine last (steps.SetFlag f t) range =
    passes (λ n high h. inl (behind_zero (steps.SetFlag f t) (21 + t.0) n high (λ e. inl (omega (arith, e))) h)) (λ n high e. low_result (16 + f) n (omega (arith, range)) high e) (nothing refl)
group_fine last (steps.Op op t a b) range = op_fine (last b.0) op t a b
group_fine last (steps.Select t c a b) range =
    passes (λ n high h. inl (elim h [ inl e ↦ inl (omega (arith, e)) | inr u ↦ elim u [ inl e ↦ absurd (low_operand 20 n (omega arith) high e) | inr e ↦ elim e [ ] ] ])) (λ n high e. low_result 20 n (omega arith) high e)
    (sets t.0 (λ n high h. inl (inr (lower (a.0 ∷ b.0 ∷ []) n h))) refl refl finished)
group_fine last (steps.Load t a size place) range = one_fine (steps.Load t a size place) (words.Ldr size (21 + t.0) (21 + a.0) 0) t.0 refl refl refl
group_fine last (steps.Store a v size place) range =
    passes (λ n high h. inl (elim h [ inl e ↦ inr (inl (omega (arith, e))) | inr u ↦ elim u [ inl e ↦ inl (omega (arith, e)) | inr e ↦ elim e [ ] ] ])) (λ n high e. none_some n e) (nothing refl)
group_fine last (steps.Rmw rmw.Swap t a v size place) range = locked_fine rmw.Swap t a v size place (words.Swp size (21 + v.0) (21 + t.0) (21 + a.0)) refl refl
group_fine last (steps.Rmw rmw.Add t a v size place) range = locked_fine rmw.Add t a v size place (words.Ldadd size (21 + v.0) (21 + t.0) (21 + a.0)) refl refl
group_fine last (steps.Rmw rmw.Clear t a v size place) range = locked_fine rmw.Clear t a v size place (words.Ldclr size (21 + v.0) (21 + t.0) (21 + a.0)) refl refl
group_fine last (steps.Rmw rmw.Flip t a v size place) range = locked_fine rmw.Flip t a v size place (words.Ldeor size (21 + v.0) (21 + t.0) (21 + a.0)) refl refl
group_fine last (steps.Rmw rmw.Set t a v size place) range = locked_fine rmw.Set t a v size place (words.Ldset size (21 + v.0) (21 + t.0) (21 + a.0)) refl refl
group_fine last (steps.Cas t a e v size place) range =
    sets t.0 (λ n high h. inl (behind_zero (steps.Cas t a e v size place) (21 + e.0) n high (λ same. inr (inl (omega (arith, same)))) h)) refl refl
    (sets t.0 (λ n high h. elim h [ inl same ↦ inr (refl, ap Some (omega (arith, same))) | inr u ↦ elim u [ inl same ↦ inl (inr (inr (inl (omega (arith, same))))) | inr w ↦ elim w [ inl same ↦ inl (inl (omega (arith, same))) | inr none ↦ elim none [ ] ] ] ]) refl refl finished)
group_fine last (steps.Fence fences.Frm) range = passes (λ n high h. elim h [ ]) (λ n high e. none_some n e) (nothing refl)
group_fine last (steps.Fence fences.Fww) range = passes (λ n high h. elim h [ ]) (λ n high e. none_some n e) (nothing refl)
group_fine last (steps.Fence fences.Fsc) range = passes (λ n high h. elim h [ ]) (λ n high e. none_some n e) (nothing refl)
group_fine last steps.Input range = passes (λ n high h. elim h [ inl e ↦ absurd (low_operand 7 n (omega arith) high e) | inr e ↦ elim e [ ] ]) (λ n high e. low_result 0 n (omega arith) high e) (nothing refl)
group_fine last steps.Output range = passes (λ n high h. elim h [ inl e ↦ absurd (low_operand 7 n (omega arith) high e) | inr e ↦ elim e [ ] ]) (λ n high e. none_some n e) (nothing refl)
group_fine last (steps.TrapIf t kind) range =
    passes (λ n high h. inl (lower (t.0 ∷ []) n h)) (λ n high e. none_some n e) (passes (λ n high h. elim h [ ]) (λ n high e. none_some n e) (nothing refl))

-- ---- groups that do not branch

-- the word of a quarter does not branch
quarter_straight : (bits d v k : ℕ) (ws : List (A64 ℕ)) → Straight ws → Straight (quarter_word bits d v k ++ ws)
quarter_straight bits d v k ws straight = by (quarter_of v k == bits)
  where
    by : (b : Bool) → Straight ((if b then [] else words.Movk true d (quarter_of v k) k ∷ []) ++ ws)
    by true = straight
    by false = (refl, straight)

-- nor do those of the upper quarters
upper_straight : (bits d v : ℕ) → Straight (upper_words bits d v)
upper_straight bits d v =
    quarter_straight bits d v 1 (quarter_word bits d v 2 ++ quarter_word bits d v 3) (quarter_straight bits d v 2 (quarter_word bits d v 3)
    (subst Straight (append-nil (quarter_word bits d v 3)) (quarter_straight bits d v 3 [] tt)))

-- nor do those of a number
number_straight : (d v : ℕ) → Straight (number_words d v)
number_straight d v = by (nat_le (quarters_not 0 v) (quarters_not 0xFFFF v))
  where
    by : (b : Bool) → Straight (if b then words.Movz true d (v % 2 ^ 16) 0 ∷ upper_words 0 d v else words.Movn true d (0xFFFF - v % 2 ^ 16) 0 ∷ upper_words 0xFFFF d v)
    by true = (refl, upper_straight 0 d v)
    by false = (refl, upper_straight 0xFFFF d v)

-- nor do those of an operation
op_straight : (last : ℕ) (op : IrOp) (d a b : ℕ) → Straight (op_words last op d a b)
op_straight last ops.Mul d a b = (refl, (refl, tt))
op_straight last ops.Eq d a b = (refl, (refl, tt))
op_straight last ops.LessU d a b = (refl, (refl, tt))
op_straight last ops.LessS d a b = (refl, (refl, tt))
op_straight last op d a b = (refl, tt)

-- nor does that of a locked step
locked_straight : (op : RmwOp) (size v d a : ℕ) → Straight (rmw_word op size v d a ∷ [])
locked_straight rmw.Swap size v d a = (refl, tt)
locked_straight op size v d a = (refl, tt)

-- nor does a barrier
fence_straight : (f : IrFence) → Straight (barrier_word f ∷ [])
fence_straight fences.Frm = (refl, tt)
fence_straight f = (refl, tt)

-- false is not true
false_true : false ≡ true → ⊥
false_true e = cc

-- A number that is read first in a group or behind it: the step reads it, or it is read first behind the step.
module _ (fin : AEnd ℕ) (last : ℕ → ℕ) (n : ℕ) (high : 20 < n) (rest : List (A64 ℕ)) where
  -- a group that does not branch
  straight_first : (x : IrStep) → IsLow x → Straight (group_of last x) → IsReadFirst fin (group_of last x ++ rest) 0 n → ReadsFirst fin x n high rest
  straight_first x range straight read = first_read fin x n high rest (group_fine last x range) straight (λ e again. false_true e) read

  -- on both ways of a trap the rest comes behind it
  trap_first : IsReadFirst fin rest 0 n ⊎ IsReadFirst fin rest 0 n → IsReadFirst fin rest 0 n
  trap_first (inl h) = h
  trap_first (inr h) = h

  -- each group
  pub group_first : (x : IrStep) → IsLow x → IsReadFirst fin (group_of last x ++ rest) 0 n → ReadsFirst fin x n high rest
  group_first (steps.TrapIf t kind) range (inl h) = inl (lower (t.0 ∷ []) n (among ((21 + t.0) ∷ []) n h))
  group_first (steps.TrapIf t kind) range (inr (other, inl (inl h))) = elim (among [] n h) [ ]
  group_first (steps.TrapIf t kind) range (inr (other, inl (inr h))) = inr (none_some (n - 21), trap_first h.1)
  group_first (steps.TrapIf t kind) range (inr (other, inr h)) = inr (none_some (n - 21), h)
  group_first (steps.Const t v) range read = straight_first (steps.Const t v) range (number_straight (21 + t.0) v) read
  group_first (steps.Op op t a b) range read = straight_first (steps.Op op t a b) range (op_straight (last b.0) op (21 + t.0) (21 + a.0) (21 + b.0)) read
  group_first (steps.Select t c a b) range read = straight_first (steps.Select t c a b) range (refl, (refl, tt)) read
  group_first (steps.Cas t a e v size place) range read = straight_first (steps.Cas t a e v size place) range (refl, (refl, tt)) read
  group_first (steps.Rmw op t a v size place) range read = straight_first (steps.Rmw op t a v size place) range (locked_straight op size (21 + v.0) (21 + t.0) (21 + a.0)) read
  group_first (steps.Fence f) range read = straight_first (steps.Fence f) range (fence_straight f) read
  group_first (steps.GetReg t r) range read = straight_first (steps.GetReg t r) range (refl, tt) read
  group_first (steps.SetReg r t) range read = straight_first (steps.SetReg r t) range (refl, tt) read
  group_first (steps.GetFlag t f) range read = straight_first (steps.GetFlag t f) range (refl, tt) read
  group_first (steps.SetFlag f t) range read = straight_first (steps.SetFlag f t) range (refl, tt) read
  group_first (steps.Load t a size place) range read = straight_first (steps.Load t a size place) range (refl, tt) read
  group_first (steps.Store a v size place) range read = straight_first (steps.Store a v size place) range (refl, tt) read
  group_first steps.Input range read = straight_first steps.Input range (refl, tt) read
  group_first steps.Output range read = straight_first steps.Output range (refl, tt) read
