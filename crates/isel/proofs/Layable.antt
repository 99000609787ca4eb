-- The words of a block can be laid out, whatever registers their numbers get.
use Rattle.std.proofs.Common.{◌≡◌, ◌≢◌, ℕ, ◌+◌, ◌-◌, ◌%◌, ◌^◌, ◌<◌, ◌≤◌, ◌==◌, Bool, true, false, List, [], ◌∷◌, ◌++◌, map, inl, inr, refl, sym, subst, arith, length-append}
use Rattle.std.specs.Prelude.{if◌then◌else◌, nat_le}
use Rattle.std.specs.List.{AllByRecursion}
use Rattle.std.proofs.lemmas.Int.{ints}
use Rattle.std.proofs.lemmas.List.{map-append}
use Rattle.std.proofs.lemmas.Bool.{eqb-true}
use Rattle.ev_graph.specs.declared.events.TrapKind.{TrapKind}
use Rattle.ev_graph.specs.declared.events.TrapKind.TheVariants as kinds
use Rattle.behavior.proofs.Lists.{all_append}
use Rattle.limm_ir.specs.Costs.{quarter_of, quarters_not}
use Rattle.limm_ir.specs.Conditions.{Known, Unset, Set, Constant, IsExtended, HasConstant, InRange, IsWell, learn}
use Rattle.limm_ir.specs.declared.block.IrEnd.{IrEnd}
use Rattle.limm_ir.specs.declared.block.IrEnd.TheVariants as ends
use Rattle.limm_ir.specs.declared.step.IrOp.{IrOp}
use Rattle.limm_ir.specs.declared.step.IrOp.TheVariants as ops
use Rattle.limm_ir.specs.declared.step.IrFence.TheVariants as fences
use Rattle.limm_ir.specs.declared.step.RmwOp.TheVariants as rmw
use Rattle.limm_ir.specs.declared.step.IrStep.{IrStep}
use Rattle.limm_ir.specs.declared.step.IrStep.TheVariants as steps
use Rattle.a64_code.specs.declared.instr.XReg.{XReg}
use Rattle.a64_code.specs.declared.instr.A64.{A64}
use Rattle.a64_code.specs.declared.instr.A64.TheVariants as words
use Rattle.a64_code.specs.Ranges.{IsRegister, IsOperand, IsEncodable}
use Rattle.a64_table.specs.Rows.{IsForward}
use Rattle.a64_block.specs.Breaks.{break_of}
use Rattle.a64_block.specs.Conditions.{StaysInside, EndsOnRegisters, IsLayable, a64_skip, some_register}
use Rattle.a64_block.specs.Renamed.{renamed, renamed_end}
use Rattle.isel.specs.Groups.{last_bit, quarter_word, upper_words, number_words, compare_words, op_words, group_of, selected, selected_end}

-- words over registers that can be laid out, whatever comes behind them
abbrev Lays : List (A64 XReg) → Type 0
Lays ws = AllByRecursion IsEncodable ws × AllByRecursion IsForward ws × StaysInside ws

-- the words of a group, each number in some register
abbrev LaysOut : List (A64 ℕ) → Type 0
LaysOut ws = Lays (map (renamed some_register) ws)

-- no branch leads beyond joined words
inside_append : (xs ys : List (A64 XReg)) → StaysInside xs → StaysInside ys → StaysInside (xs ++ ys)
inside_append [] ys first second = second
inside_append (x ∷ xs) ys first second = (omega (arith, first.0, length-append xs ys), inside_append xs ys first.1 second)

-- joined groups can be laid out
lays_append : (xs ys : List (A64 ℕ)) → LaysOut xs → LaysOut ys → LaysOut (xs ++ ys)
lays_append xs ys first second =
    let f = renamed some_register in
    subst (λ ws. Lays ws) (sym (map-append f xs ys))
    (all_append IsEncodable (map f xs) (map f ys) first.0 second.0, all_append IsForward (map f xs) (map f ys) first.1 second.1, inside_append (map f xs) (map f ys) first.2 second.2)

-- ---- registers of numbers

-- a number other than zero's has a register
reg : (n : ℕ) → n ≢ 20 → IsRegister (some_register n)
reg n apart = by (n == 20) refl
  where
    by : (b : Bool) → (n == 20) ≡ b → IsRegister (record { number = if b then 31 else 0 })
    by true e = absurd (apart (eqb-true n 20 e))
    by false e = (omega arith, λ same. absurd (omega (arith, same)))

-- each number has a register or is zero's
operand : (n : ℕ) → IsOperand (some_register n)
operand n = by (n == 20)
  where
    by : (b : Bool) → IsOperand (record { number = if b then 31 else 0 })
    by true = inr refl
    by false = inl (omega arith, λ same. absurd (omega (arith, same)))

-- a temporary, a register of x86 and a flag
temp : (t : ℕ) → IsRegister (some_register (21 + t))
temp t = reg (21 + t) (λ e. absurd (omega (arith, e)))

-- ---- groups

-- one word that does not branch
single : (w : A64 ℕ) → IsEncodable (renamed some_register w) → IsForward (renamed some_register w) → a64_skip (renamed some_register w) ≡ 0 → LaysOut (w ∷ [])
single w encodable forward plain = ((encodable, tt), (forward, tt), (omega (arith, plain), tt))

-- the last bit of an extension
last_small : (k : Known) → IsExtended k → last_bit k < 64
last_small Unset extended = elim extended [ ]
last_small Set extended = elim extended [ ]
last_small (Constant n) (inl e) = omega (arith, e)
last_small (Constant n) (inr (inl e)) = omega (arith, e)
last_small (Constant n) (inr (inr e)) = omega (arith, e)

-- two words that do not branch
double : (w u : A64 ℕ) → IsEncodable (renamed some_register w) → IsForward (renamed some_register w) → a64_skip (renamed some_register w) ≡ 0
    → IsEncodable (renamed some_register u) → IsForward (renamed some_register u) → a64_skip (renamed some_register u) ≡ 0 → LaysOut (w ∷ u ∷ [])
double w u encodable forward plain encodable' forward' plain' = lays_append (w ∷ []) (u ∷ []) (single w encodable forward plain) (single u encodable' forward' plain')

-- no shift
no_shift : (0 < 3) × (0 < 64)
no_shift = (omega arith, omega arith)

-- the word of a quarter
quarter_lays : (bits t v k : ℕ) → k < 4 → LaysOut (quarter_word bits (21 + t) v k)
quarter_lays bits t v k few = by (quarter_of v k == bits)
  where
    by : (b : Bool) → LaysOut (if b then [] else words.Movk true (21 + t) (quarter_of v k) k ∷ [])
    by true = (tt, tt, tt)
    by false = single (words.Movk true (21 + t) (quarter_of v k) k) (temp t, (omega arith, few)) tt refl

-- the words of the upper quarters
upper_lays : (bits t v : ℕ) → LaysOut (upper_words bits (21 + t) v)
upper_lays bits t v =
    lays_append (quarter_word bits (21 + t) v 1) (quarter_word bits (21 + t) v 2 ++ quarter_word bits (21 + t) v 3) (quarter_lays bits t v 1 (omega arith))
    (lays_append (quarter_word bits (21 + t) v 2) (quarter_word bits (21 + t) v 3) (quarter_lays bits t v 2 (omega arith)) (quarter_lays bits t v 3 (omega arith)))

-- the words of a number
number_lays : (t v : ℕ) → LaysOut (number_words (21 + t) v)
number_lays t v = by (nat_le (quarters_not 0 v) (quarters_not 0xFFFF v))
  where
    by : (b : Bool) → LaysOut (if b then words.Movz true (21 + t) (v % 2 ^ 16) 0 ∷ upper_words 0 (21 + t) v else words.Movn true (21 + t) (0xFFFF - v % 2 ^ 16) 0 ∷ upper_words 0xFFFF (21 + t) v)
    by true = lays_append (words.Movz true (21 + t) (v % 2 ^ 16) 0 ∷ []) (upper_words 0 (21 + t) v) (single (words.Movz true (21 + t) (v % 2 ^ 16) 0) (temp t, (omega arith, omega arith)) tt refl) (upper_lays 0 t v)
    by false = lays_append (words.Movn true (21 + t) (0xFFFF - v % 2 ^ 16) 0 ∷ []) (upper_words 0xFFFF (21 + t) v) (single (words.Movn true (21 + t) (0xFFFF - v % 2 ^ 16) 0) (temp t, (omega arith, omega arith)) tt refl) (upper_lays 0xFFFF t v)

-- the words of a comparison
compare_lays : (code t a b : ℕ) → code < 14 → LaysOut (compare_words code (21 + t) (21 + a) (21 + b))
compare_lays code t a b low =
    double (words.Subs true 20 (21 + a) (21 + b) 0 0) (words.Csinc true (21 + t) 20 20 code) (inr refl, operand (21 + a), operand (21 + b), no_shift) tt refl (temp t, inr refl, inr refl, low) tt refl

-- the words of an operation
op_lays : (k : Known) (op : IrOp) (t a b : ℕ) → HasConstant op k → LaysOut (op_words (last_bit k) op (21 + t) (21 + a) (21 + b))
op_lays k ops.Add t a b has = single (words.Add true (21 + t) (21 + a) (21 + b) 0 0) (temp t, operand (21 + a), operand (21 + b), no_shift) tt refl
op_lays k ops.Sub t a b has = single (words.Sub true (21 + t) (21 + a) (21 + b) 0 0) (temp t, operand (21 + a), operand (21 + b), no_shift) tt refl
op_lays k ops.And t a b has = single (words.And true (21 + t) (21 + a) (21 + b) 0 0) (temp t, operand (21 + a), operand (21 + b), no_shift) tt refl
op_lays k ops.Or t a b has = single (words.Orr true (21 + t) (21 + a) (21 + b) 0 0) (temp t, operand (21 + a), operand (21 + b), no_shift) tt refl
op_lays k ops.Xor t a b has = single (words.Eor true (21 + t) (21 + a) (21 + b) 0 0) (temp t, operand (21 + a), operand (21 + b), no_shift) tt refl
op_lays k ops.Shl t a b has = single (words.Lslv true (21 + t) (21 + a) (21 + b)) (temp t, operand (21 + a), operand (21 + b)) tt refl
op_lays k ops.Shr t a b has = single (words.Lsrv true (21 + t) (21 + a) (21 + b)) (temp t, operand (21 + a), operand (21 + b)) tt refl
op_lays k ops.Sar t a b has = single (words.Asrv true (21 + t) (21 + a) (21 + b)) (temp t, operand (21 + a), operand (21 + b)) tt refl
op_lays k ops.Ror t a b has = single (words.Rorv true (21 + t) (21 + a) (21 + b)) (temp t, operand (21 + a), operand (21 + b)) tt refl
op_lays k ops.Mul t a b has = double (words.Movz true (21 + t) 0 0) (words.Madd true (21 + t) (21 + a) (21 + b) (21 + t)) (temp t, (omega arith, omega arith)) tt refl (temp t, operand (21 + a), operand (21 + b), temp t) tt refl
op_lays k ops.HighU t a b has = single (words.Umulh (21 + t) (21 + a) (21 + b)) (temp t, operand (21 + a), operand (21 + b)) tt refl
op_lays k ops.HighS t a b has = single (words.Smulh (21 + t) (21 + a) (21 + b)) (temp t, operand (21 + a), operand (21 + b)) tt refl
op_lays k ops.DivU t a b has = single (words.Udiv true (21 + t) (21 + a) (21 + b)) (temp t, operand (21 + a), operand (21 + b)) tt refl
op_lays k ops.DivS t a b has = single (words.Sdiv true (21 + t) (21 + a) (21 + b)) (temp t, operand (21 + a), operand (21 + b)) tt refl
op_lays k ops.Eq t a b has = compare_lays 1 t a b (omega arith)
op_lays k ops.LessU t a b has = compare_lays 2 t a b (omega arith)
op_lays k ops.LessS t a b has = compare_lays 10 t a b (omega arith)
op_lays k ops.ZeroExt t a b has = single (words.Ubfm true (21 + t) (21 + a) 0 (last_bit k)) (temp t, temp a, omega arith, last_small k has) tt refl
op_lays k ops.SignExt t a b has = single (words.Sbfm true (21 + t) (21 + a) 0 (last_bit k)) (temp t, temp a, omega arith, last_small k has) tt refl

-- a copy into a number that has a register
copy_lays : (d n : ℕ) → IsRegister (some_register d) → LaysOut (words.Orr true d 20 n 0 0 ∷ [])
copy_lays d n named = single (words.Orr true d 20 n 0 0) (named, inr refl, operand n, no_shift) tt refl

-- a trap has a number that BRK has
trap_lays : (kind : TrapKind) → (1 ≤ break_of kind) × (break_of kind ≤ 4)
trap_lays kinds.BadAccess = (omega arith, omega arith)
trap_lays kinds.Divide = (omega arith, omega arith)
trap_lays kinds.Invalid = (omega arith, omega arith)
trap_lays kinds.BadReturn = (omega arith, omega arith)
trap_lays kinds.BadJump = (omega arith, omega arith)

-- the group of each step
group_lays : (known : ℕ → Known) (x : IrStep) → InRange known x → LaysOut (group_of (λ t. last_bit (known t)) x)
group_lays known (steps.Const t v) range = number_lays t.0 v
group_lays known (steps.GetReg t r) range = copy_lays (21 + t.0) r (temp t.0)
group_lays known (steps.SetReg r t) range = copy_lays r (21 + t.0) (reg r (λ e. absurd (omega (arith, e, range))))
group_lays known (steps.GetFlag t f) range = copy_lays (21 + t.0) (16 + f) (temp t.0)
group_lays known (steps.SetFlag f t) range = copy_lays (16 + f) (21 + t.0) (reg (16 + f) (λ e. absurd (omega (arith, e, range))))
group_lays known (steps.Op op t a b) range = op_lays (known b.0) op t.0 a.0 b.0 range
group_lays known (steps.Select t c a b) range =
    double (words.Subs true 20 (21 + c.0) 20 0 0) (words.Csel true (21 + t.0) (21 + a.0) (21 + b.0) 1) (inr refl, operand (21 + c.0), inr refl, no_shift) tt refl
    (temp t.0, operand (21 + a.0), operand (21 + b.0), omega arith) tt refl
group_lays known (steps.Load t a size place) range = single (words.Ldr size (21 + t.0) (21 + a.0) 0) (range, temp t.0, temp a.0, omega arith) tt refl
group_lays known (steps.Store a v size place) range = single (words.Str size (21 + v.0) (21 + a.0) 0) (range, operand (21 + v.0), temp a.0, omega arith) tt refl
group_lays known (steps.Rmw rmw.Swap t a v size place) range = single (words.Swp size (21 + v.0) (21 + t.0) (21 + a.0)) (range, temp v.0, temp t.0, temp a.0) tt refl
group_lays known (steps.Rmw rmw.Add t a v size place) range = single (words.Ldadd size (21 + v.0) (21 + t.0) (21 + a.0)) (range, temp v.0, temp t.0, temp a.0) tt refl
group_lays known (steps.Rmw rmw.Clear t a v size place) range = single (words.Ldclr size (21 + v.0) (21 + t.0) (21 + a.0)) (range, temp v.0, temp t.0, temp a.0) tt refl
group_lays known (steps.Rmw rmw.Flip t a v size place) range = single (words.Ldeor size (21 + v.0) (21 + t.0) (21 + a.0)) (range, temp v.0, temp t.0, temp a.0) tt refl
group_lays known (steps.Rmw rmw.Set t a v size place) range = single (words.Ldset size (21 + v.0) (21 + t.0) (21 + a.0)) (range, temp v.0, temp t.0, temp a.0) tt refl
group_lays known (steps.Cas t a e v size place) range =
    lays_append (words.Orr true (21 + t.0) 20 (21 + e.0) 0 0 ∷ []) (words.Cas size (21 + t.0) (21 + v.0) (21 + a.0) ∷ []) (copy_lays (21 + t.0) (21 + e.0) (temp t.0))
    (single (words.Cas size (21 + t.0) (21 + v.0) (21 + a.0)) (range, temp t.0, temp v.0, temp a.0) tt refl)
group_lays known (steps.Fence fences.Frm) range = single words.DmbLd tt tt refl
group_lays known (steps.Fence fences.Fww) range = single words.DmbSt tt tt refl
group_lays known (steps.Fence fences.Fsc) range = single words.DmbFull tt tt refl
group_lays known steps.Input range = single (words.Svc 1) (omega arith, omega arith) tt refl
group_lays known steps.Output range = single (words.Svc 2) (omega arith, omega arith) tt refl
group_lays known (steps.TrapIf t kind) range =
    (((temp t.0, (omega (arith, ints), omega (arith, ints))), (trap_lays kind, tt)), ((1, refl, omega arith), (tt, tt)), (omega arith, (omega arith, tt)))

-- the words of steps can be laid out
selected_lays : (end : IrEnd) (known : ℕ → Known) (xs : List IrStep) → IsWell end known xs → LaysOut (selected known xs)
selected_lays end known [] well = (tt, tt, tt)
selected_lays end known (x ∷ xs) well =
    lays_append (group_of (λ t. last_bit (known t)) x) (selected (learn x known) xs) (group_lays known x well.1) (selected_lays end (learn x known) xs well.2)

-- the end reads registers of temporaries
end_lays : (end : IrEnd) → EndsOnRegisters (renamed_end some_register (selected_end end))
end_lays (ends.Goto a) = tt
end_lays (ends.Branch t a b) = (temp t.0, tt)
end_lays (ends.Return t) = (temp t.0, tt)
end_lays (ends.Indexed t table) = (temp t.0, tt)
end_lays (ends.Stop kind) = tt

-- a block can be laid out
pub selected_layable : (end : IrEnd) (known : ℕ → Known) (xs : List IrStep) → IsWell end known xs → IsLayable (map (renamed some_register) (selected known xs)) (renamed_end some_register (selected_end end))
selected_layable end known xs well =
    let lays = selected_lays end known xs well in
    record { encodable = lays.0; ends = end_lays end; forward = lays.1; inside = lays.2 }
