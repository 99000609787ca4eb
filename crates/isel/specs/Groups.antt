-- The group of words that stands for each step.
use Rattle.std.specs.Prelude.{ℕ, ◌+◌, ◌-◌, ◌*◌, ◌%◌, ◌^◌, ◌==◌, nat_le, pos, true, List, [], ◌∷◌, ◌++◌, if◌then◌else◌}
use Rattle.limm_ir.specs.Costs.{quarter_of, quarters_not}
use Rattle.limm_ir.specs.Conditions.{Known, Unset, Set, Constant, learn}
use Rattle.limm_ir.specs.declared.block.IrEnd.{IrEnd}
use Rattle.limm_ir.specs.declared.block.IrEnd.TheVariants as ends
use Rattle.limm_ir.specs.declared.step.IrFence.{IrFence}
use Rattle.limm_ir.specs.declared.step.IrFence.TheVariants as fences
use Rattle.limm_ir.specs.declared.step.IrOp.{IrOp}
use Rattle.limm_ir.specs.declared.step.IrOp.TheVariants as ops
use Rattle.limm_ir.specs.declared.step.RmwOp.{RmwOp}
use Rattle.limm_ir.specs.declared.step.RmwOp.TheVariants as rmw
use Rattle.limm_ir.specs.declared.step.IrStep.{IrStep}
use Rattle.limm_ir.specs.declared.step.IrStep.TheVariants as steps
use Rattle.limm_ir.specs.declared.step.Temp.{Temp}
use Rattle.a64_code.specs.declared.instr.A64.{A64}
use Rattle.a64_code.specs.declared.instr.A64.TheVariants as words
use Rattle.a64_block.specs.Breaks.{break_of}
use Rattle.a64_block.specs.declared.block.AEnd.{AEnd}
use Rattle.a64_block.specs.declared.block.AEnd.TheVariants as a_ends

-- the number of a temporary
abbrev pub number_of : Temp → ℕ
number_of t = 21 + t.0

-- a copy: the bits of zero and of a number
abbrev pub copy_word : (d n : ℕ) → A64 ℕ
copy_word d n = words.Orr true d 20 n 0 0

-- the word for an upper quarter, where its 16 bits are not those that stand there
abbrev pub quarter_word : (bits d v quarter : ℕ) → List (A64 ℕ)
quarter_word bits d v quarter = if quarter_of v quarter == bits then [] else words.Movk true d (quarter_of v quarter) quarter ∷ []

-- the words for the upper quarters
abbrev pub upper_words : (bits d v : ℕ) → List (A64 ℕ)
upper_words bits d v = quarter_word bits d v 1 ++ (quarter_word bits d v 2 ++ quarter_word bits d v 3)

-- The words that make a number: its lowest quarter under zeros, or under ones where fewer upper quarters then differ, and
-- the upper quarters that differ.
abbrev pub number_words : (d v : ℕ) → List (A64 ℕ)
number_words d v =
    if nat_le (quarters_not 0 v) (quarters_not 0xFFFF v)
    then words.Movz true d (v % 2 ^ 16) 0 ∷ upper_words 0 d v
    else words.Movn true d (0xFFFF - v % 2 ^ 16) 0 ∷ upper_words 0xFFFF d v

-- 1 where two numbers compare otherwise than by the condition of this code, else 0
abbrev pub compare_words : (code d a b : ℕ) → List (A64 ℕ)
compare_words code d a b = words.Subs true 20 a b 0 0 ∷ words.Csinc true d 20 20 code ∷ []

-- the words of an operation; an extension keeps the bits up to `last`
abbrev pub op_words : (last : ℕ) → IrOp → (d a b : ℕ) → List (A64 ℕ)
op_words last ops.Add d a b = words.Add true d a b 0 0 ∷ []
op_words last ops.Sub d a b = words.Sub true d a b 0 0 ∷ []
op_words last ops.And d a b = words.And true d a b 0 0 ∷ []
op_words last ops.Or d a b = words.Orr true d a b 0 0 ∷ []
op_words last ops.Xor d a b = words.Eor true d a b 0 0 ∷ []
op_words last ops.Shl d a b = words.Lslv true d a b ∷ []
op_words last ops.Shr d a b = words.Lsrv true d a b ∷ []
op_words last ops.Sar d a b = words.Asrv true d a b ∷ []
op_words last ops.Ror d a b = words.Rorv true d a b ∷ []
op_words last ops.Mul d a b = words.Movz true d 0 0 ∷ words.Madd true d a b d ∷ []
op_words last ops.HighU d a b = words.Umulh d a b ∷ []
op_words last ops.HighS d a b = words.Smulh d a b ∷ []
op_words last ops.DivU d a b = words.Udiv true d a b ∷ []
op_words last ops.DivS d a b = words.Sdiv true d a b ∷ []
op_words last ops.Eq d a b = compare_words 1 d a b
op_words last ops.LessU d a b = compare_words 2 d a b
op_words last ops.LessS d a b = compare_words 10 d a b
op_words last ops.ZeroExt d a b = words.Ubfm true d a 0 last ∷ []
op_words last ops.SignExt d a b = words.Sbfm true d a 0 last ∷ []

-- the word of a locked step: the value, the result, the address
abbrev pub rmw_word : RmwOp → (size v d a : ℕ) → A64 ℕ
rmw_word rmw.Swap size v d a = words.Swp size v d a
rmw_word rmw.Add size v d a = words.Ldadd size v d a
rmw_word rmw.Clear size v d a = words.Ldclr size v d a
rmw_word rmw.Flip size v d a = words.Ldeor size v d a
rmw_word rmw.Set size v d a = words.Ldset size v d a

-- the barrier of a fence
abbrev pub barrier_word : IrFence → A64 ℕ
barrier_word fences.Frm = words.DmbLd
barrier_word fences.Fww = words.DmbSt
barrier_word fences.Fsc = words.DmbFull

-- the words of a step, by the last bit that an extension by a temporary keeps
abbrev pub group_of : (last : ℕ → ℕ) → IrStep → List (A64 ℕ)
group_of last (steps.Const t v) = number_words (number_of t) v
group_of last (steps.GetReg t r) = copy_word (number_of t) r ∷ []
group_of last (steps.SetReg r t) = copy_word r (number_of t) ∷ []
group_of last (steps.GetFlag t f) = copy_word (number_of t) (16 + f) ∷ []
group_of last (steps.SetFlag f t) = copy_word (16 + f) (number_of t) ∷ []
group_of last (steps.Op op t a b) = op_words (last b.0) op (number_of t) (number_of a) (number_of b)
group_of last (steps.Select t c a b) = words.Subs true 20 (number_of c) 20 0 0 ∷ words.Csel true (number_of t) (number_of a) (number_of b) 1 ∷ []
group_of last (steps.Load t a size place) = words.Ldr size (number_of t) (number_of a) 0 ∷ []
group_of last (steps.Store a v size place) = words.Str size (number_of v) (number_of a) 0 ∷ []
group_of last (steps.Rmw op t a v size place) = rmw_word op size (number_of v) (number_of t) (number_of a) ∷ []
group_of last (steps.Cas t a e v size place) = copy_word (number_of t) (number_of e) ∷ words.Cas size (number_of t) (number_of v) (number_of a) ∷ []
group_of last (steps.Fence f) = barrier_word f ∷ []
group_of last steps.Input = words.Svc 1 ∷ []
group_of last steps.Output = words.Svc 2 ∷ []
group_of last (steps.TrapIf t kind) = words.Cbz true (number_of t) (pos 2) ∷ words.Brk (break_of kind) ∷ []

-- the last bit of so many bytes, where they are known; bit 63 where they are not
abbrev pub last_bit : Known → ℕ
last_bit Unset = 63
last_bit Set = 63
last_bit (Constant n) = 8 * n - 1

-- the words of steps, where this is known of temporaries
abbrev pub selected : (known : ℕ → Known) → List IrStep → List (A64 ℕ)
selected known [] = []
selected known (x ∷ xs) = group_of (λ t. last_bit (known t)) x ++ selected (learn x known) xs

-- the end of a block over numbers
abbrev pub selected_end : IrEnd → AEnd ℕ
selected_end (ends.Goto a) = a_ends.Goto a
selected_end (ends.Branch t a b) = a_ends.Branch (number_of t) a b
selected_end (ends.Return t) = a_ends.Return (number_of t)
selected_end (ends.Indexed t table) = a_ends.Indexed (number_of t) table
selected_end (ends.Stop kind) = a_ends.Stop kind
