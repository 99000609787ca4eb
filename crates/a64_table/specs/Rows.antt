-- What A64 words do, over registers of any kind (Arm ARM, C6.2). A row gets the values of its registers and gives a
-- value; a table says which register gets it.
use Rattle.std.specs.Prelude.{◌≡◌, ℕ, zero, suc, ◌<◌, ◌+◌, ◌-◌, ◌*◌, ◌%◌, ◌^◌, ◌==◌, Bool, not, if◌then◌else◌, bit_and, bit_or, bit_xor, ℤ, pos, unsigned_abs, List, [], ◌∷◌, Option, Some, None}
use Rattle.ev_graph.specs.declared.events.End.TheVariants.{Halted}
use Rattle.ev_graph.specs.declared.events.FenceKind.TheVariants as fences
use Rattle.ev_graph.specs.declared.events.TrapKind.TheVariants.{Divide, Invalid, BadReturn, BadJump}
use Rattle.behavior.specs.Tree.{Tree, Gives, Begins, Next, Stops, ◌then◌}
use Rattle.behavior.specs.Acts.{Permission, goes, traps, reads, writes, exchanges, fences_at, takes_in, puts_out}
use Rattle.word_arith.specs.ArmWords.{subs_value}
use Rattle.a64_code.specs.declared.instr.A64.{A64}
use Rattle.a64_code.specs.declared.instr.A64.TheVariants.{Add, Sub, Subs, And, Orr, Eor, AddImm, SubImm, Movz, Movk, Movn, Lslv, Lsrv, Asrv, Rorv, Udiv, Sdiv, Madd, Msub, Smulh, Umulh, Ubfm, Sbfm, Csel, Csinc, B, BCond, Cbz, Cbnz, Ldr, Str, Cas, Swp, Ldadd, Ldclr, Ldeor, Ldset, DmbFull, DmbLd, DmbSt, Brk, Svc}
use Rattle.a64_code.specs.Ranges.{bits}
use Rattle.a64_table.specs.declared.state.Nzcv.{Nzcv}
use Rattle.a64_table.specs.declared.state.Done.{Done}
use Rattle.a64_table.specs.State.{Names, AState, value, after}
use Rattle.a64_table.specs.Values.{low, shifted, holds, subs_flags, a64_value}

-- the row goes on to the next word
abbrev pub gets : ℕ → Nzcv → Tree (Next Done)
gets v f = goes (record { distance = pos 1; value = v; nzcv = f })

-- the row goes so many words on
abbrev pub jumps : ℤ → Nzcv → Tree (Next Done)
jumps d f = goes (record { distance = d; value = 0; nzcv = f })

-- the row goes so many words on where the test holds, and else to the next word
abbrev pub branches : Bool → ℤ → Nzcv → Tree (Next Done)
branches taken d f = if taken then jumps d f else jumps (pos 1) f

-- the value and the flags of a difference in a form
abbrev pub compares : Bool → (a b : ℕ) → Tree (Next Done)
compares x a b = gets (subs_value (bits x) a b) (subs_flags (bits x) a b)

-- the bits of the first without those of the second, of 64 bits
abbrev pub cleared : (old v : ℕ) → ℕ
cleared old v = bit_and old (2 ^ 64 - 1 - v)

-- what CAS writes: the new value where the old one is the low bytes of the expected one, and else nothing
abbrev pub swapped : (size expected new old : ℕ) → Option ℕ
swapped size expected new old = if old == expected % 256 ^ size then Some new else None

-- what an atomic word writes, of which the access takes the low bytes, from what registers hold and the old value
abbrev pub a64_written : {R : Type 0} → A64 R → (R → ℕ) → (old : ℕ) → Option ℕ
a64_written (Cas size s t n) r old = swapped size (r s) (r t) old
a64_written (Swp size s t n) r old = Some (r s)
a64_written (Ldadd size s t n) r old = Some (old + r s)
a64_written (Ldclr size s t n) r old = Some (cleared old (r s))
a64_written (Ldeor size s t n) r old = Some (bit_xor old (r s))
a64_written (Ldset size s t n) r old = Some (bit_or old (r s))
a64_written w r old = None

-- the traps of BRK
abbrev pub breaks : ℕ → Tree (Next Done)
breaks n = if n == 1 then traps Divide else (if n == 2 then traps Invalid else (if n == 3 then traps BadReturn else traps BadJump))

-- the calls of SVC, of a thread whose X7 has a value
abbrev pub calls : ℕ → (place x7 : ℕ) → Nzcv → Tree (Next Done)
calls n place x7 f =
    if n == 1 then takes_in place (λ v. gets v f)
    else (if n == 2 then puts_out place x7 (gets 0 f) else (if n == 3 then Gives (Stops Halted) else traps BadJump))

-- What a word does that does more than compute; a word for which no line stands does nothing.
abbrev pub a64_act : {R : Type 0} → Names R → Permission → (place : ℕ) → A64 R → (R → ℕ) → Nzcv → Tree (Next Done)
a64_act names may place (Subs x d n m kind amount) r f = compares x (low x (r n)) (shifted x kind amount (r m))
a64_act names may place (B distance) r f = jumps distance f
a64_act names may place (BCond code distance) r f = branches (holds code f) distance f
a64_act names may place (Cbz x t distance) r f = branches (low x (r t) == 0) distance f
a64_act names may place (Cbnz x t distance) r f = branches (not (low x (r t) == 0)) distance f
a64_act names may place (Ldr size t n number) r f = reads may place ((r n + number * size) % 2 ^ 64) size (λ v. gets v f)
a64_act names may place (Str size t n number) r f = writes may place ((r n + number * size) % 2 ^ 64) size (r t) (gets 0 f)
a64_act names may place (Cas size s t n) r f = exchanges may place (r n) size (a64_written (Cas size s t n) r) (λ old. gets old f)
a64_act names may place (Swp size s t n) r f = exchanges may place (r n) size (a64_written (Swp size s t n) r) (λ old. gets old f)
a64_act names may place (Ldadd size s t n) r f = exchanges may place (r n) size (a64_written (Ldadd size s t n) r) (λ old. gets old f)
a64_act names may place (Ldclr size s t n) r f = exchanges may place (r n) size (a64_written (Ldclr size s t n) r) (λ old. gets old f)
a64_act names may place (Ldeor size s t n) r f = exchanges may place (r n) size (a64_written (Ldeor size s t n) r) (λ old. gets old f)
a64_act names may place (Ldset size s t n) r f = exchanges may place (r n) size (a64_written (Ldset size s t n) r) (λ old. gets old f)
a64_act names may place DmbFull r f = fences_at fences.DmbFull place (gets 0 f)
a64_act names may place DmbLd r f = fences_at fences.DmbLd place (gets 0 f)
a64_act names may place DmbSt r f = fences_at fences.DmbSt place (gets 0 f)
a64_act names may place (Brk number) r f = breaks number
a64_act names may place (Svc number) r f = calls number place (r (names.register 7)) f
a64_act names may place w r f = gets 0 f

-- a value that was computed, or what else there is to do
abbrev pub computes_or : Option ℕ → Nzcv → Tree (Next Done) → Tree (Next Done)
computes_or (Some v) f act = gets v f
computes_or None f act = act

-- what a word at a place does, from what registers and flags hold
abbrev pub a64_row : {R : Type 0} → Names R → Permission → (place : ℕ) → A64 R → (R → ℕ) → Nzcv → Tree (Next Done)
a64_row names may place w r f = computes_or (a64_value w r f) f (a64_act names may place w r f)

-- the register that a word sets
abbrev pub a64_result : {R : Type 0} → Names R → A64 R → Option R
a64_result names (Add x d n m kind amount) = Some d
a64_result names (Sub x d n m kind amount) = Some d
a64_result names (Subs x d n m kind amount) = Some d
a64_result names (And x d n m kind amount) = Some d
a64_result names (Orr x d n m kind amount) = Some d
a64_result names (Eor x d n m kind amount) = Some d
a64_result names (AddImm x d n number) = Some d
a64_result names (SubImm x d n number) = Some d
a64_result names (Movz x d v quarter) = Some d
a64_result names (Movk x d v quarter) = Some d
a64_result names (Movn x d v quarter) = Some d
a64_result names (Lslv x d n m) = Some d
a64_result names (Lsrv x d n m) = Some d
a64_result names (Asrv x d n m) = Some d
a64_result names (Rorv x d n m) = Some d
a64_result names (Udiv x d n m) = Some d
a64_result names (Sdiv x d n m) = Some d
a64_result names (Madd x d n m a) = Some d
a64_result names (Msub x d n m a) = Some d
a64_result names (Smulh d n m) = Some d
a64_result names (Umulh d n m) = Some d
a64_result names (Ubfm x d n immr imms) = Some d
a64_result names (Sbfm x d n immr imms) = Some d
a64_result names (Csel x d n m code) = Some d
a64_result names (Csinc x d n m code) = Some d
a64_result names (Ldr size t n number) = Some t
a64_result names (Cas size s t n) = Some s
a64_result names (Swp size s t n) = Some t
a64_result names (Ldadd size s t n) = Some t
a64_result names (Ldclr size s t n) = Some t
a64_result names (Ldeor size s t n) = Some t
a64_result names (Ldset size s t n) = Some t
a64_result names (Svc number) = if number == 1 then Some (names.register 0) else None
a64_result names w = None

-- the registers that a word reads
abbrev pub a64_operands : {R : Type 0} → Names R → A64 R → List R
a64_operands names (Add x d n m kind amount) = n ∷ m ∷ []
a64_operands names (Sub x d n m kind amount) = n ∷ m ∷ []
a64_operands names (Subs x d n m kind amount) = n ∷ m ∷ []
a64_operands names (And x d n m kind amount) = n ∷ m ∷ []
a64_operands names (Orr x d n m kind amount) = n ∷ m ∷ []
a64_operands names (Eor x d n m kind amount) = n ∷ m ∷ []
a64_operands names (AddImm x d n number) = n ∷ []
a64_operands names (SubImm x d n number) = n ∷ []
a64_operands names (Movk x d v quarter) = d ∷ []
a64_operands names (Lslv x d n m) = n ∷ m ∷ []
a64_operands names (Lsrv x d n m) = n ∷ m ∷ []
a64_operands names (Asrv x d n m) = n ∷ m ∷ []
a64_operands names (Rorv x d n m) = n ∷ m ∷ []
a64_operands names (Udiv x d n m) = n ∷ m ∷ []
a64_operands names (Sdiv x d n m) = n ∷ m ∷ []
a64_operands names (Madd x d n m a) = n ∷ m ∷ a ∷ []
a64_operands names (Msub x d n m a) = n ∷ m ∷ a ∷ []
a64_operands names (Smulh d n m) = n ∷ m ∷ []
a64_operands names (Umulh d n m) = n ∷ m ∷ []
a64_operands names (Ubfm x d n immr imms) = n ∷ []
a64_operands names (Sbfm x d n immr imms) = n ∷ []
a64_operands names (Csel x d n m code) = n ∷ m ∷ []
a64_operands names (Csinc x d n m code) = n ∷ m ∷ []
a64_operands names (Cbz x t distance) = t ∷ []
a64_operands names (Cbnz x t distance) = t ∷ []
a64_operands names (Ldr size t n number) = n ∷ []
a64_operands names (Str size t n number) = t ∷ n ∷ []
a64_operands names (Cas size s t n) = s ∷ t ∷ n ∷ []
a64_operands names (Swp size s t n) = s ∷ n ∷ []
a64_operands names (Ldadd size s t n) = s ∷ n ∷ []
a64_operands names (Ldclr size s t n) = s ∷ n ∷ []
a64_operands names (Ldeor size s t n) = s ∷ n ∷ []
a64_operands names (Ldset size s t n) = s ∷ n ∷ []
a64_operands names (Svc number) = names.register 7 ∷ []
a64_operands names w = []

-- how many words a distance forward leaves out
abbrev pub ahead : ℤ → ℕ
ahead distance = unsigned_abs distance - 1

-- a distance goes forward, by no more than 2^20 words
abbrev pub GoesForward : ℤ → Type 0
GoesForward distance = (k : ℕ) × (distance ≡ pos (suc k)) × (k < 2 ^ 20)

-- the word's branch, if it is one, goes forward
abbrev pub IsForward : {R : Type 0} → A64 R → Type 0
IsForward (B distance) = GoesForward distance
IsForward (BCond code distance) = GoesForward distance
IsForward (Cbz x t distance) = GoesForward distance
IsForward (Cbnz x t distance) = GoesForward distance
IsForward w = Unit {0}

-- The words of a block from an address on, of which some are still left out; it goes on with how many are left out
-- behind the last, so words append. Distances go forward.
abbrev pub a64_words : {R : Type 0} → Names R → Permission → (at : ℕ) → List (A64 R) → (skip : ℕ) → AState → Tree (Next (ℕ × AState))
a64_words names may at [] skip s = goes (skip, s)
a64_words names may at (w ∷ ws) zero s =
    Begins (a64_row names may at w (value names s) s.nzcv) then (λ d. a64_words names may (at + 4) ws (ahead d.distance) (after names (a64_result names w) d s))
a64_words names may at (w ∷ ws) (suc skip) s = a64_words names may (at + 4) ws skip s
