-- Every row of the table has operands that fit its instruction, so what it spells is formed.
use Rattle.std.proofs.Common.{◌≡◌, ◌≢◌, ℕ, ◌/◌, ◌%◌, ◌^◌, ◌<◌, Bool, true, false, not, ◌&&◌, ◌||◌, ◌==◌, nat_lt, if◌then◌else◌, List, [], ◌∷◌, ◌++◌, drop, get_or, ◌⊎◌, inl, inr, refl, sym, ◌∙◌, subst, arith}
use Rattle.std.specs.List.{AllByRecursion}
use Rattle.std.proofs.lemmas.Bool.{and_parts, cases_Bool, or_cases, eqb-true, eqb-false, ltb-true, not-true, both_ways}
use Rattle.x64_syntax.specs.declared.instr.AluOp.{AluOp}
use Rattle.x64_syntax.specs.declared.instr.AluOp.TheVariants as op
use Rattle.x64_syntax.specs.declared.instr.Instr.{Instr}
use Rattle.x64_syntax.specs.declared.operand.Operand.{Operand}
use Rattle.x64_syntax.specs.declared.operand.Operand.TheVariants as operand
use Rattle.x64_syntax.specs.declared.operand.Width.{Width}
use Rattle.x64_syntax.specs.declared.operand.Width.TheVariants as width
use Rattle.x64_syntax.specs.Formed.{IsNarrow, ArePair, IsCount, IsFormed, IsInMemory, IsInRegister, IsNumber, IsStored, LocksMemory}
use Rattle.x64_syntax.specs.Operands.{bits, is_in_memory}
use Rattle.x64_decode.specs.declared.row.Before.{Before}
use Rattle.x64_decode.specs.declared.row.Before.TheVariants as before
use Rattle.x64_decode.specs.declared.row.Front.{Front}
use Rattle.x64_decode.specs.declared.row.Lock.{Lock}
use Rattle.x64_decode.specs.declared.row.Lock.TheVariants as lock
use Rattle.x64_decode.specs.declared.row.Name.{Name}
use Rattle.x64_decode.specs.declared.row.Name.TheVariants as name
use Rattle.x64_decode.specs.declared.row.Place.{Place}
use Rattle.x64_decode.specs.declared.row.Place.TheVariants as place
use Rattle.x64_decode.specs.declared.row.Row.{Row}
use Rattle.x64_decode.specs.declared.row.Size.{Size}
use Rattle.x64_decode.specs.declared.row.Size.TheVariants as size
use Rattle.x64_decode.specs.Bytes.{IsByte}
use Rattle.x64_decode.specs.Fronts.{front_of, rex_bit, rex_bytes, width_of}
use Rattle.x64_decode.specs.Meaning.{immediate_of, meaning, named}
use Rattle.x64_decode.specs.Operands.{has_modrm, is_by_modrm, is_byte, is_memory, low_bits, operand_at, operand_size, rm_operand}
use Rattle.x64_decode.specs.Spelling.{Spells, StandsIn, allows, before_allows, code_bytes, digit_allows, memory_allows, modrm_allows, must_be_memory, takes_memory, takes_register}
use Rattle.x64_decode.specs.Table.{table}
use Rattle.x64_decode.proofs.FormedLemmas.{byte_at, bytes_after, extend_byte-small, full_number-small, low_bits-small, operand_width-not_byte, operand_width-not_quad, register-formed, rm_operand-formed, rm_operand-in_memory, whole_number-small}

-- ---- what is allowed

-- bytes that stand behind a front and a row's code, as the row allows
pub record Stands (f : Front) (r : Row) (rest : List ℕ) : Type 0 where
  pub bytes : AllByRecursion IsByte rest
  pub allowed : allows f r (get_or rest 0 0) ≡ true

front_allowed : (f : Front) (r : Row) (m : ℕ) → allows f r m ≡ true → before_allows r.before f ≡ true
unfolding allows
front_allowed f r m h = (and_parts (before_allows r.before f) (if has_modrm r then modrm_allows f r m else not f.lock) h).0

-- without ModRM there is no F0
unlocked : (f : Front) (r : Row) (m : ℕ) → allows f r m ≡ true → has_modrm r ≡ false → f.lock ≡ false
unfolding allows
unlocked f r m h none =
    let part : (if has_modrm r then modrm_allows f r m else not f.lock) ≡ true = (and_parts (before_allows r.before f) (if has_modrm r then modrm_allows f r m else not f.lock) h).1 in
    not-true f.lock (rw none at part)

-- with it, memory or a register is taken
taken : (f : Front) (r : Row) (m : ℕ) → allows f r m ≡ true → has_modrm r ≡ true → (if is_memory m then takes_memory f r else takes_register f r) ≡ true
unfolding allows modrm_allows
taken f r m h with_modrm =
    let part : (if has_modrm r then modrm_allows f r m else not f.lock) ≡ true = (and_parts (before_allows r.before f) (if has_modrm r then modrm_allows f r m else not f.lock) h).1 in
    (and_parts (digit_allows r.digit m) (if is_memory m then takes_memory f r else takes_register f r) (rw with_modrm at part)).1

register_unlocked : (f : Front) (r : Row) → takes_register f r ≡ true → (f.lock ≡ false) × ((must_be_memory r.to ≡ false) × (must_be_memory r.from ≡ false))
unfolding takes_register
register_unlocked f r h =
    let parts = and_parts (not f.lock) (not (must_be_memory r.to) && not (must_be_memory r.from)) h in
    let others = and_parts (not (must_be_memory r.to)) (not (must_be_memory r.from)) parts.1 in
    (not-true f.lock parts.0, (not-true (must_be_memory r.to) others.0, not-true (must_be_memory r.from) others.1))

-- F0 stands before memory alone, in a row that takes it
locked_facts : (f : Front) (r : Row) (m : ℕ) → allows f r m ≡ true → f.lock ≡ true → (is_memory m ≡ true) × (takes_memory f r ≡ true)
locked_facts f r m h locked =
    elim (cases_Bool (has_modrm r)) [
      | inr none ↦ absurd (both_ways f.lock (unlocked f r m h none) locked)
      | inl with_modrm ↦
          (let part = taken f r m h with_modrm in
          elim (cases_Bool (is_memory m)) [
            | inl holds ↦ (holds, rw holds at part)
            | inr fails ↦ absurd (both_ways f.lock (register_unlocked f r (rw fails at part)).0 locked)
          ])
    ]

-- an operand that must be memory is
is_memory-must : (f : Front) (r : Row) (m : ℕ) → allows f r m ≡ true → has_modrm r ≡ true → (must_be_memory r.to ≡ true) ⊎ (must_be_memory r.from ≡ true) → is_memory m ≡ true
is_memory-must f r m h with_modrm must =
    let part = taken f r m h with_modrm in
    elim (cases_Bool (is_memory m)) [
      | inl holds ↦ holds
      | inr fails ↦
          (let free = register_unlocked f r (rw fails at part) in
          elim must [
            | inl to ↦ absurd (both_ways (must_be_memory r.to) free.1.0 to)
            | inr from ↦ absurd (both_ways (must_be_memory r.from) free.1.1 from)
          ])
    ]

-- ---- tests of a row's operands

abbrev pub size_number : Size → ℕ
size_number size.Byte = 0
size_number size.Word = 1
size_number size.Long = 2
size_number size.Quad = 3
size_number size.Operand = 4

abbrev pub same_size : Size → Size → Bool
same_size s t = size_number s == size_number t

same_size-true : (s t : Size) → same_size s t ≡ true → s ≡ t
same_size-true size.Byte size.Byte h = refl
same_size-true size.Word size.Word h = refl
same_size-true size.Long size.Long h = refl
same_size-true size.Quad size.Quad h = refl
same_size-true size.Operand size.Operand h = refl
same_size-true _ _ h = absurd (cc)

abbrev pub in_register : Size → Place → Bool
in_register s (place.Reg t) = same_size t s
in_register s (place.Low t) = same_size t s
in_register s (place.Accumulator t) = same_size t s
in_register s _ = false

abbrev pub stored : Size → Place → Bool
stored s (place.Rm t) = same_size t s
stored s p = in_register s p

abbrev pub is_number : Size → Place → Bool
is_number s place.Short = true
is_number s place.Full = not (is_byte s)
is_number s place.Whole = true
is_number s _ = false

abbrev pub is_count : Place → Bool
is_count place.Unsigned = true
is_count place.One = true
is_count place.Count = true
is_count _ = false

abbrev pub is_rm : Place → Bool
is_rm (place.Rm s) = true
is_rm (place.Memory s) = true
is_rm _ = false

abbrev pub is_pair : Size → Place → Place → Bool
is_pair s to from = (stored s to && in_register s from) || ((in_register s to && stored s from) || (stored s to && is_number s from))

abbrev pub is_never : Lock → Bool
is_never lock.Never = true
is_never _ = false

abbrev pub is_always : Lock → Bool
is_always lock.AlwaysWithMemory = true
is_always _ = false

abbrev pub is_compare : AluOp → Bool
is_compare op.Cmp = true
is_compare _ = false

abbrev pub is_without_w : Before → Bool
is_without_w before.WithoutW = true
is_without_w _ = false

abbrev pub is_condition : ℕ → Bool
is_condition c = nat_lt c 16 && (not (c == 10) && not (c == 11))

-- a source of 8 or 16 bits
abbrev pub is_narrow : Width → Bool
is_narrow width.Byte = true
is_narrow width.Word = true
is_narrow _ = false

abbrev pub source_size : Width → Size
source_size width.Byte = size.Byte
source_size width.Word = size.Word
source_size width.Long = size.Long
source_size width.Quad = size.Quad

-- F0 is for rows with r/m as their destination
abbrev pub locks : Row → Bool
locks r = is_never r.lock || is_rm r.to

-- the operands are a register and r/m, in that order
abbrev pub loads : Row → Bool
loads r = not (is_byte r.size) && (in_register r.size r.to && stored r.size r.from)

-- the destination is a number of 64 bits
abbrev pub is_distance : Row → Bool
is_distance r = same_size r.size size.Quad && is_number r.size r.to

-- a row's operands fit its instruction
abbrev pub shaped : Name → Row → Bool
shaped (name.Alu o) r = is_pair r.size r.to r.from && (locks r && (is_never r.lock || not (is_compare o)))
shaped name.Test r = is_pair r.size r.to r.from
shaped name.Xchg r = stored r.size r.to && (in_register r.size r.from && locks r)
shaped name.Mov r = is_pair r.size r.to r.from
shaped name.Lea r = not (is_byte r.size) && (in_register r.size r.to && must_be_memory r.from)
shaped (name.MovZx v) r = not (is_byte r.size) && (is_narrow v && (in_register r.size r.to && stored (source_size v) r.from))
shaped (name.MovSx v) r = not (is_byte r.size) && (is_narrow v && (in_register r.size r.to && stored (source_size v) r.from))
shaped name.MovSxd r = in_register size.Quad r.to && stored size.Long r.from
shaped name.Push r = stored size.Quad r.to || is_distance r
shaped name.Pop r = stored size.Quad r.to
shaped name.Call r = is_distance r
shaped name.Jmp r = is_distance r
shaped name.CallInd r = stored size.Quad r.to
shaped name.JmpInd r = stored size.Quad r.to
shaped (name.Jcc c) r = is_condition c && is_distance r
shaped (name.SetCc c) r = is_condition c && stored size.Byte r.to
shaped (name.CmovCc c) r = is_condition c && loads r
shaped name.Inc r = stored r.size r.to && locks r
shaped name.Dec r = stored r.size r.to && locks r
shaped name.Not r = stored r.size r.to && locks r
shaped name.Neg r = stored r.size r.to
shaped name.Mul r = stored r.size r.to
shaped name.ImulOne r = stored r.size r.to
shaped name.Div r = stored r.size r.to && (is_byte r.size || (same_size r.size size.Operand && is_without_w r.before))
shaped name.Idiv r = stored r.size r.to && (is_byte r.size || (same_size r.size size.Operand && is_without_w r.before))
shaped name.ImulTwo r = loads r
shaped name.ImulThree r = loads r && is_number r.size r.by
shaped (name.Shift o) r = stored r.size r.to && is_count r.from
shaped name.Widen r = not (is_byte r.size)
shaped name.SignFill r = not (is_byte r.size)
shaped name.Cmpxchg r = must_be_memory r.to && (in_register r.size r.from && is_always r.lock)
shaped name.Xadd r = (stored r.size r.to && is_rm r.to) && (in_register r.size r.from && is_always r.lock)
shaped _ r = true

abbrev pub all_shaped : List Row → Bool
all_shaped [] = true
all_shaped (r ∷ rs) = shaped r.name r && all_shaped rs

table-all_shaped : all_shaped table ≡ true
unfolding table
table-all_shaped = refl

shaped_at : (rows : List Row) (r : Row) → all_shaped rows ≡ true → StandsIn rows r → shaped r.name r ≡ true
shaped_at [] r h stands = absurd stands
shaped_at (x ∷ xs) r h (inl e) =
    let P : Row → Type 0 = λ q. shaped q.name q ≡ true in subst P (sym e) (and_parts (shaped x.name x) (all_shaped xs) h).0
shaped_at (x ∷ xs) r h (inr stands) = shaped_at xs r (and_parts (shaped x.name x) (all_shaped xs) h).1 stands

-- ---- what the tests say of the operands

at_size : (f : Front) (s t : Size) (o : Operand) → same_size t s ≡ true → IsInRegister (width_of f t) o → IsInRegister (width_of f s) o
at_size f s t o e h = let P : Size → Type 0 = λ x. IsInRegister (width_of f x) o in subst P (same_size-true t s e) h

register_is : (f : Front) (r : Row) (rest : List ℕ) (s : Size) (p : Place) → in_register s p ≡ true → IsInRegister (width_of f s) (operand_at f r rest p)
register_is f r rest s (place.Reg t) h =
    at_size f s t (operand_at f r rest (place.Reg t)) h (register-formed f t (get_or rest 0 0 / 8 % 8) 4 (omega arith))
register_is f r rest s (place.Low t) h =
    at_size f s t (operand_at f r rest (place.Low t)) h (register-formed f t (low_bits r.code) 1 (low_bits-small r.code))
register_is f r rest s (place.Accumulator t) h = record { number = omega arith; high = λ e. absurd (cc) }
register_is f r rest s _ h = absurd (cc)

stored_from : (w : Width) (o : Operand) → IsInRegister w o → IsStored w o
stored_from w (operand.Reg r) h = h
stored_from w (operand.Mem m) h = absurd h
stored_from w (operand.Imm n) h = absurd h

stored_is : (f : Front) (r : Row) (rest : List ℕ) (s : Size) (p : Place) → AllByRecursion IsByte rest → stored s p ≡ true → IsStored (width_of f s) (operand_at f r rest p)
stored_is f r rest s (place.Rm t) bytes h =
    let P : Size → Type 0 = λ x. IsStored (width_of f x) (rm_operand f t rest) in
    subst P (same_size-true t s h) (rm_operand-formed f t rest bytes)
stored_is f r rest s (place.Reg t) bytes h = stored_from (width_of f s) (operand_at f r rest (place.Reg t)) (register_is f r rest s (place.Reg t) h)
stored_is f r rest s (place.Low t) bytes h = stored_from (width_of f s) (operand_at f r rest (place.Low t)) (register_is f r rest s (place.Low t) h)
stored_is f r rest s (place.Accumulator t) bytes h = stored_from (width_of f s) (operand_at f r rest (place.Accumulator t)) (register_is f r rest s (place.Accumulator t) h)
stored_is f r rest s _ bytes h = absurd (cc)

width-not_byte : (f : Front) (s : Size) → is_byte s ≡ false → width_of f s ≢ width.Byte
width-not_byte f size.Byte h = absurd (cc)
width-not_byte f size.Word h = λ e. absurd (cc)
width-not_byte f size.Long h = λ e. absurd (cc)
width-not_byte f size.Quad h = λ e. absurd (cc)
width-not_byte f size.Operand h = operand_width-not_byte f

number_is : (f : Front) (r : Row) (rest : List ℕ) (p : Place) → AllByRecursion IsByte rest → is_number r.size p ≡ true → IsNumber (width_of f r.size) (operand_at f r rest p)
number_is f r rest place.Short bytes h = extend_byte-small (width_of f r.size) (get_or rest (operand_size r rest) 0) (byte_at rest (operand_size r rest) bytes)
number_is f r rest place.Full bytes h =
    full_number-small (width_of f r.size) (drop (operand_size r rest) rest) (width-not_byte f r.size (not-true (is_byte r.size) h)) (bytes_after (operand_size r rest) rest bytes)
number_is f r rest place.Whole bytes h = whole_number-small (width_of f r.size) (drop (operand_size r rest) rest) (bytes_after (operand_size r rest) rest bytes)
number_is f r rest _ bytes h = absurd (cc)

count_is : (f : Front) (r : Row) (rest : List ℕ) (p : Place) → AllByRecursion IsByte rest → is_count p ≡ true → IsCount (operand_at f r rest p)
count_is f r rest place.Unsigned bytes h = byte_at rest (operand_size r rest) bytes
count_is f r rest place.One bytes h = omega arith
count_is f r rest place.Count bytes h = (refl, refl)
count_is f r rest _ bytes h = absurd (cc)

rm_is : (f : Front) (r : Row) (rest : List ℕ) (p : Place) → is_rm p ≡ true → is_in_memory (operand_at f r rest p) ≡ is_memory (get_or rest 0 0)
rm_is f r rest (place.Rm s) h = rm_operand-in_memory f s rest
rm_is f r rest (place.Memory s) h = rm_operand-in_memory f s rest
rm_is f r rest _ h = absurd (cc)

in_memory_from : (w : Width) (o : Operand) → IsStored w o → is_in_memory o ≡ true → IsInMemory o
in_memory_from w (operand.Reg r) h e = absurd (cc)
in_memory_from w (operand.Mem m) h e = h
in_memory_from w (operand.Imm n) h e = absurd h

must_is : (f : Front) (r : Row) (rest : List ℕ) (p : Place) → AllByRecursion IsByte rest → must_be_memory p ≡ true → is_memory (get_or rest 0 0) ≡ true → IsInMemory (operand_at f r rest p)
must_is f r rest (place.Memory s) bytes h e =
    in_memory_from (width_of f s) (rm_operand f s rest) (rm_operand-formed f s rest bytes) (rm_operand-in_memory f s rest ∙ e)
must_is f r rest _ bytes h e = absurd (cc)

must_ask : (p : Place) → must_be_memory p ≡ true → is_by_modrm p ≡ true
must_ask (place.Memory s) h = refl
must_ask _ h = absurd (cc)

rm_asks : (p : Place) → is_rm p ≡ true → is_by_modrm p ≡ true
rm_asks (place.Rm s) h = refl
rm_asks (place.Memory s) h = refl
rm_asks _ h = absurd (cc)

to_asks : (r : Row) → is_by_modrm r.to ≡ true → has_modrm r ≡ true
unfolding has_modrm
to_asks r h = rw h refl

or-true : (b : Bool) → (b || true) ≡ true
or-true true = refl
or-true false = refl

from_asks : (r : Row) → is_by_modrm r.from ≡ true → has_modrm r ≡ true
unfolding has_modrm
from_asks r h = rw (h, or-true (is_by_modrm r.to)) refl

-- ---- locks

never_free : (l : Lock) (b : Bool) → memory_allows l b ≡ true → b ≡ true → is_never l ≡ false
never_free lock.Never true h e = absurd (cc)
never_free lock.Never false h e = absurd (cc)
never_free lock.WithMemory b h e = refl
never_free lock.AlwaysWithMemory b h e = refl

always_locked : (l : Lock) (b : Bool) → is_always l ≡ true → memory_allows l b ≡ true → b ≡ true
always_locked lock.AlwaysWithMemory b h e = e
always_locked lock.Never b h e = absurd (cc)
always_locked lock.WithMemory b h e = absurd (cc)

-- behind F0 a row takes it
not_never : (f : Front) (r : Row) (rest : List ℕ) → Stands f r rest → f.lock ≡ true → is_never r.lock ≡ false
unfolding takes_memory
not_never f r rest st locked =
    never_free r.lock f.lock (locked_facts f r (get_or rest 0 0) st.allowed locked).1 locked

first_of_two : (a b : Bool) → (a || b) ≡ true → a ≡ false → b ≡ true
first_of_two true b h e = absurd (cc)
first_of_two false b h e = h

locks_is : (f : Front) (r : Row) (rest : List ℕ) → Stands f r rest → locks r ≡ true → LocksMemory f.lock (operand_at f r rest r.to)
locks_is f r rest st h locked =
    let rm : is_rm r.to ≡ true = first_of_two (is_never r.lock) (is_rm r.to) h (not_never f r rest st locked) in
    rm_is f r rest r.to rm ∙ (locked_facts f r (get_or rest 0 0) st.allowed locked).0

-- a row that always asks for F0 with memory is locked just there
always_is : (f : Front) (r : Row) (rest : List ℕ) → Stands f r rest → is_rm r.to ≡ true → is_always r.lock ≡ true → f.lock ≡ is_in_memory (operand_at f r rest r.to)
unfolding takes_memory
always_is f r rest st rm always =
    let m = get_or rest 0 0 in
    let with_modrm : has_modrm r ≡ true = to_asks r (rm_asks r.to rm) in
    let part = taken f r m st.allowed with_modrm in
    let same : f.lock ≡ is_memory m =
    elim (cases_Bool (is_memory m)) [
      | inl holds ↦ always_locked r.lock f.lock always (rw holds at part) ∙ sym holds
      | inr fails ↦ (register_unlocked f r (rw fails at part)).0 ∙ sym fails
    ] in
    same ∙ sym (rm_is f r rest r.to rm)

-- F0 or memory is memory, where F0 stands before memory alone
or_memory : (a b : Bool) → (a ≡ true → b ≡ true) → (a || b) ≡ b
or_memory true b h = sym (h refl)
or_memory false b h = refl

compare_free : (o : AluOp) → is_compare o ≡ false → o ≢ op.Cmp
compare_free op.Cmp h e = absurd (cc)
compare_free _ h e = absurd (cc)

must_rm : (p : Place) → must_be_memory p ≡ true → is_rm p ≡ true
must_rm (place.Memory s) h = refl
must_rm _ h = absurd (cc)

-- ---- each instruction

pair_is : (f : Front) (r : Row) (rest : List ℕ) → AllByRecursion IsByte rest → is_pair r.size r.to r.from ≡ true →
    ArePair (width_of f r.size) (operand_at f r rest r.to) (operand_at f r rest r.from)
pair_is f r rest bytes h =
    let s = r.size in
    elim (or_cases (stored s r.to && in_register s r.from) ((in_register s r.to && stored s r.from) || (stored s r.to && is_number s r.from)) h) [
      | inl one ↦
          (let parts = and_parts (stored s r.to) (in_register s r.from) one in
          inl (stored_is f r rest s r.to bytes parts.0, register_is f r rest s r.from parts.1))
      | inr more ↦
          (elim (or_cases (in_register s r.to && stored s r.from) (stored s r.to && is_number s r.from) more) [
            | inl two ↦
                (let parts = and_parts (in_register s r.to) (stored s r.from) two in
                inr (inl (register_is f r rest s r.to parts.0, stored_is f r rest s r.from bytes parts.1)))
            | inr three ↦
                (let parts = and_parts (stored s r.to) (is_number s r.from) three in
                inr (inr (stored_is f r rest s r.to bytes parts.0, number_is f r rest r.from bytes parts.1)))
          ])
    ]

condition_is : (c : ℕ) → is_condition c ≡ true → (c < 16) × ((c ≢ 10) × (c ≢ 11))
condition_is c h =
    let parts = and_parts (nat_lt c 16) (not (c == 10) && not (c == 11)) h in
    let others = and_parts (not (c == 10)) (not (c == 11)) parts.1 in
    (ltb-true c 16 parts.0, (eqb-false c 10 (not-true (c == 10) others.0), eqb-false c 11 (not-true (c == 11) others.1)))

loads_is : (f : Front) (r : Row) (rest : List ℕ) → AllByRecursion IsByte rest → loads r ≡ true →
    (width_of f r.size ≢ width.Byte) × (IsInRegister (width_of f r.size) (operand_at f r rest r.to) × IsStored (width_of f r.size) (operand_at f r rest r.from))
loads_is f r rest bytes h =
    let parts = and_parts (not (is_byte r.size)) (in_register r.size r.to && stored r.size r.from) h in
    let others = and_parts (in_register r.size r.to) (stored r.size r.from) parts.1 in
    (width-not_byte f r.size (not-true (is_byte r.size) parts.0), (register_is f r rest r.size r.to others.0, stored_is f r rest r.size r.from bytes others.1))

immediate-small : (w : Width) (o : Operand) → IsNumber w o → immediate_of o < 2 ^ bits w
immediate-small w (operand.Imm n) h = h
immediate-small w (operand.Reg r) h = absurd h
immediate-small w (operand.Mem m) h = absurd h

quad_number : (f : Front) (r : Row) (rest : List ℕ) → AllByRecursion IsByte rest → is_distance r ≡ true → IsNumber width.Quad (operand_at f r rest r.to)
quad_number f r rest bytes h =
    let parts = and_parts (same_size r.size size.Quad) (is_number r.size r.to) h in
    let quad : r.size ≡ size.Quad = same_size-true r.size size.Quad parts.0 in
    let P : Size → Type 0 = λ s. IsNumber (width_of f s) (operand_at f r rest r.to) in
    subst P quad (number_is f r rest r.to bytes parts.1)

distance_is : (f : Front) (r : Row) (rest : List ℕ) → AllByRecursion IsByte rest → is_distance r ≡ true → immediate_of (operand_at f r rest r.to) < 2 ^ 64
distance_is f r rest bytes h = immediate-small width.Quad (operand_at f r rest r.to) (quad_number f r rest bytes h)

source_is : (f : Front) (v : Width) → width_of f (source_size v) ≡ v
source_is f width.Byte = refl
source_is f width.Word = refl
source_is f width.Long = refl
source_is f width.Quad = refl

narrow_is : (v : Width) → is_narrow v ≡ true → IsNarrow v
narrow_is width.Byte h = inl refl
narrow_is width.Word h = inr refl
narrow_is width.Long h = absurd (cc)
narrow_is width.Quad h = absurd (cc)

extension_is : (f : Front) (r : Row) (rest : List ℕ) (v : Width) → AllByRecursion IsByte rest →
    (not (is_byte r.size) && (is_narrow v && (in_register r.size r.to && stored (source_size v) r.from))) ≡ true →
    (width_of f r.size ≢ width.Byte) × (IsNarrow v × (IsInRegister (width_of f r.size) (operand_at f r rest r.to) × IsStored v (operand_at f r rest r.from)))
extension_is f r rest v bytes h =
    let parts = and_parts (not (is_byte r.size)) (is_narrow v && (in_register r.size r.to && stored (source_size v) r.from)) h in
    let operands = and_parts (is_narrow v) (in_register r.size r.to && stored (source_size v) r.from) parts.1 in
    let others = and_parts (in_register r.size r.to) (stored (source_size v) r.from) operands.1 in
    let P : Width → Type 0 = λ w. IsStored w (operand_at f r rest r.from) in (
      width-not_byte f r.size (not-true (is_byte r.size) parts.0),
      (
        narrow_is v operands.0,
        (register_is f r rest r.size r.to others.0, subst P (source_is f v) (stored_is f r rest (source_size v) r.from bytes others.1)),
      ),
    )

without_w : (b : Before) (f : Front) → is_without_w b ≡ true → before_allows b f ≡ true → rex_bit 8 f.rex ≡ 0
without_w before.WithoutW f h e = eqb-true (rex_bit 8 f.rex) 0 e
without_w _ f h e = absurd (cc)

byte_not_quad : (f : Front) (s : Size) → is_byte s ≡ true → width_of f s ≢ width.Quad
byte_not_quad f size.Byte h = λ e. absurd (cc)
byte_not_quad f _ h = absurd (cc)

division_is : (f : Front) (r : Row) (rest : List ℕ) → Stands f r rest →
    (stored r.size r.to && (is_byte r.size || (same_size r.size size.Operand && is_without_w r.before))) ≡ true →
    (width_of f r.size ≢ width.Quad) × IsStored (width_of f r.size) (operand_at f r rest r.to)
division_is f r rest st h =
    let parts = and_parts (stored r.size r.to) (is_byte r.size || (same_size r.size size.Operand && is_without_w r.before)) h in
    let narrow : width_of f r.size ≢ width.Quad =
    elim (or_cases (is_byte r.size) (same_size r.size size.Operand && is_without_w r.before) parts.1) [
      | inl one ↦ byte_not_quad f r.size one
      | inr two ↦
          (let others = and_parts (same_size r.size size.Operand) (is_without_w r.before) two in
          let chosen : r.size ≡ size.Operand = same_size-true r.size size.Operand others.0 in
          let P : Size → Type 0 = λ s. width_of f s ≢ width.Quad in
          subst P (sym chosen) (operand_width-not_quad f (without_w r.before f others.1 (front_allowed f r (get_or rest 0 0) st.allowed))))
    ] in
    (narrow, stored_is f r rest r.size r.to st.bytes parts.0)

changed_is : (f : Front) (r : Row) (rest : List ℕ) → Stands f r rest → (stored r.size r.to && locks r) ≡ true →
    IsStored (width_of f r.size) (operand_at f r rest r.to) × LocksMemory f.lock (operand_at f r rest r.to)
changed_is f r rest st h =
    let parts = and_parts (stored r.size r.to) (locks r) h in
    (stored_is f r rest r.size r.to st.bytes parts.0, locks_is f r rest st parts.1)

-- what a row spells is formed
named_is : (f : Front) (r : Row) (rest : List ℕ) (n : Name) → Stands f r rest → shaped n r ≡ true →
    IsFormed (named n (width_of f r.size) (operand_at f r rest r.to) (operand_at f r rest r.from) (operand_at f r rest r.by) f.lock)
named_is f r rest (name.Alu o) st h =
    let parts = and_parts (is_pair r.size r.to r.from) (locks r && (is_never r.lock || not (is_compare o))) h in
    let others = and_parts (locks r) (is_never r.lock || not (is_compare o)) parts.1 in (
      pair_is f r rest st.bytes parts.0,
      (
        locks_is f r rest st others.0,
        λ locked. compare_free o (not-true (is_compare o) (first_of_two (is_never r.lock) (not (is_compare o)) others.1 (not_never f r rest st locked))),
      ),
    )
named_is f r rest name.Test st h = pair_is f r rest st.bytes h
named_is f r rest name.Xchg st h =
    let parts = and_parts (stored r.size r.to) (in_register r.size r.from && locks r) h in
    let others = and_parts (in_register r.size r.from) (locks r) parts.1 in (
      stored_is f r rest r.size r.to st.bytes parts.0,
      (
        register_is f r rest r.size r.from others.0,
        or_memory f.lock (is_in_memory (operand_at f r rest r.to)) (locks_is f r rest st others.1),
      ),
    )
named_is f r rest name.Mov st h = pair_is f r rest st.bytes h
named_is f r rest name.Lea st h =
    let parts = and_parts (not (is_byte r.size)) (in_register r.size r.to && must_be_memory r.from) h in
    let others = and_parts (in_register r.size r.to) (must_be_memory r.from) parts.1 in
    let m : is_memory (get_or rest 0 0) ≡ true = is_memory-must f r (get_or rest 0 0) st.allowed (from_asks r (must_ask r.from others.1)) (inr others.1) in
    (width-not_byte f r.size (not-true (is_byte r.size) parts.0), (register_is f r rest r.size r.to others.0, must_is f r rest r.from st.bytes others.1 m))
named_is f r rest (name.MovZx v) st h = extension_is f r rest v st.bytes h
named_is f r rest (name.MovSx v) st h = extension_is f r rest v st.bytes h
named_is f r rest name.MovSxd st h =
    let parts = and_parts (in_register size.Quad r.to) (stored size.Long r.from) h in
    (register_is f r rest size.Quad r.to parts.0, stored_is f r rest size.Long r.from st.bytes parts.1)
named_is f r rest name.Push st h =
    elim (or_cases (stored size.Quad r.to) (is_distance r) h) [
      | inl one ↦ inl (stored_is f r rest size.Quad r.to st.bytes one)
      | inr two ↦ inr (quad_number f r rest st.bytes two)
    ]
named_is f r rest name.Pop st h = stored_is f r rest size.Quad r.to st.bytes h
named_is f r rest name.Leave st h = tt
named_is f r rest name.Ret st h = tt
named_is f r rest name.Call st h = distance_is f r rest st.bytes h
named_is f r rest name.Jmp st h = distance_is f r rest st.bytes h
named_is f r rest name.CallInd st h = stored_is f r rest size.Quad r.to st.bytes h
named_is f r rest name.JmpInd st h = stored_is f r rest size.Quad r.to st.bytes h
named_is f r rest (name.Jcc c) st h =
    let parts = and_parts (is_condition c) (is_distance r) h in
    (condition_is c parts.0, distance_is f r rest st.bytes parts.1)
named_is f r rest (name.SetCc c) st h =
    let parts = and_parts (is_condition c) (stored size.Byte r.to) h in
    (condition_is c parts.0, stored_is f r rest size.Byte r.to st.bytes parts.1)
named_is f r rest (name.CmovCc c) st h =
    let parts = and_parts (is_condition c) (loads r) h in
    (condition_is c parts.0, loads_is f r rest st.bytes parts.1)
named_is f r rest name.Inc st h = changed_is f r rest st h
named_is f r rest name.Dec st h = changed_is f r rest st h
named_is f r rest name.Not st h = changed_is f r rest st h
named_is f r rest name.Neg st h = stored_is f r rest r.size r.to st.bytes h
named_is f r rest name.Mul st h = stored_is f r rest r.size r.to st.bytes h
named_is f r rest name.ImulOne st h = stored_is f r rest r.size r.to st.bytes h
named_is f r rest name.Div st h = division_is f r rest st h
named_is f r rest name.Idiv st h = division_is f r rest st h
named_is f r rest name.ImulTwo st h = loads_is f r rest st.bytes h
named_is f r rest name.ImulThree st h =
    let parts = and_parts (loads r) (is_number r.size r.by) h in
    let two = loads_is f r rest st.bytes parts.0 in
    (two.0, (two.1.0, (two.1.1, number_is f r rest r.by st.bytes parts.1)))
named_is f r rest (name.Shift o) st h =
    let parts = and_parts (stored r.size r.to) (is_count r.from) h in
    (stored_is f r rest r.size r.to st.bytes parts.0, count_is f r rest r.from st.bytes parts.1)
named_is f r rest name.Widen st h = width-not_byte f r.size (not-true (is_byte r.size) h)
named_is f r rest name.SignFill st h = width-not_byte f r.size (not-true (is_byte r.size) h)
named_is f r rest name.Cmpxchg st h =
    let parts = and_parts (must_be_memory r.to) (in_register r.size r.from && is_always r.lock) h in
    let others = and_parts (in_register r.size r.from) (is_always r.lock) parts.1 in
    let m : is_memory (get_or rest 0 0) ≡ true = is_memory-must f r (get_or rest 0 0) st.allowed (to_asks r (must_ask r.to parts.0)) (inl parts.0) in
    let rm : is_rm r.to ≡ true = must_rm r.to parts.0 in (
      must_is f r rest r.to st.bytes parts.0 m,
      (
        register_is f r rest r.size r.from others.0,
        always_is f r rest st rm others.1 ∙ (rm_is f r rest r.to rm ∙ m),
      ),
    )
named_is f r rest name.Xadd st h =
    let parts = and_parts (stored r.size r.to && is_rm r.to) (in_register r.size r.from && is_always r.lock) h in
    let first = and_parts (stored r.size r.to) (is_rm r.to) parts.0 in
    let others = and_parts (in_register r.size r.from) (is_always r.lock) parts.1 in
    (stored_is f r rest r.size r.to st.bytes first.0, (register_is f r rest r.size r.from others.0, always_is f r rest st first.1 others.1))
named_is f r rest name.Nop st h = tt
named_is f r rest name.Pause st h = tt
named_is f r rest name.Endbr st h = tt
named_is f r rest name.Mfence st h = tt
named_is f r rest name.Ud2 st h = tt

all-second : (xs ys : List ℕ) → AllByRecursion IsByte (xs ++ ys) → AllByRecursion IsByte ys
all-second [] ys h = h
all-second (x ∷ xs) ys h = all-second xs ys h.1

-- what bytes spell is formed
pub spelling-formed : (bytes : List ℕ) (i : Instr) → Spells bytes i → IsFormed i
unfolding meaning
spelling-formed bytes i s =
    let by = s.spelled in
    let f = front_of s.prefixes s.rex in
    let P : List ℕ → Type 0 = λ x. AllByRecursion IsByte x in
    let after_front : AllByRecursion IsByte (rex_bytes s.rex ++ s.body) = all-second s.prefixes (rex_bytes s.rex ++ s.body) (subst P s.parts s.are_bytes) in
    let in_body : AllByRecursion IsByte s.body = all-second (rex_bytes s.rex) s.body after_front in
    let in_rest : AllByRecursion IsByte by.rest = all-second (code_bytes s.row.code) by.rest (subst P by.parts in_body) in
    let stands : Stands f s.row by.rest = record { bytes = in_rest; allowed = by.allowed } in
    let formed = named_is f s.row by.rest s.row.name stands (shaped_at table s.row table-all_shaped s.listed) in
    subst IsFormed (sym by.means) formed
