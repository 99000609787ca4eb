-- What callers of `decode_one` learn from its answer.
use Rattle.std.proofs.Common.{◌≡◌, ℕ, ◌+◌, ◌<◌, ◌≤◌, min, List, ◌++◌, length, take, Err, Ok, sym, ◌∙◌, ap, subst, arith, length-append, length-take}
use Rattle.std.proofs.lemmas.List.{length-take-le, take-take}
use Rattle.x64_syntax.specs.declared.instr.Instr.{Instr}
use Rattle.x64_decode.specs.declared.decode.DecodeFault.{DecodeFault}
use Rattle.x64_decode.specs.declared.decode.DecodeFault.TheVariants.{Cut, Unknown, TooLong}
use Rattle.x64_decode.specs.Fronts.{rex_bytes}
use Rattle.x64_decode.specs.Spelling.{Answers, BeginsWithSpelling, IsLengthWithin, Spells, SpellingsStandAlone}
use Rattle.x64_syntax.specs.Formed.{IsFormed}
use Rattle.x64_decode.proofs.RowForms
use Rattle.x64_decode.proofs.Law.{spellings_stand_alone}
use Rattle.x64_decode.proofs.Readings.{body-opens}

-- an instruction has at least one byte
pub spelling-some : (bytes : List ℕ) (i : Instr) → Spells bytes i → 0 < length bytes
spelling-some bytes i spelled =
    let body : 0 < length spelled.body = (body-opens bytes i spelled bytes).1 in
    let front : length (rex_bytes spelled.rex ++ spelled.body) ≡ length (rex_bytes spelled.rex) + length spelled.body = length-append (rex_bytes spelled.rex) spelled.body in
    let whole : length bytes ≡ length spelled.prefixes + length (rex_bytes spelled.rex ++ spelled.body) = ap length spelled.parts ∙ length-append spelled.prefixes (rex_bytes spelled.rex ++ spelled.body) in
    omega arith

-- its operands are in range and where the instruction has them
pub spelling-formed : (bytes : List ℕ) (i : Instr) → Spells bytes i → IsFormed i
spelling-formed = RowForms.spelling-formed

-- no spelling begins another, and none means two instructions
pub spellings-alone : SpellingsStandAlone
spellings-alone = spellings_stand_alone

-- the first of the first 15 bytes are the first
taken_twice : (n : ℕ) (bytes : List ℕ) → n ≤ length (take 15 bytes) → (n ≤ 15) × (n ≤ length bytes) × (take n (take 15 bytes) ≡ take n bytes)
taken_twice n bytes h =
    let count : length (take 15 bytes) ≡ min 15 (length bytes) = length-take 15 bytes in
    let few : n ≤ 15 = omega arith in
    (few, omega arith, take-take n 15 bytes few)

-- an answer's bytes spell its instruction
pub decoded : (bytes : List ℕ) (i : Instr) (n : ℕ) → Answers (take 15 bytes) (Ok (i, n)) →
    IsLengthWithin (length bytes) n × Spells (take n bytes) i
decoded bytes i n h =
    let same = taken_twice n bytes h.0 in
    let P : List ℕ → Type 0 = λ x. Spells x i in
    let spelled : Spells (take n bytes) i = subst P same.2 h.1 in
    let some : 0 < length (take n bytes) = spelling-some (take n bytes) i spelled in
    let count : length (take n bytes) ≡ n = length-take-le n bytes same.1 in
    ((omega arith, same.0, same.1), spelled)

-- and no others at the front of the bytes spell any
pub decoded-only : (bytes : List ℕ) (i : Instr) (n : ℕ) → Answers (take 15 bytes) (Ok (i, n)) →
    (m : ℕ) (j : Instr) → m ≤ 15 → m ≤ length bytes → Spells (take m bytes) j → (m ≡ n) × (j ≡ i)
decoded-only bytes i n h m j few within spelled =
    let count : length (take 15 bytes) ≡ min 15 (length bytes) = length-take 15 bytes in
    let P : List ℕ → Type 0 = λ x. Spells x j in
    h.2 m j (omega arith) (subst P (sym (take-take m 15 bytes few)) spelled)

none_within : (bytes : List ℕ) → (BeginsWithSpelling (take 15 bytes) → ⊥) → (m : ℕ) (j : Instr) → m ≤ 15 → m ≤ length bytes → Spells (take m bytes) j → ⊥
none_within bytes none m j few within spelled =
    let count : length (take 15 bytes) ≡ min 15 (length bytes) = length-take 15 bytes in
    let P : List ℕ → Type 0 = λ x. Spells x j in
    none (m, j, omega arith, subst P (sym (take-take m 15 bytes few)) spelled)

-- where there is none, no bytes at the front, up to 15, spell an instruction
pub refused : (bytes : List ℕ) (e : DecodeFault) → Answers (take 15 bytes) (Err e) →
    (m : ℕ) (j : Instr) → m ≤ 15 → m ≤ length bytes → Spells (take m bytes) j → ⊥
refused bytes Cut h = none_within bytes h.0
refused bytes Unknown h = none_within bytes h.0
refused bytes TooLong h = none_within bytes h.0

-- the length that an answer for at most 15 bytes gives
pub answer-length : (c : List ℕ) (i : Instr) (n : ℕ) → length c ≤ 15 → Answers c (Ok (i, n)) → IsLengthWithin (length c) n
answer-length c i n few h =
    let some : 0 < length (take n c) = spelling-some (take n c) i h.1 in
    let count : length (take n c) ≡ n = length-take-le n c h.0 in
    let within : n ≤ length c = h.0 in
    (omega arith, omega arith, within)
