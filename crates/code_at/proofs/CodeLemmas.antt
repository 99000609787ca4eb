-- The bytes of code, and the one instruction that stands at an address.
use Rattle.std.proofs.Common.{◌≡◌, ℕ, zero, suc, Some, ◌+◌, ◌-◌, ◌^◌, ◌<◌, ◌≤◌, min, Bool, true, false, ◌&&◌, List, [], ◌∷◌, ◌++◌, length, take, drop, replicate, get_or, arith, refl, sym, ap, ◌∙◌, subst, inl, inr, length-append, length-take, length-drop}
use Rattle.std.specs.Prelude.{◌⊎◌, if◌then◌else◌, nat_le, nat_lt}
use Rattle.std.specs.List.{AllByRecursion, slice_get}
use Rattle.std.proofs.Math.Seq.{take-add}
use Rattle.std.proofs.lemmas.Bool.{cases_lt}
use Rattle.std.proofs.lemmas.Bool.Decides.{nat_tests}
use Rattle.std.proofs.lemmas.List.{length-replicate, length-take-le, take-take, ext_get_or, get_or-take, get_or-drop, get_or_append_left, get_or-append-add, get_or-replicate, get_or_past}
use Rattle.ev_graph.specs.Memory.{Part, has_flag}
use Rattle.x64_syntax.specs.declared.instr.Instr.{Instr}
use Rattle.x64_decode.specs.Spelling.{Spells}
use Rattle.x64_decode.proofs.CallerLemmas.{spellings-alone}
use Rattle.elf_read.specs.Elf.{IsSegment}
use Rattle.code_at.specs.Code.{memory_bytes, code_from, IsInCode}

-- a part's memory has as many bytes as it says
pub length-memory_bytes : (part : Part) → length (memory_bytes part) ≡ part.size
length-memory_bytes part =
    let whole = length-append (take part.size part.bytes) (replicate (part.size - length part.bytes) 0) in
    let front = length-take part.size part.bytes in
    let behind = length-replicate {A = ℕ} (part.size - length part.bytes) 0 in
    omega (arith, whole, front, behind)

-- code ends where its part does
code_within : (b : Bool) (part : Part) (parts : List Part) (address n : ℕ) → (has_flag part.flags 1 && (nat_le part.address address && nat_lt address (part.address + part.size))) ≡ b
    → IsSegment part → (n ≤ length (code_from parts address) → 0 < n → address + n ≤ 2 ^ 46) → 0 < n
    → n ≤ length (if b then drop (address - part.address) (memory_bytes part) else code_from parts address) → address + n ≤ 2 ^ 46
code_within true part parts address n test segment others some within =
    let rest = length-drop (address - part.address) (memory_bytes part) in
    let whole = length-memory_bytes part in
    let inside : part.address ≤ address = at_least (has_flag part.flags 1) test in
    omega (arith, rest, whole, within, some, segment.low, inside)
  where
    at_least : (flag : Bool) → (flag && (nat_le part.address address && nat_lt address (part.address + part.size))) ≡ true → part.address ≤ address
    at_least true e = grind (arith, nat_tests)
    at_least false e = absurd cc
code_within false part parts address n test segment others some within = others within some

pub code_low : (parts : List Part) (address n : ℕ) → AllByRecursion IsSegment parts → 0 < n → n ≤ length (code_from parts address) → address + n ≤ 2 ^ 46
code_low [] address n segments some within = absurd (omega (arith, some, within))
code_low (part ∷ parts) address n segments some within =
    code_within (has_flag part.flags 1 && (nat_le part.address address && nat_lt address (part.address + part.size))) part parts address n refl segments.0
    (λ less positive. code_low parts address n segments.1 positive less) some within

-- bytes begin with one spelling at most
spelled_once : (bytes : List ℕ) (n m : ℕ) (i j : Instr) → n ≤ m → m ≤ length bytes → Spells (take n bytes) i → Spells (take m bytes) j → (n ≡ m) × (i ≡ j)
spelled_once bytes n m i j less within one other =
    let parts : take m bytes ≡ take n bytes ++ take (m - n) (drop n bytes) =
    ap (λ k. take k bytes) (let e : m ≡ n + (m - n) = omega (arith, less) in e) ∙ take-add n (m - n) bytes in
    let alone = spellings-alone (take n bytes) (take (m - n) (drop n bytes)) i j one (subst (λ l. Spells l j) parts other) in
    let whole : length (take m bytes) ≡ m = length-take-le m bytes within in
    let front : length (take n bytes) ≡ n = length-take-le n bytes (omega (arith, less, within)) in
    let same : length (take m bytes) ≡ length (take n bytes) + length (take (m - n) (drop n bytes)) = ap length parts ∙ length-append (take n bytes) (take (m - n) (drop n bytes)) in
    let none : length (take (m - n) (drop n bytes)) ≡ 0 = ap length alone.0 in
    (omega (arith, whole, front, same, none), alone.1)

pub same_spelling : (bytes : List ℕ) (n m : ℕ) (i j : Instr) → n ≤ length bytes → m ≤ length bytes → Spells (take n bytes) i → Spells (take m bytes) j → (n ≡ m) × (i ≡ j)
same_spelling bytes n m i j n_in m_in one other = by_order (cases_lt n m)
  where
    by_order : (n < m) ⊎ (m ≤ n) → (n ≡ m) × (i ≡ j)
    by_order (inl less) = spelled_once bytes n m i j (omega (arith, less)) m_in one other
    by_order (inr less) = let back = spelled_once bytes m n j i less n_in other one in (sym back.0, sym back.1)

-- ---- what a window shows

-- a byte of a part's memory
memory_byte : (part : Part) (k : ℕ) → k < part.size → get_or (memory_bytes part) k 0 ≡ get_or part.bytes k 0
memory_byte part k inside = by_order (cases_lt k (length part.bytes))
  where
    front : List ℕ
    front = take part.size part.bytes

    zeros : List ℕ
    zeros = replicate (part.size - length part.bytes) 0

    long : length front ≡ min part.size (length part.bytes)
    long = length-take part.size part.bytes

    by_order : (k < length part.bytes) ⊎ (length part.bytes ≤ k) → get_or (front ++ zeros) k 0 ≡ get_or part.bytes k 0
    by_order (inl there) =
        get_or_append_left front zeros 0 k (omega (arith, long, there, inside)) ∙ get_or-take part.size part.bytes k 0 inside
    by_order (inr past) =
        let place : k ≡ length front + (k - length front) = omega (arith, long, past, inside) in
        let zero' : k - length front < part.size - length part.bytes = omega (arith, long, past, inside) in
        ap (λ j. get_or (front ++ zeros) j 0) place ∙ get_or-append-add front zeros (k - length front) 0
        ∙ get_or-replicate (part.size - length part.bytes) (k - length front) 0 0 zero' ∙ sym (get_or_past part.bytes k 0 past)

pub window_shown : (part : Part) (bytes : List ℕ) (offset count : ℕ) → length bytes ≡ 15 → count ≡ min (part.size - offset) 15 → offset < part.size
    → ((j : ℕ) → j < 15 → get_or bytes j 0 ≡ get_or part.bytes (offset + j) 0) → take count bytes ≡ take 15 (drop offset (memory_bytes part))
window_shown part bytes offset count long many inside same =
    ext_get_or 0 (take count bytes) (take 15 (drop offset (memory_bytes part))) lengths (λ i lt. each i (omega (arith, lt, mine, many)))
  where
    mine : length (take count bytes) ≡ min count (length bytes)
    mine = length-take count bytes

    lengths : length (take count bytes) ≡ length (take 15 (drop offset (memory_bytes part)))
    lengths = omega (arith, mine, long, many, length-take 15 (drop offset (memory_bytes part)), length-drop offset (memory_bytes part), length-memory_bytes part)

    each : (i : ℕ) → i < count → get_or (take count bytes) i 0 ≡ get_or (take 15 (drop offset (memory_bytes part))) i 0
    each i lt =
        get_or-take count bytes i 0 lt ∙ same i (omega (arith, lt, many))
        ∙ sym (get_or-take 15 (drop offset (memory_bytes part)) i 0 (omega (arith, lt, many)) ∙ get_or-drop offset (memory_bytes part) i 0
        ∙ memory_byte part (offset + i) (omega (arith, lt, many, inside)))

-- ---- what the decoder says of it

pub again : (bytes slice : List ℕ) → slice ≡ take 15 bytes → take 15 slice ≡ take 15 bytes
again bytes slice same = ap (take 15) same ∙ take-take 15 15 bytes (omega arith)

-- ---- where code is

here_from : (flag : Bool) (part : Part) (address : ℕ) → (flag && (nat_le part.address address && nat_lt address (part.address + part.size))) ≡ true
    → (flag ≡ true) × (part.address ≤ address) × (address < part.address + part.size)
here_from true part address e = (refl, grind (arith, nat_tests), grind (arith, nat_tests))
here_from false part address e = absurd cc

here_true : (part : Part) (address : ℕ) → has_flag part.flags 1 ≡ true → part.address ≤ address → address < part.address + part.size
    → (has_flag part.flags 1 && (nat_le part.address address && nat_lt address (part.address + part.size))) ≡ true
here_true part address flag from below = grind (arith, nat_tests)

in_later : (part : Part) (parts : List Part) (address : ℕ) → IsInCode parts address → IsInCode (part ∷ parts) address
in_later part parts address is = record { part = is.part; stands = (suc is.stands.0, is.stands.1); executable = is.executable; from = is.from; below = is.below }

-- an address from which there is code lies in code
pub in_code : (parts : List Part) (address : ℕ) → 0 < length (code_from parts address) → IsInCode parts address
in_code [] address some = absurd (omega (arith, some))
in_code (part ∷ parts) address some =
    by_test (has_flag part.flags 1 && (nat_le part.address address && nat_lt address (part.address + part.size))) refl some (in_code parts address)
  where
    by_test : (b : Bool) → (has_flag part.flags 1 && (nat_le part.address address && nat_lt address (part.address + part.size))) ≡ b
        → 0 < length (if b then drop (address - part.address) (memory_bytes part) else code_from parts address)
        → (0 < length (code_from parts address) → IsInCode parts address) → IsInCode (part ∷ parts) address
    by_test true e more rest =
        let said = here_from (has_flag part.flags 1) part address e in
        record { part = part; stands = (0, refl); executable = said.0; from = said.1; below = said.2 }
    by_test false e more rest = in_later part parts address (rest more)

-- and from an address that lies in code there is some
pub code_in : (parts : List Part) (address : ℕ) → IsInCode parts address → 0 < length (code_from parts address)
code_in [] address is = absurd (let nothing = is.stands.1 in cc)
code_in (part ∷ parts) address is =
    by_test (has_flag part.flags 1 && (nat_le part.address address && nat_lt address (part.address + part.size))) refl (code_in parts address)
  where
    rest_of : (i : ℕ) → slice_get (part ∷ parts) i ≡ Some is.part
        → (has_flag part.flags 1 && (nat_le part.address address && nat_lt address (part.address + part.size))) ≡ false → IsInCode parts address
    rest_of zero at e =
        let same : part ≡ is.part = cc in
        absurd (let yes_it = subst (λ (q : Part). (has_flag q.flags 1 && (nat_le q.address address && nat_lt address (q.address + q.size))) ≡ true) (sym same) (here_true is.part address is.executable is.from is.below) in cc)
    rest_of (suc i) at e = record { part = is.part; stands = (i, at); executable = is.executable; from = is.from; below = is.below }

    by_test : (b : Bool) → (has_flag part.flags 1 && (nat_le part.address address && nat_lt address (part.address + part.size))) ≡ b
        → (IsInCode parts address → 0 < length (code_from parts address))
        → 0 < length (if b then drop (address - part.address) (memory_bytes part) else code_from parts address)
    by_test true e rest =
        let said = here_from (has_flag part.flags 1) part address e in
        let gone = length-drop (address - part.address) (memory_bytes part) in
        let whole = length-memory_bytes part in
        omega (arith, gone, whole, said.1, said.2)
    by_test false e rest = rest (rest_of is.stands.0 is.stands.1 e)
