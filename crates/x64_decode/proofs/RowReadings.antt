-- One row's reading, and what it spells.
use Rattle.std.proofs.Common.{◌≡◌, ℕ, zero, suc, ◌+◌, ◌-◌, ◌*◌, ◌/◌, ◌%◌, ◌<◌, ◌≤◌, Bool, true, false, not, ◌&&◌, nat_le, nat_lt, if◌then◌else◌, List, [], ◌∷◌, ◌++◌, length, take, drop, replicate, get_or, slice_index_or, Option, Some, None, ◌⊎◌, inl, inr, refl, sym, ◌∙◌, ap, subst, arith, append_assoc, append-nil, length-append, length-drop}
use Rattle.std.specs.List.{AllByRecursion}
use Rattle.std.proofs.Math.Seq.{take-append-add, drop-append_seam}
use Rattle.std.proofs.lemmas.Bool.{and_parts, and_from, cases_lt, cases_Bool, le-leb, leb-true, leb-false, le-ltb, lt-ltb, eq-eqb}
use Rattle.std.proofs.lemmas.List.{length-take-le, length-replicate, get_or-take, take_at, drop_all}
use Rattle.x64_syntax.specs.declared.instr.Instr.{Instr}
use Rattle.x64_decode.specs.declared.reading.Reading.{Reading}
use Rattle.x64_decode.specs.declared.reading.Reading.TheVariants.{Done, More, Bad}
use Rattle.x64_decode.specs.declared.row.Front.{Front}
use Rattle.x64_decode.specs.declared.row.Row.{Row}
use Rattle.x64_decode.specs.Bytes.{IsByte}
use Rattle.x64_decode.specs.Meaning.{meaning}
use Rattle.x64_decode.specs.Operands.{has_modrm, displacement_size, has_sib, is_memory, is_rip, modrm_size, operand_size, rest_size, sib_size}
use Rattle.x64_decode.specs.Reading.{agrees, chosen, digit_of, row_reading}
use Rattle.x64_decode.specs.Spelling.{SpellsBy, allows, code_bytes, digit_allows, modrm_allows, takes_memory, takes_register, before_allows}
use Rattle.x64_decode.proofs.Codes.{agrees-along, along, along-from, along-long, along-short, follows}
use Rattle.x64_decode.proofs.Merges.{Meets}
use Rattle.x64_decode.proofs.Sizes.{allows-without_modrm, rest_size-more, rest_size-taken, rest_size-whole, rest_size-with_modrm, rest_size-zeros}

-- ---- the answer's two tests, and its outcomes

abbrev pub pick : Bool → Bool → Instr → ℕ → ℕ → Reading
pick a c m w k = if a then (if c then Done m w else More k) else Bad

picked_done : (a c : Bool) (m : Instr) (w k : ℕ) (i : Instr) (n : ℕ) → pick a c m w k ≡ Done i n →
    (a ≡ true) × (c ≡ true) × (m ≡ i) × (w ≡ n)
picked_done true true m w k i n e = (refl, refl, cc, cc)
picked_done true false m w k i n e = absurd (cc)
picked_done false c m w k i n e = absurd (cc)

picked_more : (a c : Bool) (m : Instr) (w k n : ℕ) → pick a c m w k ≡ More n →
    (a ≡ true) × (c ≡ false) × (k ≡ n)
picked_more true true m w k n e = absurd (cc)
picked_more true false m w k n e = (refl, refl, cc)
picked_more false c m w k n e = absurd (cc)

picked_meets : (a c : Bool) (m : Instr) (w k n : ℕ) → a ≡ true → k ≤ n → Meets (pick a c m w k) n
picked_meets true true m w k n h l = tt
picked_meets true false m w k n h l = l
picked_meets false c m w k n h l = absurd (cc)

-- ---- ModRM that isn't there

-- the chosen digit is small
digit_of-small : (d : Option ℕ) → digit_of d < 8
digit_of-small None = omega arith
digit_of-small (Some d) = omega arith

-- the chosen byte has the row's digit
digit_allows-low : (d : Option ℕ) → digit_allows d (8 * digit_of d) ≡ true
digit_allows-low None = refl
digit_allows-low (Some d) = eq-eqb (8 * (d % 8) / 8 % 8) (d % 8) (omega arith)

digit_allows-high : (d : Option ℕ) → digit_allows d (0xC0 + 8 * digit_of d) ≡ true
digit_allows-high None = refl
digit_allows-high (Some d) = eq-eqb ((0xC0 + 8 * (d % 8)) / 8 % 8) (d % 8) (omega arith)

-- of two tests that a byte chooses between the second holds where the first doesn't and the chosen one does
second_of : (b t : Bool) → (if b then false else t) ≡ true → t ≡ true
second_of true t h = absurd (cc)
second_of false t h = h

chosen_by : (tm tr : Bool) (d : Option ℕ) (m : ℕ) →
    (digit_allows d m && (if nat_lt m 0xC0 then tm else tr)) ≡ true →
    (digit_allows d (if tm then 8 * digit_of d else 0xC0 + 8 * digit_of d)
    && (if nat_lt (if tm then 8 * digit_of d else 0xC0 + 8 * digit_of d) 0xC0 then tm else tr)) ≡ true
chosen_by true tr d m h =
    let small : digit_of d < 8 = digit_of-small d in
    rw (digit_allows-low d, lt-ltb (8 * digit_of d) 0xC0 (omega arith)) refl
chosen_by false tr d m h =
    let part : (if nat_lt m 0xC0 then false else tr) ≡ true = (and_parts (digit_allows d m) (if nat_lt m 0xC0 then false else tr) h).1 in
    let holds : tr ≡ true = second_of (nat_lt m 0xC0) tr part in
    rw (digit_allows-high d, le-ltb (0xC0 + 8 * digit_of d) 0xC0 (omega arith)) holds

chosen_modrm : (f : Front) (r : Row) (m : ℕ) → modrm_allows f r m ≡ true → modrm_allows f r (chosen f r) ≡ true
unfolding modrm_allows chosen is_memory
chosen_modrm f r m h = chosen_by (takes_memory f r) (takes_register f r) r.digit m h

-- the chosen byte asks for nothing after it
chosen-low : (f : Front) (r : Row) → (chosen f r % 8 ≡ 0) × ((chosen f r / 64 ≡ 0) ⊎ (chosen f r / 64 ≡ 3))
unfolding chosen
chosen-low f r =
    let small : digit_of r.digit < 8 = digit_of-small r.digit in
    elim (takes_memory f r) as (λ b. ((if b then 8 * digit_of r.digit else 0xC0 + 8 * digit_of r.digit) % 8 ≡ 0) × (((if b then 8 * digit_of r.digit else 0xC0 + 8 * digit_of r.digit) / 64 ≡ 0) ⊎ ((if b then 8 * digit_of r.digit else 0xC0 + 8 * digit_of r.digit) / 64 ≡ 3)))
    [ true ↦ (omega arith, inl (omega arith)) | false ↦ (omega arith, inr (omega arith)) ]

no_memory : (b : Bool) → (b && false) ≡ false
no_memory true = refl
no_memory false = refl

sizes_at : (m s : ℕ) → m % 8 ≡ 0 → ((m / 64 ≡ 0) ⊎ (m / 64 ≡ 3)) → (sib_size m ≡ 0) × (displacement_size m s ≡ 0)
unfolding sib_size displacement_size has_sib is_rip
sizes_at m s low (inl e) = rw (low, e, no_memory (is_memory m)) (refl, refl)
sizes_at m s low (inr e) = rw (low, e, no_memory (is_memory m)) (refl, refl)

pub rest_size-chosen : (f : Front) (r : Row) (more : List ℕ) → rest_size f r (chosen f r ∷ more) ≡ rest_size f r []
unfolding rest_size operand_size modrm_size
rest_size-chosen f r more =
    let low = chosen-low f r in
    let sizes = sizes_at (chosen f r) (get_or more 0 0) low.0 low.1 in
    let none = sizes_at 0 0 refl (inl refl) in
    rw (sizes.0, sizes.1, none.0, none.1) refl

-- a row that allows some ModRM byte allows the chosen one
pub allows-chosen : (f : Front) (r : Row) (m : ℕ) → allows f r m ≡ true → allows f r (chosen f r) ≡ true
unfolding allows
allows-chosen f r m h =
    let parts = and_parts (before_allows r.before f) (if has_modrm r then modrm_allows f r m else not f.lock) h in
    and_from (before_allows r.before f) (if has_modrm r then modrm_allows f r (chosen f r) else not f.lock) parts.0
    ((elim (has_modrm r) as (λ b. (if b then modrm_allows f r m else not f.lock) ≡ true → (if b then modrm_allows f r (chosen f r) else not f.lock) ≡ true)
    [ true ↦ λ k. chosen_modrm f r m k | false ↦ λ k. k ]) parts.1)

-- ---- the four facts

-- what a row's reading is made of
abbrev pub rest_after : Row → List ℕ → List ℕ
rest_after r body = drop (length (code_bytes r.code)) body

abbrev pub fits : Front → Row → List ℕ → Bool
fits f r body = agrees r.code body && allows f r (slice_index_or (rest_after r body) 0 (chosen f r))

abbrev pub whole_size : Front → Row → List ℕ → ℕ
whole_size f r body = length (code_bytes r.code) + rest_size f r (rest_after r body)

row_reading-is : (f : Front) (r : Row) (body : List ℕ) →
    row_reading f r body
    ≡ pick (fits f r body) (nat_le (whole_size f r body) (length body))
    (meaning f r (take (rest_size f r (rest_after r body)) (rest_after r body)))
    (whole_size f r body) (whole_size f r body - length body)
unfolding row_reading
row_reading-is f r body = refl

-- where ModRM is asked for and its byte is there, it is the first
first_is : (f : Front) (r : Row) (rest : List ℕ) (d : ℕ) → rest_size f r rest ≤ length rest →
    allows f r (get_or rest 0 d) ≡ true → allows f r (get_or rest 0 0) ≡ true
first_is f r [] d h a =
    elim (cases_Bool (has_modrm r)) [
      | inl with_modrm ↦ absurd (let some : 0 < rest_size f r [] = rest_size-with_modrm f r [] with_modrm in omega arith)
      | inr without ↦ allows-without_modrm f r d 0 without a
    ]
first_is f r (x ∷ xs) d h a = a

-- the first of the bytes that are taken is the first
first_of_taken : (f : Front) (r : Row) (rest : List ℕ) → allows f r (get_or rest 0 0) ≡ true →
    allows f r (get_or (take (rest_size f r rest) rest) 0 0) ≡ true
first_of_taken f r rest a =
    elim (cases_Bool (has_modrm r)) [
      | inl with_modrm ↦
          (let some : 0 < rest_size f r rest = rest_size-with_modrm f r rest with_modrm in
          let P : ℕ → Type 0 = λ m. allows f r m ≡ true in
          subst P (sym (get_or-take (rest_size f r rest) rest 0 0 some)) a)
      | inr without ↦ allows-without_modrm f r (get_or rest 0 0) (get_or (take (rest_size f r rest) rest) 0 0) without a
    ]

-- what is read as done is a spelling by the row
pub row_reading-done : (f : Front) (r : Row) (body : List ℕ) (i : Instr) (n : ℕ) → row_reading f r body ≡ Done i n →
    (n ≤ length body) × SpellsBy f r (take n body) i
row_reading-done f r body i n e =
    let code = code_bytes r.code in
    let rest = rest_after r body in
    let size = rest_size f r rest in
    let parts = picked_done (fits f r body) (nat_le (length code + size) (length body)) (meaning f r (take size rest)) (length code + size) (length code + size - length body) i n (sym (row_reading-is f r body) ∙ e) in
    let good = and_parts (agrees r.code body) (allows f r (get_or rest 0 (chosen f r))) parts.0 in
    let enough : length code + size ≤ length body = leb-true (length code + size) (length body) parts.1 in
    let agreed : along code body ≡ true = sym (agrees-along r.code body) ∙ good.0 in
    let whole : body ≡ code ++ rest = along-long code body agreed (omega arith) in
    let room : size ≤ length rest = omega (arith, length-drop (length code) body) in
    let taken : take n body ≡ code ++ take size rest =
    ap (λ m. take m body) (sym parts.3) ∙ (ap (take (length code + size)) whole ∙ take-append-add code rest size) in
    let within : n ≤ length body = omega (arith, parts.3) in (
      within,
      record {
        rest = take size rest;
        parts = taken;
        allowed = first_of_taken f r rest (first_is f r rest (chosen f r) room good.1);
        whole = length-take-le size rest room ∙ sym (rest_size-taken f r rest room);
        means = sym parts.2;
      },
    )

-- more bytes leave the first as it is
first_there : (f : Front) (r : Row) (rest u : List ℕ) (d : ℕ) → rest_size f r rest ≤ length rest →
    allows f r (get_or rest 0 0) ≡ true → allows f r (get_or (rest ++ u) 0 d) ≡ true
first_there f r [] u d h a =
    elim (cases_Bool (has_modrm r)) [
      | inl with_modrm ↦ absurd (let some : 0 < rest_size f r [] = rest_size-with_modrm f r [] with_modrm in omega arith)
      | inr without ↦ allows-without_modrm f r 0 (get_or u 0 d) without a
    ]
first_there f r (x ∷ xs) u d h a = a

-- what begins with a spelling by the row is read as done
pub row_reading-whole : (f : Front) (r : Row) (s u : List ℕ) (i : Instr) → SpellsBy f r s i →
    row_reading f r (s ++ u) ≡ Done i (length s)
row_reading-whole f r s u i spelled =
    let code = code_bytes r.code in
    let rest = spelled.rest in
    let all : s ++ u ≡ code ++ (rest ++ u) = ap (λ x. x ++ u) spelled.parts ∙ append_assoc code rest u in
    let after : rest_after r (s ++ u) ≡ rest ++ u = ap (drop (length code)) all ∙ drop-append_seam code (rest ++ u) in
    let room : rest_size f r rest ≤ length rest = omega (arith, spelled.whole) in
    let size : rest_size f r (rest ++ u) ≡ length rest = rest_size-whole f r rest u room ∙ sym spelled.whole in
    let agreed : agrees r.code (s ++ u) ≡ true = agrees-along r.code (s ++ u) ∙ along-from code (s ++ u) [] (rest ++ u) (append-nil (s ++ u) ∙ all) in
    let first : allows f r (get_or (rest ++ u) 0 (chosen f r)) ≡ true = first_there f r rest u (chosen f r) room spelled.allowed in
    let good : fits f r (s ++ u) ≡ true = and_from (agrees r.code (s ++ u)) (allows f r (get_or (rest_after r (s ++ u)) 0 (chosen f r))) agreed (rw after first) in
    let length_is : length s ≡ length code + length rest = ap length spelled.parts ∙ length-append code rest in
    let enough : nat_le (length code + length rest) (length (s ++ u)) ≡ true = le-leb (length code + length rest) (length (s ++ u)) (omega (arith, length-append s u)) in
    let means : meaning f r (take (length rest) (rest ++ u)) ≡ i = ap (meaning f r) (take_at rest u (length rest) refl) ∙ sym spelled.means in
    let size' : rest_size f r (rest_after r (s ++ u)) ≡ length rest = rw after size in
    let step : pick (fits f r (s ++ u)) (nat_le (whole_size f r (s ++ u)) (length (s ++ u)))
    (meaning f r (take (rest_size f r (rest_after r (s ++ u))) (rest_after r (s ++ u))))
    (whole_size f r (s ++ u)) (whole_size f r (s ++ u) - length (s ++ u)) ≡ Done i (length code + length rest)
    = rw (good, size', after, enough, means) refl in
    row_reading-is f r (s ++ u) ∙ (step ∙ ap (Done i) (sym length_is))

-- the first byte, or the chosen one where it is missing, is allowed where the whole's first is
first_begun : (f : Front) (r : Row) (rest u : List ℕ) → allows f r (get_or (rest ++ u) 0 0) ≡ true →
    allows f r (get_or rest 0 (chosen f r)) ≡ true
first_begun f r [] u a = allows-chosen f r (get_or u 0 0) a
first_begun f r (x ∷ xs) u a = a

-- the bytes that a spelling begins with are read as done, or as missing no more than what is left of it
pub row_reading-begun : (f : Front) (r : Row) (body t : List ℕ) (i : Instr) → SpellsBy f r (body ++ t) i →
    Meets (row_reading f r body) (length t)
row_reading-begun f r body t i spelled =
    let code = code_bytes r.code in
    let rest = rest_after r body in
    let size = rest_size f r rest in
    let (u, on) = follows code body t spelled.rest spelled.parts in
    let agreed : agrees r.code body ≡ true = agrees-along r.code body ∙ along-from code body t spelled.rest spelled.parts in
    let P : List ℕ → Type 0 = λ x. allows f r (get_or x 0 0) ≡ true in
    let first : allows f r (get_or rest 0 (chosen f r)) ≡ true = first_begun f r rest u (subst P on spelled.allowed) in
    let good : fits f r body ≡ true = and_from (agrees r.code body) (allows f r (get_or rest 0 (chosen f r))) agreed first in
    let least : size ≤ rest_size f r (rest ++ u) = rest_size-more f r rest u in
    let Q : List ℕ → Type 0 = λ x. length x ≡ rest_size f r x in
    let whole : length (rest ++ u) ≡ rest_size f r (rest ++ u) = subst Q on spelled.whole in
    let sum : length body + length t ≡ length code + length (rest ++ u) =
    sym (length-append body t) ∙ (ap length spelled.parts ∙ (length-append code spelled.rest ∙ ap (λ x. length code + length x) on)) in
    let few : length code + size - length body ≤ length t = omega arith in
    let R : Reading → Type 0 = λ x. Meets x (length t) in
    subst R (sym (row_reading-is f r body))
    (picked_meets (fits f r body) (nat_le (length code + size) (length body)) (meaning f r (take size rest)) (length code + size) (length code + size - length body) (length t) good few)

-- ---- what is missing can be filled in

-- bytes that make a spelling of these
abbrev pub Completes : Front → Row → List ℕ → ℕ → Type 0
Completes f r body k = (more : List ℕ) × (i : Instr) × (length more ≡ k) × AllByRecursion IsByte more × SpellsBy f r (body ++ more) i

zeros_are_bytes : (n : ℕ) → AllByRecursion IsByte (replicate n 0)
zeros_are_bytes zero = tt
zeros_are_bytes (suc n) = (omega arith, zeros_are_bytes n)

all-append : (xs ys : List ℕ) → AllByRecursion IsByte xs → AllByRecursion IsByte ys → AllByRecursion IsByte (xs ++ ys)
all-append [] ys h k = k
all-append (x ∷ xs) ys h k = (h.0, all-append xs ys h.1 k)

all-drop : (n : ℕ) (xs : List ℕ) → AllByRecursion IsByte xs → AllByRecursion IsByte (drop n xs)
all-drop zero xs h = h
all-drop (suc n) [] h = tt
all-drop (suc n) (x ∷ xs) h = all-drop n xs h.1

chosen-byte : (f : Front) (r : Row) → chosen f r < 256
unfolding chosen
chosen-byte f r =
    let small : digit_of r.digit < 8 = digit_of-small r.digit in
    elim (takes_memory f r) as (λ b. (if b then 8 * digit_of r.digit else 0xC0 + 8 * digit_of r.digit) < 256)
    [ true ↦ omega arith | false ↦ omega arith ]

-- what follows a code, filled up with the chosen ModRM byte and zeros
abbrev pub Fills : Front → Row → List ℕ → Type 0
Fills f r rest =
    (more : List ℕ) × AllByRecursion IsByte more
    × (length rest + length more ≡ rest_size f r rest)
    × (rest_size f r (rest ++ more) ≡ rest_size f r rest)
    × (allows f r (get_or (rest ++ more) 0 0) ≡ true)

filled : (f : Front) (r : Row) (rest : List ℕ) → length rest ≤ rest_size f r rest →
    allows f r (get_or rest 0 (chosen f r)) ≡ true → Fills f r rest
filled f r (x ∷ xs) h a =
    let n = rest_size f r (x ∷ xs) - length (x ∷ xs) in
    let count : length (replicate {A = ℕ} n 0) ≡ n = length-replicate {A = ℕ} n 0 in
    (replicate {A = ℕ} n 0, zeros_are_bytes n, omega arith, rest_size-zeros f r (x ∷ xs) n, a)
filled f r [] h a =
    let size = rest_size f r [] in
    elim (cases_Bool (has_modrm r)) [
      | inl with_modrm ↦
          (let some : 0 < size = rest_size-with_modrm f r [] with_modrm in
          let count : length (replicate {A = ℕ} (size - 1) 0) ≡ size - 1 = length-replicate {A = ℕ} (size - 1) 0 in (
            chosen f r ∷ replicate {A = ℕ} (size - 1) 0,
            (chosen-byte f r, zeros_are_bytes (size - 1)),
            omega arith,
            rest_size-chosen f r (replicate {A = ℕ} (size - 1) 0),
            a,
          ))
      | inr without ↦
          (let count : length (replicate {A = ℕ} size 0) ≡ size = length-replicate {A = ℕ} size 0 in (
            replicate {A = ℕ} size 0,
            zeros_are_bytes size,
            omega arith,
            rest_size-zeros f r [] size,
            allows-without_modrm f r (chosen f r) (get_or (replicate {A = ℕ} size 0) 0 0) without a,
          ))
    ]

-- what is read as missing so many bytes is completed by so many
pub row_reading-more : (f : Front) (r : Row) (body : List ℕ) (k : ℕ) → AllByRecursion IsByte (code_bytes r.code) →
    row_reading f r body ≡ More k → (0 < k) × Completes f r body k
row_reading-more f r body k bytes e =
    let code = code_bytes r.code in
    let rest = rest_after r body in
    let size = rest_size f r rest in
    let parts = picked_more (fits f r body) (nat_le (length code + size) (length body)) (meaning f r (take size rest)) (length code + size) (length code + size - length body) k (sym (row_reading-is f r body) ∙ e) in
    let good = and_parts (agrees r.code body) (allows f r (get_or rest 0 (chosen f r))) parts.0 in
    let short : length body < length code + size = leb-false (length code + size) (length body) parts.1 in
    let agreed : along code body ≡ true = sym (agrees-along r.code body) ∙ good.0 in
    let count : length rest ≡ length body - length code = length-drop (length code) body in
    let fill : Fills f r rest = filled f r rest (omega arith) good.1 in
    let some : 0 < k = omega (arith, parts.2) in (
      some,
      elim (cases_lt (length body) (length code)) [
        | inl below ↦
            (let none : rest ≡ [] = drop_all (length code) body (omega arith) in
            let P : List ℕ → Type 0 = λ x. Fills f r x in
            let fill' : Fills f r [] = subst P none fill in
            let more = drop (length body) code ++ fill'.0 in
            let begins : code ≡ body ++ drop (length body) code = along-short code body agreed (omega arith) in
            let all : body ++ more ≡ code ++ fill'.0 = sym (append_assoc body (drop (length body) code) fill'.0) ∙ ap (λ x. x ++ fill'.0) (sym begins) in
            let nil : length {A = ℕ} [] ≡ length rest = ap length (sym none) in
            let size_is : rest_size f r [] ≡ size = ap (rest_size f r) (sym none) in
            let left : length (drop (length body) code) ≡ length code - length body = length-drop (length body) code in
            let total : length more ≡ length (drop (length body) code) + length fill'.0 = length-append (drop (length body) code) fill'.0 in
            let filled_up : length {A = ℕ} [] + length fill'.0 ≡ rest_size f r [] = fill'.2 in (
              more,
              meaning f r fill'.0,
              omega (arith, parts.2),
              all-append (drop (length body) code) fill'.0 (all-drop (length body) code bytes) fill'.1,
              record { rest = fill'.0; parts = all; allowed = fill'.4; whole = omega (arith, fill'.2, fill'.3); means = refl },
            ))
        | inr above ↦
            (let whole : body ≡ code ++ rest = along-long code body agreed above in
            let all : body ++ fill.0 ≡ code ++ (rest ++ fill.0) = ap (λ x. x ++ fill.0) whole ∙ append_assoc code rest fill.0 in
            let total : length (rest ++ fill.0) ≡ length rest + length fill.0 = length-append rest fill.0 in (
              fill.0,
              meaning f r (rest ++ fill.0),
              omega (arith, parts.2, fill.2),
              fill.1,
              record { rest = rest ++ fill.0; parts = all; allowed = fill.4; whole = omega (arith, fill.2, fill.3); means = refl },
            ))
      ],
    )
