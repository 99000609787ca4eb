-- No spelling begins another, and none means two instructions.
use Rattle.std.proofs.Common.{◌≡◌, ℕ, ◌+◌, ◌/◌, ◌%◌, ◌<◌, true, false, not, ◌&&◌, ◌||◌, ◌==◌, if◌then◌else◌, List, [], ◌∷◌, ◌++◌, length, drop, get_or, Option, Some, None, is_some, IfSome, inl, inr, refl, sym, ◌∙◌, ap, ap₂, subst, arith, append_assoc, append-nil, length-append}
use Rattle.std.specs.List.{AllByRecursion}
use Rattle.std.proofs.lemmas.Bool.{and_parts, or_cases, or_right, eqb-true, eq-eqb, not-true}
use Rattle.std.proofs.lemmas.List.{append_cancel_left, get_or_append_left}
use Rattle.x64_syntax.specs.declared.instr.Instr.{Instr}
use Rattle.x64_decode.specs.declared.reading.Reading.TheVariants.{Done}
use Rattle.x64_decode.specs.declared.row.Before.{Before}
use Rattle.x64_decode.specs.declared.row.Before.TheVariants as before
use Rattle.x64_decode.specs.declared.row.Front.{Front}
use Rattle.x64_decode.specs.declared.row.Row.{Row}
use Rattle.x64_decode.specs.Bytes.{IsPrefix, IsRex}
use Rattle.x64_decode.specs.Fronts.{front_of, rex_bit, rex_bytes}
use Rattle.x64_decode.specs.Operands.{has_modrm, is_by_modrm, is_memory, rest_size}
use Rattle.x64_decode.specs.Reading.{prefixes_at, rex_at, row_reading}
use Rattle.x64_decode.specs.Spelling.{SpellsBy, SpellingsStandAlone, allows, before_allows, code_bytes, digit_allows, modrm_allows, takes_memory, takes_register}
use Rattle.x64_decode.proofs.Codes.{clash, clash-apart}
use Rattle.x64_decode.proofs.FrontLemmas.{IsBody, prefixes_at-is, rex_at-is}
use Rattle.x64_decode.proofs.Readings.{body-opens, parts-append}
use Rattle.x64_decode.proofs.RowReadings.{row_reading-whole}
use Rattle.x64_decode.proofs.Sizes.{rest_size-with_modrm}
use Rattle.x64_decode.proofs.TableFacts.{differ, digits_differ, fronts_differ, rows-apart, same_bytes}

-- ---- two rows that differ spell no fronts of one list

same_bytes-true : (xs ys : List ℕ) → same_bytes xs ys ≡ true → xs ≡ ys
same_bytes-true [] [] h = refl
same_bytes-true [] (y ∷ ys) h = absurd (cc)
same_bytes-true (x ∷ xs) [] h = absurd (cc)
same_bytes-true (x ∷ xs) (y ∷ ys) h =
    let parts = and_parts (x == y) (same_bytes xs ys) h in
    ap₂ (λ z zs. z ∷ zs) (eqb-true x y parts.0) (same_bytes-true xs ys parts.1)

digits_apart : (x y : Option ℕ) (m : ℕ) → digits_differ x y ≡ true → digit_allows x m ≡ true → digit_allows y m ≡ true → ⊥
digits_apart None y m h k l = absurd (cc)
digits_apart (Some a) None m h k l = absurd (cc)
digits_apart (Some a) (Some b) m h k l =
    let unequal : (a % 8 == b % 8) ≡ false = not-true (a % 8 == b % 8) h in
    let equal : a % 8 ≡ b % 8 = sym (eqb-true (m / 8 % 8) (a % 8) k) ∙ eqb-true (m / 8 % 8) (b % 8) l in
    let holds : (a % 8 == b % 8) ≡ true = eq-eqb (a % 8) (b % 8) equal in
    absurd (cc)

digits_ask : (x y : Option ℕ) → digits_differ x y ≡ true → (is_some x ≡ true) × (is_some y ≡ true)
digits_ask None y h = absurd (cc)
digits_ask (Some a) None h = absurd (cc)
digits_ask (Some a) (Some b) h = (refl, refl)

fronts_apart : (x y : Before) (f : Front) → fronts_differ x y ≡ true → before_allows x f ≡ true → before_allows y f ≡ true → ⊥
fronts_apart before.WithB before.WithoutB f h k l =
    let one : rex_bit 1 f.rex ≡ 1 = eqb-true (rex_bit 1 f.rex) 1 k in
    let none : rex_bit 1 f.rex ≡ 0 = eqb-true (rex_bit 1 f.rex) 0 l in omega arith
fronts_apart before.WithoutB before.WithB f h k l =
    let none : rex_bit 1 f.rex ≡ 0 = eqb-true (rex_bit 1 f.rex) 0 k in
    let one : rex_bit 1 f.rex ≡ 1 = eqb-true (rex_bit 1 f.rex) 1 l in omega arith
fronts_apart _ _ f h k l = absurd (cc)

-- a row with a digit has ModRM, whose reg field is the digit
digit-allowed : (f : Front) (r : Row) (x : List ℕ) (i : Instr) (by : SpellsBy f r x i) → is_some r.digit ≡ true →
    (digit_allows r.digit (get_or by.rest 0 0) ≡ true) × (0 < length by.rest)
unfolding allows modrm_allows has_modrm
digit-allowed f r x i by asks =
    let with_modrm : has_modrm r ≡ true = or_right (is_by_modrm r.to || is_by_modrm r.from) (is_some r.digit) asks in
    let m = get_or by.rest 0 0 in
    let second = (and_parts (before_allows r.before f) (if has_modrm r then modrm_allows f r m else not f.lock) by.allowed).1 in
    let allowed : modrm_allows f r m ≡ true = rw with_modrm at second in
    let some : 0 < rest_size f r by.rest = rest_size-with_modrm f r by.rest with_modrm in
    ((and_parts (digit_allows r.digit m) (if is_memory m then takes_memory f r else takes_register f r) allowed).0, omega (arith, by.whole))

before-allowed : (f : Front) (r : Row) (x : List ℕ) (i : Instr) → SpellsBy f r x i → before_allows r.before f ≡ true
unfolding allows
before-allowed f r x i by =
    (and_parts (before_allows r.before f) (if has_modrm r then modrm_allows f r (get_or by.rest 0 0) else not f.lock) by.allowed).0

rows_spell_apart : (f : Front) (r s : Row) (x y u v : List ℕ) (i j : Instr) →
    SpellsBy f r x i → SpellsBy f s y j → x ++ u ≡ y ++ v → differ r s ≡ true → ⊥
rows_spell_apart f r s x y u v i j a b e h =
    let whole : code_bytes r.code ++ (a.rest ++ u) ≡ code_bytes s.code ++ (b.rest ++ v) =
    sym (ap (λ z. z ++ u) a.parts ∙ append_assoc (code_bytes r.code) a.rest u)
    ∙ (e ∙ (ap (λ z. z ++ v) b.parts ∙ append_assoc (code_bytes s.code) b.rest v)) in
    elim (or_cases (clash (code_bytes r.code) (code_bytes s.code)) (same_bytes (code_bytes r.code) (code_bytes s.code) && (digits_differ r.digit s.digit || fronts_differ r.before s.before)) h) [
      | inl clashes ↦ clash-apart (code_bytes r.code) (code_bytes s.code) (a.rest ++ u) (b.rest ++ v) clashes whole
      | inr other ↦
          (let parts = and_parts (same_bytes (code_bytes r.code) (code_bytes s.code)) (digits_differ r.digit s.digit || fronts_differ r.before s.before) other in
          let codes : code_bytes r.code ≡ code_bytes s.code = same_bytes-true (code_bytes r.code) (code_bytes s.code) parts.0 in
          let whole' : code_bytes s.code ++ (a.rest ++ u) ≡ code_bytes s.code ++ (b.rest ++ v) = ap (λ z. z ++ (a.rest ++ u)) (sym codes) ∙ whole in
          let rests : a.rest ++ u ≡ b.rest ++ v = append_cancel_left (code_bytes s.code) (a.rest ++ u) (b.rest ++ v) whole' in
          elim (or_cases (digits_differ r.digit s.digit) (fronts_differ r.before s.before) parts.1) [
            | inl digits ↦
                (let ask = digits_ask r.digit s.digit digits in
                let first = digit-allowed f r x i a ask.0 in
                let second = digit-allowed f s y j b ask.1 in
                let same : get_or a.rest 0 0 ≡ get_or b.rest 0 0 =
                sym (get_or_append_left a.rest u 0 0 first.1) ∙ (ap (λ z. get_or z 0 0) rests ∙ get_or_append_left b.rest v 0 0 second.1) in
                let P : ℕ → Type 0 = λ m. digit_allows r.digit m ≡ true in
                digits_apart r.digit s.digit (get_or b.rest 0 0) digits (subst P same first.0) second.0)
            | inr fronts ↦ fronts_apart r.before s.before f fronts (before-allowed f r x i a) (before-allowed f s y j b)
          ])
    ]

-- ---- one list has one front

front_unique : (p : List ℕ) (rex : Option ℕ) (body : List ℕ) (p' : List ℕ) (rex' : Option ℕ) (body' : List ℕ) →
    AllByRecursion IsPrefix p → IfSome rex IsRex → IsBody body → AllByRecursion IsPrefix p' → IfSome rex' IsRex → IsBody body' →
    p ++ (rex_bytes rex ++ body) ≡ p' ++ (rex_bytes rex' ++ body') → (p ≡ p') × (rex ≡ rex') × (body ≡ body')
front_unique p rex body p' rex' body' h r o h' r' o' e =
    let c = p ++ (rex_bytes rex ++ body) in
    let c' = p' ++ (rex_bytes rex' ++ body') in
    let prefixes : p ≡ p' = sym (prefixes_at-is p rex body h r o) ∙ (ap prefixes_at e ∙ prefixes_at-is p' rex' body' h' r' o') in
    let rexes : rex ≡ rex' =
    sym (rex_at-is p rex body h r o)
    ∙ (ap (λ x. rex_at (drop (length p) x)) e
    ∙ (ap (λ q. rex_at (drop (length q) c')) prefixes ∙ rex_at-is p' rex' body' h' r' o')) in
    let step : p' ++ (rex_bytes rex' ++ body) ≡ p' ++ (rex_bytes rex' ++ body') =
    ap₂ (λ q z. q ++ (rex_bytes z ++ body)) (sym prefixes) (sym rexes) ∙ e in (
      prefixes,
      rexes,
      append_cancel_left (rex_bytes rex') body body' (append_cancel_left p' (rex_bytes rex' ++ body) (rex_bytes rex' ++ body') step),
    )

-- ---- one row spells one instruction

done_once : (i j : Instr) (m n : ℕ) → Done i m ≡ Done j n → (i ≡ j) × (m ≡ n)
done_once i j m n e = (cc, cc)

nothing_more : (x b : List ℕ) → length x ≡ length (x ++ b) → b ≡ []
nothing_more x [] h = refl
nothing_more x (y ∷ ys) h = absurd (let sum : length (x ++ (y ∷ ys)) ≡ length x + length (y ∷ ys) = length-append x (y ∷ ys) in omega arith)

one_row : (f : Front) (r : Row) (x b : List ℕ) (i j : Instr) → SpellsBy f r x i → SpellsBy f r (x ++ b) j → (b ≡ []) × (i ≡ j)
one_row f r x b i j first second =
    let one : row_reading f r (x ++ b) ≡ Done i (length x) = row_reading-whole f r x b i first in
    let two : row_reading f r ((x ++ b) ++ []) ≡ Done j (length (x ++ b)) = row_reading-whole f r (x ++ b) [] j second in
    let both : Done i (length x) ≡ Done j (length (x ++ b)) = sym one ∙ (ap (row_reading f r) (sym (append-nil (x ++ b))) ∙ two) in
    let same = done_once i j (length x) (length (x ++ b)) both in
    (nothing_more x b same.1, same.0)

pub spellings_stand_alone : SpellingsStandAlone
spellings_stand_alone a b i j sa sb =
    let e : sa.prefixes ++ (rex_bytes sa.rex ++ (sa.body ++ b)) ≡ sb.prefixes ++ (rex_bytes sb.rex ++ sb.body) =
    sym (parts-append a i sa b) ∙ sb.parts in
    let opened : IsBody (sb.body ++ []) = (body-opens (a ++ b) j sb []).0 in
    let is_body : IsBody sb.body = subst IsBody (append-nil sb.body) opened in
    let same = front_unique sa.prefixes sa.rex (sa.body ++ b) sb.prefixes sb.rex sb.body sa.are_prefixes sa.is_rex (body-opens a i sa b).0 sb.are_prefixes sb.is_rex is_body e in
    let f = front_of sb.prefixes sb.rex in
    let front : front_of sa.prefixes sa.rex ≡ f = ap₂ front_of same.0 same.1 in
    let P : Front → Type 0 = λ x. SpellsBy x sa.row sa.body i in
    let first : SpellsBy f sa.row sa.body i = subst P front sa.spelled in
    let Q : List ℕ → Type 0 = λ x. SpellsBy f sb.row x j in
    let second : SpellsBy f sb.row (sa.body ++ b) j = subst Q (sym same.2) sb.spelled in
    elim (rows-apart sa.row sb.row sa.listed sb.listed) [
      | inl one ↦
          (let R : Row → Type 0 = λ x. SpellsBy f x (sa.body ++ b) j in
          one_row f sa.row sa.body b i j first (subst R (sym one) second))
      | inr (inl apart) ↦
          absurd (rows_spell_apart f sa.row sb.row sa.body (sa.body ++ b) b [] i j first second (sym (append-nil (sa.body ++ b))) apart)
      | inr (inr apart) ↦
          absurd (rows_spell_apart f sb.row sa.row (sa.body ++ b) sa.body [] b j i second first (append-nil (sa.body ++ b)) apart)
    ]
