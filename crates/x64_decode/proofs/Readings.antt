-- The reading of bytes, and the spellings that begin them or that they begin.
use Rattle.std.proofs.Common.{◌≡◌, ℕ, zero, suc, ◌+◌, ◌<◌, ◌≤◌, List, [], ◌∷◌, ◌++◌, length, take, drop, Option, Some, None, IfSome, ◌⊎◌, inl, inr, refl, sym, ◌∙◌, ap, subst, arith, append_assoc, append-nil, length-append}
use Rattle.std.specs.List.{AllByRecursion}
use Rattle.std.proofs.Math.Seq.{drop-append_seam, drop-append-add, take-append-add}
use Rattle.x64_syntax.specs.declared.instr.Instr.{Instr}
use Rattle.x64_decode.specs.declared.reading.Reading.{Reading}
use Rattle.x64_decode.specs.declared.reading.Reading.TheVariants.{Done, More, Bad}
use Rattle.x64_decode.specs.declared.row.Front.{Front}
use Rattle.x64_decode.specs.Bytes.{IsByte, IsPrefix, IsRex}
use Rattle.x64_decode.specs.Fronts.{front_of, rex_bytes}
use Rattle.x64_decode.specs.Meaning.{meaning}
use Rattle.x64_decode.specs.Reading.{behind, front_at, reading_of, row_reading, rows_reading}
use Rattle.x64_decode.specs.Spelling.{Spells, SpellsBy, code_bytes}
use Rattle.x64_decode.specs.Table.{table}
use Rattle.x64_decode.proofs.FrontLemmas.{IsBody, front_at-is, front_of-length, stands_before}
use Rattle.x64_decode.proofs.Merges.{IsDone, Meets, ReadsBy, rows_reading-by, rows_reading-done, rows_reading-meets}
use Rattle.x64_decode.proofs.RowReadings.{Completes, row_reading-begun, row_reading-done, row_reading-more, row_reading-whole}
use Rattle.x64_decode.proofs.TableFacts.{code-bytes, code-opens, witness, witness-listed, witness-spells}

-- ---- how a reading is made up

reading_of-is : (c : List ℕ) → reading_of c ≡ behind (front_at c).length (rows_reading (front_at c) table (drop (front_at c).length c))
unfolding reading_of
reading_of-is c = refl

-- a front and what stands behind it
reading_of-front : (p : List ℕ) (rex : Option ℕ) (body : List ℕ) → AllByRecursion IsPrefix p → IfSome rex IsRex → IsBody body →
    reading_of (p ++ (rex_bytes rex ++ body)) ≡ behind (front_of p rex).length (rows_reading (front_of p rex) table body)
reading_of-front p rex body h r o =
    let c = p ++ (rex_bytes rex ++ body) in
    let front : front_at c ≡ front_of p rex = front_at-is p rex body h r o in
    let left : drop (front_of p rex).length c ≡ body =
    ap (λ n. drop n c) (front_of-length p rex) ∙ (drop-append-add p (rex_bytes rex ++ body) (length (rex_bytes rex)) ∙ drop-append_seam (rex_bytes rex) body) in
    let step : behind (front_at c).length (rows_reading (front_at c) table (drop (front_at c).length c)) ≡ behind (front_of p rex).length (rows_reading (front_of p rex) table body) = rw (front, left) refl in
    reading_of-is c ∙ step

behind-meets : (k : ℕ) (x : Reading) (n : ℕ) → Meets x n → Meets (behind k x) n
behind-meets k (Done i m) n h = h
behind-meets k (More m) n h = h
behind-meets k Bad n h = h

behind-done : (k : ℕ) (x : Reading) → IsDone x → IsDone (behind k x)
behind-done k (Done i m) h = h
behind-done k (More m) h = h
behind-done k Bad h = h

meets-more : (x : Reading) (m n : ℕ) → m ≤ n → Meets x m → Meets x n
meets-more (Done i k) m n h l = tt
meets-more (More k) m n h l = omega arith
meets-more Bad m n h l = l

-- ---- the parts of a spelling

pub body-opens : (s : List ℕ) (i : Instr) (spelled : Spells s i) (u : List ℕ) → IsBody (spelled.body ++ u) × (0 < length spelled.body)
body-opens s i spelled u =
    let by = spelled.spelled in
    let code = code_bytes spelled.row.code in
    let whole : spelled.body ++ u ≡ code ++ (by.rest ++ u) = ap (λ x. x ++ u) by.parts ∙ append_assoc code by.rest u in
    let first = code-opens spelled.row (by.rest ++ u) spelled.listed in
    let second = code-opens spelled.row by.rest spelled.listed in
    let Q : List ℕ → Type 0 = λ x. 0 < length x in
    (subst IsBody (sym whole) first.0, subst Q (sym by.parts) second.1)

-- three parts, with more bytes after the last
append-parts : (c p z l m : List ℕ) → c ≡ p ++ (z ++ l) → c ++ m ≡ p ++ (z ++ (l ++ m))
append-parts c p z l m e =
    ap (λ x. x ++ m) e ∙ (append_assoc p (z ++ l) m ∙ ap (λ x. p ++ x) (append_assoc z l m))

-- three parts, with the last cut off
take-parts : (c p z l : List ℕ) (m : ℕ) → c ≡ p ++ (z ++ l) → take (length p + (length z + m)) c ≡ p ++ (z ++ take m l)
take-parts c p z l m e =
    ap (take (length p + (length z + m))) e
    ∙ (take-append-add p (z ++ l) (length z + m) ∙ ap (λ x. p ++ x) (take-append-add z l m))

pub parts-append : (s : List ℕ) (i : Instr) (spelled : Spells s i) (u : List ℕ) →
    s ++ u ≡ spelled.prefixes ++ (rex_bytes spelled.rex ++ (spelled.body ++ u))
parts-append s i spelled u = append-parts s spelled.prefixes (rex_bytes spelled.rex) spelled.body u spelled.parts

-- ---- what begins with a spelling is read as done

pub reading_of-whole : (s u : List ℕ) (i : Instr) → Spells s i → IsDone (reading_of (s ++ u))
reading_of-whole s u i spelled =
    let f = front_of spelled.prefixes spelled.rex in
    let body = spelled.body in
    let read : row_reading f spelled.row (body ++ u) ≡ Done i (length body) = row_reading-whole f spelled.row body u i spelled.spelled in
    let done : IsDone (row_reading f spelled.row (body ++ u)) = subst IsDone (sym read) tt in
    let all : IsDone (rows_reading f table (body ++ u)) = rows_reading-done f table spelled.row (body ++ u) spelled.listed done in
    let equal : reading_of (s ++ u) ≡ behind f.length (rows_reading f table (body ++ u)) =
    ap reading_of (parts-append s i spelled u) ∙ reading_of-front spelled.prefixes spelled.rex (body ++ u) spelled.are_prefixes spelled.is_rex (body-opens s i spelled u).0 in
    subst IsDone (sym equal) (behind-done f.length (rows_reading f table (body ++ u)) all)

-- ---- what begins a spelling is read as done, or as missing no more than what is left of it

-- two cuts of one list: the first ends within the front of the second, or behind it
splits : (c t q body : List ℕ) → c ++ t ≡ q ++ body →
    ((u : List ℕ) × (c ≡ q ++ u) × (body ≡ u ++ t)) ⊎ ((u : List ℕ) × (0 < length u) × (q ≡ c ++ u) × (t ≡ u ++ body))
splits c t [] body e = inl (c, refl, sym e)
splits [] t (y ∷ ys) body e = inr (y ∷ ys, omega arith, refl, e)
splits (x ∷ xs) t (y ∷ ys) body e =
    let first : x ≡ y = cc in
    let others : xs ++ t ≡ ys ++ body = cc in
    elim (splits xs t ys body others) [
      | inl part ↦ inl (part.0, (let h = part.1 in cc), part.2)
      | inr part ↦ inr (part.0, part.1, (let h = part.2 in cc), part.3)
    ]

-- what is cut off within prefixes and REX is prefixes
cut_prefixes : (c u p z : List ℕ) → length z ≤ 1 → 0 < length u → p ++ z ≡ c ++ u → AllByRecursion IsPrefix p → AllByRecursion IsPrefix c
cut_prefixes [] u p z few some e h = tt
cut_prefixes (x ∷ xs) u [] z few some e h =
    absurd (let count : length z ≡ length ((x ∷ xs) ++ u) = ap length e in
    let sum : length ((x ∷ xs) ++ u) ≡ length (x ∷ xs) + length u = length-append (x ∷ xs) u in omega arith)
cut_prefixes (x ∷ xs) u (y ∷ ys) z few some e h =
    let first : y ≡ x = cc in
    let others : ys ++ z ≡ xs ++ u = cc in
    (subst IsPrefix first h.0, cut_prefixes xs u ys z few some others h.1)

rex_bytes-few : (rex : Option ℕ) → length (rex_bytes rex) ≤ 1
rex_bytes-few None = omega arith
rex_bytes-few (Some b) = omega arith

-- prefixes alone miss at most two bytes
prefixes-meet : (c : List ℕ) → AllByRecursion IsPrefix c → Meets (reading_of c) 2
prefixes-meet c h =
    let f = front_of c None in
    let spelled : SpellsBy f witness ([] ++ (0 ∷ 0 ∷ [])) (meaning f witness (0 ∷ [])) = witness-spells f in
    let one : Meets (row_reading f witness []) 2 = row_reading-begun f witness [] (0 ∷ 0 ∷ []) (meaning f witness (0 ∷ [])) spelled in
    let all : Meets (rows_reading f table []) 2 = rows_reading-meets f table witness [] 2 witness-listed one in
    let equal : reading_of (c ++ []) ≡ behind f.length (rows_reading f table []) = reading_of-front c None [] h tt tt in
    let P : Reading → Type 0 = λ x. Meets x 2 in
    subst P (sym (ap reading_of (sym (append-nil c)) ∙ equal)) (behind-meets f.length (rows_reading f table []) 2 all)

body_of_part : (u t : List ℕ) → IsBody (u ++ t) → IsBody u
body_of_part [] t h = tt
body_of_part (x ∷ xs) t h = h

pub reading_of-begun : (c t : List ℕ) (i : Instr) → Spells (c ++ t) i → Meets (reading_of c) (length t)
reading_of-begun c t i spelled =
    let p = spelled.prefixes in
    let rex = spelled.rex in
    let f = front_of p rex in
    let body = spelled.body in
    let opened = body-opens (c ++ t) i spelled [] in
    let whole : c ++ t ≡ (p ++ rex_bytes rex) ++ body = spelled.parts ∙ sym (append_assoc p (rex_bytes rex) body) in
    elim (splits c t (p ++ rex_bytes rex) body whole) [
      | inl part ↦
          (let u = part.0 in
          let P : List ℕ → Type 0 = λ x. SpellsBy f spelled.row x i in
          let one : Meets (row_reading f spelled.row u) (length t) = row_reading-begun f spelled.row u t i (subst P part.2 spelled.spelled) in
          let all : Meets (rows_reading f table u) (length t) = rows_reading-meets f table spelled.row u (length t) spelled.listed one in
          let shape : body ++ [] ≡ u ++ t = append-nil body ∙ part.2 in
          let is_body : IsBody u = body_of_part u t (subst IsBody shape opened.0) in
          let equal : reading_of c ≡ behind f.length (rows_reading f table u) =
          ap reading_of (part.1 ∙ append_assoc p (rex_bytes rex) u) ∙ reading_of-front p rex u spelled.are_prefixes spelled.is_rex is_body in
          let Q : Reading → Type 0 = λ x. Meets x (length t) in
          subst Q (sym equal) (behind-meets f.length (rows_reading f table u) (length t) all))
      | inr part ↦
          (let cut : AllByRecursion IsPrefix c = cut_prefixes c part.0 p (rex_bytes rex) (rex_bytes-few rex) part.1 part.2 spelled.are_prefixes in
          let count : length t ≡ length part.0 + length body = ap length part.3 ∙ length-append part.0 body in
          let some : 0 < length part.0 = part.1 in
          let body_some : 0 < length body = opened.1 in
          meets-more (reading_of c) 2 (length t) (omega arith) (prefixes-meet c cut))
    ]

-- ---- what is read is a spelling

-- the reading behind a front, from the reading of the whole
behind_is_done : (k : ℕ) (x : Reading) (i : Instr) (n : ℕ) → behind k x ≡ Done i n → (m : ℕ) × (x ≡ Done i m) × (n ≡ k + m)
behind_is_done k (Done j m) i n e = (m, cc, cc)
behind_is_done k (More m) i n e = absurd (cc)
behind_is_done k Bad i n e = absurd (cc)

behind_is_more : (k : ℕ) (x : Reading) (n : ℕ) → behind k x ≡ More n → x ≡ More n
behind_is_more k (Done j m) n e = absurd (cc)
behind_is_more k (More m) n e = e
behind_is_more k Bad n e = absurd (cc)

done_is_good : (x : Reading) (i : Instr) (n : ℕ) → x ≡ Done i n → x ≡ Bad → ⊥
done_is_good x i n e h = absurd (cc)

all-take : (n : ℕ) (xs : List ℕ) → AllByRecursion IsByte xs → AllByRecursion IsByte (take n xs)
all-take zero xs h = tt
all-take (suc n) [] h = tt
all-take (suc n) (x ∷ xs) h = (h.0, all-take n xs h.1)

all_both : (xs ys : List ℕ) → AllByRecursion IsByte xs → AllByRecursion IsByte ys → AllByRecursion IsByte (xs ++ ys)
all_both [] ys h k = k
all_both (x ∷ xs) ys h k = (h.0, all_both xs ys h.1 k)

pub reading_of-spelled : (c : List ℕ) (i : Instr) (n : ℕ) → AllByRecursion IsByte c → reading_of c ≡ Done i n →
    (n ≤ length c) × Spells (take n c) i
reading_of-spelled c i n bytes e =
    let f = front_at c in
    let left = drop f.length c in
    let (m, read, sum) = behind_is_done f.length (rows_reading f table left) i n (sym (reading_of-is c) ∙ e) in
    let good : Done i m ≡ Bad → ⊥ = λ h. absurd (cc) in
    let by : ReadsBy f table left (Done i m) = rows_reading-by f table left (Done i m) good read in
    let one = row_reading-done f by.0 left i m by.2 in
    let s = stands_before c in
    let p = s.prefixes in
    let z = rex_bytes s.rex in
    let size : f.length ≡ length p + length z = ap (λ x. x.length) s.front ∙ front_of-length p s.rex in
    let sum' : n ≡ length p + (length z + m) = omega (arith, sum, size) in
    let cut : take n c ≡ p ++ (z ++ take m left) = ap (λ x. take x c) sum' ∙ take-parts c p z left m s.parts in
    let total : length c ≡ length p + length (z ++ left) = ap length s.parts ∙ length-append p (z ++ left) in
    let rest : length (z ++ left) ≡ length z + length left = length-append z left in
    let room : m ≤ length left = one.0 in
    let P : Front → Type 0 = λ x. SpellsBy x by.0 (take m left) i in (
      omega arith,
      record {
        prefixes = p;
        rex = s.rex;
        row = by.0;
        body = take m left;
        parts = cut;
        are_bytes = all-take n c bytes;
        are_prefixes = s.are_prefixes;
        is_rex = s.is_rex;
        listed = by.1;
        spelled = subst P s.front one.1;
      },
    )

-- bytes that make a spelling of these
abbrev pub Ends : List ℕ → ℕ → Type 0
Ends c k = (more : List ℕ) × (i : Instr) × (length more ≡ k) × Spells (c ++ more) i

pub reading_of-missing : (c : List ℕ) (k : ℕ) → AllByRecursion IsByte c → reading_of c ≡ More k → (0 < k) × Ends c k
reading_of-missing c k bytes e =
    let f = front_at c in
    let left = drop f.length c in
    let read : rows_reading f table left ≡ More k = behind_is_more f.length (rows_reading f table left) k (sym (reading_of-is c) ∙ e) in
    let good : More k ≡ Bad → ⊥ = λ h. absurd (cc) in
    let by : ReadsBy f table left (More k) = rows_reading-by f table left (More k) good read in
    let more = row_reading-more f by.0 left k (code-bytes by.0 by.1) by.2 in
    let found : Completes f by.0 left k = more.1 in
    let s = stands_before c in
    let p = s.prefixes in
    let z = rex_bytes s.rex in
    let whole : c ++ found.0 ≡ p ++ (z ++ (left ++ found.0)) = append-parts c p z left found.0 s.parts in
    let P : Front → Type 0 = λ x. SpellsBy x by.0 (left ++ found.0) found.1 in (
      more.0,
      (
        found.0,
        found.1,
        found.2,
        record {
          prefixes = p;
          rex = s.rex;
          row = by.0;
          body = left ++ found.0;
          parts = whole;
          are_bytes = all_both c found.0 bytes found.3;
          are_prefixes = s.are_prefixes;
          is_rex = s.is_rex;
          listed = by.1;
          spelled = subst P s.front found.4;
        },
      ),
    )
