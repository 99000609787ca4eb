-- Each answer of the decoder, from what was read.
use Rattle.std.proofs.Common.{◌≡◌, ℕ, zero, suc, Fits, w8, get_or, ◌+◌, ◌-◌, ◌<◌, ◌≤◌, List, [], ◌∷◌, ◌++◌, length, take, drop, Ok, Err, inl, inr, sym, ◌∙◌, ap, subst, arith, append-nil, take-append-drop}
use Rattle.std.specs.List.{AllByRecursion}
use Rattle.std.proofs.lemmas.Bool.{cases_lt}
use Rattle.std.proofs.lemmas.List.{length-take-le, take-take}
use Rattle.x64_syntax.specs.declared.instr.Instr.{Instr}
use Rattle.x64_decode.specs.declared.decode.DecodeFault.TheVariants.{Cut, Unknown, TooLong}
use Rattle.x64_decode.specs.declared.reading.Reading.{Reading}
use Rattle.x64_decode.specs.declared.reading.Reading.TheVariants.{Done, More, Bad}
use Rattle.x64_decode.specs.Bytes.{IsByte}
use Rattle.x64_decode.specs.Reading.{reading_of}
use Rattle.x64_decode.specs.Spelling.{Answers, BeginsWithSpelling, Spells}
use Rattle.x64_decode.proofs.Law.{spellings_stand_alone}
use Rattle.x64_decode.proofs.Merges.{IsDone, Meets}
use Rattle.x64_decode.proofs.Readings.{Ends, reading_of-begun, reading_of-missing, reading_of-spelled, reading_of-whole}

-- of two spellings at the front of one list the shorter is the longer
shorter_is_longer : (c : List ℕ) (m n : ℕ) (i j : Instr) → m ≤ n → n ≤ length c → Spells (take m c) j → Spells (take n c) i →
    (m ≡ n) × (j ≡ i)
shorter_is_longer c m n i j less within short long =
    let b = drop m (take n c) in
    let front : take m (take n c) ≡ take m c = take-take m n c less in
    let whole : take n c ≡ take m c ++ b = sym (take-append-drop m (take n c)) ∙ ap (λ x. x ++ b) front in
    let P : List ℕ → Type 0 = λ x. Spells x i in
    let law = spellings_stand_alone (take m c) b j i short (subst P whole long) in
    let equal : take n c ≡ take m c = whole ∙ (ap (λ x. take m c ++ x) law.0 ∙ append-nil (take m c)) in
    let counts : length (take n c) ≡ length (take m c) = ap length equal in
    let count_n : length (take n c) ≡ n = length-take-le n c within in
    let count_m : length (take m c) ≡ m = length-take-le m c (omega arith) in
    (omega arith, law.1)

pub answers-done : (c : List ℕ) (i : Instr) (n : ℕ) → AllByRecursion IsByte c → reading_of c ≡ Done i n → Answers c (Ok (i, n))
answers-done c i n bytes e =
    let found = reading_of-spelled c i n bytes e in (
      found.0,
      found.1,
      λ m j within spelled.
          elim (cases_lt m n) [
            | inl below ↦ shorter_is_longer c m n i j (omega arith) found.0 spelled found.1
            | inr above ↦
                (let same = shorter_is_longer c n m j i above within found.1 spelled in
                (sym same.0, sym same.1))
          ],
    )

-- where nothing is read as done no spelling begins the bytes
none_begins : (c : List ℕ) → (IsDone (reading_of c) → ⊥) → BeginsWithSpelling c → ⊥
none_begins c not_done begins =
    let n = begins.0 in
    let done : IsDone (reading_of (take n c ++ drop n c)) = reading_of-whole (take n c) (drop n c) begins.1 begins.3 in
    let P : List ℕ → Type 0 = λ x. IsDone (reading_of x) in
    not_done (subst P (take-append-drop n c) done)

more_is_not_done : (c : List ℕ) (k : ℕ) → reading_of c ≡ More k → IsDone (reading_of c) → ⊥
more_is_not_done c k e done = subst IsDone e done

pub answers-cut : (c : List ℕ) (k : ℕ) → AllByRecursion IsByte c → reading_of c ≡ More k → k ≤ 15 - length c → Answers c (Err Cut)
answers-cut c k bytes e room =
    let missing = reading_of-missing c k bytes e in
    let ends : Ends c k = missing.1 in
    (none_begins c (more_is_not_done c k e), (ends.0, ends.1, omega (arith, missing.0, ends.2), omega (arith, missing.0, ends.2), ends.3))

pub answers-too_long : (c : List ℕ) (k : ℕ) → AllByRecursion IsByte c → reading_of c ≡ More k → 15 - length c < k → Answers c (Err TooLong)
answers-too_long c k bytes e room =
    let missing = reading_of-missing c k bytes e in
    let ends : Ends c k = missing.1 in (
      none_begins c (more_is_not_done c k e),
      (λ short.
          let P : Reading → Type 0 = λ x. Meets x (length short.0) in
          let least : k ≤ length short.0 = subst P e (reading_of-begun c short.0 short.1 short.4) in
          let fits : length c + length short.0 ≤ 15 = short.3 in
          omega arith),
      (ends.0, ends.1, omega (arith, missing.0, ends.2), ends.3),
    )

pub answers-unknown : (c : List ℕ) → reading_of c ≡ Bad → Answers c (Err Unknown)
answers-unknown c e = (
  none_begins c (λ done. subst IsDone e done),
  (λ begins.
      let P : Reading → Type 0 = λ x. Meets x (length begins.0) in
      subst P e (reading_of-begun c begins.0 begins.1 begins.3)),
)

-- what a slice of bytes holds is bytes
pub bytes_of_slice : (xs : List ℕ) → ((i : ℕ) → Fits w8 (get_or xs i 0)) → AllByRecursion IsByte xs
bytes_of_slice [] h = tt
bytes_of_slice (x ∷ xs) h =
    let first : Fits w8 x = h zero in
    (omega arith, bytes_of_slice xs (λ i. h (suc i)))
