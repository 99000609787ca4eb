-- Where the instructions of the made code begin, and where its rounds stand.
use Rattle.std.proofs.Common.{◌≡◌, ◌≤◌, ◌<◌, ◌⊎◌, ℕ, zero, suc, ◌+◌, Bool, true, false, List, [], ◌++◌, length, arith, refl, sym, ◌∙◌, ap, subst, inl, inr, ⊎_elim, append_assoc, append-nil, length-append}
use Rattle.std.specs.Prelude.{◌==◌, ◌%◌, if◌then◌else◌}
use Rattle.std.proofs.lemmas.Bool.{cases_lt}
use Rattle.gen_input.specs.Made.{cells_to_rdi, store, load, locked_add, fence_and_jump, return, round_code, rounds_code, made_code}
use Rattle.gen_input.proofs.Rounds.{rounds_more}

-- An instruction begins so many bytes behind the begin of round j, or of the return where j is n: at 0, and in the rounds of
-- a fence at 3 too.
pub data IsOffset (n j d : ℕ) : Type 0 where
  first : j ≤ n → d ≡ 0 → IsOffset n j d
  second : j < n → round_code j ≡ fence_and_jump → d ≡ 3 → IsOffset n j d

-- the address so many bytes behind the begin of round j
abbrev pub place_of : (j d : ℕ) → ℕ
place_of j d = 0x401005 + length (rounds_code j) + d

-- an instruction of the code of n rounds begins at the address: the first one, or one behind it
pub data IsPlace (n a : ℕ) : Type 0 where
  head : a ≡ 0x401000 → IsPlace n a
  inner : (j d : ℕ) → a ≡ place_of j d → IsOffset n j d → IsPlace n a

-- what a round's code may be
abbrev pub RoundIs : List ℕ → Type 0
RoundIs code = (code ≡ store) ⊎ ((code ≡ load) ⊎ ((code ≡ locked_add) ⊎ (code ≡ fence_and_jump)))

chosen : (a b c : Bool) → RoundIs (if a then store else if b then load else if c then locked_add else fence_and_jump)
chosen true b c = inl refl
chosen false true c = inr (inl refl)
chosen false false true = inr (inr (inl refl))
chosen false false false = inr (inr (inr refl))

pub round_is : (j : ℕ) → RoundIs (round_code j)
unfolding round_code
round_is j = chosen (j % 4 == 0) (j % 4 == 1) (j % 4 == 2)

long_round : (code : List ℕ) → RoundIs code → 4 ≤ length code
long_round code (inl e) = let n = ap length e in omega (arith, n)
long_round code (inr (inl e)) = let n = ap length e in omega (arith, n)
long_round code (inr (inr (inl e))) = let n = ap length e in omega (arith, n)
long_round code (inr (inr (inr e))) = let n = ap length e in omega (arith, n)

-- a round has at least four bytes
pub length-least : (j : ℕ) → 4 ≤ length (round_code j)
length-least j = long_round (round_code j) (round_is j)

-- so many bytes has one round more
pub length-more : (j : ℕ) → length (rounds_code (j + 1)) ≡ length (rounds_code j) + length (round_code j)
length-more j = ap length (rounds_more j) ∙ length-append (rounds_code j) (round_code j)

regrouped : (a b c d : List ℕ) → (a ++ (b ++ c)) ++ d ≡ a ++ (b ++ (c ++ d))
regrouped a b c d = simp append_assoc

one_more : (n : ℕ) (front round later : List ℕ) → rounds_code n ≡ front ++ (round ++ later) → rounds_code (suc n) ≡ front ++ (round ++ (later ++ round_code n))
one_more n front round later is =
    let next : suc n ≡ n + 1 = omega arith in
    ap rounds_code next ∙ rounds_more n ∙ ap (λ l. l ++ round_code n) is ∙ regrouped front round later (round_code n)

just_last : (n j : ℕ) → n ≡ j → rounds_code (suc n) ≡ rounds_code j ++ (round_code j ++ [])
just_last n j same =
    let next : suc n ≡ j + 1 = omega (arith, same) in
    ap rounds_code next ∙ rounds_more j ∙ ap (λ l. rounds_code j ++ l) (sym (append-nil (round_code j)))

-- what stands behind round j
pub rounds_split : (n j : ℕ) → j < n → (later : List ℕ) × (rounds_code n ≡ rounds_code j ++ (round_code j ++ later))
rounds_split zero j less = absurd (omega (arith, less))
rounds_split (suc n) j less =
    ⊎_elim (λ (below : j < n). let split = rounds_split n j below in (split.0 ++ round_code n, one_more n (rounds_code j) (round_code j) split.0 split.1))
    (λ (least : n ≤ j). ([], just_last n j (omega (arith, less, least)))) (cases_lt j n)

-- a round stands before those after it
pub rounds_before : (j k : ℕ) → j < k → length (rounds_code j) + length (round_code j) ≤ length (rounds_code k)
rounds_before j k less =
    let split = rounds_split k j less in
    let whole = ap length split.1 in
    omega (arith, whole, length-append (rounds_code j) (round_code j ++ split.0), length-append (round_code j) split.0)

joined : (a b c d e : List ℕ) → a ++ ((b ++ (c ++ d)) ++ e) ≡ (a ++ b) ++ (c ++ (d ++ e))
joined a b c d e = simp append_assoc

-- the code before round j, round j, and what stands behind it
pub code_split : (n j : ℕ) → j < n → (later : List ℕ) × (made_code n ≡ (cells_to_rdi ++ rounds_code j) ++ (round_code j ++ later))
code_split n j less =
    let split = rounds_split n j less in
    (split.0 ++ return, ap (λ l. cells_to_rdi ++ (l ++ return)) split.1 ∙ joined cells_to_rdi (rounds_code j) (round_code j) split.0 return)

-- so many bytes stand before it
pub length-before : (j : ℕ) → length (cells_to_rdi ++ rounds_code j) ≡ 5 + length (rounds_code j)
length-before j = length-append cells_to_rdi (rounds_code j)

offset_low : (n k e : ℕ) → IsOffset n k e → e < length (round_code k)
offset_low n k e (first in_it at) = omega (arith, at, length-least k)
offset_low n k e (second in_it fenced at) = let long = ap length fenced in omega (arith, at, long)

pub offset_within : (n k e : ℕ) → IsOffset n k e → k ≤ n
offset_within n k e (first in_it at) = in_it
offset_within n k e (second in_it fenced at) = omega (arith, in_it)

pub offset_small : (n k e : ℕ) → IsOffset n k e → e ≤ 3
offset_small n k e (first in_it at) = omega (arith, at)
offset_small n k e (second in_it fenced at) = omega (arith, at)

-- an instruction of a round that is no longer than that goes: in the rounds of a fence the first one has 3 bytes
pub record IsShort (n j d size : ℕ) : Type 0 where
  pub inside : j < n → d + size ≤ length (round_code j)
  pub early : j < n → d ≡ 0 → round_code j ≡ fence_and_jump → size ≤ 3

same_round : (n j d e size : ℕ) → IsOffset n j d → IsShort n j d size → IsOffset n j e → d < e → d + size ≤ e
same_round n j d e size from short (first in_it at) less = absurd (omega (arith, at, less))
same_round n j d e size (first in_it none) short (second below fenced at) less =
    let few = short.early below none fenced in
    omega (arith, none, at, few)
same_round n j d e size (second in_it round three) short (second below fenced at) less = absurd (omega (arith, three, at, less))

-- it ends where the next one begins, or before
pub ends_before : (n j d size b : ℕ) → IsOffset n j d → IsShort n j d size → IsPlace n b → place_of j d < b → place_of j d + size ≤ b
ends_before n j d size b from short (head at) less = absurd (omega (arith, at, less))
ends_before n j d size b from short (inner k e at to) less =
    ⊎_elim
    (λ (later : j < k).
    let inside = short.inside (omega (arith, later, offset_within n k e to)) in
    let behind = rounds_before j k later in
    omega (arith, at, inside, behind))
    (λ (least : k ≤ j).
    ⊎_elim
    (λ (earlier : k < j).
    let behind = rounds_before k j earlier in
    let low = offset_low n k e to in
    absurd (omega (arith, at, less, behind, low)))
    (λ (most : j ≤ k).
    let same : k ≡ j = omega (arith, least, most) in
    let long : length (rounds_code k) ≡ length (rounds_code j) = ap (λ m. length (rounds_code m)) same in
    let after : d < e = omega (arith, at, less, long) in
    let ends = same_round n j d e size from short (subst (λ m. IsOffset n m e) same to) after in
    omega (arith, at, long, ends))
    (cases_lt k j))
    (cases_lt j k)
