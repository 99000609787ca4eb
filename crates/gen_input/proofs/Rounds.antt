-- The code of rounds, round by round, and how long it is.
use Rattle.std.proofs.Common.{◌≡◌, ℕ, ◌+◌, ◌*◌, ◌≤◌, zero, suc, List, ◌++◌, length, add-one, arith, append_assoc, length-append}
use Rattle.std.specs.List.{flat_map, range_with_len}
use Rattle.std.proofs.lemmas.Grind.{common_steps}
use Rattle.gen_input.specs.Made.{round_code, rounds_code}

range_more : (a n j : ℕ) → a + n ≡ j → flat_map round_code (range_with_len a (suc n)) ≡ flat_map round_code (range_with_len a n) ++ round_code j
range_more a zero j is = grind (arith, common_steps)
range_more a (suc n) j is = let more = range_more (a + 1) n j (omega arith) in grind (arith, append_assoc, more)

-- one round more
pub rounds_more : (n : ℕ) → rounds_code (n + 1) ≡ rounds_code n ++ round_code n
rounds_more n = rw (add-one n) (range_more 0 n n (omega arith))

length-round_code : (j : ℕ) → length (round_code j) ≤ 6
unfolding round_code
length-round_code j = grind arith

length-range : (a n : ℕ) → length (flat_map round_code (range_with_len a n)) ≤ 6 * n
length-range a zero = omega arith
length-range a (suc n) =
    let rest = length-range (a + 1) n in
    omega (arith, length-append (round_code a) (flat_map round_code (range_with_len (a + 1) n)), length-round_code a, rest)

-- n rounds are at most 6 n bytes
pub length_rounds : (n : ℕ) → length (rounds_code n) ≤ 6 * n
length_rounds n = length-range 0 n

-- what is written with one round more
pub round_written : (old made piece last : List ℕ) (n : ℕ) → made ≡ old ++ rounds_code n → piece ≡ round_code n → last ≡ made ++ piece
    → last ≡ old ++ rounds_code (n + 1)
round_written old made piece last n one two three = rw (three, two, one, rounds_more n) (append_assoc old (rounds_code n) (round_code n))
