-- What the layout's own words do, one at a time: they show nothing, and go on.
use Rattle.std.proofs.Common.{◌≡◌, ◌≢◌, ℕ, ◌+◌, ◌*◌, ◌%◌, ◌^◌, ◌<◌, ◌==◌, true, not, List, ◌++◌, Some, refl, ap, ◌∙◌, arith}
use Rattle.std.specs.Prelude.{if◌then◌else◌, nat_lt, pos, ◌+ℤ◌, ◌*ℤ◌, ◌-ℤ◌, unsigned_abs}
use Rattle.std.specs.Int.{int_rem_euclid}
use Rattle.std.proofs.lemmas.Int.{ints}
use Rattle.std.proofs.lemmas.Bool.Decides.{nat_tests}
use Rattle.behavior.specs.Tree.{Tree, Begins, Next, Goes, ◌then◌}
use Rattle.behavior.specs.Acts.{put, Permission, goes}
use Rattle.behavior.proofs.Banks.{put_other}
use Rattle.word_arith.specs.Bits.{insert}
use Rattle.word_arith.specs.ArmWords.{subs_value}
use Rattle.a64_code.specs.declared.instr.XReg.{XReg}
use Rattle.a64_code.specs.declared.instr.A64.{A64}
use Rattle.a64_code.specs.declared.instr.A64.TheVariants as words
use Rattle.a64_table.specs.declared.state.Done.{Done}
use Rattle.a64_table.specs.State.{xregs, AState, value, after, moved}
use Rattle.a64_table.specs.Values.{low, shifted, holds, subs_flags}
use Rattle.a64_table.specs.Rows.{a64_row, a64_result}
use Rattle.a64_table.specs.Machine.{AThread, a64_take, a64_step}
use Rattle.a64_table.proofs.CallerLemmas.{instr_at, StandAt}
use Rattle.code_layout.specs.Code.{x, not_equal, lower, jump, quarter_of, compare_words}
use Rattle.code_layout.proofs.Comes.{Comes, comes_last, comes_more}

-- some words on, at low addresses
pub moved_on : (at k : ℕ) → at + 4 * k < 2 ^ 63 → moved at (pos k) ≡ at + 4 * k
moved_on at k low = omega (arith, ints, low)

-- to the next word
pub moved_next : (at : ℕ) → at + 4 < 2 ^ 63 → moved at (pos 1) ≡ at + 4
moved_next at low = omega (arith, ints, low)

-- to another word of the code
moved_to : (first from to : ℕ) → first + 4 * from < 2 ^ 63 → first + 4 * to < 2 ^ 63 → moved (first + 4 * from) (pos to -ℤ pos from) ≡ first + 4 * to
moved_to first from to room there = ap (λ z. unsigned_abs (int_rem_euclid z (pos (2 ^ 64)))) (far first from to) ∙ near (first + 4 * to) there
  where
    far : (first from to : ℕ) → pos (first + 4 * from) +ℤ pos 4 *ℤ (pos to -ℤ pos from) ≡ pos (first + 4 * to)
    far first from to = omega (arith, ints)

    near : (n : ℕ) → n < 2 ^ 63 → unsigned_abs (int_rem_euclid (pos n) (pos (2 ^ 64))) ≡ n
    near n small = omega (arith, ints, small)

-- the same registers, but for X17 and the zero register
abbrev pub Others : AState → AState → Type 0
Others s t = (n : ℕ) → n ≢ 17 → n ≢ 31 → t.regs n ≡ s.regs n

pub others_on : (s t u : AState) → Others s t → Others t u → Others s u
others_on s t u one two = λ n key zero. two n key zero ∙ one n key zero

small_low : (v : ℕ) → v < 2 ^ 64 → low true v ≡ v
small_low v small = omega (arith, small)

small_shifted : (v : ℕ) → v < 2 ^ 64 → shifted true 0 0 v ≡ v
small_shifted v small = omega (arith, small)

-- 16 bits more of a number
part_1 : (v : ℕ) → insert (16 * 1) 16 (low true (quarter_of v 0)) (quarter_of v 1) ≡ v % 2 ^ 32
part_1 v = omega arith

part_2 : (v : ℕ) → insert (16 * 2) 16 (low true (v % 2 ^ 32)) (quarter_of v 2) ≡ v % 2 ^ 48
part_2 v = omega arith

part_3 : (v : ℕ) → v < 2 ^ 64 → insert (16 * 3) 16 (low true (v % 2 ^ 48)) (quarter_of v 3) ≡ v
part_3 v fits = omega (arith, fits)

-- the flags of a comparison of two numbers of 64 bits
flags_equal : (a b : ℕ) → a < 2 ^ 64 → b < 2 ^ 64 → holds not_equal (subs_flags 64 a b) ≡ not (a == b)
unfolding holds subs_flags
flags_equal a b low low_b = grind (arith, nat_tests)

flags_lower : (a b : ℕ) → a < 2 ^ 64 → b < 2 ^ 64 → holds lower (subs_flags 64 a b) ≡ nat_lt a b
unfolding holds subs_flags
flags_lower a b low low_b = grind (arith, nat_tests)

module _ (may : Permission) (first : ℕ) (code : List ℕ) where
  -- a thread at an address
  abbrev pub thread : ℕ → AState → AThread
  thread at s = record { at = at; state = s }

  -- a word that goes on
  pub comes_on : {P : Next AThread → Type 0} {most : ℕ} (w : A64 XReg) (at to : ℕ) (s : AState) (d : Done) → instr_at first code at ≡ Some w
      → a64_row xregs may at w (value xregs s) s.nzcv ≡ goes d → moved at d.distance ≡ to
      → Comes (a64_step may first code) most (thread to (after xregs (a64_result xregs w) d s)) P → Comes (a64_step may first code) (1 + most) (thread at s) P
  comes_on w at to s d here row there later =
      let on : Done → Tree (Next AThread) = λ e. goes (thread (moved at e.distance) (after xregs (a64_result xregs w) e s)) in
      comes_more (a64_step may first code) (thread at s) (thread to (after xregs (a64_result xregs w) d s))
      (ap (λ o. a64_take may o (thread at s)) here ∙ ap (λ t. Begins t then on) row ∙ ap (λ a. Begins (goes (thread a (after xregs (a64_result xregs w) d s)))) there) later

  -- a word that goes to where the thread was to come
  pub comes_there : {P : Next AThread → Type 0} (w : A64 XReg) (at to : ℕ) (s : AState) (d : Done) → instr_at first code at ≡ Some w
      → a64_row xregs may at w (value xregs s) s.nzcv ≡ goes d → moved at d.distance ≡ to
      → P (Goes (thread to (after xregs (a64_result xregs w) d s))) → Comes (a64_step may first code) 1 (thread at s) P
  comes_there w at to s d here row there good =
      let on : Done → Tree (Next AThread) = λ e. goes (thread (moved at e.distance) (after xregs (a64_result xregs w) e s)) in
      comes_last (a64_step may first code) (thread at s) (Goes (thread to (after xregs (a64_result xregs w) d s)))
      (ap (λ o. a64_take may o (thread at s)) here ∙ ap (λ t. Begins t then on) row ∙ ap (λ a. Begins (goes (thread a (after xregs (a64_result xregs w) d s)))) there) good

  -- the word that goes to another place, where the thread was to come or goes on
  pub comes_jump : {P : Next AThread → Type 0} (n at to : ℕ) (s : AState) → at ≡ first + 4 * n → at < 2 ^ 63 → first + 4 * to < 2 ^ 63 → instr_at first code at ≡ Some (jump n to)
      → P (Goes (thread (first + 4 * to) s)) → Comes (a64_step may first code) 1 (thread at s) P
  comes_jump n at to s same low far here good =
      comes_there (jump n to) at (first + 4 * to) s (record { distance = pos to -ℤ pos n; value = 0; nzcv = s.nzcv }) here refl
      (ap (λ a. moved a (pos to -ℤ pos n)) same ∙ moved_to first n to (omega (arith, same, low)) far) good

  pub jumps_on : {P : Next AThread → Type 0} {most : ℕ} (n at to : ℕ) (s : AState) → at ≡ first + 4 * n → at < 2 ^ 63 → first + 4 * to < 2 ^ 63 → instr_at first code at ≡ Some (jump n to)
      → Comes (a64_step may first code) most (thread (first + 4 * to) s) P → Comes (a64_step may first code) (1 + most) (thread at s) P
  jumps_on n at to s same low far here later =
      comes_on (jump n to) at (first + 4 * to) s (record { distance = pos to -ℤ pos n; value = 0; nzcv = s.nzcv }) here refl
      (ap (λ a. moved a (pos to -ℤ pos n)) same ∙ moved_to first n to (omega (arith, same, low)) far) later

  -- 16 more bits of a number come to X17
  quarter_on : {P : Next AThread → Type 0} {most : ℕ} (k v part next at : ℕ) (start s : AState) → at + 4 < 2 ^ 63 → insert (16 * k) 16 (low true part) (quarter_of v k) ≡ next
      → instr_at first code at ≡ Some (words.Movk true (x 17) (quarter_of v k) k) → s.regs 17 ≡ part → Others start s
      → ((t : AState) → t.regs 17 ≡ next → Others start t → Comes (a64_step may first code) most (thread (at + 4) t) P) → Comes (a64_step may first code) (1 + most) (thread at s) P
  quarter_on k v part next at start s room is here held others later =
      let w = insert (16 * k) 16 (low true (s.regs 17)) (quarter_of v k) in
      comes_on (words.Movk true (x 17) (quarter_of v k) k) at (at + 4) s (record { distance = pos 1; value = w; nzcv = s.nzcv }) here refl (moved_next at room)
      (later (record { regs = put 17 w s.regs; nzcv = s.nzcv }) (ap (λ p. insert (16 * k) 16 (low true p) (quarter_of v k)) held ∙ is)
      (λ n key zero. put_other 17 w s.regs n key ∙ others n key zero))

  -- X16 is compared with a number
  pub compare_on : {P : Next AThread → Type 0} {most : ℕ} (v at : ℕ) (rest : List (A64 XReg)) (s : AState) → v < 2 ^ 64 → s.regs 16 < 2 ^ 64 → at + 20 < 2 ^ 63
      → StandAt first code at (compare_words v ++ rest)
      → ((t : AState) → Others s t → holds not_equal t.nzcv ≡ not (s.regs 16 == v) → holds lower t.nzcv ≡ nat_lt (s.regs 16) v
      → StandAt first code (at + 4 + 4 + 4 + 4 + 4) rest → Comes (a64_step may first code) most (thread (at + 4 + 4 + 4 + 4 + 4) t) P)
      → Comes (a64_step may first code) (1 + (1 + (1 + (1 + (1 + most))))) (thread at s) P
  compare_on {P} {most} v at rest s fits small room (zero_at, (one_at, (two_at, (three_at, (compared_at, rest_at))))) later =
      let none = quarter_of v 0 * 2 ^ (16 * 0) in
      let base : none ≡ quarter_of v 0 = omega arith in
      comes_on (words.Movz true (x 17) (quarter_of v 0) 0) at (at + 4) s (record { distance = pos 1; value = none; nzcv = s.nzcv }) zero_at refl (moved_next at (omega (arith, room)))
      (quarter_on 1 v (quarter_of v 0) (v % 2 ^ 32) (at + 4) s (record { regs = put 17 none s.regs; nzcv = s.nzcv }) (omega (arith, room)) (part_1 v) one_at base
      (λ n key zero. put_other 17 none s.regs n key)
      (λ t1 held1 others1. quarter_on 2 v (v % 2 ^ 32) (v % 2 ^ 48) (at + 4 + 4) s t1 (omega (arith, room)) (part_2 v) two_at held1 others1
      (λ t2 held2 others2. quarter_on 3 v (v % 2 ^ 48) v (at + 4 + 4 + 4) s t2 (omega (arith, room)) (part_3 v fits) three_at held2 others2
      (λ t3 held3 others3. compared t3 held3 others3))))
    where
      compared : (t : AState) → t.regs 17 ≡ v → Others s t → Comes (a64_step may first code) (1 + most) (thread (at + 4 + 4 + 4 + 4) t) P
      compared t held others =
          let a = low true (t.regs 16) in
          let b = shifted true 0 0 (t.regs 17) in
          let sixteen : t.regs 16 ≡ s.regs 16 = others 16 (λ e. absurd (omega (arith, e))) (λ e. absurd (omega (arith, e))) in
          let a_is : a ≡ s.regs 16 = ap (low true) sixteen ∙ small_low (s.regs 16) small in
          let b_is : b ≡ v = ap (shifted true 0 0) held ∙ small_shifted v fits in
          comes_on (words.Subs true (x 31) (x 16) (x 17) 0 0) (at + 4 + 4 + 4 + 4) (at + 4 + 4 + 4 + 4 + 4) t
          (record { distance = pos 1; value = subs_value 64 a b; nzcv = subs_flags 64 a b }) compared_at refl
          (moved_next (at + 4 + 4 + 4 + 4) (omega (arith, room)))
          (later (record { regs = put 31 (subs_value 64 a b) t.regs; nzcv = subs_flags 64 a b })
          (λ n key zero. put_other 31 (subs_value 64 a b) t.regs n zero ∙ others n key zero)
          (ap (λ k. holds not_equal (subs_flags 64 k b)) a_is ∙ ap (λ k. holds not_equal (subs_flags 64 (s.regs 16) k)) b_is ∙ flags_equal (s.regs 16) v small fits)
          (ap (λ k. holds lower (subs_flags 64 k b)) a_is ∙ ap (λ k. holds lower (subs_flags 64 (s.regs 16) k)) b_is ∙ flags_lower (s.regs 16) v small fits) rest_at)
