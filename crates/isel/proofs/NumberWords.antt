-- The words that make a number make that number.
use Rattle.std.proofs.Common.{◌≡◌, ℕ, ◌+◌, ◌-◌, ◌*◌, ◌%◌, ◌^◌, ◌<◌, ◌==◌, Bool, true, false, not, List, [], ◌∷◌, ◌++◌, Some, refl, ap, ◌∙◌, subst, arith}
use Rattle.std.specs.Prelude.{if◌then◌else◌, nat_le}
use Rattle.std.proofs.lemmas.List.{append-nil}
use Rattle.std.proofs.lemmas.Bool.{eqb-true}
use Rattle.behavior.specs.Acts.{put, Permission, goes}
use Rattle.behavior.specs.Seen.{lowered}
use Rattle.behavior.specs.Kept.{SameNext, both-go}
use Rattle.behavior.proofs.SeenLemmas.{sees-lowered}
use Rattle.behavior.proofs.Beside.{give, spend, more_credit}
use Rattle.behavior.proofs.Banks.{put_here}
use Rattle.word_arith.specs.Bits.{bit, insert}
use Rattle.limm_ir.specs.Costs.{quarter_of, quarters_not, number_cost}
use Rattle.limm_ir.specs.Steps.{IrState, set}
use Rattle.limm_ir.specs.Conditions.{Known, Constant, IsSet, know}
use Rattle.limm_ir.specs.declared.step.Temp.{Temp}
use Rattle.a64_code.specs.declared.instr.A64.{A64}
use Rattle.a64_code.specs.declared.instr.A64.TheVariants as words
use Rattle.a64_table.specs.State.{AState, value}
use Rattle.a64_table.specs.Values.{low}
use Rattle.a64_table.specs.Rows.{a64_words}
use Rattle.a64_block.specs.Registers.{numbers}
use Rattle.isel.specs.Groups.{quarter_word, upper_words, number_words}
use Rattle.isel.proofs.Numbered.{Numbered, Moved, number_is, scratch, holds_temp}
use Rattle.isel.proofs.Operations.{Does}

-- two numbers are the same constant
constant_same : (v n : ℕ) → Constant v ≡ Constant n → v ≡ n
constant_same v n e = cc

module _ (may : Permission) (known : ℕ → Known) (i : IrState) (t : Temp) (v : ℕ) (fits : v < 2 ^ 64) (fresh : IsSet (known t.0) → ⊥) where
  -- words that make the number from what the temporary's number holds
  abbrev Makes : (credit at : ℕ) → List (A64 ℕ) → AState → Type 0
  Makes credit at ws s = Does (know (Some t.0) (Constant v) known) credit (goes (set t v i)) (a64_words numbers may at ws 0 s)

  -- the number is only written where nothing is known of it
  fresh_number : (u : ℕ) → IsSet (known u) → 21 + u ≡ 21 + t.0 → ⊥
  fresh_number u is_set e = fresh (subst (λ n. IsSet (known n)) (omega (arith, e)) is_set)

  -- 16 more bits, or none where they stand there already
  quarter_step : (bits k part next : ℕ) → (quarter_of v k ≡ bits → part ≡ next) → insert (16 * k) 16 (low true part) (quarter_of v k) ≡ next → next < 2 ^ 64
      → (credit at : ℕ) (rest : List (A64 ℕ)) (b : Bool) → (quarter_of v k == bits) ≡ b → (s : AState) → Numbered known i s → s.regs (21 + t.0) ≡ part
      → ((at' : ℕ) (s' : AState) → Numbered known i s' → s'.regs (21 + t.0) ≡ next → Makes credit at' rest s')
      → Makes (bit (not b) + credit) at ((if b then [] else words.Movk true (21 + t.0) (quarter_of v k) k ∷ []) ++ rest) s
  quarter_step bits k part next skips merges small credit at rest true e s here held later =
      more_credit lowered sees-lowered 1 (SameNext (Moved (know (Some t.0) (Constant v) known))) (0 + credit) (omega arith) (later at s here (held ∙ skips (eqb-true (quarter_of v k) bits e)))
  quarter_step bits k part next skips merges small credit at rest false e s here held later =
      let w = insert (16 * k) 16 (low true (value numbers s (21 + t.0))) (quarter_of v k) in
      let is : w ≡ next = ap (λ o. insert (16 * k) 16 (low true o) (quarter_of v k)) (number_is s t.0 ∙ held) ∙ merges in
      spend {less = credit} (omega arith)
      (later (at + 4) (record { regs = put (21 + t.0) w s.regs; nzcv = s.nzcv })
      (scratch known i s here s.nzcv (21 + t.0) w (omega arith) fresh_number (omega (arith, is, small))) (put_here (21 + t.0) w s.regs ∙ is))

  -- the upper quarters, over numbers whose upper bits are these
  upper_step : (bits one two three : ℕ)
      → (quarter_of v 1 ≡ bits → one ≡ two) → insert 16 16 (low true one) (quarter_of v 1) ≡ two → two < 2 ^ 64
      → (quarter_of v 2 ≡ bits → two ≡ three) → insert 32 16 (low true two) (quarter_of v 2) ≡ three → three < 2 ^ 64
      → (quarter_of v 3 ≡ bits → three ≡ v) → insert 48 16 (low true three) (quarter_of v 3) ≡ v
      → (at : ℕ) (s : AState) → Numbered known i s → s.regs (21 + t.0) ≡ one → Makes (quarters_not bits v) at (upper_words bits (21 + t.0) v) s
  upper_step bits one two three skip1 merge1 small2 skip2 merge2 small3 skip3 merge3 at s here held =
      quarter_step bits 1 one two skip1 merge1 small2 (bit (not (quarter_of v 2 == bits)) + bit (not (quarter_of v 3 == bits))) at (quarter_word bits (21 + t.0) v 2 ++ quarter_word bits (21 + t.0) v 3) (quarter_of v 1 == bits) refl s here held
      (λ at1 s1 here1 held1. quarter_step bits 2 two three skip2 merge2 small3 (bit (not (quarter_of v 3 == bits))) at1 (quarter_word bits (21 + t.0) v 3) (quarter_of v 2 == bits) refl s1 here1 held1
      (λ at2 s2 here2 held2. more_credit lowered sees-lowered 1 (SameNext (Moved (know (Some t.0) (Constant v) known))) (bit (not (quarter_of v 3 == bits))) (omega arith)
      (subst (λ l. Makes (bit (not (quarter_of v 3 == bits)) + 0) at2 l s2) (append-nil (quarter_word bits (21 + t.0) v 3))
      (quarter_step bits 3 three v skip3 merge3 fits 0 at2 [] (quarter_of v 3 == bits) refl s2 here2 held2
      (λ at3 s3 here3 held3. give (both-go (refl, holds_temp known i s3 here3 t (Constant v) v held3 (constant_same v))))))))

  -- the words that make a number do what its step does
  pub number_step : (at : ℕ) (s : AState) → Numbered known i s → Makes (number_cost v) at (number_words (21 + t.0) v) s
  number_step at s here = by (nat_le (quarters_not 0 v) (quarters_not 0xFFFF v))
    where
      by : (b : Bool) → Makes (1 + (if b then quarters_not 0 v else quarters_not 0xFFFF v)) at
          (if b then words.Movz true (21 + t.0) (v % 2 ^ 16) 0 ∷ upper_words 0 (21 + t.0) v else words.Movn true (21 + t.0) (0xFFFF - v % 2 ^ 16) 0 ∷ upper_words 0xFFFF (21 + t.0) v) s
      by true =
          let w = v % 2 ^ 16 * 2 ^ (16 * 0) in
          let is : w ≡ v % 2 ^ 16 = omega arith in
          spend {less = quarters_not 0 v} (omega arith)
          (upper_step 0 (v % 2 ^ 16) (v % 2 ^ 32) (v % 2 ^ 48) (λ e. omega (arith, e)) (omega arith) (omega arith) (λ e. omega (arith, e)) (omega arith) (omega arith) (λ e. omega (arith, e, fits)) (omega (arith, fits))
          (at + 4) (record { regs = put (21 + t.0) w s.regs; nzcv = s.nzcv }) (scratch known i s here s.nzcv (21 + t.0) w (omega arith) fresh_number (omega arith)) (put_here (21 + t.0) w s.regs ∙ is))
      by false =
          let w = 2 ^ 64 - 1 - (0xFFFF - v % 2 ^ 16) * 2 ^ (16 * 0) in
          let is : w ≡ v % 2 ^ 16 + (2 ^ 64 - 2 ^ 16) = omega arith in
          spend {less = quarters_not 0xFFFF v} (omega arith)
          (upper_step 0xFFFF (v % 2 ^ 16 + (2 ^ 64 - 2 ^ 16)) (v % 2 ^ 32 + (2 ^ 64 - 2 ^ 32)) (v % 2 ^ 48 + (2 ^ 64 - 2 ^ 48))
          (λ e. omega (arith, e)) (omega arith) (omega arith) (λ e. omega (arith, e)) (omega arith) (omega arith) (λ e. omega (arith, e, fits)) (omega (arith, fits))
          (at + 4) (record { regs = put (21 + t.0) w s.regs; nzcv = s.nzcv }) (scratch known i s here s.nzcv (21 + t.0) w (omega arith) fresh_number (omega arith)) (put_here (21 + t.0) w s.regs ∙ is))
