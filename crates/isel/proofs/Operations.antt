-- The words of operations, of choices and of numbers do what the steps do.
use Rattle.std.proofs.Common.{◌≡◌, ℕ, ◌+◌, ◌-◌, ◌*◌, ◌%◌, ◌^◌, ◌<◌, ◌==◌, Bool, true, false, not, [], ◌∷◌, Some, inl, inr, refl, sym, ap, ◌∙◌, subst, arith}
use Rattle.std.specs.Prelude.{if◌then◌else◌, nat_lt, int_lt, pos}
use Rattle.std.specs.Int.Bits.{and_lt}
use Rattle.std.proofs.lemmas.Nat.{xor_lt, or_lt}
use Rattle.behavior.specs.Tree.{Tree, Next, ◌then◌}
use Rattle.behavior.specs.Acts.{put, Permission, goes}
use Rattle.behavior.specs.Seen.{lowered}
use Rattle.behavior.specs.Kept.{SameNext, both-go}
use Rattle.behavior.proofs.Beside.{Beside, give, spend}
use Rattle.behavior.proofs.Banks.{put_here}
use Rattle.word_arith.specs.Bits.{bit}
use Rattle.word_arith.specs.Signed.{signed}
use Rattle.word_arith.specs.ArmWords.{bitfield_move, lslv, lsrv, asrv, rorv, udiv, sdiv, subs_value}
use Rattle.word_arith.proofs.CallerLemmas.{low_bits_below, uxt, sxt}
use Rattle.limm_ir.specs.Values.{op_value}
use Rattle.limm_ir.specs.Costs.{op_cost}
use Rattle.limm_ir.specs.Steps.{IrState, of, set}
use Rattle.limm_ir.specs.Conditions.{Known, Unset, Set, Constant, IsSet, IsExtended, HasConstant, know}
use Rattle.limm_ir.specs.declared.step.Temp.{Temp}
use Rattle.limm_ir.specs.declared.step.IrOp.{IrOp}
use Rattle.limm_ir.specs.declared.step.IrOp.TheVariants as ops
use Rattle.a64_code.specs.declared.instr.A64.{A64}
use Rattle.a64_code.specs.declared.instr.A64.TheVariants as words
use Rattle.a64_table.specs.declared.state.Done.{Done}
use Rattle.a64_table.specs.State.{AState, value, after}
use Rattle.a64_table.specs.Values.{low, shifted, holds, subs_flags, a64_value}
use Rattle.a64_table.specs.Rows.{computes_or, a64_act, a64_result, ahead, a64_words}
use Rattle.a64_block.specs.Registers.{numbers}
use Rattle.isel.specs.Groups.{last_bit, compare_words, op_words}
use Rattle.isel.proofs.Numbered.{Numbered, Moved, number_is, reads_temp, temp_fits, scratch, wrote_temp}
use Rattle.isel.proofs.Values.{low_is, plain, add_is, sub_is, and_is, or_is, xor_is, both_is, shr_fits, ror_fits, high_fits, high_signed_fits, udiv_fits, sdiv_fits, bit_fits, zero_ext_fits, not_equal, at_least, signed_at_least, compared}

-- the words do what the steps do, with so many instructions to spare
abbrev pub Does : (known : ℕ → Known) (credit : ℕ) → Tree (Next IrState) → Tree (Next (ℕ × AState)) → Type 0
Does known credit p q = Beside lowered 1 (SameNext (Moved known)) credit p q

-- a temporary that is only set is not known as a number
pub only_set : (v n : ℕ) → Set ≡ Constant n → v ≡ n
only_set v n e = cc

module _ (may : Permission) (known : ℕ → Known) (i : IrState) (s : AState) (at : ℕ) (here : Numbered known i s) where
  -- a word that computes the value of a temporary
  pub one_word : (w : A64 ℕ) (t : Temp) (k : Known) (v u : ℕ) → a64_value w (value numbers s) s.nzcv ≡ Some v → a64_result numbers w ≡ Some (21 + t.0)
      → v ≡ u → u < 2 ^ 64 → ((n : ℕ) → k ≡ Constant n → u ≡ n) → Does (know (Some t.0) k known) 1 (goes (set t u i)) (a64_words numbers may at (w ∷ []) 0 s)
  one_word w t k v u computes result same fits constant =
      let act = a64_act numbers may at w (value numbers s) s.nzcv in
      let done : Done = record { distance = pos 1; value = v; nzcv = s.nzcv } in
      spend {less = 0} (omega arith)
      (subst (λ o. Does (know (Some t.0) k known) 0 (goes (set t u i)) (computes_or o s.nzcv act then (λ d. a64_words numbers may (at + 4) [] (ahead d.distance) (after numbers (a64_result numbers w) d s)))) (sym computes)
      (subst (λ r. Does (know (Some t.0) k known) 0 (goes (set t u i)) (goes (0, after numbers r done s))) (sym result)
      (give (both-go (refl, wrote_temp known i s here s.nzcv t k v u same fits constant)))))

  -- a word that computes a temporary of which only that is known
  pub computes : (w : A64 ℕ) (t : Temp) (v u : ℕ) → a64_value w (value numbers s) s.nzcv ≡ Some v → a64_result numbers w ≡ Some (21 + t.0)
      → v ≡ u → u < 2 ^ 64 → Does (know (Some t.0) Set known) 1 (goes (set t u i)) (a64_words numbers may at (w ∷ []) 0 s)
  computes w t v u value_is result same fits = one_word w t Set v u value_is result same fits (only_set u)

module _ (may : Permission) (known : ℕ → Known) (i : IrState) (s : AState) (at : ℕ) (here : Numbered known i s) (t a b : Temp)
    (set_a : IsSet (known a.0)) (set_b : IsSet (known b.0)) (fresh : IsSet (known t.0) → ⊥) where
  -- the words of an operation do what its step does
  abbrev Op : IrOp → Type 0
  Op op = Does (know (Some t.0) Set known) (op_cost op) (goes (set t (op_value op (of i a) (of i b)) i))
      (a64_words numbers may at (op_words (last_bit (known b.0)) op (21 + t.0) (21 + a.0) (21 + b.0)) 0 s)

  -- what the number of the first operand reads as
  at_a : value numbers s (21 + a.0) ≡ of i a
  at_a = reads_temp known i s here a set_a

  -- what that of the second reads as
  at_b : value numbers s (21 + b.0) ≡ of i b
  at_b = reads_temp known i s here b set_b

  -- the first operand fits 64 bits
  fit_a : of i a < 2 ^ 64
  fit_a = temp_fits known i s here a set_a

  -- the second fits 64 bits
  fit_b : of i b < 2 ^ 64
  fit_b = temp_fits known i s here b set_b

  -- the number that reads as zero is written
  pub compared_state : Numbered known i (record { regs = put 20 (subs_value 64 (low true (value numbers s (21 + a.0))) (shifted true 0 0 (value numbers s (21 + b.0)))) s.regs; nzcv = subs_flags 64 (low true (value numbers s (21 + a.0))) (shifted true 0 0 (value numbers s (21 + b.0))) })
  compared_state = scratch known i s here (subs_flags 64 (low true (value numbers s (21 + a.0))) (shifted true 0 0 (value numbers s (21 + b.0)))) 20
      (subs_value 64 (low true (value numbers s (21 + a.0))) (shifted true 0 0 (value numbers s (21 + b.0)))) (omega arith) (λ u is_set e. absurd (omega (arith, e))) (omega arith)

  -- a comparison, by the condition of a code
  compare : (code : ℕ) (d : Bool) → holds code (subs_flags 64 (of i a) (of i b)) ≡ not d
      → Does (know (Some t.0) Set known) 2 (goes (set t (bit d) i)) (a64_words numbers may at (compare_words code (21 + t.0) (21 + a.0) (21 + b.0)) 0 s)
  compare code d tells =
      let m = low true (value numbers s (21 + a.0)) in
      let n = shifted true 0 0 (value numbers s (21 + b.0)) in
      let next : AState = record { regs = put 20 (subs_value 64 m n) s.regs; nzcv = subs_flags 64 m n } in
      let flags : subs_flags 64 m n ≡ subs_flags 64 (of i a) (of i b) = rw (at_a, at_b, low_is (of i a) fit_a, plain (of i b) fit_b) refl in
      spend {less = 1} (omega arith)
      (computes may known i next (at + 4) compared_state (words.Csinc true (21 + t.0) 20 20 code) t _ (bit d) refl refl (compared (holds code (subs_flags 64 m n)) d (ap (holds code) flags ∙ tells)) (bit_fits d))

  -- how many bytes an extension takes
  bytes : (k : Known) (n : ℕ) → IsExtended k → ((m : ℕ) → k ≡ Constant m → n ≡ m) → (0 < 8 * n) × (last_bit k ≡ 8 * n - 1)
  bytes Unset n h is = elim h [ ]
  bytes Set n h is = elim h [ ]
  bytes (Constant m) n (inl e) is = (omega (arith, e, is m refl), omega (arith, is m refl))
  bytes (Constant m) n (inr (inl e)) is = (omega (arith, e, is m refl), omega (arith, is m refl))
  bytes (Constant m) n (inr (inr e)) is = (omega (arith, e, is m refl), omega (arith, is m refl))

  -- each operation, a line for each
  pub op_step : (op : IrOp) → HasConstant op (known b.0) → Op op
  op_step ops.Add has = computes may known i s at here (words.Add true (21 + t.0) (21 + a.0) (21 + b.0) 0 0) t _ _ refl refl (add_is _ _ _ _ at_a at_b fit_a fit_b) (omega arith)
  op_step ops.Sub has = computes may known i s at here (words.Sub true (21 + t.0) (21 + a.0) (21 + b.0) 0 0) t _ _ refl refl (sub_is _ _ _ _ at_a at_b fit_a fit_b) (omega arith)
  op_step ops.And has = computes may known i s at here (words.And true (21 + t.0) (21 + a.0) (21 + b.0) 0 0) t _ _ refl refl (and_is _ _ _ _ at_a at_b fit_a fit_b) (and_lt 64 (of i a) (of i b) fit_a fit_b)
  op_step ops.Or has = computes may known i s at here (words.Orr true (21 + t.0) (21 + a.0) (21 + b.0) 0 0) t _ _ refl refl (or_is _ _ _ _ at_a at_b fit_a fit_b) (or_lt 64 (of i a) (of i b) fit_a fit_b)
  op_step ops.Xor has = computes may known i s at here (words.Eor true (21 + t.0) (21 + a.0) (21 + b.0) 0 0) t _ _ refl refl (xor_is _ _ _ _ at_a at_b fit_a fit_b) (xor_lt 64 (of i a) (of i b) fit_a fit_b)
  op_step ops.Shl has = computes may known i s at here (words.Lslv true (21 + t.0) (21 + a.0) (21 + b.0)) t _ _ refl refl (both_is _ _ _ _ at_a at_b fit_a fit_b (lslv 64)) (omega arith)
  op_step ops.Shr has = computes may known i s at here (words.Lsrv true (21 + t.0) (21 + a.0) (21 + b.0)) t _ _ refl refl (both_is _ _ _ _ at_a at_b fit_a fit_b (lsrv 64)) (shr_fits (of i a) (of i b) fit_a)
  op_step ops.Sar has = computes may known i s at here (words.Asrv true (21 + t.0) (21 + a.0) (21 + b.0)) t _ _ refl refl (both_is _ _ _ _ at_a at_b fit_a fit_b (asrv 64)) (low_bits_below 64 _)
  op_step ops.Ror has = computes may known i s at here (words.Rorv true (21 + t.0) (21 + a.0) (21 + b.0)) t _ _ refl refl (both_is _ _ _ _ at_a at_b fit_a fit_b (rorv 64)) (ror_fits (of i a) (of i b) fit_a)
  op_step ops.Mul has =
      let next : AState = record { regs = put (21 + t.0) 0 s.regs; nzcv = s.nzcv } in
      let clear : Numbered known i next = scratch known i s here s.nzcv (21 + t.0) 0 (omega arith) (λ u is_set e. fresh (subst (λ n. IsSet (known n)) (omega (arith, e)) is_set)) (omega arith) in
      let zero_is : value numbers next (21 + t.0) ≡ 0 = number_is next t.0 ∙ put_here (21 + t.0) 0 s.regs in
      spend {less = 1} (omega arith)
      (computes may known i next (at + 4) clear (words.Madd true (21 + t.0) (21 + a.0) (21 + b.0) (21 + t.0)) t _ _ refl refl
      (rw (zero_is, reads_temp known i next clear a set_a, reads_temp known i next clear b set_b, low_is (of i a) fit_a, low_is (of i b) fit_b)
      (let product : 0 + of i a * of i b ≡ of i a * of i b = omega arith in ap (λ n. n % 2 ^ 64) product)) (omega arith))
  op_step ops.HighU has = computes may known i s at here (words.Umulh (21 + t.0) (21 + a.0) (21 + b.0)) t _ _ refl refl (rw (at_a, at_b) refl) (high_fits (of i a) (of i b) fit_a fit_b)
  op_step ops.HighS has = computes may known i s at here (words.Smulh (21 + t.0) (21 + a.0) (21 + b.0)) t _ _ refl refl (rw (at_a, at_b) refl) (high_signed_fits (of i a) (of i b))
  op_step ops.DivU has = computes may known i s at here (words.Udiv true (21 + t.0) (21 + a.0) (21 + b.0)) t _ _ refl refl (both_is _ _ _ _ at_a at_b fit_a fit_b (udiv 64)) (udiv_fits (of i a) (of i b) fit_a)
  op_step ops.DivS has = computes may known i s at here (words.Sdiv true (21 + t.0) (21 + a.0) (21 + b.0)) t _ _ refl refl (both_is _ _ _ _ at_a at_b fit_a fit_b (sdiv 64)) (sdiv_fits (of i a) (of i b))
  op_step ops.Eq has = compare 1 (of i a == of i b) (not_equal (of i a) (of i b) fit_a fit_b)
  op_step ops.LessU has = compare 2 (nat_lt (of i a) (of i b)) (at_least (of i a) (of i b))
  op_step ops.LessS has = compare 10 (int_lt (signed 64 (of i a)) (signed 64 (of i b))) (signed_at_least (of i a) (of i b) fit_a fit_b)
  op_step ops.ZeroExt has =
      let n = of i b in
      let k = bytes (known b.0) n has (here.constants b.0) in
      let m = low true (value numbers s (21 + a.0)) in
      let low_a : m ≡ of i a = ap (low true) at_a ∙ low_is (of i a) fit_a in
      computes may known i s at here (words.Ubfm true (21 + t.0) (21 + a.0) 0 (last_bit (known b.0))) t _ _ refl refl
      (ap (λ l. bitfield_move false 64 0 l m) k.1 ∙ uxt 64 (8 * n) m k.0 ∙ ap (λ v. v % 2 ^ (8 * n)) low_a) (zero_ext_fits (of i a) (2 ^ (8 * n)) fit_a)
  op_step ops.SignExt has =
      let n = of i b in
      let k = bytes (known b.0) n has (here.constants b.0) in
      let m = low true (value numbers s (21 + a.0)) in
      let low_a : m ≡ of i a = ap (low true) at_a ∙ low_is (of i a) fit_a in
      computes may known i s at here (words.Sbfm true (21 + t.0) (21 + a.0) 0 (last_bit (known b.0))) t _ _ refl refl
      (ap (λ l. bitfield_move true 64 0 l m) k.1 ∙ sxt 64 (8 * n) m k.0 ∙ ap (λ v. op_value ops.SignExt v n) low_a) (low_bits_below 64 _)
