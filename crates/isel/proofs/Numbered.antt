-- Numbers that hold what is known, through the writes of words.
use Rattle.std.proofs.Common.{◌≡◌, ◌≢◌, ℕ, ◌+◌, ◌^◌, ◌<◌, ◌≤◌, ◌==◌, Bool, true, false, Some, None, refl, ap, ◌∙◌, arith}
use Rattle.std.specs.Prelude.{if◌then◌else◌}
use Rattle.std.proofs.lemmas.Bool.{eqb-true}
use Rattle.std.proofs.lemmas.Bool.Decides.{nat_tests}
use Rattle.behavior.specs.Acts.{put}
use Rattle.behavior.proofs.Banks.{put_same, put_fit, put_other}
use Rattle.limm_ir.specs.Steps.{IrState, of, set}
use Rattle.limm_ir.specs.Conditions.{Known, Set, Constant, IsSet, know}
use Rattle.limm_ir.specs.declared.step.Temp.{Temp}
use Rattle.a64_table.specs.declared.state.Nzcv.{Nzcv}
use Rattle.a64_table.specs.State.{AState, value}
use Rattle.a64_block.specs.Registers.{numbers}
use Rattle.isel.specs.Selected.{SameNumbered}

-- numbers hold what registers, flags and the temporaries that are set hold, and what is known of temporaries is so
pub record Numbered (known : ℕ → Known) (i : IrState) (s : AState) : Type 0 where
  pub same : SameNumbered i s
  pub temps : (t : ℕ) → IsSet (known t) → s.regs (21 + t) ≡ i.temps t
  pub constants : (t n : ℕ) → known t ≡ Constant n → i.temps t ≡ n

-- behind a group: no word is left out
abbrev pub Moved : (known : ℕ → Known) → IrState → ℕ × AState → Type 0
Moved known i r = (r.0 ≡ 0) × Numbered known i r.1

-- temporaries differ as their numbers do
same_test : (u t : ℕ) → (21 + u == 21 + t) ≡ (u == t)
same_test u t = grind (arith, nat_tests)

-- numbers differ as flags do
same_flag : (u t : ℕ) → (16 + u == 16 + t) ≡ (u == t)
same_flag u t = grind (arith, nat_tests)

-- the number of a temporary does not read as zero
pub number_is : (s : AState) (t : ℕ) → value numbers s (21 + t) ≡ s.regs (21 + t)
number_is s t = by (21 + t == 20) refl
  where
    by : (b : Bool) → (21 + t == 20) ≡ b → (if b then 0 else s.regs (21 + t)) ≡ s.regs (21 + t)
    by true e = absurd (grind (arith, nat_tests))
    by false e = refl

module _ (known : ℕ → Known) (i : IrState) (s : AState) (here : Numbered known i s) where
  -- what the number of a temporary reads as
  pub reads_temp : (t : Temp) → IsSet (known t.0) → value numbers s (21 + t.0) ≡ of i t
  reads_temp t is_set = number_is s t.0 ∙ here.temps t.0 is_set

  -- it fits 64 bits
  pub temp_fits : (t : Temp) → IsSet (known t.0) → of i t < 2 ^ 64
  temp_fits t is_set = omega (arith, here.temps t.0 is_set, here.same.fit (21 + t.0))

  -- what the number of a register reads as
  pub reads_reg : (r : ℕ) → r < 16 → value numbers s r ≡ i.regs r
  reads_reg r lt = by (r == 20) refl ∙ here.same.regs r lt
    where
      by : (b : Bool) → (r == 20) ≡ b → (if b then 0 else s.regs r) ≡ s.regs r
      by true e = absurd (grind (arith, nat_tests))
      by false e = refl

  -- it fits 64 bits
  pub reg_fits : (r : ℕ) → r < 16 → i.regs r < 2 ^ 64
  reg_fits r lt = omega (arith, here.same.regs r lt, here.same.fit r)

  -- what the number of a flag reads as
  pub reads_flag : (f : ℕ) → f < 4 → value numbers s (16 + f) ≡ i.flags f
  reads_flag f lt = by (16 + f == 20) refl ∙ here.same.flags f lt
    where
      by : (b : Bool) → (16 + f == 20) ≡ b → (if b then 0 else s.regs (16 + f)) ≡ s.regs (16 + f)
      by true e = absurd (grind (arith, nat_tests))
      by false e = refl

  -- it fits 64 bits
  pub flag_fits : (f : ℕ) → f < 4 → i.flags f < 2 ^ 64
  flag_fits f lt = omega (arith, here.same.flags f lt, here.same.fit (16 + f))

  -- flags alone change
  pub kept : (f : Nzcv) → Numbered (know None Set known) i (record { regs = s.regs; nzcv = f })
  kept f = record {
    same = record { regs = here.same.regs; flags = here.same.flags; fit = here.same.fit };
    temps = λ t is_set. here.temps t is_set;
    constants = λ t n e. here.constants t n e;
  }

  -- a number is written of which nothing is known
  pub scratch : (f : Nzcv) (k v : ℕ) → 20 ≤ k → ((t : ℕ) → IsSet (known t) → 21 + t ≢ k) → v < 2 ^ 64 → Numbered known i (record { regs = put k v s.regs; nzcv = f })
  scratch f k v high unset fits = record {
    same = record {
      regs = λ r lt. put_other k v s.regs r (λ e. absurd (omega (arith, e, lt, high))) ∙ here.same.regs r lt;
      flags = λ r lt. put_other k v s.regs (16 + r) (λ e. absurd (omega (arith, e, lt, high))) ∙ here.same.flags r lt;
      fit = λ n. put_fit k v (2 ^ 64) s.regs n fits (here.same.fit n);
    };
    temps = λ t is_set. put_other k v s.regs (21 + t) (unset t is_set) ∙ here.temps t is_set;
    constants = here.constants;
  }

  -- a temporary gets a value
  pub wrote_temp : (f : Nzcv) (t : Temp) (k : Known) (v w : ℕ) → v ≡ w → w < 2 ^ 64 → ((n : ℕ) → k ≡ Constant n → w ≡ n)
      → Numbered (know (Some t.0) k known) (set t w i) (record { regs = put (21 + t.0) v s.regs; nzcv = f })
  wrote_temp f t k v w same fits constant = record {
    same = record {
      regs = λ r lt. put_other (21 + t.0) v s.regs r (λ e. absurd (omega (arith, e, lt))) ∙ here.same.regs r lt;
      flags = λ r lt. put_other (21 + t.0) v s.regs (16 + r) (λ e. absurd (omega (arith, e, lt))) ∙ here.same.flags r lt;
      fit = λ n. put_fit (21 + t.0) v (2 ^ 64) s.regs n (omega (arith, same, fits)) (here.same.fit n);
    };
    temps = λ u is_set. ap (λ b. if b then v else s.regs (21 + u)) (same_test u t.0) ∙ temps_by u (u == t.0) is_set;
    constants = λ u n e. constants_by u n (u == t.0) e;
  }
    where
      temps_by : (u : ℕ) (b : Bool) → IsSet (if b then k else known u) → (if b then v else s.regs (21 + u)) ≡ (if b then w else i.temps u)
      temps_by u true is_set = same
      temps_by u false is_set = here.temps u is_set

      constants_by : (u n : ℕ) (b : Bool) → (if b then k else known u) ≡ Constant n → (if b then w else i.temps u) ≡ n
      constants_by u n true e = constant n e
      constants_by u n false e = here.constants u n e

  -- a temporary whose number holds a value already
  pub holds_temp : (t : Temp) (k : Known) (w : ℕ) → s.regs (21 + t.0) ≡ w → ((n : ℕ) → k ≡ Constant n → w ≡ n) → Numbered (know (Some t.0) k known) (set t w i) s
  holds_temp t k w held constant = record {
    same = record { regs = here.same.regs; flags = here.same.flags; fit = here.same.fit };
    temps = λ u is_set. temps_by u (u == t.0) refl is_set;
    constants = λ u n e. constants_by u n (u == t.0) e;
  }
    where
      temps_by : (u : ℕ) (b : Bool) → (u == t.0) ≡ b → IsSet (if b then k else known u) → s.regs (21 + u) ≡ (if b then w else i.temps u)
      temps_by u true e is_set = ap (λ n. s.regs (21 + n)) (eqb-true u t.0 e) ∙ held
      temps_by u false e is_set = here.temps u is_set

      constants_by : (u n : ℕ) (b : Bool) → (if b then k else known u) ≡ Constant n → (if b then w else i.temps u) ≡ n
      constants_by u n true e = constant n e
      constants_by u n false e = here.constants u n e

  -- a register of x86 gets a value
  pub wrote_reg : (f : Nzcv) (r v w : ℕ) → r < 16 → v ≡ w → w < 2 ^ 64
      → Numbered (know None Set known) (record i { regs = put r w i.regs }) (record { regs = put r v s.regs; nzcv = f })
  wrote_reg f r v w low same fits = record {
    same = record {
      regs = λ n lt. put_same r v w s.regs i.regs n same (here.same.regs n lt);
      flags = λ n lt. put_other r v s.regs (16 + n) (λ e. absurd (omega (arith, e, low))) ∙ here.same.flags n lt;
      fit = λ n. put_fit r v (2 ^ 64) s.regs n (omega (arith, same, fits)) (here.same.fit n);
    };
    temps = λ t is_set. put_other r v s.regs (21 + t) (λ e. absurd (omega (arith, e, low))) ∙ here.temps t is_set;
    constants = λ t n e. here.constants t n e;
  }

  -- a flag of x86 gets a value
  pub wrote_flag : (f : Nzcv) (r v w : ℕ) → r < 4 → v ≡ w → w < 2 ^ 64
      → Numbered (know None Set known) (record i { flags = put r w i.flags }) (record { regs = put (16 + r) v s.regs; nzcv = f })
  wrote_flag f r v w low same fits = record {
    same = record {
      regs = λ n lt. put_other (16 + r) v s.regs n (λ e. absurd (omega (arith, e, lt))) ∙ here.same.regs n lt;
      flags = λ n lt. ap (λ b. if b then v else s.regs (16 + n)) (same_flag n r) ∙ flags_by n (n == r) (here.same.flags n lt);
      fit = λ n. put_fit (16 + r) v (2 ^ 64) s.regs n (omega (arith, same, fits)) (here.same.fit n);
    };
    temps = λ t is_set. put_other (16 + r) v s.regs (21 + t) (λ e. absurd (omega (arith, e, low))) ∙ here.temps t is_set;
    constants = λ t n e. here.constants t n e;
  }
    where
      flags_by : (n : ℕ) (b : Bool) → s.regs (16 + n) ≡ i.flags n → (if b then v else s.regs (16 + n)) ≡ (if b then w else i.flags n)
      flags_by n true e = same
      flags_by n false e = e
