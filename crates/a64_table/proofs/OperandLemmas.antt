-- A word does the same in two states that hold the same in its operands.
use Rattle.std.proofs.Common.{◌≡◌, ℕ, ◌+◌, ◌*◌, ◌%◌, ◌^◌, ◌==◌, not, List, refl, ap}
use Rattle.std.specs.List.{AllByRecursion}
use mathlib.Core.Path.{fun_ext, ap₂}
use Rattle.behavior.specs.Acts.{Permission, reads, writes, exchanges}
use Rattle.a64_code.specs.declared.instr.A64.{A64}
use Rattle.a64_code.specs.declared.instr.A64.TheVariants.{Add, Sub, Subs, And, Orr, Eor, AddImm, SubImm, Movz, Movk, Movn, Lslv, Lsrv, Asrv, Rorv, Udiv, Sdiv, Madd, Msub, Smulh, Umulh, Ubfm, Sbfm, Csel, Csinc, Cbz, Cbnz, Ldr, Str, Cas, Swp, Ldadd, Ldclr, Ldeor, Ldset, Svc}
use Rattle.a64_table.specs.declared.state.Nzcv.{Nzcv}
use Rattle.a64_table.specs.State.{Names}
use Rattle.a64_table.specs.Values.{low, shifted, a64_value}
use Rattle.a64_table.specs.Rows.{gets, branches, compares, calls, computes_or, a64_written, a64_act, a64_row, a64_operands}

-- two ways to read registers agree on these
abbrev pub AgreeOn : {R : Type 0} → (r r' : R → ℕ) → List R → Type 0
AgreeOn r r' xs = AllByRecursion (λ x. r x ≡ r' x) xs

module _ {R : Type 0} (names : Names R) (f : Nzcv) (r r' : R → ℕ) where
  value_same : (w : A64 R) → AgreeOn r r' (a64_operands names w) → a64_value w r f ≡ a64_value w r' f
  value_same (Add x d n m kind amount) (same, (same', none)) = cc
  value_same (Sub x d n m kind amount) (same, (same', none)) = cc
  value_same (And x d n m kind amount) (same, (same', none)) = cc
  value_same (Orr x d n m kind amount) (same, (same', none)) = cc
  value_same (Eor x d n m kind amount) (same, (same', none)) = cc
  value_same (AddImm x d n number) (same, none) = cc
  value_same (SubImm x d n number) (same, none) = cc
  value_same (Movz x d v quarter) same = refl
  value_same (Movk x d v quarter) (same, none) = cc
  value_same (Movn x d v quarter) same = refl
  value_same (Lslv x d n m) (same, (same', none)) = cc
  value_same (Lsrv x d n m) (same, (same', none)) = cc
  value_same (Asrv x d n m) (same, (same', none)) = cc
  value_same (Rorv x d n m) (same, (same', none)) = cc
  value_same (Udiv x d n m) (same, (same', none)) = cc
  value_same (Sdiv x d n m) (same, (same', none)) = cc
  value_same (Madd x d n m a) (same, (same', (same_third, none))) = cc
  value_same (Msub x d n m a) (same, (same', (same_third, none))) = cc
  value_same (Smulh d n m) (same, (same', none)) = cc
  value_same (Umulh d n m) (same, (same', none)) = cc
  value_same (Ubfm x d n immr imms) (same, none) = cc
  value_same (Sbfm x d n immr imms) (same, none) = cc
  value_same (Csel x d n m code) (same, (same', none)) = cc
  value_same (Csinc x d n m code) (same, (same', none)) = cc
  value_same w same = refl

  -- what an atomic word writes
  exchange_same : (may : Permission) (place size : ℕ) (w : A64 R) (n : R) → r n ≡ r' n → ((old : ℕ) → a64_written w r old ≡ a64_written w r' old)
      → exchanges may place (r n) size (a64_written w r) (λ old. gets old f) ≡ exchanges may place (r' n) size (a64_written w r') (λ old. gets old f)
  exchange_same may place size w n base written =
      ap₂ (λ address new. exchanges may place address size new (λ old. gets old f)) base (fun_ext written)

  act_same : (may : Permission) (place : ℕ) (w : A64 R) → AgreeOn r r' (a64_operands names w) → a64_act names may place w r f ≡ a64_act names may place w r' f
  act_same may place (Subs x d n m kind amount) (same, (same', none)) = ap₂ (λ a b. compares x (low x a) (shifted x kind amount b)) same same'
  act_same may place (Cbz x t distance) (same, none) = ap (λ a. branches (low x a == 0) distance f) same
  act_same may place (Cbnz x t distance) (same, none) = ap (λ a. branches (not (low x a == 0)) distance f) same
  act_same may place (Ldr size t n number) (same, none) = ap (λ a. reads may place ((a + number * size) % 2 ^ 64) size (λ v. gets v f)) same
  act_same may place (Str size t n number) (same, (same', none)) = ap₂ (λ b a. writes may place ((a + number * size) % 2 ^ 64) size b (gets 0 f)) same same'
  act_same may place (Cas size s t n) (same, (same', (base, none))) = exchange_same may place size (Cas size s t n) n base (λ old. cc)
  act_same may place (Swp size s t n) (same, (base, none)) = exchange_same may place size (Swp size s t n) n base (λ old. cc)
  act_same may place (Ldadd size s t n) (same, (base, none)) = exchange_same may place size (Ldadd size s t n) n base (λ old. cc)
  act_same may place (Ldclr size s t n) (same, (base, none)) = exchange_same may place size (Ldclr size s t n) n base (λ old. cc)
  act_same may place (Ldeor size s t n) (same, (base, none)) = exchange_same may place size (Ldeor size s t n) n base (λ old. cc)
  act_same may place (Ldset size s t n) (same, (base, none)) = exchange_same may place size (Ldset size s t n) n base (λ old. cc)
  act_same may place (Svc number) (same, none) = ap (λ a. calls number place a f) same
  act_same may place w same = refl

  pub row_same : (may : Permission) (place : ℕ) (w : A64 R) → AgreeOn r r' (a64_operands names w) → a64_row names may place w r f ≡ a64_row names may place w r' f
  row_same may place w same = ap₂ (λ computed act. computes_or computed f act) (value_same w same) (act_same may place w same)
