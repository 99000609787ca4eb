-- A word over other registers does what the word does.
use Rattle.std.proofs.Common.{◌≡◌, ℕ, ◌==◌, Bool, true, false, Some, None, refl, sym, ap}
use Rattle.std.specs.Prelude.{if◌then◌else◌}
use Rattle.std.specs.Option.{option_map}
use Rattle.behavior.specs.Acts.{Permission}
use Rattle.a64_code.specs.declared.instr.XReg.{XReg}
use Rattle.a64_code.specs.declared.instr.A64.{A64}
use Rattle.a64_code.specs.declared.instr.A64.TheVariants.{Svc}
use Rattle.a64_table.specs.declared.state.Nzcv.{Nzcv}
use Rattle.a64_table.specs.State.{xregs}
use Rattle.a64_table.specs.Rows.{calls, a64_row, a64_result}
use Rattle.a64_block.specs.Registers.{numbers}
use Rattle.a64_block.specs.Renamed.{renamed}

module _ (g : ℕ → XReg) (seventh : g 7 ≡ record { number = 7 }) (first : g 0 ≡ record { number = 0 }) where
  -- a word over other registers does what the word does on the values that those hold
  pub row-renamed : (may : Permission) (place : ℕ) (w : A64 ℕ) (r : XReg → ℕ) (f : Nzcv)
      → a64_row xregs may place (renamed g w) r f ≡ a64_row numbers may place w (λ n. r (g n)) f
  row-renamed may place (Svc number) r f = ap (λ x. calls number place (r x) f) (sym seventh)
  row-renamed may place w r f = refl

  svc_result : (b : Bool) → (if b then Some (xregs.register 0) else None) ≡ option_map g (if b then Some 0 else None)
  svc_result true = ap Some (sym first)
  svc_result false = refl

  -- it sets the register of the number that the word sets
  pub result-renamed : (w : A64 ℕ) → a64_result xregs (renamed g w) ≡ option_map g (a64_result numbers w)
  result-renamed (Svc number) = svc_result (number == 1)
  result-renamed w = refl
