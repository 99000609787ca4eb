-- The formulas of operands and conditions keep only what was set before.
use Rattle.std.proofs.Common.{ℕ, ◌-◌, ◌%◌, ◌==◌, Bool, true, false, Option, Some, None}
use Rattle.std.specs.Prelude.{if◌then◌else◌}
use Rattle.x64_syntax.specs.declared.operand.Mem.{Mem}
use Rattle.x64_syntax.specs.declared.operand.Reg.{Reg}
use Rattle.x64_syntax.specs.declared.operand.Width.{Width}
use Rattle.x64_syntax.specs.declared.operand.Width.TheVariants as width
use Rattle.lift_alu.specs.Formulas.{Formula, Register}
use Rattle.lift_alu.specs.Operands.{clean, with_sign, shifted_down, register_formula, byte_into, merged_formula, scaled, plus, base_part, with_index, with_displacement, displacement, address_formula}
use Rattle.lift_alu.specs.Flags.{even_formula, condition_formula}
use Rattle.lift_alu.proofs.Computed.{IsKeptBelow}

module _ (next : ℕ) where
  -- one of two formulas
  below_choice : (b : Bool) (x y : Formula) → IsKeptBelow next x → IsKeptBelow next y → IsKeptBelow next (if b then x else y)
  below_choice true x y first second = first
  below_choice false x y first second = second

  -- the low bits of a value
  pub below_clean : (w : Width) (e : Formula) → IsKeptBelow next e → IsKeptBelow next (clean w e)
  unfolding clean
  below_clean width.Byte e kept = (kept, tt)
  below_clean width.Word e kept = (kept, tt)
  below_clean width.Long e kept = (kept, tt)
  below_clean width.Quad e kept = kept

  -- a value with its sign
  pub below_with_sign : (w : Width) (e : Formula) → IsKeptBelow next e → IsKeptBelow next (with_sign w e)
  unfolding with_sign
  below_with_sign width.Byte e kept = (kept, tt)
  below_with_sign width.Word e kept = (kept, tt)
  below_with_sign width.Long e kept = (kept, tt)
  below_with_sign width.Quad e kept = kept

  -- a register from its second byte on
  below_shifted : (high : Bool) (r : ℕ) → IsKeptBelow next (shifted_down high (Register r))
  below_shifted true r = (tt, tt)
  below_shifted false r = tt

  -- what a register holds at a width
  pub below_register : (w : Width) (r : Reg) → IsKeptBelow next (register_formula w r)
  unfolding register_formula
  below_register w r = below_clean w (shifted_down r.high (Register r.number)) (below_shifted r.high r.number)

  -- a byte of a register
  below_byte : (high : Bool) (old e : Formula) → IsKeptBelow next old → IsKeptBelow next e → IsKeptBelow next (byte_into high old e)
  below_byte true old e first second = ((first, tt), (second, tt))
  below_byte false old e first second = ((first, tt), second)

  -- a register that gets a value
  pub below_merged : (w : Width) (high : Bool) (old e : Formula) → IsKeptBelow next old → IsKeptBelow next e → IsKeptBelow next (merged_formula w high old e)
  unfolding merged_formula
  below_merged width.Byte high old e first second = below_byte high old e first second
  below_merged width.Word high old e first second = ((first, tt), second)
  below_merged width.Long high old e first second = second
  below_merged width.Quad high old e first second = second

  -- a part of an address that there may be
  abbrev IsPartBelow : Option Formula → Type 0
  IsPartBelow None = Unit {0}
  IsPartBelow (Some e) = IsKeptBelow next e

  -- an index times its scale
  below_scaled : (index scale : ℕ) → IsKeptBelow next (scaled index scale)
  unfolding scaled
  below_scaled index scale = below_choice (scale == 1) _ _ tt (tt, tt)

  -- a sum with a part that there may be
  below_plus : (before : Option Formula) (e : Formula) → IsPartBelow before → IsKeptBelow next e → IsKeptBelow next (plus before e)
  below_plus None e first second = second
  below_plus (Some b) e first second = (first, second)

  -- base and index
  below_base : (base : Option ℕ) → IsPartBelow (base_part base)
  below_base None = tt
  below_base (Some number) = tt

  below_index : (index : Option ℕ) (scale : ℕ) (before : Option Formula) → IsPartBelow before → IsPartBelow (with_index index scale before)
  below_index None scale before kept = kept
  below_index (Some number) scale before kept = below_plus before (scaled number scale) kept (below_scaled number scale)

  -- and the offset
  below_displaced : (d : ℕ) (before : Option Formula) → IsPartBelow before → IsKeptBelow next (with_displacement d before)
  below_displaced d None kept = tt
  below_displaced d (Some e) kept = below_choice (d == 0) _ _ kept (kept, tt)

  -- the address of memory
  pub below_address : (m : Mem) (after : ℕ) → IsKeptBelow next (address_formula m after)
  unfolding address_formula
  below_address m after = below_displaced (displacement m after) (with_index m.index m.scale (base_part m.base)) (below_index m.index m.scale (base_part m.base) (below_base m.base))

  -- the condition of an even code
  below_even : (code : ℕ) → IsKeptBelow next (even_formula code)
  below_even code =
      below_choice (code == 0) _ _ tt (below_choice (code == 2) _ _ tt (below_choice (code == 4) _ _ tt (below_choice (code == 6) _ _ (tt, tt) (below_choice (code == 8) _ _ tt
      (below_choice (code == 12) _ _ (tt, tt) (tt, (tt, tt)))))))

  -- a condition
  pub below_condition : (code : ℕ) → IsKeptBelow next (condition_formula code)
  unfolding condition_formula
  below_condition code = below_choice (code % 2 == 1) _ _ (below_even (code - 1), tt) (below_even code)
