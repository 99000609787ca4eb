-- A block over other registers can be laid out where one over some registers can.
use Rattle.std.proofs.Common.{◌≡◌, ◌≢◌, inl, inr, ℕ, suc, ◌≤◌, List, [], ◌∷◌, map, length, refl, ap, ◌∙◌, subst, arith}
use Rattle.std.specs.List.{AllByRecursion}
use Rattle.std.proofs.lemmas.Bool.{cases_eq}
use Rattle.std.proofs.lemmas.Bool.Decides.{nat_tests}
use Rattle.a64_code.specs.declared.instr.XReg.{XReg}
use Rattle.a64_code.specs.declared.instr.A64.{A64}
use Rattle.a64_code.specs.declared.instr.A64.TheVariants.{Add, Sub, Subs, And, Orr, Eor, AddImm, SubImm, Movz, Movk, Movn, Lslv, Lsrv, Asrv, Rorv, Udiv, Sdiv, Madd, Msub, Smulh, Umulh, Ubfm, Sbfm, Csel, Csinc, B, Cbz, Cbnz, Ldr, Str, Cas, Swp, Ldadd, Ldclr, Ldeor, Ldset}
use Rattle.a64_code.specs.Ranges.{IsRegister, IsOperand, IsEncodable}
use Rattle.a64_table.specs.Rows.{IsForward}
use Rattle.a64_block.specs.Renamed.{renamed, renamed_end}
use Rattle.a64_block.specs.Conditions.{a64_skip, StaysInside, some_register, EndsOnRegisters, IsLayable}
use Rattle.a64_block.specs.declared.block.AEnd.{AEnd}
use Rattle.a64_block.specs.declared.block.AEnd.TheVariants as ends

-- each number but the one that reads as 0 has a register, and that one has the zero register
pub record IsFitting (g : ℕ → XReg) : Type 0 where
  pub registers : (n : ℕ) → n ≢ 20 → IsRegister (g n)
  pub none : (g 20).number ≡ 31

module _ (g : ℕ → XReg) (fitting : IsFitting g) where
  -- what can be a register is not the number that reads as 0
  some_other : (n : ℕ) → IsRegister (some_register n) → n ≢ 20
  some_other n (low, other) = grind (arith, nat_tests)

  -- registers stay registers, and operands operands
  register : (n : ℕ) → IsRegister (some_register n) → IsRegister (g n)
  register n is = fitting.registers n (some_other n is)

  operand : (n : ℕ) → IsOperand (some_register n) → IsOperand (g n)
  operand n is = elim (cases_eq n 20) [ inl same ↦ inr (ap (λ k. (g k).number) same ∙ fitting.none) | inr other ↦ inl (fitting.registers n other) ]

  -- a word that can be encoded with some registers can be with these
  encodable : (w : A64 ℕ) → IsEncodable (renamed some_register w) → IsEncodable (renamed g w)
  encodable (Add x d n m kind amount) (a, b, c, rest) = (register d a, operand n b, operand m c, rest)
  encodable (Sub x d n m kind amount) (a, b, c, rest) = (register d a, operand n b, operand m c, rest)
  encodable (Subs x d n m kind amount) (a, b, c, rest) = (operand d a, operand n b, operand m c, rest)
  encodable (And x d n m kind amount) (a, b, c, rest) = (register d a, operand n b, operand m c, rest)
  encodable (Orr x d n m kind amount) (a, b, c, rest) = (register d a, operand n b, operand m c, rest)
  encodable (Eor x d n m kind amount) (a, b, c, rest) = (register d a, operand n b, operand m c, rest)
  encodable (AddImm x d n number) (a, b, rest) = (register d a, register n b, rest)
  encodable (SubImm x d n number) (a, b, rest) = (register d a, register n b, rest)
  encodable (Movz x d v quarter) (a, rest) = (register d a, rest)
  encodable (Movk x d v quarter) (a, rest) = (register d a, rest)
  encodable (Movn x d v quarter) (a, rest) = (register d a, rest)
  encodable (Lslv x d n m) (a, b, c) = (register d a, operand n b, operand m c)
  encodable (Lsrv x d n m) (a, b, c) = (register d a, operand n b, operand m c)
  encodable (Asrv x d n m) (a, b, c) = (register d a, operand n b, operand m c)
  encodable (Rorv x d n m) (a, b, c) = (register d a, operand n b, operand m c)
  encodable (Udiv x d n m) (a, b, c) = (register d a, operand n b, operand m c)
  encodable (Sdiv x d n m) (a, b, c) = (register d a, operand n b, operand m c)
  encodable (Madd x d n m k) (a, b, c, e) = (register d a, operand n b, operand m c, register k e)
  encodable (Msub x d n m k) (a, b, c, e) = (register d a, operand n b, operand m c, register k e)
  encodable (Smulh d n m) (a, b, c) = (register d a, operand n b, operand m c)
  encodable (Umulh d n m) (a, b, c) = (register d a, operand n b, operand m c)
  encodable (Ubfm x d n immr imms) (a, b, c, e) = (register d a, register n b, c, e)
  encodable (Sbfm x d n immr imms) (a, b, c, e) = (register d a, register n b, c, e)
  encodable (Csel x d n m code) (a, b, c, rest) = (register d a, operand n b, operand m c, rest)
  encodable (Csinc x d n m code) (a, b, c, rest) = (register d a, operand n b, operand m c, rest)
  encodable (Cbz x t distance) (a, rest) = (register t a, rest)
  encodable (Cbnz x t distance) (a, rest) = (register t a, rest)
  encodable (Ldr size t n number) (a, b, c, rest) = (a, register t b, register n c, rest)
  encodable (Str size t n number) (a, b, c, rest) = (a, operand t b, register n c, rest)
  encodable (Cas size s t n) (a, b, c, e) = (a, register s b, register t c, register n e)
  encodable (Swp size s t n) (a, b, c, e) = (a, register s b, register t c, register n e)
  encodable (Ldadd size s t n) (a, b, c, e) = (a, register s b, register t c, register n e)
  encodable (Ldclr size s t n) (a, b, c, e) = (a, register s b, register t c, register n e)
  encodable (Ldeor size s t n) (a, b, c, e) = (a, register s b, register t c, register n e)
  encodable (Ldset size s t n) (a, b, c, e) = (a, register s b, register t c, register n e)
  encodable w same = same

  all_encodable : (ws : List (A64 ℕ)) → AllByRecursion IsEncodable (map (renamed some_register) ws) → AllByRecursion IsEncodable (map (renamed g) ws)
  all_encodable [] all = tt
  all_encodable (w ∷ ws) (here, rest) = (encodable w here, all_encodable ws rest)

  -- branches are the same
  forward : (w : A64 ℕ) → IsForward (renamed some_register w) → IsForward (renamed g w)
  forward (B distance) same = same
  forward w same = same

  all_forward : (ws : List (A64 ℕ)) → AllByRecursion IsForward (map (renamed some_register) ws) → AllByRecursion IsForward (map (renamed g) ws)
  all_forward [] all = tt
  all_forward (w ∷ ws) (here, rest) = (forward w here, all_forward ws rest)

  skip_same : (w : A64 ℕ) → a64_skip (renamed some_register w) ≡ a64_skip (renamed g w)
  skip_same (B distance) = refl
  skip_same w = refl

  length_same : (ws : List (A64 ℕ)) → length (map (renamed some_register) ws) ≡ length (map (renamed g) ws)
  length_same [] = refl
  length_same (w ∷ ws) = ap suc (length_same ws)

  inside : (ws : List (A64 ℕ)) → StaysInside (map (renamed some_register) ws) → StaysInside (map (renamed g) ws)
  inside [] all = tt
  inside (w ∷ ws) (here, rest) = (subst (λ k. k ≤ length (map (renamed g) ws)) (skip_same w) (subst (λ k. a64_skip (renamed some_register w) ≤ k) (length_same ws) here), inside ws rest)

  ends_fit : (end : AEnd ℕ) → EndsOnRegisters (renamed_end some_register end) → EndsOnRegisters (renamed_end g end)
  ends_fit (ends.Goto a) all = tt
  ends_fit (ends.Branch r a b) (here, rest) = (register r here, tt)
  ends_fit (ends.Return r) (here, rest) = (register r here, tt)
  ends_fit (ends.Indexed r table) (here, rest) = (register r here, tt)
  ends_fit (ends.Stop kind) all = tt

  -- a block that can be laid out with some registers can be with these
  pub layable : (ws : List (A64 ℕ)) (end : AEnd ℕ) → IsLayable (map (renamed some_register) ws) (renamed_end some_register end) → IsLayable (map (renamed g) ws) (renamed_end g end)
  layable ws end some = record {
    encodable = all_encodable ws some.encodable;
    ends = ends_fit end some.ends;
    forward = all_forward ws some.forward;
    inside = inside ws some.inside;
  }
