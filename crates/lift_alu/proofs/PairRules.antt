-- What the steps do that set CF and OF to one value, and ZF and SF to another.
use Rattle.std.proofs.Common.{◌≡◌, ℕ, Bool, false, refl}
use Rattle.word_arith.specs.Bits.{bit}
use Rattle.alu_width.specs.declared.flags.Flags.{Flags}
use Rattle.behavior.specs.Tree.{Tree, Next}
use Rattle.behavior.specs.Acts.{Permission}
use Rattle.behavior.specs.Leaving.{Left}
use Rattle.x64_table.specs.State.{Thread, with_flags}
use Rattle.limm_ir.specs.Steps.{IrState}
use Rattle.limm_ir.specs.declared.block.IrEnd.{IrEnd}
use Rattle.lift_alu.specs.Formulas.{Formula, Kept, Number, value, Lifting, keeps, sets_flag}
use Rattle.lift_alu.specs.Flags.{CF, ZF, SF, OF}
use Rattle.lift_alu.specs.Products.{sets_pairs, sets_over}
use Rattle.lift_alu.specs.Meant.{SameThread}
use Rattle.lift_alu.proofs.Computed.{IsKeptBelow}
use Rattle.lift_alu.proofs.Rules.{Holds, holds_later, later_then, with_of, with_zf, with_sf, same_of, same_zf, same_sf, same_cf, Does}
use Rattle.lift_alu.proofs.Rules.{Later, keeps_does, sets_flag_does}

-- the four flags, of which CF and OF are one and ZF and SF another
abbrev pub pairs : (over other : Bool) → Flags
pairs over other = record { cf = over; zf = other; sf = other; of = over }

module _ (may : Permission) (end : IrEnd) where
  -- all four flags are set from two values that are kept
  pub sets_pairs_does : (q : Tree (Next (Left Thread))) (s : Thread) (next : ℕ) (i : IrState) (ko kz : ℕ) (over other : Bool)
      (rest : Lifting) → SameThread s i
      → Holds next i ko (bit over) → Holds next i kz (bit other) → Later may end q (with_flags (pairs over other) s) next i rest
      → Does may end q (sets_pairs (Kept ko) (Kept kz) rest next) i
  unfolding sets_pairs
  sets_pairs_does q s next i ko kz over other rest same first second go =
      let s1 = with_of over s in
      let s2 = with_zf other s1 in
      let s3 = with_sf other s2 in
      let last = sets_flag CF (Kept ko) rest in
      let third = sets_flag SF (Kept kz) last in
      sets_flag_does may end q s s1 next i OF (Kept ko) (bit over) (sets_flag ZF (Kept kz) third) same first.below first.is
      (λ j same. same_of s j over (bit over) refl same)
      (λ n1 i1 same1 later1.
      let here1 = holds_later later1 second in
      sets_flag_does may end q s1 s2 n1 i1 ZF (Kept kz) (bit other) third same1 here1.below here1.is
      (λ j same. same_zf s1 j other (bit other) refl same)
      (λ n2 i2 same2 later2.
      let here2 = holds_later (later_then later1 later2) second in
      sets_flag_does may end q s2 s3 n2 i2 SF (Kept kz) (bit other) last same2 here2.below here2.is
      (λ j same. same_sf s2 j other (bit other) refl same)
      (λ n3 i3 same3 later3.
      let later = later_then (later_then later1 later2) later3 in
      let here3 = holds_later later first in
      sets_flag_does may end q s3 (with_flags (pairs over other) s) n3 i3 CF (Kept ko) (bit over) rest same3 here3.below here3.is
      (λ j same. same_cf s3 j over (bit over) refl same)
      (λ n4 i4 same4 later4. go n4 i4 same4 (later_then later later4)))))

  -- the flags of a product
  pub sets_over_does : (q : Tree (Next (Left Thread))) (s : Thread) (next : ℕ) (i : IrState) (e : Formula) (over : Bool) (rest : Lifting)
      → SameThread s i
      → IsKeptBelow next e → value i e ≡ bit over → Later may end q (with_flags (pairs over false) s) next i rest
      → Does may end q (sets_over e rest next) i
  unfolding sets_over
  sets_over_does q s next i e over rest same kept is go =
      keeps_does may end q s next i e (bit over) (λ o. keeps (Number 0) (λ zero. sets_pairs o zero rest)) same kept is
      (λ ko n1 i1 same1 later1 first.
      keeps_does may end q s n1 i1 (Number 0) 0 (λ zero. sets_pairs (Kept ko) zero rest) same1 tt refl
      (λ kz n2 i2 same2 later2 second.
      sets_pairs_does q s n2 i2 ko kz over false rest same2 (holds_later later2 first) second
      (λ n3 i3 same3 later3. go n3 i3 same3 (later_then (later_then later1 later2) later3))))
