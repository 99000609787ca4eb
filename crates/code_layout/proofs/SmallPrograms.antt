-- The small programs of the tests can be laid out.
use Rattle.std.proofs.Common.{◌≡◌, ◌≢◌, ℕ, ◌<◌, true, List, [], ◌∷◌, refl, sym, ap, ◌∙◌, subst, arith, inr}
use Rattle.std.specs.List.{AllByRecursion}
use Rattle.ev_graph.specs.declared.events.TrapKind.TheVariants.{Invalid, BadAccess}
use Rattle.a64_code.specs.declared.instr.XReg.{XReg}
use Rattle.a64_code.specs.declared.instr.A64.TheVariants as words
use Rattle.a64_code.specs.Ranges.{IsRegister}
use Rattle.a64_block.specs.Conditions.{end_operands, IsLayable}
use Rattle.a64_block.specs.declared.block.AEnd.{AEnd}
use Rattle.a64_block.specs.declared.block.AEnd.TheVariants as ends
use Rattle.a64_block.specs.declared.block.ABlock.{ABlock}
use Rattle.code_layout.specs.Conditions.{AreClosed, AreBegun}
use Rattle.code_layout.specs.Code.{x}
use Rattle.code_layout.proofs.Literals.{begun_of, closed_of}

register : (n : ℕ) → n < 29 → n ≢ 18 → IsRegister (x n)
register n low other = (low, other)

-- an end that reads no register, behind no step
bare : (fin : AEnd XReg) → AllByRecursion IsRegister (end_operands fin) → IsLayable [] fin
bare fin registers = record { encodable = tt; ends = registers; forward = tt; inside = tt }

not_access : Invalid ≢ BadAccess
not_access e = cc

-- ---- a loop

abbrev loop_before : ABlock XReg
loop_before = record { first = 0x401000; steps = words.Movz true (x 0) 3 0 ∷ []; end = ends.Goto 0x401005 }

abbrev loop_again : ABlock XReg
loop_again = record { first = 0x401005; steps = words.SubImm true (x 0) (x 0) 1 ∷ []; end = ends.Branch (x 0) 0x401005 0x40100A }

abbrev loop_behind : ABlock XReg
loop_behind = record { first = 0x40100A; steps = words.DmbLd ∷ []; end = ends.Stop Invalid }

abbrev loop_list : List (ABlock XReg)
loop_list = loop_before ∷ loop_again ∷ loop_behind ∷ []

x_0 : IsRegister (x 0)
x_0 = register 0 (omega arith) (λ e. absurd (omega (arith, e)))

loop_closed : AreClosed loop_list
loop_closed = closed_of loop_list (
  record { encodable = ((x_0, (omega arith, omega arith)), tt); ends = tt; forward = (tt, tt); inside = (omega arith, tt) },
  (
    record { encodable = ((x_0, x_0, omega arith), tt); ends = (x_0, tt); forward = (tt, tt); inside = (omega arith, tt) },
    (record { encodable = (tt, tt); ends = tt; forward = (tt, tt); inside = (omega arith, tt) }, tt),
  ),
)
    ((loop_again, (1, refl), refl), (((loop_again, (1, refl), refl), (loop_behind, (2, refl), refl)), (not_access, tt)))
    ((omega arith, (omega arith, tt)), ((omega arith, tt), (tt, tt)))

pub loop_is_closed : (before again behind : ABlock XReg) (items : List (ABlock XReg)) → before ≡ loop_before → again ≡ loop_again → behind ≡ loop_behind → items ≡ before ∷ again ∷ behind ∷ []
    → AreClosed items
loop_is_closed before again behind items one two three all =
    subst AreClosed (sym (all ∙ ap (λ (b : ABlock XReg). b ∷ again ∷ behind ∷ []) one ∙ ap (λ (b : ABlock XReg). loop_before ∷ b ∷ behind ∷ []) two ∙ ap
    (λ (b : ABlock XReg). loop_before ∷ loop_again ∷ b ∷ []) three)) loop_closed

-- ---- two calls of a function

abbrev call_first : ABlock XReg
call_first = record { first = 0x401000; steps = []; end = ends.Goto 0x401020 }

abbrev call_second : ABlock XReg
call_second = record { first = 0x401005; steps = []; end = ends.Goto 0x401020 }

abbrev call_last : ABlock XReg
call_last = record { first = 0x40100A; steps = []; end = ends.Stop Invalid }

abbrev call_called : ABlock XReg
call_called = record { first = 0x401020; steps = words.Ldr 8 (x 23) (x 4) 0 ∷ []; end = ends.Return (x 23) }

abbrev call_list : List (ABlock XReg)
call_list = call_first ∷ call_second ∷ call_last ∷ call_called ∷ []

x_4 : IsRegister (x 4)
x_4 = register 4 (omega arith) (λ e. absurd (omega (arith, e)))

x_23 : IsRegister (x 23)
x_23 = register 23 (omega arith) (λ e. absurd (omega (arith, e)))

call_closed : AreClosed call_list
call_closed = closed_of call_list (
  bare (ends.Goto 0x401020) tt,
  (
    bare (ends.Goto 0x401020) tt,
    (
      bare (ends.Stop Invalid) tt,
      (record { encodable = ((inr (inr (inr refl)), x_23, x_4, omega arith), tt); ends = (x_23, tt); forward = (tt, tt); inside = (omega arith, tt) }, tt),
    ),
  ),
)
    ((call_called, (3, refl), refl), ((call_called, (3, refl), refl), (not_access, (tt, tt))))
    ((omega arith, (omega arith, (omega arith, tt))), ((omega arith, (omega arith, tt)), ((omega arith, tt), (tt, tt))))

call_begun : AreBegun call_list (0x401005 ∷ 0x40100A ∷ [])
call_begun = begun_of call_list (0x401005 ∷ 0x40100A ∷ []) ((call_second, (1, refl), refl), ((call_last, (2, refl), refl), tt))

module _ (first second last called : ABlock XReg) (items : List (ABlock XReg)) (one : first ≡ call_first) (two : second ≡ call_second) (three : last ≡ call_last) (four : called ≡ call_called)
    (all : items ≡ first ∷ second ∷ last ∷ called ∷ []) where
  call_is : items ≡ call_list
  call_is =
      all ∙ ap (λ (b : ABlock XReg). b ∷ second ∷ last ∷ called ∷ []) one ∙ ap (λ (b : ABlock XReg). call_first ∷ b ∷ last ∷ called ∷ []) two
      ∙ ap (λ (b : ABlock XReg). call_first ∷ call_second ∷ b ∷ called ∷ []) three ∙ ap (λ (b : ABlock XReg). call_first ∷ call_second ∷ call_last ∷ b ∷ []) four

  pub call_is_closed : AreClosed items
  call_is_closed = subst AreClosed (sym call_is) call_closed

  pub call_is_begun : AreBegun items (0x401005 ∷ 0x40100A ∷ [])
  call_is_begun = subst (λ (l : List (ABlock XReg)). AreBegun l (0x401005 ∷ 0x40100A ∷ [])) (sym call_is) call_begun

-- ---- blocks that stop

pub stop_is_begun : (divides invalid returns jumps : ABlock XReg) (items : List (ABlock XReg)) → divides.first ≡ 0x401000 → invalid.first ≡ 0x401001 → jumps.first ≡ 0x7FFF12345678
    → items ≡ divides ∷ invalid ∷ returns ∷ jumps ∷ [] → AreBegun items (0x401000 ∷ 0x401001 ∷ 0x7FFF12345678 ∷ [])
stop_is_begun divides invalid returns jumps items one two four all =
    subst (λ (l : List (ABlock XReg)). AreBegun l (0x401000 ∷ 0x401001 ∷ 0x7FFF12345678 ∷ [])) (sym all)
    (begun_of (divides ∷ invalid ∷ returns ∷ jumps ∷ []) (0x401000 ∷ 0x401001 ∷ 0x7FFF12345678 ∷ []) ((divides, (0, refl), one), ((invalid, (1, refl), two), ((jumps, (3, refl), four), tt))))
