-- What stands at an address on the way to a table jump.
use Rattle.std.proofs.Common.{◌≡◌, ◌↔◌, ℕ, ◌+◌, ℤ, pos, Bool, false, IsTrue, Option, None, refl, sym, ap, ◌∙◌, subst}
use Rattle.std.specs.Int.{cast_unsigned, w64}
use Rattle.x64_syntax.specs.declared.instr.Instr.{Instr}
use Rattle.x64_syntax.specs.declared.instr.Instr.TheVariants as instr
use Rattle.x64_syntax.specs.declared.operand.Operand.TheVariants as operand
use Rattle.x64_syntax.specs.declared.placed.Placed.{Placed}
use Rattle.code_at.specs.Code.{Program}
use Rattle.code_at.proofs.CallerLemmas.{one_instruction}
use Rattle.jump_table.specs.Instructions.{Stands, above, jump_through}
use Rattle.jump_table.specs.Pattern.{Jumps}
use Rattle.jump_table.specs.Steps.{Finds, GoesThrough, GoesAbove}

-- nothing is found where there is none
pub finds_none : {A : Type 0} (P : A → Type 0) (o : Option A) → o ≡ None → ((x : A) → P x → ⊥) → Finds P o
finds_none P o is none = subst (Finds P) (sym is) none

-- a test that fails refutes what it tests
pub refuted : {P : Type 0} {b : Bool} → b ≡ false → IsTrue b ↔ P → P → ⊥
refuted {P} {b} no_it is holds = let told : IsTrue b = is.1 holds in absurd (cc)

-- one instruction stands at an address, and it ends once
pub one_step : (program : Program) (address : ℕ) (i j : Instr) (end other : ℕ) → Stands program address i end
    → Stands program address j other → (i ≡ j) × (end ≡ other)
one_step program address i j end other one two =
    let same = one_instruction program address one.placed two.placed one.stands two.stands in (
      sym one.is ∙ ap (λ (p : Placed). p.instr) same ∙ two.is,
      sym one.ends ∙ ap (λ (p : Placed). address + p.length) same ∙ two.ends,
    )

offset_in : Instr → ℤ
offset_in (instr.JmpInd (operand.Mem m)) = m.offset
offset_in i = pos 0

-- jumps with the same index have the same offset
same_offset : (r : ℕ) (o p : ℤ) → jump_through r o ≡ jump_through r p → o ≡ p
unfolding offset_in
same_offset r o p same = ap offset_in same

-- the jump that stands at an address has one table
pub one_base : (program : Program) (address : ℕ) (i : Instr) (end r n base found : ℕ) → Stands program address i end
    → Jumps program address r n base → GoesThrough i r found
    → base ≡ found
one_base program address i end r n base found stands jumps goes =
    let same = one_step program address i (jump_through r jumps.offset) end jumps.end stands jumps.stands in
    jumps.is ∙ ap (cast_unsigned w64) (sym (same_offset r goes.offset jumps.offset (sym goes.is ∙ same.0))) ∙ sym goes.displaced

-- and so has a jump
pub same_base : (program : Program) (address r n base other : ℕ) → Jumps program address r n base → Jumps program address r n other
    → base ≡ other
same_base program address r n base other one two =
    one_base program address (jump_through r two.offset) two.end r n base other two.stands one
    (record { offset = two.offset; is = refl; displaced = two.is })

-- a ja ends once
pub one_end : (program : Program) (address end other : ℕ) → GoesAbove program address end → GoesAbove program address other → end ≡ other
one_end program address end other one two = (one_step program address (above one.displacement) (above two.displacement) end other
    one.stands two.stands).1

-- and leads to one address
pub one_displacement : (program : Program) (address end other d e : ℕ) → Stands program address (above d) end
    → Stands program address (above e) other → d ≡ e
one_displacement program address end other d e one two = let same : above d ≡ above e =
    (one_step program address (above d) (above e) end other one two).0 in cc same
