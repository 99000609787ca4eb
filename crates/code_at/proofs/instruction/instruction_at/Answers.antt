use Rattle.std.proofs.Common.{◌≡◌, ◌+◌, ◌∙◌, ap, ◌↔◌, Bool, false, IsTrue, sym, subst, take}
use Rattle.x64_decode.specs.Spelling.{Answers}
use Rattle.code_at.specs.Code.{IsBad, program_of, flow_of}
use Rattle.code_at.proofs.Told.{told_instruction, told_fault}
use Rattle.code_at.proofs.instruction.instruction_at.Goals as goal

unlisted : {P : Type 0} {b : Bool} → b ≡ false → IsTrue b ↔ P → P → ⊥
unlisted {P} {b} no_it is holds = let told : IsTrue b = is.1 holds in absurd (cc)

pub returns-in-Ok : goal.returns-in-Ok
returns-in-Ok c =
    told_instruction (program_of c.args.elf.now) c.args.address c.as_slice.result.now c.in-Ok.instr c.in-Ok.length c.flow_of.result (c.as_slice.ensures ∙ c.in-Some.ensures.shown)
    (subst (λ r. Answers (take 15 c.as_slice.result.now) r) c.in-Ok.is c.decode_one.ensures.exact) (unlisted c.if-is_listed.false c.is_listed.ensures)
    (c.flow_of.ensures ∙ ap (λ n. flow_of (program_of c.args.elf.now) (c.args.address + n) c.in-Ok.instr) c.from.ensures)

pub returns-in-Err : goal.returns-in-Err
returns-in-Err c =
    subst (λ kind. IsBad (program_of c.args.elf.now) c.args.address kind) (sym c.kind_of.ensures)
    (told_fault (program_of c.args.elf.now) c.args.address c.as_slice.result.now c.in-Err.fault (c.as_slice.ensures ∙ c.in-Some.ensures.shown)
    (subst (λ r. Answers (take 15 c.as_slice.result.now) r) c.in-Err.is c.decode_one.ensures.exact) (unlisted c.if-is_listed.false c.is_listed.ensures) c.in-Some.ensures.inside)
