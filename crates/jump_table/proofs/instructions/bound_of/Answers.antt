use Rattle.std.proofs.Common.{◌≡◌, ℕ}
use Rattle.x64_syntax.specs.declared.operand.Width.TheVariants as width
use Rattle.jump_table.specs.Instructions.{compare}
use Rattle.jump_table.proofs.StepLemmas.{finds_none}
use Rattle.jump_table.proofs.instructions.bound_of.Goals as goal

pub returns-in_err-found : goal.returns-in_err-found
returns-in_err-found c =
    finds_none (λ (number : ℕ). c.args.instr.now ≡ compare width.Long c.args.register number) c.from_residual.result c.from_residual.ensures
    (λ number is. c.in_err-found.ensures (record { width = width.Long; register = c.args.register; bound = number }) is)
