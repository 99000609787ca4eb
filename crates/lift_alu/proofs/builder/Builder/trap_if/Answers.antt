use Rattle.limm_ir.specs.declared.step.IrStep.TheVariants as steps
use Rattle.lift_alu.specs.Quotients.{traps_if}
use Rattle.lift_alu.proofs.Building.{built_then}
use Rattle.lift_alu.proofs.builder.Builder.trap_if.Goals as goal

pub returns : goal.returns
unfolding traps_if
returns g c = λ rest.
    built_then c.args.self.now c.compute.new.builder c.push.new.self (g.E.Compute.formula c.args.formula) (λ u. steps.TrapIf u c.args.kind) rest c.in_ok-value.value
    c.in_ok-value.ensures.place c.in_ok-value.ensures.steps c.in_ok-push.ensures
