use Rattle.lift_alu.proofs.Building.{built_sets_register}
use Rattle.lift_alu.proofs.builder.Builder.set_register.Goals as goal

pub returns : goal.returns
returns g c = λ rest.
    built_sets_register c.args.self.now c.compute.new.builder c.push.new.self (g.E.Compute.formula c.args.formula) c.args.register rest c.in_ok-value.value
    c.in_ok-value.ensures.place c.in_ok-value.ensures.steps c.in_ok-push.ensures
