use Rattle.lift_alu.proofs.Building.{built_keeps}
use Rattle.lift_alu.proofs.builder.Builder.keep.Goals as goal

pub returns : goal.returns
returns g c = λ rest.
    built_keeps c.args.self.now c.compute.new.builder (g.E.Compute.formula c.args.formula) rest c.in_ok-kept.kept c.in_ok-kept.ensures.place c.in_ok-kept.ensures.steps
