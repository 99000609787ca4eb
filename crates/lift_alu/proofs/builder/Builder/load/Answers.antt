use Rattle.lift_alu.proofs.Building.{built_loads}
use Rattle.lift_alu.proofs.builder.Builder.load.Goals as goal

pub returns : goal.returns
returns g c = λ rest.
    built_loads c.args.self.now c.compute.new.builder c.fresh.new.self c.push.new.self (g.E.Compute.formula c.args.address) c.args.at c.args.size rest
    c.in_ok-address.address c.in_ok-loaded.loaded c.in_ok-address.ensures.place c.in_ok-address.ensures.steps c.in_ok-loaded.ensures.temp
    c.in_ok-loaded.ensures.next c.in_ok-push.ensures
