use Rattle.lift_alu.proofs.LockBuilding.{built_modifies}
use Rattle.lift_alu.proofs.builder.Builder.modify.Goals as goal

pub returns : goal.returns
returns c = λ rest.
    built_modifies c.args.self.now c.fresh.new.self c.push.new.self c.args.op c.args.at c.args.size c.args.address c.args.value rest
    c.in_ok-old.old
    c.in_ok-old.ensures.temp c.in_ok-old.ensures.next c.in_ok-push.ensures
