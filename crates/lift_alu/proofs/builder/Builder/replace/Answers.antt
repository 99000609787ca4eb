use Rattle.lift_alu.proofs.LockBuilding.{built_replaces}
use Rattle.lift_alu.proofs.builder.Builder.replace.Goals as goal

pub returns : goal.returns
returns c = λ rest.
    built_replaces c.args.self.now c.fresh.new.self c.push.new.self c.args.at c.args.size c.args.address c.args.expected c.args.value rest
    c.in_ok-old.old
    c.in_ok-old.ensures.temp c.in_ok-old.ensures.next c.in_ok-push.ensures
