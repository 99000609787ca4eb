use Rattle.lift_alu.proofs.Building.{built_stores}
use Rattle.lift_alu.proofs.builder.Builder.store.Goals as goal

pub returns : goal.returns
returns c = λ rest. built_stores c.args.self.now c.push.new.self c.args.at c.args.size c.args.address c.args.value rest c.in_ok-push.ensures
