use Rattle.std.proofs.Common.{false}
use Rattle.flag_use.specs.declared.flag.Flag.TheVariants.{Cf}
use Rattle.flag_use.specs.Effects.{effects_told}
use Rattle.flag_use.specs.Onward.{addresses_in}
use Rattle.flag_use.specs.Walk.{all_flags, undefined_nodes}
use Rattle.flag_use.proofs.Lists.{gathers_on}
use Rattle.flag_use.proofs.walk.push_each_undefined.Goals as goal

pub loop-flag-preserved : goal.loop-flag-preserved
loop-flag-preserved c =
    gathers_on (undefined_nodes (effects_told c.args.effects.now) false (addresses_in c.args.onward)) all_flags
    c.loop-flag.flag-index Cf _ _ _ c.loop-flag-test.true c.loop-flag.invariant c.in_ok-push_undefined.ensures
