use Rattle.axiom_check.specs.Lanes.{IsEntry}
use Rattle.axiom_check.proofs.GainsLemmas.{gains_zero, gains_more}
use Rattle.axiom_check.proofs.lanes.push_entries.Goals as goal

pub loop-place-init : goal.loop-place-init
loop-place-init c = gains_zero _ _ _

pub loop-place-preserved : goal.loop-place-preserved
loop-place-preserved c =
    gains_more c.args.sources.now (IsEntry c.args.events c.args.targets.now) c.loop-place.place _ _ _ _ c.at.ensures c.loop-place.invariant (c.in_ok-push_entry.ensures c.loop-place.place)
