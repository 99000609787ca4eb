use Rattle.isel.proofs.Steps.{Selecting}
use Rattle.isel.proofs.selecting.select_each.Given as goal

abbrev pub invariant-loop-step : goal.invariant-loop-step
invariant-loop-step l = Selecting l.steps l.step-index l.words.items l.last_bits.bits
