use Rattle.std.proofs.Common.{sym}
use Rattle.lift_alu.specs.Lifted.{inverts_locked}
use Rattle.lift_alu.proofs.builder.Builder.invert_locked.Goals as goal

pub returns : goal.returns
unfolding inverts_locked
returns c = rw (sym c.mask.ensures) (c.in_ok-lock.ensures _)
