use Rattle.std.proofs.Common.{◌≡◌, ◌≤◌, length, ap, arith}
use Rattle.arm_replay.proofs.ValueLemmas.{drop_none}
use Rattle.arm_replay.proofs.walk.Walk.is_cut.Goals as goal

pub returns-then-self-as_slice : goal.returns-then-self-as_slice
returns-then-self-as_slice c = (
  omega arith,
  λ none. let past = drop_none c.args.given.now.values c.args.self.now.taken none in absurd (omega (arith, past, ap length c.as_slice.ensures)),
  c.fault.ensures,
)
