use Rattle.std.proofs.Common.{rules, ◌≡◌, ◌≢◌, ◌≤◌, arith}
use Rattle.arm_replay.specs.Faults.{most_steps}
use Rattle.arm_replay.proofs.EndLemmas.{ends_early, ends_otherwise, ends_so}
use Rattle.arm_replay.proofs.walk.Walk.ended.Goals as goal

pub returns-then-self-given : goal.returns-then-self-given
returns-then-self-given c = λ step start goes_on reaches.
    ends_early step start c.args.thread.now.number c.args.given.now c.args.self c.args.end c.fault.result c.requires.begun c.if-self-given.true c.fault.ensures reaches

pub returns-then-ne : goal.returns-then-ne
returns-then-ne c = λ step start goes_on reaches.
    ends_otherwise step start c.args.thread.now.number c.args.given.now c.args.self c.args.end c.fault-then-ne.result c.requires.begun c.if-self-given.false (search rules) c.fault-then-ne.ensures goes_on reaches

pub returns : goal.returns
returns c = λ step start goes_on reaches.
    ends_so step start c.args.thread.now.number c.args.given.now c.args.self c.args.end c.run.result c.requires.begun c.if-self-given.false (search rules) c.run.ensures.0 c.run.ensures.1 goes_on reaches
