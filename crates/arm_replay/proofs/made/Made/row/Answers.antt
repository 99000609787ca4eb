use Rattle.std.proofs.Common.{◌++◌, subst}
use Rattle.ev_graph.specs.declared.events.Item.TheVariants as items
use Rattle.arm_replay.specs.Walking.{option_item, fence_item, Keeps}
use Rattle.arm_replay.proofs.MadeLemmas.{regroup}
use Rattle.arm_replay.proofs.made.Made.row.Goals as goal

pub returns-clause-keeps : goal.returns-clause-keeps
returns-clause-keeps c = λ is keeps.
    let k = c.args.thread in
    let place = c.args.place in
    let made = c.args.made.now in
    let fence = c.in_ok-fence.ensures.keeps k is keeps in
    let input = c.in_ok-input.ensures.keeps k _ fence in
    let output = c.in_ok-output.ensures.keeps k _ input in
    let read = c.in_ok-access.ensures.keeps _ output in
    let write = c.in_ok-access-2.ensures.keeps _ read in
    subst (λ l. Keeps k l c.access-2.new.self)
    (regroup is (fence_item place c.args.fence) (option_item (λ v. items.Input (record { value = v; place = place })) made.input)
    (option_item (λ v. items.Output (record { value = v; place = place })) made.output) (option_item items.Access made.read) (option_item items.Access made.write)) write
