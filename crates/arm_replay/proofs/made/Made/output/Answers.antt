use Rattle.std.proofs.Common.{◌+◌, add-zero, [], ◌∷◌, ◌++◌, refl, sym, subst}
use Rattle.ev_graph.specs.declared.events.Item.TheVariants as items
use Rattle.arm_replay.specs.declared.made.Made.{Made}
use Rattle.arm_replay.specs.Walking.{option_item, fence_item, Keeps}
use Rattle.arm_replay.proofs.MadeLemmas.{keeps_more}
use Rattle.arm_replay.proofs.made.Made.output.Goals as goal

pub returns-in_ok-push-clause-keeps : goal.returns-in_ok-push-clause-keeps
returns-in_ok-push-clause-keeps c = λ k is keeps.
    let new : Made = record { items = c.push.new.self; count = c.args.self.now.count + 1; accesses = c.args.self.now.accesses } in
    subst (λ a. Keeps k (is ++ option_item (λ v. items.Output (record { value = v; place = c.args.place })) a) new) (sym c.in-Some.is)
    (keeps_more k is (items.Output (record { value = c.in-Some.value; place = c.args.place }) ∷ []) c.args.self.now new keeps c.in_ok-push.ensures.items refl (sym (add-zero c.args.self.now.accesses)))
