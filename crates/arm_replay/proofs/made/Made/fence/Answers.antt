use Rattle.std.proofs.Common.{◌+◌, add-zero, [], ◌∷◌, ◌++◌, refl, sym, subst}
use Rattle.ev_graph.specs.declared.events.Item.TheVariants as items
use Rattle.arm_replay.specs.declared.made.Made.{Made}
use Rattle.arm_replay.specs.Walking.{option_item, fence_item, Keeps}
use Rattle.arm_replay.proofs.MadeLemmas.{keeps_more}
use Rattle.arm_replay.proofs.made.Made.fence.Goals as goal

pub returns-in_ok-push-clause-keeps : goal.returns-in_ok-push-clause-keeps
returns-in_ok-push-clause-keeps c = λ k is keeps.
    let new : Made = record { items = c.push.new.self; count = c.args.self.now.count; accesses = c.args.self.now.accesses } in
    subst (λ f. Keeps k (is ++ fence_item c.args.place f) new) (sym c.in-Dmb.is)
    (keeps_more k is (items.Fence (record { kind = c.in-Dmb.kind; place = c.args.place }) ∷ []) c.args.self.now new keeps c.in_ok-push.ensures.items
    (sym (add-zero c.args.self.now.count)) (sym (add-zero c.args.self.now.accesses)))
