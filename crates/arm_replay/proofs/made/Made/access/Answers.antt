use Rattle.std.proofs.Common.{◌+◌, add-zero, [], ◌∷◌, ◌++◌, refl, sym, subst}
use Rattle.ev_graph.specs.declared.events.Item.TheVariants as items
use Rattle.arm_replay.specs.declared.made.Made.{Made}
use Rattle.arm_replay.specs.Walking.{option_item, fence_item, Keeps}
use Rattle.arm_replay.proofs.MadeLemmas.{keeps_more}
use Rattle.arm_replay.proofs.made.Made.access.Goals as goal

pub returns-in_ok-push-clause-keeps : goal.returns-in_ok-push-clause-keeps
returns-in_ok-push-clause-keeps c = λ is keeps.
    let new : Made = record { items = c.push.new.self; count = c.args.self.now.count + 1; accesses = c.args.self.now.accesses + 1 } in
    subst (λ a. Keeps c.args.thread (is ++ option_item items.Access a) new) (sym c.in-Some.is)
    (keeps_more c.args.thread is (items.Access c.in-Some.access ∷ []) c.args.self.now new keeps c.in_ok-push.ensures.items refl refl)
