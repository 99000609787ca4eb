use Rattle.std.proofs.Common.{◌≡◌, ◌≤◌, ◌^◌, length, arith, sym, ap, subst, ◌∙◌}
use Rattle.std.specs.Prelude.{flat_map}
use Rattle.x64_syntax.specs.Slots.{placed_slots}
use Rattle.carry_spec.specs.declared.plan.BlockPlan.{BlockPlan}
use Rattle.fence_place.specs.Marked.{marked}
use Rattle.lift.proofs.CallerLemmas.{instructions}
use Rattle.translate_core.specs.Planned.{AreBelow, counted, plus}
use Rattle.translate_core.proofs.BlockCounts.{gaps_few, shared_fewer}
use Rattle.translate_core.proofs.PlannedBlocks.{plus_fits, planned_more, planned_here}
use Rattle.translate_core.proofs.plan.plan_code.Goals as goal

pub count_block-requires-clause-gaps : goal.count_block-requires-clause-gaps
count_block-requires-clause-gaps c =
    let few = gaps_few (marked c.args.private.now.slots) c.instructions_of-instructions.result.now in
    let low = c.instructions_of-instructions.ensures.lifted.few in
    subst (λ (plan : BlockPlan). length plan.gaps ≤ 2 ^ 18) (sym c.in_ok-block.ensures) (omega (arith, few, low))

pub count_block-requires-clause-slots : goal.count_block-requires-clause-slots
count_block-requires-clause-slots c =
    let ps = c.instructions_of-instructions.result.now in
    subst (λ (plan : BlockPlan). length plan.slots ≤ length (flat_map placed_slots ps)) (sym c.in_ok-block.ensures) (shared_fewer (marked c.args.private.now.slots) ps)

pub plus-summary-requires : goal.plus-summary-requires
plus-summary-requires c =
    let code = c.args.code.now in
    let recovered = c.requires.code in
    let private = marked c.args.private.now.slots in
    let threads = length c.args.elf.now.threads in
    let k = c.loop-number.number in
    let listed = c.instructions_of-instructions.result.now in
    let plan = c.in_ok-block.block in
    let (ps, are) = instructions code k recovered (omega arith) in
    let same : ps ≡ listed = c.instructions_of-instructions.ensures.those ps are in
    let planned = planned_here private threads code k are.block _ ps listed plan _ are.here same c.as_slice-in-loop-number.ensures c.in_ok-block.ensures in
    subst (AreBelow (2 ^ 32)) (ap (plus c.loop-number.summary) (ap (λ l. counted l plan) same ∙ sym c.count_block.ensures))
    (plus_fits private threads code recovered.program recovered.is_code c.requires.program.threads k c.loop-number.plan.items c.loop-number.summary are.block ps plan are.here are.are planned c.loop-number.invariant)

pub loop-number-preserved : goal.loop-number-preserved
loop-number-preserved c =
    let code = c.args.code.now in
    let private = marked c.args.private.now.slots in
    let threads = length c.args.elf.now.threads in
    let k = c.loop-number.number in
    let listed = c.instructions_of-instructions.result.now in
    let plan = c.in_ok-block.block in
    let (ps, are) = instructions code k c.requires.code (omega arith) in
    let same : ps ≡ listed = c.instructions_of-instructions.ensures.those ps are in
    let planned = planned_here private threads code k are.block _ ps listed plan _ are.here same c.as_slice-in-loop-number.ensures c.in_ok-block.ensures in
    planned_more private threads code k c.loop-number.plan.items c.push.new.self.items c.loop-number.summary c.plus-summary.result are.block ps plan are.here are.are planned
    c.in_ok-push.ensures.items (c.plus-summary.ensures ∙ ap (plus c.loop-number.summary) (c.count_block.ensures ∙ ap (λ l. counted l plan) (sym same))) c.loop-number.invariant
