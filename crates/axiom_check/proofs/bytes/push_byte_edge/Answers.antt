use Rattle.order_models.proofs.LocalLemmas.{never}
use Rattle.axiom_check.proofs.BytesLemmas.{byte_edge, byte_no_edge}
use Rattle.axiom_check.proofs.bytes.push_byte_edge.Goals as goal

pub returns-in_ok-push_edge : goal.returns-in_ok-push_edge
returns-in_ok-push_edge c = λ k.
    byte_edge c.args.events.now.accesses.items c.args.within c.args.read k c.args.source c.in-From.write _ _ c.in-From.is (c.is_kept.ensures.0 c.if-is_kept.true) c.in_ok-push_edge.ensures

pub returns-else-is_kept : goal.returns-else-is_kept
returns-else-is_kept c = λ k.
    byte_no_edge c.args.events.now.accesses.items c.args.within c.args.read k c.args.source c.in-From.write _ c.in-From.is (never _ c.is_kept.ensures c.if-is_kept.false)
