use Rattle.std.proofs.Common.{◌≡◌, ℕ, List, length, subst, arith}
use Rattle.ev_graph.specs.declared.execution.Source.{Source}
use Rattle.axiom_check.specs.Gains.{Gains, Below}
use Rattle.axiom_check.specs.Bytes.{IsByteEdge}
use Rattle.axiom_check.proofs.GainsLemmas.{gains_zero, gains_more}
use Rattle.axiom_check.proofs.bytes.push_entry_edges.Goals as goal

pub loop-k-init : goal.loop-k-init
loop-k-init c = gains_zero _ _ _

pub loop-k-preserved : goal.loop-k-preserved
loop-k-preserved c =
    gains_more _ (IsByteEdge c.args.events.now.accesses.items c.args.within c.args.entry.now.read) c.loop-k.k _ _ _ _ c.at.ensures c.loop-k.invariant (c.in_ok-push_byte_edge.ensures c.loop-k.k)

pub returns : goal.returns
returns c = λ e.
    let end : c.loop-k.k ≡ length c.as_slice-bytes.result.now = omega arith in
    let F = IsByteEdge c.args.events.now.accesses.items c.args.within c.args.entry.now.read in
    let gains = subst (λ (n : ℕ). Gains (Below c.as_slice-bytes.result.now F n) c.args.edges.now.items c.loop-k.edges.items) end c.loop-k.invariant in
    subst (λ (l : List Source). Gains (Below l F (length l)) c.args.edges.now.items c.loop-k.edges.items) c.as_slice-bytes.ensures gains
