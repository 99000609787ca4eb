use Rattle.std.proofs.Common.{◌≡◌, ◌+◌, List, Some, ℕ, subst, sym}
use Rattle.std.specs.List.{slice_get}
use Rattle.ev_graph.specs.declared.events.Access.{Access}
use Rattle.order_models.proofs.LocalLemmas.{never}
use Rattle.axiom_check.specs.Gates.{AreLasts, kind_of_side}
use Rattle.axiom_check.proofs.GatesLemmas.{pair_edge, pair_none}
use Rattle.axiom_check.proofs.gates.push_pair.Goals as goal

pub returns-then-not-are_halves : goal.returns-then-not-are_halves
returns-then-not-are_halves c = λ items a is here are_gate.
    pair_none c.args.events.now.accesses.items items c.args.own.now c.args.gate.now.door c.args.m a c.at-first.result c.at-second.result _ is c.at-first.ensures c.at-second.ensures
    (never _ c.are_halves.ensures c.if-not-are_halves.true)

pub returns-in_ok-push_edge : goal.returns-in_ok-push_edge
returns-in_ok-push_edge c = λ items a is here are_gate.
    let gate = c.args.gate.now in
    let own = c.args.own.now in
    let m = c.args.m in
    let from_lasts = subst (λ (l : List ℕ). AreLasts (kind_of_side gate.door.from) items l) (sym c.as_slice.ensures.value) are_gate.from_lasts in
    let to_lasts = subst (λ (l : List ℕ). AreLasts (kind_of_side gate.door.to) items l) (sym c.as_slice-2.ensures.value) are_gate.to_lasts in
    let first_here = subst (λ (l : List Access). slice_get l m ≡ Some c.at-first.result) (sym is) c.at-first.ensures in
    let second_here = subst (λ (l : List Access). slice_get l (m + 1) ≡ Some c.at-second.result) (sym is) c.at-second.ensures in
    pair_edge c.args.events.now.accesses.items items own gate.door m a c.at-first.result c.at-second.result _ _ is here c.at-first.ensures c.at-second.ensures
    (c.are_halves.ensures.0 c.if-not-are_halves.false)
    ((c.is_of_side.ensures items first_here from_lasts).0 c.if-not-is_of_side.false)
    ((c.is_of_side-2.ensures items second_here to_lasts).0 c.if-is_of_side.true)
    c.in_ok-push_edge.ensures
