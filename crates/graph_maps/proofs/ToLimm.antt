-- From Armv8 to the intermediate form: each pair of the one is a pair of the other.
use Rattle.std.proofs.Common.{◌≡◌, false, List, subst}
use Rattle.ev_graph.specs.declared.events.FenceKind.TheVariants as fence
use Rattle.ev_graph.specs.declared.execution.Execution.{Execution}
use Rattle.ev_graph.specs.Events.{Event, IsIn, IsRead, IsWrite, IsLocked}
use Rattle.ev_graph.specs.Cycle.{Among}
use Rattle.order_models.specs.declared.edge.EdgeKind.TheVariants as edge
use Rattle.order_models.specs.Orders.{Limm, Arm}
use Rattle.order_models.specs.Consistent.{ExternalPair, SomeKind}
use Rattle.graph_maps.specs.Needs.{SameEvents, FencesFrom}
use Rattle.graph_maps.specs.Laws.{ArmIsLimm}
use Rattle.graph_maps.proofs.Cut.{chain_map}
use Rattle.graph_maps.proofs.EventLemmas.{in_same}
use Rattle.graph_maps.proofs.Steps.{rf_same, co_same, fr_same}
use Rattle.graph_maps.proofs.ToTso.{internal_carries, atomic_carries}
use Rattle.std.specs.Prelude.{slice_get, IsSomeAnd, ◌+◌}

-- each pair of the intermediate form is a pair of Armv8
pub arm_pair : (x y : Execution) → SameEvents x y
    → FencesFrom fence.DmbLd fence.Frm x y → FencesFrom fence.DmbSt fence.Fww x y → FencesFrom fence.DmbFull fence.Fsc x y
    → (a b : Event) → IsIn x.threads a → IsIn x.threads b → SomeKind (ExternalPair Limm false y) a b → SomeKind (ExternalPair Arm false x) a b
arm_pair x y same reads writes full a b in_a in_b (edge.Co, pair) = absurd cc
arm_pair x y same reads writes full a b in_a in_b (edge.Fr, pair) = absurd cc
arm_pair x y same reads writes full a b in_a in_b (edge.Rfe, pair) = (edge.Rfe, (pair.0, rf_same x y same a b pair.1))
arm_pair x y same reads writes full a b in_a in_b (edge.Fre, pair) = (edge.Fre, (pair.0, fr_same x y same a b pair.1))
arm_pair x y same reads writes full a b in_a in_b (edge.Coe, pair) = (edge.Coe, (pair.0, co_same x y same a b pair.1))
arm_pair x y same reads writes full a b in_a in_b (edge.Rmw, pair) = (
  edge.Rmw,
  record {
    po = pair.po;
    holds =
        let Pair : List Event → Type 0 = λ es. (b.id.index ≡ a.id.index + 1)
        × IsSomeAnd (slice_get es a.id.index) IsRead × IsSomeAnd (slice_get es a.id.index) IsLocked
        × IsSomeAnd (slice_get es b.id.index) IsWrite × IsSomeAnd (slice_get es b.id.index) IsLocked in
        subst Pair (same.threads a.id.thread) pair.holds;
  },
)
arm_pair x y same reads writes full a b in_a in_b (edge.Frm, pair) = (
  edge.Ld,
  record {
    po = pair.po;
    holds = (
      let Read : List Event → Type 0 = λ es. IsSomeAnd (slice_get es a.id.index) IsRead in subst Read (same.threads a.id.thread) pair.holds.0,
      reads a b in_a in_b pair.po pair.holds.1,
    );
  },
)
arm_pair x y same reads writes full a b in_a in_b (edge.Fww, pair) = (
  edge.St,
  record {
    po = pair.po;
    holds = (
      let First : List Event → Type 0 = λ es. IsSomeAnd (slice_get es a.id.index) IsWrite in subst First (same.threads a.id.thread) pair.holds.0,
      let Second : List Event → Type 0 = λ es. IsSomeAnd (slice_get es b.id.index) IsWrite in subst Second (same.threads a.id.thread) pair.holds.1,
      writes a b in_a in_b pair.po pair.holds.2,
    );
  },
)
arm_pair x y same reads writes full a b in_a in_b (edge.Fsc, pair) = (edge.Dmb, record { po = pair.po; holds = full a b in_a in_b pair.po pair.holds })
arm_pair x y same reads writes full a b in_a in_b (_, pair) = absurd pair.holds

pub arm_is_limm_lem : ArmIsLimm
arm_is_limm_lem x y same reads writes full consistent = record {
  internal = internal_carries x y same consistent.internal;
  atomic = atomic_carries x y same consistent.atomic;
  external = λ a via cycle. consistent.external a via
      (chain_map (Among y.threads (SomeKind (ExternalPair Limm false y))) (Among x.threads (SomeKind (ExternalPair Arm false x)))
      (λ v w pair. record {
        first = in_same x y same v pair.first;
        second = in_same x y same w pair.second;
        pair = arm_pair x y same reads writes full v w (in_same x y same v pair.first) (in_same x y same w pair.second) pair.pair;
      })
      a via a cycle);
}
