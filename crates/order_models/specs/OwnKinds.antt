-- Each order has no kinds but those of its list.
use Rattle.std.proofs.Common.{ℕ, List, refl}
use Rattle.ev_graph.specs.declared.events.Item.{Item}
use Rattle.ev_graph.specs.Places.{StandsIn}
use Rattle.order_models.specs.declared.edge.EdgeKind.{EdgeKind}
use Rattle.order_models.specs.declared.edge.EdgeKind.TheVariants as edge
use Rattle.order_models.specs.Orders.{HasOwnKinds, Tso, Limm, Arm, tso_kinds, limm_kinds, arm_kinds}

pub all_tso_kinds : (kind : EdgeKind) (items : List Item) (m n : ℕ) → Tso kind items m n → StandsIn tso_kinds kind
all_tso_kinds edge.Ppo items m n holds = (0, refl)
all_tso_kinds edge.Mfence items m n holds = (1, refl)
all_tso_kinds edge.Implied items m n holds = (2, refl)
all_tso_kinds _ items m n holds = absurd holds

pub all_limm_kinds : (kind : EdgeKind) (items : List Item) (m n : ℕ) → Limm kind items m n → StandsIn limm_kinds kind
all_limm_kinds edge.Rmw items m n holds = (0, refl)
all_limm_kinds edge.Frm items m n holds = (1, refl)
all_limm_kinds edge.Fww items m n holds = (2, refl)
all_limm_kinds edge.Fsc items m n holds = (3, refl)
all_limm_kinds _ items m n holds = absurd holds

pub all_arm_kinds : (kind : EdgeKind) (items : List Item) (m n : ℕ) → Arm kind items m n → StandsIn arm_kinds kind
all_arm_kinds edge.Rmw items m n holds = (0, refl)
all_arm_kinds edge.Dmb items m n holds = (1, refl)
all_arm_kinds edge.Ld items m n holds = (2, refl)
all_arm_kinds edge.St items m n holds = (3, refl)
all_arm_kinds _ items m n holds = absurd holds

pub own_tso_kinds : HasOwnKinds Tso
own_tso_kinds = record { no_co = λ items m n holds. holds; no_fr = λ items m n holds. holds; no_rfe = λ items m n holds. holds; no_fre = λ items m n holds. holds; no_coe = λ items m n holds. holds }

pub own_limm_kinds : HasOwnKinds Limm
own_limm_kinds = record { no_co = λ items m n holds. holds; no_fr = λ items m n holds. holds; no_rfe = λ items m n holds. holds; no_fre = λ items m n holds. holds; no_coe = λ items m n holds. holds }

pub own_arm_kinds : HasOwnKinds Arm
own_arm_kinds = record { no_co = λ items m n holds. holds; no_fr = λ items m n holds. holds; no_rfe = λ items m n holds. holds; no_fre = λ items m n holds. holds; no_coe = λ items m n holds. holds }
