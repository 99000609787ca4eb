-- What the two calls answer.
use Rattle.std.proofs.Common.{◌≡◌, Bool, true, false, not, ◌&&◌, List, map, Option, ap, subst, sym, refl, ◌∙◌}
use Rattle.ev_graph.specs.declared.events.Access.{Access}
use Rattle.ev_graph.specs.declared.events.EventId.{EventId}
use Rattle.ev_graph.specs.declared.execution.Execution.{Execution}
use Rattle.ev_graph.specs.declared.execution.ThreadRun.{ThreadRun}
use Rattle.ev_graph.specs.Events.{Event}
use Rattle.ev_graph.specs.WellFormed.{HasLockedPairs}
use Rattle.order_models.specs.Orders.{Tso, Limm, Arm}
use Rattle.order_models.specs.Consistent.{Consistent}
use Rattle.x64_syntax.specs.declared.slots.Slot.{Slot}
use Rattle.fence_place.specs.Marked.{marked}
use Rattle.fence_plan.specs.Private.{is_private}
use Rattle.graph_maps.specs.Maps.{limm_thread, x86_thread, is_private_access, is_private_in}
use Rattle.graph_maps.specs.Needs.{SameEvents, HasFences, IsDmb, IsLimmFence, limm_fences, HasMappingFences, AreUnlocked, AreApart, HasWriteSources}
use Rattle.graph_maps.proofs.Renamed.{limm_same, limm_frm, limm_fww, limm_fsc, x86_same, x86_mfence}
use Rattle.ev_graph.proofs.EventLemmas.{access_of}
use Rattle.graph_maps.proofs.ToLimm.{arm_is_limm_lem}
use Rattle.graph_maps.proofs.ToTso.{limm_is_tso_lem}

pub limm_same_answer : (x : Execution) (threads : List ThreadRun) → threads ≡ map limm_thread x.threads → SameEvents x (record x { threads = threads })
limm_same_answer x threads is =
    let Answer : List ThreadRun → Type 0 = λ all. SameEvents x (record x { threads = all }) in
    subst Answer (sym is) (limm_same x)

pub limm_answer : (x : Execution) (threads : List ThreadRun) → threads ≡ map limm_thread x.threads → HasFences IsDmb x.threads
    → Consistent Arm false x → Consistent Limm false (record x { threads = threads })
limm_answer x threads is dmbs consistent =
    let Answer : List ThreadRun → Type 0 = λ all. Consistent Limm false (record x { threads = all }) in
    subst Answer (sym is)
    (arm_is_limm_lem x (record x { threads = map limm_thread x.threads }) (limm_same x) (limm_frm x dmbs) (limm_fww x dmbs) (limm_fsc x dmbs) consistent)

pub x86_same_answer : (x : Execution) (threads : List ThreadRun) → threads ≡ map x86_thread x.threads → SameEvents x (record x { threads = threads })
x86_same_answer x threads is =
    let Answer : List ThreadRun → Type 0 = λ all. SameEvents x (record x { threads = all }) in
    subst Answer (sym is) (x86_same x)

unlocked_first : (locked rest : Bool) → (not locked && rest) ≡ true → locked ≡ false
unlocked_first true rest both = absurd cc
unlocked_first false rest both = refl

-- what the marks call private is unlocked
pub marked_unlocked : (slots : List Slot) (threads : List ThreadRun) → AreUnlocked (is_private_in slots threads) threads
marked_unlocked slots threads a in_a private =
    let found = access_of threads a in_a in
    let Private : Option Access → Type 0 = λ o. is_private_access (marked slots) o ≡ true in
    let is : is_private (marked slots) found.0 ≡ true = subst Private found.1 private in
    let unlocked = unlocked_first found.0.locked _ is in
    let same : found.0.locked ≡ a.locked = ap {B = Bool} (λ (e : Event). e.locked) found.2 in
    sym same ∙ unlocked

pub x86_answer : (x : Execution) (slots : List Slot) (threads : List ThreadRun) → threads ≡ map x86_thread x.threads → HasFences IsLimmFence x.threads
    → HasLockedPairs x → HasWriteSources x → AreApart (is_private_in slots x.threads) x.threads
    → HasMappingFences limm_fences (is_private_in slots x.threads) x → Consistent Limm false x → Consistent Tso true (record x { threads = threads })
x86_answer x slots threads is limm pairs sources apart mapped consistent =
    let private : EventId → Bool = is_private_in slots x.threads in
    let Answer : List ThreadRun → Type 0 = λ all. Consistent Tso true (record x { threads = all }) in
    subst Answer (sym is)
    (limm_is_tso_lem private x (record x { threads = map x86_thread x.threads }) (x86_same x)
    (λ a b in_a in_b po shown_a shown_b between. x86_mfence x limm a b in_a in_b po between)
    (record { unlocked = marked_unlocked slots x.threads; apart = apart; sources = sources }) pairs mapped consistent)
