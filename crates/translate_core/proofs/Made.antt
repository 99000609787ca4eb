-- What fences the three kinds of machines make: Arm's make barriers of Arm, the others none.
use Rattle.std.proofs.Common.{◌≡◌, ℕ, zero, suc, ◌^◌, ◌%◌, ◌==◌, ◌&&◌, Bool, true, false, List, [], ◌∷◌, Option, Some, None, refl, ap}
use Rattle.std.specs.Prelude.{if◌then◌else◌}
use Rattle.std.specs.List.{AllByRecursion}
use Rattle.ev_graph.specs.declared.events.AccessKind.TheVariants.{Read}
use Rattle.ev_graph.specs.declared.events.FenceKind.{FenceKind}
use Rattle.ev_graph.specs.declared.events.FenceKind.TheVariants.{Frm, Fww, Fsc, Mfence, DmbLd, DmbSt, DmbFull}
use Rattle.ev_graph.specs.declared.events.Item.{Item}
use Rattle.ev_graph.specs.declared.events.Item.TheVariants as items
use Rattle.ev_graph.specs.declared.events.TrapKind.TheVariants.{BadAccess}
use Rattle.behavior.specs.Tree.{Tree, Gives, Begins, Acts, Point, Path, cut, gives, begins, acts, Next, ◌then◌, ticks}
use Rattle.behavior.specs.Acts.{Permission, goes, traps, access, locked_write, exchanges}
use Rattle.behavior.specs.Seen.{barrier}
use Rattle.behavior.specs.Unfolds.{Unfolds, block-ends, block-goes, block-begins, block-acts}
use Rattle.behavior.proofs.Lists.{all_append}
use Rattle.behavior.proofs.Makes.{AllMakes, makes_then, makes_choice, makes_reads, makes_writes}
use Rattle.x64_syntax.specs.declared.slots.Slot.{Slot}
use Rattle.limm_ir.specs.Steps.{IrState, of, set, fence_of, ir_step, ir_steps}
use Rattle.limm_ir.specs.Values.{rmw_value}
use Rattle.limm_ir.specs.Blocks.{ir_end, ir_block}
use Rattle.limm_ir.specs.declared.block.IrEnd.{IrEnd}
use Rattle.limm_ir.specs.declared.block.IrEnd.TheVariants as ends
use Rattle.limm_ir.specs.declared.step.IrFence.{IrFence}
use Rattle.limm_ir.specs.declared.step.IrFence.TheVariants as fences
use Rattle.limm_ir.specs.declared.step.IrStep.{IrStep}
use Rattle.limm_ir.specs.declared.step.IrStep.TheVariants as steps
use Rattle.a64_table.specs.Machine.{AThread, a64_step}
use Rattle.a64_table.proofs.BarrierLemmas.{IsBarred, a64_barred}
use Rattle.fence_plan.specs.declared.gap.Gap.{Gap}
use Rattle.fence_plan.specs.Gaps.{Station}
use Rattle.fence_plan.specs.Planned.{is_barrier}
use Rattle.fence_plan.specs.Realized.{IsAct, silent, input, output, hidden, shared, read, pair, strong, Realizes}
use Rattle.fence_merge.proofs.CallerLemmas.{IsBarrier, IsNoBarrier}

-- ---- any machine

-- what all items of a tree have, all items of its paths have
pub path_all : {R : Type 0} (P : Item → Type 0) {t : Tree R} {is : List Item} {p : Point R} {n : ℕ} → AllMakes P t → Path t is p n → AllByRecursion P is
path_all P all cut = tt
path_all P all gives = tt
path_all P all (begins path) = path_all P all path
path_all P all (acts {made = made} {items = is} v lt path) = all_append P (made v) is (all v lt).0 (path_all P (all v lt).1 path)

-- what all items of steps have, all items of what they unfold into have
pub unfolds_all : {S : Type 0} (P : Item → Type 0) {step : S → Tree (Next S)} → ((s : S) → AllMakes P (step s)) → {t block : Tree (Next S)} → Unfolds step t block → AllMakes P t → AllMakes P block
unfolds_all P each block-ends all = all
unfolds_all P each (block-goes {s = s} rest) all = unfolds_all P each rest (each s)
unfolds_all P each (block-begins rest) all = unfolds_all P each rest all
unfolds_all P each (block-acts rest) all = λ v lt. ((all v lt).0, unfolds_all P each (rest v lt) (all v lt).1)

all_wider : (P Q : Item → Type 0) → ((i : Item) → P i → Q i) → (is : List Item) → AllByRecursion P is → AllByRecursion Q is
all_wider P Q wider [] all = tt
all_wider P Q wider (i ∷ is) all = (wider i all.0, all_wider P Q wider is all.1)

pub makes_wider : {R : Type 0} (P Q : Item → Type 0) → ((i : Item) → P i → Q i) → (t : Tree R) → AllMakes P t → AllMakes Q t
makes_wider P Q wider (Gives r) all = tt
makes_wider P Q wider (Begins t) all = makes_wider P Q wider t all
makes_wider P Q wider (Acts range made next) all = λ v lt. (all_wider P Q wider (made v) (all v lt).0, makes_wider P Q wider (next v) (all v lt).1)

-- ---- Arm

barred_barrier : (kind : FenceKind) → barrier kind ≡ kind → is_barrier kind ≡ true
barred_barrier DmbLd same = refl
barred_barrier DmbSt same = refl
barred_barrier DmbFull same = refl
barred_barrier Frm same = absurd cc
barred_barrier Fww same = absurd cc
barred_barrier Fsc same = absurd cc
barred_barrier Mfence same = absurd cc

barred_item : (i : Item) → IsBarred i → IsBarrier i
barred_item (items.Access a) is = tt
barred_item (items.Fence f) is = barred_barrier f.kind is
barred_item (items.Input t) is = tt
barred_item (items.Output t) is = tt

-- the fences of a thread's words are barriers of Arm
pub a64_barriers : (may : Permission) (first : ℕ) (words : List ℕ) (t : AThread) → AllMakes IsBarrier (a64_step may first words t)
a64_barriers may first words t = makes_wider IsBarred IsBarrier barred_item (a64_step may first words t) (a64_barred may first words t)

-- ---- steps

fence_none : (f : IrFence) → is_barrier (fence_of f) ≡ false
fence_none fences.Frm = refl
fence_none fences.Fww = refl
fence_none fences.Fsc = refl

written_none : (place address size : ℕ) (new : Option ℕ) → AllByRecursion IsNoBarrier (locked_write place address size new)
written_none place address size None = tt
written_none place address size (Some v) = (tt, tt)

exchange_none : {S : Type 0} (may : Permission) (place address size : ℕ) (new : ℕ → Option ℕ) (go : ℕ → Tree (Next S)) → ((v : ℕ) → AllMakes IsNoBarrier (go v))
    → AllMakes IsNoBarrier (exchanges may place address size new go)
exchange_none may place address size new go later =
    makes_choice IsNoBarrier (may false address size && may true address size)
    (Acts (256 ^ size) (λ v. access Read true place address size v ∷ locked_write place address size (new v)) go) (traps BadAccess)
    (λ v lt. ((tt, written_none place address size (new v)), later v)) tt

step_none : (may : Permission) (x : IrStep) (s : IrState) → AllMakes IsNoBarrier (ir_step may x s)
step_none may (steps.Const t v) s = tt
step_none may (steps.GetReg t r) s = tt
step_none may (steps.SetReg r t) s = tt
step_none may (steps.GetFlag t f) s = tt
step_none may (steps.SetFlag f t) s = tt
step_none may (steps.Op op t a b) s = tt
step_none may (steps.Select t c a b) s = tt
step_none may (steps.Load t a size place) s = makes_reads IsNoBarrier may place (of s a) size _ (λ allowed v. tt) (λ v. tt)
step_none may (steps.Store a v size place) s = makes_writes IsNoBarrier may place (of s a) size (of s v) (goes s) (λ allowed. tt) tt
step_none may (steps.Rmw op t a v size place) s = exchange_none may place (of s a) size (λ old. Some (rmw_value op old (of s v))) (λ old. goes (set t old s)) (λ v. tt)
step_none may (steps.Cas t a e v size place) s =
    exchange_none may place (of s a) size (λ old. if old == of s e % 256 ^ size then Some (of s v) else None) (λ old. goes (set t old s)) (λ v. tt)
step_none may (steps.Fence f) s = λ v lt. ((fence_none f, tt), tt)
step_none may steps.Input s = λ v lt. ((tt, tt), tt)
step_none may steps.Output s = λ v lt. ((tt, tt), tt)
step_none may (steps.TrapIf t kind) s = makes_choice IsNoBarrier (of s t == 0) (goes s) (traps kind) tt tt

ticks_all : {R : Type 0} (P : Item → Type 0) (n : ℕ) (t : Tree R) → AllMakes P t → AllMakes P (ticks n t)
ticks_all P zero t all = all
ticks_all P (suc n) t all = ticks_all P n t all

steps_none : (cost : IrStep → ℕ) (may : Permission) (xs : List IrStep) (s : IrState) → AllMakes IsNoBarrier (ir_steps cost may xs s)
steps_none cost may [] s = tt
steps_none cost may (x ∷ xs) s =
    makes_then IsNoBarrier (ticks (cost x) (ir_step may x s)) (ir_steps cost may xs) (ticks_all IsNoBarrier (cost x) (ir_step may x s) (step_none may x s)) (λ t. steps_none cost may xs t)

end_none : (end : IrEnd) (s : IrState) → AllMakes IsNoBarrier (ir_end end s)
end_none (ends.Goto a) s = tt
end_none (ends.Branch t a b) s = tt
end_none (ends.Return t) s = tt
end_none (ends.Indexed t table) s = tt
end_none (ends.Stop kind) s = tt

-- steps make no barrier of Arm
pub block_none : (cost : IrStep → ℕ) (may : Permission) (xs : List IrStep) (end : IrEnd) (s : IrState) → AllMakes IsNoBarrier (ir_block cost may xs end s)
block_none cost may xs end s = makes_then IsNoBarrier (ir_steps cost may xs s) (ir_end end) (steps_none cost may xs s) (λ t. end_none end t)

-- ---- x86

act_none : {private : Slot → Bool} {is : List Item} {ss rest : List Station} → IsAct private is ss rest → AllByRecursion IsNoBarrier is
act_none silent = tt
act_none input = (tt, tt)
act_none output = (tt, tt)
act_none (hidden one) = (tt, tt)
act_none (shared one plain) = (tt, tt)
act_none (read locked kind) = (tt, tt)
act_none (pair locked kind other two) = (tt, (tt, tt))
act_none (strong kind) = (ap is_barrier kind, tt)

-- nor do instructions, which make what the plan counts
pub realized_none : {S : Type 0} (private : Slot → Bool) (plan : S → Option (List Gap)) (Stands : S → List Station → Type 0) (t : Tree (Next S)) (ss : List Station) → Realizes private plan Stands ss t
    → AllMakes IsNoBarrier t
realized_none private plan Stands (Gives next) ss realizes = tt
realized_none private plan Stands (Begins t) ss realizes = realized_none private plan Stands t ss realizes
realized_none private plan Stands (Acts range made next) ss realizes =
    λ v lt. let one = realizes v lt in (act_none one.1, realized_none private plan Stands (next v) one.0 one.2)
