-- What is known of a step by its role.
use Rattle.std.proofs.Common.{◌≡◌, ℕ, ◌+◌, ◌^◌, ◌%◌, ◌==◌, ◌<◌, ◌≤◌, ◌&&◌, Bool, true, false, List, [], ◌∷◌, Option, Some, None, refl, ap, arith}
use Rattle.std.specs.Prelude.{if◌then◌else◌}
use Rattle.ev_graph.specs.declared.events.Access.{Access}
use Rattle.ev_graph.specs.declared.events.AccessKind.TheVariants as access_kinds
use Rattle.ev_graph.specs.declared.events.TrapKind.TheVariants.{BadAccess}
use Rattle.ev_graph.specs.declared.events.Item.{Item}
use Rattle.ev_graph.specs.declared.events.Item.TheVariants as items
use Rattle.behavior.specs.Tree.{Tree, Gives, Begins, Acts, Next, Goes, Stops}
use Rattle.behavior.specs.Acts.{Permission, goes, traps, access, makes, reads, writes, exchanges, locked_write}
use Rattle.behavior.proofs.Makes.{AllMakes, makes_choice, makes_reads, makes_writes}
use Rattle.x64_syntax.specs.declared.slots.Slot.{Slot}
use Rattle.x64_syntax.specs.declared.slots.SlotKind.{SlotKind}
use Rattle.x64_syntax.specs.declared.slots.SlotKind.TheVariants.{Read, Write, Locked}
use Rattle.limm_ir.specs.Costs.{fence_cost}
use Rattle.limm_ir.specs.Steps.{IrState, of, set, ir_step}
use Rattle.limm_ir.specs.Values.{rmw_value}
use Rattle.limm_ir.specs.declared.step.IrFence.{IrFence}
use Rattle.limm_ir.specs.declared.step.IrStep.{IrStep}
use Rattle.limm_ir.specs.declared.step.IrStep.TheVariants as steps
use Rattle.limm_ir.specs.declared.step.Temp.{Temp}
use Rattle.limm_ir.specs.declared.step.IrFence.TheVariants.{Frm, Fww, Fsc}
use Rattle.fence_place.specs.Fenced.{fenced}
use Rattle.fence_place.specs.Marked.{marked}
use Rattle.fence_plan.specs.Private.{is_private}
use Rattle.fence_merge.specs.declared.role.Role.TheVariants.{Boundary, Other}
use Rattle.fence_merge.specs.Roles.{role, boundary_unless, without_fence}
use Rattle.ev_graph.specs.WellFormed.{is_write}

-- an item that shows nothing to the plan
abbrev pub IsQuiet : (private : Slot → Bool) → Item → Type 0
IsQuiet private (items.Access a) = is_private private a ≡ true
IsQuiet private (items.Fence f) = ⊥
IsQuiet private (items.Input t) = Unit {0}
IsQuiet private (items.Output t) = Unit {0}

-- an access that is not private and is not the write of a pair
pub record IsFirst (private : Slot → Bool) (a : Access) : Type 0 where
  pub shared : is_private private a ≡ false
  pub first : (a.locked && is_write a.kind) ≡ false

-- the write of a locked pair
pub record IsSecond (private : Slot → Bool) (a : Access) : Type 0 where
  pub shared : is_private private a ≡ false
  pub second : (a.locked && is_write a.kind) ≡ true

-- the items of a slot that is not private
pub data IsTurn (private : Slot → Bool) : List Item → Type 0 where
  one : {a : Access} → IsFirst private a → IsTurn private (items.Access a ∷ [])
  pair : {a b : Access} → IsFirst private a → IsSecond private b → IsTurn private (items.Access a ∷ items.Access b ∷ [])

-- a tree that goes on at once
abbrev pub GoesOn : {S : Type 0} → Tree (Next S) → Type 0
GoesOn (Gives (Goes s)) = Unit {0}
GoesOn (Gives (Stops end)) = ⊥
GoesOn (Begins t) = ⊥
GoesOn (Acts range made next) = ⊥

-- a tree that makes a slot and goes on, or ends the thread
abbrev pub Turns : {S : Type 0} → (private : Slot → Bool) → Tree (Next S) → Type 0
Turns private (Gives (Goes s)) = ⊥
Turns private (Gives (Stops end)) = Unit {0}
Turns private (Begins t) = ⊥
Turns private (Acts range made next) = (v : ℕ) → v < range → IsTurn private (made v) × GoesOn (next v)

-- how much of what a slot's fences cost is used up before it
abbrev pub before_cost : SlotKind → ℕ
before_cost Read = 0
before_cost Write = 1
before_cost Locked = 1

-- and how much is left behind it
abbrev pub behind_cost : SlotKind → ℕ
behind_cost Read = 1
behind_cost Write = 0
behind_cost Locked = 1

-- a slot with the fences that are placed around it
abbrev pub around : SlotKind → IrStep → List IrStep
around Read x = x ∷ steps.Fence Frm ∷ []
around Write x = steps.Fence Fww ∷ x ∷ []
around Locked x = steps.Fence Fsc ∷ x ∷ steps.Fence Fsc ∷ []

module _ (private : List Slot) where
  pub record IsSlot (x : IrStep) (kind : SlotKind) : Type 0 where
    pub role_is : role private x ≡ Boundary kind
    pub kept : without_fence x ≡ x ∷ []
    pub placed : fenced private x ≡ around kind x
    pub costs : before_cost kind + behind_cost kind ≤ fence_cost x
    pub turns : (may : Permission) (s : IrState) → Turns (marked private) (ir_step may x s)

  pub record IsOther (x : IrStep) : Type 0 where
    pub role_is : role private x ≡ Other
    pub kept : without_fence x ≡ x ∷ []
    pub placed : fenced private x ≡ x ∷ []
    pub quiet : (may : Permission) (s : IrState) → AllMakes (IsQuiet (marked private)) (ir_step may x s)

  -- each step is a slot that is not private, a fence, or neither
  pub data View : IrStep → Type 0 where
    a-slot : {x : IrStep} {kind : SlotKind} → IsSlot x kind → View x
    a-fence : {f : IrFence} → View (steps.Fence f)
    a-other : {x : IrStep} → IsOther x → View x

  turns_choice : {S : Type 0} (b : Bool) (t : Tree (Next S)) → Turns (marked private) t → Turns (marked private) (if b then t else traps BadAccess)
  turns_choice true t here = here
  turns_choice false t here = tt

  pair_is : (place address size v : ℕ) (new : Option ℕ) → IsTurn (marked private) (access access_kinds.Read true place address size v ∷ locked_write place address size new)
  pair_is place address size v None = one (record { shared = refl; first = refl })
  pair_is place address size v (Some w) = pair (record { shared = refl; first = refl }) (record { shared = refl; second = refl })

  exchange_turns : {S : Type 0} (may : Permission) (place address size : ℕ) (new : ℕ → Option ℕ) (go : ℕ → Tree (Next S)) → ((v : ℕ) → GoesOn (go v))
      → Turns (marked private) (exchanges may place address size new go)
  exchange_turns may place address size new go later =
      turns_choice (may false address size && may true address size) (Acts (256 ^ size) (λ v. access access_kinds.Read true place address size v ∷ locked_write place address size (new v)) go)
      (λ v lt. (pair_is place address size v (new v), later v))

  read_turns : {S : Type 0} (may : Permission) (place address size : ℕ) (go : ℕ → Tree (Next S)) → marked private (record { address = place; kind = Read }) ≡ false → ((v : ℕ) → GoesOn (go v))
      → Turns (marked private) (reads may place address size go)
  read_turns may place address size go shared later =
      turns_choice (may false address size) (Acts (256 ^ size) (λ v. access access_kinds.Read false place address size v ∷ []) go) (λ v lt. (one (record { shared = shared; first = refl }), later v))

  write_turns : {S : Type 0} (may : Permission) (place address size value : ℕ) (go : Tree (Next S)) → marked private (record { address = place; kind = Write }) ≡ false → GoesOn go
      → Turns (marked private) (writes may place address size value go)
  write_turns may place address size value go shared later =
      turns_choice (may true address size) (makes (access access_kinds.Write false place address size (value % 256 ^ size)) go) (λ v lt. (one (record { shared = shared; first = refl }), later))

  load_view : (t a : Temp) (size place : ℕ) (b : Bool) → marked private (record { address = place; kind = Read }) ≡ b → View (steps.Load t a size place)
  load_view t a size place true same = a-other (record {
    role_is = ap (λ b. boundary_unless b Read) same;
    kept = refl;
    placed = ap (λ b. if b then steps.Load t a size place ∷ [] else steps.Load t a size place ∷ steps.Fence Frm ∷ []) same;
    quiet = λ may s. makes_reads (IsQuiet (marked private)) may place (of s a) size _ (λ allowed v. same) (λ v. tt);
  })
  load_view t a size place false same = a-slot {kind = Read} (record {
    role_is = ap (λ b. boundary_unless b Read) same;
    kept = refl;
    placed = ap (λ b. if b then steps.Load t a size place ∷ [] else steps.Load t a size place ∷ steps.Fence Frm ∷ []) same;
    costs = omega arith;
    turns = λ may s. read_turns may place (of s a) size _ same (λ v. tt);
  })

  store_view : (a v : Temp) (size place : ℕ) (b : Bool) → marked private (record { address = place; kind = Write }) ≡ b → View (steps.Store a v size place)
  store_view a v size place true same = a-other (record {
    role_is = ap (λ b. boundary_unless b Write) same;
    kept = refl;
    placed = ap (λ b. if b then steps.Store a v size place ∷ [] else steps.Fence Fww ∷ steps.Store a v size place ∷ []) same;
    quiet = λ may s. makes_writes (IsQuiet (marked private)) may place (of s a) size (of s v) (goes s) (λ allowed. same) tt;
  })
  store_view a v size place false same = a-slot {kind = Write} (record {
    role_is = ap (λ b. boundary_unless b Write) same;
    kept = refl;
    placed = ap (λ b. if b then steps.Store a v size place ∷ [] else steps.Fence Fww ∷ steps.Store a v size place ∷ []) same;
    costs = omega arith;
    turns = λ may s. write_turns may place (of s a) size (of s v) (goes s) same tt;
  })

  -- a step without accesses
  plain : (x : IrStep) → role private x ≡ Other → without_fence x ≡ x ∷ [] → fenced private x ≡ x ∷ []
      → ((may : Permission) (s : IrState) → AllMakes (IsQuiet (marked private)) (ir_step may x s)) → View x
  plain x same kept placed quiet = a-other (record { role_is = same; kept = kept; placed = placed; quiet = quiet })

  pub view : (x : IrStep) → View x
  view (steps.Load t a size place) = load_view t a size place (marked private (record { address = place; kind = Read })) refl
  view (steps.Store a v size place) = store_view a v size place (marked private (record { address = place; kind = Write })) refl
  view (steps.Rmw op t a v size place) = a-slot {kind = Locked} (record {
    role_is = refl;
    kept = refl;
    placed = refl;
    costs = omega arith;
    turns = λ may s. exchange_turns may place (of s a) size (λ old. Some (rmw_value op old (of s v))) (λ old. goes (set t old s)) (λ v. tt);
  })
  view (steps.Cas t a e v size place) = a-slot {kind = Locked} (record {
    role_is = refl;
    kept = refl;
    placed = refl;
    costs = omega arith;
    turns = λ may s. exchange_turns may place (of s a) size (λ old. if old == of s e % 256 ^ size then Some (of s v) else None) (λ old. goes (set t old s)) (λ v. tt);
  })
  view (steps.Fence f) = a-fence
  view (steps.Const t v) = plain (steps.Const t v) refl refl refl (λ may s. tt)
  view (steps.GetReg t r) = plain (steps.GetReg t r) refl refl refl (λ may s. tt)
  view (steps.SetReg r t) = plain (steps.SetReg r t) refl refl refl (λ may s. tt)
  view (steps.GetFlag t f) = plain (steps.GetFlag t f) refl refl refl (λ may s. tt)
  view (steps.SetFlag f t) = plain (steps.SetFlag f t) refl refl refl (λ may s. tt)
  view (steps.Op op t a b) = plain (steps.Op op t a b) refl refl refl (λ may s. tt)
  view (steps.Select t c a b) = plain (steps.Select t c a b) refl refl refl (λ may s. tt)
  view steps.Input = plain steps.Input refl refl refl (λ may s v lt. ((tt, tt), tt))
  view steps.Output = plain steps.Output refl refl refl (λ may s v lt. ((tt, tt), tt))
  view (steps.TrapIf t kind) =
      plain (steps.TrapIf t kind) refl refl refl (λ may s. makes_choice (IsQuiet (marked private)) (of s t == 0) (goes s) (traps kind) tt tt)
