-- The slots that are kept are in order.
use Rattle.std.proofs.Common.{◌≡◌, ◌<◌, ◌++◌, ℕ, zero, suc, Bool, true, false, List, [], ◌∷◌, map, ◌⊎◌, inl, inr, refl, sym, ap, subst, ◌∙◌, arith}
use Rattle.std.specs.Prelude.{if◌then◌else◌}
use Rattle.std.specs.List.{flat_map}
use Rattle.std.specs.Option.{is_some}
use Rattle.graph_reach.specs.Sources.{source_of}
use Rattle.ev_graph.specs.Places.{StandsIn}
use Rattle.ev_graph.proofs.Members.{stands_cases}
use Rattle.x64_syntax.specs.declared.instr.AluOp.{AluOp}
use Rattle.x64_syntax.specs.declared.instr.AluOp.TheVariants as op
use Rattle.x64_syntax.specs.declared.instr.Instr.{Instr}
use Rattle.x64_syntax.specs.declared.instr.Instr.TheVariants as instr
use Rattle.x64_syntax.specs.declared.instr_slots.InstrSlot.{InstrSlot}
use Rattle.x64_syntax.specs.declared.operand.Operand.{Operand}
use Rattle.x64_syntax.specs.declared.operand.Operand.TheVariants as operand
use Rattle.x64_syntax.specs.declared.placed.Flow.{Flow}
use Rattle.x64_syntax.specs.declared.placed.Flow.TheVariants as flow
use Rattle.x64_syntax.specs.declared.placed.Placed.{Placed}
use Rattle.x64_syntax.specs.declared.slots.Slot.{Slot}
use Rattle.x64_syntax.specs.declared.slots.SlotKind.TheVariants as kind
use Rattle.x64_syntax.specs.Slots.{slots, read_slots, write_slots, change_slots, compare_slots, move_slots, combine_slots, alu_slots, jump_slots, indirect_slots, push_slots, pop_slots}
use Rattle.cfg_walk.specs.Code.{IsIncreasing}
use Rattle.frame_marks.specs.Marks.{Before, IsInOrder}
use Rattle.frame_marks.specs.Lists.{address_of, is_private, slot_of, kept, kept_by}
use Rattle.frame_marks.proofs.Gathered.{gathered_from}
use Rattle.frame_marks.proofs.Searched.{map_get, tail_sorted}
use Rattle.frame_marks.proofs.Plain.{some_same, no_some}

-- ---- lists in order

none_in_order : IsInOrder []
none_in_order i j a b less one other = absurd (no_some one)

cons_in_order : (x : Slot) (xs : List Slot) → ((y : Slot) → StandsIn xs y → Before x y) → IsInOrder xs → IsInOrder (x ∷ xs)
cons_in_order x xs before sorted zero zero a b less one other = absurd (omega arith)
cons_in_order x xs before sorted zero (suc j) a b less one other = subst (λ y. Before y b) (some_same one) (before b (j, other))
cons_in_order x xs before sorted (suc i) zero a b less one other = absurd (omega arith)
cons_in_order x xs before sorted (suc i) (suc j) a b less one other = sorted i j a b (omega (arith, less)) one other

pub tail_in_order : (x : Slot) (xs : List Slot) → IsInOrder (x ∷ xs) → IsInOrder xs
tail_in_order x xs sorted i j a b less one other = sorted (suc i) (suc j) a b (omega (arith, less)) one other

-- two lists in order, each slot of the first before each of the second
join_in_order : (xs ys : List Slot) → IsInOrder xs → IsInOrder ys → ((x y : Slot) → StandsIn xs x → StandsIn ys y → Before x y)
    → IsInOrder (xs ++ ys)
join_in_order [] ys one other before = other
join_in_order (x ∷ xs) ys one other before =
    cons_in_order x (xs ++ ys) (λ y at. first y (stands_cases xs ys y at))
    (join_in_order xs ys (tail_in_order x xs one) other (λ a b in_xs in_ys. before a b (suc in_xs.0, in_xs.1) in_ys))
  where
    first : (y : Slot) → StandsIn xs y ⊎ StandsIn ys y → Before x y
    first y (inl at) = one 0 (suc at.0) x y (omega arith) refl at.1
    first y (inr at) = before x y (zero, refl) at

-- ---- the slots of one instruction

-- none, or one, or a read and then a write
abbrev AreReadWrite : List InstrSlot → Type 0
AreReadWrite [] = Unit {0}
AreReadWrite (a ∷ []) = Unit {0}
AreReadWrite (a ∷ b ∷ []) = (a.kind ≡ kind.Read) × (b.kind ≡ kind.Write)
AreReadWrite (a ∷ b ∷ c ∷ more) = ⊥

read : (o : Operand) → AreReadWrite (read_slots o)
read (operand.Mem m) = tt
read o = tt

write : (o : Operand) → AreReadWrite (write_slots o)
write (operand.Mem m) = tt
write o = tt

change : (locked : Bool) (o : Operand) → AreReadWrite (change_slots locked o)
change true (operand.Mem m) = tt
change false (operand.Mem m) = (refl, refl)
change locked o = tt

compare : (to from : Operand) → AreReadWrite (compare_slots to from)
compare (operand.Mem m) from = tt
compare to from = read from

move : (to from : Operand) → AreReadWrite (move_slots to from)
move (operand.Mem m) from = tt
move to from = read from

combine : (locked : Bool) (to from : Operand) → AreReadWrite (combine_slots locked to from)
combine locked (operand.Mem m) from = change locked (operand.Mem m)
combine locked to from = read from

alu : (o : AluOp) (locked : Bool) (to from : Operand) → AreReadWrite (alu_slots o locked to from)
alu op.Cmp locked to from = compare to from
alu o locked to from = combine locked to from

jump : (f : Flow) → AreReadWrite (jump_slots f)
jump flow.ListedIn = tt
jump flow.ListedOut = tt
jump f = tt

indirect : (f : Flow) (to : Operand) → AreReadWrite (indirect_slots f to)
indirect flow.TableJump to = tt
indirect f to = read to

push : (from : Operand) → AreReadWrite (push_slots from)
push (operand.Mem m) = (refl, refl)
push from = tt

pop : (to : Operand) → AreReadWrite (pop_slots to)
pop (operand.Mem m) = (refl, refl)
pop to = tt

read_write : (i : Instr) (f : Flow) → AreReadWrite (slots i f)
read_write (instr.Alu o w to from locked) f = alu o locked to from
read_write (instr.Test w to from) f = compare to from
read_write (instr.Xchg w to from locked) f = combine locked to from
read_write (instr.Mov w to from) f = move to from
read_write (instr.MovZx w v to from) f = read from
read_write (instr.MovSx w v to from) f = read from
read_write (instr.MovSxd to from) f = read from
read_write (instr.Push from) f = push from
read_write (instr.Pop to) f = pop to
read_write (instr.Jmp d) f = jump f
read_write (instr.CallInd to) f = push to
read_write (instr.JmpInd to) f = indirect f to
read_write (instr.SetCc c to) f = write to
read_write (instr.CmovCc c w to from) f = read from
read_write (instr.Inc w to locked) f = change locked to
read_write (instr.Dec w to locked) f = change locked to
read_write (instr.Not w to locked) f = change locked to
read_write (instr.Neg w to) f = change false to
read_write (instr.Mul w from) f = read from
read_write (instr.ImulOne w from) f = read from
read_write (instr.Div w from) f = read from
read_write (instr.Idiv w from) f = read from
read_write (instr.ImulTwo w to from) f = read from
read_write (instr.ImulThree w to from by) f = read from
read_write (instr.Shift o w to by) f = change false to
read_write (instr.Cmpxchg w to from locked) f = combine locked to from
read_write (instr.Xadd w to from locked) f = combine locked to from
read_write i f = tt

-- ---- the slots that are kept

module _ (e u : Bool) (address : ℕ) where
  kept_slot : (access : InstrSlot) (slot : Slot) → StandsIn (kept e u address access) slot → slot_of address access ≡ slot
  kept_slot access slot at = by_test (is_private e u access) at
    where
      by_test : (b : Bool) → StandsIn (if b then slot_of address access ∷ [] else []) slot → slot_of address access ≡ slot
      by_test true (zero, here) = some_same here
      by_test true (suc i, here) = absurd (no_some here)
      by_test false at = absurd (no_some at.1)

  kept_in_order : (access : InstrSlot) → IsInOrder (kept e u address access)
  kept_in_order access = by_test (is_private e u access)
    where
      by_test : (b : Bool) → IsInOrder (if b then slot_of address access ∷ [] else [])
      by_test true = cons_in_order (slot_of address access) [] (λ y at. absurd (no_some at.1)) none_in_order
      by_test false = none_in_order

  all_in_order : (accesses : List InstrSlot) → AreReadWrite accesses → IsInOrder (flat_map (kept e u address) accesses)
  all_in_order [] shape = none_in_order
  all_in_order (a ∷ []) shape = join_in_order (kept e u address a) [] (kept_in_order a) none_in_order
      (λ x y in_xs at. absurd (no_some at.1))
  all_in_order (a ∷ b ∷ []) shape =
      join_in_order (kept e u address a) (kept e u address b ++ []) (kept_in_order a)
      (join_in_order (kept e u address b) [] (kept_in_order b) none_in_order (λ x y in_xs at. absurd (no_some at.1))) before
    where
      before : (x y : Slot) → StandsIn (kept e u address a) x → StandsIn (kept e u address b ++ []) y → Before x y
      before x y in_a in_b = by_side (stands_cases (kept e u address b) [] y in_b)
        where
          by_side : StandsIn (kept e u address b) y ⊎ StandsIn [] y → Before x y
          by_side (inr at) = absurd (no_some at.1)
          by_side (inl at) =
              let one = kept_slot a x in_a in
              let other = kept_slot b y at in
              inr (
                sym (ap (λ (s : Slot). s.address) one) ∙ ap (λ (s : Slot). s.address) other,
                sym (ap (λ (s : Slot). s.kind) one) ∙ shape.0,
                sym (ap (λ (s : Slot). s.kind) other) ∙ shape.1,
              )
  all_in_order (a ∷ b ∷ c ∷ more) shape = absurd shape

  -- a kept slot has the address of its instruction
  all_address : (accesses : List InstrSlot) (slot : Slot) → StandsIn (flat_map (kept e u address) accesses) slot → address ≡ slot.address
  all_address accesses slot at =
      let there = gathered_from (kept e u address) accesses slot at in
      ap (λ (s : Slot). s.address) (kept_slot there.0 slot there.2)

  -- the kept slots of one instruction
  pub of_in_order : (i : Instr) (f : Flow) → IsInOrder (flat_map (kept e u address) (slots i f))
  of_in_order i f = all_in_order (slots i f) (read_write i f)

-- instructions in order give slots in order, where each gives slots at its address that are in order
pub gathered_in_order : (slots_of : Placed → List Slot) → ((p : Placed) → IsInOrder (slots_of p)) →
    ((p : Placed) (slot : Slot) → StandsIn (slots_of p) slot → p.address ≡ slot.address)
    → (placed : List Placed) → IsIncreasing (map address_of placed) → IsInOrder (flat_map slots_of placed)
gathered_in_order slots_of each at_address [] sorted = none_in_order
gathered_in_order slots_of each at_address (q ∷ ps) sorted =
    join_in_order (slots_of q) (flat_map slots_of ps) (each q)
    (gathered_in_order slots_of each at_address ps (tail_sorted q ps sorted)) before
  where
    before : (x y : Slot) → StandsIn (slots_of q) x → StandsIn (flat_map slots_of ps) y → Before x y
    before x y in_q in_ps =
        let there = gathered_from slots_of ps y in_ps in
        let less : q.address < there.0.address = sorted 0 (suc there.1.0) q.address there.0.address (omega arith) refl
        (map_get address_of ps there.1.0 there.0 there.1.1) in
        inl (subst (λ a. a < y.address) (at_address q x in_q) (subst (λ b. q.address < b) (at_address there.0 y there.2) less))

-- the kept slots are in order
pub kept_sorted : (exposed pointerless : List (ℕ × ℕ)) (placed : List Placed) → IsIncreasing (map address_of placed) → IsInOrder
    (flat_map (kept_by exposed pointerless) placed)
kept_sorted exposed pointerless = gathered_in_order (kept_by exposed pointerless) each at_address
  where
    each : (p : Placed) → IsInOrder (kept_by exposed pointerless p)
    each p = of_in_order (is_some (source_of exposed p.address)) (is_some (source_of pointerless p.address)) p.address p.instr p.flow

    at_address : (p : Placed) (slot : Slot) → StandsIn (kept_by exposed pointerless p) slot → p.address ≡ slot.address
    at_address p slot at =
        all_address (is_some (source_of exposed p.address)) (is_some (source_of pointerless p.address)) p.address
        (slots p.instr p.flow) slot at
