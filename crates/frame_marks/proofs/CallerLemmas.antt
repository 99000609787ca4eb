-- What callers of this crate cite. Where a lemma stands under `pub use`, its line of meaning stands where it is proved.
use Rattle.std.proofs.Common.{◌≡◌, ◌≢◌, zero, suc, List, [], ◌∷◌, refl, ◌∙◌, arith}
use Rattle.std.specs.List.{AllByRecursion}
use Rattle.ev_graph.specs.Places.{StandsIn}
use Rattle.x64_syntax.specs.declared.slots.Slot.{Slot}
use Rattle.x64_syntax.specs.declared.slots.SlotKind.TheVariants as kind
use Rattle.code_at.specs.Code.{Program}
use Rattle.frame_marks.specs.Frames.{IsPrivate}
use Rattle.frame_marks.specs.Marks.{Before, IsInOrder, ArePrivate}
use Rattle.frame_marks.proofs.Unique.{same_slots}
-- a function and what is in its body is reached, and what is reached is in the body of some function
pub use Rattle.frame_marks.proofs.Functions.{body_reached, function_reached, in_some_body}
-- the slots behind the first are in order too
pub use Rattle.frame_marks.proofs.Ordered.{tail_in_order}

-- the first of slots in order comes before all others
pub head_before : (slot : Slot) (slots : List Slot) → IsInOrder (slot ∷ slots) → AllByRecursion (Before slot) slots
head_before slot slots sorted = each slots (λ other at. sorted 0 (suc at.0) slot other (omega arith) refl at.1)
  where
    each : (slots : List Slot) → ((other : Slot) → StandsIn slots other → Before slot other) → AllByRecursion (Before slot) slots
    each [] all = tt
    each (first ∷ rest) all = (all first (zero, refl), each rest (λ other at. all other (suc at.0, at.1)))

-- a private slot is not locked
pub private_unlocked : (program : Program) (slot : Slot) → IsPrivate program slot → slot.kind ≢ kind.Locked
private_unlocked program slot private locked = private.private.unlocked (private.kind ∙ locked)

-- a marked slot is private, and a private slot is marked
pub marked_private : (program : Program) (slots : List Slot) → ArePrivate program slots → (slot : Slot) → StandsIn slots slot
    → IsPrivate program slot
marked_private program slots are slot = (are.exact slot).0

pub private_marked : (program : Program) (slots : List Slot) → ArePrivate program slots → (slot : Slot) → IsPrivate program slot
    → StandsIn slots slot
private_marked program slots are slot = (are.exact slot).1

-- a program has one list of its private slots in order
pub one_list : (program : Program) (slots others : List Slot) → ArePrivate program slots → ArePrivate program others → slots ≡ others
one_list program slots others are also = same_slots slots others are.sorted also.sorted (λ slot. (
  (λ at. (also.exact slot).1 ((are.exact slot).0 at)),
  (λ at. (are.exact slot).1 ((also.exact slot).0 at)),
))
