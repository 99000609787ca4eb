-- What is seen of items: part by part, and less of it.
use Rattle.std.proofs.Common.{◌≡◌, ℕ, suc, ◌+◌, List, [], ◌∷◌, ◌++◌, refl, sym, ap, ◌∙◌, arith}
use Rattle.ev_graph.specs.declared.events.Item.{Item}
use Rattle.ev_graph.specs.declared.events.Item.TheVariants as items
use Rattle.ev_graph.specs.declared.events.AccessKind.{AccessKind}
use Rattle.ev_graph.specs.declared.events.AccessKind.TheVariants.{Read, Write}
use Rattle.ev_graph.specs.declared.events.FenceKind.{FenceKind}
use Rattle.ev_graph.specs.declared.events.FenceKind.TheVariants.{Frm, Fww, Fsc, Mfence, DmbLd, DmbSt, DmbFull}
use Rattle.behavior.specs.Seen.{trace, placed, barrier, lowered, with_full, full, placed_full, all_items, given_by, given, counted}

-- what is seen of a list is what is seen of its parts, one behind the other
pub record SeesByParts (seen : List Item → List Item) : Type 0 where
  pub none : seen [] ≡ []
  pub append : (xs ys : List Item) → seen (xs ++ ys) ≡ seen xs ++ seen ys

-- where the first shows no difference, the second shows none
abbrev pub IsCoarser : (fine coarse : List Item → List Item) → Type 0
IsCoarser fine coarse = (xs ys : List Item) → fine xs ≡ fine ys → coarse xs ≡ coarse ys

pub trace-append : (xs ys : List Item) → trace (xs ++ ys) ≡ trace xs ++ trace ys
trace-append [] ys = refl
trace-append (items.Access a ∷ is) ys = ap (λ l. items.Access (record a { place = 0 }) ∷ l) (trace-append is ys)
trace-append (items.Fence f ∷ is) ys = trace-append is ys
trace-append (items.Input t ∷ is) ys = ap (λ l. items.Input (record t { place = 0 }) ∷ l) (trace-append is ys)
trace-append (items.Output t ∷ is) ys = ap (λ l. items.Output (record t { place = 0 }) ∷ l) (trace-append is ys)

pub placed-append : (xs ys : List Item) → placed (xs ++ ys) ≡ placed xs ++ placed ys
placed-append [] ys = refl
placed-append (items.Access a ∷ is) ys = ap (λ l. items.Access a ∷ l) (placed-append is ys)
placed-append (items.Fence f ∷ is) ys = placed-append is ys
placed-append (items.Input t ∷ is) ys = ap (λ l. items.Input (record t { place = 0 }) ∷ l) (placed-append is ys)
placed-append (items.Output t ∷ is) ys = ap (λ l. items.Output (record t { place = 0 }) ∷ l) (placed-append is ys)

pub lowered-append : (xs ys : List Item) → lowered (xs ++ ys) ≡ lowered xs ++ lowered ys
lowered-append [] ys = refl
lowered-append (items.Access a ∷ is) ys = ap (λ l. items.Access (record a { place = 0 }) ∷ l) (lowered-append is ys)
lowered-append (items.Fence f ∷ is) ys = ap (λ l. items.Fence (record { kind = barrier f.kind; place = 0 }) ∷ l) (lowered-append is ys)
lowered-append (items.Input t ∷ is) ys = ap (λ l. items.Input (record t { place = 0 }) ∷ l) (lowered-append is ys)
lowered-append (items.Output t ∷ is) ys = ap (λ l. items.Output (record t { place = 0 }) ∷ l) (lowered-append is ys)

with_full-append : (kind : FenceKind) (xs ys : List Item) → with_full kind (xs ++ ys) ≡ with_full kind xs ++ ys
with_full-append Frm xs ys = refl
with_full-append Fww xs ys = refl
with_full-append Fsc xs ys = refl
with_full-append Mfence xs ys = refl
with_full-append DmbLd xs ys = refl
with_full-append DmbSt xs ys = refl
with_full-append DmbFull xs ys = refl

pub full-append : (xs ys : List Item) → full (xs ++ ys) ≡ full xs ++ full ys
full-append [] ys = refl
full-append (items.Access a ∷ is) ys = ap (λ l. items.Access (record a { place = 0 }) ∷ l) (full-append is ys)
full-append (items.Fence f ∷ is) ys = ap (with_full f.kind) (full-append is ys) ∙ with_full-append f.kind (full is) (full ys)
full-append (items.Input t ∷ is) ys = ap (λ l. items.Input (record t { place = 0 }) ∷ l) (full-append is ys)
full-append (items.Output t ∷ is) ys = ap (λ l. items.Output (record t { place = 0 }) ∷ l) (full-append is ys)

pub placed_full-append : (xs ys : List Item) → placed_full (xs ++ ys) ≡ placed_full xs ++ placed_full ys
placed_full-append [] ys = refl
placed_full-append (items.Access a ∷ is) ys = ap (λ l. items.Access a ∷ l) (placed_full-append is ys)
placed_full-append (items.Fence f ∷ is) ys = ap (with_full f.kind) (placed_full-append is ys) ∙ with_full-append f.kind (placed_full is) (placed_full ys)
placed_full-append (items.Input t ∷ is) ys = ap (λ l. items.Input (record t { place = 0 }) ∷ l) (placed_full-append is ys)
placed_full-append (items.Output t ∷ is) ys = ap (λ l. items.Output (record t { place = 0 }) ∷ l) (placed_full-append is ys)

pub sees-trace : SeesByParts trace
sees-trace = record { none = refl; append = trace-append }

pub sees-placed : SeesByParts placed
sees-placed = record { none = refl; append = placed-append }

pub sees-lowered : SeesByParts lowered
sees-lowered = record { none = refl; append = lowered-append }

pub sees-full : SeesByParts full
sees-full = record { none = refl; append = full-append }

pub sees-placed_full : SeesByParts placed_full
sees-placed_full = record { none = refl; append = placed_full-append }

pub sees-all_items : SeesByParts all_items
sees-all_items = record { none = refl; append = λ xs ys. refl }

given_by-append : (kind : AccessKind) (value : ℕ) (xs ys : List ℕ) → given_by kind value (xs ++ ys) ≡ given_by kind value xs ++ ys
given_by-append Read value xs ys = refl
given_by-append Write value xs ys = refl

pub given-append : (xs ys : List Item) → given (xs ++ ys) ≡ given xs ++ given ys
given-append [] ys = refl
given-append (items.Access a ∷ is) ys = ap (given_by a.kind a.value) (given-append is ys) ∙ given_by-append a.kind a.value (given is) (given ys)
given-append (items.Fence f ∷ is) ys = given-append is ys
given-append (items.Input t ∷ is) ys = ap (λ l. t.value ∷ l) (given-append is ys)
given-append (items.Output t ∷ is) ys = given-append is ys

pub counted-append : (xs ys : List Item) → counted (xs ++ ys) ≡ counted xs + counted ys
counted-append [] ys = omega arith
counted-append (items.Access a ∷ is) ys = omega (arith, counted-append is ys)
counted-append (items.Fence f ∷ is) ys = counted-append is ys
counted-append (items.Input t ∷ is) ys = omega (arith, counted-append is ys)
counted-append (items.Output t ∷ is) ys = omega (arith, counted-append is ys)

-- the values and the count show in the trace
pub given-trace : (xs : List Item) → given (trace xs) ≡ given xs
given-trace [] = refl
given-trace (items.Access a ∷ is) = ap (given_by a.kind a.value) (given-trace is)
given-trace (items.Fence f ∷ is) = given-trace is
given-trace (items.Input t ∷ is) = ap (λ l. t.value ∷ l) (given-trace is)
given-trace (items.Output t ∷ is) = given-trace is

pub counted-trace : (xs : List Item) → counted (trace xs) ≡ counted xs
counted-trace [] = refl
counted-trace (items.Access a ∷ is) = ap suc (counted-trace is)
counted-trace (items.Fence f ∷ is) = counted-trace is
counted-trace (items.Input t ∷ is) = ap suc (counted-trace is)
counted-trace (items.Output t ∷ is) = ap suc (counted-trace is)

-- where nothing counts, the trace is empty
pub trace-none : (xs : List Item) → counted xs ≡ 0 → trace xs ≡ []
trace-none [] none = refl
trace-none (items.Access a ∷ is) none = absurd (omega (arith, none))
trace-none (items.Fence f ∷ is) none = trace-none is none
trace-none (items.Input t ∷ is) none = absurd (omega (arith, none))
trace-none (items.Output t ∷ is) none = absurd (omega (arith, none))

trace-lowered : (xs : List Item) → trace (lowered xs) ≡ trace xs
trace-lowered [] = refl
trace-lowered (items.Access a ∷ is) = ap (λ l. items.Access (record a { place = 0 }) ∷ l) (trace-lowered is)
trace-lowered (items.Fence f ∷ is) = trace-lowered is
trace-lowered (items.Input t ∷ is) = ap (λ l. items.Input (record t { place = 0 }) ∷ l) (trace-lowered is)
trace-lowered (items.Output t ∷ is) = ap (λ l. items.Output (record t { place = 0 }) ∷ l) (trace-lowered is)

trace-placed : (xs : List Item) → trace (placed xs) ≡ trace xs
trace-placed [] = refl
trace-placed (items.Access a ∷ is) = ap (λ l. items.Access (record a { place = 0 }) ∷ l) (trace-placed is)
trace-placed (items.Fence f ∷ is) = trace-placed is
trace-placed (items.Input t ∷ is) = ap (λ l. items.Input (record t { place = 0 }) ∷ l) (trace-placed is)
trace-placed (items.Output t ∷ is) = ap (λ l. items.Output (record t { place = 0 }) ∷ l) (trace-placed is)

trace-with_full : (kind : FenceKind) (xs : List Item) → trace (with_full kind xs) ≡ trace xs
trace-with_full Frm xs = refl
trace-with_full Fww xs = refl
trace-with_full Fsc xs = refl
trace-with_full Mfence xs = refl
trace-with_full DmbLd xs = refl
trace-with_full DmbSt xs = refl
trace-with_full DmbFull xs = refl

trace-full : (xs : List Item) → trace (full xs) ≡ trace xs
trace-full [] = refl
trace-full (items.Access a ∷ is) = ap (λ l. items.Access (record a { place = 0 }) ∷ l) (trace-full is)
trace-full (items.Fence f ∷ is) = trace-with_full f.kind (full is) ∙ trace-full is
trace-full (items.Input t ∷ is) = ap (λ l. items.Input (record t { place = 0 }) ∷ l) (trace-full is)
trace-full (items.Output t ∷ is) = ap (λ l. items.Output (record t { place = 0 }) ∷ l) (trace-full is)

full-with_full : (kind : FenceKind) (xs : List Item) → full (with_full kind xs) ≡ with_full kind (full xs)
full-with_full Frm xs = refl
full-with_full Fww xs = refl
full-with_full Fsc xs = refl
full-with_full Mfence xs = refl
full-with_full DmbLd xs = refl
full-with_full DmbSt xs = refl
full-with_full DmbFull xs = refl

full-placed_full : (xs : List Item) → full (placed_full xs) ≡ full xs
full-placed_full [] = refl
full-placed_full (items.Access a ∷ is) = ap (λ l. items.Access (record a { place = 0 }) ∷ l) (full-placed_full is)
full-placed_full (items.Fence f ∷ is) = full-with_full f.kind (placed_full is) ∙ ap (with_full f.kind) (full-placed_full is)
full-placed_full (items.Input t ∷ is) = ap (λ l. items.Input (record t { place = 0 }) ∷ l) (full-placed_full is)
full-placed_full (items.Output t ∷ is) = ap (λ l. items.Output (record t { place = 0 }) ∷ l) (full-placed_full is)

with_full-barrier : (kind : FenceKind) (xs : List Item) → with_full (barrier kind) xs ≡ with_full kind xs
with_full-barrier Frm xs = refl
with_full-barrier Fww xs = refl
with_full-barrier Fsc xs = refl
with_full-barrier Mfence xs = refl
with_full-barrier DmbLd xs = refl
with_full-barrier DmbSt xs = refl
with_full-barrier DmbFull xs = refl

full-lowered : (xs : List Item) → full (lowered xs) ≡ full xs
full-lowered [] = refl
full-lowered (items.Access a ∷ is) = ap (λ l. items.Access (record a { place = 0 }) ∷ l) (full-lowered is)
full-lowered (items.Fence f ∷ is) = with_full-barrier f.kind (full (lowered is)) ∙ ap (with_full f.kind) (full-lowered is)
full-lowered (items.Input t ∷ is) = ap (λ l. items.Input (record t { place = 0 }) ∷ l) (full-lowered is)
full-lowered (items.Output t ∷ is) = ap (λ l. items.Output (record t { place = 0 }) ∷ l) (full-lowered is)

-- the trace shows less than the barriers with it, and less than the places with it; and each shows less than all
pub lowered-to_trace : IsCoarser lowered trace
lowered-to_trace xs ys same = sym (trace-lowered xs) ∙ ap trace same ∙ trace-lowered ys

pub placed-to_trace : IsCoarser placed trace
placed-to_trace xs ys same = sym (trace-placed xs) ∙ ap trace same ∙ trace-placed ys

-- the trace shows less than the full fences with it, and they show in what has the barriers or the places
pub full-to_trace : IsCoarser full trace
full-to_trace xs ys same = sym (trace-full xs) ∙ ap trace same ∙ trace-full ys

pub placed_full-to_full : IsCoarser placed_full full
placed_full-to_full xs ys same = sym (full-placed_full xs) ∙ ap full same ∙ full-placed_full ys

pub lowered-to_full : IsCoarser lowered full
lowered-to_full xs ys same = sym (full-lowered xs) ∙ ap full same ∙ full-lowered ys

pub all_items-to : (coarse : List Item → List Item) → IsCoarser all_items coarse
all_items-to coarse xs ys same = ap coarse same
