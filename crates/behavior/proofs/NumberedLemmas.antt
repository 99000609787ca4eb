-- Naming the accesses of a run changes no more than their names.
use Rattle.std.proofs.Common.{◌≡◌, ℕ, suc, List, [], ◌∷◌, refl, ap}
use Rattle.std.specs.List.{AllByRecursion}
use Rattle.ev_graph.specs.declared.events.Item.{Item}
use Rattle.ev_graph.specs.declared.events.Item.TheVariants as items
use Rattle.ev_graph.specs.declared.events.Access.{Access}
use Rattle.behavior.specs.Seen.{trace, given, given_by, counted}
use Rattle.behavior.specs.Numbered.{numbered_from}

-- a trace is named as what it is the trace of
pub trace-numbered : (t i : ℕ) (xs : List Item) → trace (numbered_from t i xs) ≡ numbered_from t i (trace xs)
trace-numbered t i [] = refl
trace-numbered t i (items.Access a ∷ xs) = ap (λ l. items.Access (record a { id = record { thread = t; index = i }; place = 0 }) ∷ l) (trace-numbered t (suc i) xs)
trace-numbered t i (items.Fence f ∷ xs) = trace-numbered t i xs
trace-numbered t i (items.Input v ∷ xs) = ap (λ l. items.Input (record v { place = 0 }) ∷ l) (trace-numbered t i xs)
trace-numbered t i (items.Output v ∷ xs) = ap (λ l. items.Output (record v { place = 0 }) ∷ l) (trace-numbered t i xs)

-- the values from outside and the count stay
pub given-numbered : (t i : ℕ) (xs : List Item) → given (numbered_from t i xs) ≡ given xs
given-numbered t i [] = refl
given-numbered t i (items.Access a ∷ xs) = ap (given_by a.kind a.value) (given-numbered t (suc i) xs)
given-numbered t i (items.Fence f ∷ xs) = given-numbered t i xs
given-numbered t i (items.Input v ∷ xs) = ap (λ l. v.value ∷ l) (given-numbered t i xs)
given-numbered t i (items.Output v ∷ xs) = given-numbered t i xs

pub counted-numbered : (t i : ℕ) (xs : List Item) → counted (numbered_from t i xs) ≡ counted xs
counted-numbered t i [] = refl
counted-numbered t i (items.Access a ∷ xs) = ap suc (counted-numbered t (suc i) xs)
counted-numbered t i (items.Fence f ∷ xs) = counted-numbered t i xs
counted-numbered t i (items.Input v ∷ xs) = ap suc (counted-numbered t i xs)
counted-numbered t i (items.Output v ∷ xs) = ap suc (counted-numbered t i xs)

-- what does not depend on names stays true
pub all-numbered : (P : Item → Type 0) → ((a : Access) (t i : ℕ) → P (items.Access a) → P (items.Access (record a { id = record { thread = t; index = i } })))
    → (t i : ℕ) (xs : List Item) → AllByRecursion P xs → AllByRecursion P (numbered_from t i xs)
all-numbered P kept t i [] all = tt
all-numbered P kept t i (items.Access a ∷ xs) all = (kept a t i all.0, all-numbered P kept t (suc i) xs all.1)
all-numbered P kept t i (items.Fence f ∷ xs) all = (all.0, all-numbered P kept t i xs all.1)
all-numbered P kept t i (items.Input v ∷ xs) all = (all.0, all-numbered P kept t i xs all.1)
all-numbered P kept t i (items.Output v ∷ xs) all = (all.0, all-numbered P kept t i xs all.1)
