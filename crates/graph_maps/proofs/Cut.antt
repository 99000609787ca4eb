-- Cycles of any relation, and elements that can be cut out of them.
use Rattle.std.proofs.Common.{◌≡◌, Bool, true, false, List, [], ◌∷◌, refl}
use Rattle.ev_graph.specs.Cycle.{Chain}

-- a map of pairs is a map of chains
pub chain_map : {A : Type 0} (R S : A → A → Type 0) → ((a b : A) → R a b → S a b) → (a : A) (via : List A) (b : A) → Chain R a via b → Chain S a via b
chain_map R S step a [] b chain = step a b chain
chain_map R S step a (v ∷ via) b (first, rest) = (step a v first, chain_map R S step v via b rest)

-- an element can be cut out where two pairs by way of it give one, and it leads not to itself
pub record CanCut {A : Type 0} (R : A → A → Type 0) (hidden : A → Bool) : Type 0 where
  pub join : (a p b : A) → hidden p ≡ true → R a p → R p b → R a b
  pub irreflexive : (p : A) → hidden p ≡ true → R p p → ⊥

-- a pair whose ends are not hidden
pub record Shown {A : Type 0} (R : A → A → Type 0) (hidden : A → Bool) (a b : A) : Type 0 where
  pub pair : R a b
  pub first : hidden a ≡ false
  pub second : hidden b ≡ false

-- the chain without the first element between
pub skip : {A : Type 0} (R : A → A → Type 0) (hidden : A → Bool) → CanCut R hidden → (a v : A) (via : List A) (b : A) → hidden v ≡ true
    → R a v → Chain R v via b → Chain R a via b
skip R hidden can a v [] b is_hidden first rest = can.join a v b is_hidden first rest
skip R hidden can a v (w ∷ via) b is_hidden first rest = (can.join a v w is_hidden first rest.0, rest.1)

-- the chain without its last element, by a pair that leads on from there
pub extend : {A : Type 0} (R : A → A → Type 0) (hidden : A → Bool) → CanCut R hidden → (a : A) (via : List A) (p b : A) → hidden p ≡ true
    → Chain R a via p → R p b → Chain R a via b
extend R hidden can a [] p b is_hidden chain last = can.join a p b is_hidden chain last
extend R hidden can a (v ∷ via) p b is_hidden chain last = (chain.0, extend R hidden can v via p b is_hidden chain.1 last)

-- a chain between two elements that are not hidden becomes one of such elements alone
pub cut : {A : Type 0} (R : A → A → Type 0) (hidden : A → Bool) → CanCut R hidden → (a : A) (via : List A) (b : A)
    → hidden a ≡ false → hidden b ≡ false → Chain R a via b → (past : List A) × Chain (Shown R hidden) a past b
cut {A} R hidden can a [] b start end chain = ([], record { pair = chain; first = start; second = end })
cut {A} R hidden can a (v ∷ via) b start end chain =
    let Goal : Bool → Type 0 = λ test. hidden v ≡ test → (past : List A) × Chain (Shown R hidden) a past b in
    let cases : Goal (hidden v) = elim (hidden v) as Goal [
      | true ↦ (λ is. cut R hidden can a via b start end (skip R hidden can a v via b is chain.0 chain.1))
      | false ↦ (λ is. let rest = cut R hidden can v via b is end chain.1 in (v ∷ rest.0, (record { pair = chain.0; first = start; second = is }, rest.1)))
    ] in
    cases refl

-- a cycle gives one of elements that are not hidden
pub cut_cycle : {A : Type 0} (R : A → A → Type 0) (hidden : A → Bool) → CanCut R hidden → (a : A) (via : List A) → Chain R a via a
    → (b : A) × (past : List A) × Chain (Shown R hidden) b past b
cut_cycle {A} R hidden can a [] cycle =
    let Goal : Bool → Type 0 = λ test. hidden a ≡ test → (b : A) × (past : List A) × Chain (Shown R hidden) b past b in
    let cases : Goal (hidden a) = elim (hidden a) as Goal [
      | true ↦ (λ is. absurd (can.irreflexive a is cycle))
      | false ↦ (λ is. (a, [], record { pair = cycle; first = is; second = is }))
    ] in
    cases refl
cut_cycle {A} R hidden can a (v ∷ via) cycle =
    let Goal : Bool → Type 0 = λ test. hidden a ≡ test → (b : A) × (past : List A) × Chain (Shown R hidden) b past b in
    let cases : Goal (hidden a) = elim (hidden a) as Goal [
      | true ↦ (λ is. cut_cycle R hidden can v via (extend R hidden can v via a v is cycle.1 cycle.0))
      | false ↦ (λ is. let found = cut R hidden can a (v ∷ via) a is is cycle in (a, found.0, found.1))
    ] in
    cases refl
