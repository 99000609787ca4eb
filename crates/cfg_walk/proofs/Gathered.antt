-- Addresses that are gathered from each placed instruction.
use Rattle.std.proofs.Common.{◌≡◌, ◌↔◌, ℕ, zero, suc, List, [], ◌∷◌, ◌++◌, get_or, ◌⊎◌, inl, inr, Some, refl, subst, arith}
use Rattle.std.specs.List.{flat_map, slice_get, AllByRecursion}
use Rattle.std.proofs.lemmas.List.Elements.{Contains-append_left, Contains-append_right, Contains-append_cases}
use Rattle.std.proofs.lemmas.Option.{slice_get-get_or}
use Rattle.x64_syntax.specs.declared.placed.Placed.{Placed}
use Rattle.elf_read.specs.Elf.{IsSegment}
use Rattle.ev_graph.specs.Places.{StandsIn}
use Rattle.code_at.specs.Code.{Program}
use Rattle.code_at.proofs.CallerLemmas.{ends_low}
use Rattle.cfg_walk.specs.Blocks.{IsLeader, IsSite, IsFunction}
use Rattle.cfg_walk.specs.Blocks.IsLeader.{at-entry, at-table, at-led}
use Rattle.cfg_walk.specs.Known.{IsKnown}
use Rattle.cfg_walk.specs.Ends.{EndLow, led_by, called_by, returned_by}
use Rattle.cfg_walk.proofs.Sets.{contains, stands}

pub in_left : (xs ys : List ℕ) (a : ℕ) → StandsIn xs a → StandsIn (xs ++ ys) a
in_left xs ys a at = stands (xs ++ ys) a (Contains-append_left xs ys a (contains xs a at))

pub in_right : (xs ys : List ℕ) (a : ℕ) → StandsIn ys a → StandsIn (xs ++ ys) a
in_right xs ys a at = stands (xs ++ ys) a (Contains-append_right xs ys a (contains ys a at))

pub in_either : (xs ys : List ℕ) (a : ℕ) → StandsIn (xs ++ ys) a → StandsIn xs a ⊎ StandsIn ys a
in_either xs ys a at = elim (Contains-append_cases xs ys a (contains (xs ++ ys) a at)) [
  | inl left ↦ inl (stands xs a left)
  | inr right ↦ inr (stands ys a right)
]

-- what stands in a gathered list comes from an element
gathered_from : (f : Placed → List ℕ) (xs : List Placed) (a : ℕ) → StandsIn (flat_map f xs) a → (p : Placed) × StandsIn xs p × StandsIn (f p) a
gathered_from f [] a at = absurd (let none = at.1 in cc)
gathered_from f (x ∷ xs) a at = elim (in_either (f x) (flat_map f xs) a at) [
  | inl here ↦ (x, (zero, refl), here)
  | inr later ↦ (let rest = gathered_from f xs a later in (rest.0, (suc rest.1.0, rest.1.1), rest.2))
]

-- and what comes from one stands there
gathered : (f : Placed → List ℕ) (xs : List Placed) (i : ℕ) (p : Placed) (a : ℕ) → slice_get xs i ≡ Some p → StandsIn (f p) a → StandsIn (flat_map f xs) a
gathered f [] i p a here at = absurd (cc)
gathered f (x ∷ xs) zero p a here at = let same : p ≡ x = cc in in_left (f x) (flat_map f xs) a (subst (λ q. StandsIn (f q) a) same at)
gathered f (x ∷ xs) (suc i) p a here at = in_right (f x) (flat_map f xs) a (gathered f xs i p a here at)

-- the entries and where instructions lead are the leaders
pub leader_is : (program : Program) (placed : List Placed) → IsKnown program placed
    → (a : ℕ) → StandsIn (program.entries ++ flat_map led_by placed) a ↔ IsLeader program a
leader_is program placed known a = (from, to)
  where
    from : StandsIn (program.entries ++ flat_map led_by placed) a → IsLeader program a
    from at = elim (in_either program.entries (flat_map led_by placed) a at) [
      | inl entry ↦ at-entry entry
      | inr later ↦
          (let by = gathered_from led_by placed a later in at-led by.0 ((known.instructions.exact by.0).0 by.1) by.2)
    ]

    to : IsLeader program a → StandsIn (program.entries ++ flat_map led_by placed) a
    to (at-entry at) = in_left program.entries (flat_map led_by placed) a at
    to (at-table reached at) = absurd (known.no_table _ at.table reached at.begins)
    to (at-led p is at) =
        let place = (known.instructions.exact p).1 is in
        in_right program.entries (flat_map led_by placed) a
        (gathered led_by placed place.0 p a place.1 at)

-- where calls return to are the sites
pub site_is : (program : Program) (placed : List Placed) → IsKnown program placed
    → (a : ℕ) → StandsIn (flat_map returned_by placed) a ↔ IsSite program a
site_is program placed known a = (
  (λ at. let by = gathered_from returned_by placed a at in
      record { p = by.0; placed = (known.instructions.exact by.0).0 by.1; behind = by.2 }),
  (λ is. let place = (known.instructions.exact is.p).1 is.placed in
      gathered returned_by placed place.0 is.p a place.1 is.behind),
)

-- the entries and what is called are the functions
pub function_is : (program : Program) (placed : List Placed) → IsKnown program placed
    → (a : ℕ) → StandsIn (program.entries ++ flat_map called_by placed) a ↔ IsFunction program a
function_is program placed known a = (from, to)
  where
    from : StandsIn (program.entries ++ flat_map called_by placed) a → IsFunction program a
    from at = elim (in_either program.entries (flat_map called_by placed) a at) [
      | inl entry ↦ inl entry
      | inr later ↦
          (let by = gathered_from called_by placed a later in
          inr (record { p = by.0; placed = (known.instructions.exact by.0).0 by.1; target = by.2 }))
    ]

    to : IsFunction program a → StandsIn (program.entries ++ flat_map called_by placed) a
    to (inl at) = in_left program.entries (flat_map called_by placed) a at
    to (inr is) =
        let place = (known.instructions.exact is.p).1 is.placed in
        in_right program.entries (flat_map called_by placed) a
        (gathered called_by placed place.0 is.p a place.1 is.target)

-- the instructions of an accepted file end low
pub known_low : (program : Program) (placed : List Placed) → AllByRecursion IsSegment program.parts → IsKnown program placed → EndLow placed
known_low program placed segments known k d within =
    let p = get_or placed k d in
    let is = (known.instructions.exact p).0 (k, slice_get-get_or placed k d within) in
    let low = ends_low program p.address p segments is.stands in
    omega (arith, low)
