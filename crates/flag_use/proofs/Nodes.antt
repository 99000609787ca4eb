-- Nodes are told apart by their addresses and tracks, and where edges lead from one.
use Rattle.std.proofs.Common.{◌≡◌, ◌<◌, ◌/◌, ◌%◌, ◌==◌, ℕ, zero, suc, Bool, true, false, List, [], ◌∷◌, inl, inr, Option, Some, None, refl, sym, ap, ◌∙◌, subst, arith}
use Rattle.std.specs.Prelude.{if◌then◌else◌}
use Rattle.std.specs.List.{flat_map, sum_by}
use Rattle.std.specs.Option.{IsNone, IsSome}
use Rattle.std.proofs.lemmas.List.Sums.{sum_by-cons}
use Rattle.std.proofs.lemmas.Bool.Decides.{nat_tests}
use Rattle.ev_graph.specs.Places.{StandsIn}
use Rattle.ev_graph.proofs.Members.{stands_front, stands_back, stands_cases, stands_map, stands_image}
use Rattle.alu_width.specs.Effects.{Effects, leaves_undefined}
use Rattle.x64_syntax.specs.declared.placed.Placed.{Placed}
use Rattle.graph_reach.specs.Reach.{IsOver}
use Rattle.cfg_walk.specs.Machine.{placed_at}
use Rattle.flag_use.specs.declared.flag.Flag.{Flag}
use Rattle.flag_use.specs.declared.flag.Flag.TheVariants.{Cf, Zf, Sf, Of}
use Rattle.flag_use.specs.declared.track.Track.{Track}
use Rattle.flag_use.specs.declared.track.Track.TheVariants.{Any, Undefined}
use Rattle.flag_use.specs.Instructions.{effect_on}
use Rattle.flag_use.specs.Onward.{hub}
use Rattle.flag_use.specs.Walk.{number_of, track_of, node_of, nodes_of, all_flags, nodes_if, undefined_nodes, next_by, next_from, next_at, next, no_weight}

-- ---- numbers of nodes

number_small : (t : Track) → number_of t < 8
number_small Any = omega arith
number_small (Undefined Cf) = omega arith
number_small (Undefined Zf) = omega arith
number_small (Undefined Sf) = omega arith
number_small (Undefined Of) = omega arith

numbered : (t : Track) → track_of (number_of t) ≡ t
numbered Any = refl
numbered (Undefined Cf) = refl
numbered (Undefined Zf) = refl
numbered (Undefined Sf) = refl
numbered (Undefined Of) = refl

pub node_address : (a : ℕ) (t : Track) → node_of a t / 8 ≡ a
node_address a t = omega (arith, number_small t)

pub node_track : (a : ℕ) (t : Track) → track_of (node_of a t % 8) ≡ t
node_track a t = let rest : node_of a t % 8 ≡ number_of t = omega (arith, number_small t) in ap track_of rest ∙ numbered t

-- equal nodes are at equal addresses and ask for the same
pub same_address : (a b : ℕ) (t u : Track) → node_of a t ≡ node_of b u → a ≡ b
same_address a b t u e = sym (node_address a t) ∙ ap (λ (n : ℕ). n / 8) e ∙ node_address b u

pub same_track : (a b : ℕ) (t u : Track) → node_of a t ≡ node_of b u → t ≡ u
same_track a b t u e = sym (node_track a t) ∙ ap (λ (n : ℕ). track_of (n % 8)) e ∙ node_track b u

-- ---- edges

-- a path that has the first track leads, behind these effects, to one that has the second
pub data Passes (e : Effects) : Track → Track → Type 0 where
  still : Passes e Any Any
  leaves : (flag : Flag) → leaves_undefined (effect_on flag e) false ≡ true → Passes e Any (Undefined flag)
  keeps : (flag : Flag) → leaves_undefined (effect_on flag e) true ≡ true → Passes e (Undefined flag) (Undefined flag)

if_stands : (b : Bool) (addresses : List ℕ) (flag : Flag) (a : ℕ) → b ≡ true → StandsIn addresses a
    → StandsIn (nodes_if b addresses flag) (node_of a (Undefined flag))
if_stands true addresses flag a e at = stands_map (λ (b : ℕ). node_of b (Undefined flag)) addresses a at
if_stands false addresses flag a e at = absurd (cc)

if_image : (b : Bool) (addresses : List ℕ) (flag : Flag) (n : ℕ) → StandsIn (nodes_if b addresses flag) n
    → (b ≡ true) × ((a : ℕ) × StandsIn addresses a × (node_of a (Undefined flag) ≡ n))
if_image true addresses flag n at = (refl, stands_image (λ (b : ℕ). node_of b (Undefined flag)) addresses n at)
if_image false addresses flag n at = absurd (let none = at.1 in cc)

-- what stands in a list that is gathered from elements, and the other way
gathered_from : {A : Type 0} (f : A → List ℕ) (xs : List A) (n : ℕ) → StandsIn (flat_map f xs) n → (x : A) × StandsIn (f x) n
gathered_from f [] n at = absurd (let none = at.1 in cc)
gathered_from f (x ∷ xs) n at = elim (stands_cases (f x) (flat_map f xs) n at) [
  | inl here ↦ (x, here)
  | inr later ↦ gathered_from f xs n later
]

gathered : {A : Type 0} (f : A → List ℕ) (xs : List A) (x : A) (n : ℕ) → StandsIn xs x → StandsIn (f x) n → StandsIn (flat_map f xs) n
gathered f [] x n listed at = absurd (let none = listed.1 in cc)
gathered f (y ∷ xs) x n (zero, here) at =
    let same : x ≡ y = cc in stands_front (f y) (flat_map f xs) n (subst (λ z. StandsIn (f z) n) same at)
gathered f (y ∷ xs) x n (suc i, here) at = stands_back (f y) (flat_map f xs) n (gathered f xs x n (i, here) at)

each_flag : (flag : Flag) → StandsIn all_flags flag
each_flag Cf = (0, refl)
each_flag Zf = (1, refl)
each_flag Sf = (2, refl)
each_flag Of = (3, refl)

pub edge : (e : Effects) (addresses : List ℕ) (t u : Track) (a : ℕ) → Passes e t u → StandsIn addresses a
    → StandsIn (next_by e addresses t) (node_of a u)
edge e addresses Any u a still at =
    stands_front (nodes_of addresses Any) (flat_map (undefined_nodes e false addresses) all_flags) (node_of a Any)
    (stands_map (λ (b : ℕ). node_of b Any) addresses a at)
edge e addresses Any u a (leaves flag undefined) at =
    stands_back (nodes_of addresses Any) (flat_map (undefined_nodes e false addresses) all_flags) (node_of a (Undefined flag))
    (gathered (undefined_nodes e false addresses) all_flags flag (node_of a (Undefined flag)) (each_flag flag)
    (if_stands (leaves_undefined (effect_on flag e) false) addresses flag a undefined at))
edge e addresses t u a (keeps flag undefined) at = if_stands (leaves_undefined (effect_on flag e) true) addresses flag a undefined at

-- where an edge leads
pub record IsEdge (e : Effects) (addresses : List ℕ) (t : Track) (n : ℕ) : Type 0 where
  pub address : ℕ
  pub track : Track
  pub stands : StandsIn addresses address
  pub passes : Passes e t track
  pub node : node_of address track ≡ n

pub from_edge : (e : Effects) (addresses : List ℕ) (t : Track) (n : ℕ) → StandsIn (next_by e addresses t) n → IsEdge e addresses t n
from_edge e addresses Any n at =
    elim (stands_cases (nodes_of addresses Any) (flat_map (undefined_nodes e false addresses) all_flags) n at) [
      | inl any ↦
          (let there = stands_image (λ (b : ℕ). node_of b Any) addresses n any in
          record { address = there.0; track = Any; stands = there.1; passes = still; node = there.2 })
      | inr one ↦
          (let by = gathered_from (undefined_nodes e false addresses) all_flags n one in
          let there = if_image (leaves_undefined (effect_on by.0 e) false) addresses by.0 n by.1 in
          record { address = there.1.0; track = Undefined by.0; stands = there.1.1; passes = leaves by.0 there.0; node = there.1.2 })
    ]
from_edge e addresses (Undefined flag) n at =
    let there = if_image (leaves_undefined (effect_on flag e) true) addresses flag n at in
    record { address = there.1.0; track = Undefined flag; stands = there.1.1; passes = keeps flag there.0; node = there.1.2 }

-- ---- the edges from a node

module _ (placed : List Placed) (sites : List ℕ) where
  next_of : (a : ℕ) (t : Track) → next placed sites (node_of a t) ≡ next_at placed sites a t
  next_of a t =
      ap (λ (b : ℕ). next_at placed sites b (track_of (node_of a t % 8))) (node_address a t) ∙ ap (next_at placed sites a) (node_track a t)

  -- from the hub
  pub next_hub : (t : Track) → next placed sites (node_of hub t) ≡ nodes_of sites t
  next_hub t = next_of hub t

  -- from an address
  pub next_low : (a : ℕ) (t : Track) → a < hub → next placed sites (node_of a t) ≡ next_from (placed_at placed a) t
  next_low a t low = next_of a t ∙ by_test (a == hub) refl
    where
      by_test : (b : Bool) → (a == hub) ≡ b
          → (if b then nodes_of sites t else next_from (placed_at placed a) t) ≡ next_from (placed_at placed a) t
      by_test true e = absurd (let same : a ≡ hub = grind (arith, nat_tests) in omega (arith, same, low))
      by_test false e = refl

-- ---- nothing is over a limit where nothing weighs anything

weightless : (nodes : List ℕ) → sum_by no_weight nodes ≡ 0
weightless [] = refl
weightless (n ∷ ns) = let one = sum_by-cons no_weight n ns in let rest = weightless ns in omega (arith, one, rest)

pub within_limit : {A : Type 0} (successors : ℕ → List ℕ) (starts : List ℕ) (found : Option A)
    → (IsNone found → IsOver successors starts no_weight 0) → IsSome found
within_limit successors starts (Some x) over = refl
within_limit successors starts None over = let is = over refl in let none = weightless is.some in absurd (omega (arith, is.more, none))
