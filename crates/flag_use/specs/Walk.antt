-- The graph of which a search follows the paths. For each address it has a node that says that some path ends there, and one
-- for each flag that says that some path ends there with the flag undefined.
use Rattle.std.specs.Prelude.{◌≡◌, ℕ, ◌+◌, ◌*◌, ◌/◌, ◌%◌, ◌==◌, ◌<◌, ◌≤◌, Bool, All, true, false, List, [], ◌∷◌, ◌++◌, map, Option, Some, None, if◌then◌else◌}
use Rattle.std.specs.List.{flat_map}
use Rattle.ev_graph.specs.Places.{StandsIn}
use Rattle.alu_width.specs.Effects.{Effects, leaves_undefined}
use Rattle.x64_syntax.specs.declared.placed.Placed.{Placed}
use Rattle.cfg_walk.specs.Reach.{end_of}
use Rattle.cfg_walk.specs.Code.{IsIncreasing}
use Rattle.cfg_walk.specs.Machine.{placed_at}
use Rattle.flag_use.specs.declared.flag.Flag.{Flag}
use Rattle.flag_use.specs.declared.flag.Flag.TheVariants.{Cf, Zf, Sf, Of}
use Rattle.flag_use.specs.declared.track.Track.{Track}
use Rattle.flag_use.specs.declared.track.Track.TheVariants.{Any, Undefined}
use Rattle.flag_use.specs.Instructions.{effects_of, effect_on, reads}
use Rattle.flag_use.specs.Paths.{follows, returns}
use Rattle.flag_use.specs.Onward.{hub}

-- what a node at an address asks of paths, by a number below 5
abbrev pub number_of : Track → ℕ
number_of Any = 0
number_of (Undefined Cf) = 1
number_of (Undefined Zf) = 2
number_of (Undefined Sf) = 3
number_of (Undefined Of) = 4

abbrev pub track_of : ℕ → Track
track_of n =
    if n == 0 then Any
    else (if n == 1 then Undefined Cf
    else (if n == 2 then Undefined Zf
    else (if n == 3 then Undefined Sf
    else Undefined Of)))

-- the node at an address
abbrev pub node_of : (address : ℕ) → Track → ℕ
node_of address track = address * 8 + number_of track

-- the nodes at addresses
abbrev pub nodes_of : List ℕ → Track → List ℕ
nodes_of addresses track = map (λ a. node_of a track) addresses

-- where a path goes on from an instruction: after a return it goes to the hub, and from there to each return site
abbrev pub onward : Placed → List ℕ
onward p = follows p.instr p.flow (end_of p) ++ (if returns p.instr p.flow then hub ∷ [] else [])

-- the flags
abbrev pub all_flags : List Flag
all_flags = Cf ∷ Zf ∷ Sf ∷ Of ∷ []

-- the nodes at addresses that ask for a flag, if effects leave it undefined
abbrev pub nodes_if : Bool → List ℕ → Flag → List ℕ
nodes_if true addresses flag = nodes_of addresses (Undefined flag)
nodes_if false addresses flag = []

abbrev pub undefined_nodes : Effects → (was : Bool) → List ℕ → Flag → List ℕ
undefined_nodes e was addresses flag = nodes_if (leaves_undefined (effect_on flag e) was) addresses flag

-- where edges lead from a node, behind these effects and to these addresses
abbrev pub next_by : Effects → List ℕ → Track → List ℕ
next_by e addresses Any = nodes_of addresses Any ++ flat_map (undefined_nodes e false addresses) all_flags
next_by e addresses (Undefined flag) = undefined_nodes e true addresses flag

-- where they lead from a node at an instruction, and at an address
abbrev pub next_from : Option Placed → Track → List ℕ
next_from None track = []
next_from (Some p) track = next_by (effects_of p.instr) (onward p) track

abbrev pub next_at : List Placed → (sites : List ℕ) → (address : ℕ) → Track → List ℕ
next_at placed sites address track = if address == hub then nodes_of sites track else next_from (placed_at placed address) track

-- the edges of the graph
abbrev pub next : List Placed → (sites : List ℕ) → (node : ℕ) → List ℕ
next placed sites node = next_at placed sites (node / 8) (track_of (node % 8))

-- nothing is weighed
abbrev pub no_weight : ℕ → ℕ
no_weight node = 0

-- the instruction ends low, and so are the addresses to which a path goes on from it
pub record IsLow (p : Placed) : Type 0 where
  pub end : end_of p < hub
  pub leads : All (λ (a : ℕ). a ≤ hub) (onward p)

-- code in the order of its addresses, all of which are below the hub
pub record IsOrdered (placed : List Placed) (sites : List ℕ) : Type 0 where
  pub sorted : IsIncreasing (map (λ (p : Placed). p.address) placed)
  pub low : (p : Placed) → StandsIn placed p → IsLow p
  pub low_sites : All (λ (a : ℕ). a < hub) sites

-- the instruction reads a flag whose node is among these
pub record ReadsFound (nodes : List ℕ) (p : Placed) (flag : Flag) : Type 0 where
  pub reading : reads flag p.instr ≡ true
  pub found : StandsIn nodes (node_of p.address (Undefined flag))

-- it reads some such flag
abbrev pub ReadsSomeFound : List ℕ → Placed → Type 0
ReadsSomeFound nodes p = (flag : Flag) × ReadsFound nodes p flag

-- such an instruction is listed with this address
pub record StandsReading (nodes : List ℕ) (placed : List Placed) (a : ℕ) : Type 0 where
  pub p : Placed
  pub listed : StandsIn placed p
  pub here : p.address ≡ a
  pub reading : ReadsSomeFound nodes p
