-- What the lanes of bytes say: coherence and from-reads.
use Rattle.std.proofs.Common.{◌≡◌, ◌<◌, ◌≤◌, ◌+◌, ◌-◌, ℕ, List, Some, arith}
use Rattle.std.specs.List.{slice_get}
use Rattle.ev_graph.specs.declared.events.Access.{Access}
use Rattle.ev_graph.specs.declared.events.AccessKind.TheVariants.{Read, Write}
use Rattle.ev_graph.specs.declared.events.EventId.{EventId}
use Rattle.ev_graph.specs.declared.execution.ReadFrom.{ReadFrom}
use Rattle.ev_graph.specs.declared.execution.Source.{Source}
use Rattle.ev_graph.specs.declared.execution.Source.TheVariants.{Start, From}
use Rattle.ev_graph.specs.Events.{event, Overlap}
use Rattle.ev_graph.specs.Pairs.{Co, Fr, SourceOf, Overwrites}
use Rattle.axiom_check.specs.Lanes.{lane_of}
use Rattle.axiom_check.specs.Bytes.{key, IsFrom}

-- two keys of one lane are of one byte and one number
pub same_lane : (byte tag place other number at : ℕ) → tag < 32 → number < 32 → place < 4294967296 → at < 4294967296
    → lane_of (key byte tag place) ≡ lane_of (key other number at) → (byte ≡ other) × (tag ≡ number)
same_lane byte tag place other number at tag_few number_few place_fits at_fits same = (omega arith, omega arith)

-- in one lane, keys are ordered as places
pub same_order : (byte tag place other number at : ℕ) → byte ≡ other → tag ≡ number → key byte tag place ≤ key other number at → place ≤ at
same_order byte tag place other number at same_byte same_tag order = omega arith

-- a write before a later write of co at a byte of both
pub co_pair : (co : List EventId) (a b : Access) (i j k m : ℕ) → a.kind ≡ Write → b.kind ≡ Write → slice_get co i ≡ Some a.id → slice_get co j ≡ Some b.id
    → k < a.size → m < b.size → a.address + k ≡ b.address + m → i + 1 ≤ j → Co co (event a) (event b)
co_pair co a b i j k m a_writes b_writes here there in_a in_b same before = record {
  first = a_writes;
  second = b_writes;
  earlier = record { i = i; j = j; order = omega arith; first = here; second = there };
  overlap = (a.address + k, (omega arith, omega arith), (omega arith, omega arith));
}

pub overwritten : (co : List EventId) (source : Source) (place j : ℕ) (b : Access) → IsFrom co source place → place ≤ j → slice_get co j ≡ Some b.id → Overwrites co (event b) source
overwritten co Start place j b from before there = tt
overwritten co (From w) place j b (i, here, is) before there = record { i = i; j = j; order = omega arith; first = here; second = there }

-- a read before a write of co that overwrites what it reads at a byte of both
pub fr_pair : (rf : List ReadFrom) (co : List EventId) (a b : Access) (source : Source) (place j k m : ℕ) → a.kind ≡ Read → b.kind ≡ Write
    → SourceOf rf (event a) k source → IsFrom co source place → slice_get co j ≡ Some b.id → k < a.size → m < b.size → a.address + k ≡ b.address + m → place ≤ j
    → Fr rf co (event a) (event b)
fr_pair rf co a b source place j k m reads writes from_source from there in_a in_b same before = record {
  read = reads;
  write = writes;
  k = k;
  within = in_a;
  covers = (omega arith, omega arith);
  source = source;
  from = from_source;
  later = overwritten co source place j b from before there;
}

-- an overlap is a byte of each, counted from its first
pub overlap_bytes : (a b : Access) → Overlap (event a) (event b) → (k : ℕ) × (m : ℕ) × (k < a.size) × (m < b.size) × (a.address + k ≡ b.address + m)
overlap_bytes a b (n, in_a, in_b) = (
  n - a.address,
  n - b.address,
  (let low = in_a.0 in let high = in_a.1 in omega arith),
  (let low = in_b.0 in let high = in_b.1 in omega arith),
  (let low = in_a.0 in let other = in_b.0 in omega arith),
)

-- where co has a later write, the place behind the source is no later
pub from_before : (co : List EventId) (once : (i j : ℕ) (e : EventId) → slice_get co i ≡ Some e → slice_get co j ≡ Some e → i ≡ j) (source : Source) (b : Access) → Overwrites co (event b) source
    → (j : ℕ) → slice_get co j ≡ Some b.id → (place : ℕ) → IsFrom co source place → place ≤ j
from_before co once Start b later j there place from = omega arith
from_before co once (From w) b later j there place (i, here, is) =
    let first = once i later.i w here later.first in
    let second = once j later.j b.id there later.second in
    let order = later.order in
    omega arith
