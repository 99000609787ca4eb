-- The reads of items, whose entries in rf stand in the same order.
use Rattle.std.specs.Prelude.{◌≡◌, ℕ, ◌+◌, List, [], ◌∷◌, Some, map, slice_get}
use Rattle.std.specs.List.{flat_map}
use Rattle.ev_graph.specs.declared.events.AccessKind.{AccessKind}
use Rattle.ev_graph.specs.declared.events.AccessKind.TheVariants.{Read, Write}
use Rattle.ev_graph.specs.declared.events.EventId.{EventId}
use Rattle.ev_graph.specs.declared.events.Item.{Item}
use Rattle.ev_graph.specs.declared.events.Item.TheVariants as item
use Rattle.ev_graph.specs.declared.execution.ReadFrom.{ReadFrom}

-- the id of an access, where it is a read
abbrev pub read_in : AccessKind → EventId → List EventId
read_in Read id = id ∷ []
read_in Write id = []

-- the id of an item, where it is a read
abbrev pub item_read : Item → List EventId
item_read (item.Access a) = read_in a.kind a.id
item_read (item.Fence f) = []
item_read (item.Input v) = []
item_read (item.Output v) = []

-- the ids of the reads among items, in order
abbrev pub reads_in : List Item → List EventId
reads_in items = flat_map item_read items

-- the reads that have entries, in order
abbrev pub entry_ids : List ReadFrom → List EventId
entry_ids rf = map (λ entry. entry.read) rf

-- the ids stand one after another in the list, from this place on
abbrev pub StandFrom : List EventId → ℕ → List EventId → Type 0
StandFrom all first [] = Unit {0}
StandFrom all first (id ∷ ids) = (slice_get all first ≡ Some id) × StandFrom all (first + 1) ids
