-- What a thread takes of the values that it is given, and what an execution keeps of them.
use Rattle.std.specs.Prelude.{◌≡◌, ◌⊎◌, ℕ, ◌&&◌, Bool, List, [], ◌∷◌, ◌++◌, filter, length, replicate, Option, Some, None, if◌then◌else◌}
use Rattle.ev_graph.specs.declared.events.Access.{Access}
use Rattle.ev_graph.specs.declared.events.AccessKind.{AccessKind}
use Rattle.ev_graph.specs.declared.events.AccessKind.TheVariants.{Read, Write}
use Rattle.ev_graph.specs.declared.events.Item.{Item}
use Rattle.ev_graph.specs.declared.events.Item.TheVariants as items
use Rattle.ev_graph.specs.declared.execution.EventPair.{EventPair}
use Rattle.ev_graph.specs.declared.execution.ReadFrom.{ReadFrom}
use Rattle.ev_graph.specs.declared.execution.Source.{Source}
use Rattle.ev_graph.specs.Events.{accesses}
use Rattle.ev_graph.specs.WellFormed.{is_read, is_write}
use Rattle.exec_text.specs.declared.exec_file.Given.{Given}
use Rattle.exec_text.specs.declared.exec_file.Given.TheVariants as given

-- a read of so many bytes has one source, which stands for every byte, or one for each byte
abbrev pub HasSources : (size : ℕ) → List Source → Type 0
HasSources size sources = (length sources ≡ 1) ⊎ (length sources ≡ size)

-- an access takes a value where it reads: the first, which is its value, with sources
abbrev pub AccessTakes : AccessKind → Access → List Given → List Given → Type 0
AccessTakes Read a values left = (sources : List Source) × (values ≡ given.Read a.value sources ∷ left) × HasSources a.size sources
AccessTakes Write a values left = values ≡ left

-- an item takes the first value where it is a read or an input, and nothing where it is not
abbrev pub ItemTakes : Item → List Given → List Given → Type 0
ItemTakes (items.Access a) values left = AccessTakes a.kind a values left
ItemTakes (items.Fence f) values left = values ≡ left
ItemTakes (items.Input t) values left = values ≡ given.Input t.value ∷ left
ItemTakes (items.Output t) values left = values ≡ left

-- the items take values in order, each the first of those that are left, and these are left at last
abbrev pub Takes : List Item → List Given → List Given → Type 0
Takes [] values left = values ≡ left
Takes (item ∷ is) values left = (rest : List Given) × ItemTakes item values rest × Takes is rest left

-- the reads among items, in order
abbrev pub reads : List Item → List Access
reads is = filter (λ a. is_read a.kind) (accesses is)

-- the sources of the values that reads take, in order
abbrev pub given_sources : List Given → List (List Source)
given_sources [] = []
given_sources (given.Read value sources ∷ values) = sources ∷ given_sources values
given_sources (given.Input value ∷ values) = given_sources values

-- the sources of a read of so many bytes, byte by byte
abbrev pub by_byte : (size : ℕ) → List Source → List Source
by_byte size (source ∷ []) = replicate size source
by_byte size sources = sources

-- the reads with their sources, each with the next
abbrev pub entries : List Access → List (List Source) → List ReadFrom
entries [] lines = []
entries (a ∷ others) [] = []
entries (a ∷ others) (sources ∷ lines) = record { read = a.id; bytes = by_byte a.size sources } ∷ entries others lines

-- what a thread's items, on the values that it is given, add to rf
abbrev pub thread_entries : List Item → List Given → List ReadFrom
thread_entries is values = entries (reads is) (given_sources values)

-- whether the first is a locked read and the second a locked write
abbrev pub is_pair : Access → Access → Bool
is_pair a b = (is_read a.kind && a.locked) && (is_write b.kind && b.locked)

-- the pair of an access with the next one, where they are a locked read and a locked write: the halves of one row
abbrev pub pair_with : Access → List Access → List EventPair
pair_with a [] = []
pair_with a (b ∷ others) = if is_pair a b then record { first = a.id; second = b.id } ∷ [] else []

-- the locked pairs among accesses
abbrev pub locked_pairs : List Access → List EventPair
locked_pairs [] = []
locked_pairs (a ∷ others) = pair_with a others ++ locked_pairs others

-- what a thread's items add to rmw
abbrev pub thread_pairs : List Item → List EventPair
thread_pairs is = locked_pairs (accesses is)

-- an access, where it is a read
abbrev pub access_reads : AccessKind → Access → List Access
access_reads Read a = a ∷ []
access_reads Write a = []

-- the access of an item, where it is a read
abbrev pub item_reads : Item → List Access
item_reads (items.Access a) = access_reads a.kind a
item_reads (items.Fence f) = []
item_reads (items.Input t) = []
item_reads (items.Output t) = []

-- the locked pair of the access before, if there is one, with this one
abbrev pub pair_after : Option Access → Access → List EventPair
pair_after None b = []
pair_after (Some a) b = if is_pair a b then record { first = a.id; second = b.id } ∷ [] else []
