-- The text that explains an execution.
use Rattle.std.specs.Prelude.{ℕ, ◌+◌, Bool, true, false, ◌&&◌, ◌==◌, if◌then◌else◌, List, [], ◌∷◌, ◌++◌, codes, decimal}
use Rattle.std.specs.Fmt.{digits}
use Rattle.std.specs.List.{flat_map, list_all}
use Rattle.ev_graph.specs.declared.events.Access.{Access}
use Rattle.ev_graph.specs.declared.events.AccessKind.{AccessKind}
use Rattle.ev_graph.specs.declared.events.AccessKind.TheVariants.{Read, Write}
use Rattle.ev_graph.specs.declared.events.EventId.{EventId}
use Rattle.ev_graph.specs.declared.events.Item.{Item}
use Rattle.ev_graph.specs.declared.events.Item.TheVariants as item
use Rattle.ev_graph.specs.declared.execution.Execution.{Execution}
use Rattle.ev_graph.specs.declared.execution.ReadFrom.{ReadFrom}
use Rattle.ev_graph.specs.declared.execution.Source.{Source}
use Rattle.ev_graph.specs.declared.execution.Source.TheVariants.{Start, From}
use Rattle.ev_graph.specs.declared.execution.Stack.{Stack}
use Rattle.ev_graph.specs.declared.execution.ThreadRun.{ThreadRun}
use Rattle.exec_text.specs.Lines.{end_word}

-- lower-case hexadecimal, without leading zeros
abbrev pub hex : ℕ → List ℕ
hex n = digits 16 false n

-- an event `T.K`
abbrev pub event_text : EventId → List ℕ
event_text id = decimal id.thread ++ codes "." ++ decimal id.index

-- the start, or an event
abbrev pub source_text : Source → List ℕ
source_text Start = codes "init"
source_text (From id) = event_text id

-- the two ids are one
abbrev pub same_event : EventId → EventId → Bool
same_event a b = (a.thread == b.thread) && (a.index == b.index)

-- the two sources are one
abbrev pub same_source : Source → Source → Bool
same_source Start Start = true
same_source (From a) (From b) = same_event a b
same_source _ _ = false

-- one source where all are the same
abbrev pub merged : List Source → List Source
merged [] = []
merged (s ∷ sources) = if list_all (λ t. same_source t s) sources then s ∷ [] else s ∷ sources

-- sources, between commas
abbrev pub listed : List Source → List ℕ
listed [] = []
listed (s ∷ sources) = source_text s ++ flat_map (λ t. 44 ∷ source_text t) sources

-- the sources of the read with this id, byte by byte
abbrev pub sources_of : List ReadFrom → EventId → List Source
sources_of [] id = []
sources_of (entry ∷ rf) id = if same_event entry.read id then entry.bytes else sources_of rf id

-- the address of an item's instruction, which ends its line
abbrev pub place_text : ℕ → List ℕ
place_text place = codes " @" ++ hex place ++ codes "\n"

-- whether it is locked, and whether it reads or writes
abbrev pub letters : Bool → AccessKind → List ℕ
letters false Read = codes "R"
letters false Write = codes "W"
letters true Read = codes "LR"
letters true Write = codes "LW"

-- an access: its id, its letters, its address, its size and its value
abbrev pub access_text : Access → List ℕ
access_text a =
    event_text a.id ++ codes " " ++ letters a.locked a.kind ++ codes " " ++ hex a.address ++ codes " " ++ decimal a.size ++ codes " " ++ hex a.value

-- the sources of a read; nothing for a write
abbrev pub origin_text : List ReadFrom → AccessKind → EventId → List ℕ
origin_text rf Read id = codes " from " ++ listed (merged (sources_of rf id))
origin_text rf Write id = []

-- an item's line
abbrev pub item_line : List ReadFrom → Item → List ℕ
item_line rf (item.Access a) = access_text a ++ origin_text rf a.kind a.id ++ place_text a.place
item_line rf (item.Fence f) = codes "fence" ++ place_text f.place
item_line rf (item.Input v) = codes "in " ++ hex v.value ++ place_text v.place
item_line rf (item.Output v) = codes "out " ++ hex v.value ++ place_text v.place

-- the stack of the thread with this number
abbrev pub stack_line : ℕ → Stack → List ℕ
stack_line n s = codes "stack " ++ decimal n ++ codes " " ++ hex s.lo ++ codes " " ++ hex s.hi ++ codes "\n"

-- the stacks of the threads from this number on
abbrev pub stack_lines : ℕ → List Stack → List ℕ
stack_lines n [] = []
stack_lines n (s ∷ stacks) = stack_line n s ++ stack_lines (n + 1) stacks

-- the first line of the thread with this number
abbrev pub thread_line : ℕ → ThreadRun → List ℕ
thread_line n t = codes "thread " ++ decimal n ++ codes " " ++ end_word t.end ++ codes "\n"

-- the threads from this number on, each with its items
abbrev pub thread_lines : List ReadFrom → ℕ → List ThreadRun → List ℕ
thread_lines rf n [] = []
thread_lines rf n (t ∷ threads) = thread_line n t ++ flat_map (item_line rf) t.items ++ thread_lines rf (n + 1) threads

-- the order of writes
abbrev pub order_line : List EventId → List ℕ
order_line co = codes "co" ++ flat_map (λ id. 32 ∷ event_text id) co ++ codes "\n"

-- the whole text
abbrev pub explained : Execution → List ℕ
explained x = codes "explained\n" ++ stack_lines 0 x.stacks ++ thread_lines x.rf 0 x.threads ++ order_line x.co ++ codes "end\n"
