-- How events and their lists are written, and how large they may be.
use Rattle.std.specs.Prelude.{◌≡◌, ℕ, ◌≤◌, List, [], ◌∷◌, length, codes}
use Rattle.std.specs.List.{AllZip, AllByRecursion}
use Rattle.ev_graph.specs.declared.events.EventId.{EventId}
use Rattle.ev_graph.specs.declared.execution.Source.{Source}
use Rattle.ev_graph.specs.declared.execution.Source.TheVariants.{Start, From}
use Rattle.exec_text.specs.Parts.{parts_at}
use Rattle.exec_text.specs.Numbers.{IsDecimal}

-- an event `T.K`: its thread, and its number among the thread's accesses
pub record IsEvent (text : List ℕ) (e : EventId) : Type 0 where
  pub thread : List ℕ
  pub index : List ℕ
  pub parts : parts_at 46 text ≡ thread ∷ index ∷ []
  pub is_thread : IsDecimal thread e.thread
  pub is_index : IsDecimal index e.index

-- a source: the start, or an event
abbrev pub IsSource : List ℕ → Source → Type 0
IsSource text Start = text ≡ codes "init"
IsSource text (From e) = IsEvent text e

-- at most 8 sources, between commas; a text has one part at least
abbrev pub IsSources : List ℕ → List Source → Type 0
IsSources text sources = AllZip IsSource (parts_at 44 text) sources × (length sources ≤ 8)

-- the limits of an event
abbrev pub IsSmallEvent : EventId → Type 0
IsSmallEvent e = (e.thread ≤ 15) × (e.index ≤ 4095)

-- the limits of a source: those of its event
abbrev pub IsSmallSource : Source → Type 0
IsSmallSource Start = Unit {0}
IsSmallSource (From e) = IsSmallEvent e

-- the limits of a list of sources
abbrev pub AreSmallSources : List Source → Type 0
AreSmallSources sources = AllByRecursion IsSmallSource sources

-- the limits of an order of writes
abbrev pub IsSmallOrder : List EventId → Type 0
IsSmallOrder events = (length events ≤ 4096) × AllByRecursion IsSmallEvent events
