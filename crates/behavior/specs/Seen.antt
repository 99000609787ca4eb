-- What is compared of the items of two runs.
use Rattle.std.specs.Prelude.{ℕ, suc, List, [], ◌∷◌}
use Rattle.ev_graph.specs.declared.events.Item.{Item}
use Rattle.ev_graph.specs.declared.events.Item.TheVariants as items
use Rattle.ev_graph.specs.declared.events.AccessKind.{AccessKind}
use Rattle.ev_graph.specs.declared.events.AccessKind.TheVariants.{Read, Write}
use Rattle.ev_graph.specs.declared.events.FenceKind.{FenceKind}
use Rattle.ev_graph.specs.declared.events.FenceKind.TheVariants.{Frm, Fww, Fsc, Mfence, DmbLd, DmbSt, DmbFull}

-- Trace: accesses (kind, locked, address, size, value), inputs and outputs, without fences and places.
abbrev pub trace : List Item → List Item
trace [] = []
trace (items.Access a ∷ is) = items.Access (record a { place = 0 }) ∷ trace is
trace (items.Fence f ∷ is) = trace is
trace (items.Input t ∷ is) = items.Input (record t { place = 0 }) ∷ trace is
trace (items.Output t ∷ is) = items.Output (record t { place = 0 }) ∷ trace is

-- accesses with the places of their instructions, inputs and outputs; without fences
abbrev pub placed : List Item → List Item
placed [] = []
placed (items.Access a ∷ is) = items.Access a ∷ placed is
placed (items.Fence f ∷ is) = placed is
placed (items.Input t ∷ is) = items.Input (record t { place = 0 }) ∷ placed is
placed (items.Output t ∷ is) = items.Output (record t { place = 0 }) ∷ placed is

-- The barrier of Arm that a fence of the intermediate form, or MFENCE, becomes: Frm is DMB ISHLD, Fww is
-- DMB ISHST, and Fsc and MFENCE are DMB ISH.
abbrev pub barrier : FenceKind → FenceKind
barrier Frm = DmbLd
barrier Fww = DmbSt
barrier Fsc = DmbFull
barrier Mfence = DmbFull
barrier DmbLd = DmbLd
barrier DmbSt = DmbSt
barrier DmbFull = DmbFull

-- the trace with the fences between, each as its barrier
abbrev pub lowered : List Item → List Item
lowered [] = []
lowered (items.Access a ∷ is) = items.Access (record a { place = 0 }) ∷ lowered is
lowered (items.Fence f ∷ is) = items.Fence (record { kind = barrier f.kind; place = 0 }) ∷ lowered is
lowered (items.Input t ∷ is) = items.Input (record t { place = 0 }) ∷ lowered is
lowered (items.Output t ∷ is) = items.Output (record t { place = 0 }) ∷ lowered is

-- a full fence before other items; a fence of another kind is left out
abbrev pub with_full : FenceKind → List Item → List Item
with_full Fsc is = items.Fence (record { kind = DmbFull; place = 0 }) ∷ is
with_full Mfence is = items.Fence (record { kind = DmbFull; place = 0 }) ∷ is
with_full DmbFull is = items.Fence (record { kind = DmbFull; place = 0 }) ∷ is
with_full Frm is = is
with_full Fww is = is
with_full DmbLd is = is
with_full DmbSt is = is

-- the trace with the full fences between: Fsc, MFENCE and DMB ISH
abbrev pub full : List Item → List Item
full [] = []
full (items.Access a ∷ is) = items.Access (record a { place = 0 }) ∷ full is
full (items.Fence f ∷ is) = with_full f.kind (full is)
full (items.Input t ∷ is) = items.Input (record t { place = 0 }) ∷ full is
full (items.Output t ∷ is) = items.Output (record t { place = 0 }) ∷ full is

-- accesses with the places of their instructions, inputs and outputs, and the full fences between
abbrev pub placed_full : List Item → List Item
placed_full [] = []
placed_full (items.Access a ∷ is) = items.Access a ∷ placed_full is
placed_full (items.Fence f ∷ is) = with_full f.kind (placed_full is)
placed_full (items.Input t ∷ is) = items.Input (record t { place = 0 }) ∷ placed_full is
placed_full (items.Output t ∷ is) = items.Output (record t { place = 0 }) ∷ placed_full is

-- everything, as it is
abbrev pub all_items : List Item → List Item
all_items is = is

-- an access's value, where it comes from outside: that of a read
abbrev pub given_by : AccessKind → ℕ → List ℕ → List ℕ
given_by Read value rest = value ∷ rest
given_by Write value rest = rest

-- the values that come from outside, those of reads and inputs, in order
abbrev pub given : List Item → List ℕ
given [] = []
given (items.Access a ∷ is) = given_by a.kind a.value (given is)
given (items.Fence f ∷ is) = given is
given (items.Input t ∷ is) = t.value ∷ given is
given (items.Output t ∷ is) = given is

-- how many accesses, inputs and outputs there are
abbrev pub counted : List Item → ℕ
counted [] = 0
counted (items.Access a ∷ is) = suc (counted is)
counted (items.Fence f ∷ is) = counted is
counted (items.Input t ∷ is) = suc (counted is)
counted (items.Output t ∷ is) = suc (counted is)
