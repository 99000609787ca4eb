-- The two maps: from the fences of Armv8 to those of the intermediate form, and from there to x86.
use Rattle.std.specs.Prelude.{Bool, true, false, List, map, filter, Option, Some, None}
use Rattle.ev_graph.specs.declared.events.EventId.{EventId}
use Rattle.ev_graph.specs.declared.events.Access.{Access}
use Rattle.ev_graph.specs.declared.events.FenceKind.{FenceKind}
use Rattle.ev_graph.specs.declared.events.FenceKind.TheVariants.{Frm, Fww, Fsc, Mfence, DmbLd, DmbSt, DmbFull}
use Rattle.ev_graph.specs.declared.events.Item.{Item}
use Rattle.ev_graph.specs.declared.events.Item.TheVariants as item
use Rattle.ev_graph.specs.declared.execution.ThreadRun.{ThreadRun}
use Rattle.ev_graph.specs.Events.{access_at}
use Rattle.x64_syntax.specs.declared.slots.Slot.{Slot}
use Rattle.fence_place.specs.Marked.{marked}
use Rattle.fence_plan.specs.Private.{is_private}

-- an item with the kind of its fence changed
abbrev pub renamed : (FenceKind → FenceKind) → Item → Item
renamed kind_of (item.Fence f) = item.Fence (record f { kind = kind_of f.kind })
renamed kind_of other = other

-- a DMB as the fence of the intermediate form; another fence stays
abbrev pub limm_kind : FenceKind → FenceKind
limm_kind DmbLd = Frm
limm_kind DmbSt = Fww
limm_kind DmbFull = Fsc
limm_kind other = other

-- a thread of Armv8 in the intermediate form
abbrev pub limm_thread : ThreadRun → ThreadRun
limm_thread thread = record thread { items = map (renamed limm_kind) thread.items }

-- x86 needs no fence for an Frm or an Fww
abbrev pub is_needed : FenceKind → Bool
is_needed Frm = false
is_needed Fww = false
is_needed other = true

-- whether an item stays in x86
abbrev pub is_kept : Item → Bool
is_kept (item.Fence f) = is_needed f.kind
is_kept other = true

-- Fsc as the fence of x86; another fence stays
abbrev pub x86_kind : FenceKind → FenceKind
x86_kind Fsc = Mfence
x86_kind other = other

-- a thread of the intermediate form in x86
abbrev pub x86_thread : ThreadRun → ThreadRun
x86_thread thread = record thread { items = map (renamed x86_kind) (filter is_kept thread.items) }

-- whether there is an access, and it is private by these slots
abbrev pub is_private_access : (private : Slot → Bool) → Option Access → Bool
is_private_access private (Some a) = is_private private a
is_private_access private None = false

-- whether the access with this id is private
abbrev pub is_private_in : List Slot → List ThreadRun → EventId → Bool
is_private_in slots threads id = is_private_access (marked slots) (access_at threads id)
