-- What items add to rf and rmw, one by one.
use Rattle.std.proofs.Common.{◌≡◌, ℕ, suc, ◌+◌, ◌<◌, List, [], ◌∷◌, ◌++◌, length, drop, filter, Option, Some, None, refl, sym, ap, ◌∙◌, subst, arith, append_assoc}
use Rattle.std.specs.Prelude.{cond, true, false, Bool}
use Rattle.ev_graph.specs.declared.events.Access.{Access}
use Rattle.ev_graph.specs.declared.events.AccessKind.{AccessKind}
use Rattle.ev_graph.specs.declared.events.AccessKind.TheVariants.{Read, Write}
use Rattle.ev_graph.specs.declared.events.Item.{Item}
use Rattle.ev_graph.specs.declared.events.Item.TheVariants as items
use Rattle.ev_graph.specs.declared.execution.EventPair.{EventPair}
use Rattle.ev_graph.specs.declared.execution.ReadFrom.{ReadFrom}
use Rattle.ev_graph.specs.declared.execution.Source.{Source}
use Rattle.ev_graph.specs.Events.{accesses}
use Rattle.ev_graph.specs.WellFormed.{is_read}
use Rattle.arm_replay.specs.Values.{reads, entries, by_byte, item_reads, access_reads, pair_with, pair_after, locked_pairs}

reads_access : (kind : AccessKind) (a : Access) (others : List Access) → cond (is_read kind) (a ∷ others) others ≡ access_reads kind a ++ others
reads_access Read a others = refl
reads_access Write a others = refl

-- the reads of items, the first item's first
pub reads-cons : (item : Item) (is : List Item) → reads (item ∷ is) ≡ item_reads item ++ reads is
reads-cons (items.Access a) is = reads_access a.kind a (reads is)
reads-cons (items.Fence f) is = refl
reads-cons (items.Input t) is = refl
reads-cons (items.Output t) is = refl

-- the pairs of what stands behind an access, and of the access with it
abbrev pub pairs_behind : Option Access → List Access → List EventPair
pairs_behind None others = locked_pairs others
pairs_behind (Some a) others = locked_pairs (a ∷ others)

pub pairs-cons : (last : Option Access) (b : Access) (others : List Access) → pairs_behind last (b ∷ others) ≡ pair_after last b ++ pairs_behind (Some b) others
pairs-cons None b others = refl
pairs-cons (Some a) b others = refl
