use Rattle.std.proofs.Common.{◌+◌, ◌-◌, ℕ, List, length, sym, subst, arith}
use Rattle.ev_graph.specs.Places.{StandsIn}
use Rattle.axiom_check.specs.declared.lanes.Slot.{Slot}
use Rattle.axiom_check.specs.Bytes.{key, ArePlaces}
use Rattle.axiom_check.proofs.AtomicLemmas.{found_slot}
use Rattle.axiom_check.proofs.BytePairs.{from_before}
use Rattle.axiom_check.proofs.atomic.is_byte_overwritten.Goals as goal

pub returns : goal.returns
returns c = λ co once listed known gains n place w there few other at before over.
    let all = c.args.events.now.accesses.items in
    let read = c.args.read.now in
    let low = over.0.0 in
    let high = over.0.1 in
    let listed_here = subst (λ (l : List ℕ). ArePlaces all co (length co) l) (sym c.as_slice-places.ensures.value) listed in
    let first = from_before co once c.args.source w over.1 place at c.start_of.result (c.start_of.ensures co listed_here known) in
    let behind = read.address + c.args.k - w.address in
    let slot : Slot = record { key = key (w.address + behind) w.id.thread place; event = n } in
    let stands = found_slot all co c.args.writes.now.slots.items gains n place w there at behind (omega arith) in
    let stands_here = subst (λ (l : List Slot). StandsIn l slot) (sym c.as_slice-slots.ensures.value) stands in
    c.is_written.ensures w.id.thread place slot few other first before stands_here (omega arith)
