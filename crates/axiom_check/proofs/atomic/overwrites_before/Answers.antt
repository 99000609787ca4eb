use Rattle.ev_graph.specs.declared.execution.Source.TheVariants.{From}
use Rattle.order_models.proofs.LocalLemmas.{never}
use Rattle.axiom_check.proofs.AtomicLemmas.{over_by_place}
use Rattle.axiom_check.proofs.atomic.overwrites_before.Goals as goal

pub returns-then-precedes : goal.returns-then-precedes
returns-then-precedes c = λ co m n told writes other_writes there here.
    let from = c.start_of-behind.ensures co told.listed (told.writes n c.args.other.now here other_writes) in
    let end = c.start_of-end.ensures co told.listed (told.writes m c.args.write.now there writes) in
    let place = over_by_place co told.once c.args.write.now (From c.args.other.now.id) c.start_of-behind.result c.start_of-end.result from end in
    let over = c.overwrites.ensures co told from in
    ((λ holds. (place.0 (c.precedes.ensures.0 c.if-precedes.true), over.0 holds)), (λ both. over.1 both.1))

pub returns : goal.returns
returns c = λ co m n told writes other_writes there here.
    let from = c.start_of-behind.ensures co told.listed (told.writes n c.args.other.now here other_writes) in
    let end = c.start_of-end.ensures co told.listed (told.writes m c.args.write.now there writes) in
    let place = over_by_place co told.once c.args.write.now (From c.args.other.now.id) c.start_of-behind.result c.start_of-end.result from end in
    ((λ holds. absurd cc), (λ both. absurd (never _ c.precedes.ensures c.if-precedes.false (place.1 both.0))))
