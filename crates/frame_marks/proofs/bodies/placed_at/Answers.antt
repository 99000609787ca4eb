use Rattle.std.proofs.Common.{rules}
use Rattle.std.proofs.lemmas.List.Sorted.{answers_always}
use Rattle.frame_marks.specs.Lists.{address_of}
use Rattle.frame_marks.proofs.Searched.{found, missed}
use Rattle.frame_marks.proofs.bodies.placed_at.Goals as goal

pub returns-in-Ok-clause-found : goal.returns-in-Ok-clause-found
returns-in-Ok-clause-found c =
    let facts = c.binary_search_by_key.ensures in
    let by_key = facts.position address_of (answers_always _ _ _ (λ f a r g called. search rules)) in
    found c.args.placed.now c.requires.sorted c.args.address c.binary_search_by_key.result c.in-Ok.place _ c.in-Ok.is facts.bound by_key

pub returns-in-Err-clause-found : goal.returns-in-Err-clause-found
returns-in-Err-clause-found c =
    let facts = c.binary_search_by_key.ensures in
    let by_key = facts.position address_of (answers_always _ _ _ (λ f a r g called. search rules)) in
    missed c.args.placed.now c.requires.sorted c.args.address c.binary_search_by_key.result c.in-Err.field-0 c.in-Err.is facts.bound by_key
