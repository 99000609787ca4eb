use Rattle.std.proofs.Common.{rules, ◌∙◌}
use Rattle.std.proofs.lemmas.List.Sorted.{answers_always}
use Rattle.fence_place.specs.Marked.{slot_key}
use Rattle.fence_place.proofs.Searched.{searched}
use Rattle.fence_place.proofs.marked.is_marked.Goals as goal

pub returns : goal.returns
returns c =
    let facts = c.binary_search_by_key.ensures in
    let by_key = facts.position slot_key (answers_always _ _ _ (λ f a r g called. search rules)) in
    let k = c.key_of-key.ensures in
    c.is_ok.ensures.value ∙ (rw (← c.as_slice.ensures) (searched _ (rw c.as_slice.ensures c.requires) (record { address = c.args.address; kind = c.args.kind }) _ facts.bound (rw (← k) by_key)))
