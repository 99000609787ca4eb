use Rattle.std.proofs.Common.{rules}
use Rattle.std.proofs.lemmas.List.Sorted.{answers_always}
use Rattle.flag_use.proofs.Lookups.{address_of, looked_up}
use Rattle.flag_use.proofs.walk.instruction_at.Goals as goal

pub returns-in-Ok-clause-some : goal.returns-in-Ok-clause-some
returns-in-Ok-clause-some c =
    let facts = c.binary_search_by_key.ensures in
    let by_address = facts.position address_of (answers_always _ _ _ (λ f a r g called. search rules)) in
    let found = looked_up c.args.placed.now c.requires c.args.address c.binary_search_by_key.result facts.bound by_address in
    (rw c.in-Ok.is at found) _

pub returns-in-Err-clause-none : goal.returns-in-Err-clause-none
returns-in-Err-clause-none c =
    let facts = c.binary_search_by_key.ensures in
    let by_address = facts.position address_of (answers_always _ _ _ (λ f a r g called. search rules)) in
    let found = looked_up c.args.placed.now c.requires c.args.address c.binary_search_by_key.result facts.bound by_address in
    rw c.in-Err.is at found
