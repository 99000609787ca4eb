use Rattle.std.proofs.Common.{◌≡◌, ◌+◌, ◌++◌, ◌∙◌, ap, ℕ, List}
use Rattle.cfg_walk.specs.Reach.{after, successors}
use Rattle.cfg_walk.specs.Searching.{told_entries}
use Rattle.cfg_walk.proofs.Searches.{noted_from}
use Rattle.cfg_walk.proofs.find.Search.note.Goals as goal

pub returns : goal.returns
returns c =
    let p = c.args.placed in
    λ program table place a entries at stands told.
    (let leads : c.as_slice.result.now ≡ told_entries program table ++ successors p =
    c.as_slice.ensures.value ∙ c.in_ok-push_after.ensures ∙ ap (λ (xs : List ℕ). xs ++ after p.instr p.flow (p.address + c.from.result)) entries
    ∙ ap (λ (n : ℕ). told_entries program table ++ after p.instr p.flow (p.address + n)) c.from.ensures in
    noted_from program table c.args.self.now.nodes c.as_slice.result.now c.add_all.new.self place c.args.self.now.placed.items c.push.new.self.items
    c.args.self.now.bad p a at stands told leads c.in_ok-push.ensures.items c.in_ok-add_all.ensures)
