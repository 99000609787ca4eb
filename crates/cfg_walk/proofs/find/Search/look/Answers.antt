use Rattle.std.proofs.Common.{arith, ap, ◌∙◌, ◌++◌}
use Rattle.code_at.specs.Code.{program_of}
use Rattle.code_at.proofs.CallerLemmas.{ends_low}
use Rattle.cfg_walk.specs.Searching.{told_entries}
use Rattle.cfg_walk.proofs.find.Search.look.Goals as goal

pub note-requires : goal.note-requires
note-requires c =
    let low = ends_low (program_of c.args.elf.now) c.args.address c.in-Ok.placed c.requires.program.segments c.in-Ok.ensures in
    let here = c.in-Ok.ensures.here in
    omega (arith, low, here)

pub returns-in_ok-note-in-Ok : goal.returns-in_ok-note-in-Ok
returns-in_ok-note-in-Ok c =
    λ place at. c.in_ok-note-in-Ok.ensures (program_of c.args.elf.now) c.args.table.now place c.args.address
    (c.in_ok-push_told.ensures ∙ ap (λ xs. xs ++ told_entries (program_of c.args.elf.now) c.args.table.now) c.clear.ensures.items) at c.in-Ok.ensures c.requires.told

pub returns-in-Err : goal.returns-in-Err
returns-in-Err c = λ place at. c.miss.ensures (program_of c.args.elf.now) c.args.table.now place at c.in-Err.ensures c.requires.told
