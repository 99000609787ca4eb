use Rattle.std.proofs.Common.{arith, ◌+◌, ℕ, subst, sym}
use Rattle.code_at.specs.Code.{program_of}
use Rattle.cfg_walk.specs.Searching.{IsSearching}
use Rattle.cfg_walk.proofs.Searches.{over, first_bad, none_bad, all_found}
use Rattle.cfg_walk.proofs.find.find.Goals as goal

pub returns-then-total-weight-clause-first : goal.returns-then-total-weight-clause-first
returns-then-total-weight-clause-first c =
    over (program_of c.args.elf.now) c.table_at-table.result c.loop-place.search.nodes c.loop-place.place c.at-address.result c.loop-place.total
    c.loop-place.search.placed.items c.loop-place.search.bad c.loop-place.invariant c.len.ensures.once c.at-address.ensures c.table_at-table.ensures
    (omega (arith, c.if-total-weight.true, c.weight_with-weight.ensures))

pub loop-place-preserved : goal.loop-place-preserved
loop-place-preserved c =
    let told = c.in_ok-look.ensures c.loop-place.place c.at-address.ensures c.loop-place.total c.loop-place.invariant c.len.ensures.once
    (omega (arith, c.loop-place-test.true, c.len.ensures.len)) (omega (arith, c.if-total-weight.false, c.weight_with-weight.ensures, c.loop-place.invariant.few)) in
    subst (λ (n : ℕ). IsSearching (program_of c.args.elf.now) c.look.new.self.nodes (c.loop-place.place + 1) (c.loop-place.total + n) c.look.new.self.placed.items c.look.new.self.bad)
    (sym c.weight_with-weight.ensures) told

pub returns-in-Some-clause-first : goal.returns-in-Some-clause-first
returns-in-Some-clause-first c =
    first_bad (program_of c.args.elf.now) c.loop-place.search.nodes c.loop-place.place c.loop-place.total c.loop-place.search.placed.items c.loop-place.search.bad c.loop-place.invariant
    c.len.ensures.once (omega (arith, c.loop-place-test.false, c.len.ensures.len)) c.in-Some.fault c.in-Some.is

pub returns-clause-first : goal.returns-clause-first
returns-clause-first c =
    none_bad (program_of c.args.elf.now) c.loop-place.search.nodes c.loop-place.place c.loop-place.total c.loop-place.search.placed.items c.loop-place.search.bad c.loop-place.invariant
    c.len.ensures.once (omega (arith, c.loop-place-test.false, c.len.ensures.len)) c.in-None.is

pub returns-clause-found : goal.returns-clause-found
returns-clause-found c =
    all_found (program_of c.args.elf.now) c.loop-place.search.nodes c.loop-place.place c.loop-place.total c.loop-place.search.placed.items c.loop-place.search.bad c.loop-place.invariant
    c.len.ensures.once (omega (arith, c.loop-place-test.false, c.len.ensures.len)) c.in-None.is
