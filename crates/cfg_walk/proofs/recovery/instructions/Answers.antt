use Rattle.std.proofs.Common.{List, map, arith, sym, subst}
use Rattle.x64_syntax.specs.declared.placed.Placed.{Placed}
use Rattle.elf_read.proofs.CallerLemmas.{clear_join, first_behind}
use Rattle.code_at.specs.Code.{program_of}
use Rattle.cfg_walk.specs.Code.{AreInstructions, IsIncreasing}
use Rattle.cfg_walk.specs.Faults.{Holds}
use Rattle.cfg_walk.specs.Searching.{address_of}
use Rattle.cfg_walk.proofs.Recovered.{known, end_low}
use Rattle.cfg_walk.proofs.recovery.instructions.Goals as goal

pub check-requires : goal.check-requires
check-requires c =
    let are = c.in_order-placed.ensures.are (program_of c.args.elf.now) c.in_ok-found.ensures.found in
    subst (λ (ps : List Placed). IsIncreasing (map address_of ps)) (sym c.deref.ensures.value) are.sorted

pub returns-in-Err-clause-first : goal.returns-in-Err-clause-first
returns-in-Err-clause-first c =
    let program = program_of c.args.elf.now in
    let are = c.in_order-placed.ensures.are program c.in_ok-found.ensures.found in
    let shown = subst (λ (ps : List Placed). AreInstructions program ps) (sym c.deref.ensures.value) are in
    first_behind (Holds program) 13 15 18 c.in-Err.fault (omega arith) c.in_ok-found.ensures.first (c.in-Err.ensures program shown)

pub returns-in-Ok-clause-first : goal.returns-in-Ok-clause-first
returns-in-Ok-clause-first c =
    let program = program_of c.args.elf.now in
    let are = c.in_order-placed.ensures.are program c.in_ok-found.ensures.found in
    let shown = subst (λ (ps : List Placed). AreInstructions program ps) (sym c.deref.ensures.value) are in
    clear_join (Holds program) 13 15 18 c.in_ok-found.ensures.first (c.in-Ok.ensures program shown)

pub returns-in-Ok-clause-known : goal.returns-in-Ok-clause-known
returns-in-Ok-clause-known c =
    let program = program_of c.args.elf.now in
    let are = c.in_order-placed.ensures.are program c.in_ok-found.ensures.found in
    let shown = subst (λ (ps : List Placed). AreInstructions program ps) (sym c.deref.ensures.value) are in
    known program c.in_ok-found.found.items c.in_order-placed.result.items c.in_ok-found.ensures.found are (c.in-Ok.ensures program shown)

pub returns-in-Ok-clause-low : goal.returns-in-Ok-clause-low
returns-in-Ok-clause-low c =
    let program = program_of c.args.elf.now in
    end_low program c.in_order-placed.result.items c.requires.segments (c.in_order-placed.ensures.are program c.in_ok-found.ensures.found)

pub returns-in-Ok-clause-few : goal.returns-in-Ok-clause-few
returns-in-Ok-clause-few c = let few = c.in_ok-found.ensures.found.few in omega (arith, few, c.in_order-placed.ensures.len)
