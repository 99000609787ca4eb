use Rattle.std.proofs.Common.{◌+◌, ◌≤◌, ◌^◌, arith}
use Rattle.code_at.specs.Code.{program_of}
use Rattle.code_at.proofs.CallerLemmas.{ends_low, bad_stands}
use Rattle.jump_table.proofs.steps.step_at.Goals as goal

pub overflow_add-result : goal.overflow_add-result
overflow_add-result c =
    let placed = c.in-Ok.placed in
    let low : c.args.address + placed.length ≤ 2 ^ 46 =
    ends_low (program_of c.args.elf.now) c.args.address placed c.requires.segments c.in-Ok.ensures in
    omega (arith, low, c.from.ensures)

pub returns-in-Err : goal.returns-in-Err
returns-in-Err c = λ step is.
    bad_stands (program_of c.args.elf.now) c.args.address c.in-Err.field-0 is.placed c.in-Err.ensures is.stands
