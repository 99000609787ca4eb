use Rattle.std.proofs.Common.{List, Some, None, All, sym, subst, ◌≤◌, ◌^◌}
use Rattle.x64_syntax.specs.declared.placed.Placed.{Placed}
use Rattle.code_at.specs.Code.{program_of}
use Rattle.cfg_walk.specs.Least.{IsLeast}
use Rattle.flag_use.specs.Walk.{StandsReading}
use Rattle.flag_use.proofs.Ordered.{code_ordered, entries_low}
use Rattle.flag_use.proofs.Readings.{addresses_low, undefined_first, none_clear}
use Rattle.flag_use.proofs.check.check_flags.Goals as goal

pub paths-requires : goal.paths-requires
paths-requires c = record {
  ordered = code_ordered (program_of c.args.elf.now) c.args.code.now c.requires.program.segments c.requires.code;
  low = entries_low (program_of c.args.elf.now) c.args.code.now c.requires.program.segments c.requires.code;
}

pub first_reading-requires-clause-low : goal.first_reading-requires-clause-low
first_reading-requires-clause-low c =
    let low = addresses_low c.args.code.now.placed c.args.code.now.sites
    (code_ordered (program_of c.args.elf.now) c.args.code.now c.requires.program.segments c.requires.code) in
    subst (λ (ps : List Placed). All (λ (p : Placed). p.address ≤ 2 ^ 60) ps) (sym c.as_slice.ensures) low

pub returns-in-Some : goal.returns-in-Some
returns-in-Some c = record {
  first = undefined_first (program_of c.args.elf.now) c.args.code.now c.requires.program.segments c.requires.code c.in_ok-nodes.nodes
      c.in_ok-nodes.ensures c.in-Some.address
      (subst (λ (ps : List Placed). IsLeast (StandsReading c.in_ok-nodes.nodes ps) (Some c.in-Some.address)) c.as_slice.ensures
      c.in-Some.ensures);
}

pub returns : goal.returns
returns c = record {
  first = none_clear (program_of c.args.elf.now) c.args.code.now c.requires.program.segments c.requires.code c.in_ok-nodes.nodes
      c.in_ok-nodes.ensures
      (subst (λ (ps : List Placed). IsLeast (StandsReading c.in_ok-nodes.nodes ps) None) c.as_slice.ensures c.in-None.ensures);
}
