use Rattle.std.proofs.Common.{◌-◌, ◌^◌}
use Rattle.code_at.specs.Code.{program_of}
use Rattle.cfg_walk.specs.Searching.{IsSearching}
use Rattle.cfg_walk.proofs.find.find.Given as goal

abbrev pub invariant-loop-place : goal.invariant-loop-place
invariant-loop-place l = IsSearching (program_of l.elf) l.search.nodes l.place l.total l.search.placed.items l.search.bad

abbrev pub decreases-loop-place : goal.decreases-loop-place
decreases-loop-place l = 2 ^ 64 - l.place
