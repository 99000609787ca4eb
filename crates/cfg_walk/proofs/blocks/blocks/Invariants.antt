use Rattle.std.proofs.Common.{◌≤◌, ◌+◌, length, reverse}
use Rattle.code_at.specs.Code.{Program}
use Rattle.cfg_walk.specs.Blocks.{IsLeader}
use Rattle.cfg_walk.specs.Code.{AreJust}
use Rattle.cfg_walk.specs.Known.{IsKnown}
use Rattle.cfg_walk.proofs.BlockLemmas.{Made}
use Rattle.cfg_walk.proofs.blocks.blocks.Given as goal

abbrev pub invariant-loop-place : goal.invariant-loop-place
invariant-loop-place l = record {
  few : l.count + l.place ≤ length l.placed;
  made : (program : Program) → IsKnown program l.placed → AreJust (IsLeader program) l.leaders → Made program l.placed l.place (reverse l.blocks.items) l.count;
}
