-- From the instructions that were found to the code of the program.
use Rattle.std.proofs.Common.{List, get_or, arith}
use Rattle.std.specs.List.{AllByRecursion}
use Rattle.std.proofs.lemmas.Option.{slice_get-get_or}
use Rattle.x64_syntax.specs.declared.placed.Placed.{Placed}
use Rattle.elf_read.specs.declared.fault.FileFault.TheVariants.{Indirect, Overlap}
use Rattle.elf_read.specs.FirstFault.{Clear}
use Rattle.elf_read.specs.Elf.{IsSegment}
use Rattle.code_at.specs.Code.{Program}
use Rattle.code_at.proofs.CallerLemmas.{ends_low}
use Rattle.cfg_walk.specs.Code.{AreInstructions}
use Rattle.cfg_walk.specs.Ends.{EndLow}
use Rattle.cfg_walk.specs.Faults.{Holds}
use Rattle.cfg_walk.specs.Known.{IsKnown}
use Rattle.cfg_walk.specs.Searching.{AreFound}
use Rattle.cfg_walk.proofs.Tables.{jump_indirect}

-- instructions without a fault are known
pub known : (program : Program) (found placed : List Placed) → AreFound program found → AreInstructions program placed → Clear (Holds program) 15 18 → IsKnown program placed
known program found placed are instructions clear = record {
  instructions = instructions;
  whole = are.whole;
  apart = λ a is. clear (Overlap a) (omega arith) (omega arith) is;
  no_table = λ a table reached begins. clear (Indirect table.jump) (omega arith) (omega arith) (jump_indirect program a table reached begins);
}

-- the instructions end low, since their segments do
pub end_low : (program : Program) (placed : List Placed) → AllByRecursion IsSegment program.parts → AreInstructions program placed → EndLow placed
end_low program placed segments are k d within =
    let at = slice_get-get_or placed k d within in
    let is = (are.exact (get_or placed k d)).0 (k, at) in
    let low = ends_low program (get_or placed k d).address (get_or placed k d) segments is.stands in
    omega (arith, low)
