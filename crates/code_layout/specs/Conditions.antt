-- What the layout asks of blocks.
use Rattle.std.specs.Prelude.{◌≢◌, ℕ, List}
use Rattle.ev_graph.specs.Places.{StandsIn}
use Rattle.ev_graph.specs.declared.events.TrapKind.TheVariants.{BadAccess}
use Rattle.cfg_walk.specs.Code.{IsIncreasing}
use Rattle.a64_code.specs.declared.instr.XReg.{XReg}
use Rattle.a64_block.specs.Conditions.{IsLayable}
use Rattle.a64_block.specs.declared.block.AEnd.{AEnd}
use Rattle.a64_block.specs.declared.block.AEnd.TheVariants as ends
use Rattle.a64_block.specs.declared.block.ABlock.{ABlock}
use Rattle.code_layout.specs.Places.{firsts, IsBegun}

-- A block that ends so leads to blocks alone. No word traps by BadAccess but the access itself, and no table is laid out so far.
abbrev pub LeadsToBlocks : List (ABlock XReg) → AEnd XReg → Type 0
LeadsToBlocks blocks (ends.Goto a) = IsBegun blocks a
LeadsToBlocks blocks (ends.Branch r a b) = IsBegun blocks a × IsBegun blocks b
LeadsToBlocks blocks (ends.Return r) = Unit {0}
LeadsToBlocks blocks (ends.Indexed r table) = ⊥
LeadsToBlocks blocks (ends.Stop kind) = kind ≢ BadAccess

-- Each block can be laid out, they stand by their addresses, and all ways out of them lead to blocks.
pub record AreClosed (blocks : List (ABlock XReg)) : Type 0 where
  pub layable : (b : ABlock XReg) → StandsIn blocks b → IsLayable b.steps b.end
  pub leads : (b : ABlock XReg) → StandsIn blocks b → LeadsToBlocks blocks b.end
  pub sorted : IsIncreasing (firsts blocks)

-- at each of the addresses a block begins
abbrev pub AreBegun : List (ABlock XReg) → List ℕ → Type 0
AreBegun blocks addresses = (a : ℕ) → StandsIn addresses a → IsBegun blocks a
