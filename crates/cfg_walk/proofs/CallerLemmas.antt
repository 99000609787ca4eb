-- What callers of this crate cite. Where a lemma stands under `pub use`, its line of meaning stands where it is proved.
use Rattle.std.proofs.Common.{◌≡◌, ℕ, List, subst, sym}
use Rattle.std.specs.List.{AllByRecursion}
use Rattle.ev_graph.specs.Places.{StandsIn}
use Rattle.behavior.specs.Acts.{Permission}
use Rattle.behavior.specs.Exits.{Arrived}
use Rattle.behavior.proofs.Unfolding.{AllResults}
use Rattle.x64_syntax.specs.declared.placed.Placed.{Placed}
use Rattle.x64_table.specs.State.{Thread}
use Rattle.elf_read.specs.declared.elf.Elf.{Elf}
use Rattle.elf_read.specs.Elf.{IsSegment, parts_of}
use Rattle.elf_read.specs.ElfFile.{segments_of, threads_of, address_of, input_name, output_name}
use Rattle.code_at.specs.Code.{Program, program_of, program_in}
use Rattle.jump_table.specs.declared.entries.Table.{Table}
use Rattle.jump_table.specs.Pattern.{Begins}
use Rattle.cfg_walk.specs.declared.code.Block.{Block}
use Rattle.cfg_walk.specs.declared.code.Code.{Code}
use Rattle.cfg_walk.specs.Blocks.{AreOf, BeginAt, IsSite}
use Rattle.cfg_walk.specs.Code.{IsCodeOf, IsFileCode}
use Rattle.cfg_walk.specs.Machine.{FindsCode}
use Rattle.cfg_walk.specs.Reach.{IsReached}
use Rattle.cfg_walk.specs.Running.{IsBegun, arriving}
use Rattle.cfg_walk.proofs.BlockRuns.{stretch_begins}
use Rattle.cfg_walk.proofs.Found as found
use Rattle.cfg_walk.proofs.Instructions.{block_stretch}
use Rattle.cfg_walk.proofs.Whole.{code_begins, known_code as code_is_known}
-- an instruction is placed at each reached address, and a block begins wherever one may
pub use Rattle.cfg_walk.proofs.Whole.{whole, known_code, leader_begins}
-- more reached addresses than the limit are too much code
pub use Rattle.cfg_walk.proofs.Weighing.{many_reached}
-- each block has its instructions, in one list
pub use Rattle.cfg_walk.proofs.Instructions.{have_instructions, block_listed, one_of_block}
-- a thread that comes to a block runs it, and leaves to a block in a state with that block's address
pub use Rattle.cfg_walk.proofs.BlockRuns.{run_blocks, IsLevel, block_level}
-- the blocks of the code are blocks of the machine, they lead to blocks, and so the runs are those of blocks
pub use Rattle.cfg_walk.proofs.ByBlocks.{at_block, code_blocks, block_leads, runs_by_blocks}
-- the row of a placed instruction leaves to a successor; where a block begins is reached; a run from a reached address takes
-- reached addresses alone, and never jumps wrong
pub use Rattle.cfg_walk.proofs.Steps.{row_of_placed, begun_reached, reached_never_jumps, passes_reached, never_jumps_wrong, takes_reached}

-- the program that was read from a file is the one that its bytes say
pub program_read : (bytes : List ℕ) (elf : Elf) → parts_of elf ≡ segments_of bytes → elf.threads ≡ threads_of bytes → elf.input ≡ address_of bytes input_name
    → elf.output ≡ address_of bytes output_name → program_of elf ≡ program_in bytes
program_read bytes elf parts entries input output =
    λ k. record { parts = parts k; entries = entries k; input = input k; output = output k }

-- so what was recovered is the code of the file
pub file_code : (bytes : List ℕ) (elf : Elf) (code : Code) → program_of elf ≡ program_in bytes → IsCodeOf (program_of elf) code → IsFileCode bytes code
file_code bytes elf code same is = subst (λ (program : Program). IsCodeOf program code) same is

-- a thread finds in the code of a program what the program has
pub finds_code : (program : Program) (code : Code) → IsCodeOf program code → FindsCode program code
finds_code = found.threads_find

-- no jump through a table is placed, so no table begins at a reached address
pub no_table : (program : Program) (code : Code) → IsCodeOf program code → (a : ℕ) (table : Table) → IsReached program a → Begins program a table → ⊥
no_table program code is = (code_is_known program code is).no_table

-- a block begins where a thread is started
pub entries_begin : (program : Program) (code : Code) → IsCodeOf program code → (a : ℕ) → StandsIn program.entries a → IsBegun code a
entries_begin program code is = (code_begins program code is).entries

-- and where it returns to
pub sites_begin : (program : Program) (code : Code) → IsCodeOf program code → (a : ℕ) → IsSite program a → IsBegun code a
sites_begin program code is = (code_begins program code is).sites

-- where a thread arrives from a block a block begins
pub arrivals_begin : (program : Program) (code : Code) → AllByRecursion IsSegment program.parts → IsCodeOf program code
    → (b : Block) (ps : List Placed) → StandsIn code.blocks b → AreOf code.placed b ps
    → (may : Permission) (table : ℕ) (s : Thread) → s.at ≡ b.first → AllResults (λ (a : Arrived Thread). IsBegun code a.at) (arriving may code table ps s)
arrivals_begin program code segments is b ps at are may table s level =
    stretch_begins program code segments is may table ps (block_stretch program code is b ps at are) s (subst (λ a. BeginAt a ps) (sym level) are.first)
