-- A thread of a program's code runs block by block.
use Rattle.std.proofs.Common.{◌≡◌, ◌==◌, ℕ, zero, suc, Bool, true, false, List, [], ◌∷◌, Some, refl, sym, ap, subst, ◌∙◌, eq-eqb, arith}
use Rattle.std.specs.Prelude.{if◌then◌else◌}
use Rattle.std.specs.List.{AllByRecursion, slice_get}
use Rattle.std.proofs.lemmas.Bool.Decides.{nat_tests}
use Rattle.ev_graph.specs.Places.{StandsIn}
use Rattle.ev_graph.specs.declared.events.Item.{Item}
use Rattle.behavior.specs.Tree.{Path, At, Goes, ◌then◌}
use Rattle.behavior.specs.Acts.{Permission, goes}
use Rattle.behavior.specs.Exits.{Arrived}
use Rattle.behavior.proofs.Blocks.{AreBlocks, Advances, Unfolds, to_blocks, to_steps}
use Rattle.behavior.proofs.Results.{result_at, results_then}
use Rattle.behavior.proofs.Unfolding.{AllResults}
use Rattle.x64_table.specs.State.{Thread}
use Rattle.elf_read.specs.Elf.{IsSegment}
use Rattle.code_at.specs.Code.{Program}
use Rattle.cfg_walk.specs.declared.code.Block.{Block}
use Rattle.cfg_walk.specs.declared.code.Code.{Code}
use Rattle.cfg_walk.specs.Blocks.{BeginAt}
use Rattle.cfg_walk.specs.Code.{IsCodeOf}
use Rattle.cfg_walk.specs.Machine.{thread_step}
use Rattle.cfg_walk.specs.Running.{IsBegun, RunsBlock, ThreadsRunByBlocks, at_arrival, arriving, whole_step, block_at, block_run, block_step, instructions_of}
use Rattle.cfg_walk.proofs.BlockRuns.{run_blocks, stretch_begins}
use Rattle.cfg_walk.proofs.Instructions.{block_listed}

some_same : {A : Type 0} {x y : A} → Some x ≡ Some y → x ≡ y
some_same e = cc

-- a block is found where one begins
pub block_found : (blocks : List Block) (address : ℕ) (b : Block) (i : ℕ) → slice_get blocks i ≡ Some b → b.first ≡ address
    → (c : Block) × (block_at blocks address ≡ Some c) × StandsIn blocks c × (c.first ≡ address)
block_found [] address b i at first = absurd (cc)
block_found (c ∷ cs) address b i at first = by_test (address == c.first) refl i at (λ j later. block_found cs address b j later first)
  where
    by_test : (t : Bool) → (address == c.first) ≡ t → (i : ℕ) → slice_get (c ∷ cs) i ≡ Some b
        → ((j : ℕ) → slice_get cs j ≡ Some b → (d : Block) × (block_at cs address ≡ Some d) × StandsIn cs d × (d.first ≡ address))
        → (d : Block) × ((if t then Some c else block_at cs address) ≡ Some d) × StandsIn (c ∷ cs) d × (d.first ≡ address)
    by_test true e i at rest = let same : address ≡ c.first = grind (arith, nat_tests) in (c, refl, (zero, refl), sym same)
    by_test false e zero at rest =
        let same : c ≡ b = some_same at in
        let level : address ≡ c.first = sym (ap (λ (x : Block). x.first) same ∙ first) in
        absurd (differ (sym (eq-eqb address c.first level) ∙ e))
      where
        differ : true ≡ false → ⊥
        differ e = absurd cc
    by_test false e (suc j) at rest = let there = rest j at in (there.0, there.1, (suc there.2.0, there.2.1), there.3)

module _ (program : Program) (code : Code) (segments : AllByRecursion IsSegment program.parts) (is : IsCodeOf program code) (may : Permission) where
  -- the block that a thread is at, and what the step of blocks is there
  pub at_block : (s : Thread) → IsBegun code s.at → (b : Block) × (block_step may code s ≡ whole_step may code b.first (instructions_of code b) s) × StandsIn code.blocks b × (s.at ≡ b.first)
  at_block s begun =
      let there = block_found code.blocks s.at begun.0 begun.1.0 begun.1.1 begun.2 in
      (there.0, ap (λ o. block_run may code o s) there.1, there.2, sym there.3)

  runs_at : (s : Thread) (b : Block) → StandsIn code.blocks b → s.at ≡ b.first → RunsBlock may code b.first (instructions_of code b) s
  runs_at s b at level = run_blocks program code segments is b (instructions_of code b) at (block_listed program code is b at).are may b.first s level

  -- the blocks of the code are blocks of the machine
  pub code_blocks : AreBlocks (thread_step may code) (λ (s : Thread). IsBegun code s.at) (block_step may code)
  code_blocks = record {
    unfolds = λ s begun.
        let there = at_block s begun in
        subst (λ t. Unfolds (thread_step may code) (thread_step may code s) t) (sym there.1) (runs_at s there.0 there.2 there.3).unfolds;
    advances = λ s begun. let there = at_block s begun in subst (λ t. Advances t) (sym there.1) (runs_at s there.0 there.2 there.3).advances;
  }

  -- and lead to blocks
  pub block_leads : (s t : Thread) → IsBegun code s.at → (items : List Item) (n : ℕ) → Path (block_step may code s) items (At (Goes t)) n → IsBegun code t.at
  block_leads s t begun items n path =
      let there = at_block s begun in
      let b = there.0 in
      let ps = instructions_of code b in
      let list = block_listed program code is b there.2 in
      let all = stretch_begins program code segments is may b.first ps list.stretch s (subst (λ a. BeginAt a ps) (sym there.3) list.are.first) in
      let led : AllResults (λ (u : Thread). IsBegun code u.at) (whole_step may code b.first ps s) =
      results_then (λ (a : Arrived Thread). IsBegun code a.at) (λ (u : Thread). IsBegun code u.at) (arriving may code b.first ps s) (λ a. goes (at_arrival a)) all (λ a here. here) in
      result_at (λ (u : Thread). IsBegun code u.at) (subst (λ tree. Path tree items (At (Goes t)) n) there.1 path) led

pub runs_by_blocks : ThreadsRunByBlocks
runs_by_blocks program code segments is may s begun items end n =
    let blocks = code_blocks program code segments is may in
    let leads = block_leads program code segments is may in (
      (λ run. to_blocks (thread_step may code) (block_step may code) (λ (t : Thread). IsBegun code t.at) blocks leads begun run),
      (λ run. to_steps (thread_step may code) (block_step may code) (λ (t : Thread). IsBegun code t.at) blocks leads begun run),
    )
