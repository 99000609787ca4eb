-- A thread that comes to a block takes its instructions one behind the other, and arrives where a block begins.
use Rattle.std.proofs.Common.{◌≡◌, ◌==◌, ℕ, Bool, true, false, List, [], ◌∷◌, ◌⊎◌, inl, inr, Some, None, refl, sym, ap, subst, ◌∙◌}
use Rattle.std.specs.Prelude.{if◌then◌else◌}
use Rattle.std.specs.List.{AllByRecursion, slice_get}
use Rattle.ev_graph.specs.Places.{StandsIn}
use Rattle.ev_graph.specs.declared.events.End.TheVariants.{Halted}
use Rattle.ev_graph.specs.declared.events.TrapKind.TheVariants.{BadReturn}
use Rattle.behavior.specs.Tree.{Tree, Gives, Begins, Next, Goes, Stops, ◌then◌}
use Rattle.behavior.specs.Acts.{Permission, goes, traps}
use Rattle.behavior.specs.Leaving.{ToBlock, ToReturn, Left}
use Rattle.behavior.specs.Exits.{Arrived, arrives, lands, or_trap}
use Rattle.behavior.proofs.Blocks.{Unfolds, block-ends, block-goes, block-begins, begins_advances}
use Rattle.behavior.proofs.Paths.{then-assoc}
use Rattle.behavior.proofs.Results.{result_at, results_any, results_then}
use Rattle.behavior.proofs.Unfolding.{AllResults, unfolds_self, unfolds_then}
use Rattle.x64_syntax.specs.declared.placed.Placed.{Placed}
use Rattle.x64_table.specs.State.{Thread}
use Rattle.x64_table.specs.Rows.{Exit, State, Return, Indexed, row_of}
use Rattle.x64_table.specs.Blocks.{goes_on, x64_block}
use Rattle.x64_table.specs.Machine.{no_entries, resolve, x64_take}
use Rattle.elf_read.specs.Elf.{IsSegment}
use Rattle.code_at.specs.Code.{Program}
use Rattle.cfg_walk.specs.declared.code.Code.{Code}
use Rattle.cfg_walk.specs.Reach.{IsPlaced, end_of, successors}
use Rattle.cfg_walk.specs.Blocks.{IsLeader, BeginAt, ends_block}
use Rattle.cfg_walk.specs.Blocks.IsLeader.{at-led}
use Rattle.cfg_walk.specs.Code.{IsCodeOf}
use Rattle.cfg_walk.specs.Machine.{has_address, code_for_threads, exits_of, thread_step}
use Rattle.cfg_walk.specs.Running.{IsBegun, RunsBlock, ThreadsRunBlocks, at_arrival, arriving, whole_step}
use Rattle.cfg_walk.proofs.BlockLemmas.{falls, leads, only}
use Rattle.cfg_walk.proofs.Found.{threads_find}
use Rattle.cfg_walk.proofs.Instructions.{AreStretch, block_stretch}
use Rattle.cfg_walk.proofs.Results.{next_results}
use Rattle.cfg_walk.proofs.RowExits.{LeavesTo}
use Rattle.cfg_walk.proofs.Steps.{row_of_placed}
use Rattle.cfg_walk.proofs.Whole.{leader_begins, site_leads}

-- a state that leaves to a block has its address
abbrev pub IsLevel : Left Thread → Type 0
IsLevel left = (a : ℕ) → left.target ≡ ToBlock a → left.state.at ≡ a

to_block_same : {a b : ℕ} → ToBlock a ≡ ToBlock b → a ≡ b
to_block_same e = cc

pub block_level : (may : Permission) (table : ℕ) (ps : List Placed) (s : Thread) → AllResults IsLevel (x64_block may table ps s)
block_level may table [] s = λ a same. to_block_same same
block_level may table (p ∷ ps) s =
    results_then (λ e. Unit {0}) IsLevel (Begins (row_of may p.instr p.length p.flow s)) (goes_on table (x64_block may table ps)) (results_any (row_of may p.instr p.length p.flow s))
    (λ e any. by_exit (λ t. block_level may table ps t) e)
  where
    by_exit : ((t : Thread) → AllResults IsLevel (x64_block may table ps t)) → (e : Exit) → AllResults IsLevel (goes_on table (x64_block may table ps) e)
    by_exit later (State t) = later t
    by_exit later (Return t v) = λ a same. absurd (cc)
    by_exit later (Indexed t k) = λ a same. absurd (cc)

-- ---- where a stretch leads

-- the one successor of an instruction with which no block ends
pub behind : (p : Placed) (a : ℕ) → ends_block p.instr ≡ false → StandsIn (successors p) a → a ≡ end_of p
behind p a open_it at = only (end_of p) a at.0 (subst (λ xs. slice_get xs at.0 ≡ Some a) (falls p.instr p.flow (end_of p) open_it) at.1)

-- from the last instruction of a stretch control comes to where a block may begin
pub last_leads : (program : Program) (p : Placed) → IsPlaced program p → (ends_block p.instr ≡ true) ⊎ IsLeader program (end_of p) → (a : ℕ) → StandsIn (successors p) a → IsLeader program a
last_leads program p placed end a at = elim (leads p.instr p.flow (end_of p) a at) [
  | inl led_to ↦ at-led p placed led_to
  | inr fallen ↦ elim end [
    | inl closed ↦ absurd (let open_it = fallen.0 in cc)
    | inr leader ↦ subst (IsLeader program) (sym fallen.1) leader
  ]
]

module _ (program : Program) (code : Code) (segments : AllByRecursion IsSegment program.parts) (is : IsCodeOf program code) (may : Permission) (table : ℕ) where
  -- a state leaves the block to where a block begins
  abbrev pub LeavesToBlock : Left Thread → Type 0
  LeavesToBlock left = AllResults (λ (a : Arrived Thread). IsBegun code a.at) (lands (exits_of code) left)

  return_arrives : (t : Thread) (v : ℕ) → LeavesToBlock (record { target = ToReturn v; state = t })
  return_arrives t v = by_zero (v == 0) (has_address code.sites v) refl
    where
      by_zero : (b c : Bool) → has_address code.sites v ≡ c
          → AllResults (λ (a : Arrived Thread). IsBegun code a.at) (Gives (arrives t (if b then Stops Halted else or_trap BadReturn (if c then Some v else None))))
      by_zero true c e = tt
      by_zero false false e = tt
      by_zero false true e = leader_begins program code is v (site_leads program v (((threads_find program code is).sites v).0 e))

  -- an instruction, and then what arrives
  arrives_then : (p : Placed) (ps : List Placed) (s : Thread) → IsPlaced program p → s.at ≡ p.address
      → ((t : Thread) → StandsIn (successors p) t.at → AllResults LeavesToBlock (x64_block may table ps t)) → AllResults LeavesToBlock (x64_block may table (p ∷ ps) s)
  arrives_then p ps s placed level later =
      results_then (λ e. LeavesTo (λ a. StandsIn (successors p) a) (Goes e)) LeavesToBlock (Begins (row_of may p.instr p.length p.flow s)) (goes_on table (x64_block may table ps))
      (next_results (LeavesTo (λ a. StandsIn (successors p) a)) (row_of may p.instr p.length p.flow s) (row_of_placed program code segments is p placed may s level)) by_exit
    where
      by_exit : (e : Exit) → LeavesTo (λ a. StandsIn (successors p) a) (Goes e) → AllResults LeavesToBlock (goes_on table (x64_block may table ps) e)
      by_exit (State t) there = later t there
      by_exit (Return t v) there = return_arrives t v
      by_exit (Indexed t k) there = absurd there

  stretch_arrives : (ps : List Placed) → AreStretch program ps → (s : Thread) → BeginAt s.at ps → AllResults LeavesToBlock (x64_block may table ps s)
  stretch_arrives [] stretch s begin = absurd stretch
  stretch_arrives (p ∷ []) stretch s begin =
      arrives_then p [] s stretch.0 (sym begin) (λ t there. leader_begins program code is t.at (last_leads program p stretch.0 stretch.1 t.at there))
  stretch_arrives (p ∷ q ∷ ps) stretch s begin =
      arrives_then p (q ∷ ps) s stretch.0 (sym begin) (λ t there. stretch_arrives (q ∷ ps) stretch.3 t (stretch.2 ∙ sym (behind p t.at stretch.1 there)))

  -- ---- the machine's step

  -- what follows an instruction within its block
  abbrev pub on : List Placed → Exit → Tree (Next Thread)
  on ps e = (goes_on table (x64_block may table ps) e then lands (exits_of code)) then (λ a. goes (at_arrival a))

  pub whole_is : (p : Placed) (ps : List Placed) (s : Thread) → whole_step may code table (p ∷ ps) s ≡ (Begins (row_of may p.instr p.length p.flow s) then on ps)
  whole_is p ps s =
      let row = Begins (row_of may p.instr p.length p.flow s) in
      let one = then-assoc row (goes_on table (x64_block may table ps)) (lands (exits_of code)) in
      ap (λ t. t then (λ a. goes (at_arrival a))) one ∙ then-assoc row (λ e. goes_on table (x64_block may table ps) e then lands (exits_of code)) (λ a. goes (at_arrival a))

  -- a return is resolved alike by a step and behind a block
  pub return_is : (ps : List Placed) (t : Thread) (v : ℕ) → resolve (has_address code.sites) no_entries (Return t v) ≡ on ps (Return t v)
  return_is ps t v = by_tests (v == 0) (has_address code.sites v)
    where
      by_tests : (b c : Bool) → (if b then Gives (Stops Halted) else (if c then goes (record t { at = v }) else traps BadReturn))
          ≡ (Gives (arrives t (if b then Stops Halted else or_trap BadReturn (if c then Some v else None))) then (λ a. goes (at_arrival a)))
      by_tests true c = refl
      by_tests false true = refl
      by_tests false false = refl

  -- the step of an instruction, and then the rest of the block
  unfolds_behind : (p : Placed) (ps : List Placed) (s : Thread) → IsPlaced program p → s.at ≡ p.address
      → ((t : Thread) → StandsIn (successors p) t.at → Unfolds (thread_step may code) (Gives (Goes t)) (whole_step may code table ps t))
      → Unfolds (thread_step may code) (thread_step may code s) (whole_step may code table (p ∷ ps) s)
  unfolds_behind p ps s placed level later =
      let row = row_of may p.instr p.length p.flow s in
      let known = next_results (LeavesTo (λ a. StandsIn (successors p) a)) row (row_of_placed program code segments is p placed may s level) in
      let found = ((threads_find program code is).placed s.at p).1 (placed, sym level) in
      let unfolded = unfolds_then (thread_step may code) (λ e. LeavesTo (λ a. StandsIn (successors p) a) (Goes e)) row (resolve (has_address code.sites) no_entries) (on ps) known by_exit in
      subst (λ o. Unfolds (thread_step may code) (x64_take may (code_for_threads code) o s) (whole_step may code table (p ∷ ps) s)) (sym found)
      (subst (λ t. Unfolds (thread_step may code) (x64_take may (code_for_threads code) (Some p) s) t) (sym (whole_is p ps s)) (block-begins unfolded))
    where
      by_exit : (e : Exit) → LeavesTo (λ a. StandsIn (successors p) a) (Goes e) → Unfolds (thread_step may code) (resolve (has_address code.sites) no_entries e) (on ps e)
      by_exit (State t) there = later t there
      by_exit (Return t v) there =
          subst (λ u. Unfolds (thread_step may code) (resolve (has_address code.sites) no_entries (Return t v)) u) (return_is ps t v)
          (unfolds_self (thread_step may code) (resolve (has_address code.sites) no_entries (Return t v)))
      by_exit (Indexed t k) there = absurd there

  stretch_unfolds : (ps : List Placed) → AreStretch program ps → (s : Thread) → BeginAt s.at ps → Unfolds (thread_step may code) (thread_step may code s) (whole_step may code table ps s)
  stretch_unfolds [] stretch s begin = absurd stretch
  stretch_unfolds (p ∷ []) stretch s begin = unfolds_behind p [] s stretch.0 (sym begin) (λ t there. block-ends)
  stretch_unfolds (p ∷ q ∷ ps) stretch s begin =
      unfolds_behind p (q ∷ ps) s stretch.0 (sym begin) (λ t there. block-goes (stretch_unfolds (q ∷ ps) stretch.3 t (stretch.2 ∙ sym (behind p t.at stretch.1 there))))

  -- where the thread arrives a block begins
  pub stretch_begins : (ps : List Placed) → AreStretch program ps → (s : Thread) → BeginAt s.at ps → AllResults (λ (a : Arrived Thread). IsBegun code a.at) (arriving may code table ps s)
  stretch_begins ps stretch s begin =
      results_then LeavesToBlock (λ (a : Arrived Thread). IsBegun code a.at) (x64_block may table ps s) (lands (exits_of code)) (stretch_arrives ps stretch s begin) (λ left there. there)

  stretch_runs : (ps : List Placed) → AreStretch program ps → (s : Thread) → BeginAt s.at ps → RunsBlock may code table ps s
  stretch_runs [] stretch s begin = absurd stretch
  stretch_runs (p ∷ ps) stretch s begin = record {
    unfolds = stretch_unfolds (p ∷ ps) stretch s begin;
    advances = begins_advances _;
    arrives = λ items a n path. result_at (λ (a : Arrived Thread). IsBegun code a.at) path (stretch_begins (p ∷ ps) stretch s begin);
    level = λ items left n a path same. result_at IsLevel path (block_level may table (p ∷ ps) s) a same;
  }

pub run_blocks : ThreadsRunBlocks
run_blocks program code segments is b ps at are may table s level =
    stretch_runs program code segments is may table ps (block_stretch program code is b ps at are) s (subst (λ a. BeginAt a ps) (sym level) are.first)
