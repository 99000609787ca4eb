-- Steps and runs of a thread of a program's code: each address to which it comes is reached, and it never jumps wrong.
use Rattle.std.proofs.Common.{◌≡◌, ◌≢◌, ◌==◌, ◌%◌, ◌^◌, ◌+◌, ℕ, zero, suc, Bool, true, false, List, [], ◌∷◌, map, Some, refl, sym, subst, ◌∙◌, arith}
use Rattle.std.specs.Prelude.{if◌then◌else◌}
use Rattle.std.specs.List.{AllByRecursion, slice_get}
use Rattle.ev_graph.specs.Places.{StandsIn}
use Rattle.ev_graph.specs.declared.events.Item.{Item}
use Rattle.ev_graph.specs.declared.events.End.{End}
use Rattle.ev_graph.specs.declared.events.End.TheVariants.{Halted, Running, Trap}
use Rattle.ev_graph.specs.declared.events.TrapKind.TheVariants.{BadJump, BadReturn}
use Rattle.behavior.specs.Tree.{Gives, Next, Goes, Stops, ◌then◌}
use Rattle.behavior.specs.Acts.{Permission, goes, traps}
use Rattle.behavior.specs.Run.{Run, cuts, stops, goes_on}
use Rattle.behavior.specs.Passed.{Passes, cut-here, stops-here, passes-on}
use Rattle.x64_syntax.specs.declared.instr.Instr.{Instr}
use Rattle.x64_syntax.specs.declared.instr.Instr.TheVariants as instr
use Rattle.x64_syntax.specs.declared.placed.Flow.TheVariants as flow
use Rattle.x64_syntax.specs.declared.placed.Placed.{Placed}
use Rattle.x64_table.specs.State.{Thread}
use Rattle.x64_table.specs.Rows.{Exit, State, Return, Indexed, row_of}
use Rattle.x64_table.specs.Machine.{no_entries, resolve, x64_take}
use Rattle.elf_read.specs.Elf.{IsSegment}
use Rattle.elf_read.specs.declared.fault.FileFault.TheVariants.{Indirect}
use Rattle.code_at.specs.Code.{Program, is_at, listed_at, flow_of}
use Rattle.code_at.proofs.CallerLemmas.{ends_low}
use Rattle.cfg_walk.specs.declared.code.Code.{Code}
use Rattle.cfg_walk.specs.Reach.{IsReached, IsPlaced, end_of, successors}
use Rattle.cfg_walk.specs.Reach.IsReached.{at-next}
use Rattle.cfg_walk.specs.Faults.{is_indirect}
use Rattle.cfg_walk.specs.Code.{IsCodeOf}
use Rattle.cfg_walk.specs.Machine.{has_address, code_for_threads, thread_step}
use Rattle.cfg_walk.specs.Running.{IsBegun, NoWrongJump, RunsAreReached}
use Rattle.cfg_walk.proofs.BlockLemmas.{leader_reached}
use Rattle.cfg_walk.proofs.Exits.{IsDirect, row_leads}
use Rattle.cfg_walk.proofs.Found.{threads_find}
use Rattle.cfg_walk.proofs.Results.{AllNext, next_at, next_choice, next_then}
use Rattle.cfg_walk.proofs.RowExits.{LeavesTo}
use Rattle.cfg_walk.proofs.Whole.{whole, site_leads}

-- ---- the row of a placed instruction

direct_if : (i : Instr) → is_indirect i ≡ false → IsDirect i
direct_if (instr.CallInd to) direct = absurd (cc)
direct_if (instr.JmpInd to) direct = absurd (cc)
direct_if i direct = tt

-- what is translated so far says itself where it leads
direct : (program : Program) (code : Code) → IsCodeOf program code → (p : Placed) → IsPlaced program p → IsDirect p.instr
direct program code is p placed = direct_if p.instr (by_test (is_indirect p.instr) refl)
  where
    by_test : (b : Bool) → is_indirect p.instr ≡ b → is_indirect p.instr ≡ false
    by_test false e = e
    by_test true e = absurd (is.clear (Indirect p.address) (omega arith) (omega arith) (record { p = p; placed = placed; here = refl; indirect = e }))

listed_no_table : (program : Program) (a : ℕ) → listed_at program a ≢ flow.TableJump
listed_no_table program a = by_tests (is_at program.input a) (is_at program.output a)
  where
    by_tests : (b c : Bool) → (if b then flow.ListedIn else (if c then flow.ListedOut else flow.Plain)) ≢ flow.TableJump
    by_tests true c e = absurd (cc)
    by_tests false true e = absurd (cc)
    by_tests false false e = absurd (cc)

flow_no_table : (program : Program) (end : ℕ) (i : Instr) → flow_of program end i ≢ flow.TableJump
flow_no_table program end (instr.Call displacement) = listed_no_table program _
flow_no_table program end (instr.Jmp displacement) = listed_no_table program _
flow_no_table program end i = λ e. absurd (cc)

-- its row leaves to a successor, and does not end by a wrong jump
pub row_of_placed : (program : Program) (code : Code) → AllByRecursion IsSegment program.parts → IsCodeOf program code
    → (p : Placed) → IsPlaced program p → (may : Permission) (s : Thread) → s.at ≡ p.address
    → AllNext (LeavesTo (λ a. StandsIn (successors p) a)) (row_of may p.instr p.length p.flow s)
row_of_placed program code segments is p placed may s level =
    let low = ends_low program p.address p segments placed.stands in
    let end : (s.at + p.length) % 2 ^ 64 ≡ end_of p = omega (arith, low, level) in
    row_leads may p.instr p.length p.flow s (end_of p) end (direct program code is p placed)
    (λ e. flow_no_table program (p.address + p.length) p.instr (sym placed.stands.flows ∙ e))

-- ---- steps

-- the thread comes to a reached address, or ends otherwise than by a wrong jump
abbrev pub ComesToReached : Program → Next Thread → Type 0
ComesToReached program (Goes t) = IsReached program t.at
ComesToReached program (Stops end) = end ≢ Trap BadJump

halted_is_no_jump : Halted ≢ Trap BadJump
halted_is_no_jump e = absurd (cc)

running_is_no_jump : Running ≢ Trap BadJump
running_is_no_jump e = absurd (cc)

return_is_no_jump : Trap BadReturn ≢ Trap BadJump
return_is_no_jump e = absurd (cc)

exit_reaches : (program : Program) (code : Code) → IsCodeOf program code → (p : Placed) → IsPlaced program p
    → (e : Exit) → LeavesTo (λ a. StandsIn (successors p) a) (Goes e) → AllNext (ComesToReached program) (resolve (has_address code.sites) no_entries e)
exit_reaches program code is p placed (State t) leads = at-next p placed.reached placed.stands leads
exit_reaches program code is p placed (Indexed t k) leads = absurd leads
exit_reaches program code is p placed (Return t v) leads =
    next_choice (ComesToReached program) (v == 0) (Gives (Stops Halted)) (if has_address code.sites v then goes (record t { at = v }) else traps BadReturn)
    halted_is_no_jump (by_site (has_address code.sites v) refl)
  where
    by_site : (b : Bool) → has_address code.sites v ≡ b → AllNext (ComesToReached program) (if b then goes (record t { at = v }) else traps BadReturn)
    by_site true e = leader_reached program v (site_leads program v (((threads_find program code is).sites v).0 e))
    by_site false e = return_is_no_jump

-- a step from a reached address comes to a reached address
pub step_reaches : (program : Program) (code : Code) → AllByRecursion IsSegment program.parts → IsCodeOf program code
    → (may : Permission) (s : Thread) → IsReached program s.at → AllNext (ComesToReached program) (thread_step may code s)
step_reaches program code segments is may s reached =
    let there = whole program code is s.at reached in
    let p = there.0 in
    let found = ((threads_find program code is).placed s.at p).1 (there.1, there.2) in
    let row = row_of_placed program code segments is p there.1 may s (sym there.2) in
    subst (λ o. AllNext (ComesToReached program) (x64_take may (code_for_threads code) o s)) (sym found)
    (next_then (LeavesTo (λ a. StandsIn (successors p) a)) (ComesToReached program) (row_of may p.instr p.length p.flow s) (resolve (has_address code.sites) no_entries) row
    (exit_reaches program code is p there.1) (λ end other. other))

-- ---- runs

-- a run from a reached address never jumps wrong
pub reached_never_jumps : (program : Program) (code : Code) → AllByRecursion IsSegment program.parts → IsCodeOf program code
    → (may : Permission) {s : Thread} {items : List Item} {end : End} {n : ℕ} → IsReached program s.at → Run (thread_step may code) s items end n → end ≢ Trap BadJump
reached_never_jumps program code segments is may reached (cuts path) = running_is_no_jump
reached_never_jumps program code segments is may {s} reached (stops path) = next_at (ComesToReached program) path (step_reaches program code segments is may s reached)
reached_never_jumps program code segments is may {s} reached (goes_on path run) =
    reached_never_jumps program code segments is may (next_at (ComesToReached program) path (step_reaches program code segments is may s reached)) run

one_state : (program : Program) (s : Thread) (a i : ℕ) → IsReached program s.at → slice_get (s.at ∷ []) i ≡ Some a → IsReached program a
one_state program s a zero reached at = let same : s.at ≡ a = cc in subst (IsReached program) same reached
one_state program s a (suc i) reached at = absurd (cc)

-- the addresses of the instructions that it takes are reached
pub passes_reached : (program : Program) (code : Code) → AllByRecursion IsSegment program.parts → IsCodeOf program code
    → (may : Permission) {s : Thread} {states : List Thread} {items : List Item} {end : End} {n : ℕ} → IsReached program s.at → Passes (thread_step may code) s states items end n
    → (i a : ℕ) → slice_get (map (λ (t : Thread). t.at) states) i ≡ Some a → IsReached program a
passes_reached program code segments is may {s} reached (cut-here path) i a at = one_state program s a i reached at
passes_reached program code segments is may {s} reached (stops-here path) i a at = one_state program s a i reached at
passes_reached program code segments is may {s} reached (passes-on path rest) zero a at = let same : s.at ≡ a = cc in subst (IsReached program) same reached
passes_reached program code segments is may {s} reached (passes-on path rest) (suc i) a at =
    passes_reached program code segments is may (next_at (ComesToReached program) path (step_reaches program code segments is may s reached)) rest i a at

-- where a block begins is reached
pub begun_reached : (program : Program) (code : Code) → IsCodeOf program code → (a : ℕ) → IsBegun code a → IsReached program a
begun_reached program code is a begun =
    subst (IsReached program) begun.2 (leader_reached program begun.0.first ((is.blocks.exact begun.0).0 begun.1).leader)

pub never_jumps_wrong : NoWrongJump
never_jumps_wrong program code segments is may s begun items end n run =
    reached_never_jumps program code segments is may (begun_reached program code is s.at begun) run

pub takes_reached : RunsAreReached
takes_reached program code segments is may s begun addresses items end n takes a at =
    passes_reached program code segments is may (begun_reached program code is s.at begun) takes.2 at.0 a (subst (λ l. slice_get l at.0 ≡ Some a) takes.1 at.1)
