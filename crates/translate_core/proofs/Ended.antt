-- Blocks of words lead to where blocks begin.
use Rattle.std.proofs.Common.{◌≡◌, ◌≢◌, ℕ, ◌+◌, true, List, [], ◌∷◌, refl, sym, subst, arith}
use Rattle.std.specs.List.{AllByRecursion}
use Rattle.std.proofs.Math.Nat.{mod-eq_of_lt}
use Rattle.ev_graph.specs.Places.{StandsIn}
use Rattle.ev_graph.specs.declared.events.TrapKind.TheVariants.{BadAccess, Invalid}
use Rattle.x64_syntax.specs.Formed.{IsFlowOf}
use Rattle.x64_syntax.specs.declared.instr.Instr.{Instr}
use Rattle.x64_syntax.specs.declared.instr.Instr.TheVariants as instr
use Rattle.x64_syntax.specs.declared.placed.Flow.{Flow}
use Rattle.x64_syntax.specs.declared.placed.Flow.TheVariants as flow
use Rattle.x64_syntax.specs.declared.placed.Placed.{Placed}
use Rattle.elf_read.specs.Elf.{IsSegment}
use Rattle.code_at.specs.Code.{Program, target_from}
use Rattle.code_at.proofs.CallerLemmas.{ends_low}
use Rattle.cfg_walk.specs.declared.code.Code.{Code}
use Rattle.cfg_walk.specs.Reach.{end_of, after}
use Rattle.cfg_walk.specs.Code.{IsCodeOf}
use Rattle.cfg_walk.specs.Running.{IsBegun}
use Rattle.cfg_walk.proofs.BlockRuns.{last_leads}
use Rattle.cfg_walk.proofs.CallerLemmas.{leader_begins}
use Rattle.cfg_walk.proofs.Instructions.{AreStretch}
use Rattle.lift_alu.specs.Built.{is_lifted}
use Rattle.lift_alu.specs.Meant as meant
use Rattle.lift.specs.Block as lift
use Rattle.lift.specs.Block.{IsLifted}
use Rattle.isel.specs.Groups.{selected_end}
use Rattle.a64_block.specs.Renamed.{renamed_end}
use Rattle.a64_block.specs.declared.block.AEnd.{AEnd}
use Rattle.a64_block.specs.declared.block.AEnd.TheVariants as ends
use Rattle.translate_core.specs.Passed.{LeadsOn}

-- an end over other registers leads to the same blocks
pub leads_renamed : {R S : Type 0} (code : Code) (g : R → S) (end : AEnd R) → LeadsOn code end → LeadsOn code (renamed_end g end)
leads_renamed code g (ends.Goto a) leads = leads
leads_renamed code g (ends.Branch r a b) leads = leads
leads_renamed code g (ends.Return r) leads = leads
leads_renamed code g (ends.Indexed r table) leads = leads
leads_renamed code g (ends.Stop kind) leads = leads

no_access : Invalid ≢ BadAccess
no_access e = absurd cc

-- the end of a lifted instruction leads where the instruction does
leads_one : (code : Code) (i : Instr) (f : Flow) (end temps : ℕ) → is_lifted i ≡ true → IsFlowOf i f → ((a : ℕ) → StandsIn (after i f end) a → IsBegun code a)
    → LeadsOn code (selected_end (meant.end_from i f end temps))
leads_one code (instr.Call d) flow.Plain end temps lifted flows later = later (target_from end d) (0, refl)
leads_one code (instr.Call d) flow.ListedIn end temps lifted flows later = later end (0, refl)
leads_one code (instr.Call d) flow.ListedOut end temps lifted flows later = later end (0, refl)
leads_one code (instr.Call d) flow.TableJump end temps lifted flows later = absurd flows
leads_one code (instr.Jmp d) flow.Plain end temps lifted flows later = later (target_from end d) (0, refl)
leads_one code (instr.Jmp d) flow.ListedIn end temps lifted flows later = tt
leads_one code (instr.Jmp d) flow.ListedOut end temps lifted flows later = tt
leads_one code (instr.Jmp d) flow.TableJump end temps lifted flows later = absurd flows
leads_one code (instr.Jcc c d) f end temps lifted flows later = (later (target_from end d) (0, refl), later end (1, refl))
leads_one code instr.Ret f end temps lifted flows later = tt
leads_one code instr.Ud2 f end temps lifted flows later = no_access
leads_one code (instr.CallInd to) f end temps lifted flows later = absurd cc
leads_one code (instr.JmpInd to) f end temps lifted flows later = absurd cc
leads_one code i f end temps lifted flows later = later end (0, refl)

module _ (program : Program) (code : Code) (is : IsCodeOf program code) (segments : AllByRecursion IsSegment program.parts) where
  -- the end of a block leads to where blocks begin
  pub leads_from : (temps : ℕ) (ps : List Placed) → AreStretch program ps → AllByRecursion IsLifted ps → LeadsOn code (selected_end (lift.end_from temps ps))
  leads_from temps [] stretch lifted = absurd stretch
  leads_from temps (p ∷ []) stretch lifted =
      let low = ends_low program p.address p segments stretch.0.stands in
      let level : end_of p ≡ meant.after p = sym (mod-eq_of_lt (omega (arith, low))) in
      subst (λ e. LeadsOn code (selected_end (meant.end_from p.instr p.flow e temps))) level
      (leads_one code p.instr p.flow (end_of p) temps lifted.0.lifted lifted.0.flows
      (λ a at. leader_begins program code is a (last_leads program p stretch.0 stretch.1 a at)))
  leads_from temps (p ∷ q ∷ ps) stretch lifted = leads_from (temps + 256) (q ∷ ps) stretch.3 lifted.1
