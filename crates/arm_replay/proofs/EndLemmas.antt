-- Where the walk of a thread ends, or is cut.
use Rattle.std.proofs.Common.{◌≡◌, ◌≢◌, ℕ, ◌<◌, ◌≤◌, List, [], drop, refl, sym, ap, ◌∙◌, subst, arith, inl, inr}
use Rattle.ev_graph.specs.declared.events.End.{End}
use Rattle.ev_graph.specs.declared.events.End.TheVariants.{Running}
use Rattle.ev_graph.specs.declared.execution.ThreadRun.{ThreadRun}
use Rattle.behavior.specs.Tree.{Tree, Gives, Next, Stops}
use Rattle.behavior.specs.Run.{Run as IsRun}
use Rattle.behavior.specs.Seen.{counted}
use Rattle.behavior.proofs.Rests.{comes_run, ends_run}
use Rattle.behavior.specs.Rest.{ComesTo, at-start}
use Rattle.a64_table.specs.Machine.{AThread, Shows}
use Rattle.exec_text.specs.declared.exec_file.Given.{Given}
use Rattle.exec_text.specs.declared.exec_file.GivenThread.{GivenThread}
use Rattle.arm_replay.specs.declared.fault.ReplayFault.{ReplayFault}
use Rattle.arm_replay.specs.declared.fault.ReplayFault.TheVariants.{Run}
use Rattle.arm_replay.specs.declared.fault.ReplayKind.{ReplayKind}
use Rattle.arm_replay.specs.declared.fault.ReplayKind.TheVariants.{Early, Left, End as OtherEnd}
use Rattle.arm_replay.specs.declared.walk.Walk.{Walk}
use Rattle.arm_replay.specs.Faults.{most_steps, GoesOn, IsPast, IsFaultAt, early, left, other_end, IsThreadFault, IsThreadReplay, EndsAtOnce}
use Rattle.arm_replay.specs.Values.{Takes}
use Rattle.arm_replay.specs.Walking.{Keeps, Reaches, Stands, IsWalkFault}

-- a fault where the walk stands
fault_there : (step : AThread → Tree (Next AThread)) (start : AThread) (k : ℕ) (thread : GivenThread) (walk : Walk) (next : Tree (Next AThread)) (kind : ReplayKind) (fault : ReplayFault)
    → Reaches step start k thread walk next → walk.begun ≤ most_steps
    → IsFaultAt thread walk.made.count walk.begun (drop walk.taken thread.values) next walk.made.count kind
    → fault ≡ Run (record { thread = k; item = walk.made.count; kind = kind }) → IsWalkFault step start k thread fault
fault_there step start k thread walk next kind fault reaches few at is =
    let left_there = drop walk.taken thread.values in
    let here : IsThreadFault step start thread walk.made.count kind = record {
      made = reaches.made;
      begun = walk.begun;
      left = left_there;
      next = next;
      comes = reaches.comes;
      takes = reaches.takes;
      few = few;
      fault = subst (λ n. IsFaultAt thread n walk.begun left_there next walk.made.count kind) reaches.keeps.many at;
    } in
    subst (λ f. IsWalkFault step start k thread f) (sym is) (refl, here)

-- the thread ends too early
pub ends_early : (step : AThread → Tree (Next AThread)) (start : AThread) (k : ℕ) (thread : GivenThread) (walk : Walk) (end : End) (fault : ReplayFault)
    → walk.begun ≤ most_steps → walk.made.count < thread.count → fault ≡ Run (record { thread = k; item = walk.made.count; kind = Early })
    → Reaches step start k thread walk (Gives (Stops end)) → IsWalkFault step start k thread fault
ends_early step start k thread walk end fault few fewer is reaches = fault_there step start k thread walk (Gives (Stops end)) Early fault reaches few (early fewer) is

is_past : (thread : GivenThread) (have : ℕ) (rest : List Given) → GoesOn thread have rest → thread.count ≤ have → IsPast thread have rest
is_past thread have rest (inl fewer) all = absurd (omega (arith, fewer, all))
is_past thread have rest (inr all_made) all = all_made

-- it ends otherwise
pub ends_otherwise : (step : AThread → Tree (Next AThread)) (start : AThread) (k : ℕ) (thread : GivenThread) (walk : Walk) (end : End) (fault : ReplayFault)
    → walk.begun ≤ most_steps → thread.count ≤ walk.made.count → end ≢ thread.end → fault ≡ Run (record { thread = k; item = walk.made.count; kind = OtherEnd })
    → GoesOn thread walk.made.count (drop walk.taken thread.values)
    → Reaches step start k thread walk (Gives (Stops end)) → IsWalkFault step start k thread fault
ends_otherwise step start k thread walk end fault few all other is goes_on reaches =
    fault_there step start k thread walk (Gives (Stops end)) OtherEnd fault reaches few (other_end (is_past thread walk.made.count (drop walk.taken thread.values) goes_on all) other) is

-- it ends as it is given
pub ends_so : (step : AThread → Tree (Next AThread)) (start : AThread) (k : ℕ) (thread : GivenThread) (walk : Walk) (end : End) (run : ThreadRun)
    → walk.begun ≤ most_steps → thread.count ≤ walk.made.count → end ≡ thread.end → run.items ≡ walk.made.items.items → run.end ≡ end
    → GoesOn thread walk.made.count (drop walk.taken thread.values)
    → Reaches step start k thread walk (Gives (Stops end)) → IsThreadReplay step start k thread run
ends_so step start k thread walk end run few all same items end_is goes_on reaches =
    let past = is_past thread walk.made.count (drop walk.taken thread.values) goes_on all in
    record {
      made = reaches.made;
      begun = walk.begun;
      run = subst (λ e. IsRun step start reaches.made e walk.begun) (sym end_is) (ends_run reaches.comes);
      items = items ∙ reaches.keeps.items;
      end = end_is ∙ same;
      takes = subst (λ l. Takes reaches.made thread.values l) past.1 reaches.takes;
      many = sym reaches.keeps.many ∙ past.0;
      few = few;
      at_once = λ running. absurd (past.2 (sym same ∙ sym end_is ∙ running));
    }

-- it is cut where it is given
pub cut_so : (step : AThread → Tree (Next AThread)) (start : AThread) (k : ℕ) (thread : GivenThread) (walk : Walk) (run : ThreadRun)
    → walk.begun ≤ most_steps → walk.made.count ≡ thread.count → drop walk.taken thread.values ≡ [] → thread.end ≡ Running
    → run.items ≡ walk.made.items.items → run.end ≡ Running → Stands step start k thread walk → IsThreadReplay step start k thread run
cut_so step start k thread walk run few all none running items end_is stands =
    let reaches = stands.reaches in
    record {
      made = reaches.made;
      begun = walk.begun;
      run = subst (λ e. IsRun step start reaches.made e walk.begun) (sym end_is) (comes_run reaches.comes);
      items = items ∙ reaches.keeps.items;
      end = end_is ∙ sym running;
      takes = subst (λ l. Takes reaches.made thread.values l) none reaches.takes;
      many = sym reaches.keeps.many ∙ all;
      few = few;
      at_once = λ cut. reaches.at_once running all;
    }

-- values are left
pub left_over : (step : AThread → Tree (Next AThread)) (start : AThread) (k : ℕ) (thread : GivenThread) (walk : Walk) (fault : ReplayFault)
    → walk.begun ≤ most_steps → walk.made.count ≡ thread.count → drop walk.taken thread.values ≢ [] → fault ≡ Run (record { thread = k; item = walk.made.count; kind = Left })
    → Stands step start k thread walk → IsWalkFault step start k thread fault
left_over step start k thread walk fault few all some is stands = fault_there step start k thread walk (step stands.state) Left fault stands.reaches few (left all some) is

-- a walk that stands at the start
pub starts : (step : AThread → Tree (Next AThread)) (start : AThread) (k : ℕ) (thread : GivenThread) (walk : Walk)
    → Shows walk.state start → Keeps k [] walk.made → walk.begun ≡ 0 → walk.taken ≡ 0 → Stands step start k thread walk
starts step start k thread walk shows keeps begun taken = record {
  state = start;
  shows = shows;
  reaches = record {
    made = [];
    keeps = keeps;
    comes = subst (λ n. ComesTo step start [] n (step start)) (sym begun) at-start;
    takes = subst (λ n. thread.values ≡ drop n thread.values) (sym taken) refl;
    at_once = λ running all. tt;
  };
}
