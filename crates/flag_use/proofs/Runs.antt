-- The addresses that a run of a thread takes are a path, and no flag is read that this path leaves undefined.
use Rattle.std.proofs.Common.{◌≡◌, ◌==◌, ◌++◌, ℕ, Bool, true, false, List, [], ◌∷◌, map, refl, sym, ap, ◌∙◌, subst, arith}
use Rattle.std.specs.Prelude.{if◌then◌else◌}
use Rattle.std.specs.List.{AllByRecursion}
use Rattle.ev_graph.specs.Places.{StandsIn}
use Rattle.ev_graph.specs.declared.events.Item.{Item}
use Rattle.ev_graph.specs.declared.events.End.{End}
use Rattle.ev_graph.specs.declared.events.End.TheVariants.{Halted}
use Rattle.ev_graph.specs.declared.events.TrapKind.TheVariants.{BadReturn}
use Rattle.behavior.specs.Tree.{Gives, Next, Goes, Stops}
use Rattle.behavior.specs.Acts.{Permission, goes as going, traps}
use Rattle.behavior.specs.Passed.{Passes, cut-here, stops-here, passes-on}
use Rattle.x64_syntax.specs.declared.placed.Placed.{Placed}
use Rattle.x64_table.specs.State.{Thread}
use Rattle.x64_table.specs.Rows.{Exit, State, Return, Indexed, row_of}
use Rattle.x64_table.specs.Machine.{no_entries, resolve, x64_take}
use Rattle.elf_read.specs.Elf.{IsSegment}
use Rattle.elf_read.specs.declared.fault.FileFault.TheVariants.{UndefinedFlag}
use Rattle.code_at.specs.Code.{Program}
use Rattle.cfg_walk.specs.declared.code.Code.{Code}
use Rattle.cfg_walk.specs.Reach.{IsReached, IsPlaced, end_of}
use Rattle.cfg_walk.specs.Reach.IsReached.{at-entry, at-next}
use Rattle.cfg_walk.specs.Code.{IsCodeOf}
use Rattle.cfg_walk.specs.Machine.{has_address, code_for_threads, thread_step}
use Rattle.cfg_walk.proofs.CallerLemmas.{begun_reached, finds_code, sites_begin, whole}
use Rattle.cfg_walk.proofs.Results.{AllNext, next_at, next_choice, next_then}
use Rattle.flag_use.specs.declared.flag.Flag.{Flag}
use Rattle.flag_use.specs.Instructions.{reads}
use Rattle.flag_use.specs.Paths.{GoesOn, PathTo, undefined_behind}
use Rattle.flag_use.specs.Paths.GoesOn.{to-next, to-site}
use Rattle.flag_use.specs.Paths.PathTo.{begins, goes}
use Rattle.flag_use.specs.Faults.{ReadsNoUndefined}
use Rattle.flag_use.specs.Runs.{ArePath, BeginsThread, GoOn, ReadDefined, RunsArePaths, undefined_after}
use Rattle.flag_use.proofs.Exits.{ExitsOf, row_exits}
use Rattle.flag_use.proofs.Lookups.{address_of}
use Rattle.flag_use.proofs.Ordered.{followed}

-- ---- a step of a thread goes where a path goes on

abbrev pub ComesBy : Program → Placed → Next Thread → Type 0
ComesBy program p (Goes t) = GoesOn program p t.at
ComesBy program p (Stops end) = Unit {0}

module _ (program : Program) (code : Code) (segments : AllByRecursion IsSegment program.parts) (is : IsCodeOf program code) where
  exit_comes : (p : Placed) (e : Exit) → ExitsOf p.instr p.flow (end_of p) (Goes e)
      → AllNext (ComesBy program p) (resolve (has_address code.sites) no_entries e)
  exit_comes p (State t) leads = to-next leads
  exit_comes p (Indexed t k) leads = absurd leads
  exit_comes p (Return t v) back =
      next_choice (ComesBy program p) (v == 0) (Gives (Stops Halted))
      (if has_address code.sites v then going (record t { at = v }) else traps BadReturn) tt (by_site (has_address code.sites v) refl)
    where
      by_site : (b : Bool) → has_address code.sites v ≡ b
          → AllNext (ComesBy program p) (if b then going (record t { at = v }) else traps BadReturn)
      by_site true e = to-site back (((finds_code program code is).sites v).0 e)
      by_site false e = tt

  pub step_comes : (p : Placed) → IsPlaced program p → (may : Permission) (s : Thread) → p.address ≡ s.at
      → AllNext (ComesBy program p) (thread_step may code s)
  step_comes p placed may s level =
      let found = ((finds_code program code is).placed s.at p).1 (placed, level) in
      let row = row_exits program code segments is p placed may s (sym level) in
      subst (λ o. AllNext (ComesBy program p) (x64_take may (code_for_threads code) o s)) (sym found)
      (next_then (ExitsOf p.instr p.flow (end_of p)) (ComesBy program p) (row_of may p.instr p.length p.flow s)
      (resolve (has_address code.sites) no_entries) row (exit_comes p) (λ end other. other))

  -- where a path goes on an instruction is placed
  pub on_reached : (p : Placed) (b : ℕ) → IsPlaced program p → GoesOn program p b → IsReached program b
  on_reached p b placed (to-next at) = at-next p placed.reached placed.stands (followed p.instr p.flow (end_of p) b at)
  on_reached p b placed (to-site back site) = begun_reached program code is b (sites_begin program code is b site)

  -- ---- runs

  -- the addresses are those of placed instructions, of which this is the first, and a path goes on from each to the next
  record AreOnward (p : Placed) (addresses : List ℕ) : Type 0 where
    ps : List Placed
    at : addresses ≡ map address_of (p ∷ ps)
    placed : AllByRecursion (IsPlaced program) (p ∷ ps)
    go_on : GoOn program (p ∷ ps)

  alone : (p : Placed) (s : Thread) → IsPlaced program p → p.address ≡ s.at → AreOnward p (s.at ∷ [])
  alone p s is_placed level = record { ps = []; at = ap (λ (a : ℕ). a ∷ []) (sym level); placed = (is_placed, tt); go_on = tt }

  preceded : (p q : Placed) (s t : Thread) (states : List Thread) → IsPlaced program p → p.address ≡ s.at
      → q.address ≡ t.at → GoesOn program p t.at → AreOnward q (map (λ (s : Thread). s.at) states) → AreOnward p (s.at ∷ map (λ (s : Thread). s.at) states)
  preceded p q s t states is_placed level next on rest = record {
    ps = q ∷ rest.ps;
    at = ap (λ (a : ℕ). a ∷ map (λ (s : Thread). s.at) states) (sym level) ∙ ap (λ (l : List ℕ). p.address ∷ l) rest.at;
    placed = (is_placed, rest.placed);
    go_on = (subst (GoesOn program p) (sym next) on, rest.go_on);
  }

  passes_onward : (may : Permission) {s : Thread} {states : List Thread} {items : List Item} {end : End} {n : ℕ}
      (p : Placed) → IsPlaced program p → p.address ≡ s.at → Passes (thread_step may code) s states items end n → AreOnward p (map (λ (s : Thread). s.at) states)
  passes_onward may {s} p placed level (cut-here path) = alone p s placed level
  passes_onward may {s} p placed level (stops-here path) = alone p s placed level
  passes_onward may {s} p placed level (passes-on {t = t} {states = states} path rest) =
      let on : GoesOn program p t.at = next_at (ComesBy program p) path (step_comes p placed may s level) in
      let there = whole program code is t.at (on_reached p t.at placed on) in
      preceded p there.0 s t states placed level there.2 on (passes_onward may there.0 there.1 there.2 rest)

-- ---- what such a path leaves undefined

-- some path ends at the first of the instructions with a flag in this state
abbrev pub BeginsFrom : Program → Flag → (was : Bool) → List Placed → Type 0
BeginsFrom program flag was [] = ⊥
BeginsFrom program flag was (p ∷ ps) = PathTo program flag p.address was

begins_from : (program : Program) (flag : Flag) (ps : List Placed) → BeginsThread program ps → BeginsFrom program flag false ps
begins_from program flag [] none = none
begins_from program flag (p ∷ ps) entry = begins entry

ends_at : (program : Program) (flag : Flag) (before : List Placed) (p : Placed) (behind : List Placed) (was : Bool)
    → BeginsFrom program flag was (before ++ p ∷ behind) → AllByRecursion (IsPlaced program) (before ++ p ∷ behind)
    → GoOn program (before ++ p ∷ behind) → PathTo program flag p.address (undefined_after flag before was) × IsPlaced program p
ends_at program flag [] p behind was path placed on = (path, placed.0)
ends_at program flag (b ∷ []) p behind was path placed on = (goes b path placed.0 on.0, placed.1.0)
ends_at program flag (b ∷ c ∷ before) p behind was path placed on =
    ends_at program flag (c ∷ before) p behind (undefined_behind flag b.instr was) (goes b path placed.0 on.0) placed.1 on.1

-- where no undefined flag is read, a flag that an instruction reads is defined at the end of each path to it
pub defined_where_read : (program : Program) → ReadsNoUndefined program → (p : Placed) → IsPlaced program p
    → (flag : Flag) (undefined : Bool) → reads flag p.instr ≡ true → PathTo program flag p.address undefined → undefined ≡ false
defined_where_read program fine p placed flag false reading path = refl
defined_where_read program fine p placed flag true reading path =
    absurd (fine (UndefinedFlag p.address) (omega arith) (omega arith)
    (record { p = p; placed = placed; here = refl; flag = flag; reading = reading; undefined = path }))

read_defined : (program : Program) → ReadsNoUndefined program → (ps : List Placed) → ArePath program ps → ReadDefined ps
read_defined program fine ps path before p behind flag split reading =
    let parts : ArePath program (before ++ p ∷ behind) = subst (ArePath program) split path in
    let there = ends_at program flag before p behind false
    (begins_from program flag (before ++ p ∷ behind) parts.begins) parts.placed parts.go_on in
    defined_where_read program fine p there.1 flag (undefined_after flag before false) reading there.0

pub runs_paths : RunsArePaths
runs_paths program code segments is fine may s entry addresses items end n takes =
    let first = whole program code is s.at (at-entry entry) in
    let onward = passes_onward program code segments is may first.0 first.1 first.2 takes.2 in
    let path : ArePath program (first.0 ∷ onward.ps) = record {
      placed = onward.placed;
      begins = subst (StandsIn program.entries) (sym first.2) entry;
      go_on = onward.go_on;
    } in
    record {
      ps = first.0 ∷ onward.ps;
      at = takes.1 ∙ onward.at;
      path = path;
      defined = read_defined program fine (first.0 ∷ onward.ps) path;
    }
