-- A program's code realizes its plan: each step of a thread makes what the plan counts, and where a block begins the plan says
-- its gaps.
use Rattle.std.proofs.Common.{◌≡◌, inl, inr, ◌==◌, ℕ, Bool, true, false, List, [], ◌∷◌, ◌++◌, length, Option, Some, None, refl, sym, ap, subst, ◌∙◌, arith}
use Rattle.std.specs.Prelude.{if◌then◌else◌, flat_map, map}
use Rattle.std.specs.List.{AllByRecursion}
use mathlib.Core.Path.{fun_ext}
use Rattle.ev_graph.specs.Places.{StandsIn}
use Rattle.ev_graph.specs.declared.events.End.TheVariants.{Halted}
use Rattle.ev_graph.specs.declared.events.TrapKind.TheVariants.{BadReturn}
use Rattle.behavior.specs.Tree.{Tree, Gives, Begins, Acts, Next, Goes, Stops, ◌then◌}
use Rattle.behavior.specs.Acts.{Permission, goes, traps}
use Rattle.x64_syntax.specs.declared.instr.Instr.{Instr}
use Rattle.x64_syntax.specs.declared.instr.Instr.TheVariants as instr
use Rattle.x64_syntax.specs.declared.instr_slots.InstrSlot.{InstrSlot}
use Rattle.x64_syntax.specs.declared.placed.Placed.{Placed}
use Rattle.x64_syntax.specs.declared.slots.Slot.{Slot}
use Rattle.x64_syntax.specs.Slots.{slots}
use Rattle.x64_table.specs.Laws.{slot_kinds}
use Rattle.x64_table.specs.State.{Thread}
use Rattle.x64_table.specs.Rows.{Exit, State, Return, Indexed, row_of}
use Rattle.x64_table.specs.Machine.{no_entries, resolve, x64_take}
use Rattle.x64_table.proofs.CallerLemmas.{is_mfence, row_shape}
use Rattle.elf_read.specs.Elf.{IsSegment}
use Rattle.code_at.specs.Code.{Program}
use Rattle.code_at.proofs.CallerLemmas.{is_formed}
use Rattle.cfg_walk.specs.declared.code.Block.{Block}
use Rattle.cfg_walk.specs.declared.code.Code.{Code}
use Rattle.cfg_walk.specs.Reach.{IsPlaced, end_of, successors}
use Rattle.cfg_walk.specs.Blocks.{IsLeader, IsStretch, ends, goes-on, BeginAt, Follow, AreOf}
use Rattle.cfg_walk.specs.Code.{IsCodeOf}
use Rattle.cfg_walk.specs.Machine.{has_address, code_for_threads, thread_step}
use Rattle.cfg_walk.specs.Running.{IsBegun}
use Rattle.cfg_walk.proofs.BlockLemmas.{one_placed}
use Rattle.cfg_walk.proofs.BlockRuns.{behind, last_leads}
use Rattle.cfg_walk.proofs.Instructions.{AreStretch, block_stretch}
use Rattle.cfg_walk.proofs.Results.{AllNext}
use Rattle.cfg_walk.proofs.RowExits.{LeavesTo}
use Rattle.cfg_walk.proofs.CallerLemmas.{finds_code, leader_begins, have_instructions, row_of_placed}
use Rattle.cfg_walk.proofs.Whole.{site_leads}
use Rattle.fence_plan.specs.declared.gap.Gap.{Gap}
use Rattle.fence_plan.specs.Gaps.{Station, Strong, gaps}
use Rattle.fence_plan.specs.Realized.{Realizes, RealizesPlan}
use Rattle.carry_spec.specs.Plan.{IsPlan, station, strong, stations_of}
use Rattle.translate_core.proofs.RowStations.{kind_station, of_row, row_realizes}

-- ---- trees of exits

then-goes : {S : Type 0} (t : Tree (Next S)) → (t then goes) ≡ t
then-goes (Gives (Goes s)) = refl
then-goes (Gives (Stops end)) = refl
then-goes (Begins t) = ap Begins (then-goes t)
then-goes (Acts range made next) = ap (Acts range made) (fun_ext (λ v. then-goes (next v)))

-- no block begins at an exit
abbrev NoPlan : Exit → Option (List Gap)
NoPlan exit = None

abbrev StillTo : List Station → Exit → List Station → Type 0
StillTo after exit ss = ss ≡ after

-- what makes some stations up to its exits, and then others
makes_then : {S : Type 0} (private : Slot → Bool) (plan : S → Option (List Gap)) (Stands : S → List Station → Type 0) (after : List Station) (P : Next Exit → Type 0) (f : Exit → Tree (Next S)) (ss : List Station) (t : Tree (Next Exit))
    → Realizes private NoPlan (StillTo after) ss t → AllNext P t → ((exit : Exit) → P (Goes exit) → Realizes private plan Stands after (f exit)) → Realizes private plan Stands ss (t then f)
makes_then private plan Stands after P f ss (Gives (Goes exit)) (inl (none, same)) all later = subst (λ rs. Realizes private plan Stands rs (f exit)) (sym same) (later exit all)
makes_then private plan Stands after P f ss (Gives (Goes exit)) (inr (next, some, same)) all later = absurd cc
makes_then private plan Stands after P f ss (Gives (Stops end)) makes all later = tt
makes_then private plan Stands after P f ss (Begins t) makes all later = makes_then private plan Stands after P f ss t makes all later
makes_then private plan Stands after P f ss (Acts range made next) makes all later = λ v lt.
    let one = makes v lt in (one.0, one.1, makes_then private plan Stands after P f one.0 (next v) one.2 (all v lt) later)

-- ---- what the plan counts of an instruction

strong_is : (i : Instr) → strong i ≡ (if is_mfence i then Strong ∷ [] else [])
strong_is instr.Mfence = refl
strong_is i = refl

kinds_are : (private : Slot → Bool) (place : ℕ) (list : List InstrSlot)
    → flat_map (station private) (map (λ (s : InstrSlot). record { address = place; kind = s.kind }) list) ≡ flat_map (kind_station private place) (map (λ (s : InstrSlot). s.kind) list)
kinds_are private place [] = refl
kinds_are private place (s ∷ list) = ap (λ l. kind_station private place s.kind ++ l) (kinds_are private place list)

of_row_is : (private : Slot → Bool) (p : Placed) → of_row private p.address (slot_kinds p.instr p.flow) (is_mfence p.instr) ≡ stations_of private p
of_row_is private p =
    ap (λ l. l ++ flat_map (kind_station private p.address) (slot_kinds p.instr p.flow)) (sym (strong_is p.instr))
    ∙ ap (λ l. strong p.instr ++ l) (sym (kinds_are private p.address (slots p.instr p.flow)))

-- ---- blocks

-- behind each instruction but the last no block begins
abbrev pub AreInner : Program → List Placed → Type 0
AreInner program [] = Unit {0}
AreInner program (p ∷ []) = Unit {0}
AreInner program (p ∷ q ∷ ps) = (IsLeader program (end_of p) → ⊥) × AreInner program (q ∷ ps)

module _ (program : Program) (code : Code) (is : IsCodeOf program code) where
  placed_of : (p : Placed) → StandsIn code.placed p → IsPlaced program p
  placed_of p at = (is.placed.exact p).0 at

  stretch_inner : (ps : List Placed) → {a n : ℕ} → IsStretch program a n → length ps ≡ n → BeginAt a ps → Follow ps → AllByRecursion (StandsIn code.placed) ps → AreInner program ps
  stretch_inner [] stretch many begin follow each = tt
  stretch_inner (p ∷ []) stretch many begin follow each = tt
  stretch_inner (p ∷ r ∷ ps) (ends q placed end) many begin follow each = absurd (omega (arith, many))
  stretch_inner (p ∷ r ∷ ps) (goes-on {n = n} q placed open_it inside rest) many begin follow each =
      let same : p ≡ q = one_placed program p q (placed_of p each.0) placed begin in
      let here : r.address ≡ end_of q = follow.0 ∙ ap end_of same in
      ((λ leader. inside (subst (λ (x : Placed). IsLeader program (end_of x)) same leader)), stretch_inner (r ∷ ps) rest (omega (arith, many)) here follow.1 each.1)

  pub block_inner : (b : Block) (ps : List Placed) → StandsIn code.blocks b → AreOf code.placed b ps → AreInner program ps
  block_inner b ps at are = stretch_inner ps ((is.blocks.exact b).0 at).stretch are.many are.first are.follow are.each

  module _ (segments : AllByRecursion IsSegment program.parts) (private : Slot → Bool) (plan : ℕ → Option (List Gap)) (is_plan : IsPlan private code plan) where
    -- what is still to come of a block in which a thread stands: what these instructions make
    pub record StandsInBlock (s : Thread) (ss : List Station) : Type 0 where
      pub rest : List Placed
      pub begin : BeginAt s.at rest
      pub stretch : AreStretch program rest
      pub inner : AreInner program rest
      pub are : ss ≡ flat_map (stations_of private) rest

    abbrev pub plan_at : Thread → Option (List Gap)
    plan_at s = plan s.at

    -- a thread comes to where a block begins
    pub comes_to_block : (t : Thread) → IsBegun code t.at → (next : List Station) × (plan t.at ≡ Some (gaps next)) × StandsInBlock t next
    comes_to_block t begun =
        let b = begun.0 in
        let list = have_instructions program code is b begun.1 in (
          flat_map (stations_of private) list.ps,
          ap plan (sym begun.2) ∙ is_plan.block b list.ps begun.1 list.are,
          record {
            rest = list.ps;
            begin = subst (λ a. BeginAt a list.ps) begun.2 list.are.first;
            stretch = block_stretch program code is b list.ps begun.1 list.are;
            inner = block_inner b list.ps begun.1 list.are;
            are = refl;
          },
        )

    -- where no block may begin the plan says nothing
    pub no_plan : (a : ℕ) → (IsLeader program a → ⊥) → plan a ≡ None
    no_plan a inside = is_plan.none a (λ b at same. inside (subst (IsLeader program) same ((is.blocks.exact b).0 at).leader))

    module _ (may : Permission) where
      exit_realizes : (p : Placed) (ps : List Placed) → AreStretch program (p ∷ ps) → AreInner program (p ∷ ps) → (exit : Exit) → LeavesTo (λ a. StandsIn (successors p) a) (Goes exit)
          → Realizes private plan_at StandsInBlock (flat_map (stations_of private) ps) (resolve (has_address code.sites) no_entries exit)
      exit_realizes p [] stretch inner (State t) there = inr (comes_to_block t (leader_begins program code is t.at (last_leads program p stretch.0 stretch.1 t.at there)))
      exit_realizes p (q ∷ ps) stretch inner (State t) there =
          let at : t.at ≡ end_of p = behind p t.at stretch.1 there in
          inl (ap plan at ∙ no_plan (end_of p) inner.0, record { rest = q ∷ ps; begin = stretch.2 ∙ sym at; stretch = stretch.3; inner = inner.1; are = refl })
      exit_realizes p ps stretch inner (Return t v) there = by (v == 0) (has_address code.sites v) refl
        where
          by : (b c : Bool) → has_address code.sites v ≡ c
              → Realizes private plan_at StandsInBlock (flat_map (stations_of private) ps) (if b then Gives (Stops Halted) else (if c then goes (record t { at = v }) else traps BadReturn))
          by true c e = tt
          by false false e = tt
          by false true e = inr (comes_to_block (record t { at = v }) (leader_begins program code is v (site_leads program v (((finds_code program code is).sites v).0 e))))
      exit_realizes p ps stretch inner (Indexed t k) there = absurd there

      -- a placed instruction and what comes behind it
      take_realizes : (s : Thread) (p : Placed) (ps : List Placed) → s.at ≡ p.address → AreStretch program (p ∷ ps) → AreInner program (p ∷ ps) → IsPlaced program p
          → Realizes private plan_at StandsInBlock (flat_map (stations_of private) (p ∷ ps)) (thread_step may code s)
      take_realizes s p ps level stretch inner placed =
          let found = ((finds_code program code is).placed s.at p).1 (placed, sym level) in
          let row = row_of may p.instr p.length p.flow s in
          let after = flat_map (stations_of private) ps in
          let shape = row_shape may p.instr p.length p.flow s (is_formed program p.address p placed.stands) in
          let makes : Realizes private NoPlan (StillTo after) (of_row private s.at (slot_kinds p.instr p.flow) (is_mfence p.instr) ++ after) row =
          subst (λ t. Realizes private NoPlan (StillTo after) (of_row private s.at (slot_kinds p.instr p.flow) (is_mfence p.instr) ++ after) t) (then-goes row)
          (row_realizes private NoPlan (StillTo after) after goes (λ exit. inl (refl, refl)) shape) in
          let counted : Realizes private NoPlan (StillTo after) (stations_of private p ++ after) row =
          subst (λ l. Realizes private NoPlan (StillTo after) (l ++ after) row) (ap (λ a. of_row private a (slot_kinds p.instr p.flow) (is_mfence p.instr)) level ∙ of_row_is private p) makes in
          subst (λ o. Realizes private plan_at StandsInBlock (stations_of private p ++ after) (x64_take may (code_for_threads code) o s)) (sym found)
          (makes_then private plan_at StandsInBlock after (LeavesTo (λ a. StandsIn (successors p) a)) (resolve (has_address code.sites) no_entries) (stations_of private p ++ after) row counted
          (row_of_placed program code segments is p placed may s level) (exit_realizes p ps stretch inner))

      -- each step of a thread makes what the plan counts
      pub code_realizes : RealizesPlan private plan_at StandsInBlock (thread_step may code)
      code_realizes s ss stands = subst (λ l. Realizes private plan_at StandsInBlock l (thread_step may code s)) (sym stands.are) (by stands.rest stands.begin stands.stretch stands.inner)
        where
          by : (rest : List Placed) → BeginAt s.at rest → AreStretch program rest → AreInner program rest → Realizes private plan_at StandsInBlock (flat_map (stations_of private) rest) (thread_step may code s)
          by [] begin stretch inner = absurd begin
          by (p ∷ []) begin stretch inner = take_realizes s p [] (sym begin) stretch inner stretch.0
          by (p ∷ q ∷ ps) begin stretch inner = take_realizes s p (q ∷ ps) (sym begin) stretch inner stretch.0
