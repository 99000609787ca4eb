-- The tables that begin at addresses, and what of them is reached.
use Rattle.std.proofs.Common.{◌≡◌, ℕ, zero, suc, true, [], ◌∷◌, Option, Some, None, refl, sym, subst}
use Rattle.ev_graph.specs.Places.{StandsIn}
use Rattle.x64_syntax.specs.declared.instr.Instr.{Instr}
use Rattle.x64_syntax.specs.declared.instr.Instr.TheVariants as instr
use Rattle.x64_syntax.specs.declared.placed.Flow.{Flow}
use Rattle.x64_syntax.specs.declared.placed.Placed.{Placed}
use Rattle.code_at.specs.Code.{Program, StandsAt}
use Rattle.jump_table.specs.declared.entries.Table.{Table}
use Rattle.jump_table.specs.Instructions.{goes_on}
use Rattle.jump_table.specs.Pattern.{IsPattern, compared, copied, bounded, Begins, IsToldTable}
use Rattle.jump_table.proofs.CallerLemmas.{one_table, jump_stands, GoesOnTo, pattern_goes_on}
use Rattle.cfg_walk.specs.Reach.{IsReached, at-next, IsPlaced, HasEntry, after, end_of, entries_of, successors}
use Rattle.cfg_walk.specs.Faults.{IsIndirect, is_indirect}
use Rattle.cfg_walk.specs.Searching.{told_entries}

-- an instruction stands where a table begins
pub first_stands : (program : Program) (a : ℕ) (table : Table) → Begins program a table → (p : Placed) × StandsAt program a p
first_stands program a table begins = by_form table begins.target begins.pattern begins.at
  where
    by_form : (t : Table) (target : ℕ) → IsPattern program t target → t.first ≡ a → (p : Placed) × StandsAt program a p
    by_form t target (compared first branches jumps) at = (first.placed, subst (λ x. StandsAt program x first.placed) at first.stands)
    by_form t target (copied narrow free first branches copies jumps) at = (first.placed, subst (λ x. StandsAt program x first.placed) at first.stands)
    by_form t target (bounded sets first bounds branches jumps) at = (first.placed, subst (λ x. StandsAt program x first.placed) at first.stands)

-- the entries of what begins at an address are those that are told
pub told_entry : (program : Program) (a : ℕ) (table : Option Table) → IsToldTable program a table → (b : ℕ) → HasEntry program a b → StandsIn (told_entries program table) b
told_entry program a (Some t) told b entry =
    subst (λ s. StandsIn (entries_of program s) b) (one_table program a entry.table t entry.begins told) entry.stands
told_entry program a None told b entry = absurd (told entry.table entry.begins)

pub entry_told : (program : Program) (a : ℕ) (table : Option Table) → IsToldTable program a table → (b : ℕ) → StandsIn (told_entries program table) b → HasEntry program a b
entry_told program a (Some t) told b at = record { table = t; begins = told; stands = at }
entry_told program a None told b at = absurd (let none = at.1 in cc)

-- ---- what is reached of a pattern

goes_in : (i : Instr) → goes_on i ≡ true → (f : Flow) (end : ℕ) → StandsIn (after i f end) end
goes_in (instr.Alu o w to from locked) on f end = (zero, refl)
goes_in (instr.Mov w to from) on f end = (zero, refl)
goes_in (instr.MovZx w v to from) on f end = (zero, refl)
goes_in (instr.MovSx w v to from) on f end = (zero, refl)
goes_in (instr.Lea w to from) on f end = (zero, refl)
goes_in (instr.Jcc condition displacement) on f end = (suc zero, refl)
goes_in _ on f end = absurd cc

-- behind an instruction of a pattern that is reached, the next is
goes : (program : Program) (a x : ℕ) → IsReached program a → GoesOnTo program a x → IsReached program x
goes program a x reached on =
    let p = on.stands.placed in
    let ends : end_of p ≡ x = let here = on.stands.stands.here in let end = on.stands.ends in cc in
    let next : StandsIn (after on.instr p.flow (end_of p)) (end_of p) = goes_in on.instr on.goes p.flow (end_of p) in
    let there : StandsIn (successors p) (end_of p) = subst (λ j. StandsIn (after j p.flow (end_of p)) (end_of p)) (sym on.stands.is) next in
    at-next p reached on.stands.stands (subst (λ y. StandsIn (successors p) y) ends there)

-- the jump of a pattern that begins at a reached address is reached
pub jump_reached : (program : Program) (table : Table) (target : ℕ) → IsPattern program table target → IsReached program table.first → IsReached program table.jump
jump_reached program table target (compared {a = a} {b = b} {c = c} first branches jumps) reached =
    let on = pattern_goes_on program table target (compared first branches jumps) in
    goes program b c (goes program a b reached (on a b (record { place = 0; before = refl; behind = refl }))) (on b c (record { place = 1; before = refl; behind = refl }))
jump_reached program table target (copied {a = a} {b = b} {c = c} {e = e} narrow free first branches copies jumps) reached =
    let on = pattern_goes_on program table target (copied narrow free first branches copies jumps) in
    goes program c e (goes program b c (goes program a b reached (on a b (record { place = 0; before = refl; behind = refl })))
    (on b c (record { place = 1; before = refl; behind = refl }))) (on c e (record { place = 2; before = refl; behind = refl }))
jump_reached program table target (bounded {a = a} {b = b} {c = c} {e = e} sets first bounds branches jumps) reached =
    let on = pattern_goes_on program table target (bounded sets first bounds branches jumps) in
    goes program c e (goes program b c (goes program a b reached (on a b (record { place = 0; before = refl; behind = refl })))
    (on b c (record { place = 1; before = refl; behind = refl }))) (on c e (record { place = 2; before = refl; behind = refl }))

-- and it is an indirect jump
pub jump_indirect : (program : Program) (a : ℕ) (table : Table) → IsReached program a → Begins program a table → IsIndirect program table.jump
jump_indirect program a table reached begins =
    let jump = jump_stands program table begins.target begins.pattern in
    let stands = jump.2.stands in
    let p = jump.2.placed in
    let at = jump_reached program table begins.target begins.pattern (subst (IsReached program) (sym begins.at) reached) in
    record {
      p = p;
      placed = record {
        reached = subst (IsReached program) (sym stands.here) at;
        stands = subst (λ x. StandsAt program x p) (sym stands.here) stands;
      };
      here = stands.here;
      indirect = subst (λ i. is_indirect i ≡ true) (sym jump.2.is) refl;
    }
