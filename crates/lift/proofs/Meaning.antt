-- The steps of instructions one behind the other do what these do.
use Rattle.std.proofs.Common.{◌≡◌, ℕ, ◌+◌, false, List, [], ◌∷◌, ◌++◌, refl, sym, ap, ◌∙◌, subst}
use Rattle.std.proofs.lemmas.List.{append-nil}
use mathlib.Core.Path.{fun_ext}
use Rattle.behavior.specs.Tree.{Tree, Begins, Next, ◌then◌}
use Rattle.behavior.specs.Acts.{Permission}
use Rattle.behavior.specs.Leaving.{Target, ToBlock, ToReturn, ToEntry, Left, leaves, SameLeft}
use Rattle.behavior.specs.Seen.{placed_full}
use Rattle.behavior.specs.Kept.{SameNext, Keeps}
use Rattle.behavior.proofs.Paths.{then-assoc}
use Rattle.behavior.proofs.SeenLemmas.{sees-placed_full}
use Rattle.behavior.proofs.KeepsLemmas.{keeps_then}
use Rattle.behavior.proofs.Results.{results_any, results_then, Known, keeps_known}
use Rattle.behavior.proofs.Unfolding.{AllResults}
use Rattle.x64_syntax.specs.declared.instr.Instr.{Instr}
use Rattle.x64_syntax.specs.declared.instr.Instr.TheVariants as instr
use Rattle.x64_syntax.specs.declared.placed.Flow.{Flow}
use Rattle.x64_syntax.specs.declared.placed.Placed.{Placed}
use Rattle.x64_table.specs.State.{Thread}
use Rattle.x64_table.specs.Rows.{Exit, State, Return, Indexed, row_of}
use Rattle.x64_table.specs.Blocks.{goes_on, x64_block}
use Rattle.limm_ir.specs.Costs.{fenced_cost}
use Rattle.limm_ir.specs.Steps.{IrState, ir_steps}
use Rattle.limm_ir.specs.Blocks.{ir_end, ir_block}
use Rattle.limm_ir.specs.declared.block.IrEnd.{IrEnd}
use Rattle.limm_ir.specs.declared.block.IrEnd.TheVariants.{Goto}
use Rattle.limm_ir.specs.declared.step.IrStep.{IrStep}
use Rattle.limm_ir.proofs.CallerLemmas.{steps-append}
use Rattle.cfg_walk.specs.Blocks.{ends_block}
use Rattle.lift_alu.specs.Meant.{SameThread, after, end_from, end_of, AreStepsOf}
use Rattle.lift.specs.Block.{Follow, LeadOn, first_of, end_from as end_of_all, AreStepsFrom, LiftsBlock}

-- ---- one instruction, and then others

-- what follows a block that leaves to the next instruction
abbrev then_at : {S : Type 0} → (S → Tree (Next (Left S))) → Target → S → Tree (Next (Left S))
then_at f (ToBlock a) s = f s
then_at f (ToReturn v) s = leaves (ToReturn v) s
then_at f (ToEntry table k) s = leaves (ToEntry table k) s

abbrev then_block : {S : Type 0} → (S → Tree (Next (Left S))) → Left S → Tree (Next (Left S))
then_block f l = then_at f l.target l.state

exit_on : (may : Permission) (table : ℕ) (ps : List Placed) (e : Exit)
    → goes_on table (x64_block may table ps) e ≡ (goes_on table (x64_block may table []) e then then_block (x64_block may table ps))
exit_on may table ps (State t) = refl
exit_on may table ps (Return t v) = refl
exit_on may table ps (Indexed t k) = refl

-- the first instruction as a block of its own, and then the rest
source_parts : (may : Permission) (table : ℕ) (p : Placed) (ps : List Placed) (s : Thread)
    → x64_block may table (p ∷ ps) s ≡ (x64_block may table (p ∷ []) s then then_block (x64_block may table ps))
source_parts may table p ps s =
    let row = Begins (row_of may p.instr p.length p.flow s) in
    ap (λ f. row then f) (fun_ext (λ e. exit_on may table ps e)) ∙ sym (then-assoc row (goes_on table (x64_block may table [])) (then_block (x64_block may table ps)))

-- the steps of the first as a block of their own, and then the rest
target_parts : (may : Permission) (xs ys : List IrStep) (a : ℕ) (end : IrEnd) (i : IrState)
    → ir_block fenced_cost may (xs ++ ys) end i ≡ (ir_block fenced_cost may xs (Goto a) i then then_block (ir_block fenced_cost may ys end))
target_parts may xs ys a end i =
    let first = ir_steps fenced_cost may xs i in
    ap (λ t. t then ir_end end) (steps-append fenced_cost may xs ys i)
    ∙ then-assoc first (ir_steps fenced_cost may ys) (ir_end end)
    ∙ sym (then-assoc first (ir_end (Goto a)) (then_block (ir_block fenced_cost may ys end)))

-- a block that leaves to an address has a state that stands there
abbrev StandsThere : Left Thread → Type 0
StandsThere l = (n : ℕ) → l.target ≡ ToBlock n → l.state.at ≡ n

abbrev Leads : ℕ → Left IrState → Type 0
Leads a l = l.target ≡ ToBlock a

same_block : {m n : ℕ} → ToBlock m ≡ ToBlock n → m ≡ n
same_block e = cc

exit_stands : (may : Permission) (table : ℕ) (e : Exit) → AllResults StandsThere (goes_on table (x64_block may table []) e)
exit_stands may table (State t) = λ m e. same_block e
exit_stands may table (Return t v) = λ m e. absurd (cc)
exit_stands may table (Indexed t k) = λ m e. absurd (cc)

source_stands : (may : Permission) (table : ℕ) (p : Placed) (s : Thread) → AllResults StandsThere (x64_block may table (p ∷ []) s)
source_stands may table p s =
    let row = Begins (row_of may p.instr p.length p.flow s) in
    results_then (λ e. Unit {0}) StandsThere row (goes_on table (x64_block may table [])) (results_any row) (λ e known. exit_stands may table e)

target_leads : (may : Permission) (xs : List IrStep) (a : ℕ) (i : IrState) → AllResults (Leads a) (ir_block fenced_cost may xs (Goto a) i)
target_leads may xs a i =
    results_then (λ j. Unit {0}) (Leads a) (ir_steps fenced_cost may xs i) (ir_end (Goto a)) (results_any (ir_steps fenced_cost may xs i)) (λ j known. refl)

-- an instruction that ends no block goes on at the next address
end_goes_on : (i : Instr) (f : Flow) (a temps : ℕ) → ends_block i ≡ false → end_from i f a temps ≡ Goto a
end_goes_on (instr.Call d) f a temps e = absurd (cc)
end_goes_on (instr.Jmp d) f a temps e = absurd (cc)
end_goes_on (instr.Jcc c d) f a temps e = absurd (cc)
end_goes_on instr.Ret f a temps e = absurd (cc)
end_goes_on instr.Ud2 f a temps e = absurd (cc)
end_goes_on i f a temps e = refl

-- the block of the first, and that of the others from wherever it leaves to
behind_first : (may : Permission) (table a : ℕ) (ps : List Placed) (ys : List IrStep) (end : IrEnd) → first_of ps ≡ a → LiftsBlock ps ys end
    → (l : Left Thread) (r : Left IrState) → Known placed_full 62 0 (SameLeft SameThread) StandsThere (Leads a) l r
    → Keeps placed_full 62 0 (SameNext (SameLeft SameThread)) (then_block (x64_block may table ps) l) (then_block (ir_block fenced_cost may ys end) r)
behind_first may table a ps ys end first lifts l r ((same_target, same), stands, leads) =
    let there : l.target ≡ ToBlock a = sym same_target ∙ leads in
    let at : l.state.at ≡ first_of ps = stands a there ∙ sym first in
    subst (λ t. Keeps placed_full 62 0 (SameNext (SameLeft SameThread)) (then_at (x64_block may table ps) t l.state) (then_block (ir_block fenced_cost may ys end) r)) (sym there)
    (subst (λ t. Keeps placed_full 62 0 (SameNext (SameLeft SameThread)) (x64_block may table ps l.state) (then_at (ir_block fenced_cost may ys end) t r.state)) (sym leads)
    (lifts may table l.state r.state at same))

first_then : (p q : Placed) (ps : List Placed) (temps : ℕ) (xs ys : List IrStep) (end : IrEnd) → q.address ≡ after p → ends_block p.instr ≡ false → AreStepsOf p temps xs
    → LiftsBlock (q ∷ ps) ys end → LiftsBlock (p ∷ q ∷ ps) (xs ++ ys) end
first_then p q ps temps xs ys end follows goes one later may table s i at same =
    let a = after p in
    let ends : end_of p temps ≡ Goto a = end_goes_on p.instr p.flow a temps goes in
    let first = subst (λ e. Keeps placed_full 62 0 (SameNext (SameLeft SameThread)) (x64_block may table (p ∷ []) s) (ir_block fenced_cost may xs e i)) ends (one.meaning may table s i at same) in
    let known = keeps_known placed_full 62 0 (SameLeft SameThread) StandsThere (Leads a) (source_stands may table p s) (target_leads may xs a i) first in
    let both = keeps_then placed_full sees-placed_full 62 0 (Known placed_full 62 0 (SameLeft SameThread) StandsThere (Leads a)) (SameLeft SameThread)
    (then_block (x64_block may table (q ∷ ps))) (then_block (ir_block fenced_cost may ys end)) (λ l r here. behind_first may table a (q ∷ ps) ys end follows later l r here) known in
    subst (λ t. Keeps placed_full 62 0 (SameNext (SameLeft SameThread)) t (ir_block fenced_cost may (xs ++ ys) end i)) (sym (source_parts may table p (q ∷ ps) s))
    (subst (λ t. Keeps placed_full 62 0 (SameNext (SameLeft SameThread)) (x64_block may table (p ∷ []) s then then_block (x64_block may table (q ∷ ps))) t) (sym (target_parts may xs ys a end i)) both)

-- the steps of instructions one behind the other do what these do
pub block_means : (p : Placed) (ps : List Placed) (temps : ℕ) (steps : List IrStep) → Follow (p ∷ ps) → LeadOn (p ∷ ps) → AreStepsFrom temps (p ∷ ps) steps → LiftsBlock (p ∷ ps) steps (end_of_all temps (p ∷ ps))
block_means p [] temps steps follow go_on (xs, ys, same, one, none) =
    let alone : steps ≡ xs = same ∙ ap (λ l. xs ++ l) none ∙ append-nil xs in
    subst (λ l. LiftsBlock (p ∷ []) l (end_of p temps)) (sym alone) (λ may table s i at same. one.meaning may table s i at same)
block_means p (q ∷ ps) temps steps follow go_on (xs, ys, same, one, later) =
    subst (λ l. LiftsBlock (p ∷ q ∷ ps) l (end_of_all temps (p ∷ q ∷ ps))) (sym same)
    (first_then p q ps temps xs ys (end_of_all (temps + 256) (q ∷ ps)) follow.0 go_on.0 one (block_means q ps (temps + 256) ys follow.1 go_on.1 later))
