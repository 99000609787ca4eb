-- No path through the made code leaves a flag undefined.
use Rattle.std.proofs.Common.{◌≡◌, ◌≤◌, ℕ, ◌%◌, Bool, true, false, [], ◌∷◌, refl, sym, ◌∙◌, ap}
use Rattle.std.proofs.lemmas.Bool.{false≢true}
use Rattle.alu_width.specs.Effects.{leaves_undefined, no_effects, sum_effects, Effects}
use Rattle.x64_syntax.specs.declared.instr.Instr.{Instr}
use Rattle.flag_use.specs.Instructions.{effect_on}
use Rattle.flag_use.specs.Paths.{PathTo, undefined_behind}
use Rattle.flag_use.specs.Faults.{ReadsUndefined}
use Rattle.flag_use.specs.Walk.{track_of, node_of}
use Rattle.flag_use.proofs.Nodes.{Passes, edge, node_track}
use Rattle.made_laws.specs.Made.{made_program}
use Rattle.made_laws.proofs.Standing.{IsMadeInstr, one_stands}
use Rattle.made_laws.proofs.Reached.{placed_made}

not_true : (b : Bool) → (b ≡ true → ⊥) → b ≡ false
not_true true other = absurd (other refl)
not_true false other = refl

-- a node 0 asks for no flag
first_track : (e : Effects) {t u : _} → Passes e t u → node_of 0 u ≡ 0 → track_of 0 ≡ u
first_track e {t} {u} passes none = sym (ap (λ (m : ℕ). track_of (m % 8)) none) ∙ node_track 0 u

-- a flag that was defined is so behind an instruction without effects
kept : (flag : _) → leaves_undefined (effect_on flag no_effects) false ≡ true → ⊥
kept flag undefined =
    let leads = edge no_effects (0 ∷ []) _ _ 0 (Passes.leaves flag undefined) (0, refl) in
    let same = first_track no_effects (Passes.leaves flag undefined) (one_stands 0 _ leads) in
    absurd cc

-- and behind a sum
summed : (flag : _) → leaves_undefined (effect_on flag sum_effects) false ≡ true → ⊥
summed flag undefined =
    let leads = edge sum_effects (0 ∷ []) _ _ 0 (Passes.leaves flag undefined) (0, refl) in
    let same = first_track sum_effects (Passes.leaves flag undefined) (one_stands 0 _ leads) in
    absurd cc

keeps_defined : {i : Instr} (flag : _) → IsMadeInstr i → undefined_behind flag i false ≡ false
keeps_defined flag IsMadeInstr.cells = not_true (leaves_undefined (effect_on flag no_effects) false) (kept flag)
keeps_defined flag IsMadeInstr.stores = not_true (leaves_undefined (effect_on flag no_effects) false) (kept flag)
keeps_defined flag IsMadeInstr.loads = not_true (leaves_undefined (effect_on flag no_effects) false) (kept flag)
keeps_defined flag IsMadeInstr.adds = not_true (leaves_undefined (effect_on flag sum_effects) false) (summed flag)
keeps_defined flag IsMadeInstr.fences = not_true (leaves_undefined (effect_on flag no_effects) false) (kept flag)
keeps_defined flag IsMadeInstr.jumps = not_true (leaves_undefined (effect_on flag no_effects) false) (kept flag)
keeps_defined flag IsMadeInstr.returns = not_true (leaves_undefined (effect_on flag no_effects) false) (kept flag)

-- each flag is defined at the end of each path
path_defined : (n : ℕ) → n ≤ 20000 → (flag : _) {a : ℕ} {undefined : Bool} → PathTo (made_program n) flag a undefined → undefined ≡ false
path_defined n few flag (PathTo.begins stands) = refl
path_defined n few flag (PathTo.goes {b} {was} p path placed on) =
    ap (undefined_behind flag p.instr) (path_defined n few flag path) ∙ keeps_defined flag (placed_made n few p placed)

-- no instruction reads an undefined flag
pub no_undefined : (n : ℕ) → n ≤ 20000 → (a : ℕ) → ReadsUndefined (made_program n) a → ⊥
no_undefined n few a r = false≢true (sym (path_defined n few r.flag r.undefined))
