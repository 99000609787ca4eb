-- What a step does that ends the thread where a value is not 0.
use Rattle.std.proofs.Common.{◌≡◌, ◌≢◌, ℕ, ◌+◌, ◌==◌, Bool, true, false, List, ◌∷◌, refl, sym, ◌∙◌, subst, arith}
use Rattle.std.specs.Prelude.{if◌then◌else◌}
use Rattle.std.proofs.lemmas.Bool.Decides.{nat_tests}
use Rattle.ev_graph.specs.declared.events.TrapKind.{TrapKind}
use Rattle.behavior.specs.Tree.{Tree, Next, ◌then◌}
use Rattle.behavior.specs.Acts.{Permission, goes, traps}
use Rattle.behavior.specs.Leaving.{Left, SameLeft}
use Rattle.behavior.specs.Seen.{placed_full}
use Rattle.behavior.specs.Kept.{SameNext, both-stop}
use Rattle.behavior.proofs.Beside.{Beside, give}
use Rattle.x64_table.specs.State.{Thread}
use Rattle.limm_ir.specs.Costs.{no_cost}
use Rattle.limm_ir.specs.Steps.{IrState, ir_steps}
use Rattle.limm_ir.specs.Blocks.{ir_end}
use Rattle.limm_ir.specs.declared.block.IrEnd.{IrEnd}
use Rattle.limm_ir.specs.declared.step.IrStep.{IrStep}
use Rattle.limm_ir.specs.declared.step.IrStep.TheVariants as steps
use Rattle.lift_alu.specs.Formulas.{Formula, temp, size, place, value, Lifting}
use Rattle.lift_alu.specs.Quotients.{traps_if}
use Rattle.lift_alu.specs.Meant.{SameThread}
use Rattle.lift_alu.proofs.Computed.{temps_behind, computed, IsKeptBelow, temps_before, value_placed}
use Rattle.lift_alu.proofs.Rules.{Does, Later, same_temps, does_computed}

module _ (may : Permission) (end : IrEnd) where
  -- what a tree and the steps behind it do, beside another
  abbrev Goes : List IrStep → Tree (Next (Left Thread)) → Tree (Next IrState) → Type 0
  Goes xs q t = Beside placed_full 0 (SameNext (SameLeft SameThread)) 0 q (t then ir_steps no_cost may xs then ir_end end)

  -- the thread ends where the row's does, and else goes on
  pub traps_if_does : (q : Tree (Next (Left Thread))) (s : Thread) (next : ℕ) (i : IrState) (kind : TrapKind) (e : Formula) (v : ℕ)
      (rest : Lifting) → SameThread s i
      → IsKeptBelow next e → value i e ≡ v → (v ≢ 0 → q ≡ traps kind) → (v ≡ 0 → Later may end q s next i rest)
      → Does may end q (traps_if kind e rest next) i
  unfolding traps_if
  traps_if_does q s next i kind e v rest same kept is trapped go =
      let j = computed next e i in
      let xs = rest (next + size e) in
      does_computed may end q next e (steps.TrapIf (temp (place next e)) kind ∷ xs) i
      (subst (λ w. Goes (rest (next + size e)) q (if w == 0 then goes j else traps kind)) (sym (value_placed next e i i.temps kept ∙ is))
      (by (v == 0) (λ zero. grind (arith, nat_tests, zero)) (λ other. grind (arith, nat_tests, other))))
    where
      by : (b : Bool) → (b ≡ true → v ≡ 0) → (b ≡ false → v ≢ 0)
          → Goes (rest (next + size e)) q (if b then goes (computed next e i) else traps kind)
      by true zero other =
          go (zero refl) (next + size e) (computed next e i) (same_temps s i (temps_behind next e i i.temps) same)
          (record { le = omega arith; temps = λ t lt. temps_before next e i i.temps t lt })
      by false zero other = subst (λ p. Beside placed_full 0 (SameNext (SameLeft SameThread)) 0 p (traps kind))
          (sym (trapped (other refl))) (give both-stop)
