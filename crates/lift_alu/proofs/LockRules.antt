-- What locked steps do beside a row's locked access.
use Rattle.std.proofs.Common.{◌≡◌, ℕ, ◌+◌, ◌%◌, ◌^◌, ◌<◌, ◌==◌, ◌&&◌, true, false, [], ◌∷◌, Option, Some, None, sym, ap, ◌∙◌, subst}
use Rattle.std.proofs.Common.{arith}
use Rattle.std.specs.Prelude.{if◌then◌else◌}
use Rattle.std.proofs.Math.Nat.{mod-eq_of_lt}
use Rattle.std.proofs.lemmas.Bool.Decides.{nat_tests}
use Rattle.ev_graph.specs.declared.events.AccessKind.TheVariants.{Read, Write}
use Rattle.ev_graph.specs.declared.events.TrapKind.TheVariants.{BadAccess}
use Rattle.behavior.specs.Tree.{Tree, Next, Acts, ◌then◌}
use Rattle.behavior.specs.Acts.{put, Permission, goes, access, locked_write, exchanges}
use Rattle.behavior.specs.Leaving.{Left, SameLeft}
use Rattle.behavior.specs.Seen.{placed_full}
use Rattle.behavior.specs.Kept.{SameNext}
use Rattle.behavior.proofs.Paths.{then-assoc}
use Rattle.behavior.proofs.Beside.{Beside, act}
use Rattle.behavior.proofs.ActsLemmas.{beside_choice}
use Rattle.behavior.proofs.Banks.{put_here, put_other}
use Rattle.x64_table.specs.State.{Thread}
use Rattle.limm_ir.specs.Costs.{no_cost}
use Rattle.limm_ir.specs.Steps.{IrState, set, ir_steps}
use Rattle.limm_ir.specs.Values.{rmw_value}
use Rattle.limm_ir.specs.Blocks.{ir_end, ir_block}
use Rattle.limm_ir.specs.declared.block.IrEnd.{IrEnd}
use Rattle.limm_ir.specs.declared.step.RmwOp.{RmwOp}
use Rattle.lift_alu.specs.Formulas.{Formula, Kept, temp, Lifting}
use Rattle.lift_alu.specs.Locks.{modifies, replaces}
use Rattle.lift_alu.specs.Meant.{SameThread}
use Rattle.lift_alu.proofs.Rules.{IsLater, Holds, same_temps, Does}

-- the state in which the next temporary holds a value
later_set : (next : ℕ) (i : IrState) (v : ℕ) → IsLater next i (next + 1) (set (temp next) v i)
later_set next i v = record { le = omega arith; temps = λ t lt. put_other next v i.temps t (omega (arith, lt)) }

holds_set : (next : ℕ) (i : IrState) (v : ℕ) → Holds (next + 1) (set (temp next) v i) next v
holds_set next i v = record { below = omega arith; is = put_here next v i.temps }

-- what is expected is there, where it fits its size
same_test : (old expected most : ℕ) → expected < most → (old == expected % most) ≡ (expected == old)
same_test old expected most fit = ap (λ k. old == k) (mod-eq_of_lt fit) ∙ turned old expected
  where
    turned : (a b : ℕ) → (a == b) ≡ (b == a)
    turned a b = grind (arith, nat_tests)

module _ (may : Permission) (end : IrEnd) {S : Type 0} (f : S → Tree (Next (Left Thread))) (go : ℕ → Tree (Next S)) (s : Thread) (next : ℕ)
    (i : IrState) (at bytes address : ℕ)
    (rest : Formula → Lifting) (same : SameThread s i) where
  -- what is done behind, where the next temporary holds what was there
  abbrev pub Behind : Type 0
  Behind =
      (v : ℕ) → v < 256 ^ bytes → (n : ℕ) (j : IrState) → SameThread s j → IsLater next i n j → Holds n j next v
      → Does may end (go v then f) (rest (Kept next) n) j

  -- a locked access beside another that writes the same
  locked_does : (new new' : ℕ → Option ℕ)
      → ((v : ℕ) → v < 256 ^ bytes → locked_write at address bytes (new' v) ≡ locked_write at address bytes (new v)) → Behind
      → Beside placed_full 0 (SameNext (SameLeft SameThread)) 0 (exchanges may at address bytes new go then f)
      (exchanges may at address bytes new' (λ v. goes (set (temp next) v i)) then ir_steps no_cost may
      (rest (Kept next) (next + 1)) then ir_end end)
  locked_does new new' alike here =
      let xs = rest (Kept next) (next + 1) in
      let target = exchanges may at address bytes new' (λ v. goes (set (temp next) v i)) in
      subst (λ u. Beside placed_full 0 (SameNext (SameLeft SameThread)) 0 (exchanges may at address bytes new go then f) u)
      (sym (then-assoc target (ir_steps no_cost may xs) (ir_end end)))
      (beside_choice placed_full 0 (SameLeft SameThread) f (λ k. ir_block no_cost may xs end k) 0
      (may false address bytes && may true address bytes)
      (Acts (256 ^ bytes) (λ v. access Read true at address bytes v ∷ locked_write at address bytes (new v)) go)
      (Acts (256 ^ bytes) (λ v. access Read true at address bytes v ∷ locked_write at address bytes (new' v))
      (λ v. goes (set (temp next) v i))) BadAccess
      (act (λ v lt. ap (λ l. placed_full (access Read true at address bytes v ∷ l)) (alike v lt))
      (λ v lt. here v lt (next + 1) (set (temp next) v i) (same_temps s i (put next v i.temps) same) (later_set next i v)
      (holds_set next i v))))

  module _ (a : ℕ) (there : Holds next i a address) where
    -- a locked pair beside a step that changes what is there
    pub modifies_does : (o : RmwOp) (t v : ℕ) (new : ℕ → ℕ) → Holds next i t v
        → ((old : ℕ) → old < 256 ^ bytes → rmw_value o old v % 256 ^ bytes ≡ new old % 256 ^ bytes) → Behind
        → Does may end (exchanges may at address bytes (λ old. Some (new old)) go then f) (modifies o at bytes a t rest next) i
    unfolding modifies
    modifies_does o t v new kept writes here =
        let source = exchanges may at address bytes (λ old. Some (new old)) go then f in
        let xs = rest (Kept next) (next + 1) in
        let target = λ (b w : ℕ). exchanges may at b bytes (λ old. Some (rmw_value o old w)) (λ old. goes (set (temp next) old i)) in
        subst (λ b. Beside placed_full 0 (SameNext (SameLeft SameThread)) 0 source
        (target b (i.temps t) then ir_steps no_cost may xs then ir_end end)) (sym there.is)
        (subst (λ w. Beside placed_full 0 (SameNext (SameLeft SameThread)) 0 source
        (target address w then ir_steps no_cost may xs then ir_end end)) (sym kept.is)
        (locked_does (λ old. Some (new old)) (λ old. Some (rmw_value o old v))
        (λ old lt. ap (λ m. access Write true at address bytes m ∷ []) (writes old lt)) here))

    -- a locked access that writes where the expected value is there
    pub replaces_does : (te t expected v : ℕ) → Holds next i te expected → Holds next i t v → expected < 256 ^ bytes → Behind
        → Does may end (exchanges may at address bytes (λ old. if expected == old then Some v else None) go then f)
        (replaces at bytes a te t rest next) i
    unfolding replaces
    replaces_does te t expected v wanted kept fit here =
        let new = λ (old : ℕ). if expected == old then Some v else None in
        let source = exchanges may at address bytes new go then f in
        let xs = rest (Kept next) (next + 1) in
        let other = λ (e w old : ℕ). if old == e % 256 ^ bytes then Some w else None in
        let target = λ (b e w : ℕ). exchanges may at b bytes (other e w) (λ old. goes (set (temp next) old i)) in
        subst (λ b. Beside placed_full 0 (SameNext (SameLeft SameThread)) 0 source
        (target b (i.temps te) (i.temps t) then ir_steps no_cost may xs then ir_end end)) (sym there.is)
        (subst (λ e. Beside placed_full 0 (SameNext (SameLeft SameThread)) 0 source
        (target address e (i.temps t) then ir_steps no_cost may xs then ir_end end)) (sym wanted.is)
        (subst (λ w. Beside placed_full 0 (SameNext (SameLeft SameThread)) 0 source
        (target address expected w then ir_steps no_cost may xs then ir_end end)) (sym kept.is)
        (locked_does new (other expected v)
        (λ old lt. ap (λ b. locked_write at address bytes (if b then Some v else None)) (same_test old expected (256 ^ bytes) fit)) here)))
