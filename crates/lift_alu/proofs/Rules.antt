-- Rules of stepping: what lifted steps do beside a row, one combinator at a time.
use Rattle.std.proofs.Common.{◌≡◌, ℕ, ◌+◌, ◌^◌, ◌<◌, ◌≤◌, Bool, List, ◌∷◌, ◌++◌, refl, sym, ◌∙◌, subst, arith}
use Rattle.word_arith.specs.Bits.{bit}
use Rattle.behavior.specs.Tree.{Tree, Next, ◌then◌}
use Rattle.behavior.specs.Acts.{Bank, put, Permission, goes, reads, writes}
use Rattle.behavior.specs.Leaving.{Left, SameLeft}
use Rattle.behavior.specs.Seen.{placed_full}
use Rattle.behavior.specs.Kept.{SameNext}
use Rattle.behavior.proofs.Paths.{then-assoc}
use Rattle.behavior.proofs.Beside.{Beside}
use Rattle.behavior.proofs.ActsLemmas.{beside_reads, beside_writes}
use Rattle.behavior.proofs.Banks.{put_here, put_other, put_same, put_fit}
use Rattle.x64_table.specs.State.{Thread}
use Rattle.limm_ir.specs.Costs.{no_cost}
use Rattle.limm_ir.specs.Steps.{IrState, set, ir_steps}
use Rattle.limm_ir.specs.Blocks.{ir_end, ir_block}
use Rattle.limm_ir.specs.declared.block.IrEnd.{IrEnd}
use Rattle.limm_ir.specs.declared.step.IrStep.{IrStep}
use Rattle.limm_ir.specs.declared.step.IrStep.TheVariants as steps
use Rattle.lift_alu.specs.Formulas.{Formula, Kept, temp, size, place, computes, value, Lifting, keeps, sets_register, sets_flag, loads, stores}
use Rattle.lift_alu.specs.Meant.{SameThread}
use Rattle.lift_alu.proofs.Computed.{temps_behind, computed, computes_then, IsKeptBelow, temps_before, place_below, value_placed}

-- a later state: the temporaries before the next one are those of the state
pub record IsLater (next : ℕ) (i : IrState) (next' : ℕ) (i' : IrState) : Type 0 where
  pub le : next ≤ next'
  pub temps : (t : ℕ) → t < next → i'.temps t ≡ i.temps t

-- a temporary before the next one holds a value
pub record Holds (next : ℕ) (i : IrState) (t v : ℕ) : Type 0 where
  pub below : t < next
  pub is : i.temps t ≡ v

-- what is kept is still kept in a later state
pub holds_later : {next : ℕ} {i : IrState} {next' : ℕ} {i' : IrState} {t v : ℕ} → IsLater next i next' i' → Holds next i t v → Holds next' i' t v
holds_later later holds = record { below = omega (arith, later.le, holds.below); is = later.temps _ holds.below ∙ holds.is }

-- a state is later than itself
pub later_same : (next : ℕ) (i : IrState) → IsLater next i next i
later_same next i = record { le = omega arith; temps = λ t lt. refl }

-- and later than a later one is later
pub later_then : {next : ℕ} {i : IrState} {next' : ℕ} {i' : IrState} {next'' : ℕ} {i'' : IrState} → IsLater next i next' i' → IsLater next' i' next'' i'' → IsLater next i next'' i''
later_then one two = record { le = omega (arith, one.le, two.le); temps = λ t lt. two.temps t (omega (arith, one.le, lt)) ∙ one.temps t lt }

-- the temporaries of a thread's steps are free
pub same_temps : (s : Thread) (i : IrState) (temps : Bank) → SameThread s i → SameThread s (record i { temps = temps })
same_temps s i temps same = record { regs = same.regs; fit = same.fit; cf = same.cf; zf = same.zf; sf = same.sf; of = same.of }

-- a register gets a value on both sides
pub same_put : (s : Thread) (i : IrState) (r v w : ℕ) → w ≡ v → v < 2 ^ 64 → SameThread s i → SameThread (record s { regs = put r v s.regs }) (record i { regs = put r w i.regs })
same_put s i r v w is fit same = record {
  regs = λ n lt. put_same r w v i.regs s.regs n is (same.regs n lt);
  fit = λ n lt. put_fit r v (2 ^ 64) s.regs n fit (same.fit n lt);
  cf = same.cf;
  zf = same.zf;
  sf = same.sf;
  of = same.of;
}

-- the state in which a flag has a number
abbrev pub flagged : (f v : ℕ) → IrState → IrState
flagged f v i = record i { flags = put f v i.flags }

-- the thread in which one flag is another
abbrev pub with_of : Bool → Thread → Thread
with_of b s = record s { flags = record s.flags { of = b } }

-- ZF is another
abbrev pub with_zf : Bool → Thread → Thread
with_zf b s = record s { flags = record s.flags { zf = b } }

-- SF is another
abbrev pub with_sf : Bool → Thread → Thread
with_sf b s = record s { flags = record s.flags { sf = b } }

-- CF is another
abbrev pub with_cf : Bool → Thread → Thread
with_cf b s = record s { flags = record s.flags { cf = b } }

-- a flag is set on both sides
pub same_of : (s : Thread) (i : IrState) (b : Bool) (v : ℕ) → v ≡ bit b → SameThread s i → SameThread (with_of b s) (flagged 3 v i)
same_of s i b v is same = record { regs = same.regs; fit = same.fit; cf = same.cf; zf = same.zf; sf = same.sf; of = is }

pub same_sf : (s : Thread) (i : IrState) (b : Bool) (v : ℕ) → v ≡ bit b → SameThread s i → SameThread (with_sf b s) (flagged 2 v i)
same_sf s i b v is same = record { regs = same.regs; fit = same.fit; cf = same.cf; zf = same.zf; sf = is; of = same.of }

pub same_zf : (s : Thread) (i : IrState) (b : Bool) (v : ℕ) → v ≡ bit b → SameThread s i → SameThread (with_zf b s) (flagged 1 v i)
same_zf s i b v is same = record { regs = same.regs; fit = same.fit; cf = same.cf; zf = is; sf = same.sf; of = same.of }

pub same_cf : (s : Thread) (i : IrState) (b : Bool) (v : ℕ) → v ≡ bit b → SameThread s i → SameThread (with_cf b s) (flagged 0 v i)
same_cf s i b v is same = record { regs = same.regs; fit = same.fit; cf = is; zf = same.zf; sf = same.sf; of = same.of }

-- what the steps of a formula leave
later_computed : (next : ℕ) (e : Formula) (i : IrState) → IsLater next i (next + size e) (computed next e i)
later_computed next e i = record { le = omega arith; temps = λ t lt. temps_before next e i i.temps t lt }

-- their last temporary holds the value
holds_computed : (next : ℕ) (e : Formula) (i : IrState) (v : ℕ) → IsKeptBelow next e → value i e ≡ v → Holds (next + size e) (computed next e i) (place next e) v
holds_computed next e i v kept is = record { below = place_below next e kept; is = value_placed next e i i.temps kept ∙ is }

-- the state behind a load
later_loaded : (next : ℕ) (e : Formula) (i : IrState) (v : ℕ) → IsLater next i (next + size e + 1) (set (temp (next + size e)) v (computed next e i))
later_loaded next e i v = record {
  le = omega arith;
  temps = λ t lt. put_other (next + size e) v (temps_behind next e i i.temps) t (omega (arith, lt)) ∙ temps_before next e i i.temps t lt;
}

-- the temporary of a load holds what was read
holds_loaded : (next : ℕ) (e : Formula) (i : IrState) (v : ℕ) → Holds (next + size e + 1) (set (temp (next + size e)) v (computed next e i)) (next + size e) v
holds_loaded next e i v = record { below = omega arith; is = put_here (next + size e) v (temps_behind next e i i.temps) }

module _ (may : Permission) (end : IrEnd) where
  -- what the steps do, beside a tree
  abbrev pub Does : Tree (Next (Left Thread)) → List IrStep → IrState → Type 0
  Does q xs i = Beside placed_full 0 (SameNext (SameLeft SameThread)) 0 q (ir_block no_cost may xs end i)

  -- what is done behind, in any later state of a thread
  abbrev pub Later : Tree (Next (Left Thread)) → Thread → (next : ℕ) → IrState → Lifting → Type 0
  Later q s next i rest = (next' : ℕ) (i' : IrState) → SameThread s i' → IsLater next i next' i' → Does q (rest next') i'

  -- and with a value that is kept
  abbrev pub LaterWith : Tree (Next (Left Thread)) → Thread → (next : ℕ) → IrState → (v : ℕ) → (Formula → Lifting) → Type 0
  LaterWith q s next i v rest = (t next' : ℕ) (i' : IrState) → SameThread s i' → IsLater next i next' i' → Holds next' i' t v → Does q (rest (Kept t) next') i'

  -- the steps of a formula make no items
  pub does_computed : (q : Tree (Next (Left Thread))) (next : ℕ) (e : Formula) (xs : List IrStep) (i : IrState) → Does q xs (computed next e i) → Does q (computes next e ++ xs) i
  does_computed q next e xs i here =
      subst (λ t. Beside placed_full 0 (SameNext (SameLeft SameThread)) 0 q (t then ir_end end)) (sym (computes_then may next e xs i)) here

  -- a value is computed and kept, where what comes behind may know which temporary has it
  pub keeps_at_does : (q : Tree (Next (Left Thread))) (s : Thread) (next : ℕ) (i : IrState) (e : Formula) (v : ℕ) (rest : Formula → Lifting) → SameThread s i → IsKeptBelow next e → value i e ≡ v
      → ((j : IrState) → SameThread s j → IsLater next i (next + size e) j → Holds (next + size e) j (place next e) v → Does q (rest (Kept (place next e)) (next + size e)) j)
      → Does q (keeps e rest next) i
  unfolding keeps
  keeps_at_does q s next i e v rest same kept is go =
      does_computed q next e (rest (Kept (place next e)) (next + size e)) i
      (go (computed next e i) (same_temps s i (temps_behind next e i i.temps) same) (later_computed next e i) (holds_computed next e i v kept is))

  -- a value is computed and kept
  pub keeps_does : (q : Tree (Next (Left Thread))) (s : Thread) (next : ℕ) (i : IrState) (e : Formula) (v : ℕ) (rest : Formula → Lifting) → SameThread s i → IsKeptBelow next e → value i e ≡ v
      → LaterWith q s next i v rest → Does q (keeps e rest next) i
  keeps_does q s next i e v rest same kept is go = keeps_at_does q s next i e v rest same kept is (λ j. go (place next e) (next + size e) j)

  -- a register is set, which the thread after it has too
  pub sets_register_does : (q : Tree (Next (Left Thread))) (s : Thread) (next : ℕ) (i : IrState) (r : ℕ) (e : Formula) (v : ℕ) (rest : Lifting) → SameThread s i → IsKeptBelow next e → value i e ≡ v → v < 2 ^ 64
      → Later q (record s { regs = put r v s.regs }) next i rest → Does q (sets_register r e rest next) i
  unfolding sets_register
  sets_register_does q s next i r e v rest same kept is fit go =
      let j = computed next e i in
      does_computed q next e (steps.SetReg r (temp (place next e)) ∷ rest (next + size e)) i
      (go (next + size e) (record j { regs = put r (j.temps (place next e)) j.regs })
      (same_put s j r v (j.temps (place next e)) (value_placed next e i i.temps kept ∙ is) fit (same_temps s i (temps_behind next e i i.temps) same))
      (record { le = omega arith; temps = λ t lt. temps_before next e i i.temps t lt }))

  -- a flag is set, which the thread after it has too
  pub sets_flag_does : (q : Tree (Next (Left Thread))) (s s' : Thread) (next : ℕ) (i : IrState) (f : ℕ) (e : Formula) (v : ℕ) (rest : Lifting) → SameThread s i → IsKeptBelow next e → value i e ≡ v
      → ((j : IrState) → SameThread s j → SameThread s' (flagged f v j)) → Later q s' next i rest → Does q (sets_flag f e rest next) i
  unfolding sets_flag
  sets_flag_does q s s' next i f e v rest same kept is set go =
      let j = computed next e i in
      does_computed q next e (steps.SetFlag f (temp (place next e)) ∷ rest (next + size e)) i
      (go (next + size e) (flagged f (j.temps (place next e)) j)
      (subst (λ w. SameThread s' (flagged f w j)) (sym (value_placed next e i i.temps kept ∙ is)) (set j (same_temps s i (temps_behind next e i i.temps) same)))
      (record { le = omega arith; temps = λ t lt. temps_before next e i i.temps t lt }))

  -- a read beside a load: its temporary is the one behind those of the address
  pub loads_does : {S : Type 0} (f : S → Tree (Next (Left Thread))) (go : ℕ → Tree (Next S)) (s : Thread) (next : ℕ) (i : IrState) (at bytes : ℕ) (e : Formula) (address : ℕ) (rest : Formula → Lifting)
      → SameThread s i → IsKeptBelow next e → value i e ≡ address
      → ((v : ℕ) → v < 256 ^ bytes → (next' : ℕ) (i' : IrState) → SameThread s i' → IsLater next i next' i' → Holds next' i' (next + size e) v → Does (go v then f) (rest (Kept (next + size e)) next') i')
      → Does (reads may at address bytes go then f) (loads at bytes e rest next) i
  unfolding loads
  loads_does f go s next i at bytes e address rest same kept is here =
      let j = computed next e i in
      let t = next + size e in
      let xs = rest (Kept t) (t + 1) in
      let read = λ (a : ℕ). reads may at a bytes (λ v. goes (set (temp t) v j)) in
      does_computed (reads may at address bytes go then f) next e (steps.Load (temp t) (temp (place next e)) bytes at ∷ xs) i
      (subst (λ a. Beside placed_full 0 (SameNext (SameLeft SameThread)) 0 (reads may at address bytes go then f) (read a then ir_steps no_cost may xs then ir_end end)) (sym (value_placed next e i i.temps kept ∙ is))
      (subst (λ u. Beside placed_full 0 (SameNext (SameLeft SameThread)) 0 (reads may at address bytes go then f) u) (sym (then-assoc (read address) (ir_steps no_cost may xs) (ir_end end)))
      (beside_reads placed_full 0 (SameLeft SameThread) f (λ k. ir_block no_cost may xs end k) 0 may at at address bytes go (λ v. goes (set (temp t) v j)) (λ v. refl)
      (λ v lt. here v lt (t + 1) (set (temp t) v j) (same_temps s i (put t v (temps_behind next e i i.temps)) same) (later_loaded next e i v) (holds_loaded next e i v)))))

  -- a write beside a store of what is kept
  pub stores_does : {S : Type 0} (f : S → Tree (Next (Left Thread))) (p : Tree (Next S)) (next : ℕ) (i : IrState) (at bytes a t address v : ℕ) (rest : Lifting) → Holds next i a address → Holds next i t v
      → Does (p then f) (rest next) i → Does (writes may at address bytes v p then f) (stores at bytes a t rest next) i
  unfolding stores
  stores_does f p next i at bytes a t address v rest there kept here =
      let write = λ (b w : ℕ). writes may at b bytes w (goes i) in
      let xs = rest next in
      let source = writes may at address bytes v p then f in
      subst (λ b. Beside placed_full 0 (SameNext (SameLeft SameThread)) 0 source (write b (i.temps t) then ir_steps no_cost may xs then ir_end end)) (sym there.is)
      (subst (λ w. Beside placed_full 0 (SameNext (SameLeft SameThread)) 0 source (write address w then ir_steps no_cost may xs then ir_end end)) (sym kept.is)
      (subst (λ u. Beside placed_full 0 (SameNext (SameLeft SameThread)) 0 source u) (sym (then-assoc (write address v) (ir_steps no_cost may xs) (ir_end end)))
      (beside_writes placed_full 0 (SameLeft SameThread) f (λ k. ir_block no_cost may xs end k) 0 may at at address bytes v p (goes i) refl here)))
