-- The passes one behind the other: a block of instructions and its words over registers leave alike.
use Rattle.std.proofs.Common.{◌≡◌, inl, inr, ℕ, zero, suc, ◌+◌, ◌^◌, ◌<◌, ◌==◌, Bool, true, false, List, [], ◌∷◌, refl, sym, ap, ◌∙◌, subst, arith}
use Rattle.std.specs.Prelude.{if◌then◌else◌, nat_lt}
use Rattle.std.proofs.lemmas.Bool.{cases_order}
use Rattle.std.proofs.lemmas.Bool.Decides.{nat_tests}
use Rattle.word_arith.specs.Bits.{bit}
use Rattle.behavior.specs.Tree.{Point, Next, ◌then◌}
use Rattle.behavior.specs.Acts.{Permission}
use Rattle.behavior.specs.Leaving.{Left, SameLeft}
use Rattle.behavior.specs.Seen.{trace, placed, placed_full, with_full, lowered}
use Rattle.behavior.specs.Kept.{SamePoint, both-cut, both-at, SameNext, both-go, both-stop, Keeps, Through}
use Rattle.behavior.proofs.SeenLemmas.{IsCoarser, sees-placed, placed-to_trace, lowered-to_trace}
use Rattle.behavior.proofs.Beside.{give, beside_keeps}
use Rattle.behavior.proofs.KeepsLemmas.{keeps_through, keeps_wider, keeps_coarser, keeps_then, next_through, next_wider}
use Rattle.alu_width.specs.declared.flags.Flags.{Flags}
use Rattle.ev_graph.specs.declared.events.Item.{Item}
use Rattle.ev_graph.specs.declared.events.Item.TheVariants as items
use Rattle.ev_graph.specs.declared.events.FenceKind.{FenceKind}
use Rattle.ev_graph.specs.declared.events.FenceKind.TheVariants.{Frm, Fww, Fsc, Mfence, DmbLd, DmbSt, DmbFull}
use Rattle.x64_syntax.specs.declared.placed.Placed.{Placed}
use Rattle.x64_syntax.specs.declared.slots.Slot.{Slot}
use Rattle.x64_table.specs.State.{Thread}
use Rattle.x64_table.specs.Blocks.{x64_block}
use Rattle.limm_ir.specs.Costs.{step_cost, fenced_cost}
use Rattle.limm_ir.specs.Steps.{IrState}
use Rattle.limm_ir.specs.Blocks.{ir_end, ir_block}
use Rattle.limm_ir.specs.declared.block.IrEnd.{IrEnd}
use Rattle.limm_ir.specs.declared.block.IrEnd.TheVariants as ends
use Rattle.limm_ir.specs.declared.step.IrStep.{IrStep}
use Rattle.lift_alu.specs.Meant.{SameThread}
use Rattle.lift.specs.Block.{first_of}
use Rattle.fence_place.specs.Fenced.{IsSameState, KeepsPlaced}
use Rattle.translate_core.specs.Passed.{Passes}
use Rattle.isel.specs.Selected.{SameNumbered}
use Rattle.a64_code.specs.declared.instr.XReg.{XReg}
use Rattle.a64_code.specs.declared.instr.A64.{A64}
use Rattle.a64_table.specs.State.{xregs, AState}
use Rattle.a64_block.specs.Registers.{home}
use Rattle.a64_block.specs.Blocks.{a64_block, SameNamed}
use Rattle.a64_block.specs.declared.block.AEnd.{AEnd}

-- ---- states that are the same in all forms

-- flags as numbers
abbrev flag_bank : Flags → ℕ → ℕ
flag_bank f n = if n == 0 then bit f.cf else (if n == 1 then bit f.zf else (if n == 2 then bit f.sf else bit f.of))

-- the state of steps that a thread has
abbrev pub steps_state : Thread → IrState
steps_state s = record { regs = s.regs; flags = flag_bank s.flags; temps = λ t. 0 }

-- the numbers that a thread of the machine has
abbrev pub numbers_of : AState → AState
numbers_of t = record t { regs = λ n. if nat_lt n 20 then t.regs (home n) else 0 }

-- A thread of x86 and what a thread of the machine holds: the sixteen registers, and the flags CF, ZF, SF and OF in X19 to X22.
pub record Alike (s : Thread) (t : AState) : Type 0 where
  pub same : (n : ℕ) → n < 16 → t.regs n ≡ s.regs n
  pub fit : (n : ℕ) → n < 16 → s.regs n < 2 ^ 64
  pub cf : t.regs 19 ≡ bit s.flags.cf
  pub zf : t.regs 20 ≡ bit s.flags.zf
  pub sf : t.regs 21 ≡ bit s.flags.sf
  pub of : t.regs 22 ≡ bit s.flags.of

pub thread_state : (s : Thread) (t : AState) → Alike s t → SameThread s (steps_state s)
thread_state s t alike = record { regs = λ r lt. refl; fit = alike.fit; cf = refl; zf = refl; sf = refl; of = refl }

low_number : (t : AState) (n : ℕ) → n < 20 → (numbers_of t).regs n ≡ t.regs (home n)
low_number t n lt = by (nat_lt n 20) (grind (arith, nat_tests))
  where
    by : (b : Bool) → b ≡ true → (if b then t.regs (home n) else 0) ≡ t.regs (home n)
    by true e = refl
    by false e = absurd (cc)

home_low : (n : ℕ) → n < 16 → home n ≡ n
home_low n lt = by (nat_lt n 16) (grind (arith, nat_tests))
  where
    by : (b : Bool) → b ≡ true → (if b then n else (if nat_lt n 20 then n + 3 else 31)) ≡ n
    by true e = refl
    by false e = absurd (cc)

-- numbers and registers of a thread are the same
pub same_named : (t : AState) → SameNamed (numbers_of t) t
same_named t n lt = sym (low_number t n lt)

four_flags : (f : Flags) (t : AState) → t.regs 19 ≡ bit f.cf → t.regs 20 ≡ bit f.zf → t.regs 21 ≡ bit f.sf → t.regs 22 ≡ bit f.of → (k : ℕ) → k < 4 → (numbers_of t).regs (16 + k) ≡ flag_bank f k
four_flags f t cf zf sf of zero lt = cf
four_flags f t cf zf sf of (suc zero) lt = zf
four_flags f t cf zf sf of (suc (suc zero)) lt = sf
four_flags f t cf zf sf of (suc (suc (suc zero))) lt = of
four_flags f t cf zf sf of (suc (suc (suc (suc k)))) lt = absurd (omega (arith, lt))

bit_fits : (b : Bool) → bit b < 2 ^ 64
bit_fits true = omega arith
bit_fits false = omega arith

-- the numbers of a thread fit 64 bits
numbers_fit : (s : Thread) (t : AState) → Alike s t → (n : ℕ) → (numbers_of t).regs n < 2 ^ 64
numbers_fit s t alike n = by (nat_lt n 20) refl
  where
    flag : (k : ℕ) (b : Bool) → t.regs k ≡ bit b → t.regs k < 2 ^ 64
    flag k b is = subst (λ v. v < 2 ^ 64) (sym is) (bit_fits b)

    at_home : (n : ℕ) → n < 20 → t.regs (home n) < 2 ^ 64
    at_home n low = elim (cases_order n 16) [
      | inl is ↦ subst (λ k. t.regs (home k) < 2 ^ 64) (sym is) (flag 19 s.flags.cf alike.cf)
      | inr rest ↦ elim rest [
        | inl below ↦ subst (λ k. t.regs k < 2 ^ 64) (sym (home_low n below)) (subst (λ v. v < 2 ^ 64) (sym (alike.same n below)) (alike.fit n below))
        | inr above ↦ elim (cases_order n 18) [
          | inl is ↦ subst (λ k. t.regs (home k) < 2 ^ 64) (sym is) (flag 21 s.flags.sf alike.sf)
          | inr more ↦ elim more [
            | inl low ↦ (let is : n ≡ 17 = omega (arith, low, above) in subst (λ k. t.regs (home k) < 2 ^ 64) (sym is) (flag 20 s.flags.zf alike.zf))
            | inr high ↦ (let is : n ≡ 19 = omega (arith, high, low) in subst (λ k. t.regs (home k) < 2 ^ 64) (sym is) (flag 22 s.flags.of alike.of))
          ]
        ]
      ]
    ]

    by : (b : Bool) → nat_lt n 20 ≡ b → (if b then t.regs (home n) else 0) < 2 ^ 64
    by true low = at_home n (grind (arith, nat_tests))
    by false low = omega arith

pub start_numbered : (s : Thread) (t : AState) → Alike s t → SameNumbered (steps_state s) (numbers_of t)
start_numbered s t alike = record {
  regs = λ r lt. low_number t r (omega (arith, lt)) ∙ ap t.regs (home_low r lt) ∙ alike.same r lt;
  flags = λ f lt. four_flags s.flags t alike.cf alike.zf alike.sf alike.of f lt;
  fit = numbers_fit s t alike;
}

-- ---- the passes

-- an end after one state
same_end : (end : IrEnd) (i : IrState) → Keeps placed 1 0 (SameNext (SameLeft IsSameState)) (ir_end end i) (ir_end end i)
same_end (ends.Goto a) i = beside_keeps placed sees-placed 1 (SameNext (SameLeft IsSameState)) {credit = 0} (give (both-go (refl, refl)))
same_end (ends.Branch t a b) i = beside_keeps placed sees-placed 1 (SameNext (SameLeft IsSameState)) {credit = 0} (give (both-go (refl, refl)))
same_end (ends.Return t) i = beside_keeps placed sees-placed 1 (SameNext (SameLeft IsSameState)) {credit = 0} (give (both-go (refl, refl)))
same_end (ends.Indexed t table) i = beside_keeps placed sees-placed 1 (SameNext (SameLeft IsSameState)) {credit = 0} (give (both-go (refl, refl)))
same_end (ends.Stop kind) i = beside_keeps placed sees-placed 1 (SameNext (SameLeft IsSameState)) {credit = 0} (give both-stop)

-- fences keep the meaning of a block
pub block_fences : (xs ys : List IrStep) (end : IrEnd) → KeepsPlaced xs ys → (may : Permission) (i : IrState)
    → Keeps placed 1 0 (SameNext (SameLeft IsSameState)) (ir_block fenced_cost may xs end i) (ir_block step_cost may ys end i)
block_fences xs ys end keeps may i =
    keeps_then placed sees-placed 1 0 IsSameState (SameLeft IsSameState) (ir_end end) (ir_end end)
    (λ a b same. subst (λ c. Keeps placed 1 0 (SameNext (SameLeft IsSameState)) (ir_end end a) (ir_end end c)) same (same_end end a)) (keeps may i)

-- ---- from the thread to the words and back

-- what all forms of a state say together
alike_of : (s : Thread) (i j : IrState) (u t : AState) → SameThread s i → i ≡ j → SameNumbered j u → SameNamed u t → Alike s t
alike_of s i j u t one two three four =
    let numbered : SameNumbered i u = subst (λ k. SameNumbered k u) (sym two) three in
    record {
      same = λ n lt. ap t.regs (sym (home_low n lt)) ∙ four n (omega (arith, lt)) ∙ numbered.regs n lt ∙ one.regs n lt;
      fit = one.fit;
      cf = four 16 (omega arith) ∙ numbered.flags 0 (omega arith) ∙ one.cf;
      zf = four 17 (omega arith) ∙ numbered.flags 1 (omega arith) ∙ one.zf;
      sf = four 18 (omega arith) ∙ numbered.flags 2 (omega arith) ∙ one.sf;
      of = four 19 (omega arith) ∙ numbered.flags 3 (omega arith) ∙ one.of;
    }

abbrev Passed : Left Thread → Left AState → Type 0
Passed = Through (Through (Through (SameLeft SameThread) (SameLeft IsSameState)) (SameLeft SameNumbered)) (SameLeft SameNamed)

left_alike : (a : Left Thread) (b : Left AState) → Passed a b → SameLeft Alike a b
left_alike a b (c, (d, (e, one, two), three), four) =
    (four.0 ∙ three.0 ∙ two.0 ∙ one.0, alike_of a.state e.state d.state c.state b.state one.1 two.1 three.1 four.1)

abbrev PassedNext : Next (Left Thread) → Next (Left AState) → Type 0
PassedNext = Through (Through (Through (SameNext (SameLeft SameThread)) (SameNext (SameLeft IsSameState))) (SameNext (SameLeft SameNumbered))) (SameNext (SameLeft SameNamed))

passes_next : (a : Next (Left Thread)) (b : Next (Left AState)) → PassedNext a b → SameNext (SameLeft Alike) a b
passes_next a b (c, (d, (e, one, two), three), four) = next_wider left_alike a b (next_through a b (c, next_through a c (d, next_through a d (e, one, two), three), four))

-- the passes one behind the other, as points
pub passed_point : {p : Point (Next (Left Thread))} {q : Point (Next (Left IrState))} {r : Point (Next (Left IrState))} {u : Point (Next (Left AState))} {v : Point (Next (Left AState))}
    → SamePoint (SameNext (SameLeft SameThread)) p q → SamePoint (SameNext (SameLeft IsSameState)) q r → SamePoint (SameNext (SameLeft SameNumbered)) r u → SamePoint (SameNext (SameLeft SameNamed)) u v
    → SamePoint (SameNext (SameLeft Alike)) p v
passed_point both-cut both-cut both-cut both-cut = both-cut
passed_point (both-at {a = a} one) (both-at two) (both-at three) (both-at {b = v} four) = both-at (passes_next a v (_, (_, (_, one, two), three), four))

-- where full fences show, places and accesses do
placed-with_full : (kind : FenceKind) (xs : List Item) → placed (with_full kind xs) ≡ placed xs
placed-with_full Frm xs = refl
placed-with_full Fww xs = refl
placed-with_full Fsc xs = refl
placed-with_full Mfence xs = refl
placed-with_full DmbLd xs = refl
placed-with_full DmbSt xs = refl
placed-with_full DmbFull xs = refl

placed-placed_full : (xs : List Item) → placed (placed_full xs) ≡ placed xs
placed-placed_full [] = refl
placed-placed_full (items.Access a ∷ xs) = ap (λ l. items.Access a ∷ l) (placed-placed_full xs)
placed-placed_full (items.Fence f ∷ xs) = placed-with_full f.kind (placed_full xs) ∙ placed-placed_full xs
placed-placed_full (items.Input t ∷ xs) = ap (λ l. items.Input (record t { place = 0 }) ∷ l) (placed-placed_full xs)
placed-placed_full (items.Output t ∷ xs) = ap (λ l. items.Output (record t { place = 0 }) ∷ l) (placed-placed_full xs)

pub placed_full-to_placed : IsCoarser placed_full placed
placed_full-to_placed xs ys same = sym (placed-placed_full xs) ∙ ap placed same ∙ placed-placed_full ys

-- a block and its words
pub block_keeps : (private : List Slot) (ps : List Placed) (xs : List (A64 XReg)) (fin : AEnd XReg) → Passes private ps xs fin → (may : Permission) (table at : ℕ) (s : Thread) (t : AState) → s.at ≡ first_of ps → Alike s t
    → Keeps trace 62 0 (SameNext (SameLeft Alike)) (x64_block may table ps s) (a64_block xregs may at xs fin t)
block_keeps private ps xs fin passes may table at s t begins alike =
    let one = keeps_coarser placed trace 62 0 (SameNext (SameLeft SameThread)) placed-to_trace
    (keeps_coarser placed_full placed 62 0 (SameNext (SameLeft SameThread)) placed_full-to_placed (passes.lifts may table s (steps_state s) begins (thread_state s t alike))) in
    let two = keeps_coarser placed trace 1 0 (SameNext (SameLeft IsSameState)) placed-to_trace (block_fences passes.steps passes.merged passes.end passes.keeps may (steps_state s)) in
    let three = keeps_coarser lowered trace 1 0 (SameNext (SameLeft SameNumbered)) lowered-to_trace (passes.selects may at (steps_state s) (numbers_of t) (start_numbered s t alike)) in
    let four = keeps_coarser lowered trace 1 0 (SameNext (SameLeft SameNamed)) lowered-to_trace (passes.allocates may at (numbers_of t) t refl (same_named t)) in
    let first_two = keeps_through trace 62 0 1 0 (SameNext (SameLeft SameThread)) (SameNext (SameLeft IsSameState)) one two in
    let first_three = keeps_through trace 62 0 1 0 (Through (SameNext (SameLeft SameThread)) (SameNext (SameLeft IsSameState))) (SameNext (SameLeft SameNumbered)) first_two three in
    let all = keeps_through trace 62 0 1 0 (Through (Through (SameNext (SameLeft SameThread)) (SameNext (SameLeft IsSameState))) (SameNext (SameLeft SameNumbered))) (SameNext (SameLeft SameNamed)) first_three four in
    keeps_wider trace 62 0 0 PassedNext (SameNext (SameLeft Alike)) (omega arith) passes_next all
