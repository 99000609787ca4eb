-- The groups of all steps do what the steps do, one behind the other, and so does the block.
use Rattle.std.proofs.Common.{◌≡◌, ◌≢◌, ◌⊎◌, ℕ, ◌+◌, ◌-◌, ◌*◌, ◌%◌, ◌^◌, ◌<◌, ◌==◌, ◌&&◌, Bool, true, false, not, List, [], ◌∷◌, ◌++◌, length, Option, Some, None, inl, inr, refl, sym, ap, ◌∙◌, subst, arith}
use Rattle.std.specs.Prelude.{if◌then◌else◌, pos, bit_or}
use Rattle.std.specs.List.{AllByRecursion}
use Rattle.std.proofs.lemmas.Bool.{eqb-true}
use Rattle.ev_graph.specs.declared.events.Item.TheVariants as items
use Rattle.ev_graph.specs.declared.events.AccessKind.TheVariants.{Read, Write}
use Rattle.ev_graph.specs.declared.events.TrapKind.{TrapKind}
use Rattle.ev_graph.specs.declared.events.TrapKind.TheVariants as kinds
use Rattle.behavior.specs.Tree.{Tree, Next, Acts, ◌then◌, ticks}
use Rattle.behavior.specs.Acts.{put, Permission, goes, traps, access, makes, reads, writes, locked_write, exchanges}
use Rattle.behavior.specs.Leaving.{ToBlock, ToReturn, ToEntry, Left, SameLeft}
use Rattle.behavior.specs.Seen.{lowered}
use Rattle.behavior.specs.Kept.{SameNext, both-go, both-stop, Keeps}
use Rattle.behavior.proofs.Paths.{then-assoc}
use Rattle.behavior.proofs.SeenLemmas.{sees-lowered}
use Rattle.behavior.proofs.Beside.{Beside, give, spend, act, beside_keeps}
use Rattle.behavior.proofs.Ticks.{earn_many}
use Rattle.behavior.proofs.KeepsLemmas.{keeps_then}
use Rattle.behavior.proofs.Banks.{put_here}
use Rattle.limm_ir.specs.Values.{rmw_value}
use Rattle.limm_ir.specs.Costs.{step_cost}
use Rattle.limm_ir.specs.Steps.{IrState, of, set, ir_step, ir_steps}
use Rattle.limm_ir.specs.Blocks.{ir_end, ir_block}
use Rattle.limm_ir.specs.Conditions.{Known, Unset, Set, Constant, IsSet, IsSetIn, IsSize, InRange, IsWell, SetsOnce, IsWellMade, know, learn, step_reads, step_sets, end_reads}
use Rattle.limm_ir.specs.declared.block.IrEnd.{IrEnd}
use Rattle.limm_ir.specs.declared.block.IrEnd.TheVariants as ends
use Rattle.limm_ir.specs.declared.step.Temp.{Temp}
use Rattle.limm_ir.specs.declared.step.IrFence.{IrFence}
use Rattle.limm_ir.specs.declared.step.IrFence.TheVariants.{Frm, Fww, Fsc}
use Rattle.limm_ir.specs.declared.step.RmwOp.{RmwOp}
use Rattle.limm_ir.specs.declared.step.RmwOp.TheVariants as rmw
use Rattle.limm_ir.specs.declared.step.IrStep.{IrStep}
use Rattle.limm_ir.specs.declared.step.IrStep.TheVariants as steps
use Rattle.a64_code.specs.declared.instr.A64.TheVariants as words
use Rattle.a64_table.specs.declared.state.Done.{Done}
use Rattle.a64_table.specs.State.{AState, value, after}
use Rattle.a64_table.specs.Values.{low, shifted, holds, subs_flags}
use Rattle.a64_table.specs.Rows.{gets, jumps, breaks, ahead, a64_words}
use Rattle.a64_table.proofs.CallerLemmas.{words-append}
use Rattle.a64_block.specs.Registers.{numbers}
use Rattle.a64_block.specs.Breaks.{break_of}
use Rattle.a64_block.specs.Blocks.{a64_end, a64_block}
use Rattle.isel.specs.Groups.{last_bit, rmw_word, group_of, selected, selected_end}
use Rattle.isel.specs.Ranges.{Fits}
use Rattle.isel.specs.Selected.{SameNumbered, MeansSteps}
use Rattle.isel.proofs.Numbered.{Numbered, Moved, number_is, reads_temp, temp_fits, reads_reg, reg_fits, reads_flag, flag_fits, kept, scratch, wrote_temp, wrote_reg, wrote_flag}
use Rattle.isel.proofs.Values.{low_is, copied, size_fits, not_equal}
use Rattle.isel.proofs.Operations.{Does, only_set, computes, op_step}
use Rattle.isel.proofs.NumberWords.{number_step}

-- both trees make the same choice, and else trap as an access that is not allowed
choice : {T : Type 0} (known : ℕ → Known) (credit : ℕ) (b : Bool) (p : Tree (Next IrState)) (q : Tree (Next T)) (on : T → Tree (Next (ℕ × AState)))
    → Does known credit p (q then on) → Does known credit (if b then p else traps kinds.BadAccess) ((if b then q else traps kinds.BadAccess) then on)
choice known credit true p q on here = here
choice known credit false p q on here = give both-stop

-- a locked pair is seen alike at all places
pair_alike : (place at address size v : ℕ) (o : Option ℕ)
    → lowered (access Read true at address size v ∷ locked_write at address size o) ≡ lowered (access Read true place address size v ∷ locked_write place address size o)
pair_alike place at address size v None = refl
pair_alike place at address size v (Some w) = refl

module _ (may : Permission) (known : ℕ → Known) (i : IrState) (s : AState) (at : ℕ) (here : Numbered known i s) where
  -- what comes behind a word that is the last of its group
  abbrev last : Option ℕ → Done → Tree (Next (ℕ × AState))
  last result d = a64_words numbers may (at + 4) [] (ahead d.distance) (after numbers result d s)

  -- a copy into a register, a flag or a temporary
  reg_step : (r : ℕ) (t : Temp) → r < 16 → IsSet (known t.0) → Does (know None Set known) 1 (goes (record i { regs = put r (of i t) i.regs })) (a64_words numbers may at (group_of (λ u. last_bit (known u)) (steps.SetReg r t)) 0 s)
  reg_step r t low is_set = let fits = temp_fits known i s here t is_set in
      spend {less = 0} (omega arith) (give (both-go (refl, wrote_reg known i s here s.nzcv r _ (of i t) low (copied _ (of i t) (reads_temp known i s here t is_set) fits) fits)))

  -- a copy into a flag
  flag_step : (f : ℕ) (t : Temp) → f < 4 → IsSet (known t.0) → Does (know None Set known) 1 (goes (record i { flags = put f (of i t) i.flags })) (a64_words numbers may at (group_of (λ u. last_bit (known u)) (steps.SetFlag f t)) 0 s)
  flag_step f t low is_set = let fits = temp_fits known i s here t is_set in
      spend {less = 0} (omega arith) (give (both-go (refl, wrote_flag known i s here s.nzcv f _ (of i t) low (copied _ (of i t) (reads_temp known i s here t is_set) fits) fits)))

  -- a copy into a temporary
  copy_step : (t : Temp) (n v : ℕ) → value numbers s n ≡ v → v < 2 ^ 64 → Does (know (Some t.0) Set known) 1 (goes (set t v i)) (a64_words numbers may at (words.Orr true (21 + t.0) 20 n 0 0 ∷ []) 0 s)
  copy_step t n v is fits = computes may known i s at here (words.Orr true (21 + t.0) 20 n 0 0) t _ v refl refl (copied (value numbers s n) v is fits) fits

  -- a choice between two temporaries
  select_step : (t c a b : Temp) → IsSet (known c.0) → IsSet (known a.0) → IsSet (known b.0)
      → Does (know (Some t.0) Set known) 2 (goes (set t (if of i c == 0 then of i b else of i a) i)) (a64_words numbers may at (group_of (λ u. last_bit (known u)) (steps.Select t c a b)) 0 s)
  select_step t c a b set_c set_a set_b =
      let m = low true (value numbers s (21 + c.0)) in
      let next : AState = record { regs = put 20 ((m + (2 ^ 64 - 0)) % 2 ^ 64) s.regs; nzcv = subs_flags 64 m 0 } in
      let here1 : Numbered known i next = scratch known i s here (subs_flags 64 m 0) 20 ((m + (2 ^ 64 - 0)) % 2 ^ 64) (omega arith) (λ u is_set e. absurd (omega (arith, e))) (omega arith) in
      let is_c : m ≡ of i c = ap (low true) (reads_temp known i s here c set_c) ∙ low_is (of i c) (temp_fits known i s here c set_c) in
      let test : holds 1 (subs_flags 64 m 0) ≡ not (of i c == 0) = ap (λ n. holds 1 (subs_flags 64 n 0)) is_c ∙ not_equal (of i c) 0 (temp_fits known i s here c set_c) (omega arith) in
      let is_a : low true (value numbers next (21 + a.0)) ≡ of i a = ap (low true) (reads_temp known i next here1 a set_a) ∙ low_is (of i a) (temp_fits known i s here a set_a) in
      let is_b : low true (value numbers next (21 + b.0)) ≡ of i b = ap (low true) (reads_temp known i next here1 b set_b) ∙ low_is (of i b) (temp_fits known i s here b set_b) in
      spend {less = 1} (omega arith)
      (computes may known i next (at + 4) here1 (words.Csel true (21 + t.0) (21 + a.0) (21 + b.0) 1) t _ (if of i c == 0 then of i b else of i a) refl refl
      (chosen (holds 1 (subs_flags 64 m 0)) (of i c == 0) _ _ _ _ test is_a is_b) (chosen_fits (of i c == 0) (of i b) (of i a) (temp_fits known i s here b set_b) (temp_fits known i s here a set_a)))
    where
      chosen : (p q : Bool) (x y u v : ℕ) → p ≡ not q → x ≡ u → y ≡ v → (if p then x else y) ≡ (if q then v else u)
      chosen p true x y u v e f g = rw e g
      chosen p false x y u v e f g = rw e f

      chosen_fits : (q : Bool) (u v : ℕ) → u < 2 ^ 64 → v < 2 ^ 64 → (if q then u else v) < 2 ^ 64
      chosen_fits true u v p q = p
      chosen_fits false u v p q = q

  -- where an access is made
  address_is : (a : Temp) (size : ℕ) → IsSet (known a.0) → of i a ≡ (value numbers s (21 + a.0) + 0 * size) % 2 ^ 64
  address_is a size is_set = rw (reads_temp known i s here a is_set) (omega (arith, temp_fits known i s here a is_set))

  -- a read
  load_step : (t a : Temp) (size place : ℕ) → IsSize size → IsSet (known a.0)
      → Does (know (Some t.0) Set known) 1 (ir_step may (steps.Load t a size place) i) (a64_words numbers may at (words.Ldr size (21 + t.0) (21 + a.0) 0 ∷ []) 0 s)
  load_step t a size place sized is_set =
      spend {less = 0} (omega arith)
      (subst (λ c. Does (know (Some t.0) Set known) 0 (ir_step may (steps.Load t a size place) i) (reads may at c size (λ v. gets v s.nzcv) then last (Some (21 + t.0)))) (address_is a size is_set)
      (choice (know (Some t.0) Set known) 0 (may false (of i a) size) (Acts (256 ^ size) (λ v. access Read false place (of i a) size v ∷ []) (λ v. goes (set t v i)))
      (Acts (256 ^ size) (λ v. access Read false at (of i a) size v ∷ []) (λ v. gets v s.nzcv)) (last (Some (21 + t.0)))
      (act (λ v lt. refl) (λ v lt. give (both-go (refl, wrote_temp known i s here s.nzcv t Set v v refl (size_fits size v sized lt) (only_set v)))))))

  -- a write
  store_step : (a v : Temp) (size place : ℕ) → IsSet (known a.0) → IsSet (known v.0)
      → Does (know None Set known) 1 (ir_step may (steps.Store a v size place) i) (a64_words numbers may at (words.Str size (21 + v.0) (21 + a.0) 0 ∷ []) 0 s)
  store_step a v size place set_a set_v =
      spend {less = 0} (omega arith)
      (subst (λ w. Does (know None Set known) 0 (ir_step may (steps.Store a v size place) i) (writes may at ((value numbers s (21 + a.0) + 0 * size) % 2 ^ 64) size w (gets 0 s.nzcv) then last None)) (sym (reads_temp known i s here v set_v))
      (subst (λ c. Does (know None Set known) 0 (ir_step may (steps.Store a v size place) i) (writes may at c size (of i v) (gets 0 s.nzcv) then last None)) (address_is a size set_a)
      (choice (know None Set known) 0 (may true (of i a) size) (makes (access Write false place (of i a) size (of i v % 256 ^ size)) (goes i))
      (makes (access Write false at (of i a) size (of i v % 256 ^ size)) (gets 0 s.nzcv)) (last None)
      (act (λ n lt. refl) (λ n lt. give (both-go (refl, kept known i s here s.nzcv)))))))

  -- locked pairs that write the same at the same address
  exchange : (t a : Temp) (size place : ℕ) (new made : ℕ → Option ℕ) (n : ℕ) → IsSize size → n ≡ of i a → ((old : ℕ) → made old ≡ new old)
      → Does (know (Some t.0) Set known) 0 (exchanges may place (of i a) size new (λ old. goes (set t old i))) (exchanges may at n size made (λ old. gets old s.nzcv) then last (Some (21 + t.0)))
  exchange t a size place new made n sized same alike =
      subst (λ c. Does (know (Some t.0) Set known) 0 (exchanges may place (of i a) size new (λ old. goes (set t old i))) (exchanges may at c size made (λ old. gets old s.nzcv) then last (Some (21 + t.0)))) (sym same)
      (choice (know (Some t.0) Set known) 0 (may false (of i a) size && may true (of i a) size)
      (Acts (256 ^ size) (λ v. access Read true place (of i a) size v ∷ locked_write place (of i a) size (new v)) (λ old. goes (set t old i)))
      (Acts (256 ^ size) (λ v. access Read true at (of i a) size v ∷ locked_write at (of i a) size (made v)) (λ old. gets old s.nzcv)) (last (Some (21 + t.0)))
      (act (λ v lt. ap (λ o. lowered (access Read true at (of i a) size v ∷ locked_write at (of i a) size o)) (alike v) ∙ pair_alike place at (of i a) size v (new v))
      (λ v lt. give (both-go (refl, wrote_temp known i s here s.nzcv t Set v v refl (size_fits size v sized lt) (only_set v))))))

  -- a locked pair
  rmw_step : (op : RmwOp) (t a v : Temp) (size place : ℕ) → IsSize size → IsSet (known a.0) → IsSet (known v.0)
      → Does (know (Some t.0) Set known) 1 (ir_step may (steps.Rmw op t a v size place) i) (a64_words numbers may at (rmw_word op size (21 + v.0) (21 + t.0) (21 + a.0) ∷ []) 0 s)
  rmw_step rmw.Swap t a v size place sized set_a set_v = spend {less = 0} (omega arith) (exchange t a size place _ _ _ sized (reads_temp known i s here a set_a) (λ old. ap (λ n. Some (rmw_value rmw.Swap old n)) (reads_temp known i s here v set_v)))
  rmw_step rmw.Add t a v size place sized set_a set_v = spend {less = 0} (omega arith) (exchange t a size place _ _ _ sized (reads_temp known i s here a set_a) (λ old. ap (λ n. Some (rmw_value rmw.Add old n)) (reads_temp known i s here v set_v)))
  rmw_step rmw.Clear t a v size place sized set_a set_v = spend {less = 0} (omega arith) (exchange t a size place _ _ _ sized (reads_temp known i s here a set_a) (λ old. ap (λ n. Some (rmw_value rmw.Clear old n)) (reads_temp known i s here v set_v)))
  rmw_step rmw.Flip t a v size place sized set_a set_v = spend {less = 0} (omega arith) (exchange t a size place _ _ _ sized (reads_temp known i s here a set_a) (λ old. ap (λ n. Some (rmw_value rmw.Flip old n)) (reads_temp known i s here v set_v)))
  rmw_step rmw.Set t a v size place sized set_a set_v = spend {less = 0} (omega arith) (exchange t a size place _ _ _ sized (reads_temp known i s here a set_a) (λ old. ap (λ n. Some (rmw_value rmw.Set old n)) (reads_temp known i s here v set_v)))

  -- a fence is a barrier
  fence_step : (f : IrFence) → Does (know None Set known) 1 (ir_step may (steps.Fence f) i) (a64_words numbers may at (group_of (λ u. last_bit (known u)) (steps.Fence f)) 0 s)
  fence_step Frm = spend {less = 0} (omega arith) (act (λ v lt. refl) (λ v lt. give (both-go (refl, kept known i s here s.nzcv))))
  fence_step Fww = spend {less = 0} (omega arith) (act (λ v lt. refl) (λ v lt. give (both-go (refl, kept known i s here s.nzcv))))
  fence_step Fsc = spend {less = 0} (omega arith) (act (λ v lt. refl) (λ v lt. give (both-go (refl, kept known i s here s.nzcv))))

  -- a value comes in
  input_step : Does (know None Set known) 1 (ir_step may steps.Input i) (a64_words numbers may at (words.Svc 1 ∷ []) 0 s)
  input_step = spend {less = 0} (omega arith) (act (λ v lt. refl) (λ v lt. give (both-go (refl, wrote_reg known i s here s.nzcv 0 v v (omega arith) refl lt))))

  -- a value goes out
  output_step : Does (know None Set known) 1 (ir_step may steps.Output i) (a64_words numbers may at (words.Svc 2 ∷ []) 0 s)
  output_step = spend {less = 0} (omega arith)
      (act (λ v lt. ap (λ n. lowered (items.Output (record { value = n; place = 0 }) ∷ [])) (here.same.regs 7 (omega arith))) (λ v lt. give (both-go (refl, kept known i s here s.nzcv))))

  -- the trap of a kind
  trap_step : (kind : TrapKind) (next : Done → Tree (Next (ℕ × AState))) → kind ≢ kinds.BadAccess → Does (know None Set known) 0 (traps kind) (breaks (break_of kind) then next)
  trap_step kinds.BadAccess next apart = absurd (apart refl)
  trap_step kinds.Divide next apart = give both-stop
  trap_step kinds.Invalid next apart = give both-stop
  trap_step kinds.BadReturn next apart = give both-stop
  trap_step kinds.BadJump next apart = give both-stop

  -- a trap where the temporary is not 0
  trap_if_step : (t : Temp) (kind : TrapKind) → kind ≢ kinds.BadAccess → IsSet (known t.0)
      → Does (know None Set known) 2 (ir_step may (steps.TrapIf t kind) i) (a64_words numbers may at (group_of (λ u. last_bit (known u)) (steps.TrapIf t kind)) 0 s)
  trap_if_step t kind apart is_set =
      let test : low true (value numbers s (21 + t.0)) ≡ of i t = ap (low true) (reads_temp known i s here t is_set) ∙ low_is (of i t) (temp_fits known i s here t is_set) in
      spend {less = 1} (omega arith) (rw test (by (of i t == 0)))
    where
      by : (b : Bool) → Does (know None Set known) 1 (if b then goes i else traps kind)
          ((if b then jumps (pos 2) s.nzcv else jumps (pos 1) s.nzcv) then (λ d. a64_words numbers may (at + 4) (words.Brk (break_of kind) ∷ []) (ahead d.distance) (after numbers None d s)))
      by true = give (both-go (refl, kept known i s here s.nzcv))
      by false = spend {less = 0} (omega arith) (trap_step kind (λ d. a64_words numbers may (at + 4 + 4) [] (ahead d.distance) (after numbers None d (record { regs = s.regs; nzcv = s.nzcv }))) apart)

-- a locked pair that compares first copies the expected value
cas_step : (may : Permission) (known : ℕ → Known) (i : IrState) (s : AState) (at : ℕ) → Numbered known i s
    → (t a e v : Temp) (size place : ℕ) → IsSize size → IsSet (known a.0) → IsSet (known e.0) → IsSet (known v.0) → (IsSet (known t.0) → ⊥)
    → Does (know (Some t.0) Set known) 2 (ir_step may (steps.Cas t a e v size place) i) (a64_words numbers may at (group_of (λ u. last_bit (known u)) (steps.Cas t a e v size place)) 0 s)
cas_step may known i s at here t a e v size place sized set_a set_e set_v fresh =
    let w = low true (bit_or 0 (shifted true 0 0 (value numbers s (21 + e.0)))) in
    let is : w ≡ of i e = copied (value numbers s (21 + e.0)) (of i e) (reads_temp known i s here e set_e) (temp_fits known i s here e set_e) in
    let next : AState = record { regs = put (21 + t.0) w s.regs; nzcv = s.nzcv } in
    let here1 : Numbered known i next = scratch known i s here s.nzcv (21 + t.0) w (omega arith) (λ u is_set same. fresh (subst (λ n. IsSet (known n)) (omega (arith, same)) is_set)) (omega arith) in
    let expected : value numbers next (21 + t.0) ≡ of i e = number_is next t.0 ∙ put_here (21 + t.0) w s.regs ∙ is in
    spend {less = 1} (omega arith) (spend {less = 0} (omega arith)
    (exchange may known i next (at + 4) here1 t a size place _ _ _ sized (reads_temp known i next here1 a set_a)
    (λ old. ap (λ n. if old == n % 256 ^ size then Some (value numbers next (21 + v.0)) else None) expected
    ∙ ap (λ n. if old == of i e % 256 ^ size then Some n else None) (reads_temp known i next here1 v set_v))))

-- what a step sets was not set before
abbrev pub SetsFresh : (known : ℕ → Known) → IrStep → Type 0
SetsFresh known x = (t : ℕ) → step_sets x ≡ Some t → IsSet (known t) → ⊥

-- the group of a step does what the step does
group_does : (may : Permission) (known : ℕ → Known) (i : IrState) (s : AState) (at : ℕ) → Numbered known i s
    → (x : IrStep) → AllByRecursion (λ t. IsSet (known t)) (step_reads x) → InRange known x → Fits x → SetsFresh known x
    → Does (learn x known) (step_cost x) (ir_step may x i) (a64_words numbers may at (group_of (λ t. last_bit (known t)) x) 0 s)
group_does may known i s at here (steps.Const t v) reads range fits fresh = number_step may known i t v fits (fresh t.0 refl) at s here
group_does may known i s at here (steps.GetReg t r) reads range fits fresh = copy_step may known i s at here t r (i.regs r) (reads_reg known i s here r range) (reg_fits known i s here r range)
group_does may known i s at here (steps.SetReg r t) reads range fits fresh = reg_step may known i s at here r t range reads.0
group_does may known i s at here (steps.GetFlag t f) reads range fits fresh = copy_step may known i s at here t (16 + f) (i.flags f) (reads_flag known i s here f range) (flag_fits known i s here f range)
group_does may known i s at here (steps.SetFlag f t) reads range fits fresh = flag_step may known i s at here f t range reads.0
group_does may known i s at here (steps.Op op t a b) reads range fits fresh = op_step may known i s at here t a b reads.0 reads.1.0 (fresh t.0 refl) op range
group_does may known i s at here (steps.Select t c a b) reads range fits fresh = select_step may known i s at here t c a b reads.0 reads.1.0 reads.1.1.0
group_does may known i s at here (steps.Load t a size place) reads range fits fresh = load_step may known i s at here t a size place range reads.0
group_does may known i s at here (steps.Store a v size place) reads range fits fresh = store_step may known i s at here a v size place reads.0 reads.1.0
group_does may known i s at here (steps.Rmw op t a v size place) reads range fits fresh = rmw_step may known i s at here op t a v size place range reads.0 reads.1.0
group_does may known i s at here (steps.Cas t a e v size place) reads range fits fresh = cas_step may known i s at here t a e v size place range reads.0 reads.1.0 reads.1.1.0 (fresh t.0 refl)
group_does may known i s at here (steps.Fence f) reads range fits fresh = fence_step may known i s at here f
group_does may known i s at here steps.Input reads range fits fresh = input_step may known i s at here
group_does may known i s at here steps.Output reads range fits fresh = output_step may known i s at here
group_does may known i s at here (steps.TrapIf t kind) reads range fits fresh = trap_if_step may known i s at here t kind range reads.0

-- an end reads what a temporary holds
read_low : (known : ℕ → Known) (i : IrState) (s : AState) → Numbered known i s → (t : Temp) → IsSet (known t.0) → value numbers s (21 + t.0) % 2 ^ 64 ≡ of i t
read_low known i s here t is_set = ap (λ n. n % 2 ^ 64) (reads_temp known i s here t is_set) ∙ low_is (of i t) (temp_fits known i s here t is_set)

-- the end of the words does what the end of the steps does
end_does : (end : IrEnd) (known : ℕ → Known) (i : IrState) (s : AState) → Numbered known i s → AllByRecursion (λ t. IsSet (known t)) (end_reads end)
    → Beside lowered 1 (SameNext (SameLeft SameNumbered)) 0 (ir_end end i) (a64_end numbers (selected_end end) s)
end_does (ends.Goto a) known i s here reads = give (both-go (refl, here.same))
end_does (ends.Branch t a b) known i s here reads = give (both-go (ap (λ n. ToBlock (if n == 0 then b else a)) (read_low known i s here t reads.0), here.same))
end_does (ends.Return t) known i s here reads = give (both-go (ap ToReturn (read_low known i s here t reads.0), here.same))
end_does (ends.Indexed t table) known i s here reads = give (both-go (ap (ToEntry table) (read_low known i s here t reads.0), here.same))
end_does (ends.Stop kind) known i s here reads = give both-stop

-- what is set is not set by the steps that are left
abbrev pub SetsLater : (known : ℕ → Known) → List IrStep → Type 0
SetsLater known xs = (t : ℕ) → IsSet (known t) → IsSetIn xs t → ⊥

-- what is set where one temporary is known to be otherwise
known_by : (one : Option ℕ) (k : Known) (known : ℕ → Known) (t : ℕ) → IsSet (know one k known t) → (one ≡ Some t) ⊎ IsSet (known t)
known_by None k known t is_set = inr is_set
known_by (Some n) k known t is_set = by (t == n) refl is_set
  where
    by : (b : Bool) → (t == n) ≡ b → IsSet (if b then k else known t) → (Some n ≡ Some t) ⊎ IsSet (known t)
    by true e is_set = inl (ap Some (sym (eqb-true t n e)))
    by false e is_set = inr is_set

-- what is set behind a step was set before it, or is set by it
pub learned : (x : IrStep) (known : ℕ → Known) (t : ℕ) → IsSet (learn x known t) → (step_sets x ≡ Some t) ⊎ IsSet (known t)
learned (steps.Const n v) known t is_set = known_by (Some n.0) (Constant v) known t is_set
learned x known t is_set = known_by (step_sets x) Set known t is_set

module _ (may : Permission) (end : IrEnd) where
  -- the words from here on do what the steps from here on and the end do
  abbrev Kept : (known : ℕ → Known) → List IrStep → Type 0
  Kept known xs = (at : ℕ) (i : IrState) (s : AState) → Numbered known i s
      → Keeps lowered 1 0 (SameNext (SameLeft SameNumbered)) (ir_block step_cost may xs end i) (a64_block numbers may at (selected known xs) (selected_end end) s)

  -- what is known of temporaries goes along from step to step
  steps_keep : (known : ℕ → Known) (xs : List IrStep) → IsWell end known xs → SetsOnce xs → SetsLater known xs → AllByRecursion Fits xs → Kept known xs
  steps_keep known [] well once later fits at i s here = beside_keeps lowered sees-lowered 1 (SameNext (SameLeft SameNumbered)) (end_does end known i s here well.0)
  steps_keep known (x ∷ xs) well once later fits at i s here =
      let g = group_of (λ t. last_bit (known t)) x in
      let next = learn x known in
      let rest = selected next xs in
      let on : ℕ = at + 4 * length g in
      let fin : ℕ × AState → Tree (Next (Left AState)) = λ r. a64_end numbers (selected_end end) r.1 in
      let first : Keeps lowered 1 0 (SameNext (Moved next)) (ticks (step_cost x) (ir_step may x i)) (a64_words numbers may at g 0 s) =
      beside_keeps lowered sees-lowered 1 (SameNext (Moved next))
      (earn_many lowered sees-lowered 1 (SameNext (Moved next)) (step_cost x) 0 (step_cost x) (omega arith)
      (group_does may known i s at here x well.0 well.1 fits.0 (λ t sets is_set. later t is_set (inl sets)))) in
      let behind : Kept next xs = steps_keep next xs well.2 once.1 (λ t is_set. later_by t (learned x known t is_set)) fits.1 in
      let both = keeps_then lowered sees-lowered 1 0 (Moved next) (SameLeft SameNumbered) (λ j. ir_steps step_cost may xs j then ir_end end) (λ r. a64_words numbers may on rest r.0 r.1 then fin)
      (λ j r same. subst (λ k. Keeps lowered 1 0 (SameNext (SameLeft SameNumbered)) (ir_steps step_cost may xs j then ir_end end) (a64_words numbers may on rest k r.1 then fin)) (sym same.0) (behind on j r.1 same.1)) first in
      subst (λ p. Keeps lowered 1 0 (SameNext (SameLeft SameNumbered)) p (a64_block numbers may at (g ++ rest) (selected_end end) s)) (sym (then-assoc (ticks (step_cost x) (ir_step may x i)) (ir_steps step_cost may xs) (ir_end end)))
      (subst (λ q. Keeps lowered 1 0 (SameNext (SameLeft SameNumbered)) (ticks (step_cost x) (ir_step may x i) then (λ j. ir_steps step_cost may xs j then ir_end end)) q)
      (sym (ap (λ q. q then fin) (words-append numbers may g rest at 0 s) ∙ then-assoc (a64_words numbers may at g 0 s) (λ r. a64_words numbers may on rest r.0 r.1) fin)) both)
    where
      later_by : (t : ℕ) → (step_sets x ≡ Some t) ⊎ IsSet (known t) → IsSetIn xs t → ⊥
      later_by t (inl sets) again = once.0 t sets again
      later_by t (inr is_set) again = later t is_set (inr again)

-- the words of a block do what its steps do
pub selected_means : (xs : List IrStep) (end : IrEnd) → IsWellMade xs end → SetsOnce xs → AllByRecursion Fits xs → MeansSteps xs end (selected (λ t. Unset) xs) (selected_end end)
selected_means xs end well once fits may at i s same =
    steps_keep may end (λ t. Unset) xs well once (λ t is_set again. is_set) fits at i s (record { same = same; temps = λ t is_set. elim is_set [ ]; constants = λ t n e. cc })
