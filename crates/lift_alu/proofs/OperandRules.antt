-- What the steps of operands do beside a row: they fetch, find, change and set what its acts do.
use Rattle.std.proofs.Common.{◌≡◌, ℕ, ◌+◌, ◌%◌, ◌^◌, ◌<◌, true, false, inl, inr, [], refl, sym, ap, ◌∙◌, subst, arith}
use Rattle.behavior.specs.Tree.{Tree, Next, ◌then◌}
use Rattle.behavior.specs.Acts.{Permission}
use Rattle.behavior.specs.Leaving.{Left, ToBlock}
use Rattle.behavior.specs.Kept.{both-go}
use Rattle.behavior.proofs.Beside.{give}
use Rattle.x64_syntax.specs.Formed.{IsRegister, IsMemory, IsInRegister, IsStored, IsNumber, ArePair}
use Rattle.x64_syntax.specs.Operands.{bits}
use Rattle.x64_syntax.specs.declared.operand.Mem.{Mem}
use Rattle.x64_syntax.specs.declared.operand.Operand.{Operand}
use Rattle.x64_syntax.specs.declared.operand.Operand.TheVariants as operand
use Rattle.x64_syntax.specs.declared.operand.Reg.{Reg}
use Rattle.x64_syntax.specs.declared.operand.Width.{Width}
use Rattle.x64_syntax.specs.declared.operand.Width.TheVariants as width
use Rattle.x64_table.specs.State.{Thread, bytes, register, merged, set, address}
use Rattle.x64_table.specs.Rows.{Exit, Row, leaves}
use Rattle.x64_table.specs.Rows as rows
use Rattle.x64_table.specs.Blocks.{goes_on, x64_block}
use Rattle.limm_ir.specs.Steps.{IrState}
use Rattle.limm_ir.specs.declared.block.IrEnd.{IrEnd}
use Rattle.limm_ir.specs.declared.block.IrEnd.TheVariants as ends
use Rattle.lift_alu.specs.Formulas.{Formula, Kept, Number, Register, value, Lifting, done, keeps}
use Rattle.lift_alu.specs.Operands.{register_formula, merged_formula, address_formula}
use Rattle.lift_alu.specs.Lifted.{InMemory, in_memory, puts, finds, moves, reads_there, writes_there, puts_there}
use Rattle.lift_alu.specs.Lifted as lifted
use Rattle.lift_alu.specs.Meant.{SameThread}
use Rattle.lift_alu.proofs.OperandValues.{register_below, value_register, value_merged, merged_below, merged-low, value_address}
use Rattle.lift_alu.proofs.Computed.{IsKeptBelow}
use Rattle.lift_alu.proofs.KeptFormulas.{below_register, below_merged, below_address}
use Rattle.lift_alu.proofs.Rules.{IsLater, Holds, holds_later, later_then, Does, Later, keeps_does, sets_register_does, loads_does, stores_does}

-- an operand whose value can be fetched
abbrev pub IsFetched : Width → Operand → Type 0
IsFetched w (operand.Reg r) = IsRegister w r
IsFetched w (operand.Mem m) = IsMemory m
IsFetched w (operand.Imm n) = n < 2 ^ bits w

-- a register or memory can be fetched
pub fetched_stored : (w : Width) (o : Operand) → IsStored w o → IsFetched w o
fetched_stored w (operand.Reg r) is = is
fetched_stored w (operand.Mem m) is = is
fetched_stored w (operand.Imm n) is = absurd is

-- a register is a register or memory
pub stored_register : (w : Width) (o : Operand) → IsInRegister w o → IsStored w o
stored_register w (operand.Reg r) is = is
stored_register w (operand.Mem m) is = absurd is
stored_register w (operand.Imm n) is = absurd is

-- a number can be fetched
pub fetched_number : (w : Width) (o : Operand) → IsNumber w o → IsFetched w o
fetched_number w (operand.Reg r) is = absurd is
fetched_number w (operand.Mem m) is = absurd is
fetched_number w (operand.Imm n) is = is

-- the two operands of a pair
pub pair_stored : (w : Width) (to from : Operand) → ArePair w to from → IsStored w to
pair_stored w to from (inl both) = both.0
pair_stored w to from (inr (inl both)) = stored_register w to both.0
pair_stored w to from (inr (inr both)) = both.0

-- of which the second can be fetched
pub pair_fetched : (w : Width) (to from : Operand) → ArePair w to from → IsFetched w from
pair_fetched w to from (inl both) = fetched_stored w from (stored_register w from both.1)
pair_fetched w to from (inr (inl both)) = fetched_stored w from both.1
pair_fetched w to from (inr (inr both)) = fetched_number w from both.1

-- what bytes of a width hold
pub width_bytes : (w : Width) → 256 ^ bytes w ≡ 2 ^ bits w
width_bytes width.Byte = refl
width_bytes width.Word = refl
width_bytes width.Long = refl
width_bytes width.Quad = refl

-- a value of a width is its low bits
pub low_of_fit : (w : Width) (v : ℕ) → v < 2 ^ bits w → v ≡ v % 2 ^ bits w
low_of_fit width.Byte v fit = omega (arith, fit)
low_of_fit width.Word v fit = omega (arith, fit)
low_of_fit width.Long v fit = omega (arith, fit)
low_of_fit width.Quad v fit = omega (arith, fit)

-- low bits fit the width
pub low_below : (w : Width) (v : ℕ) → v % 2 ^ bits w < 2 ^ bits w
low_below width.Byte v = omega arith
low_below width.Word v = omega arith
low_below width.Long v = omega arith
low_below width.Quad v = omega arith

-- a high byte has 8 bits
narrow : (w : Width) (r : Reg) → IsRegister w r → r.high ≡ true → w ≡ width.Byte
narrow w r is high = (is.high high).0

-- an address of memory, by the address behind the instruction
pub value_address_at : (s : Thread) (i : IrState) (m : Mem) (after : ℕ) → s.at ≡ after → after < 2 ^ 64 → SameThread s i → IsMemory m → value i (address_formula m after) ≡ address m s
value_address_at s i m after at fit same is =
    subst (λ a. value i (address_formula m a) ≡ address m s) at (value_address s i m same is (subst (λ a. a < 2 ^ 64) (sym at) fit))

-- a register gets a value at a width
module _ (may : Permission) (end : IrEnd) where
  -- the thread after it has the value too
  pub puts_does : (q : Tree (Next (Left Thread))) (s : Thread) (next : ℕ) (i : IrState) (w : Width) (r : Reg) (e : Formula) (v : ℕ) (rest : Lifting) → SameThread s i → IsRegister w r → IsKeptBelow next e
      → value i e ≡ v % 2 ^ bits w → Later may end q (set w r v s) next i rest → Does may end q (puts w r e rest next) i
  unfolding puts set
  puts_does q s next i w r e v rest same is kept value_is go =
      let old = s.regs r.number in
      let here : value i (merged_formula w r.high (Register r.number) e) ≡ merged w r.high old v =
      value_merged i w r.high (Register r.number) e (narrow w r is) (subst (λ k. k < 2 ^ 64) (sym (same.regs r.number is.number)) (same.fit r.number is.number)) (subst (λ k. k < 2 ^ bits w) (sym value_is) (low_below w v))
      ∙ ap (λ k. merged w r.high k (value i e)) (same.regs r.number is.number)
      ∙ ap (λ k. merged w r.high old k) value_is
      ∙ merged-low w r.high old v in
      sets_register_does may end q s next i r.number (merged_formula w r.high (Register r.number) e) (merged w r.high old v) rest same (below_merged next w r.high (Register r.number) e tt kept) here
      (merged_below w r.high old v (same.fit r.number is.number)) go

module _ (may : Permission) (place after : ℕ) (fits : after < 2 ^ 64) where
  -- a value is fetched
  pub fetches_does : (f : Exit → Tree (Next (Left Thread))) (end : IrEnd) (w : Width) (o : Operand) (s : Thread) (next : ℕ) (i : IrState) (go : ℕ → Row) (rest : Formula → Lifting) → SameThread s i → IsFetched w o → s.at ≡ after
      → ((v : ℕ) → v < 2 ^ bits w → (t next' : ℕ) (i' : IrState) → SameThread s i' → IsLater next i next' i' → Holds next' i' t v → Does may end (go v then f) (rest (Kept t) next') i')
      → Does may end (rows.fetches may place w o s go then f) (lifted.fetches place after w o rest next) i
  unfolding rows.fetches lifted.fetches
  fetches_does f end w (operand.Reg r) s next i go rest same is at here =
      keeps_does may end (go (register w r s) then f) s next i (register_formula w r) (register w r s) rest same (below_register next w r) (value_register s i w r same is) (here (register w r s) (register_below w r s))
  fetches_does f end w (operand.Mem m) s next i go rest same is at here =
      loads_does may end f go s next i place (bytes w) (address_formula m after) (address m s) rest same (below_address next m after) (value_address_at s i m after at fits same is)
      (λ v lt next' i' same' later holds. here v (subst (λ k. v < k) (width_bytes w) lt) _ next' i' same' later holds)
  fetches_does f end w (operand.Imm n) s next i go rest same is at here =
      keeps_does may end (go n then f) s next i (Number n) n rest same tt refl (here n is)

  -- the steps end where the row does
  pub ends_does : (table : ℕ) (u : Thread) (i : IrState) → u.at ≡ after → SameThread u i → Does may (ends.Goto after) (leaves u then goes_on table (x64_block may table [])) [] i
  ends_does table u i at same = give (both-go (ap ToBlock (sym at), same))

  -- a register gets a value, and the row ends
  pub puts_ends : (table : ℕ) (w : Width) (r : Reg) (s : Thread) (next : ℕ) (i : IrState) (e : Formula) (v : ℕ) → SameThread s i → IsRegister w r → s.at ≡ after → IsKeptBelow next e → value i e ≡ v % 2 ^ bits w
      → Does may (ends.Goto after) (leaves (set w r v s) then goes_on table (x64_block may table [])) (puts w r e done next) i
  unfolding set
  puts_ends table w r s next i e v same is at kept value_is =
      puts_does may (ends.Goto after) (leaves (set w r v s) then goes_on table (x64_block may table [])) s next i w r e v done same is kept value_is
      (λ next' i' same' later. ends_does table (set w r v s) i' at same')

  -- an operand gets a value that is kept, and the row ends
  pub moves_does : (table : ℕ) (w : Width) (o : Operand) (s : Thread) (next : ℕ) (i : IrState) (t v : ℕ) → SameThread s i → IsStored w o → s.at ≡ after → Holds next i t v → v < 2 ^ bits w
      → Does may (ends.Goto after) (rows.stores may place w o s v s then goes_on table (x64_block may table [])) (moves place after w o (Kept t) done next) i
  unfolding rows.stores moves finds writes_there puts_there
  moves_does table w (operand.Reg r) s next i t v same is at kept fit =
      puts_ends table w r s next i (Kept t) v same is at kept.below (kept.is ∙ low_of_fit w v fit)
  moves_does table w (operand.Mem m) s next i t v same is at kept fit =
      keeps_does may (ends.Goto after) (rows.stores may place w (operand.Mem m) s v s then goes_on table (x64_block may table [])) s next i (address_formula m after) (address m s)
      (λ a. writes_there place after w (in_memory a) (Kept t) (puts_there place after w (in_memory a) (Kept t) done)) same
      (below_address next m after) (value_address_at s i m after at fits same is)
      (λ a next' i' same' later there.
      stores_does may (ends.Goto after) (goes_on table (x64_block may table [])) (leaves s) next' i' place (bytes w) a t (address m s) v done there (holds_later later kept)
      (ends_does table s i' at same'))
  moves_does table w (operand.Imm n) s next i t v same is at kept fit = absurd is

  -- what the steps of a new value leave, in any later state
  abbrev pub Computes : Width → Thread → (next : ℕ) → IrState → (Formula → Formula) → (ℕ → ℕ) → Type 0
  Computes w s next i formula new = (v : ℕ) → v < 2 ^ bits w → (t n : ℕ) (j : IrState) → SameThread s j → IsLater next i n j → Holds n j t v
      → IsKeptBelow n (formula (Kept t)) × (value j (formula (Kept t)) ≡ new v) × (new v < 2 ^ bits w)

  -- what the steps of the flags leave, of an old and a new value
  abbrev pub Flags : IrEnd → Width → Thread → (next : ℕ) → IrState → (Formula → Formula → Lifting → Lifting) → (new : ℕ → ℕ) → (ℕ → Thread) → Type 0
  Flags end w s next i flags new after_thread = (v : ℕ) → v < 2 ^ bits w → (a r n : ℕ) (j : IrState) (q : Tree (Next (Left Thread))) (rest : Lifting) → SameThread s j → IsLater next i n j
      → Holds n j a v → Holds n j r (new v) → Later may end q (after_thread v) n j rest → Does may end q (flags (Kept a) (Kept r) rest n) j

  -- an operand is read and changed
  pub changes_does : (table : ℕ) (w : Width) (o : Operand) (s : Thread) (next : ℕ) (i : IrState) (formula : Formula → Formula) (flags : Formula → Formula → Lifting → Lifting)
      (new : ℕ → ℕ) (after_thread : ℕ → Thread) → SameThread s i → IsStored w o → s.at ≡ after → ((v : ℕ) → (after_thread v).at ≡ after) → Computes w s next i formula new → Flags (ends.Goto after) w s next i flags new after_thread
      → Does may (ends.Goto after) (rows.changes may place false w o s new after_thread then goes_on table (x64_block may table [])) (lifted.changes place after w o formula flags next) i
  unfolding rows.changes rows.fetches rows.stores lifted.changes finds reads_there writes_there puts_there
  changes_does table w (operand.Reg r) s next i formula flags new after_thread same is at stays computes flagged =
      let end = ends.Goto after in
      let v = register w r s in
      let q = leaves (set w r (new v) (after_thread v)) then goes_on table (x64_block may table []) in
      keeps_does may end q s next i (register_formula w r) v
      (λ a. keeps (formula a) (λ n. flags a n (puts w r n done))) same
      (below_register next w r) (value_register s i w r same is)
      (λ ta n1 i1 same1 later1 old.
      let one = computes v (register_below w r s) ta n1 i1 same1 later1 old in
      keeps_does may end q s n1 i1 (formula (Kept ta)) (new v) (λ n. flags (Kept ta) n (puts w r n done)) same1 one.0 one.1
      (λ tr n2 i2 same2 later2 changed.
      flagged v (register_below w r s) ta tr n2 i2 q (puts w r (Kept tr) done) same2 (later_then later1 later2) (holds_later later2 old) changed
      (λ n3 i3 same3 later3.
      let result = holds_later later3 changed in
      puts_ends table w r (after_thread v) n3 i3 (Kept tr) (new v) same3 is (stays v) result.below (result.is ∙ low_of_fit w (new v) one.2))))
  changes_does table w (operand.Mem m) s next i formula flags new after_thread same is at stays computes flagged =
      let end = ends.Goto after in
      let f = goes_on table (x64_block may table []) in
      let place_of = address m s in
      keeps_does may end (rows.changes may place false w (operand.Mem m) s new after_thread then f) s next i (address_formula m after) place_of
      (λ p. reads_there place after w (in_memory p) (λ a. keeps (formula a) (λ n. writes_there place after w (in_memory p) n (flags a n (puts_there place after w (in_memory p) n done))))) same
      (below_address next m after) (value_address_at s i m after at fits same is)
      (λ tp n1 i1 same1 later1 there.
      loads_does may end f (λ v. rows.stores may place w (operand.Mem m) s (new v) (after_thread v)) s n1 i1 place (bytes w) (Kept tp) place_of
      (λ a. keeps (formula a) (λ n. writes_there place after w (InMemory tp) n (flags a n done))) same1 there.below there.is
      (λ v lt n2 i2 same2 later2 old.
      let fit = subst (λ k. v < k) (width_bytes w) lt in
      let one = computes v fit _ n2 i2 same2 (later_then later1 later2) old in
      keeps_does may end (rows.stores may place w (operand.Mem m) s (new v) (after_thread v) then f) s n2 i2 (formula (Kept (n1 + 0))) (new v)
      (λ n. writes_there place after w (InMemory tp) n (flags (Kept (n1 + 0)) n done)) same2 one.0 one.1
      (λ tr n3 i3 same3 later3 changed.
      stores_does may end f (leaves (after_thread v)) n3 i3 place (bytes w) tp tr place_of (new v) (flags (Kept (n1 + 0)) (Kept tr) done) (holds_later (later_then later2 later3) there) changed
      (flagged v fit _ tr n3 i3 (leaves (after_thread v) then f) done same3 (later_then (later_then later1 later2) later3) (holds_later later3 old) changed
      (λ n4 i4 same4 later4. ends_does table (after_thread v) i4 (stays v) same4)))))
  changes_does table w (operand.Imm n) s next i formula flags new after_thread same is at stays computes flagged = absurd is
