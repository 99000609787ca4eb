-- The words behind those of a block go to where the block leaves to.
use Rattle.std.proofs.Common.{◌≡◌, ◌≢◌, ℕ, ◌+◌, ◌*◌, ◌%◌, ◌^◌, ◌<◌, ◌≤◌, ◌==◌, Bool, true, false, not, List, Some, None, refl, sym, ap, ◌∙◌, subst, arith}
use Rattle.std.specs.Prelude.{if◌then◌else◌, pos, bit_or}
use Rattle.std.specs.Int.Bits.{or_zero_l}
use Rattle.ev_graph.specs.declared.events.End.TheVariants.{Halted, Trap}
use Rattle.ev_graph.specs.declared.events.TrapKind.{TrapKind}
use Rattle.ev_graph.specs.declared.events.TrapKind.TheVariants.{Divide, Invalid, BadReturn, BadJump, BadAccess}
use Rattle.behavior.specs.Tree.{Gives, Next, Goes, Stops, ◌then◌}
use Rattle.behavior.specs.Acts.{put, Permission}
use Rattle.behavior.specs.Exits.{Exits, Arrived, or_trap, resolved, arrives, lands}
use Rattle.behavior.specs.Leaving.{ToReturn, ToEntry}
use Rattle.behavior.specs.Kept.{SameNext, both-go, both-stop}
use Rattle.behavior.proofs.Banks.{put_other}
use Rattle.a64_code.specs.declared.instr.XReg.{XReg}
use Rattle.a64_code.specs.declared.instr.A64.TheVariants as words
use Rattle.a64_table.specs.State.{xregs, AState, value}
use Rattle.a64_table.specs.Values.{low, shifted}
use Rattle.a64_table.specs.Rows.{jumps}
use Rattle.a64_table.specs.Machine.{AThread, a64_take, a64_step}
use Rattle.a64_table.proofs.CallerLemmas.{instr_at, StandAt}
use Rattle.a64_block.specs.Breaks.{break_of}
use Rattle.a64_block.specs.Blocks.{read_by_end, a64_end}
use Rattle.a64_block.specs.declared.block.AEnd.{AEnd}
use Rattle.a64_block.specs.declared.block.AEnd.TheVariants as ends
use Rattle.a64_block.specs.declared.block.ABlock.{ABlock}
use Rattle.code_layout.specs.Places.{words_before, IsBegun}
use Rattle.code_layout.specs.Carried.{ArrivesAt}
use Rattle.code_layout.specs.Conditions.{LeadsToBlocks}
use Rattle.code_layout.specs.Search.{Search, Nowhere, Leaf, Fork, finds, search_size, depth, Fits}
use Rattle.code_layout.specs.Code.{x, jump, return_words, end_words}
use Rattle.code_layout.proofs.Comes.{Comes, comes_last, comes_wider}
use Rattle.code_layout.proofs.Moves.{moved_on, moved_next, thread, comes_on, comes_jump, jumps_on}
use Rattle.code_layout.proofs.Searches.{IsLookedUp, search_comes}

-- where a state goes from a block's end
abbrev pub end_next : Exits → AEnd XReg → AState → Next (Arrived AState)
end_next exits (ends.Goto a) s = arrives s (Goes a)
end_next exits (ends.Branch r a b) s = arrives s (Goes (if read_by_end xregs s r == 0 then b else a))
end_next exits (ends.Return r) s = arrives s (resolved exits (ToReturn (read_by_end xregs s r)))
end_next exits (ends.Indexed r table) s = arrives s (resolved exits (ToEntry table (read_by_end xregs s r)))
end_next exits (ends.Stop kind) s = Stops (Trap kind)

pub end_gives : (exits : Exits) (fin : AEnd XReg) (s : AState) → (a64_end xregs fin s then lands exits) ≡ Gives (end_next exits fin s)
end_gives exits (ends.Goto a) s = refl
end_gives exits (ends.Branch r a b) s = refl
end_gives exits (ends.Return r) s = refl
end_gives exits (ends.Indexed r table) s = refl
end_gives exits (ends.Stop kind) s = refl

-- a copy through ORR with the zero register
copied : (v : ℕ) → low true (bit_or 0 (shifted true 0 0 v)) ≡ v % 2 ^ 64
copied v =
    let whole : shifted true 0 0 v ≡ v % 2 ^ 64 = omega arith in
    ap (λ u. low true (bit_or 0 u)) whole ∙ ap (low true) (or_zero_l (v % 2 ^ 64)) ∙ omega arith

-- some word of the tree is executed
depth_some : (t : Search) → 1 ≤ depth t
depth_some Nowhere = omega arith
depth_some (Leaf site) = omega arith
depth_some (Fork site below above) = omega arith

-- What is known of the words of a program: where its returns stand, and that all of it stands at low addresses.
pub record AreReturns (first : ℕ) (code : List ℕ) (blocks : List (ABlock XReg)) (exits : Exits) (returns : ℕ) (t : Search) : Type 0 where
  pub stand : StandAt first code (first + 4 * returns) (return_words (words_before blocks) returns t)
  pub low : first + 4 * (returns + 2 + search_size t) < 2 ^ 63
  pub starts_low : (a : ℕ) → first + 4 * words_before blocks a < 2 ^ 63
  pub fits : Fits t
  pub is_site : (v : ℕ) → exits.is_site v ≡ finds t v
  pub known : (v : ℕ) → finds t v ≡ true → IsBegun blocks v

module _ (may : Permission) (first : ℕ) (code : List ℕ) (blocks : List (ABlock XReg)) (exits : Exits) (returns : ℕ) (t : Search) (are : AreReturns first code blocks exits returns t) where
  abbrev start : ℕ → ℕ
  start = words_before blocks

  abbrev Lands : Next (Arrived AState) → Next AThread → Type 0
  Lands a b = SameNext (ArrivesAt first blocks) a b

  -- the same registers but for the layout's own
  abbrev Keeps16 : AState → AState → Type 0
  Keeps16 s u = (n : ℕ) → n ≢ 16 → n ≢ 17 → n ≢ 31 → u.regs n ≡ s.regs n

  -- a return that was looked up
  found : (b : Bool) (v : ℕ) (s u : AState) → Keeps16 s u → finds t v ≡ b → (next : Next AThread) → IsLookedUp may first code start are.starts_low b v u next
      → Lands (arrives s (or_trap BadReturn (if b then Some v else None))) next
  found true v s u same has next (w, goes_to, at, others) =
      subst (λ n. Lands (arrives s (Goes v)) n) (sym goes_to) (both-go (record { known = are.known v has; at = at; same = λ n popped key zero. others n key zero ∙ same n popped key zero }))
  found false v s u same has next stops = subst (λ n. Lands (Stops (Trap BadReturn)) n) (sym stops) both-stop

  -- the words of the returns, from a return address in X16
  returns_come : (v : ℕ) (s u : AState) → u.regs 16 ≡ v → v < 2 ^ 64 → Keeps16 s u → (b : Bool) → (v == 0) ≡ b
      → Comes (a64_step may first code) (1 + depth t) (thread may first code (first + 4 * returns) u) (Lands (arrives s (resolved exits (ToReturn v))))
  returns_come v s u held small same true none =
      let room = are.low in
      let here : first + 4 * returns + 4 < 2 ^ 63 = omega (arith, room) in
      let test : not (low true (u.regs 16) == 0) ≡ false = ap (λ k. not (k == 0)) (ap (low true) held ∙ small_low v small) ∙ ap not none in
      comes_wider (a64_step may first code) (1 + depth t) (thread may first code (first + 4 * returns) u) (omega (arith, depth_some t))
      (λ next there. subst (λ b. Lands (arrives s (if b then Stops Halted else or_trap BadReturn (if exits.is_site v then Some v else None))) next) (sym none) there)
      (comes_on may first code (words.Cbnz true (x 16) (pos 2)) (first + 4 * returns) (first + 4 * returns + 4) u (record { distance = pos 1; value = 0; nzcv = u.nzcv }) are.stand.0
      (ap (λ b. if b then jumps (pos 2) u.nzcv else jumps (pos 1) u.nzcv) test) (moved_next (first + 4 * returns) here)
      (comes_last (a64_step may first code) (thread may first code (first + 4 * returns + 4) u) (Stops Halted)
      (ap (λ o. a64_take may o (thread may first code (first + 4 * returns + 4) u)) are.stand.1.0) both-stop))
    where
      small_low : (v : ℕ) → v < 2 ^ 64 → low true v ≡ v
      small_low v small = omega (arith, small)
  returns_come v s u held small same false some =
      let room = are.low in
      let here : first + 4 * returns + 4 * 2 < 2 ^ 63 = omega (arith, room) in
      let there : first + 4 * returns + 4 * 2 ≡ first + 4 * returns + 4 + 4 = omega arith in
      let test : not (low true (u.regs 16) == 0) ≡ true = ap (λ k. not (k == 0)) (ap (low true) held ∙ small_low v small) ∙ ap not some in
      comes_wider (a64_step may first code) (1 + depth t) (thread may first code (first + 4 * returns) u) (omega arith)
      (λ next looked. subst (λ b. Lands (arrives s (if b then Stops Halted else or_trap BadReturn (if exits.is_site v then Some v else None))) next) (sym some)
      (subst (λ b. Lands (arrives s (or_trap BadReturn (if b then Some v else None))) next) (sym (are.is_site v))
      (found (finds t v) v s u same refl next (subst (λ k. IsLookedUp may first code start are.starts_low (finds t k) k u next) held looked))))
      (comes_on may first code (words.Cbnz true (x 16) (pos 2)) (first + 4 * returns) (first + 4 * returns + 4 + 4) u (record { distance = pos 2; value = 0; nzcv = u.nzcv }) are.stand.0
      (ap (λ b. if b then jumps (pos 2) u.nzcv else jumps (pos 1) u.nzcv) test) (moved_on (first + 4 * returns) 2 here ∙ there)
      (search_comes may first code start are.starts_low t (returns + 2) (first + 4 * returns + 4 + 4) u (omega arith) are.fits (subst (λ k. k < 2 ^ 64) (sym held) small)
      (omega (arith, room)) are.stand.1.1))
    where
      small_low : (v : ℕ) → v < 2 ^ 64 → low true v ≡ v
      small_low v small = omega (arith, small)

  -- a jump to a block
  block_come : (a n at : ℕ) (s : AState) → at ≡ first + 4 * n → at < 2 ^ 63 → IsBegun blocks a → instr_at first code at ≡ Some (jump n (start a))
      → Comes (a64_step may first code) 1 (thread may first code at s) (Lands (arrives s (Goes a)))
  block_come a n at s place room known here =
      comes_jump may first code n at (start a) s place room (are.starts_low a) here (both-go (record { known = known; at = refl; same = λ k popped key zero. refl }))

  -- a branch, by whether its register is zero
  branch_comes : (r : XReg) (a b n at : ℕ) (s : AState) (zero : Bool) → (read_by_end xregs s r == 0) ≡ zero → at ≡ first + 4 * n → at + 12 < 2 ^ 63 → IsBegun blocks a → IsBegun blocks b
      → StandAt first code at (end_words start returns n (ends.Branch r a b))
      → Comes (a64_step may first code) 2 (thread may first code at s) (Lands (arrives s (Goes (if zero then b else a))))
  branch_comes r a b n at s true test place room known_a known_b stand =
      let there : at + 4 * 2 ≡ at + 4 + 4 = omega arith in
      comes_on may first code (words.Cbz true r (pos 2)) at (at + 4 + 4) s (record { distance = pos 2; value = 0; nzcv = s.nzcv }) stand.0
      (ap (λ b. if b then jumps (pos 2) s.nzcv else jumps (pos 1) s.nzcv) test) (moved_on at 2 (omega (arith, room)) ∙ there)
      (block_come b (n + 2) (at + 4 + 4) s (omega (arith, place)) (omega (arith, room)) known_b stand.1.1.0)
  branch_comes r a b n at s false test place room known_a known_b stand =
      comes_on may first code (words.Cbz true r (pos 2)) at (at + 4) s (record { distance = pos 1; value = 0; nzcv = s.nzcv }) stand.0
      (ap (λ b. if b then jumps (pos 2) s.nzcv else jumps (pos 1) s.nzcv) test) (moved_next at (omega (arith, room)))
      (block_come a (n + 1) (at + 4) s (omega (arith, place)) (omega (arith, room)) known_a stand.1.0)

  return_comes : (r : XReg) (n at : ℕ) (s : AState) → at ≡ first + 4 * n → at + 8 < 2 ^ 63 → StandAt first code at (end_words start returns n (ends.Return r))
      → Comes (a64_step may first code) (3 + depth t) (thread may first code at s) (Lands (end_next exits (ends.Return r) s))
  return_comes r n at s place room stand =
      let copy = low true (bit_or 0 (shifted true 0 0 (value xregs s r))) in
      let v = read_by_end xregs s r in
      let u : AState = record { regs = put 16 copy s.regs; nzcv = s.nzcv } in
      let low_first = are.low in
      comes_wider (a64_step may first code) (3 + depth t) (thread may first code at s) (omega arith) (λ next there. there)
      (comes_on may first code (words.Orr true (x 16) (x 31) r 0 0) at (at + 4) s (record { distance = pos 1; value = copy; nzcv = s.nzcv }) stand.0 refl (moved_next at (omega (arith, room)))
      (jumps_on may first code (n + 1) (at + 4) returns u (omega (arith, place)) (omega (arith, room)) (omega (arith, low_first)) stand.1.0
      (returns_come v s u (copied (value xregs s r)) (omega arith) (λ k popped key zero. put_other 16 copy s.regs k popped) (v == 0) refl)))

  -- the break of a trap
  stop_comes : (kind : TrapKind) (at : ℕ) (s : AState) → kind ≢ BadAccess → instr_at first code at ≡ Some (words.Brk (break_of kind))
      → Comes (a64_step may first code) 1 (thread may first code at s) (Lands (Stops (Trap kind)))
  stop_comes Divide at s other here = comes_last (a64_step may first code) (thread may first code at s) (Stops (Trap Divide)) (ap (λ o. a64_take may o (thread may first code at s)) here) both-stop
  stop_comes Invalid at s other here = comes_last (a64_step may first code) (thread may first code at s) (Stops (Trap Invalid)) (ap (λ o. a64_take may o (thread may first code at s)) here) both-stop
  stop_comes BadReturn at s other here = comes_last (a64_step may first code) (thread may first code at s) (Stops (Trap BadReturn))
      (ap (λ o. a64_take may o (thread may first code at s)) here) both-stop
  stop_comes BadJump at s other here = comes_last (a64_step may first code) (thread may first code at s) (Stops (Trap BadJump)) (ap (λ o. a64_take may o (thread may first code at s)) here) both-stop
  stop_comes BadAccess at s other here = absurd (other refl)

  -- each end
  pub end_comes : (fin : AEnd XReg) (n at : ℕ) (s : AState) → at ≡ first + 4 * n → at + 12 < 2 ^ 63 → LeadsToBlocks blocks fin → StandAt first code at (end_words start returns n fin)
      → Comes (a64_step may first code) (3 + depth t) (thread may first code at s) (Lands (end_next exits fin s))
  end_comes (ends.Goto a) n at s place room leads stand =
      comes_wider (a64_step may first code) (3 + depth t) (thread may first code at s) (omega arith) (λ next there. there) (block_come a n at s place (omega (arith, room)) leads stand.0)
  end_comes (ends.Branch r a b) n at s place room leads stand =
      comes_wider (a64_step may first code) (3 + depth t) (thread may first code at s) (omega arith) (λ next there. there)
      (branch_comes r a b n at s (read_by_end xregs s r == 0) refl place room leads.0 leads.1 stand)
  end_comes (ends.Return r) n at s place room leads stand = return_comes r n at s place (omega (arith, room)) stand
  end_comes (ends.Indexed r table) n at s place room leads stand = absurd leads
  end_comes (ends.Stop kind) n at s place room leads stand =
      comes_wider (a64_step may first code) (3 + depth t) (thread may first code at s) (omega arith) (λ next there. there) (stop_comes kind at s leads stand.0)
