-- The words of a tree of sites go to the site that X16 holds, or end by BadReturn.
use Rattle.std.proofs.Common.{◌≡◌, ℕ, ◌+◌, ◌*◌, ◌^◌, ◌<◌, ◌==◌, Bool, true, false, not, List, [], ◌∷◌, ◌++◌, length, Some, refl, sym, ap, ◌∙◌, subst, arith, length-append}
use Rattle.std.specs.Prelude.{if◌then◌else◌, nat_lt, pos, max}
use Rattle.std.proofs.lemmas.Bool.{eqb-true}
use Rattle.ev_graph.specs.declared.events.End.TheVariants.{Trap}
use Rattle.ev_graph.specs.declared.events.TrapKind.TheVariants.{BadReturn}
use Rattle.behavior.specs.Tree.{Next, Goes, Stops}
use Rattle.behavior.specs.Acts.{Permission}
use Rattle.a64_code.specs.declared.instr.XReg.{XReg}
use Rattle.a64_code.specs.declared.instr.A64.{A64}
use Rattle.a64_code.specs.declared.instr.A64.TheVariants as words
use Rattle.a64_table.specs.State.{AState}
use Rattle.a64_table.specs.Values.{holds}
use Rattle.a64_table.specs.Rows.{jumps}
use Rattle.a64_table.specs.Machine.{AThread, a64_take, a64_step}
use Rattle.a64_table.proofs.CallerLemmas.{instr_at, StandAt}
use Rattle.a64_block.specs.Breaks.{break_of}
use Rattle.code_layout.specs.Search.{Search, Nowhere, Leaf, Fork, finds, search_size, depth, Fits}
use Rattle.code_layout.specs.Code.{not_equal, lower, jump, search_words}
use Rattle.code_layout.proofs.Comes.{Comes, comes_last, comes_wider}
use Rattle.code_layout.proofs.Moves.{Others, others_on, moved_on, moved_next, thread, comes_on, comes_jump, jumps_on, compare_on}

-- the parts of words that stand stand
pub stand_first : (first : ℕ) (code : List ℕ) (at : ℕ) (ws vs : List (A64 XReg)) → StandAt first code at (ws ++ vs) → StandAt first code at ws
stand_first first code at [] vs stand = tt
stand_first first code at (w ∷ ws) vs stand = (stand.0, stand_first first code (at + 4) ws vs stand.1)

pub stand_second : (first : ℕ) (code : List ℕ) (at : ℕ) (ws vs : List (A64 XReg)) → StandAt first code at (ws ++ vs) → StandAt first code (at + 4 * length ws) vs
stand_second first code at [] vs stand = let e : at ≡ at + 4 * 0 = omega arith in subst (λ a. StandAt first code a vs) e stand
stand_second first code at (w ∷ ws) vs stand =
    let e : at + 4 + 4 * length ws ≡ at + 4 * length (w ∷ ws) = omega arith in
    subst (λ a. StandAt first code a vs) e (stand_second first code (at + 4) ws vs stand.1)

-- as many words as the tree takes
pub length-search_words : (start : ℕ → ℕ) (at : ℕ) (t : Search) → length (search_words start at t) ≡ search_size t
length-search_words start at Nowhere = refl
length-search_words start at (Leaf site) = refl
length-search_words start at (Fork site below above) =
    let one = length-search_words start (at + 7) below in
    let two = length-search_words start (at + 7 + search_size below) above in
    let all : length (search_words start (at + 7) below ++ search_words start (at + 7 + search_size below) above) ≡ search_size below + search_size above =
    length-append (search_words start (at + 7) below) (search_words start (at + 7 + search_size below) above) ∙ ap (λ n. n + length (search_words start (at + 7 + search_size below) above)) one
    ∙ ap (λ n. search_size below + n) two in
    omega (arith, all)

module _ (may : Permission) (first : ℕ) (code : List ℕ) (start : ℕ → ℕ) (low : (a : ℕ) → first + 4 * start a < 2 ^ 63) where
  -- where a thread comes to that looks an address up, with nothing changed but X17; or how it ends
  abbrev pub IsLookedUp : Bool → (address : ℕ) → AState → Next AThread → Type 0
  IsLookedUp true address s next = (t : AThread) × (next ≡ Goes t) × (t.at ≡ first + 4 * start address) × Others s t.state
  IsLookedUp false address s next = next ≡ Stops (Trap BadReturn)

  looked_from : (b : Bool) (address : ℕ) (s u : AState) → Others s u → (next : Next AThread) → IsLookedUp b address u next → IsLookedUp b address s next
  looked_from true address s u others next (t, goes_to, at, same) = (t, goes_to, at, others_on s u t.state others same)
  looked_from false address s u others next stops = stops

  -- the break of a return that is none
  missed : (b : Bool) (address at : ℕ) (s : AState) → b ≡ false → instr_at first code at ≡ Some (words.Brk (break_of BadReturn))
      → Comes (a64_step may first code) 1 (thread may first code at s) (IsLookedUp b address s)
  missed b address at s none here = comes_last (a64_step may first code) (thread may first code at s) (Stops (Trap BadReturn)) (ap (λ o. a64_take may o (thread may first code at s)) here)
      (subst (λ p. IsLookedUp p address s (Stops (Trap BadReturn))) (sym none) refl)

  -- a conditional branch over one word, taken or not
  pub branch_taken : {P : Next AThread → Type 0} {most : ℕ} (condition at : ℕ) (s : AState) → at + 8 < 2 ^ 63 → holds condition s.nzcv ≡ true
      → instr_at first code at ≡ Some (words.BCond condition (pos 2))
      → Comes (a64_step may first code) most (thread may first code (at + 4 + 4) s) P → Comes (a64_step may first code) (1 + most) (thread may first code at s) P
  branch_taken condition at s room test here later =
      let there : at + 4 * 2 ≡ at + 4 + 4 = omega arith in
      comes_on may first code (words.BCond condition (pos 2)) at (at + 4 + 4) s (record { distance = pos 2; value = 0; nzcv = s.nzcv }) here
      (ap (λ b. if b then jumps (pos 2) s.nzcv else jumps (pos 1) s.nzcv) test) (moved_on at 2 (omega (arith, room)) ∙ there) later

  pub branch_passed : {P : Next AThread → Type 0} {most : ℕ} (condition at : ℕ) (s : AState) → at + 8 < 2 ^ 63 → holds condition s.nzcv ≡ false
      → instr_at first code at ≡ Some (words.BCond condition (pos 2))
      → Comes (a64_step may first code) most (thread may first code (at + 4) s) P → Comes (a64_step may first code) (1 + most) (thread may first code at s) P
  branch_passed condition at s room test here later =
      comes_on may first code (words.BCond condition (pos 2)) at (at + 4) s (record { distance = pos 1; value = 0; nzcv = s.nzcv }) here
      (ap (λ b. if b then jumps (pos 2) s.nzcv else jumps (pos 1) s.nzcv) test) (moved_next at (omega (arith, room))) later

  -- a leaf, by whether X16 is its site
  leaf_comes : (site address n at : ℕ) (s : AState) (b : Bool) → (address == site) ≡ b → at ≡ first + 4 * n → at + 12 < 2 ^ 63 → holds not_equal s.nzcv ≡ not b
      → StandAt first code at (words.BCond not_equal (pos 2) ∷ jump (n + 1) (start site) ∷ words.Brk (break_of BadReturn) ∷ [])
      → Comes (a64_step may first code) 2 (thread may first code at s) (IsLookedUp b address s)
  leaf_comes site address n at s true same place room test stand =
      let is = eqb-true address site same in
      branch_passed not_equal at s (omega (arith, room)) test stand.0
      (comes_jump may first code (n + 1) (at + 4) (start site) s (omega (arith, place)) (omega (arith, room)) (low site) stand.1.0
      (thread may first code (first + 4 * start site) s, refl, ap (λ a. first + 4 * start a) (sym is), λ k key zero. refl))
  leaf_comes site address n at s false same place room test stand =
      branch_taken not_equal at s (omega (arith, room)) test stand.0 (missed false address (at + 4 + 4) s refl stand.1.1.0)

  -- from the first of its words on a thread comes to where the tree says
  abbrev pub Searches : Search → Type 0
  Searches t = (n at : ℕ) (s : AState) → at ≡ first + 4 * n → Fits t → s.regs 16 < 2 ^ 64 → at + 4 * search_size t < 2 ^ 63 → StandAt first code at (search_words start n t)
      → Comes (a64_step may first code) (depth t) (thread may first code at s) (IsLookedUp (finds t (s.regs 16)) (s.regs 16) s)

  abbrev behind_compare : ℕ → ℕ
  behind_compare at = at + 4 + 4 + 4 + 4 + 4

  leaf_searches : (site : ℕ) → Searches (Leaf site)
  leaf_searches site n at s place fits small room stand =
      let v = s.regs 16 in
      compare_on may first code site at (words.BCond not_equal (pos 2) ∷ jump (n + 6) (start site) ∷ words.Brk (break_of BadReturn) ∷ []) s fits small (omega (arith, room)) stand
      (λ t others equal less rest.
      let spot : n + 6 ≡ n + 5 + 1 = omega arith in
      comes_wider (a64_step may first code) 2 (thread may first code (behind_compare at) t) (omega arith) (λ next there. looked_from (v == site) v s t others next there)
      (leaf_comes site v (n + 5) (behind_compare at) t (v == site) refl (omega (arith, place)) (omega (arith, room)) equal
      (subst (λ k. StandAt first code (behind_compare at) (words.BCond not_equal (pos 2) ∷ jump k (start site) ∷ words.Brk (break_of BadReturn) ∷ [])) spot rest)))

  -- behind the comparison of a fork
  fork_branches : (site : ℕ) (below above : Search) → Searches below → Searches above → (n at : ℕ) (s t : AState) → at ≡ first + 4 * n → Fits below → Fits above → s.regs 16 < 2 ^ 64
      → at + 4 * (7 + (search_size below + search_size above)) < 2 ^ 63 → Others s t → (b : Bool) → nat_lt (s.regs 16) site ≡ b → holds lower t.nzcv ≡ nat_lt (s.regs 16) site
      → StandAt first code (behind_compare at) (words.BCond lower (pos 2) ∷ jump (n + 6) (n + 7 + search_size below) ∷
      (search_words start (n + 7) below ++ search_words start (n + 7 + search_size below) above))
      → Comes (a64_step may first code) (2 + max (depth below) (depth above)) (thread may first code (behind_compare at) t)
      (IsLookedUp (if nat_lt (s.regs 16) site then finds below (s.regs 16) else finds above (s.regs 16)) (s.regs 16) s)
  fork_branches site below above to_below to_above n at s t place fits_below fits_above small room others true is less rest =
      let v = s.regs 16 in
      let same : t.regs 16 ≡ v = others 16 (λ e. absurd (omega (arith, e))) (λ e. absurd (omega (arith, e))) in
      let one = to_below (n + 7) (behind_compare at + 4 + 4) t (omega (arith, place)) fits_below (subst (λ k. k < 2 ^ 64) (sym same) small) (omega (arith, room))
      (stand_first first code (behind_compare at + 4 + 4) (search_words start (n + 7) below) (search_words start (n + 7 + search_size below) above) rest.1.1) in
      comes_wider (a64_step may first code) (2 + max (depth below) (depth above)) (thread may first code (behind_compare at) t) (omega arith)
      (λ next there. subst (λ b. IsLookedUp (if b then finds below v else finds above v) v s next) (sym is)
      (looked_from (finds below v) v s t others next (subst (λ k. IsLookedUp (finds below k) k t next) same there)))
      (branch_taken lower (behind_compare at) t (omega (arith, room)) (less ∙ is) rest.0 one)
  fork_branches site below above to_below to_above n at s t place fits_below fits_above small room others false is less rest =
      let v = s.regs 16 in
      let same : t.regs 16 ≡ v = others 16 (λ e. absurd (omega (arith, e))) (λ e. absurd (omega (arith, e))) in
      let long = length-search_words start (n + 7) below in
      let here : behind_compare at + 4 + 4 + 4 * length (search_words start (n + 7) below) ≡ first + 4 * (n + 7 + search_size below) = omega (arith, place, long) in
      let stands = subst (λ a. StandAt first code a (search_words start (n + 7 + search_size below) above)) here
      (stand_second first code (behind_compare at + 4 + 4) (search_words start (n + 7) below) (search_words start (n + 7 + search_size below) above) rest.1.1) in
      let one = to_above (n + 7 + search_size below) (first + 4 * (n + 7 + search_size below)) t refl fits_above (subst (λ k. k < 2 ^ 64) (sym same) small) (omega (arith, room, place)) stands in
      comes_wider (a64_step may first code) (2 + max (depth below) (depth above)) (thread may first code (behind_compare at) t) (omega arith)
      (λ next there. subst (λ b. IsLookedUp (if b then finds below v else finds above v) v s next) (sym is)
      (looked_from (finds above v) v s t others next (subst (λ k. IsLookedUp (finds above k) k t next) same there)))
      (branch_passed lower (behind_compare at) t (omega (arith, room)) (less ∙ is) rest.0
      (jumps_on may first code (n + 6) (behind_compare at + 4) (n + 7 + search_size below) t (omega (arith, place)) (omega (arith, room)) (omega (arith, room, place)) rest.1.0 one))

  fork_searches : (site : ℕ) (below above : Search) → Searches below → Searches above → Searches (Fork site below above)
  fork_searches site below above to_below to_above n at s place fits small room stand =
      comes_wider (a64_step may first code) (depth (Fork site below above)) (thread may first code at s) (omega arith) (λ next there. there)
      (compare_on may first code site at
      (words.BCond lower (pos 2) ∷ jump (n + 6) (n + 7 + search_size below) ∷ (search_words start (n + 7) below ++ search_words start (n + 7 + search_size below) above)) s fits.0 small
      (omega (arith, room)) stand
      (λ t others equal less rest. fork_branches site below above to_below to_above n at s t place fits.1 fits.2 small room others (nat_lt (s.regs 16) site) refl less rest))

  pub search_comes : (t : Search) → Searches t
  search_comes Nowhere n at s place fits small room stand = missed false (s.regs 16) at s refl stand.0
  search_comes (Leaf site) n at s place fits small room stand = leaf_searches site n at s place fits small room stand
  search_comes (Fork site below above) n at s place fits small room stand =
      fork_searches site below above (search_comes below) (search_comes above) n at s place fits small room stand
