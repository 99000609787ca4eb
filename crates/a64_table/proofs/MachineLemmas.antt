-- Words in two parts, and the machine that takes the words of a code segment one behind the other.
use Rattle.std.proofs.Common.{◌≡◌, ℕ, Bool, not, zero, suc, ◌+◌, ◌-◌, ◌*◌, ◌/◌, ◌%◌, ◌^◌, ◌<◌, ◌==◌, ◌&&◌, true, false, List, [], ◌∷◌, ◌++◌, map, length, Option, Some, None, refl, sym, ap, ◌∙◌, subst, arith, append_assoc, length-append}
use mathlib.Core.Path.{fun_ext}
use Rattle.std.specs.Prelude.{if◌then◌else◌, nat_le, slice_get, ℤ, pos}
use Rattle.std.specs.Option.{option_and_then}
use Rattle.std.specs.List.{AllByRecursion}
use Rattle.std.proofs.lemmas.Bool.Decides.{nat_tests}
use Rattle.ev_graph.specs.declared.events.TrapKind.TheVariants.{BadAccess, Divide, Invalid, BadReturn, BadJump}
use Rattle.ev_graph.specs.declared.events.End.TheVariants.{Halted}
use Rattle.ev_graph.specs.declared.events.AccessKind.TheVariants.{Read, Write}
use Rattle.behavior.specs.Tree.{Tree, Gives, Begins, Acts, Next, Goes, Stops, ◌then◌}
use Rattle.behavior.specs.Acts.{Permission, goes, traps, access, makes, locked_write, exchanges, takes_in, puts_out}
use Rattle.behavior.proofs.Paths.{then-assoc}
use Rattle.behavior.proofs.Blocks.{Unfolds, block-ends, block-goes, block-begins}
use Rattle.a64_code.specs.declared.instr.XReg.{XReg}
use Rattle.a64_code.specs.declared.instr.A64.{A64}
use Rattle.a64_code.specs.declared.instr.A64.TheVariants.{Subs, B, BCond, Cbz, Cbnz, Ldr, Str, Cas, Swp, Ldadd, Ldclr, Ldeor, Ldset, DmbFull, DmbLd, DmbSt, Brk, Svc}
use Rattle.a64_code.specs.Ranges.{IsEncodable}
use Rattle.a64_code.specs.Words.{word_of}
use Rattle.a64_code.specs.Decoding.{a64_of}
use Rattle.a64_code.proofs.WordLemmas.{a64_of-word_of}
use Rattle.a64_table.specs.declared.state.Nzcv.{Nzcv}
use Rattle.a64_table.specs.declared.state.Done.{Done}
use Rattle.a64_table.specs.State.{Names, xregs, AState, value, after, moved}
use Rattle.a64_table.specs.Values.{low, holds, a64_value}
use Rattle.a64_table.specs.Rows.{gets, jumps, branches, computes_or, a64_written, a64_act, a64_row, a64_result, ahead, GoesForward, IsForward, a64_words}
use Rattle.a64_table.specs.Machine.{AThread, word_at, a64_take, a64_step}
use Rattle.behavior.proofs.Unfolding.{AllResults, results_choice, unfolds_then}

-- words, and then more words
pub words-append : {R : Type 0} (names : Names R) (may : Permission) (ws vs : List (A64 R)) (at skip : ℕ) (s : AState)
    → a64_words names may at (ws ++ vs) skip s ≡ (a64_words names may at ws skip s then (λ r. a64_words names may (at + 4 * length ws) vs r.0 r.1))
words-append names may [] vs at skip s = let e : at + 4 * 0 ≡ at = omega arith in ap (λ a. a64_words names may a vs skip s) (sym e)
words-append names may (w ∷ ws) vs at (suc skip) s =
    let e : at + 4 + 4 * length ws ≡ at + 4 * length (w ∷ ws) = omega arith in
    words-append names may ws vs (at + 4) skip s ∙ ap (λ a. a64_words names may (at + 4) ws skip s then (λ r. a64_words names may a vs r.0 r.1)) e
words-append names may (w ∷ ws) vs at zero s =
    let e : at + 4 + 4 * length ws ≡ at + 4 * length (w ∷ ws) = omega arith in
    let row = Begins (a64_row names may at w (value names s) s.nzcv) in
    let on : Done → Tree (Next (ℕ × AState)) = λ d. a64_words names may (at + 4) ws (ahead d.distance) (after names (a64_result names w) d s) in
    ap (λ f. row then f) (fun_ext (λ d. words-append names may ws vs (at + 4) (ahead d.distance) (after names (a64_result names w) d s)
    ∙ ap (λ a. a64_words names may (at + 4) ws (ahead d.distance) (after names (a64_result names w) d s) then (λ r. a64_words names may a vs r.0 r.1)) e))
    ∙ sym (then-assoc row on (λ r. a64_words names may (at + 4 * length (w ∷ ws)) vs r.0 r.1))

-- the instruction that the code has at an address
abbrev pub instr_at : (first : ℕ) → List ℕ → ℕ → Option (A64 XReg)
instr_at first words at = option_and_then a64_of (word_at first words at)

-- the instructions stand one behind the other in the code, from an address on
abbrev pub StandAt : (first : ℕ) → List ℕ → (at : ℕ) → List (A64 XReg) → Type 0
StandAt first words at [] = Unit {0}
StandAt first words at (w ∷ ws) = (instr_at first words at ≡ Some w) × StandAt first words (at + 4) ws

abbrev DoneForward : Done → Type 0
DoneForward d = GoesForward d.distance

next_word : GoesForward (pos 1)
next_word = (0, refl, omega arith)

-- a branch that goes forward
branch_forward : (taken : Bool) (distance : ℤ) (f : Nzcv) → GoesForward distance → AllResults DoneForward (branches taken distance f)
branch_forward taken distance f forward = results_choice DoneForward taken (jumps distance f) (jumps (pos 1) f) forward next_word

-- an exchange goes on to the next word
exchange_forward : (may : Permission) (place address size : ℕ) (new : ℕ → Option ℕ) (f : Nzcv)
    → AllResults DoneForward (exchanges may place address size new (λ old. gets old f))
exchange_forward may place address size new f =
    results_choice DoneForward (may false address size && may true address size)
    (Acts (256 ^ size) (λ v. access Read true place address size v ∷ locked_write place address size (new v)) (λ v. gets v f)) (traps BadAccess) (λ v lt. next_word) tt

act_forward : (may : Permission) (place : ℕ) (w : A64 XReg) (r : XReg → ℕ) (f : Nzcv) → IsForward w → AllResults DoneForward (a64_act xregs may place w r f)
act_forward may place (Subs x d n m kind amount) r f forward = next_word
act_forward may place (B distance) r f forward = forward
act_forward may place (BCond code distance) r f forward = branch_forward (holds code f) distance f forward
act_forward may place (Cbz x t distance) r f forward = branch_forward (low x (r t) == 0) distance f forward
act_forward may place (Cbnz x t distance) r f forward = branch_forward (not (low x (r t) == 0)) distance f forward
act_forward may place (Ldr size t n number) r f forward =
    results_choice DoneForward (may false ((r n + number * size) % 2 ^ 64) size)
    (Acts (256 ^ size) (λ v. access Read false place ((r n + number * size) % 2 ^ 64) size v ∷ []) (λ v. gets v f)) (traps BadAccess) (λ v lt. next_word) tt
act_forward may place (Str size t n number) r f forward =
    results_choice DoneForward (may true ((r n + number * size) % 2 ^ 64) size)
    (makes (access Write false place ((r n + number * size) % 2 ^ 64) size (r t % 256 ^ size)) (gets 0 f)) (traps BadAccess) (λ v lt. next_word) tt
act_forward may place (Cas size s t n) r f forward = exchange_forward may place (r n) size (a64_written (Cas size s t n) r) f
act_forward may place (Swp size s t n) r f forward = exchange_forward may place (r n) size (a64_written (Swp size s t n) r) f
act_forward may place (Ldadd size s t n) r f forward = exchange_forward may place (r n) size (a64_written (Ldadd size s t n) r) f
act_forward may place (Ldclr size s t n) r f forward = exchange_forward may place (r n) size (a64_written (Ldclr size s t n) r) f
act_forward may place (Ldeor size s t n) r f forward = exchange_forward may place (r n) size (a64_written (Ldeor size s t n) r) f
act_forward may place (Ldset size s t n) r f forward = exchange_forward may place (r n) size (a64_written (Ldset size s t n) r) f
act_forward may place DmbFull r f forward = λ v lt. next_word
act_forward may place DmbLd r f forward = λ v lt. next_word
act_forward may place DmbSt r f forward = λ v lt. next_word
act_forward may place (Brk number) r f forward =
    results_choice DoneForward (number == 1) (traps Divide) (if number == 2 then traps Invalid else (if number == 3 then traps BadReturn else traps BadJump)) tt
    (results_choice DoneForward (number == 2) (traps Invalid) (if number == 3 then traps BadReturn else traps BadJump) tt
    (results_choice DoneForward (number == 3) (traps BadReturn) (traps BadJump) tt tt))
act_forward may place (Svc number) r f forward =
    let x7 = r (record { number = 7 }) in
    results_choice DoneForward (number == 1) (takes_in place (λ v. gets v f)) (if number == 2 then puts_out place x7 (gets 0 f) else (if number == 3 then Gives (Stops Halted) else traps BadJump)) (λ v lt. next_word)
    (results_choice DoneForward (number == 2) (puts_out place x7 (gets 0 f)) (if number == 3 then Gives (Stops Halted) else traps BadJump) (λ v lt. next_word)
    (results_choice DoneForward (number == 3) (Gives (Stops Halted)) (traps BadJump) tt tt))
act_forward may place w r f forward = next_word

computed_forward : (computed : Option ℕ) (f : Nzcv) (act : Tree (Next Done)) → AllResults DoneForward act → AllResults DoneForward (computes_or computed f act)
computed_forward (Some v) f act forward = next_word
computed_forward None f act forward = forward

row_forward : (may : Permission) (place : ℕ) (w : A64 XReg) (s : AState) → IsForward w → AllResults DoneForward (a64_row xregs may place w (value xregs s) s.nzcv)
row_forward may place w s forward =
    computed_forward (a64_value w (value xregs s) s.nzcv) s.nzcv (a64_act xregs may place w (value xregs s) s.nzcv) (act_forward may place w (value xregs s) s.nzcv forward)

-- where a distance forward leads, in low addresses
moved_forward : (at : ℕ) (distance : ℤ) → at < 2 ^ 63 → GoesForward distance → moved at distance ≡ at + 4 + 4 * ahead distance
moved_forward at distance low (k, is, few) =
    let there : moved at (pos (suc k)) ≡ at + 4 + 4 * k = omega (arith, low, few) in
    let skipped : ahead (pos (suc k)) ≡ k = omega arith in
    ap (moved at) is ∙ there ∙ ap (λ j. at + 4 + 4 * j) (sym skipped ∙ ap ahead (sym is))

-- where the words have led, behind the last
abbrev pub lands : (end : ℕ) → ℕ × AState → Tree (Next AThread)
lands end r = goes (record { at = end + 4 * r.0; state = r.1 })

-- where the machine stands, with so many words left out
abbrev standing : (at skip : ℕ) → AState → AThread
standing at skip s = record { at = at + 4 * skip; state = s }

module _ (may : Permission) (first : ℕ) (words : List ℕ) where
  word_unfolds : (w : A64 XReg) (ws : List (A64 XReg)) (at end : ℕ) (s : AState) → at < 2 ^ 63 → IsForward w → instr_at first words at ≡ Some w
      → ((skip : ℕ) (t : AState) → Unfolds (a64_step may first words) (Gives (Goes (standing (at + 4) skip t))) (a64_words xregs may (at + 4) ws skip t then lands end))
      → Unfolds (a64_step may first words) (a64_step may first words (record { at = at; state = s })) (a64_words xregs may at (w ∷ ws) 0 s then lands end)
  word_unfolds w ws at end s low forward here later =
      let row = a64_row xregs may at w (value xregs s) s.nzcv in
      let goes_to : Done → Tree (Next AThread) = λ d. goes (record { at = moved at d.distance; state = after xregs (a64_result xregs w) d s }) in
      let on : Done → Tree (Next (ℕ × AState)) = λ d. a64_words xregs may (at + 4) ws (ahead d.distance) (after xregs (a64_result xregs w) d s) in
      let whole = unfolds_then (a64_step may first words) DoneForward row goes_to (λ d. on d then lands end) (row_forward may at w s forward)
      (λ d far. subst (λ a. Unfolds (a64_step may first words) (Gives (Goes (record { at = a; state = after xregs (a64_result xregs w) d s }))) (on d then lands end)) (sym (moved_forward at d.distance low far))
      (later (ahead d.distance) (after xregs (a64_result xregs w) d s))) in
      subst (λ o. Unfolds (a64_step may first words) (a64_take may o (record { at = at; state = s })) (a64_words xregs may at (w ∷ ws) 0 s then lands end)) (sym here)
      (subst (λ t. Unfolds (a64_step may first words) (a64_take may (Some w) (record { at = at; state = s })) t) (sym (then-assoc (Begins row) on (lands end))) (block-begins whole))

  -- what is left of the words from an address on, of which some are left out
  words_rest : (ws : List (A64 XReg)) (at end : ℕ) → at + 4 * length ws ≡ end → end < 2 ^ 63 → AllByRecursion IsForward ws → StandAt first words at ws → (skip : ℕ) (s : AState)
      → Unfolds (a64_step may first words) (Gives (Goes (standing at skip s))) (a64_words xregs may at ws skip s then lands end)
  words_rest [] at end long low forward stands skip s =
      let same : at + 4 * skip ≡ end + 4 * skip = omega (arith, long) in
      subst (λ a. Unfolds (a64_step may first words) (Gives (Goes (standing at skip s))) (goes (record { at = a; state = s }))) same block-ends
  words_rest (w ∷ ws) at end long low forward stands (suc skip) s =
      let same : at + 4 + 4 * skip ≡ at + 4 * suc skip = omega arith in
      subst (λ a. Unfolds (a64_step may first words) (Gives (Goes (record { at = a; state = s }))) (a64_words xregs may (at + 4) ws skip s then lands end)) same
      (words_rest ws (at + 4) end (omega (arith, long)) low forward.1 stands.1 skip s)
  words_rest (w ∷ ws) at end long low forward stands zero s =
      let same : at ≡ at + 4 * 0 = omega arith in
      subst (λ a. Unfolds (a64_step may first words) (Gives (Goes (record { at = a; state = s }))) (a64_words xregs may at (w ∷ ws) 0 s then lands end)) same
      (block-goes (word_unfolds w ws at end s (omega (arith, long, low)) forward.0 stands.0 (λ skip t. words_rest ws (at + 4) end (omega (arith, long)) low forward.1 stands.1 skip t)))

  -- from the first of some words on the machine takes them all
  pub words_unfold : (w : A64 XReg) (ws : List (A64 XReg)) (at end : ℕ) → at + 4 * length (w ∷ ws) ≡ end → end < 2 ^ 63 → AllByRecursion IsForward (w ∷ ws) → StandAt first words at (w ∷ ws) → (s : AState)
      → Unfolds (a64_step may first words) (a64_step may first words (record { at = at; state = s })) (a64_words xregs may at (w ∷ ws) 0 s then lands end)
  words_unfold w ws at end long low forward stands s =
      word_unfolds w ws at end s (omega (arith, long, low)) forward.0 stands.0 (λ skip t. words_rest ws (at + 4) end (omega (arith, long)) low forward.1 stands.1 skip t)

-- ---- the words of instructions in range stand where they are laid

get_middle : (pre : List ℕ) (v : ℕ) (post : List ℕ) → slice_get (pre ++ v ∷ post) (length pre) ≡ Some v
get_middle [] v post = refl
get_middle (u ∷ pre) v post = get_middle pre v post

word_middle : (first : ℕ) (pre : List ℕ) (v : ℕ) (post : List ℕ) → word_at first (pre ++ v ∷ post) (first + 4 * length pre) ≡ Some v
word_middle first pre v post =
    let at = first + 4 * length pre in
    let inside : (nat_le first at && (at - first) % 4 == 0) ≡ true = grind (arith, nat_tests) in
    let index : (at - first) / 4 ≡ length pre = omega arith in
    ap (λ b. if b then slice_get (pre ++ v ∷ post) ((at - first) / 4) else None) inside ∙ ap (slice_get (pre ++ v ∷ post)) index ∙ get_middle pre v post

-- they stand where they are laid, behind some words and before others
pub words_stand : (first : ℕ) (pre : List ℕ) (ws : List (A64 XReg)) (post : List ℕ) → AllByRecursion IsEncodable ws → StandAt first (pre ++ (map word_of ws ++ post)) (first + 4 * length pre) ws
words_stand first pre [] post range = tt
words_stand first pre (w ∷ ws) post range =
    let all = pre ++ (map word_of (w ∷ ws) ++ post) in
    let here : instr_at first all (first + 4 * length pre) ≡ Some w =
    ap (option_and_then a64_of) (word_middle first pre (word_of w) (map word_of ws ++ post)) ∙ a64_of-word_of w range.0 in
    let next : first + 4 * length (pre ++ word_of w ∷ []) ≡ first + 4 * length pre + 4 = omega (arith, length-append pre (word_of w ∷ [])) in
    let rest = words_stand first (pre ++ word_of w ∷ []) ws post range.1 in
    let same : (pre ++ word_of w ∷ []) ++ (map word_of ws ++ post) ≡ all = append_assoc pre (word_of w ∷ []) (map word_of ws ++ post) in
    (here, subst (λ a. StandAt first all a ws) next (subst (λ l. StandAt first l (first + 4 * length (pre ++ word_of w ∷ [])) ws) same rest))
