-- How many words a row leaves out, and that a block whose branches stay within it leaves out none behind its last word.
use Rattle.std.proofs.Common.{◌≡◌, ℕ, zero, suc, ◌+◌, ◌%◌, ◌^◌, ◌≤◌, ◌==◌, ◌&&◌, ◌⊎◌, Bool, true, false, not, List, [], ◌∷◌, length, Option, Some, None, refl, inl, inr, arith}
use Rattle.std.specs.Prelude.{if◌then◌else◌, ◌*◌, ℤ, pos}
use Rattle.ev_graph.specs.declared.events.End.TheVariants.{Halted}
use Rattle.ev_graph.specs.declared.events.AccessKind.TheVariants.{Read, Write}
use Rattle.ev_graph.specs.declared.events.TrapKind.TheVariants.{BadAccess, Divide, Invalid, BadReturn, BadJump}
use Rattle.behavior.specs.Tree.{Tree, Gives, Begins, Acts, Next, Stops, ◌then◌}
use Rattle.behavior.specs.Acts.{Permission, traps, access, makes, locked_write, exchanges, takes_in, puts_out}
use Rattle.behavior.proofs.Results.{results_then}
use Rattle.behavior.proofs.Unfolding.{AllResults, results_choice}
use Rattle.a64_code.specs.declared.instr.A64.{A64}
use Rattle.a64_code.specs.declared.instr.A64.TheVariants.{Subs, B, BCond, Cbz, Cbnz, Ldr, Str, Cas, Swp, Ldadd, Ldclr, Ldeor, Ldset, DmbFull, DmbLd, DmbSt, Brk, Svc}
use Rattle.a64_table.specs.declared.state.Nzcv.{Nzcv}
use Rattle.a64_table.specs.declared.state.Done.{Done}
use Rattle.a64_table.specs.State.{Names, AState, value, after}
use Rattle.a64_table.specs.Values.{low, holds, a64_value}
use Rattle.a64_table.specs.Rows.{gets, jumps, branches, computes_or, a64_written, a64_act, a64_row, a64_result, ahead, a64_words}
use Rattle.a64_block.specs.Conditions.{a64_skip, StaysInside}

-- a row leaves out no word, or so many
abbrev pub SkipsBy : ℕ → Done → Type 0
SkipsBy skip d = (ahead d.distance ≡ 0) ⊎ (ahead d.distance ≡ skip)

branch_skips : (taken : Bool) (distance : ℤ) (f : Nzcv) → AllResults (SkipsBy (ahead distance)) (branches taken distance f)
branch_skips taken distance f = results_choice (SkipsBy (ahead distance)) taken (jumps distance f) (jumps (pos 1) f) (inr refl) (inl refl)

exchange_skips : (may : Permission) (place address size : ℕ) (new : ℕ → Option ℕ) (f : Nzcv) → AllResults (SkipsBy 0) (exchanges may place address size new (λ old. gets old f))
exchange_skips may place address size new f =
    results_choice (SkipsBy 0) (may false address size && may true address size)
    (Acts (256 ^ size) (λ v. access Read true place address size v ∷ locked_write place address size (new v)) (λ v. gets v f)) (traps BadAccess) (λ v lt. inl refl) tt

module _ {R : Type 0} (names : Names R) (may : Permission) (place : ℕ) where
  act_skips : (w : A64 R) (r : R → ℕ) (f : Nzcv) → AllResults (SkipsBy (a64_skip w)) (a64_act names may place w r f)
  act_skips (Subs x d n m kind amount) r f = inl refl
  act_skips (B distance) r f = inr refl
  act_skips (BCond code distance) r f = branch_skips (holds code f) distance f
  act_skips (Cbz x t distance) r f = branch_skips (low x (r t) == 0) distance f
  act_skips (Cbnz x t distance) r f = branch_skips (not (low x (r t) == 0)) distance f
  act_skips (Ldr size t n number) r f =
      results_choice (SkipsBy 0) (may false ((r n + number * size) % 2 ^ 64) size)
      (Acts (256 ^ size) (λ v. access Read false place ((r n + number * size) % 2 ^ 64) size v ∷ []) (λ v. gets v f)) (traps BadAccess) (λ v lt. inl refl) tt
  act_skips (Str size t n number) r f =
      results_choice (SkipsBy 0) (may true ((r n + number * size) % 2 ^ 64) size)
      (makes (access Write false place ((r n + number * size) % 2 ^ 64) size (r t % 256 ^ size)) (gets 0 f)) (traps BadAccess) (λ v lt. inl refl) tt
  act_skips (Cas size s t n) r f = exchange_skips may place (r n) size (a64_written (Cas size s t n) r) f
  act_skips (Swp size s t n) r f = exchange_skips may place (r n) size (a64_written (Swp size s t n) r) f
  act_skips (Ldadd size s t n) r f = exchange_skips may place (r n) size (a64_written (Ldadd size s t n) r) f
  act_skips (Ldclr size s t n) r f = exchange_skips may place (r n) size (a64_written (Ldclr size s t n) r) f
  act_skips (Ldeor size s t n) r f = exchange_skips may place (r n) size (a64_written (Ldeor size s t n) r) f
  act_skips (Ldset size s t n) r f = exchange_skips may place (r n) size (a64_written (Ldset size s t n) r) f
  act_skips DmbFull r f = λ v lt. inl refl
  act_skips DmbLd r f = λ v lt. inl refl
  act_skips DmbSt r f = λ v lt. inl refl
  act_skips (Brk number) r f =
      results_choice (SkipsBy 0) (number == 1) (traps Divide) (if number == 2 then traps Invalid else (if number == 3 then traps BadReturn else traps BadJump)) tt
      (results_choice (SkipsBy 0) (number == 2) (traps Invalid) (if number == 3 then traps BadReturn else traps BadJump) tt
      (results_choice (SkipsBy 0) (number == 3) (traps BadReturn) (traps BadJump) tt tt))
  act_skips (Svc number) r f =
      let x7 = r (names.register 7) in
      results_choice (SkipsBy 0) (number == 1) (takes_in place (λ v. gets v f)) (if number == 2 then puts_out place x7 (gets 0 f) else (if number == 3 then Gives (Stops Halted) else traps BadJump)) (λ v lt. inl refl)
      (results_choice (SkipsBy 0) (number == 2) (puts_out place x7 (gets 0 f)) (if number == 3 then Gives (Stops Halted) else traps BadJump) (λ v lt. inl refl)
      (results_choice (SkipsBy 0) (number == 3) (Gives (Stops Halted)) (traps BadJump) tt tt))
  act_skips w r f = inl refl

  computed_skips : (skip : ℕ) (computed : Option ℕ) (f : Nzcv) (act : Tree (Next Done)) → AllResults (SkipsBy skip) act → AllResults (SkipsBy skip) (computes_or computed f act)
  computed_skips skip (Some v) f act skips = inl refl
  computed_skips skip None f act skips = skips

  -- a row leaves out no word, or as many as its branch says
  pub row_skips : (w : A64 R) (r : R → ℕ) (f : Nzcv) → AllResults (SkipsBy (a64_skip w)) (a64_row names may place w r f)
  row_skips w r f = computed_skips (a64_skip w) (a64_value w r f) f (a64_act names may place w r f) (act_skips w r f)

-- nothing is left out behind the last word
abbrev pub IsWhole : ℕ × AState → Type 0
IsWhole r = r.0 ≡ 0

module _ {R : Type 0} (names : Names R) (may : Permission) where
  -- words whose branches stay within them leave out none behind the last
  pub words_whole : (ws : List (A64 R)) (at skip : ℕ) (s : AState) → StaysInside ws → skip ≤ length ws → AllResults IsWhole (a64_words names may at ws skip s)
  words_whole [] at skip s inside le = omega (arith, le)
  words_whole (w ∷ ws) at (suc skip) s inside le = words_whole ws (at + 4) skip s inside.1 (omega (arith, le))
  words_whole (w ∷ ws) at zero s inside le =
      results_then (SkipsBy (a64_skip w)) IsWhole (Begins (a64_row names may at w (value names s) s.nzcv))
      (λ d. a64_words names may (at + 4) ws (ahead d.distance) (after names (a64_result names w) d s))
      (row_skips names may at w (value names s) s.nzcv)
      (λ d skips. words_whole ws (at + 4) (ahead d.distance) (after names (a64_result names w) d s) inside.1 (short d skips))
    where
      short : (d : Done) → SkipsBy (a64_skip w) d → ahead d.distance ≤ length ws
      short d (inl none) = omega (arith, none)
      short d (inr some) = omega (arith, some, inside.0)
