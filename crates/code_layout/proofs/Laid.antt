-- A block with its end is carried out by its words.
use Rattle.std.proofs.Common.{◌≡◌, ℕ, suc, ◌+◌, ◌*◌, ◌^◌, ◌<◌, List, [], ◌∷◌, length, refl, sym, subst, arith}
use Rattle.std.specs.List.{AllByRecursion}
use Rattle.behavior.specs.Tree.{Tree, Gives, Begins, Next, Goes, ◌then◌, ticks}
use Rattle.behavior.specs.Acts.{Permission, goes}
use Rattle.behavior.specs.Exits.{Exits, lands}
use Rattle.behavior.specs.Seen.{lowered}
use Rattle.behavior.specs.Kept.{SameNext, Keeps}
use Rattle.behavior.specs.Unfolds.{Unfolds, block-ends, block-goes}
use Rattle.behavior.proofs.Paths.{then-assoc}
use Rattle.behavior.proofs.SeenLemmas.{sees-lowered}
use Rattle.behavior.proofs.Beside.{Beside, give, spend_many, beside_keeps}
use Rattle.behavior.proofs.Results.{self_then}
use Rattle.behavior.proofs.Unfolding.{unfolds_then}
use Rattle.a64_code.specs.declared.instr.XReg.{XReg}
use Rattle.a64_code.specs.declared.instr.A64.{A64}
use Rattle.a64_table.specs.State.{xregs, AState}
use Rattle.a64_table.specs.Rows.{IsForward, a64_words}
use Rattle.a64_table.specs.Machine.{AThread, a64_step}
use Rattle.a64_table.proofs.CallerLemmas as machine
use Rattle.a64_table.proofs.CallerLemmas.{StandAt, words_unfold}
use Rattle.a64_block.specs.Blocks.{a64_end, a64_block}
use Rattle.a64_block.specs.Conditions.{StaysInside}
use Rattle.a64_block.specs.declared.block.AEnd.{AEnd}
use Rattle.a64_block.specs.declared.block.ABlock.{ABlock}
use Rattle.a64_block.proofs.CallerLemmas.{IsWhole, words_whole}
use Rattle.code_layout.specs.Carried.{ArrivesAt}
use Rattle.code_layout.proofs.Comes.{Comes, unfolds_on, unfolds_begun}
use Rattle.code_layout.proofs.Ends.{end_next, end_gives}

-- From an address on the words do what the block does, and then take at most so many more.
pub record DoesBlock (exits : Exits) (most first : ℕ) (code : List ℕ) (blocks : List (ABlock XReg)) (steps : List (A64 XReg)) (fin : AEnd XReg) (may : Permission) (at : ℕ) (s : AState) : Type 0 where
  pub does : Tree (Next AThread)
  pub unfolds : Unfolds (a64_step may first code) (a64_step may first code (record { at = at; state = s })) (Begins does)
  pub keeps : Keeps lowered 1 most (SameNext (ArrivesAt first blocks)) (a64_block xregs may at steps fin s then lands exits) (Begins does)

module _ (may : Permission) (first : ℕ) (code : List ℕ) (blocks : List (ABlock XReg)) (exits : Exits) (most : ℕ) (steps : List (A64 XReg)) (fin : AEnd XReg) (at : ℕ)
    (low : at + 4 * length steps < 2 ^ 63) (forward : AllByRecursion IsForward steps) (inside : StaysInside steps) (stand : StandAt first code at steps)
    (come : (s : AState) → Comes (a64_step may first code) most (record { at = at + 4 * length steps; state = s }) (SameNext (ArrivesAt first blocks) (end_next exits fin s))) where
  -- what the words behind the steps do
  abbrev behind : ℕ × AState → Tree (Next AThread)
  behind r = ticks (suc (come r.1).before) (Gives (come r.1).to)

  -- the steps, and then those words
  abbrev whole : AState → Tree (Next AThread)
  whole s = a64_words xregs may at steps 0 s then behind

  steps_unfold : (ws : List (A64 XReg)) (from : ℕ) → from + 4 * length ws < 2 ^ 63 → AllByRecursion IsForward ws → StandAt first code from ws → (s : AState)
      → Unfolds (a64_step may first code) (Gives (Goes (record { at = from; state = s }))) (a64_words xregs may from ws 0 s then machine.lands (from + 4 * length ws))
  steps_unfold [] from room goes_forward stands s =
      let e : from ≡ from + 4 * 0 + 4 * 0 = omega arith in
      subst (λ a. Unfolds (a64_step may first code) (Gives (Goes (record { at = from; state = s }))) (goes (record { at = a; state = s }))) e block-ends
  steps_unfold (w ∷ ws) from room goes_forward stands s =
      block-goes (words_unfold may first code w ws from (from + 4 * length (w ∷ ws)) refl room goes_forward stands s)

  whole_unfolds : (s : AState) → Unfolds (a64_step may first code) (Gives (Goes (record { at = at; state = s }))) (whole s)
  whole_unfolds s =
      let stop = at + 4 * length steps in
      unfolds_on (a64_step may first code) (steps_unfold steps at low forward stand s)
      (unfolds_then (a64_step may first code) IsWhole (a64_words xregs may at steps 0 s) (machine.lands stop) behind (words_whole xregs may steps at 0 s inside (omega arith))
      (λ r none. let e : stop ≡ stop + 4 * r.0 = omega (arith, none) in
      subst (λ a. Unfolds (a64_step may first code) (Gives (Goes (record { at = a; state = r.1 }))) (behind r)) e (block-goes (come r.1).unfolds)))

  whole_keeps : (s : AState) → Keeps lowered 1 most (SameNext (ArrivesAt first blocks)) (a64_block xregs may at steps fin s then lands exits) (whole s)
  whole_keeps s =
      let block = a64_words xregs may at steps 0 s in
      let beside : Beside lowered 1 (SameNext (ArrivesAt first blocks)) most (block then (λ r. a64_end xregs fin r.1 then lands exits)) (block then behind) =
      self_then lowered 1 (omega arith) IsWhole (ArrivesAt first blocks) most block (λ r. a64_end xregs fin r.1 then lands exits) behind (words_whole xregs may steps at 0 s inside (omega arith))
      (λ r none. let few = (come r.1).few in
      subst (λ t. Beside lowered 1 (SameNext (ArrivesAt first blocks)) most t (behind r)) (sym (end_gives exits fin r.1))
      (spend_many lowered sees-lowered 1 (SameNext (ArrivesAt first blocks)) (suc (come r.1).before) 0 most (omega (arith, few)) (give (come r.1).there))) in
      subst (λ t. Keeps lowered 1 most (SameNext (ArrivesAt first blocks)) t (whole s)) (sym (then-assoc block (λ r. a64_end xregs fin r.1) (lands exits)))
      (beside_keeps lowered sees-lowered 1 (SameNext (ArrivesAt first blocks)) beside)

-- a block begins a word, whether it has steps or its end alone
pub does_block : (may : Permission) (first : ℕ) (code : List ℕ) (blocks : List (ABlock XReg)) (exits : Exits) (most : ℕ) (steps : List (A64 XReg)) (fin : AEnd XReg) (at : ℕ)
    → at + 4 * length steps < 2 ^ 63 → AllByRecursion IsForward steps → StaysInside steps → StandAt first code at steps
    → ((s : AState) → Comes (a64_step may first code) most (record { at = at + 4 * length steps; state = s }) (SameNext (ArrivesAt first blocks) (end_next exits fin s)))
    → (s : AState) → DoesBlock exits most first code blocks steps fin may at s
does_block may first code blocks exits most [] fin at low forward inside stand come s = record {
  does = ticks (come s).before (Gives (come s).to);
  unfolds = unfolds_begun (a64_step may first code) (whole_unfolds may first code blocks exits most [] fin at low forward inside stand come s);
  keeps = whole_keeps may first code blocks exits most [] fin at low forward inside stand come s;
}
does_block may first code blocks exits most (w ∷ ws) fin at low forward inside stand come s = record {
  does = _;
  unfolds = unfolds_begun (a64_step may first code) (whole_unfolds may first code blocks exits most (w ∷ ws) fin at low forward inside stand come s);
  keeps = whole_keeps may first code blocks exits most (w ∷ ws) fin at low forward inside stand come s;
}
