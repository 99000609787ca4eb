-- Where functions set their frame pointers up, as it is looked up.
use Rattle.std.proofs.Common.{◌≡◌, ℕ, Bool, true, false, ◌&&◌, inl, inr, Option, Some, None, refl, sym, ap, subst, ◌∙◌}
use Rattle.std.specs.Prelude.{if◌then◌else◌}
use Rattle.x64_syntax.specs.declared.instr.Instr.{Instr}
use Rattle.x64_syntax.specs.declared.instr.Instr.TheVariants as instr
use Rattle.x64_syntax.specs.declared.operand.Width.TheVariants as width
use Rattle.x64_syntax.specs.declared.placed.Placed.{Placed}
use Rattle.code_at.specs.Code.{Program}
use Rattle.cfg_walk.specs.declared.code.Code.{Code}
use Rattle.cfg_walk.specs.Reach.{IsPlaced, end_of}
use Rattle.cfg_walk.specs.Code.{IsCodeOf}
use Rattle.cfg_walk.specs.Machine.{placed_at}
use Rattle.frame_marks.specs.declared.prologue.Prologue.{Prologue}
use Rattle.frame_marks.specs.Operands.{rsp, rbp, is_register}
use Rattle.frame_marks.specs.Uses.{saves_pointer, sets_pointer, is_endbr, changes_pointer}
use Rattle.frame_marks.specs.Frames.{SetsUp, BeginsFrame}
use Rattle.frame_marks.specs.Lists.{pair_at, frame_behind, frame_from, prologue_behind, prologue_of}
use Rattle.frame_marks.proofs.Functions.{placed_found, found_placed}
use Rattle.frame_marks.proofs.Plain.{some_same, no_some, both_true, of_both}

-- push rbp is no ENDBR64
saves_unmarked : (i : Instr) → saves_pointer i ≡ true → is_endbr i ≡ false
saves_unmarked instr.Endbr saves = absurd (cc)
saves_unmarked i saves = refl

-- mov rbp, rsp changes rbp
pub sets_changes : (i : Instr) → sets_pointer i ≡ true → changes_pointer i ≡ true
sets_changes (instr.Mov width.Quad to from) sets = let tests = of_both (is_register rbp to) (is_register rsp from) sets in rw (tests.0) refl
sets_changes i sets = absurd (cc)

module _ (program : Program) (code : Code) (is : IsCodeOf program code) where
  -- what is found sets a frame pointer up
  from_there : (address : ℕ) (own : Prologue) → frame_from code.placed address ≡ Some own → SetsUp program address own.push own.set
  from_there address own found = by_first (placed_at code.placed address) refl found
    where
      by_test : (first second : Placed) (b : Bool) → (saves_pointer first.instr && sets_pointer second.instr) ≡ b
          → placed_at code.placed address ≡ Some first
          → placed_at code.placed (end_of first) ≡ Some second
          → (if b then Some (record { push = address; set = end_of first }) else None) ≡ Some own → SetsUp program address own.push own.set
      by_test first second false e one other found = absurd (no_some found)
      by_test first second true e one other found =
          let tests = of_both (saves_pointer first.instr) (sets_pointer second.instr) e in
          let here = found_placed program code is address first one in
          let there = found_placed program code is (end_of first) second other in
          let same : record { push = address; set = end_of first } ≡ own = some_same found in
          record {
            first = first;
            first_placed = here.0;
            at = here.1;
            saves = tests.0;
            is_push = ap (λ (p : Prologue). p.push) (sym same);
            second = second;
            second_placed = there.0;
            behind = there.1;
            sets = tests.1;
            is_set = ap (λ (p : Prologue). p.set) (sym same);
          }

      by_second : (first : Placed) (o : Option Placed) → placed_at code.placed (end_of first) ≡ o
          → placed_at code.placed address ≡ Some first
          → pair_at address first o ≡ Some own → SetsUp program address own.push own.set
      by_second first None e one found = absurd (no_some found)
      by_second first (Some second) e one found = by_test first second
          (saves_pointer first.instr && sets_pointer second.instr) refl one e found

      by_first : (o : Option Placed) → placed_at code.placed address ≡ o → frame_behind code.placed address o ≡ Some own
          → SetsUp program address own.push own.set
      by_first None e found = absurd (no_some found)
      by_first (Some first) e found = by_second first (placed_at code.placed (end_of first)) refl e found

  -- and what sets one up is found
  to_there : (address push set : ℕ) → SetsUp program address push set → frame_from code.placed address ≡ Some
      (record { push = push; set = set })
  to_there address push set up =
      let first : placed_at code.placed address ≡ Some up.first =
      subst (λ a. placed_at code.placed a ≡ Some up.first) up.at (placed_found program code is up.first up.first_placed) in
      let second : placed_at code.placed (end_of up.first) ≡ Some up.second =
      subst (λ a. placed_at code.placed a ≡ Some up.second) up.behind (placed_found program code is up.second up.second_placed) in
      let test : (saves_pointer up.first.instr && sets_pointer up.second.instr) ≡ true = both_true _ _ up.saves up.sets in
      ap (frame_behind code.placed address) first ∙ ap (pair_at address up.first) second
      ∙ ap (λ b. if b then Some (record { push = address; set = end_of up.first }) else None) test
      ∙ (λ k. Some (record { push = sym up.is_push k; set = sym up.is_set k }))

  -- the prologue that is found is the one with which the function begins
  pub begins_from : (f : ℕ) (own : Prologue) → prologue_of code.placed f ≡ Some own → BeginsFrame program f own.push own.set
  begins_from f own found = by_first (placed_at code.placed f) refl found
    where
      by_mark : (first : Placed) (b : Bool) → is_endbr first.instr ≡ b → placed_at code.placed f ≡ Some first
          → (if b then frame_from code.placed (end_of first) else frame_from code.placed f) ≡ Some own
          → BeginsFrame program f own.push own.set
      by_mark first false e one found = inl (from_there f own found)
      by_mark first true e one found =
          let here = found_placed program code is f first one in
          inr (record { mark = first; placed = here.0; at = here.1; marks = e; sets_up = from_there (end_of first) own found })

      by_first : (o : Option Placed) → placed_at code.placed f ≡ o → prologue_behind code.placed f o ≡ Some own
          → BeginsFrame program f own.push own.set
      by_first None e found = absurd (no_some found)
      by_first (Some first) e found = by_mark first (is_endbr first.instr) refl e found

  pub begins_to : (f push set : ℕ) → BeginsFrame program f push set → prologue_of code.placed f ≡ Some (record { push = push; set = set })
  begins_to f push set (inl up) =
      let first : placed_at code.placed f ≡ Some up.first =
      subst (λ a. placed_at code.placed a ≡ Some up.first) up.at (placed_found program code is up.first up.first_placed) in
      ap (prologue_behind code.placed f) first
      ∙ ap (λ b. if b then frame_from code.placed (end_of up.first) else frame_from code.placed f) (saves_unmarked up.first.instr up.saves)
      ∙ to_there f push set up
  begins_to f push set (inr up) =
      let first : placed_at code.placed f ≡ Some up.mark =
      subst (λ a. placed_at code.placed a ≡ Some up.mark) up.at (placed_found program code is up.mark up.placed) in
      ap (prologue_behind code.placed f) first
      ∙ ap (λ b. if b then frame_from code.placed (end_of up.mark) else frame_from code.placed f) up.marks
      ∙ to_there (end_of up.mark) push set up.sets_up

  -- the instruction behind it, which changes rbp, stands where it is said to
  pub set_stands : (f push set : ℕ) → BeginsFrame program f push set → (p : Placed) × IsPlaced program p × (p.address ≡ set) ×
      (changes_pointer p.instr ≡ true)
  set_stands f push set (inl up) = (up.second, up.second_placed, up.behind ∙ sym up.is_set, sets_changes up.second.instr up.sets)
  set_stands f push set (inr up) = (
    up.sets_up.second,
    up.sets_up.second_placed,
    up.sets_up.behind
        ∙ sym up.sets_up.is_set,
    sets_changes up.sets_up.second.instr up.sets_up.sets,
  )
