-- Frame pointers and exposure by witnesses: what the searches find is what the definitions say.
use Rattle.std.proofs.Common.{◌≡◌, ◌≢◌, ◌↔◌, ◌<◌, ◌++◌, ℕ, zero, suc, Bool, true, false, not, ◌&&◌, List, [], ◌∷◌, map, Option, Some, None, refl, sym, ap, subst, ◌∙◌, arith}
use Rattle.std.specs.Prelude.{if◌then◌else◌}
use Rattle.std.specs.Option.{is_some}
use Rattle.ev_graph.specs.Places.{StandsIn}
use Rattle.graph_reach.specs.Reach.{From, IsFirst}
use Rattle.graph_reach.specs.Sources.{source_of}
use Rattle.graph_reach.proofs.CallerLemmas.{first_is, none_is}
use Rattle.x64_syntax.specs.declared.placed.Placed.{Placed}
use Rattle.code_at.specs.Code.{Program}
use Rattle.cfg_walk.specs.declared.code.Code.{Code}
use Rattle.cfg_walk.specs.Reach.{IsReached, IsPlaced}
use Rattle.cfg_walk.specs.Code.{IsCodeOf, IsIncreasing}
use Rattle.frame_marks.specs.declared.frames.Frames.{Frames}
use Rattle.frame_marks.specs.declared.prologue.Prologue.{Prologue}
use Rattle.frame_marks.specs.declared.witnesses.Sign.{Sign}
use Rattle.frame_marks.specs.declared.witnesses.Sign.TheVariants as sign
use Rattle.frame_marks.specs.Uses.{changes_pointer, exposes_framed}
use Rattle.frame_marks.specs.Bodies.{IsInBody}
use Rattle.frame_marks.specs.Frames.{HasFramePointer, Exposes}
use Rattle.frame_marks.specs.Frames.Exposes.{plainly, framed}
use Rattle.frame_marks.specs.Lists.{address_of, shows, shown, witnesses, is_only, AreFrames, unless_changed, pointer_of, prologue_of, is_exposed, is_exposed_by}
use Rattle.frame_marks.proofs.Gathered.{gathered_from, gathered}
use Rattle.frame_marks.proofs.Searched.{map_get, tail_sorted}
use Rattle.frame_marks.proofs.Firsts.{each_is, other_is}
use Rattle.frame_marks.proofs.Functions.{one_placed}
use Rattle.frame_marks.proofs.Pointers.{begins_from, begins_to, set_stands}
use Rattle.frame_marks.proofs.Plain.{some_same, no_some, is_not, not_is, not_false, both_true, of_both}

-- ---- witnesses

-- a witness is the address of an instruction that shows the sign
pub shown_from : (s : Sign) (placed : List Placed) (w : ℕ) → StandsIn (witnesses s placed) w → (p : Placed) × StandsIn placed p ×
    (p.address ≡ w) × (shows s p ≡ true)
shown_from s placed w at = let there = gathered_from (shown s) placed w at in by_test there.0 there.1 (shows s there.0) refl there.2
  where
    by_test : (p : Placed) → StandsIn placed p → (b : Bool) → shows s p ≡ b → StandsIn (if b then p.address ∷ [] else []) w
        → (p : Placed) × StandsIn placed p × (p.address ≡ w) × (shows s p ≡ true)
    by_test p in_placed true e (zero, here) = (p, in_placed, some_same here, e)
    by_test p in_placed true e (suc i, here) = absurd (no_some here)
    by_test p in_placed false e at = absurd (no_some at.1)

-- and each such address is one
pub shown_to : (s : Sign) (placed : List Placed) (p : Placed) → StandsIn placed p → shows s p ≡ true → StandsIn
    (witnesses s placed) p.address
shown_to s placed p at shows_it =
    gathered (shown s) placed p p.address at
    (subst (λ b. StandsIn (if b then p.address ∷ [] else []) p.address) (sym shows_it) (zero, refl))

below_all : (q : Placed) (ps : List Placed) → IsIncreasing (map address_of (q ∷ ps)) → (p : Placed) → StandsIn ps p → q.address < p.address
below_all q ps sorted p at = sorted 0 (suc at.0) q.address p.address (omega arith) refl (map_get address_of ps at.0 p at.1)

cons_sorted : (x : ℕ) (xs : List ℕ) → ((a : ℕ) → StandsIn xs a → x < a) → IsIncreasing xs → IsIncreasing (x ∷ xs)
cons_sorted x xs below sorted zero zero a b less one other = absurd (omega arith)
cons_sorted x xs below sorted zero (suc j) a b less one other = subst (λ y. y < b) (some_same one) (below b (j, other))
cons_sorted x xs below sorted (suc i) zero a b less one other = absurd (omega arith)
cons_sorted x xs below sorted (suc i) (suc j) a b less one other = sorted i j a b (omega (arith, less)) one other

-- witnesses are in order
pub shown_sorted : (s : Sign) (placed : List Placed) → IsIncreasing (map address_of placed) → IsIncreasing (witnesses s placed)
shown_sorted s [] sorted = λ i j a b less one other. absurd (no_some one)
shown_sorted s (q ∷ ps) sorted = by_test (shows s q) (shown_sorted s ps (tail_sorted q ps sorted))
  where
    below : (w : ℕ) → StandsIn (witnesses s ps) w → q.address < w
    below w at = let there = shown_from s ps w at in subst (λ a. q.address < a) there.2 (below_all q ps sorted there.0 there.1)

    by_test : (b : Bool) → IsIncreasing (witnesses s ps) → IsIncreasing ((if b then q.address ∷ [] else []) ++ witnesses s ps)
    by_test true rest = cons_sorted q.address (witnesses s ps) below rest
    by_test false rest = rest

-- ---- functions

module _ (program : Program) (code : Code) (is : IsCodeOf program code) (frames : Frames) (back : ℕ → List ℕ)
    (are : AreFrames back code.placed frames)
    (in_back : (f a : ℕ) → IsReached program f → IsReached program a → IsInBody program f a ↔ From back f a) (f : ℕ)
    (reached : IsReached program f) where
  sorted : (s : Sign) → IsIncreasing (witnesses s code.placed)
  sorted s = shown_sorted s code.placed is.placed.sorted

  -- an instruction of the body that shows a sign is a witness
  witness : (s : Sign) (p : Placed) → IsPlaced program p → shows s p ≡ true → StandsIn (witnesses s code.placed) p.address
  witness s p placed shows_it = shown_to s code.placed p ((is.placed.exact p).1 placed) shows_it

  -- a witness that reaches the function is such an instruction
  pub shown_in_body : (s : Sign) (w : ℕ) → StandsIn (witnesses s code.placed) w → From back f w
      → (p : Placed) × IsPlaced program p × (p.address ≡ w) × IsInBody program f p.address × (shows s p ≡ true)
  shown_in_body s w at from =
      let there = shown_from s code.placed w at in
      let placed = (is.placed.exact there.0).0 there.1 in
      let body = (in_back f there.0.address reached placed.reached).1 (subst (From back f) (sym there.2) from) in
      (there.0, placed, there.2, body, there.3)

  leads_back : (p : Placed) → IsPlaced program p → IsInBody program f p.address → From back f p.address
  leads_back p placed body = (in_back f p.address reached placed.reached).0 body

  -- ---- frame pointers

  -- a prologue that is not spoilt makes a frame pointer
  only_there : (set : ℕ) → is_only frames.changes f set ≡ true
      → (p : Placed) → IsPlaced program p → IsInBody program f p.address → changes_pointer p.instr ≡ true → p.address ≡ set
  only_there set test p placed body changes =
      each_is (From back f) (witnesses sign.ChangesPointer code.placed) (sorted sign.ChangesPointer) set _ _ (are.changes.first f)
      (are.changes.last f) test
      p.address (witness sign.ChangesPointer p placed changes) (leads_back p placed body)

  pub has_from : (own : Prologue) → pointer_of frames code.placed f ≡ Some own → (h : HasFramePointer program f) × (h.push ≡ own.push) ×
      (h.set ≡ own.set)
  has_from own found = by_prologue (prologue_of code.placed f) refl found
    where
      by_test : (there : Prologue) (b : Bool) → is_only frames.changes f there.set ≡ b → prologue_of code.placed f ≡ Some there
          → (if b then Some there else None) ≡ Some own → (h : HasFramePointer program f) × (h.push ≡ own.push) × (h.set ≡ own.set)
      by_test there false e begins found = absurd (no_some found)
      by_test there true e begins found =
          let same : there ≡ own = some_same found in (
            record {
              push = there.push;
              set = there.set;
              begins = begins_from program code is f there begins;
              only = only_there there.set e;
            },
            ap (λ (p : Prologue). p.push) same,
            ap (λ (p : Prologue). p.set) same,
          )

      by_prologue : (o : Option Prologue) → prologue_of code.placed f ≡ o → unless_changed frames f o ≡ Some own
          → (h : HasFramePointer program f) × (h.push ≡ own.push) × (h.set ≡ own.set)
      by_prologue None e found = absurd (no_some found)
      by_prologue (Some there) e found = by_test there (is_only frames.changes f there.set) refl e found

  -- and a frame pointer has such a prologue
  pub has_to : (h : HasFramePointer program f) → pointer_of frames code.placed f ≡ Some (record { push = h.push; set = h.set })
  has_to h =
      ap (unless_changed frames f) (begins_to program code is f h.push h.set h.begins)
      ∙ ap (λ b. if b then Some (record { push = h.push; set = h.set }) else None) (by_test (is_only frames.changes f h.set) refl)
    where
      by_test : (b : Bool) → is_only frames.changes f h.set ≡ b → is_only frames.changes f h.set ≡ true
      by_test true e = e
      by_test false e =
          let other = other_is (From back f) (witnesses sign.ChangesPointer code.placed) (sorted sign.ChangesPointer) h.set _ _
          (are.changes.first f) (are.changes.last f) e in
          let there = shown_in_body sign.ChangesPointer other.0 other.1 other.2 in
          absurd (other.3 (sym there.2 ∙ h.only there.0 there.1 there.3 there.4))

  -- ---- exposure

  -- with a frame pointer
  framed_from : (own : Prologue) → pointer_of frames code.placed f ≡ Some own → is_only frames.framed f own.push ≡ false → Exposes program f
  framed_from own found e =
      let has = has_from own found in
      let h = has.0 in
      let other = other_is (From back f) (witnesses sign.ExposesFramed code.placed) (sorted sign.ExposesFramed) own.push _ _
      (are.framed.first f) (are.framed.last f) e in
      let there = shown_in_body sign.ExposesFramed other.0 other.1 other.2 in
      let p = there.0 in
      let signs = of_both (exposes_framed p.instr p.flow) (not (changes_pointer p.instr)) there.4 in
      let second = set_stands program code is f h.push h.set h.begins in
      let apart : p.address ≢ h.set = λ same.
      (let one : p ≡ second.0 = one_placed program code is p second.0 there.1 second.1 (same ∙ sym second.2) in
      let changes : changes_pointer p.instr ≡ true = ap (λ (o : Placed). changes_pointer o.instr) one ∙ second.3 in
      let not_it = is_not (changes_pointer p.instr) signs.1 in
      absurd (cc)) in
      framed p there.1 there.3 h signs.0 (λ same. other.3 (sym there.2 ∙ same ∙ has.1)) apart

  framed_to : (own : Prologue) → pointer_of frames code.placed f ≡ Some own → is_only frames.framed f own.push ≡ true
      → Exposes program f → ⊥
  framed_to own found e (plainly p placed body none exposing) = none (has_from own found).0
  framed_to own found e (framed p placed body h exposing not_push not_set) =
      let same : record { push = h.push; set = h.set } ≡ own = some_same (sym (has_to h) ∙ found) in
      not_push (each_is (From back f) (witnesses sign.ExposesFramed code.placed) (sorted sign.ExposesFramed) own.push _ _
      (are.framed.first f) (are.framed.last f) e
      p.address (witness sign.ExposesFramed p placed (shows_it (changes_pointer p.instr) refl)) (leads_back p placed body)
      ∙ ap (λ (q : Prologue). q.push) (sym same))
    where
      shows_it : (b : Bool) → changes_pointer p.instr ≡ b → (exposes_framed p.instr p.flow && not (changes_pointer p.instr)) ≡ true
      shows_it true changes = absurd (not_set (h.only p placed body changes))
      shows_it false changes = both_true (exposes_framed p.instr p.flow) (not (changes_pointer p.instr)) exposing
          (not_is (changes_pointer p.instr) changes)

  -- without one
  plain_from : (pointer_of frames code.placed f ≡ None) → (o : Option ℕ) → source_of frames.plain f ≡ o → is_some o ≡ true
      → Exposes program f
  plain_from none None e test = absurd (cc)
  plain_from none (Some w) e test =
      let first = first_is (From back f) (witnesses sign.Exposes code.placed) w
      (subst (IsFirst (From back f) (witnesses sign.Exposes code.placed)) e (are.plain f)) in
      let there = shown_in_body sign.Exposes w first.0 first.1 in
      plainly there.0 there.1 there.3 (λ h. no_some (sym none ∙ has_to h)) there.4

  plain_to : (pointer_of frames code.placed f ≡ None) → (o : Option ℕ) → source_of frames.plain f ≡ o → is_some o ≡ false
      → Exposes program f → ⊥
  plain_to none (Some w) e test exposing = absurd (cc)
  plain_to none None e test (plainly p placed body not_h exposing) =
      none_is (From back f) (witnesses sign.Exposes code.placed)
      (subst (IsFirst (From back f) (witnesses sign.Exposes code.placed)) e (are.plain f))
      p.address (witness sign.Exposes p placed exposing) (leads_back p placed body)
  plain_to none None e test (framed p placed body h exposing not_push not_set) = no_some (sym none ∙ has_to h)

  -- what is found to expose its frame does, and the other way
  pub exposed_from : is_exposed frames code.placed f ≡ true → Exposes program f
  exposed_from found = by_pointer (pointer_of frames code.placed f) refl found
    where
      by_pointer : (o : Option Prologue) → pointer_of frames code.placed f ≡ o → is_exposed_by frames f o ≡ true → Exposes program f
      by_pointer None e found = plain_from e (source_of frames.plain f) refl found
      by_pointer (Some own) e found = framed_from own e (is_not (is_only frames.framed f own.push) found)

  pub exposed_to : is_exposed frames code.placed f ≡ false → Exposes program f → ⊥
  exposed_to found = by_pointer (pointer_of frames code.placed f) refl found
    where
      by_pointer : (o : Option Prologue) → pointer_of frames code.placed f ≡ o → is_exposed_by frames f o ≡ false → Exposes program f → ⊥
      by_pointer None e found = plain_to e (source_of frames.plain f) refl found
      by_pointer (Some own) e found = framed_to own e (not_false (is_only frames.framed f own.push) found)
