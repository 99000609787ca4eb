-- The slots that are kept are just the private ones.
use Rattle.std.proofs.Common.{◌≡◌, ◌≢◌, ◌↔◌, ℕ, zero, suc, Bool, true, false, not, ◌&&◌, ◌||◌, List, [], ◌∷◌, filter, ◌⊎◌, inl, inr, IsTrue, Option, Some, None, refl, sym, ap, subst}
use Rattle.std.specs.Prelude.{if◌then◌else◌}
use Rattle.std.specs.List.{flat_map}
use Rattle.std.specs.Option.{is_some}
use Rattle.ev_graph.specs.Places.{StandsIn}
use Rattle.ev_graph.proofs.Members.{stands_filter, stands_filtered}
use Rattle.graph_reach.specs.Reach.{From, IsFirst}
use Rattle.graph_reach.specs.Sources.{source_of}
use Rattle.graph_reach.proofs.CallerLemmas.{first_is, none_is}
use Rattle.x64_syntax.specs.declared.instr_slots.InstrSlot.{InstrSlot}
use Rattle.x64_syntax.specs.declared.instr_slots.SlotPlace.{SlotPlace}
use Rattle.x64_syntax.specs.declared.instr_slots.SlotPlace.TheVariants as place
use Rattle.x64_syntax.specs.declared.operand.Mem.{Mem}
use Rattle.x64_syntax.specs.declared.placed.Placed.{Placed}
use Rattle.x64_syntax.specs.declared.slots.Slot.{Slot}
use Rattle.x64_syntax.specs.declared.slots.SlotKind.{SlotKind}
use Rattle.x64_syntax.specs.declared.slots.SlotKind.TheVariants as kind
use Rattle.x64_syntax.specs.Slots.{slots}
use Rattle.code_at.specs.Code.{Program}
use Rattle.cfg_walk.specs.declared.code.Code.{Code}
use Rattle.cfg_walk.specs.Reach.{IsReached, IsPlaced}
use Rattle.cfg_walk.specs.Blocks.{IsFunction}
use Rattle.cfg_walk.specs.Code.{IsCodeOf}
use Rattle.frame_marks.specs.declared.frames.Frames.{Frames}
use Rattle.frame_marks.specs.declared.prologue.Prologue.{Prologue}
use Rattle.frame_marks.specs.Operands.{rsp, rbp, is_beside}
use Rattle.frame_marks.specs.Bodies.{IsInBody}
use Rattle.frame_marks.specs.Frames.{HasFramePointer, IsFrameAccess, IsPrivateAccess, IsPrivate}
use Rattle.frame_marks.specs.Lists.{AreFrames, goes_on_at, pointer_of, is_exposed, is_pointerless, is_locked, is_in_frame, is_private, slot_of, kept, kept_by}
use Rattle.frame_marks.proofs.Gathered.{gathered_from, gathered}
use Rattle.frame_marks.proofs.Functions.{function_reached, in_some_body, body_to, body_from}
use Rattle.frame_marks.proofs.Exposures.{has_from, has_to, exposed_from, exposed_to}
use Rattle.frame_marks.proofs.Plain.{some_same, no_some, is_not, not_is, both_true, of_both}

-- a kept slot is that of a private access
kept_from : (e u : Bool) (address : ℕ) (access : InstrSlot) (slot : Slot) → StandsIn (kept e u address access) slot
    → (is_private e u access ≡ true) × (slot_of address access ≡ slot)
kept_from e u address access slot at = by_test (is_private e u access) refl at
  where
    by_test : (b : Bool) → is_private e u access ≡ b → StandsIn (if b then slot_of address access ∷ [] else []) slot
        → (is_private e u access ≡ true) × (slot_of address access ≡ slot)
    by_test true test (zero, here) = (test, some_same here)
    by_test true test (suc i, here) = absurd (no_some here)
    by_test false test at = absurd (no_some at.1)

kept_to : (e u : Bool) (address : ℕ) (access : InstrSlot) → is_private e u access ≡ true → StandsIn (kept e u address access)
    (slot_of address access)
kept_to e u address access test =
    subst (λ b. StandsIn (if b then slot_of address access ∷ [] else []) (slot_of address access)) (sym test) (zero, refl)

unlocked : (k : SlotKind) → is_locked k ≡ false → k ≢ kind.Locked
unlocked kind.Read test same = absurd (cc)
unlocked kind.Write test same = absurd (cc)
unlocked kind.Locked test same = absurd (cc)

not_locked : (k : SlotKind) → k ≢ kind.Locked → is_locked k ≡ false
not_locked kind.Read other = refl
not_locked kind.Write other = refl
not_locked kind.Locked other = absurd (other refl)

-- ---- the functions whose body has an instruction

module _ (program : Program) (code : Code) (is : IsCodeOf program code) (frames : Frames) (back : ℕ → List ℕ)
    (are : AreFrames back code.placed frames)
    (in_back : (f a : ℕ) → IsReached program f → IsReached program a → IsInBody program f a ↔ From back f a) where
  -- some function of which a test holds has the address in its body, just where a search from these functions finds it
  pub some_from : (test : ℕ → Bool) (found : List (ℕ × ℕ)) →
      ((a : ℕ) → IsFirst (From (goes_on_at code.placed) a) (filter test code.functions) (source_of found a))
      → (a : ℕ) → is_some (source_of found a) ≡ true → (f : ℕ) × IsFunction program f × (test f ≡ true) × IsInBody program f a
  some_from test found first a some = by_source (source_of found a) refl some
    where
      by_source : (o : Option ℕ) → source_of found a ≡ o → is_some o ≡ true → (f : ℕ) × IsFunction program f ×
          (test f ≡ true) × IsInBody program f a
      by_source None e some = absurd (cc)
      by_source (Some f) e some =
          let there = first_is (From (goes_on_at code.placed) a) (filter test code.functions) f
          (subst (IsFirst (From (goes_on_at code.placed) a) (filter test code.functions)) e (first a)) in
          let listed = stands_filtered test code.functions f there.0 in
          (f, (is.functions.exact f).0 listed.0, listed.1, body_from program code is f a there.1)

  pub some_to : (test : ℕ → Bool) (found : List (ℕ × ℕ)) →
      ((a : ℕ) → IsFirst (From (goes_on_at code.placed) a) (filter test code.functions) (source_of found a))
      → (a : ℕ) → is_some (source_of found a) ≡ false → (f : ℕ) → IsFunction program f → IsInBody program f a → test f ≡ false
  some_to test found first a none f function body = by_test (test f) refl
    where
      by_source : (o : Option ℕ) → source_of found a ≡ o → is_some o ≡ false → test f ≡ true → ⊥
      by_source (Some g) e none holds = absurd (cc)
      by_source None e none holds =
          none_is (From (goes_on_at code.placed) a) (filter test code.functions)
          (subst (IsFirst (From (goes_on_at code.placed) a) (filter test code.functions)) e (first a))
          f (stands_filter test code.functions f ((is.functions.exact f).1 function) holds)
          (body_to program code is f a (function_reached program f function) body)

      by_test : (b : Bool) → test f ≡ b → test f ≡ false
      by_test true e = absurd (by_source (source_of found a) refl none e)
      by_test false e = e

  module _ (exposed pointerless : List (ℕ × ℕ))
      (exposed_first : (a : ℕ) → IsFirst (From (goes_on_at code.placed) a) (filter (is_exposed frames code.placed) code.functions)
      (source_of exposed a))
      (pointerless_first : (a : ℕ) → IsFirst (From (goes_on_at code.placed) a)
      (filter (is_pointerless frames code.placed) code.functions) (source_of pointerless a)) where
    -- a function that is not told to be without a frame pointer has one
    has_pointer : (f : ℕ) → IsFunction program f → is_pointerless frames code.placed f ≡ false → HasFramePointer program f
    has_pointer f function test = by_pointer (pointer_of frames code.placed f) refl test
      where
        by_pointer : (o : Option Prologue) → pointer_of frames code.placed f ≡ o → not (is_some o) ≡ false → HasFramePointer program f
        by_pointer None e test = absurd (cc)
        by_pointer (Some own) e test = (has_from program code is frames back are in_back f (function_reached program f function) own e).0

    lacks_pointer : (f : ℕ) → IsFunction program f → is_pointerless frames code.placed f ≡ true → HasFramePointer program f → ⊥
    lacks_pointer f function test h =
        let found = has_to program code is frames back are in_back f (function_reached program f function) h in
        let some : is_some (pointer_of frames code.placed f) ≡ true = ap is_some found in
        let none = is_not (is_some (pointer_of frames code.placed f)) test in
        absurd (cc)

    module _ (p : Placed) (placed : IsPlaced program p) where
      -- an access that passes the tests is private
      frame_access : (m : Mem) → (is_beside rsp m || (not (is_some (source_of pointerless p.address)) && is_beside rbp m)) ≡ true
          → (f : ℕ) → IsFunction program f → IsInBody program f p.address → IsFrameAccess program f (place.Operand m)
      frame_access m test f function body = by_test (is_beside rsp m) refl test
        where
          by_test : (b : Bool) → is_beside rsp m ≡ b → (b || (not (is_some (source_of pointerless p.address)) && is_beside rbp m)) ≡ true
              → IsTrue (is_beside rsp m) ⊎ (IsTrue (is_beside rbp m) × HasFramePointer program f)
          by_test true e test = inl e
          by_test false e test =
              let both = of_both (not (is_some (source_of pointerless p.address))) (is_beside rbp m) test in
              let none = is_not (is_some (source_of pointerless p.address)) both.0 in
              inr (
                both.1,
                has_pointer f function
                    (some_to (is_pointerless frames code.placed) pointerless pointerless_first p.address none f function body),
              )

      in_frame : (s : SlotPlace) → is_in_frame (is_some (source_of pointerless p.address)) s ≡ true
          → (f : ℕ) → IsFunction program f → IsInBody program f p.address → IsFrameAccess program f s
      in_frame place.Stack test f function body = tt
      in_frame (place.Operand m) test f function body = frame_access m test f function body

      private_from : (access : InstrSlot) → is_private (is_some (source_of exposed p.address))
          (is_some (source_of pointerless p.address)) access ≡ true
          → IsPrivateAccess program p access
      private_from access test =
          let first = of_both (not (is_locked access.kind)) _ test in
          let second = of_both (not (is_some (source_of exposed p.address))) _ first.1 in
          let none = is_not (is_some (source_of exposed p.address)) second.0 in
          record {
            unlocked = unlocked access.kind (is_not (is_locked access.kind) first.0);
            each = λ f function body. (
              in_frame access.place second.1 f function body,
              exposed_to program code is frames back are in_back f (function_reached program f function)
                  (some_to (is_exposed frames code.placed) exposed exposed_first p.address none f function body),
            );
          }

      -- a private access passes them
      passes_frame : (m : Mem) → ((f : ℕ) → IsFunction program f → IsInBody program f p.address → IsFrameAccess program f (place.Operand m))
          → (is_beside rsp m || (not (is_some (source_of pointerless p.address)) && is_beside rbp m)) ≡ true
      passes_frame m each = by_test (is_beside rsp m) refl
        where
          some_body : (f : ℕ) × IsFunction program f × IsInBody program f p.address
          some_body = in_some_body program p.address placed.reached

          beside : (f : ℕ) → IsFunction program f → IsInBody program f p.address → is_beside rsp m ≡ false → IsTrue
              (is_beside rbp m) × HasFramePointer program f
          beside f function body e = elim (each f function body) [ inl here ↦ absurd (cc) | inr there ↦ there ]

          no_lack : is_beside rsp m ≡ false → (b : Bool) → is_some (source_of pointerless p.address) ≡ b → not
              (is_some (source_of pointerless p.address)) ≡ true
          no_lack e true some =
              let there = some_from (is_pointerless frames code.placed) pointerless pointerless_first p.address some in
              absurd (lacks_pointer there.0 there.1 there.2 (beside there.0 there.1 there.3 e).1)
          no_lack e false none = not_is (is_some (source_of pointerless p.address)) none

          by_test : (b : Bool) → is_beside rsp m ≡ b → (b || (not (is_some (source_of pointerless p.address)) && is_beside rbp m)) ≡ true
          by_test true e = refl
          by_test false e =
              both_true (not (is_some (source_of pointerless p.address))) (is_beside rbp m)
              (no_lack e (is_some (source_of pointerless p.address)) refl)
              (beside some_body.0 some_body.1 some_body.2 e).0

      passes_place : (s : SlotPlace) → ((f : ℕ) → IsFunction program f → IsInBody program f p.address → IsFrameAccess program f s)
          → is_in_frame (is_some (source_of pointerless p.address)) s ≡ true
      passes_place place.Stack each = refl
      passes_place (place.Operand m) each = passes_frame m each

      private_to : (access : InstrSlot) → IsPrivateAccess program p access
          → is_private (is_some (source_of exposed p.address)) (is_some (source_of pointerless p.address)) access ≡ true
      private_to access private =
          both_true (not (is_locked access.kind)) _ (not_is (is_locked access.kind) (not_locked access.kind private.unlocked))
          (both_true (not (is_some (source_of exposed p.address))) _ (none (is_some (source_of exposed p.address)) refl)
          (passes_place access.place (λ f function body. (private.each f function body).0)))
        where
          none : (b : Bool) → is_some (source_of exposed p.address) ≡ b → not (is_some (source_of exposed p.address)) ≡ true
          none true some =
              let there = some_from (is_exposed frames code.placed) exposed exposed_first p.address some in
              absurd ((private.each there.0 there.1 there.3).1
              (exposed_from program code is frames back are in_back there.0 (function_reached program there.0 there.1) there.2))
          none false e = not_is (is_some (source_of exposed p.address)) e

    -- ---- slots

    pub kept_private : (slot : Slot) → StandsIn (flat_map (kept_by exposed pointerless) code.placed) slot → IsPrivate program slot
    kept_private slot at =
        let there = gathered_from (kept_by exposed pointerless) code.placed slot at in
        let p = there.0 in
        let placed = (is.placed.exact p).0 there.1 in
        let by = gathered_from (kept (is_some (source_of exposed p.address)) (is_some (source_of pointerless p.address)) p.address)
        (slots p.instr p.flow) slot there.2 in
        let test = kept_from (is_some (source_of exposed p.address)) (is_some (source_of pointerless p.address)) p.address by.0 slot by.2 in
        record {
          p = p;
          placed = placed;
          here = ap (λ (s : Slot). s.address) test.1;
          access = by.0;
          makes = by.1;
          kind = ap (λ (s : Slot). s.kind) test.1;
          private = private_from p placed by.0 test.0;
        }

    pub private_kept : (slot : Slot) → IsPrivate program slot → StandsIn (flat_map (kept_by exposed pointerless) code.placed) slot
    private_kept slot private =
        let p = private.p in
        let e = is_some (source_of exposed p.address) in
        let u = is_some (source_of pointerless p.address) in
        let test = private_to p private.placed private.access private.private in
        let one = kept_to e u p.address private.access test in
        let of = gathered (kept e u p.address) (slots p.instr p.flow) private.access (slot_of p.address private.access) private.makes one in
        let all = gathered (kept_by exposed pointerless) code.placed p (slot_of p.address private.access)
        ((is.placed.exact p).1 private.placed) of in
        let same : slot_of p.address private.access ≡ slot = (λ k. record { address = private.here k; kind = private.kind k }) in
        subst (StandsIn (flat_map (kept_by exposed pointerless) code.placed)) same all
