-- The explanation of an execution of an image accounts for it.
use Rattle.std.proofs.Common.{◌≡◌, ◌⊎◌, inl, inr, ℕ, zero, suc, ◌+◌, ◌<◌, Bool, true, false, not, ◌&&◌, List, [], ◌∷◌, ◌++◌, length, slice_get, Option, Some, None, arith, sym, ◌∙◌, ap, refl, subst}
use Rattle.std.specs.Prelude.{IsSome, IsSomeAnd}
use Rattle.std.specs.Option.{option_map}
use Rattle.std.specs.List.{AllByRecursion}
use Rattle.std.proofs.lemmas.Option.{slice_get-map, slice_get_within}
use Rattle.ev_graph.specs.declared.events.Access.{Access}
use Rattle.ev_graph.specs.declared.events.End.{End}
use Rattle.ev_graph.specs.declared.events.EventId.{EventId}
use Rattle.ev_graph.specs.declared.events.FenceItem.{FenceItem}
use Rattle.ev_graph.specs.declared.events.FenceKind.{FenceKind}
use Rattle.ev_graph.specs.declared.events.FenceKind.TheVariants.{DmbLd, DmbSt, DmbFull, Mfence}
use Rattle.ev_graph.specs.declared.events.Item.{Item}
use Rattle.ev_graph.specs.declared.events.Item.TheVariants as item
use Rattle.ev_graph.specs.declared.execution.Execution.{Execution}
use Rattle.ev_graph.specs.declared.execution.Stack.{Stack}
use Rattle.ev_graph.specs.declared.execution.ThreadRun.{ThreadRun}
use Rattle.ev_graph.specs.Memory.{cells_of, memory, Fits}
use Rattle.ev_graph.specs.Start.{start_at}
use Rattle.ev_graph.specs.Events.{Event, event, events, accesses, accesses_before, items_of, IsIn, IsRead, IsWrite, IsLocked, Overlap, FenceBetween}
use Rattle.ev_graph.specs.Pairs.{Rmw}
use Rattle.ev_graph.specs.WellFormed.{is_write, WellFormed}
use Rattle.ev_graph.proofs.Threads.{items_of_some, items_of_none}
use Rattle.order_models.specs.Orders.{Arm, Tso}
use Rattle.order_models.specs.Consistent.{Consistent}
use Rattle.graph_maps.specs.Needs.{SameEvents, MfencesFrom, arm_fences, HasMappingFences, HasPrivate}
use Rattle.graph_maps.proofs.ToTso.{arm_is_tso_lem}
use Rattle.graph_maps.proofs.Sources.{well_formed_has_sources_lem}
use Rattle.behavior.specs.Acts.{Permission}
use Rattle.behavior.specs.Run.{Run}
use Rattle.behavior.specs.Seen.{trace, given, counted, all_items}
use Rattle.behavior.specs.Numbered.{numbered, numbered_from}
use Rattle.behavior.specs.Kept.{Backward}
use Rattle.behavior.specs.Explained.{Explains}
use Rattle.behavior.proofs.Explanations.{explained, explanation_trace, explanation_first}
use Rattle.behavior.proofs.SeenLemmas.{given-trace, counted-trace}
use Rattle.behavior.proofs.NumberedLemmas.{trace-numbered, given-numbered, counted-numbered, all-numbered}
use Rattle.x64_syntax.specs.declared.slots.Slot.{Slot}
use Rattle.x64_table.specs.State.{Thread}
use Rattle.x64_table.proofs.CallerLemmas.{steps_open}
use Rattle.elf_read.specs.ElfFile.{segments_of, threads_of}
use Rattle.elf_write.specs.Image.{code_part, kept}
use Rattle.cfg_walk.specs.declared.code.Code.{Code}
use Rattle.cfg_walk.specs.Machine.{code_for_threads, thread_step}
use Rattle.fence_plan.specs.Private.{is_private, slot_kind, privacy}
use Rattle.fence_plan.specs.Planned.{Follows}
use Rattle.fence_plan.specs.Guards.{Guards, open_at_start}
use Rattle.fence_plan.proofs.CallerLemmas.{bare, is_hidden, turn_is, IsPlannedFor, followed_mapping, followed_full}
use Rattle.carry_spec.specs.Threads.{x64_start, a64_start, allowed, x64_thread, a64_thread, OnThreads, OfEachThread}
use Rattle.carry_spec.specs.Executions.{IsRunOf, IsInputThread, IsInputExecution, IsImageExecution}
use Rattle.carry_spec.specs.Explained.{ExplainsThread, IsExplanation, IsTame, Accounts}
use Rattle.translate_core.proofs.SameThreads.{AreAlike, same_events, StartsAlike, same_form, same_final}
use Rattle.translate_core.proofs.StartBytes.{same_start, allowed_some}

-- an access is allowed
abbrev pub IsPermitted : Permission → Item → Type 0
IsPermitted may (item.Access a) = may (is_write a.kind) a.address a.size ≡ true
IsPermitted may (item.Fence f) = Unit {0}
IsPermitted may (item.Input t) = Unit {0}
IsPermitted may (item.Output t) = Unit {0}

-- Each run of the target has the trace and the end of one of the source, which with its planned fences is guarded, and whose
-- barriers it follows.
abbrev pub IsPlanned : (private : Slot → Bool) → OnThreads
IsPlanned private source s target t = (made : List Item) (end : End) (n : ℕ) → Run target t made end n
    → (from : List Item) × (m : ℕ) × Run source s (bare from) end m × (trace (bare from) ≡ trace made) × (trace from ≡ trace made)
    × Guards (λ a. is_private private a) open_at_start from × Follows private from made

-- what is known of an input and its image
pub record Facts (private : Slot → Bool) (input image : List ℕ) (code : Code) (address : ℕ) (words : List ℕ) : Type 0 where
  pub parts : segments_of image ≡ kept (segments_of input) ++ code_part address words ∷ []
  pub count : length (threads_of image) ≡ length (threads_of input)
  pub layouts : (stacks : List Stack) → Fits (segments_of image) (length (threads_of image)) stacks → Fits (segments_of input) (length (threads_of input)) stacks
  pub planned : OfEachThread input image code address words (IsPlanned private)
  -- the input's code makes accesses that are allowed
  pub permitted : (may : Permission) (s : Thread) (items : List Item) (end : End) (n : ℕ) → Run (thread_step may code) s items end n → AllByRecursion (IsPermitted may) items

get_within : {A : Type 0} (xs : List A) (k : ℕ) → k < length xs → (x : A) × (slice_get xs k ≡ Some x)
get_within [] k low = absurd (omega (arith, low))
get_within (x ∷ xs) zero low = (x, refl)
get_within (x ∷ xs) (suc k) low = get_within xs k (omega (arith, low))

no_some : {A : Type 0} {v : A} → None ≡ Some v → ⊥
no_some e = absurd cc

same_some : {A : Type 0} {u v : A} → Some u ≡ Some v → u ≡ v
same_some e = cc

-- where a thread of an execution begins, and its stack
record Place (input image : List ℕ) (x : Execution) (k : ℕ) : Type 0 where
  from : ℕ
  to : ℕ
  stack : Stack
  at_from : slice_get (threads_of input) k ≡ Some from
  at_to : slice_get (threads_of image) k ≡ Some to
  at_stack : slice_get x.stacks k ≡ Some stack

-- a thread of the image with that of its explanation
record Explained (private : Slot → Bool) (input image : List ℕ) (code : Code) (address : ℕ) (words : List ℕ) (x : Execution) (k : ℕ) (a b : ThreadRun) : Type 0 where
  place : Place input image x k
  ran : IsRunOf (a64_thread (segments_of image) x.stacks address words) (a64_start k place.stack place.to) k a
  source : ExplainsThread (segments_of input) code x.stacks k place.from place.stack a b
  known : IsPlannedFor private ran.made source.items
  same : trace b.items ≡ trace a.items

-- ---- names of accesses

privacy-numbered : (private : Slot → Bool) (t i : ℕ) (xs : List Item) → privacy private (numbered_from t i xs) ≡ privacy private xs
privacy-numbered private t i [] = refl
privacy-numbered private t i (item.Access a ∷ xs) = ap (λ l. is_private private a ∷ l) (privacy-numbered private t (suc i) xs)
privacy-numbered private t i (item.Fence f ∷ xs) = privacy-numbered private t i xs
privacy-numbered private t i (item.Input v ∷ xs) = privacy-numbered private t i xs
privacy-numbered private t i (item.Output v ∷ xs) = privacy-numbered private t i xs

-- an event of named items is an access of the items
event_access : (t i : ℕ) (xs : List Item) (n : ℕ) (e : Event) → slice_get (events (numbered_from t i xs)) n ≡ Some e
    → (c : Access) × (slice_get (accesses xs) n ≡ Some c) × (c.kind ≡ e.kind) × (c.locked ≡ e.locked)
event_access t i [] n e here = absurd (no_some here)
event_access t i (item.Access c ∷ xs) zero e here = (c, refl, ap (λ (d : Event). d.kind) (same_some here), ap (λ (d : Event). d.locked) (same_some here))
event_access t i (item.Access c ∷ xs) (suc n) e here = event_access t (suc i) xs n e here
event_access t i (item.Fence f ∷ xs) n e here = event_access t i xs n e here
event_access t i (item.Input v ∷ xs) n e here = event_access t i xs n e here
event_access t i (item.Output v ∷ xs) n e here = event_access t i xs n e here

-- a fence at a place of items, and of items with names
fence_named : (t i : ℕ) (xs : List Item) (place : ℕ) (f : FenceItem) → slice_get xs place ≡ Some (item.Fence f)
    → (slice_get (numbered_from t i xs) place ≡ Some (item.Fence f)) × (accesses_before (numbered_from t i xs) place ≡ accesses_before xs place)
fence_named t i [] place f e = absurd (no_some e)
fence_named t i (item.Access a ∷ xs) zero f e = absurd cc
fence_named t i (item.Access a ∷ xs) (suc place) f e = let rest = fence_named t (suc i) xs place f e in (rest.0, ap suc rest.1)
fence_named t i (item.Fence g ∷ xs) zero f e = (e, refl)
fence_named t i (item.Fence g ∷ xs) (suc place) f e = fence_named t i xs place f e
fence_named t i (item.Input v ∷ xs) zero f e = absurd cc
fence_named t i (item.Input v ∷ xs) (suc place) f e = fence_named t i xs place f e
fence_named t i (item.Output v ∷ xs) zero f e = absurd cc
fence_named t i (item.Output v ∷ xs) (suc place) f e = fence_named t i xs place f e

fence_unnamed : (t i : ℕ) (xs : List Item) (place : ℕ) (f : FenceItem) → slice_get (numbered_from t i xs) place ≡ Some (item.Fence f)
    → (slice_get xs place ≡ Some (item.Fence f)) × (accesses_before xs place ≡ accesses_before (numbered_from t i xs) place)
fence_unnamed t i [] place f e = absurd (no_some e)
fence_unnamed t i (item.Access a ∷ xs) zero f e = absurd cc
fence_unnamed t i (item.Access a ∷ xs) (suc place) f e = let rest = fence_unnamed t (suc i) xs place f e in (rest.0, ap suc rest.1)
fence_unnamed t i (item.Fence g ∷ xs) zero f e = (e, refl)
fence_unnamed t i (item.Fence g ∷ xs) (suc place) f e = fence_unnamed t i xs place f e
fence_unnamed t i (item.Input v ∷ xs) zero f e = absurd cc
fence_unnamed t i (item.Input v ∷ xs) (suc place) f e = fence_unnamed t i xs place f e
fence_unnamed t i (item.Output v ∷ xs) zero f e = absurd cc
fence_unnamed t i (item.Output v ∷ xs) (suc place) f e = fence_unnamed t i xs place f e

named : (kind : FenceKind) (t : ℕ) (xs : List Item) (m n : ℕ) → FenceBetween kind xs m n → FenceBetween kind (numbered t xs) m n
named kind t xs m n f =
    let here = fence_named t 0 xs f.place f.fence f.here in
    record { place = f.place; fence = f.fence; here = here.0; same = f.same; behind = omega (arith, here.1, f.behind); ahead = omega (arith, here.1, f.ahead) }

unnamed_fence : (kind : FenceKind) (t : ℕ) (xs : List Item) (m n : ℕ) → FenceBetween kind (numbered t xs) m n → FenceBetween kind xs m n
unnamed_fence kind t xs m n f =
    let here = fence_unnamed t 0 xs f.place f.fence f.here in
    record { place = f.place; fence = f.fence; here = here.0; same = f.same; behind = omega (arith, here.1, f.behind); ahead = omega (arith, here.1, f.ahead) }

-- the fences of the mapping between two events of items
record MappedEvents (xs : List Item) (m n : ℕ) (a b : Event) : Type 0 where
  full : IsLocked a ⊎ IsLocked b → FenceBetween DmbFull xs m n
  read : IsRead a → FenceBetween DmbLd xs m n ⊎ FenceBetween DmbFull xs m n
  writes : IsWrite a → IsWrite b → FenceBetween DmbSt xs m n ⊎ FenceBetween DmbFull xs m n

-- a locked read and the locked write that is the next access
abbrev IsNext : (a b : Event) → (m n : ℕ) → Type 0
IsNext a b m n = IsLocked a × IsRead a × IsLocked b × IsWrite b × (n ≡ suc m)

either : {A B C D : Type 0} → (A → C) → (B → D) → A ⊎ B → C ⊎ D
either f g (inl x) = inl (f x)
either f g (inr y) = inr (g y)

same_given : (xs ys : List Item) → trace xs ≡ trace ys → given xs ≡ given ys
same_given xs ys same = sym (given-trace xs) ∙ ap given same ∙ given-trace ys

same_counted : (xs ys : List Item) → trace xs ≡ trace ys → counted xs ≡ counted ys
same_counted xs ys same = sym (counted-trace xs) ∙ ap counted same ∙ counted-trace ys

-- an event of items is one of their accesses
of_event : (xs : List Item) (n : ℕ) (e : Event) → slice_get (events xs) n ≡ Some e → (c : Access) × (slice_get (accesses xs) n ≡ Some c) × (event c ≡ e)
of_event xs n e here = by (slice_get (accesses xs) n) refl (sym (slice_get-map event (accesses xs) n) ∙ here)
  where
    by : (o : Option Access) → slice_get (accesses xs) n ≡ o → option_map event o ≡ Some e → (c : Access) × (slice_get (accesses xs) n ≡ Some c) × (event c ≡ e)
    by None found some = absurd (no_some some)
    by (Some c) found some = (c, found, same_some some)

module _ (private : Slot → Bool) (input image : List ℕ) (code : Code) (address : ℕ) (words : List ℕ) (facts : Facts private input image code address words) where
  place_of : (x : Execution) → IsImageExecution image address words x → (k : ℕ) (a : ThreadRun) → slice_get x.threads k ≡ Some a → Place input image x k
  place_of x is k a here =
      let low : k < length x.threads = slice_get_within x.threads k a here in
      let from = get_within (threads_of input) k (omega (arith, low, is.one_each, facts.count)) in
      let to = get_within (threads_of image) k (omega (arith, low, is.one_each)) in
      let stack = get_within x.stacks k (omega (arith, low, is.one_each, is.fits.one_each)) in
      record { from = from.0; to = to.0; stack = stack.0; at_from = from.1; at_to = to.1; at_stack = stack.1 }

  -- an explanation of one list of items is one of another with the same values and as many accesses, inputs and outputs
  moved : (stacks : List Stack) (s : Thread) (end : End) (explains made other : List Item) → given made ≡ given other → counted made ≡ counted other
      → Explains (x64_thread (segments_of input) stacks code) s made end explains → Explains (x64_thread (segments_of input) stacks code) s other end explains
  moved stacks s end items made other values many explains =
      let on = explains.is_on_same in
      record {
        is_on_same = record { begun = on.begun; run = on.run; values = on.values ∙ values; many = on.many ∙ many };
        fewest = λ another same. explains.fewest another (record { begun = same.begun; run = same.run; values = same.values ∙ sym values; many = same.many ∙ sym many });
      }

  backward_of : OfEachThread input image code address words Backward
  backward_of stacks fits k from to stack at_from at_to at_stack made end n run =
      let one = facts.planned stacks fits k from to stack at_from at_to at_stack made end n run in
      (bare one.0, one.1, one.2, one.3)

  explained_thread : (x y : Execution) → IsImageExecution image address words x → IsExplanation input code x y → (k : ℕ) (a b : ThreadRun)
      → slice_get x.threads k ≡ Some a → slice_get y.threads k ≡ Some b → Explained private input image code address words x k a b
  explained_thread x y is explains k a b here there =
      let place = place_of x is k a here in
      let ran = is.runs k place.to place.stack a place.at_to place.at_stack here in
      let source = explains.threads k place.from place.stack a b place.at_from place.at_stack here there in
      let may = allowed (segments_of input) x.stacks in
      let step = x64_thread (segments_of input) x.stacks code in
      let s = x64_start k place.stack place.from in
      let one = facts.planned x.stacks is.fits k place.from place.to place.stack place.at_from place.at_to place.at_stack ran.made a.end ran.begun ran.run in
      let mine = moved x.stacks s a.end source.items a.items ran.made (ap given ran.items ∙ given-numbered k 0 ran.made) (ap counted ran.items ∙ counted-numbered k 0 ran.made) source.explains in
      let traced = explanation_trace step (steps_open may (code_for_threads code)) (a64_thread (segments_of image) x.stacks address words) s (a64_start k place.stack place.to)
      (backward_of x.stacks is.fits k place.from place.to place.stack place.at_from place.at_to place.at_stack) ran.run mine in
      let front = explanation_first step (steps_open may (code_for_threads code)) all_items (λ xs ys same. ap trace same) step s s (λ made end n run. (made, n, run, refl)) one.2
      (moved x.stacks s a.end source.items ran.made (bare one.0) (sym (same_given (bare one.0) ran.made one.3)) (sym (same_counted (bare one.0) ran.made one.3)) mine) in
      record {
        place = place;
        ran = ran;
        source = source;
        known = record {
          from = one.0;
          rest = front.1;
          guards = one.5;
          follows = one.6;
          same = one.4;
          front = sym front.3 ∙ front.2;
          trace_is = traced;
        };
        same = ap trace source.named ∙ trace-numbered k 0 source.items ∙ ap (numbered k) traced ∙ sym (trace-numbered k 0 ran.made) ∙ ap trace (sym ran.items);
      }

  -- ---- thread by thread

  module _ (x y : Execution) (is : IsImageExecution image address words x) (explains : IsExplanation input code x y) where
    same_thread : (k : ℕ) (a : ThreadRun) → slice_get x.threads k ≡ Some a → (b : ThreadRun) × (slice_get y.threads k ≡ Some b)
    same_thread k a here = get_within y.threads k (omega (arith, slice_get_within x.threads k a here, explains.one_each))

    other_thread : (k : ℕ) (b : ThreadRun) → slice_get y.threads k ≡ Some b → (a : ThreadRun) × (slice_get x.threads k ≡ Some a)
    other_thread k b there = get_within x.threads k (omega (arith, slice_get_within y.threads k b there, explains.one_each))

    -- what holds of the threads that there are holds of all numbers
    each_number : (P : List Item → List Item → Type 0) → P [] []
        → ((k : ℕ) (a b : ThreadRun) → slice_get x.threads k ≡ Some a → slice_get y.threads k ≡ Some b → P a.items b.items)
        → (t : ℕ) → P (items_of x.threads t) (items_of y.threads t)
    each_number P none some t = by_thread (slice_get x.threads t) refl (slice_get y.threads t) refl
      where
        by_thread : (o : Option ThreadRun) → slice_get x.threads t ≡ o → (p : Option ThreadRun) → slice_get y.threads t ≡ p → P (items_of x.threads t) (items_of y.threads t)
        by_thread (Some a) here (Some b) there =
            subst (λ l. P l (items_of y.threads t)) (sym (items_of_some x.threads t a here))
            (subst (λ l. P a.items l) (sym (items_of_some y.threads t b there)) (some t a b here there))
        by_thread None here None there =
            subst (λ l. P l (items_of y.threads t)) (sym (items_of_none x.threads t here)) (subst (λ l. P [] l) (sym (items_of_none y.threads t there)) none)
        by_thread (Some a) here None there = absurd (no_some (sym there ∙ (same_thread t a here).1))
        by_thread None here (Some b) there = absurd (no_some (sym here ∙ (other_thread t b there).1))

    alike : AreAlike x.threads y.threads
    alike t = each_number (λ xs ys. trace xs ≡ trace ys) refl (λ k a b here there. sym (explained_thread x y is explains k a b here there).same) t

    -- the explanation's accesses are allowed
    permitted : (t : ℕ) → AllByRecursion (IsPermitted (allowed (segments_of input) x.stacks)) (items_of y.threads t)
    permitted t = each_number (λ xs ys. AllByRecursion (IsPermitted may) ys) tt thread t
      where
        may : Permission
        may = allowed (segments_of input) x.stacks

        thread : (k : ℕ) (a b : ThreadRun) → slice_get x.threads k ≡ Some a → slice_get y.threads k ≡ Some b → AllByRecursion (IsPermitted may) b.items
        thread k a b here there =
            let one = explained_thread x y is explains k a b here there in
            let on = one.source.explains.is_on_same in
            subst (AllByRecursion (IsPermitted may)) (sym one.source.named)
            (all-numbered (IsPermitted may) (λ c t i known. known) k 0 one.source.items
            (facts.permitted may (x64_start k one.place.stack one.place.from) one.source.items a.end on.begun on.run))

    same_events_of : SameEvents x y
    same_events_of = record {
      threads = λ t. sym (same_events (items_of x.threads t) (items_of y.threads t) (alike t));
      rf = explains.rf;
      co = explains.co;
      rmw = explains.rmw;
    }

    -- ---- consistency

    -- whether the explanation's access with this id is private
    abbrev hidden : EventId → Bool
    hidden id = is_hidden (privacy private (items_of y.threads id.thread)) id.index

    -- the fences of the mapping, thread by thread
    abbrev Maps : List Item → List Item → Type 0
    Maps xs ys = (m n : ℕ) (a b : Event) → m < n → slice_get (events xs) m ≡ Some a → slice_get (events xs) n ≡ Some b
        → is_hidden (privacy private ys) m ≡ false → is_hidden (privacy private ys) n ≡ false → (IsNext a b m n → ⊥) → MappedEvents xs m n a b

    maps : (t : ℕ) → Maps (items_of x.threads t) (items_of y.threads t)
    maps t = each_number Maps (λ m n a b order first second one two other. absurd (no_some first)) thread t
      where
        thread : (k : ℕ) (a b : ThreadRun) → slice_get x.threads k ≡ Some a → slice_get y.threads k ≡ Some b → Maps a.items b.items
        thread k run_a run_b here there =
            let one = explained_thread x y is explains k run_a run_b here there in
            subst (λ l. Maps l run_b.items) (sym one.ran.items) (subst (λ l. Maps (numbered k one.ran.made) l) (sym one.source.named) (in_thread one))
          where
            in_thread : (one : Explained private input image code address words x k run_a run_b) → Maps (numbered k one.ran.made) (numbered k one.source.items)
            in_thread one m n a b order first second shown_m shown_n other =
                let c = event_access k 0 one.ran.made m a first in
                let d = event_access k 0 one.ran.made n b second in
                let turn = privacy-numbered private k 0 one.source.items in
                let inner = followed_mapping private one.ran.made one.source.items one.known m n c.0 d.0 order c.1 d.1
                (subst (λ l. is_hidden l m ≡ false) turn shown_m) (subst (λ l. is_hidden l n ≡ false) turn shown_n)
                (λ pair. other (sym c.3 ∙ pair.0, sym c.2 ∙ pair.1, sym d.3 ∙ pair.2, sym d.2 ∙ pair.3, pair.4)) in
                record {
                  full = λ locked. named DmbFull k one.ran.made m n (inner.full (either (λ l. c.3 ∙ l) (λ l. d.3 ∙ l) locked));
                  read = λ is. either (named DmbLd k one.ran.made m n) (named DmbFull k one.ran.made m n) (inner.read (c.2 ∙ is));
                  writes = λ is another. either (named DmbSt k one.ran.made m n) (named DmbFull k one.ran.made m n) (inner.writes (c.2 ∙ is) (d.2 ∙ another));
                }

    -- where the explanation has an MFENCE the image has a full barrier
    abbrev Fulls : List Item → List Item → Type 0
    Fulls xs ys = (m n : ℕ) (a b : Event) → slice_get (events xs) m ≡ Some a → slice_get (events xs) n ≡ Some b
        → is_hidden (privacy private ys) m ≡ false → is_hidden (privacy private ys) n ≡ false → FenceBetween Mfence ys m n → FenceBetween DmbFull xs m n

    fulls : (t : ℕ) → Fulls (items_of x.threads t) (items_of y.threads t)
    fulls t = each_number Fulls (λ m n a b first second one two f. absurd (no_some first)) thread t
      where
        thread : (k : ℕ) (a b : ThreadRun) → slice_get x.threads k ≡ Some a → slice_get y.threads k ≡ Some b → Fulls a.items b.items
        thread k run_a run_b here there =
            let one = explained_thread x y is explains k run_a run_b here there in
            subst (λ l. Fulls l run_b.items) (sym one.ran.items) (subst (λ l. Fulls (numbered k one.ran.made) l) (sym one.source.named) (in_thread one))
          where
            in_thread : (one : Explained private input image code address words x k run_a run_b) → Fulls (numbered k one.ran.made) (numbered k one.source.items)
            in_thread one m n a b first second shown_m shown_n f =
                let c = event_access k 0 one.ran.made m a first in
                let d = event_access k 0 one.ran.made n b second in
                let turn = privacy-numbered private k 0 one.source.items in
                named DmbFull k one.ran.made m n (followed_full private one.ran.made one.source.items one.known m n c.0 d.0 c.1 d.1
                (subst (λ l. is_hidden l m ≡ false) turn shown_m) (subst (λ l. is_hidden l n ≡ false) turn shown_n) (unnamed_fence Mfence k one.source.items m n f))

    mfences : MfencesFrom DmbFull hidden x y
    mfences a b first second order one other fenced =
        let t = a.id.thread in
        let there : slice_get (events (items_of x.threads t)) b.id.index ≡ Some b = subst (λ u. slice_get (events (items_of x.threads u)) b.id.index ≡ Some b) (sym order.thread) second in
        let two : is_hidden (privacy private (items_of y.threads t)) b.id.index ≡ false = subst (λ u. is_hidden (privacy private (items_of y.threads u)) b.id.index ≡ false) (sym order.thread) other in
        fulls t a.id.index b.id.index a b first there one two fenced

    mapping : WellFormed (cells_of (segments_of image)) x → HasMappingFences arm_fences hidden x
    mapping form a b first second order one other apart =
        let t = a.id.thread in
        let there : slice_get (events (items_of x.threads t)) b.id.index ≡ Some b = subst (λ u. slice_get (events (items_of x.threads u)) b.id.index ≡ Some b) (sym order.thread) second in
        let two : is_hidden (privacy private (items_of y.threads t)) b.id.index ≡ false = subst (λ u. is_hidden (privacy private (items_of y.threads u)) b.id.index ≡ false) (sym order.thread) other in
        let inner = maps t a.id.index b.id.index a b order.order first there one two (λ next. apart (is_rmw next)) in
        record { locked = inner.full; read = inner.read; writes = inner.writes }
      where
        is_rmw : IsNext a b a.id.index b.id.index → Rmw x.rmw a b
        is_rmw next =
            let at_b : slice_get (events (items_of x.threads a.id.thread)) b.id.index ≡ Some b = subst (λ u. slice_get (events (items_of x.threads u)) b.id.index ≡ Some b) (sym order.thread) second in
            (form.shaped.pairs (record { first = a.id; second = b.id })).1 (
              order.thread,
              (
                omega (arith, next.4),
                subst (λ o. IsSomeAnd o IsRead) (sym first) next.1,
                subst (λ o. IsSomeAnd o IsLocked) (sym first) next.0,
                subst (λ o. IsSomeAnd o IsWrite) (sym at_b) next.3,
                subst (λ o. IsSomeAnd o IsLocked) (sym at_b) next.2,
              ),
            )

    -- the explanation's access with the id of an event of the image
    access_of : (a : Event) → IsIn x.threads a → (c : Access) × (slice_get (accesses (items_of y.threads a.id.thread)) a.id.index ≡ Some c) × (event c ≡ a)
    access_of a here = of_event (items_of y.threads a.id.thread) a.id.index a (ap (λ es. slice_get es a.id.index) (same_events_of.threads a.id.thread) ∙ here)

    hidden_private : (a : Event) (c : Access) → slice_get (accesses (items_of y.threads a.id.thread)) a.id.index ≡ Some c → hidden a.id ≡ true → is_private private c ≡ true
    hidden_private a c there turn = sym (turn_is private (items_of y.threads a.id.thread) a.id.index c there) ∙ turn

    private_apart : WellFormed (cells_of (segments_of image)) x → IsTame private y → HasPrivate hidden x
    private_apart form tame = record {
      unlocked = λ a here turn.
          let c = access_of a here in
          sym (ap (λ (e : Event). e.locked) c.2) ∙ free c.0.locked (private (record { address = c.0.place; kind = slot_kind c.0.kind })) (hidden_private a c.0 c.1 turn);
      apart = λ a b here there turn external overlap.
          let c = access_of a here in
          let d = access_of b there in
          (tame.apart a.id.thread a.id.index c.0 c.1 (hidden_private a c.0 c.1 turn)).1 b.id.thread b.id.index d.0 d.1
          (λ same. external (sym (ap (λ (e : Event). e.id.thread) c.2) ∙ sym same ∙ ap (λ (e : Event). e.id.thread) d.2))
          (subst (λ e. Overlap e (event d.0)) (sym c.2) (subst (λ e. Overlap a e) (sym d.2) overlap));
      sources = well_formed_has_sources_lem (cells_of (segments_of image)) x form;
    }
      where
        free : (l q : Bool) → (not l && q) ≡ true → l ≡ false
        free true q e = absurd cc
        free false q e = refl

    consistent_tso : WellFormed (cells_of (segments_of image)) x → IsTame private y → Consistent Arm false x → Consistent Tso true y
    consistent_tso form tame consistent = arm_is_tso_lem hidden x y same_events_of mfences (private_apart form tame) form.shaped.pairs (mapping form) consistent

    -- ---- memory

    allowed_at : (xs : List Item) (may : Permission) (n : ℕ) (a : Access) → AllByRecursion (IsPermitted may) xs → slice_get (accesses xs) n ≡ Some a → may (is_write a.kind) a.address a.size ≡ true
    allowed_at [] may n a all here = absurd (no_some here)
    allowed_at (item.Access c ∷ xs) may zero a all here = subst (λ (d : Access). may (is_write d.kind) d.address d.size ≡ true) (same_some here) all.0
    allowed_at (item.Access c ∷ xs) may (suc n) a all here = allowed_at xs may n a all.1 here
    allowed_at (item.Fence f ∷ xs) may n a all here = allowed_at xs may n a all.1 here
    allowed_at (item.Input t ∷ xs) may n a all here = allowed_at xs may n a all.1 here
    allowed_at (item.Output t ∷ xs) may n a all here = allowed_at xs may n a all.1 here

    start_same : (n : ℕ) → IsSome (memory (segments_of input) x.stacks n) → start_at (cells_of (segments_of input)) y.stacks n ≡ start_at (cells_of (segments_of image)) x.stacks n
    start_same n some =
        ap (λ stacks. start_at (cells_of (segments_of input)) stacks n) explains.stacks
        ∙ same_start (segments_of input) (segments_of image) address words x.stacks facts.parts is.fits.off_parts n some

    starts_alike : StartsAlike (start_at (cells_of (segments_of image)) x.stacks) (start_at (cells_of (segments_of input)) y.stacks) y.threads
    starts_alike t n b k byte at low begun =
        let may = allowed_at (items_of y.threads t) (allowed (segments_of input) x.stacks) n b (permitted t) at in
        start_same (b.address + k) (allowed_some (memory (segments_of input) x.stacks) (is_write b.kind) b.address b.size k may low) ∙ begun

    input_execution : IsInputExecution input code y
    input_execution = record {
      fits = subst (λ stacks. Fits (segments_of input) (length (threads_of input)) stacks) (sym explains.stacks) (facts.layouts x.stacks is.fits);
      one_each = explains.one_each ∙ is.one_each ∙ facts.count;
      runs = thread;
    }
      where
        thread : (k at : ℕ) (stack : Stack) (b : ThreadRun) → slice_get (threads_of input) k ≡ Some at → slice_get y.stacks k ≡ Some stack → slice_get y.threads k ≡ Some b
            → IsInputThread (segments_of input) code y.stacks k at stack b
        thread k at stack b begins stands there =
            let a = other_thread k b there in
            let mine : slice_get x.stacks k ≡ Some stack = subst (λ stacks. slice_get stacks k ≡ Some stack) explains.stacks stands in
            let source = explains.threads k at stack a.0 b begins mine a.1 there in
            let on = source.explains.is_on_same in
            subst (λ stacks. IsInputThread (segments_of input) code stacks k at stack b) (sym explains.stacks) (record {
              made = source.items;
              begun = on.begun;
              run = subst (λ end. Run (x64_thread (segments_of input) x.stacks code) (x64_start k stack at) source.items end on.begun) (sym source.same_end) on.run;
              items = source.named;
            })

    -- the explanation of a tame execution accounts for it
    pub accounts : WellFormed (cells_of (segments_of image)) x → IsTame private y → Consistent Arm false x → Accounts input image code x y
    accounts form tame consistent = record {
      execution = input_execution;
      well_formed = same_form (cells_of (segments_of image)) (cells_of (segments_of input)) x y (sym explains.one_each) alike explains.rf explains.co explains.rmw starts_alike form;
      consistent = consistent_tso form tame consistent;
      same = λ k a b here there. let one = explained_thread x y is explains k a b here there in (one.same, one.source.same_end);
      final = λ n found some final. same_final (cells_of (segments_of image)) (cells_of (segments_of input)) x y alike explains.co n found (start_same n some) final;
    }

  -- ---- there is an explanation

  -- threads that are chosen one by one
  chosen : (P : ℕ → ThreadRun → ThreadRun → Type 0) (k : ℕ) (threads : List ThreadRun)
      → ((i : ℕ) (a : ThreadRun) → slice_get threads i ≡ Some a → (b : ThreadRun) × P (k + i) a b)
      → (bs : List ThreadRun) × (length bs ≡ length threads) × ((i : ℕ) (a b : ThreadRun) → slice_get threads i ≡ Some a → slice_get bs i ≡ Some b → P (k + i) a b)
  chosen P k [] one = ([], refl, (λ i a b here there. absurd cc))
  chosen P k (a ∷ threads) one =
      let first = one 0 a refl in
      let rest = chosen P (suc k) threads (λ i c here. let next = one (suc i) c here in (next.0, subst (λ n. P n c next.0) (omega arith) next.1)) in
      (first.0 ∷ rest.0, ap suc rest.1, both first.0 first.1 rest.0 rest.2)
    where
      same : {A : Type 0} {u v : A} → Some u ≡ Some v → u ≡ v
      same e = cc

      both : (b : ThreadRun) → P (k + 0) a b → (bs : List ThreadRun) → ((i : ℕ) (c d : ThreadRun) → slice_get threads i ≡ Some c → slice_get bs i ≡ Some d → P (suc k + i) c d)
          → (i : ℕ) (c d : ThreadRun) → slice_get (a ∷ threads) i ≡ Some c → slice_get (b ∷ bs) i ≡ Some d → P (k + i) c d
      both b mine bs later zero c d here there = subst (λ e. P (k + 0) e d) (same here) (subst (P (k + 0) a) (same there) mine)
      both b mine bs later (suc i) c d here there = subst (λ n. P n c d) (omega arith) (later i c d here there)

  -- b explains a, wherever the thread begins and whatever its stack is
  abbrev ExplainsAny : Execution → ℕ → ThreadRun → ThreadRun → Type 0
  ExplainsAny x k a b = (at : ℕ) (stack : Stack) → slice_get (threads_of input) k ≡ Some at → slice_get x.stacks k ≡ Some stack → ExplainsThread (segments_of input) code x.stacks k at stack a b

  thread_explained : (x : Execution) → IsImageExecution image address words x → (k : ℕ) (a : ThreadRun) → slice_get x.threads k ≡ Some a → (b : ThreadRun) × ExplainsAny x k a b
  thread_explained x is k a here =
      let place = place_of x is k a here in
      let ran = is.runs k place.to place.stack a place.at_to place.at_stack here in
      let may = allowed (segments_of input) x.stacks in
      let backward = backward_of x.stacks is.fits k place.from place.to place.stack place.at_from place.at_to place.at_stack in
      let one = explained (x64_thread (segments_of input) x.stacks code) (steps_open may (code_for_threads code))
      (a64_thread (segments_of image) x.stacks address words) (x64_start k place.stack place.from) (a64_start k place.stack place.to) backward ran.run in
      let values = ap given ran.items ∙ given-numbered k 0 ran.made in
      let many = ap counted ran.items ∙ counted-numbered k 0 ran.made in
      let on = one.1.is_on_same in
      let b : ThreadRun = record { items = numbered k one.0; end = a.end } in
      let whole : ExplainsThread (segments_of input) code x.stacks k place.from place.stack a b = record {
        items = one.0;
        explains = record {
          is_on_same = record { begun = on.begun; run = on.run; values = on.values ∙ sym values; many = on.many ∙ sym many };
          fewest = λ other same. one.1.fewest other (record { begun = same.begun; run = same.run; values = same.values ∙ values; many = same.many ∙ many });
        };
        named = refl;
        same_end = refl;
      } in (
        b,
        (λ at stack begins stands. subst (λ n. ExplainsThread (segments_of input) code x.stacks k n stack a b) (same (sym place.at_from ∙ begins))
            (subst (λ s. ExplainsThread (segments_of input) code x.stacks k place.from s a b) (same (sym place.at_stack ∙ stands)) whole)),
      )
    where
      same : {A : Type 0} {u v : A} → Some u ≡ Some v → u ≡ v
      same e = cc

  -- each execution of the image has an explanation
  pub explanation : (x : Execution) → IsImageExecution image address words x → (y : Execution) × IsExplanation input code x y
  explanation x is =
      let all = chosen (λ k a b. ExplainsAny x k a b) 0 x.threads (λ i a here. let one = thread_explained x is i a here in (one.0, subst (λ n. ExplainsAny x n a one.0) (omega arith) one.1)) in
      let y : Execution = record { stacks = x.stacks; threads = all.0; rf = x.rf; co = x.co; rmw = x.rmw } in (
        y,
        record {
          stacks = refl;
          one_each = all.1;
          threads = λ k at stack a b begins stands here there. subst (λ n. ExplainsAny x n a b) (omega arith) (all.2 k a b here there) at stack begins stands;
          rf = refl;
          co = refl;
          rmw = refl;
        },
      )
