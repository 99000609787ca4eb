-- What a caller of this crate cites: an execution that was replayed is what its threads' items say, and its accesses lie low.
use Rattle.std.proofs.Common.{◌≡◌, ℕ, ◌+◌, ◌^◌, ◌≤◌, List, [], length, Option, Some, None, refl, sym, ap, ◌∙◌, subst, arith}
use Rattle.std.specs.Prelude.{slice_get}
use Rattle.std.proofs.lemmas.Option.{slice_get_within}
use Rattle.ev_graph.specs.declared.events.Access.{Access}
use Rattle.ev_graph.specs.declared.events.EventId.{EventId}
use Rattle.ev_graph.specs.declared.events.Item.{Item}
use Rattle.ev_graph.specs.declared.execution.Execution.{Execution}
use Rattle.ev_graph.specs.declared.execution.Stack.{Stack}
use Rattle.ev_graph.specs.declared.execution.ThreadRun.{ThreadRun}
use Rattle.ev_graph.specs.Places.{StandsIn}
use Rattle.ev_graph.specs.Events.{accesses, items_of}
use Rattle.ev_graph.specs.WellFormed.{IsIndexed, IsShaped, EachAccess, IsAddressable}
use Rattle.ev_graph.proofs.Threads.{items_of_some, items_of_none}
use Rattle.elf_write.specs.declared.image.Image.{Image}
use Rattle.elf_write.specs.Image.{IsImage}
use Rattle.exec_text.specs.declared.exec_file.ExecFile.{ExecFile}
use Rattle.exec_text.specs.declared.exec_file.GivenThread.{GivenThread}
use Rattle.exec_text.specs.Texts.{IsText}
use Rattle.exec_text.proofs.CallerLemmas.{text_is_small}
use Rattle.behavior.specs.Numbered.{numbered}
use Rattle.arm_replay.specs.Threads.{a64_start}
use Rattle.arm_replay.specs.Faults.{IsThreadReplay}
use Rattle.arm_replay.specs.Values.{reads, thread_entries}
use Rattle.arm_replay.specs.Replays.{thread_step, IsGiven, IsReplay}
use Rattle.arm_replay.proofs.AccessLemmas.{IsSized, run_sized, sized_at}
use Rattle.arm_replay.proofs.RunLemmas.{get_some}
use Rattle.arm_replay.proofs.ShapeLemmas.{named, AreEntries, all_reads, thread_are_entries, all_are_entries, entry_size, locked_from, locked_to}

-- what thread k is given, and its run
record RunOf (image : Image) (file : ExecFile) (k : ℕ) (thread : ThreadRun) : Type 0 where
  at : ℕ
  stack : Stack
  given : GivenThread
  is_given : IsGiven image file k at stack given
  replay : IsThreadReplay (thread_step image file.stacks) (a64_start k stack at) k given thread

run_of : (image : Image) (file : ExecFile) (x : Execution) → length file.threads ≡ length file.stacks → IsReplay image file x
    → (k : ℕ) (thread : ThreadRun) → slice_get x.threads k ≡ Some thread → RunOf image file k thread
run_of image file x many is k thread here =
    let within = slice_get_within x.threads k thread here in
    let one_each = is.one_each in
    let layout = is.fits.one_each in
    let at = get_some image.threads k (omega (arith, within, one_each)) in
    let stack = get_some file.stacks k (omega (arith, within, one_each, layout)) in
    let given = get_some file.threads k (omega (arith, within, one_each, layout, many)) in
    let is_given : IsGiven image file k at.0 stack.0 given.0 = record { begins = at.1; stack_is = stack.1; given_is = given.1 } in
    record { at = at.0; stack = stack.0; given = given.0; is_given = is_given; replay = is.runs k thread here at.0 stack.0 given.0 is_given }

none_there : (threads : List ThreadRun) (t n : ℕ) (a : Access) → slice_get threads t ≡ None → slice_get (accesses (items_of threads t)) n ≡ Some a → ⊥
none_there threads t n a none here =
    let there : slice_get (accesses []) n ≡ Some a = subst (λ (is : List Item). slice_get (accesses is) n ≡ Some a) (items_of_none threads t none) here in
    absurd cc

-- what holds of the accesses of each thread holds of all accesses
each_of : (P : ℕ → ℕ → Access → Type 0) (threads : List ThreadRun)
    → ((t : ℕ) (thread : ThreadRun) → slice_get threads t ≡ Some thread → (n : ℕ) (a : Access) → slice_get (accesses thread.items) n ≡ Some a → P t n a)
    → (t n : ℕ) (a : Access) → slice_get (accesses (items_of threads t)) n ≡ Some a → P t n a
each_of P threads each t n a here = by (slice_get threads t) refl
  where
    by : (o : Option ThreadRun) → slice_get threads t ≡ o → P t n a
    by None none = absurd (none_there threads t n a none here)
    by (Some thread) there =
        each t thread there n a (subst (λ (is : List Item). slice_get (accesses is) n ≡ Some a) (items_of_some threads t thread there) here)

indexed_of : (image : Image) (file : ExecFile) (x : Execution) → length file.threads ≡ length file.stacks → IsReplay image file x → IsIndexed x.threads
indexed_of image file x many is =
    each_of (λ t n a. a.id ≡ record { thread = t; index = n }) x.threads
    (λ t thread here n a found.
    let run = run_of image file x many is t thread here in
    let first : 0 + n ≡ n = omega arith in
    named t 0 run.replay.made n a (subst (λ (is : List Item). slice_get (accesses is) n ≡ Some a) run.replay.items found)
    ∙ ap {B = EventId} (λ j. record { thread = t; index = j }) first)

entries_of : (image : Image) (file : ExecFile) (x : Execution) → length file.threads ≡ length file.stacks → IsReplay image file x
    → (k : ℕ) (thread : ThreadRun) (values : GivenThread) → slice_get x.threads k ≡ Some thread → slice_get file.threads k ≡ Some values
    → AreEntries (reads thread.items) (thread_entries thread.items values.values)
entries_of image file x many is k thread values here given_is =
    let run = run_of image file x many is k thread here in
    let same : run.given ≡ values = (let first = run.is_given.given_is in cc) in
    subst (λ (v : GivenThread). AreEntries (reads thread.items) (thread_entries thread.items v.values)) same
    (subst (λ (is : List Item). AreEntries (reads is) (thread_entries is run.given.values)) (sym run.replay.items)
    (thread_are_entries k 0 run.replay.made run.given.values [] run.replay.takes))

-- an execution that was replayed has the names, the entries of rf and the locked pairs that its threads' items say
pub replay_is_shaped : (image : Image) (file : ExecFile) (x : Execution) → length file.threads ≡ length file.stacks → IsReplay image file x → IsShaped x
replay_is_shaped image file x many is =
    let indexed = indexed_of image file x many is in
    let one_each = is.one_each in
    let layout = is.fits.one_each in
    let all : AreEntries (all_reads x.threads) x.rf =
    subst (λ rf. AreEntries (all_reads x.threads) rf) (sym is.rf)
    (all_are_entries x.threads file.threads (omega (arith, one_each, layout, many)) (entries_of image file x many is)) in
    record {
      indexed = indexed;
      entries = record { reads = all.ids; sizes = entry_size x.threads x.rf indexed all };
      pairs = λ p. (
        (λ listed. locked_from x.threads indexed p (subst (λ rmw. StandsIn rmw p) is.rmw listed)),
        (λ pair. subst (λ rmw. StandsIn rmw p) (sym is.rmw) (locked_to x.threads indexed p pair)),
      );
    }

-- its accesses have 1 to 8 bytes, and end within the addresses of 64 bits
replay_is_sized : (image : Image) (file : ExecFile) (x : Execution) → IsImage image → length file.threads ≡ length file.stacks → IsReplay image file x
    → EachAccess (λ a. IsSized a.address a.size) x.threads
replay_is_sized image file x is_image many is =
    each_of (λ t n a. IsSized a.address a.size) x.threads
    (λ t thread here n a found.
    let run = run_of image file x many is t thread here in
    let all = run_sized image file.stacks is_image is.fits (a64_start t run.stack run.at) run.replay.made thread.end run.replay.begun t run.replay.run in
    sized_at (numbered t run.replay.made) n a all (subst (λ (is : List Item). slice_get (accesses is) n ≡ Some a) run.replay.items found))

pub replay_is_addressable : (image : Image) (file : ExecFile) (x : Execution) → IsImage image → length file.threads ≡ length file.stacks → IsReplay image file x
    → EachAccess IsAddressable x.threads
replay_is_addressable image file x is_image many is t n a here = (replay_is_sized image file x is_image many is t n a here).ends

pub replay_has_sizes : (image : Image) (file : ExecFile) (x : Execution) → IsImage image → length file.threads ≡ length file.stacks → IsReplay image file x
    → EachAccess (λ a. (1 ≤ a.size) × (a.size ≤ 8)) x.threads
replay_has_sizes image file x is_image many is t n a here =
    let sized = replay_is_sized image file x is_image many is t n a here in (sized.some, sized.few)

-- its order of writes is as short as the text's
pub replay_is_short : (text : List ℕ) (image : Image) (file : ExecFile) (x : Execution) → IsText text file → IsReplay image file x → length x.co ≤ 2 ^ 32
replay_is_short text image file x says is =
    let small = (text_is_small text file says).2.0 in
    let same : length x.co ≡ length file.co = ap length is.co in
    omega (arith, small, same)
