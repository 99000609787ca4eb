use Rattle.std.proofs.Common.{◌≡◌, ◌++◌, List, length, refl, sym, ap, ◌∙◌, subst, arith}
use Rattle.std.specs.Prelude.{MatchOption, Ok}
use Rattle.std.proofs.lemmas.Result.{err_from_is_err_and}
use Rattle.ev_graph.specs.declared.execution.Stack.{Stack}
use Rattle.ev_graph.specs.declared.execution.ThreadRun.{ThreadRun}
use Rattle.ev_graph.specs.Memory.{Fits}
use Rattle.elf_write.specs.Image.{image_parts}
use Rattle.arm_replay.specs.Layouts.{ArePlaced, IsFirstUnplaced}
use Rattle.arm_replay.specs.Memories.{low_step}
use Rattle.arm_replay.specs.Replays.{AreRunsBy, WalksTo, all_entries, all_pairs}
use Rattle.arm_replay.proofs.LayoutLemmas.{placed_fits}
use Rattle.arm_replay.proofs.MemoryLemmas.{low_same}
use Rattle.arm_replay.proofs.RunLemmas.{walks_fault}
use Rattle.arm_replay.proofs.execution.replay.Goals as goal

pub returns-in_err-threads-clause-fault : goal.returns-in_err-threads-clause-fault
returns-in_err-threads-clause-fault c =
    let image = c.args.image.now in
    let file = c.args.file.now in
    let stacks = c.as_slice-stacks.result.now in
    let same_stacks : stacks ≡ file.stacks = c.as_slice-stacks.ensures in
    let placed : ArePlaced (image_parts image) stacks (length stacks) =
    subst (λ r. MatchOption r (ArePlaced (image_parts image) stacks (length stacks)) (IsFirstUnplaced (image_parts image) stacks)) c.in_default.is c.first_unplaced.ensures in
    let many : length stacks ≡ length image.threads = c.if-stacks-as_slice.false ∙ ap length c.as_slice.ensures in
    let fits : Fits (image_parts image) (length image.threads) file.stacks =
    subst (λ l. Fits (image_parts image) (length image.threads) l) same_stacks (placed_fits (image_parts image) (length image.threads) stacks many placed) in
    let same = low_same image file.stacks c.requires.image fits in
    let p = err_from_is_err_and c.from_residual-in_err-threads.result c.from_residual-in_err-threads.ensures.1 in
    rw (p.1, p.2) (walks_fault (low_step image file.stacks) image file _ same fits c.in_err-threads.ensures)

pub returns-clause-replayed : goal.returns-clause-replayed
returns-clause-replayed c =
    let image = c.args.image.now in
    let file = c.args.file.now in
    let stacks = c.as_slice-stacks.result.now in
    let same_stacks : stacks ≡ file.stacks = c.as_slice-stacks.ensures in
    let placed : ArePlaced (image_parts image) stacks (length stacks) =
    subst (λ r. MatchOption r (ArePlaced (image_parts image) stacks (length stacks)) (IsFirstUnplaced (image_parts image) stacks)) c.in_default.is c.first_unplaced.ensures in
    let many : length stacks ≡ length image.threads = c.if-stacks-as_slice.false ∙ ap length c.as_slice.ensures in
    let fits : Fits (image_parts image) (length image.threads) file.stacks =
    subst (λ l. Fits (image_parts image) (length image.threads) l) same_stacks (placed_fits (image_parts image) (length image.threads) stacks many placed) in
    let same = low_same image file.stacks c.requires.image fits in
    let threads = c.threads.inside.items.items in
    let view = c.threads.view_is in
    let walks : WalksTo (low_step image file.stacks) image file (Ok threads) = subst (λ (l : List ThreadRun). WalksTo (low_step image file.stacks) image file (Ok l)) (sym view) c.in_ok-threads.ensures in
    record {
      stacks = c.of.ensures ∙ c.in_ok-from_slice.ensures.items ∙ same_stacks;
      fits = fits;
      one_each = walks.0;
      runs = subst (λ step. AreRunsBy step image file threads) same walks.1;
      rf = c.of-2.ensures ∙ c.in_ok-rf.ensures ∙ ap (λ l. all_entries l c.as_slice-5.result.now) (c.as_slice-4.ensures ∙ sym view) ∙ ap (λ l. all_entries threads l) c.as_slice-5.ensures;
      co = c.of-3.ensures ∙ c.in_ok-from_slice-2.ensures.items ∙ c.as_slice-7.ensures;
      rmw = c.of-4.ensures ∙ c.in_ok-rmw.ensures ∙ ap all_pairs (c.as_slice-6.ensures ∙ sym view);
    }
