use Rattle.std.proofs.Common.{sym, ap, ◌∙◌, subst, arith}
use Rattle.cfg_walk.proofs.Instructions.{block_stretch}
use Rattle.lift.proofs.CallerLemmas.{instructions, are_lifted}
use Rattle.fence_merge.proofs.CallerLemmas.{placed_gaps}
use Rattle.isel.specs.Groups.{selected_end}
use Rattle.isel.specs.Selected.{MeansSteps}
use Rattle.a64_block.specs.Renamed.{IsRenamedEnd}
use Rattle.translate_core.specs.Passed.{LeadsOn}
use Rattle.translate_core.proofs.Ended.{leads_renamed, leads_from}
use Rattle.translate_core.proofs.BlockBarriers.{planned_barriers}
use Rattle.translate_core.proofs.BlockStations.{steps_count}
use Rattle.translate_core.proofs.block.pass_block.Goals as goal

-- src/block.rt:25:1
pub returns-clause-passed : goal.returns-clause-passed
returns-clause-passed c =
    let private = c.args.private.now.slots in
    let (ps, are) = instructions c.args.code.now c.args.number c.requires.code c.requires.number in
    let lifted = c.in_ok-lifted in
    let fenced = c.in_ok-fenced in
    let merged = c.in_ok-merged in
    let selected = c.in_ok-selected in
    let words = c.in_ok-words in
    record {
      block = are.block;
      ps = ps;
      known = (c.args.number, are.here);
      are = are.are;
      within = record {
        few = omega (arith, words.ensures.many, selected.ensures.few, merged.ensures.few lifted.lifted.steps fenced.ensures.fences, lifted.ensures.few ps are);
        end = subst (λ e. IsRenamedEnd e words.words.end) (selected.ensures.end ∙ ap selected_end (merged.ensures.end ∙ fenced.ensures.end ∙ lifted.ensures.end ps are)) words.ensures.end;
      };
      barriers = words.ensures.barriers ∙ selected.ensures.barriers
          ∙ planned_barriers private ps lifted.lifted.steps fenced.fenced.steps merged.merged.steps (placed_gaps private lifted.lifted.steps fenced.fenced.steps fenced.ensures.fences)
          (steps_count private 0 ps lifted.lifted.steps (lifted.ensures.steps ps are)) merged.ensures.planned;
      first = sym (words.ensures.first ∙ selected.ensures.first ∙ merged.ensures.first ∙ fenced.ensures.first ∙ lifted.ensures.first are.block are.here);
      passes = record {
        steps = lifted.lifted.steps;
        merged = merged.merged.steps;
        end = lifted.lifted.end;
        words = selected.selected.steps;
        words_end = selected.selected.end;
        lifts = lifted.ensures.meaning ps are;
        counts = steps_count private 0 ps lifted.lifted.steps (lifted.ensures.steps ps are);
        keeps = merged.ensures.meaning lifted.lifted.steps fenced.ensures.fences;
        follows = merged.ensures.follows lifted.lifted.steps fenced.ensures.fences;
        selects = subst (λ end. MeansSteps merged.merged.steps end selected.selected.steps selected.selected.end) (merged.ensures.end ∙ fenced.ensures.end) selected.ensures.meaning;
        allocates = words.ensures.meaning;
      };
    }

pub returns-clause-leads : goal.returns-clause-leads
returns-clause-leads c =
    let code = c.args.code.now in
    let recovered = c.requires.code in
    let (ps, are) = instructions code c.args.number recovered c.requires.number in
    let stretch = block_stretch recovered.program code recovered.is_code are.block ps (c.args.number, are.here) are.are in
    let lifted = (are_lifted code c.args.number recovered ps are).each in
    let end = c.in_ok-selected.ensures.end ∙ ap selected_end (c.in_ok-merged.ensures.end ∙ c.in_ok-fenced.ensures.end ∙ c.in_ok-lifted.ensures.end ps are) in
    let (g, renamed) = c.in_ok-words.ensures.end in
    subst (LeadsOn code) (sym renamed)
    (leads_renamed code g c.in_ok-selected.selected.end (subst (LeadsOn code) (sym end) (leads_from recovered.program code recovered.is_code recovered.is_program.segments 0 ps stretch lifted)))
