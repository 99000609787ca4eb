use Rattle.std.proofs.Common.{refl}
use Rattle.ev_graph.proofs.FirstLemmas.{read_at, within_same, past_same}
use Rattle.ev_graph.proofs.FormLemmas.{tested_new, new_tested, co_step, co_first, co_none, mark_same}
use Rattle.ev_graph.proofs.form.co_fault.Goals as goal

pub loop-i-preserved : goal.loop-i-preserved
loop-i-preserved c =
    let x = c.args.x.now in
    let tested = c.if-not-is_new_write.ensures.new.0 refl in
    record {
      mark = mark_same _ x.threads _ _ _ c.as_slice.ensures c.is_new_write.ensures.mark;
      before = co_step x c.loop-i.i _ (read_at _ x.co c.loop-i.i _ c.as_slice-co.ensures (within_same _ x.co c.loop-i.i c.as_slice-co.ensures c.loop-i-test.true))
          c.loop-i.invariant.before (tested_new x c.requires.shaped _ _ c.loop-i.i _ c.as_slice.ensures c.as_slice-co.ensures tested);
    }

pub returns-then-not-is_new_write : goal.returns-then-not-is_new_write
returns-then-not-is_new_write c = λ cells.
    let x = c.args.x.now in
    co_first cells x c.loop-i.i _ (read_at _ x.co c.loop-i.i _ c.as_slice-co.ensures (within_same _ x.co c.loop-i.i c.as_slice-co.ensures c.loop-i-test.true))
    c.loop-i.invariant.before
    (λ new. let yes = c.if-not-is_new_write.ensures.new.1 (new_tested x c.requires.shaped _ _ c.loop-i.i _ c.as_slice.ensures c.as_slice-co.ensures new) in cc)

pub returns : goal.returns
returns c = λ cells. co_none cells c.args.x.now c.loop-i.i (past_same _ c.args.x.now.co c.loop-i.i c.as_slice-co.ensures c.loop-i-test.false) c.loop-i.invariant.before
