use Rattle.std.proofs.Common.{◌+◌, Option, ℕ, refl, sym, subst, get_or, arith}
use Rattle.std.proofs.lemmas.Option.{slice_get-get_or}
use Rattle.ev_graph.specs.FinalByte.{IsLastBefore}
use Rattle.ev_graph.proofs.FinalByteLemmas.{last_step, last_moved}
use Rattle.ev_graph.proofs.last_byte.last_byte.Goals as goal

pub loop-id-preserved : goal.loop-id-preserved
loop-id-preserved c =
    let Last : Option ℕ → Type 0 = λ last. IsLastBefore c.args.threads.now c.args.co.now c.args.address (c.loop-id.id-index + 1) last in
    let entry = get_or c.args.co.now c.loop-id.id-index (record { thread = 0; index = 0 }) in
    record {
      mark = c.byte_given.ensures.mark;
      last = subst Last (sym c.or-last.ensures) (last_step _ c.args.co.now _ _ entry _ _
          (slice_get-get_or c.args.co.now c.loop-id.id-index (record { thread = 0; index = 0 }) c.loop-id-test.true)
          c.byte_given.ensures.some c.byte_given.ensures.none c.loop-id.invariant.last);
    }

pub returns : goal.returns
returns c = last_moved _ _ _ _ _ _ _ _ refl refl (let past = c.loop-id-test.false in let within = c.loop-id.auto.id-index-end in omega arith) c.loop-id.invariant.last
