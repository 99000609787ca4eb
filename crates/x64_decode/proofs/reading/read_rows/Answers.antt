-- A row that is read is merged in, and one whose code disagrees reads nothing.
use Rattle.std.proofs.Common.{◌≡◌, ◌+◌, length, drop, subst, sym, ◌∙◌}
use Rattle.x64_decode.specs.declared.reading.Reading.{Reading}
use Rattle.x64_decode.specs.Reading.{IsWithin, merge, rows_reading}
use Rattle.x64_decode.proofs.Merges.{merge-within, rows_reading-skip, rows_reading-step}
use Rattle.x64_decode.proofs.reading.read_rows.Goals as goal
use Rattle.x64_decode.proofs.reading.read_rows.Goals.{then-agrees, else-agrees}

pub loop-row-preserved : goal.loop-row-preserved
loop-row-preserved c =
    let i = c.loop-row.row-index in
    let rows = c.rows-row-items.result.now in
    let body = c.args.body.now in
    let front = c.args.front.now in
    let x = c.loop-row.reading in
    let Kept : Reading → Type 0 = λ y. (rows_reading front rows body ≡ merge y (rows_reading front (drop (i + 1) rows) body)) × IsWithin (length body) y in
    let kept : Kept c.if-agrees.reading =
    elim c.if-agrees.branch [
      | then-agrees w ↦
          (let e = rows_reading-step front rows body i _ x w.read.result c.loop-row-test.true w.read.ensures.value c.loop-row.invariant.merged in
          let y : Kept (merge x w.read.result) = (e, merge-within (length body) x w.read.result c.loop-row.invariant.within w.read.ensures.within) in
          subst Kept (sym w.merge-reading.ensures ∙ sym w.reading-is) y)
      | else-agrees w ↦
          (let e = rows_reading-skip front rows body i _ x c.agrees.result c.loop-row-test.true c.agrees.ensures w.if-agrees.false c.loop-row.invariant.merged in
          let y : Kept x = (e, c.loop-row.invariant.within) in
          subst Kept (sym w.reading-is) y)
    ] in
    record { merged = kept.0; within = kept.1 }
