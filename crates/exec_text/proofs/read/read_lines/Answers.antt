use Rattle.std.proofs.Common.{sym, subst}
use Rattle.exec_text.specs.declared.fault.ReadFault.{ReadFault}
use Rattle.exec_text.specs.Texts.{IsFault}
use Rattle.exec_text.proofs.ReadLemmas.{line_read, line_fault}
use Rattle.exec_text.proofs.read.read_lines.Goals as goal

pub returns-in-Err-clause-fault : goal.returns-in-Err-clause-fault
returns-in-Err-clause-fault c =
    let Told : ReadFault → Type 0 = λ fault. IsFault c.args.text.now fault in
    subst Told (sym c.at.ensures)
    (line_fault c.args.text.now c.loop-bytes.rest.now c.in-Some.bytes.now c.in-Some.others.now c.loop-bytes.stage c.loop-bytes.line c.in-Err.fault c.in-Some.ensures.parts c.in-Err.ensures
    c.loop-bytes.invariant)

pub loop-bytes-preserved : goal.loop-bytes-preserved
loop-bytes-preserved c =
    line_read c.args.text.now c.loop-bytes.rest.now c.in-Some.bytes.now c.in-Some.others.now c.loop-bytes.stage c.in-Ok.next c.loop-bytes.line c.in-Some.ensures.parts c.in-Some.ensures.length
    c.in-Ok.ensures.0 c.in-Ok.ensures.1 c.loop-bytes.invariant
