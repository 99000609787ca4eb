use Rattle.std.proofs.Common.{arith, sym}
use Rattle.elf_read.proofs.NameLemmas.{ends_at_zero, never_ends}
use Rattle.elf_read.proofs.symbols.name_window.Goals as goal

pub returns-then-byte-eq0 : goal.returns-then-byte-eq0
returns-then-byte-eq0 c =
    let window = c.range_at-window.result.now in
    rw (← c.range_at-window.ensures) (sym (ends_at_zero window c.loop-end.end c.loop-end.invariant c.loop-end-test.true c.if-byte-eq0.true))

pub returns : goal.returns
returns c =
    let window = c.range_at-window.result.now in
    rw (← c.range_at-window.ensures) (sym (never_ends window (λ j low. c.loop-end.invariant j (omega arith))))
