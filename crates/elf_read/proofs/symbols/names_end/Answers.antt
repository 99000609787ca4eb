use Rattle.std.proofs.Common.{◌≡◌, ◌≤◌, ◌<◌, ◌↔◌, ℕ, length, get_or, arith, subst}
use Rattle.elf_read.proofs.NameLemmas.{ends_behind, ends_before}
use Rattle.elf_read.proofs.symbols.names_end.Goals as goal
use Rattle.elf_read.proofs.symbols.names_end.Goals.{then-byte-eq0, else-byte-eq0}

pub loop-k-preserved : goal.loop-k-preserved
loop-k-preserved c =
    let strings = c.args.strings.now in
    elim c.if-byte-eq0.branch [
      | then-byte-eq0 w ↦ rw w.end-is (ends_behind strings c.loop-k.k w.if-byte-eq0.true)
      | else-byte-eq0 w ↦ rw w.end-is (ends_before strings c.loop-k.k c.loop-k.end w.if-byte-eq0.false c.loop-k.invariant)
    ]

pub returns : goal.returns
returns c =
    let strings = c.args.strings.now in
    let whole : c.loop-k.k ≡ length strings = omega arith in
    subst (λ (n : ℕ). (at : ℕ) → ((k : ℕ) × (at ≤ k) × (k < n) × (get_or strings k 0 ≡ 0)) ↔ (at < c.loop-k.end)) whole c.loop-k.invariant
