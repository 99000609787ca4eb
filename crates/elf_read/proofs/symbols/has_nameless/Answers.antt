use Rattle.std.proofs.Common.{◌<◌, ◌*◌, arith, refl}
use Rattle.elf_read.specs.Fields.{st_name}
use Rattle.elf_read.proofs.symbols.has_nameless.Goals as goal

pub returns-then-is_nameless : goal.returns-then-is_nameless
returns-then-is_nameless c =
    let held = c.is_nameless.ensures.0 c.if-is_nameless.true in
    (λ _. (c.loop-i.i, omega arith, held.0, λ named. absurd (omega (arith, (c.names_end-end.ensures _).0 named, held.1))), λ _. refl)

pub returns : goal.returns
returns c = (
  λ wrong. cc,
  λ found.
      let at = st_name c.args.symbols.now (24 * found.0) in
      let none : at < c.names_end-end.result → ⊥ = λ low. found.3 ((c.names_end-end.ensures at).1 low) in
      absurd (c.loop-i.invariant found.0 (omega (arith, found.1)) found.2 (omega arith)),
)
