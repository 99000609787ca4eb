use Rattle.std.proofs.Common.{◌≡◌, ◌+◌, ◌*◌, ◌-◌, ◌∙◌, sym, ap, arith, suc, length}
use Rattle.lift_alu.specs.Meant.{end_of}
use Rattle.lift.proofs.Selectable.{ends_as_last}
use Rattle.lift.proofs.placed.last_end.Goals as goal

pub returns-in-Some : goal.returns-in-Some
returns-in-Some c =
    let ps = c.args.placed.now in
    let last = c.in-Some.last.now in
    let item = c.in-Some.ensures.item in
    let long : suc (length ps - 1) ≡ length ps = omega (arith, item.3.0) in
    let temps : 256 * (length ps - 1) ≡ 0 + 256 * (length ps - 1) = omega arith in
    c.instr_end.ensures ∙ ap (end_of last) temps ∙ sym (ends_as_last ps 0 (length ps - 1) last (sym item.1) long)
