use Rattle.std.proofs.Common.{◌≡◌, ◌-◌, length, drop, arith, ap, length-drop}
use Rattle.elf_read.specs.Elf.{segment_part, parts_of}
use Rattle.code_at.specs.Code.{code_from, memory_bytes}
use Rattle.code_at.proofs.CodeLemmas.{in_code, code_in, length-memory_bytes}
use Rattle.code_at.proofs.window.window_at.Goals as goal

pub returns-in-Some-clause-inside : goal.returns-in-Some-clause-inside
returns-in-Some-clause-inside c =
    let parts = parts_of c.args.elf.now in
    let segment = segment_part c.in-Some.segment.now in
    let offset = c.args.address - segment.address in
    let code : length (code_from parts c.args.address) ≡ length (drop offset (memory_bytes segment)) = ap length c.in-Some.ensures.some in
    let gone = length-drop offset (memory_bytes segment) in
    let whole = length-memory_bytes segment in
    in_code parts c.args.address (omega (arith, code, gone, whole, c.in-Some.ensures.covered.0, c.in-Some.ensures.covered.1))

pub returns-in-None-clause-outside : goal.returns-in-None-clause-outside
returns-in-None-clause-outside c =
    λ is. let parts = parts_of c.args.elf.now in
    let none : length (code_from parts c.args.address) ≡ 0 = ap length c.in-None.ensures.none in
    let some = code_in parts c.args.address is in
    omega (arith, none, some)
