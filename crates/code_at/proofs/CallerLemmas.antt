-- What callers of this crate cite.
use Rattle.std.proofs.Common.{◌≡◌, ℕ, ◌+◌, ◌<◌, ◌≤◌, ◌^◌, take, arith, sym, ap, ◌∙◌}
use Rattle.std.specs.List.{AllByRecursion}
use Rattle.std.proofs.lemmas.List.{length-take-le}
use Rattle.x64_syntax.specs.declared.placed.Placed.{Placed}
use Rattle.x64_syntax.specs.Formed.{IsFormed}
use Rattle.x64_decode.specs.declared.decode.DecodeFault.TheVariants as decode_fault
use Rattle.x64_decode.proofs.CallerLemmas.{spelling-some, spelling-formed, refused}
use Rattle.elf_read.specs.declared.fault.BadCodeKind.{BadCodeKind}
use Rattle.elf_read.specs.declared.fault.BadCodeKind.TheVariants as bad
use Rattle.elf_read.specs.Elf.{IsSegment}
use Rattle.code_at.specs.Code.{code_from, Program, StandsAt, IsBad, flow_of}
use Rattle.code_at.proofs.CodeLemmas.{same_spelling, code_low, in_code}

placed_same : (p q : Placed) → p.address ≡ q.address → p.length ≡ q.length → p.instr ≡ q.instr → p.flow ≡ q.flow → p ≡ q
placed_same p q a l i f = λ k. record { address = a k; length = l k; instr = i k; flow = f k }

-- one instruction stands at an address
pub one_instruction : (program : Program) (address : ℕ) (p q : Placed) → StandsAt program address p → StandsAt program address q → p ≡ q
one_instruction program address p q one other =
    let same = same_spelling (code_from program.parts address) p.length q.length p.instr q.instr one.within other.within one.spelled other.spelled in
    let flows : flow_of program (address + p.length) p.instr ≡ flow_of program (address + q.length) q.instr =
    ap (λ n. flow_of program (address + n) p.instr) same.0 ∙ ap (λ i. flow_of program (address + q.length) i) same.1 in
    placed_same p q (one.here ∙ sym other.here) same.0 same.1 (one.flows ∙ flows ∙ sym other.flows)

-- it has a byte
pub some_length : (program : Program) (address : ℕ) (p : Placed) → StandsAt program address p → 0 < p.length
some_length program address p stands =
    let some = spelling-some (take p.length (code_from program.parts address)) p.instr stands.spelled in
    let long = length-take-le p.length (code_from program.parts address) stands.within in
    omega (arith, some, long)

-- it ends low
pub ends_low : (program : Program) (address : ℕ) (p : Placed) → AllByRecursion IsSegment program.parts → StandsAt program address p → address + p.length ≤ 2 ^ 46
ends_low program address p segments stands = code_low program.parts address p.length segments (some_length program address p stands) stands.within

-- its operands are in range and where the instruction has them
pub is_formed : (program : Program) (address : ℕ) (p : Placed) → StandsAt program address p → IsFormed p.instr
is_formed program address p stands = spelling-formed (take p.length (code_from program.parts address)) p.instr stands.spelled

-- no instruction stands where none is told for a reason
pub bad_stands : (program : Program) (address : ℕ) (kind : BadCodeKind) (p : Placed) → IsBad program address kind → StandsAt program address p → ⊥
bad_stands program address bad.Listed p is stands = stands.unlisted is
bad_stands program address bad.Outside p is stands =
    is.1 (in_code program.parts address (let some = some_length program address p stands in omega (arith, some, stands.within)))
bad_stands program address bad.Cut p is stands = refused (code_from program.parts address) decode_fault.Cut is.refused p.length p.instr stands.short stands.within stands.spelled
bad_stands program address bad.Unknown p is stands =
    refused (code_from program.parts address) decode_fault.Unknown is.refused p.length p.instr stands.short stands.within stands.spelled
bad_stands program address bad.TooLong p is stands =
    refused (code_from program.parts address) decode_fault.TooLong is.refused p.length p.instr stands.short stands.within stands.spelled
