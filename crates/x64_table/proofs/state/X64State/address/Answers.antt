use Rattle.std.proofs.Common.{◌≡◌, ap, ◌∙◌, ℕ, ◌+◌, ◌*◌, ◌%◌, ◌^◌, rules, FitsSigned, w64, pos, ◌+ℤ◌, arith}
use Rattle.std.specs.Prelude.{if◌then◌else◌}
use Rattle.std.proofs.Math.Facts.{to_z-of_z}
use Rattle.word_arith.specs.Signed.{low_bits}
use Rattle.x64_table.specs.State.{address, part}
use Rattle.x64_table.specs.View.{thread_of}
use Rattle.x64_table.proofs.StateLemmas.{wrapped_sum}
use Rattle.x64_table.proofs.state.X64State.address.Goals as goal
use Rattle.x64_table.proofs.state.X64State.address.Goals.{then-m, else-m}

pub returns : goal.returns
unfolding address thread_of
returns c =
    let fits : FitsSigned w64 c.args.m.now.offset = search rules in
    let relative : c.if-m.relative ≡ (if c.args.m.now.rip then c.args.self.now.at else 0) = elim c.if-m.branch [ then-m w ↦ grind (arith, rules) | else-m w ↦ grind (arith, rules) ] in
    let at : ℕ → ℕ → ℕ → ℕ → ℕ = λ base index scale from. low_bits 64 (pos (base + index * scale + from) +ℤ c.args.m.now.offset) in
    c.displaced.ensures
    ∙ ap (λ z. low_bits 64 (pos (((c.part.result + c.part-2.result * c.from.result % 2 ^ 64) % 2 ^ 64 + c.if-m.relative) % 2 ^ 64) +ℤ z)) (to_z-of_z fits)
    ∙ wrapped_sum c.part.result (c.part-2.result * c.from.result) c.if-m.relative c.args.m.now.offset
    ∙ ap (λ n. at n c.part-2.result c.from.result c.if-m.relative) c.part.ensures
    ∙ ap (λ n. at (part c.args.m.now.base (thread_of c.args.self.now)) n c.from.result c.if-m.relative) c.part-2.ensures
    ∙ ap (λ n. at (part c.args.m.now.base (thread_of c.args.self.now)) (part c.args.m.now.index (thread_of c.args.self.now)) n c.if-m.relative) c.from.ensures
    ∙ ap (λ n. at (part c.args.m.now.base (thread_of c.args.self.now)) (part c.args.m.now.index (thread_of c.args.self.now)) c.args.m.now.scale n) relative
