use Rattle.std.proofs.Common.{◌≡◌, ◌≢◌, ◌+◌, ◌<◌, length, get_or, arith, ap, ◌∙◌, get_or-set_other, get_or-set_same, below_more}
use Rattle.std.proofs.lemmas.List.{length-set}
use Rattle.elf_read.specs.Elf.{segment_part}
use Rattle.code_at.proofs.CodeLemmas.{window_shown}
use Rattle.code_at.proofs.window.window_in.Goals as goal

pub loop-k-preserved : goal.loop-k-preserved
loop-k-preserved c =
    let bytes = c.loop-k.bytes in
    let k = c.loop-k.k in
    let byte = c.byte_at.result in
    let is : byte ≡ get_or c.args.segment.now.bytes (c.args.offset + k) 0 = c.byte_at.ensures ∙ ap (λ o. get_or c.args.segment.now.bytes (o + k) 0) c.from.ensures in (
      length-set bytes k byte ∙ c.loop-k.invariant.0,
      below_more _ _
          (λ j h. let ne : j ≢ k = omega arith in rw get_or-set_other (c.loop-k.invariant.1 j h))
          (let lt : k < length bytes = omega (arith, c.loop-k.invariant.0) in rw get_or-set_same is),
    )

pub returns-clause-shown : goal.returns-clause-shown
returns-clause-shown c =
    window_shown (segment_part c.args.segment.now) c.loop-k.bytes c.args.offset c.min-count.result c.loop-k.invariant.0 c.min-count.ensures c.requires
    (λ j lt. c.loop-k.invariant.1 j (omega (arith, lt)))
