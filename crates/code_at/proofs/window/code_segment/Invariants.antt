use Rattle.std.proofs.Common.{◌≡◌, map, drop}
use Rattle.elf_read.specs.Elf.{segment_part}
use Rattle.code_at.specs.Code.{code_from}
use Rattle.code_at.proofs.window.code_segment.Given as goal

abbrev pub invariant-loop-segment : goal.invariant-loop-segment
invariant-loop-segment l =
    code_from (map segment_part l.elf.segments) l.address ≡ code_from (map segment_part (drop l.segment-index l.segment-items)) l.address
