use Rattle.std.proofs.Common.{◌≡◌, ◌≤◌, ◌^◌, drop, map}
use Rattle.std.specs.Prelude.{max}
use Rattle.elf_write.specs.Image.{image_part}
use Rattle.elf_write.specs.Image.{EndBefore, highest_end}
use Rattle.elf_write.proofs.keep.highest_end.Given as goal

abbrev pub invariant-loop-segment : goal.invariant-loop-segment
invariant-loop-segment l = record {
  so_far : max l.end (highest_end (map image_part (drop l.segment-index l.segments))) ≡ highest_end (map image_part l.segments);
  low : l.end ≤ 2 ^ 46;
  in_range : EndBefore (2 ^ 46) (map image_part (drop l.segment-index l.segments));
}
