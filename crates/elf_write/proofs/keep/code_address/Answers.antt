use Rattle.std.proofs.Common.{map}
use Rattle.elf_write.specs.Image.{image_part}
use Rattle.elf_write.proofs.Ends.{rounded_is}
use Rattle.elf_write.proofs.keep.code_address.Goals as goal

pub returns-clause-place : goal.returns-clause-place
returns-clause-place c = rounded_is (map image_part c.args.segments.now) c.highest_end.result c.highest_end.ensures.value
