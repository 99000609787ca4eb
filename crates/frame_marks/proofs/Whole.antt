-- The private slots of a program, from what the searches over its code found.
use Rattle.std.proofs.Common.{List, sym, subst}
use Rattle.x64_syntax.specs.declared.slots.Slot.{Slot}
use Rattle.elf_read.specs.declared.elf.Elf.{Elf}
use Rattle.elf_read.specs.Elf.{IsProgram, parts_of}
use Rattle.code_at.specs.Code.{Program, program_of}
use Rattle.cfg_walk.specs.declared.code.Code.{Code}
use Rattle.cfg_walk.specs.Code.{IsCodeOf}
use Rattle.cfg_walk.proofs.CallerLemmas.{known_code}
use Rattle.cfg_walk.proofs.Gathered.{known_low}
use Rattle.frame_marks.specs.declared.frames.Frames.{Frames}
use Rattle.frame_marks.specs.Marks.{ArePrivate}
use Rattle.frame_marks.specs.Lists.{AreOrdered, AreKept, HasFrames}
use Rattle.frame_marks.proofs.Functions.{body_back}
use Rattle.frame_marks.proofs.Privates.{kept_private, private_kept}
use Rattle.frame_marks.proofs.Ordered.{kept_sorted}

-- the instructions of a program's code are in order
pub ordered : (elf : Elf) (code : Code) → IsProgram (parts_of elf) elf.threads → IsCodeOf (program_of elf) code → AreOrdered code.placed
ordered elf code good is = record {
  sorted = is.placed.sorted;
  low = known_low (program_of elf) code.placed good.segments (known_code (program_of elf) code is);
}

-- the slots that are kept are the private ones
pub are_private : (program : Program) (code : Code) → IsCodeOf program code → (frames : Frames) → HasFrames code.placed frames
    → (slots : List Slot) → AreKept code.placed code.functions frames slots → ArePrivate program slots
are_private program code is frames has slots kept =
    let in_back = body_back program code is has.nodes has.exact has.back has.turned in
    let exposed = kept.exposed_first in
    let pointerless = kept.pointerless_first in
    subst (ArePrivate program) (sym kept.are) (record {
      exact = λ slot. (
        kept_private program code is frames has.back has.are in_back kept.exposed kept.pointerless exposed pointerless slot,
        private_kept program code is frames has.back has.are in_back kept.exposed kept.pointerless exposed pointerless slot,
      );
      sorted = kept_sorted kept.exposed kept.pointerless code.placed is.placed.sorted;
    })
