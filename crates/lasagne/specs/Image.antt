-- What the image that a command leaves is to its input.
use Rattle.std.specs.Prelude.{ℕ, false, List, length}
use Rattle.x64_syntax.specs.declared.slots.Slot.{Slot}
use Rattle.order_models.specs.Consistent.{Consistent}
use Rattle.order_models.specs.Orders.{Arm}
use Rattle.elf_read.specs.ElfFile.{threads_of}
use Rattle.code_at.specs.Code.{program_in}
use Rattle.cfg_walk.specs.declared.code.Code.{Code}
use Rattle.frame_marks.specs.Marks.{ArePrivate}
use Rattle.fence_place.specs.Marked.{marked}
use Rattle.carry_spec.specs.declared.summary.Summary.{Summary}
use Rattle.carry_spec.specs.Barriers.{HasPlannedBarriers}
use Rattle.carry_spec.specs.Carries.{AreFew, Carries, EachFollowsPlan, NeverJumpsWrong}
use Rattle.carry_spec.specs.Defined.{ReadsDefinedFlags}
use Rattle.carry_spec.specs.Plan.{IsSummary}
use Rattle.carry_spec.specs.Threads.{OfEachThread}

-- The image carries the input, in the Armv8 order, with at most 256 words for an instruction, where these slots are private.
abbrev pub CarriesInArm : (private : List Slot) → (input image : List ℕ) → Type 0
CarriesInArm private input image = Carries (marked private) (Consistent Arm false) 256 input image

-- The image carries the input, of which just the private slots count as private. Moreover each of its runs has the planned
-- fences, its words have as many barriers of each kind as are planned, no run of it or of the input jumps to where no instruction
-- is, no run of the input reads an undefined flag, and its words are few.
pub record IsImageFor (input image : List ℕ) : Type 0 where
  pub private : List Slot
  pub are_private : ArePrivate (program_in input) private
  pub carries : CarriesInArm private input image
  pub follows : EachFollowsPlan (marked private) input image carries.code carries.code_address carries.words
  pub barriers : HasPlannedBarriers (marked private) (length (threads_of input)) carries.code carries.words
  pub jumps : OfEachThread input image carries.code carries.code_address carries.words NeverJumpsWrong
  pub flags : ReadsDefinedFlags input carries.code
  pub few : AreFew carries.code carries.words

-- the summary of an input that has this code, by its private slots
pub record HasSummary (input : List ℕ) (code : Code) (summary : Summary) : Type 0 where
  pub private : List Slot
  pub are_private : ArePrivate (program_in input) private
  pub counted : IsSummary (marked private) (length (threads_of input)) code summary
