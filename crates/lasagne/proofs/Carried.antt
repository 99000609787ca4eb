-- What a translation gives is an image for the bytes that were translated.
use Rattle.std.proofs.Common.{ℕ, Bool, List, length, sym, subst}
use Rattle.x64_syntax.specs.declared.slots.Slot.{Slot}
use Rattle.elf_read.specs.ElfFile.{threads_of}
use Rattle.code_at.specs.Code.{program_in}
use Rattle.cfg_walk.specs.declared.code.Code.{Code}
use Rattle.frame_marks.specs.Marks.{ArePrivate}
use Rattle.fence_place.specs.Marked.{marked}
use Rattle.carry_spec.specs.Barriers.{HasPlannedBarriers}
use Rattle.carry_spec.specs.Carries.{AreFew, EachFollowsPlan, NeverJumpsWrong}
use Rattle.carry_spec.specs.Defined.{ReadsDefinedFlags}
use Rattle.carry_spec.specs.Plan.{IsSummary}
use Rattle.carry_spec.specs.Threads.{OfEachThread}
use Rattle.translate_core.specs.declared.translation.Translated.{Translated}
use Rattle.translate_core.specs.Translated.{IsCarried}
use Rattle.lasagne.specs.Image.{IsImageFor, HasSummary}

module _ (bytes : List ℕ) (made : Translated) (are : ArePrivate (program_in bytes) made.private.slots)
    (is : IsCarried (marked made.private.slots) bytes made.file made.code made.image.code_address made.image.words)
    (follows : EachFollowsPlan (marked made.private.slots) bytes made.file made.code made.image.code_address made.image.words)
    (barriers : HasPlannedBarriers (marked made.private.slots) (length (threads_of bytes)) made.code made.image.words)
    (jumps : OfEachThread bytes made.file made.code made.image.code_address made.image.words NeverJumpsWrong)
    (flags : ReadsDefinedFlags bytes made.code) (few : AreFew made.code made.image.words)
    (counted : IsSummary (marked made.private.slots) (length (threads_of bytes)) made.code made.summary) where
  abbrev private : Slot → Bool
  private = marked made.private.slots

  -- what holds of the code and the words that are given holds of those by which the file carries the bytes
  of_carries : (Claim : Code → ℕ → List ℕ → Type 0) → Claim made.code made.image.code_address made.image.words
      → Claim is.carries.code is.carries.code_address is.carries.words
  of_carries Claim holds =
      subst (λ words. Claim is.carries.code is.carries.code_address words) (sym is.same_words)
      (subst (λ at. Claim is.carries.code at made.image.words) (sym is.same_address)
      (subst (λ code. Claim code made.image.code_address made.image.words) (sym is.same_code) holds))

  -- it is an image for the bytes, and the summary is theirs
  pub image_for : (is : IsImageFor bytes made.file) × HasSummary bytes is.carries.code made.summary
  image_for = (
    record {
      private = made.private.slots;
      are_private = are;
      carries = is.carries;
      follows = of_carries (EachFollowsPlan private bytes made.file) follows;
      barriers = of_carries (λ code at words. HasPlannedBarriers private (length (threads_of bytes)) code words) barriers;
      jumps = of_carries (λ code at words. OfEachThread bytes made.file code at words NeverJumpsWrong) jumps;
      flags = of_carries (λ code at words. ReadsDefinedFlags bytes code) flags;
      few = of_carries (λ code at words. AreFew code words) few;
    },
    record {
      private = made.private.slots;
      are_private = are;
      counted = of_carries (λ code at words. IsSummary private (length (threads_of bytes)) code made.summary) counted;
    },
  )
