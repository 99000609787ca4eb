-- The file of an image that was laid out of a read program's passed blocks carries the file that was read.
use Rattle.std.proofs.Common.{◌≡◌, inl, inr, ℕ, ◌+◌, ◌≤◌, List, [], ◌∷◌, ◌++◌, length, map, arith, sym, ◌∙◌, ap, subst}
use Rattle.std.proofs.lemmas.List.{length-map}
use Rattle.std.specs.List.{AllByRecursion}
use Rattle.ev_graph.specs.Places.{StandsIn}
use Rattle.ev_graph.specs.Memory.{Fits}
use Rattle.behavior.specs.Acts.{Permission}
use Rattle.x64_syntax.specs.declared.slots.Slot.{Slot}
use Rattle.elf_read.specs.declared.elf.Elf.{Elf}
use Rattle.elf_read.specs.declared.fault.FileFault.TheVariants as fault
use Rattle.elf_read.specs.Elf.{IsSegment, parts_of}
use Rattle.elf_read.specs.ElfFile.{segments_of, threads_of}
use Rattle.elf_read.specs.FileFaults as file
use Rattle.elf_read.specs.FirstFault.{Clear, rank}
use Rattle.elf_write.specs.declared.image.Image.{Image}
use Rattle.elf_write.specs.Image.{image_part, code_part, kept, IsCodeAddress, IsImage}
use Rattle.elf_write.specs.ImageFile.{image_file}
use Rattle.elf_write.specs.Written.{IsFileOf}
use Rattle.elf_write.proofs.CallerLemmas.{fits_kept}
use Rattle.code_at.specs.Code.{Program, program_of, program_in}
use Rattle.cfg_walk.specs.declared.code.Code.{Code}
use Rattle.cfg_walk.specs.Code.{IsCodeOf, IsFileCode}
use Rattle.cfg_walk.specs.Machine.{exits_of}
use Rattle.cfg_walk.proofs.CallerLemmas.{program_read, file_code}
use Rattle.flag_use.specs.Faults.{ReadsNoUndefined}
use Rattle.fence_place.specs.Marked.{marked}
use Rattle.a64_code.specs.declared.instr.XReg.{XReg}
use Rattle.a64_table.specs.State.{AState}
use Rattle.a64_block.specs.declared.block.ABlock.{ABlock}
use Rattle.code_layout.specs.Carried.{IsCarriedOut}
use Rattle.code_layout.specs.Places.{place_from}
use Rattle.flag_use.proofs.CallerLemmas.{runs_paths}
use Rattle.carry_spec.specs.Carries.{EachFollowsPlan, IsImageOf, NeverJumpsWrong}
use Rattle.carry_spec.specs.Defined.{ReadsDefinedFlags}
use Rattle.carry_spec.specs.Threads.{OfEachThread, allowed, x64_start}
use Rattle.carry_spec.specs.Faults.{HasNoFault}
use Rattle.translate_core.specs.Passed.{ArePassed}
use Rattle.translate_core.specs.Translated.{IsReadOf, IsCarried}
use Rattle.translate_core.proofs.Carried.{carried}
use Rattle.translate_core.proofs.Closed.{threads_begun, each_passed}
use Rattle.translate_core.proofs.EachThread.{IsLaid, each_follows_plan, each_never_jumps_wrong}

-- what was laid out of blocks of words
pub record IsLaidOutOf (elf : Elf) (code : Code) (blocks : List (ABlock XReg)) (image : Image) : Type 0 where
  pub carried : (b : ABlock XReg) → StandsIn blocks b → (may : Permission) (t : AState) → IsCarriedOut (exits_of code) 122 image.code_address image.words blocks b may t
  pub threads : image.threads ≡ map (place_from image.code_address blocks) elf.threads
  pub segments : map image_part image.segments ≡ kept (parts_of elf)
  pub is_image : IsImage image

-- the program of the file
pub of_file : (input : List ℕ) (elf : Elf) → IsReadOf input elf → program_of elf ≡ program_in input
of_file input elf read = program_read input elf read.segments read.threads read.input read.output

pub is_file_code : (input : List ℕ) (elf : Elf) (code : Code) → IsReadOf input elf → IsCodeOf (program_of elf) code → IsFileCode input code
is_file_code input elf code read is = file_code input elf code (of_file input elf read) is

-- no fault holds of a file that was read, and whose code was recovered
pub no_fault : (input : List ℕ) (elf : Elf) (code : Code) → Clear (file.Holds input) (rank fault.TooLong) (rank fault.TooMuchCode) → IsReadOf input elf
    → IsCodeOf (program_of elf) code → ReadsNoUndefined (program_of elf) → HasNoFault input
no_fault input elf code clear read is defined = none
  where
    own : IsFileCode input code
    own = is_file_code input elf code read is

    none : HasNoFault input
    none fault.TooLong from below (inl holds) = clear fault.TooLong (omega arith) (omega arith) holds
    none fault.Short from below (inl holds) = clear fault.Short (omega arith) (omega arith) holds
    none fault.Magic from below (inl holds) = clear fault.Magic (omega arith) (omega arith) holds
    none fault.Class from below (inl holds) = clear fault.Class (omega arith) (omega arith) holds
    none (fault.BadType kind) from below (inl holds) = clear (fault.BadType kind) (omega arith) (omega arith) holds
    none (fault.Machine machine) from below (inl holds) = clear (fault.Machine machine) (omega arith) (omega arith) holds
    none fault.ProgramTable from below (inl holds) = clear fault.ProgramTable (omega arith) (omega arith) holds
    none (fault.Segment i) from below (inl holds) = clear (fault.Segment i) (omega arith) (omega arith) holds
    none fault.TooBig from below (inl holds) = clear fault.TooBig (omega arith) (omega arith) holds
    none fault.SymbolTable from below (inl holds) = clear fault.SymbolTable (omega arith) (omega arith) holds
    none fault.NoThread from below (inl holds) = clear fault.NoThread (omega arith) (omega arith) holds
    none (fault.DoubleName i) from below (inl holds) = clear (fault.DoubleName i) (omega arith) (omega arith) holds
    none fault.TooMuchCode from below (inr (inl holds)) = own.clear fault.TooMuchCode (omega arith) (omega arith) holds
    none (fault.BadCode f) from below (inr (inl holds)) = own.clear (fault.BadCode f) (omega arith) (omega arith) holds
    none (fault.Indirect a) from below (inr (inl holds)) = own.clear (fault.Indirect a) (omega arith) (omega arith) holds
    none (fault.Overlap a) from below (inr (inl holds)) = own.clear (fault.Overlap a) (omega arith) (omega arith) holds
    none g from below (inl holds) = absurd holds
    none (fault.UndefinedFlag a) from below (inr (inr holds)) =
        subst (λ (program : Program). ReadsNoUndefined program) (of_file input elf read) defined (fault.UndefinedFlag a) (omega arith) (omega arith) holds
    none g from below (inr (inl holds)) = absurd holds
    none g from below (inr (inr holds)) = absurd holds

module _ (private : List Slot) (input out : List ℕ) (elf : Elf) (code : Code) (blocks : List (ABlock XReg)) (image : Image) (clear : Clear (file.Holds input) (rank fault.TooLong) (rank fault.TooMuchCode))
    (read : IsReadOf input elf) (is : IsCodeOf (program_of elf) code)
    (defined : ReadsNoUndefined (program_of elf))
    (passed : ArePassed private code code.blocks blocks) (laid : IsLaidOutOf elf code blocks image) (written : IsFileOf image out) where
  segments : segments_of out ≡ kept (segments_of input) ++ code_part image.code_address image.words ∷ []
  segments = written.segments ∙ ap (λ ps. ps ++ code_part image.code_address image.words ∷ []) (laid.segments ∙ ap kept read.segments)

  threads : threads_of out ≡ map (place_from image.code_address blocks) (threads_of input)
  threads = written.threads ∙ laid.threads ∙ ap (map (place_from image.code_address blocks)) read.threads

  counted : length (threads_of out) ≡ length (threads_of input)
  counted = ap length threads ∙ length-map (threads_of input) (place_from image.code_address blocks)

  own : IsFileCode input code
  own = is_file_code input elf code read is

  is_laid : IsLaid private input out code image.code_address image.words blocks
  is_laid = record {
    is_code = own;
    segments = subst (AllByRecursion IsSegment) read.segments read.program.segments;
    few = subst (λ ts. length ts ≤ 16) read.threads read.program.threads;
    parts = segments;
    threads = threads;
    carried = laid.carried;
    passed = each_passed private (program_in input) code own blocks passed;
    begun = threads_begun private (program_in input) code own blocks passed;
  }

  is_image_of : IsImageOf input out image.code_address image.words
  is_image_of = record {
    fit = written.fit;
    behind = subst (λ ps. IsCodeAddress ps image.code_address) (laid.segments ∙ ap kept read.segments) laid.is_image.behind;
    segments = segments;
    threads = counted;
    bytes = written.bytes ∙ ap (λ ps. image_file ps image.threads) (sym written.segments) ∙ ap (image_file (segments_of out)) (sym written.threads);
    layouts = λ stacks fits. fits_kept (segments_of input) (code_part image.code_address image.words ∷ []) (length (threads_of out)) (length (threads_of input)) stacks counted
        (subst (λ ps. Fits ps (length (threads_of out)) stacks) segments fits);
  }

  -- it carries the input
  pub image_carries : IsCarried (marked private) input out code image.code_address image.words
  image_carries = carried private input out code image.code_address image.words blocks is_laid is_image_of (no_fault input elf code clear read is defined)

  -- and its runs follow the plan
  pub image_follows : EachFollowsPlan (marked private) input out code image.code_address image.words
  image_follows = each_follows_plan private input out code image.code_address image.words blocks is_laid

  -- none of the input's reads an undefined flag
  pub image_flags : ReadsDefinedFlags input code
  image_flags stacks fits k from stack at stands addresses items end n takes =
      runs_paths (program_in input) code is_laid.segments own (subst (λ (program : Program). ReadsNoUndefined program) (of_file input elf read) defined)
      (allowed (segments_of input) stacks) (x64_start k stack from) (k, at) addresses items end n takes

  -- and none ends by a wrong jump
  pub image_jumps : OfEachThread input out code image.code_address image.words NeverJumpsWrong
  image_jumps = each_never_jumps_wrong private input out code image.code_address image.words blocks is_laid
