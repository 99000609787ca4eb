-- What it means that the bytes of an image carry those of an input.
use Rattle.std.specs.Prelude.{◌≡◌, ◌≢◌, ◌≤◌, ◌<◌, ◌+◌, ◌*◌, ◌^◌, ℕ, Bool, List, [], ◌∷◌, ◌++◌, length, Option}
use Rattle.std.specs.List.{AllByRecursion}
use Rattle.ev_graph.specs.declared.events.End.{End}
use Rattle.ev_graph.specs.declared.events.End.TheVariants.{Trap}
use Rattle.ev_graph.specs.declared.events.Item.{Item}
use Rattle.ev_graph.specs.declared.events.TrapKind.TheVariants.{BadJump}
use Rattle.ev_graph.specs.declared.execution.Execution.{Execution}
use Rattle.ev_graph.specs.declared.execution.Stack.{Stack}
use Rattle.ev_graph.specs.Memory.{cells_of, Fits}
use Rattle.ev_graph.specs.WellFormed.{WellFormed}
use Rattle.x64_syntax.specs.declared.slots.Slot.{Slot}
use Rattle.x64_table.specs.State.{Thread}
use Rattle.elf_read.specs.ElfFile.{segments_of, threads_of}
use Rattle.elf_write.specs.Image.{code_part, kept, IsCodeAddress}
use Rattle.elf_write.specs.ImageFile.{image_file}
use Rattle.behavior.specs.Kept.{Backward, Forward}
use Rattle.behavior.specs.Run.{Run}
use Rattle.cfg_walk.specs.declared.code.Code.{Code}
use Rattle.cfg_walk.specs.Code.{IsFileCode}
use Rattle.fence_plan.specs.declared.gap.Gap.{Gap}
use Rattle.fence_plan.specs.Planned.{FollowsPlan}
use Rattle.carry_spec.specs.Faults.{HasNoFault}
use Rattle.carry_spec.specs.Threads.{OnThreads, OfEachThread}
use Rattle.carry_spec.specs.Executions.{IsImageExecution}
use Rattle.carry_spec.specs.Explained.{IsExplanation, IsTame, Accounts}
use Rattle.carry_spec.specs.Plan.{IsPlan}

-- a layout of stacks fits the file with these bytes
abbrev pub FitsFile : List ℕ → List Stack → Type 0
FitsFile bytes stacks = Fits (segments_of bytes) (length (threads_of bytes)) stacks

-- What the image is as a file: the input's segments, and behind them code that can only be executed.
pub record IsImageOf (input image : List ℕ) (code_address : ℕ) (words : List ℕ) : Type 0 where
  -- the words have 32 bits
  pub fit : AllByRecursion (λ word. word < 2 ^ 32) words
  -- the code stands where it is said to, behind the segments that the image keeps of the input
  pub behind : IsCodeAddress (kept (segments_of input)) code_address
  pub segments : segments_of image ≡ kept (segments_of input) ++ code_part code_address words ∷ []
  -- it has as many threads
  pub threads : length (threads_of image) ≡ length (threads_of input)
  -- its bytes are those of an image file, and no others
  pub bytes : image ≡ image_file (segments_of image) (threads_of image)
  -- a layout of stacks that fits the image fits the input
  pub layouts : (stacks : List Stack) → FitsFile image stacks → FitsFile input stacks

-- What the image does: what the input's code does, where the slots of `private` need no fence, the executions of the image are
-- those that `order` allows, and an instruction of the input takes at most `bound` words.
pub record DoesAsInput (private : Slot → Bool) (order : Execution → Type 0) (bound : ℕ)
    (input image : List ℕ) (code : Code) (code_address : ℕ) (words : List ℕ) : Type 0 where
  -- each run of a thread of the image has the trace and the end of one of the input's, at every cut
  pub backward : OfEachThread input image code code_address words Backward
  -- each run of a thread of the input that has begun n instructions has the trace and the end of one of the image's that has
  -- begun at most bound * n
  pub forward : OfEachThread input image code code_address words (Forward bound)
  -- each execution of the image has an explanation
  pub explanations : (x : Execution) → IsImageExecution image code_address words x → (y : Execution) × IsExplanation input code x y
  -- and that of a well-formed and tame one that the order allows accounts for it
  pub explained : (x y : Execution) → IsImageExecution image code_address words x → WellFormed (cells_of (segments_of image)) x → order x
      → IsExplanation input code x y → IsTame private y → Accounts input image code x y

-- The image carries the input.
pub record Carries (private : Slot → Bool) (order : Execution → Type 0) (bound : ℕ) (input image : List ℕ) : Type 0 where
  -- the input has no fault
  pub no_fault : HasNoFault input
  -- it has one code
  pub code : Code
  pub is_code : IsFileCode input code
  -- the image's code has these words from this address on
  pub code_address : ℕ
  pub words : List ℕ
  pub is_image : IsImageOf input image code_address words
  pub does : DoesAsInput private order bound input image code code_address words

-- Each run of each thread of the image follows the plan of the input's code.
abbrev pub EachFollowsPlan : (private : Slot → Bool) → (input image : List ℕ) → Code → (code_address : ℕ) → (words : List ℕ) → Type 0
EachFollowsPlan private input image code code_address words =
    (plan : ℕ → Option (List Gap)) → IsPlan private code plan
    → OfEachThread input image code code_address words (FollowsPlan private (λ (s : Thread). plan s.at))

-- no run of a thread of the input, and none of the image's thread, ends because it came to an address without an instruction
abbrev pub NeverJumpsWrong : OnThreads
NeverJumpsWrong step s image_step t =
    ((items : List Item) (end : End) (n : ℕ) → Run step s items end n → end ≢ Trap BadJump)
    × ((items : List Item) (end : End) (n : ℕ) → Run image_step t items end n → end ≢ Trap BadJump)

-- the words are few: at most 64 for each instruction of the code, and 64 more
abbrev pub AreFew : Code → List ℕ → Type 0
AreFew code words = length words ≤ 64 * length code.placed + 64
