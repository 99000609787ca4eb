-- Executions of a file: a layout of stacks that fits, and a run of each thread with its accesses named. How they come together
-- through memory is said of an execution by itself (`WellFormed`, `Consistent`).
use Rattle.std.specs.Prelude.{◌≡◌, ℕ, List, length, slice_get, Some}
use Rattle.ev_graph.specs.declared.events.Item.{Item}
use Rattle.ev_graph.specs.declared.execution.Execution.{Execution}
use Rattle.ev_graph.specs.declared.execution.Stack.{Stack}
use Rattle.ev_graph.specs.declared.execution.ThreadRun.{ThreadRun}
use Rattle.ev_graph.specs.Memory.{Part, Fits}
use Rattle.behavior.specs.Tree.{Tree, Next}
use Rattle.behavior.specs.Run.{Run}
use Rattle.behavior.specs.Numbered.{numbered}
use Rattle.elf_read.specs.ElfFile.{segments_of, threads_of}
use Rattle.cfg_walk.specs.declared.code.Code.{Code}
use Rattle.carry_spec.specs.Threads.{x64_start, a64_start, x64_thread, a64_thread}

-- thread number k of an execution is a run of a machine from a state, cut anywhere or ended, with its accesses named
pub record IsRunOf {S : Type 0} (step : S → Tree (Next S)) (start : S) (k : ℕ) (thread : ThreadRun) : Type 0 where
  pub made : List Item
  pub begun : ℕ
  pub run : Run step start made thread.end begun
  pub items : thread.items ≡ numbered k made

-- what it means that a thread with this number, which begins at an address and has a stack, has made a run, beside all these stacks
abbrev pub Threads : Type 1
Threads = (stacks : List Stack) → (k at : ℕ) → Stack → ThreadRun → Type 0

-- an execution of threads that begin at these addresses, over the memory of parts
pub record IsExecution (parts : List Part) (begins : List ℕ) (IsThread : Threads) (x : Execution) : Type 0 where
  pub fits : Fits parts (length begins) x.stacks
  pub one_each : length x.threads ≡ length begins
  pub runs : (k at : ℕ) (stack : Stack) (thread : ThreadRun)
      → slice_get begins k ≡ Some at → slice_get x.stacks k ≡ Some stack → slice_get x.threads k ≡ Some thread
      → IsThread x.stacks k at stack thread

-- the code of the input has made the run
abbrev pub IsInputThread : List Part → Code → Threads
IsInputThread parts code stacks k at stack thread = IsRunOf (x64_thread parts stacks code) (x64_start k stack at) k thread

-- the words of the image's code segment have made the run
abbrev pub IsImageThread : List Part → (code_address : ℕ) → List ℕ → Threads
IsImageThread parts code_address words stacks k at stack thread = IsRunOf (a64_thread parts stacks code_address words) (a64_start k stack at) k thread

-- an execution of the input's bytes, which have this code
abbrev pub IsInputExecution : List ℕ → Code → Execution → Type 0
IsInputExecution input code x = IsExecution (segments_of input) (threads_of input) (IsInputThread (segments_of input) code) x

-- an execution of the image's bytes, whose code segment has these words
abbrev pub IsImageExecution : List ℕ → (code_address : ℕ) → List ℕ → Execution → Type 0
IsImageExecution image code_address words x =
    IsExecution (segments_of image) (threads_of image) (IsImageThread (segments_of image) code_address words) x
