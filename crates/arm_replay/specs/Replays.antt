-- The execution that the text of one gives for an image, and the first fault where it gives none.
use Rattle.std.specs.Prelude.{◌≡◌, ◌≢◌, ℕ, ◌<◌, List, [], ◌∷◌, ◌++◌, flat_map, length, slice_get, Some, Result, Ok, Err}
use Rattle.ev_graph.specs.declared.execution.EventPair.{EventPair}
use Rattle.ev_graph.specs.declared.execution.Execution.{Execution}
use Rattle.ev_graph.specs.declared.execution.ReadFrom.{ReadFrom}
use Rattle.ev_graph.specs.declared.execution.Stack.{Stack}
use Rattle.ev_graph.specs.declared.execution.ThreadRun.{ThreadRun}
use Rattle.ev_graph.specs.Memory.{Fits}
use Rattle.behavior.specs.Tree.{Tree, Next}
use Rattle.a64_table.specs.Machine.{AThread}
use Rattle.elf_write.specs.declared.image.Image.{Image}
use Rattle.elf_write.specs.Image.{image_parts}
use Rattle.exec_text.specs.declared.exec_file.ExecFile.{ExecFile}
use Rattle.exec_text.specs.declared.exec_file.GivenThread.{GivenThread}
use Rattle.arm_replay.specs.declared.fault.ReplayFault.{ReplayFault}
use Rattle.arm_replay.specs.declared.fault.ReplayKind.{ReplayKind}
use Rattle.arm_replay.specs.declared.fault.ReplayFault.TheVariants.{LayoutThreads, Layout, Run, NoMemory}
use Rattle.arm_replay.specs.Threads.{a64_start, a64_thread}
use Rattle.arm_replay.specs.Values.{thread_entries, thread_pairs}
use Rattle.arm_replay.specs.Faults.{IsThreadReplay, IsThreadFault}
use Rattle.arm_replay.specs.Layouts.{IsFirstUnplaced}

-- the machine of a thread of the image, with these stacks
abbrev pub thread_step : Image → List Stack → AThread → Tree (Next AThread)
thread_step image stacks = a64_thread (image_parts image) stacks image.code_address image.words

-- where thread k of the image begins, its stack, and what it is given
pub record IsGiven (image : Image) (file : ExecFile) (k at : ℕ) (stack : Stack) (given : GivenThread) : Type 0 where
  pub begins : slice_get image.threads k ≡ Some at
  pub stack_is : slice_get file.stacks k ≡ Some stack
  pub given_is : slice_get file.threads k ≡ Some given

-- thread k of the image, on what it is given, makes this run on a machine
abbrev pub IsRunBy : (AThread → Tree (Next AThread)) → Image → ExecFile → (k : ℕ) → ThreadRun → Type 0
IsRunBy step image file k thread = (at : ℕ) (stack : Stack) (given : GivenThread) → IsGiven image file k at stack given
    → IsThreadReplay step (a64_start k stack at) k given thread

-- and on the machine of the image
abbrev pub IsReplayOf : Image → ExecFile → (k : ℕ) → ThreadRun → Type 0
IsReplayOf image file k thread = IsRunBy (thread_step image file.stacks) image file k thread

-- these are the runs of the threads, the first of all
abbrev pub AreRunsBy : (AThread → Tree (Next AThread)) → Image → ExecFile → List ThreadRun → Type 0
AreRunsBy step image file threads = (k : ℕ) (thread : ThreadRun) → slice_get threads k ≡ Some thread → IsRunBy step image file k thread

-- what the threads add to rf, thread by thread
abbrev pub all_entries : List ThreadRun → List GivenThread → List ReadFrom
all_entries [] given = []
all_entries (thread ∷ threads) [] = []
all_entries (thread ∷ threads) (given ∷ others) = thread_entries thread.items given.values ++ all_entries threads others

-- what the threads add to rmw, thread by thread
abbrev pub all_pairs : List ThreadRun → List EventPair
all_pairs threads = flat_map (λ thread. thread_pairs thread.items) threads

-- The execution is what the file says of the image: in its layout, which fits, the run of each thread on the values that it is
-- given; rf with the sources of each read, byte by byte; its co; and rmw with the locked pairs.
pub record IsReplay (image : Image) (file : ExecFile) (x : Execution) : Type 0 where
  pub stacks : x.stacks ≡ file.stacks
  pub fits : Fits (image_parts image) (length image.threads) file.stacks
  pub one_each : length x.threads ≡ length image.threads
  pub runs : AreRunsBy (thread_step image file.stacks) image file x.threads
  pub rf : x.rf ≡ all_entries x.threads file.threads
  pub co : x.co ≡ file.co
  pub rmw : x.rmw ≡ all_pairs x.threads

-- Thread k is the first that has a fault on a machine.
pub record IsFirstFaultBy (step : AThread → Tree (Next AThread)) (image : Image) (file : ExecFile) (k item : ℕ) (kind : ReplayKind) : Type 0 where
  pub before : (j : ℕ) → j < k → (thread : ThreadRun) × IsRunBy step image file j thread
  pub at : ℕ
  pub stack : Stack
  pub given : GivenThread
  pub is_given : IsGiven image file k at stack given
  pub fault : IsThreadFault step (a64_start k stack at) given item kind

-- why there is no execution
abbrev pub IsReplayFault : Image → ExecFile → ReplayFault → Type 0
IsReplayFault image file LayoutThreads = length file.stacks ≢ length image.threads
IsReplayFault image file (Layout k) = (length file.stacks ≡ length image.threads) × IsFirstUnplaced (image_parts image) file.stacks k
IsReplayFault image file (Run place) = Fits (image_parts image) (length image.threads) file.stacks
    × IsFirstFaultBy (thread_step image file.stacks) image file place.thread place.item place.kind
IsReplayFault image file NoMemory = Unit {0}

-- what the walks of the threads come to: all their runs, or the first fault
abbrev pub WalksTo : (AThread → Tree (Next AThread)) → Image → ExecFile → Result (List ThreadRun) ReplayFault → Type 0
WalksTo step image file (Ok threads) = (length threads ≡ length image.threads) × AreRunsBy step image file threads
WalksTo step image file (Err (Run place)) = IsFirstFaultBy step image file place.thread place.item place.kind
WalksTo step image file (Err NoMemory) = Unit {0}
WalksTo step image file (Err LayoutThreads) = ⊥
WalksTo step image file (Err (Layout k)) = ⊥
