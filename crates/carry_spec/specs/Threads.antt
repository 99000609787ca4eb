-- The threads of an input and of its image: how each starts, and the machine that runs it.
use Rattle.std.specs.Prelude.{◌≡◌, ℕ, ◌-◌, ◌==◌, false, List, length, slice_get, Some, if◌then◌else◌}
use Rattle.ev_graph.specs.declared.execution.Stack.{Stack}
use Rattle.ev_graph.specs.Memory.{Part, memory, allows, Fits}
use Rattle.behavior.specs.Tree.{Tree, Next}
use Rattle.behavior.specs.Acts.{Bank, Permission}
use Rattle.x64_table.specs.State.{Thread}
use Rattle.a64_table.specs.Machine.{AThread, a64_step}
use Rattle.elf_read.specs.ElfFile.{segments_of, threads_of}
use Rattle.cfg_walk.specs.declared.code.Code.{Code}
use Rattle.cfg_walk.specs.Machine.{thread_step}

-- The registers of thread k at its start, by number: the stack pointer (4) is 8 below the high end of its stack, register 7
-- holds k, and all others are 0.
abbrev pub start_bank : (k : ℕ) → Stack → Bank
start_bank k stack = λ n. if n == 4 then stack.hi - 8 else (if n == 7 then k else 0)

-- thread k of the input before its first instruction; all flags are 0
abbrev pub x64_start : (k : ℕ) → Stack → (at : ℕ) → Thread
x64_start k stack at = record { regs = start_bank k stack; flags = record { cf = false; zf = false; sf = false; of = false }; at = at }

-- thread k of the image before its first word: register n of x86 is Xn, and the flags are 0
abbrev pub a64_start : (k : ℕ) → Stack → (at : ℕ) → AThread
a64_start k stack at = record { at = at; state = record { regs = start_bank k stack; nzcv = record { n = false; z = false; c = false; v = false } } }

-- what may be read and written in the memory of parts and stacks
abbrev pub allowed : List Part → List Stack → Permission
allowed parts stacks = allows (memory parts stacks)

-- the machine of a thread of the input, which has this code
abbrev pub x64_thread : List Part → List Stack → Code → Thread → Tree (Next Thread)
x64_thread parts stacks code = thread_step (allowed parts stacks) code

-- the machine of a thread of the image, whose code segment has these words
abbrev pub a64_thread : List Part → List Stack → (code_address : ℕ) → List ℕ → AThread → Tree (Next AThread)
a64_thread parts stacks code_address words = a64_step (allowed parts stacks) code_address words

-- a claim on two machines and a state of each
abbrev pub OnThreads : Type 1
OnThreads = (Thread → Tree (Next Thread)) → Thread → (AThread → Tree (Next AThread)) → AThread → Type 0

-- The claim holds of each thread of the input and that of the image with the same number, from their starts, in each layout
-- that fits the image.
abbrev pub OfEachThread : (input image : List ℕ) → Code → (code_address : ℕ) → (words : List ℕ) → OnThreads → Type 0
OfEachThread input image code code_address words Claim =
    (stacks : List Stack) → Fits (segments_of image) (length (threads_of image)) stacks
    → (k from to : ℕ) (stack : Stack)
    → slice_get (threads_of input) k ≡ Some from → slice_get (threads_of image) k ≡ Some to → slice_get stacks k ≡ Some stack
    → Claim (x64_thread (segments_of input) stacks code) (x64_start k stack from)
    (a64_thread (segments_of image) stacks code_address words) (a64_start k stack to)
