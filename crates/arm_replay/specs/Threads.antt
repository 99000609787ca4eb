-- The threads of an image: how each starts, and the machine that runs it.
use Rattle.std.specs.Prelude.{ℕ, ◌-◌, ◌==◌, false, List, if◌then◌else◌}
use Rattle.ev_graph.specs.declared.execution.Stack.{Stack}
use Rattle.ev_graph.specs.Memory.{Part, memory, allows}
use Rattle.behavior.specs.Tree.{Tree, Next}
use Rattle.behavior.specs.Acts.{Bank, Permission}
use Rattle.a64_table.specs.Machine.{AThread, a64_step}

-- The registers of thread k at its start, by number: the stack pointer (4) is 8 below the high end of its stack, register 7
-- holds k, and all others are 0.
abbrev pub start_bank : (k : ℕ) → Stack → Bank
start_bank k stack = λ n. if n == 4 then stack.hi - 8 else (if n == 7 then k else 0)

-- thread k of the image before its first word: register n of x86 is Xn, and the flags are 0
abbrev pub a64_start : (k : ℕ) → Stack → (at : ℕ) → AThread
a64_start k stack at = record { at = at; state = record { regs = start_bank k stack; nzcv = record { n = false; z = false; c = false; v = false } } }

-- what may be read and written in the memory of parts and stacks
abbrev pub allowed : List Part → List Stack → Permission
allowed parts stacks = allows (memory parts stacks)

-- the machine of a thread of the image, whose code segment has these words
abbrev pub a64_thread : List Part → List Stack → (code_address : ℕ) → List ℕ → AThread → Tree (Next AThread)
a64_thread parts stacks code_address words = a64_step (allowed parts stacks) code_address words
