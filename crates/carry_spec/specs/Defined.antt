-- Which flags the threads of an input read.
use Rattle.std.specs.Prelude.{◌≡◌, ℕ, List, slice_get, Some}
use Rattle.ev_graph.specs.declared.events.End.{End}
use Rattle.ev_graph.specs.declared.events.Item.{Item}
use Rattle.ev_graph.specs.declared.execution.Stack.{Stack}
use Rattle.elf_read.specs.ElfFile.{segments_of, threads_of}
use Rattle.code_at.specs.Code.{program_in}
use Rattle.cfg_walk.specs.declared.code.Code.{Code}
use Rattle.cfg_walk.specs.Machine.{Takes}
use Rattle.flag_use.specs.Runs.{IsPathOfDefined}
use Rattle.carry_spec.specs.Carries.{FitsFile}
use Rattle.carry_spec.specs.Threads.{allowed, x64_start}

-- In each layout that fits the input, the addresses that a run of a thread takes, one after another, are a path, and no
-- instruction on it reads a flag that this path leaves undefined.
abbrev pub ReadsDefinedFlags : (input : List ℕ) → Code → Type 0
ReadsDefinedFlags input code =
    (stacks : List Stack) → FitsFile input stacks
    → (k from : ℕ) (stack : Stack) → slice_get (threads_of input) k ≡ Some from → slice_get stacks k ≡ Some stack
    → (addresses : List ℕ) (items : List Item) (end : End) (n : ℕ)
    → Takes (allowed (segments_of input) stacks) code (x64_start k stack from) addresses items end n
    → IsPathOfDefined (program_in input) addresses
