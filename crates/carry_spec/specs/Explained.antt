-- What explains an execution of an image, and when it has to.
use Rattle.std.specs.Prelude.{◌≡◌, ◌≤◌, ℕ, ◌+◌, ◌*◌, Bool, true, false, List, length, slice_get, Some, Option, IsSome}
use Rattle.ev_graph.specs.declared.events.Access.{Access}
use Rattle.ev_graph.specs.declared.events.Item.{Item}
use Rattle.ev_graph.specs.declared.execution.Execution.{Execution}
use Rattle.ev_graph.specs.declared.execution.Stack.{Stack}
use Rattle.ev_graph.specs.declared.execution.ThreadRun.{ThreadRun}
use Rattle.ev_graph.specs.Memory.{Part, cells_of, memory}
use Rattle.ev_graph.specs.Events.{event, Overlap}
use Rattle.ev_graph.specs.WellFormed.{WellFormed, EachAccess}
use Rattle.ev_graph.specs.FinalByte.{IsFinalByte}
use Rattle.order_models.specs.Orders.{Tso}
use Rattle.order_models.specs.Consistent.{Consistent}
use Rattle.x64_syntax.specs.declared.slots.Slot.{Slot}
use Rattle.behavior.specs.Seen.{trace}
use Rattle.behavior.specs.Numbered.{numbered}
use Rattle.behavior.specs.Explained.{Explains}
use Rattle.elf_read.specs.ElfFile.{segments_of, threads_of}
use Rattle.cfg_walk.specs.declared.code.Code.{Code}
use Rattle.fence_plan.specs.Private.{is_private}
use Rattle.carry_spec.specs.Threads.{x64_start, x64_thread}
use Rattle.carry_spec.specs.Executions.{IsInputExecution}

-- Thread b explains thread a, both with number k: it has the run of the input's thread on the values of a, with as many
-- accesses, inputs and outputs and with a's end, that has the fewest items.
pub record ExplainsThread (parts : List Part) (code : Code) (stacks : List Stack) (k at : ℕ) (stack : Stack) (a b : ThreadRun) : Type 0 where
  pub items : List Item
  pub explains : Explains (x64_thread parts stacks code) (x64_start k stack at) a.items a.end items
  pub named : b.items ≡ numbered k items
  pub same_end : b.end ≡ a.end

-- y is the explanation of x: the same layout, a run that explains each thread, and rf, co and rmw carried over, the n-th
-- access of a thread to its n-th access
pub record IsExplanation (input : List ℕ) (code : Code) (x y : Execution) : Type 0 where
  pub stacks : y.stacks ≡ x.stacks
  pub one_each : length y.threads ≡ length x.threads
  pub threads : (k at : ℕ) (stack : Stack) (a b : ThreadRun)
      → slice_get (threads_of input) k ≡ Some at → slice_get x.stacks k ≡ Some stack
      → slice_get x.threads k ≡ Some a → slice_get y.threads k ≡ Some b
      → ExplainsThread (segments_of input) code x.stacks k at stack a b
  pub rf : y.rf ≡ x.rf
  pub co : y.co ≡ x.co
  pub rmw : y.rmw ≡ x.rmw

-- the two accesses have the same bytes
abbrev pub SameRange : Access → Access → Type 0
SameRange a b = (a.address ≡ b.address) × (a.size ≡ b.size)

-- the access lies in the stack of its own thread
pub record IsInOwnStack (stacks : List Stack) (a : Access) : Type 0 where
  pub stack : Stack
  pub own : slice_get stacks a.id.thread ≡ Some stack
  pub from : stack.lo ≤ a.address
  pub to : a.address + a.size ≤ stack.hi

-- Tame: the addresses of accesses that are not private are multiples of their sizes, such accesses that overlap have the same
-- bytes, and a private access lies in its own thread's stack and overlaps no access of another thread.
pub record IsTame (private : Slot → Bool) (y : Execution) : Type 0 where
  pub aligned : EachAccess (λ a. is_private private a ≡ false → (k : ℕ) × (a.address ≡ k * a.size)) y.threads
  pub equal_ranges : EachAccess (λ a. EachAccess (λ b. is_private private a ≡ false → is_private private b ≡ false
      → Overlap (event a) (event b) → SameRange a b) y.threads) y.threads
  pub apart : EachAccess (λ a. is_private private a ≡ true
      → IsInOwnStack y.stacks a × EachAccess (λ b. (b.id.thread ≡ a.id.thread → ⊥) → Overlap (event a) (event b) → ⊥) y.threads) y.threads

-- the threads have the same accesses, inputs, outputs and ends
abbrev pub SameTraces : Execution → Execution → Type 0
SameTraces x y = (k : ℕ) (a b : ThreadRun) → slice_get x.threads k ≡ Some a → slice_get y.threads k ≡ Some b
    → (trace b.items ≡ trace a.items) × (b.end ≡ a.end)

-- The execution y of the input has what x, one of the image, has: it is one that x86-TSO allows, with the same accesses,
-- inputs, outputs and ends, and with the same byte at the end at each address of the input's memory.
pub record Accounts (input image : List ℕ) (code : Code) (x y : Execution) : Type 0 where
  pub execution : IsInputExecution input code y
  pub well_formed : WellFormed (cells_of (segments_of input)) y
  pub consistent : Consistent Tso true y
  pub same : SameTraces x y
  pub final : (n : ℕ) (found : Option ℕ) → IsSome (memory (segments_of input) x.stacks n)
      → IsFinalByte (cells_of (segments_of image)) x n found → IsFinalByte (cells_of (segments_of input)) y n found
