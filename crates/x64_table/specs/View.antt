-- What the interpreter's states and answers are.
use Rattle.std.specs.Prelude.{slice_index}
use Rattle.behavior.specs.Tree.{Next, Goes, Stops}
use Rattle.x64_table.specs.State.{Thread}
use Rattle.x64_table.specs.Rows.{Exit, State, Return, Indexed}
use Rattle.x64_table.specs.Answers.{Answer, WantsRead, WantsInput, Done}
use Rattle.x64_table.specs.declared.state.X64State.{X64State}
use Rattle.x64_table.specs.declared.answer.Next.{Next as Left}
use Rattle.x64_table.specs.declared.answer.Next.TheVariants as left
use Rattle.x64_table.specs.declared.answer.XRow.{XRow}
use Rattle.x64_table.specs.declared.answer.XRow.TheVariants as answered

-- a thread in the interpreter's state
unfoldable pub thread_of : X64State → Thread
thread_of s = record { regs = slice_index s.regs; flags = s.flags; at = s.at }

abbrev pub leaving : Left → Next Exit
leaving (left.State s) = Goes (State (thread_of s))
leaving (left.Return s target) = Goes (Return (thread_of s) target)
leaving (left.Indexed s index) = Goes (Indexed (thread_of s) index)
leaving (left.End e) = Stops e

-- the answer that a value of the interpreter is
unfoldable pub says : XRow → Answer
says (answered.WantsRead w) = WantsRead w
says answered.WantsInput = WantsInput
says (answered.Done made next) = Done made (leaving next)
