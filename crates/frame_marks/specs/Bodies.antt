-- The bodies of functions.
use Rattle.std.specs.Prelude.{ℕ, List, [], ◌∷◌}
use Rattle.ev_graph.specs.Places.{StandsIn}
use Rattle.x64_syntax.specs.declared.instr.Instr.{Instr}
use Rattle.x64_syntax.specs.declared.instr.Instr.TheVariants as instr
use Rattle.x64_syntax.specs.declared.placed.Flow.{Flow}
use Rattle.x64_syntax.specs.declared.placed.Placed.{Placed}
use Rattle.code_at.specs.Code.{Program, StandsAt}
use Rattle.cfg_walk.specs.Reach.{after, end_of, HasEntry}

-- where a function goes on after an instruction: where control may, but for the target of a call
abbrev pub on_from : Instr → Flow → (end : ℕ) → List ℕ
on_from (instr.Call displacement) f end = end ∷ []
on_from i f end = after i f end

abbrev pub goes_on : Placed → List ℕ
goes_on p = on_from p.instr p.flow (end_of p)

-- an address is in the body of the function that begins at another: it is reached from there without going to call targets
pub data IsInBody (program : Program) (function : ℕ) : ℕ → Type 0 where
  at-start : IsInBody program function function
  at-next : {a b : ℕ} (p : Placed) → IsInBody program function a → StandsAt program a p → StandsIn (goes_on p) b
      → IsInBody program function b
  at-table : {a b : ℕ} → IsInBody program function a → HasEntry program a b → IsInBody program function b
