-- The paths of a program, on which a call returns to every return site, and what they leave undefined.
use Rattle.std.specs.Prelude.{◌≡◌, ℕ, Bool, true, false, List, [], ◌∷◌}
use Rattle.ev_graph.specs.Places.{StandsIn}
use Rattle.alu_width.specs.Effects.{leaves_undefined}
use Rattle.x64_syntax.specs.declared.instr.Instr.{Instr}
use Rattle.x64_syntax.specs.declared.instr.Instr.TheVariants as instr
use Rattle.x64_syntax.specs.declared.placed.Flow.{Flow}
use Rattle.x64_syntax.specs.declared.placed.Flow.TheVariants as flow
use Rattle.x64_syntax.specs.declared.placed.Placed.{Placed}
use Rattle.code_at.specs.Code.{Program, target_from}
use Rattle.cfg_walk.specs.Reach.{IsPlaced, after, end_of}
use Rattle.cfg_walk.specs.Blocks.{IsSite}
use Rattle.flag_use.specs.declared.flag.Flag.{Flag}
use Rattle.flag_use.specs.Instructions.{effects_of, effect_on}

-- where a path goes on, returns aside: to a successor, but from a call that is not listed to its target alone
abbrev pub follows : Instr → Flow → (end : ℕ) → List ℕ
follows (instr.Call displacement) flow.Plain end = target_from end displacement ∷ []
follows i f end = after i f end

-- whether an instruction returns: RET, and a jump to a listed call
abbrev pub returns : Instr → Flow → Bool
returns instr.Ret f = true
returns (instr.Jmp displacement) flow.ListedIn = true
returns (instr.Jmp displacement) flow.ListedOut = true
returns i f = false

-- A path goes on from an instruction to an address: to one that follows, or from a return to any return site. No table of
-- addresses is known so far, to whose entries a path would go on from the jump through it.
pub data GoesOn (program : Program) (p : Placed) : ℕ → Type 0 where
  to-next : {b : ℕ} → StandsIn (follows p.instr p.flow (end_of p)) b → GoesOn program p b
  to-site : {b : ℕ} → returns p.instr p.flow ≡ true → IsSite program b → GoesOn program p b

-- whether an instruction leaves a flag undefined, from whether it was before
abbrev pub undefined_behind : Flag → Instr → (was : Bool) → Bool
undefined_behind flag i was = leaves_undefined (effect_on flag (effects_of i)) was

-- Some path ends at an address with a flag undefined, or with it defined. A path begins where a thread does, with all flags
-- defined, and goes on from each placed instruction to which it comes.
pub data PathTo (program : Program) (flag : Flag) : (address : ℕ) → (undefined : Bool) → Type 0 where
  begins : {a : ℕ} → StandsIn program.entries a → PathTo program flag a false
  goes : {b : ℕ} {was : Bool} (p : Placed) → PathTo program flag p.address was → IsPlaced program p → GoesOn program p b
      → PathTo program flag b (undefined_behind flag p.instr was)
