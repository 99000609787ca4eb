-- How control goes on after instructions, as one table.
use Rattle.std.specs.Prelude.{ℕ}
use Rattle.x64_syntax.specs.declared.instr.Instr.{Instr}
use Rattle.x64_syntax.specs.declared.instr.Instr.TheVariants as instr
use Rattle.code_at.specs.Code.{target_from}
use Rattle.cfg_walk.specs.declared.way.Way.{Way}
use Rattle.cfg_walk.specs.declared.way.Way.TheVariants as way

-- how control goes on after an instruction that ends at this address
abbrev pub way_of : Instr → (end : ℕ) → Way
way_of (instr.Jmp displacement) end = way.Jumps (target_from end displacement)
way_of (instr.Jcc condition displacement) end = way.Branches (target_from end displacement)
way_of (instr.Call displacement) end = way.Calls (target_from end displacement)
way_of (instr.CallInd to) end = way.Stops
way_of (instr.JmpInd to) end = way.Stops
way_of instr.Ret end = way.Stops
way_of instr.Ud2 end = way.Stops
way_of i end = way.Falls
