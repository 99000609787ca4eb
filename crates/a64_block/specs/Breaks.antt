-- The breaks that are traps.
use Rattle.std.specs.Prelude.{ℕ}
use Rattle.ev_graph.specs.declared.events.TrapKind.{TrapKind}
use Rattle.ev_graph.specs.declared.events.TrapKind.TheVariants.{Divide, Invalid, BadReturn, BadJump, BadAccess}

-- the number of the break whose row traps so; an access that is not allowed traps by its own row, and has no break
abbrev pub break_of : TrapKind → ℕ
break_of Divide = 1
break_of Invalid = 2
break_of BadReturn = 3
break_of BadJump = 4
break_of BadAccess = 4
