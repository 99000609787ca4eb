-- The memory of a case.
use Rattle.std.specs.Prelude.{ℕ, ◌&&◌, nat_le, nat_lt, Bool, true, Option, Some, None, if◌then◌else◌}
use Rattle.ev_graph.specs.Memory.{Cell}

-- 64 bytes that may be read, and written where they are writable
abbrev pub window_cell : (writable : Bool) → ℕ → Option Cell
window_cell writable n =
    if nat_le 0x20000000 n && nat_lt n 0x20000040 then Some (record { byte = 0; readable = true; writable = writable }) else None
