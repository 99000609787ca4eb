-- What is looked at to decode an instruction.
use Rattle.std.specs.Prelude.{ℕ, List, take}
use Rattle.code_at.specs.declared.window.Window.{Window}

-- the bytes of a window that are there
abbrev pub shown : Window → List ℕ
shown window = take window.count window.bytes
