-- How the calls of a shelf and of a sink in memory are counted.
use Rattle.std.specs.Prelude.{◌≡◌, true, false}
use Rattle.lz_ports.specs.declared.calls.Call.{Call}
use Rattle.lz_ports.specs.declared.calls.Call.TheVariants.{Spent, Listed, Fine}
use Rattle.lz_ports.specs.Memories.{ShelfState, SinkState, is_spent, is_listed, shelf_called, sink_called, sink_failed}

-- the call of the shelf is counted
abbrev pub IsCounted : ShelfState → ShelfState → Call → Type 0
IsCounted old new Spent = (is_spent old.calls ≡ true) × (new ≡ old)
IsCounted old new Listed = (is_spent old.calls ≡ false) × (is_listed old.failing old.calls ≡ true) × (new ≡ shelf_called old)
IsCounted old new Fine = (is_spent old.calls ≡ false) × (is_listed old.failing old.calls ≡ false) × (new ≡ shelf_called old)

-- and so is that of the sink, and a fault where it is listed
abbrev pub IsSinkCounted : SinkState → SinkState → Call → Type 0
IsSinkCounted old new Spent = (is_spent old.calls ≡ true) × (new ≡ old)
IsSinkCounted old new Listed = (is_spent old.calls ≡ false) × (is_listed old.failing old.calls ≡ true) × (new ≡ sink_failed old)
IsSinkCounted old new Fine = (is_spent old.calls ≡ false) × (is_listed old.failing old.calls ≡ false) × (new ≡ sink_called old)
