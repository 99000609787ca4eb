-- The reading so far, merged with that of the rows that are left, is the reading of all.
use Rattle.std.proofs.Common.{◌≡◌, length, drop}
use Rattle.x64_decode.specs.Reading.{IsWithin, merge, rows_reading}
use Rattle.x64_decode.proofs.reading.read_rows.Given as goal

abbrev pub invariant-loop-row : goal.invariant-loop-row
invariant-loop-row l = record {
  merged : rows_reading l.front l.row-items l.body ≡ merge l.reading (rows_reading l.front (drop l.row-index l.row-items) l.body);
  within : IsWithin (length l.body) l.reading;
}
