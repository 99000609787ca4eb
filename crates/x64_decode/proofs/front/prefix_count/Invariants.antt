-- The prefixes counted so far, and those of the rest, are all.
use Rattle.std.proofs.Common.{◌≡◌, ◌++◌, take, drop}
use Rattle.x64_decode.specs.Reading.{prefixes_at}
use Rattle.x64_decode.proofs.front.prefix_count.Given as goal

abbrev pub invariant-loop-byte : goal.invariant-loop-byte
invariant-loop-byte l = record {
  counted : l.count ≡ l.byte-index;
  rest : prefixes_at l.bytes ≡ take l.byte-index l.bytes ++ prefixes_at (drop l.byte-index l.bytes);
}
