use Rattle.std.proofs.Common.{◌≡◌, ◌≤◌, take}
use Rattle.cert_text.specs.Fields.{number_value}
use Rattle.cert_text.proofs.reading.digits.value_of.Given as goal

-- the number is that of the digits so far
abbrev pub invariant-loop-byte : goal.invariant-loop-byte
invariant-loop-byte l = record {
  value : l.number ≡ number_value (take l.byte-index l.digits);
  within : l.number ≤ l.limit;
}
