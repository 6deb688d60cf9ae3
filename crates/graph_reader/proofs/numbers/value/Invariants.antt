use Rattle.std.proofs.Common.{◌≡◌, ◌≤◌, drop, min}
use Rattle.std.specs.List.{fold}
use Rattle.sd_base.specs.Numbers.{with_digit}
use Rattle.graph_reader.proofs.numbers.value.Given as goal

abbrev pub invariant-loop-digit : goal.invariant-loop-digit
invariant-loop-digit l = record {
  few : l.n ≤ 1000000000000000;
  same : min (fold with_digit l.n (drop l.digit-index l.digits)) 1000000000000000 ≡ min (fold with_digit 0 l.digits) 1000000000000000;
}
