use Rattle.std.proofs.Common.{◌≡◌, ◌*◌, ◌≤◌, drop}
use Rattle.std.specs.List.{flat_map}
use Rattle.report.specs.ScheduleTexts.{spaced}
use Rattle.report.proofs.numbers.write_spaced.Given as goal

-- the numbers from the i-th on are written, and those before have room
abbrev pub invariant-loop-i : goal.invariant-loop-i
invariant-loop-i l = record {
  before : 40 * l.i ≤ l.at;
  within : l.at ≤ 4000;
  written : drop l.at l.room ≡ flat_map spaced (drop l.i l.numbers);
}
