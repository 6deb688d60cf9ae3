use Rattle.std.proofs.Common.{◌≡◌, ◌+◌, ◌≤◌, ◌<◌, length, slice_index}
use Rattle.event_loops.proofs.entry.first_twice.Given as goal

abbrev pub invariant-twice : goal.invariant-twice
invariant-twice l = record {
  order : l.place < l.twin;
  within : l.twin < length l.moments;
  there : slice_index l.moments l.twin ≡ slice_index l.moments l.place + l.period;
  late : l.from ≤ slice_index l.moments l.place;
  soon : slice_index l.moments l.place ≤ l.fn.pair.earlier;
}

abbrev pub decreases-twice : goal.decreases-twice
decreases-twice l = l.place
