use Rattle.std.proofs.Common.{◌≡◌, ◌+◌, ◌-◌, ◌*◌, ◌≤◌, ◌<◌, ◌⊎◌}
use Rattle.need_loops.proofs.feeds.Feed.advance.Given as goal

abbrev pub invariant-made : goal.invariant-made
invariant-made l = record {
  more : l.self.firings ≤ l.firings;
  few : l.firings + l.self.left ≤ l.self.firings + l.left;
  left : l.left + l.self.firings * l.self.made ≡ l.self.left + l.firings * l.self.made;
  least : (l.firings ≡ l.self.firings) ⊎ (l.left < l.self.taken + l.self.made);
}

abbrev pub decreases-made : goal.decreases-made
decreases-made l = l.self.taken - l.left
