use Rattle.std.proofs.Common.{◌≡◌, ℕ, ◌+◌, ◌*◌, ◌<◌, ◌≤◌}
use Rattle.completion.specs.Ways.{part_at}
use Rattle.completion.proofs.counts.count_segments.Given as goal

abbrev pub invariant-loop-actor : goal.invariant-loop-actor
invariant-loop-actor l = record {
  firings : (a : ℕ) → a < l.actor → (part_at l.parts a).firings ≡ (part_at l.fn.parts a).firings + l.segments * (part_at l.segment a).firings;
  time : (a : ℕ) → a < l.actor → (part_at l.parts a).time ≡ (part_at l.fn.parts a).time + l.segments * (part_at l.segment a).time;
  rest : (a : ℕ) → l.actor ≤ a → part_at l.parts a ≡ part_at l.fn.parts a;
}
