use Rattle.std.proofs.Common.{◌≡◌, []}
use Rattle.std.specs.List.{range_with_len}
use Rattle.selftimed.proofs.event_queue.EventQueue.refill.Given as goal

abbrev pub invariant-loop-actor : goal.invariant-loop-actor
invariant-loop-actor l = record {
  ends : l.self.ends ≡ [];
  touched : l.self.touched.items ≡ range_with_len 0 l.actor;
}
