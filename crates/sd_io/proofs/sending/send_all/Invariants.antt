use Rattle.std.proofs.Common.{◌≡◌, ◌≤◌, ◌-◌, length, take}
use Rattle.sd_io.specs.Outside.{with_sent}
use Rattle.sd_io.proofs.sending.send_all.Given as goal

-- the first `done` bytes were sent
abbrev pub invariant-sending : goal.invariant-sending
invariant-sending g l = record {
  within : l.done ≤ length l.text;
  sent : g.K.Sink.sent l.out ≡ with_sent (take l.done l.text) (g.K.Sink.sent l.initial.out);
  quiet : g.K.Sink.faults l.out ≡ g.K.Sink.faults l.initial.out;
}

abbrev pub decreases-sending : goal.decreases-sending
decreases-sending g l = length l.text - l.done
