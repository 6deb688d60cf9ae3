use Rattle.std.proofs.Common.{◌≡◌, ℕ, ◌++◌, List}
use Rattle.selftimed.specs.inside.Ports.{AreOthers}
use Rattle.selftimed.proofs.ports.push_others.Given as goal

abbrev pub invariant-loop-channel : goal.invariant-loop-channel
invariant-loop-channel l = (others : List ℕ) × AreOthers l.own l.row l.channel-index others × (l.channels.items ≡ l.initial.channels.items ++ others)
