use Rattle.std.proofs.Common.{◌≡◌}
use Rattle.covers.specs.Searches.{IsSame}
use Rattle.covers.specs.inside.Keeping.{put_all}
use Rattle.covers.proofs.search.Search.open_all.Given as goal

abbrev pub invariant-loop-node : goal.invariant-loop-node
invariant-loop-node l = record { opened : l.self.open.keys ≡ put_all l.yielded l.initial.self.open.keys; same : IsSame l.initial.self l.self }
