use Rattle.std.proofs.Common.{◌-◌, length}
use Rattle.covers.specs.Searches.{IsSame}
use Rattle.covers.proofs.NodesGather.{IsGathering}
use Rattle.covers.proofs.search.Search.gather.Given as goal

abbrev pub invariant-gather : goal.invariant-gather
invariant-gather l = record { so : IsGathering l.initial.self l.total l.initial.found.items l.found.items l.self; same : IsSame l.initial.self l.self }

abbrev pub decreases-gather : goal.decreases-gather
decreases-gather l = l.most - length l.found.items
