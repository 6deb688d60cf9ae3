use Rattle.std.proofs.Common.{rules}
use Rattle.critical.proofs.ListedSpacesRise.{cycle-places}
use Rattle.test_storage.proofs.cycle_tests.storage_of.Goals as goal

pub storage_channels-requires : goal.storage_channels-requires
storage_channels-requires g c = cycle-places (g.F.Firing.net c.args.net.now) c.args.cycle.now (c.holds.ensures.0 (search rules))
