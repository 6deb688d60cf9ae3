use Rattle.bounded_scenarios.proofs.StorageCountsTokens.{dist-long}
use Rattle.bounded_scenarios.proofs.MergedChannels.{cover-all}
use Rattle.bounded_scenarios.proofs.bounding.bounded_file.Goals as goal

pub bounded_rows-requires : goal.bounded_rows-requires
bounded_rows-requires c = rw (c.as_slice.ensures, c.as_slice-shared.ensures, c.as_slice-rooms.ensures)
    (cover-all c.args.file.now c.requires.rules c.args.capacities.now.capacities c.requires.distribution)

pub bounded_shared-requires : goal.bounded_shared-requires
bounded_shared-requires c = rw (c.as_slice-shared.ensures, c.as_slice-rooms.ensures)
    (dist-long c.args.file.now.scenarios 0 c.args.file.now.shared c.args.capacities.now.capacities c.requires.distribution)
