use Rattle.std.proofs.Common.{refl}
use Rattle.bounded_scenarios.specs.SharedChannels.{shared_channels}
use Rattle.scenario_storage.proofs.TurnsKeepSearch.{begun}
use Rattle.scenario_storage.proofs.search.begin.Goals as goal

pub channel_steps-requires : goal.channel_steps-requires
channel_steps-requires c = c.requires.plan.bounded.rules

pub returns : goal.returns
returns c =
    begun c.args.plan.now.file.now c.args.plan.now.limits c.args.corner.capacities _ c.requires.corner c.new.ensures.items c.new-2.ensures.items c.in_ok-begin.ensures.bounds
    (c.in_ok-begin.ensures.frontier (shared_channels c.args.plan.now.file.now) c.in_ok-channels.ensures c.requires.total) refl
