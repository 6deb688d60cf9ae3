use Rattle.std.proofs.Common.{◌≡◌, drop}
use Rattle.bounded_scenarios.specs.SharedChannels.{channels_named, is_looped}
use Rattle.bounded_scenarios.proofs.merged.is_looped.Given as goal

abbrev pub invariant-loop-scenario : goal.invariant-loop-scenario
invariant-loop-scenario l = is_looped (channels_named (drop l.scenario-index l.scenarios) l.name) ≡ is_looped (channels_named l.scenarios l.name)
