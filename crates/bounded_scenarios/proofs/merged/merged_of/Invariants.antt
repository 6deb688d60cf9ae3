use Rattle.std.proofs.Common.{◌≡◌}
use Rattle.bounded_scenarios.specs.SharedChannels.{channels_named, is_looped}
use Rattle.bounded_scenarios.proofs.ScanStepsHold.{MergedSoFar}
use Rattle.bounded_scenarios.proofs.merged.merged_of.Given as goal

abbrev pub invariant-loop-scenario : goal.invariant-loop-scenario
invariant-loop-scenario l = record {
  looped : l.merged.looped ≡ is_looped (channels_named l.scenarios l.row.name);
  rates : MergedSoFar l.scenarios l.row.name l.scenario-index l.merged;
  tokens : l.merged.tokens ≡ l.row.tokens;
}
