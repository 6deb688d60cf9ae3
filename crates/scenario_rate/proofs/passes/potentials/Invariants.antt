use Rattle.std.proofs.Common.{◌≡◌, ◌≤◌, length, take, map, vec_capacity, vec_len}
use Rattle.scenario_rate.specs.inside.Searches.{potential_of}
use Rattle.scenario_rate.proofs.passes.potentials.Given as goal

abbrev pub invariant-loop-place : goal.invariant-loop-place
invariant-loop-place l = (l.list.items ≡ map (potential_of l.before) (take l.place l.row)) × (vec_len l.list ≡ l.place) × (length l.row ≤ vec_capacity l.list)
