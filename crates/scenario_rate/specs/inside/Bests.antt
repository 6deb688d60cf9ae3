-- What the passes keep of a cycle, and what they end with.
use Rattle.std.specs.Prelude.{◌≡◌, ℕ, ◌*◌, ◌≤◌, ◌<◌, ℤ, length, Some}
use Rattle.sd_base.specs.declared.limits.TheConstants.{NODES, ROUND, TIME}
use Rattle.scenario_rate.specs.inside.Levels.{LONGEST}
use Rattle.automaton.specs.declared.graph.TimedGraph.{TimedGraph}
use Rattle.automaton.specs.CriticalCycles.{AreLeast, IsReachedNode, IsCritical, Fit}
use Rattle.scenario_rate.specs.declared.passes.Best.{Best}
use Rattle.scenario_rate.specs.declared.passes.Turn.{Turn}
use Rattle.scenario_rate.specs.declared.passes.Turn.TheVariants.{Settled, Gains}
use Rattle.scenario_rate.specs.inside.Searches.{AreLevels, IsLastOf}
use Rattle.scenario_rate.specs.declared.answer.Worst.{Worst}
use Rattle.automaton.specs.SoundGraphs.{node_count}
use Rattle.scenario_rate.specs.ChosenCycles.{IsChosen}
use Rattle.scenario_rate.specs.Answers.{potential_at, IsApart}

-- a critical cycle of its rate on which no node stands twice, and the limits on the rate's numbers
pub record IsBest (graph : TimedGraph) (best : Best) : Type 0 where
  pub critical : IsCritical graph best.rate.num best.rate.den best.cycle.items
  pub apart : IsApart graph.edges best.cycle.items
  pub some_round : 1 ≤ best.rate.num
  pub few : best.rate.num ≤ NODES
  pub short : best.rate.den ≤ LONGEST
  pub slow : best.rate.den ≤ best.rate.num * (TIME * ROUND)

-- the cycle is critical, and no potentials that fit are less anywhere
pub record ShowsWorst (graph : TimedGraph) (r : Worst) : Type 0 where
  pub critical : IsCritical graph r.rate.num r.rate.den r.cycle
  pub apart : IsApart graph.edges r.cycle
  pub chosen : IsChosen graph r.rate.num r.rate.den (potential_at r.potentials) r.cycle
  pub some_round : 1 ≤ r.rate.num
  pub fit : Fit graph r.rate.num r.rate.den (potential_at r.potentials)
  pub count : length r.potentials ≡ node_count graph
  pub reached : (v : ℕ) (x : ℤ) → potential_at r.potentials v ≡ Some x → IsReachedNode graph v
  pub least : AreLeast graph r.rate.num r.rate.den (potential_at r.potentials)

-- what a rate comes to: levels that settle at it, or a cycle that gains on it
abbrev pub IsTurn : TimedGraph → ℕ → ℕ → Turn → Type 0
IsTurn graph l w (Settled levels) = (levels.rounds ≡ l) × (levels.time ≡ w) × AreLevels graph l w levels.rows.items × IsLastOf graph l w levels.rows.items
IsTurn graph l w (Gains best) = IsBest graph best × (w * best.rate.num < best.rate.den * l)
