-- The command `generate`.
use Rattle.std.specs.Prelude.{◌≡◌, ◌≤◌, ℕ, true, List, length, None}
use Rattle.sd_base.specs.declared.tables.GraphFile.{GraphFile}
use Rattle.sd_base.specs.declared.limits.Limits.{Limits}
use Rattle.sd_base.specs.declared.limits.TheConstants.{USUAL_DISTRIBUTIONS, USUAL_STATES}
use Rattle.sd_base.specs.Net.{Net}
use Rattle.sd_base.specs.FileNet.{net_of}
use Rattle.pareto_front.specs.declared.point.Point.{Point}
use Rattle.explore.specs.Explorations.{CountsFew, CountsLive}
use Rattle.pareto_search.specs.TradeOffs.{IsTradeOff}
use Rattle.gen_graph.specs.MadeGraphs.{made_graph}
use Rattle.report.specs.SummaryTexts.{summary_lines}
use Rattle.sd_steps.specs.declared.answer.Answer.{Answer}
use Rattle.sd_steps.specs.Courses.{Analysis, Ending, After, ends_by}
use Rattle.sd_steps.specs.Balancings.{balancing}
use Rattle.sd_steps.specs.Nets.{testing_incident, completing}
use Rattle.sd_command.specs.commands.Points.{IsPointsEnd}

-- what a search up to a total may use where words give no more
abbrev pub usual_limits : ℕ → Limits
usual_limits total = record { total = total; states = USUAL_STATES; distributions = USUAL_DISTRIBUTIONS }

-- the text lists points, which are exactly the Pareto points of all distributions within the limit
pub record IsSummary (seed : ℕ) (graph : GraphFile) (gamma : List ℕ) (net : Net) (limits : Limits) (text : List ℕ) : Type 0 where
  pub points : List Point
  pub trade_off : IsTradeOff net limits points
  pub shown : text ≡ summary_lines seed graph gamma points

-- it is printed; an execution was counted for each of some distributions that differ, are reachable and have live nets, of which there
-- are no fewer than points
pub record IsSummaryAnswer (seed : ℕ) (graph : GraphFile) (gamma : List ℕ) (net : Net) (limits : Limits) (answer : Answer) (n : ℕ) : Type 0 where
  pub text : IsSummary seed graph gamma net limits answer.text
  pub put : answer.put ≡ None
  pub counted : CountsLive net limits n
  pub many : length text.points ≤ n

-- one search for the points, of which a summary is told
abbrev pub summary : ℕ → GraphFile → List ℕ → Net → Limits → Analysis
summary seed graph gamma net limits = record {
  answered = λ answer n. IsSummaryAnswer seed graph gamma net limits answer n;
  refused = λ refusal n. ⊥;
  ended = λ refusal n. CountsFew net limits 0 n × IsPointsEnd graph net limits refusal;
  counted = λ n. CountsFew net limits 0 n;
}

-- the summary of a net that has a channel at each actor and completes a round
abbrev pub summary_of : ℕ → GraphFile → List ℕ → Net → Limits → Ending → ℕ → Type 0
summary_of seed graph gamma net limits =
    After (testing_incident graph net) λ incident.
    After (completing graph net) λ complete.
    ends_by (summary seed graph gamma net limits)

-- that of a graph in which no firings of an actor overlap
abbrev pub summed : ℕ → Limits → GraphFile → Ending → ℕ → Type 0
summed seed limits graph =
    After (balancing graph) λ gamma.
    summary_of seed graph gamma (net_of graph gamma true) limits

-- that of the graph of a number
abbrev pub generate : ℕ → ℕ → ℕ → Ending → ℕ → Type 0
generate seed limit actors = summed seed (usual_limits limit) (made_graph seed actors)
