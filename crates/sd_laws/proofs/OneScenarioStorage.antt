-- The words and files decide the command `scenario-storage`.
use Rattle.std.proofs.Common.{◌≡◌, ℕ, ◌+◌, ◌*◌, false, List, Some, length, sum, refl, sym, ◌∙◌, arith}
use Rattle.std.specs.Prelude.{slice_get}
use Rattle.sd_base.specs.declared.limits.Quantity.{Quantity}
use Rattle.sd_base.specs.declared.limits.Quantity.TheVariants.{Nodes, Stamps}
use Rattle.sd_base.specs.declared.tables.GraphFile.{GraphFile}
use Rattle.sd_base.specs.declared.tables.ScenarioFile.{ScenarioFile}
use Rattle.sd_base.specs.declared.tables.ScenarioRow.{ScenarioRow}
use Rattle.sd_base.specs.Scenarios.{FileKeepsRules}
use Rattle.sd_base.specs.Tables.{IsTimed, KeepsRules}
use Rattle.sd_base.specs.FileNet.{net_of}
use Rattle.sd_base.specs.Lawful.{Lawful}
use Rattle.balance.specs.Repetition.{IsRound}
use Rattle.bounded_scenarios.specs.Boundings.{looped_tokens}
use Rattle.escapes.specs.EscapedNames.{escaped_name}
use Rattle.scenario_storage.specs.declared.point.ScenarioLimits.{ScenarioLimits}
use Rattle.sd_steps.specs.Balancings.{balancing}
use Rattle.sd_steps.specs.Courses.{Step, through}
use Rattle.sd_steps.specs.Nets.{completing, feeding}
use Rattle.sd_steps.specs.ScenarioBounds.{bounding_all, bounding_graph, bounding_one, fitting, fitting_nodes}
use Rattle.sd_command.specs.commands.ScenarioPoints.{points_in, searching}
use Rattle.sd_laws.proofs.CommandsDecide.{Determines, Decides, DecidesLast, after_decides, last_decides, through_determines, naming_determines}
use Rattle.sd_laws.proofs.FirstWithouts.{one_first}
use Rattle.sd_laws.proofs.OneRate.{feeding_determines, completing_determines}
use Rattle.sd_laws.proofs.SharedSteps.{FileLaws, balancing_determines}

fitting_determines : (quantity : Quantity) (number : ℕ) → Determines (fitting quantity number)
fitting_determines quantity number = record {
  one = λ a b is also. refl;
  refusal = λ r s is also. is.told ∙ sym also.told;
  never = λ r a is few. let many = is.many in omega (arith, many, few);
}

module _ (laws : FileLaws) where
  module _ (tokens : ℕ) (graph : GraphFile) (rules : KeepsRules graph) (timed : IsTimed graph) where
    abbrev ending : List ℕ → Step (Unit {0})
    ending gamma = completing graph (net_of graph gamma false)

    abbrev bounding : List ℕ → Step (Unit {0})
    bounding gamma = through (fitting Stamps (sum gamma * tokens)) (λ few. ending gamma)

    lawful : (gamma : List ℕ) → IsRound graph gamma → Lawful (net_of graph gamma false)
    lawful gamma round = laws.lawful graph gamma false rules timed round.least round.fits

    graph_determines : Determines (bounding_graph tokens graph)
    graph_determines =
        through_determines (balancing graph) (λ gamma. through (feeding graph (net_of graph gamma false)) (λ fed. bounding gamma)) (balancing_determines laws graph rules) (λ gamma round.
        through_determines (feeding graph (net_of graph gamma false)) (λ fed. bounding gamma) (feeding_determines laws.nets (net_of graph gamma false) (lawful gamma round) graph) (λ fed is.
        through_determines (fitting Stamps (sum gamma * tokens)) (λ few. ending gamma) (fitting_determines Stamps (sum gamma * tokens)) (λ few also.
        completing_determines laws.nets (net_of graph gamma false) (lawful gamma round) graph)))

  module _ (file : ScenarioFile) (rules : FileKeepsRules file) where
    module _ (tokens : ℕ) where
      each : (s : ℕ) (row : ScenarioRow) → slice_get file.scenarios s ≡ Some row → Determines (bounding_one tokens row)
      each s row at =
          let kept = rules.scenarios s row at in
          naming_determines (escaped_name row.name) (bounding_graph tokens row.graph) (graph_determines tokens row.graph kept.rules kept.timed)

      bounding_determines : Determines (bounding_all file tokens)
      bounding_determines = record {
        one = λ a b is also. refl;
        refusal = one_first (bounding_one tokens) file each;
        never = λ r a is passed. (each is.place is.row is.at).never r tt is.is (passed is.place is.row is.at);
      }

    searches : (limits : ScenarioLimits) → DecidesLast (searching file limits)
    searches limits = record { one = λ r s n m is also. absurd is; no_answer = λ r answer n m is also. is; no_end = λ r s n m is also. is }

    pub search_decides : (limits : ScenarioLimits) → Decides (points_in limits file)
    search_decides limits =
        let tokens : ℕ = limits.total + looped_tokens file.scenarios file.shared in
        after_decides (bounding_all file tokens) _ (bounding_determines tokens) (λ a bounded.
        after_decides (fitting_nodes file tokens) _ (fitting_determines Nodes (length file.states * tokens)) (λ b few.
        last_decides (searching file limits) (searches limits)))
