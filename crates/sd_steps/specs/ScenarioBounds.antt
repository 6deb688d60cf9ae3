-- What a file of scenarios is tested for before capacities are looked for: each scenario in order, and the states of the automaton.
use Rattle.std.specs.Prelude.{◌≡◌, ℕ, ◌*◌, ◌≤◌, ◌<◌, false, length, sum, slice_get, Some, None}
use Rattle.sd_base.specs.declared.limits.Quantity.{Quantity}
use Rattle.sd_base.specs.declared.limits.Quantity.TheVariants as quantities
use Rattle.sd_base.specs.declared.tables.GraphFile.{GraphFile}
use Rattle.sd_base.specs.declared.tables.ScenarioFile.{ScenarioFile}
use Rattle.sd_base.specs.declared.tables.ScenarioRow.{ScenarioRow}
use Rattle.sd_base.specs.FileNet.{net_of}
use Rattle.sd_base.specs.Limits.{greatest_of}
use Rattle.escapes.specs.EscapedNames.{escaped_name}
use Rattle.report.specs.declared.refusal.Refusal.{Refusal}
use Rattle.report.specs.declared.refusal.Refusal.TheVariants.{Above}
use Rattle.report.specs.QuantityWords.{quantity_text}
use Rattle.sd_steps.specs.Courses.{Step, deciding, through}
use Rattle.sd_steps.specs.Balancings.{balancing}
use Rattle.sd_steps.specs.Nets.{completing, feeding}
use Rattle.sd_steps.specs.ScenarioSteps.{IsFirstWithout, naming}

-- a number passes the greatest one of its quantity
pub record IsTooMany (quantity : Quantity) (number : ℕ) (refusal : Refusal) : Type 0 where
  pub many : greatest_of quantity < number
  pub told : refusal ≡ Above None (quantity_text quantity) (greatest_of quantity)

-- testing that it doesn't
abbrev pub fitting : Quantity → ℕ → Step (Unit {0})
fitting quantity number = deciding (λ done. number ≤ greatest_of quantity) (λ refusal. IsTooMany quantity number refusal)

-- testing a graph that may have so many shared tokens: its repetition vector, an input of each actor, the stamps of a round with
-- these tokens, and a round without bounds
abbrev pub bounding_graph : ℕ → GraphFile → Step (Unit {0})
bounding_graph tokens graph =
    through (balancing graph) λ gamma.
    through (feeding graph (net_of graph gamma false)) λ fed.
    through (fitting quantities.Stamps (sum gamma * tokens)) λ few.
    completing graph (net_of graph gamma false)

-- that of a scenario
abbrev pub bounding_one : ℕ → ScenarioRow → Step (Unit {0})
bounding_one tokens s = naming (escaped_name s.name) (bounding_graph tokens s.graph)

-- each scenario of a file passes its test
abbrev pub ArePassed : ScenarioFile → ℕ → Type 0
ArePassed file tokens = (s : ℕ) (row : ScenarioRow) → slice_get file.scenarios s ≡ Some row → (bounding_one tokens row).passes tt

-- testing the scenarios of a file, one after another
abbrev pub bounding_all : ScenarioFile → ℕ → Step (Unit {0})
bounding_all file tokens = deciding (λ done. ArePassed file tokens) (λ refusal. IsFirstWithout (bounding_one tokens) file refusal)

-- testing that the states times the shared tokens are within the limit of nodes
abbrev pub fitting_nodes : ScenarioFile → ℕ → Step (Unit {0})
fitting_nodes file tokens = fitting quantities.Nodes (length file.states * tokens)
