-- The command `storage`.
use Rattle.std.specs.Prelude.{ℕ, true, List}
use Rattle.sd_base.specs.declared.tables.GraphFile.{GraphFile}
use Rattle.sd_base.specs.FileNet.{net_of}
use Rattle.sd_io.specs.Outside.{Files}
use Rattle.sd_command.specs.declared.commands.wanted.WantedPoints.{WantedPoints}
use Rattle.sd_steps.specs.Courses.{Ending, After}
use Rattle.sd_steps.specs.Readings.{opening_graph}
use Rattle.sd_steps.specs.Balancings.{balancing}
use Rattle.sd_command.specs.commands.Points.{points_of}

-- the trade-off of a graph
abbrev pub trade_off : WantedPoints → GraphFile → Ending → ℕ → Type 0
trade_off wanted graph =
    After (balancing graph) λ gamma.
    points_of graph (net_of graph gamma wanted.no_overlap) wanted

abbrev pub storage : List ℕ → WantedPoints → Files → Ending → ℕ → Type 0
storage name wanted files =
    After (opening_graph files name true) λ graph.
    trade_off wanted graph
