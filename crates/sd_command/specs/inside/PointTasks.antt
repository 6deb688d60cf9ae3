-- What the tasks of points come to.
use Rattle.std.specs.Prelude.{◌≡◌, ◌≤◌, Option, Some, None, Result, Ok, Err}
use Rattle.sd_base.specs.declared.memory.NoMemory.{NoMemory}
use Rattle.sd_base.specs.declared.tables.GraphFile.{GraphFile}
use Rattle.sd_base.specs.declared.limits.Limits.{Limits}
use Rattle.sd_base.specs.declared.limits.TheConstants.{STORAGE}
use Rattle.sd_base.specs.Net.{Net}
use Rattle.pareto_front.specs.declared.point.Point.{Point}
use Rattle.explore.specs.Reachable.{IsExplorable}
use Rattle.explore.specs.Explorations.{IsPoint}
use Rattle.report.specs.LinkTexts.{IsNamed}
use Rattle.report.specs.StorageTexts.{point_text}
use Rattle.sd_command.specs.declared.commands.shown_points.ShownPoint.{ShownPoint}
use Rattle.sd_command.specs.commands.Points.{IsPointSchedule}

-- a Pareto point of a net, whose actors and channels the graph names
pub record IsShowable (graph : GraphFile) (net : Net) (point : Point) : Type 0 where
  pub named : IsNamed graph net
  pub explorable : IsExplorable net
  pub limits : Limits
  pub total : limits.total ≤ STORAGE
  pub found : IsPoint net limits point

-- the schedule is that of the point's loop, and the lines are those of the point with it
pub record IsShown (graph : GraphFile) (net : Net) (point : Point) (shown : ShownPoint) : Type 0 where
  pub schedule : IsPointSchedule net point shown.schedule
  pub lines : shown.lines ≡ point_text graph point shown.schedule

-- what a task keeps after its run
abbrev pub HasShown : GraphFile → Net → Point → Option (Result ShownPoint NoMemory) → Type 0
HasShown graph net point None = ⊥
HasShown graph net point (Some (Ok shown)) = IsShown graph net point shown
HasShown graph net point (Some (Err error)) = Unit {0}

-- a task has the point, and the graph and the net of all
pub record IsTaskOf (graph : GraphFile) (net : Net) (point : Point) (own_graph : GraphFile) (own_net : Net) (own_point : Point) : Type 0 where
  pub graph_is : own_graph ≡ graph
  pub net_is : own_net ≡ net
  pub point_is : own_point ≡ point
