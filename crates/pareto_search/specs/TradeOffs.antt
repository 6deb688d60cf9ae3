-- What a search for the Pareto points comes to.
use Rattle.std.specs.Prelude.{Contains, List, map}
use Rattle.sd_base.specs.declared.limits.Limits.{Limits}
use Rattle.sd_base.specs.Net.{Net}
use Rattle.storage.specs.ParetoPoints.{IsFront}
use Rattle.pareto_front.specs.declared.point.Point.{Point}
use Rattle.explore.specs.Explorations.{IsPoint, pair_of}

-- the points are the front of all distributions within the limit, each with its least one
pub record IsTradeOff (net : Net) (limits : Limits) (points : List Point) : Type 0 where
  pub front : IsFront net limits.total (map pair_of points)
  pub reached : (p : Point) → Contains points p → IsPoint net limits p
