-- The points that `storage` prints up to the fastest one are all.
use Rattle.std.specs.Prelude.{◌≡◌, ℕ, ◌≤◌, Bool, true, Contains, List, map, Option, Some, IsSome, Ok}
use Rattle.sd_base.specs.declared.limits.Limits.{Limits}
use Rattle.sd_base.specs.declared.tables.GraphFile.{GraphFile}
use Rattle.sd_base.specs.FileNet.{net_of}
use Rattle.sd_words.specs.declared.request.Request.TheVariants.{Storage}
use Rattle.sd_words.specs.Asked.{request_of}
use Rattle.graph_reader.specs.Laws.{Gives}
use Rattle.balance.specs.Repetition.{IsRound}
use Rattle.periodic.specs.declared.schedule.Periodic.{Periodic}
use Rattle.storage.specs.ParetoPoints.{IsFront}
use Rattle.pareto_front.specs.declared.point.Point.{Point}
use Rattle.explore.specs.Ceilings.{IsGreatest}
use Rattle.explore.specs.Explorations.{pair_of}
use Rattle.report.specs.StorageTexts.{points_lines}
use Rattle.sd_io.specs.Outside.{Files, file_under}
use Rattle.sd_steps.specs.declared.answer.Answer.{Answer}
use Rattle.sd_steps.specs.Courses.{Answered}
use Rattle.sd_command.specs.commands.Points.{ArePointsShown}
use Rattle.sd_command.specs.Requests.{course_of}

-- the points that are printed are those of the net of a graph file within a limit; where one of them has the greatest rate of all
-- storage distributions, they are the Pareto points within each greater limit too
pub record ShowsPoints (files : Files) (name : List ℕ) (limits : Limits) (no_overlap : Bool) (answer : Answer) : Type 0 where
  pub bytes : List ℕ
  pub graph : GraphFile
  pub gamma : List ℕ
  pub there : file_under files name ≡ Some bytes
  pub given : Gives bytes true graph
  pub round : IsRound graph gamma
  pub points : List Point
  pub schedules : List Periodic
  pub shown : ArePointsShown (net_of graph gamma no_overlap) limits points schedules
  pub text : answer.text ≡ points_lines graph points schedules
  pub all : (p : Point) (limit : ℕ) → Contains points p → IsGreatest (net_of graph gamma no_overlap) p.rate → limits.total ≤ limit
      → IsFront (net_of graph gamma no_overlap) limit (map pair_of points)

-- so are those of each answer of `storage`
abbrev pub FastestPointsAreLast : Type 0
FastestPointsAreLast =
    (words : List (List ℕ)) (files : Files) (name : List ℕ) (limits : Limits) (no_overlap : Bool) (certificate : Option (List ℕ)) (answer : Answer) (n : ℕ) → IsSome files
    → request_of words ≡ Ok (Storage name limits no_overlap certificate) → course_of words files (Answered answer) n → ShowsPoints files name limits no_overlap answer
