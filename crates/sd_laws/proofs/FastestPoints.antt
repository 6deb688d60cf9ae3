-- The points that `storage` prints up to the fastest one are all.
use Rattle.std.proofs.Common.{◌≡◌, ◌≤◌, ℕ, Bool, true, List, Option, map, Ok, IsSome}
use Rattle.std.specs.Prelude.{Contains}
use Rattle.sd_base.specs.declared.limits.Limits.{Limits}
use Rattle.sd_base.specs.declared.tables.GraphFile.{GraphFile}
use Rattle.sd_base.specs.Net.{Net}
use Rattle.sd_base.specs.FileNet.{net_of}
use Rattle.sd_words.specs.declared.request.Request.TheVariants.{Storage}
use Rattle.sd_words.specs.Asked.{request_of}
use Rattle.storage.specs.ParetoPoints.{IsFront}
use Rattle.pareto_front.specs.declared.point.Point.{Point}
use Rattle.explore.specs.Ceilings.{IsGreatest}
use Rattle.explore.specs.Explorations.{pair_of}
use Rattle.sd_io.specs.Outside.{Files}
use Rattle.sd_steps.specs.declared.answer.Answer.{Answer}
use Rattle.sd_steps.specs.Balancings.{balancing}
use Rattle.sd_steps.specs.Courses.{Answered}
use Rattle.sd_steps.specs.Nets.{completing, testing_incident}
use Rattle.sd_steps.specs.Readings.{opening_graph}
use Rattle.sd_command.specs.declared.commands.wanted.WantedPoints.{WantedPoints}
use Rattle.sd_command.specs.commands.Points.{IsPointsAnswer}
use Rattle.sd_command.specs.Requests.{course_of}
use Rattle.sd_laws.specs.FastestPoints.{FastestPointsAreLast, ShowsPoints}
use Rattle.sd_laws.proofs.CommandsDecide.{goes_past}
use Rattle.sd_laws.proofs.RequestsGoOn.{of_request}

-- the points of a net up to the greatest rate of all are those of each greater limit
abbrev pub AllToTheGreatest : Type 0
AllToTheGreatest = (net : Net) (storage limit : ℕ) (points : List Point) (p : Point) → storage ≤ limit → IsFront net storage (map pair_of points) → Contains points p → IsGreatest net p.rate
    → IsFront net limit (map pair_of points)

module _ (all : AllToTheGreatest) (words : List (List ℕ)) (files : Files) (tells : IsSome files) (name : List ℕ) (limits : Limits) (no_overlap : Bool) (certificate : Option (List ℕ))
    (asked : request_of words ≡ Ok (Storage name limits no_overlap certificate)) (answer : Answer) (n : ℕ) where
  abbrev wanted : WantedPoints
  wanted = record { limits = limits; no_overlap = no_overlap; certificate = certificate }

  shows-points : course_of words files (Answered answer) n → ShowsPoints files name limits no_overlap answer
  shows-points due =
      let came = of_request words files (Storage name limits no_overlap certificate) asked (Answered answer) n tt due in
      let opened = goes_past (opening_graph files name true) _ (Answered answer) n tt came in
      let graph : GraphFile = opened.0 in
      let balance = goes_past (balancing graph) _ (Answered answer) n tt opened.2 in
      let net : Net = net_of graph balance.0 no_overlap in
      let test_incident = goes_past (testing_incident graph net) _ (Answered answer) n tt balance.2 in
      let complete = goes_past (completing graph net) _ (Answered answer) n tt test_incident.2 in
      let told : IsPointsAnswer graph net wanted answer n = complete.2 in
      record {
        bytes = opened.1.0;
        graph = graph;
        gamma = balance.0;
        there = opened.1.1.told tells;
        given = opened.1.2;
        round = balance.1;
        points = told.points;
        schedules = told.schedules;
        shown = told.shown;
        text = told.text;
        all = λ p limit one greatest low. all net limits.total limit told.points p low told.shown.trade_off.front one greatest;
      }

pub fastest_points_are_last : AllToTheGreatest → FastestPointsAreLast
fastest_points_are_last all words files name limits no_overlap certificate answer n tells asked due = shows-points all words files tells name limits no_overlap certificate asked answer n due
