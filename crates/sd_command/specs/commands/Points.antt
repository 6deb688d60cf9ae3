-- The trade-off between the storage and the rate of a net, with what shows it.
use Rattle.std.specs.Prelude.{◌≡◌, ℕ, ◌*◌, ◌≤◌, ◌<◌, ◌⊎◌, List, length, Option, Some, None}
use Rattle.std.specs.List.{AllZip}
use Rattle.sd_base.specs.declared.tables.GraphFile.{GraphFile}
use Rattle.sd_base.specs.declared.limits.Limits.{Limits}
use Rattle.sd_base.specs.declared.limits.Quantity.TheVariants as quantities
use Rattle.sd_base.specs.Limits.{greatest_of}
use Rattle.sd_base.specs.Net.{Net}
use Rattle.sd_base.specs.Untimed.{IsLive}
use Rattle.lasso.specs.LoopAnswers.{IsStatesSpent, IsTooManyStarts}
use Rattle.periodic.specs.declared.schedule.Periodic.{Periodic}
use Rattle.periodic.specs.LoopSchedules.{IsScheduleOf}
use Rattle.storage.specs.BoundedNets.{bound}
use Rattle.pareto_front.specs.declared.point.Point.{Point}
use Rattle.explore.specs.declared.exploration.Member.{Member}
use Rattle.explore.specs.Reachable.{IsReachable}
use Rattle.explore.specs.Explorations.{AreFound, CountsFew, CountsLive, IsExploration, cycles_in}
use Rattle.pareto_search.specs.TradeOffs.{IsTradeOff}
use Rattle.cert_text.specs.declared.certificates.Certificate.{Certificate}
use Rattle.cert_text.specs.declared.certificates.Certificate.TheVariants as certificates
use Rattle.cert_text.specs.declared.certificates.StorageCertificate.{StorageCertificate}
use Rattle.cert_maker.specs.StorageCertificates.{IsStorageCertificate}
use Rattle.report.specs.declared.refusal.Refusal.{Refusal}
use Rattle.report.specs.declared.refusal.Refusal.TheVariants.{Above, DistributionsSpent, StatesSpent}
use Rattle.report.specs.QuantityWords.{quantity_text}
use Rattle.report.specs.StorageTexts.{buffers_list, points_lines}
use Rattle.sd_steps.specs.declared.answer.Answer.{Answer}
use Rattle.sd_command.specs.declared.commands.wanted.WantedPoints.{WantedPoints}
use Rattle.sd_steps.specs.Certifyings.{Certifies, IsTooLong}
use Rattle.sd_steps.specs.Courses.{Analysis, Ending, After, ends_by}
use Rattle.sd_steps.specs.Nets.{testing_incident, completing}
use Rattle.sd_command.specs.PlainCertificates.{IsPlainTradeOff}

-- a limit is passed: that of shapes or that of starts, in the execution of a distribution that is reachable; or that of
-- distributions, of which more are reachable
pub data IsPointsEnd (graph : GraphFile) (net : Net) (limits : Limits) (refusal : Refusal) : Type 0 where
  states_spent : (ds : List (Option ℕ)) → IsReachable net limits.total ds → IsLive (bound net ds) → IsStatesSpent (bound net ds) limits.states
      → refusal ≡ StatesSpent limits.states (Some (buffers_list graph ds)) → IsPointsEnd graph net limits refusal
  too_many_starts : (ds : List (Option ℕ)) → IsReachable net limits.total ds → IsLive (bound net ds) → IsTooManyStarts (bound net ds) limits.states
      → refusal ≡ Above None (quantity_text quantities.Starts) (greatest_of quantities.Starts) → IsPointsEnd graph net limits refusal
  distributions_spent : (dss : List (List (Option ℕ))) → AreFound net limits.total dss → limits.distributions < length dss
      → refusal ≡ DistributionsSpent limits.distributions → IsPointsEnd graph net limits refusal

-- the schedule is that of the loop of the point's bounded net, and reaches its rate
pub record IsPointSchedule (net : Net) (point : Point) (schedule : Periodic) : Type 0 where
  pub of_loop : IsScheduleOf (bound net point.capacities.capacities) point.table schedule
  pub reached : schedule.rounds * point.rate.den ≡ point.rate.num * schedule.period

-- the points are exactly the Pareto points of all distributions within the limit, each with the first distribution that reaches it
-- and the schedule of its loop
pub record ArePointsShown (net : Net) (limits : Limits) (points : List Point) (schedules : List Periodic) : Type 0 where
  pub trade_off : IsTradeOff net limits points
  pub reached : AllZip (IsPointSchedule net) points schedules

-- a certificate of the points with their schedules, and of the members of an exploration that comes to these points, which is plain;
-- an execution was counted for each member whose net is live
pub record IsOfPoints (net : Net) (wanted : WantedPoints) (points : List Point) (schedules : List Periodic) (n : ℕ) (certificate : Certificate) : Type 0 where
  pub members : List Member
  pub explored : IsExploration net wanted.limits members points
  pub counted : n ≡ cycles_in members
  pub listed : StorageCertificate
  pub is : certificate ≡ certificates.Storage listed
  pub made : IsStorageCertificate net wanted.no_overlap wanted.limits.total members points schedules listed
  pub plain : IsPlainTradeOff net wanted.limits.states listed

-- what shows the points is printed, and the certificate is one of them; an execution was counted for each of some distributions that
-- differ, are reachable and have live nets, of which there are no fewer than points
pub record IsPointsAnswer (graph : GraphFile) (net : Net) (wanted : WantedPoints) (answer : Answer) (n : ℕ) : Type 0 where
  pub points : List Point
  pub schedules : List Periodic
  pub shown : ArePointsShown net wanted.limits points schedules
  pub text : answer.text ≡ points_lines graph points schedules
  pub put : Certifies wanted.certificate (IsOfPoints net wanted points schedules n) answer.put
  pub counted : CountsLive net wanted.limits n
  pub many : length points ≤ n

-- the certificate of the points is too long
pub record ArePointsTooLong (net : Net) (wanted : WantedPoints) (refusal : Refusal) (n : ℕ) : Type 0 where
  pub points : List Point
  pub schedules : List Periodic
  pub shown : ArePointsShown net wanted.limits points schedules
  pub long : IsTooLong wanted.certificate (IsOfPoints net wanted points schedules n) refusal
  pub counted : CountsLive net wanted.limits n

-- one search for the points, whose limits words and files need not decide, nor the length of its certificate
abbrev pub points_search : GraphFile → Net → WantedPoints → Analysis
points_search graph net wanted = record {
  answered = λ answer n. IsPointsAnswer graph net wanted answer n;
  refused = λ refusal n. ⊥;
  ended = λ refusal n. (CountsFew net wanted.limits 0 n × IsPointsEnd graph net wanted.limits refusal) ⊎ ArePointsTooLong net wanted refusal n;
  counted = λ n. CountsFew net wanted.limits 0 n;
}

-- the points of a net that has a channel at each actor and completes a round
abbrev pub points_of : GraphFile → Net → WantedPoints → Ending → ℕ → Type 0
points_of graph net wanted =
    After (testing_incident graph net) λ incident.
    After (completing graph net) λ complete.
    ends_by (points_search graph net wanted)
