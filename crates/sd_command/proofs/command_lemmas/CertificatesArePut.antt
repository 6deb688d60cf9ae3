-- From a certificate that is made to the file that an answer puts.
use Rattle.std.proofs.Common.{◌≡◌, ℕ, ◌*◌, ◌<◌, ◌≤◌, List, [], All, length, Option, Some, Result, Ok, Err, refl, get_or, mul-le-mul, arith}
use Rattle.std.specs.Prelude.{slice_index}
use Rattle.std.proofs.lemmas.List.Elements.{All-from_get_or}
use Rattle.sd_base.specs.declared.limits.TheConstants.{START}
use Rattle.sd_base.specs.Net.{Net}
use Rattle.sd_base.specs.Lawful.{Lawful}
use Rattle.sd_base.proofs.LawfulIsRegular.{balanced}
use Rattle.sd_base.specs.Schedules.{count_of}
use Rattle.firing.specs.declared.table.LoopTable.{LoopTable}
use Rattle.periodic.specs.declared.schedule.Periodic.{Periodic}
use Rattle.periodic.specs.LoopSchedules.{IsScheduleOf}
use Rattle.cert_text.specs.declared.certificates.Certificate.{Certificate}
use Rattle.cert_text.specs.Spellable.{AreStarts}
use Rattle.sd_steps.specs.declared.stop.Stop.{Stop}
use Rattle.sd_steps.specs.declared.stop.Stop.TheVariants as stop
use Rattle.sd_steps.specs.declared.answer.Put.{Put}
use Rattle.sd_steps.specs.declared.file_kind.FileKind.TheVariants as kinds
use Rattle.sd_steps.specs.Certifyings.{Certifies, IsTooLong, certifying}
use Rattle.sd_base.specs.declared.tables.GraphFile.{GraphFile}
use Rattle.sd_base.specs.declared.tables.ScenarioFile.{ScenarioFile}
use Rattle.critical.specs.declared.cycle.NeedCycle.{NeedCycle}
use Rattle.automaton.specs.declared.graph.TimedGraph.{TimedGraph}
use Rattle.scenario_rate.specs.declared.answer.Worst.{Worst}
use Rattle.sd_command.specs.declared.commands.wanted.WantedRate.{WantedRate}
use Rattle.scenario_rate.specs.Answers.{IsApart}
use Rattle.sd_command.specs.commands.Rates.{IsOfRate, IsRateAnswer, IsRateShown, IsRateTooLong}
use Rattle.sd_command.specs.commands.WorstRates.{IsOfWorst, IsShown, IsWorstAnswer, IsWorstTooLong}
use Rattle.sd_command.specs.inside.MadeCertificates.{IsMadeOfRate, IsMadeOfWorst}
use Rattle.sd_command.proofs.command_lemmas.PutsArePlain.{long-plain, rate-plain, worst-plain}
use Rattle.sd_steps.specs.Courses.{deciding}
use Rattle.sd_steps.specs.Steps.{Does}

-- a schedule of a loop has a text
pub starts-spelled : (net : Net) (table : LoopTable) (schedule : Periodic) → Lawful net → IsScheduleOf net table schedule → All AreStarts schedule.starts
starts-spelled net table schedule laws is = All-from_get_or AreStarts schedule.starts [] row
  where
    row : (a : ℕ) → a < length schedule.starts → AreStarts (get_or schedule.starts a [])
    row a below = record {
      some =
          let actor : a < length net.times = omega (arith, below, is.holds.listed.actors) in
          let turn : count_of schedule.starts a ≡ schedule.rounds * slice_index net.round a = is.holds.listed.whole a actor in
          let some_turn : 1 * 1 ≤ schedule.rounds * slice_index net.round a = mul-le-mul is.holds.turns ((balanced net laws).fires a actor) in
          omega (arith, turn, some_turn);
      early = All-from_get_or (λ (s : ℕ). s ≤ START) (get_or schedule.starts a []) 0 (λ k within. is.small a k);
    }

-- the certificate of a rate that is shown stops its answer
pub rate-stops : (graph : GraphFile) (net : Net) (ds : List (Option ℕ)) (wanted : WantedRate) (schedule : Periodic) (cycle : NeedCycle) → IsRateShown net wanted.states schedule cycle → (why : Stop)
    → Does (deciding (Certifies wanted.certificate (IsMadeOfRate net ds wanted schedule cycle)) (IsTooLong wanted.certificate (IsMadeOfRate net ds wanted schedule cycle))) (Err why)
    → Does (deciding (IsRateAnswer graph net ds wanted) (IsRateTooLong net ds wanted)) (Err why)
rate-stops graph net ds wanted schedule cycle shown (stop.Refused refusal) long = record {
  schedule = schedule;
  cycle = cycle;
  shown = shown;
  long = long-plain (IsMadeOfRate net ds wanted schedule cycle) (IsOfRate net ds wanted schedule cycle) (rate-plain net ds wanted schedule cycle shown) wanted.certificate refusal long;
}
rate-stops graph net ds wanted schedule cycle shown stop.OutOfMemory nothing = tt

-- that of a worst rate too
pub worst-stops : (file : ScenarioFile) (graph : TimedGraph) (certificate : Option (List ℕ)) (worst : Worst) → IsShown file graph worst → IsApart graph.edges worst.cycle → (why : Stop)
    → Does (deciding (Certifies certificate (IsMadeOfWorst graph worst)) (IsTooLong certificate (IsMadeOfWorst graph worst))) (Err why)
    → Does (deciding (λ answer. IsWorstAnswer file graph certificate answer 0) (λ refusal. IsWorstTooLong file graph certificate refusal 0)) (Err why)
worst-stops file graph certificate worst shown once (stop.Refused refusal) long = record {
  worst = worst;
  is = shown;
  long = long-plain (IsMadeOfWorst graph worst) (IsOfWorst graph worst) (worst-plain graph worst once shown.fit shown.least) certificate refusal long;
  none = refl;
}
worst-stops file graph certificate worst shown once stop.OutOfMemory nothing = tt

-- a certificate of what an answer shows is put, or is too long
pub certificate-filed : (name : List ℕ) (shows : Certificate → Type 0) (c : Certificate) → shows c → (result : Result Put Stop) → Does (certifying kinds.Certificate name c) result
    → Does (deciding (λ (put : Put). Certifies (Some name) shows (Some put)) (IsTooLong (Some name) shows)) result
certificate-filed name shows c is (Ok put) passes = (c, is, (put, passes, refl))
certificate-filed name shows c is (Err (stop.Refused refusal)) refuses = (c, is, refuses)
certificate-filed name shows c is (Err stop.OutOfMemory) lacks = tt
