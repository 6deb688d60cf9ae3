-- The rate of a net, with what shows it.
use Rattle.std.specs.Prelude.{◌≡◌, ℕ, ◌*◌, ◌≤◌, List, Option}
use Rattle.sd_base.specs.declared.tables.GraphFile.{GraphFile}
use Rattle.sd_base.specs.Net.{Net}
use Rattle.sd_base.specs.Rates.{Rate}
use Rattle.firing.specs.declared.table.LoopTable.{LoopTable}
use Rattle.lasso.specs.LoopAnswers.{IsFound}
use Rattle.periodic.specs.declared.schedule.Periodic.{Periodic}
use Rattle.periodic.specs.LoopSchedules.{IsScheduleOf}
use Rattle.critical.specs.declared.cycle.NeedCycle.{NeedCycle}
use Rattle.critical.specs.Cycles.{HoldsOn}
use Rattle.critical.specs.CriticalCycles.{IsCriticalCycleOf}
use Rattle.cert_text.specs.declared.certificates.Certificate.{Certificate}
use Rattle.cert_text.specs.declared.certificates.Certificate.TheVariants as certificates
use Rattle.cert_text.specs.declared.certificates.RateCertificate.{RateCertificate}
use Rattle.cert_maker.specs.RateCertificates.{IsRateCertificate}
use Rattle.report.specs.declared.refusal.Refusal.{Refusal}
use Rattle.report.specs.AnswerTexts.{rate_lines}
use Rattle.sd_steps.specs.declared.answer.Answer.{Answer}
use Rattle.sd_command.specs.declared.commands.wanted.WantedRate.{WantedRate}
use Rattle.sd_steps.specs.Certifyings.{Certifies, IsTooLong}
use Rattle.sd_steps.specs.Courses.{Analysis}
use Rattle.sd_steps.specs.Findings.{IsRunRefusal}
use Rattle.sd_command.specs.PlainCertificates.{IsPlainRate}

-- a schedule and a need cycle show the rate of a net: the schedule is that of the loop of self-timed execution, holds on the
-- net and reaches the rate; the need cycle is a critical one of the loop, holds on the net and bounds the rate
pub record IsRateShown (net : Net) (states : ℕ) (schedule : Periodic) (cycle : NeedCycle) : Type 0 where
  pub num : ℕ
  pub den : ℕ
  pub rate : Rate net num den
  pub table : LoopTable
  pub found : IsFound net states table
  pub of_loop : IsScheduleOf net table schedule
  pub critical : IsCriticalCycleOf net table cycle
  pub holds : HoldsOn net cycle
  pub reached : schedule.rounds * den ≡ num * schedule.period
  pub bounded : cycle.rounds * den ≡ num * cycle.time

-- a certificate of a schedule and a need cycle of a net with these capacities, which is plain
abbrev pub IsOfRate : Net → List (Option ℕ) → WantedRate → Periodic → NeedCycle → Certificate → Type 0
IsOfRate net ds wanted schedule cycle c =
    (r : RateCertificate) × (c ≡ certificates.Rate r) × IsRateCertificate net wanted.no_overlap ds schedule cycle r × IsPlainRate net wanted.states r

-- what shows the rate is printed, and the certificate is made of it
pub record IsRateAnswer (graph : GraphFile) (net : Net) (ds : List (Option ℕ)) (wanted : WantedRate) (answer : Answer) : Type 0 where
  pub schedule : Periodic
  pub cycle : NeedCycle
  pub shown : IsRateShown net wanted.states schedule cycle
  pub text : answer.text ≡ rate_lines graph net schedule cycle
  pub put : Certifies wanted.certificate (IsOfRate net ds wanted schedule cycle) answer.put

-- the certificate of what shows the rate is too long
pub record IsRateTooLong (net : Net) (ds : List (Option ℕ)) (wanted : WantedRate) (refusal : Refusal) : Type 0 where
  pub schedule : Periodic
  pub cycle : NeedCycle
  pub shown : IsRateShown net wanted.states schedule cycle
  pub long : IsTooLong wanted.certificate (IsOfRate net ds wanted schedule cycle) refusal

-- one execution; the length of the certificate isn't decided by words and files, since other need cycles bound the rate too
abbrev pub execution : GraphFile → Net → List (Option ℕ) → WantedRate → Analysis
execution graph net ds wanted = record {
  answered = λ answer n. (n ≡ 1) × IsRateAnswer graph net ds wanted answer;
  refused = λ refusal n. (n ≡ 1) × IsRunRefusal net wanted.states refusal;
  ended = λ refusal n. (n ≡ 1) × IsRateTooLong net ds wanted refusal;
  counted = λ n. n ≤ 1;
}
