-- What calls promise of certificates that they make.
use Rattle.std.specs.Prelude.{◌≡◌, ℕ, List, Option}
use Rattle.sd_base.specs.Net.{Net}
use Rattle.periodic.specs.declared.schedule.Periodic.{Periodic}
use Rattle.critical.specs.declared.cycle.NeedCycle.{NeedCycle}
use Rattle.automaton.specs.declared.graph.TimedGraph.{TimedGraph}
use Rattle.scenario_rate.specs.declared.answer.Worst.{Worst}
use Rattle.cert_text.specs.declared.certificates.Certificate.{Certificate}
use Rattle.cert_text.specs.declared.certificates.Certificate.TheVariants as certificates
use Rattle.cert_text.specs.declared.certificates.RateCertificate.{RateCertificate}
use Rattle.cert_text.specs.declared.certificates.ScenarioCertificate.{ScenarioCertificate}
use Rattle.cert_maker.specs.RateCertificates.{IsRateCertificate}
use Rattle.cert_maker.specs.WorstCertificates.{IsWorstCertificate}
use Rattle.sd_command.specs.declared.commands.wanted.WantedRate.{WantedRate}

-- a certificate is made of a schedule and a need cycle of a net with these capacities
abbrev pub IsMadeOfRate : Net → List (Option ℕ) → WantedRate → Periodic → NeedCycle → Certificate → Type 0
IsMadeOfRate net ds wanted schedule cycle c = (r : RateCertificate) × (c ≡ certificates.Rate r) × IsRateCertificate net wanted.no_overlap ds schedule cycle r

-- a certificate is made of a worst rate
abbrev pub IsMadeOfWorst : TimedGraph → Worst → Certificate → Type 0
IsMadeOfWorst graph worst c = (s : ScenarioCertificate) × (c ≡ certificates.Scenario s) × IsWorstCertificate graph worst s
