-- The certificates that are put are valid.
use Rattle.std.specs.Prelude.{◌≡◌, ℕ, ◌≤◌, Bool, true, List, length, Some, IsSome, Ok}
use Rattle.sd_base.specs.declared.tables.GraphFile.{GraphFile}
use Rattle.sd_base.specs.declared.tables.ScenarioFile.{ScenarioFile}
use Rattle.sd_base.specs.declared.limits.Limits.{Limits}
use Rattle.sd_base.specs.declared.limits.Quantity.TheVariants as quantities
use Rattle.sd_base.specs.Limits.{greatest_of}
use Rattle.sd_words.specs.declared.request.Request.TheVariants.{Scenario, Storage, Throughput}
use Rattle.sd_words.specs.Asked.{request_of}
use Rattle.storage.specs.NamedBuffers.{Buffer}
use Rattle.graph_reader.specs.Laws.{Gives}
use Rattle.scenario_reader.specs.ScenarioFiles.{GivesFile}
use Rattle.balance.specs.Repetition.{IsRound}
use Rattle.automaton.specs.declared.graph.TimedGraph.{TimedGraph}
use Rattle.cert_text.specs.declared.certificates.Certificate.TheVariants as certificates
use Rattle.cert_text.specs.declared.certificates.RateCertificate.{RateCertificate}
use Rattle.cert_text.specs.declared.certificates.ScenarioCertificate.{ScenarioCertificate}
use Rattle.cert_text.specs.declared.certificates.StorageCertificate.{StorageCertificate}
use Rattle.cert_text.specs.Reading.{IsCertText}
use Rattle.cert_checker.specs.declared.verdict.Reason.{Reason}
use Rattle.cert_checker.specs.RateCertificates.{IsRateFault}
use Rattle.cert_checker.specs.ScenarioCertificates.{IsScenarioFault}
use Rattle.cert_checker.specs.StorageFaults.{IsStorageFault}
use Rattle.sd_io.specs.Outside.{Files, file_under}
use Rattle.sd_steps.specs.declared.answer.Answer.{Answer}
use Rattle.sd_steps.specs.declared.file_kind.FileKind.TheVariants as kinds
use Rattle.sd_steps.specs.Certifyings.{text_of}
use Rattle.sd_steps.specs.Courses.{Answered}
use Rattle.sd_steps.specs.ScenarioSteps.{timing}
use Rattle.sd_command.specs.Requests.{course_of}

-- an answer puts under a name the text of a certificate of a rate, which is read again from it, and no line of which is faulty for
-- the graph of a file
pub record PutsValidRate (files : Files) (name put : List ℕ) (answer : Answer) : Type 0 where
  pub bytes : List ℕ
  pub graph : GraphFile
  pub gamma : List ℕ
  pub certificate : RateCertificate
  pub there : file_under files name ≡ Some bytes
  pub fits : length bytes ≤ greatest_of quantities.FileBytes
  pub given : Gives bytes true graph
  pub round : IsRound graph gamma
  pub file : answer.put ≡ Some (record { kind = kinds.Certificate; name = put; bytes = text_of (certificates.Rate certificate) })
  pub short : length (text_of (certificates.Rate certificate)) ≤ greatest_of quantities.CertificateBytes
  pub read : IsCertText (text_of (certificates.Rate certificate)) 2 (certificates.Rate certificate)
  pub valid : (line : ℕ) (reason : Reason) → IsRateFault graph gamma certificate line reason → ⊥

-- so does each answer of `throughput` with a certificate
abbrev pub RatesPutAreValid : Type 0
RatesPutAreValid =
    (words : List (List ℕ)) (files : Files) (name put : List ℕ) (buffers : List Buffer) (no_overlap : Bool) (states : ℕ) (answer : Answer) (n : ℕ) → IsSome files
    → request_of words ≡ Ok (Throughput name buffers no_overlap states (Some put)) → course_of words files (Answered answer) n → PutsValidRate files name put answer

-- an answer puts under a name the text of a certificate of a trade-off, which is read again from it, and no line of which is faulty
-- for the graph of a file
pub record PutsValidTradeOff (files : Files) (name put : List ℕ) (answer : Answer) : Type 0 where
  pub bytes : List ℕ
  pub graph : GraphFile
  pub gamma : List ℕ
  pub certificate : StorageCertificate
  pub there : file_under files name ≡ Some bytes
  pub fits : length bytes ≤ greatest_of quantities.FileBytes
  pub given : Gives bytes true graph
  pub round : IsRound graph gamma
  pub file : answer.put ≡ Some (record { kind = kinds.Certificate; name = put; bytes = text_of (certificates.Storage certificate) })
  pub short : length (text_of (certificates.Storage certificate)) ≤ greatest_of quantities.CertificateBytes
  pub read : IsCertText (text_of (certificates.Storage certificate)) 2 (certificates.Storage certificate)
  pub valid : (line : ℕ) (reason : Reason) → IsStorageFault graph gamma 2 certificate line reason → ⊥

-- so does each answer of `storage` with a certificate
abbrev pub TradeOffsPutAreValid : Type 0
TradeOffsPutAreValid =
    (words : List (List ℕ)) (files : Files) (name put : List ℕ) (limits : Limits) (no_overlap : Bool) (answer : Answer) (n : ℕ) → IsSome files
    → request_of words ≡ Ok (Storage name limits no_overlap (Some put)) → course_of words files (Answered answer) n → PutsValidTradeOff files name put answer

-- an answer puts under a name the text of a certificate of a worst rate, which is read again from it, and no line of which is
-- faulty for the timed graph of a file of scenarios
pub record PutsValidWorst (files : Files) (name put : List ℕ) (answer : Answer) : Type 0 where
  pub bytes : List ℕ
  pub scenarios : ScenarioFile
  pub graph : TimedGraph
  pub certificate : ScenarioCertificate
  pub there : file_under files name ≡ Some bytes
  pub fits : length bytes ≤ greatest_of quantities.FileBytes
  pub given : GivesFile bytes scenarios
  pub timed : (timing scenarios).passes graph
  pub file : answer.put ≡ Some (record { kind = kinds.Certificate; name = put; bytes = text_of (certificates.Scenario certificate) })
  pub short : length (text_of (certificates.Scenario certificate)) ≤ greatest_of quantities.CertificateBytes
  pub read : IsCertText (text_of (certificates.Scenario certificate)) 2 (certificates.Scenario certificate)
  pub valid : (line : ℕ) (reason : Reason) → IsScenarioFault graph certificate line reason → ⊥

-- so does each answer of `scenario` with a certificate
abbrev pub WorstRatesPutAreValid : Type 0
WorstRatesPutAreValid =
    (words : List (List ℕ)) (files : Files) (name put : List ℕ) (answer : Answer) (n : ℕ) → IsSome files
    → request_of words ≡ Ok (Scenario name (Some put)) → course_of words files (Answered answer) n → PutsValidWorst files name put answer

-- what is put beside a rate, a trade-off or a worst rate is valid
pub record PutsAreValid : Type 0 where
  pub rates : RatesPutAreValid
  pub trade_offs : TradeOffsPutAreValid
  pub worst_rates : WorstRatesPutAreValid
