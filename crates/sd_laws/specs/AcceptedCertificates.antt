-- What is put is accepted: the command `check` over the same file and what was put tells of an accepted certificate.
use Rattle.std.specs.Prelude.{◌≡◌, ℕ, ◌⊎◌, Bool, List, Some, IsSome, Ok}
use Rattle.sd_base.specs.declared.limits.Limits.{Limits}
use Rattle.sd_words.specs.declared.request.Request.TheVariants.{Check, Scenario, Storage, Throughput}
use Rattle.sd_words.specs.Asked.{request_of}
use Rattle.storage.specs.NamedBuffers.{Buffer}
use Rattle.cert_text.specs.declared.certificates.Certificate.TheVariants as certificates
use Rattle.cert_checker.specs.declared.verdict.Claim.{Claim}
use Rattle.cert_checker.specs.declared.verdict.Reason.{Reason}
use Rattle.cert_checker.specs.Certificates.{IsCertificateClaim, IsCertificateFault}
use Rattle.cert_checker.specs.ScenarioCertificates.{IsScenarioFault, IsWorstClaim}
use Rattle.sd_io.specs.Outside.{Files, file_under}
use Rattle.sd_steps.specs.declared.answer.Answer.{Answer}
use Rattle.sd_steps.specs.declared.answer.Put.{Put}
use Rattle.sd_steps.specs.Judgings.{IsAccepted}
use Rattle.sd_steps.specs.Courses.{Answered, Ending, IsCutOff}
use Rattle.sd_laws.specs.PutCertificates.{PutsValidRate, PutsValidTradeOff, PutsValidWorst}
use Rattle.sd_command.specs.Requests.{course_of}

-- words ask for `check` of a file and of what an answer put, over files that tell: the file is the one that was there before, and
-- the certificate has the bytes that were put
pub record Asks (files : Files) (name put : List ℕ) (answer : Answer) (words : List (List ℕ)) (later : Files) : Type 0 where
  pub asked : request_of words ≡ Ok (Check name put)
  pub tells : IsSome later
  pub same : file_under later name ≡ file_under files name
  pub there : (p : Put) → answer.put ≡ Some p → file_under later put ≡ Some p.bytes

-- however a course ends, unless memory lacks or taking a file fails, it tells that a certificate of these faults and claims is
-- accepted
abbrev pub Accepts : (Ending → ℕ → Type 0) → (ℕ → Reason → Type 0) → (Claim → Type 0) → Type 0
Accepts course faulty holds = (ending : Ending) (n : ℕ) → course ending n → IsCutOff ending ⊎ ((answer : Answer) × (ending ≡ Answered answer) × IsAccepted faulty holds answer)

-- what an answer of `throughput` puts is accepted
abbrev pub RatesPutAreAccepted : Type 0
RatesPutAreAccepted =
    (words : List (List ℕ)) (files : Files) (name put : List ℕ) (buffers : List Buffer) (no_overlap : Bool) (states : ℕ) (answer : Answer) (n : ℕ) → IsSome files
    → request_of words ≡ Ok (Throughput name buffers no_overlap states (Some put)) → course_of words files (Answered answer) n
    → (checking : List (List ℕ)) (later : Files) → Asks files name put answer checking later
    → (is : PutsValidRate files name put answer) × Accepts (course_of checking later) (IsCertificateFault is.graph is.gamma 2 (certificates.Rate is.certificate)) (IsCertificateClaim is.graph is.gamma (certificates.Rate is.certificate))

-- so is what one of `storage` puts
abbrev pub TradeOffsPutAreAccepted : Type 0
TradeOffsPutAreAccepted =
    (words : List (List ℕ)) (files : Files) (name put : List ℕ) (limits : Limits) (no_overlap : Bool) (answer : Answer) (n : ℕ) → IsSome files
    → request_of words ≡ Ok (Storage name limits no_overlap (Some put)) → course_of words files (Answered answer) n
    → (checking : List (List ℕ)) (later : Files) → Asks files name put answer checking later
    → (is : PutsValidTradeOff files name put answer) × Accepts (course_of checking later) (IsCertificateFault is.graph is.gamma 2 (certificates.Storage is.certificate)) (IsCertificateClaim is.graph is.gamma (certificates.Storage is.certificate))

-- and what one of `scenario` puts
abbrev pub WorstRatesPutAreAccepted : Type 0
WorstRatesPutAreAccepted =
    (words : List (List ℕ)) (files : Files) (name put : List ℕ) (answer : Answer) (n : ℕ) → IsSome files
    → request_of words ≡ Ok (Scenario name (Some put)) → course_of words files (Answered answer) n
    → (checking : List (List ℕ)) (later : Files) → Asks files name put answer checking later
    → (is : PutsValidWorst files name put answer) × Accepts (course_of checking later) (IsScenarioFault is.graph is.certificate) (IsWorstClaim is.graph is.certificate)

-- what is put beside a rate, a trade-off or a worst rate is accepted
pub record PutsAreAccepted : Type 0 where
  pub rates : RatesPutAreAccepted
  pub trade_offs : TradeOffsPutAreAccepted
  pub worst_rates : WorstRatesPutAreAccepted
