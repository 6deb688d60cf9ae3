-- What is put is accepted by `check`.
use Rattle.std.proofs.Common.{◌≡◌, ℕ, ◌≤◌, inl, inr, true, List, length, Some, refl, sym, subst, ◌∙◌}
use Rattle.sd_base.specs.declared.limits.Quantity.TheVariants as quantities
use Rattle.sd_base.specs.declared.tables.GraphFile.{GraphFile}
use Rattle.sd_base.specs.Limits.{greatest_of}
use Rattle.sd_words.specs.declared.request.Request.TheVariants.{Check}
use Rattle.graph_reader.specs.Laws.{Gives}
use Rattle.balance.specs.Repetition.{IsRound}
use Rattle.cert_text.specs.declared.certificates.Certificate.{Certificate}
use Rattle.cert_text.specs.declared.certificates.Certificate.TheVariants as certificates
use Rattle.cert_text.specs.Reading.{IsCertText}
use Rattle.cert_checker.specs.declared.verdict.Claim.{Claim}
use Rattle.cert_checker.specs.declared.verdict.Reason.{Reason}
use Rattle.cert_checker.specs.Certificates.{IsCertificateClaim, IsCertificateFault}
use Rattle.cert_checker.specs.ScenarioCertificates.{IsScenarioFault, IsWorstClaim}
use Rattle.cert_maker.specs.ValidTradeOffs.{TradeOffsAreValid}
use Rattle.sd_io.specs.Outside.{Files, file_under}
use Rattle.sd_steps.specs.declared.answer.Answer.{Answer}
use Rattle.sd_steps.specs.declared.file_kind.FileKind.TheVariants as files
use Rattle.sd_laws.specs.AcceptedCertificates.{Accepts, Asks, PutsAreAccepted}
use Rattle.sd_steps.specs.Balancings.{balancing}
use Rattle.sd_steps.specs.CertificateReadings.{opening_certificate}
use Rattle.sd_steps.specs.Certifyings.{text_of}
use Rattle.sd_command.specs.commands.Checks.{checked}
use Rattle.sd_steps.specs.Judgings.{judging}
use Rattle.sd_steps.specs.Courses.{Step, Ending, Answered, Refused, Ended, Failed, Lacking, After, ends_by, refused, failed, lacking, passed, IsCutOff}
use Rattle.sd_laws.specs.PutCertificates.{PutsValidRate, PutsValidTradeOff, PutsValidWorst}
use Rattle.sd_steps.specs.Readings.{reading_graph}
use Rattle.sd_steps.specs.Askings.{asking}
use Rattle.sd_command.specs.Requests.{command_of, course_of}
use Rattle.sd_steps.specs.ScenarioSteps.{reading_scenarios, timing}
use Rattle.sd_steps.specs.Takings.{taking}
use Rattle.sd_laws.proofs.CertificatesDecide.{opening_certificate_determines}
use Rattle.sd_laws.proofs.CommandsDecide.{Determines}
use Rattle.sd_laws.proofs.OneWorst.{ScenarioLaws, reading_file_determines, timing_determines}
use Rattle.sd_laws.proofs.SharedSteps.{FileLaws, asking_determines, balancing_determines, reading_determines, taking_determines}
use Rattle.sd_laws.proofs.ValidPuts.{rates_put_are_valid}
use Rattle.sd_laws.proofs.ValidTradeOffPuts.{trade_offs_put_are_valid}
use Rattle.sd_laws.proofs.ValidWorstPuts.{worst_rates_put_are_valid}

-- where a step determines and passes on a value, what follows with that value accepts or the course is cut off
goes-on : {A : Type 0} (step : Step A) (next : A → Ending → ℕ → Type 0) (faulty : ℕ → Reason → Type 0) (holds : Claim → Type 0) → Determines step → (a : A) → step.passes a → Accepts (next a) faulty holds → Accepts (After step next) faulty holds
goes-on step next faulty holds d a passes rest ending n (refused s is e none) = absurd (d.never s a is passes)
goes-on step next faulty holds d a passes rest ending n (failed s is e none) = inl (subst IsCutOff (sym e) tt)
goes-on step next faulty holds d a passes rest ending n (lacking e none) = inl (subst IsCutOff (sym e) tt)
goes-on {A} step next faulty holds d a passes rest ending n (passed b also came) = rest ending n (subst (λ (x : A). next x ending n) (d.one b a also passes) came)

-- the verdict on a certificate without a fault
judged : (faulty : ℕ → Reason → Type 0) (holds : Claim → Type 0) → ((line : ℕ) (reason : Reason) → faulty line reason → ⊥) → Accepts (ends_by (judging faulty holds)) faulty holds
judged faulty holds valid (Answered answer) n is = inr (answer, refl, is.1)
judged faulty holds valid (Refused refusal) n is = absurd (valid is.1.line is.1.reason is.1.first.is)
judged faulty holds valid (Ended refusal) n is = absurd is
judged faulty holds valid (Failed refusal) n is = absurd is
judged faulty holds valid Lacking n is = inl tt

module _ (shelf : Files) (name put : List ℕ) (answer : Answer) (words : List (List ℕ)) (later : Files) (asks : Asks shelf name put answer words later)
    (bytes : List ℕ) (there : file_under shelf name ≡ Some bytes) (fits : length bytes ≤ greatest_of quantities.FileBytes)
    (c : Certificate) (file : answer.put ≡ Some (record { kind = files.Certificate; name = put; bytes = text_of c })) (short : length (text_of c) ≤ greatest_of quantities.CertificateBytes) (read : IsCertText (text_of c) 2 c)
    (faulty : ℕ → Reason → Type 0) (holds : Claim → Type 0) where
  -- from the verdict on the certificate that was put to the whole course
  course-accepts : Accepts (checked 2 c bytes) faulty holds → Accepts (course_of words later) faulty holds
  course-accepts rest =
      goes-on (asking words) (λ request. command_of request later) faulty holds (asking_determines words) (Check name put) asks.asked
      (goes-on (taking later files.Graph name) _ faulty holds (taking_determines later asks.tells files.Graph name) bytes (record { fits = fits; told = λ told. asks.same ∙ there })
      (goes-on (opening_certificate later put) _ faulty holds (opening_certificate_determines later asks.tells put) (2, c) (text_of c, record { fits = short; told = λ told. asks.there _ file }, read) rest))

module _ (laws : FileLaws) where
  -- the verdict on a certificate for a graph
  graph-accepts : (bytes : List ℕ) (graph : GraphFile) (gamma : List ℕ) (next : GraphFile → List ℕ → Ending → ℕ → Type 0) (faulty : ℕ → Reason → Type 0) (holds : Claim → Type 0) → Gives bytes true graph → IsRound graph gamma
      → Accepts (next graph gamma) faulty holds → Accepts (After (reading_graph bytes true) λ g. After (balancing g) λ round. next g round) faulty holds
  graph-accepts bytes graph gamma next faulty holds given round rest =
      goes-on (reading_graph bytes true) _ faulty holds (reading_determines laws bytes true) graph given
      (goes-on (balancing graph) _ faulty holds (balancing_determines laws graph (laws.keeps bytes true graph given)) gamma round rest)

  rate-accepts : (shelf : Files) (name put : List ℕ) (answer : Answer) (words : List (List ℕ)) (later : Files) → Asks shelf name put answer words later → (is : PutsValidRate shelf name put answer)
      → Accepts (course_of words later) (IsCertificateFault is.graph is.gamma 2 (certificates.Rate is.certificate)) (IsCertificateClaim is.graph is.gamma (certificates.Rate is.certificate))
  rate-accepts shelf name put answer words later asks is =
      let c : Certificate = certificates.Rate is.certificate in
      course-accepts shelf name put answer words later asks is.bytes is.there is.fits c is.file is.short is.read _ _
      (graph-accepts is.bytes is.graph is.gamma (λ g round. ends_by (judging (IsCertificateFault g round 2 c) (IsCertificateClaim g round c))) _ _ is.given is.round
      (judged (IsCertificateFault is.graph is.gamma 2 c) (IsCertificateClaim is.graph is.gamma c) is.valid))

  trade-off-accepts : (shelf : Files) (name put : List ℕ) (answer : Answer) (words : List (List ℕ)) (later : Files) → Asks shelf name put answer words later → (is : PutsValidTradeOff shelf name put answer)
      → Accepts (course_of words later) (IsCertificateFault is.graph is.gamma 2 (certificates.Storage is.certificate)) (IsCertificateClaim is.graph is.gamma (certificates.Storage is.certificate))
  trade-off-accepts shelf name put answer words later asks is =
      let c : Certificate = certificates.Storage is.certificate in
      course-accepts shelf name put answer words later asks is.bytes is.there is.fits c is.file is.short is.read _ _
      (graph-accepts is.bytes is.graph is.gamma (λ g round. ends_by (judging (IsCertificateFault g round 2 c) (IsCertificateClaim g round c))) _ _ is.given is.round
      (judged (IsCertificateFault is.graph is.gamma 2 c) (IsCertificateClaim is.graph is.gamma c) is.valid))

  worst-accepts : ScenarioLaws → (shelf : Files) (name put : List ℕ) (answer : Answer) (words : List (List ℕ)) (later : Files) → Asks shelf name put answer words later → (is : PutsValidWorst shelf name put answer)
      → Accepts (course_of words later) (IsScenarioFault is.graph is.certificate) (IsWorstClaim is.graph is.certificate)
  worst-accepts scenarios shelf name put answer words later asks is =
      course-accepts shelf name put answer words later asks is.bytes is.there is.fits (certificates.Scenario is.certificate) is.file is.short is.read _ _
      (goes-on (reading_scenarios is.bytes) _ _ _ (reading_file_determines laws scenarios is.bytes) is.scenarios is.given
      (goes-on (timing is.scenarios) _ _ _ (timing_determines laws scenarios is.scenarios (scenarios.keeps is.bytes is.scenarios is.given)) is.graph is.timed
      (judged (IsScenarioFault is.graph is.certificate) (IsWorstClaim is.graph is.certificate) is.valid)))

pub puts_are_accepted : FileLaws → ScenarioLaws → TradeOffsAreValid → PutsAreAccepted
puts_are_accepted laws scenarios valid = record {
  rates = λ words shelf name put buffers no_overlap states answer n tells asked due checking later asks.
      let is = rates_put_are_valid laws words shelf name put buffers no_overlap states answer n tells asked due in (is, rate-accepts laws shelf name put answer checking later asks is);
  trade_offs = λ words shelf name put limits no_overlap answer n tells asked due checking later asks.
      let is = trade_offs_put_are_valid laws valid words shelf name put limits no_overlap answer n tells asked due in (is, trade-off-accepts laws shelf name put answer checking later asks is);
  worst_rates = λ words shelf name put answer n tells asked due checking later asks.
      let is = worst_rates_put_are_valid words shelf name put answer n tells asked due in (is, worst-accepts laws scenarios shelf name put answer checking later asks is);
}
