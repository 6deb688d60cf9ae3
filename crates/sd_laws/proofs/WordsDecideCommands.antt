-- The words and files decide each command.
use Rattle.std.proofs.Common.{ℕ, Bool, true, false, List, length, Option, None, Some, IsSome}
use Rattle.sd_base.specs.FileNet.{net_of}
use Rattle.sd_base.specs.Net.{Net}
use Rattle.sd_words.specs.declared.request.Request.{Request}
use Rattle.sd_words.specs.Asked.{IsWithinLimits}
use Rattle.sd_words.proofs.AskedNumbersFit.{asked_within}
use Rattle.storage.specs.BoundedNets.{bound}
use Rattle.storage.specs.NamedBuffers.{Buffer}
use Rattle.sd_words.specs.declared.request.Request.TheVariants as requests
use Rattle.report.specs.AnswerTexts.{repetition_lines}
use Rattle.sd_io.specs.Outside.{Files}
use Rattle.sd_steps.specs.declared.answer.Put.{Put}
use Rattle.sd_steps.specs.declared.file_kind.FileKind.TheVariants.{Graph, Output}
use Rattle.sd_command.specs.declared.commands.wanted.WantedPoints.{WantedPoints}
use Rattle.sd_command.specs.declared.commands.wanted.WantedRate.{WantedRate}
use Rattle.sd_steps.specs.Takings.{taking}
use Rattle.sd_steps.specs.Readings.{opening_graph, reading_graph}
use Rattle.sd_steps.specs.Balancings.{balancing}
use Rattle.sd_steps.specs.Courses.{printing}
use Rattle.sd_command.specs.commands.Repetitions.{repetition}
use Rattle.sd_command.specs.commands.Throughputs.{rate_on, throughput}
use Rattle.sd_command.specs.commands.InOrders.{ordered, ordered_rate_on}
use Rattle.sd_command.specs.commands.LeastTimes.{complete, time_on}
use Rattle.sd_command.specs.commands.Expansions.{expand, expanding, expansion_on, graph_put, telling_graph}
use Rattle.sd_steps.specs.Orderings.{NamedOrders, ordering}
use Rattle.sd_command.specs.declared.commands.wanted.WantedRounds.{WantedRounds}
use Rattle.ordered.specs.OrderedNets.{ordered as ordered_net}
use Rattle.report.specs.ExpansionTexts.{expanded_line}
use Rattle.sd_command.specs.commands.TradeOffs.{storage}
use Rattle.sd_steps.specs.Askings.{asking}
use Rattle.sd_command.specs.Requests.{command_of, course_of}
use Rattle.sd_laws.proofs.CommandsDecide.{Decides, DecidesLast, after_decides, last_decides}
use Rattle.sd_command.proofs.command_lemmas.WordsBoundGraphs.{AreSmall}
use Rattle.sd_laws.proofs.SharedSteps.{FileLaws, asking_determines, taking_determines, opening_determines, reading_determines, balancing_determines, lawful_net}
use Rattle.sd_laws.proofs.BoundedPaths.{lawful_on, lawful_ordered_on, on_file_decides}
use Rattle.sd_laws.proofs.OneExpansion.{expanding_determines}
use Rattle.sd_laws.proofs.OneOrder.{OrderLaws, ordering_determines}
use Rattle.sd_laws.proofs.OneRate.{rate_decides, time_decides}
use Rattle.sd_laws.proofs.OneTradeOff.{points_decide}
use Rattle.sd_laws.proofs.WordsDecideGenerate.{generate_decides}
use Rattle.sd_steps.specs.ScenarioSteps.{opening_scenarios, reading_scenarios, timing}
use Rattle.sd_command.specs.commands.WorstRates.{scenario}
use Rattle.scenario_storage.specs.declared.point.ScenarioLimits.{ScenarioLimits}
use Rattle.sd_command.specs.commands.ScenarioPoints.{scenario_storage}
use Rattle.sd_laws.proofs.OneScenarioStorage.{search_decides}
use Rattle.sd_laws.proofs.OneWorst.{ScenarioLaws, opening_file_determines, reading_file_determines, timing_determines, worst_decides}
use Rattle.cert_text.specs.declared.certificates.Certificate.{Certificate as ACertificate}
use Rattle.cert_text.specs.declared.certificates.Certificate.TheVariants as certificates
use Rattle.cert_text.specs.declared.certificates.ScenarioCertificate.{ScenarioCertificate}
use Rattle.cert_checker.specs.Certificates.{IsCertificateClaim, IsCertificateFault}
use Rattle.cert_checker.specs.ScenarioCertificates.{IsWorstClaim, IsWorstFault}
use Rattle.report.specs.ClaimTexts.{converted_line}
use Rattle.sd_steps.specs.CertificateReadings.{opening_certificate}
use Rattle.sd_steps.specs.Certifyings.{certifying}
use Rattle.sd_command.specs.commands.Checks.{check, checked, graph_checked, scenario_checked}
use Rattle.sd_steps.specs.Judgings.{judging}
use Rattle.sd_command.specs.commands.Conversions.{convert, kind_of}
use Rattle.sd_laws.proofs.CertificatesDecide.{certifying_determines, judging_decides, opening_certificate_determines}

pub prints : (text : List ℕ) (put : Option Put) → DecidesLast (printing text put)
prints text put = record {
  one = λ r s n m is also. absurd is;
  no_answer = λ r answer n m is also. is;
  no_end = λ r s n m is also. is;
}

module _ (laws : FileLaws) (scenarios : ScenarioLaws) (orders : OrderLaws) (shelf : Files) (tells : IsSome shelf) where
  repetition_decides : (name : List ℕ) → Decides (repetition name shelf)
  repetition_decides name =
      after_decides (opening_graph shelf name false) _ (opening_determines laws shelf tells name false) (λ graph opened.
      after_decides (balancing graph) _ (balancing_determines laws graph (laws.keeps opened.0 false graph opened.2)) (λ gamma round.
      last_decides (printing (repetition_lines graph gamma) None) (prints (repetition_lines graph gamma) None)))

  throughput_decides : (name : List ℕ) (buffers : List Buffer) (wanted : WantedRate) → AreSmall buffers → Decides (throughput name buffers wanted shelf)
  throughput_decides name buffers wanted small =
      on_file_decides laws shelf tells name buffers wanted.no_overlap (rate_on wanted) (λ graph gamma distribution file.
      rate_decides laws.nets (bound (net_of graph gamma wanted.no_overlap) distribution.capacities) (lawful_on laws shelf name buffers wanted.no_overlap graph gamma distribution small file) graph distribution.capacities wanted)

  storage_decides : (name : List ℕ) (wanted : WantedPoints) → Decides (storage name wanted shelf)
  storage_decides name wanted =
      after_decides (opening_graph shelf name true) _ (opening_determines laws shelf tells name true) (λ graph opened.
      after_decides (balancing graph) _ (balancing_determines laws graph (laws.keeps opened.0 true graph opened.2)) (λ gamma round.
      points_decide graph (net_of graph gamma wanted.no_overlap) laws.nets (lawful_net laws opened.0 graph gamma wanted.no_overlap opened.2 round) wanted))

  scenario_decides : (name : List ℕ) (certificate : Option (List ℕ)) → Decides (scenario name certificate shelf)
  scenario_decides name certificate =
      after_decides (opening_scenarios shelf name) _ (opening_file_determines laws scenarios shelf tells name) (λ file opened.
      worst_decides laws scenarios file (scenarios.keeps opened.0 file opened.2) certificate)

  scenario_storage_decides : (name : List ℕ) (limits : ScenarioLimits) → Decides (scenario_storage name limits shelf)
  scenario_storage_decides name limits =
      after_decides (opening_scenarios shelf name) _ (opening_file_determines laws scenarios shelf tells name) (λ file opened.
      search_decides laws file (scenarios.keeps opened.0 file opened.2) limits)

  graph_check_decides : (version : ℕ) (c : ACertificate) (bytes : List ℕ) → Decides (graph_checked version c bytes)
  graph_check_decides version c bytes =
      after_decides (reading_graph bytes true) _ (reading_determines laws bytes true) (λ graph given.
      after_decides (balancing graph) _ (balancing_determines laws graph (laws.keeps bytes true graph given)) (λ gamma round.
      last_decides (judging (IsCertificateFault graph gamma version c) (IsCertificateClaim graph gamma c)) (judging_decides _ _)))

  scenario_check_decides : (version : ℕ) (c : ScenarioCertificate) (bytes : List ℕ) → Decides (scenario_checked version c bytes)
  scenario_check_decides version c bytes =
      after_decides (reading_scenarios bytes) _ (reading_file_determines laws scenarios bytes) (λ file given.
      after_decides (timing file) _ (timing_determines laws scenarios file (scenarios.keeps bytes file given)) (λ graph timed.
      last_decides (judging (IsWorstFault graph version c) (IsWorstClaim graph c)) (judging_decides _ _)))

  checked_decides : (version : ℕ) (c : ACertificate) (bytes : List ℕ) → Decides (checked version c bytes)
  checked_decides version (certificates.Rate c) bytes = graph_check_decides version (certificates.Rate c) bytes
  checked_decides version (certificates.Storage c) bytes = graph_check_decides version (certificates.Storage c) bytes
  checked_decides version (certificates.Scenario c) bytes = scenario_check_decides version c bytes

  check_decides : (graph certificate : List ℕ) → Decides (check graph certificate shelf)
  check_decides graph certificate =
      after_decides (taking shelf Graph graph) _ (taking_determines shelf tells Graph graph) (λ bytes taken.
      after_decides (opening_certificate shelf certificate) _ (opening_certificate_determines shelf tells certificate) (λ read opened.
      checked_decides read.0 read.1 bytes))

  convert_decides : (certificate output : List ℕ) → Decides (convert certificate output shelf)
  convert_decides certificate output =
      after_decides (opening_certificate shelf certificate) _ (opening_certificate_determines shelf tells certificate) (λ read opened.
      after_decides (certifying Output output read.1) _ (certifying_determines Output output read.1) (λ put made.
      last_decides (printing (converted_line (kind_of read.1)) (Some put)) (prints _ _)))

  expand_decides : (name output : List ℕ) (buffers : List Buffer) (no_overlap : Bool) → Decides (expand name output buffers no_overlap shelf)
  expand_decides name output buffers no_overlap =
      on_file_decides laws shelf tells name buffers no_overlap (expansion_on output) (λ graph gamma distribution file.
      let net : Net = bound (net_of graph gamma no_overlap) distribution.capacities in
      after_decides (expanding net graph) _ (expanding_determines net graph) (λ big is.
      last_decides (telling_graph output big) (prints (expanded_line (length big.actors) (length big.channels)) (Some (graph_put output big)))))

  ordered_decides : (name : List ℕ) (lists : NamedOrders) (buffers : List Buffer) (wanted : WantedRate) → AreSmall buffers → Decides (ordered name lists buffers wanted shelf)
  ordered_decides name lists buffers wanted small =
      on_file_decides laws shelf tells name buffers wanted.no_overlap (ordered_rate_on lists wanted) (λ graph gamma distribution file.
      let ds : List (Option ℕ) = distribution.capacities in
      after_decides (ordering graph gamma lists) _ (ordering_determines graph gamma lists) (λ given gives r n m ending came also.
      rate_decides laws.nets (ordered_net (bound (net_of graph gamma wanted.no_overlap) ds) given.lists)
      (lawful_ordered_on laws orders shelf name buffers wanted.no_overlap lists graph gamma distribution given small file gives) graph ds wanted r n m ending came.1 also.1))

  complete_decides : (name : List ℕ) (buffers : List Buffer) (wanted : WantedRounds) → AreSmall buffers → Decides (complete name buffers wanted shelf)
  complete_decides name buffers wanted small =
      on_file_decides laws shelf tells name buffers wanted.no_overlap (time_on wanted) (λ graph gamma distribution file.
      time_decides laws.nets (bound (net_of graph gamma wanted.no_overlap) distribution.capacities) (lawful_on laws shelf name buffers wanted.no_overlap graph gamma distribution small file) graph wanted)

  command_decides : (request : Request) → IsWithinLimits request → Decides (command_of request shelf)
  command_decides (requests.Repetition name) within = repetition_decides name
  command_decides (requests.Throughput name buffers no_overlap states certificate) within = throughput_decides name buffers (record { no_overlap = no_overlap; states = states; certificate = certificate }) within.0
  command_decides (requests.Storage name limits no_overlap certificate) within = storage_decides name (record { limits = limits; no_overlap = no_overlap; certificate = certificate })
  command_decides (requests.Scenario name certificate) within = scenario_decides name certificate
  command_decides (requests.ScenarioStorage name total distributions) within = scenario_storage_decides name (record { total = total; distributions = distributions })
  command_decides (requests.Check graph certificate) within = check_decides graph certificate
  command_decides (requests.Generate seed limit actors) within = generate_decides laws seed limit actors within.1
  command_decides (requests.Convert certificate output) within = convert_decides certificate output
  command_decides (requests.Expand name output buffers no_overlap) within = expand_decides name output buffers no_overlap
  command_decides (requests.Ordered name lists buffers no_overlap states) within = ordered_decides name lists buffers (record { no_overlap = no_overlap; states = states; certificate = None }) within.0
  command_decides (requests.Complete name rounds buffers no_overlap states) within = complete_decides name buffers (record { no_overlap = no_overlap; states = states; rounds = rounds }) within.0

  pub course_decides : (words : List (List ℕ)) → Decides (course_of words shelf)
  course_decides words = after_decides (asking words) _ (asking_determines words) (λ request asked. command_decides request (asked_within words request asked))
