-- A run of `storage` whose limits are enough is done.
use Rattle.std.proofs.Common.{◌≡◌, ℕ, Bool, true, List, Option, Some, IsSome, Ok, ⊎_elim}
use Rattle.sd_base.specs.declared.tables.GraphFile.{GraphFile}
use Rattle.sd_base.specs.declared.limits.Limits.{Limits}
use Rattle.sd_base.specs.Net.{Net}
use Rattle.sd_base.specs.FileNet.{net_of}
use Rattle.storage.proofs.FileChannels.{file-plain}
use Rattle.explore.specs.Explorations.{CountsFew}
use Rattle.explore.specs.Reachable.{IsExplorable}
use Rattle.explore.proofs.IncidentNetsExplorable.{incident-explorable}
use Rattle.sd_words.proofs.AskedNumbersFit.{asked_within}
use Rattle.sd_words.specs.declared.request.Request.TheVariants.{Storage}
use Rattle.sd_words.specs.Asked.{request_of}
use Rattle.graph_reader.specs.Laws as files
use Rattle.balance.specs.Repetition.{IsRound}
use Rattle.report.specs.declared.refusal.Refusal.{Refusal}
use Rattle.sd_io.specs.Outside.{Files, file_under}
use Rattle.sd_steps.specs.Courses.{Ended}
use Rattle.sd_steps.specs.Readings.{opening_graph}
use Rattle.sd_steps.specs.Balancings.{balancing}
use Rattle.sd_steps.specs.Nets.{testing_incident, completing}
use Rattle.sd_command.specs.Requests.{course_of}
use Rattle.sd_laws.specs.Endings.{PointCertificatesFit, StorageIsComplete, Suffice}
use Rattle.sd_command.specs.commands.Points.{ArePointsTooLong, IsPointsEnd}
use Rattle.sd_command.specs.declared.commands.wanted.WantedPoints.{WantedPoints}
use Rattle.sd_laws.proofs.CommandsDecide.{never_ends}
use Rattle.storage.proofs.FileConnections.{file-connected, file-few}
use Rattle.sd_laws.proofs.CompleteThroughput.{short-enough}
use Rattle.sd_laws.proofs.RequestsGoOn.{of_request}
use Rattle.sd_laws.proofs.OneTradeOff.{unspent}
use Rattle.sd_laws.proofs.SharedSteps.{FileLaws, lawful_net}
use Rattle.sd_laws.proofs.DecidedRunsEnd.{else_is_done}

module _ (laws : FileLaws) (words : List (List ℕ)) (shelf : Files) (tells : IsSome shelf) (name : List ℕ) (limits : Limits) (no_overlap : Bool) (certificate : Option (List ℕ)) (asked : request_of words ≡ Ok (Storage name limits no_overlap certificate)) where
  abbrev wanted : WantedPoints
  wanted = record { limits = limits; no_overlap = no_overlap; certificate = certificate }

  -- nothing ends it but what words and files decide
  unended : ((bytes gamma : List ℕ) (graph : GraphFile) → file_under shelf name ≡ Some bytes → files.Gives bytes true graph → IsRound graph gamma → Suffice (net_of graph gamma no_overlap) limits × PointCertificatesFit (net_of graph gamma no_overlap) wanted)
      → (r : Refusal) (n : ℕ) → course_of words shelf (Ended r) n → ⊥
  unended enough r n ended =
      never_ends (opening_graph shelf name true) _ r n (λ graph opened.
      never_ends (balancing graph) _ r n (λ gamma round.
      never_ends (testing_incident graph (net_of graph gamma no_overlap)) _ r n (λ an incident.
      never_ends (completing graph (net_of graph gamma no_overlap)) _ r n (λ b live end.
      let net : Net = net_of graph gamma no_overlap in
      let can : IsExplorable net = incident-explorable net (file-plain graph gamma no_overlap) (file-connected graph gamma no_overlap round.balanced.connected) incident (file-few graph gamma no_overlap (laws.keeps opened.0 true graph opened.2)) in
      let fit = enough opened.0 gamma graph (opened.1.told tells) opened.2 round in
      ⊎_elim
      (λ (spent : CountsFew net limits 0 n × IsPointsEnd graph net limits r).
      unspent graph net laws.nets (lawful_net laws opened.0 graph gamma no_overlap opened.2 round) can limits (asked_within words (Storage name limits no_overlap certificate) asked).total fit.0 r spent.1)
      (λ (long : ArePointsTooLong net wanted r n). short-enough certificate _ r (fit.1 long.points long.schedules n long.shown) long.long)
      end))))
      (of_request words shelf (Storage name limits no_overlap certificate) asked (Ended r) n tt ended)

pub storage_is_complete : FileLaws → StorageIsComplete
storage_is_complete laws run cut name limits no_overlap certificate good asked unrefused enough =
    else_is_done run cut good unrefused (unended laws run.words run.outside.shelf.files good.told name limits no_overlap certificate asked enough)
