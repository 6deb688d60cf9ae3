-- A run of `generate` whose limits are enough is done.
use Rattle.std.proofs.Common.{◌≡◌, ℕ, true, List, Ok}
use Rattle.sd_base.specs.declared.tables.GraphFile.{GraphFile}
use Rattle.sd_base.specs.Net.{Net}
use Rattle.sd_base.specs.FileNet.{net_of}
use Rattle.storage.proofs.FileChannels.{file-plain}
use Rattle.explore.specs.Reachable.{IsExplorable}
use Rattle.explore.proofs.IncidentNetsExplorable.{incident-explorable}
use Rattle.gen_graph.specs.MadeGraphs.{made_graph}
use Rattle.gen_graph.proofs.MadeTables.{made_keeps, made_timed}
use Rattle.sd_words.proofs.AskedNumbersFit.{asked_within}
use Rattle.sd_words.specs.declared.request.Request.TheVariants.{Generate}
use Rattle.sd_words.specs.Asked.{request_of}
use Rattle.balance.specs.Repetition.{IsRound}
use Rattle.report.specs.declared.refusal.Refusal.{Refusal}
use Rattle.sd_io.specs.Outside.{Files}
use Rattle.sd_steps.specs.Courses.{Ended}
use Rattle.sd_steps.specs.Balancings.{balancing}
use Rattle.sd_steps.specs.Nets.{testing_incident, completing}
use Rattle.sd_command.specs.commands.Generations.{usual_limits}
use Rattle.sd_command.specs.Requests.{course_of}
use Rattle.sd_laws.specs.Endings.{GenerateIsComplete, Suffice}
use Rattle.sd_laws.proofs.CommandsDecide.{never_ends}
use Rattle.sd_laws.proofs.RequestsGoOn.{of_request}
use Rattle.storage.proofs.FileConnections.{file-connected, file-few}
use Rattle.sd_laws.proofs.OneTradeOff.{unspent}
use Rattle.sd_laws.proofs.SharedSteps.{FileLaws}
use Rattle.sd_laws.proofs.DecidedRunsEnd.{else_is_done}

module _ (laws : FileLaws) (words : List (List ℕ)) (shelf : Files) (seed limit actors : ℕ) (asked : request_of words ≡ Ok (Generate seed limit actors)) where
  -- nothing ends it but what words and files decide
  unended : ((gamma : List ℕ) → IsRound (made_graph seed actors) gamma → Suffice (net_of (made_graph seed actors) gamma true) (usual_limits limit))
      → (r : Refusal) (n : ℕ) → course_of words shelf (Ended r) n → ⊥
  unended enough r n ended =
      let graph : GraphFile = made_graph seed actors in
      let within = asked_within words (Generate seed limit actors) asked in
      let keeps = made_keeps seed actors within.1.0 within.1.1 in
      never_ends (balancing graph) _ r n (λ gamma round.
      never_ends (testing_incident graph (net_of graph gamma true)) _ r n (λ an incident.
      never_ends (completing graph (net_of graph gamma true)) _ r n (λ b live end.
      let net : Net = net_of graph gamma true in
      let can : IsExplorable net = incident-explorable net (file-plain graph gamma true) (file-connected graph gamma true round.balanced.connected) incident (file-few graph gamma true keeps) in
      unspent graph net laws.nets (laws.lawful graph gamma true keeps (made_timed seed actors) round.least round.fits) can (usual_limits limit) within.0 (enough gamma round) r end.1)))
      (of_request words shelf (Generate seed limit actors) asked (Ended r) n tt ended)

pub generate_is_complete : FileLaws → GenerateIsComplete
generate_is_complete laws run cut seed limit actors good asked unrefused enough =
    else_is_done run cut good unrefused (unended laws run.words run.outside.shelf.files seed limit actors asked enough)
