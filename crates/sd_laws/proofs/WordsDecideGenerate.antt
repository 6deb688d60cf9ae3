-- The words decide the command `generate`.
use Rattle.std.proofs.Common.{ℕ, true, List}
use Rattle.sd_base.specs.declared.tables.GraphFile.{GraphFile}
use Rattle.sd_base.specs.declared.limits.Limits.{Limits}
use Rattle.sd_base.specs.Net.{Net}
use Rattle.sd_base.specs.Lawful.{Lawful}
use Rattle.sd_base.specs.FileNet.{net_of}
use Rattle.gen_graph.specs.MadeGraphs.{made_graph}
use Rattle.gen_graph.proofs.MadeTables.{made_keeps, made_timed}
use Rattle.sd_words.specs.Asked.{AreMadeActors}
use Rattle.sd_steps.specs.Balancings.{balancing}
use Rattle.sd_steps.specs.Nets.{testing_incident, completing}
use Rattle.sd_command.specs.commands.Generations.{generate, summary, summary_of, usual_limits}
use Rattle.sd_laws.proofs.CommandsDecide.{Decides, DecidesLast, after_decides, last_decides}
use Rattle.sd_laws.proofs.OneRate.{NetLaws, completing_determines}
use Rattle.sd_laws.proofs.OneTradeOff.{testing_incident_determines}
use Rattle.sd_laws.proofs.SharedSteps.{FileLaws, balancing_determines}

module _ (seed : ℕ) (graph : GraphFile) (gamma : List ℕ) (net : Net) (limits : Limits) where
  summary_last : DecidesLast (summary seed graph gamma net limits)
  summary_last = record {
    one = λ r s n m is also. absurd is;
    no_answer = λ r answer n m is also. is;
    no_end = λ r s n m is also. is;
  }

  summary_decides : NetLaws → Lawful net → Decides (summary_of seed graph gamma net limits)
  summary_decides facts laws =
      after_decides (testing_incident graph net) _ (testing_incident_determines graph net) (λ an incident.
      after_decides (completing graph net) _ (completing_determines facts net laws graph) (λ b live.
      last_decides (summary seed graph gamma net limits) summary_last))

pub generate_decides : FileLaws → (seed limit actors : ℕ) → AreMadeActors actors → Decides (generate seed limit actors)
generate_decides laws seed limit actors within =
    let made = made_graph seed actors in
    let keeps = made_keeps seed actors within.0 within.1 in
    after_decides (balancing made) _ (balancing_determines laws made keeps) (λ gamma round.
    summary_decides seed made gamma (net_of made gamma true) (usual_limits limit) laws.nets (laws.lawful made gamma true keeps (made_timed seed actors) round.least round.fits))
