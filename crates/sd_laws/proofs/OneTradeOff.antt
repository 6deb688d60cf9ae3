-- A net decides the step that tests its actors, and limits that are enough end no search for its points.
use Rattle.std.proofs.Common.{ℕ, ◌≤◌, None, refl, sym, ap, ◌∙◌, arith}
use Rattle.sd_base.specs.declared.tables.GraphFile.{GraphFile}
use Rattle.sd_base.specs.declared.limits.Limits.{Limits}
use Rattle.sd_base.specs.declared.limits.TheConstants.{STORAGE}
use Rattle.sd_base.specs.Net.{Net}
use Rattle.sd_base.specs.Lawful.{Lawful}
use Rattle.storage.specs.BoundedNets.{bound}
use Rattle.storage.specs.IncidentActors.{IsIncident}
use Rattle.explore.specs.Reachable.{IsExplorable}
use Rattle.explore.proofs.IncidentNetsExplorable.{reachable-fits}
use Rattle.report.specs.declared.refusal.Refusal.{Refusal}
use Rattle.report.specs.declared.refusal.Refusal.TheVariants.{NoInput}
use Rattle.sd_command.specs.declared.commands.wanted.WantedPoints.{WantedPoints}
use Rattle.sd_steps.specs.ActorNames.{actor_shown}
use Rattle.sd_steps.specs.Nets.{testing_incident, completing}
use Rattle.sd_command.specs.commands.Points.{IsPointsEnd, states_spent, too_many_starts, distributions_spent, points_of, points_search}
use Rattle.sd_laws.specs.Endings.{Suffice}
use Rattle.sd_laws.proofs.CommandsDecide.{Determines, Decides, DecidesLast, after_decides, last_decides}
use Rattle.sd_laws.proofs.OneRate.{NetLaws, completing_determines, one-least}
use Rattle.sd_command.proofs.command_lemmas.PointSchedules.{fits-lawful}

module _ (graph : GraphFile) (net : Net) where
  pub testing_incident_determines : Determines (testing_incident graph net)
  testing_incident_determines = record {
    one = λ a b is also. refl;
    refusal = λ r s is also.
        is.told ∙ ap (λ (x : ℕ). NoInput None (actor_shown graph x)) (one-least (IsIncident net) is.actor also.actor is.is.none also.is.none is.is.first also.is.first) ∙ sym also.told;
    never = λ r a is incident. is.is.none (incident is.actor is.is.place);
  }

  search_decides : (wanted : WantedPoints) → DecidesLast (points_search graph net wanted)
  search_decides wanted = record {
    one = λ r s n m is also. absurd is;
    no_answer = λ r answer n m is also. is;
    no_end = λ r s n m is also. is;
  }

  module _ (facts : NetLaws) (laws : Lawful net) where
    pub points_decide : (wanted : WantedPoints) → Decides (points_of graph net wanted)
    points_decide wanted =
        after_decides (testing_incident graph net) _ testing_incident_determines (λ an incident.
        after_decides (completing graph net) _ (completing_determines facts net laws graph) (λ b live.
        last_decides (points_search graph net wanted) (search_decides wanted)))

    -- where the limits are enough, none is passed
    pub unspent : IsExplorable net → (limits : Limits) → limits.total ≤ STORAGE → Suffice net limits → (r : Refusal) → IsPointsEnd graph net limits r → ⊥
    unspent can limits small enough r (states_spent ds reach live spent p) =
        let fits = reachable-fits net limits.total ds can.plain reach in
        let loop = enough.repeats ds reach live in
        facts.not_spent (bound net ds) limits.states loop.0 loop.1 (fits-lawful net laws can ds fits.0 (omega (arith, fits.1))) (can.inputs ds fits.0) loop.2 loop.3 spent
    unspent can limits small enough r (too_many_starts ds reach live many p) =
        let fits = reachable-fits net limits.total ds can.plain reach in
        let loop = enough.repeats ds reach live in
        facts.not_many (bound net ds) limits.states loop.0 loop.1 (fits-lawful net laws can ds fits.0 (omega (arith, fits.1))) (can.inputs ds fits.0) loop.2 loop.4 many
    unspent can limits small enough r (distributions_spent dss found more p) = let few = enough.few dss found in omega (arith, few)
