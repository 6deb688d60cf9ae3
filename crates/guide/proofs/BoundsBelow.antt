-- An evaluation bounds the rate of each distribution with no more room on the channels that it shows.
use Rattle.std.proofs.Common.{ℕ, ◌*◌, ◌≤◌, Option, List, arith}
use Rattle.std.specs.Prelude.{slice_index}
use Rattle.sd_base.specs.Net.{Net}
use Rattle.sd_base.specs.Lawful.{Lawful}
use Rattle.sd_base.specs.Rates.{Rate}
use Rattle.sd_base.specs.Schedules.{HasInputs}
use Rattle.sd_base.specs.declared.numbers.Fraction.{Fraction}
use Rattle.sd_base.proofs.LawfulIsRegular.{balanced}
use Rattle.storage.specs.BoundedNets.{bound}
use Rattle.storage.specs.Distributions.{AtMost}
use Rattle.storage.proofs.EasingKeepsSchedules.{eases-rates}
use Rattle.storage.proofs.DistributionsShareLaws.{same-channels}
use Rattle.storage.proofs.FrontsFromMembers.{no_less}
use Rattle.storage.proofs.RoundingKeepsNeeds.{bound-eases, more-eases}
use Rattle.storage.proofs.IncidentInputs.{inputs-incident, incident-inputs}
use Rattle.guide.specs.Covering.{CoversOn}
use Rattle.guide.specs.Evaluations.{Bounds, IsEvaluable}
use Rattle.guide.proofs.RatesExist.{evaluable-lawful, rate-of}
use Rattle.guide.proofs.RoomierCoversBoth.{roomier, roomier-distribution, roomier-first, roomier-held, roomier-same, roomier-second}

pub rates-rise : (net : Net) (ds es : List (Option ℕ)) (p q x y : ℕ) → Lawful net → AtMost ds es → Rate (bound net ds) p q → Rate (bound net es) x y → p * y ≤ x * q
rates-rise net ds es p q x y laws most one other =
    eases-rates (bound net ds) (bound net es) (bound-eases net ds es (more-eases 0 net.channels ds es most)) laws.some_actor ((balanced net laws).fires 0 laws.some_actor) p q x y one other

module _ (net : Net) (laws : Lawful net) (ds es : List (Option ℕ)) (one : IsEvaluable net ds) (other : IsEvaluable net es) where
  more : List (Option ℕ)
  more = roomier ds es

  more-inputs : HasInputs (bound net more)
  unfolding more
  more-inputs = incident-inputs net (λ a actor. let input = one.inputs a actor in inputs-incident net ds a input.0 input.1 input.2) (roomier ds es) (roomier-distribution net.channels ds es one.distribution other.distribution)

  more-evaluable : IsEvaluable net more
  unfolding more
  more-evaluable =
      let distribution = roomier-distribution net.channels ds es one.distribution other.distribution in
      record {
        none = one.none;
        distribution = distribution;
        can = roomier-held net.channels ds es one.distribution other.distribution one.can other.can;
        few = omega (arith, same-channels net ds (roomier ds es) one.distribution distribution, one.few);
        connected = one.connected;
        inputs = more-inputs;
      }

  pub bounded-below : (rate : Fraction) (shown : List ℕ) → Bounds net ds rate shown → CoversOn shown ds es → (x y : ℕ) → Rate (bound net es) x y → x * rate.den ≤ rate.num * y
  unfolding more
  bounded-below rate shown bounds covers x y own =
      let (p, q, between) = rate-of net laws (roomier ds es) more-evaluable in
      let up : x * q ≤ p * y = rates-rise net es (roomier ds es) x y p q laws (roomier-second net.channels ds es one.distribution other.distribution) own between in
      let down : p * rate.den ≤ rate.num * q =
      bounds (roomier ds es) p q (roomier-first net.channels ds es one.distribution other.distribution)
      (λ j below. roomier-same net.channels ds es (slice_index shown j) one.distribution other.distribution (covers j below)) (evaluable-lawful net laws (roomier ds es) more-evaluable) between in
      no_less x y p q rate.num rate.den between.positive up down
