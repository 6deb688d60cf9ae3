-- A step more room on a channel of the guide, within the limit, gives a candidate, and candidates can be evaluated.
use Rattle.std.proofs.Common.{ℕ, ◌≤◌, ◌<◌, Option, List, subst, arith}
use Rattle.std.specs.Prelude.{slice_index, slice_index_or, Contains}
use Rattle.sd_base.specs.declared.limits.TheConstants.{NET_TOKENS}
use Rattle.sd_base.specs.Net.{Net, channel_at}
use Rattle.sd_base.specs.Lawful.{Lawful}
use Rattle.sd_base.specs.declared.numbers.Fraction.{Fraction}
use Rattle.critical.specs.Spaces.{IsSpaceAt, no_step}
use Rattle.critical.proofs.ListedSpacesRise.{chain-places, number-place}
use Rattle.storage.specs.BoundedNets.{HasNoSpaces, bound}
use Rattle.storage.specs.Distributions.{storage_of}
use Rattle.storage.specs.ShownSpaces.{ShowsSpace}
use Rattle.storage.specs.Steps.{step_of}
use Rattle.storage.proofs.ChannelSteps.{some-step}
use Rattle.storage.proofs.FileChannels.{plain-no_spaces}
use Rattle.storage.proofs.DistributionsShareLaws.{can-hold}
use Rattle.storage.proofs.EnlargingAddsRoom.{enlarged-distribution, enlarged-grid, enlarged-storage}
use Rattle.storage.proofs.BoundedChannels.{IsBounded, space-bounded}
use Rattle.storage.specs.StorageOrder.{stepped}
use Rattle.guide.specs.declared.rating.Evaluation.{Evaluation}
use Rattle.guide.specs.declared.rating.Outcome.{Outcome}
use Rattle.guide.specs.declared.rating.Outcome.TheVariants as outcomes
use Rattle.guide.specs.Evaluations.{IsEvaluable, IsEvaluated, IsOutcome}
use Rattle.guide.specs.Guides.{IsInGuide}
use Rattle.explore.specs.Reachable.{IsExplorable, next}
use Rattle.explore.specs.inside.Searches.{IsCandidate}

-- a candidate can be evaluated
pub candidate-evaluable : (net : Net) → Lawful net → IsExplorable net → (limit : ℕ) (ds : List (Option ℕ)) → limit ≤ NET_TOKENS → IsCandidate net limit ds → IsEvaluable net ds
candidate-evaluable net laws can limit ds small fits = record {
  none = plain-no_spaces net can.plain;
  distribution = fits.distribution;
  can = can-hold net.channels ds laws.some_size fits.distribution (omega (arith, fits.within));
  few = can.few ds fits.distribution;
  connected = can.connected;
  inputs = can.inputs ds fits.distribution;
}

outcome-bounded : (net : Net) → HasNoSpaces net → (ds : List (Option ℕ)) (states : ℕ) (rate : Fraction) (shown : List ℕ) (outcome : Outcome) → IsOutcome net ds states rate shown outcome → (c : ℕ) → Contains shown c → IsBounded net ds c
outcome-bounded net none ds states rate shown (outcomes.Live table cycle) is c has =
    let number = number-place shown c has in
    let at = is.channels.there number.0 number.1 in
    let space : IsSpaceAt (bound net ds) cycle.steps at.0 c = subst (IsSpaceAt (bound net ds) cycle.steps at.0) number.2 at.2 in
    space-bounded net none ds (slice_index_or cycle.steps at.0 no_step).channel c (chain-places (bound net ds) cycle.first cycle.steps is.critical.holds.chain at.0 no_step at.1) space
outcome-bounded net none ds states rate shown (outcomes.Blocked counts lacks) is c has =
    let shows : ShowsSpace net ds (slice_index counts) c = (is.channels c).0 has in
    record { place = shows.place; room = shows.room; has = shows.has }

module _ (net : Net) (laws : Lawful net) (can : IsExplorable net) (limit : ℕ) (ds : List (Option ℕ)) (fits : IsCandidate net limit ds) (states : ℕ) (e : Evaluation) (is : IsEvaluated net ds states e) (c : ℕ) (has : Contains e.enlarge c) where
  pub shown-bounded : IsBounded net ds c
  shown-bounded = outcome-bounded net (plain-no_spaces net can.plain) ds states e.rate e.enlarge e.outcome is.outcome c has

  -- a step more room on a channel that is shown needs more storage
  pub child-above : storage_of net.channels ds < storage_of net.channels (stepped net.channels ds c)
  child-above =
      let b : IsBounded net ds c = shown-bounded in
      enlarged-storage net.channels ds c b.room (step_of (channel_at net c)) laws.some_size b.place b.has (some-step (channel_at net c) (laws.some_made c b.place))

-- and, within the limit, one on a channel of the guide gives a candidate
pub child-candidate : (net : Net) (limit : ℕ) (ds : List (Option ℕ)) (c : ℕ) → IsCandidate net limit ds → IsInGuide net ds c → storage_of net.channels (stepped net.channels ds c) ≤ limit → IsCandidate net limit (stepped net.channels ds c)
child-candidate net limit ds c fits guided within = record {
  distribution = enlarged-distribution net.channels ds c (step_of (channel_at net c)) fits.distribution;
  grid = enlarged-grid net.channels ds c fits.grid;
  within = within;
  reachable = next ds c fits.reachable guided within;
}
