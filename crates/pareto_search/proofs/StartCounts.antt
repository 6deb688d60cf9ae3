-- The counts from which the evaluation of a vector may begin are reached where it has no less than one that was told.
use Rattle.std.proofs.Common.{◌≡◌, ℕ, Option, None, Some, List, refl, sym, subst}
use Rattle.sd_base.specs.declared.limits.Limits.{Limits}
use Rattle.sd_base.specs.Net.{Net}
use Rattle.sd_base.specs.Lawful.{Lawful}
use Rattle.sd_base.specs.Untimed.{IsBlockedBy, IsLive}
use Rattle.liveness.specs.RoundAnswers.{AreReachedCounts}
use Rattle.storage.specs.BoundedNets.{bound}
use Rattle.storage.specs.Distributions.{AtMost}
use Rattle.guide.specs.declared.rating.Evaluation.{Evaluation}
use Rattle.guide.specs.declared.rating.Outcome.{Outcome}
use Rattle.guide.specs.declared.rating.Outcome.TheVariants.{Live, Blocked}
use Rattle.guide.specs.Evaluations.{IsEvaluated, IsOutcome}
use Rattle.guide.proofs.MoreRoom.{more-live, more-reached}
use Rattle.covers.specs.declared.lattice.Lattice.{Lattice}
use Rattle.covers.specs.Lattices.{IsAmong}
use Rattle.walks.specs.declared.telling.Telling.{Telling}
use Rattle.walks.specs.Tellings.{IsUnder}
use Rattle.explore.proofs.ChildCountsReached.{looped-live}
use Rattle.pareto_search.specs.inside.Grounds.{IsGround}
use Rattle.pareto_search.specs.inside.Knowledge.{IsTold, counts_in}
use Rattle.pareto_search.specs.inside.Vectors.{bounded_by}
use Rattle.pareto_search.proofs.WithinLimit.{among-lawful, on-under}

-- counts that are reached in each lawful live net of the same round
abbrev pub AreWhole : Net → List ℕ → Type 0
AreWhole net whole = (other : Net) → Lawful other → other.round ≡ net.round → IsLive other → AreReachedCounts other whole

-- the counts of a blocked net, or those of a whole round
abbrev pub counts_or : List ℕ → Option (List ℕ) → List ℕ
counts_or whole None = whole
counts_or whole (Some counts) = counts

pub blocked-reached : (net : Net) (counts : List ℕ) (lacks : List (Option ℕ)) → IsBlockedBy net counts lacks → AreReachedCounts net counts
blocked-reached net counts lacks is = record { actors = is.actors; order = is.ends.order; fires = is.ends.fires; reached = is.ends.counts }

outcome-reached : (net : Net) → Lawful net → (whole : List ℕ) → AreWhole net whole → (ds es : List (Option ℕ)) → Lawful (bound net es) → AtMost ds es → (states : ℕ) (e : Evaluation) → IsEvaluated net ds states e → (outcome : Outcome) → IsOutcome net ds states e.rate e.enlarge outcome →
    AreReachedCounts (bound net es) (counts_or whole (counts_in outcome))
outcome-reached net laws whole are ds es lawful most states e evaluated (Live table cycle) is =
    are (bound net es) lawful refl (more-live net ds es most (looped-live net laws ds e.rate table cycle evaluated.rate is.critical is.same))
outcome-reached net laws whole are ds es lawful most states e evaluated (Blocked counts lacks) is =
    more-reached net ds es counts most (blocked-reached (bound net ds) counts lacks is.blocked)

pub told-reached : (net : Net) (limits : Limits) (corner : List (Option ℕ)) (lattice : Lattice) → IsGround net limits corner lattice → (whole : List ℕ) → AreWhole net whole → (t : Telling) → IsTold net limits corner lattice t → (ks : List ℕ) → IsAmong lattice ks → IsUnder t.capacities ks →
    AreReachedCounts (bound net (bounded_by corner ks)) (counts_or whole t.blocked)
told-reached net limits corner lattice ground whole are t told ks among under =
    subst (λ (counts : Option (List ℕ)). AreReachedCounts (bound net (bounded_by corner ks)) (counts_or whole counts)) (sym told.blocked)
    (outcome-reached net ground.laws whole are (bounded_by corner t.capacities) (bounded_by corner ks) (among-lawful net limits corner lattice ground ks among) (on-under net limits corner lattice ground t.capacities ks told.among.on among.on under) limits.states told.evaluation told.evaluated told.evaluation.outcome told.evaluated.outcome)
