-- Whichever way an evaluation shows its channels, those that are taken from it bound.
use Rattle.std.proofs.Common.{◌≡◌, ℕ, Option, List, sym, ◌∙◌, subst}
use Rattle.std.specs.Prelude.{All, Contains, slice_index}
use Rattle.std.proofs.lemmas.List.Elements.{All-weaker, Contains-get_or}
use Rattle.sd_base.specs.declared.limits.Limits.{Limits}
use Rattle.sd_base.specs.declared.numbers.Fraction.{Fraction}
use Rattle.sd_base.specs.Net.{Net}
use Rattle.storage.specs.ShownSpaces.{ShowsSpace}
use Rattle.critical.specs.declared.cycle.NeedCycle.{NeedCycle}
use Rattle.guide.specs.declared.rating.Evaluation.{Evaluation}
use Rattle.guide.specs.declared.rating.Outcome.{Outcome}
use Rattle.guide.specs.declared.rating.Outcome.TheVariants as outcomes
use Rattle.guide.specs.Evaluations.{IsBlockedOutcome, IsEvaluable, IsEvaluated, IsOutcome}
use Rattle.covers.specs.declared.lattice.Lattice.{Lattice}
use Rattle.covers.specs.Lattices.{IsAmong}
use Rattle.evaluations.specs.declared.rated.Rated.{Rated}
use Rattle.evaluations.specs.declared.shown.Shown.TheVariants.{Cycle, Blocked}
use Rattle.evaluations.specs.Rated.{IsRated, shown_by}
use Rattle.pareto_search.specs.inside.Grounds.{IsGround}
use Rattle.pareto_search.specs.inside.Knowledge.{BoundsOn}
use Rattle.pareto_search.specs.inside.Vectors.{bounded_by, vector_of}
use Rattle.pareto_search.specs.inside.Waits.{StopsAll}
use Rattle.pareto_search.proofs.ToldBounds.{shown-bounds, stopped-bounds}
use Rattle.pareto_search.proofs.WithinLimit.{among-evaluable}

pub all-contained : (xs : List ℕ) → All (Contains xs) xs
all-contained xs i d below = Contains-get_or xs i d below

no-counts : (cycle : NeedCycle) (counts : List ℕ) → Cycle cycle ≡ Blocked counts → ⊥
no-counts cycle counts same = cc

-- counts that are shown block the bounded net, and show its channels
pub shown-blocked : (net : Net) (ds : List (Option ℕ)) (states : ℕ) (best : Fraction) (e : Evaluation) (r : Rated) (counts : List ℕ) → IsEvaluated net ds states e → IsRated best e r → r.shown ≡ Blocked counts → (lacks : List (Option ℕ)) × IsBlockedOutcome net ds e.rate e.enlarge counts lacks
shown-blocked net ds states best e r counts is kept blocked = at e.outcome is.outcome (sym kept.shown ∙ blocked)
  where
    at : (outcome : Outcome) → IsOutcome net ds states e.rate e.enlarge outcome → shown_by outcome ≡ Blocked counts → (lacks : List (Option ℕ)) × IsBlockedOutcome net ds e.rate e.enlarge counts lacks
    at (outcomes.Live table cycle) is same = absurd (no-counts cycle counts same)
    at (outcomes.Blocked own lacks) is same =
        let equal : own ≡ counts = cc in
        (lacks, subst (λ (xs : List ℕ). IsBlockedOutcome net ds e.rate e.enlarge xs lacks) equal is)

pub shown-among : (net : Net) (ds : List (Option ℕ)) (best : Fraction) (e : Evaluation) (r : Rated) (counts : List ℕ) (lacks : List (Option ℕ)) → IsRated best e r → IsBlockedOutcome net ds e.rate e.enlarge counts lacks → (xs : List ℕ) → All (ShowsSpace net ds (slice_index counts)) xs → All (Contains r.enlarge) xs
shown-among net ds best e r counts lacks kept is xs shows =
    All-weaker (ShowsSpace net ds (slice_index counts)) (Contains r.enlarge) (λ c one. subst (λ (ys : List ℕ). Contains ys c) (sym kept.enlarge) ((is.channels c).1 one)) xs shows

module _ (net : Net) (limits : Limits) (corner : List (Option ℕ)) (lattice : Lattice) (ground : IsGround net limits corner lattice) (ds : List (Option ℕ)) (among : IsAmong lattice (vector_of ds)) (flat : bounded_by corner (vector_of ds) ≡ ds) where
  pub vector-evaluable : IsEvaluable net ds
  vector-evaluable = subst (IsEvaluable net) flat (among-evaluable net limits corner lattice ground (vector_of ds) among)

  pub cycle-bounds : (best : Fraction) (e : Evaluation) (r : Rated) → IsEvaluated net ds limits.states e → IsRated best e r → BoundsOn net corner lattice (vector_of ds) r.rate r.enlarge
  cycle-bounds best e r is kept =
      subst (λ (rate : Fraction). BoundsOn net corner lattice (vector_of ds) rate r.enlarge) (sym kept.rate)
      (subst (BoundsOn net corner lattice (vector_of ds) e.rate) (sym kept.enlarge)
      (shown-bounds net limits corner lattice ground (vector_of ds) among e (subst (λ (es : List (Option ℕ)). IsEvaluated net es limits.states e) (sym flat) is)))

  pub wait-bounds : (rate : Fraction) (xs : List ℕ) → StopsAll net ds xs → BoundsOn net corner lattice (vector_of ds) rate xs
  wait-bounds rate xs stops = stopped-bounds net limits corner lattice ground (vector_of ds) among xs (subst (λ (es : List (Option ℕ)). StopsAll net es xs) (sym flat) stops) rate
