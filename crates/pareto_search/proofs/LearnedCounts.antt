-- The counts of an evaluation of stops.
use Rattle.std.proofs.Common.{◌≡◌, ℕ, ◌+◌, ◌≤◌, ◌<◌, Option, List, ◌++◌, length, map, ⊎_elim, ap, arith}
use Rattle.std.proofs.lemmas.Bool.{cases_lt}
use Rattle.std.proofs.lemmas.List.{length-append, length-map}
use Rattle.sd_base.specs.declared.limits.Limits.{Limits}
use Rattle.sd_base.specs.Net.{Net}
use Rattle.covers.specs.declared.lattice.Lattice.{Lattice}
use Rattle.evaluations.specs.declared.evaluating.Answered.{Answered}
use Rattle.evaluations.specs.Evaluating.{least_loops, most_loops, sum_of}
use Rattle.explore.specs.Explorations.{CountsFew, IsRefusal}
use Rattle.explore.specs.declared.error.ExploreError.TheVariants.{DistributionsSpent}
use Rattle.walks.specs.declared.telling.Telling.{Telling}
use Rattle.pareto_search.specs.declared.known.Known.{Known}
use Rattle.pareto_search.specs.declared.searching.Searching.{Searching}
use Rattle.pareto_search.specs.declared.stops.Stop.{Stop}
use Rattle.pareto_search.specs.inside.Knowledge.{loops_in}
use Rattle.pareto_search.specs.inside.Learning.{AreLearned, answered_of}
use Rattle.pareto_search.specs.inside.Turns.{AreStops, IsStanding}
use Rattle.pareto_search.specs.inside.Vectors.{bounded_by, vector_of}
use Rattle.pareto_search.proofs.FoundTellings.{told-counts-more, told-spent}
use Rattle.pareto_search.proofs.StopsAreNew.{stops-new}
use Rattle.pareto_search.proofs.LearnedMore.{sum-few}

abbrev pub AreAnswersOf : List (Option ℕ) → List Stop → List Answered → Type 0
AreAnswersOf corner stops answers = answered_of answers ≡ map (λ (s : Stop). bounded_by corner s.capacities) stops

pub answers-many : (corner : List (Option ℕ)) (stops : List Stop) (answers : List Answered) → AreAnswersOf corner stops answers → length answers ≡ length stops
answers-many corner stops answers order =
    let same : length (answered_of answers) ≡ length (map (λ (s : Stop). bounded_by corner s.capacities) stops) = ap (λ (dss : List (List (Option ℕ))). length dss) order in
    omega (arith, same, length-map answers (λ (a : Answered). a.capacities.capacities), length-map stops (λ (s : Stop). bounded_by corner s.capacities))

-- as many tellings stand last as there are stops
pub more-many : (corner : List (Option ℕ)) (stops : List Stop) (answers : List Answered) (old new : Known) → AreAnswersOf corner stops answers → AreLearned answers old new → length new.tellings.items ≡ length old.tellings.items + length stops
more-many corner stops answers old new order learned =
    let added : length new.tellings.items ≡ length (old.tellings.items ++ learned.more) = ap (λ (ts : List Telling). length ts) learned.added in
    let both : length (map (λ (t : Telling). t.capacities) learned.more) ≡ length (map vector_of (answered_of answers)) = ap (λ (vs : List (List ℕ)). length vs) learned.vectors in
    omega (
      arith,
      added,
      both,
      length-append old.tellings.items learned.more,
      length-map learned.more (λ (t : Telling). t.capacities),
      length-map (answered_of answers) vector_of,
      length-map answers (λ (a : Answered). a.capacities.capacities),
      answers-many corner stops answers order,
    )

module _ (net : Net) (limits : Limits) (corner : List (Option ℕ)) (lattice : Lattice) (floor : ℕ) (s : Searching) (is : IsStanding net limits corner lattice floor s) (stops : List Stop) (are : AreStops net limits corner lattice s.known.tellings.items floor stops) where
  many : length (map (λ (x : Stop). bounded_by corner x.capacities) stops) ≡ length stops
  many = length-map stops (λ (x : Stop). bounded_by corner x.capacities)

  -- more than are allowed are refused
  pub stops-spent : (length s.known.tellings.items + length stops ≤ limits.distributions → ⊥) → IsRefusal net limits DistributionsSpent
  stops-spent past = told-spent net limits corner lattice s.below s.known is.known (map (λ (x : Stop). bounded_by corner x.capacities) stops) (stops-new net limits corner lattice s.known.tellings.items floor stops are) (above limits.distributions (length s.known.tellings.items) (length stops) (length (map (λ (x : Stop). bounded_by corner x.capacities) stops)) many past)
    where
      above : (most a b c : ℕ) → c ≡ b → (a + b ≤ most → ⊥) → most < a + c
      above most a b c same past = ⊎_elim (λ (less : most < a + b). omega (arith, less, same)) (λ (within : a + b ≤ most). absurd (past within)) (cases_lt most (a + b))

  -- and no more loops are counted than there are of both
  pub stops-counts : (before start after : ℕ) (answers : List Answered) → AreAnswersOf corner stops answers → length s.known.tellings.items + length stops ≤ limits.distributions → start ≡ before + loops_in s.known.tellings.items → after ≤ start + sum_of most_loops answers → CountsFew net limits before after
  stops-counts before start after answers order room began rise =
      told-counts-more net limits corner lattice s.below s.known is.known (map (λ (x : Stop). bounded_by corner x.capacities) stops) (stops-new net limits corner lattice s.known.tellings.items floor stops are) before after
      (omega (arith, many, began, rise, sum-few answers, answers-many corner stops answers order)) (omega (arith, many, room))

-- what was counted is what the tellings that stand last ran
pub learned-count : (answers : List Answered) (old new : Known) (start after : ℕ) → AreLearned answers old new → start + sum_of least_loops answers ≤ after → after ≤ start + sum_of most_loops answers → after + loops_in old.tellings.items ≡ start + loops_in new.tellings.items
learned-count answers old new start after learned least most = omega (arith, least, most, learned.least, learned.most)
