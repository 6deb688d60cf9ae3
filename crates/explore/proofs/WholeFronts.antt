-- The front within a storage is that within each greater limit, if one of its pairs has a rate that none passes.
use Rattle.std.proofs.Common.{ℕ, ◌*◌, ◌≤◌, ◌<◌, Option, List, length, inl, inr, ⊎_elim, arith}
use Rattle.std.specs.Prelude.{slice_index_or}
use Rattle.std.proofs.lemmas.Bool.{cases_lt}
use Rattle.sd_base.specs.Net.{Net}
use Rattle.storage.specs.ParetoPoints.{Beats, IsFront, IsPareto, IsReachedPair, Pair, Reaches, no_pair}

-- what is reached within less storage
reaches-up : (net : Net) (storage limit t p q : ℕ) (ds : List (Option ℕ)) → storage ≤ limit → Reaches net storage t p q ds → Reaches net limit t p q ds
reaches-up net storage limit t p q ds low is = record { distribution = is.distribution; total = is.total; within = omega (arith, is.within, low); rate = is.rate; runs = is.runs }

reaches-down : (net : Net) (storage limit t p q : ℕ) (ds : List (Option ℕ)) → t ≤ storage → Reaches net limit t p q ds → Reaches net storage t p q ds
reaches-down net storage limit t p q ds low is = record { distribution = is.distribution; total = is.total; within = low; rate = is.rate; runs = is.runs }

module _ (net : Net) (storage limit : ℕ) (low : storage ≤ limit) (pairs : List Pair) (front : IsFront net storage pairs) (k : ℕ) (below : k < length pairs)
    (top : (p : Pair) → IsReachedPair net limit p → p.num * (slice_index_or pairs k no_pair).den ≤ (slice_index_or pairs k no_pair).num * p.den) where
  beaten-late : (a p : Pair) → Beats a p → a.storage ≤ p.storage
  beaten-late a p (inl (less, rate)) = omega (arith, less)
  beaten-late a p (inr (same, rate)) = omega (arith, same)

  pareto-up : (p : Pair) → IsPareto net storage p → IsPareto net limit p
  pareto-up p is = record {
    reached = (is.reached.0, reaches-up net storage limit p.storage p.num p.den is.reached.0 low is.reached.1);
    best = λ other reached beats.
        is.best other (reached.0, reaches-down net storage limit other.storage other.num other.den reached.0 (omega (arith, beaten-late other p beats, is.reached.1.within)) reached.1) beats;
  }

  pareto-down : (p : Pair) → p.storage ≤ storage → IsPareto net limit p → IsPareto net storage p
  pareto-down p small is = record {
    reached = (is.reached.0, reaches-down net storage limit p.storage p.num p.den is.reached.0 small is.reached.1);
    best = λ other reached beats. is.best other (reached.0, reaches-up net storage limit other.storage other.num other.den reached.0 low reached.1) beats;
  }

  pub front-up : IsFront net limit pairs
  front-up = record {
    rising = front.rising;
    points = λ i less. pareto-up (slice_index_or pairs i no_pair) (front.points i less);
    all = λ p is.
        ⊎_elim
        (λ (late : storage < p.storage).
        let reached : IsPareto net storage (slice_index_or pairs k no_pair) = front.points k below in
        absurd (is.best (slice_index_or pairs k no_pair) (pareto-up (slice_index_or pairs k no_pair) reached).reached (inl (omega (arith, reached.reached.1.within, late), top p is.reached))))
        (λ (early : p.storage ≤ storage). front.all p (pareto-down p early is))
        (cases_lt storage p.storage);
  }
