-- The tellings that ran a loop are as many distributions that differ, are reachable and have live bounded nets.
use Rattle.std.proofs.Common.{◌≡◌, ◌≢◌, ℕ, ◌+◌, Option, None, Some, List, [], ◌∷◌, length, ⊎_elim, refl, sym, ◌∙◌, subst, arith}
use Rattle.std.specs.Prelude.{All, Contains, slice_index_or}
use Rattle.std.proofs.lemmas.List.Elements.{All-cons, All-contains, All-nil, Contains-get_or}
use Rattle.std.proofs.lemmas.Option.{none-some}
use Rattle.sd_base.specs.declared.limits.Limits.{Limits}
use Rattle.sd_base.specs.declared.numbers.Fraction.{Fraction}
use Rattle.sd_base.specs.Net.{Net}
use Rattle.sd_base.specs.Untimed.{IsLive}
use Rattle.sd_base.proofs.ContainedHavePlaces.{contains-cases, contains-here, contains-later, contains-none}
use Rattle.storage.specs.BoundedNets.{bound}
use Rattle.guide.specs.declared.rating.Outcome.{Outcome}
use Rattle.guide.specs.declared.rating.Outcome.TheVariants.{Live, Blocked}
use Rattle.guide.specs.Evaluations.{IsOutcome}
use Rattle.covers.specs.declared.lattice.Lattice.{Lattice}
use Rattle.walks.specs.declared.telling.Telling.{Telling}
use Rattle.explore.specs.Explorations.{CountsLive}
use Rattle.explore.proofs.ChildCountsReached.{looped-live}
use Rattle.pareto_search.specs.Entrances.{AreApart}
use Rattle.pareto_search.specs.declared.known.Known.{Known}
use Rattle.pareto_search.specs.inside.Grounds.{IsGround}
use Rattle.pareto_search.specs.inside.Knowledge.{IsKnown, IsTold, counts_in, loops_in, ran, told_of}
use Rattle.pareto_search.specs.inside.Vectors.{bounded_by}
use Rattle.pareto_search.proofs.FoundTellings.{loops-few, told-apart, told-reachable}
use Rattle.pareto_search.proofs.DistinctListsSort.{IsSorted, sorted}

-- a distribution before others, unless it is blocked
abbrev with_live : Option (List ℕ) → List (Option ℕ) → List (List (Option ℕ)) → List (List (Option ℕ))
with_live None ds dss = ds ∷ dss
with_live (Some counts) ds dss = dss

-- the distributions of the tellings that ran a loop, in their order
abbrev running : List (Option ℕ) → List Telling → List (List (Option ℕ))
running corner [] = []
running corner (t ∷ ts) = with_live t.blocked (bounded_by corner t.capacities) (running corner ts)

many-one : (blocked : Option (List ℕ)) (ds : List (Option ℕ)) (dss : List (List (Option ℕ))) → length (with_live blocked ds dss) ≡ ran blocked + length dss
many-one None ds dss = omega arith
many-one (Some counts) ds dss = omega arith

many : (corner : List (Option ℕ)) (ts : List Telling) → length (running corner ts) ≡ loops_in ts
many corner [] = refl
many corner (t ∷ ts) = let later = many corner ts in omega (arith, later, many-one t.blocked (bounded_by corner t.capacities) (running corner ts))

among-one : (blocked : Option (List ℕ)) (es ds : List (Option ℕ)) (some all : List (List (Option ℕ))) → (Contains some ds → Contains all ds) → Contains (with_live blocked es some) ds → Contains (es ∷ all) ds
among-one None es ds some all rest one =
    ⊎_elim
    (λ (same : es ≡ ds). subst (Contains (es ∷ all)) same (contains-here es all))
    (λ (later : Contains some ds). contains-later es all ds (rest later))
    (contains-cases es some ds one)
among-one (Some counts) es ds some all rest one = contains-later es all ds (rest one)

among : (corner : List (Option ℕ)) (ts : List Telling) (ds : List (Option ℕ)) → Contains (running corner ts) ds → Contains (told_of corner ts) ds
among corner [] ds one = one
among corner (t ∷ ts) ds one = among-one t.blocked (bounded_by corner t.capacities) ds (running corner ts) (told_of corner ts) (λ later. among corner ts ds later) one

apart-one : (blocked : Option (List ℕ)) (ds : List (Option ℕ)) (dss : List (List (Option ℕ))) → ((es : List (Option ℕ)) → Contains dss es → ds ≢ es) → AreApart dss → AreApart (with_live blocked ds dss)
apart-one None ds dss differ apart = (differ, apart)
apart-one (Some counts) ds dss differ apart = apart

apart : (corner : List (Option ℕ)) (ts : List Telling) → AreApart (told_of corner ts) → AreApart (running corner ts)
apart corner [] is = tt
apart corner (t ∷ ts) is = apart-one t.blocked (bounded_by corner t.capacities) (running corner ts) (λ es one. is.0 es (among corner ts es one)) (apart corner ts is.1)

abbrev AreLive : Net → List (List (Option ℕ)) → Type 0
AreLive net dss = All (λ (ds : List (Option ℕ)). IsLive (bound net ds)) dss

live-one : (net : Net) (blocked : Option (List ℕ)) (ds : List (Option ℕ)) (dss : List (List (Option ℕ))) → (blocked ≡ None → IsLive (bound net ds)) → AreLive net dss → AreLive net (with_live blocked ds dss)
live-one net None ds dss mine later = All-cons (λ (es : List (Option ℕ)). IsLive (bound net es)) ds dss (mine refl) later
live-one net (Some counts) ds dss mine later = later

-- where nothing was evaluated, nothing was counted
pub counts-none : (net : Net) (limits : Limits) (n : ℕ) → n ≡ 0 → CountsLive net limits n
counts-none net limits n none = (
  [],
  record { order = tt; reachable = λ ds one. absurd (contains-none ds one) },
  All-nil (λ (ds : List (Option ℕ)). IsLive (bound net ds)),
  none,
  omega arith,
)

module _ (net : Net) (limits : Limits) (corner : List (Option ℕ)) (lattice : Lattice) (base : IsGround net limits corner lattice) where
  -- what ran a loop has a live bounded net
  pub told-live : (t : Telling) → IsTold net limits corner lattice t → t.blocked ≡ None → IsLive (bound net (bounded_by corner t.capacities))
  told-live t told runs = at told.evaluation.outcome told.evaluated.outcome told.blocked
    where
      at : (outcome : Outcome) → IsOutcome net (bounded_by corner t.capacities) limits.states told.evaluation.rate told.evaluation.enlarge outcome → t.blocked ≡ counts_in outcome → IsLive (bound net (bounded_by corner t.capacities))
      at (Live table cycle) is blocked = looped-live net base.laws (bounded_by corner t.capacities) told.evaluation.rate table cycle told.evaluated.rate is.critical is.same
      at (Blocked counts lacks) is blocked = absurd (none-some counts (sym runs ∙ blocked))

  all-live : (ts : List Telling) → ((t : Telling) → Contains ts t → IsTold net limits corner lattice t) → AreLive net (running corner ts)
  all-live [] told = All-nil (λ (es : List (Option ℕ)). IsLive (bound net es))
  all-live (t ∷ ts) told =
      live-one net t.blocked (bounded_by corner t.capacities) (running corner ts) (λ runs. told-live t (told t (contains-here t ts)) runs)
      (all-live ts (λ x one. told x (contains-later t ts x one)))

  pub counts-live : (best : Fraction) (k : Known) → IsKnown net limits corner lattice best k → (n : ℕ) → n ≡ loops_in k.tellings.items → CountsLive net limits n
  counts-live best k known n counted =
      let ts = k.tellings.items in
      let live : AreLive net (running corner k.tellings.items) = all-live ts (λ t one. All-contains (IsTold net limits corner lattice) ts t known.told one) in
      let s : IsSorted net.channels (running corner k.tellings.items) = sorted net.channels (running corner ts) (apart corner ts (told-apart net limits corner lattice best k known)) in (
        s.all,
        record { order = s.order; reachable = λ ds one. told-reachable net limits corner lattice best k known ds (among corner ts ds (s.among ds one)) },
        λ i d below. All-contains (λ (ds : List (Option ℕ)). IsLive (bound net ds)) (running corner ts) (slice_index_or s.all i d) live (s.among (slice_index_or s.all i d) (Contains-get_or s.all i d below)),
        counted ∙ sym (s.long ∙ many corner ts),
        omega (arith, s.long, many corner ts, loops-few ts, known.few),
      )
