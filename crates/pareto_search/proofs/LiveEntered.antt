-- What was told entered level by level, and as many of it are live as ran loops.
use Rattle.std.proofs.Common.{◌≡◌, ℕ, ◌+◌, ◌⊎◌, Option, List, [], ◌∷◌, inl, inr, refl, ap, subst, sym, arith}
use Rattle.std.specs.Prelude.{Contains, slice_index}
use Rattle.std.proofs.lemmas.List.{length-map}
use Rattle.std.proofs.lemmas.List.Elements.{All-contains}
use Rattle.sd_base.specs.declared.limits.Limits.{Limits}
use Rattle.sd_base.specs.declared.numbers.Fraction.{Fraction}
use Rattle.sd_base.specs.Lawful.{Lawful}
use Rattle.sd_base.specs.Net.{Net}
use Rattle.sd_base.specs.Untimed.{IsLive}
use Rattle.sd_base.proofs.ClosedCountsBoundRuns.{live-unblocked}
use Rattle.sd_base.proofs.ContainedHavePlaces.{contains-here, contains-later, contains-none}
use Rattle.sd_base.proofs.LawfulIsRegular.{wired}
use Rattle.storage.specs.BoundedNets.{bound}
use Rattle.guide.specs.declared.rating.Outcome.{Outcome}
use Rattle.guide.specs.declared.rating.Outcome.TheVariants.{Live, Blocked}
use Rattle.guide.specs.Evaluations.{IsOutcome}
use Rattle.covers.specs.declared.lattice.Lattice.{Lattice}
use Rattle.walks.specs.declared.telling.Telling.{Telling}
use Rattle.pareto_search.specs.Entrances.{EnterLevels, HaveLive, IsEvaluating, none as no-level}
use Rattle.pareto_search.specs.declared.known.Known.{Known}
use Rattle.pareto_search.specs.inside.Grounds.{IsGround}
use Rattle.pareto_search.specs.inside.Knowledge.{IsKnown, IsTold, counts_in, loops_in, ran, told_of}
use Rattle.pareto_search.specs.inside.Vectors.{bounded_by}
use Rattle.pareto_search.proofs.FoundTellings.{told-apart, told-reachable}
use Rattle.pareto_search.proofs.LiveTellings.{told-live}
use Rattle.pareto_search.proofs.WithinLimit.{among-lawful}

-- nothing was evaluated
pub evaluating-none : (net : Net) (limits : Limits) (entered : ℕ → ℕ → Type 0) (n : ℕ) → n ≡ 0 → IsEvaluating net limits entered n
evaluating-none net limits entered n zero_there = record { all = []; apart = tt; reachable = λ ds one. absurd (contains-none ds one); few = omega arith; levels = no-level; live = zero_there }

pub enters-none : (net : Net) (entered : ℕ → ℕ → Type 0) (corner : List (Option ℕ)) (ts : List Telling) → ts ≡ [] → EnterLevels net entered (told_of corner ts)
enters-none net entered corner ts none_there = subst (λ (xs : List Telling). EnterLevels net entered (told_of corner xs)) (sym none_there) no-level

module _ (net : Net) (limits : Limits) (corner : List (Option ℕ)) (lattice : Lattice) (base : IsGround net limits corner lattice) where
  live-more : (t : Telling) (ts : List Telling) → IsTold net limits corner lattice t → HaveLive net (told_of corner ts) (loops_in ts) → HaveLive net (told_of corner (t ∷ ts)) (loops_in (t ∷ ts))
  live-more t ts told rest = (loops_in ts, rest, at told.evaluation.outcome told.evaluated.outcome told.blocked)
    where
      laws : Lawful (bound net (bounded_by corner t.capacities))
      laws = among-lawful net limits corner lattice base t.capacities told.among

      at : (outcome : Outcome) → IsOutcome net (bounded_by corner t.capacities) limits.states told.evaluation.rate told.evaluation.enlarge outcome → t.blocked ≡ counts_in outcome →
          (IsLive (bound net (bounded_by corner t.capacities)) × (ran t.blocked + loops_in ts ≡ loops_in ts + 1)) ⊎ ((IsLive (bound net (bounded_by corner t.capacities)) → ⊥) × (ran t.blocked + loops_in ts ≡ loops_in ts))
      at (Live table cycle) is blocked =
          let one : ran t.blocked ≡ 1 = ap ran blocked in
          inl (told-live net limits corner lattice base t told blocked, omega (arith, one))
      at (Blocked counts lacks) is blocked =
          let zero_there : ran t.blocked ≡ 0 = ap ran blocked in
          inr (λ live. live-unblocked (bound net (bounded_by corner t.capacities)) (wired (bound net (bounded_by corner t.capacities)) laws) live (slice_index counts) is.blocked.blocks, omega (arith, zero_there))

  all-live : (ts : List Telling) → ((t : Telling) → Contains ts t → IsTold net limits corner lattice t) → HaveLive net (told_of corner ts) (loops_in ts)
  all-live [] told = refl
  all-live (t ∷ ts) told = live-more t ts (told t (contains-here t ts)) (all-live ts (λ x one. told x (contains-later t ts x one)))

  pub evaluating-known : (best : Fraction) (k : Known) → IsKnown net limits corner lattice best k → (entered : ℕ → ℕ → Type 0) → EnterLevels net entered (told_of corner k.tellings.items) → (n : ℕ) → n ≡ loops_in k.tellings.items → IsEvaluating net limits entered n
  evaluating-known best k known entered levels n counted = record {
    all = told_of corner k.tellings.items;
    apart = told-apart net limits corner lattice best k known;
    reachable = told-reachable net limits corner lattice best k known;
    few = omega (arith, known.few, length-map k.tellings.items (λ (t : Telling). bounded_by corner t.capacities));
    levels = levels;
    live = subst (HaveLive net (told_of corner k.tellings.items)) (sym counted) (all-live k.tellings.items (λ t one. All-contains (IsTold net limits corner lattice) k.tellings.items t known.told one));
  }
