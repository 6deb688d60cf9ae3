-- What answers told, with one answer more.
use Rattle.std.proofs.Common.{◌≡◌, ℕ, ◌+◌, ◌≤◌, ◌<◌, Option, List, [], ◌∷◌, ◌++◌, append-nil, append_assoc, Result, Ok, Err, drop, length, map, ⊎_elim, refl, sym, ap, ◌∙◌, subst, arith}
use Rattle.std.specs.Prelude.{Contains, slice_index_or}
use Rattle.std.proofs.lemmas.List.{drop_more, length_push, map-append}
use Rattle.std.proofs.lemmas.List.Elements.{Contains-push_cases}
use Rattle.sd_base.specs.declared.limits.Limits.{Limits}
use Rattle.sd_base.specs.Net.{Net}
use Rattle.sd_base.proofs.ContainedHavePlaces.{contains-here, contains-later}
use Rattle.lasso.specs.RunError.{RunError}
use Rattle.covers.specs.declared.lattice.Lattice.{Lattice}
use Rattle.evaluations.specs.declared.evaluating.Answered.{Answered}
use Rattle.evaluations.specs.declared.rated.Rated.{Rated}
use Rattle.evaluations.specs.declared.shown.Shown.{Shown}
use Rattle.evaluations.specs.declared.shown.Shown.TheVariants.{Cycle, Blocked}
use Rattle.evaluations.specs.ShownCycles.{shows_cycle}
use Rattle.evaluations.specs.Evaluating.{least_loops, most_loops, sum_of}
use Rattle.evaluations.proofs.FreshTasksFinish.{sum-more}
use Rattle.walks.specs.declared.telling.Telling.{Telling}
use Rattle.pareto_search.specs.declared.known.Known.{Known}
use Rattle.pareto_search.specs.inside.Knowledge.{loops_in, ran}
use Rattle.pareto_search.specs.inside.Learning.{AreLearned, AreNew, IsLearned, IsNew, answered_of}
use Rattle.pareto_search.specs.inside.Vectors.{bounded_by, vector_of}
use Rattle.pareto_search.proofs.FoundTellings.{loops-more}

-- the distributions of the answers that are left begin with that of the next one
pub rest-more : (answers : List Answered) (n : ℕ) (a : Answered) → n < length answers → a ≡ slice_index_or answers n a → answered_of (drop n answers) ≡ a.capacities.capacities ∷ answered_of (drop (n + 1) answers)
rest-more answers n a below is =
    ap answered_of (drop_more answers n a below)
    ∙ ap (λ (x : Answered). x.capacities.capacities ∷ answered_of (drop (n + 1) answers)) (sym is)

-- ---- how many loops were run

shows-few : (shown : Shown) → shows_cycle shown ≤ 1
shows-few (Cycle cycle) = omega arith
shows-few (Blocked counts) = omega arith

most-few : (answer : Result Rated RunError) → most_loops answer ≤ 1
most-few (Ok r) = shows-few r.shown
most-few (Err error) = omega arith

pub sum-few : (answers : List Answered) → sum_of most_loops answers ≤ length answers
sum-few [] = omega arith
sum-few (a ∷ answers) = let later = sum-few answers in omega (arith, later, most-few a.answer)

-- ---- what is learned

pub learned-none : (k : Known) → AreLearned [] k k
learned-none k = record { more = []; added = sym (append-nil k.tellings.items); vectors = refl; least = omega arith; most = omega arith }

vectors-more : (done : List Answered) (a : Answered) → map vector_of (answered_of (done ++ a ∷ [])) ≡ map vector_of (answered_of done) ++ vector_of a.capacities.capacities ∷ []
vectors-more done a =
    ap (λ (dss : List (List (Option ℕ))). map vector_of dss) (map-append (λ (x : Answered). x.capacities.capacities) done (a ∷ []))
    ∙ map-append vector_of (answered_of done) (a.capacities.capacities ∷ [])

loops-same : (f : Result Rated RunError → ℕ) (start mid new : List Telling) (done : List Answered) (a : Answered) (t : Telling) → new ≡ mid ++ t ∷ [] → ran t.blocked ≡ f a.answer → loops_in mid ≡ loops_in start + sum_of f done → loops_in new ≡ loops_in start + sum_of f (done ++ a ∷ [])
loops-same f start mid new done a t added one all =
    let more : loops_in new ≡ loops_in mid + ran t.blocked = ap loops_in added ∙ loops-more mid t in
    omega (arith, more, one, all, sum-more f done a)

pub learned-more : (done : List Answered) (a : Answered) (start mid new : Known) → AreLearned done start mid → IsLearned a mid new → AreLearned (done ++ a ∷ []) start new
learned-more done a start mid new all one = record {
  more = all.more ++ one.telling ∷ [];
  added = one.added ∙ (ap (λ (ts : List Telling). ts ++ one.telling ∷ []) all.added ∙ append_assoc start.tellings.items all.more (one.telling ∷ []));
  vectors = map-append (λ (t : Telling). t.capacities) all.more (one.telling ∷ [])
      ∙ (ap (λ (vs : List (List ℕ)). vs ++ one.telling.capacities ∷ []) all.vectors
      ∙ (ap (λ (v : List ℕ). map vector_of (answered_of done) ++ v ∷ []) one.vector
      ∙ sym (vectors-more done a)));
  least = loops-same least_loops start.tellings.items mid.tellings.items new.tellings.items done a one.telling one.added one.least all.least;
  most = loops-same most_loops start.tellings.items mid.tellings.items new.tellings.items done a one.telling one.added one.most all.most;
}

pub many-more : (a : Answered) (mid new : Known) (n : ℕ) (done : List Answered) → IsLearned a mid new → length mid.tellings.items ≡ n + length done → length new.tellings.items ≡ n + length (done ++ a ∷ [])
many-more a mid new n done one many =
    let added : length new.tellings.items ≡ length (mid.tellings.items ++ one.telling ∷ []) = ap (λ (ts : List Telling). length ts) one.added in
    omega (arith, added, many, length_push mid.tellings.items one.telling, length_push done a)

-- ---- what is still new

module _ (net : Net) (limits : Limits) (corner : List (Option ℕ)) (lattice : Lattice) where
  pub first-new : (ts : List Telling) (ds : List (Option ℕ)) (dss : List (List (Option ℕ))) → AreNew net limits corner lattice ts (ds ∷ dss) → IsNew net limits corner lattice ts ds
  first-new ts ds dss new = new.each ds (contains-here ds dss)

  pub rest-new : (a : Answered) (old mid : Known) (dss : List (List (Option ℕ))) → AreNew net limits corner lattice old.tellings.items (a.capacities.capacities ∷ dss) → IsLearned a old mid → AreNew net limits corner lattice mid.tellings.items dss
  rest-new a old mid dss new one = record { each = λ es there. still es there (new.each es (contains-later a.capacities.capacities dss es there)); apart = new.apart.1 }
    where
      here : IsNew net limits corner lattice old.tellings.items a.capacities.capacities
      here = new.each a.capacities.capacities (contains-here a.capacities.capacities dss)

      still : (es : List (Option ℕ)) → Contains dss es → IsNew net limits corner lattice old.tellings.items es → IsNew net limits corner lattice mid.tellings.items es
      still es there is = record {
        among = is.among;
        bounds = is.bounds;
        reachable = is.reachable;
        untold = λ t known same. ⊎_elim
            (λ (before : Contains old.tellings.items t). is.untold t before same)
            (λ (last : one.telling ≡ t).
            let equal : vector_of a.capacities.capacities ≡ vector_of es = sym one.vector ∙ (ap (λ (x : Telling). x.capacities) last ∙ same) in
            new.apart.0 es there (sym here.bounds ∙ (ap (λ (ks : List ℕ). bounded_by corner ks) equal ∙ is.bounds)))
            (Contains-push_cases old.tellings.items one.telling t (subst (λ (ts : List Telling). Contains ts t) one.added known));
      }
