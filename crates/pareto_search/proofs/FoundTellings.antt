-- What was told, and what is new, are as many reachable distributions: so no more loops are counted, and none are refused else.
use Rattle.std.proofs.Common.{◌≡◌, ◌≢◌, ℕ, suc, ◌+◌, ◌≤◌, ◌<◌, Option, None, Some, List, [], ◌∷◌, ◌++◌, length, map, ⊎_elim, refl, sym, ap, ◌∙◌, subst, arith}
use Rattle.std.specs.Prelude.{Contains, slice_get}
use Rattle.std.proofs.lemmas.List.{length-append, length-map}
use Rattle.std.proofs.lemmas.List.Elements.{All-contains, Contains-append_cases}
use Rattle.sd_base.specs.declared.limits.Limits.{Limits}
use Rattle.sd_base.specs.declared.numbers.Fraction.{Fraction}
use Rattle.sd_base.specs.Net.{Net}
use Rattle.sd_base.proofs.ContainedHavePlaces.{contains-get, contains-here, contains-later, contains-none, contains-unmap}
use Rattle.covers.specs.declared.lattice.Lattice.{Lattice}
use Rattle.walks.specs.declared.telling.Telling.{Telling}
use Rattle.explore.specs.declared.error.ExploreError.TheVariants.{DistributionsSpent}
use Rattle.explore.specs.Explorations.{AreFound, CountsFew, IsRefusal}
use Rattle.explore.specs.Reachable.{IsReachable}
use Rattle.pareto_search.specs.Entrances.{AreApart}
use Rattle.pareto_search.specs.declared.known.Known.{Known}
use Rattle.pareto_search.specs.inside.Knowledge.{IsKnown, IsTold, loops_in, ran, told_of}
use Rattle.pareto_search.specs.inside.Learning.{AreNew, IsNew}
use Rattle.pareto_search.specs.inside.Vectors.{bounded_by, vector_of}
use Rattle.pareto_search.proofs.DistinctListsSort.{apart-append, found-sorted}

-- ---- how many loops were run

ran-few : (blocked : Option (List ℕ)) → ran blocked ≤ 1
ran-few None = omega arith
ran-few (Some counts) = omega arith

pub loops-few : (ts : List Telling) → loops_in ts ≤ length ts
loops-few [] = omega arith
loops-few (t ∷ ts) = let later = loops-few ts in omega (arith, later, ran-few t.blocked)

pub loops-more : (ts : List Telling) (t : Telling) → loops_in (ts ++ t ∷ []) ≡ loops_in ts + ran t.blocked
loops-more [] t = omega arith
loops-more (x ∷ ts) t = let later = loops-more ts t in omega (arith, later)

-- ---- what was told

-- different vectors, each that of its distribution, give different distributions
apart-bounded : {A : Type 0} (corner : List (Option ℕ)) (f : A → List ℕ) (xs : List A) → ((x : A) → Contains xs x → vector_of (bounded_by corner (f x)) ≡ f x)
    → ((i j : ℕ) (x y : A) → i < j → slice_get xs i ≡ Some x → slice_get xs j ≡ Some y → f x ≢ f y) → AreApart (map (λ (x : A). bounded_by corner (f x)) xs)
apart-bounded corner f [] flat apart = tt
apart-bounded {A} corner f (x ∷ xs) flat apart = (
  λ es one same.
      let u = contains-unmap (λ (y : A). bounded_by corner (f y)) xs es one in
      let at = contains-get xs u.0 u.1 in
      apart 0 (suc at.0) x u.0 (omega arith) refl at.1 (sym (flat x (contains-here x xs)) ∙ (ap vector_of (same ∙ sym u.2) ∙ flat u.0 (contains-later x xs u.0 u.1))),
  apart-bounded corner f xs (λ y one. flat y (contains-later x xs y one)) (λ i j y z less one other. apart (suc i) (suc j) y z (omega arith) one other),
)

module _ (net : Net) (limits : Limits) (corner : List (Option ℕ)) (lattice : Lattice) where
  none-new : (ts : List Telling) → AreNew net limits corner lattice ts []
  none-new ts = record { each = λ ds one. absurd (contains-none ds one); apart = tt }

  module _ (best : Fraction) (k : Known) (known : IsKnown net limits corner lattice best k) where
    told : (t : Telling) → Contains k.tellings.items t → IsTold net limits corner lattice t
    told t one = All-contains (IsTold net limits corner lattice) k.tellings.items t known.told one

    pub told-apart : AreApart (told_of corner k.tellings.items)
    told-apart = apart-bounded corner (λ (t : Telling). t.capacities) k.tellings.items (λ t one. (told t one).flat) known.apart

    pub told-reachable : (ds : List (Option ℕ)) → Contains (told_of corner k.tellings.items) ds → IsReachable net limits.total ds
    told-reachable ds one =
        let t = contains-unmap (λ (x : Telling). bounded_by corner x.capacities) k.tellings.items ds one in
        subst (IsReachable net limits.total) t.2 (told t.0 t.1).reachable

    module _ (dss : List (List (Option ℕ))) (new : AreNew net limits corner lattice k.tellings.items dss) where
      both-apart : AreApart (told_of corner k.tellings.items ++ dss)
      both-apart = apart-append (told_of corner k.tellings.items) dss told-apart new.apart (λ ds es old one. between ds es old (new.each es one))
        where
          between : (ds es : List (Option ℕ)) → Contains (told_of corner k.tellings.items) ds → IsNew net limits corner lattice k.tellings.items es → ds ≢ es
          between ds es old is same =
              let t = contains-unmap (λ (x : Telling). bounded_by corner x.capacities) k.tellings.items ds old in
              is.untold t.0 t.1 (sym (told t.0 t.1).flat ∙ ap vector_of (t.2 ∙ same))

      both-reachable : (ds : List (Option ℕ)) → Contains (told_of corner k.tellings.items ++ dss) ds → IsReachable net limits.total ds
      both-reachable ds one =
          ⊎_elim
          (λ (old : Contains (told_of corner k.tellings.items) ds). told-reachable ds old)
          (λ (there : Contains dss ds). (new.each ds there).reachable)
          (Contains-append_cases (told_of corner k.tellings.items) dss ds one)

      -- both together are found
      pub told-found : (found : List (List (Option ℕ))) × AreFound net limits.total found × (length found ≡ length k.tellings.items + length dss)
      told-found =
          let f = found-sorted net limits.total (told_of corner k.tellings.items ++ dss) both-apart both-reachable in
          let a = length-append (told_of corner k.tellings.items) dss in
          let b = length-map k.tellings.items (λ (t : Telling). bounded_by corner t.capacities) in (f.0, f.1, omega (arith, f.2, a, b))

      -- so more than are allowed are refused
      pub told-spent : limits.distributions < length k.tellings.items + length dss → IsRefusal net limits DistributionsSpent
      told-spent many = let f = told-found in (f.0, f.1, omega (arith, f.2, many))

      -- and no more loops are counted than there are
      pub told-counts : (before after : ℕ) → after ≤ before + (length k.tellings.items + length dss) → length k.tellings.items + length dss ≤ limits.distributions → CountsFew net limits before after
      told-counts before after rise few = let f = told-found in (f.0, f.1, omega (arith, f.2, rise), omega (arith, f.2, few))

      -- also where the loops of what was told were counted before
      pub told-counts-more : (before after : ℕ) → after ≤ before + (loops_in k.tellings.items + length dss) → length k.tellings.items + length dss ≤ limits.distributions → CountsFew net limits before after
      told-counts-more before after rise few = told-counts before after (omega (arith, rise, loops-few k.tellings.items)) few

    -- the same of what was told alone
    pub known-counts : (before after : ℕ) → after ≤ before + loops_in k.tellings.items → CountsFew net limits before after
    known-counts before after rise = told-counts-more [] (none-new k.tellings.items) before after (omega (arith, rise)) (omega (arith, known.few))
