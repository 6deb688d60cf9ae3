-- An exploration has what its lines rest on.
use Rattle.std.proofs.Common.{◌≡◌, ℕ, zero, suc, ◌<◌, ◌≤◌, Option, Some, List, [], ◌∷◌, All, length, map, drop, slice_get, inl, inr, ⊎_elim, refl, ap, arith}
use Rattle.std.specs.Prelude.{slice_index_or, Contains}
use Rattle.std.proofs.lemmas.List.{length-map}
use Rattle.std.proofs.lemmas.List.Elements.{All-contains, Contains-get_or}
use Rattle.sd_base.specs.declared.limits.Limits.{Limits}
use Rattle.sd_base.specs.declared.limits.TheConstants.{STORAGE}
use Rattle.sd_base.specs.Net.{Net}
use Rattle.critical.proofs.ListedSpacesRise.{chain-places}
use Rattle.storage.specs.BoundedNets.{bound}
use Rattle.storage.specs.Distributions.{IsPlain, storage_of}
use Rattle.storage.specs.ParetoPoints.{no_pair}
use Rattle.pareto_front.specs.declared.point.Point.{Point}
use Rattle.explore.specs.declared.exploration.Member.{Member}
use Rattle.evaluations.specs.declared.shown.Shown.{Shown}
use Rattle.evaluations.specs.declared.shown.Shown.TheVariants.{Cycle, Blocked}
use Rattle.explore.specs.Explorations.{IsExploration, ShowsRate, capacities_of, pair_of}
use Rattle.explore.proofs.IncidentNetsExplorable.{reachable-fits}
use Rattle.sd_base.specs.declared.numbers.Fraction.{Fraction}
use Rattle.sd_base.proofs.ContainedHavePlaces.{contains-none, contains-cases, contains-map, get-contains}
use Rattle.storage.specs.StorageOrder.{AreInOrder, IsBefore}
use Rattle.cert_maker.specs.inside.Lines.{ArePlaced, HasLine, HasText}

shown-text : (net : Net) (ds : List (Option ℕ)) (states : ℕ) (rate : Fraction) (shown : Shown) → ShowsRate net ds states rate shown → HasText (bound net ds) shown
shown-text net ds states rate (Cycle cycle) is = chain-places (bound net ds) cycle.first cycle.steps is.2.holds.chain
shown-text net ds states rate (Blocked counts) is = let actor = is.1.blocks.short in let within = actor.1 in let many = is.1.actors in omega (arith, within, many)

module _ (net : Net) (plain : IsPlain net) (limits : Limits) (small : limits.total ≤ STORAGE) (ms : List Member) (ps : List Point) (is : IsExploration net limits ms ps) where
  -- each member has a line
  pub explored-lines : All (HasLine net) ms
  explored-lines k d below =
      let m : Member = slice_index_or ms k d in
      let one = Contains-get_or ms k d below in
      let fits = reachable-fits net limits.total m.capacities.capacities plain (is.reachable m.capacities.capacities (contains-map (λ (x : Member). x.capacities.capacities) ms m one)) in
      record {
        distribution = fits.0;
        small = (let within = fits.1 in omega (arith, within, small));
        shown = shown-text net m.capacities.capacities limits.states m.rate m.shown (is.evaluated m one).shown;
      }

  paired : (qs : List Point) (k : ℕ) (d : Point) → k < length qs → (slice_index_or (map pair_of qs) k no_pair).storage ≡ (slice_index_or qs k d).total
  paired [] k d below = absurd (omega arith)
  paired (q ∷ qs) zero d below = refl
  paired (q ∷ qs) (suc k) d below = paired qs k d (omega arith)

  -- what needs more storage than one of the list stands after it
  after-place : (dss : List (List (Option ℕ))) (i : ℕ) (ds es : List (Option ℕ)) → AreInOrder net.channels dss → slice_get dss i ≡ Some ds → Contains dss es → storage_of net.channels ds < storage_of net.channels es → Contains (drop i dss) es
  after-place [] i ds es order at one more = absurd (contains-none es one)
  after-place (x ∷ xs) zero ds es order at one more = one
  after-place (x ∷ xs) (suc i) ds es order at one more =
      ⊎_elim
      (λ (head : x ≡ es). absurd (before head (All-contains (IsBefore net.channels x) xs ds order.0 (get-contains xs i ds at))))
      (λ (later : Contains xs es). after-place xs i ds es order.1 at later more)
      (contains-cases x xs es one)
    where
      before : x ≡ es → IsBefore net.channels x ds → ⊥
      before head (inl less) = let same = ap (storage_of net.channels) head in omega (arith, same, less, more)
      before head (inr equal) = let same = ap (storage_of net.channels) head in let e = equal.0 in omega (arith, same, e, more)

  -- and each point's distribution is a member, after those of the points before it
  pub explored-placed : ArePlaced (capacities_of ms) ps
  explored-placed = record {
    there = λ k d below. is.listed (slice_index_or ps k d) (Contains-get_or ps k d below);
    later = λ j k i d less below at.
        let p : Point = slice_index_or ps j d in
        let q : Point = slice_index_or ps k d in
        let j_below : j < length ps = omega arith in
        let one = (is.reached p (Contains-get_or ps j d j_below)).reaches.total in
        let other = (is.reached q (Contains-get_or ps k d below)).reaches.total in
        let rises = is.front.rising j k less (omega (arith, below, length-map ps pair_of)) in
        let first = paired ps j d j_below in
        let second = paired ps k d below in
        let more : storage_of net.channels p.capacities.capacities < storage_of net.channels q.capacities.capacities = omega (arith, one, other, rises, first, second) in
        after-place (capacities_of ms) i p.capacities.capacities q.capacities.capacities is.order at (is.listed q (Contains-get_or ps k d below)) more;
  }
