-- The members of an exploration in their order: the corner comes first, and each other one after what led to it.
use Rattle.std.proofs.Common.{◌≡◌, ◌⊎◌, ℕ, zero, suc, ◌≤◌, ◌<◌, false, Option, Some, List, [], ◌∷◌, slice_get, inl, inr, ⊎_elim, refl, sym, ap, subst, ◌∙◌, arith}
use Rattle.std.proofs.lemmas.Bool.{true≢false}
use Rattle.std.proofs.lemmas.List.Elements.{All-contains}
use Rattle.std.proofs.lemmas.Option.{slice_get_within}
use Rattle.std.specs.Prelude.{Contains}
use Rattle.sd_base.specs.declared.limits.Limits.{Limits}
use Rattle.sd_base.specs.Net.{Net, channel_at}
use Rattle.sd_base.proofs.ElementsKeepPlaces.{get-there}
use Rattle.storage.specs.BoundedNets.{HasNoSpaces}
use Rattle.storage.specs.CapacityOrder.{no_later}
use Rattle.storage.specs.Distributions.{IsDistribution, storage_of}
use Rattle.storage.specs.Steps.{IsCorner, IsOnGrid, step_of}
use Rattle.storage.proofs.CapacityOrder.{no_later-refl}
use Rattle.storage.proofs.ChannelSteps.{some-step}
use Rattle.storage.proofs.CornerLists.{corner-grid}
use Rattle.storage.proofs.EnlargingAddsRoom.{enlarged-grid, enlarged-storage}
use Rattle.sd_base.proofs.ContainedHavePlaces.{contains-map, contains-get, get-contains}
use Rattle.storage.specs.StorageOrder.{AreInOrder, IsBefore, stepped}
use Rattle.pareto_front.specs.declared.point.Point.{Point}
use Rattle.explore.specs.declared.exploration.Member.{Member}
use Rattle.explore.specs.Explorations.{IsExploration, ShowsChannel, capacities_of}
use Rattle.explore.specs.Reachable.{IsReachable, corner, next}
use Rattle.explore.proofs.IncidentNetsExplorable.{reachable-fits}
use Rattle.cert_checker.specs.StorageCertificates.{IsFileNet}
use Rattle.cert_checker.proofs.FileNets.{no-spaces}
use Rattle.cert_checker.proofs.AnswersJudgeLines.{corner-one}
use Rattle.cert_maker.proofs.ShownLines.{shows-bounded}

-- what stands earlier is before what stands later
pub order-at : (net : Net) (dss : List (List (Option ℕ))) (i j : ℕ) (ds es : List (Option ℕ)) → AreInOrder net.channels dss → i < j → slice_get dss i ≡ Some ds → slice_get dss j ≡ Some es → IsBefore net.channels ds es
order-at net [] i j ds es order less one other = absurd (cc)
order-at net (x ∷ xs) i zero ds es order less one other = absurd (omega arith)
order-at net (x ∷ xs) zero (suc j) ds es order less one other =
    let same : x ≡ ds = cc in subst (λ (y : List (Option ℕ)). IsBefore net.channels y es) same (All-contains (IsBefore net.channels x) xs es order.0 (get-contains xs j es other))
order-at net (x ∷ xs) (suc i) (suc j) ds es order less one other = order-at net xs i j ds es order.1 (omega arith) one other

pub reachable-grid : (net : Net) (limit : ℕ) (ds : List (Option ℕ)) → IsReachable net limit ds → IsOnGrid net.channels ds
reachable-grid net limit ds (corner _ is within) = corner-grid net.channels ds is
reachable-grid net limit _ (next ds c reach shows within) = enlarged-grid net.channels ds c (reachable-grid net limit ds reach)

module _ (net : Net) (file : IsFileNet net) (limits : Limits) (ms : List Member) (ps : List Point) (is : IsExploration net limits ms ps) where
  pub none : HasNoSpaces net
  none = no-spaces net file

  pub member-fits : (m : Member) → Contains ms m → IsDistribution net.channels m.capacities.capacities × (storage_of net.channels m.capacities.capacities ≤ limits.total)
  member-fits m one = reachable-fits net limits.total m.capacities.capacities file.plain (is.reachable m.capacities.capacities (contains-map (λ (x : Member). x.capacities.capacities) ms m one))

  pub member-grid : (m : Member) → Contains ms m → IsOnGrid net.channels m.capacities.capacities
  member-grid m one = reachable-grid net limits.total m.capacities.capacities (is.reachable m.capacities.capacities (contains-map (λ (x : Member). x.capacities.capacities) ms m one))

  -- a step more room needs more storage
  step-above : (m : Member) (c : ℕ) → Contains ms m → ShowsChannel net m.capacities.capacities m.shown c → storage_of net.channels m.capacities.capacities < storage_of net.channels (stepped net.channels m.capacities.capacities c)
  step-above m c one shows =
      let b = shows-bounded net none m.capacities.capacities limits.states m.rate m.shown c (is.evaluated m one).shown shows in
      enlarged-storage net.channels m.capacities.capacities c b.room (step_of (channel_at net c)) file.laws.some_size b.place b.has (some-step (channel_at net c) (file.laws.some_made c b.place))

  -- so each but the corner needs more than it
  corner-least : (n : ℕ) (ds : List (Option ℕ)) → Contains (capacities_of ms) ds → storage_of net.channels ds < n → (ds ≡ is.start.corner) ⊎ (storage_of net.channels is.start.corner < storage_of net.channels ds)
  corner-least zero ds one few = absurd (omega arith)
  corner-least (suc n) ds one few = ⊎_elim
      (λ (first : IsCorner net.channels ds). inl (corner-one net.channels ds is.start.corner first is.start.is_corner))
      (λ (from : (m : Member) × Contains ms m × ((c : ℕ) × ShowsChannel net m.capacities.capacities m.shown c × (ds ≡ stepped net.channels m.capacities.capacities c))).
      let above = step-above from.0 from.2.0 from.1 from.2.1 in
      let less : storage_of net.channels from.0.capacities.capacities < storage_of net.channels ds = subst (λ (es : List (Option ℕ)). storage_of net.channels from.0.capacities.capacities < storage_of net.channels es) (sym from.2.2) above in
      inr (⊎_elim
      (λ (first : from.0.capacities.capacities ≡ is.start.corner). subst (λ (es : List (Option ℕ)). storage_of net.channels es < storage_of net.channels ds) first less)
      (λ (more : storage_of net.channels is.start.corner < storage_of net.channels from.0.capacities.capacities). omega (arith, more, less))
      (corner-least n from.0.capacities.capacities (contains-map (λ (x : Member). x.capacities.capacities) ms from.0 from.1) (omega (arith, less, few)))))
      (is.led ds one)

  pub no-less : (ds : List (Option ℕ)) → Contains (capacities_of ms) ds → (ds ≡ is.start.corner) ⊎ (storage_of net.channels is.start.corner < storage_of net.channels ds)
  no-less ds one = corner-least (suc (storage_of net.channels ds)) ds one (omega arith)

  -- the corner is the first one
  pub corner-first : (i : ℕ) → slice_get (capacities_of ms) i ≡ Some is.start.corner → i ≡ 0
  corner-first zero at = refl
  corner-first (suc i) at =
      let within = slice_get_within (capacities_of ms) (suc i) is.start.corner at in
      let first = get-there (capacities_of ms) 0 (omega (arith, within)) in
      absurd (clash first.0 (no-less first.0 (get-contains (capacities_of ms) 0 first.0 first.1)) (order-at net (capacities_of ms) 0 (suc i) first.0 is.start.corner is.order (omega arith) first.1 at))
    where
      clash : (ds : List (Option ℕ)) → (ds ≡ is.start.corner) ⊎ (storage_of net.channels is.start.corner < storage_of net.channels ds) → IsBefore net.channels ds is.start.corner → ⊥
      clash ds (inl same) (inl less) = let e = ap (storage_of net.channels) same in omega (arith, e, less)
      clash ds (inl same) (inr (equal, before)) = true≢false (sym (no_later-refl is.start.corner) ∙ subst (λ (x : List (Option ℕ)). no_later is.start.corner x ≡ false) same before)
      clash ds (inr more) (inl less) = omega (arith, more, less)
      clash ds (inr more) (inr (equal, before)) = omega (arith, more, equal)

  -- it is there if it is within the limit, and else there is none
  pub first-is-corner : storage_of net.channels is.start.corner ≤ limits.total → slice_get (capacities_of ms) 0 ≡ Some is.start.corner
  first-is-corner small =
      let at = contains-get (capacities_of ms) is.start.corner (is.start.start small) in
      subst (λ (i : ℕ). slice_get (capacities_of ms) i ≡ Some is.start.corner) (corner-first at.0 at.1) at.1

  pub none-below : limits.total < storage_of net.channels is.start.corner → (m : Member) → Contains ms m → ⊥
  none-below large m one =
      let fits = (member-fits m one).1 in
      ⊎_elim
      (λ (same : m.capacities.capacities ≡ is.start.corner). let e = ap (storage_of net.channels) same in omega (arith, e, fits, large))
      (λ (more : storage_of net.channels is.start.corner < storage_of net.channels m.capacities.capacities). omega (arith, more, fits, large))
      (no-less m.capacities.capacities (contains-map (λ (x : Member). x.capacities.capacities) ms m one))
