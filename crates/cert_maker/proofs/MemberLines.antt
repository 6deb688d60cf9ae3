-- The lines of members are right.
use Rattle.std.proofs.Common.{◌≡◌, ℕ, zero, suc, ◌-◌, ◌≤◌, ◌<◌, Bool, Option, Some, List, length, slice_get, inl, inr, ⊎_elim, refl, sym, ap, subst, ◌∙◌, arith}
use Rattle.std.proofs.lemmas.Bool.{cases_lt}
use Rattle.std.proofs.lemmas.List.{length-map}
use Rattle.std.proofs.lemmas.Option.{slice_get_within}
use Rattle.std.specs.Prelude.{Contains}
use Rattle.sd_base.specs.declared.limits.Limits.{Limits}
use Rattle.sd_base.specs.Net.{Net}
use Rattle.sd_base.proofs.ElementsKeepPlaces.{get-map}
use Rattle.sd_base.proofs.ByteTestsDecide.{one-some}
use Rattle.periodic.specs.declared.schedule.Periodic.{Periodic}
use Rattle.storage.specs.declared.distribution.Distribution.{Distribution}
use Rattle.storage.specs.BoundedNets.{bound}
use Rattle.storage.specs.Distributions.{storage_of}
use Rattle.storage.specs.Steps.{IsCorner}
use Rattle.sd_base.proofs.ContainedHavePlaces.{contains-unmap, get-contains}
use Rattle.storage.specs.StorageOrder.{IsBefore, stepped}
use Rattle.pareto_front.specs.declared.point.Point.{Point}
use Rattle.explore.specs.declared.exploration.Member.{Member}
use Rattle.explore.specs.Explorations.{IsExploration, ShowsChannel, capacities_of}
use Rattle.cert_text.specs.declared.certificates.MemberLine.{MemberLine}
use Rattle.cert_text.specs.declared.certificates.StorageCertificate.{StorageCertificate}
use Rattle.cert_checker.specs.ShownChannels as checked
use Rattle.cert_checker.specs.ShownChannels.{IsMember, IsWithin, Shows, capacities_at, member_at, no_member}
use Rattle.cert_checker.specs.StorageCertificates.{BeginsAtCorner, HasParent, IsClosedAt, IsFileNet, IsMemberRight, IsShownRight}
use Rattle.cert_checker.proofs.AnswersJudgeLines.{corner-one}
use Rattle.cert_maker.specs.StorageCertificates.{IsMemberLine, IsStorageCertificate}
use Rattle.cert_maker.proofs.MemberOrder.{corner-first, first-is-corner, member-fits, none, none-below, order-at}
use Rattle.cert_maker.proofs.ShownLines.{line-shows, shown-right, shows-line}
use Rattle.cert_maker.proofs.ZippedPlacesAgree.{PlaceOf, ZipAt, zip-at, zip-long, zip-one}

module _ (net : Net) (file : IsFileNet net) (limits : Limits) (ms : List Member) (ps : List Point) (is : IsExploration net limits ms ps)
    (no_overlap : Bool) (schedules : List Periodic) (c : StorageCertificate) (put : IsStorageCertificate net no_overlap limits.total ms ps schedules c) where
  -- the member of a line, and the line of a member
  pub member-of : (i : ℕ) → i < length c.members → ZipAt (IsMemberLine net c.cycles) ms i (member_at c.members i)
  member-of i below = zip-at (IsMemberLine net c.cycles) ms c.members i no_member put.listed below

  pub line-of : (m : Member) → Contains ms m → PlaceOf (IsMemberLine net c.cycles) ms c.members no_member m
  line-of m one = zip-one (IsMemberLine net c.cycles) ms c.members no_member m put.listed one

  pub many : length ms ≡ length c.members
  many = zip-long (IsMemberLine net c.cycles) ms c.members put.listed

  pub same-capacities : (m : Member) (line : MemberLine) → IsMemberLine net c.cycles m line → m.capacities.capacities ≡ line.capacities.capacities
  same-capacities m line by = ap (λ (d : Distribution). d.capacities) (sym by.capacities)

  -- where its capacities stand
  pub place-of : (i : ℕ) (m : Member) → slice_get ms i ≡ Some m → slice_get (capacities_of ms) i ≡ Some m.capacities.capacities
  place-of i m at = get-map (λ (x : Member). x.capacities.capacities) ms i m at

  line-within : (m : Member) → Contains ms m → (line : MemberLine) → IsMemberLine net c.cycles m line → IsWithin net c.limit line.capacities.capacities
  line-within m one line by =
      let fits = member-fits net file limits ms ps is m one in
      subst (IsWithin net c.limit) (same-capacities m line by) (record { distribution = fits.0; storage = (let within = fits.1 in let limit = put.within in omega (arith, within, limit)) })

  -- both show the same channels
  line-channel : (m : Member) → Contains ms m → (line : MemberLine) → IsMemberLine net c.cycles m line → (channel : ℕ) → Shows net c.limit c.cycles line channel → ShowsChannel net m.capacities.capacities m.shown channel
  line-channel m one line by channel shows =
      line-shows net m.capacities.capacities limits.states m.rate c.cycles m.shown line.shown channel by.shown
      (subst (λ (ds : List (Option ℕ)). checked.IsShownBy net c.cycles ds line.shown channel) (sym (same-capacities m line by)) shows.by)

  channel-line : (m : Member) → Contains ms m → (line : MemberLine) → IsMemberLine net c.cycles m line → (channel : ℕ) → ShowsChannel net m.capacities.capacities m.shown channel → Shows net c.limit c.cycles line channel
  channel-line m one line by channel shows = record {
    within = line-within m one line by;
    by = subst (λ (ds : List (Option ℕ)). checked.IsShownBy net c.cycles ds line.shown channel) (same-capacities m line by)
        (shows-line net m.capacities.capacities limits.states m.rate c.cycles (none net file limits ms ps is) m.shown line.shown channel (is.evaluated m one).shown by.shown shows);
  }

  -- what is one of the distributions has a line
  listed-line : (ds : List (Option ℕ)) → Contains (capacities_of ms) ds → IsMember c.members ds
  listed-line ds one =
      let m = contains-unmap (λ (x : Member). x.capacities.capacities) ms ds one in
      let place = line-of m.0 m.1 in
      (place.place, place.below, sym (same-capacities m.0 (member_at c.members place.place) place.holds) ∙ m.2)

  after : (i : ℕ) → 1 ≤ i → i < length c.members → IsBefore net.channels (capacities_at c.members (i - 1)) (capacities_at c.members i)
  after i some below =
      let here = member-of i below in
      let before = member-of (i - 1) (omega (arith, some, below)) in
      let order : IsBefore net.channels before.item.capacities.capacities here.item.capacities.capacities =
      order-at net (capacities_of ms) (i - 1) i before.item.capacities.capacities here.item.capacities.capacities is.order (omega (arith, some)) (place-of (i - 1) before.item before.at) (place-of i here.item here.at) in
      subst (λ (ds : List (Option ℕ)). IsBefore net.channels ds (capacities_at c.members i)) (same-capacities before.item (member_at c.members (i - 1)) before.holds)
      (subst (λ (ds : List (Option ℕ)). IsBefore net.channels before.item.capacities.capacities ds) (same-capacities here.item (member_at c.members i) here.holds) order)

  parent : (i : ℕ) → 1 ≤ i → i < length c.members → HasParent net c (capacities_at c.members i)
  parent i some below =
      let here = member-of i below in
      let at = place-of i here.item here.at in
      subst (HasParent net c) (same-capacities here.item (member_at c.members i) here.holds) (⊎_elim
      (λ (first : IsCorner net.channels here.item.capacities.capacities).
      absurd (let same = corner-one net.channels here.item.capacities.capacities is.start.corner first is.start.is_corner in
      let zero_here = corner-first net file limits ms ps is i (at ∙ ap Some same) in omega (arith, some, zero_here)))
      (λ (from : (m : Member) × Contains ms m × ((channel : ℕ) × ShowsChannel net m.capacities.capacities m.shown channel × (here.item.capacities.capacities ≡ stepped net.channels m.capacities.capacities channel))).
      let place = line-of from.0 from.1 in
      record {
        place = place.place;
        below = place.below;
        channel = from.2.0;
        shows = channel-line from.0 from.1 (member_at c.members place.place) place.holds from.2.0 from.2.1;
        is = ap (λ (ds : List (Option ℕ)). stepped net.channels ds from.2.0) (sym (same-capacities from.0 (member_at c.members place.place) place.holds)) ∙ sym from.2.2;
      })
      (is.led here.item.capacities.capacities (get-contains (capacities_of ms) i here.item.capacities.capacities at)))

  closed-at : (i : ℕ) → i < length c.members → IsClosedAt net c i
  closed-at i below channel shows few =
      let here = member-of i below in
      let same = same-capacities here.item (member_at c.members i) here.holds in
      let small : storage_of net.channels (stepped net.channels here.item.capacities.capacities channel) ≤ limits.total =
      subst (λ (ds : List (Option ℕ)). storage_of net.channels (stepped net.channels ds channel) ≤ limits.total) (sym same) (let limit = put.within in omega (arith, few, limit)) in
      subst (λ (ds : List (Option ℕ)). IsMember c.members (stepped net.channels ds channel)) same
      (listed-line (stepped net.channels here.item.capacities.capacities channel) (is.closed here.item channel here.one (line-channel here.item here.one (member_at c.members i) here.holds channel shows) small))

  pub member-right : (i : ℕ) → i < length c.members → IsMemberRight net c i
  member-right i below =
      let here = member-of i below in
      record {
        place = record { within = line-within here.item here.one (member_at c.members i) here.holds; after = λ some. after i some below; parent = λ some. parent i some below };
        closed = closed-at i below;
        shown = subst (λ (ds : List (Option ℕ)). IsShownRight (bound net ds) c.cycles (member_at c.members i).shown) (same-capacities here.item (member_at c.members i) here.holds)
            (shown-right net here.item.capacities.capacities limits.states here.item.rate c.cycles here.item.shown (member_at c.members i).shown (is.evaluated here.item here.one).rate (is.evaluated here.item here.one).shown here.holds.shown);
      }

  pub begins : BeginsAtCorner net c
  begins corner is_corner = ⊎_elim
      (λ (large : limits.total < storage_of net.channels corner). inl ((let limit = put.within in omega (arith, large, limit)), empty large (length c.members) refl))
      (λ (small : storage_of net.channels corner ≤ limits.total). inr (there small))
      (cases_lt limits.total (storage_of net.channels corner))
    where
      same : is.start.corner ≡ corner
      same = corner-one net.channels is.start.corner corner is.start.is_corner is_corner

      empty : limits.total < storage_of net.channels corner → (n : ℕ) → length c.members ≡ n → n ≡ 0
      empty large zero long = refl
      empty large (suc n) long =
          let here = member-of 0 (omega (arith, long)) in
          absurd (none-below net file limits ms ps is (subst (λ (ds : List (Option ℕ)). limits.total < storage_of net.channels ds) (sym same) large) here.item here.one)

      there : storage_of net.channels corner ≤ limits.total → (storage_of net.channels corner ≤ c.limit) × (1 ≤ length c.members) × (capacities_at c.members 0 ≡ corner)
      there small =
          let at = first-is-corner net file limits ms ps is (subst (λ (ds : List (Option ℕ)). storage_of net.channels ds ≤ limits.total) (sym same) small) in
          let some : 0 < length c.members = first-below at in
          let here = member-of 0 some in
          ((let limit = put.within in omega (arith, small, limit)), omega (arith, some), sym (same-capacities here.item (member_at c.members 0) here.holds) ∙ (some-one here.item here.at at ∙ same))
        where
          first-below : slice_get (capacities_of ms) 0 ≡ Some is.start.corner → 0 < length c.members
          first-below at = let within = slice_get_within (capacities_of ms) 0 is.start.corner at in omega (arith, within, many, length-map ms (λ (x : Member). x.capacities.capacities))

          some-one : (m : Member) → slice_get ms 0 ≡ Some m → slice_get (capacities_of ms) 0 ≡ Some is.start.corner → m.capacities.capacities ≡ is.start.corner
          some-one m one at = one-some (slice_get (capacities_of ms) 0) m.capacities.capacities is.start.corner (place-of 0 m one) at
