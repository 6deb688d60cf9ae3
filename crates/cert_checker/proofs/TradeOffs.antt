-- What a certificate of a trade-off shows of which all lines are right.
use Rattle.std.proofs.Common.{◌≡◌, ℕ, zero, suc, ◌+◌, ◌*◌, ◌-◌, ◌≤◌, ◌<◌, Option, Some, List, [], ◌∷◌, length, map, ⊎_elim, subst, sym, refl, ap, ◌∙◌, arith}
use Rattle.std.specs.Prelude.{slice_index, slice_index_or}
use Rattle.std.proofs.lemmas.List.{get_or-map, length-map}
use Rattle.sd_base.specs.Net.{Net, channel_at}
use Rattle.sd_base.specs.Lawful.{Lawful}
use Rattle.sd_base.specs.Rates.{Rate}
use Rattle.sd_base.proofs.ElementsKeepPlaces.{some-within}
use Rattle.critical.specs.Bounds.{CyclesBoundTheRate}
use Rattle.periodic.proofs.RightLinesDecide.{lines_decide}
use Rattle.storage.specs.BoundedNets.{HasNoSpaces, bound}
use Rattle.storage.specs.ClosedLists.{Entry, HasEntry, IsClosed, IsFrontOver, entry_at}
use Rattle.storage.specs.Distributions.{capacity_at, storage_of}
use Rattle.storage.specs.ParetoPoints.{IsFront, IsReachedPair, no_pair}
use Rattle.storage.specs.Steps.{IsCorner, IsOnGrid, step_of}
use Rattle.storage.proofs.ChannelSteps.{some-step}
use Rattle.storage.proofs.CornerLists.{corner-grid}
use Rattle.storage.proofs.MembersCover.{BoundsRoomier, net-above, net-bounds}
use Rattle.storage.proofs.EnlargingAddsRoom.{distribution-length, enlarged-grid, enlarged-storage}
use Rattle.storage.proofs.FrontsFromMembers.{front-over, less_on}
use Rattle.storage.proofs.BoundingKeepsLaws.{bound-lawful}
use Rattle.storage.proofs.SpacesJoinEnds.{bound-strong}
use Rattle.storage.proofs.IncidentInputs.{incident-inputs}
use Rattle.storage.specs.StorageOrder.{stepped}
use Rattle.cert_text.specs.declared.certificates.MemberShown.{MemberShown}
use Rattle.cert_text.specs.declared.certificates.MemberShown.TheVariants.{Cycle, Blocked}
use Rattle.cert_text.specs.declared.certificates.StorageCertificate.{StorageCertificate}
use Rattle.cert_text.specs.declared.certificates.LinkCycle.{LinkCycle}
use Rattle.cert_checker.specs.LinkCycles.{IsCycleLine}
use Rattle.cert_checker.specs.Schedules.{IsRateLine}
use Rattle.cert_checker.specs.RateCertificates.{RateIsShown}
use Rattle.cert_checker.specs.ShownChannels.{IsMember, IsShownBy, IsWithin, capacities_at, member_at}
use Rattle.cert_checker.specs.StorageCertificates.{HasRate, IsFileNet, IsShownRight, IsTradeOff, capacities_of, pair_of, point_at, no_point}
use Rattle.cert_checker.proofs.FileNets.{bounded-few, no-spaces, within-can}
use Rattle.cert_checker.proofs.ShownLists.{HasBound, shown-bound}

-- ---- a list of what each number below n has

-- an entry for a number
abbrev Choice : (ℕ → Entry → Type 0) → ℕ → Type 0
Choice P n = (es : List Entry) × (length es ≡ n) × ((i : ℕ) → i < n → P i (entry_at es i))

choose : (P : ℕ → Entry → Type 0) (n : ℕ) → ((i : ℕ) → i < n → (e : Entry) × P i e) → Choice P n
choose P zero all = ([], refl, λ i below. absurd (omega arith))
choose P (suc n) all =
    let here = all 0 (omega arith) in
    let rest = choose (λ i e. P (suc i) e) n (λ i below. all (suc i) (omega arith)) in (
      here.0 ∷ rest.0,
      ap suc rest.1,
      at here.0 here.1 rest.0 rest.2,
    )
  where
    at : (e : Entry) → P 0 e → (es : List Entry) → ((i : ℕ) → i < n → P (suc i) (entry_at es i)) → (i : ℕ) → i < suc n → P i (entry_at (e ∷ es) i)
    at e one es later zero below = one
    at e one es later (suc i) below = later i (omega arith)

-- what is shown has a capacity
pub shown-room : (net : Net) (cycles : List LinkCycle) (ds : List (Option ℕ)) (shown : MemberShown) (c : ℕ) → IsShownBy net cycles ds shown c → (k : ℕ) × (capacity_at ds c ≡ Some k)
shown-room net cycles ds (Cycle rate cycle) c by = (by.room, by.has)
shown-room net cycles ds (Blocked counts) c by = (by.shows.room, by.shows.has)

module _ (cycles_bound : CyclesBoundTheRate) (rates : RateIsShown) (net : Net) (c : StorageCertificate) (corner : List (Option ℕ)) (file : IsFileNet net) (is_corner : IsCorner net.channels corner) (is : IsTradeOff net c) where
  none : HasNoSpaces net
  none = no-spaces net file

  -- the nets of distributions within the limit keep the laws
  lawful : (es : List (Option ℕ)) → IsWithin net c.limit es → Lawful (bound net es)
  lawful es fit = bound-lawful net file.laws es none
      (within-can net file c.limit es is.limit fit)
      (bounded-few net file es)

  within : (i : ℕ) → i < length c.members → IsWithin net c.limit (capacities_at c.members i)
  within i below = (is.members i below).place.within

  -- ---- members are on the grid

  grid : (n i : ℕ) → i < length c.members → storage_of net.channels (capacities_at c.members i) < n → IsOnGrid net.channels (capacities_at c.members i)
  grid zero i below few = absurd (omega arith)
  grid (suc n) zero below few = ⊎_elim
      (λ (empty : (c.limit < storage_of net.channels corner) × (length c.members ≡ 0)). absurd (omega (arith, below, empty.1)))
      (λ (first : (storage_of net.channels corner ≤ c.limit) × (1 ≤ length c.members) × (capacities_at c.members 0 ≡ corner)). subst (IsOnGrid net.channels) (sym first.2) (corner-grid net.channels corner is_corner))
      (is.corner corner is_corner)
  grid (suc n) (suc i) below few =
      let parent = (is.members (suc i) below).place.parent (omega arith) in
      let room = shown-room net c.cycles (capacities_at c.members parent.place) (member_at c.members parent.place).shown parent.channel parent.shows.by in
      let place : parent.channel < length net.channels = omega (arith, some-within (capacities_at c.members parent.place) parent.channel room.0 room.1, distribution-length net.channels (capacities_at c.members parent.place) parent.shows.within.distribution) in
      let less : storage_of net.channels (capacities_at c.members parent.place) < storage_of net.channels (stepped net.channels (capacities_at c.members parent.place) parent.channel) =
      enlarged-storage net.channels (capacities_at c.members parent.place) parent.channel room.0 (step_of (channel_at net parent.channel)) file.laws.some_size place room.1 (some-step (channel_at net parent.channel) (file.laws.some_made parent.channel place)) in
      let less_here : storage_of net.channels (capacities_at c.members parent.place) < storage_of net.channels (capacities_at c.members (suc i)) = subst (λ (ds : List (Option ℕ)). storage_of net.channels (capacities_at c.members parent.place) < storage_of net.channels ds) parent.is less in
      let on : IsOnGrid net.channels (capacities_at c.members parent.place) = grid n parent.place parent.below (omega (arith, less_here, few)) in
      subst (IsOnGrid net.channels) parent.is (enlarged-grid net.channels (capacities_at c.members parent.place) parent.channel on)

  -- ---- the closed list

  pub record IsEntry (i : ℕ) (e : Entry) : Type 0 where
    pub capacities : e.capacities ≡ capacities_at c.members i
    pub bound_of : HasBound net (IsWithin net c.limit) c.cycles (capacities_at c.members i) (member_at c.members i).shown
    pub list : e.shown ≡ bound_of.list
    pub num : e.num ≡ bound_of.num
    pub den : e.den ≡ bound_of.den

  entry-for : (i : ℕ) → i < length c.members → (e : Entry) × IsEntry i e
  entry-for i below =
      let b = shown-bound net none (IsWithin net c.limit) lawful c.cycles (capacities_at c.members i) cycles_bound (member_at c.members i).shown (is.members i below).shown in
      (record { capacities = capacities_at c.members i; shown = b.list; num = b.num; den = b.den }, record { capacities = refl; bound_of = b; list = refl; num = refl; den = refl })

  module _ (es : List Entry) (many : length es ≡ length c.members) (are : (i : ℕ) → i < length c.members → IsEntry i (entry_at es i)) where
    entry-of : (ds : List (Option ℕ)) → IsMember c.members ds → HasEntry es ds
    entry-of ds (i, below, same) = (i, omega (arith, below, many), (are i below).capacities ∙ same)

    here : (i : ℕ) → i < length es → i < length c.members
    here i below = omega (arith, below, many)

    next-of : (i j : ℕ) → i < length es → j < length (entry_at es i).shown → storage_of net.channels (stepped net.channels (entry_at es i).capacities (slice_index (entry_at es i).shown j)) ≤ c.limit → HasEntry es (stepped net.channels (entry_at es i).capacities (slice_index (entry_at es i).shown j))
    next-of i j below place small =
        let e : IsEntry i (entry_at es i) = are i (here i below) in
        let step : (xs : List ℕ) → xs ≡ e.bound_of.list → j < length xs → storage_of net.channels (stepped net.channels (capacities_at c.members i) (slice_index xs j)) ≤ c.limit → HasEntry es (stepped net.channels (capacities_at c.members i) (slice_index xs j)) =
        λ xs same less few. at-list i j (here i below) e xs same less few in
        rw e.capacities (step (entry_at es i).shown e.list place (rw (← e.capacities) small))
      where
        at-list : (i j : ℕ) → i < length c.members → (e : IsEntry i (entry_at es i)) → (xs : List ℕ) → xs ≡ e.bound_of.list → j < length xs → storage_of net.channels (stepped net.channels (capacities_at c.members i) (slice_index xs j)) ≤ c.limit → HasEntry es (stepped net.channels (capacities_at c.members i) (slice_index xs j))
        at-list i j below e xs same less few =
            let shows : IsShownBy net c.cycles (capacities_at c.members i) (member_at c.members i).shown (slice_index xs j) = subst (λ (ys : List ℕ). j < length ys → IsShownBy net c.cycles (capacities_at c.members i) (member_at c.members i).shown (slice_index ys j)) (sym same) (e.bound_of.each j) less in
            entry-of (stepped net.channels (capacities_at c.members i) (slice_index xs j)) ((is.members i below).closed (slice_index xs j) (record { within = within i below; by = shows }) few)

    bounds : (i : ℕ) → i < length es → BoundsRoomier net c.limit (entry_at es i)
    bounds i below ds dist small most agrees p q rate =
        let e : IsEntry i (entry_at es i) = are i (here i below) in
        rw (e.num, e.den) (e.bound_of.bounds ds (record { distribution = dist; storage = small }) (rw (← e.capacities) most) (rw (← e.capacities, ← e.list) agrees) p q rate)

    closed : IsClosed net c.limit es
    closed = record {
      corner = corner;
      is_corner = is_corner;
      start = λ small. ⊎_elim
          (λ (empty : (c.limit < storage_of net.channels corner) × (length c.members ≡ 0)). absurd (omega (arith, small, empty.0)))
          (λ (first : (storage_of net.channels corner ≤ c.limit) × (1 ≤ length c.members) × (capacities_at c.members 0 ≡ corner)). entry-of corner (0, omega (arith, first.1), first.2))
          (is.corner corner is_corner);
      distributions = λ i below. rw ((are i (here i below)).capacities) (within i (here i below)).distribution;
      grid = λ i below. rw ((are i (here i below)).capacities) (grid (suc (storage_of net.channels (capacities_at c.members i))) i (here i below) (omega arith));
      within = λ i below. rw ((are i (here i below)).capacities) (within i (here i below)).storage;
      next = next-of;
      positive = λ i below. rw ((are i (here i below)).den) (are i (here i below)).bound_of.positive;
      above = net-above net file.laws c.limit corner is_corner;
      bounds = λ i below. net-bounds net file.laws c.limit (entry_at es i) (bounds i below);
    }

    -- ---- the points over it

    pair-at : (i : ℕ) → i < length c.points → slice_index_or (map pair_of c.points) i no_pair ≡ pair_of (point_at c.points i)
    pair-at i below = get_or-map pair_of c.points i no_point no_pair below

    count : length (map pair_of c.points) ≡ length c.points
    count = length-map c.points pair_of

    line-at : (i : ℕ) → i < length c.points → (rate : ℕ × ℕ) × (cycle : ℕ) × ((member_at c.members (point_at c.points i).member).shown ≡ Cycle rate cycle) × (rate.0 ≡ (point_at c.points i).rate.0) × (rate.1 ≡ (point_at c.points i).rate.1) × IsRateLine rate × IsCycleLine (bound net (capacities_of c i)) rate (Rattle.cert_text.specs.MemberLines.cycle_at c.cycles cycle)
    line-at i below = at (member_at c.members (point_at c.points i).member).shown refl (is.points i below).point.rate (is.members (point_at c.points i).member (is.points i below).point.member).shown
      where
        at : (shown : MemberShown) → (member_at c.members (point_at c.points i).member).shown ≡ shown → HasRate shown (point_at c.points i).rate → IsShownRight (bound net (capacities_of c i)) c.cycles shown → (rate : ℕ × ℕ) × (cycle : ℕ) × ((member_at c.members (point_at c.points i).member).shown ≡ Cycle rate cycle) × (rate.0 ≡ (point_at c.points i).rate.0) × (rate.1 ≡ (point_at c.points i).rate.1) × IsRateLine rate × IsCycleLine (bound net (capacities_of c i)) rate (Rattle.cert_text.specs.MemberLines.cycle_at c.cycles cycle)
        at (Cycle rate cycle) same has right = (rate, cycle, same, has.0, has.1, right.0, right.1)
        at (Blocked counts) same has right = absurd has

    den-some : (i : ℕ) → i < length c.points → 1 ≤ (point_at c.points i).rate.1
    den-some i below = let l = line-at i below in omega (arith, l.4, l.5.positive)

    reached : (i : ℕ) → i < length c.points → IsReachedPair net c.limit (pair_of (point_at c.points i))
    reached i below =
        let l = line-at i below in
        let p = (is.points i below).point in
        let s = (is.points i below).schedule in
        let fit : IsWithin net c.limit (capacities_of c i) = within (point_at c.points i).member p.member in
        let laws' : Lawful (bound net (capacities_of c i)) = lawful (capacities_of c i) fit in
        let holds = (lines_decide (bound net (capacities_of c i)) (point_at c.points i).schedule.period (point_at c.points i).schedule.rounds (point_at c.points i).schedule.starts laws' s.schedule.passes s.schedule.turns s.schedule.actors).0 (λ a actor. s.starts a (omega (arith, actor, s.schedule.actors))) in
        let rate : Rate (bound net (capacities_of c i)) (point_at c.points i).rate.0 (point_at c.points i).rate.1 =
        rates (bound net (capacities_of c i)) (point_at c.points i).schedule.period (point_at c.points i).schedule.rounds (point_at c.points i).schedule.starts l.6.cycle (point_at c.points i).rate.0 (point_at c.points i).rate.1 laws'
        (incident-inputs net is.incident (capacities_of c i) fit.distribution) (bound-strong net (capacities_of c i) fit.distribution file.connected) holds l.6.is.holds
        (den-some i below) (rw (← l.3, ← l.4) l.5.lowest) s.schedule.ratio (rw (← l.3, ← l.4) l.6.is.ratio) in (
          capacities_of c i,
          record {
            distribution = fit.distribution;
            total = sym p.storage;
            within = omega (arith, p.storage, fit.storage);
            rate = rate;
            runs = omega (arith, l.3, l.5.some);
          },
        )

    more : (k i : ℕ) → i + suc k < length c.points → (point_at c.points i).total < (point_at c.points (i + suc k)).total
    more zero i below = let e : i + 1 - 1 ≡ i = omega arith in let step = (is.points (i + 1) (omega arith)).point.more (omega arith) in subst (λ (n : ℕ). (point_at c.points n).total < (point_at c.points (i + 1)).total) e step
    more (suc k) i below =
        let first = more k i (omega arith) in
        let e : i + suc (suc k) - 1 ≡ i + suc k = omega arith in
        let step = (is.points (i + suc (suc k)) below).point.more (omega arith) in
        let last : (point_at c.points (i + suc k)).total < (point_at c.points (i + suc (suc k))).total = subst (λ (n : ℕ). (point_at c.points n).total < (point_at c.points (i + suc (suc k))).total) e step in
        omega (arith, first, last)

    faster : (k i : ℕ) → i + suc k < length c.points → (point_at c.points i).rate.0 * (point_at c.points (i + suc k)).rate.1 < (point_at c.points (i + suc k)).rate.0 * (point_at c.points i).rate.1
    faster zero i below = let e : i + 1 - 1 ≡ i = omega arith in let step = (is.points (i + 1) (omega arith)).point.faster (omega arith) in subst (λ (n : ℕ). (point_at c.points n).rate.0 * (point_at c.points (i + 1)).rate.1 < (point_at c.points (i + 1)).rate.0 * (point_at c.points n).rate.1) e step
    faster (suc k) i below =
        let first = faster k i (omega arith) in
        let e : i + suc (suc k) - 1 ≡ i + suc k = omega arith in
        let step = (is.points (i + suc (suc k)) below).point.faster (omega arith) in
        let last : (point_at c.points (i + suc k)).rate.0 * (point_at c.points (i + suc (suc k))).rate.1 < (point_at c.points (i + suc (suc k))).rate.0 * (point_at c.points (i + suc k)).rate.1 = subst (λ (n : ℕ). (point_at c.points n).rate.0 * (point_at c.points (i + suc (suc k))).rate.1 < (point_at c.points (i + suc (suc k))).rate.0 * (point_at c.points n).rate.1) e step in
        less_on (point_at c.points i).rate.0 (point_at c.points i).rate.1 (point_at c.points (i + suc k)).rate.0 (point_at c.points (i + suc k)).rate.1 (point_at c.points (i + suc (suc k))).rate.0 (point_at c.points (i + suc (suc k))).rate.1
        (den-some i (omega arith)) (den-some (i + suc k) (omega arith)) (den-some (i + suc (suc k)) below) first (omega (arith, last))

    over : IsFrontOver net c.limit es (map pair_of c.points)
    over = record {
      storage = λ i j less below.
          (let low : j < length c.points = omega (arith, below, count) in let e : i + suc (j - suc i) ≡ j = omega arith in
          let m = more (j - suc i) i (omega (arith, e, low)) in
          rw (pair-at i (omega arith), pair-at j low) (subst (λ (n : ℕ). (point_at c.points i).total < (point_at c.points n).total) e m));
      rate = λ i j less below.
          (let low : j < length c.points = omega (arith, below, count) in let e : i + suc (j - suc i) ≡ j = omega arith in
          let m = faster (j - suc i) i (omega (arith, e, low)) in
          rw (pair-at i (omega arith), pair-at j low) (subst (λ (n : ℕ). (point_at c.points i).rate.0 * (point_at c.points n).rate.1 < (point_at c.points n).rate.0 * (point_at c.points i).rate.1) e m));
      reached = λ i below. (let low : i < length c.points = omega (arith, below, count) in rw (pair-at i low) (reached i low));
      covers = λ i below runs.
          (let e : IsEntry i (entry_at es i) = are i (here i below) in
          let l = e.bound_of.rate (rw (← e.num) runs) in
          let b = is.below i l.0 l.1 (here i below) l.2 in (
            b.place,
            omega (arith, b.below, count),
            rw (pair-at b.place b.below, e.capacities) b.storage,
            rw (pair-at b.place b.below, e.num, e.den, l.3, l.4) b.rate,
          ));
    }

    front-by : IsFront net c.limit (map pair_of c.points)
    front-by = front-over net file.laws c.limit es (map pair_of c.points) closed over

  pub front : IsFront net c.limit (map pair_of c.points)
  front = let chosen = choose IsEntry (length c.members) entry-for in front-by chosen.0 chosen.1 chosen.2
