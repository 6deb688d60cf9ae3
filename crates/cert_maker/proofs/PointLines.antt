-- The lines of points are right.
use Rattle.std.proofs.Common.{◌≡◌, ℕ, ◌*◌, ◌-◌, ◌≤◌, ◌<◌, Bool, Option, Some, List, length, map, slice_get, inl, ⊎_elim, sym, ap, subst, ◌∙◌, arith}
use Rattle.std.specs.Prelude.{slice_index_or, Contains}
use Rattle.std.specs.List.{AllZip}
use Rattle.std.proofs.lemmas.Bool.{cases_lt}
use Rattle.std.proofs.lemmas.List.{length-map}
use Rattle.std.proofs.lemmas.Option.{get_or_from_slice_get, slice_get_within}
use Rattle.sd_base.specs.declared.limits.Limits.{Limits}
use Rattle.sd_base.specs.declared.limits.TheConstants.{STORAGE}
use Rattle.sd_base.specs.Lawful.{Lawful}
use Rattle.sd_base.specs.Net.{Net}
use Rattle.sd_base.specs.Rates.{Rate}
use Rattle.sd_base.proofs.LoopRates.{one-rate}
use Rattle.sd_base.proofs.ElementsKeepPlaces.{get-map}
use Rattle.sd_base.proofs.ByteTestsDecide.{one-some}
use Rattle.critical.specs.Bounds.{CyclesBoundTheRate}
use Rattle.periodic.specs.declared.schedule.Periodic.{Periodic}
use Rattle.periodic.proofs.RightLinesDecide.{lines_decide}
use Rattle.storage.specs.BoundedNets.{bound}
use Rattle.storage.specs.Distributions.{storage_of}
use Rattle.storage.specs.ParetoPoints.{IsPareto, Pair, no_pair}
use Rattle.pareto_front.specs.declared.point.Point.{Point}
use Rattle.explore.specs.declared.exploration.Member.{Member}
use Rattle.explore.specs.Explorations.{IsExploration, capacities_of, pair_of}
use Rattle.cert_text.specs.declared.certificates.MemberShown.TheVariants.{Cycle}
use Rattle.cert_text.specs.declared.certificates.PointLine.{PointLine}
use Rattle.cert_text.specs.declared.certificates.StorageCertificate.{StorageCertificate}
use Rattle.cert_checker.specs.ShownChannels.{capacities_at, member_at}
use Rattle.cert_checker.specs.StorageCertificates.{AreBelow, HasRate, IsBelow, IsFileNet, IsPointOf, IsPointRight, IsScheduleRight, IsShownRight, no_point, point_at}
use Rattle.cert_maker.specs.StorageCertificates.{IsPointLine, IsShownBy, IsStorageCertificate}
use Rattle.cert_maker.specs.ValidTradeOffs.{IsReachedBy}
use Rattle.cert_maker.proofs.ClosedMembers.{lawful}
use Rattle.cert_maker.proofs.CoveredMembers.{member-covered, member-pair}
use Rattle.cert_maker.proofs.MemberLines.{many, member-of, member-right, place-of, same-capacities}
use Rattle.cert_maker.proofs.MemberOrder.{member-fits}
use Rattle.cert_maker.proofs.ShownLines.{listed-rate, shown-rate}
use Rattle.cert_maker.proofs.PairsReachSummits.{NoWorse}
use Rattle.cert_maker.proofs.ZippedPlacesAgree.{ZipAt, zip-at, zip-long, zip-mapped}

-- a rate by its parts
same-rate : (a b x y : ℕ) (r : ℕ × ℕ) → a ≡ x → b ≡ y → r ≡ (x, y) → (a, b) ≡ r
same-rate a b x y r num den is = let pair : (a, b) ≡ (x, y) = λ k. (num k, den k) in pair ∙ sym is

-- the line of a point that is no worse than a member
line-below : (net : Net) (ms : List Member) (lines : List PointLine) (m : Member) (ds : List (Option ℕ)) (r : ℕ × ℕ) (p : Point) (k : ℕ) → k < length lines → IsPointLine ms p (point_at lines k) → NoWorse (pair_of p) (member-pair net m) → m.capacities.capacities ≡ ds
    → r ≡ (m.rate.num, m.rate.den) → IsBelow net lines ds r
line-below net ms lines m ds r p k below line over same is =
    let few = over.storage in
    let total = line.total in
    let storage : (point_at lines k).total ≤ storage_of net.channels m.capacities.capacities = omega (arith, few, total) in
    record {
      place = k;
      below = below;
      positive = subst (λ (x : ℕ × ℕ). 1 ≤ x.1) (sym line.rate) p.rate.positive;
      storage = subst (λ (es : List (Option ℕ)). (point_at lines k).total ≤ storage_of net.channels es) same storage;
      rate = subst (λ (x : ℕ × ℕ). r.0 * x.1 ≤ x.0 * r.1) (sym line.rate) (subst (λ (x : ℕ × ℕ). x.0 * p.rate.den ≤ p.rate.num * x.1) (sym is) over.rate);
    }

module _ (cycles_bound : CyclesBoundTheRate) (net : Net) (file : IsFileNet net) (limits : Limits) (small : limits.total ≤ STORAGE) (ms : List Member) (ps : List Point) (is : IsExploration net limits ms ps)
    (no_overlap : Bool) (schedules : List Periodic) (c : StorageCertificate) (put : IsStorageCertificate net no_overlap limits.total ms ps schedules c) where
  -- the point of a line
  point-of : (i : ℕ) → i < length c.points → ZipAt (IsPointLine ms) ps i (point_at c.points i)
  point-of i below = zip-at (IsPointLine ms) ps c.points i no_point put.reached below

  many-points : length ps ≡ length c.points
  many-points = zip-long (IsPointLine ms) ps c.points put.reached

  pair-there : (i : ℕ) (p : Point) → slice_get ps i ≡ Some p → slice_index_or (map pair_of ps) i no_pair ≡ pair_of p
  pair-there i p at = get_or_from_slice_get (map pair_of ps) i (pair_of p) no_pair (get-map pair_of ps i p at)

  -- ---- the member of a point

  -- the place of its member
  pub member-below : (i : ℕ) → i < length c.points → (point_at c.points i).member < length c.members
  member-below i below =
      let here = point-of i below in
      let within = slice_get_within (capacities_of ms) (point_at c.points i).member here.item.capacities.capacities here.holds.member in
      omega (arith, within, length-map ms (λ (x : Member). x.capacities.capacities), many net file limits ms ps is no_overlap schedules c put)

  module _ (i : ℕ) (below : i < length c.points) where
    point-capacities : (point-of i below).item.capacities.capacities ≡ capacities_at c.members (point_at c.points i).member
    point-capacities =
        let here = point-of i below in
        let m = member-of net file limits ms ps is no_overlap schedules c put (point_at c.points i).member (member-below i below) in
        one-some (slice_get (capacities_of ms) (point_at c.points i).member) here.item.capacities.capacities m.item.capacities.capacities here.holds.member
        (place-of net file limits ms ps is no_overlap schedules c put (point_at c.points i).member m.item m.at)
        ∙ same-capacities net file limits ms ps is no_overlap schedules c put m.item (member_at c.members (point_at c.points i).member) m.holds

    point-rate : HasRate (member_at c.members (point_at c.points i).member).shown (point_at c.points i).rate
    point-rate =
        let here = point-of i below in
        let m = member-of net file limits ms ps is no_overlap schedules c put (point_at c.points i).member (member-below i below) in
        let reaches = (is.reached here.item here.one).reaches in
        let same : here.item.capacities.capacities ≡ m.item.capacities.capacities = one-some (slice_get (capacities_of ms) (point_at c.points i).member) here.item.capacities.capacities m.item.capacities.capacities here.holds.member
        (place-of net file limits ms ps is no_overlap schedules c put (point_at c.points i).member m.item m.at) in
        let fits = member-fits net file limits ms ps is m.item m.one in
        let laws : Lawful (bound net m.item.capacities.capacities) = lawful cycles_bound net file limits small ms ps is no_overlap schedules c put m.item.capacities.capacities (record { distribution = fits.0; storage = fits.1 }) in
        let rates = one-rate (bound net m.item.capacities.capacities) m.item.rate.num m.item.rate.den here.item.rate.num here.item.rate.den laws (is.evaluated m.item m.one).rate
        (subst (λ (ds : List (Option ℕ)). Rate (bound net ds) here.item.rate.num here.item.rate.den) same reaches.rate) in
        let num = rates.0 in
        let den = rates.1 in
        let runs = reaches.runs in
        let has : HasRate (member_at c.members (point_at c.points i).member).shown (m.item.rate.num, m.item.rate.den) =
        shown-rate net m.item.capacities.capacities limits.states m.item.rate c.cycles m.item.shown (member_at c.members (point_at c.points i).member).shown (omega (arith, num, runs)) (is.evaluated m.item m.one).shown m.holds.shown in
        let both = same-rate m.item.rate.num m.item.rate.den here.item.rate.num here.item.rate.den (point_at c.points i).rate num den here.holds.rate in
        subst (HasRate (member_at c.members (point_at c.points i).member).shown) both has

    point-storage : (point_at c.points i).total ≡ storage_of net.channels (capacities_at c.members (point_at c.points i).member)
    point-storage =
        let here = point-of i below in
        here.holds.total ∙ (sym (is.reached here.item here.one).reaches.total ∙ ap (storage_of net.channels) point-capacities)

    -- ---- points rise

    module _ (some : 1 ≤ i) where
      before : i - 1 < length c.points
      before = omega (arith, some, below)

      rising : (point-of (i - 1) before).item.total < (point-of i below).item.total
      rising =
          let here = point-of i below in
          let last = point-of (i - 1) before in
          let rise = is.front.rising (i - 1) i (omega (arith, some)) (omega (arith, below, many-points, length-map ps pair_of)) in
          let first = ap (λ (x : Pair). x.storage) (pair-there (i - 1) last.item last.at) in
          let second = ap (λ (x : Pair). x.storage) (pair-there i here.item here.at) in
          omega (arith, rise, first, second)

      pub more : (point_at c.points (i - 1)).total < (point_at c.points i).total
      more = let rise = rising in let first = (point-of (i - 1) before).holds.total in let second = (point-of i below).holds.total in omega (arith, rise, first, second)

      quicker : (point-of (i - 1) before).item.rate.num * (point-of i below).item.rate.den < (point-of i below).item.rate.num * (point-of (i - 1) before).item.rate.den
      quicker =
          let here = point-of i below in
          let last = point-of (i - 1) before in
          let best : IsPareto net limits.total (pair_of here.item) = subst (IsPareto net limits.total) (pair-there i here.item here.at) (is.front.points i (omega (arith, below, many-points, length-map ps pair_of))) in
          let first : IsPareto net limits.total (pair_of last.item) = subst (IsPareto net limits.total) (pair-there (i - 1) last.item last.at) (is.front.points (i - 1) (omega (arith, below, many-points, length-map ps pair_of))) in
          ⊎_elim
          (λ (h : last.item.rate.num * here.item.rate.den < here.item.rate.num * last.item.rate.den). h)
          (λ (back : here.item.rate.num * last.item.rate.den ≤ last.item.rate.num * here.item.rate.den). absurd (best.best (pair_of last.item) first.reached (inl (rising, back))))
          (cases_lt (last.item.rate.num * here.item.rate.den) (here.item.rate.num * last.item.rate.den))

      pub faster : (point_at c.points (i - 1)).rate.0 * (point_at c.points i).rate.1 < (point_at c.points i).rate.0 * (point_at c.points (i - 1)).rate.1
      faster =
          subst (λ (x : ℕ × ℕ). (point_at c.points (i - 1)).rate.0 * x.1 < x.0 * (point_at c.points (i - 1)).rate.1) (sym (point-of i below).holds.rate)
          (subst (λ (x : ℕ × ℕ). x.0 * (point-of i below).item.rate.den < (point-of i below).item.rate.num * x.1) (sym (point-of (i - 1) before).holds.rate) quicker)

    point-is : IsPointOf net c i
    point-is = record { member = member-below i below; storage = point-storage; rate = point-rate; more = more; faster = faster }

    -- ---- schedules

    point-schedule : AllZip (IsReachedBy net) ps schedules → IsScheduleRight (bound net (capacities_at c.members (point_at c.points i).member)) (point_at c.points i)
    point-schedule keeps = subst (λ (ds : List (Option ℕ)). IsScheduleRight (bound net ds) (point_at c.points i)) point-capacities right
      where
        here : ZipAt (IsPointLine ms) ps i (point_at c.points i)
        here = point-of i below

        by : IsReachedBy net here.item (point_at c.points i).schedule
        by = zip-mapped (IsReachedBy net) (λ (l : PointLine). l.schedule) ps c.points i here.item no_point (subst (AllZip (IsReachedBy net) ps) (sym put.keep) keeps) below here.at

        laws : Lawful (bound net here.item.capacities.capacities)
        laws =
            let reaches = (is.reached here.item here.one).reaches in
            let total = reaches.total in
            let within = reaches.within in
            lawful cycles_bound net file limits small ms ps is no_overlap schedules c put here.item.capacities.capacities (record { distribution = reaches.distribution; storage = omega (arith, total, within) })

        right : IsScheduleRight (bound net here.item.capacities.capacities) (point_at c.points i)
        right = record {
          schedule = record {
            passes = by.holds.passes;
            turns = by.holds.turns;
            actors = by.holds.listed.actors;
            ratio = subst (λ (x : ℕ × ℕ). (point_at c.points i).schedule.rounds * x.1 ≡ x.0 * (point_at c.points i).schedule.period) (sym here.holds.rate) by.ratio;
          };
          starts = λ a actor. (let rows = by.holds.listed.actors in
              (lines_decide (bound net here.item.capacities.capacities) (point_at c.points i).schedule.period (point_at c.points i).schedule.rounds (point_at c.points i).schedule.starts laws by.holds.passes by.holds.turns by.holds.listed.actors).1 by.holds a (omega (arith, actor, rows)));
        }

    pub point-right : AllZip (IsReachedBy net) ps schedules → IsPointRight net c i
    point-right keeps = record { point = point-is; schedule = point-schedule keeps }

  -- ---- members are above points

  pub are-below : AreBelow net c
  are-below i rate cycle below same =
      let here = member-of net file limits ms ps is no_overlap schedules c put i below in
      let mine : rate ≡ (here.item.rate.num, here.item.rate.den) = listed-rate net here.item.capacities.capacities limits.states here.item.rate c.cycles here.item.shown rate cycle
      (subst (IsShownBy (bound net here.item.capacities.capacities) c.cycles here.item.rate here.item.shown) same here.holds.shown) in
      let runs : 1 ≤ here.item.rate.num = listed-runs here.item here.one rate cycle i below same mine in
      let found = member-covered cycles_bound net file limits small ms ps is no_overlap schedules c put here.item here.one runs in
      let inside = found.below in
      let there : found.place < length c.points = omega (arith, inside, many-points) in
      let point = point-of found.place there in
      line-below net ms c.points here.item (capacities_at c.members i) rate point.item found.place there point.holds (subst (λ (x : Pair). NoWorse x (member-pair net here.item)) (pair-there found.place point.item point.at) found.no_worse)
      (same-capacities net file limits ms ps is no_overlap schedules c put here.item (member_at c.members i) here.holds) mine
    where
      listed-runs : (m : Member) → Contains ms m → (r : ℕ × ℕ) (k j : ℕ) → j < length c.members → (member_at c.members j).shown ≡ Cycle r k → r ≡ (m.rate.num, m.rate.den) → 1 ≤ m.rate.num
      listed-runs m one r k j within at equal =
          let right = (member-right net file limits ms ps is no_overlap schedules c put j within).shown in
          let line = (subst (IsShownRight (bound net (capacities_at c.members j)) c.cycles) at right).0 in
          subst (λ (x : ℕ × ℕ). 1 ≤ x.0) equal line.some
