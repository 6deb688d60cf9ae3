-- Some point has no more storage and no less rate than each member.
use Rattle.std.proofs.Common.{◌≡◌, ℕ, ◌*◌, ◌≤◌, ◌<◌, Bool, List, length, map, refl, sym, ap, subst, arith}
use Rattle.std.specs.Prelude.{slice_index_or, Contains}
use Rattle.std.specs.List.{AllZip}
use Rattle.std.proofs.lemmas.List.{length-map}
use Rattle.sd_base.specs.declared.limits.Limits.{Limits}
use Rattle.sd_base.specs.declared.limits.TheConstants.{STORAGE}
use Rattle.sd_base.specs.Net.{Net}
use Rattle.critical.specs.Bounds.{CyclesBoundTheRate}
use Rattle.periodic.specs.declared.schedule.Periodic.{Periodic}
use Rattle.storage.specs.ClosedLists.{Entry, entry_at, no_entry}
use Rattle.storage.specs.Distributions.{storage_of}
use Rattle.storage.specs.ParetoPoints.{IsPareto, IsReachedPair, Pair, no_pair}
use Rattle.storage.proofs.StepsReachMembers.{storage-le}
use Rattle.storage.proofs.MembersCover.{covered}
use Rattle.storage.proofs.FrontsFromMembers.{positive-on}
use Rattle.sd_base.proofs.ContainedHavePlaces.{contains-map, contains-unmap}
use Rattle.pareto_front.specs.declared.point.Point.{Point}
use Rattle.explore.specs.declared.exploration.Member.{Member}
use Rattle.explore.specs.Explorations.{IsExploration, pair_of}
use Rattle.cert_text.specs.declared.certificates.StorageCertificate.{StorageCertificate}
use Rattle.cert_checker.specs.StorageCertificates.{IsFileNet}
use Rattle.cert_maker.specs.StorageCertificates.{IsStorageCertificate}
use Rattle.cert_maker.proofs.ClosedMembers.{IsEntryOf, closed-members, entries}
use Rattle.cert_maker.proofs.MemberOrder.{member-fits}
use Rattle.cert_maker.proofs.PairsReachSummits.{IsSummit, NoWorse, beats-under, climb}
use Rattle.cert_maker.proofs.ZippedPlacesAgree.{zip-at}

-- the storage and the rate of a member
abbrev pub member-pair : Net → Member → Pair
member-pair net m = record { storage = storage_of net.channels m.capacities.capacities; num = m.rate.num; den = m.rate.den }

module _ (cycles_bound : CyclesBoundTheRate) (net : Net) (file : IsFileNet net) (limits : Limits) (small : limits.total ≤ STORAGE) (ms : List Member) (ps : List Point) (is : IsExploration net limits ms ps)
    (no_overlap : Bool) (schedules : List Periodic) (c : StorageCertificate) (put : IsStorageCertificate net no_overlap limits.total ms ps schedules c) where
  pub member-reached : (m : Member) → Contains ms m → 1 ≤ m.rate.num → IsReachedPair net limits.total (member-pair net m)
  member-reached m one runs =
      let fits = member-fits net file limits ms ps is m one in
      (m.capacities.capacities, record { distribution = fits.0; total = refl; within = fits.1; rate = (is.evaluated m one).rate; runs = runs })

  reach : (x : Pair) → Contains (map (member-pair net) ms) x → 1 ≤ x.num → IsReachedPair net limits.total x
  reach x one runs =
      let m = contains-unmap (member-pair net) ms x one in
      subst (λ (y : Pair). 1 ≤ y.num → IsReachedPair net limits.total y) m.2 (λ some. member-reached m.0 m.1 some) runs

  module _ (es : List Entry) (are : AllZip (IsEntryOf net limits.total) ms es) where
    -- each reached pair has a member that is no worse
    below-reached : (o : Pair) → IsReachedPair net limits.total o → (m : Member) × Contains ms m × (1 ≤ m.rate.num) × NoWorse (member-pair net m) o
    below-reached o reached =
        let cover = covered net file.laws limits.total es (closed-members cycles_bound net file limits small ms ps is no_overlap schedules c put es are) o.storage o.num o.den reached.0 reached.1 in
        let n = zip-at (IsEntryOf net limits.total) ms es cover.place no_entry are cover.below in
        let few : storage_of net.channels (entry_at es cover.place).capacities ≤ storage_of net.channels reached.0 = storage-le net.channels (entry_at es cover.place).capacities reached.0 cover.most in
        let same : storage_of net.channels (entry_at es cover.place).capacities ≡ storage_of net.channels n.item.capacities.capacities = ap (storage_of net.channels) n.holds.capacities in
        let rate : o.num * n.item.rate.den ≤ n.item.rate.num * o.den =
        subst (λ (x : ℕ). o.num * n.item.rate.den ≤ x * o.den) n.holds.num (subst (λ (y : ℕ). o.num * y ≤ (entry_at es cover.place).num * o.den) n.holds.den cover.bounds) in
        let total = reached.1.total in (
          n.item,
          n.one,
          positive-on o.num o.den n.item.rate.num n.item.rate.den reached.1.runs (is.evaluated n.item n.one).rate.positive rate,
          record { storage = omega (arith, few, same, total); rate = rate },
        )

    summit-pareto : (below : Pair) (s : IsSummit net limits.total (map (member-pair net) ms) below) → IsPareto net limits.total s.top
    summit-pareto below s = record {
      reached = s.reached;
      best = λ other reached beats.
          (let m = below-reached other reached in
          s.best (member-pair net m.0) (contains-map (member-pair net) ms m.0 m.1) m.2
          (beats-under (member-pair net m.0) other s.top (is.evaluated m.0 m.1).rate.positive reached.1.rate.positive s.reached.1.rate.positive m.3 beats));
    }

  -- so each member has a point that is no worse
  pub record HasPoint (m : Member) : Type 0 where
    pub place : ℕ
    pub below : place < length ps
    pub no_worse : NoWorse (slice_index_or (map pair_of ps) place no_pair) (member-pair net m)

  pub member-covered : (m : Member) → Contains ms m → 1 ≤ m.rate.num → HasPoint m
  member-covered m one runs =
      let listed = entries cycles_bound net file limits small ms ps is no_overlap schedules c put in
      let s = climb net limits.total (map (member-pair net) ms) reach (member-pair net m) (member-reached m one runs) in
      let at = is.front.all s.top (summit-pareto listed.0 listed.1 (member-pair net m) s) in
      let within = at.1 in
      record { place = at.0; below = omega (arith, within, length-map ps pair_of); no_worse = subst (λ (x : Pair). NoWorse x (member-pair net m)) (sym at.2) s.over }
