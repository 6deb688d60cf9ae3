-- The members of an exploration are a closed list.
use Rattle.std.proofs.Common.{◌≡◌, ℕ, ◌*◌, ◌≤◌, ◌<◌, Bool, Option, List, length, ⊎_elim, refl, sym, ap, subst, ◌∙◌, arith}
use Rattle.std.specs.Prelude.{slice_index, Contains}
use Rattle.std.specs.List.{AllZip}
use Rattle.std.proofs.lemmas.Bool.{cases_lt}
use Rattle.sd_base.specs.declared.limits.Limits.{Limits}
use Rattle.sd_base.specs.declared.limits.TheConstants.{STORAGE}
use Rattle.sd_base.specs.Lawful.{Lawful}
use Rattle.sd_base.specs.Net.{Net}
use Rattle.critical.specs.Bounds.{CyclesBoundTheRate}
use Rattle.periodic.specs.declared.schedule.Periodic.{Periodic}
use Rattle.storage.specs.BoundedNets.{bound}
use Rattle.storage.specs.ClosedLists.{Entry, HasEntry, IsClosed, entry_at, no_entry}
use Rattle.storage.specs.Distributions.{IsDistribution, storage_of}
use Rattle.storage.specs.Steps.{IsOnGrid}
use Rattle.storage.proofs.MembersCover.{BoundsRoomier, net-above, net-bounds}
use Rattle.storage.proofs.BoundingKeepsLaws.{bound-lawful}
use Rattle.storage.proofs.FrontsFromMembers.{positive-on}
use Rattle.sd_base.proofs.ContainedHavePlaces.{contains-unmap}
use Rattle.storage.specs.StorageOrder.{stepped}
use Rattle.pareto_front.specs.declared.point.Point.{Point}
use Rattle.explore.specs.declared.exploration.Member.{Member}
use Rattle.explore.specs.Explorations.{IsExploration, ShowsChannel, capacities_of}
use Rattle.cert_text.specs.declared.certificates.StorageCertificate.{StorageCertificate}
use Rattle.cert_checker.specs.ShownChannels.{IsWithin, member_at, no_member}
use Rattle.cert_checker.specs.StorageCertificates.{IsFileNet}
use Rattle.cert_checker.proofs.FileNets.{bounded-few, within-can}
use Rattle.cert_checker.proofs.ShownLists.{HasBound, shown-bound}
use Rattle.cert_maker.specs.StorageCertificates.{IsMemberLine, IsShownBy, IsStorageCertificate}
use Rattle.cert_maker.proofs.MemberLines.{line-of}
use Rattle.cert_maker.proofs.MemberOrder.{member-fits, member-grid, none}
use Rattle.cert_maker.proofs.ShownLines.{line-shows, listed-rate, shown-right}
use Rattle.cert_maker.proofs.ZippedPlacesAgree.{PlaceOf, zip-at, zip-chosen, zip-one}

-- a bound of 0 allows no other rate
zero-bound : (p d n q : ℕ) → n < 1 → 1 ≤ d → p * d ≤ n * q → p ≡ 0
zero-bound p d n q none some le =
    ⊎_elim
    (λ (h : p < 1). omega (arith, h))
    (λ (runs : 1 ≤ p). let more = positive-on p q n d runs some le in absurd (omega (arith, none, more)))
    (cases_lt p 1)

-- the entry is the member with channels that it shows, which bound its rate
pub record IsEntryOf (net : Net) (limit : ℕ) (m : Member) (e : Entry) : Type 0 where
  pub capacities : e.capacities ≡ m.capacities.capacities
  pub num : e.num ≡ m.rate.num
  pub den : e.den ≡ m.rate.den
  pub each : (j : ℕ) → j < length e.shown → ShowsChannel net m.capacities.capacities m.shown (slice_index e.shown j)
  pub bounds : BoundsRoomier net limit e

module _ (cycles_bound : CyclesBoundTheRate) (net : Net) (file : IsFileNet net) (limits : Limits) (small : limits.total ≤ STORAGE) (ms : List Member) (ps : List Point) (is : IsExploration net limits ms ps)
    (no_overlap : Bool) (schedules : List Periodic) (c : StorageCertificate) (put : IsStorageCertificate net no_overlap limits.total ms ps schedules c) where
  -- the nets of distributions within the limit keep the laws
  pub lawful : (ds : List (Option ℕ)) → IsWithin net limits.total ds → Lawful (bound net ds)
  lawful ds fit = bound-lawful net file.laws ds (none net file limits ms ps is) (within-can net file limits.total ds small fit) (bounded-few net file ds)

  entry-of : (m : Member) → Contains ms m → (e : Entry) × IsEntryOf net limits.total m e
  entry-of m one = (
    record { capacities = m.capacities.capacities; shown = b.list; num = m.rate.num; den = m.rate.den },
    record {
      capacities = refl;
      num = refl;
      den = refl;
      each = λ j below. line-shows net m.capacities.capacities limits.states m.rate c.cycles m.shown (member_at c.members place.place).shown (slice_index b.list j) by.shown (b.each j below);
      bounds = λ ds dist within most agrees p q rate. bounded p q (b.bounds ds (record { distribution = dist; storage = within }) most agrees p q rate);
    },
  )
    where
      place : PlaceOf (IsMemberLine net c.cycles) ms c.members no_member m
      place = line-of net file limits ms ps is no_overlap schedules c put m one

      by : IsMemberLine net c.cycles m (member_at c.members place.place)
      by = place.holds

      b : HasBound net (IsWithin net limits.total) c.cycles m.capacities.capacities (member_at c.members place.place).shown
      b = shown-bound net (none net file limits ms ps is) (IsWithin net limits.total) lawful c.cycles m.capacities.capacities cycles_bound (member_at c.members place.place).shown
          (shown-right net m.capacities.capacities limits.states m.rate c.cycles m.shown (member_at c.members place.place).shown (is.evaluated m one).rate (is.evaluated m one).shown by.shown)

      bounded : (p q : ℕ) → p * b.den ≤ b.num * q → p * m.rate.den ≤ m.rate.num * q
      bounded p q le = ⊎_elim
          (λ (nothing : b.num < 1). let zero_here = zero-bound p b.den b.num q nothing b.positive le in let e : p * m.rate.den ≡ 0 * m.rate.den = ap (λ (x : ℕ). x * m.rate.den) zero_here in omega (arith, e))
          (λ (runs : 1 ≤ b.num).
          let listed = b.rate runs in
          let mine : listed.0 ≡ (m.rate.num, m.rate.den) = listed-rate net m.capacities.capacities limits.states m.rate c.cycles m.shown listed.0 listed.1 (subst (IsShownBy (bound net m.capacities.capacities) c.cycles m.rate m.shown) listed.2 by.shown) in
          let num : b.num ≡ m.rate.num = listed.3 ∙ ap (λ (x : ℕ × ℕ). x.0) mine in
          let den : b.den ≡ m.rate.den = listed.4 ∙ ap (λ (x : ℕ × ℕ). x.1) mine in
          subst (λ (n : ℕ). p * m.rate.den ≤ n * q) num (subst (λ (d : ℕ). p * d ≤ b.num * q) den le))
          (cases_lt b.num 1)

  pub entries : (es : List Entry) × AllZip (IsEntryOf net limits.total) ms es
  entries = zip-chosen (IsEntryOf net limits.total) ms entry-of

  module _ (es : List Entry) (are : AllZip (IsEntryOf net limits.total) ms es) where
    has-entry : (ds : List (Option ℕ)) → Contains (capacities_of ms) ds → HasEntry es ds
    has-entry ds one =
        let m = contains-unmap (λ (x : Member). x.capacities.capacities) ms ds one in
        let at = zip-one (IsEntryOf net limits.total) ms es no_entry m.0 are m.1 in
        (at.place, at.below, at.holds.capacities ∙ m.2)

    next-entry : (i j : ℕ) → i < length es → j < length (entry_at es i).shown →
        storage_of net.channels (stepped net.channels (entry_at es i).capacities (slice_index (entry_at es i).shown j)) ≤ limits.total → HasEntry es (stepped net.channels (entry_at es i).capacities (slice_index (entry_at es i).shown j))
    next-entry i j below shown few =
        let n = zip-at (IsEntryOf net limits.total) ms es i no_entry are below in
        let channel : ℕ = slice_index (entry_at es i).shown j in
        subst (λ (ds : List (Option ℕ)). storage_of net.channels (stepped net.channels ds channel) ≤ limits.total → HasEntry es (stepped net.channels ds channel)) (sym n.holds.capacities)
        (λ within. has-entry (stepped net.channels n.item.capacities.capacities channel) (is.closed n.item channel n.one (n.holds.each j shown) within)) few

    pub closed-members : IsClosed net limits.total es
    closed-members = record {
      corner = is.start.corner;
      is_corner = is.start.is_corner;
      start = λ within. has-entry is.start.corner (is.start.start within);
      distributions = λ i below. (let n = zip-at (IsEntryOf net limits.total) ms es i no_entry are below in subst (IsDistribution net.channels) (sym n.holds.capacities) (member-fits net file limits ms ps is n.item n.one).0);
      grid = λ i below. (let n = zip-at (IsEntryOf net limits.total) ms es i no_entry are below in subst (IsOnGrid net.channels) (sym n.holds.capacities) (member-grid net file limits ms ps is n.item n.one));
      within = λ i below.
          (let n = zip-at (IsEntryOf net limits.total) ms es i no_entry are below in subst (λ (ds : List (Option ℕ)). storage_of net.channels ds ≤ limits.total) (sym n.holds.capacities) (member-fits net file limits ms ps is n.item n.one).1);
      next = next-entry;
      positive = λ i below. (let n = zip-at (IsEntryOf net limits.total) ms es i no_entry are below in subst (λ (d : ℕ). 1 ≤ d) (sym n.holds.den) (is.evaluated n.item n.one).rate.positive);
      above = net-above net file.laws limits.total is.start.corner is.start.is_corner;
      bounds = λ i below. net-bounds net file.laws limits.total (entry_at es i) (zip-at (IsEntryOf net limits.total) ms es i no_entry are below).holds.bounds;
    }
