-- What functions answer judges what is asked of lines.
use Rattle.std.proofs.Common.{◌≡◌, ℕ, zero, suc, ◌+◌, ◌-◌, ◌≤◌, ◌<◌, ◌⊎◌, ◌↔◌, Bool, false, Option, None, Some, List, [], ◌∷◌, length, inl, inr, ⊎_elim, sym, refl, subst, ap, ap₂, ◌∙◌, true≢false, eq-eqb, arith, pos_of_ne-zero}
use Rattle.std.specs.Prelude.{IsTrue, IfOk, Result, Ok, Err, nat_eq, slice_index_or, ◌==◌}
use Rattle.std.specs.Cmp.Lexicographic.{pointwise}
use Rattle.std.specs.Option.{option_eq}
use Rattle.std.proofs.lemmas.Bool.{cases_lt, eqb-true}
use Rattle.std.proofs.lemmas.List.{get_or_default}
use Rattle.sd_base.specs.declared.memory.NoMemory.{NoMemory}
use Rattle.sd_base.specs.Net.{Channel, Net}
use Rattle.sd_base.proofs.ElementsKeepPlaces.{some-within}
use Rattle.storage.specs.BoundedNets.{bound}
use Rattle.storage.specs.Distributions.{storage_of}
use Rattle.storage.specs.Steps.{IsCorner, IsCornerAt}
use Rattle.storage.proofs.EnlargingAddsRoom.{distribution-length}
use Rattle.storage.specs.StorageOrder.{IsBefore, stepped}
use Rattle.cert_text.specs.declared.certificates.LinkCycle.{LinkCycle}
use Rattle.cert_text.specs.declared.certificates.MemberLine.{MemberLine}
use Rattle.cert_text.specs.declared.certificates.MemberShown.{MemberShown}
use Rattle.cert_text.specs.declared.certificates.MemberShown.TheVariants.{Cycle, Blocked}
use Rattle.cert_text.specs.declared.certificates.PointLine.{PointLine}
use Rattle.cert_text.specs.declared.certificates.StorageCertificate.{StorageCertificate}
use Rattle.cert_text.specs.MemberLines.{cycle_at}
use Rattle.cert_checker.specs.declared.fault.Fault.{Fault}
use Rattle.cert_checker.specs.declared.verdict.Reason.{Reason}
use Rattle.cert_checker.specs.declared.verdict.Reason.TheVariants as reasons
use Rattle.cert_checker.specs.Verdicts.{IsFirst, rank_of}
use Rattle.cert_checker.specs.LinkCycles.{IsCycleLine}
use Rattle.cert_checker.specs.Schedules.{IsFirstFaulty, IsRateLine, IsScheduleLine}
use Rattle.cert_checker.specs.ShownChannels.{IsMember, IsWithin, Shows, capacities_at, member_at}
use Rattle.cert_checker.specs.StorageCertificates.{AreBelow, BeginsAtCorner, HasParent, IsClosedAt, IsInPlace, IsMemberRight, IsPointOf, IsPointRight, IsScheduleRight, IsShownRight, capacities_of, point_at}
use Rattle.cert_checker.specs.StorageFaults.{IsCycleFault, IsMemberFault, IsPointFault, IsScheduleFault, IsShownFault, member, closure, shown, schedule, starts, point, reaches}
use Rattle.cert_checker.specs.inside.FirstFaults.{Judges}
use Rattle.cert_checker.specs.inside.BelowPoints.{IsMemberBelow, IsShownBelow}
use Rattle.cert_checker.specs.inside.KnownSets.{IsChild, IsChildOfFirst}
use Rattle.cert_checker.proofs.KnownLists.{list-decides}
use Rattle.cert_checker.proofs.TradeOffs.{shown-room}

-- ---- elements of lists

pub item-of : {A : Type 0} (xs ys : List A) (i : ℕ) (x d : A) → xs ≡ ys → i < length ys → x ≡ slice_index_or xs i x → x ≡ slice_index_or ys i d
item-of xs ys i x d same below is = is ∙ (ap (λ (zs : List _). slice_index_or zs i x) same ∙ get_or_default ys i x d below)

-- ---- cycles of members

pub judge-cycle : (net : Net) (version : ℕ) (cs : List LinkCycle) (s : MemberShown) (x : ℕ × ℕ) (k : ℕ) (links : LinkCycle) (r : Result (Option Fault) NoMemory) → s ≡ Cycle x k → links ≡ cycle_at cs k
    → IfOk r (Judges (IsCycleFault net version x links) (IsRateLine x × IsCycleLine net x links)) → IfOk r (Judges (IsShownFault net version cs s) (IsShownRight net cs s))
judge-cycle net version cs s x k links r is at h =
    subst (λ (z : MemberShown). IfOk r (Judges (IsShownFault net version cs z) (IsShownRight net cs z))) (sym is)
    (subst (λ (l : LinkCycle). IfOk r (Judges (IsCycleFault net version x l) (IsRateLine x × IsCycleLine net x l))) at h)

-- ---- members

module _ (net : Net) (version : ℕ) (c : StorageCertificate) (i : ℕ) where
  first-shown : IsInPlace net c i → IsClosedAt net c i → (place : ℕ) (reason : Reason) → IsFirst (IsShownFault (bound net (capacities_at c.members i)) version c.cycles (member_at c.members i).shown) place reason → IsFirst (IsMemberFault net version c i) place reason
  first-shown in_place closed place reason first = record { is = shown first.is; least = least }
    where
      least : (l : ℕ) (r : Reason) → IsMemberFault net version c i l r → (place < l) ⊎ ((place ≡ l) × (rank_of reason ≤ rank_of r))
      least l r (member h il ir) = absurd (h in_place)
      least l r (closure h il ir) = absurd (h closed)
      least l r (shown fault) = first.least l r fault

  judged : IsInPlace net c i → IsClosedAt net c i → (r : Result (Option Fault) NoMemory)
      → IfOk r (Judges (IsShownFault (bound net (capacities_at c.members i)) version c.cycles (member_at c.members i).shown) (IsShownRight (bound net (capacities_at c.members i)) c.cycles (member_at c.members i).shown))
      → IfOk r (Judges (IsMemberFault net version c i) (IsMemberRight net c i))
  judged in_place closed (Ok None) h = record { place = in_place; closed = closed; shown = h }
  judged in_place closed (Ok (Some fault)) h = first-shown in_place closed fault.line fault.reason h
  judged in_place closed (Err e) h = tt

  pub judge-member : (m : MemberLine) → m ≡ member_at c.members i → IsInPlace net c i → IsClosedAt net c i → (bounded : Net) → bounded ≡ bound net m.capacities.capacities → (cs : List LinkCycle) → cs ≡ c.cycles → (r : Result (Option Fault) NoMemory)
      → IfOk r (Judges (IsShownFault bounded version cs m.shown) (IsShownRight bounded cs m.shown)) → IfOk r (Judges (IsMemberFault net version c i) (IsMemberRight net c i))
  judge-member m is in_place closed bounded same cs cycles r h =
      let one = subst (λ (n : Net). IfOk r (Judges (IsShownFault n version cs m.shown) (IsShownRight n cs m.shown))) same h in
      let two = subst (λ (ls : List LinkCycle). IfOk r (Judges (IsShownFault (bound net m.capacities.capacities) version ls m.shown) (IsShownRight (bound net m.capacities.capacities) ls m.shown))) cycles one in
      judged in_place closed r (subst (λ (x : MemberLine). IfOk r (Judges (IsShownFault (bound net x.capacities.capacities) version c.cycles x.shown) (IsShownRight (bound net x.capacities.capacities) c.cycles x.shown))) is two)

-- what a member shows is a channel of the net
pub shown-channel : (net : Net) (limit : ℕ) (cs : List LinkCycle) (m : MemberLine) (channel : ℕ) → Shows net limit cs m channel → channel < length net.channels
shown-channel net limit cs m channel shows =
    let room = shown-room net cs m.capacities.capacities m.shown channel shows.by in
    omega (arith, some-within m.capacities.capacities channel room.0 room.1, distribution-length net.channels m.capacities.capacities shows.within.distribution)

pub closed-all : (net : Net) (c : StorageCertificate) (i n : ℕ) → length net.channels ≤ n
    → ((k : ℕ) → k < n → Shows net c.limit c.cycles (member_at c.members i) k → storage_of net.channels (stepped net.channels (capacities_at c.members i) k) ≤ c.limit → IsMember c.members (stepped net.channels (capacities_at c.members i) k)) → IsClosedAt net c i
closed-all net c i n past all channel shows small = all channel (omega (arith, past, shown-channel net c.limit c.cycles (member_at c.members i) channel shows)) shows small

-- children and parents
pub parent-of : (net : Net) (c : StorageCertificate) (ds : List (Option ℕ)) → IsChildOfFirst net c (length c.members) ds → HasParent net c ds
parent-of net c ds (i, below, child) = record { place = i; below = below; channel = child.channel; shows = child.shows; is = child.is }

pub child-of : (net : Net) (c : StorageCertificate) (ds : List (Option ℕ)) → IsWithin net c.limit ds → HasParent net c ds → IsChildOfFirst net c (length c.members) ds
child-of net c ds fit parent = (
  parent.place,
  parent.below,
  record {
    channel = parent.channel;
    below = shown-channel net c.limit c.cycles (member_at c.members parent.place) parent.channel parent.shows;
    shows = parent.shows;
    small = subst (λ (es : List (Option ℕ)). storage_of net.channels es ≤ c.limit) (sym parent.is) fit.storage;
    is = parent.is;
  },
)

-- a member that isn't the first one
pub later-place : (net : Net) (c : StorageCertificate) (i : ℕ) → (i ≡ 0 → ⊥) → IsWithin net c.limit (capacities_at c.members i) → IsBefore net.channels (capacities_at c.members (i - 1)) (capacities_at c.members i)
    → (b : Bool) → IsTrue b ↔ IsChildOfFirst net c (length c.members) (capacities_at c.members i) → IsTrue b ↔ IsInPlace net c i
later-place net c i later fit after b tests = (
  λ yes. record { within = fit; after = λ some. after; parent = λ some. parent-of net c (capacities_at c.members i) (tests.0 yes) },
  λ in_place. tests.1 (child-of net c (capacities_at c.members i) fit (in_place.parent (pos_of_ne-zero later))),
)

module _ (net : Net) (c : StorageCertificate) (m : MemberLine) (n : ℕ) (ds : List (Option ℕ)) (first old : Type 0) (before : old ↔ (first ⊎ IsChild net c m n ds)) where
  later : IsChild net c m n ds → IsChild net c m (n + 1) ds
  later k = record { channel = k.channel; below = omega (arith, k.below); shows = k.shows; small = k.small; is = k.is }

  pub no-child : (Shows net c.limit c.cycles m n → c.limit < storage_of net.channels (stepped net.channels m.capacities.capacities n)) → old ↔ (first ⊎ IsChild net c m (n + 1) ds)
  no-child none = (
    λ has. ⊎_elim (λ (f : first). inl f) (λ (k : IsChild net c m n ds). inr (later k)) (before.0 has),
    λ both. before.1 (⊎_elim (λ (f : first). inl f) (λ (k : IsChild net c m (n + 1) ds). ⊎_elim
        (λ (less : k.channel < n). inr (record { channel = k.channel; below = less; shows = k.shows; small = k.small; is = k.is }))
        (λ (past : n ≤ k.channel).
        let same : k.channel ≡ n = omega (arith, past, k.below) in
        let shows : Shows net c.limit c.cycles m n = subst (Shows net c.limit c.cycles m) same k.shows in
        let small : storage_of net.channels (stepped net.channels m.capacities.capacities n) ≤ c.limit = subst (λ (x : ℕ). storage_of net.channels (stepped net.channels m.capacities.capacities x) ≤ c.limit) same k.small in
        absurd (omega (arith, none shows, small)))
        (cases_lt k.channel n)) both),
  )

  pub one-child : (new : Type 0) (es : List (Option ℕ)) → new ↔ (old ⊎ (es ≡ ds)) → Shows net c.limit c.cycles m n → es ≡ stepped net.channels m.capacities.capacities n → storage_of net.channels (stepped net.channels m.capacities.capacities n) ≤ c.limit
      → new ↔ (first ⊎ IsChild net c m (n + 1) ds)
  one-child new es added shows is small = (
    λ has. ⊎_elim
        (λ (o : old). ⊎_elim (λ (f : first). inl f) (λ (k : IsChild net c m n ds). inr (later k)) (before.0 o))
        (λ (e : es ≡ ds). inr (record { channel = n; below = omega arith; shows = shows; small = small; is = sym is ∙ e }))
        (added.0 has),
    λ both. added.1 (⊎_elim (λ (f : first). inl (before.1 (inl f))) (λ (k : IsChild net c m (n + 1) ds). ⊎_elim
        (λ (less : k.channel < n). inl (before.1 (inr (record { channel = k.channel; below = less; shows = k.shows; small = k.small; is = k.is }))))
        (λ (past : n ≤ k.channel). let same : k.channel ≡ n = omega (arith, past, k.below) in inr (is ∙ (ap (stepped net.channels m.capacities.capacities) (sym same) ∙ k.is)))
        (cases_lt k.channel n)) both),
  )

-- ---- points

module _ (net : Net) (c : StorageCertificate) (i : ℕ) where
  pub member-below : AreBelow net c → i < length c.members → IsMemberBelow net c.points (member_at c.members i)
  member-below are below = at (member_at c.members i).shown refl
    where
      at : (s : MemberShown) → (member_at c.members i).shown ≡ s → IsShownBelow c.points (storage_of net.channels (capacities_at c.members i)) s
      at (Cycle x k) is = let b = are i x k below is in (b.place, b.below, b.positive, b.storage, b.rate)
      at (Blocked xs) is = tt

  first-reach : IsPointOf net c i → (place : ℕ) (reason : Reason) → IsFirst (IsScheduleFault (bound net (capacities_of c i)) (point_at c.points i)) place reason → IsFirst (IsPointFault net c i) place reason
  first-reach right place reason first = record { is = reaches first.is; least = least }
    where
      least : (l : ℕ) (r : Reason) → IsPointFault net c i l r → (place < l) ⊎ ((place ≡ l) × (rank_of reason ≤ rank_of r))
      least l r (point h il ir) = absurd (h right)
      least l r (reaches fault) = first.least l r fault

  judged-point : IsPointOf net c i → (o : Option Fault) → Judges (IsScheduleFault (bound net (capacities_of c i)) (point_at c.points i)) (IsScheduleRight (bound net (capacities_of c i)) (point_at c.points i)) o → Judges (IsPointFault net c i) (IsPointRight net c i) o
  judged-point right None h = record { point = right; schedule = h }
  judged-point right (Some fault) h = first-reach right fault.line fault.reason h

  pub judge-point : IsPointOf net c i → (m : MemberLine) → m ≡ member_at c.members (point_at c.points i).member → (p : PointLine) → p ≡ point_at c.points i → (bounded : Net) → bounded ≡ bound net m.capacities.capacities → (o : Option Fault)
      → Judges (IsScheduleFault bounded p) (IsScheduleRight bounded p) o → Judges (IsPointFault net c i) (IsPointRight net c i) o
  judge-point right m at_m p at_p bounded same o h =
      let one = subst (λ (n : Net). Judges (IsScheduleFault n p) (IsScheduleRight n p) o) same h in
      let two = subst (λ (x : MemberLine). Judges (IsScheduleFault (bound net x.capacities.capacities) p) (IsScheduleRight (bound net x.capacities.capacities) p) o) at_m one in
      judged-point right o (subst (λ (q : PointLine). Judges (IsScheduleFault (bound net (capacities_of c i)) q) (IsScheduleRight (bound net (capacities_of c i)) q) o) at_p two)

pub first-starts : (net : Net) (p : PointLine) (a : ℕ) → IsScheduleLine net p.rate p.schedule → IsFirstFaulty net p.schedule a → IsFirst (IsScheduleFault net p) (2 + a) reasons.Schedule
first-starts net p a line faulty = record { is = starts a (omega (arith, faulty.actor, line.actors)) faulty.wrong refl refl; least = least }
  where
    least : (l : ℕ) (r : Reason) → IsScheduleFault net p l r → (2 + a < l) ⊎ ((2 + a ≡ l) × (rank_of reasons.Schedule ≤ rank_of r))
    least l r (schedule h il ir) = absurd (h line)
    least l r (starts b within h il ir) = ⊎_elim
        (λ (less : b < a). absurd (h (faulty.earlier b less)))
        (λ (more : a ≤ b). ⊎_elim
        (λ (less : a < b). inl (omega (arith, il, less)))
        (λ (no_more : b ≤ a). inr (omega (arith, il, more, no_more), subst (λ (x : Reason). rank_of reasons.Schedule ≤ rank_of x) (sym ir) (omega arith)))
        (cases_lt a b))
        (cases_lt b a)

-- ---- the corner

corner-at-one : (c : Channel) (k l : ℕ) → IsCornerAt c k → IsCornerAt c l → k ≡ l
corner-at-one c k l one other =
    let up : k ≤ l = rw other.step.1 (one.least other.step.0 (rw (← other.step.1) other.covers)) in
    let down : l ≤ k = rw one.step.1 (other.least one.step.0 (rw (← one.step.1) one.covers)) in
    omega (arith, up, down)

pub corner-one : (cs : List Channel) (ds es : List (Option ℕ)) → IsCorner cs ds → IsCorner cs es → ds ≡ es
corner-one [] [] [] one other = refl
corner-one [] [] (e ∷ es) one other = absurd other
corner-one [] (d ∷ ds) es one other = absurd one
corner-one (c ∷ cs) [] [] one other = refl
corner-one (c ∷ cs) [] (None ∷ es) one other = absurd (true≢false (sym other.0 ∙ one.0))
corner-one (c ∷ cs) [] (Some l ∷ es) one other = absurd (true≢false (sym other.0 ∙ one.0))
corner-one (c ∷ cs) (None ∷ ds) [] one other = absurd (true≢false (sym one.0 ∙ other.0))
corner-one (c ∷ cs) (Some k ∷ ds) [] one other = absurd (true≢false (sym one.0 ∙ other.0))
corner-one (c ∷ cs) (None ∷ ds) (None ∷ es) one other = ap (λ (xs : List (Option ℕ)). None ∷ xs) (corner-one cs ds es one.2 other.2)
corner-one (c ∷ cs) (None ∷ ds) (Some l ∷ es) one other = absurd (other.1 one.1)
corner-one (c ∷ cs) (Some k ∷ ds) (None ∷ es) one other = absurd (one.1 other.1)
corner-one (c ∷ cs) (Some k ∷ ds) (Some l ∷ es) one other = ap₂ (λ (x : ℕ) (xs : List (Option ℕ)). Some x ∷ xs) (corner-at-one c k l one.2 other.2) (corner-one cs ds es one.3 other.3)

pub corner-length : (cs : List Channel) (ds : List (Option ℕ)) → IsCorner cs ds → length ds ≤ length cs
corner-length [] [] is = omega arith
corner-length [] (d ∷ ds) is = absurd is
corner-length (c ∷ cs) [] is = omega arith
corner-length (c ∷ cs) (None ∷ ds) is = let rest = corner-length cs ds is.2 in omega (arith, rest)
corner-length (c ∷ cs) (Some k ∷ ds) is = let rest = corner-length cs ds is.3 in omega (arith, rest)

module _ (net : Net) (c : StorageCertificate) (corner : List (Option ℕ)) (is : IsCorner net.channels corner) where
  pub begins-empty : c.limit < storage_of net.channels corner → (b : Bool) → IsTrue b ↔ (length c.members ≡ 0) → IsTrue b ↔ BeginsAtCorner net c
  begins-empty over b tests = (
    λ yes ds other. inl (subst (λ (es : List (Option ℕ)). c.limit < storage_of net.channels es) (corner-one net.channels corner ds is other) over, tests.0 yes),
    λ begins. tests.1 (⊎_elim (λ (h : (c.limit < storage_of net.channels corner) × (length c.members ≡ 0)). h.1) (λ (h : (storage_of net.channels corner ≤ c.limit) × (1 ≤ length c.members) × (capacities_at c.members 0 ≡ corner)). absurd (omega (arith, over, h.0))) (begins corner is)),
  )

  pub begins-first : storage_of net.channels corner ≤ c.limit → (b : Bool) → IsTrue b ↔ ((1 ≤ length c.members) × (capacities_at c.members 0 ≡ corner)) → IsTrue b ↔ BeginsAtCorner net c
  begins-first fits b tests = (
    λ yes ds other. (let one : corner ≡ ds = corner-one net.channels corner ds is other in let both = tests.0 yes in inr (subst (λ (es : List (Option ℕ)). storage_of net.channels es ≤ c.limit) one fits, both.0, both.1 ∙ one)),
    λ begins. tests.1 (⊎_elim (λ (h : (c.limit < storage_of net.channels corner) × (length c.members ≡ 0)). absurd (omega (arith, fits, h.0))) (λ (h : (storage_of net.channels corner ≤ c.limit) × (1 ≤ length c.members) × (capacities_at c.members 0 ≡ corner)). (h.1, h.2)) (begins corner is)),
  )

pub empty-tests : (ms ns : List MemberLine) (b : Bool) → b ≡ (length ms == 0) → ms ≡ ns → IsTrue b ↔ (length ns ≡ 0)
empty-tests ms ns b is same =
    let e : length ms ≡ length ns = ap (λ (xs : List MemberLine). length xs) same in (
      λ yes. sym e ∙ eqb-true (length ms) 0 (sym is ∙ yes),
      λ none. is ∙ eq-eqb (length ms) 0 (e ∙ none),
    )

pub some-there : (ms ns : List MemberLine) (b : Bool) → b ≡ false → b ≡ (length ms == 0) → ms ≡ ns → 1 ≤ length ns
some-there ms ns b not_there is same = subst (λ (xs : List MemberLine). 1 ≤ length xs) same (at (length ms) (sym is ∙ not_there))
  where
    at : (n : ℕ) → (n == 0) ≡ false → 1 ≤ n
    at zero h = absurd (true≢false h)
    at (suc n) h = omega arith

pub first-tests : (ms : List MemberLine) (m : MemberLine) (corner : List (Option ℕ)) (b : Bool) → 1 ≤ length ms → m ≡ member_at ms 0 → b ≡ pointwise (option_eq nat_eq) m.capacities.capacities corner → IsTrue b ↔ ((1 ≤ length ms) × (capacities_at ms 0 ≡ corner))
first-tests ms m corner b some at is =
    let same : m.capacities.capacities ≡ capacities_at ms 0 = ap (λ (x : MemberLine). x.capacities.capacities) at in (
      λ yes. (some, sym same ∙ (list-decides m.capacities.capacities corner).0 (sym is ∙ yes)),
      λ both. is ∙ (list-decides m.capacities.capacities corner).1 (same ∙ both.1),
    )
