-- What is known of the members is still known with one more.
use Rattle.std.proofs.Common.{◌≡◌, ℕ, ◌+◌, ◌*◌, ◌≤◌, ◌<◌, ◌⊎◌, ◌∙◌, None, Some, mul-le-mul_left, Bool, true, false, Option, List, [], ◌∷◌, ◌++◌, map, inl, inr, ⊎_elim, refl, sym, ap, subst, arith, eq-eqb}
use Rattle.std.specs.Prelude.{◌==◌, ◌↔◌, if◌then◌else◌, nat_le, Contains}
use Rattle.std.proofs.lemmas.List.{append-nil}
use Rattle.sd_base.specs.declared.numbers.Fraction.{Fraction}
use Rattle.sd_base.specs.Net.{Net}
use Rattle.storage.specs.declared.distribution.Distribution.{Distribution}
use Rattle.firing.specs.declared.table.LoopTable.{LoopTable}
use Rattle.lasso.specs.LoopAnswers.{IsFound}
use Rattle.critical.specs.declared.cycle.NeedCycle.{NeedCycle}
use Rattle.storage.specs.BoundedNets.{bound}
use Rattle.storage.specs.Distributions.{storage_of}
use Rattle.storage.specs.ClosedLists.{Entry}
use Rattle.pareto_front.specs.declared.point.Point.{Point}
use Rattle.pareto_front.specs.Offers.{Covers, IsCoveredBy, Offer, is_slower}
use Rattle.pareto_front.specs.Points.{IsFrontOf, IsOffered, left_points, offer_of, put_point}
use Rattle.guide.specs.declared.rating.Evaluation.{Evaluation}
use Rattle.guide.specs.declared.rating.Outcome.{Outcome}
use Rattle.guide.specs.declared.rating.Outcome.TheVariants as outcomes
use Rattle.guide.specs.Evaluations.{IsEvaluated, IsOutcome}
use Rattle.evaluations.specs.declared.rated.Rated.{Rated}
use Rattle.evaluations.specs.declared.shown.Shown.{Shown}
use Rattle.evaluations.specs.Rated.{IsRated, KeepsTable, shown_by}
use Rattle.evaluations.specs.ShownCycles.{shows_cycle}
use Rattle.explore.specs.declared.exploration.Member.{Member}
use Rattle.storage.proofs.FrontsFromMembers.{no_less}
use Rattle.std.proofs.lemmas.Bool.{cases_lt}
use Rattle.std.proofs.lemmas.List.Elements.{Contains-append_left, Contains-push_cases}
use Rattle.explore.proofs.PointsFormFront.{offer-there, covering-one}
use Rattle.explore.specs.Explorations.{ShowsChannel, ShowsRate, cycles_in}
use Rattle.explore.specs.inside.Searches.{AreKnown, AreNoted, HasTable, IsNoted, entry_of, offer_for, offers_at, offers_of}
use Rattle.explore.specs.inside.Members.{IsBest, evaluated_member, member_of}
use Rattle.critical.specs.Spaces.{IsSpaceAt}
use Rattle.critical.proofs.ListedSpacesRise.{number-place}
use Rattle.sd_base.proofs.ContainedHavePlaces.{contains-here, contains-later, contains-none, contains-cases}
use Rattle.guide.proofs.EnlargedAreInGuide.{evaluation-shows}

-- what an outcome shows is what its member shows
outcome-shown : (net : Net) (ds : List (Option ℕ)) (states : ℕ) (rate : Fraction) (shown : List ℕ) (outcome : Outcome) → IsOutcome net ds states rate shown outcome → (c : ℕ) → Contains shown c ↔ ShowsChannel net ds (shown_by outcome) c
outcome-shown net ds states rate shown (outcomes.Live table cycle) is c = (
  λ has. let number = number-place shown c has in let at = is.channels.there number.0 number.1 in (at.0, at.1, subst (IsSpaceAt (bound net ds) cycle.steps at.0) number.2 at.2),
  λ shows. is.channels.all shows.0 c shows.1 shows.2,
)
outcome-shown net ds states rate shown (outcomes.Blocked counts lacks) is c = is.channels c

pub evaluation-shown : (net : Net) (d : Distribution) (states : ℕ) (e : Evaluation) → IsEvaluated net d.capacities states e → (c : ℕ) → Contains e.enlarge c ↔ ShowsChannel net d.capacities (evaluated_member d e).shown c
evaluation-shown net d states e is c = outcome-shown net d.capacities states e.rate e.enlarge e.outcome is.outcome c

-- a member with the channels of its evaluation

outcome-rate : (net : Net) (ds : List (Option ℕ)) (states : ℕ) (e : Evaluation) (outcome : Outcome) → IsOutcome net ds states e.rate e.enlarge outcome → ShowsRate net ds states e.rate (shown_by outcome)
outcome-rate net ds states e (outcomes.Live table cycle) is = (table, is.found, is.critical, is.same)
outcome-rate net ds states e (outcomes.Blocked counts lacks) is = (lacks, is.blocked, is.zero)

pub member-noted : (net : Net) (d : Distribution) (states : ℕ) (e : Evaluation) → IsEvaluated net d.capacities states e → IsNoted net states (evaluated_member d e) (entry_of (evaluated_member d e) e.enlarge)
member-noted net d states e is = record {
  is = refl;
  shows = evaluation-shown net d states e is;
  guided = λ c has. evaluation-shows net d.capacities states e c is has;
  member = record { rate = is.rate; shown = outcome-rate net d.capacities states e e.outcome is.outcome };
  bounds = is.bounds;
}

pub noted-more : (net : Net) (states : ℕ) (ms : List Member) (es : List Entry) (m : Member) (e : Entry) → AreNoted net states ms es → IsNoted net states m e → AreNoted net states (ms ++ m ∷ []) (es ++ e ∷ [])
noted-more net states [] [] m e are is = (is, tt)
noted-more net states [] (f ∷ es) m e are is = absurd are
noted-more net states (n ∷ ms) [] m e are is = absurd are
noted-more net states (n ∷ ms) (f ∷ es) m e are is = (are.0, noted-more net states ms es m e are.1 is)

offers-more : (net : Net) (ms new : List Member) → offers_of net (ms ++ new) ≡ offers_of net ms ++ offers_of net new
offers-more net [] new = refl
offers-more net (m ∷ ms) new = at (m.rate.num == 0) (offers-more net ms new)
  where
    at : (b : Bool) → offers_of net (ms ++ new) ≡ offers_of net ms ++ offers_of net new → (if b then offers_of net (ms ++ new) else offer_for net m ∷ offers_of net (ms ++ new)) ≡ (if b then offers_of net ms else offer_for net m ∷ offers_of net ms) ++ offers_of net new
    at true rest = rest
    at false rest = ap (λ (os : List Offer). offer_for net m ∷ os) rest

-- one more member is known
pub known-more : (net : Net) (states : ℕ) (ms : List Member) (es : List Entry) (old new : List Point) (m : Member) (e : Entry) → AreKnown net states ms es old → IsNoted net states m e → ((os : List Offer) → IsFrontOf os (map offer_of old) → IsFrontOf (os ++ offers_of net (m ∷ [])) (map offer_of new)) → (((p : Point) → Contains old p → HasTable net states p) → (p : Point) → Contains new p → HasTable net states p) → AreKnown net states (ms ++ m ∷ []) (es ++ e ∷ []) new
known-more net states ms es old new m e known is front tables = record {
  noted = noted-more net states ms es m e known.noted is;
  front = subst (λ (os : List Offer). IsFrontOf os (map offer_of new)) (sym (offers-more net ms (m ∷ []))) (front (offers_of net ms) known.front);
  tables = tables known.tables;
}

-- the offers of one member

pub no-offer : (net : Net) (m : Member) → (m.rate.num == 0) ≡ true → offers_of net (m ∷ []) ≡ []
no-offer net m zero = rw zero refl

pub one-offer : (net : Net) (m : Member) → (m.rate.num == 0) ≡ false → offers_of net (m ∷ []) ≡ offer_for net m ∷ []
one-offer net m some = rw some refl

-- the points after an offer

left-one : (n : Point) (ps : List Point) (p : Point) → Contains (left_points n ps) p → Contains ps p
left-one n [] p is = is
left-one n (q ∷ ps) p is = at (is_slower (offer_of q) (offer_of n)) (left-one n ps p) is
  where
    at : (b : Bool) → (Contains (left_points n ps) p → Contains ps p) → Contains (if b then left_points n ps else q ∷ ps) p → Contains (q ∷ ps) p
    at true rest is = contains-later q ps p (rest is)
    at false rest is = is

put-one : (n : Point) (ps : List Point) (p : Point) → Contains (put_point n ps) p → (n ≡ p) ⊎ Contains ps p
put-one n [] p is = contains-cases n [] p is
put-one n (q ∷ ps) p is = at (nat_le n.total q.total) (put-one n ps p) is
  where
    further : (n ≡ p) ⊎ Contains ps p → (n ≡ p) ⊎ Contains (q ∷ ps) p
    further (inl same) = inl same
    further (inr later) = inr (contains-later q ps p later)

    at : (b : Bool) → (Contains (put_point n ps) p → (n ≡ p) ⊎ Contains ps p) → Contains (if b then n ∷ left_points n (q ∷ ps) else q ∷ put_point n ps) p → (n ≡ p) ⊎ Contains (q ∷ ps) p
    at true rest is = ⊎_elim (λ (h : n ≡ p). inl h) (λ (h : Contains (left_points n (q ∷ ps)) p). inr (left-one n (q ∷ ps) p h)) (contains-cases n (left_points n (q ∷ ps)) p is)
    at false rest is = ⊎_elim (λ (same : q ≡ p). inr (subst (Contains (q ∷ ps)) same (contains-here q ps))) (λ (later : Contains (put_point n ps) p). further (rest later)) (contains-cases q (put_point n ps) p is)

pub offered-one : (n : Point) (old new : List Point) (p : Point) → IsOffered n old new → Contains new p → (n ≡ p) ⊎ Contains old p
offered-one n old new p (inl (covered, same)) is = inr (subst (λ (ps : List Point). Contains ps p) same is)
offered-one n old new p (inr (not, same)) is = put-one n old p (subst (λ (ps : List Point). Contains ps p) same is)

-- a member whose net is live, and one whose net is blocked

pub live-known : (net : Net) (d : Distribution) (e : Evaluation) (total : ℕ) (table : LoopTable) (cycle : NeedCycle) (old new : List Point) → e.outcome ≡ outcomes.Live table cycle → storage_of net.channels d.capacities ≡ total → ((os : List Offer) → IsFrontOf os (map offer_of old) → IsFrontOf (os ++ offers_at total e.rate d.capacities) (map offer_of new)) → ((p : Point) → Contains new p → ((p.capacities ≡ d) × (p.table ≡ table)) ⊎ Contains old p) → (states : ℕ) (ms : List Member) (es : List Entry) → IsEvaluated net d.capacities states e → AreKnown net states ms es old → AreKnown net states (ms ++ evaluated_member d e ∷ []) (es ++ entry_of (evaluated_member d e) e.enlarge ∷ []) new
live-known net d e total table cycle old new live storage front points states ms es is known =
    known-more net states ms es old new (evaluated_member d e) (entry_of (evaluated_member d e) e.enlarge) known (member-noted net d states e is) fronts tables
  where
    fronts : (os : List Offer) → IsFrontOf os (map offer_of old) → IsFrontOf (os ++ offers_of net (evaluated_member d e ∷ [])) (map offer_of new)
    fronts os was = subst (λ (n : ℕ). IsFrontOf (os ++ offers_at n e.rate d.capacities) (map offer_of new)) (sym storage) (front os was)

    found : IsFound (bound net d.capacities) states table
    found = (subst (IsOutcome net d.capacities states e.rate e.enlarge) live is.outcome).found

    tables : ((p : Point) → Contains old p → HasTable net states p) → (p : Point) → Contains new p → HasTable net states p
    tables was p one = ⊎_elim (λ (h : (p.capacities ≡ d) × (p.table ≡ table)). subst (λ (x : Distribution). IsFound (bound net x.capacities) states p.table) (sym h.0) (subst (λ (t : LoopTable). IsFound (bound net d.capacities) states t) (sym h.1) found)) (λ (h : Contains old p). was p h) (points p one)

pub blocked-known : (net : Net) (d : Distribution) (e : Evaluation) (counts : List ℕ) (lacks : List (Option ℕ)) (points : List Point) → e.outcome ≡ outcomes.Blocked counts lacks → (states : ℕ) (ms : List Member) (es : List Entry) → IsEvaluated net d.capacities states e → AreKnown net states ms es points → AreKnown net states (ms ++ evaluated_member d e ∷ []) (es ++ entry_of (evaluated_member d e) e.enlarge ∷ []) points
blocked-known net d e counts lacks points blocked states ms es is known =
    known-more net states ms es points points (evaluated_member d e) (entry_of (evaluated_member d e) e.enlarge) known (member-noted net d states e is) fronts (λ was p one. was p one)
  where
    zero : e.rate.num ≡ 0
    zero = (subst (IsOutcome net d.capacities states e.rate e.enlarge) blocked is.outcome).zero

    none : (e.rate.num == 0) ≡ true
    none = eq-eqb e.rate.num 0 zero

    fronts : (os : List Offer) → IsFrontOf os (map offer_of points) → IsFrontOf (os ++ offers_of net (evaluated_member d e ∷ [])) (map offer_of points)
    fronts os was = subst (λ (xs : List Offer). IsFrontOf (os ++ xs) (map offer_of points)) (sym (no-offer net (evaluated_member d e) none)) (subst (λ (xs : List Offer). IsFrontOf xs (map offer_of points)) (sym (append-nil os)) was)

pub cycles-more : (ms : List Member) (m : Member) → cycles_in (ms ++ m ∷ []) ≡ cycles_in ms + shows_cycle m.shown
cycles-more [] m = omega arith
cycles-more (n ∷ ms) m = let later = cycles-more ms m in omega (arith, later)

pub offers-some : (total : ℕ) (rate : Fraction) (ds : List (Option ℕ)) → (rate.num == 0) ≡ false → offers_at total rate ds ≡ record { storage = total; rate = rate; capacities = ds } ∷ []
offers-some total rate ds some = rw some refl

pub front-as : (os xs ys : List Offer) (ps : List Point) → xs ≡ ys → IsFrontOf (os ++ xs) (map offer_of ps) → IsFrontOf (os ++ ys) (map offer_of ps)
front-as os xs ys ps same front = subst (λ (zs : List Offer). IsFrontOf (os ++ zs) (map offer_of ps)) same front

abbrev record_of : Distribution → Fraction → Shown → Member
record_of d rate shown = record { capacities = d; rate = rate; shown = shown }

-- a member whose loop wasn't kept is covered: one of less storage has no less rate

covered-by : (ps : List Offer) (p o : Offer) → Contains ps p → Covers p o → IsCoveredBy ps o
covered-by [] p o is covers = absurd (contains-none p is)
covered-by (q ∷ ps) p o is covers =
    ⊎_elim
    (λ (same : q ≡ p). inl (subst (λ (x : Offer). Covers x o) (sym same) covers))
    (λ (later : Contains ps p). inr (covered-by ps p o later covers))
    (contains-cases q ps p is)

module _ (net : Net) (d : Distribution) (e : Evaluation) (total : ℕ) (best : Fraction) (points : List Point) (storage : storage_of net.channels d.capacities ≡ total) (slow : e.rate.num * best.den ≤ best.num * e.rate.den) (ms : List Member) where
  without : e.rate.num ≡ 0 → IsFrontOf (offers_of net ms) (map offer_of points) → IsFrontOf (offers_of net ms ++ offers_of net (evaluated_member d e ∷ [])) (map offer_of points)
  without zero was = subst (λ (xs : List Offer). IsFrontOf (offers_of net ms ++ xs) (map offer_of points)) (sym (no-offer net (evaluated_member d e) (eq-eqb e.rate.num 0 zero))) (subst (λ (xs : List Offer). IsFrontOf xs (map offer_of points)) (sym (append-nil (offers_of net ms))) was)

  covered : (b : Offer) → b.storage < total → e.rate.num * b.rate.den ≤ b.rate.num * e.rate.den → IsCoveredBy (map offer_of points) b → IsCoveredBy (map offer_of points) (offer_for net (evaluated_member d e))
  covered b less rate by =
      let p = covering-one (map offer_of points) b by in
      covered-by (map offer_of points) p.0 (offer_for net (evaluated_member d e)) p.1 (record {
        storage = omega (arith, storage, less, p.2.storage);
        rate = no_less e.rate.num e.rate.den b.rate.num b.rate.den p.0.rate.num p.0.rate.den b.rate.positive rate p.2.rate;
        tie = λ same cross. absurd (omega (arith, storage, less, p.2.storage, same));
      })

  behind : (m : Member) → Contains ms m → m.rate ≡ best → storage_of net.channels m.capacities.capacities < total → 1 ≤ best.num → IsFrontOf (offers_of net ms) (map offer_of points) → IsFrontOf (offers_of net ms ++ offers_of net (evaluated_member d e ∷ [])) (map offer_of points)
  behind m one same less some was = at (e.rate.num == 0) refl
    where
      runs : 1 ≤ m.rate.num
      runs = subst (λ (f : Fraction). 1 ≤ f.num) (sym same) some

      slower : e.rate.num * m.rate.den ≤ m.rate.num * e.rate.den
      slower = subst (λ (f : Fraction). e.rate.num * f.den ≤ f.num * e.rate.den) (sym same) slow

      by : IsCoveredBy (map offer_of points) (offer_for net (evaluated_member d e))
      by = covered (offer_for net m) less slower (was.covers (offer_for net m) (offer-there net ms m one runs))

      more : IsFrontOf (offers_of net ms ++ offer_for net (evaluated_member d e) ∷ []) (map offer_of points)
      more = record {
        order = was.order;
        covers = λ x is. ⊎_elim (λ (h : Contains (offers_of net ms) x). was.covers x h) (λ (h : offer_for net (evaluated_member d e) ≡ x). subst (IsCoveredBy (map offer_of points)) h by) (Contains-push_cases (offers_of net ms) (offer_for net (evaluated_member d e)) x is);
        among = λ p is. Contains-append_left (offers_of net ms) (offer_for net (evaluated_member d e) ∷ []) p (was.among p is);
      }

      at : (b : Bool) → (e.rate.num == 0) ≡ b → IsFrontOf (offers_of net ms ++ offers_of net (evaluated_member d e ∷ [])) (map offer_of points)
      at true zero = subst (λ (xs : List Offer). IsFrontOf (offers_of net ms ++ xs) (map offer_of points)) (sym (no-offer net (evaluated_member d e) zero)) (subst (λ (xs : List Offer). IsFrontOf xs (map offer_of points)) (sym (append-nil (offers_of net ms))) was)
      at false nonzero = subst (λ (xs : List Offer). IsFrontOf (offers_of net ms ++ xs) (map offer_of points)) (sym (one-offer net (evaluated_member d e) nonzero)) more

  fronts : IsBest net best total ms → IsFrontOf (offers_of net ms) (map offer_of points) → IsFrontOf (offers_of net ms ++ offers_of net (evaluated_member d e ∷ [])) (map offer_of points)
  fronts fastest was = ⊎_elim
      (λ (none : best.num < 1).
      let nothing : best.num * e.rate.den ≡ 0 * e.rate.den = ap (λ (n : ℕ). n * e.rate.den) (omega arith) in
      let least : e.rate.num * 1 ≤ e.rate.num * best.den = mul-le-mul_left e.rate.num best.positive in
      without (omega (arith, slow, nothing, least)) was)
      (λ (some : 1 ≤ best.num). ⊎_elim
      (λ (none : best.num ≡ 0). absurd (omega (arith, none, some)))
      (λ (b : (m : Member) × Contains ms m × (m.rate ≡ best) × (storage_of net.channels m.capacities.capacities < total)). behind b.0 b.1 b.2 b.3 some was)
      fastest)
      (cases_lt best.num 1)

  pub behind-known : (states : ℕ) (es : List Entry) → IsEvaluated net d.capacities states e → IsBest net best total ms → AreKnown net states ms es points → AreKnown net states (ms ++ evaluated_member d e ∷ []) (es ++ entry_of (evaluated_member d e) e.enlarge ∷ []) points
  behind-known states es is fastest known = record {
    noted = noted-more net states ms es (evaluated_member d e) (entry_of (evaluated_member d e) e.enlarge) known.noted (member-noted net d states e is);
    front = subst (λ (os : List Offer). IsFrontOf os (map offer_of points)) (sym (offers-more net ms (evaluated_member d e ∷ []))) (fronts fastest known.front);
    tables = known.tables;
  }

-- what is kept of an evaluation makes its member

pub same-member : (d : Distribution) (best : Fraction) (e : Evaluation) (r : Rated) → IsRated best e r → evaluated_member d e ≡ member_of d r
same-member d best e r is =
    ap (λ (x : Fraction). record_of d x (shown_by e.outcome)) (sym is.rate) ∙ ap (λ (x : Shown). record_of d r.rate x) (sym is.shown)

-- a loop that is kept is that of the outcome
kept-live : (best rate : Fraction) (outcome : Outcome) (table : LoopTable) → KeepsTable best rate outcome (Some table) → (cycle : NeedCycle) × (outcome ≡ outcomes.Live table cycle)
kept-live best rate (outcomes.Live own cycle) table keeps = (cycle, ap (λ (t : LoopTable). outcomes.Live t cycle) (sym keeps))
kept-live best rate (outcomes.Blocked counts lacks) table keeps = absurd (cc)

pub kept-known : (net : Net) (d : Distribution) (best : Fraction) (e : Evaluation) (r : Rated) (total : ℕ) (table : LoopTable) (old new : List Point) → IsRated best e r → r.table ≡ Some table → storage_of net.channels d.capacities ≡ total → ((os : List Offer) → IsFrontOf os (map offer_of old) → IsFrontOf (os ++ offers_at total r.rate d.capacities) (map offer_of new)) → ((p : Point) → Contains new p → ((p.capacities ≡ d) × (p.table ≡ table)) ⊎ Contains old p) → (states : ℕ) (ms : List Member) (es : List Entry) → IsEvaluated net d.capacities states e → AreKnown net states ms es old → AreKnown net states (ms ++ evaluated_member d e ∷ []) (es ++ entry_of (evaluated_member d e) e.enlarge ∷ []) new
kept-known net d best e r total table old new is kept storage front points states ms es evaluated known =
    let live = kept-live best e.rate e.outcome table (subst (KeepsTable best e.rate e.outcome) kept is.table) in
    live-known net d e total table live.0 old new live.1 storage fronts-of points states ms es evaluated known
  where
    fronts-of : (os : List Offer) → IsFrontOf os (map offer_of old) → IsFrontOf (os ++ offers_at total e.rate d.capacities) (map offer_of new)
    fronts-of os was = subst (λ (x : Fraction). IsFrontOf (os ++ offers_at total x d.capacities) (map offer_of new)) is.rate (front os was)

pub left-known : (net : Net) (d : Distribution) (best : Fraction) (e : Evaluation) (r : Rated) (total : ℕ) (points : List Point) → IsRated best e r → r.table ≡ None → storage_of net.channels d.capacities ≡ total → (states : ℕ) (ms : List Member) (es : List Entry) → IsEvaluated net d.capacities states e → IsBest net best total ms → AreKnown net states ms es points → AreKnown net states (ms ++ evaluated_member d e ∷ []) (es ++ entry_of (evaluated_member d e) e.enlarge ∷ []) points
left-known net d best e r total points is left storage states ms es evaluated fastest known = at e.outcome refl (subst (KeepsTable best e.rate e.outcome) left is.table)
  where
    at : (outcome : Outcome) → e.outcome ≡ outcome → KeepsTable best e.rate outcome None → AreKnown net states (ms ++ evaluated_member d e ∷ []) (es ++ entry_of (evaluated_member d e) e.enlarge ∷ []) points
    at (outcomes.Live own cycle) live slow = behind-known net d e total best points storage slow ms states es evaluated fastest known
    at (outcomes.Blocked counts lacks) blocked keeps = blocked-known net d e counts lacks points blocked states ms es evaluated known

-- the best rate stays that of a member

pub best-more : (net : Net) (best : Fraction) (total : ℕ) (ms : List Member) (m : Member) → IsBest net best total ms → IsBest net best total (ms ++ m ∷ [])
best-more net best total ms m (inl none) = inl none
best-more net best total ms m (inr (x, one, same, less)) = inr (x, Contains-append_left ms (m ∷ []) x one, same, less)
