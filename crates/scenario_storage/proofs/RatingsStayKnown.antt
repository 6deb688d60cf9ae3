-- What is known of distributions that were rated stays known with one more.
use Rattle.std.proofs.Common.{◌≡◌, ℕ, ◌*◌, ◌≤◌, ◌<◌, true, Option, None, Some, List, [], ◌∷◌, ◌++◌, drop, length, inl, inr, ⊎_elim, sym, ap, ◌∙◌, subst, arith, mul-le-mul_left, mul-le-mul_right}
use Rattle.std.specs.Prelude.{All, Contains, MatchOption, slice_index_or}
use Rattle.std.proofs.lemmas.Bool.{cases_lt, true≢false}
use Rattle.std.proofs.lemmas.List.Elements.{All-drop, All-push, Contains-append_left, Contains-get_or, Contains-push, Contains-push_cases}
use Rattle.sd_base.specs.declared.numbers.Fraction.{Fraction}
use Rattle.sd_base.specs.declared.tables.ScenarioFile.{ScenarioFile}
use Rattle.sd_base.specs.declared.tables.SharedRow.{SharedRow}
use Rattle.automaton.specs.CriticalCycles.{weights}
use Rattle.automaton.specs.declared.graph.TimedGraph.{TimedGraph}
use Rattle.scenario_rate.specs.declared.answer.Worst.{Worst}
use Rattle.storage.specs.declared.distribution.Distribution.{Distribution}
use Rattle.storage.specs.CapacityOrder.{no_later}
use Rattle.storage.specs.ClosedLists.{Entry}
use Rattle.storage.specs.Distributions.{storage_of}
use Rattle.storage.specs.StorageOrder.{IsBefore}
use Rattle.storage.proofs.CapacityOrder.{no_later-refl, no_later-total}
use Rattle.storage.proofs.FrontsFromMembers.{below_less}
use Rattle.bounded_scenarios.specs.SharedChannels.{shared_channels}
use Rattle.scenario_storage.specs.declared.blocked.Blocked.{Blocked}
use Rattle.scenario_storage.specs.declared.point.ScenarioPoint.{ScenarioPoint}
use Rattle.scenario_storage.specs.declared.rated.Witness.{Witness}
use Rattle.scenario_storage.specs.declared.rated.Rated.{Rated}
use Rattle.scenario_storage.specs.ScenarioPoints.{IsShownBy}
use Rattle.scenario_storage.specs.inside.Blocked.{IsKept}
use Rattle.scenario_storage.specs.inside.Levels.{IsBlocked, Shows}
use Rattle.scenario_storage.specs.inside.Points.{HasNoSlower, IsPut, IsTaken}
use Rattle.scenario_storage.specs.inside.Searches.{AreKnown, IsBest, IsCoveredBy, IsNoted, IsOffered, IsPointFor, IsPointOf, IsPointWith, KeepsEarlier, entry_of}
use Rattle.scenario_storage.proofs.PointOrder.{put-rising}

-- what stands before in order and needs as much is no later
pub before-no_later : (file : ScenarioFile) (ds es : List (Option ℕ)) → IsBefore (shared_channels file) ds es →
    storage_of (shared_channels file) ds ≡ storage_of (shared_channels file) es → no_later ds es ≡ true
before-no_later file ds es (inl less) same = absurd (omega (arith, less, same))
before-no_later file ds es (inr (equal, not)) same =
    ⊎_elim
    (λ (h : no_later ds es ≡ true). h)
    (λ (h : no_later es ds ≡ true). absurd (true≢false (sym h ∙ not)))
    (no_later-total ds es)

pub before-le : (file : ScenarioFile) (ds es : List (Option ℕ)) → IsBefore (shared_channels file) ds es → storage_of (shared_channels file) ds ≤ storage_of (shared_channels file) es
before-le file ds es (inl less) = omega (arith, less)
before-le file ds es (inr (equal, not)) = omega (arith, equal)

-- the entry that a rating makes is noted
pub offered-noted : (file : ScenarioFile) (limit : ℕ) (es : List Entry) (best : Fraction) (total : ℕ) (ds : List (Option ℕ)) (r : Rated) (ps : List ScenarioPoint) →
    IsOffered file limit es best total ds r ps → IsNoted file limit (entry_of ds r)
offered-noted file limit es best total ds r ps is = record {
  candidate = is.candidate;
  rate = is.rated.rate;
  positive = r.rate.positive;
  guided = is.rated.guided;
  bounds = is.rated.bounds;
}

module _ (file : ScenarioFile) (limit : ℕ) (es : List Entry) (best : Fraction) (total : ℕ) (ds : List (Option ℕ)) (r : Rated) (ps : List ScenarioPoint)
    (is : IsOffered file limit es best total ds r ps) where
  -- points so far need no more storage
  pub offered-late : (p : ScenarioPoint) → Contains ps p → p.total ≤ total
  offered-late p one =
      let of = is.known.among p one in
      let before : storage_of (shared_channels file) of.0.capacities ≤ storage_of (shared_channels file) ds = before-le file of.0.capacities ds (is.after of.0 of.1) in
      omega (arith, before, is.storage, of.2.total)

  pub noted-more : (x : Entry) → Contains (es ++ entry_of ds r ∷ []) x → IsNoted file limit x
  noted-more x one =
      ⊎_elim
      (λ (h : Contains es x). is.known.noted x h)
      (λ (h : entry_of ds r ≡ x). subst (IsNoted file limit) h (offered-noted file limit es best total ds r ps is))
      (Contains-push_cases es (entry_of ds r) x one)

  among-old : (p : ScenarioPoint) → Contains ps p → IsPointOf file (es ++ entry_of ds r ∷ []) p
  among-old p one = let of = is.known.among p one in (of.0, Contains-append_left es (entry_of ds r ∷ []) of.0 of.1, of.2)

  covers-more : (new : List ScenarioPoint) → ((x : Entry) → Contains es x → 1 ≤ x.num → IsCoveredBy file new x) →
      (1 ≤ r.rate.num → IsCoveredBy file new (entry_of ds r)) → (x : Entry) → Contains (es ++ entry_of ds r ∷ []) x → 1 ≤ x.num → IsCoveredBy file new x
  covers-more new old mine x one runs =
      ⊎_elim
      (λ (h : Contains es x). old x h runs)
      (λ (h : entry_of ds r ≡ x). subst (IsCoveredBy file new) h (mine (subst (λ (y : Entry). 1 ≤ y.num) (sym h) runs)))
      (Contains-push_cases es (entry_of ds r) x one)

  -- the points stay, and one of them covers the entry
  same-known : (new : List ScenarioPoint) → new ≡ ps → (1 ≤ r.rate.num → IsCoveredBy file ps (entry_of ds r)) → AreKnown file limit (es ++ entry_of ds r ∷ []) new
  same-known new same mine = subst (AreKnown file limit (es ++ entry_of ds r ∷ [])) (sym same) (record {
    noted = noted-more;
    rising = is.known.rising;
    among = among-old;
    covers = covers-more ps is.known.covers mine;
  })

  -- a point with no less rate covers the entry
  covered-by : HasNoSlower r.rate ps → IsCoveredBy file ps (entry_of ds r)
  covered-by (p, one, rate) =
      let of = is.known.among p one in
      let late : p.total ≤ total = offered-late p one in (
        p,
        one,
        record {
          storage = omega (arith, late, is.storage);
          rate = rate;
          tie = λ equal cross.
              subst (λ (xs : List (Option ℕ)). no_later xs ds ≡ true) of.2.capacities
              (before-no_later file of.0.capacities ds (is.after of.0 of.1) (omega (arith, equal, of.2.total)));
        },
      )

  -- the best rate of less storage is no less
  pub left-known : (new : List ScenarioPoint) → new ≡ ps → r.rate.num * best.den ≤ best.num * r.rate.den → AreKnown file limit (es ++ entry_of ds r ∷ []) new
  left-known new same slow = same-known new same (λ runs. by runs is.fastest)
    where
      by : 1 ≤ r.rate.num → IsBest best total ps → IsCoveredBy file ps (entry_of ds r)
      by runs (inl none) = absurd (
          let nothing : best.num * r.rate.den ≡ 0 * r.rate.den = ap (λ (n : ℕ). n * r.rate.den) none in
          let least : 1 * best.den ≤ r.rate.num * best.den = mul-le-mul_right best.den runs in
          omega (arith, slow, nothing, least, best.positive))
      by runs (inr (p, one, rate, less)) = (
        p,
        one,
        record {
          storage = omega (arith, less, is.storage);
          rate = subst (λ (f : Fraction). r.rate.num * f.den ≤ f.num * r.rate.den) (sym rate) slow;
          tie = λ equal cross. absurd (omega (arith, less, is.storage, equal));
        },
      )

  module _ (point : ScenarioPoint) (new : List ScenarioPoint) (for : IsPointFor file (entry_of ds r) point) where
    put-covers : IsPut point ps new → (x : Entry) → Contains es x → 1 ≤ x.num → IsCoveredBy file new x
    put-covers put x one runs =
        let c = is.known.covers x one runs in
        ⊎_elim
        (λ (h : Contains put.front c.0). (c.0, subst (λ (xs : List ScenarioPoint). Contains xs c.0) (sym put.is) (Contains-append_left put.front (point ∷ []) c.0 h), c.2))
        (λ (h : c.0.total ≡ point.total).
        let low : c.0.total ≤ storage_of (shared_channels file) x.capacities = c.2.storage in
        let rate : x.num * c.0.rate.den ≤ c.0.rate.num * x.den = c.2.rate in
        let positive : 1 ≤ x.den = (is.known.noted x one).positive in
        let slow : c.0.rate.num * point.rate.den < point.rate.num * c.0.rate.den = put.slower c.0 c.1 in
        let slower : x.num * point.rate.den < point.rate.num * x.den = below_less x.num x.den c.0.rate.num c.0.rate.den point.rate.num point.rate.den positive rate slow in (
          point,
          subst (λ (xs : List ScenarioPoint). Contains xs point) (sym put.is) (Contains-push put.front point),
          record {
            storage = omega (arith, h, low);
            rate = omega (arith, slower);
            tie = λ equal cross. absurd (omega (arith, slower, cross));
          },
        ))
        (put.left.left c.0 c.1)

    put-mine : IsPut point ps new → IsCoveredBy file new (entry_of ds r)
    put-mine put = (
      point,
      subst (λ (xs : List ScenarioPoint). Contains xs point) (sym put.is) (Contains-push put.front point),
      record {
        storage = omega (arith, for.total);
        rate =
            subst (λ (n : ℕ). n * point.rate.den ≤ point.rate.num * r.rate.den) (sym for.num)
            (subst (λ (n : ℕ). point.rate.num * point.rate.den ≤ point.rate.num * n) (sym for.den) (omega arith));
        tie = λ equal cross. subst (λ (xs : List (Option ℕ)). no_later xs ds ≡ true) for.capacities (no_later-refl ds);
      },
    )

    put-among : IsPut point ps new → (p : ScenarioPoint) → Contains new p → IsPointOf file (es ++ entry_of ds r ∷ []) p
    put-among put p one =
        ⊎_elim
        (λ (h : Contains put.front p). among-old p (put.left.among p h))
        (λ (h : point ≡ p). subst (IsPointOf file (es ++ entry_of ds r ∷ [])) h (entry_of ds r, Contains-push es (entry_of ds r), for))
        (Contains-push_cases put.front point p (subst (λ (xs : List ScenarioPoint). Contains xs p) put.is one))

    pub taken-known : IsTaken point ps new → AreKnown file limit (es ++ entry_of ds r ∷ []) new
    taken-known (inl put) = record {
      noted = noted-more;
      rising = put-rising point ps new put;
      among = put-among put;
      covers = covers-more new (put-covers put) (λ runs. put-mine put);
    }
    taken-known (inr (same, slow)) = same-known new same (λ runs. covered-by (moved slow))
      where
        moved : HasNoSlower point.rate ps → HasNoSlower r.rate ps
        moved (p, one, rate) = (
          p,
          one,
          subst (λ (n : ℕ). n * p.rate.den ≤ p.rate.num * r.rate.den) (sym for.num) (subst (λ (n : ℕ). point.rate.num * p.rate.den ≤ p.rate.num * n) (sym for.den) rate),
        )

-- blocked distributions stay so with one more that was evaluated, with the first one of them or without
pub blocked-more : (file : ScenarioFile) (limit : ℕ) (es : List Entry) (best : Fraction) (total : ℕ) (d : Distribution) (r : Rated) (ps : List ScenarioPoint) →
    IsOffered file limit es best total d.capacities r ps → r.blocks ≡ true → (old new : List Blocked) →
    IsKept (record { capacities = d; enlarge = r.enlarge }) old new → All (IsBlocked file limit) old → All (IsBlocked file limit) new
blocked-more file limit es best total d r ps is says old new kept all =
    let one : Blocked = record { capacities = d; enlarge = r.enlarge } in
    let here : IsBlocked file limit (record { capacities = d; enlarge = r.enlarge }) = record {
      fits = record { distribution = is.candidate.distribution; grid = is.candidate.grid; within = is.candidate.within };
      shown = is.rated.blocks says;
    } in
    ⊎_elim
    (λ (more : new ≡ old ++ one ∷ []). subst (All (IsBlocked file limit)) (sym more) (All-push (IsBlocked file limit) old one all here))
    (λ (more : new ≡ drop 1 old ++ one ∷ []). subst (All (IsBlocked file limit)) (sym more) (All-push (IsBlocked file limit) (drop 1 old) one (All-drop (IsBlocked file limit) 1 old all) here))
    kept

-- points of less storage stay
pub taken-keeps : (point : ScenarioPoint) (old new : List ScenarioPoint) → IsTaken point old new → KeepsEarlier point.total old new
taken-keeps point old new (inl put) p one less =
    ⊎_elim
    (λ (h : Contains put.front p). subst (λ (xs : List ScenarioPoint). Contains xs p) (sym put.is) (Contains-append_left put.front (point ∷ []) p h))
    (λ (h : p.total ≡ point.total). absurd (omega (arith, less, h)))
    (put.left.left p one)
taken-keeps point old new (inr (same, slow)) p one less = subst (λ (xs : List ScenarioPoint). Contains xs p) (sym same) one

pub best-kept : (best : Fraction) (total : ℕ) (old new : List ScenarioPoint) → KeepsEarlier total old new → IsBest best total old → IsBest best total new
best-kept best total old new keeps (inl none) = inl none
best-kept best total old new keeps (inr (p, one, rate, less)) = inr (p, keeps p one less, rate, less)

pub keeps-on : (total : ℕ) (old mid new : List ScenarioPoint) → KeepsEarlier total old mid → KeepsEarlier total mid new → KeepsEarlier total old new
keeps-on total old mid new first second p one less = second p (first p one less) less

-- a rate that a critical cycle shows is above 0
shown-runs : (file : ScenarioFile) (ds : List (Option ℕ)) (rate : Fraction) (e : Witness) → Shows file ds rate e → 1 ≤ rate.num
shown-runs file ds rate e shows =
    ⊎_elim
    (λ (none : rate.num < 1). absurd (
    let zero_here : rate.num ≡ 0 = omega (arith, none) in
    let nothing : weights e.graph.edges e.worst.cycle * rate.num ≡ weights e.graph.edges e.worst.cycle * 0 = ap (λ (n : ℕ). weights e.graph.edges e.worst.cycle * n) zero_here in
    let long : rate.den * 1 ≤ rate.den * length e.worst.cycle = mul-le-mul_left rate.den shows.critical.some in
    omega (arith, shows.critical.rate, nothing, long, rate.positive)))
    (λ (some : 1 ≤ rate.num). some)
    (cases_lt rate.num 1)

module _ (file : ScenarioFile) (limit : ℕ) (es : List Entry) (best : Fraction) (total : ℕ) (d : Distribution) (r : Rated) (ps : List ScenarioPoint)
    (is : IsOffered file limit es best total d.capacities r ps) where
  pub late-all : All (λ (p : ScenarioPoint). p.total ≤ total) ps
  late-all = λ k x below. offered-late file limit es best total d.capacities r ps is (slice_index_or ps k x) (Contains-get_or ps k x below)

  -- the point of a distribution whose witness was kept
  pub kept-known : (e : Witness) → r.witness ≡ Some e → (point : ScenarioPoint) → IsPointWith total r.rate d e point → (new : List ScenarioPoint) →
      IsTaken point ps new → AreKnown file limit (es ++ entry_of d.capacities r ∷ []) new
  kept-known e some point with new taken = taken-known file limit es best total d.capacities r ps is point new (record {
    capacities = ap (λ (x : Distribution). x.capacities) (sym with.capacities_are);
    num = ap (λ (f : Fraction). f.num) (sym with.rate_is);
    den = ap (λ (f : Fraction). f.den) (sym with.rate_is);
    total = with.total_is ∙ sym is.storage;
    runs = subst (λ (f : Fraction). 1 ≤ f.num) (sym with.rate_is) (shown-runs file d.capacities r.rate e shows);
    shown = moved;
  }) taken
    where
      shows : Shows file d.capacities r.rate e
      shows = subst (λ (o : Option Witness). MatchOption o (r.rate.num * best.den ≤ best.num * r.rate.den) (Shows file d.capacities r.rate)) some is.rated.witness

      moved : IsShownBy file point.capacities.capacities point.rate point.shared point.graph point.worst
      moved =
          subst (λ (x : Distribution). IsShownBy file x.capacities point.rate point.shared point.graph point.worst) (sym with.capacities_are)
          (subst (λ (x : Fraction). IsShownBy file d.capacities x point.shared point.graph point.worst) (sym with.rate_is)
          (subst (λ (x : List SharedRow). IsShownBy file d.capacities r.rate x point.graph point.worst) (sym with.shared_is)
          (subst (λ (x : TimedGraph). IsShownBy file d.capacities r.rate e.shared x point.worst) (sym with.graph_is)
          (subst (λ (x : Worst). IsShownBy file d.capacities r.rate e.shared e.graph x) (sym with.worst_is) shows))))

  -- without witness the rate is no more than the best
  pub none-known : r.witness ≡ None → (new : List ScenarioPoint) → new ≡ ps → AreKnown file limit (es ++ entry_of d.capacities r ∷ []) new
  none-known none new same =
      left-known file limit es best total d.capacities r ps is new same
      (subst (λ (o : Option Witness). MatchOption o (r.rate.num * best.den ≤ best.num * r.rate.den) (Shows file d.capacities r.rate)) none is.rated.witness)

pub keeps-as : (total : ℕ) (point : ScenarioPoint) (old new : List ScenarioPoint) → point.total ≡ total → IsTaken point old new → KeepsEarlier total old new
keeps-as total point old new same taken = subst (λ (n : ℕ). KeepsEarlier n old new) same (taken-keeps point old new taken)
