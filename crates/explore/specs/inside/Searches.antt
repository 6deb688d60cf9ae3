-- Where an exploration stands: its members, the distributions that are being evaluated, and those that wait.
use Rattle.std.specs.Prelude.{◌≡◌, ℕ, ◌+◌, ◌≤◌, ◌<◌, ◌↔◌, All, Contains, Option, List, [], ◌∷◌, ◌++◌, length, map, if◌then◌else◌, ◌==◌}
use Rattle.sd_base.specs.declared.limits.Limits.{Limits}
use Rattle.sd_base.specs.declared.limits.TheConstants.{LEAST_STATES, STATES, STORAGE}
use Rattle.sd_base.specs.declared.numbers.Fraction.{Fraction}
use Rattle.sd_base.specs.Net.{Net}
use Rattle.lasso.specs.LoopAnswers.{IsFound}
use Rattle.storage.specs.BoundedNets.{bound}
use Rattle.storage.specs.Distributions.{IsDistribution, storage_of}
use Rattle.storage.specs.Steps.{IsCorner, IsOnGrid}
use Rattle.storage.specs.ClosedLists.{Entry}
use Rattle.pareto_front.specs.declared.point.Point.{Point}
use Rattle.pareto_front.specs.Offers.{Offer}
use Rattle.pareto_front.specs.Points.{IsFrontOf, offer_of}
use Rattle.guide.specs.Evaluations.{Bounds}
use Rattle.guide.specs.Guides.{IsInGuide}
use Rattle.levels.specs.declared.found.Found.{Found}
use Rattle.levels.specs.declared.found.Level.{Level}
use Rattle.levels.specs.Visits.{AreVisits, visits_of}
use Rattle.levels.specs.Frontiers.{IsFrontier, distributions_of}
use Rattle.levels.specs.Entrances.{EnterByLevels}
use Rattle.evaluations.specs.declared.evaluating.Answered.{Answered}
use Rattle.evaluations.specs.Evaluating.{IsEvaluation, least_loops, most_loops}
use Rattle.evaluations.specs.ShownCycles.{shows_cycle}
use Rattle.evaluations.specs.declared.starts.Starts.{Starts}
use Rattle.evaluations.specs.Starts.{AreStarts}
use Rattle.explore.specs.declared.exploration.Member.{Member}
use Rattle.explore.specs.declared.search.Search.{Search}
use Rattle.explore.specs.inside.Hints.{IsEvaluableFrom, IsHinted}
use Rattle.explore.specs.Reachable.{IsExplorable, IsReachable}
use Rattle.explore.specs.Explorations.{IsMember, ShowsChannel, capacities_of}

-- a net that can be explored, with the counts from which its evaluations begin, and limits that aren't too wide
pub record IsExploring (net : Net) (starts : Starts) (limits : Limits) : Type 0 where
  pub explorable : IsExplorable net
  pub counts : AreStarts net starts
  pub small : limits.total ≤ STORAGE
  pub some_states : LEAST_STATES ≤ limits.states
  pub few_states : limits.states ≤ STATES

-- a distribution on the grid and within the limit that can be reached
pub record IsCandidate (net : Net) (limit : ℕ) (ds : List (Option ℕ)) : Type 0 where
  pub distribution : IsDistribution net.channels ds
  pub grid : IsOnGrid net.channels ds
  pub within : storage_of net.channels ds ≤ limit
  pub reachable : IsReachable net limit ds

-- a member with the channels that it shows, as an entry of a closed list
abbrev pub entry_of : Member → List ℕ → Entry
entry_of m shown = record { capacities = m.capacities.capacities; shown = shown; num = m.rate.num; den = m.rate.den }

-- the entry is the member with the channels that it shows, which are in its guide and bound its rate
pub record IsNoted (net : Net) (states : ℕ) (m : Member) (e : Entry) : Type 0 where
  pub is : e ≡ entry_of m e.shown
  pub shows : (c : ℕ) → Contains e.shown c ↔ ShowsChannel net m.capacities.capacities m.shown c
  pub guided : (c : ℕ) → Contains e.shown c → IsInGuide net m.capacities.capacities c
  pub member : IsMember net states m
  pub bounds : Bounds net m.capacities.capacities m.rate e.shown

abbrev pub AreNoted : Net → ℕ → List Member → List Entry → Type 0
AreNoted net states [] [] = Unit {0}
AreNoted net states (m ∷ ms) (e ∷ es) = IsNoted net states m e × AreNoted net states ms es
AreNoted net states ms es = ⊥

-- the offer of a member
abbrev pub offer_for : Net → Member → Offer
offer_for net m = record { storage = storage_of net.channels m.capacities.capacities; rate = m.rate; capacities = m.capacities.capacities }

-- the offers of the members with a rate above 0
abbrev pub offers_of : Net → List Member → List Offer
offers_of net [] = []
offers_of net (m ∷ ms) = if m.rate.num == 0 then offers_of net ms else offer_for net m ∷ offers_of net ms

-- the offer of a distribution, if its rate is above 0
abbrev pub offers_at : ℕ → Fraction → List (Option ℕ) → List Offer
offers_at total rate ds = if rate.num == 0 then [] else record { storage = total; rate = rate; capacities = ds } ∷ []

-- the table of a point is the loop of its net
abbrev pub HasTable : Net → ℕ → Point → Type 0
HasTable net states p = IsFound (bound net p.capacities.capacities) states p.table

-- what the members show is noted in the entries, and the points are the front of their offers, each with its loop
pub record AreKnown (net : Net) (states : ℕ) (members : List Member) (entries : List Entry) (points : List Point) : Type 0 where
  pub noted : AreNoted net states members entries
  pub front : IsFrontOf (offers_of net members) (map offer_of points)
  pub tables : (p : Point) → Contains points p → HasTable net states p

-- where an exploration stands that has these distributions taken off, and whose levels before the floor are taken in: from the
-- corner it has made the visits that its members are, each member is a candidate, and those that wait have their hints
pub record IsSearch (net : Net) (limits : Limits) (floor : ℕ) (taken : List (List (Option ℕ))) (s : Search) : Type 0 where
  pub entries : List Entry
  pub known : AreKnown net limits.states s.members.items entries s.front
  pub corner : List (Option ℕ)
  pub is_corner : IsCorner net.channels corner
  pub bounds : s.levels.bounds ≡ record { total = limits.total; distributions = limits.distributions }
  pub frontier : IsFrontier net.channels corner floor (visits_of entries) taken s.levels
  pub candidates : (m : Member) → Contains s.members.items m → IsCandidate net limits.total m.capacities.capacities
  pub hinted : (f : Found (Option ℕ)) → Contains s.levels.waiting f → IsHinted net limits.states s.members.items f.hint f.capacities.capacities

-- where an exploration stands between two levels
abbrev pub IsStanding : Net → Limits → Search → Type 0
IsStanding net limits s = (floor : ℕ) × IsSearch net limits floor [] s

-- an exploration is to take in this level, which was taken off those that waited
pub record IsTurn (net : Net) (limits : Limits) (level : Level (Option ℕ)) (s : Search) : Type 0 where
  pub search : IsSearch net limits (level.total + 1) (distributions_of level.visits.items) s
  pub totals : All (λ (f : Found (Option ℕ)). storage_of net.channels f.capacities.capacities ≡ level.total) level.visits.items
  pub before : (m : Member) → Contains s.members.items m → storage_of net.channels m.capacities.capacities < level.total
  pub visitable : All (IsEvaluableFrom net limits.states s.members.items) level.visits.items
  pub some : 1 ≤ length level.visits.items

-- if the first members entered by levels, all do
abbrev pub EntersOn : Net → (ℕ → ℕ → Type 0) → List Member → List Member → Type 0
EntersOn net entered old new = EnterByLevels net.channels entered (capacities_of old) → EnterByLevels net.channels entered (capacities_of new)

-- the members are all visits from the corner within the limit, and what they show is known
pub record IsEnded (net : Net) (limits : Limits) (members : List Member) (points : List Point) : Type 0 where
  pub entries : List Entry
  pub known : AreKnown net limits.states members entries points
  pub corner : List (Option ℕ)
  pub is_corner : IsCorner net.channels corner
  pub visits : AreVisits net.channels corner limits.total (visits_of entries)
  pub candidates : (m : Member) → Contains members m → IsCandidate net limits.total m.capacities.capacities
  pub few : length members ≤ limits.distributions

-- the distributions of answers
abbrev pub answered_of : List Answered → List (List (Option ℕ))
answered_of answers = map (λ (a : Answered). a.capacities.capacities) answers

-- an answer of a distribution of the level with this storage, given the best rate of less
pub record IsAnswerOf (net : Net) (limits : Limits) (total : ℕ) (best : Fraction) (a : Answered) : Type 0 where
  pub answer : IsEvaluation net limits.states best a.capacities a.answer
  pub storage : storage_of net.channels a.capacities.capacities ≡ total

-- the member that an answer makes stands last
pub record IsMemberAdded (a : Answered) (old new : List Member) : Type 0 where
  pub member : Member
  pub added : new ≡ old ++ member ∷ []
  pub capacities : member.capacities ≡ a.capacities
  pub least : shows_cycle member.shown ≡ least_loops a.answer
  pub most : shows_cycle member.shown ≡ most_loops a.answer
