-- Inside the crate: the ratios of the ways, by actor. No public clause cites this.
use Rattle.std.specs.Prelude.{◌≡◌, ℕ, ◌*◌, ◌/◌, ◌<◌, ◌≤◌, Some, List, length, slice_get, slice_index, slice_index_or, sum}
use Rattle.std.specs.Int.{◌∣◌}
use Rattle.sd_base.specs.declared.limits.TheConstants.{PHASES, RATE, RATIO, ROUND}
use Rattle.balance.specs.declared.walk.WalkStep.{WalkStep}
use Rattle.balance.specs.declared.walk.Link.{Link}
use Rattle.balance.specs.declared.search.Found.{Found}
use Rattle.balance.specs.declared.ratio.Ratio.{Ratio}
use Rattle.balance.specs.declared.refusal.BalanceError.{BalanceError}
use Rattle.balance.specs.declared.refusal.BalanceError.TheVariants.{Apart, RatioTooLarge, Unbalanced, RoundTooLarge, NoMemory}
use Rattle.balance.specs.Walks.{IsWay, IsLowest, step_from, walk_num, walk_den}
use Rattle.balance.specs.Repetition.{IsFirstAboveLimit, IsClosedOver, IsKept}
use Rattle.balance.specs.inside.Search.{Entry, IsClosedBetween}
use Rattle.sd_base.specs.declared.tables.GraphFile.{GraphFile}
use Rattle.sd_base.specs.Net.{IsRepetitionOf}

abbrev pub one : Ratio
one = record { num = 1; den = 1 }

abbrev pub ratio_at : List Ratio → ℕ → Ratio
ratio_at rs a = slice_index_or rs a one

-- r is the ratio of a walk, within the limit
abbrev pub IsRatio : List Link → List WalkStep → Ratio → Type 0
IsRatio ls p r = IsLowest r.num r.den (walk_num ls p) (walk_den ls p) × (r.num ≤ RATIO) × (r.den ≤ RATIO)

-- a channel's sums over a cycle of phases
abbrev pub IsSummed : Link → Type 0
IsSummed l = (0 < l.made) × (0 < l.taken) × (l.made ≤ PHASES * RATE) × (l.taken ≤ PHASES * RATE)

-- the parts are within the limit
abbrev pub IsSmall : Ratio → Type 0
IsSmall r = (r.num ≤ RATIO) × (r.den ≤ RATIO) × (0 < r.den)

-- a step leads from an actor with a ratio
abbrev pub IsRatedStep : List Link → List Ratio → WalkStep → Type 0
IsRatedStep ls rs s = (l : Link) × (slice_get ls s.channel ≡ Some l) × (step_from l s.forward < length rs) × IsSmall (ratio_at rs (step_from l s.forward))

-- a refusal for a ratio above the limit
abbrev pub IsLimitRefusal : List Link → BalanceError → Type 0
IsLimitRefusal ls (RatioTooLarge path) = IsFirstAboveLimit ls path
IsLimitRefusal ls NoMemory = Unit {0}
IsLimitRefusal ls (Apart a b) = ⊥
IsLimitRefusal ls (Unbalanced walk num den) = ⊥
IsLimitRefusal ls RoundTooLarge = ⊥

-- a refusal for a channel that doesn't keep the ratios
abbrev pub IsClosedRefusal : List Found → List Ratio → ℕ → Link → BalanceError → Type 0
IsClosedRefusal found rs c l (Unbalanced walk num den) =
    IsClosedBetween found c l walk
    × IsLowest num den ((ratio_at rs l.source).num * l.made * (ratio_at rs l.target).den)
    ((ratio_at rs l.target).num * l.taken * (ratio_at rs l.source).den)
IsClosedRefusal found rs c l (RatioTooLarge path) = ⊥
IsClosedRefusal found rs c l NoMemory = ⊥
IsClosedRefusal found rs c l (Apart a b) = ⊥
IsClosedRefusal found rs c l RoundTooLarge = ⊥

-- a refusal for the first channel that doesn't keep the ratios
abbrev pub IsKeptRefusal : List Link → BalanceError → Type 0
IsKeptRefusal ls (Unbalanced walk num den) =
    (c : ℕ) × (IsKept ls c → ⊥) × ((k : ℕ) → k < c → IsKept ls k) × IsClosedOver ls c walk num den
IsKeptRefusal ls NoMemory = Unit {0}
IsKeptRefusal ls (RatioTooLarge path) = ⊥
IsKeptRefusal ls (Apart a b) = ⊥
IsKeptRefusal ls RoundTooLarge = ⊥

-- a refusal for a round above the limit
abbrev pub IsRoundRefusal : GraphFile → BalanceError → Type 0
IsRoundRefusal g RoundTooLarge = (v : List ℕ) × IsRepetitionOf g v × (ROUND < sum v)
IsRoundRefusal g NoMemory = Unit {0}
IsRoundRefusal g (Unbalanced walk num den) = ⊥
IsRoundRefusal g (RatioTooLarge path) = ⊥
IsRoundRefusal g (Apart a b) = ⊥

-- the actors of the entries before place k have the ratios of their ways
abbrev pub AreRated : List Link → List Entry → List Ratio → ℕ → Type 0
AreRated ls es rs k = (j : ℕ) (x : Entry) → j < k → slice_get es j ≡ Some x → IsRatio ls x.way (ratio_at rs x.actor)

-- each actor has the ratio of its way
pub record AreRatios (ls : List Link) (actors : ℕ) (rs : List Ratio) : Type 0 where
  pub size : length rs ≡ actors
  pub each : (b : ℕ) → b < actors → (p : List WalkStep) × IsWay ls b p × IsRatio ls p (ratio_at rs b)

-- a channel keeps the ratios: that of its source, times made to taken, is that of its target
abbrev pub Keeps : List Ratio → Link → Type 0
Keeps rs l =
    (ratio_at rs l.source).num * l.made * (ratio_at rs l.target).den
    ≡ (ratio_at rs l.target).num * l.taken * (ratio_at rs l.source).den

-- each denominator divides n
abbrev pub DivideAll : List Ratio → ℕ → Type 0
DivideAll rs n = (k : ℕ) (r : Ratio) → slice_get rs k ≡ Some r → r.den ∣ n

-- the least common multiple of the denominators
pub record IsCommon (rs : List Ratio) (m : ℕ) : Type 0 where
  pub some : 0 < m
  pub all : DivideAll rs m
  pub least : (n : ℕ) → DivideAll rs n → m ∣ n

-- the firings of a round, for the common multiple m
pub record IsRoundBy (phases : List ℕ) (rs : List Ratio) (m : ℕ) (v : List ℕ) : Type 0 where
  pub size : length v ≡ length phases
  pub each : (b : ℕ) → b < length phases → slice_index v b ≡ (m / (ratio_at rs b).den) * (ratio_at rs b).num * slice_index phases b
