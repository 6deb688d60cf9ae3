-- What self-timed execution comes to within a number of shapes and STARTS starts.
use Rattle.std.specs.Prelude.{◌≡◌, ◌≢◌, ℕ, ◌+◌, ◌*◌, ◌≤◌, ◌<◌, ◌⊎◌}
use Rattle.sd_base.specs.declared.limits.TheConstants.{STARTS}
use Rattle.std.specs.Int.{IsGcd}
use Rattle.sd_base.specs.Net.{Net}
use Rattle.sd_base.specs.SelfTimed.{IsEvent, events_by, shape_at, starts_by}
use Rattle.sd_base.specs.Rates.{IsLoop, IsLoopTable, Rate}
use Rattle.firing.specs.declared.table.LoopTable.{LoopTable}
use Rattle.loops.specs.declared.error.RunError.{RunError}
use Rattle.loops.specs.declared.error.RunError.TheVariants.{StatesSpent, TooManyStarts, NoMemory}

-- the shapes of the first n event moments are all different
abbrev pub FirstDiffer : Net → ℕ → Type 0
FirstDiffer net n = (t u : ℕ) → IsEvent net t → IsEvent net u → t < u → events_by net u ≤ n → shape_at net t ≢ shape_at net u

-- no two of the first `states` shapes agree, and by the last of them at most STARTS firings have started
pub record IsStatesSpent (net : Net) (states : ℕ) : Type 0 where
  pub last : ℕ
  pub event : IsEvent net last
  pub number : events_by net last ≡ states
  pub differ : FirstDiffer net states
  pub few : starts_by net last ≤ STARTS

-- more than STARTS firings have started up to and with one of the first `states` shapes, before which no shape comes
-- twice
pub record IsTooManyStarts (net : Net) (states : ℕ) : Type 0 where
  pub last : ℕ
  pub event : IsEvent net last
  pub number : events_by net last ≤ states
  pub differ : (t u : ℕ) → IsEvent net t → IsEvent net u → t < u → u < last → shape_at net t ≢ shape_at net u
  pub many : STARTS < starts_by net last

-- more than STARTS firings start by the moment at which a shape comes again, or by the last of the first `states` shapes
-- where none of these does
abbrev pub PassesStarts : Net → ℕ → Type 0
PassesStarts net states =
    (FirstDiffer net states × ((last : ℕ) × IsEvent net last × (events_by net last ≡ states) × (STARTS < starts_by net last)))
    ⊎ ((entry : ℕ) × (period : ℕ) × IsLoop net entry period × (events_by net (entry + period) ≤ states)
    × (STARTS < starts_by net (entry + period)))

-- the loop, entered and repeated within the first `states` shapes and STARTS starts, and the rate that its rounds by its
-- period are
pub record IsFound (net : Net) (states : ℕ) (table : LoopTable) : Type 0 where
  pub loop : IsLoopTable net table.entry table.period table.rounds table.before table.starts
  pub number : events_by net (table.entry + table.period) ≤ states
  pub few : starts_by net (table.entry + table.period) ≤ STARTS
  pub rate : (p q g : ℕ) → table.rounds ≡ g * p → table.period ≡ g * q → IsGcd p q 1 → Rate net p q

-- what each refusal says of a net and a number of shapes
abbrev pub IsRunRefusal : Net → ℕ → RunError → Type 0
IsRunRefusal net states StatesSpent = IsStatesSpent net states
IsRunRefusal net states TooManyStarts = IsTooManyStarts net states
IsRunRefusal net states NoMemory = Unit {0}
