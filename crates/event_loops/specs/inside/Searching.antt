-- The search for equal shapes.
use Rattle.std.specs.Prelude.{◌≡◌, ◌≢◌, ℕ, ◌+◌, ◌-◌, ◌≤◌, ◌<◌}
use Rattle.sd_base.specs.declared.limits.TheConstants.{STARTS}
use Rattle.sd_base.specs.Net.{Net}
use Rattle.sd_base.specs.SelfTimed.{IsEvent, events_by, shape_at, starts_by}
use Rattle.sd_base.specs.Rates.{IsLoop}
use Rattle.selftimed.specs.EngineShapes.{form}
use Rattle.selftimed.specs.Fingerprints.{fingerprint_of, running_fingerprint_of}
use Rattle.loops.specs.declared.alike.Pair.{Pair}
use Rattle.event_loops.specs.declared.search.Checkpoint.{Checkpoint}
use Rattle.event_loops.specs.declared.search.Watch.{Watch}

-- no event after one moment, up to and with another, has the shape of the first
abbrev pub NoneSince : Net → ℕ → ℕ → Type 0
NoneSince net from now = (u : ℕ) → IsEvent net u → from < u → u ≤ now → shape_at net u ≢ shape_at net from

-- two events of equal shapes, the later one the first with the shape of the earlier one
pub record IsPair (net : Net) (pair : Pair) : Type 0 where
  pub order : pair.earlier < pair.later
  pub start : IsEvent net pair.earlier
  pub end : IsEvent net pair.later
  pub same : shape_at net pair.later ≡ shape_at net pair.earlier
  pub first : (u : ℕ) → IsEvent net u → pair.earlier < u → u < pair.later → shape_at net u ≢ shape_at net pair.earlier

-- a checkpoint holds the shape at an event, the fingerprints of its tokens and of its running firings, its moment, and the
-- starts up to and with it
pub record IsCheckpoint (net : Net) (c : Checkpoint) : Type 0 where
  pub event : IsEvent net c.moment
  pub shape : form c.shape ≡ shape_at net c.moment
  pub fingerprint : c.fingerprint ≡ fingerprint_of (shape_at net c.moment).tokens
  pub running_fingerprint : c.running_fingerprint ≡ running_fingerprint_of (shape_at net c.moment).remaining
  pub starts : c.starts ≡ starts_by net c.moment

-- a checkpoint before an end, whose shape no later event before it has
pub record IsKept (net : Net) (end : ℕ) (c : Checkpoint) : Type 0 where
  pub is : IsCheckpoint net c
  pub before : c.moment < end
  pub none : (u : ℕ) → IsEvent net u → c.moment < u → u < end → shape_at net u ≢ shape_at net c.moment

abbrev pub IsWatch : Net → ℕ → Watch → Type 0
IsWatch net end w = IsKept net end w.last × IsKept net end w.before

-- up to the event before there are at most STARTS starts
abbrev pub FewBefore : Net → ℕ → Type 0
FewBefore net last = (u : ℕ) → IsEvent net u → u < last → starts_by net u ≤ STARTS

-- an event is the last one that is allowed: that of the last shape, or the first one with more than STARTS starts
pub record IsLast (net : Net) (states last : ℕ) : Type 0 where
  pub event : IsEvent net last
  pub number : events_by net last ≤ states
  pub whole : starts_by net last ≤ STARTS → events_by net last ≡ states
  pub few : FewBefore net last

-- the shape at an event doesn't come again within twice its moment, STARTS more starts, and a bound on all starts
abbrev pub NoneSoon : Net → ℕ → ℕ → Type 0
NoneSoon net from most =
    (u : ℕ) → IsEvent net u → from < u → u ≤ from + from → starts_by net u ≤ starts_by net from + STARTS → starts_by net u ≤ most →
    shape_at net u ≢ shape_at net from

-- an event and one so many time units later have equal shapes
pub record IsLikeness (net : Net) (period earlier later : ℕ) : Type 0 where
  pub start : IsEvent net earlier
  pub apart : earlier + period ≡ later
  pub same : shape_at net later ≡ shape_at net earlier

-- none of the first n events has the shape that stood so many time units before
abbrev pub NoneApart : Net → ℕ → ℕ → Type 0
NoneApart net period n = (t u : ℕ) → IsEvent net u → events_by net u ≤ n → ¬ IsLikeness net period t u

-- so many time units lie between a shape and the first like it
abbrev pub IsPeriod : Net → ℕ → Type 0
IsPeriod net period = (from : ℕ) × IsPair net (record { earlier = from; later = from + period })

-- the loop goes from one of the first `states` shapes to another, with at most STARTS starts up to there
pub record IsRepeat (net : Net) (states entry end : ℕ) : Type 0 where
  pub later : entry < end
  pub loop : IsLoop net entry (end - entry)
  pub number : events_by net end ≤ states
  pub few : starts_by net end ≤ STARTS
