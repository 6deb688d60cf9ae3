-- What rows of starts show of a loop.
use Rattle.std.specs.Prelude.{◌≡◌, ◌≢◌, ℕ, ◌+◌, ◌-◌, ◌*◌, ◌^◌, ◌≤◌, ◌<◌, ◌⊎◌, List, [], length, map, sum, slice_index, slice_index_or}
use Rattle.sd_base.specs.Net.{Net}
use Rattle.sd_base.specs.Schedules.{Schedule, count_of, start_of, time_of}
use Rattle.sd_base.specs.SelfTimed.{IsEvent, events_by, starts_by}
use Rattle.sd_base.specs.Rates.{IsLoopTable}
use Rattle.firing.specs.declared.table.LoopTable.{LoopTable}
use Rattle.loops.specs.StartRows.{AreBy}
use Rattle.loops.specs.Settling.{IsRowLike, IsRowOver, IsRowSettled}

-- firing j of an actor and the one so many rounds before it are in the rows, and start after a moment
pub record AreBothAfter (net : Net) (starts : Schedule) (after rounds a j : ℕ) : Type 0 where
  pub is_actor : a < length net.times
  pub within : j < count_of starts a
  pub back : rounds * slice_index net.round a ≤ j
  pub late : after < start_of starts a (j - rounds * slice_index net.round a)

-- a firing starts so many time units after the one so many rounds before it, both after a moment
pub record IsApart (net : Net) (starts : Schedule) (after rounds apart : ℕ) : Type 0 where
  pub actor : ℕ
  pub firing : ℕ
  pub both : AreBothAfter net starts after rounds actor firing
  pub is : start_of starts actor (firing - rounds * slice_index net.round actor) + apart ≡ start_of starts actor firing

-- and another one doesn't
pub record Differ (net : Net) (starts : Schedule) (after rounds : ℕ) : Type 0 where
  pub apart : ℕ
  pub one : IsApart net starts after rounds apart
  pub other : ℕ
  pub later : ℕ
  pub both : AreBothAfter net starts after rounds other later
  pub unlike : start_of starts other (later - rounds * slice_index net.round other) + apart ≢ start_of starts other later

-- between two moments each actor starts so many rounds, and from a moment on, and from no earlier one, each firing that isn't so
-- many time units after the one so many rounds before it is over
pub record SettlesFrom (net : Net) (starts : Schedule) (rounds earlier later from : ℕ) : Type 0 where
  pub before : from ≤ earlier
  pub long : (a : ℕ) → a < length net.times → rounds * slice_index net.round a ≤ count_of starts a
  pub counts : (a : ℕ) → a < length net.times → AreBy (slice_index_or starts a []) earlier (count_of starts a - rounds * slice_index net.round a)
  pub settled : (a : ℕ) → a < length net.times → IsRowSettled net a (slice_index_or starts a []) (rounds * slice_index net.round a) (later - earlier) from
  pub first : (x : ℕ) → ((a j : ℕ) → a < length net.times → j < count_of starts a → (IsRowLike (slice_index_or starts a []) (rounds * slice_index net.round a) (later - earlier) j → ⊥) →
      IsRowOver net a (slice_index_or starts a []) (rounds * slice_index net.round a) (later - earlier) x j) → from ≤ x

-- the first event from a moment on, and it is one up to another
pub record IsFirstEvent (net : Net) (from until event : ℕ) : Type 0 where
  pub late : from ≤ event
  pub soon : event ≤ until
  pub is : IsEvent net event
  pub first : (x : ℕ) → from ≤ x → x < event → IsEvent net x → ⊥

-- the first end of the firings of a's row from a moment on, or the greatest number of 64 bits
pub record IsFirstEnd (net : Net) (a : ℕ) (row : List ℕ) (from end : ℕ) : Type 0 where
  pub late : from ≤ end
  pub first : (k : ℕ) → k < length row → from ≤ slice_index row k + time_of net a k → end ≤ slice_index row k + time_of net a k
  pub there : (end ≡ 2 ^ 64 - 1) ⊎ ((k : ℕ) × (k < length row) × (slice_index row k + time_of net a k ≡ end))

-- the first event from a moment on that is one a period later too
pub record IsFirstDoubled (net : Net) (from period until event : ℕ) : Type 0 where
  pub late : from ≤ event
  pub soon : event ≤ until
  pub is : IsEvent net event
  pub again : IsEvent net (event + period)
  pub first : (x : ℕ) → from ≤ x → x < event → IsEvent net x → IsEvent net (x + period) → ⊥

-- a loop that rows of starts hold, and so up to its repeat no more starts than they have, and one event more at most
pub record IsLoopIn (net : Net) (starts : Schedule) (table : LoopTable) : Type 0 where
  pub loop : IsLoopTable net table.entry table.period table.rounds table.before table.starts
  pub few : starts_by net (table.entry + table.period) ≤ sum (map length starts)
  pub number : events_by net (table.entry + table.period) ≤ sum (map length starts) + 1
