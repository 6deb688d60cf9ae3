-- The finitely many tests that decide whether a periodic schedule holds.
use Rattle.std.specs.Prelude.{ℕ, ◌+◌, ◌*◌, ◌≤◌, ◌<◌, List}
use Rattle.sd_base.specs.Net.{Channel, Net, channel_at}
use Rattle.sd_base.specs.Schedules.{time_of, Needs, LastNeed, count_of}
use Rattle.periodic.specs.Periods.{start_at}

-- of the firings k, k + turn, k + 2 * turn and so on of the target, the one after q turns is the first that needs a firing
pub record FirstNeedy (c : Channel) (turn k q : ℕ) : Type 0 where
  pub needs : Needs c (k + q * turn) 0
  pub first : (p : ℕ) → p < q → Needs c (k + p * turn) 0 → ⊥

-- the last need of that firing ends before it starts
pub record InTime (net : Net) (period : ℕ) (starts : List (List ℕ)) (i k : ℕ) : Type 0 where
  pub ends : (q n : ℕ) → FirstNeedy (channel_at net i) (count_of starts (channel_at net i).target) k q →
      LastNeed (channel_at net i) (k + q * count_of starts (channel_at net i).target) n →
      start_at period starts (channel_at net i).source n + time_of net (channel_at net i).source n
      ≤ start_at period starts (channel_at net i).target (k + q * count_of starts (channel_at net i).target)

-- so it is on channel i for each firing of a turn of the target
pub record IsFed (net : Net) (period : ℕ) (starts : List (List ℕ)) (i : ℕ) : Type 0 where
  pub each : (k : ℕ) → k < count_of starts (channel_at net i).target → InTime net period starts i k
