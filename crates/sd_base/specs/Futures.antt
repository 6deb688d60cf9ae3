-- What follows when the shape of self-timed execution comes again.
use Rattle.std.specs.Prelude.{◌≡◌, ℕ, ◌+◌, ◌*◌, ◌≤◌, ◌<◌, ◌↔◌, List, slice_index}
use Rattle.std.specs.Int.{IsGcd}
use Rattle.sd_base.specs.Net.{Net}
use Rattle.sd_base.specs.Schedules.{HasInputs, count_of, start_of, end_of}
use Rattle.sd_base.specs.SelfTimed.{earliest, IsEvent, shape_at}
use Rattle.sd_base.specs.Lawful.{Lawful}
use Rattle.sd_base.specs.Rates.{IsLoopTable, Rate}
use Rattle.sd_base.specs.Connection.{IsConnected}

-- after t all goes as after r, with v more firings of each actor: at equal distances stand equal counts, event moments and
-- shapes, and each firing that hasn't ended by r has its like as much later as t is
pub record Repeats (net : Net) (r t : ℕ) (v : ℕ → ℕ) : Type 0 where
  pub counts : (d a : ℕ) → count_of (earliest net (t + d + 1)) a ≡ count_of (earliest net (r + d + 1)) a + v a
  pub starts : (d a k : ℕ) → k < count_of (earliest net (r + d + 1)) a → r < end_of net (earliest net (r + d + 1)) a k →
      start_of (earliest net (t + d + 1)) a (k + v a) + r ≡ start_of (earliest net (r + d + 1)) a k + t
  pub events : (d : ℕ) → 1 ≤ d → IsEvent net (r + d) ↔ IsEvent net (t + d)
  pub shapes : (d : ℕ) → shape_at net (r + d) ≡ shape_at net (t + d)

-- equal shapes have equal futures
abbrev pub EqualFutures : Type 0
EqualFutures = (net : Net) (r t : ℕ) → Lawful net → HasInputs net → r < t → shape_at net r ≡ shape_at net t → (v : ℕ → ℕ) × Repeats net r t v

-- from a moment to an event moment of equal shape each actor starts one whole number of rounds, at least 1
abbrev pub WholeRounds : Type 0
WholeRounds =
    (net : Net) (r t : ℕ) → Lawful net → HasInputs net → IsConnected net → IsEvent net t → r < t → shape_at net r ≡ shape_at net t →
    (n : ℕ) × (1 ≤ n) × Repeats net r t (λ a. n * slice_index net.round a)

-- the rounds round a loop by its period, in lowest terms, are the rate
abbrev pub LoopRate : Type 0
LoopRate =
    (net : Net) (entry period rounds : ℕ) (before : List ℕ) (starts : List (List ℕ)) (p q g : ℕ) → Lawful net → HasInputs net →
    IsLoopTable net entry period rounds before starts → rounds ≡ g * p → period ≡ g * q → IsGcd p q 1 → Rate net p q

-- a net has at most one rate
abbrev pub OneRate : Type 0
OneRate = (net : Net) (p q x y : ℕ) → Lawful net → Rate net p q → Rate net x y → (p ≡ x) × (q ≡ y)
