-- The counts from which evaluations begin.
use Rattle.std.specs.Prelude.{◌≡◌, ℕ, List, length}
use Rattle.sd_base.specs.Net.{Net}
use Rattle.sd_base.specs.Lawful.{Lawful}
use Rattle.sd_base.specs.Untimed.{IsLive}
use Rattle.liveness.specs.RoundAnswers.{AreReachedCounts}
use Rattle.evaluations.specs.declared.shown.Shown.{Shown}
use Rattle.evaluations.specs.declared.shown.Shown.TheVariants.{Cycle, Blocked}
use Rattle.evaluations.specs.declared.starts.Starts.{Starts}

-- the first counts are reached in each net of so many actors, the others in each live net of the same round
pub record AreStarts (net : Net) (starts : Starts) : Type 0 where
  pub none : (other : Net) → length other.times ≡ length net.times → AreReachedCounts other starts.none
  pub whole : (other : Net) → Lawful other → other.round ≡ net.round → IsLive other → AreReachedCounts other starts.whole

-- the counts that what shows a rate gives: those that block a net, or those of a whole round
abbrev pub counts_at : Starts → Shown → List ℕ
counts_at starts (Cycle cycle) = starts.whole
counts_at starts (Blocked counts) = counts
