-- Nets of equal ends and times of which one needs no more than the other.
use Rattle.std.specs.Prelude.{◌≡◌, ℕ, ◌<◌, length}
use Rattle.sd_base.specs.Net.{Channel, Net, channel_at}
use Rattle.sd_base.specs.Schedules.{Needs}

-- each need on the second channel is one on the first
pub record EasesChannel (c easier : Channel) : Type 0 where
  pub source : c.source ≡ easier.source
  pub target : c.target ≡ easier.target
  pub needs : (j m : ℕ) → Needs easier j m → Needs c j m

-- so it is on each channel of two nets
pub record Eases (net easier : Net) : Type 0 where
  pub times : net.times ≡ easier.times
  pub round : net.round ≡ easier.round
  pub many : length net.channels ≡ length easier.channels
  pub channels : (i : ℕ) → i < length easier.channels → EasesChannel (channel_at net i) (channel_at easier i)
