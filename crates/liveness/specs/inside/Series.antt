-- Firings of one actor that follow each other, with none of another actor between.
use Rattle.std.specs.Prelude.{◌≡◌, ◌≢◌, ℕ, ◌+◌, ◌≤◌, ◌<◌, List, length, slice_index, if◌then◌else◌, ◌==◌}
use Rattle.sd_base.specs.Net.{Channel, Net, channel_at, total}

-- k more firings of a
abbrev pub more_of : (ℕ → ℕ) → ℕ → ℕ → ℕ → ℕ
more_of v a k b = if b == a then v b + k else v b

-- a channel with so many tokens has those of n firings of its target that follow each other, of which number `from` is
-- the first; on a self-loop each firing finds what those before it have put there
pub record Feeds (c : Channel) (tokens from n : ℕ) : Type 0 where
  pub own : c.source ≡ c.target → (k : ℕ) → k < n → total c.taken (from + (k + 1)) + total c.made from ≤ tokens + total c.taken from + total c.made (from + k)
  pub other : c.source ≢ c.target → (k : ℕ) → k < n → total c.taken (from + (k + 1)) ≤ tokens + total c.taken from

-- a self-loop of an actor of one phase, of which each firing puts at least so many tokens there
pub record GivesBack (c : Channel) (rate : ℕ) : Type 0 where
  pub loops : c.source ≡ c.target
  pub single : length c.made ≡ 1
  pub back : rate ≤ slice_index c.made 0

-- each channel into a has them
abbrev pub FeedsSeries : Net → List ℕ → ℕ → ℕ → ℕ → Type 0
FeedsSeries net tokens a from n = (i : ℕ) → i < length net.channels → (channel_at net i).target ≡ a → Feeds (channel_at net i) (slice_index tokens i) from n

-- some channel into a lacks tokens for one more firing than n that follow each other; it isn't a self-loop, unless n is 0
pub record EndsSeries (net : Net) (tokens : List ℕ) (a from n : ℕ) : Type 0 where
  pub channel : ℕ
  pub place : channel < length net.channels
  pub into : (channel_at net channel).target ≡ a
  pub apart : 0 < n → (channel_at net channel).source ≢ a
  pub short : slice_index tokens channel + total (channel_at net channel).taken from < total (channel_at net channel).taken (from + (n + 1))
