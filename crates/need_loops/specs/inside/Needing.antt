-- Starts by needs: what the next firing of each actor needs, and rows of starts of which needs alone say when each is.
use Rattle.std.specs.Prelude.{◌≡◌, ℕ, ◌+◌, ◌-◌, ◌*◌, ◌≤◌, ◌<◌, ◌⊎◌, Some, List, [], ◌∷◌, length, slice_get, slice_index_or}
use Rattle.sd_base.specs.Net.{Net, channel_at, total}
use Rattle.sd_base.specs.Schedules.{Schedule, AdmissibleByLast, LastNeed, count_of, start_of, end_of}
use Rattle.need_loops.specs.declared.feeds.Feed.{Feed}
use Rattle.need_loops.specs.declared.feeds.NextFiring.{NextFiring}

-- what a feed says of its channel, whatever has fired
pub record IsFeedOf (net : Net) (i : ℕ) (f : Feed) : Type 0 where
  pub source : f.source ≡ (channel_at net i).source
  pub time : slice_index_or net.times (channel_at net i).source [] ≡ f.time ∷ []
  pub made : (channel_at net i).made ≡ f.made ∷ []
  pub taken : (channel_at net i).taken ≡ f.taken ∷ []

-- with its firings of the source there are tokens for the first n firings of the target, so many are left, and with fewer
-- there aren't
pub record Feeds (net : Net) (i n : ℕ) (f : Feed) : Type 0 where
  pub of : IsFeedOf net i f
  pub left : f.left + total (channel_at net i).taken n ≡ (channel_at net i).tokens + total (channel_at net i).made f.firings
  pub least : (m : ℕ) → m < f.firings → (channel_at net i).tokens + total (channel_at net i).made m < total (channel_at net i).taken n

-- a feed goes on by one firing of the target: to the least number of firings of the source with which there are tokens
pub record Advances (old new : Feed) : Type 0 where
  pub source : new.source ≡ old.source
  pub time : new.time ≡ old.time
  pub made : new.made ≡ old.made
  pub taken : new.taken ≡ old.taken
  pub more : old.firings ≤ new.firings
  pub left : new.left + new.taken + old.firings * new.made ≡ old.left + new.firings * new.made
  pub least : (new.firings ≡ old.firings) ⊎ (new.left < new.made)

-- channel i from a to a keeps the firings of a, which has this time, from overlapping
pub record Paces (net : Net) (a i pause : ℕ) : Type 0 where
  pub place : i < length net.channels
  pub source : (channel_at net i).source ≡ a
  pub target : (channel_at net i).target ≡ a
  pub tokens : (channel_at net i).tokens ≡ 1
  pub made : (channel_at net i).made ≡ 1 ∷ []
  pub taken : (channel_at net i).taken ≡ 1 ∷ []
  pub time : slice_index_or net.times a [] ≡ pause ∷ []

-- a feed of those of an actor is that of channel i after n firings of a
pub record HasFeed (net : Net) (i n : ℕ) (feeds : List Feed) : Type 0 where
  pub feed : Feed
  pub place : ℕ
  pub there : slice_get feeds place ≡ Some feed
  pub feeds_it : Feeds net i n feed

-- a feed is that of a channel into a
pub record IsFeedInto (net : Net) (a n : ℕ) (f : Feed) : Type 0 where
  pub channel : ℕ
  pub place : channel < length net.channels
  pub into : (channel_at net channel).target ≡ a
  pub feeds_it : Feeds net channel n f

-- what firing n of a needs: that it starts a time after the one before it, where a channel paces a, and of each other channel
-- into a a feed
pub record IsNextOf (net : Net) (a n : ℕ) (next : NextFiring) : Type 0 where
  pub pause : (next.pause ≡ 0) ⊎ ((i : ℕ) × Paces net a i next.pause)
  pub each : (j : ℕ) (f : Feed) → slice_get next.feeds.items j ≡ Some f → IsFeedInto net a (n + 1) f
  pub all : (i : ℕ) → i < length net.channels → (channel_at net i).target ≡ a → Paces net a i next.pause ⊎ HasFeed net i (n + 1) next.feeds.items

-- by actor what the firing after those of its row needs
pub record AreNext (net : Net) (rows : Schedule) (nexts : List NextFiring) : Type 0 where
  pub actors : length nexts ≡ length net.times
  pub each : (a : ℕ) (next : NextFiring) → slice_get nexts a ≡ Some next → IsNextOf net a (count_of rows a) next

-- the last firing that firing k of a needs on a channel is in the rows, and ends at a moment
pub record EndsNeed (net : Net) (rows : Schedule) (a k moment : ℕ) : Type 0 where
  pub channel : ℕ
  pub firing : ℕ
  pub place : channel < length net.channels
  pub into : (channel_at net channel).target ≡ a
  pub last : LastNeed (channel_at net channel) k firing
  pub there : firing < count_of rows (channel_at net channel).source
  pub ends : end_of net rows (channel_at net channel).source firing ≡ moment

-- firing k of a is due at a moment: it is 0, or when the firing before it starts, or when a need ends
abbrev pub IsDue : Net → Schedule → ℕ → ℕ → ℕ → Type 0
IsDue net rows a k moment = (moment ≡ 0) ⊎ ((1 ≤ k) × (moment ≡ start_of rows a (k - 1))) ⊎ EndsNeed net rows a k moment

-- rows of starts up to a moment: all that each firing needs is there and has ended, and the firing is due
pub record AreDue (net : Net) (until : ℕ) (rows : Schedule) : Type 0 where
  pub admissible : AdmissibleByLast net rows
  pub due : (a k : ℕ) → k < count_of rows a → IsDue net rows a k (start_of rows a k)
  pub by : (a k : ℕ) → k < count_of rows a → start_of rows a k ≤ until

-- the firing of a after those of its row needs one that isn't in the rows
pub record IsStuck (net : Net) (rows : Schedule) (a : ℕ) : Type 0 where
  pub channel : ℕ
  pub firing : ℕ
  pub place : channel < length net.channels
  pub into : (channel_at net channel).target ≡ a
  pub last : LastNeed (channel_at net channel) (count_of rows a) firing
  pub missing : count_of rows (channel_at net channel).source ≤ firing

-- the firing of a after those of its row can start at a moment, by the rows, and is due then
pub record StartsNext (net : Net) (rows : Schedule) (a moment : ℕ) : Type 0 where
  pub rising : 1 ≤ count_of rows a → start_of rows a (count_of rows a - 1) ≤ moment
  pub fed : (i m : ℕ) → i < length net.channels → (channel_at net i).target ≡ a → LastNeed (channel_at net i) (count_of rows a) m →
      (m < count_of rows (channel_at net i).source) × (end_of net rows (channel_at net i).source m ≤ moment)
  pub due : IsDue net rows a (count_of rows a) moment
