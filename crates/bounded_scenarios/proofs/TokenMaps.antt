-- Tokens of one net as tokens of another that differs in initial tokens alone.
use Rattle.std.specs.Prelude.{◌≡◌, ℕ, ◌+◌, ◌-◌, ◌*◌, ◌/◌, ◌≤◌, ◌<◌, Contains, List, length}
use Rattle.sd_base.specs.Net.{Channel, Net, channel_at}
use Rattle.token_matrix.specs.Stamps.{IsTakenBy, IsPutBy, left_token}
use Rattle.storage.proofs.ChannelSteps.{AreWhole}

pub record SameRates (c d : Channel) : Type 0 where
  pub source : c.source ≡ d.source
  pub target : c.target ≡ d.target
  pub made : c.made ≡ d.made
  pub taken : c.taken ≡ d.taken

-- the nets differ in initial tokens alone, in roles and in sizes
pub record SameNets (net other : Net) : Type 0 where
  pub times : net.times ≡ other.times
  pub round : net.round ≡ other.round
  pub many : length net.channels ≡ length other.channels
  pub each : (i : ℕ) → i < length net.channels → SameRates (channel_at net i) (channel_at other i)

-- token m of channel i of the first net stands for token `to i m` of the second: on the channels of the list the same firings take
-- it and put it; one that is there before the round is there too
pub record MapsTokens (net other : Net) (cs : List ℕ) (to : ℕ → ℕ → ℕ) : Type 0 where
  pub same : SameNets net other
  pub taken : (i m j : ℕ) → i < length net.channels → Contains cs i → IsTakenBy (channel_at net i) m j → IsTakenBy (channel_at other i) (to i m) j
  pub put : (i m k : ℕ) → i < length net.channels → Contains cs i → IsPutBy (channel_at net i) m k → IsPutBy (channel_at other i) (to i m) k
  pub initial : (i m : ℕ) → i < length net.channels → m < (channel_at net i).tokens → to i m < (channel_at other i).tokens

-- what is left as token k of channel i is the token `to i k` of the second net, of this number
pub record MapsLeft (net other : Net) (first' : ℕ → ℕ) (to : ℕ → ℕ → ℕ) (q' i k : ℕ) : Type 0 where
  pub number : q' ≡ first' i + to i k
  pub left : to i (left_token net i k) ≡ left_token other i (to i k)
  pub put : (n : ℕ) → IsPutBy (channel_at net i) (left_token net i k) n → IsPutBy (channel_at other i) (to i (left_token net i k)) n

-- the second net has more tokens on some channels
pub record IsRoomier (net other : Net) : Type 0 where
  pub same : SameNets net other
  pub more : (i : ℕ) → i < length net.channels → (channel_at net i).tokens ≤ (channel_at other i).tokens

-- the second net has some spare tokens on each channel, fewer than a step, of which the rates and the other tokens are whole multiples
pub record HasSpare (net other : Net) (step spare : ℕ → ℕ) : Type 0 where
  pub same : SameNets net other
  pub some : (i : ℕ) → i < length net.channels → 1 ≤ step i
  pub small : (i : ℕ) → i < length net.channels → spare i < step i
  pub made : (i : ℕ) → i < length net.channels → AreWhole (step i) (channel_at net i).made
  pub taken : (i : ℕ) → i < length net.channels → AreWhole (step i) (channel_at net i).taken
  pub whole : (i : ℕ) → i < length net.channels → (u : ℕ) × ((channel_at net i).tokens ≡ u * step i)
  pub tokens : (i : ℕ) → i < length net.channels → (channel_at other i).tokens ≡ (channel_at net i).tokens + spare i

-- the last spare token of the step in which token m is
abbrev pub spared : (ℕ → ℕ) → (ℕ → ℕ) → ℕ → ℕ → ℕ
spared step spare i m = m / step i * step i + spare i

-- with more tokens of the second net, a token has as many more before it
abbrev pub pushed : Net → Net → ℕ → ℕ → ℕ
pushed net other i m = m + ((channel_at other i).tokens - (channel_at net i).tokens)
