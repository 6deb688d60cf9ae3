-- Circular waits: actors that wait for tokens, each from the next one and the last from the first.
use Rattle.std.specs.Prelude.{◌≡◌, ◌≢◌, ℕ, ◌+◌, ◌-◌, ◌<◌, List, length, slice_index}
use Rattle.sd_base.specs.declared.role.Role.TheVariants.{Space}
use Rattle.sd_base.specs.Net.{Net, channel_at}
use Rattle.sd_base.specs.Schedules.{Needs}

-- after v firings actor a is below its round, and channel i of the net, which leads to it, lacks tokens for its next firing
pub record IsWaitingOn (net : Net) (v : ℕ → ℕ) (a i : ℕ) : Type 0 where
  pub actor : a < length net.times
  pub short : v a < slice_index net.round a
  pub place : i < length net.channels
  pub into : (channel_at net i).target ≡ a
  pub lacks : Needs (channel_at net i) (v a) (v (channel_at net i).source)

-- the actor to which channel j of the list leads
abbrev pub waiting_at : Net → List ℕ → ℕ → ℕ
waiting_at net channels j = (channel_at net (slice_index channels j)).target

-- the actor from which channel j of the list comes
abbrev pub awaited_at : Net → List ℕ → ℕ → ℕ
awaited_at net channels j = (channel_at net (slice_index channels j)).source

-- channels, each of which makes its target wait for its source, which is the target of the next one, and that of the last
-- one is the target of the first
pub record IsCircularWait (net : Net) (v : ℕ → ℕ) (channels : List ℕ) : Type 0 where
  pub some : 0 < length channels
  pub waits : (j : ℕ) → j < length channels → IsWaitingOn net v (waiting_at net channels j) (slice_index channels j)
  pub next : (j : ℕ) → j + 1 < length channels → awaited_at net channels j ≡ waiting_at net channels (j + 1)
  pub closes : awaited_at net channels (length channels - 1) ≡ waiting_at net channels 0

-- the channels lead to different actors
abbrev pub WaitOnce : Net → List ℕ → Type 0
WaitOnce net channels = (j k : ℕ) → j < k → k < length channels → waiting_at net channels j ≢ waiting_at net channels k

-- some channel of the list is the free space of channel c of the file
abbrev pub WaitsForSpace : Net → List ℕ → ℕ → Type 0
WaitsForSpace net channels c = (j : ℕ) × (j < length channels) × ((channel_at net (slice_index channels j)).role ≡ Space c)
