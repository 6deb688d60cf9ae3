-- Firing actors one after another without time: runs, rounds, and counts at which no actor can go on.
use Rattle.std.specs.Prelude.{◌≡◌, ℕ, ◌+◌, ◌≤◌, ◌<◌, List, [], ◌∷◌, length, slice_index, slice_index_or, Option, None, MatchOption, if◌then◌else◌, ◌==◌}
use Rattle.sd_base.specs.Net.{Net, channel_at, total}
use Rattle.sd_base.specs.Schedules.{Needs, Lacks}

-- nothing has fired
abbrev pub none_fired : ℕ → ℕ
none_fired a = 0

-- one more firing of a
abbrev pub one_more : (ℕ → ℕ) → ℕ → ℕ → ℕ
one_more v a b = if b == a then v b + 1 else v b

-- after v firings, each channel into a has the tokens for the next firing of a
abbrev pub CanFire : Net → (ℕ → ℕ) → ℕ → Type 0
CanFire net v a =
    (i : ℕ) → i < length net.channels → (channel_at net i).target ≡ a →
    total (channel_at net i).taken (v a + 1) ≤ (channel_at net i).tokens + total (channel_at net i).made (v (channel_at net i).source)

-- after v firings the actors of the list can fire in its order, none more often than in a round
abbrev pub Fires : Net → (ℕ → ℕ) → List ℕ → Type 0
Fires net v [] = Unit {0}
Fires net v (a ∷ order) =
    (a < length net.times) × (v a < slice_index net.round a) × CanFire net v a × Fires net (one_more v a) order

-- the firings after those of the list
abbrev pub counts_after : (ℕ → ℕ) → List ℕ → ℕ → ℕ
counts_after v [] = v
counts_after v (a ∷ order) = counts_after (one_more v a) order

-- the list is the firings of one round, in an order in which they can fire
pub record IsRoundOrder (net : Net) (order : List ℕ) : Type 0 where
  pub fires : Fires net none_fired order
  pub whole : (a : ℕ) → a < length net.times → counts_after none_fired order a ≡ slice_index net.round a

-- a round can be completed
abbrev pub IsLive : Net → Type 0
IsLive net = (order : List ℕ) × IsRoundOrder net order

-- after v firings each actor below its round lacks tokens
abbrev pub Closed : Net → (ℕ → ℕ) → Type 0
Closed net v = (a : ℕ) → a < length net.times → v a < slice_index net.round a → Lacks net v a (v a)

-- v blocks the net: no actor has fired more often than in a round, some actor less often, and each such actor lacks tokens
pub record Blocks (net : Net) (v : ℕ → ℕ) : Type 0 where
  pub within : (a : ℕ) → a < length net.times → v a ≤ slice_index net.round a
  pub short : (a : ℕ) × (a < length net.times) × (v a < slice_index net.round a)
  pub closed : Closed net v

-- v is where firing one actor after another, none more often than in a round, ends
pub record IsEnd (net : Net) (v : ℕ → ℕ) : Type 0 where
  pub order : List ℕ
  pub fires : Fires net none_fired order
  pub counts : (a : ℕ) → a < length net.times → counts_after none_fired order a ≡ v a
  pub closed : Closed net v

-- i is the first channel of the net into a that lacks tokens for the next firing of a after v firings
pub record IsFirstLacking (net : Net) (v : ℕ → ℕ) (a i : ℕ) : Type 0 where
  pub place : i < length net.channels
  pub into : (channel_at net i).target ≡ a
  pub lacks : Needs (channel_at net i) (v a) (v (channel_at net i).source)
  pub first : (k : ℕ) → k < i → (channel_at net k).target ≡ a → ¬ Needs (channel_at net k) (v a) (v (channel_at net k).source)

-- by actor the first lacking channel of each actor below its round, and nothing of the others
pub record NamesLacks (net : Net) (v : ℕ → ℕ) (lacks : List (Option ℕ)) : Type 0 where
  pub actors : length lacks ≡ length net.times
  pub named : (a : ℕ) → a < length net.times →
      MatchOption (slice_index_or lacks a None) (slice_index net.round a ≤ v a)
      (λ i. (v a < slice_index net.round a) × IsFirstLacking net v a i)

-- firing actors one after another ends in these counts, which block the net for want of these tokens
pub record IsBlockedBy (net : Net) (counts : List ℕ) (lacks : List (Option ℕ)) : Type 0 where
  pub actors : length counts ≡ length net.times
  pub ends : IsEnd net (slice_index counts)
  pub blocks : Blocks net (slice_index counts)
  pub names : NamesLacks net (slice_index counts) lacks
