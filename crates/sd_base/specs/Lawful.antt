-- The laws that every dataflow net keeps.
use Rattle.std.specs.Prelude.{◌≡◌, ℕ, ◌≤◌, ◌<◌, Bool, true, false, ◌&&◌, [], length, map, sum, slice_index, slice_index_or, ◌==◌}
use Rattle.std.specs.List.{list_all, list_any}
use Rattle.sd_base.specs.declared.limits.TheConstants.{ACTORS, NET_CHANNELS, NET_TOKENS, RATE, ROUND, SIZE, TIME}
use Rattle.sd_base.specs.declared.role.Role.{Role}
use Rattle.sd_base.specs.declared.role.Role.TheVariants.{Token, Own, Space, Order}
use Rattle.sd_base.specs.Net.{Channel, Net, channel_at, IsRepetition}
use Rattle.sd_base.specs.Schedules.{phases_at}

-- the role of channel i of a file
abbrev pub is_file_channel : ℕ → Role → Bool
is_file_channel i (Token c) = c == i
is_file_channel i (Own a) = false
is_file_channel i (Space c) = false
is_file_channel i (Order a b) = false

abbrev pub is_token_role : Role → Bool
is_token_role (Token c) = true
is_token_role (Own a) = false
is_token_role (Space c) = false
is_token_role (Order a b) = false

abbrev pub is_space_role : Role → Bool
is_space_role (Token c) = false
is_space_role (Own a) = false
is_space_role (Space c) = true
is_space_role (Order a b) = false

abbrev pub is_order_role : Role → Bool
is_order_role (Token c) = false
is_order_role (Own a) = false
is_order_role (Space c) = false
is_order_role (Order a b) = true

abbrev pub is_own_role : ℕ → Role → Bool
is_own_role a (Token c) = false
is_own_role a (Own b) = b == a
is_own_role a (Space c) = false
is_own_role a (Order b c) = false

-- a channel that keeps the firings of a from overlapping: from a to a, with one token and rates 1
abbrev pub is_own : ℕ → Channel → Bool
is_own a c =
    is_own_role a c.role && ((c.source == a) && ((c.target == a) && ((c.tokens == 1)
    && (list_all (λ r. r == 1) c.made && list_all (λ r. r == 1) c.taken))))

-- the laws: numbers of actors, channels and phases; ends, ports, tokens and sizes of channels; times; own channels of
-- actors of several phases; roles; and the round as the repetition vector
pub record Lawful (net : Net) : Type 0 where
  pub some_actor : 1 ≤ length net.times
  pub few_actors : length net.times ≤ ACTORS
  pub few_channels : length net.channels ≤ NET_CHANNELS
  pub some_phase : (a : ℕ) → a < length net.times → 1 ≤ phases_at net a
  pub some_time : (a p : ℕ) → a < length net.times → p < phases_at net a → 1 ≤ slice_index (slice_index_or net.times a []) p
  pub short_times : (a p : ℕ) → a < length net.times → p < phases_at net a → slice_index (slice_index_or net.times a []) p ≤ TIME
  pub sources : (i : ℕ) → i < length net.channels → (channel_at net i).source < length net.times
  pub targets : (i : ℕ) → i < length net.channels → (channel_at net i).target < length net.times
  pub made_phases : (i : ℕ) → i < length net.channels → length (channel_at net i).made ≡ phases_at net (channel_at net i).source
  pub taken_phases : (i : ℕ) → i < length net.channels → length (channel_at net i).taken ≡ phases_at net (channel_at net i).target
  pub small_made : (i p : ℕ) → i < length net.channels → slice_index (channel_at net i).made p ≤ RATE
  pub small_taken : (i p : ℕ) → i < length net.channels → slice_index (channel_at net i).taken p ≤ RATE
  pub some_made : (i : ℕ) → i < length net.channels → 1 ≤ sum (channel_at net i).made
  pub some_taken : (i : ℕ) → i < length net.channels → 1 ≤ sum (channel_at net i).taken
  pub few_tokens : (i : ℕ) → i < length net.channels → (channel_at net i).tokens ≤ NET_TOKENS
  pub some_size : (i : ℕ) → i < length net.channels → 1 ≤ (channel_at net i).size
  pub small_size : (i : ℕ) → i < length net.channels → (channel_at net i).size ≤ SIZE
  pub one_by_one : (a : ℕ) → a < length net.times → 2 ≤ phases_at net a → list_any (is_own a) net.channels ≡ true
  pub roles_differ : (i j : ℕ) → i < length net.channels → j < length net.channels →
      (channel_at net i).role ≡ (channel_at net j).role → i ≡ j
  pub files_first : (i j : ℕ) → i ≤ j → j < length net.channels → is_token_role (channel_at net j).role ≡ true →
      is_file_channel i (channel_at net i).role ≡ true
  pub repetition : IsRepetition (map length net.times) net.channels net.round
  pub small_round : sum net.round ≤ ROUND
