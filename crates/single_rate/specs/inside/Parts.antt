-- What the steps of an expansion give.
use Rattle.std.specs.Prelude.{◌≡◌, Bool, ℕ, ◌+◌, ◌*◌, ◌<◌, ◌≤◌, true, false, nat_lt, List, ◌++◌, length, Result, MatchResult, slice_index}
use Rattle.std.specs.List.{list_any}
use Rattle.sd_base.specs.declared.limits.TheConstants.{CHANNELS, NAME_BYTES}
use Rattle.sd_base.specs.declared.limits.Quantity.TheVariants as quantities
use Rattle.sd_base.specs.declared.tables.ActorRow.{ActorRow}
use Rattle.sd_base.specs.Net.{Net, channel_at, total}
use Rattle.single_rate.specs.Expansions.{first_copy}
use Rattle.single_rate.specs.declared.expansion.ExpandError.{ExpandError}
use Rattle.single_rate.specs.declared.expansion.ExpandError.TheVariants.{Limit, NoMemory}
use Rattle.single_rate.specs.declared.links.Link.{Link}
use Rattle.single_rate.specs.declared.links.Span.{Span}
use Rattle.single_rate.specs.declared.links.Taker.{Taker}

-- a row has a name that is too long
abbrev pub is_long : ActorRow → Bool
is_long a = nat_lt NAME_BYTES (length a.name)

-- some row of these has a name that is too long
abbrev pub IsLongIn : List ActorRow → ExpandError → Type 0
IsLongIn rows NoMemory = Unit {0}
IsLongIn rows (Limit what) = (what ≡ quantities.NameBytes) × (list_any is_long rows ≡ true)

-- rows are put behind others, and none of them has a name that is too long
abbrev pub ArePut : Result (Unit {0}) ExpandError → List ActorRow → List ActorRow → List ActorRow → Type 0
ArePut result old new rows = MatchResult result (λ _. (new ≡ old ++ rows) × (list_any is_long rows ≡ false)) (λ e. IsLongIn rows e)

-- a row is this one, and its name isn't too long; or it is
abbrev pub IsLong : ActorRow → ExpandError → Type 0
IsLong row NoMemory = Unit {0}
IsLong row (Limit what) = (what ≡ quantities.NameBytes) × (is_long row ≡ true)

-- so many links are more than channels may be
abbrev pub AreMoreThan : ℕ → ExpandError → Type 0
AreMoreThan n NoMemory = Unit {0}
AreMoreThan n (Limit what) = (what ≡ quantities.Channels) × (CHANNELS < n)

-- links are put behind others, and all are no more than channels may be; or they are more
abbrev pub AreAdded : Result (Unit {0}) ExpandError → List Link → List Link → List Link → Type 0
AreAdded result old new added = MatchResult result (λ _. (new ≡ old ++ added) × (length new ≤ CHANNELS)) (λ e. AreMoreThan (length old + length added) e)

-- by actor the number of its copy 0
pub record AreFirsts (net : Net) (firsts : List ℕ) : Type 0 where
  pub actors : length firsts ≡ length net.times
  pub each : (a : ℕ) → a < length net.times → slice_index firsts a ≡ first_copy net a

-- tokens by their numbers, those that firing k makes or takes
pub record IsSpan (rates : List ℕ) (k : ℕ) (span : Span) : Type 0 where
  pub first : span.first ≡ total rates k
  pub end : span.end ≡ total rates (k + 1)

-- a copy of the target of channel x, with the tokens of its firing and of a round
pub record IsTaker (net : Net) (x : ℕ) (taker : Taker) : Type 0 where
  pub firing : taker.firing < slice_index net.round (channel_at net x).target
  pub taken : IsSpan (channel_at net x).taken taker.firing taker.taken
  pub round : taker.round ≡ total (channel_at net x).taken (slice_index net.round (channel_at net x).target)

-- so many rounds on, the tokens that are taken meet those that are made
pub record MeetsAfter (tokens round : ℕ) (made taken : Span) (d : ℕ) : Type 0 where
  pub makes : made.first < made.end
  pub takes : taken.first < taken.end
  pub not_after : taken.first + d * round < tokens + made.end
  pub not_before : tokens + made.first < taken.end + d * round
