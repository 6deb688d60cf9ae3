-- The channels of a net by what they stand for.
use Rattle.std.specs.Prelude.{◌≡◌, ◌≢◌, ℕ, ◌<◌, Option, MatchOption, length}
use Rattle.std.specs.BTreeMap.{get}
use Rattle.std.specs.declared.cmp.Ordering.{Ordering}
use Rattle.std.specs.Ordering.{nat_cmp, ordering_then}
use Rattle.sd_base.specs.declared.role.Role.{Role}
use Rattle.sd_base.specs.declared.role.Role.TheVariants.{Token, Own, Space, Order}
use Rattle.sd_base.specs.Net.{Net, channel_at}
use Rattle.cert_checker.specs.declared.links.Links.{Links}

-- a role as its kind and what it names
abbrev pub key_of : Role → ℕ × ℕ × ℕ
key_of (Token c) = (0, c, 0)
key_of (Own a) = (1, a, 0)
key_of (Space c) = (2, c, 0)
key_of (Order a b) = (3, a, b)

-- keys are in order of their numbers, the first one first
abbrev pub key_cmp : ℕ × ℕ × ℕ → ℕ × ℕ × ℕ → Ordering
key_cmp x y = ordering_then (ordering_then (nat_cmp x.0 y.0) (nat_cmp x.1 y.1)) (nat_cmp x.2 y.2)

-- the channel that is kept for a role, if there is one
abbrev pub channel_in : Links → Role → Option ℕ
channel_in links role = get key_cmp links.channels (key_of role)

-- it is one of the first n channels, which stands for the role; there is none where no such channel is
abbrev pub IsLink : Net → ℕ → Role → Option ℕ → Type 0
IsLink net n role channel = MatchOption channel ((i : ℕ) → i < n → (channel_at net i).role ≢ role) (λ i. (i < n) × ((channel_at net i).role ≡ role))

-- so it is for each role and all channels
abbrev pub AreLinks : Net → Links → Type 0
AreLinks net links = (role : Role) → IsLink net (length net.channels) role (channel_in links role)
