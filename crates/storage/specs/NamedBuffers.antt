-- Buffers by the names of channels, and the distribution that they give.
use Rattle.std.specs.Prelude.{◌≡◌, ℕ, Bool, not, ◌&&◌, ◌==◌, nat_lt, List, [], ◌∷◌, map, Option, Some, None, if◌then◌else◌}
use Rattle.std.specs.List.{find, list_any}
use Rattle.std.specs.Option.{option_map, option_or}
use Rattle.std.specs.Str.{bytes_eq}
use Rattle.sd_base.specs.declared.tables.ChannelRow.{ChannelRow}
use Rattle.storage.specs.declared.buffers.BufferError.{BufferError}
use Rattle.storage.specs.declared.buffers.BufferError.TheVariants.{Unknown, SelfLoop, BelowTokens, NoMemory}

-- the name of a channel, and its capacity
abbrev pub Buffer : Type 0
Buffer = List ℕ × ℕ

-- some channel of this name passes a test
abbrev pub has_named : List ChannelRow → List ℕ → (ChannelRow → Bool) → Bool
has_named channels name test = list_any (λ (c : ChannelRow). bytes_eq c.name name && test c) channels

-- what is wrong with a buffer: no channel has its name; that channel is a self-loop; or has more tokens than the capacity
unfoldable pub fault_of : List ChannelRow → Buffer → Option BufferError
fault_of channels b =
    if not (list_any (λ (c : ChannelRow). bytes_eq c.name b.0) channels) then Some (Unknown b.0)
    else if has_named channels b.0 (λ c. c.source == c.target) then Some (SelfLoop b.0)
    else if has_named channels b.0 (λ c. nat_lt b.1 c.tokens) then Some (BelowTokens b.0)
    else None

-- the first fault of buffers
unfoldable pub first_fault : List ChannelRow → List Buffer → Option BufferError
first_fault channels [] = None
first_fault channels (b ∷ bs) = option_or (fault_of channels b) (first_fault channels bs)

-- the capacity that a name is given, or none
abbrev pub capacity_named : List Buffer → List ℕ → Option ℕ
capacity_named buffers name = option_map (λ (b : Buffer). b.1) (find (λ (b : Buffer). bytes_eq b.0 name) buffers)

-- by channel the capacity that its name is given
abbrev pub capacities_of : List ChannelRow → List Buffer → List (Option ℕ)
capacities_of channels buffers = map (λ (c : ChannelRow). capacity_named buffers c.name) channels

-- a refusal is the fault that is meant, unless memory ran out
abbrev pub Tells : BufferError → Option BufferError → Type 0
Tells NoMemory meant = Unit {0}
Tells e meant = meant ≡ Some e
