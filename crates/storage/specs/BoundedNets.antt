-- The net bounded by a distribution.
use Rattle.std.specs.Prelude.{◌≡◌, ℕ, suc, ◌-◌, ◌<◌, false, Option, None, Some, List, [], ◌∷◌, ◌++◌, length}
use Rattle.sd_base.specs.declared.role.Role.TheVariants.{Space}
use Rattle.sd_base.specs.Net.{Channel, Net, channel_at}
use Rattle.sd_base.specs.Lawful.{is_space_role}

-- the free space of channel i of the file at capacity k: a firing of the source takes it at its start, and one of the target
-- frees it at its end
abbrev pub space_of : ℕ → Channel → ℕ → Channel
space_of i c k = record { source = c.target; target = c.source; made = c.taken; taken = c.made; tokens = k - c.tokens; size = c.size; role = Space i }

-- the free spaces of the channels from i on that have a capacity
abbrev pub spaces_from : ℕ → List Channel → List (Option ℕ) → List Channel
spaces_from i [] ds = []
spaces_from i (c ∷ cs) [] = []
spaces_from i (c ∷ cs) (None ∷ ds) = spaces_from (suc i) cs ds
spaces_from i (c ∷ cs) (Some k ∷ ds) = space_of i c k ∷ spaces_from (suc i) cs ds

-- the net with a space channel for each capacity
abbrev pub bound : Net → List (Option ℕ) → Net
bound net ds = record { times = net.times; channels = net.channels ++ spaces_from 0 net.channels ds; round = net.round }

-- no channel of the net is a free space
abbrev pub HasNoSpaces : Net → Type 0
HasNoSpaces net = (i : ℕ) → i < length net.channels → is_space_role (channel_at net i).role ≡ false
