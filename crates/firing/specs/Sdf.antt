-- The plain net of a synchronous net's tables.
use Rattle.std.specs.Prelude.{ℕ, List, [], ◌∷◌, map}
use Rattle.sd_base.specs.Net.{Channel, Net}
use Rattle.firing.specs.declared.sdf.SdfChannel.{SdfChannel}

-- a channel with one rate at each end
abbrev pub plain_channel : SdfChannel → Channel
plain_channel c = record { source = c.source; target = c.target; made = c.made ∷ []; taken = c.taken ∷ []; tokens = c.tokens; size = c.size; role = c.role }

-- one time an actor
abbrev pub plain_net : List ℕ → List SdfChannel → List ℕ → Net
plain_net times channels rounds = record { times = map (λ t. t ∷ []) times; channels = map plain_channel channels; round = rounds }
