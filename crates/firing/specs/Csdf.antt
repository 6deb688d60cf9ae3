-- The plain net of a cyclo-static net's tables.
use Rattle.std.specs.Prelude.{ℕ, ◌≤◌, List, length, map, All}
use Rattle.sd_base.specs.declared.limits.TheConstants.{RATE, ROUND}
use Rattle.sd_base.specs.Net.{Channel, Net}
use Rattle.firing.specs.declared.csdf.CsdfChannel.{CsdfChannel}

-- rates by phase, at most one for each firing of a round, within their limit
pub record AreRates (rates : List ℕ) : Type 0 where
  pub few : length rates ≤ ROUND
  pub small : All (λ r. r ≤ RATE) rates

-- a channel with its rates by phase
abbrev pub phased_channel : CsdfChannel → Channel
phased_channel c = record { source = c.source; target = c.target; made = c.made; taken = c.taken; tokens = c.tokens; size = c.size; role = c.role }

-- times by actor and phase
abbrev pub phased_net : List (List ℕ) → List CsdfChannel → List ℕ → Net
phased_net times channels rounds = record { times = times; channels = map phased_channel channels; round = rounds }
