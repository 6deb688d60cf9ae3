-- The two ends of a channel.
use Rattle.std.specs.Prelude.{ℕ, List}
use Rattle.sd_base.specs.Net.{Channel}
use Rattle.firing.specs.declared.sums.Port.{Port}
use Rattle.firing.specs.declared.sums.Port.TheVariants.{Made, Taken}

-- the rates at an end of a channel, by phase
abbrev pub rates_at : Port → Channel → List ℕ
rates_at Made c = c.made
rates_at Taken c = c.taken
