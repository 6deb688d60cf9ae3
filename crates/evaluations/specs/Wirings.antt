-- The wiring that the nets which distributions bound share.
use Rattle.std.specs.Prelude.{ℕ, Option, List}
use Rattle.sd_base.specs.Net.{Net}
use Rattle.firing.specs.Wiring.{IsWiringOf}
use Rattle.firing.specs.declared.wiring.Wiring.{Wiring}
use Rattle.storage.specs.BoundedNets.{bound}
use Rattle.storage.specs.Distributions.{IsDistribution}

-- the wiring is that of each net that a distribution bounds
abbrev pub WiresAll : Net → Wiring → Type 0
WiresAll net wiring = (ds : List (Option ℕ)) → IsDistribution net.channels ds → IsWiringOf (bound net ds) wiring
