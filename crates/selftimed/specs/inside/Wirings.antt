-- The wiring that an engine has.
use Rattle.firing.specs.declared.wiring.Wiring.{Wiring}
use Rattle.selftimed.specs.declared.wiring.EngineWiring.{EngineWiring}
use Rattle.selftimed.specs.declared.wiring.EngineWiring.TheVariants.{Made, Lent}

-- the one that it made, or the one that it was lent
abbrev pub wiring_in : EngineWiring → Wiring
wiring_in (Made w) = w
wiring_in (Lent w) = w.now
