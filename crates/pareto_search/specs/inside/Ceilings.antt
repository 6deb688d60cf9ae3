-- Rates that bound those of all distributions.
use Rattle.std.specs.Prelude.{ℕ, ◌*◌, ◌≤◌, Option, List}
use Rattle.sd_base.specs.declared.numbers.Fraction.{Fraction}
use Rattle.sd_base.specs.Net.{Net}
use Rattle.sd_base.specs.Lawful.{Lawful}
use Rattle.sd_base.specs.Rates.{Rate}
use Rattle.storage.specs.BoundedNets.{bound}

-- no distribution has a greater rate, of those whose bounded nets keep the laws of nets
abbrev pub BoundsAll : Net → Fraction → Type 0
BoundsAll net rate = (ds : List (Option ℕ)) (p q : ℕ) → Lawful (bound net ds) → Rate (bound net ds) p q → p * rate.den ≤ rate.num * q
