-- Rates that bound those of all distributions.
use Rattle.std.specs.Prelude.{ℕ, ◌*◌, ◌≤◌, Option, List}
use Rattle.sd_base.specs.declared.numbers.Fraction.{Fraction}
use Rattle.sd_base.specs.Net.{Net}
use Rattle.sd_base.specs.Rates.{Rate}
use Rattle.storage.specs.BoundedNets.{bound}
use Rattle.storage.specs.Distributions.{IsDistribution}

-- no storage distribution, of whatever storage, has a greater rate
abbrev pub IsGreatest : Net → Fraction → Type 0
IsGreatest net rate = (ds : List (Option ℕ)) (x y : ℕ) → IsDistribution net.channels ds → Rate (bound net ds) x y → x * rate.den ≤ rate.num * y
