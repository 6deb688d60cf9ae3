-- What a circular wait of a blocked net bounds.
use Rattle.std.specs.Prelude.{◌≡◌, ℕ, ◌≤◌, Contains, Option, Some, List, [], ◌∷◌, ◌++◌}
use Rattle.sd_base.specs.declared.role.Role.{Role}
use Rattle.sd_base.specs.declared.role.Role.TheVariants.{Token, Own, Space, Order}
use Rattle.sd_base.specs.Net.{Net}
use Rattle.sd_base.specs.Lawful.{Lawful}
use Rattle.sd_base.specs.Rates.{Rate}
use Rattle.storage.specs.BoundedNets.{bound}
use Rattle.storage.specs.Distributions.{capacity_at}

-- each distribution that has no more room than this one on the channels has the rate 0, whatever room it has on others
abbrev pub StopsAll : Net → List (Option ℕ) → List ℕ → Type 0
StopsAll net ds channels =
    (es : List (Option ℕ)) (x y : ℕ) → Lawful (bound net es) →
    ((c k : ℕ) → Contains channels c → capacity_at ds c ≡ Some k → (n : ℕ) × (capacity_at es c ≡ Some n) × (n ≤ k)) →
    Rate (bound net es) x y → x ≡ 0

-- the number of a free space stands last in the list, and nothing more for another channel
abbrev pub AddsSpace : List ℕ → List ℕ → Role → Type 0
AddsSpace old new (Token c) = new ≡ old
AddsSpace old new (Own a) = new ≡ old
AddsSpace old new (Space c) = new ≡ old ++ c ∷ []
AddsSpace old new (Order a b) = new ≡ old
