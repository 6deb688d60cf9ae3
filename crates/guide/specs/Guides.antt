-- The guide of a distribution: the channels that hold it back.
use Rattle.std.specs.Prelude.{◌≡◌, ℕ, ◌<◌, ◌⊎◌, Option, List, length}
use Rattle.sd_base.specs.declared.role.Role.TheVariants.{Space}
use Rattle.sd_base.specs.Net.{Net, channel_at}
use Rattle.sd_base.specs.Untimed.{Blocks, IsEnd}
use Rattle.sd_base.specs.Rates.{IsLoop}
use Rattle.critical.specs.CriticalCycles.{InSecondPass, HasTightNeed}
use Rattle.storage.specs.BoundedNets.{bound}
use Rattle.storage.specs.ShownSpaces.{ShowsSpace}

-- channel c is a storage dependency of the loop: some firing of the second pass starts just when its last need on the free
-- space of c ends
pub record IsDependency (net : Net) (entry period c : ℕ) : Type 0 where
  pub channel : ℕ
  pub place : channel < length net.channels
  pub role : (channel_at net channel).role ≡ Space c
  pub later : ℕ
  pub second : InSecondPass net entry period (channel_at net channel).target later
  pub tight : HasTightNeed net entry period channel later

-- channel c is in the guide of the distribution: where no round can be completed, the counts at which firing ends show it;
-- else it is a storage dependency of the loop
abbrev pub IsInGuide : Net → List (Option ℕ) → ℕ → Type 0
IsInGuide net ds c =
    ((v : ℕ → ℕ) × IsEnd (bound net ds) v × Blocks (bound net ds) v × ShowsSpace net ds v c)
    ⊎ ((entry : ℕ) × (period : ℕ) × IsLoop (bound net ds) entry period × IsDependency (bound net ds) entry period c)
