-- Members of a trade-off, and the channels on which they show that more room may help.
use Rattle.std.specs.Prelude.{◌≡◌, ℕ, ◌≤◌, ◌<◌, List, [], Option, Some, length, slice_index, slice_index_or}
use Rattle.sd_base.specs.declared.role.Role.TheVariants.{Space}
use Rattle.sd_base.specs.Net.{Net}
use Rattle.storage.specs.Distributions.{IsDistribution, capacity_at, storage_of}
use Rattle.storage.specs.ShownSpaces.{ShowsSpace}
use Rattle.cert_text.specs.declared.certificates.LinkCycle.{LinkCycle}
use Rattle.cert_text.specs.declared.certificates.MemberLine.{MemberLine}
use Rattle.cert_text.specs.declared.certificates.MemberShown.{MemberShown}
use Rattle.cert_text.specs.declared.certificates.MemberShown.TheVariants.{Cycle, Blocked}
use Rattle.cert_text.specs.declared.certificates.LinkStep.{LinkStep}
use Rattle.cert_text.specs.MemberLines.{cycle_at}

-- what stands for a member past the last one, and for a step past the last one
abbrev pub no_member : MemberLine
no_member = record { capacities = record { capacities = [] }; shown = Blocked [] }

abbrev pub no_link : LinkStep
no_link = record { to = record { actor = 0; number = 0 }; link = Space 0 }

abbrev pub member_at : List MemberLine → ℕ → MemberLine
member_at members i = slice_index_or members i no_member

-- the capacities of member i
abbrev pub capacities_at : List MemberLine → ℕ → List (Option ℕ)
capacities_at members i = (member_at members i).capacities.capacities

-- some member has these capacities
abbrev pub IsMember : List MemberLine → List (Option ℕ) → Type 0
IsMember members ds = (i : ℕ) × (i < length members) × (capacities_at members i ≡ ds)

-- a capacity for each channel but self-loops, that covers its tokens, and no more storage than the limit
pub record IsWithin (net : Net) (limit : ℕ) (ds : List (Option ℕ)) : Type 0 where
  pub distribution : IsDistribution net.channels ds
  pub storage : storage_of net.channels ds ≤ limit

-- a step of the cycle is along the free space of channel c, which has a capacity
pub record IsAlongSpace (ds : List (Option ℕ)) (cycle : LinkCycle) (c : ℕ) : Type 0 where
  pub room : ℕ
  pub has : capacity_at ds c ≡ Some room
  pub place : ℕ
  pub step : place < length cycle.steps
  pub link : (slice_index_or cycle.steps place no_link).link ≡ Space c

-- of the counts, one for each actor, some actor below its round lacks no token, but space on channel c
pub record IsFull (net : Net) (ds : List (Option ℕ)) (counts : List ℕ) (c : ℕ) : Type 0 where
  pub actors : length counts ≡ length net.times
  pub shows : ShowsSpace net ds (slice_index counts) c

-- what is listed of a distribution shows channel c, whether it is right or not
abbrev pub IsShownBy : Net → List LinkCycle → List (Option ℕ) → MemberShown → ℕ → Type 0
IsShownBy net cycles ds (Cycle rate cycle) c = IsAlongSpace ds (cycle_at cycles cycle) c
IsShownBy net cycles ds (Blocked counts) c = IsFull net ds counts c

-- a member shows channel c; one whose capacities are wrong shows none
pub record Shows (net : Net) (limit : ℕ) (cycles : List LinkCycle) (member : MemberLine) (c : ℕ) : Type 0 where
  pub within : IsWithin net limit member.capacities.capacities
  pub by : IsShownBy net cycles member.capacities.capacities member.shown c
