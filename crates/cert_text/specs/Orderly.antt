-- Which certificates list their cycles in order, each once.
use Rattle.std.specs.Prelude.{◌≡◌, ◌≢◌, ℕ, suc, ◌<◌, List, [], ◌∷◌, Option, Some, None, All, length, nat_lt, ◌==◌, if◌then◌else◌}
use Rattle.cert_text.specs.declared.certificates.Certificate.{Certificate}
use Rattle.cert_text.specs.declared.certificates.Certificate.TheVariants.{Rate, Storage, Scenario}
use Rattle.cert_text.specs.declared.certificates.LinkCycle.{LinkCycle}
use Rattle.cert_text.specs.declared.certificates.MemberLine.{MemberLine}
use Rattle.cert_text.specs.declared.certificates.MemberShown.{MemberShown}
use Rattle.cert_text.specs.declared.certificates.MemberShown.TheVariants.{Cycle, Blocked}
use Rattle.cert_text.specs.declared.certificates.StorageCertificate.{StorageCertificate}
use Rattle.cert_text.specs.MemberLines.{cycle_at}

-- how many cycles are named once a member after those that name the first `used` names one of these or the next
abbrev pub used_with : ℕ → MemberShown → Option ℕ
used_with used (Cycle rate cycle) = if nat_lt cycle used then Some used else if cycle == used then Some (suc used) else None
used_with used (Blocked counts) = Some used

-- how many cycles the members name, where each names one that was named before it or the next one
unfoldable pub used_by : ℕ → List MemberLine → Option ℕ
used_by used [] = Some used
used_by used (m ∷ ms) = elim (used_with used m.shown) [ Some more ↦ used_by more ms | None ↦ None ]

-- what a member shows names no cycle past the first n
abbrev pub NamesOneOf : ℕ → MemberShown → Type 0
NamesOneOf n (Cycle rate cycle) = cycle < n
NamesOneOf n (Blocked counts) = Unit {0}

abbrev pub NameOnes : ℕ → List MemberLine → Type 0
NameOnes n members = All (λ (m : MemberLine). NamesOneOf n m.shown) members

-- no cycle is listed twice
abbrev pub Differ : List LinkCycle → Type 0
Differ cycles = (i j : ℕ) → i < j → j < length cycles → cycle_at cycles i ≢ cycle_at cycles j

-- the cycles differ and stand in the order in which members first name them; each is named
pub record IsStorageOrderly (c : StorageCertificate) : Type 0 where
  pub differ : Differ c.cycles
  pub used : used_by 0 c.members ≡ Some (length c.cycles)

abbrev pub IsOrderly : Certificate → Type 0
IsOrderly (Rate c) = Unit {0}
IsOrderly (Storage c) = IsStorageOrderly c
IsOrderly (Scenario c) = Unit {0}
