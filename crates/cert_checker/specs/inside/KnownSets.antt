-- What is known of the members of a certificate before they are checked one by one.
use Rattle.std.specs.Prelude.{◌≡◌, ℕ, ◌≤◌, ◌<◌, ◌↔◌, true, List, Bool, Option, Some, MatchOption, length}
use denote.Ref.{Bor}
use Rattle.std.specs.BTreeMap.{get_by}
use Rattle.std.specs.Cmp.Lexicographic.{slice_cmp}
use Rattle.std.specs.Option.{option_cmp}
use Rattle.std.specs.Ordering.{nat_cmp}
use Rattle.sd_base.specs.Net.{Net}
use Rattle.storage.specs.Distributions.{storage_of}
use Rattle.storage.specs.StorageOrder.{stepped}
use Rattle.cert_text.specs.declared.certificates.MemberLine.{MemberLine}
use Rattle.cert_text.specs.declared.certificates.StorageCertificate.{StorageCertificate}
use Rattle.cert_checker.specs.declared.known.Known.{Known}
use Rattle.cert_checker.specs.declared.listed.Listed.{Listed}
use Rattle.cert_checker.specs.ShownChannels.{Shows, capacities_at, member_at}
use Rattle.cert_checker.specs.inside.Marks.{mark_at}
use Rattle.cert_checker.specs.inside.Spaces.{AreSpaces}

-- the number that is kept for a distribution, if there is one
abbrev pub number_of : Known → List (Option ℕ) → Option ℕ
number_of known ds = get_by (λ (k : Bor (List (Option ℕ))). slice_cmp (option_cmp nat_cmp) ds k.now) known.numbers

-- some of the first n members has these capacities
abbrev pub IsOfFirst : List MemberLine → ℕ → List (Option ℕ) → Type 0
IsOfFirst members n ds = (i : ℕ) × (i < n) × (capacities_at members i ≡ ds)

-- it is that of one of the first n members with these capacities; there is none where no such member is
abbrev pub IsNumber : List MemberLine → ℕ → List (Option ℕ) → Option ℕ → Type 0
IsNumber members n ds number = MatchOption number (IsOfFirst members n ds → ⊥) (λ i. (i < n) × (capacities_at members i ≡ ds))

-- so it is for each distribution and all members
abbrev pub AreMembers : List MemberLine → Known → Type 0
AreMembers members known = (ds : List (Option ℕ)) → IsNumber members (length members) ds (number_of known ds)

-- a member has a child within the limit, which is ds, on some channel below n
pub record IsChild (net : Net) (c : StorageCertificate) (m : MemberLine) (n : ℕ) (ds : List (Option ℕ)) : Type 0 where
  pub channel : ℕ
  pub below : channel < n
  pub shows : Shows net c.limit c.cycles m channel
  pub small : storage_of net.channels (stepped net.channels m.capacities.capacities channel) ≤ c.limit
  pub is : stepped net.channels m.capacities.capacities channel ≡ ds

-- some of the first n members has the child ds
abbrev pub IsChildOfFirst : Net → StorageCertificate → ℕ → List (Option ℕ) → Type 0
IsChildOfFirst net c n ds = (i : ℕ) × (i < n) × IsChild net c (member_at c.members i) (length net.channels) ds

-- of the distributions of members those are marked that are children within the limit
pub record AreChildren (net : Net) (c : StorageCertificate) (known : Known) (marks : List Bool) : Type 0 where
  pub size : length marks ≡ length c.members
  pub exact : (ds : List (Option ℕ)) (i : ℕ) → number_of known ds ≡ Some i → (mark_at marks i ≡ true) ↔ IsChildOfFirst net c (length c.members) ds

-- all of it is of this certificate
pub record IsListing (net : Net) (c : StorageCertificate) (listed : Listed) : Type 0 where
  pub spaces : AreSpaces c.cycles listed.spaces
  pub members : AreMembers c.members listed.members
  pub children : AreChildren net c listed.members listed.children.items
