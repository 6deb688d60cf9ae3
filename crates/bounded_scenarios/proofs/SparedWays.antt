-- Spare room is no way's: a distribution has the ways of what it is rounded down to.
use Rattle.std.proofs.Common.{◌≡◌, ℕ, zero, suc, ◌+◌, ◌-◌, ◌*◌, ◌/◌, ◌%◌, ◌≤◌, ◌<◌, Bool, true, false, Option, None, Some, List, [], ◌∷◌, ◌++◌, length, ⊎_elim, subst, sym, ap, ◌∙◌, refl, arith, mod-lt, div-add-mod'}
use Rattle.std.specs.Prelude.{◌≢◌, slice_get, slice_index, slice_index_or, if◌then◌else◌}
use Rattle.std.specs.Str.{bytes_eq}
use Rattle.std.proofs.lemmas.Option.{get_or_from_slice_get}
use Rattle.std.proofs.lemmas.Slice.Eq.{bytes_eq-Decides}
use Rattle.sd_base.specs.declared.tables.ChannelRow.{ChannelRow}
use Rattle.sd_base.specs.declared.tables.GraphFile.{GraphFile}
use Rattle.sd_base.specs.declared.tables.ScenarioFile.{ScenarioFile}
use Rattle.sd_base.specs.declared.tables.ScenarioRow.{ScenarioRow}
use Rattle.sd_base.specs.declared.tables.SharedRow.{SharedRow}
use Rattle.sd_base.specs.Net.{Channel, Net, channel_at, file_channel, nowhere}
use Rattle.storage.specs.Distributions.{AtMost, IsDistribution, capacity_at}
use Rattle.storage.specs.Steps.{rounded, rounded_at, step_of}
use Rattle.storage.proofs.ChannelSteps.{AreWhole}
use Rattle.storage.proofs.CornerStaysBelow.{rounded-entry, rounded-most}
use Rattle.token_matrix.specs.EntryWays.{CarriesStamps}
use Rattle.token_matrix.specs.Stamps.{first_of, no_row}
use Rattle.token_matrix.specs.Ways.{IsWay}
use Rattle.token_matrix.proofs.NumbersCoverTokens.{RowsDiffer, later_differ}
use Rattle.bounded_scenarios.specs.BoundedFiles.{bounded_graph, space_name, space_row, space_shares}
use Rattle.bounded_scenarios.specs.Boundings.{AreFileNames}
use Rattle.bounded_scenarios.specs.SharedChannels.{channel_named, shared_channel, shared_channels, shared_channels_from}
use Rattle.bounded_scenarios.specs.StorageRates.{bounded_net}
use Rattle.bounded_scenarios.proofs.NetsDifferInSpaces.{BothAt, IsSpaceOfBoth, both-at, both-rows, high-is, low-is, same-ends, same-nets}
use Rattle.bounded_scenarios.proofs.ChannelsFitShared.{FitsShared}
use Rattle.bounded_scenarios.proofs.NumbersNameTokens.{renumbered}
use Rattle.bounded_scenarios.proofs.PushedWays.{alike}
use Rattle.bounded_scenarios.proofs.RenumberedWaysStand.{way-stands}
use Rattle.bounded_scenarios.proofs.TokenMaps.{HasSpare, spared}
use Rattle.bounded_scenarios.proofs.TokensNamed.{tokens-named, tokens_named}
use Rattle.bounded_scenarios.proofs.WayMaps.{spare-left, spare-maps}

-- ---- the step of a channel of a bounded graph by its name: that of its shared channel for a free space, else 1

abbrev pub step_named : List ScenarioRow → ℕ → List SharedRow → List ℕ → ℕ
step_named ss p [] name = 1
step_named ss p (row ∷ rows) name = if bytes_eq (space_name row.name) name then step_of (shared_channel ss p row) else step_named ss (suc p) rows name

plain-step : (ss : List ScenarioRow) (p : ℕ) (rows : List SharedRow) (name : List ℕ) → ((other : List ℕ) → name ≢ space_name other) → step_named ss p rows name ≡ 1
plain-step ss p [] name plain = refl
plain-step ss p (row ∷ rows) name plain = at (bytes_eq (space_name row.name) name) refl (plain-step ss (suc p) rows name plain)
  where
    at : (b : Bool) → bytes_eq (space_name row.name) name ≡ b → step_named ss (suc p) rows name ≡ 1 →
        (if bytes_eq (space_name row.name) name then step_of (shared_channel ss p row) else step_named ss (suc p) rows name) ≡ 1
    at true same rest = absurd (plain row.name (sym ((bytes_eq-Decides (space_name row.name) name).0 same)))
    at false other rest = rw other rest

space-step : (ss : List ScenarioRow) (p : ℕ) (rows : List SharedRow) (t : ℕ) (row : SharedRow) → RowsDiffer rows → slice_get rows t ≡ Some row →
    step_named ss p rows (space_name row.name) ≡ step_of (shared_channel ss (p + t) row)
space-step ss p [] t row differ at = absurd (cc)
space-step ss p (r ∷ rest) zero row differ at =
    let is : r ≡ row = cc in
    let same : bytes_eq (space_name r.name) (space_name row.name) ≡ true = (bytes_eq-Decides (space_name r.name) (space_name row.name)).1 (ap (λ (x : SharedRow). space_name x.name) is) in
    let places : p ≡ p + 0 = omega arith in
    rw same (ap (λ (x : SharedRow). step_of (shared_channel ss p x)) is ∙ ap (λ (n : ℕ). step_of (shared_channel ss n row)) places)
space-step ss p (r ∷ rest) (suc t) row differ at = step (bytes_eq (space_name r.name) (space_name row.name)) refl (space-step ss (suc p) rest t row (later_differ r rest differ) at)
  where
    step : (b : Bool) → bytes_eq (space_name r.name) (space_name row.name) ≡ b → step_named ss (suc p) rest (space_name row.name) ≡ step_of (shared_channel ss (suc p + t) row) →
        (if bytes_eq (space_name r.name) (space_name row.name) then step_of (shared_channel ss p r) else step_named ss (suc p) rest (space_name row.name)) ≡ step_of (shared_channel ss (p + suc t) row)
    step true same rest_is =
        let spaces : space_name r.name ≡ space_name row.name = (bytes_eq-Decides (space_name r.name) (space_name row.name)).0 same in
        let names : r.name ≡ row.name = cc in
        let places : 0 ≡ suc t = differ 0 (suc t) r row refl at names in
        absurd (omega (arith, places))
    step false other rest_is = let places : suc p + t ≡ p + suc t = omega arith in rw other (rest_is ∙ ap (λ (n : ℕ). step_of (shared_channel ss n row)) places)

pub shared-at : (ss : List ScenarioRow) (p : ℕ) (rows : List SharedRow) (t : ℕ) (row : SharedRow) → slice_get rows t ≡ Some row →
    (t < length (shared_channels_from ss p rows)) × (slice_index_or (shared_channels_from ss p rows) t nowhere ≡ shared_channel ss (p + t) row)
shared-at ss p [] t row at = absurd (cc)
shared-at ss p (r ∷ rest) zero row at =
    let is : r ≡ row = cc in
    let places : p ≡ p + 0 = omega arith in
    (omega arith, ap (λ (x : SharedRow). shared_channel ss p x) is ∙ ap (λ (n : ℕ). shared_channel ss n row) places)
shared-at ss p (r ∷ rest) (suc t) row at =
    let next = shared-at ss (suc p) rest t row at in
    let places : suc p + t ≡ p + suc t = omega arith in
    (omega (arith, next.0), next.1 ∙ ap (λ (n : ℕ). shared_channel ss n row) places)

-- the capacity to which one is rounded down
pub rounded-is : (ss : List ScenarioRow) (rows : List SharedRow) (ds : List (Option ℕ)) (t k l : ℕ) (row : SharedRow) → slice_get rows t ≡ Some row →
    slice_get (rounded (shared_channels_from ss 0 rows) ds) t ≡ Some (Some k) → slice_get ds t ≡ Some (Some l) →
    k ≡ rounded_at (shared_channel ss t row) l
rounded-is ss rows ds t k l row at low high =
    let there = shared-at ss 0 rows t row at in
    let has : capacity_at ds t ≡ Some l = get_or_from_slice_get ds t (Some l) None high in
    let entry : capacity_at (rounded (shared_channels_from ss 0 rows) ds) t ≡ Some (rounded_at (slice_index_or (shared_channels_from ss 0 rows) t nowhere) l) = rounded-entry
    (shared_channels_from ss 0 rows) ds t l there.0 has in
    let low_is : capacity_at (rounded (shared_channels_from ss 0 rows) ds) t ≡ Some k = get_or_from_slice_get (rounded (shared_channels_from ss 0 rows) ds) t (Some k) None low in
    let h : ◌≡◌ {A = Option ℕ} (Some k) (Some (rounded_at (slice_index_or (shared_channels_from ss 0 rows) t nowhere) l)) = sym low_is ∙ entry in
    let same : k ≡ rounded_at (slice_index_or (shared_channels_from ss 0 rows) t nowhere) l = cc in
    same ∙ ap (λ (c : Channel). rounded_at c l) (there.1 ∙ ap (λ (n : ℕ). shared_channel ss n row) (let e : 0 + t ≡ t = omega arith in e))

-- the number of a token of the second file, where a token stands for the last spare one of its step
abbrev pub spared_named : List ScenarioRow → List SharedRow → List SharedRow → List SharedRow → List ℕ → ℕ → ℕ
spared_named ss rows low high name m = m / step_named ss 0 rows name * step_named ss 0 rows name + (tokens_named high name - tokens_named low name)

-- what is known of one channel
record IsSparing (c d : ChannelRow) (step : ℕ) : Type 0 where
  some : 1 ≤ step
  small : d.tokens - c.tokens < step
  made : AreWhole step c.made
  taken : AreWhole step c.taken
  whole : (u : ℕ) × (c.tokens ≡ u * step)
  tokens : d.tokens ≡ c.tokens + (d.tokens - c.tokens)

same-sparing : (c : ChannelRow) → IsSparing c c 1
same-sparing c = record {
  some = omega arith;
  small = omega arith;
  made = λ p. (slice_index c.made p, omega arith);
  taken = λ p. (slice_index c.taken p, omega arith);
  whole = (c.tokens, omega arith);
  tokens = omega arith;
}

floor-space : (c : ChannelRow) (s : Channel) (k : ℕ) → c.tokens ≡ s.tokens → rounded_at s k - c.tokens ≡ (k - s.tokens) / step_of s * step_of s
unfolding rounded_at
floor-space c s k same = omega arith

space-sparing : (c : ChannelRow) (s : Channel) (k : ℕ) → FitsShared c s → IsSparing (space_row c (rounded_at s k)) (space_row c k) (step_of s)
space-sparing c s k fits =
    let floor : rounded_at s k - c.tokens ≡ (k - s.tokens) / step_of s * step_of s = floor-space c s k fits.tokens in
    let parts : (k - s.tokens) / step_of s * step_of s + (k - s.tokens) % step_of s ≡ k - s.tokens = div-add-mod' (k - s.tokens) (step_of s) in
    let rest : (k - s.tokens) % step_of s < step_of s = mod-lt (k - s.tokens) fits.some in
    let same : c.tokens ≡ s.tokens = fits.tokens in
    record {
      some = fits.some;
      small = (let f : (k - c.tokens) - (rounded_at s k - c.tokens) < step_of s = omega arith in f);
      made = fits.taken;
      taken = fits.made;
      whole = ((k - s.tokens) / step_of s, floor);
      tokens = (let f : k - c.tokens ≡ (rounded_at s k - c.tokens) + ((k - c.tokens) - (rounded_at s k - c.tokens)) = omega arith in f);
    }

module _ (file : ScenarioFile) (ds : List (Option ℕ)) (g : GraphFile) (gamma : List ℕ) (is : IsDistribution (shared_channels file) ds) (names : AreFileNames g.channels)
    (differ : RowsDiffer file.shared)
    (named : (t : ℕ) (row : SharedRow) → slice_get file.shared t ≡ Some row → (channel_named g.channels row.name).name ≡ row.name)
    (fits : (t : ℕ) (row : SharedRow) → slice_get file.shared t ≡ Some row → FitsShared (channel_named g.channels row.name) (shared_channel file.scenarios t row))
    (low : CarriesStamps (file.shared ++ space_shares file.shared (rounded (shared_channels file) ds)) (bounded_graph file.shared (rounded (shared_channels file) ds) g) gamma)
    (high : CarriesStamps (file.shared ++ space_shares file.shared ds) (bounded_graph file.shared ds g) gamma) where
  -- what the distribution is rounded down to
  abbrev floored : List (Option ℕ)
  floored = rounded (shared_channels file) ds

  abbrev low_shared : List SharedRow
  low_shared = file.shared ++ space_shares file.shared floored

  abbrev high_shared : List SharedRow
  high_shared = file.shared ++ space_shares file.shared ds

  abbrev low_graph : GraphFile
  low_graph = bounded_graph file.shared floored g

  abbrev high_graph : GraphFile
  high_graph = bounded_graph file.shared ds g

  abbrev low_net : Net
  low_net = bounded_net file.shared floored g gamma

  abbrev high_net : Net
  high_net = bounded_net file.shared ds g gamma

  abbrev moved : List ℕ → ℕ → ℕ
  moved = spared_named file.scenarios file.shared low_shared high_shared

  most : AtMost floored ds
  most = rounded-most (shared_channels file) ds is

  name_of : ℕ → List ℕ
  name_of i = (slice_index_or low_graph.channels i no_row).name

  pub step : ℕ → ℕ
  step i = step_named file.scenarios 0 file.shared (name_of i)

  pub spare : ℕ → ℕ
  spare i = (channel_at high_net i).tokens - (channel_at low_net i).tokens

  name-is : (i : ℕ) (c : ChannelRow) → slice_get low_graph.channels i ≡ Some c → step i ≡ step_named file.scenarios 0 file.shared c.name
  unfolding step name_of
  name-is i c at = ap (λ (x : ChannelRow). step_named file.scenarios 0 file.shared x.name) (get_or_from_slice_get low_graph.channels i c no_row at)

  sparing : (i : ℕ) (both : BothAt g file.shared floored ds i) → IsSparing both.c both.d (step i)
  sparing i both = subst (IsSparing both.c both.d) (sym (name-is i both.c both.first)) (⊎_elim at_file at_space both.what)
    where
      at_file : (slice_get g.channels i ≡ Some both.c) × (both.d ≡ both.c) → IsSparing both.c both.d (step_named file.scenarios 0 file.shared both.c.name)
      at_file (here, same) =
          let one : step_named file.scenarios 0 file.shared both.c.name ≡ 1 = plain-step file.scenarios 0 file.shared both.c.name (λ other. names i both.c other here) in
          subst (IsSparing both.c both.d) (sym one) (subst (λ (x : ChannelRow). IsSparing both.c x 1) (sym same) (same-sparing both.c))

      at_space : IsSpaceOfBoth g file.shared floored ds i both.c both.d → IsSparing both.c both.d (step_named file.scenarios 0 file.shared both.c.name)
      at_space space =
          let name : both.c.name ≡ space_name space.row.name = ap (λ (x : ChannelRow). x.name) space.first ∙ ap space_name (named space.place space.row space.at) in
          let step_is : step_named file.scenarios 0 file.shared both.c.name ≡ step_of (shared_channel file.scenarios space.place space.row) =
          ap (step_named file.scenarios 0 file.shared) name
          ∙ (space-step file.scenarios 0 file.shared space.place space.row differ space.at
          ∙ ap (λ (n : ℕ). step_of (shared_channel file.scenarios n space.row)) (let e : 0 + space.place ≡ space.place = omega arith in e)) in
          let room : space.low ≡ rounded_at (shared_channel file.scenarios space.place space.row) space.high =
          rounded-is file.scenarios file.shared ds space.place space.low space.high space.row space.at space.low_at space.high_at in
          let first : both.c ≡ space_row (channel_named g.channels space.row.name) (rounded_at (shared_channel file.scenarios space.place space.row) space.high) = space.first
          ∙ ap (space_row (channel_named g.channels space.row.name)) room in
          subst (IsSparing both.c both.d) (sym step_is) (subst (λ (x : ChannelRow). IsSparing x both.d (step_of (shared_channel file.scenarios space.place space.row))) (sym first)
          (subst (λ (x : ChannelRow). IsSparing (space_row (channel_named g.channels space.row.name) (rounded_at (shared_channel file.scenarios space.place space.row) space.high)) x
          (step_of (shared_channel file.scenarios space.place space.row))) (sym space.second)
          (space-sparing (channel_named g.channels space.row.name) (shared_channel file.scenarios space.place space.row) space.high (fits space.place space.row space.at))))

  one-at : (i : ℕ) → i < length low_net.channels → BothAt g file.shared floored ds i
  one-at i below = both-at g gamma file.shared floored ds most low.kind low.rules high.rules i below

  low-at : (i : ℕ) (both : BothAt g file.shared floored ds i) → channel_at low_net i ≡ file_channel i both.c
  low-at i both = low-is g gamma file.shared floored ds most low.kind low.rules high.rules i both

  high-at : (i : ℕ) (both : BothAt g file.shared floored ds i) → channel_at high_net i ≡ file_channel i both.d
  high-at i both = high-is g gamma file.shared floored ds most low.kind low.rules high.rules i both

  spare-is : (i : ℕ) (both : BothAt g file.shared floored ds i) → spare i ≡ both.d.tokens - both.c.tokens
  unfolding spare
  spare-is i both =
      let one : (channel_at low_net i).tokens ≡ both.c.tokens = ap (λ (x : Channel). x.tokens) (low-at i both) in
      let two : (channel_at high_net i).tokens ≡ both.d.tokens = ap (λ (x : Channel). x.tokens) (high-at i both) in
      omega (arith, one, two)

  pub has-spare : HasSpare low_net high_net step spare
  has-spare = record {
    same = same-nets g gamma file.shared floored ds most low.kind low.rules high.rules;
    some = λ i below. (sparing i (one-at i below)).some;
    small = λ i below. (let both = one-at i below in let one = spare-is i both in let two = (sparing i both).small in omega (arith, one, two));
    made = λ i below. (let both = one-at i below in subst (λ (x : Channel). AreWhole (step i) x.made) (sym (low-at i both)) (sparing i both).made);
    taken = λ i below. (let both = one-at i below in subst (λ (x : Channel). AreWhole (step i) x.taken) (sym (low-at i both)) (sparing i both).taken);
    whole = λ i below. (let both = one-at i below in subst (λ (x : Channel). (u : ℕ) × (x.tokens ≡ u * step i)) (sym (low-at i both)) (sparing i both).whole);
    tokens = λ i below. (
        let both = one-at i below in
        let one : (channel_at low_net i).tokens ≡ both.c.tokens = ap (λ (x : Channel). x.tokens) (low-at i both) in
        let two : (channel_at high_net i).tokens ≡ both.d.tokens = ap (λ (x : Channel). x.tokens) (high-at i both) in
        let three = spare-is i both in
        let four = (sparing i both).tokens in
        omega (arith, one, two, three, four));
  }

  agree : (i m : ℕ) (c : ChannelRow) → slice_get low_graph.channels i ≡ Some c →
      moved c.name m ≡ spared step spare i m
  agree i m c at =
      let both = both-rows g file.shared floored ds most i c at in
      let same : both.c ≡ c = (let h : ◌≡◌ {A = Option ChannelRow} (Some both.c) (Some c) = sym both.first ∙ at in (cc)) in
      let name : both.d.name ≡ c.name = (same-ends g file.shared floored ds i both).name ∙ ap (λ (x : ChannelRow). x.name) same in
      let one : tokens_named low_shared c.name ≡ c.tokens = tokens-named low_shared low_graph low.shares i c at in
      let two : tokens_named high_shared c.name ≡ both.d.tokens = ap (tokens_named high_shared) (sym name) ∙ tokens-named high_shared high_graph high.shares i both.d both.second in
      let three : both.c.tokens ≡ c.tokens = ap (λ (x : ChannelRow). x.tokens) same in
      let four = spare-is i both in
      let left : tokens_named high_shared c.name - tokens_named low_shared c.name ≡ spare i = omega (arith, one, two, three, four) in
      let steps : step_named file.scenarios 0 file.shared c.name ≡ step i = sym (name-is i c at) in
      ap (λ (n : ℕ). m / n * n + (tokens_named high_shared c.name - tokens_named low_shared c.name)) steps
      ∙ ap (λ (n : ℕ). m / step i * step i + n) left

  -- each way of what the distribution is rounded down to is one of it
  pub way-spared : (cs : List ℕ) (p q e : ℕ) → IsWay low_net (first_of low_shared low_graph) p q e cs →
      IsWay high_net (first_of high_shared high_graph)
      (renumbered low_shared high_shared moved p)
      (renumbered low_shared high_shared moved q) e cs
  way-spared cs p q e way =
      way-stands low_shared high_shared low_graph high_graph gamma low.rules low.kind low.shares
      (alike file floored ds g gamma most low high)
      moved (spared step spare) agree p q e cs
      (spare-maps low_net high_net step spare has-spare cs)
      (λ i k below number. spare-left low_net high_net step spare has-spare (first_of high_shared high_graph)
      (renumbered low_shared high_shared moved q) i k below number) way
