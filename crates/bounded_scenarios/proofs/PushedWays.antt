-- A distribution with more room elsewhere, and one with spare room, have the ways of a bounded file.
use Rattle.std.proofs.Common.{◌≡◌, ℕ, ◌+◌, ◌-◌, ◌<◌, Option, None, Some, List, ◌++◌, length, ⊎_elim, sym, ap, ◌∙◌, arith}
use Rattle.std.specs.Prelude.{Contains, slice_get, slice_index}
use Rattle.std.proofs.lemmas.List.{get_or_default}
use Rattle.std.proofs.lemmas.Option.{get_or_from_slice_get}
use Rattle.sd_base.specs.declared.tables.ChannelRow.{ChannelRow}
use Rattle.sd_base.specs.declared.tables.GraphFile.{GraphFile}
use Rattle.sd_base.specs.declared.tables.ScenarioFile.{ScenarioFile}
use Rattle.sd_base.specs.declared.tables.SharedRow.{SharedRow}
use Rattle.sd_base.specs.Net.{Channel, Net, channel_at}
use Rattle.storage.specs.ClosedLists.{AgreesOn}
use Rattle.storage.specs.Distributions.{AtMost, capacity_at}
use Rattle.token_matrix.specs.EntryWays.{CarriesStamps}
use Rattle.token_matrix.specs.Stamps.{first_of}
use Rattle.token_matrix.specs.Ways.{IsWay}
use Rattle.bounded_scenarios.specs.BoundedFiles.{bounded_graph, space_name, space_shares}
use Rattle.bounded_scenarios.specs.ScenarioGuides.{IsSpaceFor}
use Rattle.bounded_scenarios.specs.SharedChannels.{channel_named}
use Rattle.bounded_scenarios.specs.ShownSpaces.{ShowsTaken}
use Rattle.bounded_scenarios.specs.StorageRates.{bounded_net}
use Rattle.bounded_scenarios.proofs.NetsDifferInSpaces.{BothAt, IsSpaceOfBoth, both-at, both-rows, high-is, low-is, roomier, same-ends}
use Rattle.bounded_scenarios.proofs.NumbersNameTokens.{renumbered}
use Rattle.bounded_scenarios.proofs.RenumberedWaysStand.{IsNamedAlike, way-stands}
use Rattle.bounded_scenarios.proofs.TokenMaps.{pushed}
use Rattle.bounded_scenarios.proofs.TokensNamed.{tokens-named, tokens_named}
use Rattle.bounded_scenarios.proofs.WayMaps.{pushed-left, pushed-maps}

-- a shown channel has the same capacity in distributions that agree
pub agreed : (shown : List ℕ) (ds es : List (Option ℕ)) (c k l : ℕ) → AgreesOn shown ds es → Contains shown c → slice_get ds c ≡ Some (Some k) → slice_get es c ≡ Some (Some l) → k ≡ l
agreed shown ds es c k l agrees has low high =
    let place : slice_index shown has.0 ≡ c = get_or_default shown has.0 0 c has.1 ∙ has.2 in
    let same : capacity_at ds (slice_index shown has.0) ≡ capacity_at es (slice_index shown has.0) = agrees has.0 has.1 in
    let first : capacity_at ds (slice_index shown has.0) ≡ Some k = ap (capacity_at ds) place ∙ get_or_from_slice_get ds c (Some k) None low in
    let second : capacity_at es (slice_index shown has.0) ≡ Some l = ap (capacity_at es) place ∙ get_or_from_slice_get es c (Some l) None high in
    let h : ◌≡◌ {A = Option ℕ} (Some k) (Some l) = sym first ∙ (same ∙ second) in
    cc

-- the number of a token of the second file, where tokens more than before stand first
abbrev pub pushed_named : List SharedRow → List SharedRow → List ℕ → ℕ → ℕ
pushed_named low high name m = m + (tokens_named high name - tokens_named low name)

module _ (file : ScenarioFile) (ds es : List (Option ℕ)) (g : GraphFile) (gamma : List ℕ) (most : AtMost ds es)
    (low : CarriesStamps (file.shared ++ space_shares file.shared ds) (bounded_graph file.shared ds g) gamma)
    (high : CarriesStamps (file.shared ++ space_shares file.shared es) (bounded_graph file.shared es g) gamma) where
  abbrev low_shared : List SharedRow
  low_shared = file.shared ++ space_shares file.shared ds

  abbrev high_shared : List SharedRow
  high_shared = file.shared ++ space_shares file.shared es

  abbrev low_graph : GraphFile
  low_graph = bounded_graph file.shared ds g

  abbrev high_graph : GraphFile
  high_graph = bounded_graph file.shared es g

  abbrev low_net : Net
  low_net = bounded_net file.shared ds g gamma

  abbrev high_net : Net
  high_net = bounded_net file.shared es g gamma

  abbrev moved : List ℕ → ℕ → ℕ
  moved = pushed_named low_shared high_shared

  pub alike : IsNamedAlike low_graph high_graph
  alike i c at =
      let both = both-rows g file.shared ds es most i c at in
      let same : both.c ≡ c = (let h : ◌≡◌ {A = Option ChannelRow} (Some both.c) (Some c) = sym both.first ∙ at in (cc)) in
      (both.d, both.second, (same-ends g file.shared ds es i both).name ∙ ap (λ (x : ChannelRow). x.name) same)

  agree : (i m : ℕ) (c : ChannelRow) → slice_get low_graph.channels i ≡ Some c →
      moved c.name m ≡ pushed low_net high_net i m
  agree i m c at =
      let both = both-rows g file.shared ds es most i c at in
      let same : both.c ≡ c = (let h : ◌≡◌ {A = Option ChannelRow} (Some both.c) (Some c) = sym both.first ∙ at in (cc)) in
      let name : both.d.name ≡ c.name = (same-ends g file.shared ds es i both).name ∙ ap (λ (x : ChannelRow). x.name) same in
      let one : tokens_named low_shared c.name ≡ c.tokens = tokens-named low_shared low_graph low.shares i c at in
      let two : tokens_named high_shared c.name ≡ both.d.tokens = ap (tokens_named high_shared) (sym name) ∙ tokens-named high_shared high_graph high.shares i both.d both.second in
      let three : (channel_at low_net i).tokens ≡ c.tokens = ap (λ (x : Channel). x.tokens) (low-is g gamma file.shared ds es most low.kind low.rules high.rules i both)
      ∙ ap (λ (x : ChannelRow). x.tokens) same in
      let four : (channel_at high_net i).tokens ≡ both.d.tokens = ap (λ (x : Channel). x.tokens) (high-is g gamma file.shared ds es most low.kind low.rules high.rules i both) in
      omega (arith, one, two, three, four)

  -- where the spaces that are taken have the same capacity, they have the same tokens
  kept : (cs shown : List ℕ) → ((t : ℕ) (row : SharedRow) → slice_get file.shared t ≡ Some row → (channel_named g.channels row.name).name ≡ row.name) → ShowsTaken file ds g cs shown →
      AgreesOn shown ds es →
      (i : ℕ) → i < length low_net.channels → Contains cs i → (channel_at low_net i).tokens ≡ (channel_at high_net i).tokens
  kept cs shown named shows agrees i below has =
      let both = both-at g gamma file.shared ds es most low.kind low.rules high.rules i below in
      let one : (channel_at low_net i).tokens ≡ both.c.tokens = ap (λ (x : Channel). x.tokens) (low-is g gamma file.shared ds es most low.kind low.rules high.rules i both) in
      let two : (channel_at high_net i).tokens ≡ both.d.tokens = ap (λ (x : Channel). x.tokens) (high-is g gamma file.shared ds es most low.kind low.rules high.rules i both) in
      one ∙ (⊎_elim (λ (f : (slice_get g.channels i ≡ Some both.c) × (both.d ≡ both.c)). sym (ap (λ (x : ChannelRow). x.tokens) f.1)) (space both) both.what ∙ sym two)
    where
      space : (both : BothAt g file.shared ds es i) → IsSpaceOfBoth g file.shared ds es i both.c both.d → both.c.tokens ≡ both.d.tokens
      space both is =
          let name : both.c.name ≡ space_name is.row.name = ap (λ (x : ChannelRow). x.name) is.first ∙ ap space_name (named is.place is.row is.at) in
          let for : IsSpaceFor file ds g is.row.name i = (is.past, (both.c, both.first, name)) in
          let same : is.low ≡ is.high = agreed shown ds es is.place is.low is.high agrees (shows is.place i is.row is.at has for) is.low_at is.high_at in
          ap (λ (x : ChannelRow). x.tokens) is.first ∙ (ap (λ (n : ℕ). n - (channel_named g.channels is.row.name).tokens) same ∙ sym (ap (λ (x : ChannelRow). x.tokens) is.second))

  -- a way that takes no space but such is a way of the second file
  pub way-pushed : (cs shown : List ℕ) → ((t : ℕ) (row : SharedRow) → slice_get file.shared t ≡ Some row → (channel_named g.channels row.name).name ≡ row.name) → ShowsTaken file ds g cs shown →
      AgreesOn shown ds es →
      (p q e : ℕ) → IsWay low_net (first_of low_shared low_graph) p q e cs →
      IsWay high_net (first_of high_shared high_graph)
      (renumbered low_shared high_shared moved p)
      (renumbered low_shared high_shared moved q) e cs
  way-pushed cs shown named shows agrees p q e way =
      let room = roomier g gamma file.shared ds es most low.kind low.rules high.rules in
      way-stands low_shared high_shared low_graph high_graph gamma low.rules low.kind low.shares alike
      moved (pushed low_net high_net) agree p q e cs
      (pushed-maps low_net high_net room cs (kept cs shown named shows agrees))
      (λ i k below number. pushed-left low_net high_net room (first_of high_shared high_graph)
      (renumbered low_shared high_shared moved q) i k below number) way
