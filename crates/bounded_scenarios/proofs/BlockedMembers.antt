-- What blocks a distribution, and is shown, blocks each one above it that agrees on what is shown.
use Rattle.std.proofs.Common.{◌≡◌, ℕ, ◌≤◌, ◌<◌, false, Option, Some, List, length, ⊎_elim, subst, sym, ap, ◌∙◌, arith}
use Rattle.std.specs.Prelude.{slice_get, slice_index}
use Rattle.std.proofs.lemmas.Option.{slice_get_within}
use Rattle.sd_base.specs.declared.tables.ChannelRow.{ChannelRow}
use Rattle.sd_base.specs.declared.tables.GraphFile.{GraphFile}
use Rattle.sd_base.specs.declared.tables.ScenarioFile.{ScenarioFile}
use Rattle.sd_base.specs.declared.tables.ScenarioRow.{ScenarioRow}
use Rattle.sd_base.specs.FileNet.{net_of}
use Rattle.sd_base.specs.Net.{Channel, Net, IsRepetitionOf, channel_at, file_channel}
use Rattle.sd_base.specs.Schedules.{Lacks, Needs}
use Rattle.sd_base.specs.Untimed.{Blocks, CanFire, IsLive}
use Rattle.sd_base.proofs.ClosedCountsBoundRuns.{live-unblocked}
use Rattle.sd_base.proofs.FileNets.{widened}
use Rattle.sd_base.proofs.LawfulIsRegular.{wired}
use Rattle.sd_base.proofs.ElementsKeepPlaces.{get-left}
use Rattle.sd_base.proofs.RoundsKeepTokens.{one-repetition}
use Rattle.storage.specs.Distributions.{storage_of}
use Rattle.storage.specs.Steps.{rounded}
use Rattle.storage.proofs.StepsReachMembers.{storage-le}
use Rattle.storage.proofs.BlockingStays.{can_or_lacks}
use Rattle.token_matrix.specs.EntryWays.{CarriesStamps}
use Rattle.token_matrix.proofs.GraphMatricesCarry.{channels-many}
use Rattle.bounded_scenarios.specs.BoundedFiles.{bounded_file, bounded_graph, space_name, space_row, space_rows}
use Rattle.bounded_scenarios.specs.Boundings.{CanBeBounded}
use Rattle.bounded_scenarios.specs.ScenarioGuides.{IsHeldUp, IsSpaceFor}
use Rattle.bounded_scenarios.specs.SharedChannels.{channel_named, shared_channels}
use Rattle.bounded_scenarios.specs.ShownSpaces.{BlockedBounds, IsAbove, ShowsHeldUp}
use Rattle.bounded_scenarios.specs.StorageRates.{bounded_net}
use Rattle.bounded_scenarios.specs.StorageRates.HasWorstRate.{blocked, runs}
use Rattle.bounded_scenarios.proofs.NetsDifferInSpaces.{BothAt, IsSpaceOfBoth, both-at, high-is, low-is, same-nets}
use Rattle.bounded_scenarios.proofs.BoundedRules.{channel-is, channel-there}
use Rattle.bounded_scenarios.proofs.FirstTokens.{laws}
use Rattle.bounded_scenarios.proofs.LiveRooms.{blocks-on}
use Rattle.bounded_scenarios.proofs.BoundedRatesExist.{gives-matrix, kept}
use Rattle.bounded_scenarios.proofs.PushedWays.{agreed}
use Rattle.bounded_scenarios.proofs.RunningRooms.{low-carries, low-live, low-within, named}

module _ (file : ScenarioFile) (total : ℕ) (can : CanBeBounded file total) (m : List (Option ℕ)) (shown : List ℕ) (ds : List (Option ℕ)) (above : IsAbove file total m shown ds)
    (k : ℕ) (row : ScenarioRow) (at : slice_get file.scenarios k ≡ Some row) (gamma : List ℕ) (gives : IsRepetitionOf row.graph gamma) where
  -- what the distribution is rounded down to
  abbrev floored : List (Option ℕ)
  floored = rounded (shared_channels file) ds

  abbrev member_graph : GraphFile
  member_graph = bounded_graph file.shared m row.graph

  abbrev above_graph : GraphFile
  above_graph = bounded_graph file.shared floored row.graph

  -- the scenario's nets: without spaces, of the member, and of what is rounded down
  abbrev plain_net : Net
  plain_net = net_of row.graph gamma false

  abbrev member_net : Net
  member_net = bounded_net file.shared m row.graph gamma

  abbrev above_net : Net
  above_net = bounded_net file.shared floored row.graph gamma

  pub member-within : storage_of (shared_channels file) m ≤ total
  member-within = omega (arith, storage-le (shared_channels file) m floored above.most, low-within file total can ds above.distribution above.within)

  pub member-carries : CarriesStamps (bounded_file file m).shared member_graph gamma
  member-carries = (gives-matrix file total can m above.member member-within k row gamma at gives).carries

  pub above-carries : CarriesStamps (bounded_file file floored).shared above_graph gamma
  above-carries = low-carries file total can ds above.distribution above.within k row at gamma gives

  -- a channel on which an actor lacks tokens in the net above
  abbrev LacksAbove : (ℕ → ℕ) → ℕ → Type 0
  LacksAbove v a = (i : ℕ) × (i < length member_net.channels) × ((channel_at member_net i).target ≡ a)
      × Needs (channel_at above_net i) (v a) (v (channel_at member_net i).source)

  low-at : (i : ℕ) (both : BothAt row.graph file.shared m floored i) → channel_at member_net i ≡ file_channel i both.c
  low-at i both = low-is row.graph gamma file.shared m floored above.most member-carries.kind member-carries.rules above-carries.rules i both

  high-at : (i : ℕ) (both : BothAt row.graph file.shared m floored i) → channel_at above_net i ≡ file_channel i both.d
  high-at i both = high-is row.graph gamma file.shared m floored above.most member-carries.kind member-carries.rules above-carries.rules i both

  plain-is : (i : ℕ) (c : ChannelRow) → slice_get row.graph.channels i ≡ Some c → channel_at plain_net i ≡ file_channel i c
  plain-is i c here = channel-is row.graph gamma (widened row.graph (kept file total can k row at).rules) (kept file total can k row at).kind i c here

  -- tokens that the file's channel lacks are lacking above
  on-file : (v : ℕ → ℕ) (a : ℕ) → Lacks plain_net v a (v a) → LacksAbove v a
  on-file v a (i, below, into, needs) =
      let c = channel-there row.graph gamma (widened row.graph (kept file total can k row at).rules) (kept file total can k row at).kind i below in
      let here : slice_get member_graph.channels i ≡ Some c.0 = get-left row.graph.channels (space_rows row.graph.channels file.shared m) i c.0 c.1 in
      let there : slice_get above_graph.channels i ≡ Some c.0 = get-left row.graph.channels (space_rows row.graph.channels file.shared floored) i c.0 c.1 in
      let low : channel_at member_net i ≡ file_channel i c.0 = channel-is member_graph gamma member-carries.rules member-carries.kind i c.0 here in
      let high : channel_at above_net i ≡ file_channel i c.0 = channel-is above_graph gamma above-carries.rules above-carries.kind i c.0 there in
      let plain = plain-is i c.0 c.1 in
      let many = channels-many member_graph gamma member-carries.rules member-carries.kind in
      let inside = slice_get_within member_graph.channels i c.0 here in
      let need : Needs (file_channel i c.0) (v a) (v (file_channel i c.0).source) = subst (λ (x : Channel). Needs x (v a) (v x.source)) plain needs in (
        i,
        (let f : i < length member_net.channels = omega (arith, many, inside) in f),
        ap (λ (x : Channel). x.target) low ∙ (sym (ap (λ (x : Channel). x.target) plain) ∙ into),
        subst (λ (x : Channel). Needs x (v a) (v (channel_at member_net i).source)) (sym high)
            (subst (λ (n : ℕ). Needs (file_channel i c.0) (v a) (v n)) (sym (ap (λ (x : Channel). x.source) low)) need),
      )

  -- free space that is lacking, where no token of the file is, is shown, and so lacking above
  on-space : (v : ℕ → ℕ) (a : ℕ) → ShowsHeldUp file m row.graph gamma v shown → v a < slice_index gamma a → CanFire plain_net v a → Lacks member_net v a (v a) → LacksAbove v a
  on-space v a shows short fed (i, below, into, needs) =
      let both = both-at row.graph gamma file.shared m floored above.most member-carries.kind member-carries.rules above-carries.rules i below in
      ⊎_elim (file_case both) (space_case both) both.what
    where
      file_case : (both : BothAt row.graph file.shared m floored i) → (slice_get row.graph.channels i ≡ Some both.c) × (both.d ≡ both.c) → LacksAbove v a
      file_case both (here, same) = absurd (
          let plain = plain-is i both.c here in
          let low = low-at i both in
          let place : i < length plain_net.channels = omega (
            arith,
            channels-many row.graph gamma (widened row.graph (kept file total can k row at).rules)
                (kept file total can k row at).kind,
            slice_get_within row.graph.channels i both.c here,
          ) in
          let target : (channel_at plain_net i).target ≡ a = ap (λ (x : Channel). x.target) plain ∙ (sym (ap (λ (x : Channel). x.target) low) ∙ into) in
          let enough = fed i place target in
          let need : Needs (channel_at plain_net i) (v a) (v (channel_at plain_net i).source) = subst (λ (x : Channel). Needs x (v a) (v x.source)) (low ∙ sym plain) needs in
          let no : ⊥ = omega (arith, enough, need) in no)

      space_case : (both : BothAt row.graph file.shared m floored i) → IsSpaceOfBoth row.graph file.shared m floored i both.c both.d → LacksAbove v a
      space_case both is =
          let name : both.c.name ≡ space_name is.row.name = ap (λ (x : ChannelRow). x.name) is.first
          ∙ ap space_name (named file total can ds above.distribution above.within k row at gamma gives is.place is.row is.at) in
          let for : IsSpaceFor file m row.graph is.row.name i = (is.past, (both.c, both.first, name)) in
          let held : IsHeldUp file m row.graph gamma v is.row.name = record {
            space = i;
            is_space = for;
            short = subst (λ (n : ℕ). v n < slice_index gamma n) (sym into) short;
            fed = subst (λ (n : ℕ). CanFire plain_net v n) (sym into) fed;
            full = subst (λ (n : ℕ). Needs (channel_at member_net i) (v n) (v (channel_at member_net i).source)) (sym into) needs;
          } in
          let same : is.low ≡ is.high = agreed shown m floored is.place is.low is.high above.agrees (shows is.place is.row is.at held) is.low_at is.high_at in
          let rows : both.c ≡ both.d = is.first ∙ (ap (space_row (channel_named row.graph.channels is.row.name)) same ∙ sym is.second) in
          let channels : channel_at member_net i ≡ channel_at above_net i = low-at i both ∙ (ap (file_channel i) rows ∙ sym (high-at i both)) in
          (i, below, into, subst (λ (x : Channel). Needs x (v a) (v (channel_at member_net i).source)) channels needs)

  pub blocked-above : (v : ℕ → ℕ) → ShowsHeldUp file m row.graph gamma v shown → Blocks member_net v → Blocks above_net v
  blocked-above v shows blocks = blocks-on member_net above_net v
      (same-nets row.graph gamma file.shared m floored above.most member-carries.kind member-carries.rules above-carries.rules) blocks
      (λ a actor short. ⊎_elim (λ (fed : CanFire plain_net v a). on-space v a shows short fed (blocks.closed a actor short)) (λ (lack : Lacks plain_net v a (v a)). on-file v a lack)
      (can_or_lacks plain_net v a))

  pub never-runs : (v : ℕ → ℕ) → ShowsHeldUp file m row.graph gamma v shown → Blocks member_net v → IsLive (bounded_net file.shared ds row.graph gamma) → ⊥
  never-runs v shows blocks live = live-unblocked above_net
      (wired above_net (laws (bounded_file file floored).shared above_graph gamma above-carries))
      (low-live file total can ds above.distribution above.within k row at gamma gives live) v (blocked-above v shows blocks)

pub blocked-bounds : BlockedBounds
blocked-bounds file total m shown ds _ _ can stopped above (blocked s row at not) some = absurd (omega (arith, some))
blocked-bounds file total m shown ds _ _ can stopped above (runs l w all worst) some =
    let run = all stopped.place stopped.row stopped.at in
    let same : run.0 ≡ stopped.gamma = one-repetition stopped.row.graph run.0 stopped.gamma run.1 stopped.gives in
    let live : IsLive (bounded_net file.shared ds stopped.row.graph stopped.gamma) = subst (λ (g : List ℕ). IsLive (bounded_net file.shared ds stopped.row.graph g)) same run.2 in
    never-runs file total can m shown ds above stopped.place stopped.row stopped.at stopped.gamma stopped.gives stopped.counts stopped.shows stopped.blocks live
