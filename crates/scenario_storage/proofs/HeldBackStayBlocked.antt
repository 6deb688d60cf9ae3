-- What a blocked distribution holds back is blocked in the same counts, and the same channels hold it up.
use Rattle.std.proofs.Common.{◌≡◌, ℕ, ◌+◌, ◌≤◌, ◌<◌, false, Option, Some, List, length, ⊎_elim, sym, ap, ◌∙◌, subst, arith}
use Rattle.std.specs.Prelude.{Contains, slice_get, slice_index}
use Rattle.std.proofs.lemmas.List.{get_or_default}
use Rattle.std.proofs.lemmas.Option.{slice_get_within}
use Rattle.sd_base.specs.declared.tables.ChannelRow.{ChannelRow}
use Rattle.sd_base.specs.declared.tables.ScenarioFile.{ScenarioFile}
use Rattle.sd_base.specs.declared.tables.ScenarioRow.{ScenarioRow}
use Rattle.sd_base.specs.FileNet.{net_of}
use Rattle.sd_base.specs.Net.{Channel, Net, IsRepetitionOf, channel_at, file_channel, total}
use Rattle.sd_base.specs.Schedules.{Needs}
use Rattle.sd_base.specs.Untimed.{Blocks, CanFire, IsEnd, IsLive, none_fired}
use Rattle.sd_base.proofs.RoundsKeepTokens.{one-repetition}
use Rattle.storage.specs.ClosedLists.{AgreesOn}
use Rattle.storage.specs.Distributions.{AtMost, capacity_at}
use Rattle.storage.specs.Steps.{rounded}
use Rattle.storage.specs.inside.Easing.{Eases}
use Rattle.storage.proofs.EasingKeepsSchedules.{eases-fires, eases-live}
use Rattle.token_matrix.specs.EntryWays.{CarriesStamps}
use Rattle.token_matrix.proofs.GraphMatricesCarry.{channels-many}
use Rattle.bounded_scenarios.specs.BoundedFiles.{bounded_file, bounded_graph, space_name, space_row}
use Rattle.bounded_scenarios.specs.Boundings.{CanBeBounded}
use Rattle.bounded_scenarios.specs.ScenarioGuides.{IsHeldUp}
use Rattle.bounded_scenarios.specs.SharedChannels.{channel_named, shared_channels}
use Rattle.bounded_scenarios.specs.ShownSpaces.{IsAbove, ShowsHeldUp}
use Rattle.bounded_scenarios.specs.StorageRates.{RunsOn, bounded_net}
use Rattle.bounded_scenarios.proofs.BlockedMembers.{blocked-above, member-carries, never-runs}
use Rattle.bounded_scenarios.proofs.NetsDifferInSpaces.{BothAt, IsSpaceOfBoth, SameEnds, both-at, both-rows, high-is, low-is, roomier, same-ends}
use Rattle.bounded_scenarios.proofs.PushedWays.{agreed}
use Rattle.bounded_scenarios.proofs.RunningRooms.{high-carries, named}
use Rattle.bounded_scenarios.proofs.TokenMaps.{IsRoomier, SameRates}
use Rattle.scenario_storage.specs.inside.Blocked.{HoldsBack}
use Rattle.scenario_storage.specs.inside.Levels.{IsWithin}
use Rattle.scenario_storage.specs.inside.Shown.{AreShownBlocked}
use Rattle.scenario_storage.proofs.RoundingKeepsGrid.{grid-kept}

-- a net with more tokens needs no more
roomier-eases : (net other : Net) → IsRoomier net other → Eases net other
roomier-eases net other room = record {
  times = room.same.times;
  round = room.same.round;
  many = room.same.many;
  channels = λ i below. (
      let inside : i < length net.channels = omega (arith, below, room.same.many) in
      let rates : SameRates (channel_at net i) (channel_at other i) = room.same.each i inside in
      let more : (channel_at net i).tokens ≤ (channel_at other i).tokens = room.more i inside in
      record {
        source = rates.source;
        target = rates.target;
        needs = λ j m need. (
            let made : total (channel_at net i).made m ≡ total (channel_at other i).made m = ap (λ (xs : List ℕ). total xs m) rates.made in
            let taken : total (channel_at net i).taken (j + 1) ≡ total (channel_at other i).taken (j + 1) = ap (λ (xs : List ℕ). total xs (j + 1)) rates.taken in
            let f : (channel_at net i).tokens + total (channel_at net i).made m < total (channel_at net i).taken (j + 1) = omega (arith, need, made, taken, more) in f);
      });
}

module _ (file : ScenarioFile) (limit : ℕ) (can : CanBeBounded file limit) (ds : List (Option ℕ)) (shown : List ℕ) (es : List (Option ℕ)) (fits : IsWithin file limit ds) (fits_too : IsWithin file limit es)
    (held : HoldsBack ds shown es) where
  same-rounded : rounded (shared_channels file) es ≡ es
  same-rounded = grid-kept (shared_channels file) es fits_too.grid

  above : IsAbove file limit ds shown es
  above = record {
    member = fits.distribution;
    distribution = fits_too.distribution;
    within = fits_too.within;
    most = subst (AtMost ds) (sym same-rounded) held.most;
    agrees = subst (AgreesOn shown ds) (sym same-rounded) held.agrees;
  }

  -- a channel that is shown has the same capacity in both
  capped-above : (c : ℕ) → Contains shown c → (k : ℕ) × (capacity_at ds c ≡ Some k) → (k : ℕ) × (capacity_at es c ≡ Some k)
  capped-above c one (k, capped) =
      let place : slice_index shown one.0 ≡ c = get_or_default shown one.0 0 c one.1 ∙ one.2 in
      let same : capacity_at ds (slice_index shown one.0) ≡ capacity_at es (slice_index shown one.0) = held.agrees one.0 one.1 in
      (k, sym (ap (capacity_at es) place) ∙ (sym same ∙ (ap (capacity_at ds) place ∙ capped)))

  -- one scenario
  module _ (k : ℕ) (row : ScenarioRow) (at : slice_get file.scenarios k ≡ Some row) (gamma : List ℕ) (gives : IsRepetitionOf row.graph gamma) where
    abbrev low_net : Net
    low_net = bounded_net file.shared ds row.graph gamma

    abbrev high_net : Net
    high_net = bounded_net file.shared es row.graph gamma

    low : CarriesStamps (bounded_file file ds).shared (bounded_graph file.shared ds row.graph) gamma
    low = member-carries file limit can ds shown es above k row at gamma gives

    high : CarriesStamps (bounded_file file es).shared (bounded_graph file.shared es row.graph) gamma
    high = high-carries file limit can es fits_too.distribution fits_too.within k row at gamma gives

    room : IsRoomier low_net high_net
    room = roomier row.graph gamma file.shared ds es held.most low.kind low.rules high.rules

    live-above : IsLive low_net → IsLive high_net
    live-above live = eases-live low_net high_net (roomier-eases low_net high_net room) live

    -- in counts at which what holds up is shown
    module _ (v : ℕ → ℕ) (shows : ShowsHeldUp file ds row.graph gamma v shown) (blocks : Blocks low_net v) where
      high-blocks : Blocks high_net v
      high-blocks = subst (λ (xs : List (Option ℕ)). Blocks (bounded_net file.shared xs row.graph gamma) v) same-rounded (blocked-above file limit can ds shown es above k row at gamma gives v shows blocks)

      ends-above : IsEnd low_net v → IsEnd high_net v
      ends-above ends = record {
        order = ends.order;
        fires = eases-fires low_net high_net (roomier-eases low_net high_net room) ends.order none_fired ends.fires;
        counts = λ a actor. ends.counts a (subst (λ (ts : List (List ℕ)). a < length ts) (sym room.same.times) actor);
        closed = high-blocks.closed;
      }

      -- what holds up an actor below holds it up above, since the channel is the same
      held-above : (name : List ℕ) → IsHeldUp file ds row.graph gamma v name → IsHeldUp file es row.graph gamma v name
      held-above name h =
          let both : BothAt row.graph file.shared ds es h.space = both-rows row.graph file.shared ds es held.most h.space h.is_space.1.0 h.is_space.1.1 in
          ⊎_elim (file_case both) (space_case both) both.what
        where
          file_case : (both : BothAt row.graph file.shared ds es h.space) → (slice_get row.graph.channels h.space ≡ Some both.c) × (both.d ≡ both.c) → IsHeldUp file es row.graph gamma v name
          file_case both (here, same) = absurd (omega (arith, slice_get_within row.graph.channels h.space both.c here, h.is_space.0))

          space_case : (both : BothAt row.graph file.shared ds es h.space) → IsSpaceOfBoth row.graph file.shared ds es h.space both.c both.d → IsHeldUp file es row.graph gamma v name
          space_case both is =
              let its_name : both.c.name ≡ space_name is.row.name = ap (λ (x : ChannelRow). x.name) is.first
              ∙ ap space_name (named file limit can es fits_too.distribution fits_too.within k row at gamma gives is.place is.row is.at) in
              let one : IsHeldUp file ds row.graph gamma v is.row.name = record {
                space = h.space;
                is_space = (is.past, (both.c, both.first, its_name));
                short = h.short;
                fed = h.fed;
                full = h.full;
              } in
              let same : is.low ≡ is.high = agreed shown ds es is.place is.low is.high held.agrees (shows is.place is.row is.at one) is.low_at is.high_at in
              let rows : both.c ≡ both.d = is.first ∙ (ap (space_row (channel_named row.graph.channels is.row.name)) same ∙ sym is.second) in
              let channels : channel_at low_net h.space ≡ channel_at high_net h.space =
              low-is row.graph gamma file.shared ds es held.most low.kind low.rules high.rules h.space both
              ∙ (ap (file_channel h.space) rows ∙ sym (high-is row.graph gamma file.shared ds es held.most low.kind low.rules high.rules h.space both)) in
              let found : ◌≡◌ {A = Option ChannelRow} (Some h.is_space.1.0) (Some both.c) = sym h.is_space.1.1 ∙ both.first in
              let first : h.is_space.1.0 ≡ both.c = cc in
              record {
                space = h.space;
                is_space = (is.past, (both.d, both.second, ap (λ (x : ChannelRow). x.name) (sym rows ∙ sym first) ∙ h.is_space.1.2));
                short = subst (λ (x : Channel). v x.target < slice_index gamma x.target) channels h.short;
                fed = subst (λ (x : Channel). CanFire (net_of row.graph gamma false) v x.target) channels h.fed;
                full = subst (λ (x : Channel). Needs x (v x.target) (v x.source)) channels h.full;
              }

    -- and what holds one up above, since there is no more room below
    held-below : (v : ℕ → ℕ) (name : List ℕ) → IsHeldUp file es row.graph gamma v name → IsHeldUp file ds row.graph gamma v name
    held-below v name h =
        let many = channels-many (bounded_graph file.shared es row.graph) gamma high.rules high.kind in
        let inside : h.space < length low_net.channels = omega (
          arith,
          room.same.many,
          many,
          slice_get_within (bounded_graph file.shared es row.graph).channels h.space h.is_space.1.0 h.is_space.1.1,
        ) in
        let both : BothAt row.graph file.shared ds es h.space = both-at row.graph gamma file.shared ds es held.most low.kind low.rules high.rules h.space inside in
        let ends : SameEnds both.c both.d = same-ends row.graph file.shared ds es h.space both in
        let rates : SameRates (channel_at low_net h.space) (channel_at high_net h.space) = room.same.each h.space inside in
        let found : ◌≡◌ {A = Option ChannelRow} (Some h.is_space.1.0) (Some both.d) = sym h.is_space.1.1 ∙ both.second in
        let second : h.is_space.1.0 ≡ both.d = cc in
        let need : Needs (channel_at low_net h.space) (v (channel_at high_net h.space).target) (v (channel_at high_net h.space).source) =
        ((roomier-eases low_net high_net room).channels h.space (let f : h.space < length high_net.channels = omega (arith, inside, room.same.many) in f)).needs
        (v (channel_at high_net h.space).target) (v (channel_at high_net h.space).source) h.full in
        record {
          space = h.space;
          is_space = (h.is_space.0, (both.c, both.first, sym ends.name ∙ (ap (λ (x : ChannelRow). x.name) (sym second) ∙ h.is_space.1.2)));
          short = subst (λ (a : ℕ). v a < slice_index gamma a) (sym rates.target) h.short;
          fed = subst (λ (a : ℕ). CanFire (net_of row.graph gamma false) v a) (sym rates.target) h.fed;
          full =
              subst (λ (a : ℕ). Needs (channel_at low_net h.space) (v a) (v (channel_at low_net h.space).source)) (sym rates.target)
              (subst (λ (b : ℕ). Needs (channel_at low_net h.space) (v (channel_at high_net h.space).target) (v b)) (sym rates.source) need);
        }

  runs-above : (k : ℕ) (row : ScenarioRow) → slice_get file.scenarios k ≡ Some row → RunsOn file ds row → RunsOn file es row
  runs-above k row at (gamma, gives, live) = (gamma, gives, live-above k row at gamma gives live)

  pub stays-blocked : AreShownBlocked file ds shown → AreShownBlocked file es shown
  stays-blocked is =
      let s = is.shows in
      record {
        shows = record {
          place = s.place;
          row = s.row;
          at = s.at;
          gamma = s.gamma;
          gives = s.gives;
          counts = s.counts;
          blocks = high-blocks s.place s.row s.at s.gamma s.gives s.counts s.shows s.blocks;
          shows = λ c row row_at h. s.shows c row row_at (held-below s.place s.row s.at s.gamma s.gives s.counts row.name h);
        };
        first = λ t row less at. runs-above t row at (is.first t row less at);
        ends = ends-above s.place s.row s.at s.gamma s.gives s.counts s.shows s.blocks is.ends;
        held = λ c one. (let h = is.held c one in (h.0, h.1, held-above s.place s.row s.at s.gamma s.gives s.counts s.shows s.blocks h.0.name h.2, capped-above c one h.3));
        stops = λ runs. (
            let same : runs.0 ≡ s.gamma = one-repetition s.row.graph runs.0 s.gamma runs.1 s.gives in
            let live : IsLive (bounded_net file.shared es s.row.graph s.gamma) = subst (λ (g : List ℕ). IsLive (bounded_net file.shared es s.row.graph g)) same runs.2 in
            never-runs file limit can ds shown es above s.place s.row s.at s.gamma s.gives s.counts s.shows s.blocks live);
      }
