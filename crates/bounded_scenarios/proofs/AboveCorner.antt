-- What runs is, rounded down, at least the corner; and worst rates are in lowest terms.
use Rattle.std.proofs.Common.{◌≡◌, ℕ, ◌+◌, ◌-◌, ◌≤◌, ◌<◌, Option, None, Some, List, [], ◌∷◌, length, sum, subst, sym, ap, ◌∙◌, refl, arith}
use Rattle.std.specs.Prelude.{slice_get, slice_index, slice_index_or}
use Rattle.std.proofs.lemmas.Nat.Gcd.{IsGcd-from_zero, IsGcd-swap}
use Rattle.std.proofs.lemmas.Option.{slice_get-get_or, slice_get_within}
use Rattle.sd_base.specs.declared.tables.ChannelRow.{ChannelRow}
use Rattle.sd_base.specs.declared.tables.GraphFile.{GraphFile}
use Rattle.sd_base.specs.declared.tables.ScenarioFile.{ScenarioFile}
use Rattle.sd_base.specs.declared.tables.ScenarioRow.{ScenarioRow}
use Rattle.sd_base.specs.declared.tables.SharedRow.{SharedRow}
use Rattle.sd_base.specs.Net.{Channel, Net, IsRepetitionOf, channel_at, file_channel, nowhere, total}
use Rattle.sd_base.specs.Untimed.{IsLive}
use Rattle.sd_base.proofs.LawfulIsRegular.{balanced}
use Rattle.sd_base.proofs.ElementsKeepPlaces.{get-left}
use Rattle.storage.specs.Distributions.{AtMost, IsDistribution, capacity_at, storage_of}
use Rattle.storage.specs.Steps.{CoversRates, IsCorner, rounded, rounded_at}
use Rattle.storage.proofs.CornerStaysBelow.{corner-below, rounded-entry}
use Rattle.storage.proofs.FrontsFromMembers.{AreLowest}
use Rattle.token_matrix.proofs.GraphMatricesCarry.{channels-many}
use Rattle.bounded_scenarios.specs.BoundedFiles.{bounded_file, bounded_graph, space_row, space_rows}
use Rattle.bounded_scenarios.specs.Boundings.{CanBeBounded}
use Rattle.bounded_scenarios.specs.SharedChannels.{channel_named, shared_channel, shared_channels}
use Rattle.bounded_scenarios.specs.StorageRates.{AllRun, HasWorstRate, bounded_net}
use Rattle.bounded_scenarios.specs.StorageRates.HasWorstRate.{blocked, runs}
use Rattle.bounded_scenarios.proofs.BoundedRules.{channel-is}
use Rattle.bounded_scenarios.proofs.StorageCountsTokens.{dist-long, dist-room}
use Rattle.bounded_scenarios.proofs.FirstTokens.{first-rate, laws, one-phase}
use Rattle.bounded_scenarios.proofs.JoinedListsSplit.{at-right}
use Rattle.bounded_scenarios.proofs.LiveRooms.{IsSpaceOf, made-covered, taken-covered}
use Rattle.bounded_scenarios.proofs.BoundedRatesExist.{kept}
use Rattle.bounded_scenarios.proofs.NamedChannels.{shared-named}
use Rattle.bounded_scenarios.proofs.RunningRooms.{low-carries, low-dist, low-live}
use Rattle.bounded_scenarios.proofs.SharedSteps.{bound-named, bound-single, shared-there}
use Rattle.bounded_scenarios.proofs.SpacesFollowRows.{space-there}

-- ---- rates are in lowest terms

pub rates-are-lowest : (file : ScenarioFile) → AreLowest (HasWorstRate file)
rates-are-lowest file ds _ _ (blocked s row at stopped) = ((let f : 1 ≤ 1 = omega arith in f), IsGcd-swap 1 0 1 (IsGcd-from_zero 1 0 refl))
rates-are-lowest file ds _ _ (runs l w all worst) = (worst.some_time, worst.lowest)

-- ---- what a capacity of a running scenario covers

first-entry : (xs : List ℕ) → length xs ≡ 1 → total xs 1 ≡ slice_index xs 0
first-entry [] one = absurd (omega (arith, one))
first-entry (x ∷ []) one = first-rate (x ∷ []) one ∙ (let f : sum (x ∷ []) ≡ x = omega arith in f)
first-entry (x ∷ (y ∷ xs)) one = absurd (omega (arith, one))

-- both rates of a channel are at most this number
record IsRoomFor (c : ChannelRow) (k : ℕ) : Type 0 where
  made : (p : ℕ) → slice_index c.made p ≤ k
  taken : (p : ℕ) → slice_index c.taken p ≤ k

module _ (file : ScenarioFile) (total_room : ℕ) (can : CanBeBounded file total_room) (ds : List (Option ℕ)) (is : IsDistribution (shared_channels file) ds)
    (within : storage_of (shared_channels file) ds ≤ total_room) where
  abbrev low : List (Option ℕ)
  low = rounded (shared_channels file) ds

  module _ (s : ℕ) (row : ScenarioRow) (at : slice_get file.scenarios s ≡ Some row) (gamma : List ℕ) (gives : IsRepetitionOf row.graph gamma)
      (live : IsLive (bounded_net file.shared ds row.graph gamma))
      (t k : ℕ) (r : SharedRow) (there : slice_get file.shared t ≡ Some r) (has : slice_get low t ≡ Some (Some k)) where
    abbrev low_shared : List SharedRow
    low_shared = (bounded_file file low).shared

    abbrev low_graph : GraphFile
    low_graph = bounded_graph file.shared low row.graph

    abbrev low_net : Net
    low_net = bounded_net file.shared low row.graph gamma

    -- the channel of the row
    abbrev shared_row : ChannelRow
    shared_row = channel_named row.graph.channels r.name

    room-for : IsRoomFor shared_row k
    room-for =
        let carries = low-carries file total_room can ds is within s row at gamma gives in
        let lawful = laws low_shared low_graph gamma carries in
        let alive = low-live file total_room can ds is within s row at gamma gives live in
        let one = shared-named file.shared row.graph (kept file total_room can s row at).shares t r there in
        let space = space-there row.graph.channels file.shared low t r k there has in
        let here : slice_get low_graph.channels one.0 ≡ Some shared_row =
        get-left row.graph.channels (space_rows row.graph.channels file.shared low) one.0 shared_row one.1 in
        let beside : slice_get low_graph.channels (length row.graph.channels + space.0) ≡ Some (space_row shared_row k) =
        at-right row.graph.channels (space_rows row.graph.channels file.shared low) space.0 (space_row shared_row k) space.1 in
        let many = channels-many low_graph gamma carries.rules carries.kind in
        let i : one.0 < length low_net.channels =
        omega (arith, many, slice_get_within low_graph.channels one.0 shared_row here) in
        let j : length row.graph.channels + space.0 < length low_net.channels =
        omega (arith, many, slice_get_within low_graph.channels (length row.graph.channels + space.0) (space_row shared_row k) beside) in
        let c_is : channel_at low_net one.0 ≡ file_channel one.0 shared_row =
        channel-is low_graph gamma carries.rules carries.kind one.0 shared_row here in
        let s_is : channel_at low_net (length row.graph.channels + space.0) ≡ file_channel (length row.graph.channels + space.0) (space_row shared_row k) =
        channel-is low_graph gamma carries.rules carries.kind (length row.graph.channels + space.0) (space_row shared_row k) beside in
        let pair : IsSpaceOf (channel_at low_net one.0) (channel_at low_net (length row.graph.channels + space.0)) = record {
          source = ap (λ (x : Channel). x.source) s_is ∙ sym (ap (λ (x : Channel). x.target) c_is);
          target = ap (λ (x : Channel). x.target) s_is ∙ sym (ap (λ (x : Channel). x.source) c_is);
          made = ap (λ (x : Channel). x.made) s_is ∙ sym (ap (λ (x : Channel). x.taken) c_is);
          taken = ap (λ (x : Channel). x.taken) s_is ∙ sym (ap (λ (x : Channel). x.made) c_is);
        } in
        let fires = (balanced low_net lawful).fires in
        let made = made-covered low_net alive fires one.0 (length row.graph.channels + space.0) i j pair (lawful.sources one.0 i) in
        let taken = taken-covered low_net alive fires one.0 (length row.graph.channels + space.0) i j pair (lawful.targets one.0 i) in
        let covers = (dist-room file.scenarios 0 file.shared low (low-dist file total_room can ds is within) t k r there has).0 in
        let tokens : (channel_at low_net one.0).tokens ≡ shared_row.tokens = ap (λ (x : Channel). x.tokens) c_is in
        let free : (channel_at low_net (length row.graph.channels + space.0)).tokens ≡ k - shared_row.tokens = ap (λ (x : Channel). x.tokens) s_is in
        let made_one : length shared_row.made ≡ 1 =
        sym (ap (λ (x : Channel). length x.made) c_is) ∙ (lawful.made_phases one.0 i ∙ one-phase low_shared low_graph gamma carries
        (channel_at low_net one.0).source (lawful.sources one.0 i)) in
        let taken_one : length shared_row.taken ≡ 1 =
        sym (ap (λ (x : Channel). length x.taken) c_is) ∙ (lawful.taken_phases one.0 i ∙ one-phase low_shared low_graph gamma carries
        (channel_at low_net one.0).target (lawful.targets one.0 i)) in
        let made_is : total (channel_at low_net one.0).made 1 ≡ slice_index shared_row.made 0 =
        ap (λ (x : Channel). total x.made 1) c_is ∙ first-entry shared_row.made made_one in
        let taken_is : total (channel_at low_net one.0).taken 1 ≡ slice_index shared_row.taken 0 =
        ap (λ (x : Channel). total x.taken 1) c_is ∙ first-entry shared_row.taken taken_one in
        record {
          made = bound-single shared_row.made k made_one (omega (arith, made, covers, one.2, tokens, free, made_is));
          taken = bound-single shared_row.taken k taken_one (omega (arith, taken, covers, one.2, tokens, free, taken_is));
        }

  all-cover : AllRun file ds → (t k : ℕ) (r : SharedRow) → slice_get file.shared t ≡ Some r → slice_get low t ≡ Some (Some k) → CoversRates (shared_channel file.scenarios t r) k
  all-cover all t k r there has = record {
    made = bound-named (λ (c : ChannelRow). c.made) file.scenarios r.name k (λ s row at. (let run = all s row at in (room-for s row at run.0 run.1 run.2 t k r there has).made));
    taken = bound-named (λ (c : ChannelRow). c.taken) file.scenarios r.name k (λ s row at. (let run = all s row at in (room-for s row at run.0 run.1 run.2 t k r there has).taken));
  }

  above : (corner : List (Option ℕ)) → IsCorner (shared_channels file) corner → AllRun file ds → AtMost corner low
  above corner is_corner all = corner-below (shared_channels file) corner ds is_corner is covers
    where
      covers : (p k : ℕ) → p < length (shared_channels file) → capacity_at ds p ≡ Some k →
          CoversRates (slice_index_or (shared_channels file) p nowhere) (rounded_at (slice_index_or (shared_channels file) p nowhere) k)
      covers p k below has =
          let row = shared-there file.scenarios 0 file.shared p below in
          let entry : capacity_at low p ≡ Some (rounded_at (slice_index_or (shared_channels file) p nowhere) k) = rounded-entry (shared_channels file) ds p k below has in
          let long = dist-long file.scenarios 0 file.shared low (low-dist file total_room can ds is within) in
          let inside : p < length file.shared = slice_get_within file.shared p row.0 row.1 in
          let there : slice_get low p ≡ Some (Some (rounded_at (slice_index_or (shared_channels file) p nowhere) k)) =
          slice_get-get_or low p None (omega (arith, long)) ∙ ap Some entry in
          let same : slice_index_or (shared_channels file) p nowhere ≡ shared_channel file.scenarios p row.0 = row.2
          ∙ ap (λ (n : ℕ). shared_channel file.scenarios n row.0) (let e : 0 + p ≡ p = omega arith in e) in
          subst (λ (c : Channel). CoversRates c (rounded_at (slice_index_or (shared_channels file) p nowhere) k)) (sym same)
          (all-cover all p (rounded_at (slice_index_or (shared_channels file) p nowhere) k) row.0 row.1 there)

-- what has a worst rate above 0 is, rounded down, at least the corner
pub above-corner : (file : ScenarioFile) (total_room : ℕ) → CanBeBounded file total_room → (corner ds : List (Option ℕ)) (p q : ℕ) → IsCorner (shared_channels file) corner →
    IsDistribution (shared_channels file) ds →
    storage_of (shared_channels file) ds ≤ total_room → HasWorstRate file ds p q → 1 ≤ p → AtMost corner (rounded (shared_channels file) ds)
above-corner file total_room can corner ds _ _ is_corner is within (blocked s row at stopped) some = absurd (omega (arith, some))
above-corner file total_room can corner ds _ _ is_corner is within (runs l w all worst) some = above file total_room can ds is within corner is_corner all
