-- The bounded graph keeps the rules of a table with free spaces.
use Rattle.std.proofs.Common.{◌≡◌, ℕ, suc, ◌+◌, ◌≤◌, ◌<◌, ◌⊎◌, false, Option, None, Some, List, [], ◌∷◌, ◌++◌, length, inl, inr, ⊎_elim, subst, sym, ap, ◌∙◌, arith}
use Rattle.std.specs.Prelude.{All, ◌≢◌, slice_get, slice_index_or}
use Rattle.std.proofs.lemmas.Bool.{cases_lt}
use Rattle.std.proofs.lemmas.List.{length-append}
use Rattle.std.proofs.lemmas.List.Elements.{All-append}
use Rattle.std.proofs.lemmas.Option.{slice_get-get_or, slice_get_within, get_or_from_slice_get}
use Rattle.sd_base.specs.declared.limits.TheConstants.{TOKENS}
use Rattle.sd_base.specs.declared.tables.ChannelRow.{ChannelRow}
use Rattle.sd_base.specs.declared.tables.GraphFile.{GraphFile}
use Rattle.sd_base.specs.declared.tables.Kind.TheVariants.{Sdf}
use Rattle.sd_base.specs.declared.tables.SharedRow.{SharedRow}
use Rattle.sd_base.specs.FileNet.{net_of}
use Rattle.sd_base.specs.Net.{Channel, channel_at, file_channel, nowhere}
use Rattle.sd_base.specs.Scenarios.{Shares}
use Rattle.sd_base.specs.Schedules.{HasInputs}
use Rattle.sd_base.specs.Tables.{ChannelKeepsRules, KeepsRules, KeepsWideRules, phases_of}
use Rattle.sd_base.proofs.FileNets.{file-at, widened}
use Rattle.sd_base.proofs.ElementsKeepPlaces.{get-left, all-get, get-there}
use Rattle.automaton.proofs.TwoAreTheSame.{pigeons}
use Rattle.token_matrix.specs.Stamps.{no_row}
use Rattle.token_matrix.proofs.GraphMatricesCarry.{channels-are, channels-many}
use Rattle.bounded_scenarios.specs.BoundedFiles.{bounded_graph, space_row, space_rows}
use Rattle.bounded_scenarios.specs.SharedChannels.{channel_named}
use Rattle.bounded_scenarios.proofs.NamedChannels.{shared-named}
use Rattle.bounded_scenarios.proofs.SpacesFollowRows.{space-at}

-- ---- shared rows are no more than channels

module _ (shared : List SharedRow) (g : GraphFile) (shares : Shares shared g) where
  -- the number of the channel of a row
  channel-of : (i : ℕ) → (i < length shared) ⊎ (length shared ≤ i) → ℕ
  channel-of i (inl below) = let row = get-there shared i below in (shares.rows i row.0 row.1).0
  channel-of i (inr past) = 0

  few-over : length g.channels < length shared → ⊥
  unfolding channel-of
  few-over more = pigeons (length g.channels) (λ i. channel-of i (cases_lt i (length shared))) (λ i h. inside i h (cases_lt i (length shared)))
      (λ i j less h. apart i j less h (cases_lt i (length shared)) (cases_lt j (length shared)))
    where
      inside : (i : ℕ) → i < suc (length g.channels) → (u : (i < length shared) ⊎ (length shared ≤ i)) → channel-of i u < length g.channels
      inside i h (inl below) = let row = get-there shared i below in let one = shares.rows i row.0 row.1 in slice_get_within g.channels one.0 one.1 one.2
      inside i h (inr past) = absurd (omega arith)

      apart : (i j : ℕ) → i < j → j < suc (length g.channels) → (u : (i < length shared) ⊎ (length shared ≤ i)) (v : (j < length shared) ⊎ (length shared ≤ j)) → channel-of i u ≢ channel-of j v
      apart i j less h (inr past) v same = absurd (omega arith)
      apart i j less h (inl below) (inr past) same = absurd (omega arith)
      apart i j less h (inl below) (inl there) same =
          let x = get-there shared i below in
          let y = get-there shared j there in
          let one = shares.rows i x.0 x.1 in
          let two = shares.rows j y.0 y.1 in
          let at : slice_get g.channels two.0 ≡ Some one.1 = subst (λ (n : ℕ). slice_get g.channels n ≡ Some one.1) same one.2 in
          let is : one.1 ≡ two.1 = (let h : ◌≡◌ {A = Option ChannelRow} (Some one.1) (Some two.1) = sym at ∙ two.2 in (cc)) in
          let names : x.0.name ≡ y.0.name = sym one.3 ∙ (ap (λ (c : ChannelRow). c.name) is ∙ two.3) in
          let places : i ≡ j = shares.rows_differ i j x.0 y.0 x.1 y.1 names in
          omega (arith, places, less)

  pub few-rows : length shared ≤ length g.channels
  few-rows = ⊎_elim (λ (more : length g.channels < length shared). absurd (few-over more)) (λ (h : length shared ≤ length g.channels). h) (cases_lt (length g.channels) (length shared))

few-spaces : (cs : List ChannelRow) (rows : List SharedRow) (ds : List (Option ℕ)) → length (space_rows cs rows ds) ≤ length rows
few-spaces cs [] ds = omega arith
few-spaces cs (row ∷ rows) [] = omega arith
few-spaces cs (row ∷ rows) (None ∷ ds) = let rest = few-spaces cs rows ds in omega (arith, rest)
few-spaces cs (row ∷ rows) (Some k ∷ ds) = let rest = few-spaces cs rows ds in omega (arith, rest)

-- ---- the rules

module _ (shared : List SharedRow) (ds : List (Option ℕ)) (g : GraphFile) (rules : KeepsRules g) (shares : Shares shared g)
    (few : (t k : ℕ) (row : SharedRow) → slice_get shared t ≡ Some row → slice_get ds t ≡ Some (Some k) → k ≤ TOKENS) where
  space-rules : (c : ChannelRow) (k : ℕ) → ChannelKeepsRules (phases_of g) c → k ≤ TOKENS → ChannelKeepsRules (phases_of g) (space_row c k)
  space-rules c k keeps small = record {
    source = keeps.target;
    target = keeps.source;
    made = keeps.taken;
    taken = keeps.made;
    tokens = omega arith;
    some_size = keeps.some_size;
    size = keeps.size;
  }

  spaces-rules : All (ChannelKeepsRules (phases_of g)) (space_rows g.channels shared ds)
  spaces-rules i d below =
      let one = space-at g.channels shared ds i (slice_index_or (space_rows g.channels shared ds) i d) (slice_get-get_or (space_rows g.channels shared ds) i d below) in
      let there = shared-named shared g shares one.0 one.1 one.3 in
      let keeps : ChannelKeepsRules (phases_of g) (channel_named g.channels one.1.name) = all-get (ChannelKeepsRules (phases_of g)) g.channels there.0
      (channel_named g.channels one.1.name) rules.channels there.1 in
      subst (ChannelKeepsRules (phases_of g)) (sym one.5) (space-rules (channel_named g.channels one.1.name) one.2 keeps (few one.0 one.2 one.1 one.3 one.4))

  pub bounded-rules : KeepsWideRules (bounded_graph shared ds g)
  bounded-rules = record {
    some_actor = rules.some_actor;
    few_actors = rules.few_actors;
    few_channels = (
        let long : length (g.channels ++ space_rows g.channels shared ds) ≡ length g.channels + length (space_rows g.channels shared ds) = length-append g.channels (space_rows g.channels shared ds) in
        let one = few-spaces g.channels shared ds in
        let two = few-rows shared g shares in
        omega (arith, long, one, two, rules.few_channels));
    actors = rules.actors;
    channels = All-append (ChannelKeepsRules (phases_of g)) g.channels (space_rows g.channels shared ds) rules.channels spaces-rules;
  }

-- ---- the channels of the net are those of the graph

pub channel-is : (g : GraphFile) (gamma : List ℕ) → KeepsWideRules g → g.kind ≡ Sdf → (i : ℕ) (c : ChannelRow) → slice_get g.channels i ≡ Some c →
    channel_at (net_of g gamma false) i ≡ file_channel i c
channel-is g gamma rules kind i c at =
    ap (λ (cs : List Channel). slice_index_or cs i nowhere) (channels-are g gamma rules kind)
    ∙ (file-at 0 g.channels i no_row (slice_get_within g.channels i c at) ∙ (ap (λ (x : ChannelRow). file_channel (0 + i) x) (get_or_from_slice_get g.channels i c no_row at)
    ∙ ap (λ (n : ℕ). file_channel n c) (let e : 0 + i ≡ i = omega arith in e)))

pub channel-there : (g : GraphFile) (gamma : List ℕ) → KeepsWideRules g → g.kind ≡ Sdf → (i : ℕ) → i < length (net_of g gamma false).channels → (c : ChannelRow) × (slice_get g.channels i ≡ Some c)
channel-there g gamma rules kind i below = get-there g.channels i (omega (arith, channels-many g gamma rules kind))

-- each actor that has an input has it in the bounded graph
pub bounded-inputs : (shared : List SharedRow) (ds : List (Option ℕ)) (g : GraphFile) (gamma : List ℕ) → KeepsRules g → g.kind ≡ Sdf → KeepsWideRules (bounded_graph shared ds g) →
    HasInputs (net_of g gamma false) → HasInputs (net_of (bounded_graph shared ds g) gamma false)
bounded-inputs shared ds g gamma rules kind wide inputs a actor =
    let into = inputs a actor in
    let row = channel-there g gamma (widened g rules) kind into.0 into.1 in
    let at : slice_get (g.channels ++ space_rows g.channels shared ds) into.0 ≡ Some row.0 = get-left g.channels (space_rows g.channels shared ds) into.0 row.0 row.1 in
    let inside : into.0 < length (g.channels ++ space_rows g.channels shared ds) = slice_get_within (g.channels ++ space_rows g.channels shared ds) into.0 row.0 at in
    let small : channel_at (net_of g gamma false) into.0 ≡ file_channel into.0 row.0 = channel-is g gamma (widened g rules) kind into.0 row.0 row.1 in
    let large : channel_at (net_of (bounded_graph shared ds g) gamma false) into.0 ≡ file_channel into.0 row.0 = channel-is (bounded_graph shared ds g) gamma wide kind into.0 row.0 at in (
      into.0,
      (let f : into.0 < length (net_of (bounded_graph shared ds g) gamma false).channels = omega (arith, inside, channels-many (bounded_graph shared ds g) gamma wide kind) in f),
      ap (λ (c : Channel). c.target) large ∙ (sym (ap (λ (c : Channel). c.target) small) ∙ into.2),
    )
