-- A way that takes no free space is a way of the file bounded by any distribution, with the same tokens.
use Rattle.std.proofs.Common.{◌≡◌, ℕ, zero, suc, ◌+◌, ◌≤◌, ◌<◌, ◌⊎◌, Bool, true, false, Option, Some, List, [], ◌∷◌, ◌++◌, length, inl, inr, ⊎_elim, subst, sym, ap, ◌∙◌, refl, arith}
use Rattle.std.specs.Prelude.{Contains, slice_get, slice_index, if◌then◌else◌}
use Rattle.std.specs.Str.{bytes_eq}
use Rattle.std.proofs.lemmas.Option.{get_or_from_slice_get, slice_get_within}
use Rattle.std.proofs.lemmas.Slice.Eq.{bytes_eq-Decides}
use Rattle.sd_base.specs.declared.tables.ChannelRow.{ChannelRow}
use Rattle.sd_base.specs.declared.tables.GraphFile.{GraphFile}
use Rattle.sd_base.specs.declared.tables.ScenarioFile.{ScenarioFile}
use Rattle.sd_base.specs.declared.tables.SharedRow.{SharedRow}
use Rattle.sd_base.specs.Net.{Channel, Net, channel_at, file_channel, total}
use Rattle.sd_base.specs.Scenarios.{Shares, shared_count}
use Rattle.sd_base.specs.Schedules.{time_of}
use Rattle.sd_base.proofs.ElementsKeepPlaces.{get-left}
use Rattle.sd_base.proofs.ContainedHavePlaces.{contains-here, contains-later}
use Rattle.token_matrix.specs.EntryWays.{CarriesStamps}
use Rattle.token_matrix.specs.Stamps.{IsPutBy, IsTakenBy, first_of, first_token, left_token, no_row}
use Rattle.token_matrix.specs.Ways.{IsChain, IsWay}
use Rattle.token_matrix.specs.Ways.IsChain.{begins, goes}
use Rattle.token_matrix.specs.Ways.IsWay.{stays, put}
use Rattle.token_matrix.proofs.NumbersCoverTokens.{first_inside}
use Rattle.token_matrix.proofs.GraphMatricesCarry.{channels-many}
use Rattle.bounded_scenarios.specs.BoundedFiles.{bounded_graph, space_name, space_rows, space_shares}
use Rattle.bounded_scenarios.specs.Boundings.{AreFileNames}
use Rattle.bounded_scenarios.specs.ScenarioGuides.{IsSpaceFor}
use Rattle.bounded_scenarios.specs.SharedChannels.{channel_named}
use Rattle.bounded_scenarios.specs.ShownSpaces.{ShowsTaken}
use Rattle.bounded_scenarios.specs.StorageRates.{bounded_net}
use Rattle.bounded_scenarios.proofs.BoundedRules.{channel-is, channel-there}
use Rattle.bounded_scenarios.proofs.JoinedListsSplit.{IsLater, at-either}
use Rattle.bounded_scenarios.proofs.NamedChannels.{named-is}
use Rattle.bounded_scenarios.proofs.SpacesFollowRows.{space-at}

-- ---- the tokens of the first rows have the first numbers

first-front : (rows more : List SharedRow) (s : ℕ) (row : SharedRow) (name : List ℕ) → slice_get rows s ≡ Some row → row.name ≡ name → first_token (rows ++ more) name ≡ first_token rows name
first-front [] more s row name at same = absurd (cc)
first-front (r ∷ rows) more s row name at same = step (bytes_eq r.name name) refl (λ t there. first-front rows more t row name there same)
  where
    past : (t : ℕ) → slice_get (r ∷ rows) t ≡ Some row → bytes_eq r.name name ≡ false → (u : ℕ) × (slice_get rows u ≡ Some row)
    past zero there other = let e : r ≡ row = cc in let yes : bytes_eq r.name name ≡ true = (bytes_eq-Decides r.name name).1 (ap (λ (x : SharedRow). x.name) e ∙ same) in absurd (cc)
    past (suc t) there other = (t, there)

    step : (b : Bool) → bytes_eq r.name name ≡ b → ((t : ℕ) → slice_get rows t ≡ Some row → first_token (rows ++ more) name ≡ first_token rows name) →
        (if bytes_eq r.name name then 0 else r.tokens + first_token (rows ++ more) name) ≡ (if bytes_eq r.name name then 0 else r.tokens + first_token rows name)
    step true same_name next = rw same_name refl
    step false other next = let later = past s at other in let rest = next later.0 later.1 in rw other (ap (λ (n : ℕ). r.tokens + n) rest)

first-past : (rows more : List SharedRow) (name : List ℕ) → ((s : ℕ) (row : SharedRow) → slice_get rows s ≡ Some row → row.name ≡ name → ⊥) → shared_count rows ≤ first_token (rows ++ more) name
first-past [] more name none = omega arith
first-past (r ∷ rows) more name none = step (bytes_eq r.name name) refl (first-past rows more name (λ s row at. none (suc s) row at))
  where
    step : (b : Bool) → bytes_eq r.name name ≡ b → shared_count rows ≤ first_token (rows ++ more) name →
        r.tokens + shared_count rows ≤ (if bytes_eq r.name name then 0 else r.tokens + first_token (rows ++ more) name)
    step true same_name rest = absurd (none 0 r refl ((bytes_eq-Decides r.name name).0 same_name))
    step false other rest = rw other (omega (arith, rest))

module _ (file : ScenarioFile) (m ds : List (Option ℕ)) (g : GraphFile) (gamma : List ℕ) (shares : Shares file.shared g) (names : AreFileNames g.channels)
    (low : CarriesStamps (file.shared ++ space_shares file.shared m) (bounded_graph file.shared m g) gamma)
    (high : CarriesStamps (file.shared ++ space_shares file.shared ds) (bounded_graph file.shared ds g) gamma) where
  abbrev low_net : Net
  low_net = bounded_net file.shared m g gamma

  abbrev high_net : Net
  high_net = bounded_net file.shared ds g gamma

  abbrev low_first : ℕ → ℕ
  low_first = first_of (file.shared ++ space_shares file.shared m) (bounded_graph file.shared m g)

  abbrev high_first : ℕ → ℕ
  high_first = first_of (file.shared ++ space_shares file.shared ds) (bounded_graph file.shared ds g)

  -- the tokens on channels of the file are the first ones
  abbrev pub IsOfFile : ℕ → Type 0
  IsOfFile p = p < shared_count file.shared

  -- channel i is one of the file, in both graphs
  record IsPlainIn (i : ℕ) : Type 0 where
    c : ChannelRow
    at : slice_get g.channels i ≡ Some c
    low_is : channel_at (bounded_net file.shared m g gamma) i ≡ file_channel i c
    high_is : channel_at (bounded_net file.shared ds g gamma) i ≡ file_channel i c
    inside : i < length (bounded_net file.shared ds g gamma).channels

  plain-in : (i : ℕ) (c : ChannelRow) → slice_get g.channels i ≡ Some c → IsPlainIn i
  plain-in i c at =
      let first : slice_get (bounded_graph file.shared m g).channels i ≡ Some c = get-left g.channels (space_rows g.channels file.shared m) i c at in
      let second : slice_get (bounded_graph file.shared ds g).channels i ≡ Some c = get-left g.channels (space_rows g.channels file.shared ds) i c at in
      record {
        c = c;
        at = at;
        low_is = channel-is (bounded_graph file.shared m g) gamma low.rules low.kind i c first;
        high_is = channel-is (bounded_graph file.shared ds g) gamma high.rules high.kind i c second;
        inside = omega (arith, channels-many (bounded_graph file.shared ds g) gamma high.rules high.kind, slice_get_within (bounded_graph file.shared ds g).channels i c second);
      }

  same-channel : (i : ℕ) → IsPlainIn i → channel_at (bounded_net file.shared m g gamma) i ≡ channel_at (bounded_net file.shared ds g gamma) i
  same-channel i plain = plain.low_is ∙ sym plain.high_is

  space-named : (c : ChannelRow) (j : ℕ) → slice_get (space_rows g.channels file.shared m) j ≡ Some c →
      (t : ℕ) × (row : SharedRow) × (slice_get file.shared t ≡ Some row) × (c.name ≡ space_name row.name)
  space-named c j at =
      let one = space-at g.channels file.shared m j c at in
      let there = shares.rows one.0 one.1 one.3 in
      let name : (channel_named g.channels one.1.name).name ≡ one.1.name = (named-is g.channels one.1.name there.0 there.1 there.2 there.3).2 in
      (one.0, one.1, one.3, ap (λ (x : ChannelRow). x.name) one.5 ∙ ap space_name name)

  -- a channel that is taken, where no space is, is one of the file
  taken-plain : (cs : List ℕ) → ShowsTaken file m g cs [] → (i : ℕ) → i < length (bounded_net file.shared m g gamma).channels → Contains cs i → IsPlainIn i
  taken-plain cs shows i below has =
      let row = channel-there (bounded_graph file.shared m g) gamma low.rules low.kind i below in
      ⊎_elim (λ (here : slice_get g.channels i ≡ Some row.0). plain-in i row.0 here)
      (λ (later : IsLater g.channels (space_rows g.channels file.shared m) i row.0). absurd (
      let one = space-named row.0 later.0 later.2 in
      let for : IsSpaceFor file m g one.1.name i = ((let f : length g.channels ≤ i = omega (arith, later.1) in f), (row.0, row.1, one.3)) in
      let none = shows one.0 i one.1 one.2 has for in
      let no : ⊥ = omega (arith, none.1) in no)) (at-either g.channels (space_rows g.channels file.shared m) i row.0 row.1)

  -- a token with one of the first numbers is on a channel of the file
  number-plain : (i k : ℕ) → i < length (bounded_net file.shared m g gamma).channels → IsOfFile (low_first i + k) → IsPlainIn i
  number-plain i k below small =
      let row = channel-there (bounded_graph file.shared m g) gamma low.rules low.kind i below in
      ⊎_elim (λ (here : slice_get g.channels i ≡ Some row.0). plain-in i row.0 here)
      (λ (later : IsLater g.channels (space_rows g.channels file.shared m) i row.0). absurd (
      let one = space-named row.0 later.0 later.2 in
      let past : shared_count file.shared ≤ first_token (file.shared ++ space_shares file.shared m) row.0.name =
      first-past file.shared (space_shares file.shared m) row.0.name (λ s r at same. (let there = shares.rows s r at in names there.0 there.1 one.1.name there.2 (there.3 ∙ (same ∙ one.3)))) in
      let first : low_first i ≡ first_token (file.shared ++ space_shares file.shared m) row.0.name =
      ap (λ (x : ChannelRow). first_token (file.shared ++ space_shares file.shared m) x.name) (get_or_from_slice_get (bounded_graph file.shared m g).channels i row.0 no_row row.1) in
      let no : ⊥ = omega (arith, past, first, small) in no)) (at-either g.channels (space_rows g.channels file.shared m) i row.0 row.1)

  -- what is there at first on such a channel has one number in both
  record HasNumber (i k : ℕ) : Type 0 where
    small : IsOfFile (low_first i + k)
    same : low_first i ≡ high_first i

  has-number : (i k : ℕ) → IsPlainIn i → k < (channel_at (bounded_net file.shared m g gamma) i).tokens → HasNumber i k
  has-number i k plain there =
      let c : ChannelRow = plain.c in
      let tokens : k < plain.c.tokens = subst (λ (x : Channel). k < x.tokens) plain.low_is there in
      let share = shares.channels i plain.c plain.at (omega (arith, tokens)) in
      let lows : low_first i ≡ first_token (file.shared ++ space_shares file.shared m) plain.c.name = ap (λ (x : ChannelRow). first_token (file.shared ++ space_shares file.shared m) x.name)
      (get_or_from_slice_get (bounded_graph file.shared m g).channels i plain.c no_row (get-left g.channels (space_rows g.channels file.shared m) i plain.c plain.at)) in
      let highs : high_first i ≡ first_token (file.shared ++ space_shares file.shared ds) plain.c.name = ap (λ (x : ChannelRow). first_token (file.shared ++ space_shares file.shared ds) x.name)
      (get_or_from_slice_get (bounded_graph file.shared ds g).channels i plain.c no_row (get-left g.channels (space_rows g.channels file.shared ds) i plain.c plain.at)) in
      let one = first-front file.shared (space_shares file.shared m) share.0 share.1 plain.c.name share.2 share.3 in
      let two = first-front file.shared (space_shares file.shared ds) share.0 share.1 plain.c.name share.2 share.3 in
      let inside = first_inside file.shared share.0 k share.1 plain.c.name shares.rows_differ share.2 share.3 (omega (arith, tokens, share.4)) in
      record { small = omega (arith, lows, one, inside); same = lows ∙ (one ∙ (sym two ∙ sym highs)) }

  -- ---- chains and ways

  chain-same : (p a j t : ℕ) (cs : List ℕ) → ShowsTaken file m g cs [] → IsChain low_net low_first p a j t cs → IsOfFile p × IsChain high_net high_first p a j t cs
  chain-same p _ _ _ _ shows (begins a j i k below into early takes there is) =
      let plain = taken-plain (i ∷ []) shows i below (contains-here i []) in
      let number = has-number i k plain there in (
        subst IsOfFile (sym is) number.small,
        begins a j i k plain.inside (ap (λ (x : Channel). x.target) (sym (same-channel i plain)) ∙ into) early (subst (λ (x : Channel). IsTakenBy x k j) (same-channel i plain) takes)
            (subst (λ (x : Channel). k < x.tokens) (same-channel i plain) there) (is ∙ ap (λ (n : ℕ). n + k) number.same),
      )
  chain-same p _ _ _ _ shows (goes a j i k n s rest below into early takes puts chain) =
      let plain = taken-plain (i ∷ rest) shows i below (contains-here i rest) in
      let inner = chain-same p (channel_at (bounded_net file.shared m g gamma) i).source n s rest (λ c d row at has for. shows c d row at (contains-later i rest d has) for) chain in
      let inner' : IsChain high_net high_first p (channel_at high_net i).source n s rest = subst (λ (x : Channel). IsChain high_net high_first p x.source n s rest) (same-channel i plain) inner.1 in
      let made : IsChain high_net high_first p a j (s + time_of high_net (channel_at high_net i).source n) (i ∷ rest) =
      goes a j i k n s rest plain.inside (ap (λ (x : Channel). x.target) (sym (same-channel i plain)) ∙ into) early (subst (λ (x : Channel). IsTakenBy x k j) (same-channel i plain) takes)
      (subst (λ (x : Channel). IsPutBy x k n) (same-channel i plain) puts) inner' in
      (inner.0, subst (λ (b : ℕ). IsChain high_net high_first p a j (s + time_of high_net b n) (i ∷ rest)) (ap (λ (x : Channel). x.source) (sym (same-channel i plain))) made)

  left-same : (i k : ℕ) → IsPlainIn i → left_token low_net i k ≡ left_token high_net i k
  left-same i k plain = ap (λ (x : Channel). total x.taken (slice_index gamma x.target) + k) (same-channel i plain)

  pub way-same : (p q e : ℕ) (cs : List ℕ) → ShowsTaken file m g cs [] → IsOfFile q → IsWay low_net low_first p q e cs → IsOfFile p × IsWay high_net high_first p q e cs
  way-same p q _ _ shows small (stays i k below there is early at) =
      let plain = number-plain i k below (subst IsOfFile is small) in
      let number = has-number i k plain there in
      let from = has-number i (left_token low_net i k) plain early in (
        subst IsOfFile (sym at) from.small,
        stays i k plain.inside (subst (λ (x : Channel). k < x.tokens) (same-channel i plain) there) (is ∙ ap (λ (n : ℕ). n + k) number.same)
            (subst (λ (n : ℕ). n < (channel_at high_net i).tokens) (left-same i k plain) (subst (λ (x : Channel). left_token low_net i k < x.tokens) (same-channel i plain) early))
            (at ∙ (ap (λ (n : ℕ). n + left_token low_net i k) number.same ∙ ap (λ (n : ℕ). high_first i + n) (left-same i k plain))),
      )
  way-same p q _ _ shows small (put i k n t cs below there is puts chain) =
      let plain = number-plain i k below (subst IsOfFile is small) in
      let number = has-number i k plain there in
      let inner = chain-same p (channel_at low_net i).source n t cs shows chain in
      let inner' : IsChain high_net high_first p (channel_at high_net i).source n t cs = subst (λ (x : Channel). IsChain high_net high_first p x.source n t cs) (same-channel i plain) inner.1 in
      let puts' : IsPutBy (channel_at high_net i) (left_token high_net i k) n = subst (λ (l : ℕ). IsPutBy (channel_at high_net i) l n) (left-same i k plain)
      (subst (λ (x : Channel). IsPutBy x (left_token low_net i k) n) (same-channel i plain) puts) in
      let made : IsWay high_net high_first p q (t + time_of high_net (channel_at high_net i).source n) cs =
      put i k n t cs plain.inside (subst (λ (x : Channel). k < x.tokens) (same-channel i plain) there) (is ∙ ap (λ (l : ℕ). l + k) number.same) puts' inner' in
      (inner.0, subst (λ (b : ℕ). IsWay high_net high_first p q (t + time_of high_net b n) cs) (ap (λ (x : Channel). x.source) (sym (same-channel i plain))) made)

  -- a way that takes time begins on a channel of the file
  pub way-begins : (p q e : ℕ) (cs : List ℕ) → ShowsTaken file m g cs [] → IsWay low_net low_first p q e cs → IsOfFile p ⊎ (e ≡ 0)
  way-begins p q _ _ shows (stays i k below there is early at) = inr refl
  way-begins p q _ _ shows (put i k n t cs below there is puts chain) = inl (chain-same p (channel_at low_net i).source n t cs shows chain).0
