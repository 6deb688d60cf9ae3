-- The nets of a scenario bounded by two distributions of the same channels: they differ in the tokens of free spaces alone.
use Rattle.std.proofs.Common.{◌≡◌, ℕ, suc, ◌+◌, ◌≤◌, ◌<◌, ◌⊎◌, Option, None, Some, List, [], ◌∷◌, ◌++◌, length, inl, inr, ⊎_elim, subst, sym, ap, ◌∙◌, refl, arith}
use Rattle.std.specs.Prelude.{slice_get}
use Rattle.std.proofs.lemmas.List.{length-append}
use Rattle.sd_base.specs.declared.tables.ChannelRow.{ChannelRow}
use Rattle.sd_base.specs.declared.tables.GraphFile.{GraphFile}
use Rattle.sd_base.specs.declared.tables.Kind.TheVariants.{Sdf}
use Rattle.sd_base.specs.declared.tables.SharedRow.{SharedRow}
use Rattle.sd_base.specs.Net.{Channel, channel_at, file_channel}
use Rattle.sd_base.specs.Tables.{KeepsWideRules}
use Rattle.sd_base.proofs.ElementsKeepPlaces.{get-left}
use Rattle.storage.specs.Distributions.{AtMost}
use Rattle.token_matrix.proofs.GraphMatricesCarry.{channels-many}
use Rattle.bounded_scenarios.specs.BoundedFiles.{bounded_graph, space_row, space_rows}
use Rattle.bounded_scenarios.specs.SharedChannels.{channel_named}
use Rattle.bounded_scenarios.specs.StorageRates.{bounded_net}
use Rattle.bounded_scenarios.proofs.BoundedRules.{channel-is, channel-there}
use Rattle.bounded_scenarios.proofs.JoinedListsSplit.{IsLater, at-either, at-right}
use Rattle.bounded_scenarios.proofs.SpacesFollowRows.{SpacePair, space-pair}
use Rattle.bounded_scenarios.proofs.TokenMaps.{IsRoomier, SameNets, SameRates}

spaces-many : (cs : List ChannelRow) (rows : List SharedRow) (ds es : List (Option ℕ)) → AtMost ds es → length (space_rows cs rows ds) ≡ length (space_rows cs rows es)
spaces-many cs [] ds es most = refl
spaces-many cs (row ∷ rows) [] [] most = refl
spaces-many cs (row ∷ rows) (None ∷ ds) (None ∷ es) most = spaces-many cs rows ds es most
spaces-many cs (row ∷ rows) (Some a ∷ ds) (Some b ∷ es) most = ap suc (spaces-many cs rows ds es most.1)
spaces-many cs (row ∷ rows) ds es most = absurd most

-- a free space of a shared row, at both capacities
pub record IsSpaceOfBoth (g : GraphFile) (shared : List SharedRow) (ds es : List (Option ℕ)) (i : ℕ) (c d : ChannelRow) : Type 0 where
  pub past : length g.channels ≤ i
  pub place : ℕ
  pub row : SharedRow
  pub at : slice_get shared place ≡ Some row
  pub low : ℕ
  pub high : ℕ
  pub low_at : slice_get ds place ≡ Some (Some low)
  pub high_at : slice_get es place ≡ Some (Some high)
  pub most : low ≤ high
  pub first : c ≡ space_row (channel_named g.channels row.name) low
  pub second : d ≡ space_row (channel_named g.channels row.name) high

-- channel i of both graphs: one of the file, or a free space
pub record BothAt (g : GraphFile) (shared : List SharedRow) (ds es : List (Option ℕ)) (i : ℕ) : Type 0 where
  pub c : ChannelRow
  pub d : ChannelRow
  pub first : slice_get (bounded_graph shared ds g).channels i ≡ Some c
  pub second : slice_get (bounded_graph shared es g).channels i ≡ Some d
  pub what : ((slice_get g.channels i ≡ Some c) × (d ≡ c)) ⊎ IsSpaceOfBoth g shared ds es i c d

pub both-rows : (g : GraphFile) (shared : List SharedRow) (ds es : List (Option ℕ)) → AtMost ds es → (i : ℕ) (c : ChannelRow) → slice_get (bounded_graph shared ds g).channels i ≡ Some c →
    BothAt g shared ds es i
both-rows g shared ds es most i c at = ⊎_elim file space (at-either g.channels (space_rows g.channels shared ds) i c at)
  where
    file : slice_get g.channels i ≡ Some c → BothAt g shared ds es i
    file here = record { c = c; d = c; first = at; second = get-left g.channels (space_rows g.channels shared es) i c here; what = inl (here, refl) }

    space : IsLater g.channels (space_rows g.channels shared ds) i c → BothAt g shared ds es i
    space later =
        let one : SpacePair g.channels shared ds es later.0 c = space-pair g.channels shared ds es later.0 c most later.2 in
        record {
          c = c;
          d = space_row (channel_named g.channels one.row.name) one.high;
          first = at;
          second = subst (λ (n : ℕ). slice_get (g.channels ++ space_rows g.channels shared es) n ≡ Some (space_row (channel_named g.channels one.row.name) one.high)) (sym later.1)
              (at-right g.channels (space_rows g.channels shared es) later.0 (space_row (channel_named g.channels one.row.name) one.high) one.other);
          what = inr (record {
            past = omega (arith, later.1);
            place = one.place;
            row = one.row;
            at = one.at;
            low = one.low;
            high = one.high;
            low_at = one.low_at;
            high_at = one.high_at;
            most = one.most;
            first = one.is;
            second = refl;
          });
        }

-- their ends and rates are the same, and the second has no fewer tokens
pub record SameEnds (c d : ChannelRow) : Type 0 where
  pub name : d.name ≡ c.name
  pub source : c.source ≡ d.source
  pub target : c.target ≡ d.target
  pub made : c.made ≡ d.made
  pub taken : c.taken ≡ d.taken
  pub more : c.tokens ≤ d.tokens

pub same-ends : (g : GraphFile) (shared : List SharedRow) (ds es : List (Option ℕ)) (i : ℕ) (both : BothAt g shared ds es i) → SameEnds both.c both.d
same-ends g shared ds es i both = ⊎_elim file space both.what
  where
    itself : (c : ChannelRow) → SameEnds c c
    itself c = record { name = refl; source = refl; target = refl; made = refl; taken = refl; more = omega arith }

    file : (slice_get g.channels i ≡ Some both.c) × (both.d ≡ both.c) → SameEnds both.c both.d
    file (here, same) = subst (λ (x : ChannelRow). SameEnds both.c x) (sym same) (itself both.c)

    spaces : (c : ChannelRow) (k l : ℕ) → k ≤ l → SameEnds (space_row c k) (space_row c l)
    spaces c k l most = record { name = refl; source = refl; target = refl; made = refl; taken = refl; more = omega arith }

    space : IsSpaceOfBoth g shared ds es i both.c both.d → SameEnds both.c both.d
    space is = subst (λ (x : ChannelRow). SameEnds x both.d) (sym is.first) (subst (λ (x : ChannelRow). SameEnds (space_row (channel_named g.channels is.row.name) is.low) x) (sym is.second)
        (spaces (channel_named g.channels is.row.name) is.low is.high is.most))

module _ (g : GraphFile) (gamma : List ℕ) (shared : List SharedRow) (ds es : List (Option ℕ)) (most : AtMost ds es) (kind : g.kind ≡ Sdf)
    (low_rules : KeepsWideRules (bounded_graph shared ds g)) (high_rules : KeepsWideRules (bounded_graph shared es g)) where
  pub both-at : (i : ℕ) → i < length (bounded_net shared ds g gamma).channels → BothAt g shared ds es i
  both-at i below = let row = channel-there (bounded_graph shared ds g) gamma low_rules kind i below in both-rows g shared ds es most i row.0 row.1

  pub low-is : (i : ℕ) (both : BothAt g shared ds es i) → channel_at (bounded_net shared ds g gamma) i ≡ file_channel i both.c
  low-is i both = channel-is (bounded_graph shared ds g) gamma low_rules kind i both.c both.first

  pub high-is : (i : ℕ) (both : BothAt g shared ds es i) → channel_at (bounded_net shared es g gamma) i ≡ file_channel i both.d
  high-is i both = channel-is (bounded_graph shared es g) gamma high_rules kind i both.d both.second

  pub nets-many : length (bounded_net shared ds g gamma).channels ≡ length (bounded_net shared es g gamma).channels
  nets-many =
      channels-many (bounded_graph shared ds g) gamma low_rules kind
      ∙ (length-append g.channels (space_rows g.channels shared ds)
      ∙ (ap (λ (n : ℕ). length g.channels + n) (spaces-many g.channels shared ds es most)
      ∙ (sym (length-append g.channels (space_rows g.channels shared es)) ∙ sym (channels-many (bounded_graph shared es g) gamma high_rules kind))))

  rates : (i : ℕ) (both : BothAt g shared ds es i) → SameRates (file_channel i both.c) (file_channel i both.d)
  rates i both = let ends = same-ends g shared ds es i both in record { source = ends.source; target = ends.target; made = ends.made; taken = ends.taken }

  pub same-nets : SameNets (bounded_net shared ds g gamma) (bounded_net shared es g gamma)
  same-nets = record {
    times = refl;
    round = refl;
    many = nets-many;
    each = λ i below. (
        let both = both-at i below in
        subst (λ (x : Channel). SameRates x (channel_at (bounded_net shared es g gamma) i)) (sym (low-is i both))
        (subst (λ (x : Channel). SameRates (file_channel i both.c) x) (sym (high-is i both)) (rates i both)));
  }

  -- the second net has no less room
  pub roomier : IsRoomier (bounded_net shared ds g gamma) (bounded_net shared es g gamma)
  roomier = record {
    same = same-nets;
    more = λ i below. (
        let both = both-at i below in
        let low : (channel_at (bounded_net shared ds g gamma) i).tokens ≡ both.c.tokens = ap (λ (x : Channel). x.tokens) (low-is i both) in
        let high : (channel_at (bounded_net shared es g gamma) i).tokens ≡ both.d.tokens = ap (λ (x : Channel). x.tokens) (high-is i both) in
        omega (arith, low, high, (same-ends g shared ds es i both).more));
  }
