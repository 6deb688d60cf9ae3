-- The numbers of free spaces: by shared channel that of its free space in a scenario's bounded graph.
use Rattle.std.proofs.Common.{◌≡◌, ℕ, zero, suc, ◌+◌, ◌≤◌, ◌<◌, Option, None, Some, List, [], ◌∷◌, ◌++◌, length, ⊎_elim, refl, sym, ap, ◌∙◌, subst, arith}
use Rattle.std.specs.Prelude.{slice_get, slice_index_or}
use Rattle.std.proofs.lemmas.Bool.{cases_lt}
use Rattle.std.proofs.lemmas.List.{get_or_past}
use Rattle.std.proofs.lemmas.Option.{slice_get_within}
use Rattle.sd_base.specs.declared.tables.ChannelRow.{ChannelRow}
use Rattle.sd_base.specs.declared.tables.GraphFile.{GraphFile}
use Rattle.sd_base.specs.declared.tables.ScenarioFile.{ScenarioFile}
use Rattle.sd_base.specs.declared.tables.SharedRow.{SharedRow}
use Rattle.sd_base.specs.Scenarios.{Shares}
use Rattle.storage.specs.Distributions.{capacity_at}
use Rattle.bounded_scenarios.specs.BoundedFiles.{space_name, space_row, space_rows}
use Rattle.bounded_scenarios.specs.ScenarioGuides.{IsSpaceFor}
use Rattle.bounded_scenarios.specs.SharedChannels.{channel_named}
use Rattle.bounded_scenarios.proofs.JoinedListsSplit.{at-either, at-right}
use Rattle.bounded_scenarios.proofs.NamedChannels.{named-is}
use Rattle.scenario_storage.specs.inside.Shown.{HasSpace, spaces_from}

pub spaces-long : (n : ℕ) (ds : List (Option ℕ)) → length (spaces_from n ds) ≡ length ds
spaces-long n [] = refl
spaces-long n (None ∷ ds) = ap suc (spaces-long n ds)
spaces-long n (Some k ∷ ds) = ap suc (spaces-long (suc n) ds)

-- a channel with a number stands in the list
pub has-place : (spaces : List (Option ℕ)) (c i : ℕ) → HasSpace spaces c i → c < length spaces
has-place spaces c i has =
    ⊎_elim
    (λ (below : c < length spaces). below)
    (λ (past : length spaces ≤ c). absurd (let none : slice_index_or spaces c None ≡ None = get_or_past spaces c None past in cc))
    (cases_lt c (length spaces))

-- the space of a number is that of a row with a capacity
pub record SpaceOf (cs : List ChannelRow) (rows : List SharedRow) (ds : List (Option ℕ)) (n c i : ℕ) : Type 0 where
  pub place : ℕ
  pub is : i ≡ n + place
  pub room : ℕ
  pub capped : capacity_at ds c ≡ Some room
  pub row : (r : SharedRow) → slice_get rows c ≡ Some r → slice_get (space_rows cs rows ds) place ≡ Some (space_row (channel_named cs r.name) room)

pub space-of : (cs : List ChannelRow) (rows : List SharedRow) (ds : List (Option ℕ)) (n c i : ℕ) → HasSpace (spaces_from n ds) c i → SpaceOf cs rows ds n c i
space-of cs rows [] n c i has = absurd (cc)
space-of cs rows (None ∷ ds) n zero i has = absurd (cc)
space-of cs rows (Some k ∷ ds) n zero i has = record {
  place = 0;
  is = (let e : n ≡ i = cc in omega (arith, e));
  room = k;
  capped = refl;
  row = first rows;
}
  where
    first : (xs : List SharedRow) (r : SharedRow) → slice_get xs 0 ≡ Some r → slice_get (space_rows cs xs (Some k ∷ ds)) 0 ≡ Some (space_row (channel_named cs r.name) k)
    first [] r at = absurd (cc)
    first (x ∷ xs) r at = let same : x ≡ r = cc in ap (λ (y : SharedRow). Some (space_row (channel_named cs y.name) k)) same
space-of cs [] (None ∷ ds) n (suc c) i has =
    let later = space-of cs [] ds n c i has in
    record { place = later.place; is = later.is; room = later.room; capped = later.capped; row = λ r at. absurd (cc) }
space-of cs (x ∷ rows) (None ∷ ds) n (suc c) i has =
    let later = space-of cs rows ds n c i has in
    record { place = later.place; is = later.is; room = later.room; capped = later.capped; row = λ r at. later.row r at }
space-of cs [] (Some k ∷ ds) n (suc c) i has =
    let later = space-of cs [] ds (suc n) c i has in
    record { place = suc later.place; is = omega (arith, later.is); room = later.room; capped = later.capped; row = λ r at. absurd (cc) }
space-of cs (x ∷ rows) (Some k ∷ ds) n (suc c) i has =
    let later = space-of cs rows ds (suc n) c i has in
    record { place = suc later.place; is = omega (arith, later.is); room = later.room; capped = later.capped; row = λ r at. later.row r at }

-- each space has a number, and its name
pub record NumberOf (cs : List ChannelRow) (rows : List SharedRow) (ds : List (Option ℕ)) (n j : ℕ) (s : ChannelRow) : Type 0 where
  pub place : ℕ
  pub row : SharedRow
  pub at : slice_get rows place ≡ Some row
  pub room : ℕ
  pub is : s ≡ space_row (channel_named cs row.name) room
  pub number : HasSpace (spaces_from n ds) place (n + j)

number-more : (cs : List ChannelRow) (x : SharedRow) (rows : List SharedRow) (d : Option ℕ) (ds : List (Option ℕ)) (n m j k : ℕ) (s : ChannelRow) →
    ((c i : ℕ) → HasSpace (spaces_from m ds) c i → HasSpace (spaces_from n (d ∷ ds)) (suc c) i) → m + j ≡ n + k → NumberOf cs rows ds m j s → NumberOf cs (x ∷ rows) (d ∷ ds) n k s
number-more cs x rows d ds n m j k s further same of = record {
  place = suc of.place;
  row = of.row;
  at = of.at;
  room = of.room;
  is = of.is;
  number = subst (λ (i : ℕ). HasSpace (spaces_from n (d ∷ ds)) (suc of.place) i) same (further of.place (m + j) of.number);
}

pub number-of : (cs : List ChannelRow) (rows : List SharedRow) (ds : List (Option ℕ)) (n j : ℕ) (s : ChannelRow) → slice_get (space_rows cs rows ds) j ≡ Some s → NumberOf cs rows ds n j s
number-of cs [] ds n j s at = absurd (cc)
number-of cs (x ∷ rows) [] n j s at = absurd (cc)
number-of cs (x ∷ rows) (None ∷ ds) n j s at = number-more cs x rows None ds n n j j s (λ c i has. has) refl (number-of cs rows ds n j s at)
number-of cs (x ∷ rows) (Some k ∷ ds) n zero s at = record {
  place = 0;
  row = x;
  at = refl;
  room = k;
  is = (let same : space_row (channel_named cs x.name) k ≡ s = cc in sym same);
  number = (let same : n ≡ n + 0 = omega arith in ap (λ (i : ℕ). Some i) same);
}
number-of cs (x ∷ rows) (Some k ∷ ds) n (suc j) s at = number-more cs x rows (Some k) ds n (suc n) j (suc j) s (λ c i has. has) (omega arith) (number-of cs rows ds (suc n) j s at)

module _ (file : ScenarioFile) (ds : List (Option ℕ)) (g : GraphFile) (shares : Shares file.shared g) where
  -- the name of the channel of a shared row
  name-is : (s : ℕ) (row : SharedRow) → slice_get file.shared s ≡ Some row → (channel_named g.channels row.name).name ≡ row.name
  name-is s row at = let there = shares.rows s row at in (named-is g.channels row.name there.0 there.1 there.2 there.3).2

  pub numbered-space : (c i : ℕ) (row : SharedRow) → slice_get file.shared c ≡ Some row → HasSpace (spaces_from (length g.channels) ds) c i → IsSpaceFor file ds g row.name i
  numbered-space c i row at has =
      let of = space-of g.channels file.shared ds (length g.channels) c i has in (
        omega (arith, of.is),
        (
          space_row (channel_named g.channels row.name) of.room,
          subst (λ (k : ℕ). slice_get (g.channels ++ space_rows g.channels file.shared ds) k ≡ Some (space_row (channel_named g.channels row.name) of.room)) (sym of.is)
              (at-right g.channels (space_rows g.channels file.shared ds) of.place (space_row (channel_named g.channels row.name) of.room) (of.row row at)),
          ap space_name (name-is c row at),
        ),
      )

  pub space-number : (c i : ℕ) (row : SharedRow) → slice_get file.shared c ≡ Some row → IsSpaceFor file ds g row.name i → HasSpace (spaces_from (length g.channels) ds) c i
  space-number c i row at (past, (s, there, named)) =
      ⊎_elim
      (λ (front : slice_get g.channels i ≡ Some s). absurd (let low = slice_get_within g.channels i s front in omega (arith, low, past)))
      (λ (back : (j : ℕ) × (i ≡ length g.channels + j) × (slice_get (space_rows g.channels file.shared ds) j ≡ Some s)).
      let of = number-of g.channels file.shared ds (length g.channels) back.0 s back.2 in
      let names : space_name of.row.name ≡ space_name row.name = sym (ap (λ (x : ChannelRow). x.name) of.is ∙ ap space_name (name-is of.place of.row of.at)) ∙ named in
      let name : of.row.name ≡ row.name = cc in
      let same : of.place ≡ c = shares.rows_differ of.place c of.row row of.at at name in
      subst (λ (k : ℕ). HasSpace (spaces_from (length g.channels) ds) k i) same
      (subst (λ (k : ℕ). HasSpace (spaces_from (length g.channels) ds) of.place k) (sym back.1) of.number))
      (at-either g.channels (space_rows g.channels file.shared ds) i s there)

  pub space-capped : (c i : ℕ) → HasSpace (spaces_from (length g.channels) ds) c i → (k : ℕ) × (capacity_at ds c ≡ Some k)
  space-capped c i has = let of = space-of g.channels file.shared ds (length g.channels) c i has in (of.room, of.capped)
