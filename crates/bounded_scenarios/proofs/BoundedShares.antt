-- The bounded file shares the free spaces with tokens as its scenarios' graphs have them.
use Rattle.std.proofs.Common.{◌≡◌, ℕ, zero, suc, ◌+◌, ◌-◌, ◌≤◌, ◌<◌, Bool, true, false, Option, None, Some, List, [], ◌∷◌, ◌++◌, length, ⊎_elim, sym, ap, ◌∙◌, refl, arith}
use Rattle.std.specs.Prelude.{slice_get, if◌then◌else◌, nat_lt}
use Rattle.sd_base.specs.declared.tables.GraphFile.{GraphFile}
use Rattle.sd_base.specs.declared.tables.ChannelRow.{ChannelRow}
use Rattle.sd_base.specs.declared.tables.SharedRow.{SharedRow}
use Rattle.sd_base.specs.Scenarios.{Shares}
use Rattle.sd_base.proofs.ElementsKeepPlaces.{get-left}
use Rattle.bounded_scenarios.specs.BoundedFiles.{bounded_graph, space_name, space_row, space_rows, space_shares}
use Rattle.bounded_scenarios.specs.SharedChannels.{channel_named}
use Rattle.bounded_scenarios.specs.Boundings.{AreFileNames}
use Rattle.bounded_scenarios.proofs.JoinedListsSplit.{IsLater, at-either, at-right}
use Rattle.bounded_scenarios.proofs.SpacesFollowRows.{share-at, share-there, share_of, space-at, space-there}
use Rattle.token_matrix.proofs.NumbersCoverTokens.{RowsDiffer, later_differ}
use Rattle.bounded_scenarios.proofs.NamedChannels.{named-is, shared-named}

-- ---- no two of them have one name

not-later : (row : SharedRow) (rows : List SharedRow) (ds : List (Option ℕ)) (t : ℕ) (y : SharedRow) → RowsDiffer (row ∷ rows) → slice_get (space_shares rows ds) t ≡ Some y →
    space_name row.name ≡ y.name → ⊥
not-later row rows ds t y differ at same =
    let one = share-at rows ds t y at in
    let spaces : space_name row.name ≡ space_name one.1.name = same ∙ ap (λ (r : SharedRow). r.name) one.5.1 in
    let names : row.name ≡ one.1.name = cc in
    let places : 0 ≡ suc one.0 = differ 0 (suc one.0) row one.1 refl one.3 names in
    absurd (omega (arith, places))

shares-apart : (rows : List SharedRow) (ds : List (Option ℕ)) → RowsDiffer rows → RowsDiffer (space_shares rows ds)
shares-apart [] ds differ s t x y at there same = absurd (cc)
shares-apart (row ∷ rows) [] differ s t x y at there same = absurd (cc)
shares-apart (row ∷ rows) (None ∷ ds) differ s t x y at there same = shares-apart rows ds (later_differ row rows differ) s t x y at there same
shares-apart (row ∷ rows) (Some k ∷ ds) differ s t x y at there same = both (shares-apart rows ds (later_differ row rows differ)) (nat_lt row.tokens k) s t x y at there same
  where
    cons : RowsDiffer (space_shares rows ds) → RowsDiffer (share_of row k ∷ space_shares rows ds)
    cons next zero zero x y at there same = refl
    cons next zero (suc t) x y at there same = let e : share_of row k ≡ x = cc in let z : ⊥ = not-later row rows ds t y differ there (ap (λ (r : SharedRow). r.name) e ∙ same) in absurd z
    cons next (suc s) zero x y at there same = let e : share_of row k ≡ y = cc in let z : ⊥ = not-later row rows ds s x differ at (ap (λ (r : SharedRow). r.name) e ∙ sym same) in absurd z
    cons next (suc s) (suc t) x y at there same = ap suc (next s t x y at there same)

    both : RowsDiffer (space_shares rows ds) → (b : Bool) → RowsDiffer (if b then share_of row k ∷ space_shares rows ds else space_shares rows ds)
    both next true = cons next
    both next false = next

abbrev ChannelsDiffer : List ChannelRow → Type 0
ChannelsDiffer cs = (i j : ℕ) (c d : ChannelRow) → slice_get cs i ≡ Some c → slice_get cs j ≡ Some d → c.name ≡ d.name → i ≡ j

abbrev AreNamed : List ChannelRow → List SharedRow → Type 0
AreNamed cs rows = (t : ℕ) (row : SharedRow) → slice_get rows t ≡ Some row → (channel_named cs row.name).name ≡ row.name

no-later-space : (cs : List ChannelRow) (row : SharedRow) (rows : List SharedRow) (ds : List (Option ℕ)) (t : ℕ) (d : ChannelRow) → AreNamed cs (row ∷ rows) → RowsDiffer (row ∷ rows) →
    slice_get (space_rows cs rows ds) t ≡ Some d →
    space_name (channel_named cs row.name).name ≡ d.name → ⊥
no-later-space cs row rows ds t d called differ at same =
    let one = space-at cs rows ds t d at in
    let mine : (channel_named cs row.name).name ≡ row.name = called 0 row refl in
    let its : (channel_named cs one.1.name).name ≡ one.1.name = called (suc one.0) one.1 one.3 in
    let spaces : space_name (channel_named cs row.name).name ≡ space_name (channel_named cs one.1.name).name = same ∙ ap (λ (r : ChannelRow). r.name) one.5 in
    let inner : (channel_named cs row.name).name ≡ (channel_named cs one.1.name).name = cc in
    let places : 0 ≡ suc one.0 = differ 0 (suc one.0) row one.1 refl one.3 (sym mine ∙ (inner ∙ its)) in
    absurd (omega (arith, places))

spaces-apart : (cs : List ChannelRow) (rows : List SharedRow) (ds : List (Option ℕ)) → AreNamed cs rows → RowsDiffer rows → ChannelsDiffer (space_rows cs rows ds)
spaces-apart cs [] ds called differ i j c d at there same = absurd (cc)
spaces-apart cs (row ∷ rows) [] called differ i j c d at there same = absurd (cc)
spaces-apart cs (row ∷ rows) (None ∷ ds) called differ i j c d at there same = spaces-apart cs rows ds (λ t r has. called (suc t) r has) (later_differ row rows differ) i j c d at there same
spaces-apart cs (row ∷ rows) (Some k ∷ ds) called differ zero zero c d at there same = refl
spaces-apart cs (row ∷ rows) (Some k ∷ ds) called differ zero (suc j) c d at there same =
    let e : space_row (channel_named cs row.name) k ≡ c = cc in let z : ⊥ = no-later-space cs row rows ds j d called differ there (ap (λ (r : ChannelRow). r.name) e ∙ same) in absurd z
spaces-apart cs (row ∷ rows) (Some k ∷ ds) called differ (suc i) zero c d at there same =
    let e : space_row (channel_named cs row.name) k ≡ d = cc in let z : ⊥ = no-later-space cs row rows ds i c called differ at (ap (λ (r : ChannelRow). r.name) e ∙ sym same) in absurd z
spaces-apart cs (row ∷ rows) (Some k ∷ ds) called differ (suc i) (suc j) c d at there same = ap suc
    (spaces-apart cs rows ds (λ t r has. called (suc t) r has) (later_differ row rows differ) i j c d at there same)

-- ---- the shares

module _ (shared : List SharedRow) (ds : List (Option ℕ)) (g : GraphFile) (shares : Shares shared g) (names : AreFileNames g.channels) where
  named : (t : ℕ) (row : SharedRow) → slice_get shared t ≡ Some row → (channel_named g.channels row.name).name ≡ row.name
  named t row at = let there = shares.rows t row at in (named-is g.channels row.name there.0 there.1 there.2 there.3).2

  tokened : (t : ℕ) (row : SharedRow) → slice_get shared t ≡ Some row → (channel_named g.channels row.name).tokens ≡ row.tokens
  tokened t row at = (shared-named shared g shares t row at).2

  abbrev IsShared : SharedRow → Type 0
  IsShared row = (i : ℕ) × (c : ChannelRow) × (slice_get (g.channels ++ space_rows g.channels shared ds) i ≡ Some c) × (c.name ≡ row.name) × (c.tokens ≡ row.tokens) × (1 ≤ row.tokens)

  row-shared : (s : ℕ) (x : SharedRow) → slice_get (shared ++ space_shares shared ds) s ≡ Some x → IsShared x
  row-shared s x at = ⊎_elim left right (at-either shared (space_shares shared ds) s x at)
    where
      left : slice_get shared s ≡ Some x → IsShared x
      left here = let one = shares.rows s x here in (one.0, one.1, get-left g.channels (space_rows g.channels shared ds) one.0 one.1 one.2, one.3, one.4, one.5)

      right : IsLater shared (space_shares shared ds) s x → IsShared x
      right later =
          let one = share-at shared ds later.0 x later.2 in
          let there = space-there g.channels shared ds one.0 one.1 one.2 one.3 one.4 in
          let is : x ≡ share_of one.1 one.2 = one.5.1 in
          let name : (channel_named g.channels one.1.name).name ≡ one.1.name = named one.0 one.1 one.3 in
          let tokens : (channel_named g.channels one.1.name).tokens ≡ one.1.tokens = tokened one.0 one.1 one.3 in
          let lt : one.1.tokens < one.2 = one.5.0 in
          let xt : x.tokens ≡ one.2 - one.1.tokens = ap (λ (r : SharedRow). r.tokens) is in (
            length g.channels + there.0,
            space_row (channel_named g.channels one.1.name) one.2,
            at-right g.channels (space_rows g.channels shared ds) there.0 (space_row (channel_named g.channels one.1.name) one.2) there.1,
            ap space_name name ∙ sym (ap (λ (r : SharedRow). r.name) is),
            ap (λ (n : ℕ). one.2 - n) tokens ∙ sym xt,
            omega arith,
          )

  channel-shared : (i : ℕ) (c : ChannelRow) → slice_get (g.channels ++ space_rows g.channels shared ds) i ≡ Some c → 1 ≤ c.tokens →
      (s : ℕ) × (row : SharedRow) × (slice_get (shared ++ space_shares shared ds) s ≡ Some row) × (row.name ≡ c.name) × (row.tokens ≡ c.tokens)
  channel-shared i c at some = ⊎_elim left right (at-either g.channels (space_rows g.channels shared ds) i c at)
    where
      left : slice_get g.channels i ≡ Some c → (s : ℕ) × (row : SharedRow) × (slice_get (shared ++ space_shares shared ds) s ≡ Some row) × (row.name ≡ c.name) × (row.tokens ≡ c.tokens)
      left here = let one = shares.channels i c here some in (one.0, one.1, get-left shared (space_shares shared ds) one.0 one.1 one.2, one.3, one.4)

      right : IsLater g.channels (space_rows g.channels shared ds) i c →
          (s : ℕ) × (row : SharedRow) × (slice_get (shared ++ space_shares shared ds) s ≡ Some row) × (row.name ≡ c.name) × (row.tokens ≡ c.tokens)
      right later =
          let one = space-at g.channels shared ds later.0 c later.2 in
          let name : (channel_named g.channels one.1.name).name ≡ one.1.name = named one.0 one.1 one.3 in
          let tokens : (channel_named g.channels one.1.name).tokens ≡ one.1.tokens = tokened one.0 one.1 one.3 in
          let ct : c.tokens ≡ one.2 - (channel_named g.channels one.1.name).tokens = ap (λ (r : ChannelRow). r.tokens) one.5 in
          let lt : one.1.tokens < one.2 = omega arith in
          let there = share-there shared ds one.0 one.1 one.2 one.3 one.4 lt in (
            length shared + there.0,
            share_of one.1 one.2,
            at-right shared (space_shares shared ds) there.0 (share_of one.1 one.2) there.1,
            ap space_name (sym name) ∙ sym (ap (λ (r : ChannelRow). r.name) one.5),
            ap (λ (n : ℕ). one.2 - n) (sym tokens) ∙ sym ct,
          )

  -- no row of the file has the name of a space
  no-space : (s : ℕ) (x : SharedRow) (name : List ℕ) → slice_get shared s ≡ Some x → x.name ≡ space_name name → ⊥
  no-space s x name at same = let one = shares.rows s x at in absurd (names one.0 one.1 name one.2 (one.3 ∙ same))

  rows-apart : RowsDiffer (shared ++ space_shares shared ds)
  rows-apart s t x y at there same = ⊎_elim
      (λ (a : slice_get shared s ≡ Some x). ⊎_elim (λ (b : slice_get shared t ≡ Some y). shares.rows_differ s t x y a b same)
      (λ (b : IsLater shared (space_shares shared ds) t y). let one = share-at shared ds b.0 y b.2 in let z : ⊥ = no-space s x one.1.name a (same ∙ ap (λ (r : SharedRow). r.name) one.5.1) in
      absurd z) (at-either shared (space_shares shared ds) t y there))
      (λ (a : IsLater shared (space_shares shared ds) s x). ⊎_elim
      (λ (b : slice_get shared t ≡ Some y). let one = share-at shared ds a.0 x a.2 in let z : ⊥ = no-space t y one.1.name b (sym same ∙ ap (λ (r : SharedRow). r.name) one.5.1) in absurd z)
      (λ (b : IsLater shared (space_shares shared ds) t y). let e : a.0 ≡ b.0 = shares-apart shared ds shares.rows_differ a.0 b.0 x y a.2 b.2 same in omega (arith, e, a.1, b.1))
      (at-either shared (space_shares shared ds) t y there))
      (at-either shared (space_shares shared ds) s x at)

  channels-apart : ChannelsDiffer (g.channels ++ space_rows g.channels shared ds)
  channels-apart i j c d at there same = ⊎_elim
      (λ (a : slice_get g.channels i ≡ Some c). ⊎_elim (λ (b : slice_get g.channels j ≡ Some d). shares.names_differ i j c d a b same)
      (λ (b : IsLater g.channels (space_rows g.channels shared ds) j d). let one = space-at g.channels shared ds b.0 d b.2 in
      absurd (names i c (channel_named g.channels one.1.name).name a (same ∙ ap (λ (r : ChannelRow). r.name) one.5))) (at-either g.channels (space_rows g.channels shared ds) j d there))
      (λ (a : IsLater g.channels (space_rows g.channels shared ds) i c). ⊎_elim
      (λ (b : slice_get g.channels j ≡ Some d). let one = space-at g.channels shared ds a.0 c a.2 in
      absurd (names j d (channel_named g.channels one.1.name).name b (sym same ∙ ap (λ (r : ChannelRow). r.name) one.5)))
      (λ (b : IsLater g.channels (space_rows g.channels shared ds) j d). let e : a.0 ≡ b.0 = spaces-apart g.channels shared ds named shares.rows_differ a.0 b.0 c d a.2 b.2 same in
      omega (arith, e, a.1, b.1)) (at-either g.channels (space_rows g.channels shared ds) j d there))
      (at-either g.channels (space_rows g.channels shared ds) i c at)

  pub bounded-shares : Shares (shared ++ space_shares shared ds) (bounded_graph shared ds g)
  bounded-shares = record { rows = row-shared; channels = channel-shared; rows_differ = rows-apart; names_differ = channels-apart }
