-- The channel of a name: it is one of the list, and that of a shared row has the row's tokens.
use Rattle.std.proofs.Common.{◌≡◌, ℕ, zero, suc, Bool, true, false, Some, List, [], ◌∷◌, subst, sym, ap, ◌∙◌, refl}
use Rattle.std.specs.Prelude.{slice_get}
use Rattle.std.specs.Str.{bytes_eq}
use Rattle.std.proofs.lemmas.Slice.Eq.{bytes_eq-Decides}
use Rattle.sd_base.specs.declared.tables.GraphFile.{GraphFile}
use Rattle.sd_base.specs.declared.tables.ChannelRow.{ChannelRow}
use Rattle.sd_base.specs.declared.tables.SharedRow.{SharedRow}
use Rattle.sd_base.specs.Scenarios.{Shares}
use Rattle.bounded_scenarios.specs.SharedChannels.{channel_named}

pub named-is : (cs : List ChannelRow) (name : List ℕ) (i : ℕ) (c : ChannelRow) → slice_get cs i ≡ Some c → c.name ≡ name →
    (j : ℕ) × (slice_get cs j ≡ Some (channel_named cs name)) × ((channel_named cs name).name ≡ name)
named-is [] name i c at same = absurd (cc)
named-is (x ∷ cs) name i c at same = step (λ j there. named-is cs name j c there same) (bytes_eq x.name name) refl
  where
    past : (k : ℕ) → slice_get (x ∷ cs) k ≡ Some c → bytes_eq x.name name ≡ false → (j : ℕ) × (slice_get cs j ≡ Some c)
    past zero there other = let e : x ≡ c = cc in let yes : bytes_eq x.name name ≡ true = (bytes_eq-Decides x.name name).1 (ap (λ (r : ChannelRow). r.name) e ∙ same) in absurd (cc)
    past (suc k) there other = (k, there)

    step : ((j : ℕ) → slice_get cs j ≡ Some c → (k : ℕ) × (slice_get cs k ≡ Some (channel_named cs name)) × ((channel_named cs name).name ≡ name)) → (b : Bool) → bytes_eq x.name name ≡ b →
        (k : ℕ) × (slice_get (x ∷ cs) k ≡ Some (channel_named (x ∷ cs) name)) × ((channel_named (x ∷ cs) name).name ≡ name)
    step next true eq = rw eq (0, refl, (bytes_eq-Decides x.name name).0 eq)
    step next false eq = let later = past i at eq in let rest = next later.0 later.1 in rw eq (suc rest.0, rest.1, rest.2)

-- the channel of a shared row's name in a scenario's graph is one of the graph's, with the row's tokens
pub shared-named : (shared : List SharedRow) (g : GraphFile) → Shares shared g → (s : ℕ) (row : SharedRow) → slice_get shared s ≡ Some row →
    (i : ℕ) × (slice_get g.channels i ≡ Some (channel_named g.channels row.name)) × ((channel_named g.channels row.name).tokens ≡ row.tokens)
shared-named shared g shares s row at =
    let there = shares.rows s row at in
    let found = named-is g.channels row.name there.0 there.1 there.2 there.3 in
    let same : found.0 ≡ there.0 = shares.names_differ found.0 there.0 (channel_named g.channels row.name) there.1 found.1 there.2 (found.2 ∙ sym there.3) in
    let here : slice_get g.channels there.0 ≡ Some (channel_named g.channels row.name) = subst (λ (j : ℕ). slice_get g.channels j ≡ Some (channel_named g.channels row.name)) same found.1 in
    let get : slice_get g.channels there.0 ≡ Some there.1 = there.2 in
    let is : there.1 ≡ channel_named g.channels row.name = cc in
    (there.0, here, sym (ap (λ (c : ChannelRow). c.tokens) is) ∙ there.4)
