-- Ways of a bounded graph are ways of another, by the numbers of their tokens.
use Rattle.std.proofs.Common.{◌≡◌, ℕ, ◌+◌, ◌≤◌, ◌<◌, false, Some, List, length, sym, ap, ◌∙◌, arith}
use Rattle.std.specs.Prelude.{slice_get}
use Rattle.std.proofs.lemmas.Option.{get_or_from_slice_get}
use Rattle.sd_base.specs.declared.tables.ChannelRow.{ChannelRow}
use Rattle.sd_base.specs.declared.tables.GraphFile.{GraphFile}
use Rattle.sd_base.specs.declared.tables.Kind.TheVariants.{Sdf}
use Rattle.sd_base.specs.declared.tables.SharedRow.{SharedRow}
use Rattle.sd_base.specs.FileNet.{net_of}
use Rattle.sd_base.specs.Net.{Channel, channel_at}
use Rattle.sd_base.specs.Scenarios.{Shares}
use Rattle.sd_base.specs.Tables.{KeepsWideRules}
use Rattle.token_matrix.specs.Stamps.{first_of, first_token, no_row}
use Rattle.token_matrix.specs.Ways.{IsWay}
use Rattle.bounded_scenarios.proofs.BoundedRules.{channel-is, channel-there}
use Rattle.bounded_scenarios.proofs.NumbersNameTokens.{renumbered, renumbered-is}
use Rattle.bounded_scenarios.proofs.TokenMaps.{MapsLeft, MapsTokens}
use Rattle.bounded_scenarios.proofs.WayMaps.{way_maps}

-- a channel of the second graph with the same name and number
abbrev pub IsNamedAlike : GraphFile → GraphFile → Type 0
IsNamedAlike g h = (i : ℕ) (c : ChannelRow) → slice_get g.channels i ≡ Some c → (d : ChannelRow) × (slice_get h.channels i ≡ Some d) × (d.name ≡ c.name)

module _ (low high : List SharedRow) (g h : GraphFile) (gamma : List ℕ) (rules : KeepsWideRules g) (kind : g.kind ≡ Sdf) (shares : Shares low g) (alike : IsNamedAlike g h)
    (name_to : List ℕ → ℕ → ℕ) (to : ℕ → ℕ → ℕ) (agree : (i m : ℕ) (c : ChannelRow) → slice_get g.channels i ≡ Some c → name_to c.name m ≡ to i m) where
  -- a token that is there at first stands for the one of its channel
  numbered : (i m : ℕ) → i < length (net_of g gamma false).channels → m < (channel_at (net_of g gamma false) i).tokens →
      renumbered low high name_to (first_of low g i + m) ≡ first_of high h i + to i m
  numbered i m below there =
      let row = channel-there g gamma rules kind i below in
      let c : ChannelRow = row.0 in
      let is : (channel_at (net_of g gamma false) i).tokens ≡ row.0.tokens = ap (λ (x : Channel). x.tokens) (channel-is g gamma rules kind i row.0 row.1) in
      let some : 1 ≤ row.0.tokens = omega arith in
      let share = shares.channels i row.0 row.1 some in
      let inside : m < share.1.tokens = omega (arith, share.4) in
      let other = alike i row.0 row.1 in
      let first : first_of low g i ≡ first_token low share.1.name = ap (λ (x : ChannelRow). first_token low x.name) (get_or_from_slice_get g.channels i row.0 no_row row.1)
      ∙ ap (first_token low) (sym share.3) in
      let second : first_of high h i ≡ first_token high share.1.name = ap (λ (x : ChannelRow). first_token high x.name) (get_or_from_slice_get h.channels i other.0 no_row other.1)
      ∙ ap (first_token high) (other.2 ∙ sym share.3) in
      let mapped : renumbered low high name_to (first_token low share.1.name + m) ≡ first_token high share.1.name + name_to share.1.name m =
      renumbered-is low high name_to share.0 m share.1 shares.rows_differ share.2 inside in
      let token : name_to share.1.name m ≡ to i m = ap (λ (n : List ℕ). name_to n m) share.3 ∙ agree i m row.0 row.1 in
      ap (λ (n : ℕ). renumbered low high name_to (n + m)) first ∙ (mapped ∙ (ap (λ (n : ℕ). first_token high share.1.name + n) token ∙ ap (λ (n : ℕ). n + to i m) (sym second)))

  pub way-stands : (p q e : ℕ) (cs : List ℕ) → MapsTokens (net_of g gamma false) (net_of h gamma false) cs to →
      ((i k : ℕ) → i < length (net_of g gamma false).channels → renumbered low high name_to q ≡ first_of high h i + to i k →
      MapsLeft (net_of g gamma false) (net_of h gamma false) (first_of high h) to (renumbered low high name_to q) i k) →
      IsWay (net_of g gamma false) (first_of low g) p q e cs → IsWay (net_of h gamma false) (first_of high h) (renumbered low high name_to p) (renumbered low high name_to q) e cs
  way-stands p q e cs maps left way = way_maps (net_of g gamma false) (net_of h gamma false) (first_of low g) (first_of high h) to p (renumbered low high name_to p) q
      (renumbered low high name_to q) e cs maps
      (λ i m below there is. ap (renumbered low high name_to) is ∙ numbered i m below there)
      (λ i k below there is. left i k below (ap (renumbered low high name_to) is ∙ numbered i k below there)) way
