-- The last firing of a way, which puts what is left.
use Rattle.std.proofs.Common.{◌≡◌, ℕ, ◌+◌, ◌-◌, ◌≤◌, ◌<◌, List, [], length, Option, Some, subst, sym, ap, ◌∙◌, arith}
use Rattle.std.specs.Prelude.{slice_index}
use Rattle.sd_base.specs.Net.{Net, channel_at, total}
use Rattle.sd_base.specs.Lawful.{Lawful}
use Rattle.sd_base.specs.Schedules.{time_of}
use Rattle.token_matrix.specs.Stamps.{IsPutBy, left_token}
use Rattle.token_matrix.specs.Ways.{IsChain, IsWay}
use Rattle.token_matrix.specs.Ways.IsWay.{stays, put}
use Rattle.entry_ways.specs.inside.Columns.{start_in, IsColumn}
use Rattle.entry_ways.specs.WayMarks.{IsLongestWay}
use Rattle.entry_ways.specs.inside.Traces.{AreApart, IsOnChannel}
use Rattle.token_matrix.proofs.TokensHaveProducers.{one_producer, put_earlier}

-- the channel of the token that is left by a way
pub way-on : (net : Net) (first : ℕ → ℕ) (p q e : ℕ) (cs : List ℕ) → IsWay net first p q e cs → (i : ℕ) × IsOnChannel net first q i
way-on net first p q _ _ (stays i k below there is early at) = (i, record { place = below; past = omega (arith, is); there = omega (arith, is) })
way-on net first p q _ _ (put i k n t cs below there is puts chain) = (i, record { place = below; past = omega (arith, is); there = omega (arith, is) })

module _ (net : Net) (first : ℕ → ℕ) (p q c : ℕ) (apart : AreApart net first) (on : IsOnChannel net first q c) where
  -- its place there
  place-of : (i k : ℕ) → i < length net.channels → k < (channel_at net i).tokens → q ≡ first i + k → (i ≡ c) × (k ≡ q - first c)
  place-of i k below there is =
      let same : i ≡ c = apart q i c (record { place = below; past = omega (arith, is); there = omega (arith, is) }) on in
      let first_same : first i ≡ first c = ap first same in
      (same, omega (arith, is))

  -- where the token left is there before the round, the way is that it stays
  pub stays-way : left_token net c (q - first c) < (channel_at net c).tokens → (e : ℕ) (cs : List ℕ) → IsWay net first p q e cs → IsLongestWay net first p q []
  stays-way early _ _ (stays i k below there is soon at) =
      let here = place-of i k below there is in
      record { time = 0; way = stays i k below there is soon at; longest = none early }
    where
      none : left_token net c (q - first c) < (channel_at net c).tokens → (e : ℕ) (ds : List ℕ) → IsWay net first p q e ds → e ≤ 0
      none early _ _ (stays i k below there is soon at) = omega arith
      none early _ _ (put i k n t cs below there is puts chain) = absurd (
          let here = place-of i k below there is in
          let same : left_token net i k ≡ left_token net c (q - first c) = ap (λ (j : ℕ). left_token net j k) here.0 ∙ ap (λ (m : ℕ). left_token net c m) here.1 in
          let tokens : (channel_at net i).tokens ≡ (channel_at net c).tokens = ap (λ (j : ℕ). (channel_at net j).tokens) here.0 in
          let low : (channel_at net i).tokens + total (channel_at net i).made n ≤ left_token net i k = puts.0 in let no : ⊥ = omega (arith, early) in no)
  stays-way early _ _ (put i k n t cs below there is puts chain) = absurd (
      let here = place-of i k below there is in
      let same : left_token net i k ≡ left_token net c (q - first c) = ap (λ (j : ℕ). left_token net j k) here.0 ∙ ap (λ (m : ℕ). left_token net c m) here.1 in
      let tokens : (channel_at net i).tokens ≡ (channel_at net c).tokens = ap (λ (j : ℕ). (channel_at net j).tokens) here.0 in
      let low : (channel_at net i).tokens + total (channel_at net i).made n ≤ left_token net i k = puts.0 in let no : ⊥ = omega (arith, early) in no)

  module _ (laws : Lawful net) (n : ℕ) (puts : IsPutBy (channel_at net c) (left_token net c (q - first c)) n) where
    -- else the firing that puts it is the last one of each way
    last-of : (e : ℕ) (cs : List ℕ) → IsWay net first p q e cs → (t : ℕ) × IsChain net first p (channel_at net c).source n t cs × (e ≡ t + time_of net (channel_at net c).source n)
    last-of _ _ (stays i k below there is soon at) = absurd (
        let here = place-of i k below there is in
        let same : left_token net i k ≡ left_token net c (q - first c) = ap (λ (j : ℕ). left_token net j k) here.0 ∙ ap (λ (m : ℕ). left_token net c m) here.1 in
        let tokens : (channel_at net i).tokens ≡ (channel_at net c).tokens = ap (λ (j : ℕ). (channel_at net j).tokens) here.0 in
        let low : (channel_at net c).tokens + total (channel_at net c).made n ≤ left_token net c (q - first c) = puts.0 in let no : ⊥ = omega (arith, soon) in no)
    last-of _ _ (put i k l t cs below there is puts' chain) =
        let here = place-of i k below there is in
        let moved : IsPutBy (channel_at net c) (left_token net c (q - first c)) l = subst (λ (m : ℕ). IsPutBy (channel_at net c) (left_token net c m) l) here.1
        (subst (λ (j : ℕ). IsPutBy (channel_at net j) (left_token net j k) l) here.0 puts') in
        let same : l ≡ n = one_producer net c (left_token net c (q - first c)) l n moved puts in
        let chain' : IsChain net first p (channel_at net c).source n t cs = subst (λ (m : ℕ). IsChain net first p (channel_at net c).source m t cs) same
        (subst (λ (j : ℕ). IsChain net first p (channel_at net j).source l t cs) here.0 chain) in
        (t, chain', ap (λ (j : ℕ). t + time_of net (channel_at net j).source l) here.0 ∙ ap (λ (m : ℕ). t + time_of net (channel_at net c).source m) same)

    module _ (rows : List (List (Option ℕ))) (column : IsColumn net first p (slice_index net.round) rows) where
      source-known : (channel_at net c).source < length net.times
      source-known = laws.sources c on.place

      -- that firing is one of the round, and has a start where there is a way
      pub last-early : n < slice_index net.round (channel_at net c).source
      last-early =
          let kept : total (channel_at net c).made (slice_index net.round (channel_at net c).source) ≡ total (channel_at net c).taken (slice_index net.round (channel_at net c).target) =
          laws.repetition.balances.kept c on.place in
          let place : q - first c < (channel_at net c).tokens = omega (arith, on.past, on.there) in
          put_earlier net (slice_index net.round) c (left_token net c (q - first c)) n (omega arith) puts

      pub last-started : (e : ℕ) (cs : List ℕ) → IsWay net first p q e cs → (d : ℕ) × (start_in rows (channel_at net c).source n ≡ Some d)
      last-started e cs way = let last = last-of e cs way in let top = column.top (channel_at net c).source n last.0 cs source-known last-early last.1 in (top.0, top.1)

      -- a chain to its start makes a longest way
      pub put-way : (t : ℕ) (cs : List ℕ) → start_in rows (channel_at net c).source n ≡ Some t → IsChain net first p (channel_at net c).source n t cs → IsLongestWay net first p q cs
      put-way t cs at chain = record {
        time = t + time_of net (channel_at net c).source n;
        way = put c (q - first c) n t cs on.place (omega (arith, on.past, on.there)) (let e : q ≡ first c + (q - first c) = omega (arith, on.past) in e) puts chain;
        longest = λ e ds way. (let last = last-of e ds way in let top = column.top (channel_at net c).source n last.0 ds source-known last-early last.1 in
            let same : top.0 ≡ t = (let h : ◌≡◌ {A = Option ℕ} (Some top.0) (Some t) = sym top.1 ∙ at in (cc)) in omega (arith, last.2, top.2));
      }
