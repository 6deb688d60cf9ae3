-- A chain followed backwards.
use Rattle.std.proofs.Common.{◌≡◌, ℕ, ◌+◌, ◌≤◌, ◌<◌, Bool, List, [], ◌∷◌, length, Option, None, Some, inl, inr, subst, sym, ap, ◌∙◌, refl, arith}
use Rattle.std.specs.Prelude.{IsTrue, MatchOption, slice_index, slice_index_or}
use Rattle.sd_base.specs.Net.{Net, channel_at, total}
use Rattle.sd_base.specs.Lawful.{Lawful}
use Rattle.sd_base.specs.Schedules.{time_of}
use Rattle.token_matrix.specs.Stamps.{IsTakenBy, IsPutBy}
use Rattle.token_matrix.specs.Ways.{IsChain}
use Rattle.token_matrix.specs.Ways.IsChain.{begins, goes}
use Rattle.entry_ways.specs.inside.Columns.{start_in, AreProducers, IsColumn, IsEndIn, IsFedBy, IsLink, IsLinkInto}
use Rattle.entry_ways.specs.inside.Traces.{IsEndOf, IsLinkOn}
use Rattle.entry_ways.specs.declared.links.Link.{Link}
use Rattle.entry_ways.specs.declared.links.Link.TheVariants.{Begins, Goes}
use Rattle.sd_base.proofs.SumsRepeatByTurns.{total-le}
use Rattle.sd_base.proofs.ElementsKeepPlaces.{some-within}
use Rattle.token_matrix.proofs.ChainStamps.{chain_early}

module _ (net : Net) (laws : Lawful net) (first : ℕ → ℕ) (p : ℕ) (rows : List (List (Option ℕ))) (column : IsColumn net first p (slice_index net.round) rows) where
  exact-by : (b j t : ℕ) (cs : List ℕ) → b < length net.times → start_in rows b j ≡ Some t → IsChain net first p b j t cs → IsLinkInto net first p rows b j t
  exact-by _ _ _ _ known at (begins b j i m below into early takes there is) = (i, below, into, inl (m, takes, there, is, refl))
  exact-by _ _ _ _ known at (goes b j i m k s cs below into early takes puts chain) =
      let source : (channel_at net i).source < length net.times = laws.sources i below in
      let before : k < slice_index net.round (channel_at net i).source = chain_early net first p (channel_at net i).source k s cs chain in
      let d = column.top (channel_at net i).source k s cs source before chain in
      let longer = column.just (channel_at net i).source k d.0 source before d.1 in
      let whole : IsChain net first p b j (d.0 + time_of net (channel_at net i).source k) (i ∷ longer.0) = goes b j i m k d.0 longer.0 below into early takes puts longer.1 in
      let e = column.top b j (d.0 + time_of net (channel_at net i).source k) (i ∷ longer.0) known early whole in
      let same : e.0 ≡ s + time_of net (channel_at net i).source k = (let h : ◌≡◌ {A = Option ℕ} (Some e.0) (Some (s + time_of net (channel_at net i).source k)) = sym e.1 ∙ at in (cc)) in
      let t_is : s + time_of net (channel_at net i).source k ≡ d.0 + time_of net (channel_at net i).source k = omega (arith, d.2, e.2, same) in
      (i, below, into, inr (m, k, d.0, takes, puts, d.1, t_is))

  -- a start is that of a link
  pub exact-link : (a j t : ℕ) → a < length net.times → j < slice_index net.round a → start_in rows a j ≡ Some t → IsLinkInto net first p rows a j t
  exact-link a j t known early at = let chain = column.just a j t known early at in exact-by a j t chain.0 known at chain.1

  -- what a firing of the round takes is put by firings that have starts
  pub round-fed : (i j : ℕ) → i < length net.channels → j < slice_index net.round (channel_at net i).target → IsFedBy net rows i j
  round-fed i j below early =
      let kept : total (channel_at net i).made (slice_index net.round (channel_at net i).source) ≡ total (channel_at net i).taken (slice_index net.round (channel_at net i).target) =
      laws.repetition.balances.kept i below in
      let rises : total (channel_at net i).taken (j + 1) ≤ total (channel_at net i).taken (slice_index net.round (channel_at net i).target) =
      total-le (channel_at net i).taken (let f : j + 1 ≤ slice_index net.round (channel_at net i).target = omega arith in f) in
      let row : length (slice_index_or rows (channel_at net i).source []) ≡ slice_index net.round (channel_at net i).source = column.whole (channel_at net i).source (laws.sources i below) in
      let made : total (channel_at net i).made (length (slice_index_or rows (channel_at net i).source [])) ≡ total (channel_at net i).made
      (slice_index net.round (channel_at net i).source) = ap (λ (n : ℕ). total (channel_at net i).made n) row in
      (let f : total (channel_at net i).taken (j + 1) ≤ (channel_at net i).tokens + total (channel_at net i).made (length (slice_index_or rows (channel_at net i).source [])) = omega arith in f)

  -- a firing with a start is one of the round
  pub in-round : (a j t : ℕ) → a < length net.times → start_in rows a j ≡ Some t → j < slice_index net.round a
  in-round a j t known at = subst (λ (n : ℕ). j < n) (column.whole a known) (some-within (slice_index_or rows a []) j t at)

  -- the chain goes on from a link
  pub chain-on : (a j t i k d m : ℕ) (rest : List ℕ) → i < length net.channels → (channel_at net i).target ≡ a → j < slice_index net.round a → IsTakenBy (channel_at net i) m j
      → IsPutBy (channel_at net i) m k →
      t ≡ d + time_of net (channel_at net i).source k → IsChain net first p (channel_at net i).source k d rest → IsChain net first p a j t (i ∷ rest)
  chain-on a j t i k d m rest below into early takes puts is chain = subst (λ (n : ℕ). IsChain net first p a j n (i ∷ rest)) (sym is) (goes a j i m k d rest below into early takes puts chain)

  -- and begins with one
  pub chain-from : (a j t i m : ℕ) → i < length net.channels → (channel_at net i).target ≡ a → j < slice_index net.round a → IsTakenBy (channel_at net i) m j
      → m < (channel_at net i).tokens → p ≡ first i + m → t ≡ 0 →
      IsChain net first p a j t (i ∷ [])
  chain-from a j t i m below into early takes there at is = subst (λ (n : ℕ). IsChain net first p a j n (i ∷ [])) (sym is) (begins a j i m below into early takes there at)

-- ---- links by producers

module _ (net : Net) (number : ℕ → ℕ) (p : ℕ) (rows : List (List (Option ℕ))) (i j t : ℕ) where
  pub end-links : (has : Bool) (first end : ℕ) → AreProducers net number p i j has first end → (IsTrue has → t ≡ 0 → ⊥) → (r : Option Link) →
      MatchOption r (IsEndIn net rows i first end t → ⊥) (IsEndOf net rows i first end t) → MatchOption r (IsLink net number p rows i j t → ⊥) (IsLinkOn net number p rows i j t)
  end-links has first end producers later None none = back
    where
      back : IsLink net number p rows i j t → ⊥
      back (inl (m, takes, there, at, is)) = later (producers.token.1 (m, takes, there, at)) is
      back (inr (m, k, d, takes, puts, at, is)) = let range = producers.all m k takes puts in none (k, d, range.0, range.1, at, is)
  end-links has first end producers later (Some (Begins c)) is = absurd is
  end-links has first end producers later (Some (Goes c k d)) (same, low, high, at, is) = let m = producers.each k low high in (same, at, is, (m.0, m.1, m.2))

  -- what has no link on the channel
  pub no-link : (r : Option Link) → MatchOption r (IsLink net number p rows i j t → ⊥) (IsLinkOn net number p rows i j t) → ((l : Link) → r ≡ Some l → ⊥) → IsLink net number p rows i j t → ⊥
  no-link None none other link = none link
  no-link (Some l) is other link = other l refl
