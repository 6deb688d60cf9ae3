-- Ways where shared tokens have the same numbers on each channel of the net.
use Rattle.std.proofs.Common.{◌≡◌, ℕ, ◌+◌, ◌<◌, List, length, ap, sym, ◌∙◌}
use Rattle.sd_base.specs.Net.{Net, channel_at}
use Rattle.token_matrix.specs.Stamps.{left_token}
use Rattle.token_matrix.specs.Ways.{IsChain, IsWay}
use Rattle.token_matrix.specs.Ways.IsChain.{begins, goes}
use Rattle.token_matrix.specs.Ways.IsWay.{stays, put}
use Rattle.entry_ways.specs.WayMarks.{IsLongestWay}

module _ (net : Net) (first other : ℕ → ℕ) (same : (i : ℕ) → i < length net.channels → first i ≡ other i) (p : ℕ) where
  same-chain : (a j t : ℕ) (cs : List ℕ) → IsChain net first p a j t cs → IsChain net other p a j t cs
  same-chain _ _ _ _ (begins a j i m below into early takes there is) = begins a j i m below into early takes there (is ∙ ap (λ (n : ℕ). n + m) (same i below))
  same-chain _ _ _ _ (goes a j i m k t cs below into early takes puts chain) = goes a j i m k t cs below into early takes puts (same-chain (channel_at net i).source k t cs chain)

  pub same-way : (q e : ℕ) (cs : List ℕ) → IsWay net first p q e cs → IsWay net other p q e cs
  same-way q _ _ (stays i k below there is early at) = stays i k below there (is ∙ ap (λ (n : ℕ). n + k) (same i below)) early (at ∙ ap (λ (n : ℕ). n + left_token net i k) (same i below))
  same-way q _ _ (put i k n t cs below there is puts chain) = put i k n t cs below there (is ∙ ap (λ (m : ℕ). m + k) (same i below)) puts (same-chain (channel_at net i).source n t cs chain)

-- and longest ways
pub same-longest : (net : Net) (first other : ℕ → ℕ) → ((i : ℕ) → i < length net.channels → first i ≡ other i) → (p q : ℕ) (cs : List ℕ) → IsLongestWay net first p q cs
    → IsLongestWay net other p q cs
same-longest net first other same p q cs is = record {
  time = is.time;
  way = same-way net first other same p q is.time cs is.way;
  longest = λ e ds way. is.longest e ds (same-way net other first (λ i below. sym (same i below)) p q e ds way);
}
