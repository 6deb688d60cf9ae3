-- Chains of firings of a round, and the ways of the entries of a matrix.
use Rattle.std.specs.Prelude.{◌≡◌, ℕ, ◌+◌, ◌<◌, List, [], ◌∷◌, length, slice_index}
use Rattle.sd_base.specs.Net.{Net, channel_at}
use Rattle.sd_base.specs.Schedules.{time_of}
use Rattle.token_matrix.specs.Stamps.{IsTakenBy, IsPutBy, left_token}

-- a chain of firings from shared token p to the start of firing j of actor a: the first takes token p, and each next one, with
-- firing j, a token of the one before. The times of the firings before j add up to t; the channels on which the tokens are
-- taken are cs, the last one first
pub data IsChain (net : Net) (first : ℕ → ℕ) (p : ℕ) : ℕ → ℕ → ℕ → List ℕ → Type 0 where
  begins : (a j i m : ℕ) → i < length net.channels → (channel_at net i).target ≡ a → j < slice_index net.round a → IsTakenBy (channel_at net i) m j →
      m < (channel_at net i).tokens → p ≡ first i + m → IsChain net first p a j 0 (i ∷ [])
  goes : (a j i m k t : ℕ) (cs : List ℕ) → i < length net.channels → (channel_at net i).target ≡ a → j < slice_index net.round a →
      IsTakenBy (channel_at net i) m j → IsPutBy (channel_at net i) m k → IsChain net first p (channel_at net i).source k t cs →
      IsChain net first p a j (t + time_of net (channel_at net i).source k) (i ∷ cs)

-- a way of the entry in the row of token q and the column of token p, which says e time units: token p itself is left as q;
-- or a chain leads from p to a firing that puts what is left as q, and ends e time units later. Tokens are taken on cs
pub data IsWay (net : Net) (first : ℕ → ℕ) (p q : ℕ) : ℕ → List ℕ → Type 0 where
  stays : (i k : ℕ) → i < length net.channels → k < (channel_at net i).tokens → q ≡ first i + k →
      left_token net i k < (channel_at net i).tokens → p ≡ first i + left_token net i k → IsWay net first p q 0 []
  put : (i k n t : ℕ) (cs : List ℕ) → i < length net.channels → k < (channel_at net i).tokens → q ≡ first i + k →
      IsPutBy (channel_at net i) (left_token net i k) n → IsChain net first p (channel_at net i).source n t cs →
      IsWay net first p q (t + time_of net (channel_at net i).source n) cs
