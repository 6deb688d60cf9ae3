-- Ways and the stamps after a round: none takes longer than the stamps say, and one takes as long.
use Rattle.std.proofs.Common.{◌≡◌, ℕ, ◌+◌, ◌≤◌, ◌<◌, List, [], length, subst, ap, ◌∙◌, refl, inl, inr, arith}
use Rattle.std.specs.Prelude.{slice_index}
use Rattle.sd_base.specs.Net.{Net, channel_at, total}
use Rattle.sd_base.specs.Lawful.{Lawful}
use Rattle.sd_base.specs.Schedules.{start_of, end_of, time_of}
use Rattle.token_matrix.specs.Stamps.{HasStamp, AreStamps, left_token}
use Rattle.token_matrix.specs.Ways.{IsWay}
use Rattle.token_matrix.specs.Ways.IsWay.{stays, put}
use Rattle.token_matrix.proofs.TokensHaveProducers.{one_producer}
use Rattle.token_matrix.proofs.ChainStamps.{chain_stamp, longest}

module _ (net : Net) (laws : Lawful net) (first : ℕ → ℕ) (count : ℕ) (x y : List ℕ) (stamps : AreStamps net first count x y) where
  left-stamp : (i k : ℕ) → i < length net.channels → k < (channel_at net i).tokens → HasStamp net first x stamps.starts i (left_token net i k) (slice_index y (first i + k))
  left-stamp i k below there = stamps.left i k below there

  -- no way takes longer
  pub way_stamp : (p q e : ℕ) (cs : List ℕ) → IsWay net first p q e cs → slice_index x p + e ≤ slice_index y q
  way_stamp p q _ _ (stays i k below there is early at) = step (left-stamp i k below there)
    where
      step : HasStamp net first x stamps.starts i (left_token net i k) (slice_index y (first i + k)) → slice_index x p + 0 ≤ slice_index y q
      step (inl (h, same)) =
          let one : slice_index y q ≡ slice_index x (first i + left_token net i k) = ap (λ (n : ℕ). slice_index y n) is ∙ same in
          let two : slice_index x p ≡ slice_index x (first i + left_token net i k) = ap (λ (n : ℕ). slice_index x n) at in
          omega arith
      step (inr (n, puts, before, same)) = absurd (let low : (channel_at net i).tokens + total (channel_at net i).made n ≤ left_token net i k = puts.0 in let no : ⊥ = omega (arith, early) in no)
  way_stamp p q _ _ (put i k n t cs below there is puts chain) = step (left-stamp i k below there)
    where
      step : HasStamp net first x stamps.starts i (left_token net i k) (slice_index y (first i + k)) → slice_index x p + (t + time_of net (channel_at net i).source n) ≤ slice_index y q
      step (inl (h, same)) = absurd (let low : (channel_at net i).tokens + total (channel_at net i).made n ≤ left_token net i k = puts.0 in let no : ⊥ = omega (arith, h) in no)
      step (inr (l, puts', before, same)) =
          let one : l ≡ n = one_producer net i (left_token net i k) l n puts' puts in
          let low : slice_index x p + t ≤ start_of stamps.starts (channel_at net i).source n = chain_stamp net laws first x stamps.starts stamps.round p (channel_at net i).source n t cs chain in
          let end : slice_index y q ≡ end_of net stamps.starts (channel_at net i).source n = ap (λ (m : ℕ). slice_index y m) is ∙ same ∙ ap (λ (m : ℕ). end_of net stamps.starts (channel_at net i).source m) one in
          omega arith

  -- a way that takes as long
  pub record LongestWay (q : ℕ) : Type 0 where
    pub p : ℕ
    pub e : ℕ
    pub cs : List ℕ
    pub channel : ℕ
    pub token : ℕ
    pub below : channel < length net.channels
    pub there : token < (channel_at net channel).tokens
    pub is : p ≡ first channel + token
    pub way : IsWay net first p q e cs
    pub exact : slice_index x p + e ≡ slice_index y q

  pub longest_way : ((a k : ℕ) → a < length net.times → 1 ≤ time_of net a k) → (i k : ℕ) → i < length net.channels → k < (channel_at net i).tokens → LongestWay (first i + k)
  longest_way timed i k below there = step (left-stamp i k below there)
    where
      step : HasStamp net first x stamps.starts i (left_token net i k) (slice_index y (first i + k)) → LongestWay (first i + k)
      step (inl (early, same)) = record {
        p = first i + left_token net i k;
        e = 0;
        cs = [];
        channel = i;
        token = left_token net i k;
        below = below;
        there = early;
        is = refl;
        way = stays i k below there refl early refl;
        exact = omega arith;
      }
      step (inr (n, puts, before, same)) =
          let source : (channel_at net i).source < length net.times = laws.sources i below in
          let within : n < slice_index net.round (channel_at net i).source = subst (λ (m : ℕ). n < m) (stamps.round.whole (channel_at net i).source source) before in
          let one = longest net laws first x stamps.starts stamps.round timed (channel_at net i).source n source within in
          let exact : slice_index x one.p + one.t ≡ start_of stamps.starts (channel_at net i).source n = one.exact in
          record {
            p = one.p;
            e = one.t + time_of net (channel_at net i).source n;
            cs = one.cs;
            channel = one.channel;
            token = one.token;
            below = one.below;
            there = one.there;
            is = one.is;
            way = put i k n one.t one.cs below there refl puts one.chain;
            exact = omega arith;
          }
