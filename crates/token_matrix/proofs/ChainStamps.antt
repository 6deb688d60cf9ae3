-- Chains of firings and the stamps of a round: none takes longer than the stamps say, and one takes as long.
use Rattle.std.proofs.Common.{◌≡◌, ℕ, zero, suc, ◌+◌, ◌≤◌, ◌<◌, List, [], ◌∷◌, length, subst, sym, refl, inl, inr, arith}
use Rattle.std.specs.Prelude.{slice_index}
use Rattle.sd_base.specs.Net.{Net, channel_at}
use Rattle.sd_base.specs.Lawful.{Lawful}
use Rattle.sd_base.specs.Schedules.{Schedule, count_of, start_of, end_of, time_of}
use Rattle.token_matrix.specs.Stamps.{IsTakenBy, HasStamp, AreRoundStarts}
use Rattle.token_matrix.specs.Ways.{IsChain}
use Rattle.token_matrix.specs.Ways.IsChain.{begins, goes}

-- a chain leads to a firing of the round
pub chain_early : (net : Net) (first : ℕ → ℕ) (p a j t : ℕ) (cs : List ℕ) → IsChain net first p a j t cs → j < slice_index net.round a
chain_early net first p _ _ _ _ (begins a j i m below into early takes there is) = early
chain_early net first p _ _ _ _ (goes a j i m k s rest below into early takes puts chain) = early

module _ (net : Net) (laws : Lawful net) (first : ℕ → ℕ) (x : List ℕ) (starts : Schedule) (round : AreRoundStarts net first x starts) where
  counted : (a j : ℕ) → a < length net.times → j < slice_index net.round a → j < count_of starts a
  counted a j actor early = subst (λ (n : ℕ). j < n) (sym (round.whole a actor)) early

  -- no chain takes longer
  pub chain_stamp : (p a j t : ℕ) (cs : List ℕ) → IsChain net first p a j t cs → slice_index x p + t ≤ start_of starts a j
  chain_stamp p _ _ _ _ (begins a j i m below into early takes there is) =
      let actor : a < length net.times = subst (λ (b : ℕ). b < length net.times) into (laws.targets i below) in
      let here : j < count_of starts (channel_at net i).target = subst (λ (b : ℕ). j < count_of starts b) (sym into) (counted a j actor early) in
      let stamp : HasStamp net first x starts i m (slice_index x (first i + m)) = inl (there, refl) in
      let low : slice_index x (first i + m) ≤ start_of starts (channel_at net i).target j = round.after i m j (slice_index x (first i + m)) below here takes stamp in
      let low' : slice_index x (first i + m) ≤ start_of starts a j = subst (λ (b : ℕ). slice_index x (first i + m) ≤ start_of starts b j) into low in
      let low'' : slice_index x p ≤ start_of starts a j = subst (λ (n : ℕ). slice_index x n ≤ start_of starts a j) (sym is) low' in
      omega arith
  chain_stamp p _ _ _ _ (goes a j i m k s rest below into early takes puts chain) =
      let inner : slice_index x p + s ≤ start_of starts (channel_at net i).source k = chain_stamp p (channel_at net i).source k s rest chain in
      let actor : a < length net.times = subst (λ (b : ℕ). b < length net.times) into (laws.targets i below) in
      let here : j < count_of starts (channel_at net i).target = subst (λ (b : ℕ). j < count_of starts b) (sym into) (counted a j actor early) in
      let before : k < count_of starts (channel_at net i).source = counted (channel_at net i).source k (laws.sources i below) (chain_early net first p (channel_at net i).source k s rest chain) in
      let stamp : HasStamp net first x starts i m (end_of net starts (channel_at net i).source k) = inr (k, puts, before, refl) in
      let low : end_of net starts (channel_at net i).source k ≤ start_of starts (channel_at net i).target j = round.after i m j (end_of net starts (channel_at net i).source k) below here takes stamp in
      let low' : end_of net starts (channel_at net i).source k ≤ start_of starts a j = subst (λ (b : ℕ). end_of net starts (channel_at net i).source k ≤ start_of starts b j) into low in
      omega arith

  -- a chain that takes as long
  pub record Longest (a j : ℕ) : Type 0 where
    pub p : ℕ
    pub t : ℕ
    pub cs : List ℕ
    pub channel : ℕ
    pub token : ℕ
    pub below : channel < length net.channels
    pub there : token < (channel_at net channel).tokens
    pub is : p ≡ first channel + token
    pub chain : IsChain net first p a j t cs
    pub exact : slice_index x p + t ≡ start_of starts a j

  module _ (timed : (a k : ℕ) → a < length net.times → 1 ≤ time_of net a k) where
    -- by the starts, which fall along a chain backwards
    longest-below : (fuel a j : ℕ) → a < length net.times → j < slice_index net.round a → start_of starts a j < fuel → Longest a j
    longest-below zero a j actor early less = absurd (let no : ⊥ = omega arith in no)
    longest-below (suc fuel) a j actor early less = back (λ b k source within sooner. longest-below fuel b k source within sooner) (round.just a j actor (counted a j actor early))
      where
        back : ((b k : ℕ) → b < length net.times → k < slice_index net.round b → start_of starts b k < fuel → Longest b k) → (i : ℕ) × (m : ℕ) × (i < length net.channels) × ((channel_at net i).target ≡ a) × IsTakenBy (channel_at net i) m j × HasStamp net first x starts i m (start_of starts a j) → Longest a j
        back before-it (i, m, below, into, takes, inl (there, is)) = record {
          p = first i + m;
          t = 0;
          cs = i ∷ [];
          channel = i;
          token = m;
          below = below;
          there = there;
          is = refl;
          chain = begins a j i m below into early takes there refl;
          exact = omega arith;
        }
        back before-it (i, m, below, into, takes, inr (k, puts, before, is)) =
            let source : (channel_at net i).source < length net.times = laws.sources i below in
            let within : k < slice_index net.round (channel_at net i).source = subst (λ (n : ℕ). k < n) (round.whole (channel_at net i).source source) before in
            let some : 1 ≤ time_of net (channel_at net i).source k = timed (channel_at net i).source k source in
            let one = before-it (channel_at net i).source k source within (omega arith) in
            let same : slice_index x one.p + one.t ≡ start_of starts (channel_at net i).source k = one.exact in
            record {
              p = one.p;
              t = one.t + time_of net (channel_at net i).source k;
              cs = i ∷ one.cs;
              channel = one.channel;
              token = one.token;
              below = one.below;
              there = one.there;
              is = one.is;
              chain = goes a j i m k one.t one.cs below into early takes puts one.chain;
              exact = omega arith;
            }

    pub longest : (a j : ℕ) → a < length net.times → j < slice_index net.round a → Longest a j
    longest a j actor early = longest-below (suc (start_of starts a j)) a j actor early (omega arith)
