-- Chains of firings are chains where tokens stand for tokens.
use Rattle.std.proofs.Common.{◌≡◌, ℕ, ◌+◌, ◌<◌, List, [], ◌∷◌, length, subst, sym, ap, ◌∙◌}
use Rattle.std.specs.Prelude.{slice_index, slice_index_or}
use Rattle.sd_base.specs.Net.{Net, channel_at, phase_entry}
use Rattle.sd_base.specs.Schedules.{time_of}
use Rattle.sd_base.proofs.ContainedHavePlaces.{contains-here, contains-later}
use Rattle.token_matrix.specs.Ways.{IsChain}
use Rattle.token_matrix.specs.Ways.IsChain.{begins, goes}
use Rattle.bounded_scenarios.proofs.TokenMaps.{MapsTokens, SameRates}

-- the map is one for fewer channels
pub fewer : (net other : Net) (c : ℕ) (cs : List ℕ) (to : ℕ → ℕ → ℕ) → MapsTokens net other (c ∷ cs) to → MapsTokens net other cs to
fewer net other c cs to maps = record {
  same = maps.same;
  taken = λ i m j below has is. maps.taken i m j below (contains-later c cs i has) is;
  put = λ i m k below has is. maps.put i m k below (contains-later c cs i has) is;
  initial = maps.initial;
}

-- a chain stays one, with its times and channels
pub chain_maps : (net other : Net) (first first' : ℕ → ℕ) (to : ℕ → ℕ → ℕ) (p p' a j t : ℕ) (cs : List ℕ) → MapsTokens net other cs to →
    ((i m : ℕ) → i < length net.channels → m < (channel_at net i).tokens → p ≡ first i + m → p' ≡ first' i + to i m) →
    IsChain net first p a j t cs → IsChain other first' p' a j t cs
chain_maps net other first first' to p p' _ _ _ _ maps number (begins a j i m below into early takes there is) =
    begins a j i (to i m) (subst (λ (n : ℕ). i < n) maps.same.many below) (sym (maps.same.each i below).target ∙ into)
    (subst (λ (r : List ℕ). j < slice_index r a) maps.same.round early) (maps.taken i m j below (contains-here i []) takes) (maps.initial i m below there) (number i m below there is)
chain_maps net other first first' to p p' _ _ _ _ maps number (goes a j i m k s rest below into early takes puts chain) =
    let one : SameRates (channel_at net i) (channel_at other i) = maps.same.each i below in
    let inner : IsChain other first' p' (channel_at net i).source k s rest = chain_maps net other first first' to p p' (channel_at net i).source k s rest
    (fewer net other i rest to maps) number chain in
    let inner' : IsChain other first' p' (channel_at other i).source k s rest = subst (λ (b : ℕ). IsChain other first' p' b k s rest) one.source inner in
    let made : IsChain other first' p' a j (s + time_of other (channel_at other i).source k) (i ∷ rest) =
    goes a j i (to i m) k s rest (subst (λ (n : ℕ). i < n) maps.same.many below) (sym one.target ∙ into)
    (subst (λ (r : List ℕ). j < slice_index r a) maps.same.round early) (maps.taken i m j below (contains-here i rest) takes) (maps.put i m k below (contains-here i rest) puts) inner' in
    let time : time_of other (channel_at other i).source k ≡ time_of net (channel_at net i).source k =
    ap (λ (b : ℕ). time_of other b k) (sym one.source) ∙ ap (λ (ts : List (List ℕ)). phase_entry (slice_index_or ts (channel_at net i).source []) k) (sym maps.same.times) in
    subst (λ (x : ℕ). IsChain other first' p' a j (s + x) (i ∷ rest)) time made
