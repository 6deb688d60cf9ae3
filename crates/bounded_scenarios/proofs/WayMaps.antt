-- Ways are ways where tokens stand for tokens: with more room elsewhere, and with spare room.
use Rattle.std.proofs.Common.{◌≡◌, ℕ, ◌+◌, ◌-◌, ◌*◌, ◌/◌, ◌≤◌, ◌<◌, List, [], length, subst, sym, ap, ◌∙◌, arith, ⊎_elim, mul-le-mul_right}
use Rattle.std.proofs.Math.Nat.{mul-add-div_right}
use Rattle.std.specs.Prelude.{Contains, slice_index, slice_index_or}
use Rattle.std.proofs.lemmas.Bool.{cases_lt}
use Rattle.std.proofs.lemmas.Nat.{le-div, div_below}
use Rattle.sd_base.specs.Net.{Net, Channel, channel_at, phase_entry, total}
use Rattle.sd_base.specs.Schedules.{time_of}
use Rattle.token_matrix.specs.Stamps.{IsTakenBy, IsPutBy, left_token}
use Rattle.token_matrix.specs.Ways.{IsChain, IsWay}
use Rattle.token_matrix.specs.Ways.IsWay.{stays, put}
use Rattle.bounded_scenarios.proofs.TokenMaps.{MapsTokens, MapsLeft, SameNets, SameRates, IsRoomier, HasSpare, spared, pushed}
use Rattle.bounded_scenarios.proofs.TokenMapsKeepChains.{chain_maps}
use Rattle.storage.proofs.SumsStayWhole.{whole-total}

same-time : (net other : Net) → SameNets net other → (i n : ℕ) → i < length net.channels →
    time_of other (channel_at other i).source n ≡ time_of net (channel_at net i).source n
same-time net other same i n below =
    ap (λ (b : ℕ). time_of other b n) (sym (same.each i below).source)
    ∙ ap (λ (ts : List (List ℕ)). phase_entry (slice_index_or ts (channel_at net i).source []) n) (sym same.times)

-- a way stays one, with its time and channels
pub way_maps : (net other : Net) (first first' : ℕ → ℕ) (to : ℕ → ℕ → ℕ) (p p' q q' e : ℕ) (cs : List ℕ) → MapsTokens net other cs to →
    ((i m : ℕ) → i < length net.channels → m < (channel_at net i).tokens → p ≡ first i + m → p' ≡ first' i + to i m) →
    ((i k : ℕ) → i < length net.channels → k < (channel_at net i).tokens → q ≡ first i + k → MapsLeft net other first' to q' i k) →
    IsWay net first p q e cs → IsWay other first' p' q' e cs
way_maps net other first first' to p p' q q' _ _ maps number ends (stays i k below there is early at) =
    let end = ends i k below there is in
    let below' : i < length other.channels = subst (λ (n : ℕ). i < n) maps.same.many below in
    let early' : left_token other i (to i k) < (channel_at other i).tokens = subst (λ (n : ℕ). n < (channel_at other i).tokens) end.left (maps.initial i (left_token net i k) below early) in
    let at' : p' ≡ first' i + left_token other i (to i k) = number i (left_token net i k) below early at ∙ ap (λ (n : ℕ). first' i + n) end.left in
    stays i (to i k) below' (maps.initial i k below there) end.number early' at'
way_maps net other first first' to p p' q q' _ _ maps number ends (put i k n t cs below there is puts chain) =
    let end = ends i k below there is in
    let below' : i < length other.channels = subst (λ (x : ℕ). i < x) maps.same.many below in
    let inner : IsChain other first' p' (channel_at net i).source n t cs = chain_maps net other first first' to p p' (channel_at net i).source n t cs maps number chain in
    let inner' : IsChain other first' p' (channel_at other i).source n t cs = subst (λ (b : ℕ). IsChain other first' p' b n t cs) (maps.same.each i below).source inner in
    let puts' : IsPutBy (channel_at other i) (left_token other i (to i k)) n = subst (λ (x : ℕ). IsPutBy (channel_at other i) x n) end.left (end.put n puts) in
    let made : IsWay other first' p' q' (t + time_of other (channel_at other i).source n) cs = put i (to i k) n t cs below' (maps.initial i k below there) end.number puts' inner' in
    subst (λ (x : ℕ). IsWay other first' p' q' (t + x) cs) (same-time net other maps.same i n below) made

-- ---- with more room elsewhere each token has the additional ones before it

same-total : (c d : Channel) → SameRates c d → (n : ℕ) → (total c.made n ≡ total d.made n) × (total c.taken n ≡ total d.taken n)
same-total c d same n = (ap (λ (xs : List ℕ). total xs n) same.made, ap (λ (xs : List ℕ). total xs n) same.taken)

taken-same : (c d : Channel) (m j : ℕ) → SameRates c d → IsTakenBy c m j → IsTakenBy d m j
taken-same c d m j same (low, high) = (
  subst (λ (xs : List ℕ). total xs j ≤ m) same.taken low,
  subst (λ (xs : List ℕ). m < total xs (j + 1)) same.taken high,
)

put-pushed : (c d : Channel) (m k : ℕ) → SameRates c d → c.tokens ≤ d.tokens → IsPutBy c m k → IsPutBy d (m + (d.tokens - c.tokens)) k
put-pushed c d m k same more (low, high) =
    let a = same-total c d same k in let b = same-total c d same (k + 1) in
    ((let f : d.tokens + total d.made k ≤ m + (d.tokens - c.tokens) = omega (arith, a.0) in f), (let f : m + (d.tokens - c.tokens) < d.tokens + total d.made (k + 1) = omega (arith, b.0) in f))

left-same : (net other : Net) → SameNets net other → (i k : ℕ) → i < length net.channels → left_token net i k ≡ left_token other i k
left-same net other same i k below =
    let one = same.each i below in
    ap (λ (xs : List ℕ). total xs (slice_index net.round (channel_at net i).target) + k) one.taken
    ∙ (ap (λ (r : List ℕ). total (channel_at other i).taken (slice_index r (channel_at net i).target) + k) same.round
    ∙ ap (λ (b : ℕ). total (channel_at other i).taken (slice_index other.round b) + k) one.target)

module _ (net other : Net) (room : IsRoomier net other) where
  kept-none : (i m : ℕ) → (channel_at net i).tokens ≡ (channel_at other i).tokens → pushed net other i m ≡ m
  kept-none i m same = omega arith

  pub pushed-maps : (cs : List ℕ) → ((i : ℕ) → i < length net.channels → Contains cs i → (channel_at net i).tokens ≡ (channel_at other i).tokens) → MapsTokens net other cs (pushed net other)
  pushed-maps cs kept = record {
    same = room.same;
    taken = λ i m j below has takes. subst (λ (n : ℕ). IsTakenBy (channel_at other i) n j) (sym (kept-none i m (kept i below has)))
        (taken-same (channel_at net i) (channel_at other i) m j (room.same.each i below) takes);
    put = λ i m k below has puts. put-pushed (channel_at net i) (channel_at other i) m k (room.same.each i below) (room.more i below) puts;
    initial = λ i m below there. (let more : (channel_at net i).tokens ≤ (channel_at other i).tokens = room.more i below in
        let f : pushed net other i m < (channel_at other i).tokens = omega arith in f);
  }

  pub pushed-left : (first' : ℕ → ℕ) (q' i k : ℕ) → i < length net.channels → q' ≡ first' i + pushed net other i k → MapsLeft net other first' (pushed net other) q' i k
  pushed-left first' q' i k below number =
      let one : left_token net i (pushed net other i k) ≡ left_token other i (pushed net other i k) = left-same net other room.same i (pushed net other i k) below in
      record {
        number = number;
        left = (let f : pushed net other i (left_token net i k) ≡ left_token net i (pushed net other i k) = omega arith in f ∙ one);
        put = λ n puts. put-pushed (channel_at net i) (channel_at other i) (left_token net i k) n (room.same.each i below) (room.more i below) puts;
      }

-- ---- with spare room it stands for the last spare token of its step

above : (g r a m : ℕ) → 1 ≤ g → a * g ≤ m → a * g + r ≤ m / g * g + r
above g r a m some low = let up : a * g ≤ m / g * g = mul-le-mul_right g (le-div a m g some low) in omega arith

under : (g r b m : ℕ) → r < g → m < b * g → m / g * g + r < b * g
under g r b m small high = let up : (m / g + 1) * g ≤ b * g = mul-le-mul_right g (let f : m / g + 1 ≤ b = omega (arith, div_below m g b (omega arith) high) in f) in omega arith

pub spare-under : (g r a b : ℕ) → r < g → a * g < b * g → a * g + r < b * g
spare-under g r a b small less = ⊎_elim
    (λ (h : a < b). (let up : (a + 1) * g ≤ b * g = mul-le-mul_right g (let f : a + 1 ≤ b = omega arith in f) in omega arith))
    (λ (more : b ≤ a). absurd (let down : b * g ≤ a * g = mul-le-mul_right g more in let no : ⊥ = omega arith in no)) (cases_lt a b)

module _ (net other : Net) (step spare : ℕ → ℕ) (has : HasSpare net other step spare) where
  spare-taken : (i m j : ℕ) → i < length net.channels → IsTakenBy (channel_at net i) m j → IsTakenBy (channel_at other i) (spared step spare i m) j
  spare-taken i m j below (low, high) =
      let a = whole-total (step i) (channel_at net i).taken (has.taken i below) j in
      let b = whole-total (step i) (channel_at net i).taken (has.taken i below) (j + 1) in
      let same = same-total (channel_at net i) (channel_at other i) (has.same.each i below) in
      let up : a.0 * step i + spare i ≤ m / step i * step i + spare i = above (step i) (spare i) a.0 m (has.some i below) (omega (arith, a.1)) in
      let down : m / step i * step i + spare i < b.0 * step i = under (step i) (spare i) b.0 m (has.small i below) (omega (arith, b.1)) in
      let one : total (channel_at net i).taken j ≡ total (channel_at other i).taken j = (same j).1 in
      let two : total (channel_at net i).taken (j + 1) ≡ total (channel_at other i).taken (j + 1) = (same (j + 1)).1 in (
        (let f : total (channel_at other i).taken j ≤ m / step i * step i + spare i = omega (arith, a.1) in f),
        (let f : m / step i * step i + spare i < total (channel_at other i).taken (j + 1) = omega (arith, b.1) in f),
      )

  spare-put : (i m k : ℕ) → i < length net.channels → IsPutBy (channel_at net i) m k → IsPutBy (channel_at other i) (spared step spare i m) k
  spare-put i m k below (low, high) =
      let a = whole-total (step i) (channel_at net i).made (has.made i below) k in
      let b = whole-total (step i) (channel_at net i).made (has.made i below) (k + 1) in
      let u = has.whole i below in
      let same = same-total (channel_at net i) (channel_at other i) (has.same.each i below) in
      let t : (channel_at other i).tokens ≡ (channel_at net i).tokens + spare i = has.tokens i below in
      let up : (u.0 + a.0) * step i + spare i ≤ m / step i * step i + spare i = above (step i) (spare i) (u.0 + a.0) m (has.some i below) (omega (arith, a.1, u.1)) in
      let down : m / step i * step i + spare i < (u.0 + b.0) * step i = under (step i) (spare i) (u.0 + b.0) m (has.small i below) (omega (arith, b.1, u.1)) in
      let one : total (channel_at net i).made k ≡ total (channel_at other i).made k = (same k).0 in
      let two : total (channel_at net i).made (k + 1) ≡ total (channel_at other i).made (k + 1) = (same (k + 1)).0 in (
        (let f : (channel_at other i).tokens + total (channel_at other i).made k ≤ m / step i * step i + spare i = omega (arith, a.1, u.1) in f),
        (let f : m / step i * step i + spare i < (channel_at other i).tokens + total (channel_at other i).made (k + 1) = omega (arith, b.1, u.1) in f),
      )

  pub spare-maps : (cs : List ℕ) → MapsTokens net other cs (spared step spare)
  spare-maps cs = record {
    same = has.same;
    taken = λ i m j below on takes. spare-taken i m j below takes;
    put = λ i m k below on puts. spare-put i m k below puts;
    initial = λ i m below there.
        let u = has.whole i below in
        let down : m / step i * step i + spare i < u.0 * step i = under (step i) (spare i) u.0 m (has.small i below) (omega (arith, u.1)) in
        omega (arith, has.tokens i below, u.1);
  }

  pub spare-left : (first' : ℕ → ℕ) (q' i k : ℕ) → i < length net.channels → q' ≡ first' i + spared step spare i k → MapsLeft net other first' (spared step spare) q' i k
  spare-left first' q' i k below number =
      let l = whole-total (step i) (channel_at net i).taken (has.taken i below) (slice_index net.round (channel_at net i).target) in
      let whole : left_token net i k ≡ l.0 * step i + k = ap (λ (n : ℕ). n + k) l.1 in
      let floor : (l.0 * step i + k) / step i ≡ l.0 + k / step i = mul-add-div_right (has.some i below) l.0 k in
      let moved : left_token net i k / step i ≡ l.0 + k / step i = ap (λ (n : ℕ). n / step i) whole ∙ floor in
      let one : left_token net i k / step i * step i ≡ (l.0 + k / step i) * step i = ap (λ (n : ℕ). n * step i) moved in
      let total_is : total (channel_at net i).taken (slice_index net.round (channel_at net i).target) ≡ l.0 * step i = l.1 in
      let same : left_token net i (spared step spare i k) ≡ left_token other i (spared step spare i k) = left-same net other has.same i (spared step spare i k) below in
      record {
        number = number;
        left = (let f : spared step spare i (left_token net i k) ≡ left_token net i (spared step spare i k) = omega (arith, one, total_is) in f ∙ same);
        put = λ n puts. spare-put i (left_token net i k) n below puts;
      }
