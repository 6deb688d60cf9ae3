-- Which firings put the tokens that one firing takes.
use Rattle.std.proofs.Common.{◌≡◌, ℕ, ◌+◌, ◌-◌, ◌*◌, ◌/◌, ◌%◌, ◌≤◌, ◌<◌, ◌⊎◌, Bool, [], length, ⊎_elim, ◌∙◌, refl, arith, mod-lt, div-add-mod', div-mul-le_self}
use Rattle.std.specs.Prelude.{◌↔◌, IsTrue, slice_index}
use Rattle.std.proofs.lemmas.Bool.{cases_lt}
use Rattle.sd_base.specs.Net.{Channel, Net, channel_at, total}
use Rattle.sd_base.specs.Lawful.{Lawful}
use Rattle.sd_base.specs.Schedules.{phases_at}
use Rattle.sd_base.proofs.SumsRepeatByTurns.{total-le, one-total}
use Rattle.sd_base.proofs.ElementsKeepPlaces.{single-some}
use Rattle.token_matrix.specs.Stamps.{IsTakenBy, IsPutBy}
use Rattle.entry_ways.specs.inside.Columns.{AreProducers, IsAmong}

floor-high : (g m : ℕ) → 1 ≤ g → m < (m / g + 1) * g
floor-high g m some = let parts : m / g * g + m % g ≡ m = div-add-mod' m g in let rest : m % g < g = mod-lt m some in omega arith

-- a token between two pairs of bounds
token-between : (from to low high : ℕ) → from < to → low < high → low < to → from < high → (m : ℕ) × (from ≤ m) × (m < to) × (low ≤ m) × (m < high)
token-between from to low high one two three four = ⊎_elim
    (λ (less : from < low). (low, omega arith, three, omega arith, two))
    (λ (more : low ≤ from). (from, omega arith, one, more, four))
    (cases_lt from low)

module _ (net : Net) (number : ℕ → ℕ) (p i j from end : ℕ) (start : total (channel_at net i).taken j ≡ from) (stop : total (channel_at net i).taken (j + 1) ≡ end) where
  abbrev pub Token : Bool → Type 0
  Token has = IsTrue has ↔ ((m : ℕ) × IsTakenBy (channel_at net i) m j × (m < (channel_at net i).tokens) × (p ≡ number i + m))

  -- the shared token is taken just where it is among those that are there
  pub among : (has : Bool) → (IsTrue has ↔ IsAmong (number i) p from end (channel_at net i).tokens) → Token has
  among has same = (
    λ yes. (let a = same.0 yes in (
      p - number i,
      (
        (let f : total (channel_at net i).taken j ≤ p - number i = omega (arith, start, a.past, a.low) in f),
        (let f : p - number i < total (channel_at net i).taken (j + 1) = omega (arith, stop, a.past, a.high) in f),
      ),
      (let f : p - number i < (channel_at net i).tokens = omega (arith, a.past, a.there) in f),
      (let e : p ≡ number i + (p - number i) = omega (arith, a.past) in e),
    )),
    λ token. (let m : ℕ = token.0 in let low : from ≤ m = omega (arith, start, token.1.0) in let high : m < end = omega (arith, stop, token.1.1) in
        let b : m < (channel_at net i).tokens = token.2 in let e : p ≡ number i + m = token.3 in
        same.1 (record { past = omega (arith, e); low = omega (arith, e, low); high = omega (arith, e, high); there = omega (arith, e, b) })),
  )

  -- only initial tokens are taken
  pub none-put : (has : Bool) → Token has → end ≤ (channel_at net i).tokens → AreProducers net number p i j has 0 0
  none-put has token early = record {
    token = token;
    each = λ k low high. absurd (omega arith);
    all = λ m k is put. absurd (let high : m < end = omega (arith, stop, is.1) in let late : (channel_at net i).tokens ≤ m = omega (arith, put.0) in let no : ⊥ = omega arith in no);
  }

  -- the firings from the one that puts the first of the others to the one that puts the last
  pub some-put : (has : Bool) (m last : ℕ) → ((n : ℕ) → total (channel_at net i).made n < total (channel_at net i).made (n + 1)) → Token has → from < end → (channel_at net i).tokens < end
      → from ≤ m → (m ≡ from) ⊎ (m ≡ (channel_at net i).tokens) → (k l : ℕ) → IsPutBy (channel_at net i) m k → last + 1 ≡ end → IsPutBy (channel_at net i) last l
      → AreProducers net number p i j has k (l + 1)
  some-put has m last grows token some late low which k l first is_last puts = record {
    token = token;
    each = λ n above below. (
        let up : total (channel_at net i).made (k + 1) ≤ total (channel_at net i).made (n + 1) = total-le (channel_at net i).made (omega arith) in
        let down : total (channel_at net i).made n ≤ total (channel_at net i).made l = total-le (channel_at net i).made (omega arith) in
        let one : total (channel_at net i).made n < total (channel_at net i).made (n + 1) = grows n in
        let t = token-between from end ((channel_at net i).tokens + total (channel_at net i).made n) ((channel_at net i).tokens + total (channel_at net i).made (n + 1)) some
        (omega arith) (omega (arith, puts.0)) (omega (arith, first.1)) in (
          t.0,
          (
            (let f : total (channel_at net i).taken j ≤ t.0 = omega (arith, start, t.1) in f),
            (let f : t.0 < total (channel_at net i).taken (j + 1) = omega (arith, stop, t.2) in f),
          ),
          (t.3, t.4),
        ));
    all = λ n h is put. (
        let here : from ≤ n = omega (arith, start, is.0) in
        let there : n < end = omega (arith, stop, is.1) in (
          ⊎_elim (λ (less : h < k). absurd (
              let up : total (channel_at net i).made (h + 1) ≤ total (channel_at net i).made k = total-le (channel_at net i).made (omega arith) in
              let before : n < m = omega (arith, put.1, first.0) in
              let no : ⊥ = ⊎_elim (λ (e : m ≡ from). omega arith) (λ (e : m ≡ (channel_at net i).tokens). omega (arith, put.0)) which in no))
              (λ (more : k ≤ h). more) (cases_lt h k),
          ⊎_elim (λ (less : h < l + 1). less)
              (λ (more : l + 1 ≤ h). absurd (
              let up : total (channel_at net i).made (l + 1) ≤ total (channel_at net i).made h = total-le (channel_at net i).made more in
              let no : ⊥ = omega (arith, put.0, puts.1) in no)) (cases_lt h (l + 1)),
        ));
  }

-- the firing that puts a token
pub producer-at : (c : Channel) (m made : ℕ) → length c.made ≡ 1 → made ≡ slice_index c.made 0 → 1 ≤ made → c.tokens ≤ m → IsPutBy c m ((m - c.tokens) / made)
producer-at c m made one is some late =
    let a : total c.made ((m - c.tokens) / made) ≡ (m - c.tokens) / made * made = one-total c.made ((m - c.tokens) / made) made one is in
    let b : total c.made ((m - c.tokens) / made + 1) ≡ ((m - c.tokens) / made + 1) * made = one-total c.made ((m - c.tokens) / made + 1) made one is in
    let low : (m - c.tokens) / made * made ≤ m - c.tokens = div-mul-le_self (m - c.tokens) made in
    let high : m - c.tokens < ((m - c.tokens) / made + 1) * made = floor-high made (m - c.tokens) some in
    ((let f : c.tokens + total c.made ((m - c.tokens) / made) ≤ m = omega arith in f), (let f : m < c.tokens + total c.made ((m - c.tokens) / made + 1) = omega arith in f))

-- each firing of a source puts some tokens
pub made-grows : (net : Net) → Lawful net → ((a : ℕ) → a < length net.times → phases_at net a ≡ 1) → (i : ℕ) → i < length net.channels → (n : ℕ)
    → total (channel_at net i).made n < total (channel_at net i).made (n + 1)
made-grows net laws phases i below n =
    let c : Channel = channel_at net i in
    let one : length c.made ≡ 1 = laws.made_phases i below ∙ phases c.source (laws.sources i below) in
    let some : 1 ≤ slice_index c.made 0 = single-some c.made (slice_index c.made 0) one refl (laws.some_made i below) in
    let low : total c.made n ≡ n * slice_index c.made 0 = one-total c.made n (slice_index c.made 0) one refl in
    let high : total c.made (n + 1) ≡ (n + 1) * slice_index c.made 0 = one-total c.made (n + 1) (slice_index c.made 0) one refl in
    omega arith
