-- Equal shapes: what has started and ended between them is whole turns, and what runs has as long to go.
use Rattle.std.proofs.Common.{◌≡◌, ℕ, ◌+◌, ◌-◌, ◌*◌, ◌/◌, ◌%◌, ◌≤◌, ◌<◌, List, [], length, ⊎_elim, sym, refl, ap, ◌∙◌, arith, div-add-mod'}
use Rattle.std.proofs.Math.Nat.{add-mul-mod_self_right, mul-sub, mul_comm}
use Rattle.std.specs.Prelude.{slice_index, slice_index_or}
use Rattle.std.proofs.lemmas.Bool.{cases_lt}
use Rattle.std.proofs.lemmas.List.{get_or-map, ext_get_or, length-map}
use Rattle.std.proofs.lemmas.List.FromFn.{get_or-map-range_with_len, length-map-range_with_len}
use Rattle.sd_base.specs.Net.{Net, nowhere, channel_at, total}
use Rattle.sd_base.specs.Schedules.{phases_at, Schedule, count_of, end_of}
use Rattle.sd_base.specs.SelfTimed.{ended_by, Shape, remaining_of, tokens_of, shape_of}
use Rattle.sd_base.proofs.SumsRepeatByTurns.{total-whole}
use Rattle.sd_base.proofs.LawfulIsRegular.{Wired}
use Rattle.sd_base.proofs.NextMomentIsEarliest.{Ended, Able}
use Rattle.sd_base.proofs.RoundsKeepTokens.{Whole, made-shift, taken-shift}

-- ---- what a shape shows

tokens-read : (net : Net) (t : ℕ) (s : Schedule) (i : ℕ) → i < length net.channels → slice_index (shape_of net t s).tokens i ≡ tokens_of net t s (channel_at net i)
tokens-read net t s i below = get_or-map (tokens_of net t s) net.channels i nowhere 0 below

phase-read : (net : Net) (t : ℕ) (s : Schedule) (a : ℕ) → a < length net.times → slice_index (shape_of net t s).phases a ≡ count_of s a % phases_at net a
phase-read net t s a below = get_or-map-range_with_len (λ (b : ℕ). count_of s b % phases_at net b) 0 (length net.times) a a 0 below (omega arith)

remaining-read : (net : Net) (t : ℕ) (s : Schedule) (a : ℕ) → a < length net.times → slice_index_or (shape_of net t s).remaining a [] ≡ remaining_of net t s a
remaining-read net t s a below = get_or-map-range_with_len (remaining_of net t s) 0 (length net.times) a a [] below (omega arith)

remaining-length : (net : Net) (t : ℕ) (s : Schedule) (a : ℕ) → length (remaining_of net t s a) ≡ count_of s a - ended_by net t s a
remaining-length net t s a = length-map-range_with_len (λ (k : ℕ). end_of net s a k - t) (ended_by net t s a) (count_of s a - ended_by net t s a)

remaining-entry : (net : Net) (t : ℕ) (s : Schedule) (a j : ℕ) → j < count_of s a - ended_by net t s a → slice_index (remaining_of net t s a) j ≡ end_of net s a (ended_by net t s a + j) - t
remaining-entry net t s a j below =
    get_or-map-range_with_len (λ (k : ℕ). end_of net s a k - t) (ended_by net t s a) (count_of s a - ended_by net t s a) j (ended_by net t s a + j) 0 below refl

-- one shape at two moments, in equations that take nothing off
pub record SameShape (net : Net) (r t : ℕ) (s u : Schedule) (e f : ℕ → ℕ) : Type 0 where
  pub tokens : (i : ℕ) → i < length net.channels →
      total (channel_at net i).made (e (channel_at net i).source) + total (channel_at net i).taken (count_of u (channel_at net i).target)
      ≡ total (channel_at net i).made (f (channel_at net i).source) + total (channel_at net i).taken (count_of s (channel_at net i).target)
  pub phases : (a : ℕ) → a < length net.times → count_of s a % phases_at net a ≡ count_of u a % phases_at net a
  pub running : (a : ℕ) → a < length net.times → count_of s a + f a ≡ count_of u a + e a
  pub ends : (a j : ℕ) → a < length net.times → e a + j < count_of s a → end_of net u a (f a + j) + r ≡ end_of net s a (e a + j) + t

module _ (net : Net) (r t : ℕ) (s u : Schedule) (able_s : Able net (ended_by net r s) (count_of s)) (able_u : Able net (ended_by net t u) (count_of u))
    (ended_s : (a : ℕ) → Ended net r s a (ended_by net r s a)) (ended_u : (a : ℕ) → Ended net t u a (ended_by net t u a)) (same : shape_of net r s ≡ shape_of net t u) where
  same-tokens : (i : ℕ) → i < length net.channels → tokens_of net r s (channel_at net i) ≡ tokens_of net t u (channel_at net i)
  same-tokens i place = sym (tokens-read net r s i place) ∙ (ap (λ (h : Shape). slice_index h.tokens i) same ∙ tokens-read net t u i place)

  same-phases : (a : ℕ) → a < length net.times → count_of s a % phases_at net a ≡ count_of u a % phases_at net a
  same-phases a actor = sym (phase-read net r s a actor) ∙ (ap (λ (h : Shape). slice_index h.phases a) same ∙ phase-read net t u a actor)

  same-remaining : (a : ℕ) → a < length net.times → remaining_of net r s a ≡ remaining_of net t u a
  same-remaining a actor = sym (remaining-read net r s a actor) ∙ (ap (λ (h : Shape). slice_index_or h.remaining a []) same ∙ remaining-read net t u a actor)

  same-many : (a : ℕ) → a < length net.times → count_of s a - ended_by net r s a ≡ count_of u a - ended_by net t u a
  same-many a actor = sym (remaining-length net r s a) ∙ (ap length (same-remaining a actor) ∙ remaining-length net t u a)

  same-entry : (a j : ℕ) → a < length net.times → ended_by net r s a + j < count_of s a → end_of net u a (ended_by net t u a + j) + r ≡ end_of net s a (ended_by net r s a + j) + t
  same-entry a j actor below =
      let many : count_of s a - ended_by net r s a ≡ count_of u a - ended_by net t u a = same-many a actor in
      let here : j < count_of s a - ended_by net r s a = omega arith in
      let there : j < count_of u a - ended_by net t u a = omega arith in
      let e : end_of net s a (ended_by net r s a + j) - r ≡ end_of net u a (ended_by net t u a + j) - t =
      sym (remaining-entry net r s a j here) ∙ (ap (λ (l : List ℕ). slice_index l j) (same-remaining a actor) ∙ remaining-entry net t u a j there) in
      let later_s : r < end_of net s a (ended_by net r s a + j) = (ended_s a).going (ended_by net r s a + j) (omega arith) below in
      let later_u : t < end_of net u a (ended_by net t u a + j) = (ended_u a).going (ended_by net t u a + j) (omega arith) (omega arith) in
      omega arith

  pub same-shape : SameShape net r t s u (ended_by net r s) (ended_by net t u)
  same-shape = record {
    tokens = λ i place. omega (arith, same-tokens i place, able_s.enough i place, able_u.enough i place);
    phases = same-phases;
    running = λ a actor. omega (arith, same-many a actor, (ended_s a).within, (ended_u a).within);
    ends = same-entry;
  }

-- ---- one moment after another

-- by actor v more firings have started and have ended by t than by r, and those of s from base on have as long to go
pub record Shifted (net : Net) (v base : ℕ → ℕ) (r t : ℕ) (s u : Schedule) (e f : ℕ → ℕ) : Type 0 where
  pub since : (a : ℕ) → base a ≤ e a
  pub counts : (a : ℕ) → count_of u a ≡ count_of s a + v a
  pub ended : (a : ℕ) → f a ≡ e a + v a
  pub ends : (a k : ℕ) → base a ≤ k → k < count_of s a → end_of net u a (k + v a) + r ≡ end_of net s a k + t

-- what has started in between
abbrev pub between : Schedule → Schedule → ℕ → ℕ
between s u a = count_of u a - count_of s a

turns-apart : (m n f : ℕ) → m ≤ n → m % f ≡ n % f → (q : ℕ) × (n - m ≡ q * f)
turns-apart m n f le same =
    let one : m / f * f + m % f ≡ m = div-add-mod' m f in
    let other : n / f * f + n % f ≡ n = div-add-mod' n f in
    let turns : n - m ≡ f * (n / f) - f * (m / f) = omega arith in
    (n / f - m / f, turns ∙ (sym (mul-sub f (n / f) (m / f)) ∙ mul_comm f (n / f - m / f)))

-- equal shapes are whole turns apart
module _ (net : Net) (r t : ℕ) (s u : Schedule) (e f : ℕ → ℕ) (wired : Wired net) (more : (a : ℕ) → count_of s a ≤ count_of u a)
    (past : (a : ℕ) → length net.times ≤ a → count_of u a ≡ 0) (within_s : (a : ℕ) → e a ≤ count_of s a) (within_u : (a : ℕ) → f a ≤ count_of u a) (same : SameShape net r t s u e f) where
  apart-turns : (a : ℕ) → a < length net.times → (q : ℕ) × (between s u a ≡ q * phases_at net a)
  apart-turns a actor = turns-apart (count_of s a) (count_of u a) (phases_at net a) (more a) (same.phases a actor)

  apart-ended : (a : ℕ) → f a ≡ e a + between s u a
  apart-ended a = ⊎_elim
      (λ (actor : a < length net.times). omega (arith, same.running a actor, more a, within_s a))
      (λ (none : length net.times ≤ a). omega (arith, past a none, more a, within_s a, within_u a))
      (cases_lt a (length net.times))

  pub same-shifted : Shifted net (between s u) e r t s u e f
  same-shifted = record {
    since = λ a. omega arith;
    counts = λ a. omega (arith, more a);
    ended = apart-ended;
    ends = λ a k from below. ⊎_elim
        (λ (actor : a < length net.times).
        let here : e a + (k - e a) ≡ k = omega arith in
        let there : f a + (k - e a) ≡ k + between s u a = omega (arith, apart-ended a) in
        let ends : end_of net u a (f a + (k - e a)) + r ≡ end_of net s a (e a + (k - e a)) + t = same.ends a (k - e a) actor (omega arith) in
        rw here at (rw there at ends))
        (λ (none : length net.times ≤ a). absurd (omega (arith, past a none, more a)))
        (cases_lt a (length net.times));
  }

  apart-made : (i : ℕ) → i < length net.channels → (q : ℕ) × (between s u (channel_at net i).source ≡ q * length (channel_at net i).made)
  apart-made i place = rw (wired.made_phases i place) (apart-turns (channel_at net i).source (wired.sources i place))

  apart-taken : (i : ℕ) → i < length net.channels → (q : ℕ) × (between s u (channel_at net i).target ≡ q * length (channel_at net i).taken)
  apart-taken i place = rw (wired.taken_phases i place) (apart-turns (channel_at net i).target (wired.targets i place))

  apart-kept : (i : ℕ) → i < length net.channels → total (channel_at net i).made (between s u (channel_at net i).source) ≡ total (channel_at net i).taken (between s u (channel_at net i).target)
  apart-kept i place =
      let source : ℕ = (channel_at net i).source in
      let target : ℕ = (channel_at net i).target in
      let made = apart-made i place in
      let taken = apart-taken i place in
      let there : count_of u target ≡ count_of s target + between s u target = omega (arith, more target) in
      let makes : total (channel_at net i).made (e source + between s u source) ≡ total (channel_at net i).made (e source) + total (channel_at net i).made (between s u source) = total-whole (channel_at net i).made (e source) (between s u source) made.0 made.1 in
      let takes : total (channel_at net i).taken (count_of s target + between s u target) ≡ total (channel_at net i).taken (count_of s target) + total (channel_at net i).taken (between s u target) = total-whole (channel_at net i).taken (count_of s target) (between s u target) taken.0 taken.1 in
      let made_by : total (channel_at net i).made (f source) ≡ total (channel_at net i).made (e source + between s u source) = ap (total (channel_at net i).made) (apart-ended source) in
      let taken_by : total (channel_at net i).taken (count_of u target) ≡ total (channel_at net i).taken (count_of s target + between s u target) = ap (total (channel_at net i).taken) there in
      omega (arith, same.tokens i place)

  pub same-whole : Whole net (between s u)
  same-whole = record { kept = apart-kept; made = apart-made; taken = apart-taken; times = apart-turns }

-- ---- back from firings to shapes

abbrev shape : List ℕ → List ℕ → List (List ℕ) → Shape
shape tokens phases remaining = record { tokens = tokens; phases = phases; remaining = remaining }

shape-same : {x y p q : List ℕ} {m n : List (List ℕ)} → x ≡ y → p ≡ q → m ≡ n → shape x p m ≡ shape y q n
shape-same {x} {y} {p} {q} {m} {n} one two three = ap (λ (l : List ℕ). shape l p m) one ∙ (ap (λ (l : List ℕ). shape y l m) two ∙ ap (λ (l : List (List ℕ)). shape y q l) three)

phases-many : (net : Net) (t : ℕ) (s : Schedule) → length (shape_of net t s).phases ≡ length net.times
phases-many net t s = length-map-range_with_len (λ (b : ℕ). count_of s b % phases_at net b) 0 (length net.times)

remaining-many : (net : Net) (t : ℕ) (s : Schedule) → length (shape_of net t s).remaining ≡ length net.times
remaining-many net t s = length-map-range_with_len (remaining_of net t s) 0 (length net.times)

-- moments that are shifted by whole turns have one shape
module _ (net : Net) (v : ℕ → ℕ) (whole : Whole net v) (base : ℕ → ℕ) (r t : ℕ) (s u : Schedule)
    (shifted : Shifted net v base r t s u (ended_by net r s) (ended_by net t u)) where
  shifted-tokens : (i : ℕ) → i < length net.channels → tokens_of net r s (channel_at net i) ≡ tokens_of net t u (channel_at net i)
  shifted-tokens i place =
      let source : ℕ = (channel_at net i).source in
      let target : ℕ = (channel_at net i).target in
      let kept : total (channel_at net i).made (v source) ≡ total (channel_at net i).taken (v target) = whole.kept i place in
      let makes : total (channel_at net i).made (ended_by net t u source) ≡ total (channel_at net i).made (ended_by net r s source + v source) = ap (total (channel_at net i).made) (shifted.ended source) in
      let takes : total (channel_at net i).taken (count_of u target) ≡ total (channel_at net i).taken (count_of s target + v target) = ap (total (channel_at net i).taken) (shifted.counts target) in
      omega (arith, made-shift net v whole i place (ended_by net r s source), taken-shift net v whole i place (count_of s target))

  shifted-phases : (a : ℕ) → a < length net.times → count_of s a % phases_at net a ≡ count_of u a % phases_at net a
  shifted-phases a actor =
      let turns = whole.times a actor in
      rw (shifted.counts a) (rw turns.1 (sym (add-mul-mod_self_right (count_of s a) turns.0 (phases_at net a))))

  shifted-remaining : (a : ℕ) → remaining_of net r s a ≡ remaining_of net t u a
  shifted-remaining a = ext_get_or 0 (remaining_of net r s a) (remaining_of net t u a) many entries
    where
      many : length (remaining_of net r s a) ≡ length (remaining_of net t u a)
      many = omega (arith, remaining-length net r s a, remaining-length net t u a, shifted.counts a, shifted.ended a)

      entries : (j : ℕ) → j < length (remaining_of net r s a) → slice_index (remaining_of net r s a) j ≡ slice_index (remaining_of net t u a) j
      entries j below =
          let here : j < count_of s a - ended_by net r s a = omega (arith, remaining-length net r s a) in
          let there : j < count_of u a - ended_by net t u a = omega (arith, shifted.counts a, shifted.ended a) in
          let place : ended_by net r s a + j + v a ≡ ended_by net t u a + j = omega (arith, shifted.ended a) in
          let ends : end_of net u a (ended_by net r s a + j + v a) + r ≡ end_of net s a (ended_by net r s a + j) + t = shifted.ends a (ended_by net r s a + j) (omega (arith, shifted.since a)) (omega arith) in
          let mine : end_of net u a (ended_by net t u a + j) + r ≡ end_of net s a (ended_by net r s a + j) + t = rw place at ends in
          remaining-entry net r s a j here ∙ ((omega arith) ∙ sym (remaining-entry net t u a j there))

  pub shifted-shape : shape_of net r s ≡ shape_of net t u
  shifted-shape = shape-same tokens phases remaining
    where
      tokens : (shape_of net r s).tokens ≡ (shape_of net t u).tokens
      tokens = ext_get_or 0 (shape_of net r s).tokens (shape_of net t u).tokens (length-map net.channels (tokens_of net r s) ∙ sym (length-map net.channels (tokens_of net t u))) (λ i below.
          let place : i < length net.channels = omega (arith, length-map net.channels (tokens_of net r s)) in
          tokens-read net r s i place ∙ (shifted-tokens i place ∙ sym (tokens-read net t u i place)))

      phases : (shape_of net r s).phases ≡ (shape_of net t u).phases
      phases = ext_get_or 0 (shape_of net r s).phases (shape_of net t u).phases (phases-many net r s ∙ sym (phases-many net t u)) (λ a below.
          let actor : a < length net.times = omega (arith, phases-many net r s) in
          phase-read net r s a actor ∙ (shifted-phases a actor ∙ sym (phase-read net t u a actor)))

      remaining : (shape_of net r s).remaining ≡ (shape_of net t u).remaining
      remaining = ext_get_or [] (shape_of net r s).remaining (shape_of net t u).remaining (remaining-many net r s ∙ sym (remaining-many net t u)) (λ a below.
          let actor : a < length net.times = omega (arith, remaining-many net r s) in
          remaining-read net r s a actor ∙ (shifted-remaining a ∙ sym (remaining-read net t u a actor)))
