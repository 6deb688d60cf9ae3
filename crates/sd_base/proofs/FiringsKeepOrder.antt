-- In an admissible schedule the firings of an actor start and end in order, and two earliest schedules of one moment are one.
use Rattle.std.proofs.Common.{◌≡◌, ℕ, zero, suc, ◌+◌, ◌-◌, ◌*◌, ◌≤◌, ◌<◌, ◌⊎◌, List, [], ◌∷◌, length, inl, inr, ⊎_elim, subst, sym, refl, ap, ◌∙◌, arith, add-one}
use Rattle.std.specs.Prelude.{slice_index_or}
use Rattle.std.proofs.lemmas.Bool.{cases_lt}
use Rattle.std.proofs.lemmas.List.{get_or_past, ext_get_or}
use Rattle.sd_base.specs.Net.{Channel, Net, channel_at, phase_entry, total}
use Rattle.sd_base.specs.Schedules.{time_of, phases_at, Needs, Schedule, count_of, start_of, end_of, Admissible, Earliest}
use Rattle.sd_base.proofs.SumsRepeatByTurns.{total-zero, entry-shift}
use Rattle.sd_base.proofs.LawfulIsRegular.{IsOwn, OneByOne}

-- who has a firing is an actor
pub no_actor : (s : Schedule) (a k : ℕ) → k < count_of s a → a < length s
no_actor s a k below = each (cases_lt a (length s))
  where
    each : (a < length s) ⊎ (length s ≤ a) → a < length s
    each (inl here) = here
    each (inr past) =
        let empty : slice_index_or s a [] ≡ [] = get_or_past s a [] past in
        let none : count_of s a ≡ 0 = ap length empty in absurd (omega arith)

pub is_actor : (net : Net) (s : Schedule) (a k : ℕ) → Admissible net s → k < count_of s a → a < length net.times
is_actor net s a k good below = rw (good.actors) at (no_actor s a k below)

pub one_time : (ts : List ℕ) (j k : ℕ) → length ts ≤ 1 → phase_entry ts j ≡ phase_entry ts k
one_time [] j k few = refl
one_time (t ∷ []) j k few =
    let here : phase_entry (t ∷ []) (0 + j * 1) ≡ phase_entry (t ∷ []) 0 = entry-shift (t ∷ []) 0 j in
    let there : phase_entry (t ∷ []) (0 + k * 1) ≡ phase_entry (t ∷ []) 0 = entry-shift (t ∷ []) 0 k in
    let at_j : 0 + j * 1 ≡ j = omega arith in
    let at_k : 0 + k * 1 ≡ k = omega arith in
    (rw at_j at here) ∙ sym (rw at_k at there)
one_time (t ∷ u ∷ ts) j k few = absurd (omega arith)

-- the firings of an actor end in their order
pub ends-rise : (net : Net) (s : Schedule) → OneByOne net → Admissible net s → (a k : ℕ) → k + 1 < count_of s a → end_of net s a k ≤ end_of net s a (k + 1)
ends-rise net s own good a k below = each (own.own a (is_actor net s a (k + 1) good below))
  where
    each : (phases_at net a ≤ 1) ⊎ ((i : ℕ) × IsOwn net a i) → end_of net s a k ≤ end_of net s a (k + 1)
    each (inl few) =
        let same : time_of net a k ≡ time_of net a (k + 1) = one_time (slice_index_or net.times a []) k (k + 1) few in
        omega (arith, good.rising a k below)
    each (inr found) =
        let i : ℕ = found.0 in
        let mine = found.1 in
        let there : k + 1 < count_of s (channel_at net i).target = rw mine.target below in
        let ended = (good.fed i (k + 1) k mine.place there (mine.last k).needed).1 in
        let at_source : end_of net s a k ≤ start_of s (channel_at net i).target (k + 1) = subst (λ (b : ℕ). end_of net s b k ≤ start_of s (channel_at net i).target (k + 1)) mine.source ended in
        let at_target : end_of net s a k ≤ start_of s a (k + 1) = subst (λ (b : ℕ). end_of net s a k ≤ start_of s b (k + 1)) mine.target at_source in
        omega arith

ends-along : (net : Net) (s : Schedule) → OneByOne net → Admissible net s → (a k d : ℕ) → d + k < count_of s a → end_of net s a k ≤ end_of net s a (d + k)
ends-along net s own good a k zero below = let e : 0 + k ≡ k = omega arith in rw e (omega arith)
ends-along net s own good a k (suc d) below =
    let e : suc d + k ≡ (d + k) + 1 = omega arith in
    rw e (omega (arith, ends-along net s own good a k d (omega arith), ends-rise net s own good a (d + k) (omega arith)))

pub ends-le : (net : Net) (s : Schedule) → OneByOne net → Admissible net s → (a j k : ℕ) → j ≤ k → k < count_of s a → end_of net s a j ≤ end_of net s a k
ends-le net s own good a j k h below =
    let e : (k - j) + j ≡ k = omega arith in
    subst (λ (n : ℕ). end_of net s a j ≤ end_of net s a n) e (ends-along net s own good a j (k - j) (omega arith))

starts-along : (net : Net) (s : Schedule) → Admissible net s → (a k d : ℕ) → d + k < count_of s a → start_of s a k ≤ start_of s a (d + k)
starts-along net s good a k zero below = let e : 0 + k ≡ k = omega arith in rw e (omega arith)
starts-along net s good a k (suc d) below =
    let e : suc d + k ≡ (d + k) + 1 = omega arith in
    rw e (omega (arith, starts-along net s good a k d (omega arith), good.rising a (d + k) (omega arith)))

pub starts-le : (net : Net) (s : Schedule) → Admissible net s → (a j k : ℕ) → j ≤ k → k < count_of s a → start_of s a j ≤ start_of s a k
starts-le net s good a j k h below =
    let e : (k - j) + j ≡ k = omega arith in
    subst (λ (n : ℕ). start_of s a j ≤ start_of s a n) e (starts-along net s good a j (k - j) (omega arith))

-- the tokens that the firings of a schedule take are there or made by its firings
pub needed-tokens : (net : Net) (s : Schedule) → Admissible net s → (i : ℕ) → i < length net.channels →
    total (channel_at net i).taken (count_of s (channel_at net i).target) ≤ (channel_at net i).tokens + total (channel_at net i).made (count_of s (channel_at net i).source)
needed-tokens net s good i place = at (count_of s (channel_at net i).target) refl
  where
    c : Channel
    c = channel_at net i

    at : (n : ℕ) → count_of s (channel_at net i).target ≡ n → total (channel_at net i).taken n ≤ (channel_at net i).tokens + total (channel_at net i).made (count_of s (channel_at net i).source)
    at zero e = rw total-zero (omega arith)
    at (suc n) e = ⊎_elim
        (λ (lack : Needs (channel_at net i) n (count_of s (channel_at net i).source)). absurd (let there = (good.fed i n (count_of s (channel_at net i).source) place (omega (arith, e)) lack).0 in omega arith))
        (λ (enough : total (channel_at net i).taken (n + 1) ≤ (channel_at net i).tokens + total (channel_at net i).made (count_of s (channel_at net i).source)). rw (← add-one) enough)
        (cases_lt ((channel_at net i).tokens + total (channel_at net i).made (count_of s (channel_at net i).source)) (total (channel_at net i).taken (n + 1)))

-- counts of two earliest schedules of one moment agree
pub earliest-count : (net : Net) (t : ℕ) (s u : Schedule) → Earliest net t s → Earliest net t u → (a : ℕ) → count_of s a ≤ count_of u a
earliest-count net t s u one other a = ⊎_elim
    (λ (more : count_of u a < count_of s a). absurd (let there = (other.least s one.admissible a (count_of u a) more (one.before a (count_of u a) more)).0 in omega arith))
    (λ (h : count_of s a ≤ count_of u a). h) (cases_lt (count_of u a) (count_of s a))

-- two earliest schedules of one moment are one
pub earliest-equal : (net : Net) (t : ℕ) (s u : Schedule) → Earliest net t s → Earliest net t u → s ≡ u
earliest-equal net t s u one other = ext_get_or [] s u (one.admissible.actors ∙ sym other.admissible.actors) (λ a below. ext_get_or 0 (slice_index_or s a []) (slice_index_or u a []) (counts a) (starts a))
  where
    counts : (a : ℕ) → count_of s a ≡ count_of u a
    counts a = omega (arith, earliest-count net t s u one other a, earliest-count net t u s other one a)

    starts : (a k : ℕ) → k < count_of s a → start_of s a k ≡ start_of u a k
    starts a k below =
        let here = other.least s one.admissible a k below (one.before a k below) in
        let no_later : start_of u a k ≤ start_of s a k = here.1 in
        let back = one.least u other.admissible a k here.0 (other.before a k here.0) in
        let no_sooner : start_of s a k ≤ start_of u a k = back.1 in
        omega arith
