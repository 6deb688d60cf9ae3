-- Tokens that are taken and put channel by channel.
use Rattle.std.proofs.Common.{◌≡◌, ◌≢◌, ℕ, ◌+◌, ◌-◌, ◌*◌, ◌%◌, ◌≤◌, ◌<◌, List, [], ◌∷◌, length, set, ⊎_elim, subst, sym, refl, ap, ◌∙◌, arith, zero-add}
use Rattle.std.specs.Prelude.{slice_index}
use Rattle.std.proofs.lemmas.Bool.{cases_lt, cases_eq}
use Rattle.std.proofs.lemmas.List.{get_or-set_same, get_or-set_other, length-set}
use Rattle.sd_base.specs.Net.{Net, channel_at, phase_entry, total}
use Rattle.sd_base.specs.Schedules.{Needs}
use Rattle.sd_base.specs.Lawful.{Lawful}
use Rattle.sd_base.proofs.SumsRepeatByTurns.{total-more, total-turn, total-turns, total-bound}
use Rattle.firing.specs.declared.sums.Port.{Port}
use Rattle.firing.specs.declared.sums.Port.TheVariants.{Made, Taken}
use Rattle.firing.proofs.PlacesAreListed.{place_of}
use Rattle.firing.specs.Wiring.{actor_at, IsListed, LacksNow, SufficesBefore, IsFirstLack, TakesTokens, PutsTokens, IsLevel}

-- ---- sums over a span of firings

pub span-more : (xs : List ℕ) (from k f sum rate : ℕ) → f ≡ length xs → total xs from + sum ≡ total xs (from + k) → rate ≡ slice_index xs ((from + k) % f) → total xs from + (sum + rate) ≡ total xs (from + (k + 1))
span-more xs from k f sum rate phases so_far here =
    let entry : rate ≡ phase_entry xs (from + k) = rw (← phases) here in
    let e : from + (k + 1) ≡ (from + k) + 1 = omega arith in
    rw (e, total-more) (omega arith)

one-turn : (xs : List ℕ) → length xs ≡ 1 → total xs (length xs) ≡ slice_index xs 0
one-turn [] one = absurd (omega arith)
one-turn (x ∷ []) one = total-turn (x ∷ []) ∙ zero-add x
one-turn (x ∷ y ∷ xs) one = absurd (omega arith)

one_rate : (xs : List ℕ) (f rate k : ℕ) → f ≡ length xs → f ≡ 1 → rate ≡ slice_index xs 0 → total xs k ≡ k * rate
one_rate xs f rate k phases one here =
    let len : length xs ≡ 1 = sym phases ∙ one in
    let turns : total xs (k * length xs) ≡ k * total xs (length xs) = total-turns xs k in
    let place : k * length xs ≡ k = rw len (omega arith) in
    let single : total xs (length xs) ≡ rate = one-turn xs len ∙ sym here in
    sym (ap (total xs) place) ∙ (turns ∙ ap (λ (x : ℕ). k * x) single)

pub span-one : (xs : List ℕ) (from n f rate : ℕ) → f ≡ length xs → f ≡ 1 → rate ≡ slice_index xs 0 → total xs from + n * rate ≡ total xs (from + n)
span-one xs from n f rate phases one here =
    rw (one_rate xs f rate from phases one here, one_rate xs f rate (from + n) phases one here) (omega arith)

-- ---- the first channel that lacks

-- the place of an earlier channel in an ascending list
earlier : (net : Net) (port : Port) (a : ℕ) (xs : List ℕ) → IsListed net port a xs → (j n : ℕ) → n < length xs → j < length xs → slice_index xs j < slice_index xs n → j < n
earlier net port a xs listed j n there here less = ⊎_elim (λ (h : j < n). h)
    (λ (late : n ≤ j). absurd (⊎_elim (λ (h : n < j). let rise : slice_index xs n < slice_index xs j = listed.rising n j h here in omega arith) (λ (h : j ≤ n). let same : n ≡ j = omega arith in let e : slice_index xs n ≡ slice_index xs j = ap (slice_index xs) same in omega arith) (cases_lt n j)))
    (cases_lt j n)

pub first-lack : (net : Net) (xs tokens : List ℕ) (a k n i : ℕ) → IsListed net Taken a xs → n < length xs → i ≡ slice_index xs n →
    ((j : ℕ) → j < n → phase_entry (channel_at net (slice_index xs j)).taken k ≤ slice_index tokens (slice_index xs j)) →
    slice_index tokens i < phase_entry (channel_at net i).taken k → IsFirstLack net tokens a k i
first-lack net xs tokens a k n i listed below at so_far short = record {
  lacks = record { place = rw at (listed.place n below); into = rw at (listed.there n below); short = short };
  first = λ m less into.
      let place : slice_index xs n < length net.channels = listed.place n below in
      let found = place_of net Taken a xs listed m (omega arith) into in
      let same : slice_index xs found.0 ≡ m = found.2 in
      let before : found.0 < n = earlier net Taken a xs listed found.0 n below found.1 (omega arith) in
      subst (λ (x : ℕ). phase_entry (channel_at net x).taken k ≤ slice_index tokens x) same (so_far found.0 before);
}

pub no-lack : (net : Net) (xs tokens : List ℕ) (a k n : ℕ) → IsListed net Taken a xs → length xs ≤ n →
    ((j : ℕ) → j < n → phase_entry (channel_at net (slice_index xs j)).taken k ≤ slice_index tokens (slice_index xs j)) → SufficesBefore net tokens a k (length net.channels)
no-lack net xs tokens a k n listed past so_far m place into =
    let found = place_of net Taken a xs listed m place into in
    let same : slice_index xs found.0 ≡ m = found.2 in
    let before : found.0 < n = omega (arith, found.1) in
    subst (λ (x : ℕ). phase_entry (channel_at net x).taken k ≤ slice_index tokens x) same (so_far found.0 before)

-- ---- changes channel by channel

-- by the change of the channels before n of the list, and no other change
pub record Changed (xs old new : List ℕ) (lost gained : ℕ → ℕ) (n : ℕ) : Type 0 where
  pub length_kept : length new ≡ length old
  pub done : (j : ℕ) → j < n → slice_index new (slice_index xs j) + lost (slice_index xs j) ≡ slice_index old (slice_index xs j) + gained (slice_index xs j)
  pub rest : (i : ℕ) → ((j : ℕ) → j < n → slice_index xs j ≢ i) → slice_index new i ≡ slice_index old i

-- the channels of the list are apart
pub apart : (net : Net) (port : Port) (a : ℕ) (xs : List ℕ) → IsListed net port a xs → (j n : ℕ) → j < n → n < length xs → slice_index xs j ≢ slice_index xs n
apart net port a xs listed j n h below same = let rise : slice_index xs j < slice_index xs n = listed.rising j n h below in omega arith

pub changed-more : (net : Net) (port : Port) (a : ℕ) (xs old now new : List ℕ) (lost gained : ℕ → ℕ) (n i x : ℕ) → IsListed net port a xs → n < length xs → i ≡ slice_index xs n → i < length now →
    new ≡ set now i x → x + lost i ≡ slice_index now i + gained i → Changed xs old now lost gained n → Changed xs old new lost gained (n + 1)
changed-more net port a xs old now new lost gained n i x listed below at place write balance changed = subst (λ (ys : List ℕ). Changed xs old ys lost gained (n + 1)) (sym write) (record {
  length_kept = length-set now i x ∙ changed.length_kept;
  done = λ j h. ⊎_elim
      (λ (before : j < n).
      let differ : slice_index xs j ≢ i = λ same. apart net port a xs listed j n before below (same ∙ at) in
      rw (get_or-set_other now i (slice_index xs j) x 0 differ) (changed.done j before))
      (λ (here : n ≤ j).
      let same : j ≡ n = omega arith in
      let mine : slice_index xs j ≡ i = ap (slice_index xs) same ∙ sym at in
      let untouched : slice_index now i ≡ slice_index old i = changed.rest i (λ m less. λ e. apart net port a xs listed m n less below (e ∙ at)) in
      let read : slice_index (set now i x) i ≡ x = get_or-set_same now i x 0 place in
      subst (λ (c : ℕ). slice_index (set now i x) c + lost c ≡ slice_index old c + gained c) (sym mine) (rw (read, ← untouched) balance))
      (cases_lt j n);
  rest = λ c away.
      let differ : c ≢ i = λ same. away n (omega arith) (sym at ∙ sym same) in
      get_or-set_other now i c x 0 differ ∙ changed.rest c (λ j h. away j (omega arith));
})

-- the channels of other actors are none of the list
not_listed : (net : Net) (port : Port) (a : ℕ) (xs : List ℕ) → IsListed net port a xs → (i n : ℕ) → n ≤ length xs → actor_at port (channel_at net i) ≢ a → (j : ℕ) → j < n → slice_index xs j ≢ i
not_listed net port a xs listed i n within away j below same = away (subst (λ (c : ℕ). actor_at port (channel_at net c) ≡ a) same (listed.there j (omega arith)))

pub takes-all : (net : Net) (a k n : ℕ) (xs old new : List ℕ) → IsListed net Taken a xs →
    Changed xs old new (λ i. total (channel_at net i).taken (k + n)) (λ i. total (channel_at net i).taken k) (length xs) → TakesTokens net a k n old new
takes-all net a k n xs old new listed changed = record {
  taken = λ i place into.
      let found = place_of net Taken a xs listed i place into in
      subst (λ (c : ℕ). slice_index new c + total (channel_at net c).taken (k + n) ≡ slice_index old c + total (channel_at net c).taken k) found.2 (changed.done found.0 found.1);
  others = λ i place away. changed.rest i (not_listed net Taken a xs listed i (length xs) (omega arith) away);
}

pub puts-all : (net : Net) (a k n : ℕ) (xs old new : List ℕ) → IsListed net Made a xs →
    Changed xs old new (λ i. total (channel_at net i).made k) (λ i. total (channel_at net i).made (k + n)) (length xs) → PutsTokens net a k n old new
puts-all net a k n xs old new listed changed = record {
  made = λ i place into.
      let found = place_of net Made a xs listed i place into in
      subst (λ (c : ℕ). slice_index new c + total (channel_at net c).made k ≡ slice_index old c + total (channel_at net c).made (k + n)) found.2 (changed.done found.0 found.1);
  others = λ i place away. changed.rest i (not_listed net Made a xs listed i (length xs) (omega arith) away);
}

-- what the channel of this turn has is what it had
pub untouched : (net : Net) (port : Port) (a : ℕ) (xs old now : List ℕ) (lost gained : ℕ → ℕ) (n i : ℕ) → IsListed net port a xs → n < length xs → i ≡ slice_index xs n → Changed xs old now lost gained n →
    slice_index now i ≡ slice_index old i
untouched net port a xs old now lost gained n i listed below at changed = changed.rest i (λ m less. λ e. apart net port a xs listed m n less below (e ∙ at))

-- n firings of a from k on take their tokens channel by channel
abbrev pub TakesSoFar : Net → ℕ → ℕ → List ℕ → List ℕ → List ℕ → ℕ → Type 0
TakesSoFar net k n xs old new done = Changed xs old new (λ i. total (channel_at net i).taken (k + n)) (λ i. total (channel_at net i).taken k) done

module _ (net : Net) (a k n : ℕ) (xs old now : List ℕ) (at all : ℕ) (listed : IsListed net Taken a xs) (below : at < length xs) (long : length now ≡ length net.channels) where
  pub take-fits : ((i : ℕ) → i < length net.channels → (channel_at net i).target ≡ a → total (channel_at net i).taken (k + n) ≤ slice_index old i + total (channel_at net i).taken k) →
      total (channel_at net (slice_index xs at)).taken k + all ≡ total (channel_at net (slice_index xs at)).taken (k + n) → TakesSoFar net k n xs old now at → all ≤ slice_index now (slice_index xs at)
  take-fits enough sum so_far =
      let i : ℕ = slice_index xs at in
      let same : slice_index now i ≡ slice_index old i = untouched net Taken a xs old now (λ c. total (channel_at net c).taken (k + n)) (λ c. total (channel_at net c).taken k) at i listed below refl so_far in
      let room : total (channel_at net i).taken (k + n) ≤ slice_index old i + total (channel_at net i).taken k = enough i (listed.place at below) (listed.there at below) in
      omega arith

  pub take-step : ((i : ℕ) → i < length net.channels → (channel_at net i).target ≡ a → total (channel_at net i).taken (k + n) ≤ slice_index old i + total (channel_at net i).taken k) →
      total (channel_at net (slice_index xs at)).taken k + all ≡ total (channel_at net (slice_index xs at)).taken (k + n) → TakesSoFar net k n xs old now at →
      TakesSoFar net k n xs old (set now (slice_index xs at) (slice_index now (slice_index xs at) - all)) (at + 1)
  take-step enough sum so_far =
      let i : ℕ = slice_index xs at in
      let fits : all ≤ slice_index now i = take-fits enough sum so_far in
      changed-more net Taken a xs old now (set now i (slice_index now i - all)) (λ c. total (channel_at net c).taken (k + n)) (λ c. total (channel_at net c).taken k) at i (slice_index now i - all)
      listed below refl (rw long (listed.place at below)) refl (omega arith) so_far

-- n firings of a from k on put their tokens channel by channel
abbrev pub PutsSoFar : Net → ℕ → ℕ → List ℕ → List ℕ → List ℕ → ℕ → Type 0
PutsSoFar net k n xs old new done = Changed xs old new (λ i. total (channel_at net i).made k) (λ i. total (channel_at net i).made (k + n)) done

module _ (net : Net) (a k n : ℕ) (xs old now : List ℕ) (at all : ℕ) (listed : IsListed net Made a xs) (below : at < length xs) (long : length now ≡ length net.channels) where
  pub put-same : PutsSoFar net k n xs old now at → slice_index now (slice_index xs at) ≡ slice_index old (slice_index xs at)
  put-same so_far = untouched net Made a xs old now (λ c. total (channel_at net c).made k) (λ c. total (channel_at net c).made (k + n)) at (slice_index xs at) listed below refl so_far

  pub put-step : total (channel_at net (slice_index xs at)).made k + all ≡ total (channel_at net (slice_index xs at)).made (k + n) → PutsSoFar net k n xs old now at →
      PutsSoFar net k n xs old (set now (slice_index xs at) (slice_index now (slice_index xs at) + all)) (at + 1)
  put-step sum so_far =
      let i : ℕ = slice_index xs at in
      changed-more net Made a xs old now (set now i (slice_index now i + all)) (λ c. total (channel_at net c).made k) (λ c. total (channel_at net c).made (k + n)) at i (slice_index now i + all)
      listed below refl (rw long (listed.place at below)) refl (omega arith) so_far

-- ---- the level of the tokens

-- new counts are old ones with n more firings of a
pub record MoreBy (a n : ℕ) (old new : ℕ → ℕ) : Type 0 where
  pub here : new a ≡ old a + n
  pub others : (b : ℕ) → b ≢ a → new b ≡ old b

pub level-takes : (net : Net) (a n : ℕ) (s more e : ℕ → ℕ) (old new : List ℕ) → IsLevel net s e old → TakesTokens net a (s a) n old new → length new ≡ length old → MoreBy a n s more → IsLevel net more e new
level-takes net a n s more e old new level takes long counts = record {
  long = long ∙ level.long;
  each = λ i place. ⊎_elim
      (λ (into : (channel_at net i).target ≡ a).
      let was : slice_index old i + total (channel_at net i).taken (s (channel_at net i).target) ≡ (channel_at net i).tokens + total (channel_at net i).made (e (channel_at net i).source) = level.each i place in
      let before : slice_index old i + total (channel_at net i).taken (s a) ≡ (channel_at net i).tokens + total (channel_at net i).made (e (channel_at net i).source) = rw into at was in
      let moved : slice_index new i + total (channel_at net i).taken (s a + n) ≡ slice_index old i + total (channel_at net i).taken (s a) = takes.taken i place into in
      rw (into, counts.here) (moved ∙ before))
      (λ (away : (channel_at net i).target ≢ a).
      rw (counts.others (channel_at net i).target away, takes.others i place away) (level.each i place))
      (cases_eq (channel_at net i).target a);
}

pub level-puts : (net : Net) (a n : ℕ) (s e more : ℕ → ℕ) (old new : List ℕ) → IsLevel net s e old → PutsTokens net a (e a) n old new → length new ≡ length old → MoreBy a n e more → IsLevel net s more new
level-puts net a n s e more old new level puts long counts = record {
  long = long ∙ level.long;
  each = λ i place. ⊎_elim
      (λ (from : (channel_at net i).source ≡ a).
      let was : slice_index old i + total (channel_at net i).taken (s (channel_at net i).target) ≡ (channel_at net i).tokens + total (channel_at net i).made (e (channel_at net i).source) = level.each i place in
      let before : slice_index old i + total (channel_at net i).taken (s (channel_at net i).target) ≡ (channel_at net i).tokens + total (channel_at net i).made (e a) = rw from at was in
      let moved : slice_index new i + total (channel_at net i).made (e a) ≡ slice_index old i + total (channel_at net i).made (e a + n) = puts.made i place from in
      rw (from, counts.here) (omega arith))
      (λ (away : (channel_at net i).source ≢ a).
      rw (counts.others (channel_at net i).source away, puts.others i place away) (level.each i place))
      (cases_eq (channel_at net i).source a);
}

-- a channel that has fewer tokens than a firing takes makes the firing need one that hasn't ended
pub level-needs : (net : Net) (s e : ℕ → ℕ) (tokens : List ℕ) (a i : ℕ) → IsLevel net s e tokens → LacksNow net tokens a (s a) i → Needs (channel_at net i) (s a) (e (channel_at net i).source)
level-needs net s e tokens a i level lacks =
    let was : slice_index tokens i + total (channel_at net i).taken (s (channel_at net i).target) ≡ (channel_at net i).tokens + total (channel_at net i).made (e (channel_at net i).source) = level.each i lacks.place in
    let here : slice_index tokens i + total (channel_at net i).taken (s a) ≡ (channel_at net i).tokens + total (channel_at net i).made (e (channel_at net i).source) = rw lacks.into at was in
    let more : total (channel_at net i).taken (s a + 1) ≡ total (channel_at net i).taken (s a) + phase_entry (channel_at net i).taken (s a) = total-more (channel_at net i).taken (s a) in
    let short : slice_index tokens i < phase_entry (channel_at net i).taken (s a) = lacks.short in
    omega arith

-- a channel with tokens enough feeds the next firing
pub level-feeds : (net : Net) (s e : ℕ → ℕ) (tokens : List ℕ) (a i : ℕ) → IsLevel net s e tokens → i < length net.channels → (channel_at net i).target ≡ a → phase_entry (channel_at net i).taken (s a) ≤ slice_index tokens i →
    total (channel_at net i).taken (s a + 1) ≤ (channel_at net i).tokens + total (channel_at net i).made (e (channel_at net i).source)
level-feeds net s e tokens a i level place into enough =
    let was : slice_index tokens i + total (channel_at net i).taken (s (channel_at net i).target) ≡ (channel_at net i).tokens + total (channel_at net i).made (e (channel_at net i).source) = level.each i place in
    let here : slice_index tokens i + total (channel_at net i).taken (s a) ≡ (channel_at net i).tokens + total (channel_at net i).made (e (channel_at net i).source) = rw into at was in
    let more : total (channel_at net i).taken (s a + 1) ≡ total (channel_at net i).taken (s a) + phase_entry (channel_at net i).taken (s a) = total-more (channel_at net i).taken (s a) in
    omega arith

-- tokens stay few
pub level-small : (net : Net) (s e : ℕ → ℕ) (tokens : List ℕ) (most i : ℕ) → Lawful net → IsLevel net s e tokens → i < length net.channels → e (channel_at net i).source ≤ most →
    slice_index tokens i ≤ 2000000000 + most * 1000000
level-small net s e tokens most i laws level place few =
    let was : slice_index tokens i + total (channel_at net i).taken (s (channel_at net i).target) ≡ (channel_at net i).tokens + total (channel_at net i).made (e (channel_at net i).source) = level.each i place in
    let made : total (channel_at net i).made (e (channel_at net i).source) ≤ e (channel_at net i).source * 1000000 = total-bound (channel_at net i).made 1000000 (e (channel_at net i).source) (λ p. laws.small_made i p place) in
    let start : (channel_at net i).tokens ≤ 2000000000 = laws.few_tokens i place in
    omega arith

pub more-set : (counts : List ℕ) (a n : ℕ) → a < length counts → MoreBy a n (slice_index counts) (slice_index (set counts a (slice_index counts a + n)))
more-set counts a n below = record {
  here = get_or-set_same counts a (slice_index counts a + n) 0 below;
  others = λ b away. get_or-set_other counts a b (slice_index counts a + n) 0 away;
}

-- ---- whole lists of channels

pub takes-done : (net : Net) (a k n : ℕ) (xs old new : List ℕ) (done : ℕ) → IsListed net Taken a xs → done ≡ length xs → TakesSoFar net k n xs old new done → TakesTokens net a k n old new
takes-done net a k n xs old new done listed whole so_far = takes-all net a k n xs old new listed (subst (TakesSoFar net k n xs old new) whole so_far)

pub puts-done : (net : Net) (a k n : ℕ) (xs old new : List ℕ) (done : ℕ) → IsListed net Made a xs → done ≡ length xs → PutsSoFar net k n xs old new done → PutsTokens net a k n old new
puts-done net a k n xs old new done listed whole so_far = puts-all net a k n xs old new listed (subst (PutsSoFar net k n xs old new) whole so_far)
