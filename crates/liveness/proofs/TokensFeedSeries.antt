-- Enough tokens feed a series: firings of one actor that follow each other.
use Rattle.std.proofs.Common.{◌≡◌, ◌≢◌, ℕ, zero, suc, ◌+◌, ◌-◌, ◌*◌, ◌≤◌, ◌<◌, ◌^◌, List, [], ◌∷◌, ◌++◌, length, set, replicate, sum, ⊎_elim, subst, sym, refl, ap, ◌∙◌, arith, mul-le-mul_left}
use Rattle.std.specs.Prelude.{slice_index}
use Rattle.std.proofs.lemmas.Bool.{cases_lt, cases_eq}
use Rattle.std.proofs.lemmas.List.{length-set, append-nil, append_assoc, replicate_more}
use Rattle.std.proofs.lemmas.List.Sums.{get_or-le-sum_by}
use Rattle.std.proofs.Math.Nat.{mul-le-mul_right}
use Rattle.sd_base.specs.Net.{Channel, Net, channel_at, phase_entry, total}
use Rattle.sd_base.specs.Untimed.{none_fired, one_more, CanFire, Fires, counts_after}
use Rattle.sd_base.specs.Lawful.{Lawful}
use Rattle.sd_base.specs.Schedules.{phases_at}
use Rattle.sd_base.proofs.SumsRepeatByTurns.{total-zero, total-le, total-more}
use Rattle.sd_base.proofs.LawfulIsRegular.{balanced}
use Rattle.sd_base.proofs.ClosedCountsBoundRuns.{run-within, bump-same, bump-other}
use Rattle.sd_base.proofs.FiringOrdersEnd.{left_of, sum_to-lt, fires-push, after-push}
use Rattle.firing.specs.declared.sums.Port.TheVariants.{Taken}
use Rattle.firing.specs.Wiring.{IsListed, IsFirstLack, TakesTokens, PutsTokens, IsLevel}
use Rattle.firing.proofs.PlacesAreListed.{place_of}
use Rattle.firing.proofs.TokenMoves.{MoreBy, more-set, span-one, level-takes, level-puts, level-needs, level-small}
use Rattle.liveness.specs.inside.UntimedRuns.{IsRun, IsStopped}
use Rattle.liveness.specs.inside.Series.{more_of, EndsSeries, Feeds, FeedsSeries, GivesBack}

more-here : (v : ℕ → ℕ) (a k : ℕ) → more_of v a k a ≡ v a + k
more-here v a k = rw (Rattle.std.proofs.Common.eq-eqb a a refl) refl

more-other : (v : ℕ → ℕ) (a k b : ℕ) → b ≢ a → more_of v a k b ≡ v b
more-other v a k b apart = rw (Rattle.std.proofs.Common.ne_eqb b a apart) refl

-- ---- what one channel feeds

pub feeds-fewer : (c : Channel) (tokens from m n : ℕ) → m ≤ n → Feeds c tokens from n → Feeds c tokens from m
feeds-fewer c tokens from m n le feeds = record { own = λ same k h. feeds.own same k (omega arith); other = λ apart k h. feeds.other apart k (omega arith) }

pub feeds-one : (c : Channel) (tokens from : ℕ) → phase_entry c.taken from ≤ tokens → Feeds c tokens from 1
feeds-one c tokens from enough = record {
  own = λ same k h.
      let here : from + k ≡ from = omega arith in
      let next : from + (k + 1) ≡ from + 1 = omega arith in
      rw (here, next) (omega (arith, taken));
  other = λ apart k h. let next : from + (k + 1) ≡ from + 1 = omega arith in rw next taken;
}
  where
    taken : total c.taken (from + 1) ≤ tokens + total c.taken from
    taken = omega (arith, total-more c.taken from, enough)

-- as many as the tokens are enough for
pub feeds-share : (c : Channel) (tokens from n rate : ℕ) → length c.taken ≡ 1 → rate ≡ slice_index c.taken 0 → n * rate ≤ tokens → Feeds c tokens from n
feeds-share c tokens from n rate single here enough = record {
  own = λ same k h.
      let made : total c.made from ≤ total c.made (from + k) = total-le c.made (omega arith) in
      omega (arith, taken k h, made);
  other = λ apart k h. taken k h;
}
  where
    taken : (k : ℕ) → k < n → total c.taken (from + (k + 1)) ≤ tokens + total c.taken from
    taken k h =
        let sum : total c.taken from + (k + 1) * rate ≡ total c.taken (from + (k + 1)) = span-one c.taken from (k + 1) 1 rate (sym single) refl here in
        let few : (k + 1) * rate ≤ n * rate = mul-le-mul_right rate (omega arith) in
        omega (arith, sum, few, enough)

-- a self-loop gives each firing what the one before it put there
pub feeds-own : (c : Channel) (tokens from n rate : ℕ) → length c.taken ≡ 1 → rate ≡ slice_index c.taken 0 → GivesBack c rate → rate ≤ tokens → Feeds c tokens from n
feeds-own c tokens from n rate single here gives enough = record {
  own = λ same k h.
      let takes : total c.taken from + (k + 1) * rate ≡ total c.taken (from + (k + 1)) = span-one c.taken from (k + 1) 1 rate (sym single) refl here in
      let makes : total c.made from + k * slice_index c.made 0 ≡ total c.made (from + k) = span-one c.made from k 1 (slice_index c.made 0) (sym gives.single) refl refl in
      let less : k * rate ≤ k * slice_index c.made 0 = mul-le-mul_left k gives.back in
      omega (arith, takes, makes, less, enough);
  other = λ apart. absurd (apart gives.loops);
}

-- tokens for fewer than n + 1 firings
pub ends-short : (c : Channel) (tokens from n rate : ℕ) → length c.taken ≡ 1 → rate ≡ slice_index c.taken 0 → tokens < (n + 1) * rate → tokens + total c.taken from < total c.taken (from + (n + 1))
ends-short c tokens from n rate single here few =
    let takes : total c.taken from + (n + 1) * rate ≡ total c.taken (from + (n + 1)) = span-one c.taken from (n + 1) 1 rate (sym single) refl here in
    omega (arith, takes, few)

-- the channels before a place of the list feed them, and so do all
pub series-all : (net : Net) (xs tokens : List ℕ) (a from n done : ℕ) → IsListed net Taken a xs → length xs ≤ done →
    ((j : ℕ) → j < done → Feeds (channel_at net (slice_index xs j)) (slice_index tokens (slice_index xs j)) from n) → FeedsSeries net tokens a from n
series-all net xs tokens a from n done listed past so_far i place into =
    let found = place_of net Taken a xs listed i place into in
    let same : slice_index xs found.0 ≡ i = found.2 in
    let before : found.0 < done = omega (arith, found.1) in
    subst (λ (x : ℕ). Feeds (channel_at net x) (slice_index tokens x) from n) same (so_far found.0 before)

pub series-more : (order : List ℕ) (a k : ℕ) → (order ++ replicate k a) ++ a ∷ [] ≡ order ++ replicate (k + 1) a
series-more order a k = append_assoc order (replicate k a) (a ∷ []) ∙ ap (λ (xs : List ℕ). order ++ xs) (replicate_more k a)

-- ---- a series of firings

module _ (net : Net) (laws : Lawful net) (counts tokens order : List ℕ) (run : IsRun net counts tokens order) where
  count-small : (b : ℕ) → b < length net.times → slice_index counts b ≤ 100000
  count-small b place =
      let inside : counts_after none_fired order b ≤ slice_index net.round b = run-within net order none_fired run.fires (λ x is. omega arith) b place in
      let part : slice_index net.round b ≤ sum net.round = get_or-le-sum_by (λ (x : ℕ). x) net.round b 0 (rw (← (balanced net laws).actors) at place) in
      omega (arith, run.reached b place, laws.small_round)

  tokens-few : (i : ℕ) → i < length net.channels → slice_index tokens i ≤ 2000000000 + 100000 * 1000000
  tokens-few i place = level-small net (slice_index counts) (slice_index counts) tokens 100000 i laws run.level place (count-small (channel_at net i).source (laws.sources i place))

  pub tokens-narrow : (i : ℕ) → i < length net.channels → slice_index tokens i < 2 ^ 64
  tokens-narrow i place = omega (arith, tokens-few i place)

  pub tokens-small : (i : ℕ) → i < length net.channels → slice_index tokens i ≤ 2 ^ 100
  tokens-small i place = omega (arith, tokens-few i place)

module _ (net : Net) (laws : Lawful net) (counts tokens order : List ℕ) (a n : ℕ) (run : IsRun net counts tokens order) (actor : a < length net.times) (within : slice_index counts a + n ≤ slice_index net.round a)
    (feeds : FeedsSeries net tokens a (slice_index counts a) n) where
  can-next : (k : ℕ) → k < n → CanFire net (more_of (slice_index counts) a k) a
  can-next k h i place into = ⊎_elim
      (λ (loops : (channel_at net i).source ≡ (channel_at net i).target).
      let fed : total (channel_at net i).taken (slice_index counts a + (k + 1)) + total (channel_at net i).made (slice_index counts a) ≤ slice_index tokens i + total (channel_at net i).taken (slice_index counts a) + total (channel_at net i).made (slice_index counts a + k) =
      (feeds i place into).own loops k h in
      let from : (channel_at net i).source ≡ a = loops ∙ into in
      let level : slice_index tokens i + total (channel_at net i).taken (slice_index counts a) ≡ (channel_at net i).tokens + total (channel_at net i).made (slice_index counts a) = rw (into, from) at (run.level.each i place) in
      let e : slice_index counts a + k + 1 ≡ slice_index counts a + (k + 1) = omega arith in
      rw (from, more-here, e) (omega (arith, fed, level)))
      (λ (apart : (channel_at net i).source ≢ (channel_at net i).target).
      let fed : total (channel_at net i).taken (slice_index counts a + (k + 1)) ≤ slice_index tokens i + total (channel_at net i).taken (slice_index counts a) = (feeds i place into).other apart k h in
      let level : slice_index tokens i + total (channel_at net i).taken (slice_index counts a) ≡ (channel_at net i).tokens + total (channel_at net i).made (slice_index counts (channel_at net i).source) = rw into at (run.level.each i place) in
      let away : (channel_at net i).source ≢ a = λ same. apart (same ∙ sym into) in
      let e : slice_index counts a + k + 1 ≡ slice_index counts a + (k + 1) = omega arith in
      rw (more-other (slice_index counts) a k (channel_at net i).source away, more-here, e) (omega (arith, fed, level)))
      (cases_eq (channel_at net i).source (channel_at net i).target)

  abbrev Follows : ℕ → Type 0
  Follows m = Fires net none_fired (order ++ replicate m a) × ((b : ℕ) → b < length net.times → counts_after none_fired (order ++ replicate m a) b ≡ more_of (slice_index counts) a m b)

  more-none : (b : ℕ) → more_of (slice_index counts) a 0 b ≡ slice_index counts b
  more-none b = ⊎_elim
      (λ (same : b ≡ a). rw same (more-here (slice_index counts) a 0 ∙ omega arith))
      (λ (away : b ≢ a). more-other (slice_index counts) a 0 b away)
      (cases_eq b a)

  more-next : (m b : ℕ) (w : ℕ → ℕ) → ((b : ℕ) → b < length net.times → w b ≡ more_of (slice_index counts) a m b) → b < length net.times → one_more w a b ≡ more_of (slice_index counts) a (m + 1) b
  more-next m b w is place = ⊎_elim
      (λ (same : b ≡ a).
      let next : slice_index counts a + m + 1 ≡ slice_index counts a + (m + 1) = omega arith in
      subst (λ (x : ℕ). one_more w a x ≡ more_of (slice_index counts) a (m + 1) x) (sym same)
      (bump-same w a ∙ (ap (λ (x : ℕ). x + 1) (is a actor ∙ more-here (slice_index counts) a m) ∙ (next ∙ sym (more-here (slice_index counts) a (m + 1))))))
      (λ (away : b ≢ a). bump-other w a b away ∙ (is b place ∙ (more-other (slice_index counts) a m b away ∙ sym (more-other (slice_index counts) a (m + 1) b away))))
      (cases_eq b a)

  follows : (m : ℕ) → m ≤ n → Follows m
  follows zero h =
      let nothing : order ++ replicate 0 a ≡ order = append-nil order in
      subst (λ (xs : List ℕ). Fires net none_fired xs × ((b : ℕ) → b < length net.times → counts_after none_fired xs b ≡ more_of (slice_index counts) a 0 b)) (sym nothing)
      (run.fires, λ b is. run.reached b is ∙ sym (more-none b))
  follows (suc m) h =
      let so_far : Follows m = follows m (omega arith) in
      let counts_now : (b : ℕ) → b < length net.times → counts_after none_fired (order ++ replicate m a) b ≡ more_of (slice_index counts) a m b = so_far.1 in
      let one : m + 1 ≡ suc m = omega arith in
      let longer : order ++ replicate (suc m) a ≡ (order ++ replicate m a) ++ a ∷ [] = sym (series-more order a m ∙ ap (λ (k : ℕ). order ++ replicate k a) one) in
      let here : counts_after none_fired (order ++ replicate m a) a ≡ slice_index counts a + m = counts_now a actor ∙ more-here (slice_index counts) a m in
      let less : counts_after none_fired (order ++ replicate m a) a < slice_index net.round a = omega (arith, here, within) in
      let can : CanFire net (counts_after none_fired (order ++ replicate m a)) a = λ i place into. rw (counts_now a actor, counts_now (channel_at net i).source (laws.sources i place)) (can-next m (omega arith) i place into) in
      subst (λ (xs : List ℕ). Fires net none_fired xs × ((b : ℕ) → b < length net.times → counts_after none_fired xs b ≡ more_of (slice_index counts) a (suc m) b)) (sym longer) (
        fires-push net (order ++ replicate m a) none_fired a so_far.0 actor less can,
        λ b is. after-push (order ++ replicate m a) none_fired a b ∙ (more-next m b (counts_after none_fired (order ++ replicate m a)) counts_now is ∙ ap (λ (k : ℕ). more_of (slice_index counts) a k b) one),
      )

  by : MoreBy a n (slice_index counts) (slice_index (set counts a (slice_index counts a + n)))
  by = more-set counts a n (rw run.actors actor)

  more-counts : (b : ℕ) → more_of (slice_index counts) a n b ≡ slice_index (set counts a (slice_index counts a + n)) b
  more-counts b = ⊎_elim
      (λ (same : b ≡ a). rw same (more-here (slice_index counts) a n ∙ sym by.here))
      (λ (away : b ≢ a). more-other (slice_index counts) a n b away ∙ sym (by.others b away))
      (cases_eq b a)

  module _ (mid : List ℕ) (puts : PutsTokens net a (slice_index counts a) n tokens mid) where
    pub series-enough : 0 < n → (i : ℕ) → i < length net.channels → (channel_at net i).target ≡ a →
        total (channel_at net i).taken (slice_index counts a + n) ≤ slice_index mid i + total (channel_at net i).taken (slice_index counts a)
    series-enough some i place into = ⊎_elim
        (λ (loops : (channel_at net i).source ≡ (channel_at net i).target).
        let last : n - 1 + 1 ≡ n = omega arith in
        let fed : total (channel_at net i).taken (slice_index counts a + n) + total (channel_at net i).made (slice_index counts a) ≤ slice_index tokens i + total (channel_at net i).taken (slice_index counts a) + total (channel_at net i).made (slice_index counts a + (n - 1)) =
        rw last at ((feeds i place into).own loops (n - 1) (omega arith)) in
        let more : total (channel_at net i).made (slice_index counts a + (n - 1)) ≤ total (channel_at net i).made (slice_index counts a + n) = total-le (channel_at net i).made (omega arith) in
        let put : slice_index mid i + total (channel_at net i).made (slice_index counts a) ≡ slice_index tokens i + total (channel_at net i).made (slice_index counts a + n) = puts.made i place (loops ∙ into) in
        omega (arith, fed, more, put))
        (λ (apart : (channel_at net i).source ≢ (channel_at net i).target).
        let last : n - 1 + 1 ≡ n = omega arith in
        let fed : total (channel_at net i).taken (slice_index counts a + n) ≤ slice_index tokens i + total (channel_at net i).taken (slice_index counts a) = rw last at ((feeds i place into).other apart (n - 1) (omega arith)) in
        let same : slice_index mid i ≡ slice_index tokens i = puts.others i place (λ from. apart (from ∙ sym into)) in
        omega (arith, fed, same))
        (cases_eq (channel_at net i).source (channel_at net i).target)

    pub series-run : (new : List ℕ) → TakesTokens net a (slice_index counts a) n mid new → length mid ≡ length tokens → length new ≡ length mid →
        IsRun net (set counts a (slice_index counts a + n)) new (order ++ replicate n a)
    series-run new takes long longer = record {
      actors = length-set counts a (slice_index counts a + n) ∙ run.actors;
      fires = (follows n (omega arith)).0;
      reached = λ b is. (follows n (omega arith)).1 b is ∙ more-counts b;
      level = level-takes net a n (slice_index counts) (slice_index (set counts a (slice_index counts a + n))) (slice_index (set counts a (slice_index counts a + n))) mid new
          (level-puts net a n (slice_index counts) (slice_index counts) (slice_index (set counts a (slice_index counts a + n))) tokens mid run.level puts long by) takes longer by;
    }

  pub series-less : 0 < n → left_of net (slice_index (set counts a (slice_index counts a + n))) < left_of net (slice_index counts)
  unfolding left_of
  series-less some = sum_to-lt (λ (b : ℕ). slice_index net.round b - slice_index (set counts a (slice_index counts a + n)) b) (λ (b : ℕ). slice_index net.round b - slice_index counts b) (length net.times) a each actor (omega (arith, by.here, within))
    where
      each : (b : ℕ) → b < length net.times → slice_index net.round b - slice_index (set counts a (slice_index counts a + n)) b ≤ slice_index net.round b - slice_index counts b
      each b h = ⊎_elim (λ (same : b ≡ a). rw (same, by.here) (omega arith)) (λ (apart : b ≢ a). omega (arith, by.others b apart)) (cases_eq b a)

-- an actor that has fired a whole series is stopped
pub stopped-series : (net : Net) (counts tokens : List ℕ) (w : ℕ → ℕ) (a n : ℕ) → IsLevel net (slice_index counts) (slice_index counts) tokens → MoreBy a n (slice_index counts) w →
    (w a < slice_index net.round a → EndsSeries net tokens a (slice_index counts a) n) → IsStopped net w a
stopped-series net counts tokens w a n level by ends less =
    let end : EndsSeries net tokens a (slice_index counts a) n = ends less in
    let was : slice_index tokens end.channel + total (channel_at net end.channel).taken (slice_index counts a) ≡ (channel_at net end.channel).tokens + total (channel_at net end.channel).made (slice_index counts (channel_at net end.channel).source) = rw end.into at (level.each end.channel end.place) in
    let same : w (channel_at net end.channel).source ≡ slice_index counts (channel_at net end.channel).source = ⊎_elim
    (λ (own : (channel_at net end.channel).source ≡ a). ⊎_elim
    (λ (some : 0 < n). absurd (end.apart some own))
    (λ (none : n ≤ 0). rw own (rw by.here (omega arith)))
    (cases_lt 0 n))
    (λ (other : (channel_at net end.channel).source ≢ a). by.others (channel_at net end.channel).source other)
    (cases_eq (channel_at net end.channel).source a) in
    let next : slice_index counts a + n + 1 ≡ slice_index counts a + (n + 1) = omega arith in
    (end.channel, end.place, end.into, rw (same, by.here, next) (omega (arith, was, end.short)))

-- the same where it lacks tokens for its next firing
pub stopped-lack : (net : Net) (counts tokens : List ℕ) (a i : ℕ) → IsLevel net (slice_index counts) (slice_index counts) tokens → IsFirstLack net tokens a (slice_index counts a) i → IsStopped net (slice_index counts) a
stopped-lack net counts tokens a i level lack less =
    (i, lack.lacks.place, lack.lacks.into, level-needs net (slice_index counts) (slice_index counts) tokens a i level lack.lacks)

-- ---- channels of an actor of one phase

module _ (net : Net) (laws : Lawful net) (i : ℕ) (place : i < length net.channels) where
  pub taken-single : (a : ℕ) → (channel_at net i).target ≡ a → phases_at net a ≡ 1 → length (channel_at net i).taken ≡ 1
  taken-single a into single = laws.taken_phases i place ∙ (ap (phases_at net) into ∙ single)

  pub made-single : (a : ℕ) → (channel_at net i).source ≡ a → phases_at net a ≡ 1 → length (channel_at net i).made ≡ 1
  made-single a from single = laws.made_phases i place ∙ (ap (phases_at net) from ∙ single)

  -- what a series puts and takes
  pub made-series : (a from n all rate : ℕ) → (channel_at net i).source ≡ a → phases_at net a ≡ 1 → rate ≡ slice_index (channel_at net i).made 0 → all ≡ n * rate → total (channel_at net i).made from + all ≡ total (channel_at net i).made (from + n)
  made-series a from n all rate out single here sum = rw sum (span-one (channel_at net i).made from n 1 rate (sym (made-single a out single)) refl here)

  pub taken-series : (a from n all rate : ℕ) → (channel_at net i).target ≡ a → phases_at net a ≡ 1 → rate ≡ slice_index (channel_at net i).taken 0 → all ≡ n * rate → total (channel_at net i).taken from + all ≡ total (channel_at net i).taken (from + n)
  taken-series a from n all rate into single here sum = rw sum (span-one (channel_at net i).taken from n 1 rate (sym (taken-single a into single)) refl here)

  -- on a self-loop each firing puts what it takes
  pub gives-back : (rate : ℕ) → (channel_at net i).source ≡ (channel_at net i).target → length (channel_at net i).taken ≡ 1 → rate ≡ slice_index (channel_at net i).taken 0 → GivesBack (channel_at net i) rate
  gives-back rate loops single here = record { loops = loops; single = one; back = back }
    where
      phases : phases_at net (channel_at net i).target ≡ 1
      phases = sym (laws.taken_phases i place) ∙ single

      one : length (channel_at net i).made ≡ 1
      one = made-single (channel_at net i).target loops phases

      back : rate ≤ slice_index (channel_at net i).made 0
      back =
          let some : 1 ≤ slice_index net.round (channel_at net i).target = (balanced net laws).fires (channel_at net i).target (laws.targets i place) in
          let kept : total (channel_at net i).made (slice_index net.round (channel_at net i).target) ≡ total (channel_at net i).taken (slice_index net.round (channel_at net i).target) = rw loops at ((balanced net laws).kept i place) in
          let makes : total (channel_at net i).made 0 + slice_index net.round (channel_at net i).target * slice_index (channel_at net i).made 0 ≡ total (channel_at net i).made (0 + slice_index net.round (channel_at net i).target) =
          span-one (channel_at net i).made 0 (slice_index net.round (channel_at net i).target) 1 (slice_index (channel_at net i).made 0) (sym one) refl refl in
          let takes : total (channel_at net i).taken 0 + slice_index net.round (channel_at net i).target * rate ≡ total (channel_at net i).taken (0 + slice_index net.round (channel_at net i).target) =
          span-one (channel_at net i).taken 0 (slice_index net.round (channel_at net i).target) 1 rate (sym single) refl here in
          let none : 0 + slice_index net.round (channel_at net i).target ≡ slice_index net.round (channel_at net i).target = omega arith in
          let level : slice_index net.round (channel_at net i).target * slice_index (channel_at net i).made 0 ≡ slice_index net.round (channel_at net i).target * rate =
          omega (arith, total-zero (channel_at net i).made, total-zero (channel_at net i).taken, kept, rw none at makes, rw none at takes) in
          ⊎_elim
          (λ (less : slice_index (channel_at net i).made 0 < rate). absurd (
          let more : slice_index net.round (channel_at net i).target * (slice_index (channel_at net i).made 0 + 1) ≤ slice_index net.round (channel_at net i).target * rate = mul-le-mul_left (slice_index net.round (channel_at net i).target) (omega arith) in
          omega (arith, some, level, more)))
          (λ (enough : rate ≤ slice_index (channel_at net i).made 0). enough)
          (cases_lt (slice_index (channel_at net i).made 0) rate)
