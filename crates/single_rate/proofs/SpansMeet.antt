-- When tokens that are taken meet those that are made.
use Rattle.std.proofs.Common.{◌≡◌, ℕ, zero, suc, ◌+◌, ◌-◌, ◌*◌, ◌/◌, ◌≤◌, ◌<◌, ◌⊎◌, arith, ap, refl, length, ⊎_elim, Bool, true, false, Some, None}
use Rattle.std.specs.Prelude.{slice_index, cond}
use Rattle.std.specs.List.{find, range_with_len}
use Rattle.std.proofs.lemmas.Bool.{cases_lt}
use Rattle.std.proofs.lemmas.Nat.{div_below}
use Rattle.std.proofs.Math.Nat.{lt-div-mul-add}
use Rattle.sd_base.specs.Net.{Net, channel_at, total}
use Rattle.sd_base.proofs.SumsRepeatByTurns.{total-times}
use Rattle.sd_base.proofs.LawfulIsRegular.{Wired, Balanced}
use Rattle.sd_base.proofs.RoundsKeepTokens.{whole-rounds, taken-shift}
use Rattle.single_rate.specs.declared.links.Span.{Span}
use Rattle.single_rate.specs.Expansions.{takes_of, rounds_back}
use Rattle.single_rate.specs.Firings.{TakesOf}
use Rattle.single_rate.specs.inside.Parts.{IsSpan, MeetsAfter}
use Rattle.single_rate.proofs.LinkPlaces.{takes-tells, takes-from, back-within}

-- d is the first number of rounds after which the tokens that are made lie before the end of those that are taken
pub record IsFirstBack (tokens round : ℕ) (made taken : Span) (d : ℕ) : Type 0 where
  pub before : tokens + made.first < taken.end + d * round
  pub least : (e : ℕ) → tokens + made.first < taken.end + e * round → d ≤ e

pub back-none : (tokens round : ℕ) (made taken : Span) → tokens + made.first < taken.end → IsFirstBack tokens round made taken 0
back-none tokens round made taken less = record { before = omega arith; least = λ e h. omega arith }

pub back-rounds : (tokens round : ℕ) (made taken : Span) → 1 ≤ round → taken.end ≤ tokens + made.first → IsFirstBack tokens round made taken ((tokens + made.first - taken.end) / round + 1)
back-rounds tokens round made taken some more =
    let x : ℕ = tokens + made.first - taken.end in
    let whole : tokens + made.first - taken.end < (tokens + made.first - taken.end) / round * round + round = lt-div-mul-add some in
    record {
      before = omega arith;
      least = λ e h. (let below : (tokens + made.first - taken.end) / round < e = div_below (tokens + made.first - taken.end) round e some (omega arith) in omega arith);
    }

pub meets-first : (tokens round : ℕ) (made taken : Span) (d : ℕ) → made.first < made.end → taken.first < taken.end → IsFirstBack tokens round made taken d → d * round + taken.first < tokens + made.end →
    MeetsAfter tokens round made taken d × ((e : ℕ) → MeetsAfter tokens round made taken e → d ≤ e)
meets-first tokens round made taken d makes takes first after =
    (record { makes = makes; takes = takes; not_after = omega arith; not_before = first.before }, λ e meets. first.least e meets.not_before)

-- the least number that passes is found
find-is : (p : ℕ → Bool) (a n d : ℕ) → p d ≡ true → a ≤ d → d < a + n → ((e : ℕ) → p e ≡ true → d ≤ e) → find p (range_with_len a n) ≡ Some d
find-is p a zero d passes from to least = absurd (omega arith)
find-is p a (suc n) d passes from to least = at (λ (h : a + 1 ≤ d). find-is p (a + 1) n d passes h (omega arith) least) (p a) refl
  where
    at : (a + 1 ≤ d → find p (range_with_len (a + 1) n) ≡ Some d) → (b : Bool) → p a ≡ b → cond b (Some a) (find p (range_with_len (a + 1) n)) ≡ Some d
    at rest true here = let e : a ≡ d = omega (arith, least a here) in ap (λ (z : ℕ). Some z) e
    at rest false here = rest (⊎_elim (λ (h : a < d). omega arith) (λ (h : d ≤ a). absurd (let e : d ≡ a = omega arith in let yes : p a ≡ true = rw e at passes in cc)) (cases_lt a d))

find-none : (p : ℕ → Bool) (a n : ℕ) → ((e : ℕ) → p e ≡ true → ⊥) → find p (range_with_len a n) ≡ None
find-none p a zero never = refl
find-none p a (suc n) never = at (find-none p (a + 1) n never) (p a) refl
  where
    at : find p (range_with_len (a + 1) n) ≡ None → (b : Bool) → p a ≡ b → cond b (Some a) (find p (range_with_len (a + 1) n)) ≡ None
    at rest true here = absurd (never a here)
    at rest false here = rest

module _ (net : Net) (wired : Wired net) (bal : Balanced net) (x k i : ℕ) (place : x < length net.channels) (firing : k < slice_index net.round (channel_at net x).target) (copy : i < slice_index net.round (channel_at net x).source)
    (made taken : Span) (makes : IsSpan (channel_at net x).made i made) (takes : IsSpan (channel_at net x).taken k taken) (round : ℕ) (whole : round ≡ total (channel_at net x).taken (slice_index net.round (channel_at net x).target)) where
  shift : (d j : ℕ) → total (channel_at net x).taken (j + d * slice_index net.round (channel_at net x).target) ≡ total (channel_at net x).taken j + d * round
  shift d j =
      let turns = (whole-rounds net 1 wired bal).taken x place in
      let one : slice_index net.round (channel_at net x).target ≡ turns.0 * length (channel_at net x).taken = (let t : 1 * slice_index net.round (channel_at net x).target ≡ turns.0 * length (channel_at net x).taken = turns.1 in omega arith) in
      let many : total (channel_at net x).taken (d * slice_index net.round (channel_at net x).target) ≡ d * total (channel_at net x).taken (slice_index net.round (channel_at net x).target) = total-times (channel_at net x).taken (slice_index net.round (channel_at net x).target) turns.0 d one in
      let same : d * round ≡ d * total (channel_at net x).taken (slice_index net.round (channel_at net x).target) = ap (λ (z : ℕ). d * z) whole in
      omega (arith, taken-shift net (λ a. d * slice_index net.round a) (whole-rounds net d wired bal) x place j)

  after : (d : ℕ) → total (channel_at net x).taken (k + d * slice_index net.round (channel_at net x).target + 1) ≡ total (channel_at net x).taken (k + 1) + d * round
  after d = let e : k + d * slice_index net.round (channel_at net x).target + 1 ≡ (k + 1) + d * slice_index net.round (channel_at net x).target = omega arith in rw e (shift d (k + 1))

  meets-takes : (d : ℕ) → MeetsAfter (channel_at net x).tokens round made taken d → TakesOf (channel_at net x) (k + d * slice_index net.round (channel_at net x).target) i
  meets-takes d meets = record {
    takes = omega (arith, shift d k, after d, takes.first, takes.end, meets.takes);
    makes = omega (arith, makes.first, makes.end, meets.makes);
    not_after = omega (arith, shift d k, takes.first, makes.end, meets.not_after);
    not_before = omega (arith, after d, takes.end, makes.first, meets.not_before);
  }

  takes-meets : (d : ℕ) → TakesOf (channel_at net x) (k + d * slice_index net.round (channel_at net x).target) i → MeetsAfter (channel_at net x).tokens round made taken d
  takes-meets d is = record {
    takes = omega (arith, shift d k, after d, takes.first, takes.end, is.takes);
    makes = omega (arith, makes.first, makes.end, is.makes);
    not_after = omega (arith, shift d k, takes.first, makes.end, is.not_after);
    not_before = omega (arith, after d, takes.end, makes.first, is.not_before);
  }

  -- what the numbers tell is what the definition says
  pub back-is-some : (d : ℕ) → MeetsAfter (channel_at net x).tokens round made taken d × ((e : ℕ) → MeetsAfter (channel_at net x).tokens round made taken e → d ≤ e) → rounds_back net (channel_at net x) k i ≡ Some d
  unfolding rounds_back
  back-is-some d found =
      let here : TakesOf (channel_at net x) (k + d * slice_index net.round (channel_at net x).target) i = meets-takes d found.0 in
      let within : d ≤ (channel_at net x).tokens = back-within net wired bal x place k i d firing copy here in
      find-is (λ d. takes_of (channel_at net x) (k + d * slice_index net.round (channel_at net x).target) i) 0 ((channel_at net x).tokens + 1) d (takes-from (channel_at net x) (k + d * slice_index net.round (channel_at net x).target) i here) (omega arith) (omega arith)
      (λ e holds. found.1 e (takes-meets e (takes-tells (channel_at net x) (k + e * slice_index net.round (channel_at net x).target) i holds)))

  pub back-is-none : ((e : ℕ) → MeetsAfter (channel_at net x).tokens round made taken e → ⊥) → rounds_back net (channel_at net x) k i ≡ None
  unfolding rounds_back
  back-is-none never =
      find-none (λ d. takes_of (channel_at net x) (k + d * slice_index net.round (channel_at net x).target) i) 0 ((channel_at net x).tokens + 1)
      (λ e holds. never e (takes-meets e (takes-tells (channel_at net x) (k + e * slice_index net.round (channel_at net x).target) i holds)))
