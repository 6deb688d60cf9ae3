-- Round a loop, and between any moments with equal shapes, each actor starts whole rounds; at least one where a firing ends.
use Rattle.std.proofs.Common.{◌≡◌, ℕ, suc, ◌+◌, ◌*◌, ◌≤◌, ◌<◌, length, inl, inr, ⊎_elim, sym, ap, arith}
use Rattle.std.specs.Prelude.{slice_index}
use Rattle.std.proofs.lemmas.Bool.{cases_lt}
use Rattle.std.proofs.lemmas.List.{get_or_past}
use Rattle.sd_base.specs.Net.{Net}
use Rattle.sd_base.specs.Schedules.{count_of, start_of, end_of, HasInputs}
use Rattle.sd_base.specs.SelfTimed.{earliest, IsEvent, shape_at}
use Rattle.sd_base.specs.Lawful.{Lawful}
use Rattle.sd_base.specs.Rates.{IsLoop}
use Rattle.sd_base.specs.Futures.{Repeats}
use Rattle.sd_base.specs.Connection.{IsConnected}
use Rattle.sd_base.proofs.LawfulIsRegular.{regular, balanced}
use Rattle.sd_base.proofs.EndsDecideCounts.{early_at, ended_at, ended-at-is, ended-by-is, ended-same, past_none}
use Rattle.sd_base.proofs.StartsMeetEnds.{earliest-within}
use Rattle.sd_base.proofs.EqualShapesRepeat.{Alike, since-then, same-alike, since-whole, equal-futures}
use Rattle.sd_base.proofs.WholeTurnsAreRounds.{rounds_in, whole_rounds}

repeats-along : (net : Net) (r t : ℕ) (v w : ℕ → ℕ) → ((a : ℕ) → v a ≡ w a) → Repeats net r t v → Repeats net r t w
repeats-along net r t v w same again = record {
  counts = λ d a. rw (sym (same a)) (again.counts d a);
  starts = λ d a k there late. rw (sym (same a)) (again.starts d a k there late);
  events = again.events;
  shapes = again.shapes;
}

-- the first counts decide by how much each actor is further on
pub repeats-by : (net : Net) (r t : ℕ) (v w : ℕ → ℕ) → ((a : ℕ) → count_of (earliest net (t + 1)) a ≡ count_of (earliest net (r + 1)) a + w a) → Repeats net r t v → Repeats net r t w
repeats-by net r t v w counts again = repeats-along net r t v w same again
  where
    same : (a : ℕ) → v a ≡ w a
    same a =
        let here : r + 0 + 1 ≡ r + 1 = omega arith in
        let there : t + 0 + 1 ≡ t + 1 = omega arith in
        let first : count_of (earliest net (t + 0 + 1)) a ≡ count_of (earliest net (r + 0 + 1)) a + v a = again.counts 0 a in
        let mine : count_of (earliest net (t + 1)) a ≡ count_of (earliest net (r + 1)) a + v a = rw here at (rw there at first) in
        omega (arith, counts a)

module _ (net : Net) (laws : Lawful net) (fed : HasInputs net) (r t : ℕ) (later : r < t) (same : shape_at net r ≡ shape_at net t) where
  since : ℕ → ℕ
  since = since-then net (regular net laws) fed r t later same

  alike : Alike net (regular net laws) fed since (ended_at net r) r t
  unfolding since
  alike = same-alike net (regular net laws) fed r t later same

  -- the firing that ends at the later moment is one more than had ended by the earlier one
  ends-more : (a k : ℕ) → k < count_of (earliest net t) a → end_of net (earliest net t) a k ≡ t → 1 ≤ since a
  ends-more a k there ends = ⊎_elim
      (λ (none : since a < 1). absurd (
      let now : k < ended_at net t a = ⊎_elim
      (λ (h : k < ended_at net t a). h)
      (λ (past : ended_at net t a ≤ k). absurd (
      let going : t < end_of net (earliest net t) a k = (ended-by-is net (regular net laws) fed t a).going k (omega (arith, ended-same net (regular net laws) fed t a)) there in omega (arith, ends)))
      (cases_lt k (ended_at net t a)) in
      let before : k < ended_at net r a = omega (arith, alike.ended a) in
      let within : ended_at net r a ≤ count_of (earliest net (suc r)) a = (ended-at-is net (regular net laws) fed r a).within in
      let done : end_of net (earliest net (suc r)) a k ≤ r = (ended-at-is net (regular net laws) fed r a).done k before in
      let kept : start_of (earliest net t) a k ≡ start_of (earliest net (suc r)) a k =
      (earliest-within net (suc r) t (earliest net (suc r)) (earliest net t) (early_at net (regular net laws) fed (suc r)) (early_at net (regular net laws) fed t) (omega arith) a k (omega arith)).1 in
      omega (arith, ends)))
      (λ (h : 1 ≤ since a). h) (cases_lt (since a) 1)

  module _ (connected : IsConnected net) where
    pub rounds : ℕ
    unfolding since
    rounds = rounds_in net laws connected since (since-whole net (regular net laws) fed r t later same)

    since-rounds : (a : ℕ) → a < length net.times → since a ≡ rounds * slice_index net.round a
    unfolding since rounds
    since-rounds = whole_rounds net laws connected since (since-whole net (regular net laws) fed r t later same)

    since-all : (a : ℕ) → since a ≡ rounds * slice_index net.round a
    since-all a = ⊎_elim
        (λ (actor : a < length net.times). since-rounds a actor)
        (λ (past : length net.times ≤ a).
        let no_round : slice_index net.round a ≡ 0 = get_or_past net.round a 0 (omega (arith, (balanced net laws).actors)) in
        let nothing : rounds * slice_index net.round a ≡ rounds * 0 = ap (λ (x : ℕ). rounds * x) no_round in
        omega (arith, alike.counts a, past_none net (regular net laws) fed (suc t) a past))
        (cases_lt a (length net.times))

    pub repeats-rounds : Repeats net r t (λ a. rounds * slice_index net.round a)
    unfolding since
    repeats-rounds = repeats-along net r t since (λ a. rounds * slice_index net.round a) since-all (equal-futures net (regular net laws) fed r t later same)

    some-rounds : (a : ℕ) → 1 ≤ since a → 1 ≤ rounds
    some-rounds a some = ⊎_elim
        (λ (none : rounds < 1). absurd (
        let zero_here : rounds ≡ 0 = omega arith in
        let nothing : rounds * slice_index net.round a ≡ 0 * slice_index net.round a = ap (λ (x : ℕ). x * slice_index net.round a) zero_here in
        omega (arith, since-all a)))
        (λ (h : 1 ≤ rounds). h) (cases_lt rounds 1)

    pub at-least_one : IsEvent net t → 1 ≤ rounds
    at-least_one (inl first) = absurd (omega arith)
    at-least_one (inr (a, k, there, ends)) = some-rounds a (ends-more a k there ends)

-- round a loop each actor starts one whole number of rounds, at least 1
pub loop-whole : (net : Net) (entry period : ℕ) → Lawful net → HasInputs net → IsConnected net → IsLoop net entry period →
    (n : ℕ) × (1 ≤ n) × ((a : ℕ) → count_of (earliest net (entry + period + 1)) a ≡ count_of (earliest net (entry + 1)) a + n * slice_index net.round a)
loop-whole net entry period laws fed connected loop = (rounds_of, at-least_one net laws fed entry (entry + period) later loop.same connected loop.repeats, counts)
  where
    later : entry < entry + period
    later = omega (arith, loop.passes)

    rounds_of : ℕ
    rounds_of = rounds net laws fed entry (entry + period) later loop.same connected

    counts : (a : ℕ) → count_of (earliest net (entry + period + 1)) a ≡ count_of (earliest net (entry + 1)) a + rounds_of * slice_index net.round a
    counts a =
        let here : entry + 0 + 1 ≡ entry + 1 = omega arith in
        let there : entry + period + 0 + 1 ≡ entry + period + 1 = omega arith in
        let first : count_of (earliest net (entry + period + 0 + 1)) a ≡ count_of (earliest net (entry + 0 + 1)) a + rounds_of * slice_index net.round a =
        (repeats-rounds net laws fed entry (entry + period) later loop.same connected).counts 0 a in
        rw here at (rw there at first)
