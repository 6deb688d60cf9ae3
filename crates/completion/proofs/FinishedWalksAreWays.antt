-- A walk that has come to moment 0 is a way of needs that takes just as long as the rounds.
use Rattle.std.proofs.Common.{◌≡◌, ℕ, ◌≤◌, ◌<◌, length, subst, sym, refl, arith}
use Rattle.sd_base.specs.declared.limits.TheConstants.{ROUNDS}
use Rattle.completion.specs.declared.timetable.Start.{Start}
use Rattle.completion.specs.declared.timetable.Timetable.{Timetable}
use Rattle.completion.specs.declared.walk.Walk.{Walk}
use Rattle.critical.specs.declared.cycle.FiringNo.{FiringNo}
use Rattle.sd_base.specs.Net.{Net}
use Rattle.completion.specs.Ways.{EndsAt, EndsRounds, HasWay, InRounds, IsLastFiring, StartsAt, part_at}
use Rattle.completion.specs.inside.Timetables.{EndsLast, IsLastOf, IsTimetable, end_at, firing_of, moment_of}
use Rattle.completion.specs.inside.Walks.{IsWalkBack, IsWayTo}
use Rattle.completion.proofs.FiringsStartOnce.{one-start}
use Rattle.completion.proofs.TimetablesTellStarts.{moment-starts}
use Rattle.completion.proofs.TightNeedsExist.{starts}
use Rattle.completion.proofs.NeedsStayInRounds.{chain-within}
use Rattle.completion.proofs.WalkSteps.{last-within, way-few}

module _ (net : Net) (times : Timetable) (is : IsTimetable net times) (n : ℕ) (few : n ≤ ROUNDS) (last : Start) (ends_last : EndsLast net times n last) (walk : Walk) (same : walk.last ≡ last) (w : IsWalkBack net times walk) where
  is_last : IsLastOf net times n last
  is_last = ends_last.last

  -- the last firing of an actor with its start
  abbrev last_start : FiringNo → Start
  last_start y = record { actor = y.actor; number = y.number; moment = moment_of times y.actor y.number }

  last-start : (y : FiringNo) → IsLastFiring net n y → IsLastOf net times n (last_start y)
  last-start y is_y = record { start = record { actor = is_y.0; moment = refl }; number = is_y.1 }

  end-is : (y : FiringNo) (m : ℕ) → IsLastFiring net n y → EndsAt net y m → end_at net (last_start y) ≡ m
  end-is y m is_y ends =
      let from : ends.start ≡ moment_of times y.actor y.number = one-start net is.laws is.inputs y.actor y.number ends.start (moment_of times y.actor y.number) ends.starts (moment-starts net times is y.actor y.number is_y.0) in
      omega (arith, ends.takes, from)

  ends-rounds : EndsRounds net n (firing_of last)
  ends-rounds = record {
    last = (is_last.start.actor, is_last.number);
    moment = end_at net last;
    ends = record { start = last.moment; starts = starts net times is last is_last.start; takes = refl };
    latest = λ y m is_y ends. let le : end_at net (last_start y) ≤ end_at net last = ends_last.latest (last_start y) (last-start y is_y) in omega (arith, end-is y m is_y ends);
    least = λ y is_y ends. ends_last.least (last_start y) (last-start y is_y) (end-is y (end_at net last) is_y ends);
  }

  way : IsWayTo net last walk.here walk.parts.items
  way = subst (λ (x : Start). IsWayTo net x walk.here walk.parts.items) same w.way

  pub finished : walk.here.moment ≡ 0 → HasWay net n (end_at net last) walk.parts.items
  finished zero_now = record {
    from = firing_of walk.here;
    steps = way.steps;
    way = record {
      chain = way.chain;
      within = chain-within net is.laws n (firing_of walk.here) way.steps way.chain (subst (λ (x : FiringNo). InRounds net n x.actor x.number) (sym way.ends) (last-within net times is n few last is_last));
    };
    told = record {
      begins = subst (λ (m : ℕ). StartsAt net walk.here.actor walk.here.number m) zero_now (starts net times is walk.here w.here);
      tight = way.tight;
      ends = subst (EndsRounds net n) (sym way.ends) ends-rounds;
    };
    takes = omega (arith, way.time);
    counted = way.counted;
  }

  pub finished-few : (a : ℕ) → a < length walk.parts.items → (part_at walk.parts.items a).firings ≤ 1125899906842624
  finished-few a actor = omega (arith, way-few net times is n few last is_last walk.here walk.parts.items w.here way a (omega (arith, way.counted.actors)))
