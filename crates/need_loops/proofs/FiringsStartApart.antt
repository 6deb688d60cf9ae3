-- Firings that start unlike times after those some rounds before them.
use Rattle.std.proofs.Common.{◌≢◌, ℕ, ◌+◌, ◌-◌, ◌*◌, ◌≤◌, ◌<◌, length, arith}
use Rattle.std.specs.Prelude.{slice_index}
use Rattle.sd_base.specs.Net.{Net}
use Rattle.sd_base.specs.Schedules.{Schedule, count_of, start_of}
use Rattle.need_loops.specs.inside.Showing.{Differ, IsApart}

-- the last firing of actor 0 and the one so many rounds before it
pub apart-first : (net : Net) (starts : Schedule) (after rounds : ℕ) → 0 < length net.times → rounds * slice_index net.round 0 < count_of starts 0 →
    after < start_of starts 0 (count_of starts 0 - 1 - rounds * slice_index net.round 0) →
    start_of starts 0 (count_of starts 0 - 1 - rounds * slice_index net.round 0) ≤ start_of starts 0 (count_of starts 0 - 1) →
    IsApart net starts after rounds (start_of starts 0 (count_of starts 0 - 1) - start_of starts 0 (count_of starts 0 - 1 - rounds * slice_index net.round 0))
apart-first net starts after rounds actor long late order = record {
  actor = 0;
  firing = count_of starts 0 - 1;
  both = record { is_actor = actor; within = omega arith; back = omega arith; late = late };
  is = omega arith;
}

-- and another firing with the one so many rounds before it
pub differ-from : (net : Net) (starts : Schedule) (after rounds apart a j : ℕ) → IsApart net starts after rounds apart → a < length net.times → j < count_of starts a → rounds * slice_index net.round a ≤ j →
    after < start_of starts a (j - rounds * slice_index net.round a) → start_of starts a (j - rounds * slice_index net.round a) + apart ≢ start_of starts a j → Differ net starts after rounds
differ-from net starts after rounds apart a j one actor within back late unlike = record {
  apart = apart;
  one = one;
  other = a;
  later = j;
  both = record { is_actor = actor; within = within; back = back; late = late };
  unlike = unlike;
}
