-- What the rows of starts tell of a shape that comes again.
use Rattle.std.proofs.Common.{◌≡◌, ℕ, suc, ◌+◌, ◌-◌, ◌*◌, ◌≤◌, ◌<◌, List, [], length, ⊎_elim, sym, arith}
use Rattle.std.specs.Prelude.{slice_index, slice_index_or}
use Rattle.std.proofs.lemmas.Bool.{cases_lt}
use Rattle.std.proofs.lemmas.List.{get_or_past}
use Rattle.sd_base.specs.Net.{Net}
use Rattle.sd_base.specs.Schedules.{HasInputs, count_of}
use Rattle.sd_base.specs.SelfTimed.{earliest, shape_at}
use Rattle.sd_base.specs.Lawful.{Lawful}
use Rattle.sd_base.proofs.LawfulIsRegular.{regular, wired, balanced}
use Rattle.sd_base.proofs.EndsDecideCounts.{past_none}
use Rattle.sd_base.proofs.RoundsKeepTokens.{whole-rounds}
use Rattle.loops.specs.StartRows.{AreStarts}
use Rattle.loops.specs.Settling.{IsRowSettled, Recurs}
use Rattle.loops.proofs.SettledShapesMatch.{shapes-same}
use Rattle.loops.proofs.RowsTellStarts.{row-count, count-by, rows-settled}

module _ (net : Net) (laws : Lawful net) (fed : HasInputs net) (r t rounds : ℕ) (later : r < t) (starts : List (List ℕ)) (have : AreStarts net t starts)
    (rows : (a : ℕ) → a < length net.times → Recurs net a (slice_index_or starts a []) r (t - r) (rounds * slice_index net.round a)) where
  abbrev v : ℕ → ℕ
  v a = rounds * slice_index net.round a

  counts : (a : ℕ) → count_of (earliest net (suc t)) a ≡ count_of (earliest net (suc r)) a + rounds * slice_index net.round a
  counts a = ⊎_elim
      (λ (actor : a < length net.times).
      let recurs : Recurs net a (slice_index_or starts a []) r (t - r) (rounds * slice_index net.round a) = rows a actor in
      let early : recurs.before ≡ count_of (earliest net (r + 1)) a = count-by net laws fed t starts have r a recurs.before (omega arith) actor recurs.by in
      let one : r + 1 ≡ suc r = omega arith in
      let here : recurs.before ≡ count_of (earliest net (suc r)) a = rw one at early in
      omega (arith, row-count net laws fed t starts have a actor, recurs.number, here))
      (λ (past : length net.times ≤ a).
      let none : slice_index net.round a ≡ 0 = get_or_past net.round a 0 (omega (arith, (balanced net laws).actors)) in
      let nothing : rounds * slice_index net.round a ≡ 0 = rw none (omega arith) in
      omega (arith, past_none net (regular net laws) fed (suc t) a past, past_none net (regular net laws) fed (suc r) a past))
      (cases_lt a (length net.times))

  settled : (a m : ℕ) → a < length net.times → m ≡ v a → IsRowSettled net a (slice_index_or starts a []) m (t - r) r
  settled a m actor is = rw is (rows a actor).settled

  -- where whole rounds lie between, and by the earlier moment all is over that isn't like, the shapes are equal
  pub rows-again : shape_at net t ≡ shape_at net r
  rows-again =
      let end : r + (t - r) ≡ t = omega arith in
      let same : shape_at net r ≡ shape_at net (r + (t - r)) =
      shapes-same net laws fed r t later v (whole-rounds net rounds (wired net laws) (balanced net laws)) counts r (omega arith) (rows-settled net laws fed r t later v starts have r settled) in
      sym (rw end at same)
