-- The starts round a loop, cut out of all those up to some later moment, are the loop's table.
use Rattle.std.proofs.Common.{◌≡◌, ℕ, suc, ◌+◌, ◌-◌, ◌*◌, ◌≤◌, ◌<◌, List, [], ◌∷◌, ◌++◌, length, take, drop, ⊎_elim, refl, ap, ◌∙◌, arith}
use Rattle.std.specs.Prelude.{◌/◌, slice_index, slice_index_or}
use Rattle.std.proofs.lemmas.Bool.{cases_lt}
use Rattle.std.proofs.lemmas.List.{get_or_append_left, get_or_push, length_push, get_or-take, get_or-drop, length-take-le, length-drop}
use Rattle.sd_base.specs.Net.{Net}
use Rattle.sd_base.specs.Schedules.{HasInputs, count_of, start_of}
use Rattle.sd_base.specs.SelfTimed.{earliest}
use Rattle.sd_base.specs.Lawful.{Lawful}
use Rattle.sd_base.specs.Rates.{IsLoop, IsLoopTable}
use Rattle.sd_base.specs.Connection.{IsConnected}
use Rattle.sd_base.proofs.LawfulIsRegular.{regular, balanced}
use Rattle.sd_base.proofs.LoopsSpanRounds.{loop-whole}
use Rattle.std.proofs.Math.Nat.{mul-div_cancel}
use Rattle.sd_base.proofs.EqualShapesRepeat.{count-rises}
use Rattle.loops.specs.StartRows.{AreStarts, AreCounts, AreBetween, AreStartsAfter}
use Rattle.loops.proofs.SettledShapesMatch.{start-kept}
use Rattle.loops.proofs.RowsTellStarts.{count-by, row-start}

module _ (net : Net) (laws : Lawful net) (fed : HasInputs net) where
  -- the starts collected up to the end of a loop are its table
  pub loop-is-table : IsConnected net → (entry period rounds : ℕ) (before : List ℕ) (starts : List (List ℕ)) → IsLoop net entry period → length before ≡ length net.times →
      ((a : ℕ) → a < length net.times → slice_index before a ≡ count_of (earliest net (entry + 1)) a) → AreStartsAfter net (entry + period) before starts →
      rounds ≡ count_of starts 0 / slice_index net.round 0 → IsLoopTable net entry period rounds before starts
  loop-is-table connected entry period rounds before starts loop long counts have quotient = by (loop-whole net entry period laws fed connected loop)
    where
      by : (n : ℕ) × (1 ≤ n) × ((a : ℕ) → count_of (earliest net (entry + period + 1)) a ≡ count_of (earliest net (entry + 1)) a + n * slice_index net.round a) →
          IsLoopTable net entry period rounds before starts
      by (n, some, whole) =
          let count : (a : ℕ) → a < length net.times → count_of starts a ≡ n * slice_index net.round a = λ a actor. omega (arith, whole a, have.all a actor, counts a actor) in
          let fires : 1 ≤ slice_index net.round 0 = (balanced net laws).fires 0 laws.some_actor in
          let turns : rounds ≡ n = quotient ∙ (ap (λ (x : ℕ). x / slice_index net.round 0) (count 0 laws.some_actor) ∙ mul-div_cancel n fires) in
          record {
            loop = loop;
            turns = rw turns some;
            actors = long;
            rows = have.rows;
            earlier = counts;
            whole = λ a actor. rw turns (count a actor);
            all = have.all;
            moments = have.moments;
          }

-- one row more is cut
pub between-none : (starts : List (List ℕ)) (before until : List ℕ) → AreBetween starts before until 0 []
between-none starts before until = record { rows = refl; each = λ a below. absurd (omega arith) }

pub between-more : (starts : List (List ℕ)) (before until : List ℕ) (n : ℕ) (rows : List (List ℕ)) (row : List ℕ) → AreBetween starts before until n rows →
    row ≡ take (slice_index until n - slice_index before n) (drop (slice_index before n) (slice_index_or starts n [])) → AreBetween starts before until (n + 1) (rows ++ row ∷ [])
between-more starts before until n rows row cut at = record {
  rows = length_push rows row ∙ ap (λ (x : ℕ). x + 1) cut.rows;
  each = λ a below. ⊎_elim
      (λ (old : a < n). get_or_append_left rows (row ∷ []) [] a (omega (arith, cut.rows)) ∙ cut.each a old)
      (λ (last : n ≤ a).
      let same : a ≡ n = omega arith in
      rw same (get_or_push rows row [] n cut.rows ∙ at))
      (cases_lt a n);
}

module _ (net : Net) (laws : Lawful net) (fed : HasInputs net) (entry period last : ℕ) (starts : List (List ℕ)) (have : AreStarts net last starts) (within : entry + period ≤ last)
    (before until : List ℕ) (counts : AreCounts starts entry before) (ends : AreCounts starts (entry + period) until) where
  place : (a : ℕ) → a < length net.times → a < length starts
  place a actor = omega (arith, have.rows)

  pub before-is : (a : ℕ) → a < length net.times → slice_index before a ≡ count_of (earliest net (entry + 1)) a
  before-is a actor = count-by net laws fed last starts have entry a (slice_index before a) (omega arith) actor (counts.each a (place a actor))

  until-is : (a : ℕ) → a < length net.times → slice_index until a ≡ count_of (earliest net (entry + period + 1)) a
  until-is a actor = count-by net laws fed last starts have (entry + period) a (slice_index until a) within actor (ends.each a (place a actor))

  pub before-until : (a : ℕ) → a < length starts → slice_index before a ≤ slice_index until a
  before-until a there =
      let actor : a < length net.times = omega (arith, have.rows) in
      omega (arith, before-is a actor, until-is a actor, count-rises net (regular net laws) fed (entry + 1) (entry + period + 1) (omega arith) a)

  pub until-within : (a : ℕ) → a < length starts → slice_index until a ≤ count_of starts a
  until-within a there = (ends.each a there).within

  after : (between : List (List ℕ)) → AreBetween starts before until (length starts) between → AreStartsAfter net (entry + period) before between
  after between cut = record {
    rows = cut.rows ∙ have.rows;
    all = λ a actor. omega (arith, count a actor, until-is a actor, before-until a (place a actor));
    moments = λ a k actor there.
        let few : k < slice_index until a - slice_index before a = omega (arith, count a actor) in
        let read : start_of between a k ≡ slice_index (take (slice_index until a - slice_index before a) (drop (slice_index before a) (slice_index_or starts a []))) k = ap (λ (row : List ℕ). slice_index row k) (cut.each a (place a actor)) in
        let kept : slice_index (take (slice_index until a - slice_index before a) (drop (slice_index before a) (slice_index_or starts a []))) k ≡ slice_index (drop (slice_index before a) (slice_index_or starts a [])) k =
        get_or-take (slice_index until a - slice_index before a) (drop (slice_index before a) (slice_index_or starts a [])) k 0 few in
        let from : slice_index (drop (slice_index before a) (slice_index_or starts a [])) k ≡ start_of starts a (slice_index before a + k) = get_or-drop (slice_index before a) (slice_index_or starts a []) k 0 in
        let e : entry + period + 1 ≡ suc (entry + period) = omega arith in
        let early : slice_index before a + k < count_of (earliest net (entry + period + 1)) a = omega (arith, until-is a actor) in
        let soon : slice_index before a + k < count_of (earliest net (suc (entry + period))) a = rw e at early in
        let same : start_of (earliest net (suc last)) a (slice_index before a + k) ≡ start_of (earliest net (suc (entry + period))) a (slice_index before a + k) =
        (start-kept net laws fed (entry + period) last a (slice_index before a + k) within soon).1 in
        let row : start_of starts a (slice_index before a + k) ≡ start_of (earliest net (suc last)) a (slice_index before a + k) =
        row-start net laws fed last starts have a (slice_index before a + k) actor (omega (arith, until-within a (place a actor))) in
        let mine : start_of between a k ≡ start_of (earliest net (suc (entry + period))) a (slice_index before a + k) = read ∙ (kept ∙ (from ∙ (row ∙ same))) in
        rw e mine;
  }
    where
      count : (a : ℕ) → a < length net.times → count_of between a ≡ slice_index until a - slice_index before a
      count a actor =
          let long : slice_index until a - slice_index before a ≤ length (drop (slice_index before a) (slice_index_or starts a [])) = omega (arith, length-drop (slice_index before a) (slice_index_or starts a []), until-within a (place a actor)) in
          ap length (cut.each a (place a actor)) ∙ length-take-le (slice_index until a - slice_index before a) (drop (slice_index before a) (slice_index_or starts a [])) long

  -- they are the loop's table
  pub between-table : IsConnected net → (rounds : ℕ) (between : List (List ℕ)) → IsLoop net entry period → AreBetween starts before until (length starts) between → rounds ≡ count_of between 0 / slice_index net.round 0 →
      IsLoopTable net entry period rounds before between
  between-table connected rounds between loop cut quotient =
      loop-is-table net laws fed connected entry period rounds before between loop (counts.rows ∙ have.rows) before-is (after between cut) quotient
