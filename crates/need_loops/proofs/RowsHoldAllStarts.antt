-- Rows of starts that needs decide, each with a start past a moment, have all starts up to this moment.
use Rattle.std.proofs.Common.{◌≡◌, ℕ, suc, ◌+◌, ◌-◌, ◌≤◌, ◌<◌, List, [], ◌∷◌, ◌++◌, length, take, map, sum, ⊎_elim, ap, ◌∙◌, arith}
use Rattle.std.specs.Prelude.{slice_index, slice_index_or}
use Rattle.std.proofs.lemmas.Bool.{cases_lt}
use Rattle.std.proofs.lemmas.List.{get_or-take, get_or_append_left, get_or_push, length_push}
use Rattle.sd_base.specs.declared.limits.TheConstants.{STARTS}
use Rattle.sd_base.specs.Net.{Net}
use Rattle.sd_base.specs.Schedules.{HasInputs, Schedule, count_of, start_of}
use Rattle.sd_base.specs.SelfTimed.{earliest}
use Rattle.sd_base.specs.Lawful.{Lawful}
use Rattle.sd_base.proofs.LawfulIsRegular.{regular}
use Rattle.sd_base.proofs.FiringsKeepOrder.{starts-le}
use Rattle.sd_base.proofs.EndsDecideCounts.{early_at}
use Rattle.sd_base.proofs.LoopRates.{table-rate}
use Rattle.firing.specs.declared.table.LoopTable.{LoopTable}
use Rattle.loops.specs.LoopAnswers.{IsFound}
use Rattle.loops.specs.StartRows.{AreStarts, Ascend, AreBy}
use Rattle.need_loops.specs.inside.Knowing.{AreStartsBy, GoPast}
use Rattle.need_loops.specs.inside.Needing.{AreDue}
use Rattle.need_loops.specs.inside.Showing.{IsLoopIn}
use Rattle.need_loops.proofs.DueRowsAreSelfTimed.{admissible, no-later, same-start}
use Rattle.loops.proofs.SettledShapesMatch.{started-by, start-kept}

-- ---- the rows of the first n actors

-- those of their starts up to and with a moment
pub record AreByBelow (starts : List (List ℕ)) (moment n : ℕ) (known : List (List ℕ)) : Type 0 where
  pub rows : length known ≡ n
  pub each : (a : ℕ) → a < n → AreBy (slice_index_or starts a []) moment (count_of known a)
  pub first : (a : ℕ) → a < n → slice_index_or known a [] ≡ take (count_of known a) (slice_index_or starts a [])

pub by-none : (starts : List (List ℕ)) (moment : ℕ) (known : List (List ℕ)) → known ≡ [] → AreByBelow starts moment 0 known
by-none starts moment known none = record { rows = ap length none; each = λ a below. absurd (omega arith); first = λ a below. absurd (omega arith) }

pub by-more : (starts : List (List ℕ)) (moment n count : ℕ) (known more : List (List ℕ)) (row : List ℕ) → more ≡ known ++ row ∷ [] → AreByBelow starts moment n known →
    AreBy (slice_index_or starts n []) moment count → length row ≡ count → row ≡ take count (slice_index_or starts n []) → AreByBelow starts moment (n + 1) more
by-more starts moment n count known more row push below by long first = record {
  rows = ap length push ∙ (length_push known row ∙ ap (λ (x : ℕ). x + 1) below.rows);
  each = λ a is. ⊎_elim
      (λ (old : a < n). rw (kept a old) (below.each a old))
      (λ (last : n ≤ a). let same : a ≡ n = omega arith in rw same (rw here (rw long by)))
      (cases_lt a n);
  first = λ a is. ⊎_elim
      (λ (old : a < n). rw (kept a old) (below.first a old))
      (λ (last : n ≤ a). let same : a ≡ n = omega arith in rw same (rw here (rw long first)))
      (cases_lt a n);
}
  where
    kept : (a : ℕ) → a < n → slice_index_or more a [] ≡ slice_index_or known a []
    kept a old = ap (λ (rows : List (List ℕ)). slice_index_or rows a []) push ∙ get_or_append_left known (row ∷ []) [] a (omega (arith, below.rows))

    here : slice_index_or more n [] ≡ row
    here = ap (λ (rows : List (List ℕ)). slice_index_or rows n []) push ∙ get_or_push known row [] n below.rows

pub by-all : (starts : List (List ℕ)) (moment n : ℕ) (known : List (List ℕ)) → n ≡ length starts → AreByBelow starts moment n known → AreStartsBy starts moment known
by-all starts moment n known all below = record {
  rows = omega (arith, below.rows);
  each = λ a there. below.each a (omega arith);
  first = λ a there. below.first a (omega arith);
}

-- ---- all rows

module _ (net : Net) (laws : Lawful net) (inputs : HasInputs net) (until : ℕ) (rows : Schedule) (due : AreDue net until rows) where
  pub due-ascend : (a : ℕ) → Ascend (slice_index_or rows a [])
  due-ascend a j k le there = starts-le net rows (admissible net laws inputs until rows due) a j k le there

  module _ (moment : ℕ) (past : GoPast rows moment) where
    -- the moment is before the last one of the rows
    pub past-soon : moment < until
    past-soon =
        let actor : 0 < length rows = omega (arith, due.admissible.actors, laws.some_actor) in
        let found = past 0 actor in
        omega (arith, found.2, due.by 0 found.0 found.1)

    module _ (known : List (List ℕ)) (by : AreStartsBy rows moment known) where
      read : (a k : ℕ) → a < length rows → k < count_of known a → start_of known a k ≡ start_of rows a k
      read a k there below = ap (λ (row : List ℕ). slice_index row k) (by.first a there) ∙ get_or-take (count_of known a) (slice_index_or rows a []) k 0 below

      -- a known start is one of self-timed execution by the moment
      known-there : (a k : ℕ) → a < length rows → k < count_of known a → (k < count_of (earliest net (suc moment)) a) × (start_of rows a k ≡ start_of (earliest net (suc moment)) a k)
      known-there a k there below =
          let e : until + 1 ≡ suc until = omega arith in
          let inside : k < count_of rows a = omega (arith, (by.each a there).within) in
          let same : start_of rows a k ≡ start_of (earliest net (suc until)) a k = rw e at (same-start net laws inputs until rows due a k inside) in
          let late : k < count_of (earliest net (suc until)) a = rw e at ((no-later net laws inputs until rows due a k inside).0) in
          let soon : start_of rows a k ≤ moment = omega (arith, due-ascend a k (count_of known a - 1) (omega arith) (omega (arith, (by.each a there).within)), (by.each a there).by (omega arith)) in
          let here : k < count_of (earliest net (suc moment)) a = started-by net laws inputs moment until a k (omega (arith, past-soon)) late (omega arith) in
          let kept : start_of (earliest net (suc until)) a k ≡ start_of (earliest net (suc moment)) a k = (start-kept net laws inputs moment until a k (omega (arith, past-soon)) here).1 in
          (here, same ∙ kept)

      -- and none of them is left
      none-left : (a : ℕ) → a < length rows → count_of known a < count_of (earliest net (suc moment)) a → ⊥
      none-left a there less =
          let e : until + 1 ≡ suc until = omega arith in
          let found = past a there in
          let more : count_of known a < count_of rows a = ⊎_elim
          (λ (h : count_of known a < count_of rows a). h)
          (λ (all : count_of rows a ≤ count_of known a). absurd (omega (
            arith,
            found.1,
            found.2,
            due-ascend a found.0 (count_of known a - 1) (omega (arith, found.1)) (omega (arith, found.1, (by.each a there).within)),
            (by.each a there).by (omega (arith, found.1)),
          )))
          (cases_lt (count_of known a) (count_of rows a)) in
          let late : moment < start_of rows a (count_of known a) = (by.each a there).after (count_of known a) (omega arith) more in
          let same : start_of rows a (count_of known a) ≡ start_of (earliest net (suc until)) a (count_of known a) = rw e at (same-start net laws inputs until rows due a (count_of known a) more) in
          let kept : start_of (earliest net (suc until)) a (count_of known a) ≡ start_of (earliest net (suc moment)) a (count_of known a) =
          (start-kept net laws inputs moment until a (count_of known a) (omega (arith, past-soon)) less).1 in
          let soon : start_of (earliest net (suc moment)) a (count_of known a) < suc moment = (early_at net (regular net laws) inputs (suc moment)).before a (count_of known a) less in
          omega arith

      pub known-starts : AreStarts net moment known
      known-starts =
          let e : moment + 1 ≡ suc moment = omega arith in
          let actors : length rows ≡ length net.times = due.admissible.actors in
          record {
            rows = omega (arith, by.rows);
            all = λ a actor. rw e (both a (omega arith));
            moments = λ a k actor below. rw e (read a k (omega arith) below ∙ (known-there a k (omega arith) below).1);
          }
        where
          both : (a : ℕ) → a < length rows → count_of known a ≡ count_of (earliest net (suc moment)) a
          both a there = ⊎_elim
              (λ (less : count_of known a < count_of (earliest net (suc moment)) a). absurd (none-left a there less))
              (λ (most : count_of (earliest net (suc moment)) a ≤ count_of known a). ⊎_elim
              (λ (more : count_of (earliest net (suc moment)) a < count_of known a). absurd (
              let there_too : count_of (earliest net (suc moment)) a < count_of (earliest net (suc moment)) a = (known-there a (count_of (earliest net (suc moment)) a) there more).0 in
              omega arith))
              (λ (h : count_of known a ≤ count_of (earliest net (suc moment)) a). omega arith)
              (cases_lt (count_of (earliest net (suc moment)) a) (count_of known a)))
              (cases_lt (count_of known a) (count_of (earliest net (suc moment)) a))

-- ---- a loop that rows of so many starts hold

pub loop-found : (net : Net) → Lawful net → HasInputs net → (states total : ℕ) (starts : List (List ℕ)) (table : LoopTable) → 1 ≤ states → total ≡ sum (map length starts) →
    total ≤ STARTS → total ≤ states - 1 → IsLoopIn net starts table → IsFound net states table
loop-found net laws inputs states total starts table some is few fewer found = record {
  loop = found.loop;
  number = omega (arith, found.number);
  few = omega (arith, found.few);
  rate = table-rate net laws inputs table.entry table.period table.rounds table.before table.starts found.loop;
}
