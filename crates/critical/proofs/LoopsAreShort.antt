-- A loop's table with few starts up to the first repeat is short.
use Rattle.std.proofs.Common.{◌≡◌, ℕ, zero, suc, ◌+◌, ◌≤◌, ◌<◌, List, [], ◌∷◌, length, map, sum, sym, refl, ◌∙◌, arith, mul-le-mul}
use Rattle.std.proofs.lemmas.List.Sums.{sum_by-cons}
use Rattle.firing.specs.declared.table.LoopTable.{LoopTable}
use Rattle.sd_base.specs.Net.{Net}
use Rattle.sd_base.specs.Schedules.{count_of, HasInputs}
use Rattle.sd_base.specs.SelfTimed.{earliest, starts_by}
use Rattle.sd_base.specs.Lawful.{Lawful}
use Rattle.sd_base.specs.Rates.{IsLoopTable}
use Rattle.sd_base.proofs.LawfulIsRegular.{regular, balanced}
use Rattle.sd_base.proofs.EndsDecideCounts.{early_at}
use Rattle.critical.specs.inside.Trails.{offset_of, IsShortLoop}
use Rattle.critical.proofs.PlacesTellFirings.{offset-next, offset-rise}

offset-front : (row : List ℕ) (rows : List (List ℕ)) (n : ℕ) → offset_of (row ∷ rows) (suc n) ≡ length row + offset_of rows n
offset-front row rows zero = omega arith
offset-front row rows (suc n) = omega (arith, offset-front row rows n)

offset-sum : (rows : List (List ℕ)) → offset_of rows (length rows) ≡ sum (map length rows)
offset-sum [] = refl
offset-sum (row ∷ rows) = offset-front row rows (length rows) ∙ omega (arith, offset-sum rows, sum_by-cons (λ (x : ℕ). x) (length row) (map length rows))

offset-le : (rows more : List (List ℕ)) (n : ℕ) → ((a : ℕ) → a < n → count_of rows a ≤ count_of more a) → offset_of rows n ≤ offset_of more n
offset-le rows more zero each = omega arith
offset-le rows more (suc n) each = omega (arith, offset-le rows more n (λ a below. each a (omega arith)), each n (omega arith))

pub short-loop : (net : Net) (table : LoopTable) → Lawful net → HasInputs net → IsLoopTable net table.entry table.period table.rounds table.before table.starts → starts_by net (table.entry + table.period) ≤ 4000000 → IsShortLoop net table
short-loop net table laws inputs loop few = record { laws = laws; inputs = inputs; loop = loop; short = record { rows = loop.actors ∙ sym loop.rows; some = some; few = each; all = all } }
  where
    long : length (earliest net (table.entry + table.period + 1)) ≡ length net.times
    long = (early_at net (regular net laws) inputs (table.entry + table.period + 1)).admissible.actors

    total : offset_of (earliest net (table.entry + table.period + 1)) (length (earliest net (table.entry + table.period + 1))) ≤ 4000000
    total = rw (offset-sum (earliest net (table.entry + table.period + 1))) few

    some : (a : ℕ) → a < length table.starts → 1 ≤ count_of table.starts a
    some a actor =
        let is : a < length net.times = omega (arith, loop.rows) in
        rw (loop.whole a is) (mul-le-mul loop.turns ((balanced net laws).fires a is))

    each : (a : ℕ) → a < length table.starts → Rattle.std.specs.Prelude.slice_index table.before a + count_of table.starts a ≤ 4000000
    each a actor =
        let is : a < length net.times = omega (arith, loop.rows) in
        let part : offset_of (earliest net (table.entry + table.period + 1)) (a + 1) ≤ offset_of (earliest net (table.entry + table.period + 1)) (length (earliest net (table.entry + table.period + 1))) =
        offset-rise (earliest net (table.entry + table.period + 1)) (a + 1) (length (earliest net (table.entry + table.period + 1))) (omega (arith, long)) in
        omega (arith, offset-next (earliest net (table.entry + table.period + 1)) a, loop.all a is, total)

    all : offset_of table.starts (length table.starts) ≤ 4000000
    all =
        let less : offset_of table.starts (length table.starts) ≤ offset_of (earliest net (table.entry + table.period + 1)) (length table.starts) =
        offset-le table.starts (earliest net (table.entry + table.period + 1)) (length table.starts) (λ a actor. omega (arith, loop.all a (omega (arith, loop.rows)))) in
        let same : length table.starts ≡ length (earliest net (table.entry + table.period + 1)) = loop.rows ∙ sym long in
        omega (arith, total, offset-rise (earliest net (table.entry + table.period + 1)) (length table.starts) (length (earliest net (table.entry + table.period + 1))) (omega arith))
