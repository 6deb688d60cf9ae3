use Rattle.std.proofs.Common.{ℕ, ◌-◌, ◌≤◌, ◌<◌, length, arith, below_more}
use Rattle.sd_base.specs.Schedules.{count_of, start_of}
use Rattle.need_loops.proofs.DueRowsAreSelfTimed.{row-at, row-last}
use Rattle.need_loops.proofs.by_rounds.known_until.Goals as goal
use Rattle.need_loops.proofs.by_rounds.known_until.Goals.{then-last-least, else-last-least}

pub loop-row-preserved : goal.loop-row-preserved
loop-row-preserved c =
    let there : c.loop-row.row-index < length c.args.starts.now = omega (arith, c.loop-row-test.true) in
    let row = row-at c.args.starts.now c.loop-row.row-index c.row-item.result c.as_slice.result.now there c.row-item.is c.as_slice.ensures in
    let last = row-last c.args.starts.now c.loop-row.row-index c.in-Some.last.now c.as_slice.result.now row c.in-Some.ensures.value in
    let low : (c.if-last-least.least ≤ c.loop-row.least) × (c.if-last-least.least ≤ c.in-Some.last.now) =
    elim c.if-last-least.branch [
      | then-last-least w ↦ (omega (arith, w.if-last-least.true, w.least-is), omega (arith, w.least-is))
      | else-last-least w ↦ (omega (arith, w.least-is), omega (arith, w.if-last-least.false, w.least-is))
    ] in
    let old : (a : ℕ) → a < c.loop-row.row-index → (k : ℕ) × (k < count_of c.args.starts.now a) × (c.if-last-least.least ≤ start_of c.args.starts.now a k) =
    λ a below. let found = c.loop-row.invariant a below in (found.0, found.1, omega (arith, low.0, found.2)) in
    let mine : (k : ℕ) × (k < count_of c.args.starts.now c.loop-row.row-index) × (c.if-last-least.least ≤ start_of c.args.starts.now c.loop-row.row-index k) =
    (count_of c.args.starts.now c.loop-row.row-index - 1, omega (arith, last.0), omega (arith, last.1, low.1)) in
    below_more _ _ old mine

pub returns-then-least-gt0 : goal.returns-then-least-gt0
returns-then-least-gt0 c = λ a there.
    let found = c.loop-row.invariant a (omega (arith, c.loop-row-test.false, c.loop-row.auto.row-index-end)) in
    (found.0, found.1, omega (arith, found.2, c.if-least-gt0.true))
