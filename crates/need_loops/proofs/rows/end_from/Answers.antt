use Rattle.std.proofs.Common.{◌-◌, ◌≤◌, arith}
use Rattle.std.specs.Prelude.{slice_index}
use Rattle.need_loops.proofs.RowLoops.{time-is, end-first}
use Rattle.need_loops.proofs.rows.end_from.Goals as goal
use Rattle.need_loops.proofs.rows.end_from.Goals.{then-time-from, else-time-from}

pub returns-then-before-row : goal.returns-then-before-row
returns-then-before-row g c =
    end-first (g.F.Firing.net c.args.net.now) c.args.actor c.time-time.result c.args.row.now
    (time-is (g.F.Firing.net c.args.net.now) c.args.actor c.time-time.result c.requires.single c.time-time.ensures) c.requires.ascend
    c.args.from c.if-time-from.before c.if-before-row.true
    (λ some. elim c.if-time-from.branch [
      | then-time-from w ↦
          let by : 1 ≤ w.count_by-before.result → slice_index c.args.row.now (w.count_by-before.result - 1) ≤ c.args.from - c.time-time.result - 1 = w.count_by-before.ensures.by in
          rw w.before-is (omega (arith, by (omega arith), w.if-time-from.true))
      | else-time-from w ↦ absurd (omega (arith, w.before-is))
    ])
    (elim c.if-time-from.branch [
      | then-time-from w ↦ omega (arith, w.count_by-before.ensures.after c.if-time-from.before (omega (arith, w.before-is)) c.if-before-row.true)
      | else-time-from w ↦ omega (arith, w.if-time-from.false)
    ])
