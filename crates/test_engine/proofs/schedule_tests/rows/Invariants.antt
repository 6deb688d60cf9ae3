use Rattle.std.proofs.Common.{ℕ, ◌≤◌, ◌^◌}
use Rattle.sd_base.specs.Schedules.{start_of}
use Rattle.test_engine.proofs.schedule_tests.rows.Given as goal

abbrev pub invariant-loop-of_actor : goal.invariant-loop-of_actor
invariant-loop-of_actor l = (a k : ℕ) → start_of l.rows a k ≤ 2 ^ 100
