use Rattle.std.proofs.Common.{◌≡◌, ◌++◌, length, drop, take, arith}
use Rattle.std.proofs.lemmas.List.{take_at}
use Rattle.liveness.proofs.WholeRuns.{blocked-answer, run-round}
use Rattle.liveness.specs.inside.UntimedRuns.{IsHalt, IsWhole}
use Rattle.liveness.proofs.ending.finish_round.Goals as goal

pub returns-in-None : goal.returns-in-None
returns-in-None g c =
    let whole : IsWhole (g.F.Firing.net c.args.wired.now.net.now) c.run_to_end.new.counts = rw c.in-None.is at c.in_ok-end.ensures.end in
    (c.in_ok-end.ensures.run.order, run-round (g.F.Firing.net c.args.wired.now.net.now) c.run_to_end.new.counts c.run_to_end.new.tokens c.in_ok-end.ensures.run.order c.in_ok-end.ensures.run.run whole)

pub returns : goal.returns
returns g c =
    let size : length c.run_to_end.new.counts ≡ c.in_ok-counts.counts.len = omega (arith, c.run_to_end.auto.counts, c.as_mut_slice.ensures.len) in
    let back : take c.in_ok-counts.counts.len (c.run_to_end.new.counts ++ drop (length c.run_to_end.new.counts) c.in_ok-counts.counts.items) ≡ c.run_to_end.new.counts = take_at c.run_to_end.new.counts (drop (length c.run_to_end.new.counts) c.in_ok-counts.counts.items) c.in_ok-counts.counts.len size in
    let halt : IsHalt (g.F.Firing.net c.args.wired.now.net.now) c.run_to_end.new.counts c.in-Some.lacks = rw c.in-Some.is at c.in_ok-end.ensures.end in
    blocked-answer (g.F.Firing.net c.args.wired.now.net.now) c.run_to_end.new.counts c.run_to_end.new.tokens c.in_ok-end.ensures.run.order c.from_vec.result c.in-Some.lacks
    (rw back at c.from_vec.ensures) c.in_ok-end.ensures.run.run c.in_ok-end.ensures.closed halt.short halt.names
