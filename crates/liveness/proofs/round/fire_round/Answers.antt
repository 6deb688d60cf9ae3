use Rattle.std.proofs.Common.{◌≡◌, ◌++◌, length, [], drop, take, refl, arith}
use Rattle.std.proofs.lemmas.Bool.{false≢true}
use Rattle.std.proofs.lemmas.List.{take_at}
use Rattle.liveness.proofs.WholeRuns.{noted-run, run-start, run-round, blocked-answer, blocked-not_live}
use Rattle.liveness.specs.inside.UntimedRuns.{IsHalt, IsWhole}
use Rattle.liveness.proofs.round.fire_round.Goals as goal

pub run_to_end-requires : goal.run_to_end-requires
run_to_end-requires g c =
    rw (c.as_mut_slice.ensures.value, c.as_mut_slice-2.ensures.value) (record {
      order = [];
      noted = c.new-order.ensures.items;
      run = run-start (g.F.Firing.net c.args.wired.now.net.now) c.in_ok-counts.counts.items c.in_ok-tokens.tokens.items []
          (rw (← c.actors.ensures) (c.in_ok-counts.ensures.items_if_clones_equal (λ y e. e))) c.in_ok-tokens.ensures refl;
    })

pub returns-in-None : goal.returns-in-None
returns-in-None g c =
    let whole : IsWhole (g.F.Firing.net c.args.wired.now.net.now) c.run_to_end.new.counts = rw c.in-None.is at c.in_ok-end.ensures.end in
    let order = run-round (g.F.Firing.net c.args.wired.now.net.now) c.run_to_end.new.counts c.run_to_end.new.tokens c.run_to_end.new.note.items (noted-run (g.F.Firing.net c.args.wired.now.net.now) c.run_to_end.new.counts c.run_to_end.new.tokens c.run_to_end.new.note.items c.in_ok-end.ensures.run) whole in record {
      answer = rw c.from_vec.ensures order;
      exact = (λ yes. (c.run_to_end.new.note.items, order), λ live. refl);
    }

pub returns-in-Some : goal.returns-in-Some
returns-in-Some g c =
    let size : length c.run_to_end.new.counts ≡ c.in_ok-counts.counts.len = omega (arith, c.run_to_end.auto.counts, c.as_mut_slice.ensures.len) in
    let back : take c.in_ok-counts.counts.len (c.run_to_end.new.counts ++ drop (length c.run_to_end.new.counts) c.in_ok-counts.counts.items) ≡ c.run_to_end.new.counts = take_at c.run_to_end.new.counts (drop (length c.run_to_end.new.counts) c.in_ok-counts.counts.items) c.in_ok-counts.counts.len size in
    let halt : IsHalt (g.F.Firing.net c.args.wired.now.net.now) c.run_to_end.new.counts c.in-Some.lacks = rw c.in-Some.is at c.in_ok-end.ensures.end in record {
      answer = blocked-answer (g.F.Firing.net c.args.wired.now.net.now) c.run_to_end.new.counts c.run_to_end.new.tokens c.in_ok-end.ensures.run.order c.from_vec-in-Some.result c.in-Some.lacks
          (rw back at c.from_vec-in-Some.ensures) c.in_ok-end.ensures.run.run c.in_ok-end.ensures.closed halt.short halt.names;
      exact = (
        λ no. absurd (false≢true no),
        λ live. absurd (blocked-not_live (g.F.Firing.net c.args.wired.now.net.now) c.run_to_end.new.counts c.run_to_end.new.tokens c.in_ok-end.ensures.run.order (g.met.F.Firing.lawful c.args.wired.now.net.now) c.in_ok-end.ensures.run.run c.in_ok-end.ensures.closed halt.short live),
      );
    }
