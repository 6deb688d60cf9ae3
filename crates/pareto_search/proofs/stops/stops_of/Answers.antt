use Rattle.std.proofs.Common.{◌<◌, length, subst, arith}
use Rattle.std.specs.Prelude.{All}
use Rattle.std.proofs.lemmas.List.{take_all}
use Rattle.std.proofs.lemmas.List.Elements.{Contains-get_or}
use Rattle.pareto_search.specs.inside.Stops.{IsMet, IsStopTowards}
use Rattle.pareto_search.proofs.GoalStops.{met-more, met-some, of-more, stop-of}
use Rattle.pareto_search.proofs.stops.stops_of.Goals as goal

pub loop-goal-preserved : goal.loop-goal-preserved
loop-goal-preserved c =
    let own : IsStopTowards c.args.lattice.now c.args.tellings.now c.goal-item.result c.in_ok-stop.stop = subst (λ ks. IsStopTowards c.args.lattice.now c.args.tellings.now ks c.in_ok-stop.stop) c.as_slice.ensures c.in_ok-stop.ensures in
    record {
      met = met-more c.args.lattice.now c.args.tellings.now c.args.goals.now c.loop-goal.goal-index c.goal-item.result c.loop-goal.stops.items c.keep.new.stops.items c.in_ok-stop.stop (omega arith) c.goal-item.is own c.in_ok-keep.ensures.taken c.in_ok-keep.ensures.still c.loop-goal.invariant.met;
      from = λ s has. of-more c.args.lattice.now c.args.tellings.now c.args.goals.now c.loop-goal.goal-index c.goal-item.result c.loop-goal.stops.items c.in_ok-stop.stop s (omega arith) c.goal-item.is own c.loop-goal.invariant.from (c.in_ok-keep.ensures.from s has);
      level = c.in_ok-keep.ensures.level;
    }

pub returns-clause-least : goal.returns-clause-least
returns-clause-least c =
    subst (All (IsMet c.args.lattice.now c.args.tellings.now c.loop-goal.stops.items)) (take_all c.loop-goal.goal-index c.args.goals.now (omega arith)) c.loop-goal.invariant.met

pub returns-clause-some : goal.returns-clause-some
returns-clause-some c =
    let some : 0 < length c.loop-goal.stops.items = met-some c.args.lattice.now c.args.tellings.now c.args.goals.now c.loop-goal.stops.items c.requires.some (returns-clause-least c) in
    omega arith

pub returns-clause-each : goal.returns-clause-each
returns-clause-each c = λ net limits corner ground told k d below.
    stop-of net limits corner c.args.lattice.now c.args.tellings.now c.args.goals.now _ ground told c.requires.goals (c.loop-goal.invariant.from _ (Contains-get_or c.loop-goal.stops.items k d below))
