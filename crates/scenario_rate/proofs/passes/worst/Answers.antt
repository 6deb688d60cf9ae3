use Rattle.std.proofs.Common.{subst}
use Rattle.scenario_rate.specs.declared.passes.Turn.{Turn}
use Rattle.scenario_rate.specs.inside.Bests.{IsTurn}
use Rattle.scenario_rate.specs.Answers.{potential_at}
use Rattle.scenario_rate.proofs.RatesStopFalling.{room-falls}
use Rattle.scenario_rate.proofs.passes.worst.Goals as goal

pub returns-in-Settled-clause-shows : goal.returns-in-Settled-clause-shows
returns-in-Settled-clause-shows c = λ file is.
    (let a = c.in_ok-answer-in-Settled.ensures in let r = c.in_ok-answer-in-Settled.answer in
    c.worst_is_shown.ensures file c.args.graph.now r.rate.num r.rate.den r.cycle (potential_at r.potentials) is a.some_round r.rate.positive r.rate.lowest a.critical a.fit)

pub passes-smaller : goal.passes-smaller
passes-smaller c =
    let b = c.passes.invariant in
    let t = subst (λ (x : Turn). IsTurn c.args.graph.now c.passes.best.rate.num c.passes.best.rate.den x) c.in-Gains.is c.in_ok-levels.ensures in
    let n = t.0 in
    room-falls c.passes.best.rate.num c.passes.best.rate.den c.in-Gains.next.rate.num c.in-Gains.next.rate.den b.some_round b.few n.some_round n.few n.slow t.1
