use Rattle.std.proofs.Common.{ℕ, ◌-◌, ◌*◌, ◌≤◌, length, arith, mul-le-mul_right}
use Rattle.critical.specs.inside.Trails.{met_at, lowered_firing}
use Rattle.critical.proofs.ClosedWaysAreCritical.{closed-critical, times-in_order, passes-in_order}
use Rattle.critical.proofs.CyclesAvoidSpaces.{steps-along}
use Rattle.critical.proofs.closing.closed_cycle.Goals as goal

pub overflow_sub-result : goal.overflow_sub-result
overflow_sub-result g c = times-in_order (g.F.Firing.net c.args.net.now) c.args.table.now c.requires.table c.args.met.now c.args.from c.least_rounds-rounds.result c.requires.again c.least_rounds-rounds.ensures

pub overflow_sub-result-2 : goal.overflow_sub-result-2
overflow_sub-result-2 g c = passes-in_order (g.F.Firing.net c.args.net.now) c.args.table.now c.requires.table c.args.met.now c.args.from c.least_rounds-rounds.result c.requires.again c.least_rounds-rounds.ensures

pub overflow_mul-result : goal.overflow_mul-result
overflow_mul-result g c =
    let end = met_at c.args.met.now (length c.args.met.now - 1) in
    let less : (end.passes - (met_at c.args.met.now c.args.from).passes) * c.args.table.now.rounds ≤ end.passes * c.args.table.now.rounds = mul-le-mul_right c.args.table.now.rounds (omega arith) in
    omega (arith, c.requires.again.way.near (length c.args.met.now - 1) (omega arith), c.requires.again.few)

pub lowered-requires-clause-second : goal.lowered-requires-clause-second
lowered-requires-clause-second g c = c.requires.again.way.second (length c.args.met.now - 1) (omega arith)

pub lowered-requires-clause-enough : goal.lowered-requires-clause-enough
lowered-requires-clause-enough g c = c.least_rounds-rounds.ensures.all (length c.args.met.now - 1) (omega (arith, c.requires.again.later)) (omega (arith, c.requires.again.later))

pub returns-clause-along : goal.returns-clause-along
returns-clause-along g c =
    rw c.in_ok-steps.ensures
    (steps-along c.args.met.now c.args.from
    (λ (i : ℕ). lowered_firing (g.F.Firing.net c.args.net.now) c.args.table.now (met_at c.args.met.now (length c.args.met.now - 1)).passes c.least_rounds-rounds.result (met_at c.args.met.now i))
    (length c.args.met.now - 1 - c.args.from) (omega (arith, c.requires.again.later)))

pub returns-clause-critical : goal.returns-clause-critical
returns-clause-critical g c =
    rw (c.lowered.ensures, c.in_ok-steps.ensures)
    (closed-critical (g.F.Firing.net c.args.net.now) c.args.table.now c.requires.table c.args.met.now c.args.from c.least_rounds-rounds.result c.requires.again c.least_rounds-rounds.ensures)
