use Rattle.std.proofs.Common.{ℕ, ◌-◌, ◌≤◌, List, take, drop, ap, sym, subst, ◌∙◌, arith}
use Rattle.automaton.specs.declared.graph.Edge.{Edge}
use Rattle.automaton.specs.CriticalCycles.{weights}
use Rattle.scenario_rate.specs.inside.Searches.{AreNumbers}
use Rattle.scenario_rate.proofs.LongWalksClose.{numbers}
use Rattle.scenario_rate.proofs.RaisedWalksLoop.{Loops, IsLoop, loops, rated}
use Rattle.scenario_rate.proofs.passes.better_cycle.Goals as goal

pub first_return-requires : goal.first_return-requires
first_return-requires c =
    let s : Loops c.args.graph.now c.args.levels.now.rounds c.args.levels.now.time c.as_slice-edges.result.now c.as_slice.result.now (c.len-last.result - 1) c.args.node = subst (λ (z : List ℕ). Loops c.args.graph.now c.args.levels.now.rounds c.args.levels.now.time c.as_slice-edges.result.now z (c.len-last.result - 1) c.args.node) (sym c.as_slice.ensures.value)
    (loops c.args.graph.now c.args.levels.now.rounds c.args.levels.now.time c.args.levels.now.rows.items c.requires.levels c.requires.sound (c.len-last.result - 1) c.args.node c.as_slice-edges.result.now c.in_ok-walk.walk.items c.as_slice-edges.ensures
    (omega (arith, c.len-last.ensures, c.args.levels.now.rows.ok.0)) c.requires.some c.requires.few c.requires.node c.requires.raised c.in_ok-walk.ensures) in
    s.numbered

pub returns-in-None : goal.returns-in-None
returns-in-None c =
    let s : Loops c.args.graph.now c.args.levels.now.rounds c.args.levels.now.time c.as_slice-edges.result.now c.as_slice.result.now (c.len-last.result - 1) c.args.node = subst (λ (z : List ℕ). Loops c.args.graph.now c.args.levels.now.rounds c.args.levels.now.time c.as_slice-edges.result.now z (c.len-last.result - 1) c.args.node) (sym c.as_slice.ensures.value)
    (loops c.args.graph.now c.args.levels.now.rounds c.args.levels.now.time c.args.levels.now.rows.items c.requires.levels c.requires.sound (c.len-last.result - 1) c.args.node c.as_slice-edges.result.now c.in_ok-walk.walk.items c.as_slice-edges.ensures
    (omega (arith, c.len-last.ensures, c.args.levels.now.rows.ok.0)) c.requires.some c.requires.few c.requires.node c.requires.raised c.in_ok-walk.ensures) in
    omega (arith, s.back c.in-None.ensures, s.full, c.len-last.ensures, c.args.levels.now.rows.ok.0, c.requires.some)

pub best_of-best-requires-clause-numbers : goal.best_of-best-requires-clause-numbers
best_of-best-requires-clause-numbers c =
    let s : Loops c.args.graph.now c.args.levels.now.rounds c.args.levels.now.time c.as_slice-edges.result.now c.as_slice.result.now (c.len-last.result - 1) c.args.node = subst (λ (z : List ℕ). Loops c.args.graph.now c.args.levels.now.rounds c.args.levels.now.time c.as_slice-edges.result.now z (c.len-last.result - 1) c.args.node) (sym c.as_slice.ensures.value)
    (loops c.args.graph.now c.args.levels.now.rounds c.args.levels.now.time c.args.levels.now.rows.items c.requires.levels c.requires.sound (c.len-last.result - 1) c.args.node c.as_slice-edges.result.now c.in_ok-walk.walk.items c.as_slice-edges.ensures
    (omega (arith, c.len-last.ensures, c.args.levels.now.rows.ok.0)) c.requires.some c.requires.few c.requires.node c.requires.raised c.in_ok-walk.ensures) in
    let p = c.in-Some.ensures in
    let o : IsLoop c.args.graph.now c.args.levels.now.rounds c.args.levels.now.time c.in_ok-cycle-in-Some.cycle.items = s.part c.in-Some.part.start c.in-Some.part.end c.in_ok-cycle-in-Some.cycle.items p.0 p.1 p.2 p.3
    (c.in_ok-cycle-in-Some.ensures ∙ ap (λ (z : List ℕ). take (c.in-Some.part.end - c.in-Some.part.start) (drop c.in-Some.part.start z)) (c.as_slice-in-Some.ensures.value ∙ sym c.as_slice.ensures.value)) in
    subst (λ (z : List Edge). AreNumbers z c.in_ok-cycle-in-Some.cycle.items) (sym c.as_slice-edges.ensures) (numbers c.args.graph.now.edges c.in_ok-cycle-in-Some.cycle.items o.node o.node o.closed)

pub best_of-best-requires-clause-heavy : goal.best_of-best-requires-clause-heavy
best_of-best-requires-clause-heavy c =
    let s : Loops c.args.graph.now c.args.levels.now.rounds c.args.levels.now.time c.as_slice-edges.result.now c.as_slice.result.now (c.len-last.result - 1) c.args.node = subst (λ (z : List ℕ). Loops c.args.graph.now c.args.levels.now.rounds c.args.levels.now.time c.as_slice-edges.result.now z (c.len-last.result - 1) c.args.node) (sym c.as_slice.ensures.value)
    (loops c.args.graph.now c.args.levels.now.rounds c.args.levels.now.time c.args.levels.now.rows.items c.requires.levels c.requires.sound (c.len-last.result - 1) c.args.node c.as_slice-edges.result.now c.in_ok-walk.walk.items c.as_slice-edges.ensures
    (omega (arith, c.len-last.ensures, c.args.levels.now.rows.ok.0)) c.requires.some c.requires.few c.requires.node c.requires.raised c.in_ok-walk.ensures) in
    let p = c.in-Some.ensures in
    let o : IsLoop c.args.graph.now c.args.levels.now.rounds c.args.levels.now.time c.in_ok-cycle-in-Some.cycle.items = s.part c.in-Some.part.start c.in-Some.part.end c.in_ok-cycle-in-Some.cycle.items p.0 p.1 p.2 p.3
    (c.in_ok-cycle-in-Some.ensures ∙ ap (λ (z : List ℕ). take (c.in-Some.part.end - c.in-Some.part.start) (drop c.in-Some.part.start z)) (c.as_slice-in-Some.ensures.value ∙ sym c.as_slice.ensures.value)) in
    subst (λ (z : List Edge). 1 ≤ weights z c.in_ok-cycle-in-Some.cycle.items) (sym c.as_slice-edges.ensures) o.heavy

pub returns : goal.returns
returns c =
    let s : Loops c.args.graph.now c.args.levels.now.rounds c.args.levels.now.time c.as_slice-edges.result.now c.as_slice.result.now (c.len-last.result - 1) c.args.node = subst (λ (z : List ℕ). Loops c.args.graph.now c.args.levels.now.rounds c.args.levels.now.time c.as_slice-edges.result.now z (c.len-last.result - 1) c.args.node) (sym c.as_slice.ensures.value)
    (loops c.args.graph.now c.args.levels.now.rounds c.args.levels.now.time c.args.levels.now.rows.items c.requires.levels c.requires.sound (c.len-last.result - 1) c.args.node c.as_slice-edges.result.now c.in_ok-walk.walk.items c.as_slice-edges.ensures
    (omega (arith, c.len-last.ensures, c.args.levels.now.rows.ok.0)) c.requires.some c.requires.few c.requires.node c.requires.raised c.in_ok-walk.ensures) in
    let p = c.in-Some.ensures in
    let o : IsLoop c.args.graph.now c.args.levels.now.rounds c.args.levels.now.time c.in_ok-cycle-in-Some.cycle.items = s.part c.in-Some.part.start c.in-Some.part.end c.in_ok-cycle-in-Some.cycle.items p.0 p.1 p.2 p.3
    (c.in_ok-cycle-in-Some.ensures ∙ ap (λ (z : List ℕ). take (c.in-Some.part.end - c.in-Some.part.start) (drop c.in-Some.part.start z)) (c.as_slice-in-Some.ensures.value ∙ sym c.as_slice.ensures.value)) in
    let r = rated c.args.graph.now c.args.levels.now.rounds c.args.levels.now.time c.as_slice-edges.result.now c.in_ok-cycle-in-Some.cycle.items c.best_of-best.result c.requires.sound o c.as_slice-edges.ensures c.best_of-best.ensures.cycle c.best_of-best.ensures.rate in
    (r.best, r.gains)
