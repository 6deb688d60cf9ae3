use Rattle.std.proofs.Common.{◌≡◌, ◌+◌, ℕ, List, Option, [], sym, ap, subst, arith}
use Rattle.std.proofs.lemmas.Result.{err_from_is_err_and}
use Rattle.std.proofs.lemmas.List.{length-map}
use Rattle.sd_base.specs.Counter.{Tally}
use Rattle.levels.specs.declared.found.Found.{Found}
use Rattle.levels.specs.Frontiers.{distributions_of}
use Rattle.explore.specs.inside.Searches.{IsSearch}
use Rattle.explore.proofs.LevelMembersEnter.{turn-entered}
use Rattle.explore.proofs.VisitsMatchMembers.{counts-few, search-few}
use Rattle.explore.proofs.TurnsTakeLevels.{answered-level, answers-long, best-of, cycles-few, level-answers, sum-few}
use Rattle.explore.proofs.search.take_turn.Goals as goal

pub take_in_all-requires-clause-answers : goal.take_in_all-requires-clause-answers
take_in_all-requires-clause-answers g c =
    let net = g.F.Firing.net c.args.exploring.now.net.now in
    let answers = c.in_ok-answers.ensures.answers in (
      answers.0,
      best-of net c.args.exploring.now.limits c.args.level c.args.search.now answers.0 c.requires.turn answers.1,
      level-answers net c.args.exploring.now.limits c.args.level.total answers.0 c.in_ok-answers.answers.items c.args.level.visits.items c.in_ok-answers.ensures.order c.requires.turn.totals answers.2,
    )

pub take_in_all-requires-clause-search : goal.take_in_all-requires-clause-search
take_in_all-requires-clause-search g c =
    subst (λ (taken : List (List (Option ℕ))). IsSearch (g.F.Firing.net c.args.exploring.now.net.now) c.args.exploring.now.limits (c.args.level.total + 1) taken c.args.search.now)
    (sym (answered-level c.in_ok-answers.answers.items c.args.level.visits.items c.in_ok-answers.ensures.order)) c.requires.turn.search

pub returns-in_err-answers-clause-most : goal.returns-in_err-answers-clause-most
returns-in_err-answers-clause-most g c =
    let p = err_from_is_err_and c.from_residual.result c.from_residual.ensures.1 in
    let s = c.args.search.now in
    let same : c.run_level.new.steps.count ≡ c.args.steps.now.count = ap (λ (t : Tally). t.count) c.in_err-answers.ensures.err in
    rw p.1 (λ before was.
    counts-few (g.F.Firing.net c.args.exploring.now.net.now) c.requires.exploring.explorable c.args.exploring.now.limits (c.args.level.total + 1) (distributions_of c.args.level.visits.items) c.args.search.now c.requires.turn.search before c.run_level.new.steps.count
    (omega (arith, was, same, cycles-few s.members.items)))

pub returns-in_err-take_in_all-clause-most : goal.returns-in_err-take_in_all-clause-most
returns-in_err-take_in_all-clause-most g c =
    let p = err_from_is_err_and c.from_residual-in_err-take_in_all.result c.from_residual-in_err-take_in_all.ensures.1 in
    let s = c.args.search.now in
    let fs = c.args.level.visits.items in
    let answers = c.in_ok-answers.answers.items in
    let long = answers-long answers fs c.in_ok-answers.ensures.order in
    let mapped = length-map fs (λ (f : Found (Option ℕ)). f.capacities.capacities) in
    rw p.1 (λ before was.
    counts-few (g.F.Firing.net c.args.exploring.now.net.now) c.requires.exploring.explorable c.args.exploring.now.limits (c.args.level.total + 1) (distributions_of c.args.level.visits.items) c.args.search.now c.requires.turn.search before c.run_level.new.steps.count
    (omega (arith, was, c.in_ok-answers.ensures.most, cycles-few s.members.items, sum-few answers, long, mapped)))

pub returns-clause-stands : goal.returns-clause-stands
returns-clause-stands g c = (c.args.level.total + 1, c.in_ok-take_in_all.ensures.search)

pub returns-clause-more : goal.returns-clause-more
returns-clause-more g c = omega (arith, c.in_ok-take_in_all.ensures.many, c.requires.turn.some, answers-long c.in_ok-answers.answers.items c.args.level.visits.items c.in_ok-answers.ensures.order)

pub returns-clause-few : goal.returns-clause-few
returns-clause-few g c =
    let few = search-few (g.F.Firing.net c.args.exploring.now.net.now) c.requires.exploring.explorable c.args.exploring.now.limits (c.args.level.total + 1) [] c.take_in_all.new.search c.in_ok-take_in_all.ensures.search in
    omega (arith, few)

pub returns-clause-entered : goal.returns-clause-entered
returns-clause-entered g c =
    turn-entered (g.F.Firing.net c.args.exploring.now.net.now) c.args.exploring.now.limits c.args.level c.args.search.now c.requires.turn (g.G.Gate.entered c.args.gate.now) c.in_ok-answers.answers.items c.take_in_all.new.search.members.items
    c.in_ok-answers.ensures.order c.in_ok-answers.ensures.entered c.in_ok-take_in_all.ensures.capacities
