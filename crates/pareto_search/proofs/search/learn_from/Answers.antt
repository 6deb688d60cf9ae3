use Rattle.std.proofs.Common.{◌≡◌, ℕ, ◌+◌, ◌≤◌, List, length, map, refl, sym, ap, ◌∙◌, subst, arith, rules}
use Rattle.std.specs.Prelude.{All, slice_index_or}
use Rattle.std.proofs.lemmas.Bool.{false≢true}
use Rattle.std.proofs.lemmas.Result.{err_from_is_err_and}
use Rattle.sd_base.specs.Counter.{Tally}
use Rattle.pareto_search.specs.declared.known.Known.{Known}
use Rattle.pareto_search.specs.declared.stops.Stop.{Stop}
use Rattle.pareto_search.specs.inside.Knowledge.{IsTold}
use Rattle.pareto_search.specs.inside.Turns.{EntersOn, IsAbsorbed}
use Rattle.pareto_search.specs.inside.Vectors.{bounded_by}
use Rattle.pareto_search.proofs.FoundTellings.{known-counts}
use Rattle.pareto_search.proofs.StopsAreNew.{absorbed-told, answers-new, more-low}
use Rattle.pareto_search.proofs.LearnedCounts.{AreAnswersOf, answers-many, more-many, stops-counts, stops-spent}
use Rattle.pareto_search.proofs.LevelEntered.{stops-enter}
use Rattle.pareto_search.proofs.LearningKeepsTellings.{onward-on, onward-told}
use Rattle.pareto_search.proofs.search.learn_from.Goals as goal

pub returns-then-not-has_room-clause-refused : goal.returns-then-not-has_room-clause-refused
returns-then-not-has_room-clause-refused g c =
    let from : c.len-from.result ≡ length c.args.searching.now.known.tellings.items = search rules in
    let many : c.len.result ≡ length c.args.stops.items = search rules in
    stops-spent (g.F.Firing.net c.args.base.now.exploring.now.net.now) c.args.base.now.exploring.now.limits c.args.base.now.corner.now.capacities c.args.base.now.lattice.now c.args.total c.args.searching.now c.requires.standing c.args.stops.items c.requires.stops
    (λ room. false≢true (c.if-not-has_room.ensures.1 (omega (arith, room, from, many))))

pub returns-then-not-has_room-clause-most : goal.returns-then-not-has_room-clause-most
returns-then-not-has_room-clause-most g c = λ before was.
    known-counts (g.F.Firing.net c.args.base.now.exploring.now.net.now) c.args.base.now.exploring.now.limits c.args.base.now.corner.now.capacities c.args.base.now.lattice.now c.args.searching.now.below c.args.searching.now.known c.requires.standing.known before c.args.steps.now.count
    (omega (arith, was))

pub evaluate_stops-requires-clause-told : goal.evaluate_stops-requires-clause-told
evaluate_stops-requires-clause-told g c κs within =
    subst (All (IsTold (g.F.Firing.net c.args.base.now.exploring.now.net.now) c.args.base.now.exploring.now.limits c.args.base.now.corner.now.capacities c.args.base.now.lattice.now)) (sym c.as_slice-2.ensures.value) c.requires.standing.known.told

pub learn_all-requires-clause-new : goal.learn_all-requires-clause-new
learn_all-requires-clause-new g c =
    let corner = c.args.base.now.corner.now.capacities in
    let order : AreAnswersOf c.args.base.now.corner.now.capacities c.args.stops.items c.in_ok-answers.answers.items = c.in_ok-answers.ensures.order ∙ ap (map (λ (s : Stop). bounded_by corner s.capacities)) c.as_slice-3.ensures.value in
    answers-new (g.F.Firing.net c.args.base.now.exploring.now.net.now) c.args.base.now.exploring.now.limits c.args.base.now.corner.now.capacities c.args.base.now.lattice.now c.args.searching.now.known.tellings.items c.args.total c.args.stops.items c.requires.stops c.in_ok-answers.answers.items order

pub learn_all-requires-clause-answers : goal.learn_all-requires-clause-answers
learn_all-requires-clause-answers g c = (c.args.searching.now.below, c.in_ok-answers.ensures.answers)

pub learn_all-requires-clause-few : goal.learn_all-requires-clause-few
learn_all-requires-clause-few g c =
    let corner = c.args.base.now.corner.now.capacities in
    let order : AreAnswersOf c.args.base.now.corner.now.capacities c.args.stops.items c.in_ok-answers.answers.items = c.in_ok-answers.ensures.order ∙ ap (map (λ (s : Stop). bounded_by corner s.capacities)) c.as_slice-3.ensures.value in
    let from : c.len-from.result ≡ length c.args.searching.now.known.tellings.items = search rules in
    let many : c.len.result ≡ length c.args.stops.items = search rules in
    omega (arith, from, many, c.if-not-has_room.ensures, answers-many corner c.args.stops.items c.in_ok-answers.answers.items order)

pub absorb-requires-clause-absorbed : goal.absorb-requires-clause-absorbed
absorb-requires-clause-absorbed g c =
    let net = g.F.Firing.net c.args.base.now.exploring.now.net.now in
    let limits = c.args.base.now.exploring.now.limits in
    let corner = c.args.base.now.corner.now.capacities in
    let lattice = c.args.base.now.lattice.now in
    let s = c.args.searching.now in
    let learned = c.in_ok-learn_all.ensures.learned in
    let order : AreAnswersOf c.args.base.now.corner.now.capacities c.args.stops.items c.in_ok-answers.answers.items = c.in_ok-answers.ensures.order ∙ ap (map (λ (x : Stop). bounded_by corner x.capacities)) c.as_slice-3.ensures.value in
    let from : length c.args.searching.now.known.tellings.items ≡ c.len-from.result = search rules in
    subst (λ (n : ℕ). IsAbsorbed net limits corner lattice c.args.total n (record { bounds = s.bounds; known = c.learn_all.new.known; points = s.points; below = s.below; due = s.due })) from
    (absorbed-told net limits corner lattice c.args.total s c.requires.standing c.learn_all.new.known learned.more learned.added (c.in_ok-learn_all.ensures.known s.below c.in_ok-answers.ensures.answers c.requires.standing.known)
    (more-low net limits corner lattice s.known.tellings.items c.args.total c.args.stops.items c.requires.stops c.in_ok-answers.answers.items learned.more order learned.vectors))

pub returns-clause-onward : goal.returns-clause-onward
returns-clause-onward g c =
    let learned = c.in_ok-learn_all.ensures.learned in
    onward-on c.args.base.now.lattice.now c.args.total c.args.searching.now _ c.absorb.new.self (onward-told c.args.base.now.lattice.now c.args.total c.args.searching.now c.learn_all.new.known learned.more learned.added) c.in_ok-absorb.ensures.onward

pub returns-clause-more : goal.returns-clause-more
returns-clause-more g c =
    let corner = c.args.base.now.corner.now.capacities in
    let order : AreAnswersOf c.args.base.now.corner.now.capacities c.args.stops.items c.in_ok-answers.answers.items = c.in_ok-answers.ensures.order ∙ ap (map (λ (s : Stop). bounded_by corner s.capacities)) c.as_slice-3.ensures.value in
    let same : length c.absorb.new.self.known.tellings.items ≡ length c.learn_all.new.known.tellings.items = ap (λ k. length k.tellings.items) c.absorb.ensures.known in
    omega (arith, same, c.requires.stops.some, more-many corner c.args.stops.items c.in_ok-answers.answers.items c.args.searching.now.known c.learn_all.new.known order c.in_ok-learn_all.ensures.learned)

pub returns-in_err-answers-clause-most : goal.returns-in_err-answers-clause-most
returns-in_err-answers-clause-most g c =
    let p = err_from_is_err_and c.from_residual.result c.from_residual.ensures.1 in
    let same : c.evaluate_stops.new.steps.count ≡ c.args.steps.now.count = ap (λ (t : Tally). t.count) c.in_err-answers.ensures.err in
    rw p.1 (λ before was.
    known-counts (g.F.Firing.net c.args.base.now.exploring.now.net.now) c.args.base.now.exploring.now.limits c.args.base.now.corner.now.capacities c.args.base.now.lattice.now c.args.searching.now.below c.args.searching.now.known c.requires.standing.known before c.evaluate_stops.new.steps.count
    (omega (arith, was, same)))

pub returns-in_err-learn_all-clause-most : goal.returns-in_err-learn_all-clause-most
returns-in_err-learn_all-clause-most g c =
    let p = err_from_is_err_and c.from_residual-in_err-learn_all.result c.from_residual-in_err-learn_all.ensures.1 in
    let corner = c.args.base.now.corner.now.capacities in
    let order : AreAnswersOf c.args.base.now.corner.now.capacities c.args.stops.items c.in_ok-answers.answers.items = c.in_ok-answers.ensures.order ∙ ap (map (λ (s : Stop). bounded_by corner s.capacities)) c.as_slice-3.ensures.value in
    let from : c.len-from.result ≡ length c.args.searching.now.known.tellings.items = search rules in
    let many : c.len.result ≡ length c.args.stops.items = search rules in
    let room : length c.args.searching.now.known.tellings.items + length c.args.stops.items ≤ c.args.base.now.exploring.now.limits.distributions = omega (arith, from, many, c.if-not-has_room.ensures) in
    rw p.1 (λ before was.
    stops-counts (g.F.Firing.net c.args.base.now.exploring.now.net.now) c.args.base.now.exploring.now.limits corner c.args.base.now.lattice.now c.args.total c.args.searching.now c.requires.standing c.args.stops.items c.requires.stops before c.args.steps.now.count c.evaluate_stops.new.steps.count c.in_ok-answers.answers.items order
    room was c.in_ok-answers.ensures.most)

pub returns-in_err-absorb-clause-most : goal.returns-in_err-absorb-clause-most
returns-in_err-absorb-clause-most g c =
    let p = err_from_is_err_and c.from_residual-in_err-absorb.result c.from_residual-in_err-absorb.ensures.1 in
    let corner = c.args.base.now.corner.now.capacities in
    let order : AreAnswersOf c.args.base.now.corner.now.capacities c.args.stops.items c.in_ok-answers.answers.items = c.in_ok-answers.ensures.order ∙ ap (map (λ (s : Stop). bounded_by corner s.capacities)) c.as_slice-3.ensures.value in
    let from : c.len-from.result ≡ length c.args.searching.now.known.tellings.items = search rules in
    let many : c.len.result ≡ length c.args.stops.items = search rules in
    let room : length c.args.searching.now.known.tellings.items + length c.args.stops.items ≤ c.args.base.now.exploring.now.limits.distributions = omega (arith, from, many, c.if-not-has_room.ensures) in
    rw p.1 (λ before was.
    stops-counts (g.F.Firing.net c.args.base.now.exploring.now.net.now) c.args.base.now.exploring.now.limits corner c.args.base.now.lattice.now c.args.total c.args.searching.now c.requires.standing c.args.stops.items c.requires.stops before c.args.steps.now.count c.evaluate_stops.new.steps.count c.in_ok-answers.answers.items order
    room was c.in_ok-answers.ensures.most)

pub returns-clause-entered : goal.returns-clause-entered
returns-clause-entered g c =
    let net = g.F.Firing.net c.args.base.now.exploring.now.net.now in
    let entered = g.G.Gate.entered c.args.gate.now in
    let corner = c.args.base.now.corner.now.capacities in
    let old = c.args.searching.now.known.tellings.items in
    let order : AreAnswersOf c.args.base.now.corner.now.capacities c.args.stops.items c.in_ok-answers.answers.items = c.in_ok-answers.ensures.order ∙ ap (map (λ (x : Stop). bounded_by corner x.capacities)) c.as_slice-3.ensures.value in
    subst (λ (k : Known). EntersOn net corner entered old k.tellings.items) (sym c.absorb.ensures.known)
    (stops-enter net c.args.base.now.exploring.now.limits corner c.args.base.now.lattice.now c.requires.base.stands old c.args.total c.args.stops.items c.requires.stops c.requires.level c.level_of-level.result
    (λ s. subst (λ (xs : List Stop). c.level_of-level.result ≡ (slice_index_or xs 0 s).storage) c.as_slice.ensures.value (c.level_of-level.ensures s))
    entered c.in_ok-answers.answers.items order c.in_ok-answers.ensures.entered c.args.searching.now.known c.learn_all.new.known refl c.in_ok-learn_all.ensures.learned)
