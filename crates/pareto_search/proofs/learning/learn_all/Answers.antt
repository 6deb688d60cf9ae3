use Rattle.std.proofs.Common.{◌≡◌, ◌+◌, ◌∷◌, ℕ, List, drop, length, map-id, subst, sym, ◌∙◌, arith, rules}
use Rattle.std.proofs.lemmas.List.{length_push}
use Rattle.std.proofs.lemmas.Iterator.Consumers.{YieldsList-end, YieldsList-turn}
use Rattle.std.proofs.lemmas.Iterator.Adapters.{YieldsList-from_vec}
use Rattle.evaluations.specs.declared.evaluating.Answered.{Answered}
use Rattle.evaluations.specs.Evaluating.{IsEvaluation}
use Rattle.pareto_search.specs.inside.Learning.{AreLearned, AreNew, answered_of}
use Rattle.pareto_search.proofs.LearnedMore.{first-new, learned-more, learned-none, many-more, rest-more, rest-new}
use Rattle.pareto_search.proofs.learning.learn_all.Goals as goal

pub loop-answered-init : goal.loop-answered-init
loop-answered-init g c = record {
  learned = learned-none c.args.known.now;
  many = omega arith;
  rest = c.requires.new;
  known = λ best answers known. known;
}

pub learn-requires-clause-new : goal.learn-requires-clause-new
learn-requires-clause-new g c =
    let net = g.F.Firing.net c.args.base.now.exploring.now.net.now in
    let limits = c.args.base.now.exploring.now.limits in
    let corner = c.args.base.now.corner.now.capacities in
    let lattice = c.args.base.now.lattice.now in
    let n = length c.loop-answered.yielded in
    let t = YieldsList-turn (YieldsList-from_vec {s = c.into_iter-answered-iterator.result} c.args.answers.items (search rules) (search rules))
    c.loop-answered.yielded c.loop-answered.answered-iterator c.loop-answered.yielded_by c.next.result c.next.new.self c.in-Some.answered c.in-Some.is c.next.ensures.steps in
    first-new net limits corner lattice c.loop-answered.known.tellings.items c.in-Some.answered.capacities.capacities (answered_of (drop (n + 1) c.args.answers.items))
    (subst (AreNew net limits corner lattice c.loop-answered.known.tellings.items) (rest-more c.args.answers.items n c.in-Some.answered t.0 t.1) c.loop-answered.invariant.rest)

pub learn-requires-clause-answer : goal.learn-requires-clause-answer
learn-requires-clause-answer g c =
    let net = g.F.Firing.net c.args.base.now.exploring.now.net.now in
    let t = YieldsList-turn (YieldsList-from_vec {s = c.into_iter-answered-iterator.result} c.args.answers.items (search rules) (search rules))
    c.loop-answered.yielded c.loop-answered.answered-iterator c.loop-answered.yielded_by c.next.result c.next.new.self c.in-Some.answered c.in-Some.is c.next.ensures.steps in
    let best = c.requires.answers.0 in
    (best, subst (λ (a : Answered). IsEvaluation net c.args.base.now.exploring.now.limits.states best a.capacities a.answer) (sym t.1) (c.requires.answers.1 (length c.loop-answered.yielded) c.in-Some.answered t.0))

pub learn-requires-clause-few : goal.learn-requires-clause-few
learn-requires-clause-few g c =
    let t = YieldsList-turn (YieldsList-from_vec {s = c.into_iter-answered-iterator.result} c.args.answers.items (search rules) (search rules))
    c.loop-answered.yielded c.loop-answered.answered-iterator c.loop-answered.yielded_by c.next.result c.next.new.self c.in-Some.answered c.in-Some.is c.next.ensures.steps in
    omega (arith, t.0, c.loop-answered.invariant.many, c.requires.few)

pub loop-answered-preserved : goal.loop-answered-preserved
loop-answered-preserved g c =
    let net = g.F.Firing.net c.args.base.now.exploring.now.net.now in
    let limits = c.args.base.now.exploring.now.limits in
    let corner = c.args.base.now.corner.now.capacities in
    let lattice = c.args.base.now.lattice.now in
    let answers = c.args.answers.items in
    let done = c.loop-answered.yielded in
    let a = c.in-Some.answered in
    let old = c.loop-answered.known in
    let new = c.learn.new.known in
    let t = YieldsList-turn (YieldsList-from_vec {s = c.into_iter-answered-iterator.result} c.args.answers.items (search rules) (search rules))
    c.loop-answered.yielded c.loop-answered.answered-iterator c.loop-answered.yielded_by c.next.result c.next.new.self c.in-Some.answered c.in-Some.is c.next.ensures.steps in
    let learned = c.in_ok-learn.ensures.learned in
    let was : AreNew net limits corner lattice old.tellings.items (a.capacities.capacities ∷ answered_of (drop (length done + 1) answers)) =
    subst (AreNew net limits corner lattice old.tellings.items) (rest-more answers (length done) a t.0 t.1) c.loop-answered.invariant.rest in
    record {
      learned = learned-more done a c.args.known.now old new c.loop-answered.invariant.learned learned;
      many = many-more a old new (length c.args.known.now.tellings.items) done learned c.loop-answered.invariant.many;
      rest = subst (λ (n : ℕ). AreNew net limits corner lattice new.tellings.items (answered_of (drop n answers))) (sym (length_push done a)) (rest-new net limits corner lattice a old new (answered_of (drop (length done + 1) answers)) was learned);
      known = λ best all known. c.in_ok-learn.ensures.known best
          (subst (λ (x : Answered). IsEvaluation net limits.states best x.capacities x.answer) (sym t.1) (all (length done) a t.0))
          (c.loop-answered.invariant.known best all known);
    }

pub returns-clause-learned : goal.returns-clause-learned
returns-clause-learned g c =
    let end = YieldsList-end (YieldsList-from_vec {s = c.into_iter-answered-iterator.result} c.args.answers.items (search rules) (search rules))
    c.loop-answered.yielded c.loop-answered.answered-iterator c.loop-answered.yielded_by c.next.result c.next.new.self c.in-None.is c.next.ensures.steps in
    let all : c.loop-answered.yielded ≡ c.args.answers.items = sym (map-id c.loop-answered.yielded) ∙ end.0 in
    subst (λ (xs : List Answered). AreLearned xs c.args.known.now c.loop-answered.known) all c.loop-answered.invariant.learned
