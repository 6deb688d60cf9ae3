use Rattle.std.proofs.Common.{◌≡◌, ◌+◌, ◌++◌, [], ℕ, List, Option, drop, length, refl, subst, sym, ap, ◌∙◌, arith, rules}
use Rattle.std.proofs.lemmas.List.{drop_all, length_push}
use Rattle.std.proofs.lemmas.Iterator.Consumers.{YieldsList-end, YieldsList-turn}
use Rattle.std.proofs.lemmas.Iterator.Adapters.{YieldsList-from_vec}
use Rattle.levels.specs.Visits.{visited, visits_of}
use Rattle.scenario_storage.specs.inside.Searches.{IsAnswerOf, IsSearch, IsSearchOf, answered_of}
use Rattle.scenario_storage.proofs.RatingsStayKnown.{best-kept, keeps-on}
use Rattle.scenario_storage.proofs.TurnsKeepSearch.{rest-more}
use Rattle.scenario_storage.proofs.members.take_in_all.Goals as goal

pub take_answer-requires-clause-answer : goal.take_answer-requires-clause-answer
take_answer-requires-clause-answer c =
    let t = YieldsList-turn (YieldsList-from_vec {s = c.into_iter-answered-iterator.result} c.args.answers.items (search rules) (search rules))
    c.loop-answered.yielded c.loop-answered.answered-iterator c.loop-answered.yielded_by c.next.result c.next.new.self c.in-Some.answered c.in-Some.is c.next.ensures.steps in (
      c.requires.answers.0,
      best-kept c.requires.answers.0 c.args.total c.args.search.now.points.items c.loop-answered.search.points.items c.loop-answered.invariant.1 c.requires.answers.1,
      subst (IsAnswerOf c.args.plan.now.file.now c.args.plan.now.limits c.args.total c.requires.answers.0) (sym t.1) (c.requires.answers.2 (length c.loop-answered.yielded) c.in-Some.answered t.0),
    )

pub take_answer-requires-clause-search : goal.take_answer-requires-clause-search
take_answer-requires-clause-search c =
    let t = YieldsList-turn (YieldsList-from_vec {s = c.into_iter-answered-iterator.result} c.args.answers.items (search rules) (search rules))
    c.loop-answered.yielded c.loop-answered.answered-iterator c.loop-answered.yielded_by c.next.result c.next.new.self c.in-Some.answered c.in-Some.is c.next.ensures.steps in (
      answered_of (drop (length c.loop-answered.yielded + 1) c.args.answers.items),
      subst (λ (taken : List (List (Option ℕ))). IsSearch c.args.plan.now.file.now c.args.plan.now.limits (c.args.total + 1) taken c.loop-answered.search)
          (rest-more c.args.answers.items (length c.loop-answered.yielded) c.in-Some.answered t.0 t.1)
          (c.loop-answered.invariant.0 (visited (visits_of c.requires.search.entries) ++ answered_of c.args.answers.items) (c.requires.search, refl)).0,
    )

pub loop-answered-preserved : goal.loop-answered-preserved
loop-answered-preserved c =
    let t = YieldsList-turn (YieldsList-from_vec {s = c.into_iter-answered-iterator.result} c.args.answers.items (search rules) (search rules))
    c.loop-answered.yielded c.loop-answered.answered-iterator c.loop-answered.yielded_by c.next.result c.next.new.self c.in-Some.answered c.in-Some.is c.next.ensures.steps in
    let more = rest-more c.args.answers.items (length c.loop-answered.yielded) c.in-Some.answered t.0 t.1 in (
      λ all of.
          subst (λ (n : ℕ). IsSearchOf c.args.plan.now.file.now c.args.plan.now.limits (c.args.total + 1) all (answered_of (drop n c.args.answers.items)) c.take_answer.new.search) (sym (length_push c.loop-answered.yielded c.in-Some.answered))
          (c.in_ok-take_answer.ensures.search (answered_of (drop (length c.loop-answered.yielded + 1) c.args.answers.items)) all
          (subst (λ (taken : List (List (Option ℕ))). IsSearchOf c.args.plan.now.file.now c.args.plan.now.limits (c.args.total + 1) all taken c.loop-answered.search) more (c.loop-answered.invariant.0 all of))),
      keeps-on c.args.total c.args.search.now.points.items c.loop-answered.search.points.items c.take_answer.new.search.points.items c.loop-answered.invariant.1 c.in_ok-take_answer.ensures.keeps,
      c.in_ok-take_answer.ensures.off ∙ c.loop-answered.invariant.2,
    )

pub returns-clause-search : goal.returns-clause-search
returns-clause-search c = λ all of.
    let end = YieldsList-end (YieldsList-from_vec {s = c.into_iter-answered-iterator.result} c.args.answers.items (search rules) (search rules))
    c.loop-answered.yielded c.loop-answered.answered-iterator c.loop-answered.yielded_by c.next.result c.next.new.self c.in-None.is c.next.ensures.steps in
    let none : answered_of (drop (length c.loop-answered.yielded) c.args.answers.items) ≡ [] = ap answered_of (drop_all (length c.loop-answered.yielded) c.args.answers.items (omega (arith, end.1))) in
    subst (λ (taken : List (List (Option ℕ))). IsSearchOf c.args.plan.now.file.now c.args.plan.now.limits (c.args.total + 1) all taken c.loop-answered.search) none (c.loop-answered.invariant.0 all of)
