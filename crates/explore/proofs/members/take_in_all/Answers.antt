use Rattle.std.proofs.Common.{◌≡◌, ◌+◌, ◌++◌, ◌∷◌, [], ℕ, List, Option, drop, length, map-id, subst, sym, ap, ◌∙◌, arith, rules}
use Rattle.std.proofs.lemmas.List.{drop_all, length_push}
use Rattle.std.proofs.lemmas.Iterator.Consumers.{YieldsList-end, YieldsList-turn}
use Rattle.std.proofs.lemmas.Iterator.Adapters.{YieldsList-from_vec}
use Rattle.evaluations.specs.declared.evaluating.Answered.{Answered}
use Rattle.evaluations.specs.Evaluating.{least_loops, most_loops, sum_of}
use Rattle.explore.specs.inside.Searches.{IsAnswerOf, IsSearch, answered_of}
use Rattle.explore.specs.Explorations.{capacities_of, cycles_in}
use Rattle.explore.specs.inside.Members.{IsBest}
use Rattle.explore.proofs.MembersStayKnown.{best-more}
use Rattle.explore.proofs.AnswersAddMembers.{capacities-same, cycles-same, many-same, rest-more}
use Rattle.explore.proofs.members.take_in_all.Goals as goal

pub take_answer-requires-clause-answer : goal.take_answer-requires-clause-answer
take_answer-requires-clause-answer g c =
    let t = YieldsList-turn (YieldsList-from_vec {s = c.into_iter-answered-iterator.result} c.args.answers.items (search rules) (search rules))
    c.loop-answered.yielded c.loop-answered.answered-iterator c.loop-answered.yielded_by c.next.result c.next.new.self c.in-Some.answered c.in-Some.is c.next.ensures.steps in (
      c.requires.answers.0,
      c.loop-answered.invariant.4 c.requires.answers.0 c.requires.answers.1,
      subst (IsAnswerOf (g.F.Firing.net c.args.exploring.now.net.now) c.args.exploring.now.limits c.args.total c.requires.answers.0) (sym t.1) (c.requires.answers.2 (length c.loop-answered.yielded) c.in-Some.answered t.0),
    )

pub take_answer-requires-clause-search : goal.take_answer-requires-clause-search
take_answer-requires-clause-search g c =
    let t = YieldsList-turn (YieldsList-from_vec {s = c.into_iter-answered-iterator.result} c.args.answers.items (search rules) (search rules))
    c.loop-answered.yielded c.loop-answered.answered-iterator c.loop-answered.yielded_by c.next.result c.next.new.self c.in-Some.answered c.in-Some.is c.next.ensures.steps in (
      answered_of (drop (length c.loop-answered.yielded + 1) c.args.answers.items),
      subst (λ (taken : List (List (Option ℕ))). IsSearch (g.F.Firing.net c.args.exploring.now.net.now) c.args.exploring.now.limits (c.args.total + 1) taken c.loop-answered.search)
          (rest-more c.args.answers.items (length c.loop-answered.yielded) c.in-Some.answered t.0 t.1) c.loop-answered.invariant.0,
    )

pub loop-answered-preserved : goal.loop-answered-preserved
loop-answered-preserved g c =
    let t = YieldsList-turn (YieldsList-from_vec {s = c.into_iter-answered-iterator.result} c.args.answers.items (search rules) (search rules))
    c.loop-answered.yielded c.loop-answered.answered-iterator c.loop-answered.yielded_by c.next.result c.next.new.self c.in-Some.answered c.in-Some.is c.next.ensures.steps in
    let member = c.in_ok-take_answer.ensures.member in
    let was : IsSearch (g.F.Firing.net c.args.exploring.now.net.now) c.args.exploring.now.limits (c.args.total + 1) (c.in-Some.answered.capacities.capacities ∷ answered_of (drop (length c.loop-answered.yielded + 1) c.args.answers.items)) c.loop-answered.search =
    subst (λ (taken : List (List (Option ℕ))). IsSearch (g.F.Firing.net c.args.exploring.now.net.now) c.args.exploring.now.limits (c.args.total + 1) taken c.loop-answered.search)
    (rest-more c.args.answers.items (length c.loop-answered.yielded) c.in-Some.answered t.0 t.1) c.loop-answered.invariant.0 in (
      subst (λ (n : ℕ). IsSearch (g.F.Firing.net c.args.exploring.now.net.now) c.args.exploring.now.limits (c.args.total + 1) (answered_of (drop n c.args.answers.items)) c.take_answer.new.search) (sym (length_push c.loop-answered.yielded c.in-Some.answered))
          (c.in_ok-take_answer.ensures.search (answered_of (drop (length c.loop-answered.yielded + 1) c.args.answers.items)) was),
      many-same c.args.search.now.members.items c.loop-answered.search.members.items c.take_answer.new.search.members.items c.loop-answered.yielded c.in-Some.answered member c.loop-answered.invariant.1,
      cycles-same least_loops c.args.search.now.members.items c.loop-answered.search.members.items c.take_answer.new.search.members.items c.loop-answered.yielded c.in-Some.answered member member.least c.loop-answered.invariant.2,
      cycles-same most_loops c.args.search.now.members.items c.loop-answered.search.members.items c.take_answer.new.search.members.items c.loop-answered.yielded c.in-Some.answered member member.most c.loop-answered.invariant.3,
      λ best was. subst (IsBest (g.F.Firing.net c.args.exploring.now.net.now) best c.args.total) (sym member.added) (best-more (g.F.Firing.net c.args.exploring.now.net.now) best c.args.total c.loop-answered.search.members.items member.member (c.loop-answered.invariant.4 best was)),
      capacities-same c.args.search.now.members.items c.loop-answered.search.members.items c.take_answer.new.search.members.items c.loop-answered.yielded c.in-Some.answered member c.loop-answered.invariant.5,
    )

pub returns : goal.returns
returns g c =
    let end = YieldsList-end (YieldsList-from_vec {s = c.into_iter-answered-iterator.result} c.args.answers.items (search rules) (search rules))
    c.loop-answered.yielded c.loop-answered.answered-iterator c.loop-answered.yielded_by c.next.result c.next.new.self c.in-None.is c.next.ensures.steps in
    let all : c.loop-answered.yielded ≡ c.args.answers.items = sym (map-id c.loop-answered.yielded) ∙ end.0 in
    let none : answered_of (drop (length c.loop-answered.yielded) c.args.answers.items) ≡ [] = ap answered_of (drop_all (length c.loop-answered.yielded) c.args.answers.items (omega (arith, end.1))) in
    record {
      search = subst (λ (taken : List (List (Option ℕ))). IsSearch (g.F.Firing.net c.args.exploring.now.net.now) c.args.exploring.now.limits (c.args.total + 1) taken c.loop-answered.search) none c.loop-answered.invariant.0;
      capacities = subst (λ (xs : List Answered). capacities_of c.loop-answered.search.members.items ≡ capacities_of c.args.search.now.members.items ++ answered_of xs) all c.loop-answered.invariant.5;
      many = omega (arith, end.1, c.loop-answered.invariant.1);
      least = subst (λ (xs : List Answered). cycles_in c.loop-answered.search.members.items ≡ cycles_in c.args.search.now.members.items + sum_of least_loops xs) all c.loop-answered.invariant.2;
      most = subst (λ (xs : List Answered). cycles_in c.loop-answered.search.members.items ≡ cycles_in c.args.search.now.members.items + sum_of most_loops xs) all c.loop-answered.invariant.3;
      refused = tt;
    }
