use Rattle.std.proofs.Common.{◌≡◌, ◌++◌, ◌∷◌, [], All, length, map, map-id, subst, sym, ap, ◌∙◌, arith, rules}
use Rattle.std.specs.Prelude.{Option, ℕ}
use Rattle.std.proofs.lemmas.List.{length_push, map-append}
use Rattle.std.proofs.lemmas.Iterator.Consumers.{YieldsList-end, YieldsList-turn}
use Rattle.std.proofs.lemmas.Iterator.Adapters.{YieldsList-from_vec}
use Rattle.std.proofs.lemmas.List.Elements.{All-push}
use Rattle.liveness.specs.RoundAnswers.{AreReachedCounts}
use Rattle.storage.specs.BoundedNets.{bound}
use Rattle.storage.specs.declared.distribution.Distribution.{Distribution}
use Rattle.guide.specs.Evaluations.{IsEvaluable}
use Rattle.levels.specs.declared.found.Found.{Found}
use Rattle.evaluations.specs.declared.evaluating.Visit.{Visit}
use Rattle.evaluations.specs.Evaluating.{IsVisitable}
use Rattle.explore.specs.inside.Hints.{IsEvaluableFrom}
use Rattle.explore.proofs.level.fill.Goals as goal

pub loop-found-preserved : goal.loop-found-preserved
loop-found-preserved g c =
    let net = g.F.Firing.net c.args.exploring.now.net.now in
    let P : Visit → Type 0 = λ v. IsVisitable net v.capacities v.counts.now in
    let f : Visit → Distribution = λ v. v.capacities in
    let k : Found (Option ℕ) → Distribution = λ x. x.capacities in
    let found = c.in-Some.found in
    let turn = YieldsList-turn (YieldsList-from_vec {s = c.into_iter-found-iterator.result} c.args.taken.items (search rules) (search rules))
    c.loop-found.yielded c.loop-found.found-iterator c.loop-found.yielded_by c.next.result c.next.new.self c.in-Some.found c.in-Some.is c.next.ensures.steps in
    let from : IsEvaluableFrom (g.F.Firing.net c.args.exploring.now.net.now) c.args.exploring.now.limits.states c.args.members.now c.in-Some.found =
    subst (IsEvaluableFrom net c.args.exploring.now.limits.states c.args.members.now) (sym turn.1) (c.requires.fits (length c.loop-found.yielded) c.in-Some.found turn.0) in
    let fits : IsEvaluable (g.F.Firing.net c.args.exploring.now.net.now) c.into_capacities.result.capacities = subst (λ (d : Distribution). IsEvaluable net d.capacities) (sym c.into_capacities.ensures) from.fits in
    let reached : AreReachedCounts (bound (g.F.Firing.net c.args.exploring.now.net.now) c.into_capacities.result.capacities) c.led_to-counts.result.now = subst (λ (d : Distribution). AreReachedCounts (bound net d.capacities) c.led_to-counts.result.now) (sym c.into_capacities.ensures) c.led_to-counts.ensures in
    let pushed : Visit = record { capacities = c.into_capacities.result; counts = c.led_to-counts.result } in (
      omega (arith, c.push_reserved.ensures.len, c.loop-found.invariant.0, length_push c.loop-found.yielded c.in-Some.found),
      c.push_reserved.ensures.capacity ∙ c.loop-found.invariant.1,
      subst (All P) (sym c.push_reserved.ensures.items) (All-push P c.loop-found.visits.items pushed c.loop-found.invariant.2 (record { fits = fits; reached = reached })),
      ap (map f) c.push_reserved.ensures.items
          ∙ (map-append f c.loop-found.visits.items (pushed ∷ [])
          ∙ (ap (λ xs. map f c.loop-found.visits.items ++ (xs ∷ [])) c.into_capacities.ensures
          ∙ (ap (λ xs. xs ++ found.capacities ∷ []) c.loop-found.invariant.3
          ∙ sym (map-append k c.loop-found.yielded (found ∷ []))))),
    )

pub returns-clause-order : goal.returns-clause-order
returns-clause-order g c =
    let k : Found (Option ℕ) → Distribution = λ x. x.capacities in
    let end = YieldsList-end (YieldsList-from_vec {s = c.into_iter-found-iterator.result} c.args.taken.items (search rules) (search rules))
    c.loop-found.yielded c.loop-found.found-iterator c.loop-found.yielded_by c.next.result c.next.new.self c.in-None.is c.next.ensures.steps in
    let all : c.loop-found.yielded ≡ c.args.taken.items = sym (map-id c.loop-found.yielded) ∙ end.0 in
    c.loop-found.invariant.3 ∙ ap (map k) all
