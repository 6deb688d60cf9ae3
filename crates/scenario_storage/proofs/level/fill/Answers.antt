use Rattle.std.proofs.Common.{◌≡◌, ◌++◌, ◌∷◌, [], All, None, length, map, map-id, subst, sym, refl, ap, ◌∙◌, arith, rules}
use Rattle.std.proofs.lemmas.List.{length_push, map-append}
use Rattle.std.proofs.lemmas.List.Elements.{All-push}
use Rattle.std.proofs.lemmas.Iterator.Consumers.{YieldsList-end, YieldsList-turn}
use Rattle.std.proofs.lemmas.Iterator.Adapters.{YieldsList-from_vec}
use Rattle.storage.specs.declared.distribution.Distribution.{Distribution}
use Rattle.levels.specs.declared.found.Found.{Found}
use Rattle.scenario_storage.specs.declared.task.Task.{Task}
use Rattle.scenario_storage.specs.inside.Levels.{IsFresh, IsWithin}
use Rattle.scenario_storage.proofs.level.fill.Goals as goal

pub loop-found-preserved : goal.loop-found-preserved
loop-found-preserved c =
    let plan = c.args.plan.now in
    let P : Task → Type 0 = λ t. IsFresh plan.file.now plan.gammas.now plan.limits c.args.best t.file.now t.gammas.now t.limits t.blocked.now t.best t.capacities in
    let f : Task → Distribution = λ t. t.capacities in
    let k : Found Unit → Distribution = λ x. x.capacities in
    let found = c.in-Some.found in
    let turn = YieldsList-turn (YieldsList-from_vec {s = c.into_iter-found-iterator.result} c.args.visits.items (search rules) (search rules))
    c.loop-found.yielded c.loop-found.found-iterator c.loop-found.yielded_by c.next.result c.next.new.self c.in-Some.found c.in-Some.is c.next.ensures.steps in
    let fits : IsWithin c.args.plan.now.file.now c.args.plan.now.limits.total c.in-Some.found.capacities.capacities =
    subst (λ (x : Found Unit). IsWithin plan.file.now plan.limits.total x.capacities.capacities) (sym turn.1) (c.requires.fits (length c.loop-found.yielded) c.in-Some.found turn.0) in
    let fits_it : IsWithin c.args.plan.now.file.now c.args.plan.now.limits.total c.into_capacities.result.capacities =
    subst (λ (d : Distribution). IsWithin plan.file.now plan.limits.total d.capacities) (sym c.into_capacities.ensures) fits in
    let pushed : Task = record { alloc = plan.alloc; file = plan.file; gammas = plan.gammas; limits = plan.limits; blocked = c.args.blocked; capacities = c.into_capacities.result; best = c.args.best; answer = None } in (
      omega (arith, c.push_reserved.ensures.len, c.loop-found.invariant.0, length_push c.loop-found.yielded c.in-Some.found),
      c.push_reserved.ensures.capacity ∙ c.loop-found.invariant.1,
      subst (All P) (sym c.push_reserved.ensures.items) (All-push P c.loop-found.tasks.items pushed c.loop-found.invariant.2
          (record { file_is = refl; gammas_are = refl; limits_are = refl; blocked = c.requires.blocked; best_is = refl; fits = fits_it })),
      ap (map f) c.push_reserved.ensures.items
          ∙ (map-append f c.loop-found.tasks.items (pushed ∷ [])
          ∙ (ap (λ xs. map f c.loop-found.tasks.items ++ (xs ∷ [])) c.into_capacities.ensures
          ∙ (ap (λ xs. xs ++ found.capacities ∷ []) c.loop-found.invariant.3
          ∙ sym (map-append k c.loop-found.yielded (found ∷ []))))),
    )

pub returns-clause-order : goal.returns-clause-order
returns-clause-order c =
    let k : Found Unit → Distribution = λ x. x.capacities in
    let end = YieldsList-end (YieldsList-from_vec {s = c.into_iter-found-iterator.result} c.args.visits.items (search rules) (search rules))
    c.loop-found.yielded c.loop-found.found-iterator c.loop-found.yielded_by c.next.result c.next.new.self c.in-None.is c.next.ensures.steps in
    let all : c.loop-found.yielded ≡ c.args.visits.items = sym (map-id c.loop-found.yielded) ∙ end.0 in
    c.loop-found.invariant.3 ∙ ap (map k) all
