use Rattle.std.proofs.Common.{◌≡◌, ◌++◌, ◌∷◌, [], All, None, length, map, map-id, subst, sym, refl, ap, ◌∙◌, arith, rules}
use Rattle.std.proofs.lemmas.List.{length_push, map-append}
use Rattle.std.proofs.lemmas.Iterator.Consumers.{YieldsList-end, YieldsList-turn}
use Rattle.std.proofs.lemmas.Iterator.Adapters.{YieldsList-from_vec}
use Rattle.std.proofs.lemmas.List.Elements.{All-push}
use Rattle.storage.specs.declared.distribution.Distribution.{Distribution}
use Rattle.evaluations.specs.declared.evaluating.Visit.{Visit}
use Rattle.evaluations.specs.declared.task.Task.{Task}
use Rattle.evaluations.specs.Evaluating.{IsVisitable}
use Rattle.evaluations.specs.inside.Tasks.{IsFresh}
use Rattle.evaluations.proofs.evaluating.fill.Goals as goal

pub loop-visit-preserved : goal.loop-visit-preserved
loop-visit-preserved g c =
    let net = g.F.Firing.net c.args.exploring.now.net.now in
    let P : Task g.row.F.Denot g.row.L.Denot → Type 0 = λ t. IsFresh net (g.F.Firing.net t.net.now) t.wiring.now c.args.exploring.now.limits.states c.args.best t.capacities t.counts.now t.states t.best t.steps in
    let f : Task g.row.F.Denot g.row.L.Denot → Distribution = λ t. t.capacities in
    let k : Visit → Distribution = λ x. x.capacities in
    let visit = c.in-Some.visit in
    let turn = YieldsList-turn (YieldsList-from_vec {s = c.into_iter-visit-iterator.result} c.args.visits.items (search rules) (search rules))
    c.loop-visit.yielded c.loop-visit.visit-iterator c.loop-visit.yielded_by c.next.result c.next.new.self c.in-Some.visit c.in-Some.is c.next.ensures.steps in
    let visitable : IsVisitable (g.F.Firing.net c.args.exploring.now.net.now) c.in-Some.visit.capacities c.in-Some.visit.counts.now =
    subst (λ (v : Visit). IsVisitable net v.capacities v.counts.now) (sym turn.1) (c.requires.fits (length c.loop-visit.yielded) c.in-Some.visit turn.0) in
    let pushed : Task g.row.F.Denot g.row.L.Denot = record { alloc = c.args.exploring.now.alloc; net = c.args.exploring.now.net; wiring = c.args.exploring.now.wiring; capacities = c.in-Some.visit.capacities; counts = c.in-Some.visit.counts; states = c.args.exploring.now.limits.states; best = c.args.best; steps = c.share.result; answer = None } in (
      omega (arith, c.push_reserved.ensures.len, c.loop-visit.invariant.0, length_push c.loop-visit.yielded c.in-Some.visit),
      c.push_reserved.ensures.capacity ∙ c.loop-visit.invariant.1,
      subst (All P) (sym c.push_reserved.ensures.items) (All-push P c.loop-visit.tasks.items pushed c.loop-visit.invariant.2
          (record { net_is = refl; states_are = refl; best_is = refl; start = record { fits = visitable.fits; wired = c.args.exploring.now.wired c.in-Some.visit.capacities.capacities visitable.fits.distribution; reached = visitable.reached }; share = c.share.ensures.share; count = c.share.ensures.count })),
      c.share.ensures.stays ∙ c.loop-visit.invariant.3,
      ap (map f) c.push_reserved.ensures.items
          ∙ (map-append f c.loop-visit.tasks.items (pushed ∷ [])
          ∙ (ap (λ xs. xs ++ visit.capacities ∷ []) c.loop-visit.invariant.4
          ∙ sym (map-append k c.loop-visit.yielded (visit ∷ [])))),
    )

pub returns-clause-order : goal.returns-clause-order
returns-clause-order g c =
    let k : Visit → Distribution = λ x. x.capacities in
    let end = YieldsList-end (YieldsList-from_vec {s = c.into_iter-visit-iterator.result} c.args.visits.items (search rules) (search rules))
    c.loop-visit.yielded c.loop-visit.visit-iterator c.loop-visit.yielded_by c.next.result c.next.new.self c.in-None.is c.next.ensures.steps in
    let all : c.loop-visit.yielded ≡ c.args.visits.items = sym (map-id c.loop-visit.yielded) ∙ end.0 in
    c.loop-visit.invariant.4 ∙ ap (map k) all
