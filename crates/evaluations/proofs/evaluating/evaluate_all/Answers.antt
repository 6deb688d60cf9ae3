use Rattle.std.proofs.Common.{◌≡◌, ◌++◌, List, All, length, map, reverse, take, drop, subst, sym, ap, ◌∙◌, rules}
use Rattle.std.specs.Prelude.{slice_index_or}
use Rattle.storage.specs.declared.distribution.Distribution.{Distribution}
use Rattle.fanout.specs.JobRuns.{EachRan}
use Rattle.fanout.proofs.RunJobsEnter.{all-ran}
use Rattle.fanout.proofs.TaskLists.{slice-back, map-same, turned-back, all-reverse}
use Rattle.evaluations.specs.declared.task.Task.{Task}
use Rattle.evaluations.specs.inside.Tasks.{HasRun, IsDone, IsFresh}
use Rattle.evaluations.proofs.FreshTasksFinish.{done-from, ready-from}
use Rattle.evaluations.proofs.evaluating.evaluate_all.Goals as goal

pub all-requires-after_bounds : goal.all-requires-after_bounds
all-requires-after_bounds g c = λ κs outlive k d below entered.
    let net = g.F.Firing.net c.args.exploring.now.net.now in
    let P : Task g.row.F.Denot g.row.L.Denot → Type 0 = λ t. IsFresh net (g.F.Firing.net t.net.now) t.wiring.now c.args.exploring.now.limits.states c.args.best t.capacities t.counts.now t.states t.best t.steps in
    let all : All P c.as_mut_slice.result.now = subst (All P) (sym c.as_mut_slice.ensures.value) c.fill.ensures.fresh in
    let t : Task g.row.F.Denot g.row.L.Denot = slice_index_or c.as_mut_slice.result.now k d in
    ready-from net (g.F.Firing.net t.net.now) t.wiring.now c.args.exploring.now.limits.states c.args.best t.capacities t.counts.now t.states t.best t.steps (all k d below) c.requires.some c.requires.few

pub drain-requires-clause-done : goal.drain-requires-clause-done
drain-requires-clause-done g c =
    let net = g.F.Firing.net c.args.exploring.now.net.now in
    let states = c.args.exploring.now.limits.states in
    let P : Task g.row.F.Denot g.row.L.Denot → Type 0 = λ t. IsFresh net (g.F.Firing.net t.net.now) t.wiring.now states c.args.best t.capacities t.counts.now t.states t.best t.steps in
    let Q : Task g.row.F.Denot g.row.L.Denot → Type 0 = λ t. IsDone net states c.args.best t.capacities t.steps t.answer in
    let R : Task g.row.F.Denot g.row.L.Denot → Task g.row.F.Denot g.row.L.Denot → Type 0 = λ x y. HasRun (g.F.Firing.net x.net.now) x.capacities x.states x.best x.steps y.capacities y.steps y.answer in
    let old = c.fill.new.tasks.items in
    let new = c.all.new.jobs in
    let ran : EachRan R old new = subst (λ jobs. EachRan R jobs new) c.as_mut_slice.ensures.value c.all.ensures.ran in
    let done : All Q new = all-ran R P Q (λ x y fresh run. done-from net (g.F.Firing.net x.net.now) x.wiring.now x.counts.now states x.states c.args.best x.best x.capacities x.steps y.capacities y.steps y.answer fresh run) old new ran c.fill.ensures.fresh in
    let long : c.fill.new.tasks.len ≡ length old = search rules in
    let back : take c.fill.new.tasks.len (new ++ drop (length new) old) ≡ new = ap (λ n. take n (new ++ drop (length new) old)) long ∙ slice-back new old ran.many in
    subst (All Q) (sym (c.reverse.ensures.items ∙ ap reverse back)) (all-reverse Q new done)

pub returns-clause-order : goal.returns-clause-order
returns-clause-order g c =
    let f : Task g.row.F.Denot g.row.L.Denot → Distribution = λ t. t.capacities in
    let R : Task g.row.F.Denot g.row.L.Denot → Task g.row.F.Denot g.row.L.Denot → Type 0 = λ x y. HasRun (g.F.Firing.net x.net.now) x.capacities x.states x.best x.steps y.capacities y.steps y.answer in
    let old = c.fill.new.tasks.items in
    let new = c.all.new.jobs in
    let ran : EachRan R old new = subst (λ jobs. EachRan R jobs new) c.as_mut_slice.ensures.value c.all.ensures.ran in
    let long : c.fill.new.tasks.len ≡ length old = search rules in
    let back : take c.fill.new.tasks.len (new ++ drop (length new) old) ≡ new = ap (λ n. take n (new ++ drop (length new) old)) long ∙ slice-back new old ran.many in
    c.drain.ensures.order ∙ (ap (λ ts. reverse (map f ts)) (c.reverse.ensures.items ∙ ap reverse back) ∙ (turned-back f new ∙ (map-same R f (λ x y run. run.same) old new ran ∙ c.fill.ensures.order)))
