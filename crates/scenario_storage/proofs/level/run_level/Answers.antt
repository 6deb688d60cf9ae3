use Rattle.std.proofs.Common.{◌≡◌, ◌++◌, List, All, length, map, reverse, take, drop, subst, sym, ap, ◌∙◌, rules}
use Rattle.std.specs.Prelude.{slice_index_or}
use Rattle.storage.specs.declared.distribution.Distribution.{Distribution}
use Rattle.fanout.specs.JobRuns.{EachRan}
use Rattle.fanout.proofs.RunJobsEnter.{all-ran}
use Rattle.fanout.proofs.TaskLists.{slice-back, map-same, turned-back, all-reverse}
use Rattle.scenario_storage.specs.declared.task.Task.{Task}
use Rattle.scenario_storage.specs.inside.Levels.{HasRun, IsAnswered, IsFresh}
use Rattle.scenario_storage.proofs.TasksGetDone.{done-from, ready-from}
use Rattle.scenario_storage.proofs.level.run_level.Goals as goal

pub all-requires-after_bounds : goal.all-requires-after_bounds
all-requires-after_bounds g c = λ κs outlive k d below entered.
    let plan = c.args.plan.now in
    let P : Task → Type 0 = λ t. IsFresh plan.file.now plan.gammas.now plan.limits c.args.best t.file.now t.gammas.now t.limits t.blocked.now t.best t.capacities in
    let all : All P c.as_mut_slice.result.now = subst (All P) (sym c.as_mut_slice.ensures.value) c.fill.ensures.fresh in
    let t : Task = slice_index_or c.as_mut_slice.result.now k d in
    ready-from plan.file.now t.file.now plan.gammas.now t.gammas.now plan.limits t.limits t.blocked.now c.args.best t.best t.capacities c.requires.plan (all k d below)

pub drain-requires-clause-done : goal.drain-requires-clause-done
drain-requires-clause-done g c =
    let plan = c.args.plan.now in
    let P : Task → Type 0 = λ t. IsFresh plan.file.now plan.gammas.now plan.limits c.args.best t.file.now t.gammas.now t.limits t.blocked.now t.best t.capacities in
    let Q : Task → Type 0 = λ t. IsAnswered plan.file.now plan.limits c.args.best t.capacities.capacities t.answer in
    let R : Task → Task → Type 0 = λ x y. HasRun x.file.now x.limits x.best x.capacities y.capacities y.answer in
    let old : List Task = c.fill.new.tasks.items in
    let new : List Task = c.all.new.jobs in
    let ran : EachRan R old new = subst (λ (jobs : List Task). EachRan R jobs new) c.as_mut_slice.ensures.value c.all.ensures.ran in
    let done : All Q new =
    all-ran R P Q (λ x y fresh run. done-from plan.file.now x.file.now plan.gammas.now x.gammas.now plan.limits x.limits x.blocked.now c.args.best x.best x.capacities y.capacities y.answer fresh run) old new ran c.fill.ensures.fresh in
    let long : c.fill.new.tasks.len ≡ length old = search rules in
    let back : ◌≡◌ {A = List Task} (take c.fill.new.tasks.len (new ++ drop (length new) old)) new = ap (λ n. take n (new ++ drop (length new) old)) long ∙ slice-back new old ran.many in
    let whole : ◌≡◌ {A = List Task} c.reverse.new.self.items (reverse new) = ◌∙◌ {A = List Task} c.reverse.ensures.items (ap (λ (xs : List Task). reverse xs) back) in
    subst (All Q) (sym whole) (all-reverse Q new done)

pub returns-clause-order : goal.returns-clause-order
returns-clause-order g c =
    let f : Task → Distribution = λ t. t.capacities in
    let R : Task → Task → Type 0 = λ x y. HasRun x.file.now x.limits x.best x.capacities y.capacities y.answer in
    let old : List Task = c.fill.new.tasks.items in
    let new : List Task = c.all.new.jobs in
    let ran : EachRan R old new = subst (λ (jobs : List Task). EachRan R jobs new) c.as_mut_slice.ensures.value c.all.ensures.ran in
    let long : c.fill.new.tasks.len ≡ length old = search rules in
    let back : ◌≡◌ {A = List Task} (take c.fill.new.tasks.len (new ++ drop (length new) old)) new = ap (λ n. take n (new ++ drop (length new) old)) long ∙ slice-back new old ran.many in
    let whole : ◌≡◌ {A = List Task} c.reverse.new.self.items (reverse new) = ◌∙◌ {A = List Task} c.reverse.ensures.items (ap (λ (xs : List Task). reverse xs) back) in
    c.drain.ensures.order ∙ (ap (λ (ts : List Task). reverse (map f ts)) whole ∙ (turned-back f new ∙ (map-same R f (λ x y run. run.same) old new ran ∙ c.fill.ensures.order)))
