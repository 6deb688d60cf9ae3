use Rattle.std.proofs.Common.{◌≡◌, ap, ◌∙◌}
use Rattle.sd_base.specs.declared.tables.ScenarioFile.{ScenarioFile}
use Rattle.bounded_scenarios.specs.BoundedFiles.{bounded_file, bounded_graph}
use Rattle.scenario_storage.proofs.MatricesAreMeasured.{answers-as, gives-as, matrix-answer, scenario-of}
use Rattle.scenario_storage.proofs.FilesAllowSearch.{can-measure}
use Rattle.scenario_storage.proofs.rating.matrix_at.Goals as goal

pub matrix_of-requires : goal.matrix_of-requires
matrix_of-requires c =
    let file = c.args.plan.now.file.now in
    let ds = c.args.capacities.now.capacities in
    let sc = scenario-of file c.args.plan.now.gammas.now c.requires.plan.rounds c.args.scenario c.requires.scenario in
    let shared : c.as_slice.result.now ≡ (bounded_file file ds).shared = c.as_slice.ensures ∙ ap (λ (f : ScenarioFile). f.shared) c.requires.bounded in
    let gives = gives-as (bounded_file file ds).shared c.as_slice.result.now (bounded_graph file.shared ds sc.row.graph) c.graph_at-graph.result.now sc.gamma c.gamma_at-gamma.result.now
    shared (c.graph_at-graph.ensures.bounded file ds sc.row c.requires.bounded sc.at) (c.gamma_at-gamma.ensures sc.gamma sc.its)
    ((can-measure file c.args.plan.now.limits.total c.requires.plan.bounded ds c.requires.fits).scenarios c.args.scenario sc.row sc.gamma sc.at sc.gives) in
    record {
      rules = gives.carries.rules;
      kind = gives.carries.kind;
      timed = gives.carries.timed;
      gamma = gives.carries.gives;
      small = gives.carries.small;
      inputs = gives.inputs;
      shares = gives.carries.shares;
    }

pub returns : goal.returns
returns c =
    let file = c.args.plan.now.file.now in
    let ds = c.args.capacities.now.capacities in
    let sc = scenario-of file c.args.plan.now.gammas.now c.requires.plan.rounds c.args.scenario c.requires.scenario in
    let shared : c.as_slice.result.now ≡ (bounded_file file ds).shared = c.as_slice.ensures ∙ ap (λ (f : ScenarioFile). f.shared) c.requires.bounded in
    let gives = (can-measure file c.args.plan.now.limits.total c.requires.plan.bounded ds c.requires.fits).scenarios c.args.scenario sc.row sc.gamma sc.at sc.gives in
    let a = answers-as (bounded_file file ds).shared c.as_slice.result.now (bounded_graph file.shared ds sc.row.graph) c.graph_at-graph.result.now sc.gamma c.gamma_at-gamma.result.now
    shared (c.graph_at-graph.ensures.bounded file ds sc.row c.requires.bounded sc.at)
    (c.gamma_at-gamma.ensures sc.gamma sc.its) c.matrix_of.result c.matrix_of.ensures.matrix c.matrix_of.ensures.live c.matrix_of.ensures.stopped in
    matrix-answer file c.args.plan.now.gammas.now ds c.args.scenario sc gives.stamps c.matrix_of.result a.0 a.1 a.2
