use Rattle.std.proofs.Common.{◌≡◌, false, ℕ, Option, List, length, refl, sym, ap, ◌∙◌, subst, arith}
use Rattle.std.proofs.lemmas.List.{length-map}
use Rattle.std.proofs.lemmas.Option.{slice_get_within}
use Rattle.sd_base.specs.declared.tables.GraphFile.{GraphFile}
use Rattle.sd_base.specs.declared.tables.ScenarioFile.{ScenarioFile}
use Rattle.sd_base.specs.FileNet.{net_of}
use Rattle.sd_base.specs.Net.{Net}
use Rattle.sd_base.proofs.FileNets.{widened}
use Rattle.token_matrix.specs.EntryWays.{CarriesStamps}
use Rattle.bounded_scenarios.specs.BoundedFiles.{bounded_file, bounded_graph, bounded_scenario}
use Rattle.bounded_scenarios.specs.StorageRates.{bounded_net}
use Rattle.scenario_storage.specs.inside.Shown.{AreSpacesWithin, spaces_from}
use Rattle.scenario_storage.proofs.SharedChannelsAreFew.{channels-few, its-shares, long-as, shared-few, spaces-in_net}
use Rattle.scenario_storage.proofs.MatricesAreMeasured.{moved-to}
use Rattle.scenario_storage.proofs.EvaluationsShowRates.{shown-as}
use Rattle.scenario_storage.proofs.FilesAllowSearch.{can-measure}
use Rattle.scenario_storage.proofs.SpaceNumbers.{spaces-long}
use Rattle.scenario_storage.proofs.shown.shown_by_counts.Goals as goal

pub graph_at-graph-requires : goal.graph_at-graph-requires
graph_at-graph-requires c = slice_get_within c.args.plan.now.file.now.scenarios c.args.scenario c.requires.blocked.is.scenario.row c.requires.blocked.is.scenario.at

pub gamma_at-gamma-requires : goal.gamma_at-gamma-requires
gamma_at-gamma-requires c = slice_get_within c.args.plan.now.gammas.now c.args.scenario c.requires.blocked.is.scenario.gamma c.requires.blocked.is.scenario.its

pub overflow_cast-len : goal.overflow_cast-len
overflow_cast-len c =
    let sc = c.requires.blocked.is.scenario in
    let many : c.len.result ≡ length sc.row.graph.channels = c.len.ensures ∙ ap (λ (g : GraphFile). length g.channels) (c.graph_at-graph.ensures.is sc.row sc.at) in
    omega (arith, many, channels-few c.args.plan.now.file.now c.args.plan.now.limits.total c.requires.plan.bounded c.args.scenario sc.row sc.at)

pub spaces_of-requires : goal.spaces_of-requires
spaces_of-requires c =
    let file = c.args.plan.now.file.now in
    let can = c.requires.plan.bounded in
    let sc = c.requires.blocked.is.scenario in
    let many : c.len.result ≡ length sc.row.graph.channels = c.len.ensures ∙ ap (λ (g : GraphFile). length g.channels) (c.graph_at-graph.ensures.is sc.row sc.at) in
    omega (arith, many, channels-few file c.args.plan.now.limits.total can c.args.scenario sc.row sc.at, shared-few file c.args.plan.now.limits.total can, long-as file c.args.plan.now.limits.total can c.args.capacities.now.capacities c.requires.fits)

pub new-requires : goal.new-requires
new-requires c =
    let file = c.args.plan.now.file.now in
    let ds = c.args.capacities.now.capacities in
    let sc = c.requires.blocked.is.scenario in
    let kept = c.requires.plan.bounded.rules.scenarios c.args.scenario sc.row sc.at in
    let small = ((can-measure file c.args.plan.now.limits.total c.requires.plan.bounded ds c.requires.fits).scenarios c.args.scenario sc.row sc.gamma sc.at sc.gives).carries.small in
    let its = moved-to file.shared file.shared sc.row.graph c.graph_at-graph.result.now sc.gamma c.gamma_at-gamma.result.now refl (c.graph_at-graph.ensures.is sc.row sc.at) (c.gamma_at-gamma.ensures sc.gamma sc.its)
    CarriesStamps (record { rules = widened sc.row.graph kept.rules; kind = kept.kind; timed = kept.timed; gives = sc.gives; small = small; shares = kept.shares }) in
    record { rules = its.rules; kind = its.kind; timed = its.timed; gamma = its.gives; small = its.small }

pub new-requires-2 : goal.new-requires-2
new-requires-2 c =
    let file = c.args.plan.now.file.now in
    let ds = c.args.capacities.now.capacities in
    let sc = c.requires.blocked.is.scenario in
    let its = moved-to (bounded_file file ds).shared (bounded_file file ds).shared (bounded_graph file.shared ds sc.row.graph) c.graph_at.result.now sc.gamma c.gamma_at-gamma.result.now refl (c.graph_at.ensures.bounded file ds sc.row c.requires.bounded sc.at) (c.gamma_at-gamma.ensures sc.gamma sc.its)
    CarriesStamps ((can-measure file c.args.plan.now.limits.total c.requires.plan.bounded ds c.requires.fits).scenarios c.args.scenario sc.row sc.gamma sc.at sc.gives).carries in
    record { rules = its.rules; kind = its.kind; timed = its.timed; gamma = its.gives; small = its.small }

pub graph_at-requires : goal.graph_at-requires
graph_at-requires c =
    let file = c.args.plan.now.file.now in
    let ds = c.args.capacities.now.capacities in
    let sc = c.requires.blocked.is.scenario in
    let low = slice_get_within file.scenarios c.args.scenario sc.row sc.at in
    let many : length c.args.bounded.now.scenarios ≡ length file.scenarios =
    ap (λ (f : ScenarioFile). length f.scenarios) c.requires.bounded ∙ length-map file.scenarios (bounded_scenario file.shared ds) in
    omega (arith, low, many)

pub held_up-requires-clause-few : goal.held_up-requires-clause-few
held_up-requires-clause-few c =
    let same : length c.as_slice.result.now ≡ length (spaces_from c.len.result c.args.capacities.now.capacities) =
    ap (λ (xs : List (Option ℕ)). length xs) (c.as_slice.ensures ∙ c.in_ok-spaces.ensures) in
    omega (
      arith,
      same,
      spaces-long c.len.result c.args.capacities.now.capacities,
      shared-few c.args.plan.now.file.now c.args.plan.now.limits.total c.requires.plan.bounded,
      long-as c.args.plan.now.file.now c.args.plan.now.limits.total c.requires.plan.bounded c.args.capacities.now.capacities c.requires.fits,
    )

pub held_up-requires-clause-spaces : goal.held_up-requires-clause-spaces
held_up-requires-clause-spaces c =
    let file = c.args.plan.now.file.now in
    let ds = c.args.capacities.now.capacities in
    let sc = c.requires.blocked.is.scenario in
    let many : c.len.result ≡ length sc.row.graph.channels = c.len.ensures ∙ ap (λ (g : GraphFile). length g.channels) (c.graph_at-graph.ensures.is sc.row sc.at) in
    let spaces : c.as_slice.result.now ≡ spaces_from (length sc.row.graph.channels) ds = c.as_slice.ensures ∙ (c.in_ok-spaces.ensures ∙ ap (λ (n : ℕ). spaces_from n ds) many) in
    let bounded = c.in_ok-bounded_net.ensures
    ∙ (ap (λ (g : GraphFile). net_of g c.gamma_at-gamma.result.now false) (c.graph_at.ensures.bounded file ds sc.row c.requires.bounded sc.at)
    ∙ ap (λ (v : List ℕ). net_of (bounded_graph file.shared ds sc.row.graph) v false) (c.gamma_at-gamma.ensures sc.gamma sc.its)) in
    subst (λ (n : Net). AreSpacesWithin (length n.channels) c.as_slice.result.now) (sym bounded)
    (subst (AreSpacesWithin (length (bounded_net file.shared ds sc.row.graph sc.gamma).channels)) (sym spaces)
    (spaces-in_net file ds sc.row.graph (its-shares file c.args.plan.now.limits.total c.requires.plan.bounded c.args.scenario sc.row sc.at)
    (long-as file c.args.plan.now.limits.total c.requires.plan.bounded ds c.requires.fits) sc.gamma))

pub returns : goal.returns
returns c =
    let file = c.args.plan.now.file.now in
    let ds = c.args.capacities.now.capacities in
    let sc = c.requires.blocked.is.scenario in
    let many : c.len.result ≡ length sc.row.graph.channels = c.len.ensures ∙ ap (λ (g : GraphFile). length g.channels) (c.graph_at-graph.ensures.is sc.row sc.at) in
    let spaces : c.as_slice.result.now ≡ spaces_from (length sc.row.graph.channels) ds = c.as_slice.ensures ∙ (c.in_ok-spaces.ensures ∙ ap (λ (n : ℕ). spaces_from n ds) many) in
    let bounded = c.in_ok-bounded_net.ensures
    ∙ (ap (λ (g : GraphFile). net_of g c.gamma_at-gamma.result.now false) (c.graph_at.ensures.bounded file ds sc.row c.requires.bounded sc.at)
    ∙ ap (λ (v : List ℕ). net_of (bounded_graph file.shared ds sc.row.graph) v false) (c.gamma_at-gamma.ensures sc.gamma sc.its)) in
    let net = c.in_ok-net.ensures
    ∙ (ap (λ (g : GraphFile). net_of g c.gamma_at-gamma.result.now false) (c.graph_at-graph.ensures.is sc.row sc.at)
    ∙ ap (λ (v : List ℕ). net_of sc.row.graph v false) (c.gamma_at-gamma.ensures sc.gamma sc.its)) in
    shown-as file c.args.plan.now.gammas.now ds c.args.scenario c.args.counts.now c.requires.blocked (its-shares file c.args.plan.now.limits.total c.requires.plan.bounded c.args.scenario sc.row sc.at)
    (long-as file c.args.plan.now.limits.total c.requires.plan.bounded ds c.requires.fits) _ _ c.as_slice.result.now net bounded spaces c.know_laws.ensures c.held_up.result c.held_up.ensures
