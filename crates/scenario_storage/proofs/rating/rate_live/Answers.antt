use Rattle.std.proofs.Common.{List, ℕ, refl, ap, subst}
use Rattle.std.specs.Prelude.{Contains}
use Rattle.sd_base.specs.declared.tables.ScenarioFile.{ScenarioFile}
use Rattle.bounded_scenarios.specs.BoundedFiles.{bounded_file}
use Rattle.bounded_scenarios.proofs.LiveMembers.{live-bounds}
use Rattle.bounded_scenarios.proofs.SpacelessCycles.{spaceless-bounds}
use Rattle.scenario_storage.specs.declared.rated.Witness.{Witness}
use Rattle.scenario_storage.specs.inside.Levels.{Shows}
use Rattle.scenario_storage.specs.inside.Shown.{AreShownLive}
use Rattle.scenario_storage.proofs.CycleEdgesAreShown.{graph-nodes, graph-tokens}
use Rattle.scenario_storage.proofs.ToldNumbersAreListed.{path-within}
use Rattle.scenario_storage.proofs.EvaluationsShowRates.{kept-shows, live-rated}
use Rattle.scenario_storage.proofs.FilesAllowSearch.{can-measure}
use Rattle.scenario_storage.proofs.rating.rate_live.Goals as goal

pub worst-requires-clause-sound : goal.worst-requires-clause-sound
worst-requires-clause-sound c =
    let file = c.args.plan.now.file.now in
    let ds = c.args.capacities.now.capacities in
    let can = can-measure file c.args.plan.now.limits.total c.requires.plan.bounded ds c.requires.fits in
    let g = c.in_ok-graph.ensures.graph in
    c.files_are_sound.ensures (bounded_file file ds) c.in_ok-graph.graph g.timed (graph-tokens file ds can c.in_ok-graph.graph g.timed) (graph-nodes file ds can c.in_ok-graph.graph g.timed) g.few

pub worst-requires-clause-grows : goal.worst-requires-clause-grows
worst-requires-clause-grows c =
    let file = c.args.plan.now.file.now in
    let ds = c.args.capacities.now.capacities in
    let can = can-measure file c.args.plan.now.limits.total c.requires.plan.bounded ds c.requires.fits in
    let g = c.in_ok-graph.ensures.graph in
    c.files_grow.ensures (bounded_file file ds) c.in_ok-graph.graph g.timed (graph-tokens file ds can c.in_ok-graph.graph g.timed)

pub shown_by_cycle-requires-clause-cycle : goal.shown_by_cycle-requires-clause-cycle
shown_by_cycle-requires-clause-cycle c = λ n one.
    let critical = c.in_ok-worst.ensures.critical in
    path-within c.in_ok-graph.graph.edges critical.node critical.node c.in_ok-worst.worst.cycle n critical.closed (subst (λ (ks : List ℕ). Contains ks n) c.as_slice.ensures one)

pub returns : goal.returns
returns c =
    let file = c.args.plan.now.file.now in
    let ds = c.args.capacities.now.capacities in
    let graph = c.in_ok-graph.graph in
    let g = c.in_ok-graph.ensures.graph in
    let worst = c.in_ok-worst.worst in
    let w = c.in_ok-worst.ensures in
    let kept : Witness = record { shared = c.args.bounded.shared; graph = c.in_ok-graph.graph; worst = c.in_ok-worst.worst } in
    let shows : Shows file ds c.in_ok-worst.worst.rate (record { shared = c.args.bounded.shared; graph = c.in_ok-graph.graph; worst = c.in_ok-worst.worst }) = record {
      shared_rows = ap (λ (f : ScenarioFile). f.shared) c.requires.bounded;
      timed = g.timed;
      few = g.few;
      same = refl;
      critical = w.critical;
      apart = w.apart;
      chosen = w.chosen;
      fit = w.fit;
      count = w.count;
      there = w.reached;
      lowest = w.least;
    } in
    live-rated file c.args.plan.now.limits.total c.requires.plan.bounded ds c.requires.fits c.args.best _ live-bounds spaceless-bounds c.requires.live.all.runs graph g.timed worst.cycle (w.shows (bounded_file file ds) g.timed) w.critical
    (subst (λ (ks : List ℕ). AreShownLive file ds graph ks c.in_ok-enlarge.enlarge) c.as_slice.ensures c.in_ok-enlarge.ensures) refl
    (kept-shows file ds worst.rate c.args.best kept c.if_above.result shows c.if_above.ensures)
