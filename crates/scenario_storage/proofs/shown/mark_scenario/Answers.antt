use Rattle.std.proofs.Common.{◌≡◌, ◌++◌, false, true, ℕ, Bool, Option, List, All, length, sym, ap, ◌∙◌, subst, arith, rules}
use Rattle.std.specs.Prelude.{◌↔◌, ◌⊎◌, drop, slice_index_or, take}
use Rattle.std.proofs.lemmas.List.{length-replicate}
use Rattle.sd_base.specs.declared.tables.GraphFile.{GraphFile}
use Rattle.sd_base.specs.declared.tables.ScenarioFile.{ScenarioFile}
use Rattle.sd_base.specs.FileNet.{net_of}
use Rattle.sd_base.specs.Untimed.{IsLive}
use Rattle.fanout.proofs.TaskLists.{slice-back}
use Rattle.token_matrix.specs.Stamps.{first_of}
use Rattle.entry_ways.specs.WayMarks.{AreWayMarks, HasWay}
use Rattle.bounded_scenarios.specs.BoundedFiles.{bounded_file, bounded_graph}
use Rattle.scenario_storage.specs.inside.Shown.{AreSpacesWithin, HasSpace, spaces_from}
use Rattle.scenario_storage.proofs.SharedChannelsAreFew.{channels-few, its-shares, long-as, shared-few, spaces-in_graph}
use Rattle.scenario_storage.proofs.MatricesAreMeasured.{gives-as, moved-back, moved-to}
use Rattle.scenario_storage.proofs.FilesAllowSearch.{can-measure}
use Rattle.scenario_storage.proofs.SpaceMarks.{empty-marks, none-true, space-marks}
use Rattle.scenario_storage.proofs.SpaceNumbers.{spaces-long}
use Rattle.scenario_storage.proofs.shown.mark_scenario.Goals as goal

pub spaces_of-requires : goal.spaces_of-requires
spaces_of-requires c =
    let file = c.args.plan.now.file.now in
    let can = c.requires.plan.bounded in
    let sc = c.requires.ways.scenario in
    let graph : c.graph_at.result.now ≡ sc.row.graph = c.graph_at.ensures.is sc.row sc.at in
    let many : c.len-first.result ≡ length sc.row.graph.channels = c.len-first.ensures ∙ ap (λ (g : GraphFile). length g.channels) graph in
    omega (arith, many, channels-few file c.args.plan.now.limits.total can c.args.scenario sc.row sc.at, shared-few file c.args.plan.now.limits.total can, long-as file c.args.plan.now.limits.total can c.args.capacities.now.capacities c.requires.fits)

pub mark_ways-requires : goal.mark_ways-requires
mark_ways-requires c =
    let file = c.args.plan.now.file.now in
    let ds = c.args.capacities.now.capacities in
    let sc = c.requires.ways.scenario in
    let shared : c.as_slice.result.now ≡ (bounded_file file ds).shared = c.as_slice.ensures ∙ ap (λ (f : ScenarioFile). f.shared) c.requires.bounded in
    let graph = c.graph_at-graph.ensures.bounded file ds sc.row c.requires.bounded sc.at in
    let gamma = c.gamma_at-gamma.ensures sc.gamma sc.its in
    let gives = gives-as (bounded_file file ds).shared c.as_slice.result.now (bounded_graph file.shared ds sc.row.graph) c.graph_at-graph.result.now sc.gamma c.gamma_at-gamma.result.now shared graph gamma
    ((can-measure file c.args.plan.now.limits.total c.requires.plan.bounded ds c.requires.fits).scenarios c.args.scenario sc.row sc.gamma sc.at sc.gives) in
    record {
      rules = gives.carries.rules;
      kind = gives.carries.kind;
      timed = gives.carries.timed;
      gamma = gives.carries.gives;
      small = gives.carries.small;
      within = gives.stamps;
      live = moved-to (bounded_file file ds).shared c.as_slice.result.now (bounded_graph file.shared ds sc.row.graph) c.graph_at-graph.result.now sc.gamma c.gamma_at-gamma.result.now shared graph gamma
          (λ s g v. IsLive (net_of g v false)) c.requires.ways.live;
      shares = gives.carries.shares;
      ways = moved-to (bounded_file file ds).shared c.as_slice.result.now (bounded_graph file.shared ds sc.row.graph) c.graph_at-graph.result.now sc.gamma c.gamma_at-gamma.result.now shared graph gamma
          (λ s g v. All (HasWay (net_of g v false) (first_of s g)) c.args.entries.now) c.requires.ways.ways;
      long = search rules;
    }

pub mark_spaces-requires-clause-long : goal.mark_spaces-requires-clause-long
mark_spaces-requires-clause-long c =
    let same : length c.as_slice-2.result.now ≡ length (spaces_from c.len-first.result c.args.capacities.now.capacities) =
    ap (λ (xs : List (Option ℕ)). length xs) (c.as_slice-2.ensures ∙ c.in_ok-spaces.ensures) in
    omega (
      arith,
      same,
      spaces-long c.len-first.result c.args.capacities.now.capacities,
      c.requires.long,
      long-as c.args.plan.now.file.now c.args.plan.now.limits.total c.requires.plan.bounded c.args.capacities.now.capacities c.requires.fits,
    )

pub mark_spaces-requires-clause-spaces : goal.mark_spaces-requires-clause-spaces
mark_spaces-requires-clause-spaces c =
    let file = c.args.plan.now.file.now in
    let ds = c.args.capacities.now.capacities in
    let sc = c.requires.ways.scenario in
    let marks = c.mark_ways.new.marks in
    let items = c.in_ok-taken.taken.items in
    let ways = c.in_ok-mark_ways.ensures.marked in
    let same : length c.mark_ways.new.marks ≡ length c.in_ok-taken.taken.items = ways.long ∙ ap (λ (xs : List Bool). length xs) c.as_mut_slice.ensures.value in
    let size : c.in_ok-taken.taken.len ≡ length c.in_ok-taken.taken.items = search rules in
    let back : c.as_slice-3.result.now ≡ c.mark_ways.new.marks = c.as_slice-3.ensures.value ∙ (ap (λ (n : ℕ). take n (marks ++ drop (length marks) items)) size ∙ slice-back marks items same) in
    let many : length c.in_ok-taken.taken.items ≡ length (bounded_graph file.shared ds sc.row.graph).channels =
    ap (λ (xs : List Bool). length xs) (c.in_ok-taken.ensures.items_if_clones_equal (λ y clone. clone)) ∙ (length-replicate c.len.result false ∙ (c.len.ensures ∙ ap (λ (g : GraphFile). length g.channels) (c.graph_at-graph.ensures.bounded file ds sc.row c.requires.bounded sc.at))) in
    let first : c.len-first.result ≡ length sc.row.graph.channels = c.len-first.ensures ∙ ap (λ (g : GraphFile). length g.channels) (c.graph_at.ensures.is sc.row sc.at) in
    let spaces : c.as_slice-2.result.now ≡ spaces_from (length sc.row.graph.channels) ds = c.as_slice-2.ensures ∙ (c.in_ok-spaces.ensures ∙ ap (λ (n : ℕ). spaces_from n ds) first) in
    let long : length (bounded_graph file.shared ds sc.row.graph).channels ≡ length c.as_slice-3.result.now = sym many ∙ (sym same ∙ ap (λ (xs : List Bool). length xs) (sym back)) in
    subst (λ (n : ℕ). AreSpacesWithin n c.as_slice-2.result.now) long
    (subst (AreSpacesWithin (length (bounded_graph file.shared ds sc.row.graph).channels)) (sym spaces)
    (spaces-in_graph file ds sc.row.graph (its-shares file c.args.plan.now.limits.total c.requires.plan.bounded c.args.scenario sc.row sc.at)
    (long-as file c.args.plan.now.limits.total c.requires.plan.bounded ds c.requires.fits)))

pub returns : goal.returns
returns c =
    let file = c.args.plan.now.file.now in
    let ds = c.args.capacities.now.capacities in
    let sc = c.requires.ways.scenario in
    let marks = c.mark_ways.new.marks in
    let items = c.in_ok-taken.taken.items in
    let shared : c.as_slice.result.now ≡ (bounded_file file ds).shared = c.as_slice.ensures ∙ ap (λ (f : ScenarioFile). f.shared) c.requires.bounded in
    let graph = c.graph_at-graph.ensures.bounded file ds sc.row c.requires.bounded sc.at in
    let gamma = c.gamma_at-gamma.ensures sc.gamma sc.its in
    let own = c.in_ok-mark_ways.ensures.marked in
    let start : c.as_mut_slice.result.now ≡ c.in_ok-taken.taken.items = c.as_mut_slice.ensures.value in
    let same : length c.mark_ways.new.marks ≡ length c.in_ok-taken.taken.items = own.long ∙ ap (λ (xs : List Bool). length xs) start in
    let size : c.in_ok-taken.taken.len ≡ length c.in_ok-taken.taken.items = search rules in
    let back : c.as_slice-3.result.now ≡ c.mark_ways.new.marks = c.as_slice-3.ensures.value ∙ (ap (λ (n : ℕ). take n (marks ++ drop (length marks) items)) size ∙ slice-back marks items same) in
    let zeros = c.in_ok-taken.ensures.items_if_clones_equal (λ y clone. clone) in
    let many : length c.in_ok-taken.taken.items ≡ length (bounded_graph file.shared ds sc.row.graph).channels =
    ap (λ (xs : List Bool). length xs) zeros ∙ (length-replicate c.len.result false ∙ (c.len.ensures ∙ ap (λ (g : GraphFile). length g.channels) graph)) in
    let first : c.len-first.result ≡ length sc.row.graph.channels = c.len-first.ensures ∙ ap (λ (g : GraphFile). length g.channels) (c.graph_at.ensures.is sc.row sc.at) in
    let spaces : c.as_slice-2.result.now ≡ spaces_from (length sc.row.graph.channels) ds = c.as_slice-2.ensures ∙ (c.in_ok-spaces.ensures ∙ ap (λ (n : ℕ). spaces_from n ds) first) in
    let ways = moved-back (bounded_file file ds).shared c.as_slice.result.now (bounded_graph file.shared ds sc.row.graph) c.graph_at-graph.result.now sc.gamma c.gamma_at-gamma.result.now shared graph gamma
    (λ s g v. AreWayMarks (net_of g v false) (first_of s g) c.args.entries.now c.as_mut_slice.result.now c.mark_ways.new.marks) own in
    let inside : AreSpacesWithin (length c.as_mut_slice.result.now) c.as_slice-2.result.now =
    subst (λ (n : ℕ). AreSpacesWithin n c.as_slice-2.result.now) (sym (ap (λ (xs : List Bool). length xs) start ∙ many))
    (subst (AreSpacesWithin (length (bounded_graph file.shared ds sc.row.graph).channels)) (sym spaces)
    (spaces-in_graph file ds sc.row.graph (its-shares file c.args.plan.now.limits.total c.requires.plan.bounded c.args.scenario sc.row sc.at)
    (long-as file c.args.plan.now.limits.total c.requires.plan.bounded ds c.requires.fits))) in
    space-marks file c.args.plan.now.gammas.now ds c.args.scenario c.args.entries.now sc c.as_mut_slice.result.now c.mark_ways.new.marks ways
    (λ i one. none-true c.len.result i c.as_mut_slice.result.now (start ∙ zeros) one)
    c.as_slice-2.result.now spaces inside c.args.marks.now c.mark_spaces.new.marks c.mark_spaces.ensures.long
    (λ k below. subst (λ (xs : List Bool). (slice_index_or c.mark_spaces.new.marks k false ≡ true) ↔ ((slice_index_or c.args.marks.now k false ≡ true) ⊎ ((i : ℕ) × HasSpace c.as_slice-2.result.now k i × (slice_index_or xs i false ≡ true)))) back (c.mark_spaces.ensures.marked k below))

pub returns-then-is_empty : goal.returns-then-is_empty
returns-then-is_empty c =
    empty-marks c.args.plan.now.file.now c.args.plan.now.gammas.now c.args.capacities.now.capacities c.args.scenario c.args.entries.now c.requires.ways.scenario (search rules) c.args.marks.now
